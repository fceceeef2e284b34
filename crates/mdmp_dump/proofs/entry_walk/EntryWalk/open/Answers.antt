use Rattle.std.proofs.Common.{◌≡◌, ◌∙◌, ◌+◌, ◌*◌, ℕ, Err, Option, None, true, ap, arith, subst, sym}
use Rattle.mdmp_lister.specs.Memory.{is_within}
use Rattle.mdmp_lister.specs.Format.Listing.{entry_count}
use Rattle.mdmp_lister.specs.Meter.{KeepsTo}
use Rattle.mdmp_lister.proofs.Refusals.{open_refusal}
use Rattle.mdmp_dump.specs.EntryWalk.{IsOpenedWalk}
use Rattle.mdmp_dump.specs.FileView.{IsShortAt}
use Rattle.mdmp_dump.specs.Opening.{FetchesWithin, TellsOpeningEnd, copy_fault, copy_held, opening_bound}
use Rattle.mdmp_dump.specs.Reading.{Fetches}
use Rattle.mdmp_dump.specs.Refusal.{refusal_of}
use Rattle.mdmp_dump.specs.Walking.{state_of}
use Rattle.mdmp_dump.proofs.EntryWalks.{lifted_fetched, lifted_header, lifted_opened, lifted_stands, walker_within}
use Rattle.mdmp_dump.proofs.Opened.{copied_bare, copied_good, copied_none, copied_open, copied_refusal, copied_unread, copy_within, directory-settles, kept_fetches, limited, opening-fetches, opening_ends, opening_short, tells_none, tells_of, wants_bare}
use Rattle.mdmp_dump.proofs.OpenedViews.{head_spent}
use Rattle.mdmp_dump.proofs.Refusals.{bare_refusal}
use Rattle.mdmp_dump.proofs.entry_walk.EntryWalk.open.Goals as goal

pub invariant_of-result : goal.invariant_of-result
invariant_of-result g c =
    lifted_stands c.args.source c.args.choice c.nameless.result c.in-Ok.walker c.lift_budget.new.self c.in-Ok.ensures.new c.nameless.ensures.name c.lift_budget.ensures.lifts c.lift_budget.ensures.within

pub returns-in-Ok-clause-opened : goal.returns-in-Ok-clause-opened
returns-in-Ok-clause-opened g c =
    subst (λ (window : ℕ). IsOpenedWalk c.args.source window c.args.choice (state_of c.lift_budget.new.self)) c.nameless.ensures.window
    (lifted_opened c.args.source c.args.choice c.nameless.result c.in-Ok.walker c.lift_budget.new.self c.in-Ok.ensures.new c.nameless.ensures.name c.lift_budget.ensures.lifts c.lift_budget.ensures.within)

pub returns-in-Ok-clause-kept : goal.returns-in-Ok-clause-kept
returns-in-Ok-clause-kept g c =
    let fetched = lifted_fetched c.args.source c.args.choice c.nameless.result c.in-Ok.walker c.lift_budget.new.self c.in-Ok.ensures.new c.nameless.ensures.name c.lift_budget.ensures.lifts c.lift_budget.ensures.within in
    let budget = c.in-Ok.ensures.new.list.counts.budget_is ∙ c.nameless.ensures.budget in
    subst (KeepsTo c.args.limits.budget) (sym fetched) (subst (λ (b : Option ℕ). KeepsTo b c.in-Ok.walker.list.counts.fetched) budget (rw c.counts-counts.ensures.value at c.counts-counts.ensures.held.kept.kept))

pub returns-in-Err-clause-of_file : goal.returns-in-Err-clause-of_file
returns-in-Err-clause-of_file g c = λ file known names.
    rw c.copy_refusal.ensures (directory-settles file c.args.choice names c.in-Err.refused.fault (c.in-Err.ensures.opens file known))

pub returns-in-Ok-clause-memory : goal.returns-in-Ok-clause-memory
returns-in-Ok-clause-memory g c =
    let new = c.in-Ok.ensures.new in
    let same = lifted_header c.args.source c.args.choice c.nameless.result c.in-Ok.walker c.lift_budget.new.self new c.nameless.ensures.name c.lift_budget.ensures.lifts c.lift_budget.ensures.within in
    subst (λ (n : ℕ). is_within c.args.limits.memory (copy_held c.args.limits.window n) ≡ true) same (copy_within c.args.limits c.nameless.result c.nameless.ensures c.in-Ok.walker.list.header.number_of_streams (walker_within c.args.source c.args.choice c.nameless.result c.in-Ok.walker new))

pub returns-in-Err-clause-short : goal.returns-in-Err-clause-short
returns-in-Err-clause-short g c = λ few. c.copy_refusal.ensures ∙ ap (λ fault. refusal_of (copy_fault fault)) (c.in-Err.ensures.short few)

pub returns-in-Err-clause-refused : goal.returns-in-Err-clause-refused
returns-in-Err-clause-refused g c =
    let fault = c.in-Err.refused.fault in
    let left = c.in-Err.refused.source in
    let of = c.in-Err.ensures in
    let told = of.refused.fetches in
    let never = λ (none : c.args.limits.budget ≡ None). copied_none fault (tells_none c.nameless.result c.args.source fault left (c.nameless.ensures.budget ∙ none) told.kept) in
    let cause : Fetches {T = Unit {0}} (Err (refusal_of (copy_fault fault))) c.args.source left =
    opening-fetches _ (copy_fault fault) c.args.source left of.refused.handed_back.fetches (copied_unread fault c.args.source left told.cause)
    (λ file good. copied_good fault (told.good file good)) (copied_open c.args.source.size fault (open_refusal c.args.source.size fault of.refused.refusal)) in
    rw c.copy_refusal.ensures (record {
      refusal = bare_refusal c.args.limits.budget c.args.source.size (copy_fault fault) never (copied_bare c.args.source.size fault of.refused.refusal);
      good = cause.good;
      tells = tells_of (refusal_of (copy_fault fault)) c.args.source left cause (λ is file known. wants_bare file (copy_fault fault) (copied_refusal file fault (of.opens file known)) is);
      limited = limited c.args.limits c.nameless.result c.nameless.ensures _ _ c.args.choice c.args.source fault left (omega (arith, c.size-size.ensures.value, c.size-size.type_inv)) of.refused.over of.opens of.within of.lacks;
      over = λ file known.
          let short = opening_short c.nameless.result c.args.source fault left told.kept file c.args.choice known in
          let place = opening_ends c.nameless.result c.args.source fault left told.next file c.args.choice known in
          record {
            short = subst (λ (budget : Option ℕ). IsShortAt budget (opening_bound file c.args.choice + 16 * entry_count file) (refusal_of (copy_fault fault))) c.nameless.ensures.budget short;
            place =
                subst (λ (window : ℕ). TellsOpeningEnd c.args.limits.budget window file c.args.choice (refusal_of (copy_fault fault))) c.nameless.ensures.window
                (subst (λ (budget : Option ℕ). TellsOpeningEnd budget c.nameless.result.window file c.args.choice (refusal_of (copy_fault fault))) c.nameless.ensures.budget place);
          };
    })

pub returns-in-Err-clause-handed_back : goal.returns-in-Err-clause-handed_back
returns-in-Err-clause-handed_back g c =
    let fault = c.in-Err.refused.fault in
    let left = c.in-Err.refused.source in
    let of = c.in-Err.ensures.refused in
    rw c.copy_refusal.ensures (record {
      cause =
          opening-fetches {T = Unit {0}} _ (copy_fault fault) c.args.source left of.handed_back.fetches (copied_unread fault c.args.source left of.fetches.cause)
          (λ file good. copied_good fault (of.fetches.good file good)) (copied_open c.args.source.size fault (open_refusal c.args.source.size fault of.refusal));
      spends = head_spent c.args.source left c.args.choice fault of.handed_back;
      within = subst (λ (budget : Option ℕ). FetchesWithin budget c.args.source left) c.nameless.ensures.budget (kept_fetches c.nameless.result c.args.source fault left of.fetches.kept);
    })
