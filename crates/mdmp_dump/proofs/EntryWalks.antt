-- What a walk keeps where it is opened, and where bytes are read beside it.
use Rattle.std.proofs.Common.{◌≡◌, ◌∙◌, ◌≤◌, ℕ, None, Result, false, true, arith, ap, refl, subst, sym}
use Rattle.mdmp_source.specs.Source.{FetchesAtMost, SourceState}
use Rattle.mdmp_source.specs.declared.fault.SourceFault.{SourceFault}
use Rattle.mdmp_lister.specs.declared.choice.Choice.{Choice}
use Rattle.mdmp_lister.specs.declared.limits.Limits.{Limits}
use Rattle.mdmp_lister.specs.declared.meter.Amount.{Amount}
use Rattle.mdmp_lister.specs.declared.meter.MeterCounts.{MeterCounts}
use Rattle.mdmp_lister.specs.Lister.{ListerState, ReadsAside, room_held}
use Rattle.mdmp_lister.specs.Format.Bounds.{held_bound}
use Rattle.mdmp_lister.specs.Memory.{is_within}
use Rattle.mdmp_lister.specs.Meter.{SpendsAside}
use Rattle.mdmp_lister.specs.Walker.{IsNewWalker, WalkerState, is_failed}
use Rattle.mdmp_dump.specs.declared.entry_walk.EntryPlace.{EntryPlace}
use Rattle.mdmp_dump.specs.EntryWalk.{IsOpenedWalk, numbered}
use Rattle.mdmp_dump.specs.Walking.{IsKept, IsStanding, ended_with, records_to_give, state_of}
use Rattle.mdmp_dump.proofs.EntryPlaces.{chosen_all, few_chosen, length-numbered}

-- ---- a walk that was opened

pub opened : (source : SourceState) (choice : Choice) (limits : Limits) (new : WalkerState) → IsNewWalker source choice limits new → limits.name ≡ 0 → IsOpenedWalk source limits.window choice (state_of new)
opened source choice limits new is none =
    let l = is.list in
    let mark = ap (λ (c : MeterCounts). c.asked) is.mark in
    let names = ap (λ (c : MeterCounts). c.names) is.mark in
    record {
      fetches = record { count = _; fetches = is.fetches };
      choice_is = l.asked.choice_is;
      few = omega (arith, few_chosen new.list.choice (numbered 0 new.list.entries), length-numbered 0 new.list.entries, l.read.count);
      held = omega (arith, l.asked.window_room, l.asked.limit_is, none, l.read.count, is.range_room);
      start = ap (λ (a : Amount). a.bytes) l.counts.start;
      allowed = omega (arith, mark, names, is.asked, is.unbegun);
      aside = ap (λ (a : Amount). a.bytes) l.counts.aside;
      names = l.counts.names;
      failed = ap ended_with l.given.stop;
      header_is = l.read.header_is;
      chosen_are = λ F known. rw l.asked.choice_is (chosen_all F choice new.list.entries (l.read.directory F known));
    }

-- its lists are within the limit of memory
pub walker_within : (source : SourceState) (choice : Choice) (limits : Limits) (new : WalkerState) → IsNewWalker source choice limits new
    → is_within limits.memory (held_bound limits.window limits.name new.list.header.number_of_streams 0) ≡ true
walker_within source choice limits new is =
    let l = is.list in
    let same : room_held new.list ≡ held_bound limits.window limits.name new.list.header.number_of_streams 0 = omega (arith, l.asked.window_room, l.asked.limit_is, l.asked.entry_room, is.range_room) in
    subst (λ (n : ℕ). is_within limits.memory n ≡ true) same l.memory

-- whose budget was lifted
module _ (source : SourceState) (choice : Choice) (limits : Limits) (new lifted : WalkerState) (is : IsNewWalker source choice limits new) (none : limits.name ≡ 0)
    (lifts : is_failed new.list.stop ≡ false → lifted ≡ record new { list = record new.list { counts = record new.list.counts { budget = None; asked = new.list.counts.fetched } } })
    (fewer : new.list.counts.fetched ≤ new.list.counts.asked) where
  abbrev lifted_state : WalkerState
  lifted_state = record new { list = record new.list { counts = record new.list.counts { budget = None; asked = new.list.counts.fetched } } }

  lifted_is : lifted ≡ lifted_state
  lifted_is = lifts (ap is_failed is.list.given.stop)

  pub lifted_opened : IsOpenedWalk source limits.window choice (state_of lifted)
  lifted_opened = subst (λ (w : WalkerState). IsOpenedWalk source limits.window choice (state_of w)) (sym lifted_is) (opened source choice limits new is none)

  pub lifted_fetched : (state_of lifted).fetched ≡ new.list.counts.fetched
  lifted_fetched = ap (λ (w : WalkerState). w.list.counts.fetched) lifted_is

  pub lifted_header : new.list.header.number_of_streams ≡ (state_of lifted).header.number_of_streams
  lifted_header = ap (λ (w : WalkerState). w.list.header.number_of_streams) (sym lifted_is)

  -- no record of an entry is left
  unbegun : records_to_give new.list ≡ 0
  unbegun = let passed = is.list.given.passed in let stop = is.list.given.stop in rw (stop, passed) refl

  lifted_kept : IsKept lifted_state
  lifted_kept =
      let mark = ap (λ (c : MeterCounts). c.asked) is.mark in
      let names = ap (λ (c : MeterCounts). c.names) is.mark in
      record {
        limit = is.list.asked.limit_is ∙ none;
        budget = refl;
        unbudgeted = λ f stopped. absurd (let never = is.list.given.stop in cc (never, stopped));
        within = omega (arith, names);
        spent = λ few. omega (arith, mark, fewer);
        of_file = λ F known some. absurd (omega (arith, some, unbegun));
        unsought = λ some. absurd (omega (arith, some, unbegun));
      }

  pub lifted_stands : IsStanding lifted (record { number = 0; stream = 0 })
  lifted_stands = subst (λ (w : WalkerState). IsStanding w (record { number = 0; stream = 0 })) (sym lifted_is) (record {
    kept = lifted_kept;
    stands = record { number = omega arith; behind = refl };
  })

-- ---- bytes beside it

-- what is counted aside is nothing to it
module _ (old : WalkerState) (source : SourceState) (counts : MeterCounts) {calls : ℕ} (n : ℕ) (fetches : FetchesAtMost n old.list.source source) (spends : SpendsAside calls n old.list.counts counts) (place : EntryPlace) (is : IsStanding old place) where
  abbrev aside_state : WalkerState
  aside_state = record old { list = record old.list { source = source; counts = counts } }

  kept_aside : IsKept aside_state
  kept_aside = record {
    limit = is.kept.limit;
    budget = spends.same_budget ∙ is.kept.budget;
    unbudgeted = is.kept.unbudgeted;
    within = rw spends.same_names is.kept.within;
    spent = rw (spends.same_names, spends.same_asked, fetches.same_size) is.kept.spent;
    of_file = λ F known. is.kept.of_file F (sym fetches.same_content ∙ known);
    unsought = is.kept.unsought;
  }

  stands_aside : IsStanding aside_state place
  stands_aside = record { kept = kept_aside; stands = record { number = is.stands.number; behind = is.stands.behind } }

pub stands_beside : {T : Type 0} {calls : ℕ} (old new : WalkerState) (n : ℕ) (result : Result T SourceFault) (place : EntryPlace) → ReadsAside calls n result old.list new.list → new ≡ record old { list = new.list }
    → IsStanding old place → IsStanding new place
stands_beside old new n result place reads same is =
    let all : new ≡ aside_state old new.list.source new.list.counts n reads.fetches reads.aside place is = same ∙ ap (λ (l : ListerState). record old { list = l }) reads.same in
    subst (λ (w : WalkerState). IsStanding w place) (sym all) (stands_aside old new.list.source new.list.counts n reads.fetches reads.aside place is)
