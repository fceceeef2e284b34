use Rattle.std.proofs.Common.{◌≡◌, ◌∙◌, ℕ, List, [], ◌∷◌, length, get_or, ap, sym, subst, arith, rules, Ok, Err, Some, true, false}
use Rattle.mdmp_lister.specs.Format.Listing.{Numbered}
use Rattle.mdmp_wire.specs.declared.entry.Entry.{Entry}
use Rattle.mdmp_dump.specs.declared.pass.Pass.{Pass}
use Rattle.mdmp_dump.specs.EntryWalk.{Begins, WalkState, chosen_entry, no_entry, raw_part}
use Rattle.mdmp_dump.specs.FoundRecord.{IsPartIn, no_part}
use Rattle.mdmp_dump.specs.Shape.{IsChangeAt}
use Rattle.mdmp_dump.proofs.FaultsTold.{begin_refused, going_on, same_count, tells_change, tells_ok}
use Rattle.mdmp_dump.proofs.FileViews.{raw_parts}
use Rattle.mdmp_dump.proofs.Viewed.{raw_inside}
use Rattle.mdmp_dump.proofs.pass.begin_pass.Goals as goal
use Rattle.mdmp_dump.proofs.pass.begin_pass.Goals.{then-now-count-via-then-now-count, then-now-count-via-else-now-count+then-not-lies_inside}

pub returns-in-Err-clause-tells : goal.returns-in-Err-clause-tells
returns-in-Err-clause-tells g c =
    let begins = subst (λ (v : WalkState). Begins v c.args.stream (Err c.in-Err.fault) c.begin.new.self) c.entry-entry.ensures.same c.in-Err.ensures in
    rw c.told_reading.ensures.told (begin_refused Pass c.args.walk.now c.begin.new.self c.args.stream c.args.count c.requires.counted c.in-Err.fault c.entry-entry.result.location.rva begins)

pub returns-then-now-count-clause-tells : goal.returns-then-now-count-clause-tells
returns-then-now-count-clause-tells g c =
    let w = c.args.walk.now in
    let begins = subst (λ (v : WalkState). Begins v c.args.stream (Ok c.in-Ok.now) c.begin.new.self) c.entry-entry.ensures.same c.in-Ok.ensures in
    rw c.changed.ensures
    (tells_change Pass w c.begin.new.self c.entry-entry.result.location.rva
    (λ F known.
    let same = same_count w c.begin.new.self c.args.stream c.args.count c.requires.counted c.in-Ok.now begins F known in
    elim c.then-now-count.branch [
      | then-now-count-via-then-now-count v ↦ v.if-now-count.true same
      | then-now-count-via-else-now-count+then-not-lies_inside v ↦
          let inside = raw_inside g.row.A.Denot F (chosen_entry w c.args.stream) c.args.count (c.requires.counted F known) in
          let file : c.begin.new.self.source.store.content ≡ Some F = begins.pays.same.fetches.fetches.same_content ∙ known in
          let size : v.size.result ≡ length F = rw file at v.size.ensures.content in
          let part : c.raw_part-raw.result ≡ raw_part (chosen_entry w c.args.stream).entry = c.raw_part-raw.ensures ∙ ap raw_part c.entry-entry.ensures.value in
          let lies : IsPartIn v.size.result c.raw_part-raw.result.size c.raw_part-raw.result.at = rw (size, part) inside in
          let yes : v.lies_inside.result ≡ true = v.lies_inside.ensures.1 lies in
          let no : v.lies_inside.result ≡ false = v.if-not-lies_inside.true in
          cc
    ])
    begins.failed
    (going_on w c.begin.new.self c.args.stream c.args.count c.requires.counted c.in-Ok.now begins))

pub returns-clause-begins : goal.returns-clause-begins
returns-clause-begins g c =
    let w = c.args.walk.now in
    let begins = subst (λ (v : WalkState). Begins v c.args.stream (Ok c.in-Ok.now) c.begin.new.self) c.entry-entry.ensures.same c.in-Ok.ensures in
    let chosen = begins.pays.same.chosen in
    let here : chosen_entry c.begin.new.self c.args.stream ≡ chosen_entry w c.args.stream = ap (λ (xs : List Numbered). get_or xs c.args.stream no_entry) chosen in
    let part : c.raw_part-raw.result ≡ raw_part (chosen_entry w c.args.stream).entry = c.raw_part-raw.ensures ∙ ap raw_part c.entry-entry.ensures.value in
    let rva : c.entry-entry.result.location.rva ≡ (chosen_entry w c.args.stream).entry.location.rva = ap (λ (e : Entry). e.location.rva) c.entry-entry.ensures.value in
    let count : c.in-Ok.now ≡ c.args.count = omega (arith, c.if-now-count.false) in
    let size : c.size.result ≡ c.begin.new.self.source.size = c.size.ensures.value in
    let inside : IsPartIn c.begin.new.self.source.size c.raw_part-raw.result.size c.raw_part-raw.result.at = rw (← size) (c.lies_inside.ensures.0 (search rules)) in (
      record {
        within = omega (arith, c.requires.within, ap (λ (xs : List Numbered). length xs) chosen);
        few = omega (arith, c.from.ensures, count, begins.begun.2);
        met = omega arith;
        parts = raw_parts c.raw_part-raw.result c.begin.new.self.source.size inside;
        going = λ some. (begins.begun.0 ∙ sym here, begins.begun.1 ∙ count ∙ sym c.from.ensures);
      },
      λ i. record {
        stream = c.args.stream;
        rva = rva i;
        given = 0;
        left = c.from.ensures i;
        room = c.args.room;
        met = 0;
        parts = part i ∷ no_part ∷ no_part ∷ [];
      },
    )

pub returns-in-Err-clause-place : goal.returns-in-Err-clause-place
returns-in-Err-clause-place g c =
    let rva = ap (λ (e : Entry). e.location.rva) c.entry-entry.ensures.value in
    subst (λ (at : ℕ). IsChangeAt at c.told_reading.result) rva c.told_reading.ensures.place

pub returns-then-now-count-clause-place : goal.returns-then-now-count-clause-place
returns-then-now-count-clause-place g c = rw c.changed.ensures (ap (λ (e : Entry). e.location.rva) c.entry-entry.ensures.value)

pub returns-in-Err-clause-pays : goal.returns-in-Err-clause-pays
returns-in-Err-clause-pays g c =
    let begins = subst (λ (v : WalkState). Begins v c.args.stream (Err c.in-Err.fault) c.begin.new.self) c.entry-entry.ensures.same c.in-Err.ensures in
    begins.pays

pub returns-then-now-count-clause-pays : goal.returns-then-now-count-clause-pays
returns-then-now-count-clause-pays g c =
    let begins = subst (λ (v : WalkState). Begins v c.args.stream (Ok c.in-Ok.now) c.begin.new.self) c.entry-entry.ensures.same c.in-Ok.ensures in
    begins.pays

pub returns-clause-pays : goal.returns-clause-pays
returns-clause-pays g c =
    let begins = subst (λ (v : WalkState). Begins v c.args.stream (Ok c.in-Ok.now) c.begin.new.self) c.entry-entry.ensures.same c.in-Ok.ensures in
    begins.pays

pub returns-clause-tells : goal.returns-clause-tells
returns-clause-tells g c =
    let w = c.args.walk.now in
    let begins = subst (λ (v : WalkState). Begins v c.args.stream (Ok c.in-Ok.now) c.begin.new.self) c.entry-entry.ensures.same c.in-Ok.ensures in
    tells_ok Pass w c.begin.new.self _ begins.failed (going_on w c.begin.new.self c.args.stream c.args.count c.requires.counted c.in-Ok.now begins)
