use Rattle.std.proofs.Common.{◌∙◌, ◌<◌, arith, length, sym}
use Rattle.std.proofs.lemmas.Option.{slice_get-get_or}
use Rattle.mdmp_dump.specs.EntryWalk.{no_entry}
use Rattle.mdmp_dump.proofs.EntryPlaces.{place_found, place_next, place_passed, place_within}
use Rattle.mdmp_dump.proofs.entry_walk.place_of.Goals as goal
use Rattle.mdmp_dump.proofs.entry_walk.place_of.Goals.{then-is_chosen+else-place-stream, else-is_chosen}

pub returns-then-place-stream : goal.returns-then-place-stream
returns-then-place-stream g c =
    let v = c.args.walker.now.list in
    let place = c.loop-place.place in
    let so_far = c.loop-place.invariant in
    let within : place.number < length v.entries = omega (arith, c.loop-place-test.true, so_far.count) in
    let at = slice_get-get_or v.entries place.number no_entry.entry within in
    place_found v place so_far.stands _ at (sym (c.is_chosen.ensures _ at) ∙ c.if-is_chosen.true) c.args.stream c.if-place-stream.true

pub loop-place-preserved : goal.loop-place-preserved
loop-place-preserved g c =
    let v = c.args.walker.now.list in
    let place = c.loop-place.place in
    let so_far = c.loop-place.invariant in
    let within : place.number < length v.entries = omega (arith, c.loop-place-test.true, so_far.count) in
    let at = slice_get-get_or v.entries place.number no_entry.entry within in
    elim c.if-is_chosen.branch [
      | then-is_chosen+else-place-stream w ↦ rw w.place-is (record {
        stands = place_next v place so_far.stands _ at (sym (c.is_chosen.ensures _ at) ∙ w.if-is_chosen.true);
        before = omega (arith, so_far.before, w.if-place-stream.false);
        count = so_far.count;
      })
      | else-is_chosen w ↦ rw w.place-is (record {
        stands = place_passed v place so_far.stands _ at (sym (c.is_chosen.ensures _ at) ∙ w.if-is_chosen.false);
        before = so_far.before;
        count = so_far.count;
      })
    ]

pub returns : goal.returns
returns g c =
    let so_far = c.loop-place.invariant in
    absurd (place_within c.args.walker.now.list c.loop-place.place so_far.stands c.args.stream so_far.before c.requires.some (omega (arith, c.loop-place-test.false, so_far.count)))
