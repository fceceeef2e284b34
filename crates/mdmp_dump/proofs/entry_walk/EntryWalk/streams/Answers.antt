use Rattle.std.proofs.Common.{◌∙◌, ◌<◌, ap, arith, length, sym}
use Rattle.std.proofs.lemmas.Option.{slice_get-get_or}
use Rattle.mdmp_dump.specs.EntryWalk.{no_entry}
use Rattle.mdmp_dump.proofs.EntryPlaces.{chosen_here, none_behind, passed_here}
use Rattle.mdmp_dump.proofs.entry_walk.EntryWalk.streams.Goals as goal
use Rattle.mdmp_dump.proofs.entry_walk.EntryWalk.streams.Goals.{then-is_chosen, else-is_chosen}

pub loop-number-preserved : goal.loop-number-preserved
loop-number-preserved g c =
    let v = c.self.inside.walker.list in
    let number = c.loop-number.number in
    let so_far = c.loop-number.invariant in
    let within : number < length v.entries = omega (arith, c.loop-number-test.true, so_far.count) in
    let at = slice_get-get_or v.entries number no_entry.entry within in
    elim c.if-is_chosen.branch [
      | then-is_chosen w ↦
          let one = ap length (chosen_here v.choice v.entries number _ at (sym (c.is_chosen.ensures _ at) ∙ w.if-is_chosen.true)) in
          rw w.streams-is (record { all = omega (arith, so_far.all, one); few = omega (arith, so_far.few); count = so_far.count })
      | else-is_chosen w ↦
          let none = ap length (passed_here v.choice v.entries number _ at (sym (c.is_chosen.ensures _ at) ∙ w.if-is_chosen.false)) in
          rw w.streams-is (record { all = omega (arith, so_far.all, none); few = omega (arith, so_far.few); count = so_far.count })
    ]

pub returns : goal.returns
returns g c =
    let v = c.self.inside.walker.list in
    let so_far = c.loop-number.invariant in
    let none = ap length (none_behind v.choice v.entries c.loop-number.number (omega (arith, c.loop-number-test.false, so_far.count))) in
    rw (← c.self.view_is) (omega (arith, so_far.all, none))
