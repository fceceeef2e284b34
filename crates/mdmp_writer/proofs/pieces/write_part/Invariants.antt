use Rattle.std.proofs.Common.{◌≡◌, ◌≤◌, ◌-◌, ℕ, List, [], Some, Ok, take, get_or}
use Rattle.mdmp_writer.specs.Gather.{gathered, Gathers, PutsSome}
use Rattle.mdmp_writer.specs.Uses.{Uses, used}
use Rattle.mdmp_writer.proofs.pieces.write_part.Given as goal

abbrev pub invariant-loop-at : goal.invariant-loop-at
invariant-loop-at g l =
    let state = g.O.Out.state in
    record {
      cursor : g.V.DumpView.cursor l.view ≡ g.V.DumpView.cursor l.fn.view;
      within : l.at ≤ l.size;
      uses : Uses {T = Unit {0}} (Ok tt) (used (g.V.DumpView.shape l.fn.view) (g.V.DumpView.spent l.fn.view) (state l.fn.out)) 0 l.at
          (used (g.V.DumpView.shape l.view) (g.V.DumpView.spent l.view) (state l.out));
      moves : g.V.DumpView.Moves l.fn.view l.view;
      puts : (parts : List (List ℕ)) → (g.V.DumpView.cursor l.fn.view).parts ≡ Some parts
          → Gathers (gathered (state l.fn.out) l.fn.gather) (take l.at (get_or parts l.which [])) (gathered (state l.out) l.gather);
      some : PutsSome (gathered (state l.fn.out) l.fn.gather) l.at (gathered (state l.out) l.gather);
    }

abbrev pub decreases-loop-at : goal.decreases-loop-at
decreases-loop-at g l = l.size - l.at
