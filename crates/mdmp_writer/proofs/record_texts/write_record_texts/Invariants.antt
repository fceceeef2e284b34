use Rattle.std.proofs.Common.{◌≡◌, ◌≤◌, ◌+◌, ◌-◌, List, Some, Ok, length}
use Rattle.mdmp_dump.specs.Seen.{Seen}
use Rattle.mdmp_writer.specs.Gather.{gathered}
use Rattle.mdmp_writer.specs.RecordTexts.{HaveText, bytes_asked, record_texts, texts_size}
use Rattle.mdmp_writer.specs.Uses.{Uses, used}
use Rattle.mdmp_writer.proofs.Counting.{IsToCome}
use Rattle.mdmp_writer.proofs.Loops.{RestIs, TextLeft}
use Rattle.mdmp_writer.proofs.record_texts.write_record_texts.Given as goal

abbrev pub invariant-loop-left : goal.invariant-loop-left
invariant-loop-left g l =
    let state = g.O.Out.state in
    record {
      count : (g.V.DumpView.cursor l.view).records ≡ l.left;
      have : HaveText l.text (g.V.DumpView.cursor l.view).kind (g.V.DumpView.cursor l.view).far;
      room : l.place + (g.V.DumpView.cursor l.view).room ≡ l.at + (g.V.DumpView.cursor l.fn.view).room;
      last : l.left ≡ 0 → texts_size l.text (g.V.DumpView.cursor l.view) ≡ 0;
      bytes : bytes_asked l.text (g.V.DumpView.cursor l.view).bytes ≤ bytes_asked l.text (g.V.DumpView.cursor l.fn.view).bytes;
      uses : Uses {T = Unit {0}} (Ok tt) (used (g.V.DumpView.shape l.fn.view) (g.V.DumpView.spent l.fn.view) (state l.fn.out)) 0
          (bytes_asked l.text (g.V.DumpView.cursor l.fn.view).bytes - bytes_asked l.text (g.V.DumpView.cursor l.view).bytes)
          (used (g.V.DumpView.shape l.view) (g.V.DumpView.spent l.view) (state l.out));
      moves : g.V.DumpView.Moves l.fn.view l.view;
      texts : (xs : List Seen) → (g.V.DumpView.cursor l.fn.view).seen ≡ Some xs → length xs ≡ l.count
          → RestIs (g.V.DumpView.cursor l.view).seen l.left
          (TextLeft (gathered (state l.fn.out) l.fn.gather) (record_texts l.text l.at xs) (gathered (state l.out) l.gather) (record_texts l.text l.place));
      come : IsToCome (gathered (state l.fn.out) l.fn.gather) (texts_size l.text (g.V.DumpView.cursor l.fn.view)) (texts_size l.text (g.V.DumpView.cursor l.view))
          (gathered (state l.out) l.gather);
    }

abbrev pub decreases-loop-left : goal.decreases-loop-left
decreases-loop-left g l = l.left
