use Rattle.std.proofs.Common.{◌≡◌, ◌+◌, ◌-◌, ◌∙◌, ◌∷◌, ◌++◌, [], ℕ, List, Some, ap, arith, length, subst, sym}
use Rattle.std.specs.Prelude.{slice_index}
use Rattle.mdmp_lister.specs.Painting.{AreCells, AreCellsTo}
use Rattle.mdmp_lister.proofs.Painted.{cells_run, cells_to, painted_run, run_inside}
use Rattle.mdmp_c.proofs.addressing.read_range.Goals as goal

pub read_run-requires-clause-inside : goal.read_run-requires-clause-inside
read_run-requires-clause-inside c =
    run_inside c.runs.paint c.args.range.now c.runs.from (length c.args.file.now) c.in-Some.run' c.in-Some.ensures.run c.requires.inside

pub runs-preserved : goal.runs-preserved
runs-preserved c =
    let before = c.runs.invariant in
    let range = c.args.range.now in
    let run = c.in-Some.run' in
    let same : length c.runs.known ≡ length c.runs.out = omega (arith, c.runs.auto.out, c.runs.auto.known, c.requires.same) in
    let read = c.read_run.ensures in
    record {
      within = omega (arith, c.in-Some.ensures.run.within, before.painted.count, same, c.read_run.auto.out);
      painted = painted_run c.runs.paint c.paint.new.self run c.runs.known c.read_run.new.known before.painted c.in-Some.ensures.painted c.paint.ensures.count c.read_run.auto.known
          read.known read.known_below read.known_behind;
      start = c.paint.ensures.start ∙ before.start;
      cells = λ seen are.
          subst (λ a. AreCellsTo run.end (Some c.args.file.now) seen range a c.read_run.new.out c.read_run.new.known) before.start
          (cells_run c.runs.from (Some c.args.file.now) seen range c.runs.paint run c.runs.out c.read_run.new.out c.runs.known c.read_run.new.known same c.read_run.auto.out before.painted c.in-Some.ensures.run
          (record {
            known_is = read.known;
            known_below = read.known_below;
            known_behind = read.known_behind;
            bytes_are = λ F is k at lt.
                let file : c.args.file.now ≡ F = cc in
                read.bytes k at lt ∙ ap (λ (f : List ℕ). slice_index f (run.offset + (k - run.first))) file;
            bytes_below = read.bytes_below;
            bytes_behind = read.bytes_behind;
          })
          (subst (λ a. AreCellsTo c.runs.from (Some c.args.file.now) seen range a c.runs.out c.runs.known) (sym before.start) (before.cells seen are)));
    }

pub returns-clause-cells : goal.returns-clause-cells
returns-clause-cells c = λ seen are.
    let before = c.runs.invariant in
    let range = c.args.range.now in
    subst (λ a. AreCells (Some c.args.file.now) (seen ++ range ∷ []) a c.runs.out c.runs.known) before.start
    (cells_to c.runs.from (Some c.args.file.now) seen range c.runs.paint c.runs.out c.runs.known (omega (arith, c.runs.auto.out, c.runs.auto.known, c.requires.same)) before.painted c.in_default.ensures.run
    (subst (λ a. AreCellsTo c.runs.from (Some c.args.file.now) seen range a c.runs.out c.runs.known) (sym before.start) (before.cells seen are)))
