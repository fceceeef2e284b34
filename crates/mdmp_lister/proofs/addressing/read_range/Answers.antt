use Rattle.std.proofs.Common.{◌≡◌, ◌+◌, ◌-◌, ◌∙◌, ◌∷◌, ◌++◌, [], None, ap, arith, length, subst, sym}
use Rattle.mdmp_map.specs.Ranges.{IsWithin, holds}
use Rattle.mdmp_lister.specs.Painting.{AreCells, AreCellsTo}
use Rattle.mdmp_lister.proofs.Begun.{run_fetched}
use Rattle.mdmp_lister.proofs.Fetches.{IsCaused_later}
use Rattle.mdmp_lister.proofs.Painted.{books_within, cells_run, cells_to, newly_then, painted_run, run_inside}
use Rattle.mdmp_lister.proofs.addressing.read_range.Goals as goal

pub read_run-requires-clause-inside : goal.read_run-requires-clause-inside
read_run-requires-clause-inside g c =
    run_inside c.runs.paint c.args.range.now c.runs.from c.runs.meter.source.size c.in-Some.run' c.in-Some.ensures.run
    (subst (λ n. IsWithin n c.args.range.now) (sym c.runs.invariant.books.books.fetches.same_size) c.requires.inside)

pub returns-in_err-read_run-clause-books : goal.returns-in_err-read_run-clause-books
returns-in_err-read_run-clause-books g c =
    newly_then (c.in-Some.run'.end - c.in-Some.run'.first) c.args.known.now c.runs.known c.read_run.new.known c.args.meter.now c.runs.meter c.read_run.new.meter
    c.runs.invariant.books c.read_run.ensures.counted
    (books_within 1 (c.in-Some.run'.end - c.in-Some.run'.first) _ _ c.runs.meter c.read_run.new.meter (omega (arith, c.in-Some.ensures.run.some)) (omega arith) c.read_run.ensures.books)

pub returns-in_err-read_run-clause-calls : goal.returns-in_err-read_run-clause-calls
returns-in_err-read_run-clause-calls g c = λ seen rest are.
    let before = c.runs.invariant in
    let run = c.in-Some.run' in
    let read = c.read_run.ensures in
    run_fetched c.runs.from c.args.meter.now.source.store.content seen rest c.args.range.now c.runs.paint run c.runs.out c.args.paint.now.start (run.end - run.first) c.args.known.now
    c.runs.known c.read_run.new.known c.args.meter.now c.runs.meter c.read_run.new.meter before.start (omega (arith, c.runs.auto.out, c.runs.auto.known, c.requires.same)) before.painted
    c.in-Some.ensures.run (before.cells seen are) before.edge c.read_run.auto.known read.known read.known_below read.known_behind (before.calls seen rest are) read.books

pub runs-preserved : goal.runs-preserved
runs-preserved g c =
    let before = c.runs.invariant in
    let content = c.args.meter.now.source.store.content in
    let range = c.args.range.now in
    let run = c.in-Some.run' in
    let same : length c.runs.known ≡ length c.runs.out = omega (arith, c.runs.auto.out, c.runs.auto.known, c.requires.same) in
    let read = c.in_ok-read_run.ensures in
    record {
      within = omega (arith, c.in-Some.ensures.run.within, before.painted.count, same, c.read_run.auto.out);
      painted = painted_run c.runs.paint c.paint.new.self run c.runs.known c.read_run.new.known before.painted c.in-Some.ensures.painted c.paint.ensures.count c.read_run.auto.known
          read.known read.known_below read.known_behind;
      start = c.paint.ensures.start ∙ before.start;
      cells = λ seen are.
          subst (λ a. AreCellsTo run.end content seen range a c.read_run.new.out c.read_run.new.known) before.start
          (cells_run c.runs.from content seen range c.runs.paint run c.runs.out c.read_run.new.out c.runs.known c.read_run.new.known same c.read_run.auto.out before.painted c.in-Some.ensures.run
          (record {
            known_is = read.known;
            known_below = read.known_below;
            known_behind = read.known_behind;
            bytes_are = λ F is. read.bytes F (before.books.books.fetches.same_content ∙ is);
            bytes_below = read.bytes_below;
            bytes_behind = read.bytes_behind;
          })
          (subst (λ a. AreCellsTo c.runs.from content seen range a c.runs.out c.runs.known) (sym before.start) (before.cells seen are)));
      edge = λ some inside held. c.in-Some.ensures.painted.behind run.end (omega arith)
          ∙ c.in-Some.ensures.run.whole (omega (arith, inside, c.paint.ensures.count)) (ap (λ a. holds (a + run.end) range) (sym c.paint.ensures.start) ∙ held);
      calls = λ seen rest are. run_fetched c.runs.from content seen rest range c.runs.paint run c.runs.out c.args.paint.now.start (run.end - run.first) c.args.known.now c.runs.known
          c.read_run.new.known c.args.meter.now c.runs.meter c.read_run.new.meter before.start same before.painted c.in-Some.ensures.run (before.cells seen are) before.edge
          c.read_run.auto.known read.known read.known_below read.known_behind (before.calls seen rest are) read.books;
      books = newly_then (run.end - run.first) c.args.known.now c.runs.known c.read_run.new.known c.args.meter.now c.runs.meter c.read_run.new.meter before.books read.counted
          (books_within 1 (run.end - run.first) _ _ c.runs.meter c.read_run.new.meter (omega (arith, c.in-Some.ensures.run.some)) (omega arith) read.books);
      caused = IsCaused_later None before.books.count c.args.meter.now.source c.runs.meter.source c.read_run.new.meter.source before.books.books.fetches before.caused read.caused;
    }

pub returns-clause-cells : goal.returns-clause-cells
returns-clause-cells g c = λ seen are.
    let before = c.runs.invariant in
    let content = c.args.meter.now.source.store.content in
    let range = c.args.range.now in
    subst (λ a. AreCells content (seen ++ range ∷ []) a c.runs.out c.runs.known) before.start
    (cells_to c.runs.from content seen range c.runs.paint c.runs.out c.runs.known (omega (arith, c.runs.auto.out, c.runs.auto.known, c.requires.same)) before.painted c.in_default.ensures.run
    (subst (λ a. AreCellsTo c.runs.from content seen range a c.runs.out c.runs.known) (sym before.start) (before.cells seen are)))
