use Rattle.std.proofs.Common.{◌≡◌, ◌<◌, ◌+◌, ◌∙◌, ◌∷◌, ◌++◌, [], ℕ, Err, None, Some, ap, arith, drop, length, rules, subst, sym, take, true}
use Rattle.std.proofs.lemmas.List.{take-append-drop, take_all}
use Rattle.mdmp_map.specs.Painting.{PaintState, is_painted}
use Rattle.mdmp_map.specs.Ranges.{IsPlaced, IsWithin}
use Rattle.mdmp_lister.specs.Painting.{AreCells, count_known}
use Rattle.mdmp_lister.proofs.Begun.{block_fetched, range_fetched}
use Rattle.mdmp_lister.proofs.Fetches.{IsCaused_later}
use Rattle.mdmp_lister.proofs.Painted.{all_at, block_read, books_within, cells_full, count-le, counted_then, take_next}
use Rattle.mdmp_lister.proofs.addressing.read_block.Goals as goal

pub returns-then-is_full-clause-reads : goal.returns-then-is_full-clause-reads
returns-then-is_full-clause-reads g c =
    let before = c.loop-number.invariant in
    let content = c.args.meter.now.source.store.content in
    let ranges = c.args.map.now.ranges in
    let i : ℕ = c.loop-number.number in
    let same : length c.loop-number.known ≡ length c.loop-number.out = omega (arith, c.loop-number.auto.out, c.loop-number.auto.known, c.requires.same) in
    let full : (place : ℕ) → place < c.loop-number.paint.count → is_painted c.loop-number.paint place ≡ true = c.is_full.ensures.full.0 (search rules) in
    let are = cells_full content (take i ranges) (drop i ranges) c.loop-number.paint c.loop-number.out c.loop-number.known same before.painted full
    (subst (λ a. AreCells content (take i ranges) a c.loop-number.out c.loop-number.known) (sym before.start) before.cells) in
    block_read ranges c.args.address c.loop-number.out c.loop-number.known c.args.meter.now c.loop-number.meter same
    (subst (λ rs. AreCells content rs c.args.address c.loop-number.out c.loop-number.known) (take-append-drop i ranges)
    (subst (λ a. AreCells content (take i ranges ++ drop i ranges) a c.loop-number.out c.loop-number.known) before.start are))
    before.books before.caused

pub returns-then-is_full-clause-calls : goal.returns-then-is_full-clause-calls
returns-then-is_full-clause-calls g c =
    block_fetched c.args.map.now.ranges c.args.address (length c.loop-number.out) c.loop-number.known c.args.meter.now c.loop-number.meter
    (omega (arith, c.loop-number.auto.out, c.loop-number.auto.known, c.requires.same)) c.loop-number.invariant.calls

pub read_range-requires-clause-placed : goal.read_range-requires-clause-placed
read_range-requires-clause-placed g c = all_at IsPlaced c.args.map.now.ranges c.loop-number.number c.look_at-range.result c.look_at-range.ensures.range c.look_at-range.ensures.placed

pub read_range-requires-clause-inside : goal.read_range-requires-clause-inside
read_range-requires-clause-inside g c =
    subst (λ n. IsWithin n c.look_at-range.result) (sym c.loop-number.invariant.books.fetches.same_size)
    (all_at (IsWithin c.args.meter.now.source.size) c.args.map.now.ranges c.loop-number.number c.look_at-range.result c.look_at-range.ensures.range c.requires.inside)

pub returns-in_err-read_range-clause-reads : goal.returns-in_err-read_range-clause-reads
returns-in_err-read_range-clause-reads g c =
    let before = c.loop-number.invariant in
    let fault = c.in_err-read_range.field-0.0 in
    let is : c.from_residual.result ≡ Err fault = search rules in
    let same : length c.read_range.new.known ≡ length c.read_range.new.out =
    omega (arith, c.loop-number.auto.out, c.loop-number.auto.known, c.requires.same, c.read_range.auto.out, c.read_range.auto.known) in
    rw is (record {
      cells = tt;
      books = books_within (count_known c.read_range.new.known) (length c.read_range.new.out) (count_known c.read_range.new.known) (length c.read_range.new.out) c.args.meter.now c.read_range.new.meter
          (omega (arith, count-le c.read_range.new.known, same)) (omega (arith, count-le c.read_range.new.known, same))
          (counted_then c.loop-number.known c.read_range.new.known c.args.meter.now c.loop-number.meter c.read_range.new.meter before.books c.read_range.ensures.books);
      caused = IsCaused_later (Some fault) (count_known c.loop-number.known) c.args.meter.now.source c.loop-number.meter.source c.read_range.new.meter.source before.books.fetches before.caused
          c.in_err-read_range.ensures.caused;
    })

pub returns-in_err-read_range-clause-calls : goal.returns-in_err-read_range-clause-calls
returns-in_err-read_range-clause-calls g c =
    let before = c.loop-number.invariant in
    let ranges = c.args.map.now.ranges in
    let i : ℕ = c.loop-number.number in
    let start : c.is_full.new.self.start ≡ c.args.address = ap (λ (s : PaintState). s.start) c.is_full.ensures.same ∙ before.start in
    let known = c.read_range.new.known in
    let same : length known ≡ length c.read_range.new.out = omega (arith, c.loop-number.auto.out, c.loop-number.auto.known, c.requires.same, c.read_range.auto.out, c.read_range.auto.known) in
    block_fetched ranges c.args.address (length c.read_range.new.out) known c.args.meter.now c.read_range.new.meter same
    (range_fetched ranges i c.look_at-range.result c.is_full.new.self.start c.args.address c.loop-number.known known c.args.meter.now c.loop-number.meter c.read_range.new.meter
    c.look_at-range.ensures.range start before.calls (c.read_range.ensures.calls (take i ranges) (drop (i + 1) ranges)
    (subst (λ x. AreCells x (take i ranges) c.is_full.new.self.start c.loop-number.out c.loop-number.known) (sym before.books.fetches.same_content)
    (subst (λ a. AreCells c.args.meter.now.source.store.content (take i ranges) a c.loop-number.out c.loop-number.known) (sym start) before.cells))))

pub loop-number-preserved : goal.loop-number-preserved
loop-number-preserved g c =
    let before = c.loop-number.invariant in
    let content = c.args.meter.now.source.store.content in
    let ranges = c.args.map.now.ranges in
    let i : ℕ = c.loop-number.number in
    let range = c.look_at-range.result in
    let out = c.read_range.new.out in
    let known = c.read_range.new.known in
    let start : c.is_full.new.self.start ≡ c.args.address = ap (λ (s : PaintState). s.start) c.is_full.ensures.same ∙ before.start in
    let same_content = before.books.fetches.same_content in
    let seen : AreCells c.loop-number.meter.source.store.content (take i ranges) c.is_full.new.self.start c.loop-number.out c.loop-number.known =
    subst (λ x. AreCells x (take i ranges) c.is_full.new.self.start c.loop-number.out c.loop-number.known) (sym same_content)
    (subst (λ a. AreCells content (take i ranges) a c.loop-number.out c.loop-number.known) (sym start) before.cells) in
    let are = c.in_ok-read_range.ensures.cells (take i ranges) seen in
    record {
      painted = c.in_ok-read_range.ensures.painted;
      start = c.read_range.ensures.start ∙ start;
      cells =
          subst (λ rs. AreCells content rs c.args.address out known) (sym (take_next ranges i range c.look_at-range.ensures.range))
          (subst (λ a. AreCells content (take i ranges ++ range ∷ []) a out known) start
          (subst (λ x. AreCells x (take i ranges ++ range ∷ []) c.is_full.new.self.start out known) same_content are));
      books = counted_then c.loop-number.known known c.args.meter.now c.loop-number.meter c.read_range.new.meter before.books c.read_range.ensures.books;
      calls = range_fetched ranges i range c.is_full.new.self.start c.args.address c.loop-number.known known c.args.meter.now c.loop-number.meter c.read_range.new.meter
          c.look_at-range.ensures.range start before.calls (c.read_range.ensures.calls (take i ranges) (drop (i + 1) ranges) seen);
      caused = IsCaused_later None (count_known c.loop-number.known) c.args.meter.now.source c.loop-number.meter.source c.read_range.new.meter.source before.books.fetches before.caused
          c.in_ok-read_range.ensures.caused;
      looks = omega (arith, before.looks, c.look_at-range.ensures.steps);
    }

pub returns-clause-reads : goal.returns-clause-reads
returns-clause-reads g c =
    let before = c.loop-number.invariant in
    let content = c.args.meter.now.source.store.content in
    let ranges = c.args.map.now.ranges in
    let same : length c.loop-number.known ≡ length c.loop-number.out = omega (arith, c.loop-number.auto.out, c.loop-number.auto.known, c.requires.same) in
    block_read ranges c.args.address c.loop-number.out c.loop-number.known c.args.meter.now c.loop-number.meter same
    (subst (λ rs. AreCells content rs c.args.address c.loop-number.out c.loop-number.known) (take_all c.loop-number.number ranges (omega (arith, c.loop-number-test.false, c.len-number-end.ensures))) before.cells)
    before.books before.caused

pub returns-clause-calls : goal.returns-clause-calls
returns-clause-calls g c =
    block_fetched c.args.map.now.ranges c.args.address (length c.loop-number.out) c.loop-number.known c.args.meter.now c.loop-number.meter
    (omega (arith, c.loop-number.auto.out, c.loop-number.auto.known, c.requires.same)) c.loop-number.invariant.calls
