use Rattle.std.proofs.Common.{◌≡◌, ◌+◌, ◌-◌, ◌∙◌, ℕ, None, arith, false, drop, inr, length, rules, subst, sym, take}
use Rattle.std.specs.Prelude.{All}
use borrow.Rule.Slice.PartMut.{put_mid}
use Rattle.std.proofs.lemmas.List.{length-drop, length-take-le}
use Rattle.std.proofs.lemmas.Option.{IfSome_then}
use Rattle.mdmp_map.specs.Ranges.{IsWithin, first_range}
use Rattle.mdmp_lister.specs.Addressing.{IsStretch, is_same_range, stretches_at}
use Rattle.mdmp_lister.specs.Meter.{BooksAside}
use Rattle.mdmp_lister.specs.AddressLaws.{ReadsCells_next, ReadsCells_stretch}
use Rattle.mdmp_lister.proofs.Fetches.{IsCaused_later}
use Rattle.mdmp_lister.proofs.Looks.{looks_up_more, looks_up_then}
use Rattle.mdmp_lister.proofs.Painted.{books_then, books_within}
use Rattle.mdmp_lister.proofs.Stretches.{fetches-within, stretch_fetched, stretches-within}
use Rattle.mdmp_lister.proofs.addressing.read_stretches.Goals as goal

pub read_stretch-requires-clause-inside : goal.read_stretch-requires-clause-inside
read_stretch-requires-clause-inside g c =
    let count : ℕ = c.loop-done.done + c.stretch_at-stretch.result.count - c.loop-done.done in
    let part = drop c.loop-done.done c.loop-done.out in
    let shorter : length (take count part) ≡ count =
    length-take-le count part (omega (arith, c.stretch_at-stretch.ensures.most, length-drop c.loop-done.done c.loop-done.out)) in
    IfSome_then c.stretch_at-stretch.result.offset
    (c.stretch_at-stretch.ensures.within c.loop-done.meter.source.size
    (subst (λ n. All (IsWithin n) c.args.map.now.ranges) (sym c.loop-done.invariant.books.fetches.same_size) c.requires.inside))
    (λ at inside. inr (omega (arith, inside, shorter)))

pub loop-done-preserved : goal.loop-done-preserved
loop-done-preserved g c =
    let before = c.loop-done.invariant in
    let done : ℕ = c.loop-done.done in
    let end : ℕ = done + c.stretch_at-stretch.result.count in
    let count : ℕ = end - done in
    let part = drop done c.loop-done.out in
    let shorter : length (take count part) ≡ count = length-take-le count part (omega (arith, c.stretch_at-stretch.ensures.most, length-drop done c.loop-done.out)) in
    let same : length c.read_stretch.new.out ≡ c.stretch_at-stretch.result.count = omega (arith, shorter, c.read_stretch.auto.out) in
    let other = drop done c.loop-done.known in
    let shorter_too : length (take count other) ≡ count =
    length-take-le count other (omega (arith, c.stretch_at-stretch.ensures.most, c.requires.same, c.loop-done.auto, length-drop done c.loop-done.known)) in
    let also : length c.read_stretch.new.known ≡ c.stretch_at-stretch.result.count = omega (arith, shorter_too, c.read_stretch.auto.known) in
    let stretch : IsStretch c.args.map.now.ranges (c.args.address + done) c.stretch_at-stretch.result.offset (length c.read_stretch.new.out) =
    subst (λ n. IsStretch c.args.map.now.ranges (c.args.address + done) c.stretch_at-stretch.result.offset n) (sym same)
    (subst (λ a. IsStretch c.args.map.now.ranges (a + done) c.stretch_at-stretch.result.offset c.stretch_at-stretch.result.count) c.from.ensures c.stretch_at-stretch.ensures.stretch) in
    let of_args : c.args.address + done ≡ c.from.result + done = omega (arith, c.from.ensures) in
    let aligned : IsStretch c.args.map.now.ranges (c.args.address + done) c.stretch_at-stretch.result.offset c.stretch_at-stretch.result.count =
    subst (λ a. IsStretch c.args.map.now.ranges a c.stretch_at-stretch.result.offset c.stretch_at-stretch.result.count) (sym of_args) c.stretch_at-stretch.ensures.stretch in
    let booked : BooksAside c.stretch_at-stretch.result.count c.stretch_at-stretch.result.count c.loop-done.meter c.read_stretch.new.meter =
    books_within 1 c.stretch_at-stretch.result.count (length c.read_stretch.new.out) c.stretch_at-stretch.result.count c.loop-done.meter c.read_stretch.new.meter
    (omega (arith, c.stretch_at-stretch.ensures.some)) (omega (arith, same)) c.in_ok-read_stretch.ensures.reads.books in
    record {
      within = omega (arith, c.stretch_at-stretch.ensures.most, c.loop-done.auto);
      read = ReadsCells_next c.args.meter.now.source.store.content c.args.map.now.ranges c.args.address done end c.loop-done.out c.read_stretch.new.out
          c.loop-done.known c.read_stretch.new.known (omega arith) (omega arith) (omega (arith, same)) (omega (arith, same, also)) before.read
          (ReadsCells_stretch c.args.meter.now.source.store.content c.args.map.now.ranges (c.args.address + done) c.stretch_at-stretch.result.offset c.read_stretch.new.out
          c.read_stretch.new.known stretch c.in_ok-read_stretch.ensures.known c.in_ok-read_stretch.ensures.zeros
          (λ F is. c.in_ok-read_stretch.ensures.reads.of_file F (before.books.fetches.same_content ∙ is)));
      calls = stretch_fetched c.args.map.now.ranges c.args.address done c.stretch_at-stretch.result.count (length c.read_stretch.new.out) c.stretch_at-stretch.result.offset
          c.args.meter.now c.loop-done.meter c.read_stretch.new.meter aligned c.stretch_at-stretch.ensures.some
          (λ begun. before.edge begun (omega (arith, c.loop-done-test.true, c.loop-done.auto))) before.calls c.in_ok-read_stretch.ensures.reads.books c.in_ok-read_stretch.ensures.none;
      edge = λ begun less.
          let last : c.from.result + done + (c.stretch_at-stretch.result.count - 1) ≡ c.args.address + (end - 1) = omega (arith, c.from.ensures, c.stretch_at-stretch.ensures.some) in
          let next : c.from.result + done + c.stretch_at-stretch.result.count ≡ c.args.address + end = omega (arith, c.from.ensures) in
          subst (λ x. is_same_range (first_range c.args.map.now.ranges x) (first_range c.args.map.now.ranges (c.args.address + end)) ≡ false) last
          (subst (λ y. is_same_range (first_range c.args.map.now.ranges (c.from.result + done + (c.stretch_at-stretch.result.count - 1))) (first_range c.args.map.now.ranges y) ≡ false) next
          (c.stretch_at-stretch.ensures.edge (omega (arith, less, c.loop-done.auto))));
      books = books_then done c.stretch_at-stretch.result.count c.args.meter.now c.loop-done.meter c.read_stretch.new.meter before.books booked;
      caused = IsCaused_later None done c.args.meter.now.source c.loop-done.meter.source c.read_stretch.new.meter.source before.books.fetches before.caused
          c.in_ok-read_stretch.ensures.reads.caused;
      looks = looks_up_more (length c.args.map.now.ranges) (done + 1) end c.args.steps.now c.stretch_at-stretch.new.steps (omega (arith, c.stretch_at-stretch.ensures.some))
          (looks_up_then (length c.args.map.now.ranges) done 1 c.args.steps.now c.loop-done.steps c.stretch_at-stretch.new.steps before.looks c.stretch_at-stretch.ensures.looks);
    }

pub returns-in_err-read_stretch-clause-looks : goal.returns-in_err-read_stretch-clause-looks
returns-in_err-read_stretch-clause-looks g c =
    let done : ℕ = c.loop-done.done in
    let count : ℕ = done + c.stretch_at-stretch.result.count - done in
    let same : length (put_mid done count c.loop-done.out c.read_stretch.new.out) ≡ length c.loop-done.out =
    search rules in
    looks_up_more (length c.args.map.now.ranges) (done + 1) _ c.args.steps.now c.stretch_at-stretch.new.steps (omega (arith, same, c.loop-done-test.true))
    (looks_up_then (length c.args.map.now.ranges) done 1 c.args.steps.now c.loop-done.steps c.stretch_at-stretch.new.steps c.loop-done.invariant.looks c.stretch_at-stretch.ensures.looks)

pub returns-in_err-read_stretch-clause-calls : goal.returns-in_err-read_stretch-clause-calls
returns-in_err-read_stretch-clause-calls g c =
    let done : ℕ = c.loop-done.done in
    let count : ℕ = done + c.stretch_at-stretch.result.count - done in
    let ranges = c.args.map.now.ranges in
    let same : length (put_mid done count c.loop-done.out c.read_stretch.new.out) ≡ length c.loop-done.out =
    search rules in
    let of_args : c.args.address + done ≡ c.from.result + done = omega (arith, c.from.ensures) in
    let aligned : IsStretch ranges (c.args.address + done) c.stretch_at-stretch.result.offset c.stretch_at-stretch.result.count =
    subst (λ a. IsStretch ranges a c.stretch_at-stretch.result.offset c.stretch_at-stretch.result.count) (sym of_args) c.stretch_at-stretch.ensures.stretch in
    fetches-within (stretches_at ranges c.args.address (done + c.stretch_at-stretch.result.count)) _ c.args.meter.now c.read_stretch.new.meter
    (stretches-within ranges c.args.address (done + c.stretch_at-stretch.result.count) _ (omega (arith, same, c.stretch_at-stretch.ensures.most, c.loop-done-test.true)))
    (stretch_fetched ranges c.args.address done c.stretch_at-stretch.result.count (length c.read_stretch.new.out) c.stretch_at-stretch.result.offset
    c.args.meter.now c.loop-done.meter c.read_stretch.new.meter aligned c.stretch_at-stretch.ensures.some
    (λ begun. c.loop-done.invariant.edge begun (omega (arith, c.loop-done-test.true, c.loop-done.auto))) c.loop-done.invariant.calls c.read_stretch.ensures.reads.books c.read_stretch.ensures.none)

pub returns-clause-calls : goal.returns-clause-calls
returns-clause-calls g c =
    fetches-within (stretches_at c.args.map.now.ranges c.args.address c.loop-done.done) _ c.args.meter.now c.loop-done.meter
    (stretches-within c.args.map.now.ranges c.args.address c.loop-done.done _ (omega (arith, c.loop-done.invariant.within, c.loop-done.auto))) c.loop-done.invariant.calls
