use Rattle.std.proofs.Common.{◌≡◌, ◌<◌, ◌+◌, ◌-◌, ◌/◌, ℕ, None, arith, drop, length, rules, subst, take}
use borrow.Rule.Slice.PartMut.{put_mid}
use Rattle.std.proofs.Math.Nat.{mul-add}
use Rattle.std.proofs.lemmas.List.{length-drop, length-take-le}
use Rattle.mdmp_lister.specs.Addressing.{ReadsCells}
use Rattle.mdmp_lister.specs.Meter.{BooksAside}
use Rattle.mdmp_lister.specs.AddressLaws.{ReadsCells_next}
use Rattle.mdmp_lister.proofs.Begun.{blocks_fetched, blocks_within}
use Rattle.mdmp_lister.proofs.Fetches.{IsCaused_later}
use Rattle.mdmp_lister.proofs.Painted.{books_then}
use Rattle.mdmp_lister.proofs.addressing.read_blocks.Goals as goal

pub loop-done-preserved : goal.loop-done-preserved
loop-done-preserved g c =
    let before = c.loop-done.invariant in
    let done : ℕ = c.loop-done.done in
    let size : ℕ = c.min.result in
    let end : ℕ = done + size in
    let count : ℕ = end - done in
    let content = c.args.meter.now.source.store.content in
    let ranges = c.args.map.now.ranges in
    let part = drop done c.loop-done.out in
    let shorter : length (take count part) ≡ count = length-take-le count part (omega (arith, c.min.ensures, length-drop done c.loop-done.out)) in
    let same : length c.read_block.new.out ≡ size = omega (arith, shorter, c.read_block.auto.out) in
    let other = drop done c.loop-done.known in
    let shorter_too : length (take count other) ≡ count =
    length-take-le count other (omega (arith, c.min.ensures, c.requires.same, c.loop-done.auto, length-drop done c.loop-done.known)) in
    let also : length c.read_block.new.known ≡ size = omega (arith, shorter_too, c.read_block.auto.known) in
    let booked : BooksAside size size c.loop-done.meter c.read_block.new.meter =
    subst (λ n. BooksAside n n c.loop-done.meter c.read_block.new.meter) same c.in_ok-read_block.ensures.reads.books in
    let read : ReadsCells content ranges (c.args.address + done) c.read_block.new.out c.read_block.new.known =
    subst (λ x. ReadsCells x ranges (c.args.address + done) c.read_block.new.out c.read_block.new.known) before.books.fetches.same_content
    (subst (λ a. ReadsCells c.loop-done.meter.source.store.content ranges (a + done) c.read_block.new.out c.read_block.new.known) c.from.ensures c.in_ok-read_block.ensures.reads.cells) in
    let ahead : done < length c.args.out.now = omega (arith, c.loop-done-test.true, c.loop-done.auto) in
    let blocks : (end + 32767) / 32768 ≡ (done + 32767) / 32768 + 1 = omega (arith, before.whole ahead, c.min.ensures, c.loop-done-test.true, c.loop-done.auto) in
    record {
      within = omega (arith, c.min.ensures, c.loop-done.auto);
      whole = λ lt. omega (arith, lt, before.whole ahead, c.min.ensures, c.loop-done.auto);
      read = ReadsCells_next content ranges c.args.address done end c.loop-done.out c.read_block.new.out c.loop-done.known c.read_block.new.known
          (omega arith) (omega arith) (omega (arith, same)) (omega (arith, same, also)) before.read read;
      books = books_then done size c.args.meter.now c.loop-done.meter c.read_block.new.meter before.books booked;
      calls = blocks_fetched ranges c.args.address c.from.result done size (length c.read_block.new.out) c.args.meter.now c.loop-done.meter c.read_block.new.meter (before.whole ahead)
          (omega (arith, c.min.ensures, c.loop-done-test.true)) (omega (arith, c.min.ensures)) c.from.ensures same before.calls c.read_block.ensures.calls;
      caused = IsCaused_later None done c.args.meter.now.source c.loop-done.meter.source c.read_block.new.meter.source before.books.fetches before.caused
          c.in_ok-read_block.ensures.reads.caused;
      looks = rw blocks (omega (arith, before.looks, c.read_block.ensures.looks, mul-add (length ranges) ((done + 32767) / 32768) 1));
    }

pub returns-in_err-read_block-clause-calls : goal.returns-in_err-read_block-clause-calls
returns-in_err-read_block-clause-calls g c =
    let done : ℕ = c.loop-done.done in
    let size : ℕ = c.min.result in
    let count : ℕ = done + size - done in
    let part = drop done c.loop-done.out in
    let shorter : length (take count part) ≡ count = length-take-le count part (omega (arith, c.min.ensures, length-drop done c.loop-done.out)) in
    let same : length c.read_block.new.out ≡ size = omega (arith, shorter, c.read_block.auto.out) in
    let all : length (put_mid done count c.loop-done.out c.read_block.new.out) ≡ length c.loop-done.out = search rules in
    let ahead : done < length c.args.out.now = omega (arith, c.loop-done-test.true, c.loop-done.auto) in
    blocks_within c.args.map.now.ranges c.args.address (done + size) _ c.args.meter.now c.read_block.new.meter (omega (arith, all, c.min.ensures, c.loop-done-test.true))
    (blocks_fetched c.args.map.now.ranges c.args.address c.from.result done size (length c.read_block.new.out) c.args.meter.now c.loop-done.meter c.read_block.new.meter
    (c.loop-done.invariant.whole ahead) (omega (arith, c.min.ensures, c.loop-done-test.true)) (omega (arith, c.min.ensures)) c.from.ensures same c.loop-done.invariant.calls
    c.read_block.ensures.calls)

pub returns-clause-calls : goal.returns-clause-calls
returns-clause-calls g c =
    blocks_within c.args.map.now.ranges c.args.address c.loop-done.done _ c.args.meter.now c.loop-done.meter
    (omega (arith, c.loop-done.invariant.within, c.loop-done.auto)) c.loop-done.invariant.calls
