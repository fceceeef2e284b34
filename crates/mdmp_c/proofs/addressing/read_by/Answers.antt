use Rattle.std.proofs.Common.{◌≡◌, ◌+◌, ◌-◌, ℕ, Some, arith, drop, length, subst, take}
use Rattle.std.proofs.lemmas.List.{length-drop, length-take-le}
use Rattle.mdmp_lister.specs.Addressing.{ReadsCells}
use Rattle.mdmp_lister.specs.AddressLaws.{ReadsCells_next}
use Rattle.mdmp_c.specs.Memory.{kept_ranges}
use Rattle.mdmp_c.proofs.addressing.read_by.Goals as goal

pub loop-done-preserved : goal.loop-done-preserved
loop-done-preserved c =
    let before = c.loop-done.invariant in
    let done : ℕ = c.loop-done.done in
    let size : ℕ = c.min.result in
    let end : ℕ = done + size in
    let count : ℕ = end - done in
    let content = Some c.args.file.now in
    let ranges = kept_ranges (length c.args.file.now) c.args.rows.now in
    let part = drop done c.loop-done.out in
    let shorter : length (take count part) ≡ count = length-take-le count part (omega (arith, c.min.ensures, length-drop done c.loop-done.out)) in
    let same : length c.read_block.new.out ≡ size = omega (arith, shorter, c.read_block.auto.out) in
    let other = drop done c.loop-done.known in
    let shorter_too : length (take count other) ≡ count =
    length-take-le count other (omega (arith, c.min.ensures, c.requires, c.loop-done.auto, length-drop done c.loop-done.known)) in
    let also : length c.read_block.new.known ≡ size = omega (arith, shorter_too, c.read_block.auto.known) in
    record {
      within = omega (arith, c.min.ensures, c.loop-done.auto);
      read = ReadsCells_next content ranges c.args.address done end c.loop-done.out c.read_block.new.out c.loop-done.known c.read_block.new.known
          (omega arith) (omega arith) (omega (arith, same)) (omega (arith, same, also)) before.read
          (subst (λ a. ReadsCells content ranges (a + done) c.read_block.new.out c.read_block.new.known) c.from.ensures c.read_block.ensures);
    }
