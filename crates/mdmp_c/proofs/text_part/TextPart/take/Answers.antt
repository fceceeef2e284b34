use Rattle.std.proofs.Common.{◌≡◌, ◌-◌, arith, length, take, drop, length-drop}
use Rattle.std.proofs.lemmas.List.{take_all}
use Rattle.mdmp_c.proofs.Parted.{part-more}
use Rattle.mdmp_c.proofs.text_part.TextPart.take.Goals as goal

pub returns : goal.returns
returns c = λ skip room given part.
    let text = c.args.text.now in
    let old = c.args.self.now in
    let passed = c.min-passed.result in
    let rest = drop passed text in
    let behind : take (length text - passed) rest ≡ rest = take_all (length text - passed) rest (omega (arith, length-drop passed text)) in
    let more = part-more skip room given text old.skip old.room old.size old.kept.items passed c.min-fitting.result c.saturating_add-self.result part
    c.min-passed.ensures (rw (c.saturating_sub.ensures, c.len.ensures, old.kept.ok.0) at (rw behind at c.min-fitting.ensures)) (rw behind at c.saturating_add-self.ensures) in
    let items = rw behind at c.in_ok-extend_from_slice.ensures.items in
    rw items more
