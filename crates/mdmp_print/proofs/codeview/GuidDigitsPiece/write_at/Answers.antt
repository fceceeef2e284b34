use Rattle.std.proofs.Common.{◌≡◌, ◌∙◌, ℕ, ap, arith, length}
use Rattle.uuid.proofs.TextLemmas.{by_index_length}
use Rattle.uuid.specs.Text.{simple_text, upper}
use Rattle.mdmp_print.proofs.BufferLemmas.{IsPutBehind-as}
use Rattle.mdmp_print.proofs.codeview.GuidDigitsPiece.write_at.Goals as goal

pub slice_at-requires : goal.slice_at-requires
slice_at-requires c =
    let text = c.as_bytes.ensures.value ∙ c.encode_upper.ensures.text in
    let long : length (simple_text upper c.simple-guid.result) ≡ 32 = by_index_length {X = ℕ} 32 _ in
    omega (arith, ap length text, long, c.requires)

pub returns : goal.returns
returns c =
    let text = c.as_bytes.ensures.value ∙ c.encode_upper.ensures.text in
    let long : length (simple_text upper c.simple-guid.result) ≡ 32 = by_index_length {X = ℕ} 32 _ in
    IsPutBehind-as (text ∙ ap (simple_text upper) (c.simple-guid.ensures ∙ c.from_bytes.ensures)) (omega (arith, ap length text, long)) c.slice_at.ensures
