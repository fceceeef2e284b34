use Rattle.std.proofs.Common.{◌≡◌, ◌∙◌, ℕ, ap, arith, length}
use Rattle.uuid.proofs.TextLemmas.{by_index_length}
use Rattle.uuid.specs.Text.{hyphenated_text, lower}
use Rattle.mdmp_print.proofs.BufferLemmas.{IsPutBehind-as}
use Rattle.mdmp_print.proofs.codeview.GuidPiece.write_at.Goals as goal

pub slice_at-requires : goal.slice_at-requires
slice_at-requires c =
    let text = c.as_bytes.ensures.value ∙ c.encode_lower.ensures.text in
    let long : length (hyphenated_text lower c.hyphenated-guid.result) ≡ 36 = by_index_length {X = ℕ} 36 _ in
    omega (arith, ap length text, long, c.requires)

pub returns : goal.returns
returns c =
    let text = c.as_bytes.ensures.value ∙ c.encode_lower.ensures.text in
    let long : length (hyphenated_text lower c.hyphenated-guid.result) ≡ 36 = by_index_length {X = ℕ} 36 _ in
    IsPutBehind-as (text ∙ ap (hyphenated_text lower) (c.hyphenated-guid.ensures ∙ c.from_bytes.ensures)) (omega (arith, ap length text, long)) c.slice_at.ensures
