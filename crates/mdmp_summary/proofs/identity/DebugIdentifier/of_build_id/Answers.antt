use Rattle.std.proofs.Common.{◌≡◌, ℕ, List, ◌++◌, drop, ap, ◌∙◌}
use Rattle.std.specs.Prelude.{replicate}
use Rattle.uuid.specs.Parts.{swap_fields}
use Rattle.mdmp_summary.specs.Identity.{sixteen_of}
use Rattle.mdmp_summary.proofs.Padding.{put_over}
use Rattle.mdmp_summary.proofs.identity.DebugIdentifier.of_build_id.Goals as goal

pub returns : goal.returns
returns c =
    let n = c.min-len.result in
    let over : c.copy_from_slice.new.self ++ drop n (replicate 16 0) ≡ sixteen_of c.args.bytes.now =
    ap (λ (xs : List ℕ). xs ++ drop n (replicate 16 0)) c.copy_from_slice.ensures.after ∙ put_over c.args.bytes.now n c.min-len.ensures in
    λ i. record { guid = (c.from_bytes_le.ensures ∙ ap swap_fields over) i; age = 0 }
