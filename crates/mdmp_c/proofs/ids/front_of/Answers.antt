use Rattle.std.proofs.Common.{ℕ, List, ◌++◌, drop, ap, ◌∙◌}
use Rattle.std.specs.Prelude.{replicate}
use Rattle.mdmp_c.proofs.Fronts.{put_over}
use Rattle.mdmp_c.proofs.ids.front_of.Goals as goal

pub returns : goal.returns
returns c =
    let n = c.min-len.result in
    ap (λ (xs : List ℕ). xs ++ drop n (replicate 20 0)) c.copy_from_slice.ensures.after ∙ put_over c.args.bytes.now n c.min-len.ensures
