-- A stream has records where its body is longer than what stands before them.
use Rattle.std.proofs.Common.{◌≡◌, ◌<◌, ℕ, zero, suc, ◌+◌, ◌*◌, arith, subst}
use Rattle.mdmp_dump.specs.declared.view.Kind.{Kind}
use Rattle.mdmp_dump.specs.declared.view.Kind.TheVariants as kinds
use Rattle.mdmp_dump.specs.Shape.{StreamShape, body_by, body_of, head_of, row_of, told}

over_head : (t n : ℕ) → head_of t < told (head_of t + n * row_of t) → 0 < n
over_head t zero more = omega (arith, more)
over_head t (suc n) more = omega (arith)

pub has_records : (s : StreamShape) (t : ℕ) → s.kind ≡ kinds.Known t → head_of t < told (body_of s) → 0 < s.records
has_records s t known more = over_head t s.records (subst (λ (kind : Kind). head_of t < told (body_by kind s.records s.raw)) known more)
