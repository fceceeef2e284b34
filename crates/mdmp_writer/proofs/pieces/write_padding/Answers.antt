use Rattle.std.proofs.Common.{◌≡◌, ◌<◌, ◌-◌, ◌%◌, ◌∙◌, ℕ, zero, suc, List, [], ◌∷◌, take, replicate, ap, refl, subst, arith}
use Rattle.mdmp_dump.specs.Places.{up}
use Rattle.mdmp_writer.specs.Gather.{Writes, gathered}
use Rattle.mdmp_writer.specs.Written.{padding}
use Rattle.mdmp_writer.proofs.pieces.write_padding.Goals as goal

first_zeros : (n : ℕ) → n < 4 → take {A = ℕ} n (0 ∷ 0 ∷ 0 ∷ []) ≡ replicate n 0
first_zeros zero few = refl
first_zeros (suc zero) few = refl
first_zeros (suc (suc zero)) few = refl
first_zeros (suc (suc (suc zero))) few = refl
first_zeros (suc (suc (suc (suc n)))) few = absurd (omega arith)

is_padding : (n : ℕ) → take {A = ℕ} ((4 - n % 4) % 4) (0 ∷ 0 ∷ 0 ∷ []) ≡ padding n
is_padding n =
    let count : (4 - n % 4) % 4 ≡ up n - n = omega arith in
    first_zeros ((4 - n % 4) % 4) (omega arith) ∙ ap (λ (m : ℕ). replicate m 0) count

pub returns-clause-writes : goal.returns-clause-writes
returns-clause-writes g c =
    subst (λ (t : List ℕ). Writes c.write.result (gathered (g.O.Out.state c.args.out.now) c.args.gather.now) t (gathered (g.O.Out.state c.write.new.out) c.write.new.self))
    (is_padding c.args.size) c.write.ensures.writes
