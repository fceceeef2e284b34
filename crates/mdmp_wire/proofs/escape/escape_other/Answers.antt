use Rattle.std.proofs.Common.{rules, ◌≡◌, [], ◌∷◌, arith, refl}
use Rattle.std.proofs.lemmas.Grind.{common_steps}
use Rattle.mdmp_wire.specs.Digits.{hex}
use Rattle.mdmp_wire.proofs.escape.escape_other.Goals as goal

pub returns-then-unit-eq-BACKSLASH-clause-text : goal.returns-then-unit-eq-BACKSLASH-clause-text
unfolding hex
returns-then-unit-eq-BACKSLASH-clause-text c =
    let digits : hex 4 c.args.unit ≡ 48 ∷ 48 ∷ 53 ∷ 99 ∷ [] = rw c.if-unit-eq-BACKSLASH.true refl in
    rw digits (grind (arith, common_steps))

pub returns-clause-text : goal.returns-clause-text
returns-clause-text c = grind (arith, common_steps)

pub returns-clause-within : goal.returns-clause-within
returns-clause-within c = search rules
