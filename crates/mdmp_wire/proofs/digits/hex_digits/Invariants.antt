use Rattle.std.proofs.Common.{◌≡◌, ◌++◌, length, drop}
use Rattle.mdmp_wire.specs.Digits.{hex}
use Rattle.mdmp_wire.proofs.digits.hex_digits.Given as goal

abbrev pub invariant-loop-i : goal.invariant-loop-i
invariant-loop-i l = hex (length l.digits) l.fn.number ≡ hex l.i l.left ++ drop l.i l.digits
