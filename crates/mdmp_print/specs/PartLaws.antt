-- What the words of a part print in an object.
use Rattle.std.proofs.Common.{◌≡◌, refl}
use Rattle.json.specs.Print.{escape, escape_byte}
use Rattle.mdmp_print.specs.PartLines.{part_words}
use Rattle.mdmp_wire.specs.declared.slot.PartName.{PartName}
use Rattle.mdmp_wire.specs.declared.slot.PartName.TheVariants as parts

pub escape-part : (part : PartName) → escape (part_words part) ≡ part_words part
unfolding escape_byte
escape-part parts.Stack = refl
escape-part parts.Context = refl
escape-part parts.CodeView = refl
escape-part parts.Misc = refl
escape-part parts.Memory = refl
