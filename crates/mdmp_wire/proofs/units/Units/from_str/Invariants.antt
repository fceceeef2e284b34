use Rattle.std.proofs.Common.{◌≡◌, ◌++◌, ◌%◌, length}
use Rattle.std.specs.Str.{IsUtf8}
use Rattle.std.specs.Str.Iter.{chars_rest}
use Rattle.mdmp_wire.specs.Units.{units_of, utf16_of}
use Rattle.mdmp_wire.proofs.units.Units.from_str.Given as goal

abbrev pub invariant-loop-character : goal.invariant-loop-character
invariant-loop-character g l = record {
  can : (goal.iterator-loop-character g).can_next l.character-iterator;
  finite : (goal.iterator-loop-character g).is_finite l.character-iterator;
  even : length l.bytes.items % 2 ≡ 0;
  text : IsUtf8 (chars_rest l.character-iterator);
  units : utf16_of l.fn.text ≡ units_of l.bytes.items ++ utf16_of (chars_rest l.character-iterator);
}
