use Rattle.std.proofs.Common.{◌≡◌, ◌++◌, [], refl, ◌∙◌, ap, sym, subst, append_assoc, append-nil, rules}
use Rattle.std.proofs.lemmas.List.{nil_from_length}
use Rattle.std.proofs.lemmas.Str.{IsUtf8-past_char, chars_past_char, chars-nil}
use Rattle.std.proofs.lemmas.List.Concat.{flat_map-cons}
use Rattle.std.specs.Char.Escape.{encode_utf16}
use Rattle.std.specs.List.{flat_map}
use Rattle.std.specs.Str.{IsUtf8, chars}
use Rattle.std.specs.Str.Iter.{chars_rest}
use Rattle.mdmp_wire.specs.Number.{numbers_at}
use Rattle.mdmp_wire.specs.Units.{units_of, utf16_of}
use Rattle.mdmp_wire.proofs.units.Units.from_str.Goals as goal

pub loop-character-init : goal.loop-character-init
unfolding numbers_at
loop-character-init g c =
    let whole : c.args.text.now ≡ chars_rest c.into_iter-character-iterator.result = search rules in
    record {
      can = tt;
      finite = tt;
      even = search rules;
      text = subst IsUtf8 whole c.utf8.text;
      units = rw (c.new-bytes.ensures.items, ← whole) refl;
    }

pub loop-character-preserved : goal.loop-character-preserved
loop-character-preserved g c =
    let rest = chars_rest c.next.new.self in
    let before = units_of c.loop-character.bytes.items in
    let more = chars_past_char (chars_rest c.loop-character.character-iterator) rest c.in-Some.character c.loop-character.invariant.text c.in-Some.ensures.steps.0 in
    let next : utf16_of (chars_rest c.loop-character.character-iterator) ≡ encode_utf16 c.in-Some.character ++ utf16_of rest =
    ap (flat_map encode_utf16) more ∙ flat_map-cons encode_utf16 c.in-Some.character (chars rest) in
    record {
      can = tt;
      finite = tt;
      even = search rules;
      text = IsUtf8-past_char (chars_rest c.loop-character.character-iterator) rest c.in-Some.character c.loop-character.invariant.text c.in-Some.ensures.steps.0;
      units = c.loop-character.invariant.units ∙ rw (next, c.in_ok-push_character.ensures.units) (sym (append_assoc before (encode_utf16 c.in-Some.character) (utf16_of rest)));
    }

pub returns : goal.returns
returns g c =
    let none : chars_rest c.loop-character.character-iterator ≡ [] = nil_from_length (chars_rest c.loop-character.character-iterator) c.in-None.ensures.steps.0.0 in
    let nothing : utf16_of (chars_rest c.loop-character.character-iterator) ≡ [] = rw (none, chars-nil) refl in
    sym (c.loop-character.invariant.units ∙ rw (nothing, append-nil) refl)
