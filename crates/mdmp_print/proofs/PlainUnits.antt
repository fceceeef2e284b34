-- Units that stand in a string as one byte.
use Rattle.std.proofs.Common.{◌≡◌, ◌∙◌, ℕ, ◌+◌, ◌<◌, ◌≤◌, ◌==◌, ◌&&◌, not, nat_le, nat_lt, true, List, [], ◌∷◌, ◌++◌, Some, length, drop, get_or, ap, arith}
use Rattle.std.specs.Char.Utf16.{utf16_chars}
use Rattle.std.proofs.lemmas.Bool.{and_parts, leb-true, ltb-true}
use Rattle.std.proofs.lemmas.Str.{encode_ascii}
use Rattle.json.specs.Print.{escape}
use Rattle.json.proofs.Printed.Strings.{escape_byte_plain}
use Rattle.mdmp_wire.specs.Units.{utf8_of}
use Rattle.mdmp_print.proofs.Unitwise.{chars-lone, lone-low, text-next}
use Rattle.mdmp_print.specs.PlainUnits.{is_plain_unit}

no_quote : (u : ℕ) → not (u == 34) ≡ true → u ≡ 34 → ⊥
no_quote u e same = let no : not (34 == 34) ≡ true = rw same at e in cc

no_backslash : (u : ℕ) → not (u == 92) ≡ true → u ≡ 92 → ⊥
no_backslash u e same = let no : not (92 == 92) ≡ true = rw same at e in cc

module _ (units : List ℕ) (at u : ℕ) (lt : at < length units) (is : u ≡ get_or units at 0) (plain : is_plain_unit u ≡ true) where
  pub plain_next : escape (utf8_of (drop at units)) ≡ (u ∷ []) ++ escape (utf8_of (drop (at + 1) units))
  plain_next =
      let parts = and_parts (nat_le 32 u) (nat_lt u 128 && (not (u == 34) && not (u == 92))) plain in
      let more = and_parts (nat_lt u 128) (not (u == 34) && not (u == 92)) parts.1 in
      let last = and_parts (not (u == 34)) (not (u == 92)) more.1 in
      let low : 32 ≤ u = leb-true 32 u parts.0 in
      let high : u < 128 = ltb-true u 128 more.0 in
      let first : utf16_chars (drop at units) ≡ Some u ∷ utf16_chars (drop (at + 1) units) =
      chars-lone units at lt (λ pair. omega (arith, pair.0, is))
      ∙ ap (λ o. o ∷ utf16_chars (drop (at + 1) units)) (rw (← is) (lone-low u (omega arith))) in
      text-next units at (at + 1) (Some u) first
      ∙ ap (λ (x : List ℕ). x ++ escape (utf8_of (drop (at + 1) units)))
      (ap escape (encode_ascii u high) ∙ ap (λ (x : List ℕ). x ++ []) (escape_byte_plain u (no_quote u last.0) (no_backslash u last.1) low))
