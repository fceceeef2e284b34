use Rattle.std.proofs.Common.{◌≡◌, ◌+◌, ◌∷◌, ℕ, Option, None, Some, SomeIff, IsSome, ap, sym, ◌∙◌, arith, drop, get_or, inl, inr}
use Rattle.std.specs.Char.Utf16.{lone_unit_char, utf16_chars}
use Rattle.std.proofs.lemmas.List.{get_or_past}
use Rattle.mdmp_wire.specs.Units.{units_in}
use Rattle.mdmp_print.proofs.Unitwise.{IsPair, chars-lone, chars-pair, lone-high, lone-low, lone-surrogate}
use Rattle.mdmp_print.proofs.json_units.character_at.Goals as goal

is_value : (r : Option ℕ) (P : Type 0) (v : ℕ) → SomeIff r P v → IsSome r → Some v ≡ r
is_value None P v h some = cc
is_value (Some x) P v h some = ap Some (sym h.1)

pub overflow_add-result : goal.overflow_add-result
overflow_add-result c = omega (arith, c.requires, c.len-len.ensures)

pub overflow_add-result-then-high-ge56320 : goal.overflow_add-result-then-high-ge56320
overflow_add-result-then-high-ge56320 c = omega (arith, c.requires, c.len-len.ensures)

pub returns-then-high-lt55296-clause-first : goal.returns-then-high-lt55296-clause-first
returns-then-high-lt55296-clause-first c =
    let xs = units_in c.args.units.now in
    let at = c.args.at in
    let high = c.get-high.result in
    let made = is_value _ _ _ c.from_u32.ensures.value in
    let lone : lone_unit_char high ≡ c.from_u32.result = elim c.then-high-lt55296.branch [
      | goal.then-high-lt55296-via-then-high-lt55296 w ↦
          let low = w.if-high-lt55296.true in lone-low high low ∙ made (c.from_u32.ensures.succeeds (inl low))
      | goal.then-high-lt55296-via-else-high-lt55296+then-high-ge57344 w ↦
          let from = w.if-high-ge57344.true in lone-high high from ∙ made (c.from_u32.ensures.succeeds (inr (from, omega (arith, c.get-high.auto))))
    ] in
    chars-lone xs at c.requires (λ pair. omega (arith, pair.0, pair.1, c.get-high.ensures))
    ∙ ap (λ o. o ∷ utf16_chars (drop (at + 1) xs)) (ap lone_unit_char (sym c.get-high.ensures) ∙ lone)

pub returns-then-high-ge56320-clause-first : goal.returns-then-high-ge56320-clause-first
returns-then-high-ge56320-clause-first c =
    let xs = units_in c.args.units.now in
    let at = c.args.at in
    let apart = λ (pair : IsPair (get_or xs at 0) (get_or xs (at + 1) 0)). elim c.then-high-ge56320.branch as (λ _. ⊥) [
      | goal.then-high-ge56320-via-then-high-ge56320 w ↦ omega (arith, pair.1, c.get-high.ensures, w.if-high-ge56320.true)
      | goal.then-high-ge56320-via-else-high-ge56320+then-len-at-lt2 w ↦ omega (arith, pair.2, get_or_past xs (at + 1) 0 (omega (arith, c.len-len.ensures, w.if-len-at-lt2.true)))
    ] in
    chars-lone xs at c.requires apart
    ∙ ap (λ o. o ∷ utf16_chars (drop (at + 1) xs)) (ap lone_unit_char (sym c.get-high.ensures) ∙ lone-surrogate _ c.if-high-lt55296.false c.if-high-ge57344.false)

pub returns-then-low-lt56320-clause-first : goal.returns-then-low-lt56320-clause-first
returns-then-low-lt56320-clause-first c =
    let xs = units_in c.args.units.now in
    let at = c.args.at in
    let apart = λ (pair : IsPair (get_or xs at 0) (get_or xs (at + 1) 0)). elim c.then-low-lt56320.branch as (λ _. ⊥) [
      | goal.then-low-lt56320-via-then-low-lt56320 w ↦ omega (arith, pair.2, c.get-low.ensures, w.if-low-lt56320.true)
      | goal.then-low-lt56320-via-else-low-lt56320+then-low-ge57344 w ↦ omega (arith, pair.3, c.get-low.ensures, w.if-low-ge57344.true)
    ] in
    chars-lone xs at c.requires apart
    ∙ ap (λ o. o ∷ utf16_chars (drop (at + 1) xs)) (ap lone_unit_char (sym c.get-high.ensures) ∙ lone-surrogate _ c.if-high-lt55296.false c.if-high-ge57344.false)

pub returns-clause-first : goal.returns-clause-first
returns-clause-first c =
    let xs = units_in c.args.units.now in
    let at = c.args.at in
    let high = c.get-high.result in
    let low = c.get-low.result in
    let made = is_value _ _ _ c.from_u32-2.ensures.value (c.from_u32-2.ensures.succeeds (inr (omega arith, omega arith))) in
    chars-pair xs at (omega (arith, c.len-len.ensures)) (omega (arith, c.get-high.ensures), omega (arith, c.get-high.ensures), omega (arith, c.get-low.ensures), omega (arith, c.get-low.ensures))
    ∙ ap (λ o. o ∷ utf16_chars (drop (at + 2) xs)) (rw (← c.get-high.ensures, ← c.get-low.ensures) made)
