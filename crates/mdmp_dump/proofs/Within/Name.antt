-- A name within the limit is not refused.
use Rattle.std.proofs.Common.{◌≡◌, ◌+◌, ◌*◌, ◌/◌, ◌%◌, ◌≤◌, ◌==◌, ℕ, Bool, true, false, List, [], length, Option, Some, Result, Ok, Err, arith, nat_lt, refl, subst, if◌then◌else◌}
use Rattle.std.specs.Prelude.{not}
use Rattle.std.specs.Result.{result_map_both}
use Rattle.std.proofs.lemmas.Bool.Decides.{nat_tests}
use Rattle.mdmp_source.specs.Range.{is_inside}
use Rattle.mdmp_wire.specs.Number.{array_at, number_at}
use Rattle.mdmp_wire.specs.NumberLaws.{length-numbers_at}
use Rattle.mdmp_wire.specs.Units.{units_in, units_over}
use Rattle.mdmp_wire.specs.declared.units_ref.UnitsRef.{UnitsRef}
use Rattle.mdmp_lister.specs.declared.fault.Fault.{Fault}
use Rattle.mdmp_lister.specs.declared.name.Name.{Name}
use Rattle.mdmp_lister.specs.declared.name.Name.TheVariants as names
use Rattle.mdmp_lister.specs.Format.Name.{name_at}
use Rattle.mdmp_dump.specs.Name.{IsName, name_told}
use Rattle.mdmp_dump.specs.Refusal.{name_steps}
use Rattle.mdmp_dump.specs.Within.{IsNameWithin}
use Rattle.mdmp_dump.proofs.Names.{inside_few}
use Rattle.mdmp_dump.proofs.Within.Part.{length-array_at}

-- it is read, and asks for nothing
pub record IsShort (read : Result Name Fault) : Type 0 where
  pub name : Name
  pub given : read ≡ Ok name
  pub asked : (e k : ℕ) → name_steps e k name ≡ []

module _ (limit bytes : ℕ) (units : UnitsRef) (name : Option (List ℕ)) (within : IsNameWithin limit name) where
  -- as name_at does, under one limit that no name is over, and under another
  short_by : (absent measured odd inside longer long : Bool) (a b c : Fault) → (inside ≡ true → longer ≡ false)
      → (odd ≡ false → inside ≡ true → 2 * length (units_in units) ≤ limit → long ≡ false)
      → result_map_both name_told (λ (f : Fault). f)
      (if absent then Ok names.None else if not measured then Err a else if odd then Err b else if not inside then Err c else if longer then Ok (names.Long bytes) else Ok (names.Units units))
      ≡ Ok (Some name)
      → IsShort (if absent then Ok names.None else if not measured then Err a else if odd then Err b else if not inside then Err c else if long then Ok (names.Long bytes) else Ok (names.Units units))
  short_by true measured odd inside longer long a b c fits few is = record { name = names.None; given = refl; asked = λ e k. refl }
  short_by false false odd inside longer long a b c fits few is = absurd (cc)
  short_by false true true inside longer long a b c fits few is = absurd (cc)
  short_by false true false false longer long a b c fits few is = absurd (cc)
  short_by false true false true longer long a b c fits few is =
      let told = rw (fits refl) at is in
      let same : name ≡ Some (units_in units) = cc (told) in
      let size : 2 * length (units_in units) ≤ limit = subst (λ (n : Option (List ℕ)). IsNameWithin limit n) same within in
      rw (few refl refl size) (record { name = names.Units units; given = refl; asked = λ e k. refl })

-- even bytes inside the file are two for each unit
units_few : (F : List ℕ) (at bytes limit : ℕ) → (bytes % 2 == 1) ≡ false → is_inside at bytes (length F) ≡ true
    → 2 * length (units_in (units_over (array_at F at bytes))) ≤ limit → nat_lt limit bytes ≡ false
units_few F at bytes limit even inside few =
    let len : length (array_at F at bytes) ≡ bytes = length-array_at F at bytes inside in
    let half : length (units_in (units_over (array_at F at bytes))) ≡ length (array_at F at bytes) / 2 = length-numbers_at (array_at F at bytes) 0 2 (length (array_at F at bytes) / 2) in
    grind (arith, nat_tests)

-- the name that stands at rva
pub name_short : (F : List ℕ) (rva limit : ℕ) (name : Option (List ℕ)) → IsName F rva name → IsNameWithin limit name → IsShort (name_at F rva limit)
unfolding name_at
name_short F rva limit name is within =
    let bytes = number_at F rva 4 in
    short_by limit bytes (units_over (array_at F (rva + 4) bytes)) name within
    (rva == 0) (is_inside rva 4 (length F)) (bytes % 2 == 1) (is_inside (rva + 4) bytes (length F)) (nat_lt (length F) bytes) (nat_lt limit bytes) _ _ _
    (inside_few (rva + 4) bytes (length F)) (units_few F (rva + 4) bytes limit) is
