-- The name that a reader was told stands in the file.
use Rattle.std.proofs.Common.{◌≡◌, ◌∙◌, ◌+◌, ◌%◌, ◌==◌, ℕ, Bool, true, false, List, length, Option, Some, None, Ok, Err, ap, arith, nat_lt, refl, sym, if◌then◌else◌}
use Rattle.std.specs.Prelude.{not}
use Rattle.std.specs.Result.{result_map_both}
use Rattle.std.proofs.lemmas.Bool.Decides.{nat_tests}
use Rattle.mdmp_source.specs.Range.{is_inside}
use Rattle.mdmp_wire.specs.Number.{array_at, number_at}
use Rattle.mdmp_wire.specs.AnyRecord.{slot_name}
use Rattle.mdmp_wire.specs.Units.{units_over}
use Rattle.mdmp_wire.specs.declared.slot.Slot.{Slot}
use Rattle.mdmp_wire.specs.declared.slot.Slot.TheVariants as slots
use Rattle.mdmp_wire.specs.declared.units_ref.UnitsRef.{UnitsRef}
use Rattle.mdmp_lister.specs.declared.fault.Fault.{Fault}
use Rattle.mdmp_lister.specs.declared.name.Name.{Name}
use Rattle.mdmp_lister.specs.declared.name.Name.TheVariants as names
use Rattle.mdmp_lister.specs.Format.Item.{name_of}
use Rattle.mdmp_lister.specs.Format.Name.{name_at}
use Rattle.mdmp_dump.specs.Name.{IsName, name_told}
use Rattle.mdmp_dump.specs.Reading.{IsSlotName}
use Rattle.mdmp_dump.proofs.RecordItems.{name_by}

-- bytes inside a file are no more than it has
pub inside_few : (at len size : ℕ) → is_inside at len size ≡ true → nat_lt size len ≡ false
inside_few at len size inside = grind (arith, nat_tests)

module _ (n : Name) (name : Option (List ℕ)) (told : name_told n ≡ Some name) where
  told_as : (m : Name) → m ≡ n → result_map_both name_told (λ (f : Fault). f) (Ok m) ≡ Ok (Some name)
  told_as m same = let one : name_told m ≡ name_told n = ap name_told same in ap Ok (one ∙ told)

  not_long : (bytes : ℕ) → names.Long bytes ≡ n → ⊥
  not_long bytes same = let one : None ≡ name_told n = ap name_told same in cc

  -- under another limit, that no name inside the file is over
  told_by : (absent measured odd inside long longer : Bool) (a b c : Fault) (bytes : ℕ) (units : UnitsRef) → (inside ≡ true → longer ≡ false)
      → (if absent then Ok names.None else if not measured then Err a else if odd then Err b else if not inside then Err c else if long then Ok (names.Long bytes) else Ok (names.Units units)) ≡ Ok n
      → result_map_both name_told (λ (f : Fault). f)
      (if absent then Ok names.None else if not measured then Err a else if odd then Err b else if not inside then Err c else if longer then Ok (names.Long bytes) else Ok (names.Units units))
      ≡ Ok (Some name)
  told_by true measured odd inside long longer a b c bytes units fits is = told_as names.None cc
  told_by false false odd inside long longer a b c bytes units fits is = absurd (cc)
  told_by false true true inside long longer a b c bytes units fits is = absurd (cc)
  told_by false true false false long longer a b c bytes units fits is = absurd (cc)
  told_by false true false true true longer a b c bytes units fits is = absurd (not_long bytes cc)
  told_by false true false true false longer a b c bytes units fits is = rw (fits refl) (told_as (names.Units units) cc)

-- the name at rva that was told, under any limit
pub name_stands : (F : List ℕ) (rva limit : ℕ) (n : Name) (name : Option (List ℕ)) → name_at F rva limit ≡ Ok n → name_told n ≡ Some name → IsName F rva name
unfolding name_at
name_stands F rva limit n name is told =
    let bytes = number_at F rva 4 in
    told_by n name told (rva == 0) (is_inside rva 4 (length F)) (bytes % 2 == 1) (is_inside (rva + 4) bytes (length F)) (nat_lt limit bytes) (nat_lt (length F) bytes) _ _ _ bytes
    (units_over (array_at F (rva + 4) bytes)) (inside_few (rva + 4) bytes (length F)) is

-- the name that was read of a record stands where its slot says
pub slot_name_stands : (F : List ℕ) (limit : ℕ) (s : Slot) (n m : Name) (name : Option (List ℕ)) → name_of F limit (slot_name s) ≡ Ok n → name_by (slot_name s) m ≡ name_by (slot_name s) n
    → name_told m ≡ Some name → IsSlotName F s name
slot_name_stands F limit (slots.Name rva) n m name is same told = name_stands F rva limit n name is (ap name_told (sym same) ∙ told)
slot_name_stands F limit slots.Empty n m name is same told = tt
slot_name_stands F limit (slots.Part part at) n m name is same told = tt
slot_name_stands F limit (slots.Behind count) n m name is same told = tt
