-- The name at an RVA under one limit and under another.
use Rattle.std.proofs.Common.{◌≡◌, ◌∙◌, ◌⊎◌, ◌+◌, ◌-◌, ◌*◌, ◌/◌, ◌%◌, ◌<◌, ◌≤◌, ◌^◌, ◌==◌, ℕ, Bool, true, false, List, [], length, Some, None, Result, Ok, Err, ap, arith, inl, inr, nat_lt, refl, subst, sym, take, drop, if◌then◌else◌, lt-ltb, le-ltb}
use Rattle.std.specs.Prelude.{not, slice_index}
use Rattle.std.proofs.lemmas.Bool.Decides.{nat_tests}
use Rattle.std.proofs.lemmas.List.{get_or-drop, get_or-take, get_or_past, length-take, take_all}
use Rattle.mdmp_source.specs.Range.{bytes_at, is_inside}
use Rattle.mdmp_wire.specs.Number.{array_at, les, number_at}
use Rattle.mdmp_wire.specs.NumberLaws.{length-numbers_at}
use Rattle.mdmp_wire.specs.Units.{units_of, units_over}
use Rattle.mdmp_wire.specs.UnitsLaws.{les_of_units}
use Rattle.mdmp_wire.specs.declared.units_ref.UnitsRef.{UnitsRef}
use Rattle.mdmp_lister.specs.declared.fault.Fault.{Fault}
use Rattle.mdmp_lister.specs.declared.name.Name.{Name}
use Rattle.mdmp_lister.specs.declared.name.Name.TheVariants as names
use Rattle.mdmp_lister.specs.Format.Name.{name_at}
use Rattle.mdmp_dump.specs.InFile.{name_in, part_or, units_told}
use Rattle.mdmp_dump.specs.Seen.{bytes_of, name_size, size_of, unit_bytes}
use Rattle.mdmp_dump.specs.declared.view.PartSize.TheVariants.{Absent, Size}
use Rattle.mdmp_source.specs.Extent.{extent_of}
use Rattle.mdmp_source.specs.declared.location.Location.{Location}
use Rattle.mdmp_source.specs.declared.location.Extent.{Extent}
use Rattle.mdmp_source.specs.declared.location.Extent.TheVariants as classes
use Rattle.mdmp_dump.specs.FoundRecord.{no_part}
use Rattle.mdmp_dump.specs.FileRefusal.{first_told}
use Rattle.mdmp_source.specs.Store.{AreBytes}
use Rattle.mdmp_dump.specs.Finding.{IsFoundInFile, FindsName, FindsPart}
use Rattle.mdmp_dump.specs.Part.{part_in}
use Rattle.std.proofs.lemmas.Bool.{eqb-true}
use Rattle.mdmp_lister.specs.Format.Item.{range_extent_of}
use Rattle.mdmp_wire.specs.declared.slot.PartName.TheVariants.{Memory}
use Rattle.mdmp_dump.specs.Refusal.{location_steps, part_steps}
use Rattle.mdmp_wire.specs.declared.slot.PartName.{PartName}
use Rattle.mdmp_dump.specs.declared.fault.ReadFault.{ReadFault}
use Rattle.mdmp_dump.specs.declared.fault.ReadFault.TheVariants as faults
use Rattle.mdmp_dump.specs.declared.found_record.PartAt.{PartAt}
use Rattle.mdmp_dump.proofs.Budget.{array_is}
use Rattle.mdmp_dump.proofs.Names.{inside_few}
use Rattle.mdmp_dump.proofs.Within.Part.{extent-inside, length-array_at}

-- a name of so many bytes, under a limit
abbrev pub name_under : List ℕ → ℕ → ℕ → ℕ → Name
name_under F rva limit bytes = if nat_lt limit bytes then names.Long bytes else names.Units (units_over (array_at F (rva + 4) bytes))

-- there is a name at rva, of so many bytes, an even number of them and inside the file
pub record HasLength (F : List ℕ) (rva bytes : ℕ) : Type 0 where
  pub even : (bytes % 2 == 1) ≡ false
  pub inside : is_inside (rva + 4) bytes (length F) ≡ true
  pub under : (limit : ℕ) → name_at F rva limit ≡ Ok (name_under F rva limit bytes)

-- no name, under any limit; or one of a length
abbrev pub IsLimited : List ℕ → ℕ → ℕ → Name → Type 0
IsLimited F rva limit n = ((n ≡ names.None) × ((other : ℕ) → name_at F rva other ≡ Ok names.None)) ⊎ (HasLength F rva (number_at F rva 4) × (n ≡ name_under F rva limit (number_at F rva 4)))

module _ (F : List ℕ) (rva : ℕ) where
  -- as name_at does, by its tests
  abbrev name_by : Bool → Bool → Bool → Bool → Bool → Fault → Fault → Fault → Result Name Fault
  name_by absent measured odd inside long a b c =
      if absent then Ok names.None else if not measured then Err a else if odd then Err b else if not inside then Err c
      else if long then Ok (names.Long (number_at F rva 4)) else Ok (names.Units (units_over (array_at F (rva + 4) (number_at F rva 4))))

  abbrev ok_by : Bool → Name → Name → Result Name Fault
  ok_by b one other = if b then Ok one else Ok other

  ok_of : (b : Bool) (one other : Name) → ok_by b one other ≡ Ok (if b then one else other)
  ok_of true one other = refl
  ok_of false one other = refl

  under_by : (limit : ℕ) → ok_by (nat_lt limit (number_at F rva 4)) (names.Long (number_at F rva 4)) (names.Units (units_over (array_at F (rva + 4) (number_at F rva 4)))) ≡ Ok (name_under F rva limit (number_at F rva 4))
  under_by limit = ok_of (nat_lt limit (number_at F rva 4)) (names.Long (number_at F rva 4)) (names.Units (units_over (array_at F (rva + 4) (number_at F rva 4))))

  limited_by : (limit : ℕ) (n : Name) (absent measured odd inside : Bool) (a b c : Fault)
      → (rva == 0) ≡ absent → is_inside rva 4 (length F) ≡ measured → (number_at F rva 4 % 2 == 1) ≡ odd → is_inside (rva + 4) (number_at F rva 4) (length F) ≡ inside
      → ((other : ℕ) → name_at F rva other ≡ name_by absent measured odd inside (nat_lt other (number_at F rva 4)) a b c)
      → name_by absent measured odd inside (nat_lt limit (number_at F rva 4)) a b c ≡ Ok n → IsLimited F rva limit n
  limited_by limit n true measured odd inside a b c e1 e2 e3 e4 all is = inl (sym (cc is), all)
  limited_by limit n false false odd inside a b c e1 e2 e3 e4 all is = absurd (cc is)
  limited_by limit n false true true inside a b c e1 e2 e3 e4 all is = absurd (cc is)
  limited_by limit n false true false false a b c e1 e2 e3 e4 all is = absurd (cc is)
  limited_by limit n false true false true a b c e1 e2 e3 e4 all is =
      let given : Ok (name_under F rva limit (number_at F rva 4)) ≡ Ok n = sym (under_by limit) ∙ is in
      inr (record { even = e3; inside = e4; under = λ other. all other ∙ under_by other }, sym (cc given))

  -- what a name under one limit tells of those under others
  pub limited : (limit : ℕ) (n : Name) → name_at F rva limit ≡ Ok n → IsLimited F rva limit n
  unfolding name_at
  limited limit n is =
      limited_by limit n (rva == 0) (is_inside rva 4 (length F)) (number_at F rva 4 % 2 == 1) (is_inside (rva + 4) (number_at F rva 4) (length F)) _ _ _ refl refl refl refl (λ other. refl) is

  refused_by : (limit other : ℕ) (f : Fault) (absent measured odd inside : Bool) (a b c : Fault)
      → name_by absent measured odd inside (nat_lt limit (number_at F rva 4)) a b c ≡ Err f → name_by absent measured odd inside (nat_lt other (number_at F rva 4)) a b c ≡ Err f
  refused_by limit other f true measured odd inside a b c is = absurd (cc is)
  refused_by limit other f false false odd inside a b c is = is
  refused_by limit other f false true true inside a b c is = is
  refused_by limit other f false true false false a b c is = is
  refused_by limit other f false true false true a b c is = absurd (let given = under_by limit in cc (given, is))

  -- the fault of a name is that under any limit
  pub refused_under : (limit other : ℕ) (f : Fault) → name_at F rva limit ≡ Err f → name_at F rva other ≡ Err f
  unfolding name_at
  refused_under limit other f is =
      refused_by limit other f (rva == 0) (is_inside rva 4 (length F)) (number_at F rva 4 % 2 == 1) (is_inside (rva + 4) (number_at F rva 4) (length F)) _ _ _ is

  low_by : (limit : ℕ) (n : Name) (absent measured odd inside : Bool) (a b c : Fault) → (rva == 0) ≡ absent → is_inside rva 4 (length F) ≡ measured → length F < 2 ^ 64
      → name_by absent measured odd inside (nat_lt limit (number_at F rva 4)) a b c ≡ Ok n → rva + 4 < 2 ^ 64
  low_by limit n true measured odd inside a b c first second few is = let none : rva ≡ 0 = eqb-true rva 0 first in omega (arith, none)
  low_by limit n false true odd inside a b c first second few is = grind (arith, nat_tests, second, few)
  low_by limit n false false odd inside a b c first second few is = absurd (cc is)

  -- a name that was read stands where 4 may be added
  pub name_low : (limit : ℕ) (n : Name) → length F < 2 ^ 64 → name_at F rva limit ≡ Ok n → rva + 4 < 2 ^ 64
  unfolding name_at
  name_low limit n few is =
      low_by limit n (rva == 0) (is_inside rva 4 (length F)) (number_at F rva 4 % 2 == 1) (is_inside (rva + 4) (number_at F rva 4) (length F)) _ _ _ refl refl few is

  -- ---- the units of a name

  pub none_in : ((other : ℕ) → name_at F rva other ≡ Ok names.None) → name_in F rva ≡ None
  none_in all = ap units_told (all (length F))

  module _ (bytes : ℕ) (has : HasLength F rva bytes) where
    pub units_are : name_in F rva ≡ Some (units_of (array_at F (rva + 4) bytes))
    units_are =
        let short : nat_lt (length F) bytes ≡ false = inside_few (rva + 4) bytes (length F) has.inside in
        ap units_told (has.under (length F)) ∙ (rw short refl)

    len : length (array_at F (rva + 4) bytes) ≡ bytes
    len = length-array_at F (rva + 4) bytes has.inside

    pub size_is : name_size (name_in F rva) ≡ Size bytes
    size_is =
        let half : length (units_of (array_at F (rva + 4) bytes)) ≡ length (array_at F (rva + 4) bytes) / 2 = length-numbers_at (array_at F (rva + 4) bytes) 0 2 (length (array_at F (rva + 4) bytes) / 2) in
        let even = has.even in
        let whole : 2 * length (units_of (array_at F (rva + 4) bytes)) ≡ bytes = grind (arith, nat_tests, half, len, even) in
        ap name_size units_are ∙ ap Size whole

    part_fits : AreBytes F → AreBytes (array_at F (rva + 4) bytes)
    unfolding array_at
    part_fits fits k = by (nat_lt k bytes) refl where
      by : (b : Bool) → nat_lt k bytes ≡ b → slice_index (take bytes (drop (rva + 4) F)) k < 2 ^ 8
      by true is = let lt : k < bytes = grind (arith, nat_tests) in rw (get_or-take bytes (drop (rva + 4) F) k 0 lt, get_or-drop (rva + 4) F k 0) (fits (rva + 4 + k))
      by false is =
          let past : length (take bytes (drop (rva + 4) F)) ≤ k = grind (arith, nat_tests, length-take bytes (drop (rva + 4) F)) in
          rw (get_or_past (take bytes (drop (rva + 4) F)) k 0 past) (omega arith)

    pub bytes_are : AreBytes F → bytes_at F (rva + 4) bytes ≡ unit_bytes (name_in F rva)
    bytes_are fits =
        let array = array_at F (rva + 4) bytes in
        let even = has.even in
        let whole : bytes ≡ length array - length array % 2 = grind (arith, nat_tests, len, even) in
        let all : les 2 (units_of array) ≡ take bytes array = les_of_units array bytes (part_fits fits) whole in
        let same : take bytes array ≡ array = take_all bytes array (omega (arith, len)) in
        sym (array_is F (rva + 4) bytes) ∙ sym same ∙ sym all ∙ sym (ap unit_bytes units_are)

-- ---- what is found of a name

no_bytes : (F : List ℕ) (at : ℕ) → length (array_at F at 0) ≡ 0
unfolding array_at
no_bytes F at = refl

module _ (F : List ℕ) (rva limit e k : ℕ) where
  pub none_found : name_at F rva 0 ≡ Ok names.None → FindsName F limit e k rva (Ok no_part)
  unfolding first_told
  none_found is = by (limited F rva 0 names.None is) where
    by : IsLimited F rva 0 names.None → FindsName F limit e k rva (Ok no_part)
    by (inl none) = (names.None, (none.1 limit, (refl, (sym (ap name_size (none_in F rva none.1)), λ fits. sym (ap unit_bytes (none_in F rva none.1))))))
    by (inr some) = absurd (none_under (nat_lt 0 (number_at F rva 4)) some.1) where
      none_under : (b : Bool) → names.None ≡ (if b then names.Long (number_at F rva 4) else names.Units (units_over (array_at F (rva + 4) (number_at F rva 4)))) → ⊥
      none_under true same = cc same
      none_under false same = cc same

  -- so many bytes behind its length
  some_found : (bytes : ℕ) → HasLength F rva bytes → (nat_lt limit bytes ≡ false) → FindsName F limit e k rva (Ok (record { size = Size bytes; at = rva + 4 }))
  unfolding first_told
  some_found bytes has short =
      (names.Units (units_over (array_at F (rva + 4) bytes)), (has.under limit ∙ (rw short refl), (refl, (sym (size_is F rva bytes has), bytes_are F rva bytes has))))

  pub long_found : (bytes : ℕ) → name_at F rva 0 ≡ Ok (names.Long bytes) → bytes ≤ limit → FindsName F limit e k rva (Ok (record { size = Size bytes; at = rva + 4 }))
  long_found bytes is few = by (limited F rva 0 (names.Long bytes) is) where
    long_under : (b : Bool) → names.Long bytes ≡ (if b then names.Long (number_at F rva 4) else names.Units (units_over (array_at F (rva + 4) (number_at F rva 4)))) → number_at F rva 4 ≡ bytes
    long_under true same = sym (cc same)
    long_under false same = absurd (cc same)

    by : IsLimited F rva 0 (names.Long bytes) → FindsName F limit e k rva (Ok (record { size = Size bytes; at = rva + 4 }))
    by (inl none) = let other = none.0 in absurd (cc other)
    by (inr some) =
        let same : number_at F rva 4 ≡ bytes = long_under (nat_lt 0 (number_at F rva 4)) some.1 in
        some_found bytes (subst (λ (n : ℕ). HasLength F rva n) same some.0) (le-ltb _ _ few)

  pub long_refused : (bytes : ℕ) → name_at F rva 0 ≡ Ok (names.Long bytes) → limit < bytes → FindsName F limit e k rva (Err (faults.NameTooLong e k bytes))
  long_refused bytes is more = by (limited F rva 0 (names.Long bytes) is) where
    long_under : (b : Bool) → names.Long bytes ≡ (if b then names.Long (number_at F rva 4) else names.Units (units_over (array_at F (rva + 4) (number_at F rva 4)))) → number_at F rva 4 ≡ bytes
    long_under true same = sym (cc same)
    long_under false same = absurd (cc same)

    by : IsLimited F rva 0 (names.Long bytes) → FindsName F limit e k rva (Err (faults.NameTooLong e k bytes))
    by (inl none) = let other = none.0 in absurd (cc other)
    by (inr some) =
        let same : number_at F rva 4 ≡ bytes = long_under (nat_lt 0 (number_at F rva 4)) some.1 in
        let long : nat_lt limit bytes ≡ true = lt-ltb _ _ more in
        let given : name_at F rva limit ≡ Ok (name_under F rva limit bytes) = (subst (λ (n : ℕ). HasLength F rva n) same some.0).under limit in
        (names.Long bytes, (given ∙ (rw long refl), λ own. refl))

  -- units that were read with the limit 0 are none
  pub units_found : (units : List ℕ) → name_at F rva 0 ≡ Ok (names.Units (units_over units))
      → (length units ≡ 0) × FindsName F limit e k rva (Ok (record { size = Size (length units); at = rva + 4 }))
  units_found units is = by (limited F rva 0 (names.Units (units_over units)) is) where
    units_under : (b : Bool) → nat_lt 0 (number_at F rva 4) ≡ b
        → names.Units (units_over units) ≡ (if b then names.Long (number_at F rva 4) else names.Units (units_over (array_at F (rva + 4) (number_at F rva 4))))
        → (number_at F rva 4 ≡ 0) × (units ≡ array_at F (rva + 4) (number_at F rva 4))
    units_under true few same = absurd (cc same)
    units_under false few same =
        let over : units_over units ≡ units_over (array_at F (rva + 4) (number_at F rva 4)) = cc same in
        (grind (arith, nat_tests, few), ap (λ (u : UnitsRef). u.bytes.now) over)

    by : IsLimited F rva 0 (names.Units (units_over units)) → (length units ≡ 0) × FindsName F limit e k rva (Ok (record { size = Size (length units); at = rva + 4 }))
    by (inl none) = let other = none.0 in absurd (cc other)
    by (inr some) =
        let are = units_under (nat_lt 0 (number_at F rva 4)) refl some.1 in
        let has : HasLength F rva 0 = subst (λ (m : ℕ). HasLength F rva m) are.0 some.0 in
        let empty : units ≡ array_at F (rva + 4) 0 = are.1 ∙ ap (array_at F (rva + 4)) are.0 in
        let none : length units ≡ 0 = ap length empty ∙ no_bytes F (rva + 4) in
        (none, subst (λ (m : ℕ). FindsName F limit e k rva (Ok (record { size = Size m; at = rva + 4 }))) (sym none) (some_found 0 has (le-ltb limit 0 (omega arith))))

-- ---- what is found of a part

module _ (F : List ℕ) (e k : ℕ) (part : PartName) (at : Location) where
  abbrev part_found_at : Extent → Result PartAt ReadFault → Type 0
  part_found_at x result =
      IsFoundInFile F (location_steps e k part at x) (size_of (part_or (part_in {Z = Unit {0}} F at x))) (bytes_of (part_or (part_in {Z = Unit {0}} F at x))) result

  pub part_found : (x : Extent) (result : Result PartAt ReadFault) → extent_of at (length F) ≡ x → part_found_at x result → FindsPart F e k part at result
  part_found x result is found = subst (λ (y : Extent). part_found_at y result) (sym is) found

  pub part_empty : extent_of at (length F) ≡ classes.Empty → FindsPart F e k part at (Ok (record { size = Size 0; at = 0 }))
  unfolding first_told
  part_empty is = part_found classes.Empty (Ok (record { size = Size 0; at = 0 })) is (refl, (refl, λ fits. refl))

  pub part_absent : extent_of at (length F) ≡ classes.Absent → FindsPart F e k part at (Ok (record { size = Absent at.size; at = 0 }))
  unfolding first_told
  part_absent is = part_found classes.Absent (Ok (record { size = Absent at.size; at = 0 })) is (refl, (refl, λ fits. refl))

  pub part_inside : extent_of at (length F) ≡ classes.Inside → FindsPart F e k part at (Ok (record { size = Size at.size; at = at.rva }))
  unfolding first_told
  part_inside is =
      let size : at.size ≡ length (array_at F at.rva at.size) = sym (length-array_at F at.rva at.size (extent-inside at (length F) is)) in
      part_found classes.Inside (Ok (record { size = Size at.size; at = at.rva })) is (refl, (ap Size size, λ fits. sym (array_is F at.rva at.size)))

  pub part_outside : extent_of at (length F) ≡ classes.Outside → FindsPart F e k part at (Err (faults.PartOutside e k part at.rva at.size))
  part_outside is = part_found classes.Outside (Err (faults.PartOutside e k part at.rva at.size)) is (λ own. refl)

-- ---- what is found of a range of a 64-bit memory list

-- a test that is passed, by the class
empty_by : (empty inside : Bool) → (if empty then classes.Empty else if inside then classes.Inside else classes.Outside) ≡ classes.Empty → empty ≡ true
empty_by true inside is = refl
empty_by false true is = absurd (cc is)
empty_by false false is = absurd (cc is)

inside_by : (empty inside : Bool) → (if empty then classes.Empty else if inside then classes.Inside else classes.Outside) ≡ classes.Inside → inside ≡ true
inside_by true inside is = absurd (cc is)
inside_by false true is = refl
inside_by false false is = absurd (cc is)

absent_by : (empty inside : Bool) → (if empty then classes.Empty else if inside then classes.Inside else classes.Outside) ≡ classes.Absent → ⊥
absent_by true inside is = cc is
absent_by false true is = cc is
absent_by false false is = cc is

module _ (F : List ℕ) (e k offset size : ℕ) where
  abbrev pub range_found_at : Extent → Result PartAt ReadFault → Type 0
  range_found_at x result = IsFoundInFile F (part_steps e k Memory offset size x) (Size (length (array_at F offset size))) (array_at F offset size) result

  nothing_in : (n : ℕ) → n ≡ 0 → array_at F offset n ≡ []
  unfolding array_at
  nothing_in n none = rw none refl

  pub range_empty : range_extent_of offset size (length F) ≡ classes.Empty → range_found_at classes.Empty (Ok (record { size = Size 0; at = 0 }))
  unfolding first_told
  range_empty is =
      let none : size ≡ 0 = eqb-true size 0 (empty_by (size == 0) (is_inside offset size (length F)) is) in
      let same : array_at F offset size ≡ [] = nothing_in size none in
      (refl, (sym (ap (λ (b : List ℕ). Size (length b)) same), λ fits. sym same))

  pub range_inside : range_extent_of offset size (length F) ≡ classes.Inside → range_found_at classes.Inside (Ok (record { size = Size size; at = offset }))
  unfolding first_told
  range_inside is =
      let all : length (array_at F offset size) ≡ size = length-array_at F offset size (inside_by (size == 0) (is_inside offset size (length F)) is) in
      (refl, (sym (ap Size all), λ fits. sym (array_is F offset size)))

  pub range_absent : {P : Type 0} → range_extent_of offset size (length F) ≡ classes.Absent → P
  range_absent is = absurd (absent_by (size == 0) (is_inside offset size (length F)) is)
