-- The bytes of a part are taken.
use Rattle.std.proofs.Common.{◌≡◌, ◌∙◌, ◌==◌, ℕ, Bool, true, false, List, [], length, length-drop, Some, arith, ap, refl, subst, sym, drop, if◌then◌else◌}
use Rattle.std.proofs.lemmas.List.{length-take}
use Rattle.std.proofs.lemmas.Bool.Decides.{nat_tests}
use Rattle.mdmp_source.specs.Extent.{extent_of}
use Rattle.mdmp_source.specs.Range.{is_inside}
use Rattle.mdmp_source.specs.declared.location.Location.{Location}
use Rattle.mdmp_source.specs.declared.location.Extent.{Extent}
use Rattle.mdmp_source.specs.declared.location.Extent.TheVariants as classes
use Rattle.mdmp_wire.specs.Number.{array_at}
use Rattle.mdmp_lister.specs.Format.Item.{range_extent_of}
use Rattle.mdmp_wire.specs.declared.slot.PartName.{PartName}
use Rattle.mdmp_dump.specs.declared.part.Part.{Part}
use Rattle.mdmp_dump.specs.declared.part.Part.TheVariants as parts
use Rattle.mdmp_dump.specs.Part.{IsPart, part_in}
use Rattle.mdmp_dump.specs.Refusal.{location_steps, part_steps}
use Rattle.mdmp_dump.specs.Within.{part_size}
use Rattle.mdmp_dump.proofs.Within.Steps.{IsTaken, none_taken, one_taken}

-- bytes inside a file are as many as are asked for
pub length-array_at : (F : List ℕ) (at len : ℕ) → is_inside at len (length F) ≡ true → length (array_at F at len) ≡ len
unfolding array_at
length-array_at F at len inside = grind (arith, nat_tests, length-take len (drop at F), length-drop at F)

-- a location is said to lie inside only where it does
pub extent-inside : (at : Location) (z : ℕ) → extent_of at z ≡ classes.Inside → is_inside at.rva at.size z ≡ true
extent-inside at z is = by (at.size == 0) (at.rva == 0) (is_inside at.rva at.size z) is where
  by : (a b i : Bool) → (if a then classes.Empty else if b then classes.Absent else if i then classes.Inside else classes.Outside) ≡ classes.Inside → i ≡ true
  by true b i is = absurd (cc)
  by false true i is = absurd (cc)
  by false false true is = refl
  by false false false is = absurd (cc)

module _ {Z : Type 0} (F : List ℕ) (at : Location) (e k : ℕ) (name : PartName) where
  part_taken : (extent : Extent) (part : Part Z) → extent_of at (length F) ≡ extent → part_in F at extent ≡ Some part
      → IsTaken (location_steps e k name at extent) (part_size part)
  part_taken classes.Empty part is names = let same : parts.Bytes [] ≡ part = cc (names) in subst (λ (p : Part Z). IsTaken [] (part_size p)) same none_taken
  part_taken classes.Absent part is names = let same : parts.Absent at.size ≡ part = cc (names) in subst (λ (p : Part Z). IsTaken [] (part_size p)) same none_taken
  part_taken classes.Inside part is names =
      let same : parts.Bytes (array_at F at.rva at.size) ≡ part = cc (names) in
      let size : at.size ≡ part_size part = sym (length-array_at F at.rva at.size (extent-inside at (length F) is)) ∙ ap part_size same in
      subst (λ (n : ℕ). IsTaken (location_steps e k name at classes.Inside) n) size (one_taken e k at.rva at.size)
  part_taken classes.Outside part is names = absurd (cc (names))

  -- the part that a location names
  pub location_taken : (part : Part Z) → IsPart F at part → IsTaken (location_steps e k name at (extent_of at (length F))) (part_size part)
  location_taken part names = part_taken (extent_of at (length F)) part refl names

-- bytes at a place inside the file
pub range_taken : (z e k : ℕ) (name : PartName) (offset size : ℕ) → is_inside offset size z ≡ true → IsTaken (part_steps e k name offset size (range_extent_of offset size z)) size
range_taken z e k name offset size inside = by (size == 0) (is_inside offset size z) refl inside where
  by : (empty inside : Bool) → (size == 0) ≡ empty → inside ≡ true
      → IsTaken (part_steps e k name offset size (if empty then classes.Empty else if inside then classes.Inside else classes.Outside)) size
  by true inside is within =
      let zero : size ≡ 0 = grind (arith, nat_tests) in
      rw zero none_taken
  by false inside is within = rw within (one_taken e k offset size)
