-- Bytes are said to lie inside a file of z bytes only where they do.
use Rattle.std.proofs.Common.{◌≡◌, ◌≤◌, ◌<◌, ◌+◌, ◌==◌, ℕ, Bool, true, false, arith, refl, if◌then◌else◌}
use Rattle.std.proofs.lemmas.Bool.Decides.{nat_tests}
use Rattle.mdmp_source.specs.Extent.{extent_of}
use Rattle.mdmp_source.specs.Range.{is_inside}
use Rattle.mdmp_source.specs.declared.location.Location.{Location}
use Rattle.mdmp_source.specs.declared.location.Extent.{Extent}
use Rattle.mdmp_source.specs.declared.location.Extent.TheVariants.{Empty, Inside, Outside}
use Rattle.mdmp_lister.specs.Format.Item.{range_extent_of}
use Rattle.mdmp_dump.proofs.Within.Part.{extent-inside}

some_in : (size : ℕ) (b : Bool) (rest : Extent) → (size == 0) ≡ b → (if b then Empty else rest) ≡ Inside → 0 < size
some_in size true rest none is = absurd (cc is)
some_in size false rest some is = grind (arith, nat_tests, some)

pub extent_in : (at : Location) (z : ℕ) → extent_of at z ≡ Inside → (0 < at.size) × (at.rva + at.size ≤ z)
extent_in at z is =
    let some = some_in at.size (at.size == 0) _ refl is in
    let inside = extent-inside at z is in
    (some, grind (arith, nat_tests, some, inside))

-- bytes are said to lie inside only where they do
range_inside_by : (a i : Bool) → (if a then Empty else if i then Inside else Outside) ≡ Inside → i ≡ true
range_inside_by true i is = absurd (cc is)
range_inside_by false true is = refl
range_inside_by false false is = absurd (cc is)

pub range_in : (offset size z : ℕ) → range_extent_of offset size z ≡ Inside → (0 < size) × (offset + size ≤ z)
range_in offset size z is =
    let some = some_in size (size == 0) _ refl is in
    let inside = range_inside_by (size == 0) (is_inside offset size z) is in
    (some, grind (arith, nat_tests, some, inside))
