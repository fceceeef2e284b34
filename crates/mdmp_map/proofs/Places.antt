-- What is left at a place, if one was found.
use Rattle.std.proofs.Common.{◌≡◌, ◌≤◌, ◌<◌, ◌+◌, ℕ, List, Option, Some, None, sym}
use Rattle.std.specs.Prelude.{All, IfSome}
use Rattle.mdmp_map.specs.declared.range.Range.{Range}
use Rattle.mdmp_map.specs.declared.place.Place.{Place}
use Rattle.mdmp_map.specs.declared.found.Found.{Found}
use Rattle.mdmp_map.specs.declared.found.Found.TheVariants.{Held, Gap}
use Rattle.mdmp_map.specs.Finding.{HasReach, IfHeld, IsFound}
use Rattle.mdmp_map.specs.Ranges.{IsGreatestLeft, IsPlaced, IsWithin, first_range, place_of}
use Rattle.mdmp_map.specs.RangeLaws.{place-left, place-within}
use Rattle.mdmp_map.proofs.Scanning.{place_of-IsGreatestLeft}

pub left_greatest : (ranges : List Range) (address : ℕ) (found : Option Place) → found ≡ place_of ranges address → All IsPlaced ranges
    → IfSome found (λ place. (r : Range) → first_range ranges address ≡ Some r → IsGreatestLeft ranges address r place.left)
left_greatest ranges address None is placed = tt
left_greatest ranges address (Some place) is placed = place_of-IsGreatestLeft address place ranges placed is

pub some_left : (ranges : List Range) (address : ℕ) (found : Option Place) → found ≡ place_of ranges address → IfSome found (λ place. 0 < place.left)
some_left ranges address None is = tt
some_left ranges address (Some place) is = place-left ranges address place (sym is)

pub left_within : (ranges : List Range) (address size : ℕ) (found : Option Place) → found ≡ place_of ranges address → All (IsWithin size) ranges
    → IfSome found (λ place. place.offset + place.left ≤ size)
left_within ranges address size None is all = tt
left_within ranges address size (Some place) is all = place-within ranges address size place all (sym is)

pub held_reaches : (ranges : List Range) (address : ℕ) (found : Found) → IsFound ranges address found → All IsPlaced ranges
    → IfHeld found (HasReach ranges address)
held_reaches ranges address (Gap count) is placed = tt
held_reaches ranges address (Held place) is placed = record {
  left = place_of-IsGreatestLeft address place ranges placed is;
  some = place-left ranges address place (sym is);
  within = λ size all. place-within ranges address size place all (sym is);
}
