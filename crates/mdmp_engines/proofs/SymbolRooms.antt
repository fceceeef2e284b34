-- The room for the name of a symbol file: no name in a file is longer than the file.
use Rattle.std.proofs.Common.{◌≡◌, ◌∙◌, ◌≤◌, ◌+◌, ◌-◌, ◌++◌, ℕ, List, [], ◌∷◌, Bool, true, false, Option, Some, None, Result, ap, arith, drop, length, min, refl, sym, take}
use Rattle.std.proofs.lemmas.List.{length-drop, take_min}
use Rattle.std.proofs.lemmas.List.Sums.{sum_by-le-sum_by}
use Rattle.std.specs.Prelude.{if◌then◌else◌}
use Rattle.mdmp_source.specs.declared.location.Extent.{Extent}
use Rattle.mdmp_source.specs.declared.location.Extent.TheVariants.{Empty, Absent, Inside, Outside}
use Rattle.mdmp_source.specs.declared.location.Location.{Location}
use Rattle.mdmp_source.specs.Extent.{extent_of}
use Rattle.mdmp_wire.specs.declared.module.ModuleRecord.{ModuleRecord}
use Rattle.mdmp_lister.specs.declared.item.Item.{Item}
use Rattle.mdmp_lister.specs.declared.meter.Amount.{Amount}
use Rattle.mdmp_summary.specs.Symbols.{symbols_head, symbols_rest}
use Rattle.mdmp_summary.specs.Visiting.{RisesOutside}
use Rattle.mdmp_summary_lines.specs.JsonIds.{codeview_ids_text}
use Rattle.mdmp_engines.specs.ObjectRuns.{ReadsItems}
use Rattle.mdmp_engines.specs.ObjectVisits.{module_cost, module_room}
use Rattle.mdmp_engines.specs.SummaryObject.{first_still, ids_in_class, ids_of, module_begun, module_front, modules_text}
use Rattle.mdmp_engines.specs.declared.fault.ToolFault.{ToolFault}

-- ---- the text is the same

take_by : (n m : ℕ) (xs : List ℕ) → min n (length xs) ≡ min m (length xs) → take n xs ≡ take m xs
take_by n m xs same = sym (take_min n xs) ∙ ap (λ (k : ℕ). take k xs) same ∙ take_min m xs

take_fits : (is_told : Bool) (s limit z : ℕ) (xs : List ℕ) → length xs ≤ z → take (if is_told then min s (min limit z) else 0) xs ≡ take (if is_told then min s limit else 0) xs
take_fits true s limit z xs few = take_by (min s (min limit z)) (min s limit) xs (omega (arith, few))
take_fits false s limit z xs few = refl

fewer : (at : ℕ) (F : List ℕ) → length (drop at F) ≤ length F
fewer at F = let same = length-drop at F in omega (arith, same)

rest_fits : (F : List ℕ) (at : Location) (limit : ℕ) → symbols_rest F at (min limit (length F)) ≡ symbols_rest F at limit
rest_fits F at limit = take_fits _ (at.size - 24) limit (length F) (drop (at.rva + 24) F) (fewer (at.rva + 24) F)

class_fits : (F : List ℕ) (limit : ℕ) (fields : ModuleRecord) (e : Extent) → ids_in_class F (min limit (length F)) fields e ≡ ids_in_class F limit fields e
class_fits F limit fields Inside = ap (λ (rest : List ℕ). codeview_ids_text fields (symbols_head F fields.cv_record) rest fields.cv_record.size) (rest_fits F fields.cv_record limit)
class_fits F limit fields Empty = refl
class_fits F limit fields Absent = refl
class_fits F limit fields Outside = refl

ids_fit : (F : List ℕ) (limit : ℕ) (begun : Option ModuleRecord) → ids_of F (min limit (length F)) begun ≡ ids_of F limit begun
ids_fit F limit (Some fields) = class_fits F limit fields (extent_of fields.cv_record (length F))
ids_fit F limit None = refl

texts_fit : (F : List ℕ) (limit : ℕ) (is_first : Bool) (xs : List Item) → modules_text F (min limit (length F)) is_first xs ≡ modules_text F limit is_first xs
texts_fit F limit is_first [] = refl
texts_fit F limit is_first (x ∷ xs) =
    let ids = ids_fit F limit (module_begun x) in
    let rest = texts_fit F limit (first_still is_first x) xs in
    λ i. (module_front is_first x ++ ids i) ++ rest i

pub modules_fit : (F : List ℕ) (limit room : ℕ) (is_first : Bool) (xs : List Item) → room ≡ min limit (length F) → modules_text F room is_first xs ≡ modules_text F limit is_first xs
modules_fit F limit room is_first xs enough = ap (λ (n : ℕ). modules_text F n is_first xs) enough ∙ texts_fit F limit is_first xs

-- ---- no more is read

pub within : (room symbols limit : ℕ) → room ≤ symbols → symbols ≤ limit → room ≤ limit
within room symbols limit most less = omega (arith, most, less)

module _ (room limit : ℕ) (most : room ≤ limit) where
  more_bytes : (begun : Option ModuleRecord) → (module_cost room begun).bytes ≤ (module_cost limit begun).bytes
  more_bytes (Some fields) = omega (arith, most)
  more_bytes None = omega arith

  more_calls : (begun : Option ModuleRecord) → (module_cost room begun).calls ≤ (module_cost limit begun).calls
  more_calls (Some fields) = omega arith
  more_calls None = omega arith

  rises_more : (items : List Item) (old new : Amount) → RisesOutside (module_room room) items old new → RisesOutside (module_room limit) items old new
  rises_more items old new rises = record {
    bytes =
        let rise = rises.bytes in
        let more = sum_by-le-sum_by (λ (x : Item). (module_room room x).bytes) (λ (x : Item). (module_room limit x).bytes) items (λ x. more_bytes (module_begun x)) in
        omega (arith, rise, more);
    calls =
        let rise = rises.calls in
        let more = sum_by-le-sum_by (λ (x : Item). (module_room room x).calls) (λ (x : Item). (module_room limit x).calls) items (λ x. more_calls (module_begun x)) in
        omega (arith, rise, more);
  }

  pub reads_more : (names : ℕ) (content : Option (List ℕ)) (r : Result (Unit {0}) ToolFault) (old new : Amount) → ReadsItems (module_room room) names content r old new → ReadsItems (module_room limit) names content r old new
  reads_more names content r old new reads = record { items = reads.items; outside = rises_more reads.items old new reads.outside; all = reads.all }
