-- A list whose head was read while the file was opened counts no more ranges than there is room for.
use Rattle.std.proofs.Common.{◌≡◌, ◌≤◌, ◌<◌, ◌+◌, ◌-◌, ◌∙◌, arith, refl, sym, ℕ, List, length, Bool, true, false, Option, Some, None, Ok, if◌then◌else◌}
use Rattle.std.specs.Prelude.{IsTrue}
use Rattle.mdmp_wire.specs.declared.entry.Entry.{Entry}
use Rattle.mdmp_lister.specs.declared.kind.StreamKind.{StreamKind}
use Rattle.mdmp_lister.specs.declared.shape.Shape.{Shape}
use Rattle.mdmp_lister.specs.declared.stage.Stage.TheVariants.{Head, Records}
use Rattle.mdmp_lister.specs.declared.step.Step.{Step}
use Rattle.mdmp_lister.specs.declared.walk.Walk.{Walk}
use Rattle.mdmp_source.specs.Source.{SourceState}
use Rattle.mdmp_source.specs.declared.fault.SourceFault.TheVariants.{Changed}
use Rattle.mdmp_lister.specs.declared.fault.FaultKind.TheVariants.{Source}
use Rattle.mdmp_lister.specs.declared.fault.ListFault.{ListFault}
use Rattle.mdmp_lister.specs.Fault.{IsRanged, IsToldIn}
use Rattle.mdmp_lister.specs.Format.Numbers.{ranges_if, ranges_in}
use Rattle.mdmp_lister.specs.Walk.{SameEntry}
use Rattle.mdmp_lister.specs.Walk.Owing.{HasRoom, count_told, ranges_by}
use Rattle.mdmp_lister.specs.Format.Kind.{kind_of, lists_ranges}
use Rattle.mdmp_lister.specs.Format.Shape.{location_fault, shape_of}

shape-ranges : (F : List ℕ) (e : Entry) (kind : StreamKind) (shape : Shape) (list : Bool) → location_fault (length F) e ≡ None → kind_of e.stream_type ≡ Some kind
    → shape_of F e.location.rva e.location.size kind ≡ Ok shape → ranges_if F e list ≡ (if list then shape.count else 0)
shape-ranges F e kind shape true whole known shaped = rw (whole, known, shaped) refl
shape-ranges F e kind shape false whole known shaped = refl

pub ranges_in-shape : (F : List ℕ) (e : Entry) (kind : StreamKind) (shape : Shape) → location_fault (length F) e ≡ None → kind_of e.stream_type ≡ Some kind
    → shape_of F e.location.rva e.location.size kind ≡ Ok shape → ranges_in F e (kind_of e.stream_type) ≡ ranges_by kind shape.count
ranges_in-shape F e kind shape whole known shaped = rw known (shape-ranges F e kind shape (lists_ranges kind) whole known shaped)

module _ {S A : Type 0} (w : Walk S A) (room : ℕ) (kind : StreamKind) (shape : Shape) where
  pub ranges-counted : (file : List ℕ) → HasRoom room 0 w → w.stage ≡ Head → w.meter.source.store.content ≡ Some file → w.meter.source.size ≡ length file
      → location_fault w.meter.source.size w.current ≡ None → kind_of w.current.stream_type ≡ Some kind
      → shape_of file w.current.location.rva w.current.location.size kind ≡ Ok shape → ranges_by kind shape.count ≤ room
  ranges-counted file has head known size whole is shaped =
      let owed = rw head at (has.owed file known) in
      let counted = ranges_in-shape file w.current kind shape (rw (← size) whole) is shaped in
      omega (arith, owed, counted)

-- behind a record there is room for what it tells
ranges-split : (list : Bool) (all left : ℕ) → all ≡ left + 1 → (if list then left else 0) + (if list then 1 else 0) ≡ (if list then all else 0)
ranges-split true all left same = sym same
ranges-split false all left same = refl

module _ {S A : Type 0} (old new : Walk S A) (kind : StreamKind) (shape : Shape) (k offset next : ℕ) (step : Step) (at : old.stage ≡ Records kind shape k offset) (on : new.stage ≡ Records kind shape (k + 1) next) where
  pub room_taken : k < shape.count → count_told step ≡ ranges_by kind 1 → SameEntry old new → new.meter.source.store.content ≡ old.meter.source.store.content → (room : ℕ)
      → HasRoom room 0 old → HasRoom room (count_told step) new
  room_taken left counts same content room has =
      let split = ranges-split (lists_ranges kind) (shape.count - k) (shape.count - (k + 1)) (omega (arith, left)) in
      let ahead = rw at at has.ahead in
      record {
        ahead = rw (on, counts) (omega (arith, ahead, split));
        owed = λ file known.
            let owed = rw at at (has.owed file (sym content ∙ known)) in
            rw (on, counts, same.room.choice, same.next) (omega (arith, owed, split));
      }

-- what is of no file is not known
pub unknown : (content : Option (List ℕ)) → ((file : List ℕ) → content ≡ Some file → ⊥) → content ≡ None
unknown None never = refl
unknown (Some file) never = absurd (never file refl)

-- a list that tells ranges is a memory list
pub ranged : (known : Option StreamKind) (kind : StreamKind) (count room : ℕ) → known ≡ Some kind → room < ranges_by kind count → IsRanged known
ranged known kind count room is some = rw is (lists (lists_ranges kind) some) where
  lists : (list : Bool) → room < (if list then count else 0) → IsTrue list
  lists true some = refl
  lists false some = absurd (omega (arith, some))

-- that a store has changed is told at the list's RVA
pub told_changed : (e : Entry) (f : ListFault) (old new : SourceState) → f.kind ≡ Source (Changed e.location.rva) → (f.offset ≡ e.location.rva) × (f.size ≡ 0) → f.index ≡ None
    → old.store.content ≡ None → IsRanged (kind_of e.stream_type) → IsToldIn e f old new
told_changed e f old new kind place none unknown list = record { by = rw kind (unknown, (refl, list)); placed = rw kind (place.0, (place.1, none)) }
