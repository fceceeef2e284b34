-- What is not refused by a view: each item asks for nothing that can't be had, and no fault stands behind them.
use Rattle.std.proofs.Common.{◌≡◌, ◌+◌, ◌*◌, ℕ, zero, suc, List, [], ◌∷◌, ◌++◌, length, Option, Some, None, Result, Ok, Err, refl, sym, subst, arith, flat_map, option_map}
use Rattle.std.proofs.lemmas.Grind.{flat_map-append}
use Rattle.mdmp_source.specs.declared.location.Extent.{Extent}
use Rattle.mdmp_source.specs.declared.location.Extent.TheVariants as classes
use Rattle.mdmp_wire.specs.AnyRecord.{name_rva}
use Rattle.mdmp_wire.specs.Units.{units_in}
use Rattle.mdmp_lister.specs.declared.fault.Fault.{Fault}
use Rattle.mdmp_lister.specs.declared.fault.ListFault.{ListFault}
use Rattle.mdmp_lister.specs.declared.item.Item.{Item}
use Rattle.mdmp_lister.specs.declared.kind.StreamKind.{StreamKind}
use Rattle.mdmp_lister.specs.declared.name.Name.{Name}
use Rattle.mdmp_lister.specs.declared.name.Name.TheVariants as names
use Rattle.mdmp_lister.specs.declared.shape.Shape.{Shape}
use Rattle.mdmp_lister.specs.Format.Item.{item_at, name_of, record_at}
use Rattle.mdmp_lister.specs.Format.Listing.{Run, item_then, items_from, joined, list_fault, only_fault, with_item}
use Rattle.mdmp_lister.specs.Format.Name.{name_at}
use Rattle.mdmp_wire.specs.declared.slot.PartName.{PartName}
use Rattle.mdmp_dump.specs.declared.fault.ReadFault.{ReadFault}
use Rattle.mdmp_dump.specs.declared.fault.ReadFault.TheVariants as faults
use Rattle.mdmp_dump.specs.FileRefusal.{first_told, run_told}
use Rattle.mdmp_dump.specs.InFile.{rows_in}
use Rattle.mdmp_dump.specs.LaysOut.{EachFrom}
use Rattle.mdmp_dump.specs.Refusal.{ReadStep, Refuse, Take, item_steps, name_steps, part_steps}
use Rattle.mdmp_dump.proofs.InFiles.{HasName}
use Rattle.mdmp_dump.proofs.Names.{name_stands}
use Rattle.mdmp_dump.proofs.RecordItems.{item_made, made}

-- ---- steps

-- no step is a refusal
abbrev pub IsQuiet : List ReadStep → Type 0
IsQuiet steps = first_told steps None ≡ None

pub told_last : (steps : List ReadStep) (fault : ReadFault) → first_told steps (Some fault) ≡ None → ⊥
unfolding first_told
told_last [] fault none = cc
told_last (Refuse other ∷ steps) fault none = cc
told_last (Take e k offset size ∷ steps) fault none = told_last steps fault none

pub told_both : (xs ys : List ReadStep) (last : Option ReadFault) → first_told (xs ++ ys) last ≡ None → IsQuiet xs × (first_told ys last ≡ None)
unfolding first_told
told_both [] ys last none = (refl, none)
told_both (Refuse fault ∷ xs) ys last none = absurd (cc)
told_both (Take e k offset size ∷ xs) ys last none = told_both xs ys last none

-- a part that is not refused does not lie outside
pub part_given : (e k : ℕ) (name : PartName) (offset size : ℕ) (x : Extent) → IsQuiet (part_steps e k name offset size x) → x ≡ classes.Outside → ⊥
unfolding first_told
part_given e k name offset size classes.Outside quiet is = cc quiet
part_given e k name offset size classes.Empty quiet is = cc is
part_given e k name offset size classes.Absent quiet is = cc is
part_given e k name offset size classes.Inside quiet is = cc is

-- a name that is not refused stands in the file
pub name_given : (F : List ℕ) (limit e k rva : ℕ) (n : Name) → name_at F rva limit ≡ Ok n → IsQuiet (name_steps e k n) → HasName F rva
unfolding first_told
name_given F limit e k rva names.None is quiet = (None, name_stands F rva limit names.None None is refl)
name_given F limit e k rva (names.Units units) is quiet = (Some (units_in units), name_stands F rva limit (names.Units units) (Some (units_in units)) is refl)
name_given F limit e k rva (names.Long size) is quiet = absurd (cc quiet)

-- ---- items

-- the item of a record that is not refused, whatever its name
pub item_given : {P : Type 0} (kind : StreamKind) (F : List ℕ) (limit e k at o : ℕ) (item : Item) → item_at F limit e k at o kind ≡ Ok item → IsQuiet (item_steps (length F) item)
    → ((n : Name) → name_of F limit (name_rva (record_at kind F o)) ≡ Ok n → IsQuiet (item_steps (length F) (made kind F limit e k at o n)) → P) → P
item_given kind F limit e k at o item is quiet with_name =
    let given = item_made kind F limit e k at o item is in
    with_name given.0 given.1.0 (subst (λ (x : Item). IsQuiet (item_steps (length F) x)) (sym given.1.1) quiet)

-- ---- runs

pub first_quiet : (F : List ℕ) (item : Item) (run : Run) → run_told F (with_item item run) ≡ None → IsQuiet (item_steps (length F) item) × (run_told F run ≡ None)
first_quiet F item run none = told_both (item_steps (length F) item) (flat_map (item_steps (length F)) run.items) (option_map faults.List run.fault) none

pub fault_told : (F : List ℕ) (fault : ListFault) → run_told F (only_fault fault) ≡ None → ⊥
fault_told F fault none = told_last [] (faults.List fault) none

joined_by : (F : List ℕ) (items : List Item) (fault : Option ListFault) (next : Run) → run_told F (joined (record { items = items; fault = fault }) next) ≡ None
    → (run_told F (record { items = items; fault = fault }) ≡ None) × (run_told F next ≡ None)
joined_by F items None next none =
    told_both (flat_map (item_steps (length F)) items) (flat_map (item_steps (length F)) next.items) (option_map faults.List next.fault)
    (subst (λ (steps : List ReadStep). first_told steps (option_map faults.List next.fault) ≡ None) (flat_map-append (item_steps (length F)) items next.items) none)
joined_by F items (Some fault) next none = absurd (told_last (flat_map (item_steps (length F)) items) (faults.List fault) none)

pub joined_quiet : (F : List ℕ) (first next : Run) → run_told F (joined first next) ≡ None → (run_told F first ≡ None) × (run_told F next ≡ None)
joined_quiet F first next none = joined_by F first.items first.fault next none

-- ---- the records of a stream

module _ {X : Type 0} (kind : StreamKind) (IsAt : ℕ → ℕ → X → Type 0) (f : ℕ → ℕ → X) (F : List ℕ) (limit e at : ℕ) (shape : Shape)
    (each : (k o : ℕ) (item : Item) → item_at F limit e k at o kind ≡ Ok item → IsQuiet (item_steps (length F) item) → IsAt k o (f k o)) where
  row_laid : (k o : ℕ) (item : Result Item Fault) (rest : Run) → item_at F limit e k at o kind ≡ item → run_told F (item_then e k item rest) ≡ None
      → IsAt k o (f k o) × (run_told F rest ≡ None)
  row_laid k o (Ok item) rest is none =
      let both = first_quiet F item rest none in
      (each k o item is both.0, both.1)
  row_laid k o (Err fault) rest is none = absurd (fault_told F (list_fault e (Some k) fault) none)

  pub rows_laid : (n k : ℕ) → run_told F (items_from F limit e at kind shape n k) ≡ None → EachFrom IsAt (at + shape.first) shape.stride k (rows_in f (at + shape.first) shape.stride k n)
  unfolding rows_in
  rows_laid zero k none = tt
  rows_laid (suc n) k none =
      let both = row_laid k (at + shape.first + k * shape.stride) (item_at F limit e k at (at + shape.first + k * shape.stride) kind) (items_from F limit e at kind shape n (k + 1)) refl none in
      (both.0, rows_laid n (k + 1) both.1)

pub rows_count : {X : Type 0} (f : ℕ → ℕ → X) (at stride k n : ℕ) → length (rows_in f at stride k n) ≡ n
unfolding rows_in
rows_count f at stride k zero = refl
rows_count f at stride k (suc n) = grind (arith, rows_count f at stride (k + 1) n)
