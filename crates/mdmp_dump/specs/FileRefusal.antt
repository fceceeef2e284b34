-- Why a file gives no view of its dump, where memory suffices and its bytes are obtained: parts are not taken, so that they
-- have no limit, and neither has the number of ranges of memory.
use Rattle.std.specs.Prelude.{◌≡◌, ℕ, ◌+◌, List, [], ◌∷◌, length, Option, Some, None, option_map, flat_map}
use Rattle.mdmp_lister.specs.declared.choice.Choice.{Choice}
use Rattle.mdmp_lister.specs.declared.fault.FaultKind.{FaultKind}
use Rattle.mdmp_lister.specs.declared.fault.FaultKind.TheVariants as kinds
use Rattle.mdmp_lister.specs.declared.fault.OpenFault.{OpenFault}
use Rattle.mdmp_lister.specs.declared.fault.OpenFault.TheVariants as opening
use Rattle.mdmp_lister.specs.Fault.{TellsNoChange}
use Rattle.mdmp_lister.specs.Following.{FitsFile}
use Rattle.mdmp_lister.specs.Format.Listing.{Numbered, Run, entry_listing, listing}
use Rattle.mdmp_lister.specs.Format.Refusal.{directory_refusal}
use Rattle.mdmp_lister.specs.Opening.{IsBareRefusal}
use Rattle.mdmp_dump.specs.declared.fault.ReadFault.{ReadFault}
use Rattle.mdmp_dump.specs.declared.fault.ReadFault.TheVariants as faults
use Rattle.mdmp_dump.specs.Left.{body_from}
use Rattle.mdmp_dump.specs.Refusal.{ReadStep, Refuse, Take, item_steps}

-- the first step that is refused, or else the last fault
unfoldable pub first_told : List ReadStep → Option ReadFault → Option ReadFault
first_told [] last = last
first_told (Refuse fault ∷ steps) last = Some fault
first_told (Take e k offset size ∷ steps) last = first_told steps last

-- the bytes that some steps take
unfoldable pub taken_by : List ReadStep → ℕ
taken_by [] = 0
taken_by (Refuse fault ∷ steps) = taken_by steps
taken_by (Take e k offset size ∷ steps) = size + taken_by steps

-- the first refusal among the items of a run, or else its fault
abbrev pub run_told : List ℕ → Run → Option ReadFault
run_told F run = first_told (flat_map (item_steps (length F)) run.items) (option_map faults.List run.fault)

-- the first refusal among what an entry gives
abbrev pub entry_told : List ℕ → ℕ → Numbered → Option ReadFault
entry_told F name_limit x = run_told F (entry_listing F name_limit x)

-- and among what is left of it behind its Stream item and k of its records
abbrev pub body_told : List ℕ → ℕ → Numbered → ℕ → Option ReadFault
body_told F name_limit x k = run_told F (body_from F name_limit x k)

abbrev pub opened_told : List ℕ → Choice → ℕ → Option OpenFault → Option ReadFault
opened_told F choice name_limit (Some fault) = Some (faults.Opening fault)
opened_told F choice name_limit None = run_told F (listing F choice name_limit)

-- the first reason why F gives no view of its chosen entries, where names have at most name_limit bytes each, or none
abbrev pub view_refusal : List ℕ → Choice → ℕ → Option ReadFault
view_refusal F choice name_limit = opened_told F choice name_limit (directory_refusal F)

-- a fault of a listing is not that its budget was reached: a walk has none
abbrev pub IsUnbudgeted : FaultKind → Type 0
IsUnbudgeted kinds.Budget = ⊥
IsUnbudgeted kind = Unit {0}

-- a walk may answer this fault, whatever the file's bytes: none of its opening, parts have no limit, its budget was lifted, and
-- its listing, which keeps no ranges, never tells that the file has changed
abbrev pub IsOfWalk : ReadFault → Type 0
IsOfWalk (faults.Opening fault) = ⊥
IsOfWalk (faults.PartsTooLarge e k) = ⊥
IsOfWalk (faults.List fault) = IsUnbudgeted fault.kind × TellsNoChange fault.kind
IsOfWalk fault = Unit {0}

-- the opening of a view may answer this fault while it walks over the streams: its budget is told only if there is one
abbrev pub IsOfOpening : Option ℕ → ReadFault → Type 0
IsOfOpening budget (faults.Opening (opening.Budget offset size)) = budget ≡ None → ⊥
IsOfOpening budget fault = IsOfWalk fault

-- a file of `size` bytes may be refused so, whatever they are: of its opening no number of ranges is told, and the budget
-- only if there is one
abbrev pub IsViewRefusal : Option ℕ → ℕ → ReadFault → Type 0
IsViewRefusal budget size (faults.Opening opening.Memory) = ⊥
IsViewRefusal budget size (faults.Opening (opening.Budget offset len)) = (budget ≡ None → ⊥) × IsBareRefusal size (opening.Budget offset len)
IsViewRefusal budget size (faults.Opening fault) = IsBareRefusal size fault
IsViewRefusal budget size (faults.List fault) = FitsFile size fault × IsUnbudgeted fault.kind
IsViewRefusal budget size fault = IsOfWalk fault

-- the bytes of all parts inside F, and of the streams whose records are not known
abbrev pub parts_taken : List ℕ → Choice → ℕ → ℕ
parts_taken F choice name_limit = taken_by (flat_map (item_steps (length F)) (listing F choice name_limit).items)
