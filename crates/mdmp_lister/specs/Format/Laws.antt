-- What the laws of a listing say: the part of it that a choice has, and the first of some verdicts that is bad.
use Rattle.std.specs.Prelude.{ℕ, List, [], ◌∷◌, filter, Option, Some, None, Bool, true, is_none}
use Rattle.std.specs.Option.{option_or}
use Rattle.mdmp_lister.specs.declared.choice.Choice.{Choice}
use Rattle.mdmp_lister.specs.declared.fault.ListFault.{ListFault}
use Rattle.mdmp_lister.specs.declared.item.Item.{Item}
use Rattle.mdmp_lister.specs.declared.verdict.Verdict.{Verdict}
use Rattle.mdmp_lister.specs.Format.Listing.{Run, entry_of, is_chosen}
use Rattle.mdmp_lister.specs.Format.Summary.{summary_of}

-- ---- the part of a listing that a choice has

-- the number of the entry that an item is of
abbrev pub entry_number : Item → ℕ
entry_number item = (summary_of item).entry

-- the choice has entry e of the directory
abbrev pub is_of : List ℕ → Choice → ℕ → Bool
is_of F choice e = is_chosen choice (entry_of F e).stream_type

-- a run without the items of entries that are not chosen
abbrev pub part_of : List ℕ → Choice → Run → Run
part_of F choice run = record { items = filter (λ x. is_of F choice (entry_number x)) run.items; fault = run.fault }

-- there is no fault, or it is of a chosen entry
abbrev pub stands_in : List ℕ → Choice → Option ListFault → Bool
stands_in F choice None = true
stands_in F choice (Some f) = is_of F choice f.entry

-- ---- verdicts in their order

-- the fault of the first verdict that has one, or none
abbrev pub first_fault : List Verdict → Option ListFault
first_fault [] = None
first_fault (v ∷ vs) = option_or v.fault (first_fault vs)

-- the entry has no fault
abbrev pub is_good : Verdict → Bool
is_good v = is_none v.fault
