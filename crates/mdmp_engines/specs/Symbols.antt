-- Which CodeView records `list` tells, and how much of them it reads.
use Rattle.std.specs.Prelude.{◌≡◌, ◌+◌, ◌++◌, ◌∷◌, ℕ, List, Bool, true, Option, Some, None, min, sum_by}
use Rattle.mdmp_source.specs.declared.location.Extent.{Extent}
use Rattle.mdmp_source.specs.declared.location.Extent.TheVariants.{Inside}
use Rattle.mdmp_source.specs.declared.location.Location.{Location}
use Rattle.mdmp_lister.specs.CodeView.{codeview_head_of, fetched_behind}
use Rattle.mdmp_lister.specs.declared.item.Item.{Item}
use Rattle.mdmp_lister.specs.declared.item.Item.TheVariants as items
use Rattle.mdmp_engines.specs.Causes.{symbols_cost}
use Rattle.mdmp_engines.specs.declared.list.ModuleSymbols.{ModuleSymbols}

-- symbols whose record is of this class, if that is inside the file
abbrev pub inside_only : Extent → ModuleSymbols → Option ModuleSymbols
inside_only Inside symbols = Some symbols
inside_only class symbols = None

-- where the CodeView record of an item stands that is told: a module's, if it lies inside the file and such are asked for
abbrev pub symbols_of : Bool → Item → Option ModuleSymbols
symbols_of true (items.Module m) = inside_only m.codeview (record { place = record { entry = m.entry; index = m.index }; location = m.fields.cv_record })
symbols_of pdb item = None

-- how many bytes of it are read at most, with names of at most `limit` bytes
abbrev pub symbols_read : ℕ → Option ModuleSymbols → ℕ
symbols_read limit None = 0
symbols_read limit (Some of) = symbols_cost limit of.location.size

-- a record that is told stands at this place, and so many of its bytes are read at most
abbrev pub IsRecordAt : ℕ → Option ModuleSymbols → (offset size : ℕ) → Type 0
IsRecordAt limit None offset size = ⊥
IsRecordAt limit (Some of) offset size = (offset ≡ of.location.rva) × (size ≡ symbols_cost limit of.location.size)

-- it is that of one of these items
pub record IsRecordAmong (pdb : Bool) (limit : ℕ) (items : List Item) (offset size : ℕ) : Type 0 where
  pub before : List Item
  pub item : Item
  pub after : List Item
  pub is : items ≡ before ++ item ∷ after
  pub at : IsRecordAt limit (symbols_of pdb item) offset size

-- and of those of some items together: 24 bytes and a name for each, or the whole record if it is shorter
abbrev pub symbols_bytes : Bool → ℕ → List Item → ℕ
symbols_bytes pdb limit items = sum_by (λ item. symbols_read limit (symbols_of pdb item)) items

-- how many bytes of the record at a location of F are read: its first 24, and of one of the kind RSDS those that follow, up to `limit`
abbrev pub codeview_taken : List ℕ → ℕ → Location → ℕ
codeview_taken F limit at = min at.size 24 + fetched_behind (codeview_head_of F at) at.size limit

-- how many of one that is told, and of those of some items together
abbrev pub symbols_taken : List ℕ → ℕ → Option ModuleSymbols → ℕ
symbols_taken F limit None = 0
symbols_taken F limit (Some of) = codeview_taken F limit of.location

abbrev pub taken_bytes : List ℕ → Bool → ℕ → List Item → ℕ
taken_bytes F pdb limit items = sum_by (λ item. symbols_taken F limit (symbols_of pdb item)) items
