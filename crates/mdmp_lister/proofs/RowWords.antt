-- Words of the answers that are worked out.
use Rattle.std.proofs.Common.{ℕ, List, [], ◌∷◌, Option, Some, None}
use Rattle.mdmp_source.specs.declared.location.Location.{Location}
use Rattle.mdmp_source.specs.declared.location.Extent.{Extent}
use Rattle.mdmp_source.specs.declared.location.Extent.TheVariants.{Empty}
use Rattle.mdmp_lister.specs.declared.fault.FaultKind.{FaultKind}
use Rattle.mdmp_lister.specs.declared.fault.ListFault.{ListFault}
use Rattle.mdmp_lister.specs.declared.item.Item.{Item}
use Rattle.mdmp_lister.specs.declared.item.Item.TheVariants.{Stream, Thread, Module, Unloaded, System}
use Rattle.mdmp_lister.specs.declared.name.Name.{Name}
use Rattle.mdmp_lister.specs.Format.Listing.{Run, Numbered}

abbrev pub at_location : ℕ → ℕ → Location
at_location size rva = record { size = size; rva = rva }

abbrev pub stream : ℕ → ℕ → ℕ → ℕ → Item
stream e t size rva = Stream (record { entry = e; stream_type = t; location = record { size = size; rva = rva } })

-- an entry of the directory, with its number
abbrev pub numbered : ℕ → ℕ → ℕ → ℕ → Numbered
numbered e t size rva = record { number = e; entry = record { stream_type = t; location = at_location size rva } }

-- a thread of id 7 without stack and context
abbrev pub plain_thread : ℕ → Item
plain_thread e = Thread (record {
  entry = e;
  index = 0;
  fields = record { thread_id = 7; suspend_count = 0; priority_class = 0; priority = 0; teb = 0; stack = record { start_of_memory_range = 0; memory = at_location 0 0 }; thread_context = at_location 0 0 };
  stack = Empty;
  context = Empty;
})

abbrev pub fault_of : ℕ → Option ℕ → FaultKind → ℕ → ℕ → ListFault
fault_of e index kind offset size = record { entry = e; index = index; kind = kind; offset = offset; size = size }

abbrev pub run : List Item → Option ListFault → Run
run items fault = record { items = items; fault = fault }

-- the index and the base of each module
abbrev pub bases : List Item → List ℕ
bases [] = []
bases (Module m ∷ items) = m.index ∷ m.fields.base_of_image ∷ bases items
bases (Unloaded u ∷ items) = u.index ∷ u.fields.base_of_image ∷ bases items
bases (_ ∷ items) = bases items

-- what the CodeView record of each module names, and its other debug record
abbrev pub debug_records : List Item → List Extent
debug_records [] = []
debug_records (Module m ∷ items) = m.codeview ∷ m.misc ∷ debug_records items
debug_records (_ ∷ items) = debug_records items

-- the Stream items alone
abbrev pub streams : List Item → List Item
streams [] = []
streams (Stream s ∷ items) = Stream s ∷ streams items
streams (_ ∷ items) = streams items

-- the name of the last item
abbrev pub name_of : Item → Option Name
name_of (Module m) = Some m.name
name_of (Unloaded u) = Some u.name
name_of (System s) = Some s.name
name_of _ = None

abbrev pub last_name : List Item → Option Name
last_name [] = None
last_name (x ∷ []) = name_of x
last_name (x ∷ y ∷ items) = last_name (y ∷ items)
