-- What a listing gives: items, up to the first fault.
use Rattle.std.specs.Prelude.{ℕ, zero, suc, ◌+◌, ◌-◌, ◌*◌, List, [], ◌∷◌, ◌++◌, length, map, Option, Some, None, Result, Ok, Err, Bool, true, ◌==◌, if◌then◌else◌}
use Rattle.std.specs.List.{list_any}
use Rattle.mdmp_wire.specs.declared.entry.Entry.{Entry}
use Rattle.mdmp_wire.specs.Header.{header_at}
use Rattle.mdmp_wire.specs.Entry.{entry_at}
use Rattle.mdmp_lister.specs.declared.kind.StreamKind.{StreamKind}
use Rattle.mdmp_lister.specs.declared.fault.Fault.{Fault}
use Rattle.mdmp_lister.specs.declared.fault.ListFault.{ListFault}
use Rattle.mdmp_lister.specs.declared.item.Item.{Item}
use Rattle.mdmp_lister.specs.declared.item.Item.TheVariants.{Stream}
use Rattle.mdmp_lister.specs.declared.choice.Choice.{Choice}
use Rattle.mdmp_lister.specs.declared.choice.Choice.TheVariants.{All, Types}
use Rattle.mdmp_lister.specs.declared.verdict.Verdict.{Verdict}
use Rattle.mdmp_lister.specs.declared.shape.Shape.{Shape}
use Rattle.mdmp_lister.specs.Format.Kind.{kind_of}
use Rattle.mdmp_lister.specs.Format.Shape.{shape_of, location_fault, record_count}
use Rattle.mdmp_lister.specs.Format.Item.{item_at}

-- ---- the chosen entries

-- an entry of the directory and its number
pub record Numbered : Type 0 where
  pub number : ℕ
  pub entry : Entry

-- the choice has this type
abbrev pub is_chosen : Choice → ℕ → Bool
is_chosen All t = true
is_chosen (Types types) t = list_any (λ x. x == t) types

-- the entries that list memory
abbrev pub memory_lists : Choice
memory_lists = Types (5 ∷ 9 ∷ [])

-- how many entries the directory has
abbrev pub entry_count : List ℕ → ℕ
entry_count F = (header_at F 0).number_of_streams

-- entry e of the directory
abbrev pub entry_of : List ℕ → ℕ → Entry
entry_of F e = entry_at F ((header_at F 0).stream_directory_rva + 12 * e)

-- the n entries from entry e on, with their numbers
unfoldable pub entries_from : List ℕ → ℕ → ℕ → List Numbered
entries_from F zero e = []
entries_from F (suc n) e = record { number = e; entry = entry_of F e } ∷ entries_from F n (e + 1)

-- those of the entries that the choice has
unfoldable pub only_chosen : Choice → List Numbered → List Numbered
only_chosen choice [] = []
only_chosen choice (x ∷ xs) =
    if is_chosen choice x.entry.stream_type then x ∷ only_chosen choice xs else only_chosen choice xs

-- the directory, and its chosen entries
abbrev pub entries : List ℕ → List Numbered
entries F = entries_from F (entry_count F) 0

abbrev pub chosen : List ℕ → Choice → List Numbered
chosen F choice = only_chosen choice (entries F)

-- the chosen entries from entry i on
abbrev pub chosen_from : List ℕ → Choice → ℕ → List Numbered
chosen_from F choice i = only_chosen choice (entries_from F (entry_count F - i) i)

-- ---- runs

-- items, and the fault that stands behind them or none
pub record Run : Type 0 where
  pub items : List Item
  pub fault : Option ListFault

abbrev pub nothing : Run
nothing = record { items = []; fault = None }

abbrev pub only_fault : ListFault → Run
only_fault f = record { items = []; fault = Some f }

abbrev pub with_item : Item → Run → Run
with_item item run = record { items = item ∷ run.items; fault = run.fault }

-- a run, and the next one unless the first has a fault
abbrev pub joined : Run → Run → Run
joined first next = behind first.fault where
  behind : Option ListFault → Run
  behind None = record { items = first.items ++ next.items; fault = next.fault }
  behind (Some f) = first

abbrev pub all_joined : List Run → Run
all_joined [] = nothing
all_joined (run ∷ runs) = joined run (all_joined runs)

-- ---- what an entry gives

abbrev pub list_fault : ℕ → Option ℕ → Fault → ListFault
list_fault e index f = record { entry = e; index = index; kind = f.kind; offset = f.offset; size = f.size }

-- item k of entry e and then the rest, or its fault in its place
abbrev pub item_then : ℕ → ℕ → Result Item Fault → Run → Run
item_then e k (Ok item) rest = with_item item rest
item_then e k (Err f) rest = only_fault (list_fault e (Some k) f)

-- n items of entry e, from item k on
abbrev pub items_from : List ℕ → ℕ → ℕ → ℕ → StreamKind → Shape → ℕ → ℕ → Run
items_from F limit e at kind shape zero k = nothing
items_from F limit e at kind shape (suc n) k =
    item_then e k (item_at F limit e k at (at + shape.first + k * shape.stride) kind) (items_from F limit e at kind shape n (k + 1))

-- the records of a stream of this shape, or the fault of its shape
abbrev pub shaped : List ℕ → ℕ → ℕ → ℕ → StreamKind → Result Shape Fault → Run
shaped F limit e at kind (Ok shape) = items_from F limit e at kind shape shape.count 0
shaped F limit e at kind (Err f) = only_fault (list_fault e None f)

-- the records of a stream of a known kind: an unused entry has none, and neither has an opaque stream
abbrev pub records_of : List ℕ → ℕ → ℕ → ℕ → ℕ → Option StreamKind → Run
records_of F limit e at size (Some kind) = shaped F limit e at kind (shape_of F at size kind)
records_of F limit e at size None = nothing

-- what stands behind the Stream item of an entry: the fault of its location, or its records
abbrev pub entry_body : List ℕ → ℕ → Numbered → Run
entry_body F limit x = behind (location_fault (length F) x.entry) where
  behind : Option Fault → Run
  behind (Some f) = only_fault (list_fault x.number None f)
  behind None = records_of F limit x.number x.entry.location.rva x.entry.location.size (kind_of x.entry.stream_type)

abbrev pub stream_item : Numbered → Item
stream_item x = Stream (record { entry = x.number; stream_type = x.entry.stream_type; location = x.entry.location })

-- all that an entry gives
abbrev pub entry_listing : List ℕ → ℕ → Numbered → Run
entry_listing F limit x = with_item (stream_item x) (entry_body F limit x)

-- ---- a whole listing

abbrev pub listing : List ℕ → Choice → ℕ → Run
listing F choice limit = all_joined (map (entry_listing F limit) (chosen F choice))

-- what is left from entry i on
abbrev pub listing_from : List ℕ → Choice → ℕ → ℕ → Run
listing_from F choice limit i = all_joined (map (entry_listing F limit) (chosen_from F choice i))

-- all that entry i gives, chosen or not, and what the chosen ones behind it give
abbrev pub listing_sought : List ℕ → Choice → ℕ → ℕ → Run
listing_sought F choice limit i = joined (entry_listing F limit (record { number = i; entry = entry_of F i })) (listing_from F choice limit (i + 1))

-- a count of records, or the fault that stands in a listing in their place
abbrev pub count_listed : ℕ → Result ℕ Fault → Result ℕ ListFault
count_listed e (Ok count) = Ok count
count_listed e (Err f) = Err (list_fault e None f)

-- how many records an entry has, or that fault
abbrev pub records_told : List ℕ → Numbered → Result ℕ ListFault
records_told F x = count_listed x.number (record_count F x.entry)

-- each chosen entry with its fault or none
abbrev pub verdicts : List ℕ → Choice → ℕ → List Verdict
verdicts F choice limit = map (λ x. record { entry = x.number; fault = (entry_listing F limit x).fault }) (chosen F choice)
