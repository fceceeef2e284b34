-- What is left of a listing while an entry's records are read.
use Rattle.std.specs.Prelude.{◌≡◌, ◌≤◌, ◌<◌, ◌+◌, ◌-◌, ◌*◌, ℕ, List, [], ◌∷◌, length, map, Option, Some, None, Result, Ok, Err}
use Rattle.mdmp_lister.specs.declared.fault.Fault.{Fault}
use Rattle.mdmp_lister.specs.declared.item.Item.{Item}
use Rattle.mdmp_lister.specs.declared.item.StreamItem.{StreamItem}
use Rattle.mdmp_lister.specs.declared.kind.StreamKind.{StreamKind}
use Rattle.mdmp_lister.specs.declared.shape.Shape.{Shape}
use Rattle.mdmp_lister.specs.Format.Item.{item_at}
use Rattle.mdmp_lister.specs.Format.Kind.{kind_of}
use Rattle.mdmp_lister.specs.Format.Listing.{Numbered, Run, all_joined, entry_listing, items_from, joined, list_fault, nothing, only_fault}
use Rattle.mdmp_lister.specs.Format.Shape.{location_fault, shape_of}
use Rattle.mdmp_lister.specs.Lister.{tail}

-- what some entries give
abbrev pub run_of : List ℕ → ℕ → List Numbered → Run
run_of F limit xs = all_joined (map (entry_listing F limit) xs)

-- the records from record k on, of a stream of this shape, or the fault of its shape
abbrev pub shaped_from : List ℕ → ℕ → ℕ → ℕ → StreamKind → ℕ → Result Shape Fault → Run
shaped_from F limit e at kind k (Ok shape) = items_from F limit e at kind shape (shape.count - k) k
shaped_from F limit e at kind k (Err f) = only_fault (list_fault e None f)

abbrev pub records_from : List ℕ → ℕ → ℕ → ℕ → ℕ → ℕ → Option StreamKind → Run
records_from F limit e at size k (Some kind) = shaped_from F limit e at kind k (shape_of F at size kind)
records_from F limit e at size k None = nothing

-- what is left of an entry behind its Stream item and k of its records
abbrev pub body_from : List ℕ → ℕ → Numbered → ℕ → Run
body_from F limit x k = behind (location_fault (length F) x.entry) where
  behind : Option Fault → Run
  behind (Some f) = only_fault (list_fault x.number None f)
  behind None = records_from F limit x.number x.entry.location.rva x.entry.location.size k (kind_of x.entry.stream_type)

-- the same, and what the entries behind it give
abbrev pub left_from : List ℕ → ℕ → Numbered → ℕ → List Numbered → Run
left_from F limit x k xs = joined (body_from F limit x k) (run_of F limit xs)

-- the entry's Stream item
abbrev pub is_item_of : Numbered → StreamItem
is_item_of x = record { entry = x.number; stream_type = x.entry.stream_type; location = x.entry.location }

-- all records of a stream were given, which are at most k
abbrev pub AreAllGiven : List ℕ → Numbered → ℕ → Option StreamKind → Type 0
AreAllGiven F x k (Some kind) = (shape : Shape) × ((shape_of F x.entry.location.rva x.entry.location.size kind ≡ Ok shape) × (shape.count ≤ k))
AreAllGiven F x k None = Unit {0}

-- an entry without a fault of its location, whose records were given, which are at most k
pub record IsGiven (F : List ℕ) (x : Numbered) (k : ℕ) : Type 0 where
  pub placed : location_fault (length F) x.entry ≡ None
  pub through : AreAllGiven F x k (kind_of x.entry.stream_type)

-- behind the entries that were begun stand these: none, and nothing is left, or this one, whose Stream item was given, and others
abbrev pub StandBehind : List ℕ → ℕ → List Numbered → Option StreamItem → Run → Type 0
StandBehind F limit xs None left = (xs ≡ []) × (left ≡ nothing)
StandBehind F limit xs (Some item) left = (y : Numbered) × (ys : List Numbered) × ((xs ≡ y ∷ ys) × ((item ≡ is_item_of y) × (left ≡ left_from F limit y 0 ys)))

-- the first of what is left of an entry is this item, of record k of its stream, which has this kind
pub record RowGiven (F : List ℕ) (limit : ℕ) (x : Numbered) (k : ℕ) (xs : List Numbered) (kind : StreamKind) (item : Item) : Type 0 where
  pub placed : location_fault (length F) x.entry ≡ None
  pub shape : Shape
  pub shaped : shape_of F x.entry.location.rva x.entry.location.size kind ≡ Ok shape
  pub within : k < shape.count
  pub is_item : item_at F limit x.number k x.entry.location.rva (x.entry.location.rva + shape.first + k * shape.stride) kind ≡ Ok item
  pub rest : tail (left_from F limit x k xs) ≡ left_from F limit x (k + 1) xs
