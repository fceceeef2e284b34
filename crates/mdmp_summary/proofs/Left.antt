-- What is left in a look of a file that is known: some of the entry that was begun last, and then the entries after it.
use Rattle.std.proofs.Common.{◌≡◌, ◌+◌, ◌-◌, ◌*◌, ◌∙◌, ℕ, zero, suc, List, [], ◌∷◌, Option, Some, None, Result, Ok, Err, length, ap, arith, refl, slice_get, subst}
use Rattle.mdmp_wire.specs.declared.any_record.AnyRecord.{AnyRecord}
use Rattle.mdmp_lister.specs.declared.choice.Choice.TheVariants.{All}
use Rattle.mdmp_lister.specs.declared.fault.Fault.{Fault}
use Rattle.mdmp_lister.specs.declared.fault.ListFault.{ListFault}
use Rattle.mdmp_lister.specs.declared.item.Item.{Item}
use Rattle.mdmp_lister.specs.declared.kind.StreamKind.{StreamKind}
use Rattle.mdmp_lister.specs.declared.name.Name.{Name}
use Rattle.mdmp_lister.specs.declared.shape.Shape.{Shape}
use Rattle.mdmp_lister.specs.Format.Item.{item_at, item_of, named}
use Rattle.mdmp_lister.specs.Format.Kind.{kind_of}
use Rattle.mdmp_lister.specs.Format.Listing.{Numbered, Run, entries_from, entry_body, entry_count, entry_of, item_then, items_from, joined, listing_from, nothing, only_chosen, records_of, shaped, stream_item, with_item}
use Rattle.mdmp_lister.specs.Format.Shape.{location_fault, shape_of}
use Rattle.mdmp_lister.specs.Format.Summary.{Summary, summary_of}
use Rattle.mdmp_lister.specs.Lister.{tail}
use Rattle.mdmp_lister.proofs.Summary.{summary_of-item_of}
use Rattle.mdmp_summary.proofs.Entries.{run_of, some_entries}

-- ---- records

-- the item begins no entry
abbrev pub IsRecord : Item → Type 0
IsRecord x = (summary_of x).stream ≡ None

abbrev pub AreRecords : List Item → Type 0
AreRecords [] = Unit {0}
AreRecords (x ∷ xs) = IsRecord x × AreRecords xs

abbrev IsRecordAt : Result Item Fault → Type 0
IsRecordAt (Ok x) = IsRecord x
IsRecordAt (Err f) = Unit {0}

named_record : (name : Result Name Fault) (z e k offset : ℕ) (fields : AnyRecord) → IsRecordAt (named name (λ n. item_of z e k offset fields n))
named_record (Ok name) z e k offset fields = ap (λ (s : Summary). s.stream) (summary_of-item_of z e k offset fields name)
named_record (Err f) z e k offset fields = tt

then_records : (e k : ℕ) (item : Result Item Fault) (rest : Run) → IsRecordAt item → AreRecords rest.items → AreRecords (item_then e k item rest).items
then_records e k (Ok x) rest is are = (is, are)
then_records e k (Err f) rest is are = tt

items_records : (F : List ℕ) (limit e at : ℕ) (kind : StreamKind) (shape : Shape) (n k : ℕ) → AreRecords (items_from F limit e at kind shape n k).items
items_records F limit e at kind shape zero k = tt
items_records F limit e at kind shape (suc n) k =
    then_records e k (item_at F limit e k at (at + shape.first + k * shape.stride) kind) _ (named_record _ _ _ _ _ _) (items_records F limit e at kind shape n (k + 1))

shaped_records : (F : List ℕ) (limit e at : ℕ) (kind : StreamKind) (shape : Result Shape Fault) → AreRecords (shaped F limit e at kind shape).items
shaped_records F limit e at kind (Ok shape) = items_records F limit e at kind shape shape.count 0
shaped_records F limit e at kind (Err f) = tt

kind_records : (F : List ℕ) (limit e at size : ℕ) (kind : Option StreamKind) → AreRecords (records_of F limit e at size kind).items
kind_records F limit e at size (Some kind) = shaped_records F limit e at kind (shape_of F at size kind)
kind_records F limit e at size None = tt

placed_records : (F : List ℕ) (limit : ℕ) (x : Numbered) (outside : Option Fault) → outside ≡ location_fault (length F) x.entry → AreRecords (entry_body F limit x).items
placed_records F limit x None inside = rw (← inside) (kind_records F limit x.number x.entry.location.rva x.entry.location.size (kind_of x.entry.stream_type))
placed_records F limit x (Some f) outside = rw (← outside) tt

-- behind the Stream item of an entry there are records
pub body_records : (F : List ℕ) (limit : ℕ) (x : Numbered) → AreRecords (entry_body F limit x).items
body_records F limit x = placed_records F limit x (location_fault (length F) x.entry) refl

-- ---- the first item of some runs

-- one more before them
joined_with : (s : Item) (items : List Item) (fault : Option ListFault) (next : Run) → joined (with_item s (record { items = items; fault = fault })) next ≡ with_item s (joined (record { items = items; fault = fault }) next)
joined_with s items None next = refl
joined_with s items (Some f) next = refl

-- or one less
joined_tail : (z : Item) (items : List Item) (fault : Option ListFault) (next : Run) → tail (joined (record { items = z ∷ items; fault = fault }) next) ≡ joined (record { items = items; fault = fault }) next
joined_tail z items None next = refl
joined_tail z items (Some f) next = refl

-- what the entries from this one on give: nothing, or the Stream item of it, what stands behind that, and what the entries after it give
pub data FromEntry (F : List ℕ) (limit at : ℕ) (run : Run) : Type 0 where
  none : run ≡ nothing → FromEntry F limit at run
  some : run ≡ with_item (stream_item (record { number = at; entry = entry_of F at })) (joined (entry_body F limit (record { number = at; entry = entry_of F at })) (listing_from F All limit (at + 1))) → FromEntry F limit at run

from_some : (F : List ℕ) (limit at n : ℕ) → entry_count F - at ≡ n → FromEntry F limit at (run_of F limit (some_entries F n at))
unfolding entries_from only_chosen
from_some F limit at zero is = none refl
from_some F limit at (suc m) is =
    let x : Numbered = record { number = at; entry = entry_of F at } in
    let body = entry_body F limit x in
    let fewer : m ≡ entry_count F - (at + 1) = omega (arith, is) in
    some (joined_with (stream_item x) body.items body.fault (run_of F limit (some_entries F m (at + 1)))
    ∙ (λ i. with_item (stream_item x) (joined body (run_of F limit (some_entries F (fewer i) (at + 1))))))

pub from_entry : (F : List ℕ) (limit at : ℕ) → FromEntry F limit at (listing_from F All limit at)
from_entry F limit at = from_some F limit at (entry_count F - at) refl

-- an item is the first of a run and the next one: it is a record of the first, or the first run is over
pub data FirstOf (items : List Item) (fault : Option ListFault) (rest : Run) (y : Item) : Type 0 where
  of_part : (part : Run) → IsRecord y → AreRecords part.items → tail (joined (record { items = items; fault = fault }) rest) ≡ joined part rest → FirstOf items fault rest y
  of_rest : joined (record { items = items; fault = fault }) rest ≡ rest → slice_get rest.items 0 ≡ Some y → FirstOf items fault rest y

pub first_of_part : (items : List Item) (fault : Option ListFault) (rest : Run) (y : Item) → AreRecords items → slice_get (joined (record { items = items; fault = fault }) rest).items 0 ≡ Some y → FirstOf items fault rest y
first_of_part [] None rest y are first = of_rest refl first
first_of_part [] (Some f) rest y are first = absurd (cc)
first_of_part (z ∷ zs) None rest y (is, are) first = of_part (record { items = zs; fault = None }) (subst IsRecord (cc) is) are (joined_tail z zs None rest)
first_of_part (z ∷ zs) (Some f) rest y (is, are) first = of_part (record { items = zs; fault = Some f }) (subst IsRecord (cc) is) are (joined_tail z zs (Some f) rest)
