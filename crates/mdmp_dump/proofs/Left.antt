-- What is left of a listing while an entry's records are read: a record first, a fault, or what the next entries give.
use Rattle.std.proofs.Common.{◌≡◌, ◌∙◌, ◌+◌, ◌-◌, ◌*◌, ◌<◌, ℕ, zero, suc, List, [], ◌∷◌, length, slice_get, Option, Some, None, Result, Ok, Err, arith, ap, refl, subst, sym}
use Rattle.mdmp_lister.specs.declared.fault.Fault.{Fault}
use Rattle.mdmp_lister.specs.declared.fault.ListFault.{ListFault}
use Rattle.mdmp_lister.specs.declared.item.Item.{Item}
use Rattle.mdmp_lister.specs.declared.item.Item.TheVariants as items
use Rattle.mdmp_lister.specs.declared.item.StreamItem.{StreamItem}
use Rattle.mdmp_lister.specs.declared.kind.StreamKind.{StreamKind}
use Rattle.mdmp_lister.specs.declared.name.Name.{Name}
use Rattle.mdmp_lister.specs.declared.shape.Shape.{Shape}
use Rattle.mdmp_lister.specs.Format.Classes.{IsStream}
use Rattle.mdmp_lister.specs.Format.Item.{item_at, named, offset_in, record_at}
use Rattle.mdmp_lister.specs.Format.Kind.{kind_of}
use Rattle.mdmp_lister.specs.Format.Listing.{Numbered, Run, entry_body, items_from, joined, list_fault, nothing, only_fault, records_of, shaped, stream_item, with_item}
use Rattle.mdmp_lister.specs.Format.Shape.{location_fault, shape_of}
use Rattle.mdmp_lister.specs.Format.Summary.{Summary, summary_of}
use Rattle.mdmp_lister.specs.Lister.{tail}
use Rattle.mdmp_lister.proofs.Bodies.{joined-with_item, records-given, records-faulted}
use Rattle.mdmp_lister.proofs.Summary.{summary_of-item_of}
use Rattle.mdmp_dump.specs.Left.{StandBehind, IsGiven, AreAllGiven, RowGiven, body_from, is_item_of, left_from, records_from, run_of, shaped_from}

-- ---- an entry that begins

shaped_from-all : (F : List ℕ) (limit e at : ℕ) (kind : StreamKind) (shape : Result Shape Fault) → shaped_from F limit e at kind 0 shape ≡ shaped F limit e at kind shape
shaped_from-all F limit e at kind (Ok shape) =
    let all : shape.count - 0 ≡ shape.count = omega arith in
    rw all refl
shaped_from-all F limit e at kind (Err f) = refl

records_from-all : (F : List ℕ) (limit e at size : ℕ) (kind : Option StreamKind) → records_from F limit e at size 0 kind ≡ records_of F limit e at size kind
records_from-all F limit e at size (Some kind) = shaped_from-all F limit e at kind (shape_of F at size kind)
records_from-all F limit e at size None = refl

pub body_from-all : (F : List ℕ) (limit : ℕ) (x : Numbered) (outside : Option Fault) → outside ≡ location_fault (length F) x.entry → body_from F limit x 0 ≡ entry_body F limit x
body_from-all F limit x None inside = rw (← inside) (records_from-all F limit x.number x.entry.location.rva x.entry.location.size (kind_of x.entry.stream_type))
body_from-all F limit x (Some f) outside = rw (← outside) refl

-- its Stream item is the first of what is left, and then comes all that the entry has
pub begun : (F : List ℕ) (limit : ℕ) (x : Numbered) (xs : List Numbered) → run_of F limit (x ∷ xs) ≡ with_item (stream_item x) (left_from F limit x 0 xs)
begun F limit x xs =
    joined-with_item (stream_item x) (entry_body F limit x) (run_of F limit xs)
    ∙ ap (λ (run : Run). with_item (stream_item x) (joined run (run_of F limit xs))) (sym (body_from-all F limit x (location_fault (length F) x.entry) refl))

-- ---- the first item of a run

module _ (run : Run) (item : Item) (first : slice_get run.items 0 ≡ Some item) where
  none_first : (f : ListFault) → run ≡ only_fault f → ⊥
  none_first f same = let none : slice_get run.items 0 ≡ None = ap (λ (r : Run). slice_get r.items 0) same in cc

  item_first : (other : Item) (rest : Run) → run ≡ with_item other rest → other ≡ item
  item_first other rest same = let is : slice_get run.items 0 ≡ Some other = ap (λ (r : Run). slice_get r.items 0) same in cc

-- a run of some items is not empty
some_first : (run : Run) (item : Item) (rest : Run) → run ≡ with_item item rest → run ≡ nothing → ⊥
some_first run item rest same none =
    let is : slice_get run.items 0 ≡ Some item = ap (λ (r : Run). slice_get r.items 0) same in
    let empty : slice_get run.items 0 ≡ None = ap (λ (r : Run). slice_get r.items 0) none in
    cc

no_fault : (run : Run) (f : ListFault) → run ≡ only_fault f → run ≡ nothing → ⊥
no_fault run f same none =
    let faulted : run.fault ≡ Some f = ap (λ (r : Run). r.fault) same in
    let good : run.fault ≡ None = ap (λ (r : Run). r.fault) none in
    cc

-- ---- the item of a record is no Stream item

named-row : (name : Result Name Fault) (item : Name → Item) → ((n : Name) → (summary_of (item n)).stream ≡ None) → (x : Item) → named name item ≡ Ok x → IsStream x → ⊥
named-row (Ok n) item none x same stream =
    let is : item n ≡ items.Stream stream.0 = cc (stream.1) in
    let told : (summary_of (item n)).stream ≡ Some stream.0 = ap (λ (y : Item). (summary_of y).stream) is in
    let untold = none n in
    cc
named-row (Err f) item none x same stream = cc

item_at-row : (F : List ℕ) (limit e k at o : ℕ) (kind : StreamKind) (item : Item) → item_at F limit e k at o kind ≡ Ok item → IsStream item → ⊥
item_at-row F limit e k at o kind item same stream =
    let fields = record_at kind F o in
    let offset = offset_in F at k kind in
    named-row _ _ (λ name. ap (λ (s : Summary). s.stream) (summary_of-item_of (length F) e k offset fields name)) item same stream

-- ---- what stands before the first entry, and behind an entry

pub first_given : (F : List ℕ) (limit : ℕ) (xs : List Numbered) (s : StreamItem) → slice_get (run_of F limit xs).items 0 ≡ Some (items.Stream s)
    → StandBehind F limit xs (Some s) (tail (run_of F limit xs))
first_given F limit [] s first = absurd (cc)
first_given F limit (y ∷ ys) s first =
    let same = item_first (run_of F limit (y ∷ ys)) (items.Stream s) first (stream_item y) (left_from F limit y 0 ys) (begun F limit y ys) in
    (y, ys, (refl, (cc, ap tail (begun F limit y ys))))

pub none_given : (F : List ℕ) (limit : ℕ) (xs : List Numbered) → run_of F limit xs ≡ nothing → xs ≡ []
none_given F limit [] none = refl
none_given F limit (y ∷ ys) none = absurd (some_first (run_of F limit (y ∷ ys)) (stream_item y) (left_from F limit y 0 ys) (begun F limit y ys) none)

pub no_row_first : (F : List ℕ) (limit : ℕ) (xs : List Numbered) (item : Item) → slice_get (run_of F limit xs).items 0 ≡ Some item → IsStream item
no_row_first F limit [] item first = absurd (cc)
no_row_first F limit (y ∷ ys) item first =
    (is_item_of y, sym (item_first (run_of F limit (y ∷ ys)) item first (stream_item y) (left_from F limit y 0 ys) (begun F limit y ys)))

-- ---- what is left of an entry

-- a fault; what the next entries give, since its records were given; or a record and what is left behind it
data LeftIs (F : List ℕ) (limit : ℕ) (x : Numbered) (k : ℕ) (xs : List Numbered) : Type 0 where
  Faulted : (f : ListFault) → left_from F limit x k xs ≡ only_fault f → LeftIs F limit x k xs
  Through : IsGiven F x k → left_from F limit x k xs ≡ run_of F limit xs → LeftIs F limit x k xs
  Row : (kind : StreamKind) (item : Item) → kind_of x.entry.stream_type ≡ Some kind → RowGiven F limit x k xs kind item
      → left_from F limit x k xs ≡ with_item item (left_from F limit x (k + 1) xs) → LeftIs F limit x k xs

module _ (F : List ℕ) (limit : ℕ) (x : Numbered) (xs : List Numbered) (placed : location_fault (length F) x.entry ≡ None) where
  module _ (kind : StreamKind) (known : kind_of x.entry.stream_type ≡ Some kind) where
    module _ (shape : Shape) (shaped : shape_of F x.entry.location.rva x.entry.location.size kind ≡ Ok shape) where
      pub body_from-shaped : (k : ℕ) → body_from F limit x k ≡ items_from F limit x.number x.entry.location.rva kind shape (shape.count - k) k
      body_from-shaped k = rw (placed, known, shaped) refl

      -- by the item of record k
      left_by_item : (k : ℕ) → k < shape.count → (item : Result Item Fault)
          → item_at F limit x.number k x.entry.location.rva (x.entry.location.rva + shape.first + k * shape.stride) kind ≡ item → LeftIs F limit x k xs
      left_by_item k within (Ok item) is =
          let row = records-given F limit x.number x.entry.location.rva kind shape k within item is in
          let body : body_from F limit x k ≡ with_item item (body_from F limit x (k + 1)) =
          body_from-shaped k ∙ row ∙ ap (with_item item) (sym (body_from-shaped (k + 1))) in
          let left : left_from F limit x k xs ≡ with_item item (left_from F limit x (k + 1) xs) =
          ap (λ (run : Run). joined run (run_of F limit xs)) body ∙ joined-with_item item (body_from F limit x (k + 1)) (run_of F limit xs) in
          Row kind item known (record { placed = placed; shape = shape; shaped = shaped; within = within; is_item = is; rest = ap tail left }) left
      left_by_item k within (Err f) is =
          Faulted (list_fault x.number (Some k) f)
          (ap (λ (run : Run). joined run (run_of F limit xs))
          (body_from-shaped k ∙ records-faulted F limit x.number x.entry.location.rva kind shape k within f is))

      -- by how many records are left
      left_by_count : (k n : ℕ) → shape.count - k ≡ n → LeftIs F limit x k xs
      left_by_count k zero none =
          let through : AreAllGiven F x k (kind_of x.entry.stream_type) = rw known (shape, (shaped, omega (arith, none))) in
          Through (record { placed = placed; through = through }) (rw (placed, known, shaped, none) refl)
      left_by_count k (suc n) some = left_by_item k (omega (arith, some)) _ refl

    left_by_shape : (k : ℕ) (shape : Result Shape Fault) → shape_of F x.entry.location.rva x.entry.location.size kind ≡ shape → LeftIs F limit x k xs
    left_by_shape k (Ok shape) shaped = left_by_count shape shaped k _ refl
    left_by_shape k (Err f) faulted = Faulted (list_fault x.number None f) (rw (placed, known, faulted) refl)

  left_by_kind : (k : ℕ) (kind : Option StreamKind) → kind_of x.entry.stream_type ≡ kind → LeftIs F limit x k xs
  left_by_kind k (Some kind) known = left_by_shape kind known k _ refl
  left_by_kind k None unknown =
      let through : AreAllGiven F x k (kind_of x.entry.stream_type) = rw unknown tt in
      Through (record { placed = placed; through = through }) (rw (placed, unknown) refl)

left_by_place : (F : List ℕ) (limit : ℕ) (x : Numbered) (k : ℕ) (xs : List Numbered) (outside : Option Fault) → location_fault (length F) x.entry ≡ outside → LeftIs F limit x k xs
left_by_place F limit x k xs None inside = left_by_kind F limit x xs inside k _ refl
left_by_place F limit x k xs (Some f) outside = Faulted (list_fault x.number None f) (rw outside refl)

left_is : (F : List ℕ) (limit : ℕ) (x : Numbered) (k : ℕ) (xs : List Numbered) → LeftIs F limit x k xs
left_is F limit x k xs = left_by_place F limit x k xs _ refl

-- ---- a record

module _ (F : List ℕ) (limit : ℕ) (x : Numbered) (k : ℕ) (xs : List Numbered) where
  row_by : (kind : StreamKind) (item : Item) → kind_of x.entry.stream_type ≡ Some kind → (IsStream item → ⊥) → slice_get (left_from F limit x k xs).items 0 ≡ Some item
      → LeftIs F limit x k xs → RowGiven F limit x k xs kind item
  row_by kind item known row first (Faulted f same) = absurd (none_first (left_from F limit x k xs) item first f same)
  row_by kind item known row first (Through given same) = absurd (row (no_row_first F limit xs item (ap (λ (run : Run). slice_get run.items 0) (sym same) ∙ first)))
  row_by kind item known row first (Row other y known_other given same) =
      let item_is : y ≡ item = item_first (left_from F limit x k xs) item first y (left_from F limit x (k + 1) xs) same in
      let kind_is : other ≡ kind = cc in
      subst (λ (z : StreamKind). RowGiven F limit x k xs z item) kind_is (subst (λ (z : Item). RowGiven F limit x k xs other z) item_is given)

  stream_by : (s : StreamItem) → slice_get (left_from F limit x k xs).items 0 ≡ Some (items.Stream s)
      → LeftIs F limit x k xs → IsGiven F x k × StandBehind F limit xs (Some s) (tail (left_from F limit x k xs))
  stream_by s first (Faulted f same) = absurd (none_first (left_from F limit x k xs) (items.Stream s) first f same)
  stream_by s first (Through given same) = (
    given,
    subst (λ (run : Run). StandBehind F limit xs (Some s) (tail run)) (sym same)
        (first_given F limit xs s (ap (λ (run : Run). slice_get run.items 0) (sym same) ∙ first)),
  )
  stream_by s first (Row kind item known given same) =
      let is : item ≡ items.Stream s = item_first (left_from F limit x k xs) (items.Stream s) first item (left_from F limit x (k + 1) xs) same in
      absurd (item_at-row F limit _ _ _ _ kind item given.is_item (s, is))

  all_by : left_from F limit x k xs ≡ nothing → LeftIs F limit x k xs → IsGiven F x k × (xs ≡ [])
  all_by none (Faulted f same) = absurd (no_fault (left_from F limit x k xs) f same none)
  all_by none (Through given same) = (given, none_given F limit xs (sym same ∙ none))
  all_by none (Row kind item known given same) = absurd (some_first (left_from F limit x k xs) item (left_from F limit x (k + 1) xs) same none)

  -- an item that is no Stream item is that of the entry's next record
  pub row_given : (kind : StreamKind) (item : Item) → kind_of x.entry.stream_type ≡ Some kind → (IsStream item → ⊥)
      → slice_get (left_from F limit x k xs).items 0 ≡ Some item → RowGiven F limit x k xs kind item
  row_given kind item known row first = row_by kind item known row first (left_is F limit x k xs)

  -- before a Stream item all records of the entry were given, and it is that of the next one
  pub stream_given : (s : StreamItem) → slice_get (left_from F limit x k xs).items 0 ≡ Some (items.Stream s)
      → IsGiven F x k × StandBehind F limit xs (Some s) (tail (left_from F limit x k xs))
  stream_given s first = stream_by s first (left_is F limit x k xs)

  -- where nothing is left, all was given
  pub all_given : left_from F limit x k xs ≡ nothing → IsGiven F x k × (xs ≡ [])
  all_given none = all_by none (left_is F limit x k xs)
