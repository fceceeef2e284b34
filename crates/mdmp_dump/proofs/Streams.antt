-- What is told of a listing's streams, one behind the other.
use Rattle.std.proofs.Common.{◌≡◌, ◌∙◌, ℕ, Bool, true, false, List, [], ◌∷◌, ◌++◌, length, slice_get, Option, Some, None, Result, Ok, Err, ap, refl, subst, sym}
use Rattle.std.specs.Prelude.{IsTrue, IsFalse, IfOk, flat_map, is_some, not, option_map, ◌==◌, ◌&&◌, ◌||◌, if◌then◌else◌}
use Rattle.mdmp_source.specs.Range.{is_inside}
use Rattle.mdmp_source.specs.Source.{FetchesSome}
use Rattle.mdmp_source.specs.Store.{IsSizeOf}
use Rattle.mdmp_source.specs.declared.location.Location.{Location}
use Rattle.mdmp_lister.specs.declared.fault.Fault.{Fault}
use Rattle.mdmp_lister.specs.declared.item.Item.{Item}
use Rattle.mdmp_lister.specs.declared.item.StreamItem.{StreamItem}
use Rattle.mdmp_lister.specs.declared.kind.StreamKind.{StreamKind}
use Rattle.mdmp_lister.specs.declared.kind.StreamKind.TheVariants as kinds
use Rattle.mdmp_lister.specs.declared.shape.Shape.{Shape}
use Rattle.mdmp_wire.specs.declared.entry.Entry.{Entry}
use Rattle.mdmp_lister.specs.Format.Classes.{IsStream as IsStreamItem}
use Rattle.mdmp_lister.specs.Format.Kind.{form_of, is_known, kind_of}
use Rattle.mdmp_lister.specs.Format.Listing.{Numbered, Run, list_fault, only_fault}
use Rattle.mdmp_lister.specs.Format.Shape.{location_fault, shape_of, single}
use Rattle.mdmp_dump.specs.Keeping.{KeepsOn, KeepsTill}
use Rattle.mdmp_dump.proofs.Keeping.{keeps_none}
use Rattle.mdmp_dump.specs.declared.fault.ReadFault.{ReadFault}
use Rattle.mdmp_dump.specs.declared.fault.ReadFault.TheVariants as faults
use Rattle.mdmp_lister.specs.Lister.{ListerState, tail}
use Rattle.mdmp_dump.specs.declared.dump.Stream.{Stream}
use Rattle.mdmp_dump.specs.declared.dump.Stream.TheVariants as streams
use Rattle.mdmp_dump.specs.declared.reader.Reader.{Reader}
use Rattle.mdmp_dump.specs.LaysOut.{HasBytes}
use Rattle.mdmp_dump.specs.Left.{is_item_of, left_from, run_of}
use Rattle.mdmp_dump.specs.Reading.{HasBytesAt, HasOneRecord, IsEntryRead, IsGoing, IsLeftBehind, IsNextStream, IsOfType, IsOneStream, IsRaw, IsWanting, NoRowFirst, Settles, TakesSteps, owed, refusal_in}
use Rattle.mdmp_dump.specs.Refusal.{ReadStep, Take, first_refusal, inside_steps, item_steps, stream_steps}
use Rattle.mdmp_dump.proofs.Taking.{FetchesSome_none}
use Rattle.mdmp_dump.proofs.Left.{all_given, no_row_first, stream_given}

-- ---- behind an entry

-- behind an entry whose records are not known no record comes first
module _ (F : List ℕ) (limit : ℕ) (x : Numbered) (xs : List Numbered) (unknown : kind_of x.entry.stream_type ≡ None) where
  no_row_behind : (item : Item) (outside : Option Fault) → location_fault (length F) x.entry ≡ outside → slice_get (left_from F limit x 0 xs).items 0 ≡ Some item → IsStreamItem item
  no_row_behind item None inside first =
      let same : left_from F limit x 0 xs ≡ run_of F limit xs = rw (inside, unknown) refl in
      no_row_first F limit xs item (ap (λ (run : Run). slice_get run.items 0) (sym same) ∙ first)
  no_row_behind item (Some f) outside first =
      let same : left_from F limit x 0 xs ≡ only_fault (list_fault x.number None f) = rw outside refl in
      let none : slice_get (left_from F limit x 0 xs).items 0 ≡ None = ap (λ (run : Run). slice_get run.items 0) same in
      absurd (cc)

  pub no_row_left : NoRowFirst (left_from F limit x 0 xs)
  no_row_left item first = no_row_behind item (location_fault (length F) x.entry) refl first

  -- what stands behind it, by its answer
  pub behind_left : (next : Option StreamItem) (new : Option Run) → IsNextStream (left_from F limit x 0 xs) next new
      → (location_fault (length F) x.entry ≡ None) × IsLeftBehind F limit xs next new
  behind_left (Some s) new gives =
      let all = stream_given F limit x 0 xs s gives.0 in
      (all.0.placed, (tail (left_from F limit x 0 xs), (gives.1, all.1)))
  behind_left None new gives =
      let all = all_given F limit x 0 xs gives.0 in
      (all.0.placed, (left_from F limit x 0 xs, (gives.1, (all.1, gives.0))))

-- ---- streams whose records are not known

abbrev RawValue : {Z : Type 0} → List ℕ → StreamItem → Option (Stream Z) → Type 0
RawValue F item stream = (bytes : List ℕ) × ((stream ≡ Some (streams.Raw item.stream_type bytes)) × HasBytes F item.location item.stream_type bytes)

-- the bytes of such a stream were taken, where it lies inside the file
pub record RawTaken {S A Z : Type 0} (old : Reader S A) (item : StreamItem) (stream : Option (Stream Z)) (new : Reader S A) : Type 0 where
  pub same : new.lister ≡ record old.lister { source = new.lister.source; counts = new.lister.counts }
  pub fetches : FetchesSome old.lister.source new.lister.source
  pub keeps : KeepsOn old new
  pub settles : (F : List ℕ) → old.lister.source.store.content ≡ Some F → IsRaw item.stream_type → (rest : List ReadStep) (last : Option ReadFault)
      → first_refusal old.left 0 (stream_steps (length F) item.entry item.stream_type item.location ++ rest) last ≡ first_refusal new.left 0 rest last
  pub value : (F : List ℕ) → old.lister.source.store.content ≡ Some F → IsRaw item.stream_type → IsTrue (is_inside item.location.rva item.location.size (length F))
      → RawValue F item stream

-- and behind them the listing goes on as it did before
pub raw_going : {S A Z : Type 0} (old mid : Reader S A) (item : StreamItem) (stream : Option (Stream Z)) → RawTaken old item stream mid → (next : Option StreamItem) (new : ListerState)
    → IsGoing mid.lister next new → IsGoing old.lister next new
raw_going old mid item stream taken None new going = tt
raw_going old mid item stream taken (Some behind) new going = subst (λ (l : ListerState). IsGoing l (Some behind) new) taken.same going

raw_steps : (size e t : ℕ) (at : Location) (b : Bool) → IsRaw t → is_inside at.rva at.size size ≡ b → stream_steps size e t at ≡ (if b then Take e 0 at.rva at.size ∷ [] else [])
raw_steps size e t at b raw is =
    ap (λ (z : Bool). if not z && not (is_known t) && is_inside at.rva at.size size then Take e 0 at.rva at.size ∷ [] else []) raw.0
    ∙ ap (λ (k : Option StreamKind). if not (is_some k) && is_inside at.rva at.size size then Take e 0 at.rva at.size ∷ [] else []) raw.1
    ∙ ap (λ (z : Bool). if z then Take e 0 at.rva at.size ∷ [] else []) is

sized : (F : List ℕ) (content : Option (List ℕ)) (size : ℕ) → content ≡ Some F → IsSizeOf content size → size ≡ length F
sized F content size known is = subst (λ (c : Option (List ℕ)). IsSizeOf c size) known is

module _ {S A : Type 0} (old : Reader S A) (item : StreamItem) (size : ℕ) (is_size : IsSizeOf old.lister.source.store.content size) where
  steps_by : (b : Bool) → is_inside item.location.rva item.location.size size ≡ b → (F : List ℕ) → old.lister.source.store.content ≡ Some F → IsRaw item.stream_type
      → stream_steps (length F) item.entry item.stream_type item.location ≡ (if b then Take item.entry 0 item.location.rva item.location.size ∷ [] else [])
  steps_by b is F known raw =
      let same : size ≡ length F = sized F old.lister.source.store.content size known is_size in
      raw_steps (length F) item.entry item.stream_type item.location b raw (ap (is_inside item.location.rva item.location.size) (sym same) ∙ is)

  raw_inside : {Z : Type 0} (bytes : List ℕ) (new : Reader S A) → is_inside item.location.rva item.location.size size ≡ true
      → TakesSteps (Take item.entry 0 item.location.rva item.location.size ∷ []) old (Ok bytes) new
      → ((F : List ℕ) → old.lister.source.store.content ≡ Some F → HasBytesAt F item.location.rva item.location.size bytes)
      → RawTaken {Z = Z} old item (Some (streams.Raw item.stream_type bytes)) new
  raw_inside {Z} bytes new inside takes has = record {
    same = takes.same;
    fetches = takes.fetches.fetches;
    keeps = takes.keeps;
    settles = λ F known raw rest last.
        ap (λ (steps : List ReadStep). first_refusal old.left 0 (steps ++ rest) last) (steps_by true inside F known raw) ∙ takes.settles rest last;
    value = λ F known raw within.
        let is = has F known in
        (bytes, (refl, record { used = raw.0; opaque = raw.1; inside = within; bytes_are = is.same }));
  }

  raw_outside : {Z : Type 0} → is_inside item.location.rva item.location.size size ≡ false → RawTaken {Z = Z} old item None old
  raw_outside {Z} outside = record {
    same = refl;
    fetches = FetchesSome_none old.lister.source;
    keeps = keeps_none old;
    settles = λ F known raw rest last. ap (λ (steps : List ReadStep). first_refusal old.left 0 (steps ++ rest) last) (steps_by false outside F known raw);
    value = λ F known raw within.
        let same : size ≡ length F = sized F old.lister.source.store.content size known is_size in
        let not : is_inside item.location.rva item.location.size (length F) ≡ false = ap (is_inside item.location.rva item.location.size) (sym same) ∙ outside in
        absurd (cc);
  }

  -- or they are refused
  pub raw_untaken : {V : Type 0} (at len : ℕ) (at_is : at ≡ item.location.rva) (len_is : len ≡ item.location.size) (new : Reader S A) (fault : ReadFault) → is_inside at len size ≡ true
      → TakesSteps {T = V} (Take item.entry 0 at len ∷ []) old (Err fault) new
      → (F : List ℕ) (limit : ℕ) (x : Numbered) (xs : List Numbered) → old.lister.source.store.content ≡ Some F → old.lister.left ≡ Some (left_from F limit x 0 xs)
      → item ≡ is_item_of x → IsRaw x.entry.stream_type → (IsWanting fault → ⊥) → owed F old.left (Some item) old.lister.left ≡ Some fault
  raw_untaken at len at_is len_is new fault inside takes F limit x xs known left is raw own =
      let within = rw (at_is, len_is) at inside in
      let taken = rw (at_is, len_is) at takes in
      let raw_is : IsRaw item.stream_type = subst (λ (i : StreamItem). IsRaw i.stream_type) (sym is) raw in
      let run = left_from F limit x 0 xs in
      let rest = flat_map (item_steps (length F)) run.items in
      let last = option_map faults.List run.fault in
      ap (owed F old.left (Some item)) left
      ∙ ap (λ (steps : List ReadStep). first_refusal old.left 0 (steps ++ rest) last) (steps_by true within F known raw_is)
      ∙ taken.settles rest last own

  module _ {Z : Type 0} (at len : ℕ) (at_is : at ≡ item.location.rva) (len_is : len ≡ item.location.size) (stream : Option (Stream Z)) (reader : Reader S A) where
    pub raw_taken : (bytes : List ℕ) (new : Reader S A) → is_inside at len size ≡ true → TakesSteps (Take item.entry 0 at len ∷ []) old (Ok bytes) new
        → ((F : List ℕ) → old.lister.source.store.content ≡ Some F → HasBytesAt F at len bytes)
        → reader ≡ new → stream ≡ Some (streams.Raw item.stream_type bytes) → RawTaken old item stream reader
    raw_taken bytes new inside takes has same is =
        let within = rw (at_is, len_is) at inside in
        let taken = rw (at_is, len_is) at takes in
        let all : (F : List ℕ) → old.lister.source.store.content ≡ Some F → HasBytesAt F item.location.rva item.location.size bytes = λ F known. rw (← at_is, ← len_is) (has F known) in
        rw (same, is) (raw_inside bytes new within taken all)

    pub raw_left : is_inside at len size ≡ false → reader ≡ old → stream ≡ None → RawTaken old item stream reader
    raw_left outside same is =
        let without = rw (at_is, len_is) at outside in
        rw (same, is) (raw_outside without)

-- the bytes of a stream inside the file were not taken
pub inside_untaken : {S A : Type 0} (old new : Reader S A) (item : StreamItem) (at len : ℕ) → at ≡ item.location.rva → len ≡ item.location.size → (size : ℕ) → size ≡ old.lister.source.size → is_inside at len size ≡ true
    → (fault : ReadFault) → KeepsTill (Take item.entry 0 at len ∷ []) fault old new → KeepsTill (inside_steps old.lister.source.size item.entry item.location) fault old new
inside_untaken old new item at len at_is len_is size size_is inside fault till =
    let within : is_inside item.location.rva item.location.size old.lister.source.size ≡ true = rw (at_is, len_is, size_is) at inside in
    let asked = rw (at_is, len_is) at till in
    subst (λ (steps : List ReadStep). KeepsTill steps fault old new) (sym (ap (λ (b : Bool). if b then Take item.entry 0 item.location.rva item.location.size ∷ [] else []) within)) asked

-- a stream and what stands behind it, or a fault
abbrev pub behind_of_stream : {V : Type 0} → V → Result (Option StreamItem) ReadFault → Result (V × Option StreamItem) ReadFault
behind_of_stream stream (Ok next) = Ok (stream, next)
behind_of_stream stream (Err fault) = Err fault

-- an entry that is used and has no fault of its location lies inside the file
placed_inside : (unused inside : Bool) (f : Fault) → IsFalse unused → (if unused || inside then None else Some f) ≡ None → IsTrue inside
placed_inside true inside f used none = absurd (cc)
placed_inside false true f used none = refl
placed_inside false false f used none = absurd (cc)

module _ {S A Z : Type 0} (old mid new : Reader S A) (item : StreamItem) (stream : Option (Stream Z)) (taken : RawTaken old item stream mid)
    (F : List ℕ) (limit : ℕ) (x : Numbered) (xs : List Numbered) (known : old.lister.source.store.content ≡ Some F)
    (left : old.lister.left ≡ Some (left_from F limit x 0 xs)) (is : item ≡ is_item_of x) (raw : IsRaw x.entry.stream_type) where
  raw_item : IsRaw item.stream_type
  raw_item = subst (λ (i : StreamItem). IsRaw i.stream_type) (sym is) raw

  left_then : mid.lister.left ≡ Some (left_from F limit x 0 xs)
  left_then = ap (λ (l : ListerState). l.left) taken.same ∙ left

  owed_then : owed F old.left (Some item) old.lister.left ≡ owed F mid.left None mid.lister.left
  owed_then = ap (owed F old.left (Some item)) left ∙ taken.settles F known raw_item _ _ ∙ ap (owed F mid.left None) (sym left_then)

  raw_one : location_fault (length F) x.entry ≡ None → IsOneStream F x.entry stream
  raw_one placed =
      let inside : IsTrue (is_inside x.entry.location.rva x.entry.location.size (length F)) = placed_inside (x.entry.stream_type == 0) _ _ raw.0 placed in
      let value = taken.value F known raw_item (subst (λ (i : StreamItem). IsTrue (is_inside i.location.rva i.location.size (length F))) (sym is) inside) in
      let same : RawValue F (is_item_of x) stream = subst (λ (i : StreamItem). RawValue F i stream) is value in
      (streams.Raw x.entry.stream_type same.0, (same.1.0, record { type_is = refl; stands = same.1.1 }))

  -- and what stands behind it was given, or a fault
  pub raw_read : (answer : Result (Option StreamItem) ReadFault)
      → ((file : List ℕ) (run : Run) → mid.lister.source.store.content ≡ Some file → mid.lister.left ≡ Some run → NoRowFirst run
      → IfOk answer (λ next. IsNextStream run next new.lister.left)
      × Settles (owed file mid.left None mid.lister.left) answer (λ next. owed file new.left next new.lister.left))
      → IsEntryRead F limit xs (IsOneStream F x.entry) (owed F old.left (Some item) old.lister.left) (behind_of_stream stream answer) new
  raw_read (Ok next) gives =
      let given = gives F (left_from F limit x 0 xs) (taken.fetches.fetches.same_content ∙ known) left_then (no_row_left F limit x xs raw.1) in
      let all = behind_left F limit x xs raw.1 next new.lister.left given.0 in
      record { value = (raw_one all.0, all.1); settles = owed_then ∙ given.1 }
  raw_read (Err fault) gives =
      let given = gives F (left_from F limit x 0 xs) (taken.fetches.fetches.same_content ∙ known) left_then (no_row_left F limit x xs raw.1) in
      record { value = tt; settles = λ not. owed_then ∙ given.1 not }

-- ---- streams whose records are known

module _ {S A : Type 0} (old : Reader S A) (item : StreamItem) (n : ℕ) (type_is : item.stream_type ≡ n) (unasked : (size e : ℕ) (at : Location) → stream_steps size e n at ≡ []) where
  owed_unasked : (F : List ℕ) → owed F old.left (Some item) old.lister.left ≡ owed F old.left None old.lister.left
  owed_unasked F =
      let none = ap (λ (t : ℕ). stream_steps (length F) item.entry t item.location) type_is ∙ unasked (length F) item.entry item.location in
      ap (λ (steps : List ReadStep). refusal_in F old.left steps old.lister.left) none

type_of_entry : (item : StreamItem) (n : ℕ) → item.stream_type ≡ n → (x : Numbered) → item ≡ is_item_of x → x.entry.stream_type ≡ n
type_of_entry item n type_is x is = sym (ap (λ (i : StreamItem). i.stream_type) is) ∙ type_is

-- an entry was read, of a type whose Stream item asks nothing
module _ {S A V Z : Type 0} (old new : Reader S A) (item : StreamItem) (n : ℕ) (type_is : item.stream_type ≡ n) (unasked : (size e : ℕ) (at : Location) → stream_steps size e n at ≡ [])
    (kind : StreamKind) (kind_is : kind_of n ≡ Some kind) (IsValue : List ℕ → Location → V → Type 0) where
  pub stream_read : (value : V) (stream : Option (Stream Z)) (next : Option StreamItem)
      → ((F : List ℕ) (e : Entry) → e.stream_type ≡ n → IsValue F e.location value → IsOneStream F e stream)
      → ((F : List ℕ) (limit : ℕ) (x : Numbered) (xs : List Numbered) → old.lister.source.store.content ≡ Some F → old.lister.left ≡ Some (left_from F limit x 0 xs)
      → kind_of x.entry.stream_type ≡ Some kind → IsOfType old.lister x.entry.stream_type
      → IsEntryRead F limit xs (IsValue F x.entry.location) (owed F old.left None old.lister.left) (Ok (value, next)) new)
      → (F : List ℕ) (limit : ℕ) (x : Numbered) (xs : List Numbered) → old.lister.source.store.content ≡ Some F → old.lister.left ≡ Some (left_from F limit x 0 xs)
      → item ≡ is_item_of x → IsOfType old.lister item.stream_type
      → IsEntryRead F limit xs (IsOneStream F x.entry) (owed F old.left (Some item) old.lister.left) (Ok (stream, next)) new
  stream_read value stream next wrap of_file F limit x xs known left is current =
      let type = type_of_entry item n type_is x is in
      let read = of_file F limit x xs known left (ap kind_of type ∙ kind_is) (current ∙ ap (λ (i : StreamItem). i.stream_type) is) in
      record { value = (wrap F x.entry type read.value.0, read.value.1); settles = owed_unasked old item n type_is unasked F ∙ read.settles }

  pub stream_refused : (fault : ReadFault)
      → ((F : List ℕ) (limit : ℕ) (x : Numbered) (xs : List Numbered) → old.lister.source.store.content ≡ Some F → old.lister.left ≡ Some (left_from F limit x 0 xs)
      → kind_of x.entry.stream_type ≡ Some kind → IsOfType old.lister x.entry.stream_type
      → IsEntryRead F limit xs (IsValue F x.entry.location) (owed F old.left None old.lister.left) (Err fault) new)
      → (F : List ℕ) (limit : ℕ) (x : Numbered) (xs : List Numbered) → old.lister.source.store.content ≡ Some F → old.lister.left ≡ Some (left_from F limit x 0 xs)
      → item ≡ is_item_of x → IsOfType old.lister item.stream_type
      → IsEntryRead {V = Option (Stream Z)} F limit xs (IsOneStream F x.entry) (owed F old.left (Some item) old.lister.left) (Err fault) new
  stream_refused fault of_file F limit x xs known left is current =
      let type = type_of_entry item n type_is x is in
      let read = of_file F limit x xs known left (ap kind_of type ∙ kind_is) (current ∙ ap (λ (i : StreamItem). i.stream_type) is) in
      record { value = tt; settles = λ not. owed_unasked old item n type_is unasked F ∙ read.settles not }

-- a stream of one record has one
one_by : (short : Bool) (f : Fault) (size : ℕ) (shape : Shape) → (if short then Err f else single size) ≡ Ok shape → shape.count ≡ 1
one_by true f size shape is = absurd (cc)
one_by false f size shape is = let same : record { first = 0; stride = size; count = 1 } ≡ shape = cc in sym (ap (λ (s : Shape). s.count) same)

pub one_single : (F : List ℕ) (x : Numbered) (kind : StreamKind) → form_of kind ≡ form_of kinds.System → HasOneRecord F x kind
unfolding shape_of
one_single F x kind form shape is = one_by _ _ _ shape (rw form at is)

-- ---- an entry that is not used

module _ {S A Z : Type 0} (old new : Reader S A) (item : StreamItem) (type_is : item.stream_type ≡ 0) where
  pub unused_read : (answer : Result (Option StreamItem) ReadFault)
      → ((file : List ℕ) (run : Run) → old.lister.source.store.content ≡ Some file → old.lister.left ≡ Some run → NoRowFirst run
      → IfOk answer (λ next. IsNextStream run next new.lister.left)
      × Settles (owed file old.left None old.lister.left) answer (λ next. owed file new.left next new.lister.left))
      → (F : List ℕ) (limit : ℕ) (x : Numbered) (xs : List Numbered) → old.lister.source.store.content ≡ Some F → old.lister.left ≡ Some (left_from F limit x 0 xs)
      → item ≡ is_item_of x → IsOfType old.lister item.stream_type
      → IsEntryRead {V = Option (Stream Z)} F limit xs (IsOneStream F x.entry) (owed F old.left (Some item) old.lister.left) (behind_of_stream (Some streams.Unused) answer) new
  unused_read (Ok next) gives F limit x xs known left is current =
      let type = type_of_entry item 0 type_is x is in
      let given = gives F (left_from F limit x 0 xs) known left (no_row_left F limit x xs (ap kind_of type)) in
      let all = behind_left F limit x xs (ap kind_of type) next new.lister.left given.0 in
      record { value = ((streams.Unused, (refl, record { type_is = type; stands = tt })), all.1); settles = owed_unasked old item 0 type_is (λ size e at. refl) F ∙ given.1 }
  unused_read (Err fault) gives F limit x xs known left is current =
      let type = type_of_entry item 0 type_is x is in
      let given = gives F (left_from F limit x 0 xs) known left (no_row_left F limit x xs (ap kind_of type)) in
      record { value = tt; settles = λ not. owed_unasked old item 0 type_is (λ size e at. refl) F ∙ given.1 not }
