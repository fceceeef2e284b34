-- Items that are read in turn, one behind the other.
use Rattle.std.proofs.Common.{◌≡◌, ◌∙◌, ◌+◌, ℕ, List, [], ◌∷◌, ◌++◌, Option, Some, None, Result, Ok, Err, Bool, true, false, ap, arith, inl, inr, refl, subst, sym}
use Rattle.std.specs.Prelude.{IsOk, IsTrue, if◌then◌else◌, max}
use Rattle.std.specs.Option.{option_map}
use Rattle.mdmp_source.specs.Range.{is_inside}
use Rattle.mdmp_source.specs.Count.{raised}
use Rattle.mdmp_source.specs.Source.{FetchesAtMost}
use Rattle.mdmp_lister.specs.declared.fault.FaultKind.{FaultKind}
use Rattle.mdmp_lister.specs.declared.fault.FaultKind.TheVariants as kinds
use Rattle.mdmp_lister.specs.declared.fault.ListFault.{ListFault}
use Rattle.mdmp_lister.specs.declared.fault.OpenFault.{OpenFault}
use Rattle.mdmp_lister.specs.declared.fault.OpenFault.TheVariants as opening
use Rattle.mdmp_lister.specs.declared.item.Item.{Item}
use Rattle.mdmp_lister.specs.declared.item.Item.TheVariants as items
use Rattle.mdmp_lister.specs.declared.item.StreamItem.{StreamItem}
use Rattle.mdmp_lister.specs.declared.name.Name.{Name}
use Rattle.mdmp_lister.specs.declared.name.Name.TheVariants.{Long}
use Rattle.mdmp_lister.specs.declared.step.ItemRead.{ItemRead}
use Rattle.mdmp_lister.specs.declared.step.ItemRead.TheVariants as found
use Rattle.mdmp_lister.specs.declared.step.RecordRead.{RecordRead}
use Rattle.mdmp_lister.specs.Format.Item.{plain}
use Rattle.mdmp_lister.specs.Format.Listing.{Run, nothing}
use Rattle.mdmp_lister.specs.Format.Name.{plain_name}
use Rattle.mdmp_lister.specs.ItemRead.{item_read}
use Rattle.mdmp_lister.specs.Lister.{Gives, ListerLeaves, ListerState, left_after}
use Rattle.mdmp_lister.specs.Meter.{IsUnmade, SpendsAside, is_passed}
use Rattle.mdmp_lister.specs.Requested.{AnswersRequest, AreRequested, IsRequested}
use Rattle.mdmp_lister.proofs.Classes.{plain-named}
use Rattle.mdmp_lister.proofs.Requested.{all_items, aside_more, aside_none, item_requested, requested_left}
use Rattle.mdmp_dump.specs.declared.fault.ReadFault.{ReadFault}
use Rattle.mdmp_dump.specs.declared.fault.ReadFault.TheVariants as faults
use Rattle.mdmp_dump.specs.declared.reader.Reader.{Reader}
use Rattle.mdmp_dump.specs.declared.reader.Told.{Told}
use Rattle.mdmp_dump.specs.declared.reader.Told.TheVariants as tolds
use Rattle.mdmp_dump.specs.ItemsRead.{AreReadInTurn, EndsOrStops, EndsReading, IsOfListing, ReadsInTurn, ReadsParts, steps_left}
use Rattle.mdmp_dump.specs.Reading.{FindsRead, IsNameTaken, TakesSteps, listed_within, opened_within, read_within, steps_of, steps_told}
use Rattle.mdmp_dump.specs.Refusal.{ReadStep, Refuse, Take, bytes_in_steps, inside_steps, item_steps, name_steps, parts_asked, parts_in_steps, stream_steps}
use Rattle.mdmp_dump.proofs.RecordItems.{item_asks, name_asked}

-- ---- parts

pub parts_none : (steps : List ReadStep) (v : ListerState) → ReadsParts steps steps v v
parts_none steps v = record { aside = aside_none v; bytes = omega arith; calls = omega arith }

-- of what is to be read less may be
pub parts_unread : (steps : List ReadStep) (v : ListerState) → ReadsParts steps [] v v
parts_unread steps v = record { aside = aside_none v; bytes = omega arith; calls = omega arith }

pub parts_then : (steps mid left : List ReadStep) (u v w : ListerState) → ReadsParts steps mid u v → ReadsParts mid left v w → ReadsParts steps left u w
parts_then steps mid left u v w first later = record {
  aside = aside_more u v w first.aside later.aside;
  bytes = omega (arith, first.bytes, later.bytes);
  calls = omega (arith, first.calls, later.calls);
}

-- steps behind others
bytes_both : (xs ys : List ReadStep) → bytes_in_steps (xs ++ ys) ≡ bytes_in_steps xs + bytes_in_steps ys
bytes_both [] ys = omega arith
bytes_both (Refuse fault ∷ xs) ys = bytes_both xs ys
bytes_both (Take e k offset size ∷ xs) ys = omega (arith, bytes_both xs ys)

parts_both : (xs ys : List ReadStep) → parts_in_steps (xs ++ ys) ≡ parts_in_steps xs + parts_in_steps ys
parts_both [] ys = omega arith
parts_both (Refuse fault ∷ xs) ys = parts_both xs ys
parts_both (Take e k offset size ∷ xs) ys = omega (arith, parts_both xs ys)

pub parts_append : (steps more : List ReadStep) (u v w : ListerState) → ReadsParts steps [] u v → ReadsParts more [] v w → ReadsParts (steps ++ more) [] u w
parts_append steps more u v w first later = record {
  aside = aside_more u v w first.aside later.aside;
  bytes = omega (arith, first.bytes, later.bytes, bytes_both steps more);
  calls = omega (arith, first.calls, later.calls, parts_both steps more);
}

pub parts_first : (steps more : List ReadStep) (u v : ListerState) → ReadsParts steps [] u v → ReadsParts (steps ++ more) [] u v
parts_first steps more u v first = record { aside = first.aside; bytes = omega (arith, first.bytes, bytes_both steps more); calls = omega (arith, first.calls, parts_both steps more) }

-- one part was read, or in part
pub parts_one : (e k at size : ℕ) (u v : ListerState) → v ≡ record u { source = v.source; counts = v.counts } → SpendsAside 1 size u.counts v.counts → FetchesAtMost size u.source v.source
    → ReadsParts (Take e k at size ∷ []) [] u v
parts_one e k at size u v same aside fetches = record {
  aside = record { calls = 1; bytes = size; same = same; aside = aside; fetches = fetches };
  bytes = omega (arith, aside.aside);
  calls = omega (arith, aside.aside_calls);
}

-- ---- items

turn_then : (xs ys : List Item) (steps mid left : List ReadStep) (u v w : ListerState) → AreReadInTurn steps u xs mid v → AreReadInTurn mid v ys left w → AreReadInTurn steps u (xs ++ ys) left w
turn_then [] [] steps mid left u v w first later = parts_then steps mid left u v w first later
turn_then [] (y ∷ ys) steps mid left u v w first later = (later.0, (parts_then steps mid [] u v later.0 first later.1.0, later.1.1))
turn_then (x ∷ xs) ys steps mid left u v w first later =
    (first.0, (first.1.0, (first.1.1.0, (first.1.1.1.0, turn_then xs ys (item_steps first.0.source.size x) mid left first.1.1.0 v w first.1.1.1.1 later))))

-- a listing that goes on was not answered with its end
turn_going : (steps left : List ReadStep) (xs : List Item) (u b v : ListerState) → v.stop ≡ None → AreReadInTurn steps u xs left b → EndsOrStops b v → AreReadInTurn steps u xs left v
turn_going steps left xs u b v going given (inl same) = subst (λ (w : ListerState). AreReadInTurn steps u xs left w) (sym same) given
turn_going steps left xs u b v going given (inr end) = let stop = end.leaves.list.stands.stop in absurd (cc)

turn_any : (steps left : List ReadStep) (xs : List Item) (u v : ListerState) → AreReadInTurn [] u xs left v → AreReadInTurn steps u xs left v
turn_any steps left [] u v given = record { aside = given.aside; bytes = omega (arith, given.bytes); calls = omega (arith, given.calls) }
turn_any steps left (x ∷ xs) u v given =
    (given.0, (record { aside = given.1.0.aside; bytes = omega (arith, given.1.0.bytes); calls = omega (arith, given.1.0.calls) }, given.1.1))

-- ---- how it ends

ends_as : (T U : Type 0) (fault : ReadFault) (u v : ListerState) → EndsReading {T = T} u (Err fault) v → EndsReading {T = U} u (Err fault) v
ends_as T U (faults.List f) u v ends = ends
ends_as T U fault u v ends = ends

-- by an error that is none of the listing's
ends_unlisted : (T : Type 0) (fault : ReadFault) (u v : ListerState) → (IsOfListing fault → ⊥) → EndsOrStops u v → EndsReading {T = T} u (Err fault) v
ends_unlisted T (faults.List f) u v not ends = absurd (not tt)
ends_unlisted T fault u v not ends = ends

-- ---- readings

module _ {T U : Type 0} (steps mid left : List ReadStep) (x : T) (result : Result U ReadFault) (u v w : ListerState) where
  pub reads_then : v.stop ≡ None → ReadsInTurn steps (Ok x) mid u v → ReadsInTurn mid result left v w → ReadsInTurn steps result left u w
  reads_then going first later = record {
    items = first.items ++ later.items;
    behind = later.behind;
    given = turn_then first.items later.items steps mid left u v later.behind (turn_going steps mid first.items u first.behind v going first.given first.ended) later.given;
    ended = later.ended;
  }

pub reads_parts : {T : Type 0} (steps left : List ReadStep) (x : T) (u v : ListerState) → ReadsParts steps left u v → ReadsInTurn steps (Ok x) left u v
reads_parts steps left x u v parts = record { items = []; behind = v; given = parts; ended = inl refl }

pub parts_fail : {T : Type 0} (steps : List ReadStep) (fault : ReadFault) (u v : ListerState) → (IsOfListing fault → ⊥) → ReadsParts steps [] u v → ReadsInTurn {T = T} steps (Err fault) [] u v
parts_fail {T} steps fault u v not parts = record { items = []; behind = v; given = parts; ended = ends_unlisted T fault v v not (inl refl) }

-- memory runs out, and what is still to be read is not
pub reads_memory : {T U : Type 0} (steps left : List ReadStep) (x : T) (u v : ListerState) → ReadsInTurn steps (Ok x) left u v → ReadsInTurn {T = U} steps (Err faults.Memory) [] u v
reads_memory steps left x u v reads = record { items = reads.items; behind = reads.behind; given = fewer reads.items steps u reads.given; ended = reads.ended } where
  fewer : (xs : List Item) (asked : List ReadStep) (t : ListerState) → AreReadInTurn asked t xs left reads.behind → AreReadInTurn asked t xs [] reads.behind
  fewer [] asked t given = record { aside = given.aside; bytes = omega (arith, given.bytes); calls = omega (arith, given.calls) }
  fewer (y ∷ ys) asked t given = (given.0, (given.1.0, (given.1.1.0, (given.1.1.1.0, fewer ys (item_steps given.0.source.size y) given.1.1.0 given.1.1.1.1))))

pub reads_as : {T U : Type 0} (steps : List ReadStep) (fault : ReadFault) (u v : ListerState) → ReadsInTurn {T = T} steps (Err fault) [] u v → ReadsInTurn {T = U} steps (Err fault) [] u v
reads_as {T} {U} steps fault u v reads = record { items = reads.items; behind = reads.behind; given = reads.given; ended = ends_as T U fault reads.behind v reads.ended }

pub reads_done : {T U : Type 0} (steps left : List ReadStep) (x : T) (y : U) (u v : ListerState) → ReadsInTurn steps (Ok x) left u v → ReadsInTurn steps (Ok y) left u v
reads_done steps left x y u v reads = record { items = reads.items; behind = reads.behind; given = reads.given; ended = reads.ended }

-- and where more is asked first, of which nothing was read
pub reads_any : {T : Type 0} (steps left : List ReadStep) (result : Result T ReadFault) (u v : ListerState) → ReadsInTurn [] result left u v → ReadsInTurn steps result left u v
reads_any steps left result u v reads = record { items = reads.items; behind = reads.behind; given = turn_any steps left reads.items u reads.behind reads.given; ended = reads.ended }

-- ---- one request

module _ (u v : ListerState) where
  -- an item was given, which asks this
  pub reads_item : {T : Type 0} (x : Item) (y : T) (left : List ReadStep) → IsRequested u x v → item_steps u.source.size x ≡ left → ReadsInTurn [] (Ok y) left u v
  reads_item x y left given is = record {
    items = x ∷ [];
    behind = v;
    given = (u, (parts_none [] u, (v, (given, subst (λ (asked : List ReadStep). ReadsParts asked left v v) (sym is) (parts_none left v)))));
    ended = inl refl;
  }

  -- or is refused
  pub item_refused : {T : Type 0} (x : Item) (fault : ReadFault) → IsRequested u x v → (IsOfListing fault → ⊥) → ReadsInTurn {T = T} [] (Err fault) [] u v
  item_refused {T} x fault given not = record {
    items = x ∷ [];
    behind = v;
    given = (u, (parts_none [] u, (v, (given, parts_unread (item_steps u.source.size x) v))));
    ended = ends_unlisted T fault v v not (inl refl);
  }

  -- an item of which nothing is taken
  pub reads_past : {T : Type 0} (x : Item) (y : T) → IsRequested u x v → ReadsInTurn [] (Ok y) [] u v
  reads_past x y given = record { items = x ∷ []; behind = v; given = (u, (parts_none [] u, (v, (given, parts_unread (item_steps u.source.size x) v)))); ended = inl refl }

  pub reads_end : {T : Type 0} (y : T) → AnswersRequest u (Ok None) v → ReadsInTurn [] (Ok y) [] u v
  reads_end y end = record { items = []; behind = u; given = parts_none [] u; ended = inr end }

  -- or either, where what was given is not told
  pub reads_answer : {T : Type 0} (y : T) (result : Result (Option Item) ListFault) → IsOk result → ListerLeaves u result v → ((left : Run) → u.left ≡ Some left → Gives left result) → ReadsInTurn [] (Ok y) [] u v
  reads_answer y (Ok None) ok leaves gives = reads_end y (record { leaves = leaves; gives = gives })
  reads_answer y (Ok (Some x)) ok leaves gives = reads_past (plain x) y (item_requested u x v leaves gives)
  reads_answer y (Err f) ok leaves gives = absurd (cc)

  pub reads_fault : {T : Type 0} (f : ListFault) → AnswersRequest u (Err f) v → ReadsInTurn {T = T} [] (Err (faults.List f)) [] u v
  reads_fault f last = record { items = []; behind = u; given = parts_none [] u; ended = last }

-- ---- a record and its parts

module _ {S A : Type 0} where
  -- what some steps asked was read
  pub reads_steps : {T : Type 0} (steps : List ReadStep) (result : Result T ReadFault) (old new : Reader S A) → TakesSteps steps old result new → ReadsInTurn steps result [] old.lister new.lister
  reads_steps steps (Ok x) old new takes = reads_parts steps [] x old.lister new.lister takes.parts
  reads_steps steps (Err fault) old new takes = parts_fail steps fault old.lister new.lister takes.of_steps takes.parts

  pub reads_record : {T U : Type 0} (x : T) (r : RecordRead) (result : Result U ReadFault) (old mid new : Reader S A) → mid.lister.stop ≡ None → mid.lister.source.size ≡ old.lister.source.size
      → ReadsInTurn [] (Ok x) (parts_asked old.lister.source.size r) old.lister mid.lister → TakesSteps (parts_asked mid.lister.source.size r) mid result new → ReadsInTurn [] result [] old.lister new.lister
  reads_record x r result old mid new going same first takes =
      reads_then [] (parts_asked old.lister.source.size r) [] x result old.lister mid.lister new.lister going first
      (subst (λ (z : ℕ). ReadsInTurn (parts_asked z r) result [] mid.lister new.lister) same (reads_steps (parts_asked mid.lister.source.size r) result mid new takes))

  -- the bytes of a stream inside the file were read
  pub raw_parts : (old reader new : Reader S A) (item : StreamItem) (at len : ℕ) → at ≡ item.location.rva → len ≡ item.location.size → (size : ℕ) → size ≡ old.lister.source.size → is_inside at len size ≡ true
      → reader ≡ new → ReadsParts (Take item.entry 0 at len ∷ []) [] old.lister new.lister → ReadsParts (inside_steps old.lister.source.size item.entry item.location) [] old.lister reader.lister
  raw_parts old reader new item at len at_is len_is size size_is inside same parts =
      let within : is_inside item.location.rva item.location.size old.lister.source.size ≡ true = rw (at_is, len_is, size_is) at inside in
      let asked = rw (at_is, len_is) at parts in
      rw same (subst (λ (steps : List ReadStep). ReadsParts steps [] old.lister new.lister) (sym (ap (λ (b : Bool). if b then Take item.entry 0 item.location.rva item.location.size ∷ [] else []) within)) asked)

-- ---- streams

-- what a stream's item asks of a file of the same size
pub steps_sized : {T : Type 0} (steps : List ReadStep) (result : Result T ReadFault) (next : Option StreamItem) (y z : ℕ) (u v : ListerState) → y ≡ z
    → ReadsInTurn steps result (steps_of y next) u v → ReadsInTurn steps result (steps_of z next) u v
steps_sized steps result next y z u v same reads = subst (λ (n : ℕ). ReadsInTurn steps result (steps_of n next) u v) same reads

-- a stream was read, and what stands behind it
module _ {T U : Type 0} (x : T) (item : StreamItem) (result : Result U ReadFault) (u v w : ListerState) where
  pub stream_in_turn : (left : List ReadStep) → v.stop ≡ None → v.source.size ≡ u.source.size → ReadsInTurn [] (Ok x) (steps_of u.source.size (Some item)) u v
      → ReadsInTurn (stream_steps v.source.size item.entry item.stream_type item.location) result left v w → ReadsInTurn [] result left u w
  stream_in_turn left going same first later =
      reads_then [] (steps_of u.source.size (Some item)) left x result u v w going first
      (subst (λ (z : ℕ). ReadsInTurn (stream_steps z item.entry item.stream_type item.location) result left v w) same later)

-- ---- as a caller sees it

never_over : (u v : ListerState) (f : ListFault) (kind : FaultKind) → f.kind ≡ kind → v.counts.budget ≡ None → AnswersRequest u (Err f) v → kind ≡ kinds.Budget → ⊥
never_over u v f kind is none last over =
    let refused = subst (λ (k : FaultKind). IsUnmade (max v.rooms.window v.limit) k f.offset f.size v.counts v.source.size) (is ∙ over) last.leaves.list.spends.refused in
    let passes : IsTrue false = subst (λ (budget : Option ℕ). IsTrue (is_passed budget (raised v.counts.fetched f.size))) none refused.passes in
    absurd (cc)

module _ (T : Type 0) (u v : ListerState) where
  listed_as : (budget : Option ℕ) (kind : FaultKind) (f : ListFault) → f.kind ≡ kind → v.counts.budget ≡ budget → AnswersRequest u (Err f) v → EndsReading {T = T} u (Err (listed_within budget kind f)) v
  listed_as None kinds.Budget f is none last = absurd (never_over u v f kinds.Budget is none last refl)
  listed_as None kind f is none last = last
  listed_as (Some most) kind f is some last = last

  opened_as : (budget : Option ℕ) (fault : OpenFault) → EndsOrStops u v → EndsReading {T = T} u (Err (opened_within budget fault)) v
  opened_as None (opening.Budget offset size) ends = ends
  opened_as budget (opening.MemoryLimit held) ends = ends
  opened_as budget fault ends = ends

  pub ends_within : (budget : Option ℕ) (fault : ReadFault) → v.counts.budget ≡ budget → EndsReading {T = T} u (Err fault) v → EndsReading {T = T} u (Err (read_within budget fault)) v
  ends_within budget (faults.List f) is ends = listed_as budget f.kind f refl is ends
  ends_within budget (faults.Opening fault) is ends = opened_as budget fault ends
  ends_within budget fault is ends = ends

pub reads_within : {T U : Type 0} (budget : Option ℕ) (fault : ReadFault) (u v : ListerState) → v.counts.budget ≡ budget → ReadsInTurn {T = T} [] (Err fault) [] u v
    → ReadsInTurn {T = U} [] (Err (read_within budget fault)) [] u v
reads_within {T} {U} budget fault u v is reads = record {
  items = reads.items;
  behind = reads.behind;
  given = reads.given;
  ended = ends_within U reads.behind v budget fault is (ends_as T U fault reads.behind v reads.ended);
}

-- the same requests, whatever was read between them
requested_in_turn : (xs : List Item) (steps left : List ReadStep) (u v : ListerState) → AreReadInTurn steps u xs left v → AreRequested u xs v
requested_in_turn [] steps left u v given = given.aside
requested_in_turn (x ∷ xs) steps left u v given =
    (given.0, (given.1.0.aside, (given.1.1.0, (given.1.1.1.0, requested_in_turn xs (item_steps given.0.source.size x) left given.1.1.0 v given.1.1.1.1))))

-- the end leaves what was left
left_at_end : (u v : ListerState) (rest : Run) → EndsOrStops u v → u.left ≡ Some rest → v.left ≡ Some rest
left_at_end u v rest (inl same) is = ap (λ (w : ListerState). w.left) same ∙ is
left_at_end u v rest (inr end) is = end.leaves.list.stands.left ∙ ap (option_map (left_after (Ok None))) is

-- where nothing is left, all items were read
pub all_in_turn : {T : Type 0} (x : T) (u v : ListerState) (run : Run) (reads : ReadsInTurn [] (Ok x) [] u v) → u.left ≡ Some run → v.left ≡ Some nothing → reads.items ≡ run.items
all_in_turn x u v run reads known none =
    let rest = requested_left reads.items u reads.behind run (requested_in_turn reads.items [] [] u reads.behind reads.given) known in
    let left = left_at_end reads.behind v rest.0 reads.ended rest.1.0 in
    let same : rest.0 ≡ nothing = let both : Some rest.0 ≡ Some nothing = sym left ∙ none in cc in
    all_items reads.items run rest.0 (ap (λ (r : Run). r.items) same) rest.1.1

-- ---- items that were read

-- a name that can't be taken is no error of the listing
name_unlisted : (e k : ℕ) (name : Name) (fault : ReadFault) → IsNameTaken (name_steps e k name) name (Err fault) → IsOfListing fault → ⊥
name_unlisted e k (Long bytes) (faults.List f) of is = absurd (cc of)
name_unlisted e k _ (faults.List f) of is = absurd (cc of)
name_unlisted e k name fault of is = is

-- what is found of an item that was read
pub reads_found : {Z : Type 0} (u v : ListerState) (item : ItemRead) → IsRequested u (plain (item_read u.source.size item)) v → (result : Result (Told Z) ReadFault) → FindsRead item result
    → ReadsInTurn [] result (steps_left (steps_told u.source.size) result) u v
reads_found u v (found.Stream x) given result finds = rw finds (reads_item u v (items.Stream x) _ _ given refl)
reads_found u v (found.Record r name) given (Ok (tolds.Record one units)) finds =
    let z = u.source.size in
    let asked = ap (item_steps z) (plain-named z r.entry r.index r.offset r.fields name) ∙ item_asks z r.entry r.index r.offset r.fields (plain_name name) ∙ name_asked z r (plain_name name) finds.1.0 in
    rw finds.0 (reads_item u v _ _ (parts_asked z r) given asked)
reads_found u v (found.Record r name) given (Ok (tolds.Behind next)) finds = absurd finds
reads_found u v (found.Record r name) given (Err fault) finds = item_refused u v _ fault given (name_unlisted r.entry r.index (plain_name name) fault finds)
