-- Laws of a listing: what an entry gives is of that entry alone, and a fault ends it.
use Rattle.std.proofs.Common.{◌≡◌, ◌++◌, ◌+◌, ◌*◌, ◌∙◌, ◌↔◌, ◌&&◌, ℕ, zero, suc, Bool, true, false, cond, List, ◌∷◌, [], length, map, filter, Option, Some, None, Result, Ok, Err, is_none, IfSome, IfOk, IsTrue, refl, ap, sym, append_assoc, append-nil}
use Rattle.std.specs.List.{list_all}
use Rattle.std.specs.Option.{option_or}
use Rattle.std.proofs.lemmas.Bool.{false≢true}
use Rattle.std.proofs.lemmas.List.Elements.{filter-append}
use Rattle.mdmp_lister.specs.declared.choice.Choice.{Choice}
use Rattle.mdmp_lister.specs.declared.choice.Choice.TheVariants.{All}
use Rattle.mdmp_lister.specs.declared.kind.StreamKind.{StreamKind}
use Rattle.mdmp_lister.specs.declared.shape.Shape.{Shape}
use Rattle.mdmp_lister.specs.declared.fault.Fault.{Fault}
use Rattle.mdmp_lister.specs.declared.fault.ListFault.{ListFault}
use Rattle.mdmp_lister.specs.declared.name.Name.{Name}
use Rattle.mdmp_lister.specs.declared.item.Item.{Item}
use Rattle.mdmp_lister.specs.declared.verdict.Verdict.{Verdict}
use Rattle.mdmp_lister.specs.Format.Item.{item_at, named, offset_in, record_at}
use Rattle.mdmp_lister.specs.Format.Kind.{kind_of}
use Rattle.mdmp_lister.specs.Format.Shape.{shape_of, location_fault}
use Rattle.mdmp_lister.specs.Format.Listing.{Numbered, Run, all_joined, entry_body, entries_from, entry_count, entry_listing, entry_of, item_then, items_from, joined, list_fault, listing, nothing, only_chosen, only_fault, records_of, shaped, stream_item, verdicts, with_item}
use Rattle.mdmp_lister.specs.Format.Laws.{entry_number, first_fault, is_good, is_of, part_of, stands_in}
use Rattle.mdmp_lister.specs.Format.Summary.{Summary}
use Rattle.mdmp_lister.proofs.Summary.{summary_of-item_of}

-- ---- what an entry gives

-- a run is of entry e alone: a test of entries keeps all of its items or none, and its fault is of e
record IsOf (e : ℕ) (run : Run) : Type 0 where
  items : (test : ℕ → Bool) → filter (λ x. test (entry_number x)) run.items ≡ cond (test e) run.items []
  fault : IfSome run.fault (λ f. f.entry ≡ e)

none_kept : (b : Bool) → [] ≡ cond {A = List Item} b [] []
none_kept true = refl
none_kept false = refl

one_kept : (b : Bool) (x : Item) (xs kept : List Item) → kept ≡ cond b xs [] → cond b (x ∷ kept) kept ≡ cond b (x ∷ xs) []
one_kept true x xs kept same = ap (λ (ys : List Item). x ∷ ys) same
one_kept false x xs kept same = same

IsOf-nothing : (e : ℕ) → IsOf e nothing
IsOf-nothing e = record { items = λ test. none_kept (test e); fault = tt }

IsOf-only_fault : (e : ℕ) (index : Option ℕ) (f : Fault) → IsOf e (only_fault (list_fault e index f))
IsOf-only_fault e index f = record { items = λ test. none_kept (test e); fault = refl }

IsOf-with_item : (e : ℕ) (item : Item) (run : Run) → entry_number item ≡ e → IsOf e run → IsOf e (with_item item run)
IsOf-with_item e item run same of = record {
  items = λ test.
      let kept = filter (λ x. test (entry_number x)) run.items in
      ap (λ n. cond (test n) (item ∷ kept) kept) same ∙ one_kept (test e) item run.items kept (of.items test);
  fault = of.fault;
}

named-entry : (e : ℕ) (name : Result Name Fault) (item : Name → Item) → ((n : Name) → entry_number (item n) ≡ e)
    → IfOk (named name item) (λ x. entry_number x ≡ e)
named-entry e (Ok n) item same = same n
named-entry e (Err f) item same = tt

item_at-entry : (F : List ℕ) (limit e k at o : ℕ) (kind : StreamKind) → IfOk (item_at F limit e k at o kind) (λ x. entry_number x ≡ e)
item_at-entry F limit e k at o kind =
    let fields = record_at kind F o in
    let offset = offset_in F at k kind in
    named-entry e _ _ (λ name. ap (λ (s : Summary). s.entry) (summary_of-item_of (length F) e k offset fields name))

IsOf-item_then : (e k : ℕ) (item : Result Item Fault) (rest : Run) → IfOk item (λ x. entry_number x ≡ e) → IsOf e rest → IsOf e (item_then e k item rest)
IsOf-item_then e k (Ok item) rest same of = IsOf-with_item e item rest same of
IsOf-item_then e k (Err f) rest same of = IsOf-only_fault e (Some k) f

IsOf-items_from : (F : List ℕ) (limit e at : ℕ) (kind : StreamKind) (shape : Shape) (n k : ℕ) → IsOf e (items_from F limit e at kind shape n k)
IsOf-items_from F limit e at kind shape zero k = IsOf-nothing e
IsOf-items_from F limit e at kind shape (suc n) k =
    let o = at + shape.first + k * shape.stride in
    IsOf-item_then e k (item_at F limit e k at o kind) _ (item_at-entry F limit e k at o kind) (IsOf-items_from F limit e at kind shape n (k + 1))

IsOf-shaped : (F : List ℕ) (limit e at : ℕ) (kind : StreamKind) (shape : Result Shape Fault) → IsOf e (shaped F limit e at kind shape)
IsOf-shaped F limit e at kind (Ok shape) = IsOf-items_from F limit e at kind shape shape.count 0
IsOf-shaped F limit e at kind (Err f) = IsOf-only_fault e None f

IsOf-records_of : (F : List ℕ) (limit e at size : ℕ) (kind : Option StreamKind) → IsOf e (records_of F limit e at size kind)
IsOf-records_of F limit e at size (Some kind) = IsOf-shaped F limit e at kind (shape_of F at size kind)
IsOf-records_of F limit e at size None = IsOf-nothing e

IsOf-entry_body : (F : List ℕ) (limit : ℕ) (x : Numbered) (outside : Option Fault) → outside ≡ location_fault (length F) x.entry → IsOf x.number (entry_body F limit x)
IsOf-entry_body F limit x None inside = rw (← inside) (IsOf-records_of F limit x.number x.entry.location.rva x.entry.location.size (kind_of x.entry.stream_type))
IsOf-entry_body F limit x (Some f) outside = rw (← outside) (IsOf-only_fault x.number None f)

-- all that an entry gives is of that entry
IsOf-entry_listing : (F : List ℕ) (limit : ℕ) (x : Numbered) → IsOf x.number (entry_listing F limit x)
IsOf-entry_listing F limit x = IsOf-with_item x.number (stream_item x) (entry_body F limit x) refl (IsOf-entry_body F limit x (location_fault (length F) x.entry) refl)

-- ---- the part of a listing that a choice has

-- the listing `some` of the choice, against the listing `all` of every entry
pub record IsPart (F : List ℕ) (choice : Choice) (all some : Run) : Type 0 where
  pub same : IsTrue (stands_in F choice all.fault) → some ≡ part_of F choice all
  pub begins : (rest : List Item) × (some.items ≡ (part_of F choice all).items ++ rest)

-- the items of chosen entries
abbrev chosen_items : List ℕ → Choice → List Item → List Item
chosen_items F choice xs = filter (λ x. is_of F choice (entry_number x)) xs

-- the items of an entry are kept whole, or none of them
chosen_items-entry : (F : List ℕ) (choice : Choice) (e : ℕ) (run : Run) (b : Bool) → IsOf e run → is_of F choice e ≡ b
    → chosen_items F choice run.items ≡ cond b run.items []
chosen_items-entry F choice e run b of test = of.items (is_of F choice) ∙ ap (λ (c : Bool). cond c run.items []) test

chosen_items-append : (F : List ℕ) (choice : Choice) (e : ℕ) (run : Run) (more : List Item) (b : Bool) → IsOf e run → is_of F choice e ≡ b
    → chosen_items F choice (run.items ++ more) ≡ cond b run.items [] ++ chosen_items F choice more
chosen_items-append F choice e run more b of test =
    filter-append (λ x. is_of F choice (entry_number x)) run.items more
    ∙ ap (λ (xs : List Item). xs ++ chosen_items F choice more) (chosen_items-entry F choice e run b of test)

IsPart-nothing : (F : List ℕ) (choice : Choice) → IsPart F choice nothing nothing
IsPart-nothing F choice = record { same = λ _. refl; begins = ([], refl) }

-- a chosen entry stands before both listings
IsPart-chosen : (F : List ℕ) (choice : Choice) (e : ℕ) (items : List Item) (fault : Option ListFault) (all some : Run)
    → IsOf e (record { items = items; fault = fault }) → is_of F choice e ≡ true → IsPart F choice all some
    → IsPart F choice (joined (record { items = items; fault = fault }) all) (joined (record { items = items; fault = fault }) some)
IsPart-chosen F choice e items None all some of chosen part =
    let run : Run = record { items = items; fault = None } in
    let whole = sym (chosen_items-append F choice e run all.items true of chosen) in
    record {
      same = λ stands.
          ap (joined run) (part.same stands)
          ∙ ap (λ (xs : List Item). record { items = xs; fault = all.fault }) whole;
      begins = (
        part.begins.0,
        ap (λ (xs : List Item). items ++ xs) part.begins.1
            ∙ sym (append_assoc items (chosen_items F choice all.items) part.begins.0)
            ∙ ap (λ (xs : List Item). xs ++ part.begins.0) whole,
      );
    }
IsPart-chosen F choice e items (Some f) all some of chosen part =
    let whole = sym (chosen_items-entry F choice e (record { items = items; fault = Some f }) true of chosen) in
    record {
      same = λ _. ap (λ (xs : List Item). record { items = xs; fault = Some f }) whole;
      begins = ([], sym (append-nil items) ∙ ap (λ (xs : List Item). xs ++ []) whole);
    }

-- an entry that is not chosen stands before the listing of all alone
IsPart-other : (F : List ℕ) (choice : Choice) (e : ℕ) (items : List Item) (fault : Option ListFault) (all some : Run)
    → IsOf e (record { items = items; fault = fault }) → is_of F choice e ≡ false → IsPart F choice all some
    → IsPart F choice (joined (record { items = items; fault = fault }) all) some
IsPart-other F choice e items None all some of other part =
    let rest = sym (chosen_items-append F choice e (record { items = items; fault = None }) all.items false of other) in
    record {
      same = λ stands. part.same stands ∙ ap (λ (xs : List Item). record { items = xs; fault = all.fault }) rest;
      begins = (part.begins.0, part.begins.1 ∙ ap (λ (xs : List Item). xs ++ part.begins.0) rest);
    }
IsPart-other F choice e items (Some f) all some of other part =
    let none = sym (chosen_items-entry F choice e (record { items = items; fault = Some f }) false of other) in
    record {
      same = λ stands. absurd (false≢true (sym other ∙ ap (is_of F choice) (sym of.fault) ∙ stands));
      begins = (some.items, ap (λ (xs : List Item). xs ++ some.items) none);
    }

IsPart-entry : (F : List ℕ) (choice : Choice) (limit : ℕ) (x : Numbered) (all : Run) (xs : List Numbered) (b : Bool) → is_of F choice x.number ≡ b
    → IsPart F choice all (all_joined (map (entry_listing F limit) xs))
    → IsPart F choice (joined (entry_listing F limit x) all) (all_joined (map (entry_listing F limit) (cond b (x ∷ xs) xs)))
IsPart-entry F choice limit x all xs true chosen part =
    let run = entry_listing F limit x in
    IsPart-chosen F choice x.number run.items run.fault all _ (IsOf-entry_listing F limit x) chosen part
IsPart-entry F choice limit x all xs false other part =
    let run = entry_listing F limit x in
    IsPart-other F choice x.number run.items run.fault all _ (IsOf-entry_listing F limit x) other part

IsPart-entries_from : (F : List ℕ) (choice : Choice) (limit n e : ℕ)
    → IsPart F choice (all_joined (map (entry_listing F limit) (only_chosen All (entries_from F n e)))) (all_joined (map (entry_listing F limit) (only_chosen choice (entries_from F n e))))
unfolding entries_from only_chosen
IsPart-entries_from F choice limit zero e = IsPart-nothing F choice
IsPart-entries_from F choice limit (suc n) e =
    IsPart-entry F choice limit (record { number = e; entry = entry_of F e }) _ (only_chosen choice (entries_from F n (e + 1))) (is_of F choice e) refl
    (IsPart-entries_from F choice limit n (e + 1))

pub IsPart-listing : (F : List ℕ) (choice : Choice) (limit : ℕ) → IsPart F choice (listing F All limit) (listing F choice limit)
IsPart-listing F choice limit = IsPart-entries_from F choice limit (entry_count F) 0

-- ---- verdicts in their order

joined-fault : (items : List Item) (fault : Option ListFault) (rest : Run) → (joined (record { items = items; fault = fault }) rest).fault ≡ option_or fault rest.fault
joined-fault items None rest = refl
joined-fault items (Some f) rest = refl

-- the verdict on an entry
abbrev verdict_of : List ℕ → ℕ → Numbered → Verdict
verdict_of F limit x = record { entry = x.number; fault = (entry_listing F limit x).fault }

first_fault-all_joined : (F : List ℕ) (limit : ℕ) (xs : List Numbered) → (all_joined (map (entry_listing F limit) xs)).fault ≡ first_fault (map (verdict_of F limit) xs)
first_fault-all_joined F limit [] = refl
first_fault-all_joined F limit (x ∷ xs) =
    let run = entry_listing F limit x in
    joined-fault run.items run.fault (all_joined (map (entry_listing F limit) xs))
    ∙ ap (option_or run.fault) (first_fault-all_joined F limit xs)

pub listing-fault : (F : List ℕ) (choice : Choice) (limit : ℕ) → (listing F choice limit).fault ≡ first_fault (verdicts F choice limit)
listing-fault F choice limit = first_fault-all_joined F limit (only_chosen choice (entries_from F (entry_count F) 0))

good_before : (fault rest : Option ListFault) (b : Bool) → b ≡ is_none rest → (is_none fault && b) ≡ is_none (option_or fault rest)
good_before None rest b same = same
good_before (Some f) rest b same = refl

list_all-is_good : (vs : List Verdict) → list_all is_good vs ≡ is_none (first_fault vs)
list_all-is_good [] = refl
list_all-is_good (v ∷ vs) = good_before v.fault (first_fault vs) (list_all is_good vs) (list_all-is_good vs)

is_none_iff : (fault : Option ListFault) → IsTrue (is_none fault) ↔ (fault ≡ None)
is_none_iff None = (λ _. refl, λ _. refl)
is_none_iff (Some f) = (λ none. absurd (false≢true none), λ none. absurd cc)

pub listing-good : (F : List ℕ) (choice : Choice) (limit : ℕ) → IsTrue (list_all is_good (verdicts F choice limit)) ↔ ((listing F choice limit).fault ≡ None)
listing-good F choice limit = rw (list_all-is_good (verdicts F choice limit), ← listing-fault F choice limit) (is_none_iff (listing F choice limit).fault)
