-- A run, one item longer.
use Rattle.std.proofs.Common.{◌≡◌, ◌<◌, ◌+◌, ◌^◌, List, [], ◌∷◌, ◌++◌, ℕ, Option, None, Some, ap, arith, Result, Ok, Err, inl, inr, refl, subst, sym, ◌∙◌, append_assoc}
use Rattle.std.proofs.lemmas.List.Sums.{sum_by-append, sum_by-cons}
use Rattle.mdmp_source.specs.Count.{raised}
use Rattle.mdmp_wire.specs.declared.entry.Entry.{Entry}
use Rattle.mdmp_lister.specs.declared.choice.Choice.{Choice}
use Rattle.mdmp_lister.specs.declared.fault.ListFault.{ListFault}
use Rattle.mdmp_lister.specs.declared.item.Item.{Item}
use Rattle.mdmp_lister.specs.declared.step.Step.{Step}
use Rattle.mdmp_lister.specs.Following.{Follows}
use Rattle.mdmp_lister.specs.Step.{TellsAnswer, TellsItem}
use Rattle.mdmp_lister.specs.declared.sink.Stopped.{Stopped}
use Rattle.mdmp_lister.specs.Sink.{AllClassed, ComeNext, ComesNext, Taken, TakenToStop, current_behind, give_all, names_of_all, passed_behind}
use Rattle.std.specs.Prelude.{drop, slice_get}
use Rattle.mdmp_lister.specs.Format.Classes.{IsClassed}
use Rattle.mdmp_lister.specs.Costs.{HasCost}
use Rattle.mdmp_lister.specs.Format.Numbers.{names_of}
use Rattle.mdmp_lister.specs.Format.Item.{plain}
use Rattle.mdmp_lister.proofs.Naming.{names_of-plain}
use Rattle.mdmp_lister.proofs.Advancing.{current_after-plain}
use Rattle.mdmp_lister.proofs.Classes.{classed-plain}
use Rattle.mdmp_lister.specs.Lister.{AnswersNext, IsSameLister, ListerState, current_after, cursor_in, passed_after, tail}
use Rattle.mdmp_lister.specs.Format.Listing.{Run, with_item}
use Rattle.mdmp_lister.specs.Format.Ranges.{ranges_of}
use Rattle.mdmp_lister.specs.Requested.{AreRequested}

pub give_all-more : (old : Run) (xs : List Item) (x : Item) (rest new : Run) → old ≡ give_all xs rest → rest ≡ with_item x new → old ≡ give_all (xs ++ x ∷ []) new
give_all-more old xs x rest new given next = given ∙ rw (next, append_assoc) refl

-- the first item that is left, and the rest
first-left : (items : List Item) (x : Item) → slice_get items 0 ≡ Some x → items ≡ x ∷ drop 1 items
first-left [] x first = absurd (cc)
first-left (y ∷ ys) x first = let same : y ≡ x = cc in rw same refl

pub give_all-next : (old : Run) (xs : List Item) (x : Item) (rest : Run) → old ≡ give_all xs rest → slice_get rest.items 0 ≡ Some x → old ≡ give_all (xs ++ x ∷ []) (tail rest)
give_all-next old xs x rest given first =
    give_all-more old xs x rest (tail rest) given (ap (λ (ys : List Item). record { items = ys; fault = rest.fault }) (first-left rest.items x first))

pub passed_behind-more : (xs : List Item) (x : Item) (old mid new : ℕ) → mid ≡ passed_behind xs old → new ≡ passed_after x mid → new ≡ passed_behind (xs ++ x ∷ []) old
passed_behind-more [] x old mid new behind next = next ∙ ap (passed_after x) behind
passed_behind-more (y ∷ ys) x old mid new behind next = passed_behind-more ys x (passed_after y old) mid new behind next

pub current_behind-more : (xs : List Item) (x : Item) (old mid new : Entry) → mid ≡ current_behind xs old → new ≡ current_after x mid → new ≡ current_behind (xs ++ x ∷ []) old
current_behind-more [] x old mid new behind now = now ∙ ap (current_after x) behind
current_behind-more (y ∷ ys) x old mid new behind now = current_behind-more ys x (current_after y old) mid new behind now

-- what one more item names is classed, in the entry that it stands in
pub AllClassed-more : (z : ℕ) (xs : List Item) (x : Item) (e mid new : Entry) → AllClassed z e xs → mid ≡ current_behind xs e → new ≡ current_after x mid → IsClassed z new x → AllClassed z e (xs ++ plain x ∷ [])
AllClassed-more z [] x e mid new so_far behind now classed =
    (subst (λ (d : Entry). IsClassed z d (plain x)) (now ∙ ap (current_after x) behind ∙ sym (current_after-plain x e)) (classed-plain z new x classed), tt)
AllClassed-more z (y ∷ ys) x e mid new so_far behind now classed = (so_far.0, AllClassed-more z ys x (current_after y e) mid new so_far.1 behind now classed)

module _ {K X : Type 0} (step : K → X → Result (Unit {0}) Stopped → K → Type 0) (x : X) where
  pub Taken-more : (xs : List X) (k m new : K) → Taken step k xs m → step m x (Ok tt) new → Taken step k (xs ++ x ∷ []) new
  Taken-more [] k m new t s = (new, (subst (λ n. step n x (Ok tt) new) t s, refl))
  Taken-more (y ∷ ys) k m new t s = (t.0, (t.1.0, Taken-more ys t.0 m new t.1.1 s))

  pub TakenToStop-end : (xs : List X) (k m new : K) → Taken step k xs m → step m x (Err (record {})) new → TakenToStop step k (xs ++ x ∷ []) new
  TakenToStop-end [] k m new t s = inl (refl, subst (λ n. step n x (Err (record {})) new) t s)
  TakenToStop-end (y ∷ ys) k m new t s = inr (t.0, (t.1.0, TakenToStop-end ys t.0 m new t.1.1 s))

pub same_lister-then : (a b c : ListerState) → IsSameLister a b → IsSameLister b c → IsSameLister a c
same_lister-then a b c first then = record {
  header_is = then.header_is ∙ first.header_is;
  entries = then.entries ∙ first.entries;
  rooms = then.rooms ∙ first.rooms;
  choice = then.choice ∙ first.choice;
  limit = then.limit ∙ first.limit;
  aside = then.aside ∙ first.aside;
  start = then.start ∙ first.start;
  budget = then.budget ∙ first.budget;
}

-- a count that is not at its greatest rose by just so much
pub rose_exactly : (old new n : ℕ) → new + 1 < 2 ^ 128 → new ≡ raised old n → new ≡ old + n
rose_exactly old new n small rose = omega (arith, small, rose)

-- one item more, and its name
pub names_of_all-more : (xs : List Item) (x : Item) (old mid new : ℕ) → mid ≡ old + names_of_all xs → new ≡ mid + names_of x → new ≡ old + names_of_all (xs ++ plain x ∷ [])
names_of_all-more xs x old mid new so_far next =
    let all = sum_by-append names_of xs (plain x ∷ []) in
    let one = sum_by-cons names_of (plain x) [] in
    omega (arith, so_far, next, all, one, names_of-plain x)

-- ---- what comes next, whatever the file holds

-- an answer of a lister may come next in the listing that was begun
module _ (old now new : ListerState) (same : IsSameLister old now) (size : now.source.size ≡ old.source.size) where
  follows_begun : (read : Result (Option Step) ListFault) → Follows now.choice now.entries now.source.size now.limit (cursor_in now) read (cursor_in new)
      → Follows old.choice old.entries old.source.size old.limit (cursor_in now) read (cursor_in new)
  follows_begun read follows =
      subst (λ n. Follows old.choice old.entries old.source.size n (cursor_in now) read (cursor_in new)) same.limit
      (subst (λ z. Follows old.choice old.entries z now.limit (cursor_in now) read (cursor_in new)) size
      (subst (λ (es : List Entry). Follows old.choice es now.source.size now.limit (cursor_in now) read (cursor_in new)) same.entries
      (subst (λ (c : Choice). Follows c now.entries now.source.size now.limit (cursor_in now) read (cursor_in new)) same.choice follows)))

  pub item_comes : (x : Item) → AnswersNext now (Ok (Some x)) new → ComesNext old.choice old.entries old.source.size old.limit (cursor_in now) (plain x) (cursor_in new)
  item_comes x next = behind next.read next.told next.follows where
    behind : (read : Result (Option Step) ListFault) → TellsAnswer now.source.size read (Ok (Some (plain x))) → Follows now.choice now.entries now.source.size now.limit (cursor_in now) read (cursor_in new)
        → ComesNext old.choice old.entries old.source.size old.limit (cursor_in now) (plain x) (cursor_in new)
    behind (Ok None) told follows = absurd (cc)
    behind (Err f) told follows = absurd (cc)
    behind (Ok (Some s)) told follows =
        let is : told.0 ≡ plain x = let e = told.1.0 in cc in
        record {
          read = s;
          told = subst (λ z. TellsItem z s (plain x)) size (subst (λ (y : Item). TellsItem now.source.size s y) is told.1.1);
          follows = follows_begun (Ok (Some s)) follows;
        }

  pub end_comes : AnswersNext now (Ok None) new → Follows old.choice old.entries old.source.size old.limit (cursor_in now) (Ok None) (cursor_in new)
  end_comes next = behind next.read next.told next.follows where
    behind : (read : Result (Option Step) ListFault) → TellsAnswer now.source.size read (Ok None) → Follows now.choice now.entries now.source.size now.limit (cursor_in now) read (cursor_in new)
        → Follows old.choice old.entries old.source.size old.limit (cursor_in now) (Ok None) (cursor_in new)
    behind (Ok None) told follows = follows_begun (Ok None) follows
    behind (Err f) told follows = absurd (cc)
    behind (Ok (Some s)) told follows = absurd (let e = told.1.0 in cc)

  pub fault_comes : (f : ListFault) → AnswersNext now (Err f) new → Follows old.choice old.entries old.source.size old.limit (cursor_in now) (Err f) (cursor_in new)
  fault_comes f next = behind next.read next.told next.follows where
    behind : (read : Result (Option Step) ListFault) → TellsAnswer now.source.size read (Err f) → Follows now.choice now.entries now.source.size now.limit (cursor_in now) read (cursor_in new)
        → Follows old.choice old.entries old.source.size old.limit (cursor_in now) (Err f) (cursor_in new)
    behind (Ok None) told follows = absurd (cc)
    behind (Err g) told follows =
        let is : g ≡ f = cc in
        subst (λ (h : ListFault). Follows old.choice old.entries old.source.size old.limit (cursor_in now) (Err h) (cursor_in new)) is (follows_begun (Err g) follows)
    behind (Ok (Some s)) told follows = absurd (let e = told.1.0 in cc)

-- ---- a run so far

-- some items were given, and the sink took them
pub record HasGiven {K : Type 0} (step : K → Item → Result (Unit {0}) Stopped → K → Type 0) (old : ListerState) (k : K) (new : ListerState) (l : K) : Type 0 where
  pub items : List Item
  pub taken : Taken step k items l
  pub passed : new.passed ≡ passed_behind items old.passed
  pub current : new.current ≡ current_behind items old.current
  pub classed : AllClassed old.source.size old.current items
  pub ranges : new.ranges ≡ old.ranges ++ ranges_of items
  pub left : (left : Run) → old.left ≡ Some left → (rest : Run) × ((new.left ≡ Some rest) × (left ≡ give_all items rest))
  pub names : new.counts.names ≡ old.counts.names + names_of_all items
  pub cost : HasCost old.unread old.source items new.unread new.source
  pub requested : AreRequested old items new
  pub come : old.stop ≡ None → ComeNext old.choice old.entries old.source.size old.limit (cursor_in old) items (cursor_in new)
