-- A look, one item further, and what a visitor is shown.
use Rattle.std.proofs.Common.{◌≡◌, ◌∙◌, ℕ, ◌+◌, List, [], ◌∷◌, ◌++◌, Option, Some, Result, Ok, Err, ap, append_assoc, arith, inl, inr, refl, subst, sym}
use Rattle.std.proofs.lemmas.List.{append-nil}
use Rattle.std.proofs.lemmas.List.Sums.{sum_by-append, sum_by-cons}
use Rattle.std.specs.Prelude.{fold, slice_get, sum_by}
use Rattle.mdmp_source.specs.Source.{FetchesAtMost, FetchesSome, SourceState}
use Rattle.mdmp_source.specs.SourceLaws.{fetches_then}
use Rattle.mdmp_lister.specs.declared.fault.ListFault.{ListFault}
use Rattle.mdmp_lister.specs.declared.item.Item.{Item}
use Rattle.mdmp_lister.specs.declared.meter.Amount.{Amount}
use Rattle.mdmp_lister.specs.declared.meter.MeterCounts.{MeterCounts}
use Rattle.mdmp_lister.specs.declared.sink.Stopped.{Stopped}
use Rattle.mdmp_lister.specs.Format.Listing.{Run}
use Rattle.mdmp_lister.specs.Lister.{ListerState, tail}
use Rattle.mdmp_lister.specs.Meter.{SpendsAside}
use Rattle.mdmp_lister.specs.Sink.{give_all}
use Rattle.mdmp_lister.specs.Walker.{WalkerState}
use Rattle.mdmp_lister.proofs.Fetches.{FetchesAtMost-none}
use Rattle.mdmp_lister.proofs.Handing.{give_all-next}
use Rattle.mdmp_lister.proofs.Requested.{spends_none}
use Rattle.mdmp_summary.specs.Spending.{ReadsOutside}
use Rattle.mdmp_lister.specs.NamesFetched.{FetchesNames}
use Rattle.mdmp_summary.specs.Visiting.{EndedAmong, EndedAt, IsAtMost, ReadsNothing, RisesOutside, TakesBy, Visited, VisitedAll, VisitedTo, nothing_read}
use Rattle.mdmp_summary.specs.declared.visiting.VisitEnd.{VisitEnd}
use Rattle.mdmp_summary.specs.declared.visiting.VisitEnd.TheVariants as ends
use Rattle.mdmp_summary.specs.declared.visiting.VisitFault.{VisitFault}
use Rattle.mdmp_summary.specs.declared.visiting.VisitFault.TheVariants as faults
use Rattle.mdmp_lister.proofs.NamesFetched.{names_more}

-- a visitor was shown some items so far
pub record HasShown {K : Type 0} (taken : K → Item → Result (Unit {0}) Stopped → K → Type 0) (looked : Option (List ℕ) → ℕ → K → Result (Unit {0}) VisitEnd → K → Type 0)
    (room : Item → Amount) (old : ListerState) (k : K) (new : ListerState) (l : K) : Type 0 where
  pub items : List Item
  pub visited : VisitedAll taken (looked old.source.store.content old.limit) k items l
  pub left : (left : Run) → old.left ≡ Some left → (rest : Run) × ((new.left ≡ Some rest) × (left ≡ give_all items rest))
  pub outside : RisesOutside room items old.counts.aside new.counts.aside
  pub named : FetchesNames 1 items old.counts.fetched new.counts.fetched

-- one item more
module _ {K : Type 0} (taken : K → Item → Result (Unit {0}) Stopped → K → Type 0) (looked : K → Result (Unit {0}) VisitEnd → K → Type 0) where
  pub visited_on : (xs : List Item) (x : Item) (k m new : K) → VisitedAll taken looked k xs m → Visited taken looked m x new → VisitedAll taken looked k (xs ++ x ∷ []) new
  visited_on [] x k m new same one = (new, (subst (λ n. Visited taken looked n x new) same one, refl))
  visited_on (y ∷ ys) x k m new (n, (first, more)) one = (n, (first, visited_on ys x n m new more one))

  -- more items
  pub visited_then : (xs ys : List Item) (k m new : K) → VisitedAll taken looked k xs m → VisitedAll taken looked m ys new → VisitedAll taken looked k (xs ++ ys) new
  visited_then [] ys k m new same more = subst (λ n. VisitedAll taken looked n ys new) same more
  visited_then (x ∷ xs) ys k m new (n, (first, rest)) more = (n, (first, visited_then xs ys n m new rest more))

  pub ended_then : (end : VisitEnd) (xs ys : List Item) (k m new : K) → VisitedAll taken looked k xs m → EndedAmong taken looked end m ys new → EndedAmong taken looked end k (xs ++ ys) new
  ended_then end xs ys k m new so_far ended = record {
    before = xs ++ ended.before;
    last = ended.last;
    is = ap (λ (zs : List Item). xs ++ zs) ended.is ∙ sym (append_assoc xs ended.before (ended.last ∷ []));
    mid = ended.mid;
    visited = visited_then xs ended.before k m ended.mid so_far ended.visited;
    ended = ended.ended;
  }

  pub visited_to : {T : Type 0} (xs ys : List Item) (k m new : K) (result : Result T VisitFault) → VisitedAll taken looked k xs m → VisitedTo taken looked m ys result new → VisitedTo taken looked k (xs ++ ys) result new
  visited_to xs ys k m new (Ok done) so_far more = visited_then xs ys k m new so_far more
  visited_to xs ys k m new (Err (faults.List f)) so_far more = visited_then xs ys k m new so_far more
  visited_to xs ys k m new (Err (faults.Ended end)) so_far more = ended_then end xs ys k m new so_far more

-- ---- what is read outside

module _ (room : Item → Amount) where
  pub outside_none : (a : Amount) → RisesOutside room [] a a
  outside_none a =
      let bytes : sum_by (λ (x : Item). (room x).bytes) [] ≡ 0 = refl in
      let calls : sum_by (λ (x : Item). (room x).calls) [] ≡ 0 = refl in
      record { bytes = omega (arith, bytes); calls = omega (arith, calls) }

  pub outside_then : (xs ys : List Item) (a b c : Amount) → RisesOutside room xs a b → RisesOutside room ys b c → RisesOutside room (xs ++ ys) a c
  outside_then xs ys a b c first then =
      let bytes = sum_by-append (λ (x : Item). (room x).bytes) xs ys in
      let calls = sum_by-append (λ (x : Item). (room x).calls) xs ys in
      let fb = first.bytes in
      let tb = then.bytes in
      let fc = first.calls in
      let tc = then.calls in
      record { bytes = omega (arith, bytes, fb, tb); calls = omega (arith, calls, fc, tc) }

  -- one item makes a visitor read as much as there is room for, or less
  pub outside_one : (x : Item) (owed : Amount) (old new : MeterCounts) → IsAtMost owed (room x) → SpendsAside owed.calls owed.bytes old new → RisesOutside room (x ∷ []) old.aside new.aside
  outside_one x owed old new fits spends =
      let bytes = sum_by-cons (λ (x : Item). (room x).bytes) x [] in
      let calls = sum_by-cons (λ (x : Item). (room x).calls) x [] in
      let no_bytes : sum_by (λ (x : Item). (room x).bytes) [] ≡ 0 = refl in
      let no_calls : sum_by (λ (x : Item). (room x).calls) [] ≡ 0 = refl in
      let fb = fits.bytes in
      let fc = fits.calls in
      let sb = spends.aside in
      let sc = spends.aside_calls in
      record { bytes = omega (arith, bytes, no_bytes, fb, sb); calls = omega (arith, calls, no_calls, fc, sc) }

  -- or nothing
  pub outside_still : (x : Item) (a b : Amount) → b ≡ a → RisesOutside room (x ∷ []) a b
  outside_still x a b same =
      let bytes = ap (λ (n : Amount). n.bytes) same in
      let calls = ap (λ (n : Amount). n.calls) same in
      record { bytes = omega (arith, bytes); calls = omega (arith, calls) }

-- ---- a visitor that reads nothing

pub reads_nothing : (v : WalkerState) → ReadsOutside nothing_read v v
reads_nothing v = record { same = refl; aside = spends_none v.list.counts; fetches = FetchesAtMost-none v.list.source }

-- what it made of some items
pub folded_all : {K : Type 0} (next : K → Item → K) (content : Option (List ℕ)) (limit : ℕ) (xs : List Item) (k l : K) → VisitedAll (TakesBy next) (ReadsNothing content limit) k xs l → l ≡ fold next k xs
folded_all next content limit [] k l same = same
folded_all next content limit (x ∷ xs) k l (n, ((m, ((ok, taken), (done, looked))), more)) = folded_all next content limit xs n l more ∙ ap (λ j. fold next j xs) (looked ∙ taken)

-- ---- a look that is over

-- all that was left was given
pub all_given : (left : Run) (xs : List Item) (rest : Run) (fault : Option ListFault) → left ≡ give_all xs rest → rest ≡ record { items = []; fault = fault } → left ≡ record { items = xs; fault = fault }
all_given left xs rest fault given none = given ∙ ap (give_all xs) none ∙ (λ i. record { items = append-nil xs i; fault = fault })

-- ---- fetches of the same file

pub some_none : (a : SourceState) → FetchesSome a a
some_none a = record { count = 0; fetches = FetchesAtMost-none a }

pub some_then : (n : ℕ) (a b c : SourceState) → FetchesSome a b → FetchesAtMost n b c → FetchesSome a c
some_then n a b c first then = record { count = first.count + n; fetches = fetches_then first.count n a b c first.fetches then }

-- ---- one look after another

module _ {K : Type 0} (taken : K → Item → Result (Unit {0}) Stopped → K → Type 0) (looked : Option (List ℕ) → ℕ → K → Result (Unit {0}) VisitEnd → K → Type 0) where
  -- of the same content, with the same limit on names
  pub visited_same : {T : Type 0} (content content' : Option (List ℕ)) (limit limit' : ℕ) (k : K) (xs : List Item) (result : Result T VisitFault) (l : K) → content' ≡ content → limit' ≡ limit
      → VisitedTo taken (looked content' limit') k xs result l → VisitedTo taken (looked content limit) k xs result l
  visited_same content content' limit limit' k xs result l same few visited =
      subst (λ c. VisitedTo taken (looked c limit) k xs result l) same (subst (λ n. VisitedTo taken (looked content' n) k xs result l) few visited)

-- with the same room
pub outside_same : (room : ℕ → Item → Amount) (span span' : ℕ) (xs : List Item) (a b : Amount) → span' ≡ span → RisesOutside (room span') xs a b → RisesOutside (room span) xs a b
outside_same room span span' xs a b same rises = subst (λ n. RisesOutside (room n) xs a b) same rises

-- ---- an item, and what is read after it

module _ {K : Type 0} (taken : K → Item → Result (Unit {0}) Stopped → K → Type 0) (looked : K → Result (Unit {0}) VisitEnd → K → Type 0) where
  -- the visitor ended as it took an item
  pub ended_taking : (xs : List Item) (x : Item) (k m l : K) → VisitedAll taken looked k xs m → taken m x (Err (record {})) l → EndedAmong taken looked ends.Stopped k (xs ++ x ∷ []) l
  ended_taking xs x k m l so_far last = record { before = xs; last = x; is = refl; mid = m; visited = so_far; ended = inl last }

  -- or as it read
  ended_at : (x : Item) (m n l : K) (end : VisitEnd) → taken m x (Ok tt) n → looked n (Err end) l → EndedAt taken looked m x end l
  ended_at x m n l ends.Stopped took read = inr (n, (took, read))
  ended_at x m n l (ends.Source fault) took read = (n, (took, read))

  pub ended_reading : (xs : List Item) (x : Item) (k m n l : K) (end : VisitEnd) → VisitedAll taken looked k xs m → taken m x (Ok tt) n → looked n (Err end) l
      → EndedAmong taken looked end k (xs ++ x ∷ []) l
  ended_reading xs x k m n l end so_far took read = record { before = xs; last = x; is = refl; mid = m; visited = so_far; ended = ended_at x m n l end took read }

-- a visitor is told of the same content and limit
pub looked_same : {K : Type 0} (looked : Option (List ℕ) → ℕ → K → Result (Unit {0}) VisitEnd → K → Type 0) (content content' : Option (List ℕ)) (limit limit' : ℕ) (k : K) (result : Result (Unit {0}) VisitEnd) (l : K)
    → content' ≡ content → limit' ≡ limit → looked content' limit' k result l → looked content limit k result l
looked_same looked content content' limit limit' k result l same few is =
    subst (λ c. looked c limit k result l) same (subst (λ n. looked content' n k result l) few is)

-- a visitor that takes every item and reads nothing never ends a pass
ended_never : {K : Type 0} (next : K → Item → K) (content : Option (List ℕ)) (limit : ℕ) (end : VisitEnd) (x : Item) (k l : K) → EndedAt (TakesBy next) (ReadsNothing content limit) k x end l → ⊥
ended_never next content limit ends.Stopped x k l (inl (never, took)) = cc
ended_never next content limit ends.Stopped x k l (inr (n, (took, (never, read)))) = cc
ended_never next content limit (ends.Source fault) x k l (n, (took, (never, read))) = cc

pub never_ends : {K : Type 0} (next : K → Item → K) (content : Option (List ℕ)) (limit : ℕ) (end : VisitEnd) (xs : List Item) (k l : K) → EndedAmong (TakesBy next) (ReadsNothing content limit) end k xs l → ⊥
never_ends next content limit end xs k l ended = ended_never next content limit end ended.last ended.mid l ended.ended

-- an item more was taken and looked at
module _ {K : Type 0} (taken : K → Item → Result (Unit {0}) Stopped → K → Type 0) (looked : Option (List ℕ) → ℕ → K → Result (Unit {0}) VisitEnd → K → Type 0) (room : Item → Amount) (old : ListerState) (k : K) where
  pub shown_next : (now new : ListerState) (x : Item) (v t l : K) → HasShown taken looked room old k now v → taken v x (Ok tt) t → looked old.source.store.content old.limit t (Ok tt) l
      → ((left : Run) → now.left ≡ Some left → (slice_get left.items 0 ≡ Some x) × (new.left ≡ Some (tail left))) → RisesOutside room (x ∷ []) now.counts.aside new.counts.aside
      → FetchesNames 1 (x ∷ []) now.counts.fetched new.counts.fetched → HasShown taken looked room old k new l
  shown_next now new x v t l run took read gives outside named = record {
    items = run.items ++ x ∷ [];
    visited = visited_on taken (looked old.source.store.content old.limit) run.items x k v l run.visited (t, (took, read));
    left = λ run_left known.
        let rest = run.left run_left known in
        let first = gives rest.0 rest.1.0 in
        (tail rest.0, (first.1, give_all-next run_left run.items x rest.0 rest.1.1 first.0));
    outside = outside_then room run.items (x ∷ []) old.counts.aside now.counts.aside new.counts.aside run.outside outside;
    named = names_more run.items (x ∷ []) old.counts.fetched now.counts.fetched new.counts.fetched run.named named;
  }
