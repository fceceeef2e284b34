-- The entries of a directory, which pass through a window.
use Rattle.std.proofs.Common.{◌≡◌, ◌≤◌, ◌<◌, ◌+◌, ◌-◌, ◌*◌, ◌/◌, ◌%◌, ◌∙◌, ◌⊎◌, ℕ, true, false, Option, Some, None, Ok, Err, inl, inr, ap, drop, refl, sym, zero, suc, List, [], ◌∷◌, ◌++◌, length, get_or, arith, min}
use Rattle.std.specs.Prelude.{nat_lt}
use Rattle.std.proofs.Math.Nat.{div-add-mod, div-mul-le_self, mod-lt, mul-le-mul_left, mul_assoc, mul_comm, suc-mul}
use Rattle.std.proofs.lemmas.Bool.{cases_lt, le-ltb, lt-ltb}
use Rattle.std.proofs.lemmas.List.{length-drop}
use Rattle.mdmp_lister.specs.declared.fault.FetchFault.{FetchFault}
use Rattle.mdmp_source.specs.Count.{raised}
use Rattle.mdmp_source.specs.Window.{WindowState, behind_of}
use Rattle.mdmp_wire.specs.declared.header.Header.{Header}
use Rattle.mdmp_lister.specs.declared.fault.FetchFault.TheVariants as fetch
use Rattle.mdmp_lister.specs.Fault.{IsCaused}
use Rattle.mdmp_lister.specs.Format.Kind.{greatest_record}
use Rattle.mdmp_lister.specs.Holding.{ComesTo, IsHeldOf, Slides, fills, fills_of, needed, reached, unfetched}
use Rattle.mdmp_lister.specs.Fetching.{TriesHold}
use Rattle.mdmp_lister.specs.Meter.{Books, MeterState}
use Rattle.mdmp_lister.specs.NextFetch.{TriesDirectory, filled}
use Rattle.mdmp_lister.proofs.Fetches.{IsCaused_later, IsCaused_none}
use Rattle.mdmp_lister.proofs.Metering.{Books-then, Books_none, counted_then}

few_fills : (bytes step most : ℕ) → (0 < bytes → bytes / step + 1 ≤ most) → fills_of bytes step ≤ most
unfolding fills_of
few_fills zero step most few = let none : 0 ≤ most = omega arith in none
few_fills (suc n) step most few = few (omega arith)

-- the fills of a directory are no more than its entries
pub directory_fills : (count room : ℕ) → greatest_record ≤ room → fills_of (12 * count) (room - 11) ≤ count
directory_fills count room wide =
    let k = 12 * count / (room - 11) in
    let step : 157 ≤ room - 11 = omega (arith, wide) in
    few_fills (12 * count) (room - 11) count (λ some. omega (arith, some, mul-le-mul_left k step, div-mul-le_self (12 * count) (room - 11)))

-- ---- the fills

-- a window that is filled from the first entry on holds what some fills brought, up to the last entry
pub record IsFilling (at count number : ℕ) (w : WindowState) (old new : MeterState) : Type 0 where
  pub fills : ℕ
  pub behind : behind_of w ≡ at + min (filled w.room fills) (12 * count)
  pub counted : new.fetched ≡ raised old.fetched (min (filled w.room fills) (12 * count))
  pub reaches : at + 12 * number ≤ behind_of w

-- one that holds too little of an entry lacks some of the directory, and the next fill brings more of it
module _ (room at count number behind : ℕ) (below : number < count) (reaches : at + 12 * number ≤ behind) (few : behind < at + 12 * number + 12) where
  parts : 12 * (room / 12) + room % 12 ≡ room
  parts = div-add-mod room 12

  rest : room % 12 < 12
  rest = mod-lt room (omega arith)

  whole_entries : (k : ℕ) → k * (12 * (room / 12)) ≡ 12 * (k * (room / 12))
  whole_entries k = sym (mul_assoc k 12 (room / 12)) ∙ ap (λ n. n * (room / 12)) (mul_comm k 12) ∙ mul_assoc 12 k (room / 12)

  pub lacks_entries : (fills : ℕ) → behind ≡ at + min (filled room fills) (12 * count) → filled room fills < 12 * count
  lacks_entries fills is = omega (arith, is, below, few)

  pub next_filled : (fills : ℕ) → behind ≡ at + min (filled room fills) (12 * count)
      → min (filled room fills) (12 * count) + min (room - (behind - (at + 12 * number))) (at + 12 * count - behind) ≡ min (filled room (suc fills)) (12 * count)
  next_filled zero is = omega (arith, is, reaches)
  next_filled (suc k) is =
      let n = whole_entries k in
      let more : suc k * (12 * (room / 12)) ≡ 12 * (suc k * (room / 12)) = whole_entries (suc k) in
      let one : suc k * (room / 12) ≡ k * (room / 12) + room / 12 = suc-mul k (room / 12) in
      omega (arith, is, reaches, few, below, n, more, one, parts, rest)

-- a window has passed so many of the `count` entries at `at`
pub record Passes (at count number : ℕ) (old : MeterState) (w : WindowState) (new : MeterState) : Type 0 where
  pub place : w.place ≤ at + 12 * number
  pub end : w.end ≡ at + 12 * count
  pub held : IsHeldOf old.source.store.content w
  pub taken : ℕ
  pub called : ℕ
  pub books : Books called taken old new
  pub bytes : taken + unfetched w ≤ 12 * count
  pub calls : called + fills 12 w ≤ fills_of (12 * count) (w.room - 11)
  pub caused : IsCaused None old.source new.source
  -- what some fills brought was fetched, and no more
  pub filling : IsFilling at count number w old new

-- and one more
pub passes_more : {at count number here : ℕ} {old mid new : MeterState} {w v : WindowState} → Passes at count number old w mid → here ≡ at + 12 * number → 12 ≤ w.room
    → Books (min 1 (needed here 12 w)) (needed here 12 w) mid new → IsCaused None mid.source new.source
    → ComesTo here mid.source.store.content w v → Slides {T = Unit {0}} {E = FetchFault} here 12 w (Ok tt) v → IsFilling at count (number + 1) v old new → Passes at count (number + 1) old v new
passes_more {here = here} {old = old} {mid = mid} {new = new} {w = w} i place wide books caused comes slides filling =
    let more = needed here 12 w in
    let calls = slides.calls 12 (omega arith) wide in
    record {
      place = omega (arith, comes.place, place);
      end = comes.end ∙ i.end;
      held = rw i.books.fetches.same_content at comes.held;
      taken = i.taken + more;
      called = i.called + min 1 more;
      books = Books-then i.called (min 1 more) _ i.taken more _ old mid new (omega arith) (omega arith) i.books books;
      bytes = omega (arith, i.bytes, slides.bytes);
      calls = rw comes.room (omega (arith, i.calls, (rw comes.room at calls)));
      caused = IsCaused_later None i.taken old.source mid.source new.source i.books.fetches i.caused caused;
      filling = filling;
    }

module _ {at count number here : ℕ} {old mid : MeterState} {w : WindowState} (i : IsFilling at count number w old mid) (from : w.place ≤ here) (end : w.end ≡ at + 12 * count) (place : here ≡ at + 12 * number) (below : number < count) where
  -- nothing is jumped over
  left : length (drop (here - w.place) w.held) ≡ length w.held - (here - w.place)
  left = length-drop (here - w.place) w.held

  stays : behind_of (reached here w) ≡ behind_of w
  stays = omega (arith, left, from, place, i.reaches)

  lacking : length (reached here w).held < 12 → needed here 12 w ≡ min (w.room - (behind_of w - (at + 12 * number))) (at + 12 * count - behind_of w)
  unfolding needed
  lacking few =
      let yes : nat_lt (length (drop (here - w.place) w.held)) 12 ≡ true = lt-ltb _ _ few in
      let held_is : length (drop (here - w.place) w.held) ≡ behind_of w - (at + 12 * number) = omega (arith, left, from, place, i.reaches) in
      let stays_so : here + length (drop (here - w.place) w.held) ≡ behind_of w = stays in
      rw (yes, stays_so, held_is, end) refl

  short : length (reached here w).held < 12 → behind_of w < at + 12 * number + 12
  short few = omega (arith, left, few, from, place, i.reaches)

  next_len : length (reached here w).held < 12 → min (filled w.room i.fills) (12 * count) + needed here 12 w ≡ min (filled w.room (suc i.fills)) (12 * count)
  next_len few = rw (lacking few) (next_filled w.room at count number (behind_of w) below i.reaches (short few) i.fills i.behind)

  not_needed : 12 ≤ length (reached here w).held → needed here 12 w ≡ 0
  unfolding needed
  not_needed held = let no : nat_lt (length (drop (here - w.place) w.held)) 12 ≡ false = le-ltb _ _ held in rw no refl

  -- a whole entry is held, with a fill or without
  pub filling_more : (new : MeterState) (v : WindowState) → v.room ≡ w.room → TriesHold here 12 w (Ok tt) v mid new → v.place ≡ here → 12 ≤ length v.held → IsFilling at count (number + 1) v old new
  filling_more new v room tried came enough = by_case (cases_lt (length (reached here w).held) 12) where
    by_case : (length (reached here w).held < 12) ⊎ (12 ≤ length (reached here w).held) → IsFilling at count (number + 1) v old new
    by_case (inl few) =
        let n = next_len few in
        let all : behind_of v ≡ at + min (filled w.room (suc i.fills)) (12 * count) = omega (arith, tried.behind, stays, n, i.behind) in
        let spent : new.fetched ≡ raised old.fetched (min (filled w.room (suc i.fills)) (12 * count)) =
        counted_then old.fetched mid.fetched new.fetched (min (filled w.room i.fills) (12 * count)) (needed here 12 w) _ i.counted tried.tries n in
        record {
          fills = suc i.fills;
          behind = rw room all;
          counted = rw room spent;
          reaches = omega (arith, came, enough, place);
        }
    by_case (inr held) =
        let none = not_needed held in
        record {
          fills = i.fills;
          behind = rw room (omega (arith, tried.behind, stays, none, i.behind));
          counted = rw room (counted_then old.fetched mid.fetched new.fetched (min (filled w.room i.fills) (12 * count)) (needed here 12 w) _ i.counted tried.tries (omega (arith, none)));
          reaches = omega (arith, came, enough, place);
        }

  -- or the budget is told of the next fill
  pub filling_refused : (new : MeterState) (v : WindowState) (header : Header) (fault : FetchFault) → header.stream_directory_rva ≡ at → header.number_of_streams ≡ count → TriesHold here 12 w (Err fault) v mid new
      → TriesDirectory w.room header (Err fault) old new
  filling_refused new v header (fetch.Source f) rva streams tried = tt
  filling_refused new v header (fetch.Budget offset size) rva streams tried =
      let few = tried.lacks in
      let n = next_len few in
      let more = lacks_entries w.room at count number (behind_of w) below i.reaches (short few) i.fills i.behind in (
        filled w.room i.fills,
        (
          omega (arith, tried.tries.1, i.counted, more),
          record {
            fills = i.fills;
            more = rw streams more;
            before = refl;
            offset_is = omega (arith, tried.tries.0.0, stays, i.behind, rva, more);
            size_is = rw streams (omega (arith, tried.tries.0.1, n, more));
          },
        ),
      )

-- none was made over a directory that was not begun
pub filling_none : (at count room touched : ℕ) (m : MeterState) → IsFilling at count 0 (record { place = at; end = at + 12 * count; room = room; touched = touched; held = [] }) m m
filling_none at count room touched m = record { fills = 0; behind = omega arith; counted = omega arith; reaches = omega arith }

-- all of it was fetched, if all entries were passed
pub filling_whole : (at count : ℕ) (w : WindowState) (old new : MeterState) → IsFilling at count count w old new → new.fetched ≡ raised old.fetched (12 * count)
filling_whole at count w old new i = omega (arith, i.behind, i.counted, i.reaches)

-- the items of a list are those of f from 0 on, where one more comes behind them
pub each-more : {X : Type 0} (f : ℕ → X) (xs : List X) (x : X) → ((i : ℕ) (d : X) → i < length xs → get_or xs i d ≡ f i) → x ≡ f (length xs)
    → (i : ℕ) (d : X) → i < length (xs ++ x ∷ []) → get_or (xs ++ x ∷ []) i d ≡ f i
each-more f [] x each is zero d lt = is
each-more f [] x each is (suc i) d lt = absurd (omega (arith, lt))
each-more f (y ∷ ys) x each is zero d lt = each 0 d (omega arith)
each-more f (y ∷ ys) x each is (suc i) d lt = each-more (λ k. f (suc k)) ys x (λ k e below. each (suc k) e (omega (arith, below))) is i d (omega (arith, lt))

held_none : (content : Option (List ℕ)) (at end room touched : ℕ) → IsHeldOf content (record { place = at; end = end; room = room; touched = touched; held = [] })
held_none None at end room touched = tt
held_none (Some file) at end room touched = refl

-- none was passed
pub passes_begun : (at count room touched : ℕ) (m : MeterState) → Passes at count 0 m (record { place = at; end = at + 12 * count; room = room; touched = touched; held = [] }) m
passes_begun at count room touched m =
    let left : at + 12 * count - (at + 0) ≡ 12 * count = omega arith in
    let step : room + 1 - 12 ≡ room - 11 = omega arith in
    record {
      place = omega arith;
      end = refl;
      held = held_none m.source.store.content at (at + 12 * count) room touched;
      taken = 0;
      called = 0;
      books = Books_none 0 0 m;
      bytes = omega arith;
      calls = rw (left, step) (omega arith);
      caused = IsCaused_none m.source;
      filling = filling_none at count room touched m;
    }
