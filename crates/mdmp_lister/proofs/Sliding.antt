-- A window that is filled, and one that is moved on.
use Rattle.std.proofs.Common.{◌≡◌, ◌≤◌, ◌<◌, ◌+◌, ◌-◌, ◌*◌, ◌/◌, ◌++◌, ◌∙◌, ◌⊎◌, true, false, ℕ, zero, suc, min, List, Option, Some, None, [], Result, Ok, Err, take, drop, length, ap, sym, subst, refl, arith, inl, inr, length-append}
use Rattle.std.specs.Prelude.{nat_lt}
use Rattle.std.proofs.Math.Seq.{take-add}
use Rattle.std.proofs.Math.Nat.{min-le_left, min-le_right, add-mul, div-mul-le_self}
use Rattle.std.proofs.lemmas.Nat.{le-div}
use Rattle.std.proofs.lemmas.Bool.{cases_lt}
use Rattle.std.proofs.lemmas.List.{drop_all, drop-drop, drop-take, length-drop, take-take}
use Rattle.mdmp_source.specs.Count.{raised}
use Rattle.mdmp_source.specs.Range.{bytes_at}
use Rattle.mdmp_source.specs.Source.{SourceState}
use Rattle.mdmp_source.specs.Window.{IsFilled, WindowState, behind_of, next_len_of}
use Rattle.mdmp_lister.specs.declared.fault.FetchFault.{FetchFault}
use Rattle.mdmp_source.specs.declared.location.Location.{Location}
use Rattle.mdmp_lister.specs.declared.form.Form.{Form}
use Rattle.mdmp_lister.specs.Format.Kind.{greatest_record}
use Rattle.mdmp_lister.specs.Format.Shape.{head_cost}
use Rattle.mdmp_lister.specs.Holding.{ComesTo, IsAhead, IsHeldOf, Slides, fills, fills_of, jumped, left_behind, needed, reached, started, unfetched}
use Rattle.mdmp_lister.specs.Fetching.{TriesHold}
use Rattle.mdmp_lister.specs.Meter.{MeterState, TriesFetch}
use Rattle.mdmp_lister.specs.Format.KindLaws.{most_head}

-- ---- the bytes held

-- the bytes at a place, in two parts
bytes_at-+ : (file : List ℕ) (at n k : ℕ) → bytes_at file at (n + k) ≡ bytes_at file at n ++ bytes_at file (at + n) k
bytes_at-+ file at n k = take-add n k (drop at file) ∙ ap (λ rest. take n (drop at file) ++ take k rest) (drop-drop n at file)

-- what a fill leaves is of the file
pub held_filled : (content : Option (List ℕ)) (old new : WindowState) → IsHeldOf content old → IsFilled content old new → IsHeldOf content new
held_filled None old new h f = tt
held_filled (Some file) old new h f =
    let both : length (old.held ++ f.more) ≡ length old.held + length f.more = length-append old.held f.more in
    rw (f.appended, both, bytes_at-+ file old.place (length old.held) (length f.more), ← f.known, ← h) refl

-- and what a window holds once it was moved on
pub held_reached : (content : Option (List ℕ)) (at : ℕ) (w : WindowState) → w.place ≤ at → IsHeldOf content w → IsHeldOf content (reached at w)
held_reached None at w from h = tt
held_reached (Some file) at w from h = by_case (cases_lt n k) where
  k : ℕ
  k = at - w.place

  n : ℕ
  n = length w.held

  left : length (drop k w.held) ≡ n - k
  left = length-drop k w.held

  there : w.place + k ≡ at
  there = omega (arith, from)

  by_case : (n < k) ⊎ (k ≤ n) → drop k w.held ≡ bytes_at file at (length (drop k w.held))
  by_case (inr few) =
      let split : k + (n - k) ≡ n = omega (arith, few) in
      rw left
      (ap (λ xs. drop k xs) h
      ∙ ap (λ m. drop k (take m (drop w.place file))) (sym split)
      ∙ drop-take k (n - k) (drop w.place file)
      ∙ ap (λ rest. take (n - k) rest) (drop-drop k w.place file)
      ∙ ap (λ p. take (n - k) (drop p file)) there)
  by_case (inl many) =
      let none : drop k w.held ≡ [] = drop_all k w.held (omega (arith, many)) in
      rw none refl

-- the first bytes held
pub held_front : (content : Option (List ℕ)) (file : List ℕ) (w : WindowState) (at n : ℕ) → content ≡ Some file → w.place ≡ at → IsHeldOf content w → n ≤ length w.held
    → take n w.held ≡ bytes_at file at n
held_front content file w at n known place h few =
    let here : w.held ≡ bytes_at file w.place (length w.held) = rw known at h in
    ap (λ xs. take n xs) here ∙ take-take n (length w.held) (drop w.place file) few ∙ ap (λ p. bytes_at file p n) place

-- ---- the fills that are left

div_more : (a b m : ℕ) → 0 < m → a + m ≤ b → a / m + 1 ≤ b / m
div_more a b m pos h =
    let k : (a / m + 1) * m ≡ a / m * m + 1 * m = add-mul (a / m) 1 m in
    let o : 1 * m ≡ m = omega arith in
    le-div (a / m + 1) b m pos (omega (arith, k, o, div-mul-le_self a m, h))

div_mono : (a b m : ℕ) → 0 < m → a ≤ b → a / m ≤ b / m
div_mono a b m pos h = le-div (a / m) b m pos (omega (arith, div-mul-le_self a m, h))

pub fills_mono : (a b step : ℕ) → 0 < step → a ≤ b → fills_of a step ≤ fills_of b step
unfolding fills_of
fills_mono zero b step pos h = let fact : 0 ≤ fills_of b step = omega arith in fact
fills_mono (suc a) zero step pos h = absurd (omega (arith, h))
fills_mono (suc a) (suc b) step pos h =
    let less = div_mono (suc a) (suc b) step pos h in
    let fact : suc a / step + 1 ≤ suc b / step + 1 = omega (arith, less) in fact

pub fills_most : (bytes step : ℕ) → fills_of bytes step ≤ 1 + bytes / step
unfolding fills_of
fills_most zero step = let fact : 0 ≤ 1 + zero / step = omega arith in fact
fills_most (suc n) step = let fact : suc n / step + 1 ≤ 1 + suc n / step = omega arith in fact

-- a fill that isn't the last takes at least `step` off, and one that is the last leaves none
fills_left : (r k step taken gap : ℕ) → 0 < step → r ≡ suc k - taken → taken ≡ min gap (suc k) → step ≤ gap
    → fills_of r step + 1 ≤ fills_of (suc k) step
unfolding fills_of
fills_left zero k step taken gap pos e is enough =
    let fact : 0 + 1 ≤ suc k / step + 1 = omega arith in fact
fills_left (suc n) k step taken gap pos e is enough =
    let some : taken < suc k = omega (arith, e) in
    let all : taken ≡ gap = omega (arith, is, some, min-le_left gap (suc k)) in
    let less = div_more (suc n) (suc k) step pos (omega (arith, e, all, enough, some)) in
    let fact : suc n / step + 1 + 1 ≤ suc k / step + 1 = omega (arith, less) in fact

fills_less : (left step taken gap : ℕ) → 0 < step → 0 < left → taken ≡ min gap left → step ≤ gap
    → fills_of (left - taken) step + 1 ≤ fills_of left step
fills_less zero step taken gap pos some is enough = absurd (omega (arith, some))
fills_less (suc k) step taken gap pos some is enough = fills_left (suc k - taken) k step taken gap pos refl is enough

-- ---- a window that is moved on

unfetched_reached : (at : ℕ) (w : WindowState) → w.place ≤ at → at ≤ w.end → jumped at w + unfetched (reached at w) ≤ unfetched w
unfetched_reached at w from to =
    let left : length (drop (at - w.place) w.held) ≡ length w.held - (at - w.place) = length-drop (at - w.place) w.held in
    omega (arith, left, from, to)

-- ---- a record that is held, one that a fill brings, and one that a fill does not

module _ {source : SourceState} {at size : ℕ} {w mid : WindowState} (ahead : IsAhead source at size w) (moved : mid ≡ reached at w) where
  pub needed_lacking : length mid.held < size → needed at size w ≡ next_len_of mid
  unfolding needed
  needed_lacking few =
      let yes : nat_lt (length (reached at w).held) size ≡ true = grind (arith, (rw moved at few)) in
      rw (moved, yes) refl

  pub needed_held : size ≤ length mid.held → needed at size w ≡ 0
  unfolding needed
  needed_held enough =
      let no : nat_lt (length (reached at w).held) size ≡ false = grind (arith, (rw moved at enough)) in
      rw no refl

  pub comes_moved : ComesTo at source.store.content w mid
  comes_moved = rw moved (record { place = refl; end = refl; room = refl; held = held_reached source.store.content at w ahead.from ahead.held })

  pub comes_filled : (new : WindowState) → IsFilled source.store.content mid new → ComesTo at source.store.content w new
  comes_filled new f =
      let m = comes_moved in
      record {
        place = ap (λ v. v.place) f.appended ∙ m.place;
        end = ap (λ v. v.end) f.appended ∙ m.end;
        room = ap (λ v. v.room) f.appended ∙ m.room;
        held = held_filled source.store.content mid new m.held f;
      }

  -- what a fill appends makes the record whole
  pub enough_filled : (new : WindowState) → length mid.held < size → IsFilled source.store.content mid new → size ≤ length new.held
  enough_filled new few f =
      let m = comes_moved in
      let held_is : length (mid.held ++ f.more) ≡ length mid.held + length f.more = length-append mid.held f.more in
      rw (f.appended, held_is) (omega (arith, f.more_len, m.place, m.end, m.room, ahead.room, ahead.inside, few))

  -- moving on takes off what is jumped over
  bytes_moved : jumped at w + unfetched mid ≤ unfetched w
  bytes_moved = rw moved (unfetched_reached at w ahead.from (omega (arith, ahead.inside)))

  fills_moved : (most : ℕ) → most ≤ w.room → fills most mid ≤ fills most w
  fills_moved most wide = rw moved (fills_mono (unfetched (reached at w)) (unfetched w) (w.room + 1 - most) (omega (arith, wide)) (omega (arith, bytes_moved, (ap unfetched moved))))

  -- and a fill one of the fills that are left
  fills_fall : length mid.held < size → (most : ℕ) → size ≤ most → most ≤ w.room → fills_of (unfetched mid - next_len_of mid) (mid.room + 1 - most) + 1 ≤ fills most w
  fills_fall few most small wide =
      let m = comes_moved in
      let some : 0 < unfetched mid = omega (arith, few, m.place, m.end, ahead.inside) in
      let falls = fills_less (unfetched mid) (mid.room + 1 - most) (next_len_of mid) (mid.room - length mid.held) (omega (arith, m.room, wide)) some refl (omega (arith, m.room, few, small, wide)) in
      omega (arith, falls, fills_moved most wide)

  pub slides_held : size ≤ length mid.held → Slides {T = Unit {0}} {E = FetchFault} at size w (Ok tt) mid
  slides_held enough =
      let need = needed_held enough in
      record {
        bytes = rw need (omega (arith, bytes_moved));
        calls = λ most small wide. rw need (omega (arith, fills_moved most wide));
      }

  taken_most : next_len_of mid ≤ unfetched mid
  taken_most = min-le_right (mid.room - length mid.held) (unfetched mid)

  pub slides_filled : (new : WindowState) → length mid.held < size → IsFilled source.store.content mid new → Slides {T = Unit {0}} {E = FetchFault} at size w (Ok tt) new
  slides_filled new few f =
      let n = next_len_of mid in
      let held_is : length (mid.held ++ f.more) ≡ length mid.held + n = length-append mid.held f.more ∙ ap (λ k. length mid.held + k) f.more_len in
      let left_is : mid.end - (mid.place + (length mid.held + n)) ≡ unfetched mid - n = omega arith in
      let need = needed_lacking few in
      record {
        bytes = rw (f.appended, held_is, left_is, need) (omega (arith, taken_most, bytes_moved));
        calls = λ most small wide. rw (f.appended, held_is, left_is, need) (omega (arith, fills_fall few most small wide, min-le_left 1 n));
      }

  pub slides_failed : (fault : FetchFault) (new : WindowState) → length mid.held < size → Slides {T = Unit {0}} {E = FetchFault} at size w (Err fault) new
  slides_failed fault new few =
      let need = needed_lacking few in
      record {
        bytes = rw need (omega (arith, taken_most, bytes_moved));
        calls = λ most small wide. rw need (omega (arith, fills_fall few most small wide, min-le_left 1 (next_len_of mid)));
      }

  -- what a fill is to bring, the bytes that are needed are
  tries_lacking : (result : Result (Unit {0}) FetchFault) (was now : MeterState) → length mid.held < size → TriesFetch (behind_of mid) (next_len_of mid) result was now
      → TriesFetch (behind_of (reached at w)) (needed at size w) result was now
  tries_lacking result was now few tried =
      subst (λ (u : WindowState). TriesFetch (behind_of u) (needed at size w) result was now) moved (subst (λ n. TriesFetch (behind_of mid) n result was now) (sym (needed_lacking few)) tried)

  pub holds_failed : (fault : FetchFault) (new : WindowState) (was now : MeterState) → length mid.held < size → TriesFetch {T = Unit {0}} (behind_of mid) (next_len_of mid) (Err fault) was now
      → TriesHold at size w (Err fault) new was now
  holds_failed fault new was now few tried = record {
    tries = tries_lacking (Err fault) was now few tried;
    behind = tt;
    lacks = subst (λ (u : WindowState). length u.held < size) moved few;
  }

  pub holds_filled : (new : WindowState) (was now : MeterState) → length mid.held < size → IsFilled source.store.content mid new → TriesFetch {T = Unit {0}} (behind_of mid) (next_len_of mid) (Ok tt) was now
      → TriesHold at size w (Ok tt) new was now
  holds_filled new was now few f tried =
      let held_is : length new.held ≡ length mid.held + next_len_of mid =
      ap (λ (u : WindowState). length u.held) f.appended ∙ length-append mid.held f.more ∙ ap (λ k. length mid.held + k) f.more_len in
      let all : behind_of new ≡ behind_of mid + next_len_of mid = omega (arith, held_is, ap (λ (u : WindowState). u.place) f.appended) in
      record {
        tries = tries_lacking (Ok tt) was now few tried;
        behind = subst (λ (u : WindowState). behind_of new ≡ behind_of u + needed at size w) moved (subst (λ n. behind_of new ≡ behind_of mid + n) (sym (needed_lacking few)) all);
        lacks = tt;
      }

  pub holds_held : (was : MeterState) → size ≤ length mid.held → TriesHold at size w (Ok tt) mid was was
  holds_held was enough =
      let none = needed_held enough in
      record {
        tries = subst (λ n. was.fetched ≡ raised was.fetched n) (sym none) (omega arith);
        behind = subst (λ (u : WindowState). behind_of mid ≡ behind_of u + needed at size w) moved (subst (λ n. behind_of mid ≡ behind_of mid + n) (sym none) (omega arith));
        lacks = tt;
      }

-- ---- a window that was started over a stream

pub fills_begun : {U F : Type 0} (at : Location) (form : Form) (old mid new : WindowState) (result : Result U F) → mid ≡ started at old → greatest_record ≤ old.room
    → Slides {T = Unit {0}} {E = FetchFault} at.rva (head_cost form) mid (Ok tt) new → left_behind result (fills greatest_record new) ≤ 1 + at.size / (old.room - 167)
fills_begun at form old mid new (Ok y) is wide slides =
    let whole : unfetched mid ≡ at.size = rw is (omega arith) in
    let step : mid.room + 1 - greatest_record ≡ old.room - 167 = rw is (omega arith) in
    let most : fills greatest_record mid ≡ fills_of at.size (old.room - 167) = rw (whole, step) refl in
    omega (arith, most, slides.calls greatest_record (omega (arith, most_head form)) (rw is wide), fills_most at.size (old.room - 167))
fills_begun at form old mid new (Err fault) is wide slides = omega arith

-- ---- other answers of a call

-- behind an answer that tells no fault, whatever is answered then
pub slides_then : {T E U F : Type 0} (at size : ℕ) (old new : WindowState) (x : T) (result : Result U F) → Slides {T = T} {E = E} at size old (Ok x) new
    → Slides at size old result new
slides_then at size old new x (Ok y) slides = record { bytes = slides.bytes; calls = slides.calls }
slides_then at size old new x (Err fault) slides = record {
  bytes = omega (arith, slides.bytes);
  calls = λ most small wide. omega (arith, slides.calls most small wide);
}

-- and a fault by another name
pub slides_fault : {T E U F : Type 0} (at size : ℕ) (old new : WindowState) (fault : E) (told : F) → Slides {T = T} {E = E} at size old (Err fault) new
    → Slides {T = U} {E = F} at size old (Err told) new
slides_fault at size old new fault told slides = record { bytes = slides.bytes; calls = slides.calls }
