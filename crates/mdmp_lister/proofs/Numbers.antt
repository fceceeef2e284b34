-- What a lister tells of itself, and its bounds.
use Rattle.std.proofs.Common.{◌≡◌, ◌≤◌, ◌<◌, ◌+◌, ◌*◌, ◌^◌, ◌-◌, ◌∙◌, ℕ, suc, Some, List, [], ◌∷◌, Bool, true, false, if◌then◌else◌, ◌&&◌, arith, refl, ap, length, get_or, vec_len}
use Rattle.std.specs.Prelude.{filter, map, sum}
use Rattle.std.proofs.Math.Nat.{mul-le-mul}
use Rattle.mdmp_wire.specs.declared.entry.Entry.{Entry}
use Rattle.mdmp_lister.specs.declared.choice.Choice.{Choice}
use Rattle.mdmp_lister.specs.declared.walk.Walk.{Walk}
use Rattle.mdmp_map.specs.declared.range.Range.{Range}
use Rattle.mdmp_lister.specs.Counts.{AreHeld, AreOfFile, AreSpent}
use Rattle.mdmp_lister.specs.Meter.{IsMetered}
use Rattle.mdmp_lister.specs.Meter.{IsBooked, counts_of}
use Rattle.mdmp_lister.specs.Walk.Telling.{numbers_of_walk}
use Rattle.mdmp_lister.specs.Format.Bounds.{call_bound, fetch_bound}
use Rattle.mdmp_lister.specs.Format.Numbers.{is_listed, listed_entries, listed_bytes, listed_sizes, sizes_of}
use Rattle.mdmp_lister.specs.Format.Directory.{IsDirectory}
use Rattle.mdmp_lister.specs.Format.Listing.{Numbered, entries_from, entry_of, is_chosen, only_chosen}
use Rattle.mdmp_lister.specs.Walk.Paying.{IsBounded, stream_calls}
use Rattle.mdmp_lister.specs.Listed.{cost_by, cost_of, sizes_in}
use Rattle.mdmp_lister.specs.StreamHead.{heads_ahead}
use Rattle.mdmp_lister.specs.Walk.{IsSound}
use Rattle.mdmp_lister.proofs.Heads.{heads_few}
use Rattle.mdmp_lister.proofs.Leaving.{listed_by}
use Rattle.mdmp_lister.proofs.Paying.{called_bound, paid_bound}
use Rattle.mdmp_lister.proofs.Sliding.{fills_most}

-- ---- the streams that are listed of the directory are those of the file

module _ (F : List ℕ) (choice : Choice) (z : ℕ) where
  sizes_then : (chosen is : Bool) (x : Numbered) (xs : List Numbered) (es : List Entry) → is_listed z x.entry ≡ is → map (λ e. e.location.size) es ≡ sizes_of (listed_entries z xs)
      → map (λ e. e.location.size) (if chosen && is then x.entry ∷ es else es) ≡ sizes_of (listed_entries z (if chosen then x ∷ xs else xs))
  sizes_then true true x xs es listed_entries same = rw listed_entries (ap (λ sizes. x.entry.location.size ∷ sizes) same)
  sizes_then true false x xs es listed_entries same = rw listed_entries same
  sizes_then false is x xs es listed_entries same = same

  sizes_from : (es : List Entry) (k : ℕ) → ((i : ℕ) (d : Entry) → i < length es → get_or es i d ≡ entry_of F (k + i))
      → sizes_in choice z es ≡ sizes_of (listed_entries z (only_chosen choice (entries_from F (length es) k)))
  unfolding sizes_in entries_from only_chosen
  sizes_from [] k each = refl
  sizes_from (e ∷ es) k each =
      let here : k + 0 ≡ k = omega arith in
      let first : e ≡ entry_of F k = each 0 e (omega arith) ∙ ap (entry_of F) here in
      let rest = sizes_from es (k + 1) (λ i d lt. let next : k + suc i ≡ k + 1 + i = omega arith in each (suc i) d (omega (arith, lt)) ∙ ap (entry_of F) next) in
      let x : Numbered = record { number = k; entry = entry_of F k } in
      rw first
      (sizes_then (is_chosen choice x.entry.stream_type) (is_listed z x.entry) x (only_chosen choice (entries_from F (length es) (k + 1)))
      (filter (λ e. is_chosen choice e.stream_type && is_listed z e) es) refl rest)

-- of a file whose directory was obtained they are the file's
pub sizes_listed : (F : List ℕ) (choice : Choice) (z : ℕ) (es : List Entry) → z ≡ length F → IsDirectory F es → sizes_in choice z es ≡ listed_sizes F choice
sizes_listed F choice z es size dir =
    let all : (i : ℕ) (d : Entry) → i < length es → get_or es i d ≡ entry_of F (0 + i) = λ i d lt. dir.each i d lt ∙ ap (entry_of F) (omega arith) in
    rw (← size, ← dir.count) (sizes_from F choice z es 0 all)

pub costs_listed : (F : List ℕ) (choice : Choice) (z : ℕ) (es : List Entry) → z ≡ length F → IsDirectory F es → cost_of choice z es ≡ listed_bytes F choice
unfolding cost_by
costs_listed F choice z es size dir = ap sum (sizes_listed F choice z es size dir)

-- ---- the bound

module _ {S A : Type 0} (w : Walk S A) (sound : IsSound w) (bounded : IsBounded w) where
  pub asked_most : w.meter.asked ≤ fetch_bound w.name.limit (length w.entries.items) (cost_of w.choice w.meter.source.size w.entries.items) w.meter.names
  asked_most =
      let ok = w.entries.ok.0 in
      omega (arith, ok, paid_bound _ w bounded, heads_few w.choice w.meter.source.size w.entries.items)

  pub called_most : w.meter.calls ≤ call_bound w.window.room (length w.entries.items) (sizes_in w.choice w.meter.source.size w.entries.items) w.meter.names
  unfolding cost_by stream_calls
  called_most =
      let ok = w.entries.ok.0 in
      let s : length w.entries.items ≡ vec_len w.entries = omega (arith, ok) in
      rw s (omega (arith, called_bound _ w bounded, fills_most (12 * vec_len w.entries) (w.window.room - 11)))

  pub asked_below : cost_of w.choice w.meter.source.size w.entries.items ≤ 2 ^ 32 * length w.entries.items → w.meter.asked < 2 ^ 128 - 1
  asked_below small =
      let ok = w.entries.ok.0 in
      let names : w.meter.names ≤ 2 ^ 66 = omega (arith, bounded.names) in
      let limit : w.name.limit + 4 ≤ 2 ^ 33 = omega (arith, sound.small) in
      omega (arith, ok, asked_most, small, sound.few, mul-le-mul names limit)

-- ---- the numbers that are told

module _ {S A : Type 0} (w : Walk S A) (ranges : ℕ) where
  -- of a known file they are the file's
  pub counts_of_file : IsSound w → (file : List ℕ) → w.meter.source.store.content ≡ Some file → AreOfFile file w.choice (numbers_of_walk ranges w)
  counts_of_file sound file known =
      let dir = sound.directory file known in
      record { entries = dir.count; listed = costs_listed file w.choice w.meter.source.size w.entries.items (rw known at sound.sized) dir }

  pub counts_held : (rs : List Range) → IsSound w → length rs ≤ ranges → IsBooked w.meter.source (counts_of w.meter)
      → IsMetered w.meter.budget w.meter.fetched w.meter.asked → AreHeld (listed_by rs ranges w) (numbers_of_walk ranges w)
  counts_held rs sound few booked kept =
      let ok = w.entries.ok.0 in
      record { held = omega (arith, few); entries = omega (arith, w.entries.ok); ranges = few; booked = booked; kept = kept; opened = omega (arith, ok, sound.opened) }

  pub counts_spent : (rs : List Range) → IsSound w → IsBounded w → 32 + 12 * vec_len w.entries + heads_ahead w.choice w.meter.source.size w.entries.items ≤ w.meter.fetched → cost_of w.choice w.meter.source.size w.entries.items ≤ 2 ^ 32 * length w.entries.items
      → w.meter.fetched ≤ w.meter.asked → AreSpent (listed_by rs ranges w) (numbers_of_walk ranges w)
  counts_spent rs sound bounded opened small kept = record {
    fetched = omega (arith, asked_most w sound bounded, kept);
    asked = asked_most w sound bounded;
    calls = called_most w sound bounded;
    below = asked_below w sound bounded small;
    opened = let ok = w.entries.ok.0 in omega (arith, ok, opened);
    sizes = λ file known. sizes_listed file w.choice w.meter.source.size w.entries.items (rw known at sound.sized) (sound.directory file known);
  }
