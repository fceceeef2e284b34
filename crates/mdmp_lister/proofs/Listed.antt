-- What the chosen entries of a directory cost, one by one, by any measure of their sizes.
use Rattle.std.proofs.Common.{◌≡◌, ◌≤◌, ◌<◌, ◌+◌, ◌&&◌, ℕ, List, ◌∷◌, Bool, true, false, if◌then◌else◌, arith, refl, map, length, drop, get_or, add-one, drop-cons, drop_of_length-le}
use Rattle.std.specs.Prelude.{filter, sum_by}
use Rattle.std.proofs.lemmas.List.Sums.{sum_by-cons}
use Rattle.mdmp_wire.specs.declared.entry.Entry.{Entry}
use Rattle.mdmp_lister.specs.declared.choice.Choice.{Choice}
use Rattle.mdmp_lister.specs.Format.Listing.{is_chosen}
use Rattle.mdmp_lister.specs.Format.Numbers.{is_listed}
use Rattle.mdmp_lister.specs.Listed.{cost_by, entry_cost_by, sizes_in}

module _ (f : ℕ → ℕ) (choice : Choice) (size : ℕ) where
  then_sum : (chosen listed : Bool) (e : Entry) (es : List Entry)
      → sum_by f (map (λ e. e.location.size) (if chosen && listed then e ∷ es else es))
      ≡ (if chosen then (if listed then f e.location.size else 0) else 0) + sum_by f (map (λ e. e.location.size) es)
  then_sum true true e es = sum_by-cons f e.location.size (map (λ e. e.location.size) es)
  then_sum true false e es = omega arith
  then_sum false listed e es = omega arith

  cost_by-cons : (e : Entry) (es : List Entry) → cost_by f choice size (e ∷ es) ≡ (if is_chosen choice e.stream_type then entry_cost_by f size e else 0) + cost_by f choice size es
  unfolding cost_by sizes_in entry_cost_by
  cost_by-cons e es = then_sum (is_chosen choice e.stream_type) (is_listed size e) e (filter (λ e. is_chosen choice e.stream_type && is_listed size e) es)

  module _ (at : ℕ) (es : List Entry) (d : Entry) (h : at < length es) where
    pub cost_by-passed : cost_by f choice size (drop (at + 1) es) ≤ cost_by f choice size (drop at es)
    cost_by-passed = rw (add-one at, drop-cons es at d h, cost_by-cons) (omega arith)

    -- an entry that is not chosen costs nothing
    pub cost_by-other : is_chosen choice (get_or es at d).stream_type ≡ false → cost_by f choice size (drop at es) ≡ cost_by f choice size (drop (at + 1) es)
    cost_by-other e = rw (add-one at, drop-cons es at d h, cost_by-cons, e) (omega arith)

    -- and one that is chosen costs what it does
    pub cost_by-more : is_chosen choice (get_or es at d).stream_type ≡ true
        → cost_by f choice size (drop at es) ≡ entry_cost_by f size (get_or es at d) + cost_by f choice size (drop (at + 1) es)
    cost_by-more e = rw (add-one at, drop-cons es at d h, cost_by-cons, e) refl

  pub cost_by-end : (at : ℕ) (es : List Entry) → length es ≤ at → cost_by f choice size (drop at es) ≡ 0
  unfolding cost_by sizes_in
  cost_by-end at es over = rw drop_of_length-le refl
