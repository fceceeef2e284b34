-- Ranges that a caller kept.
use Rattle.std.proofs.Common.{◌≡◌, ◌∙◌, ◌<◌, ◌+◌, ◌++◌, ℕ, Bool, true, refl, List, [], ◌∷◌, Option, Some, None, ap, drop, get_or, length, subst, sym, take}
use Rattle.std.proofs.lemmas.List.{append-nil, take-append-drop, take_more}
use Rattle.std.proofs.lemmas.List.Elements.{filter_map-append}
use Rattle.mdmp_map.specs.declared.range.Range.{Range}
use Rattle.mdmp_map.specs.Painting.{PaintState, is_painted}
use Rattle.mdmp_lister.specs.Painting.{AreCells, ArePainted}
use Rattle.mdmp_lister.proofs.Painted.{cells_full}
use Rattle.mdmp_c.specs.declared.rows.RangeRow.{RangeRow}
use Rattle.mdmp_c.specs.Memory.{kept_range, kept_ranges}

-- ---- one row more

kept_more : (z : ℕ) (rs : List RangeRow) (r : RangeRow) (n : ℕ) (more : List Range) → kept_ranges z (r ∷ []) ≡ more → n < length rs → (d : RangeRow) → get_or rs n d ≡ r
    → kept_ranges z (take (n + 1) rs) ≡ kept_ranges z (take n rs) ++ more
kept_more z rs r n more is before d at =
    ap (kept_ranges z) (take_more rs n d before)
    ∙ filter_map-append (kept_range z) (take n rs) (get_or rs n d ∷ [])
    ∙ ap (λ (x : RangeRow). kept_ranges z (take n rs) ++ kept_ranges z (x ∷ [])) at
    ∙ ap (λ (xs : List Range). kept_ranges z (take n rs) ++ xs) is

one_kept : (z : ℕ) (r : RangeRow) (range : Range) → kept_range z r ≡ Some range → kept_ranges z (r ∷ []) ≡ range ∷ []
one_kept z r range is = rw is refl

none_kept : (z : ℕ) (r : RangeRow) → kept_range z r ≡ None → kept_ranges z (r ∷ []) ≡ []
none_kept z r is = rw is refl

module _ (z : ℕ) (rs : List RangeRow) (n : ℕ) (d r : RangeRow) (before : n < length rs) (at : get_or rs n d ≡ r) where
  -- the row is passed over
  pub kept_passed : kept_range z r ≡ None → kept_ranges z (take (n + 1) rs) ≡ kept_ranges z (take n rs)
  kept_passed is = kept_more z rs r n [] (none_kept z r is) before d at ∙ append-nil (kept_ranges z (take n rs))

  -- its range stands behind those before it
  pub kept_shown : (range : Range) → kept_range z r ≡ Some range → kept_ranges z (take (n + 1) rs) ≡ kept_ranges z (take n rs) ++ range ∷ []
  kept_shown range is = kept_more z rs r n (range ∷ []) (one_kept z r range is) before d at

-- where each byte is known, the other rows tell no more
pub kept_full : (content : Option (List ℕ)) (z : ℕ) (rs : List RangeRow) (n : ℕ) (s : PaintState) (bytes : List ℕ) (known : List Bool) → length known ≡ length bytes → ArePainted s known
    → ((k : ℕ) → k < s.count → is_painted s k ≡ true) → AreCells content (kept_ranges z (take n rs)) s.start bytes known → AreCells content (kept_ranges z rs) s.start bytes known
kept_full content z rs n s bytes known same painted full are =
    let all : kept_ranges z (take n rs) ++ kept_ranges z (drop n rs) ≡ kept_ranges z rs =
    sym (filter_map-append (kept_range z) (take n rs) (drop n rs)) ∙ ap (kept_ranges z) (take-append-drop n rs) in
    subst (λ (xs : List Range). AreCells content xs s.start bytes known) all (cells_full content (kept_ranges z (take n rs)) (kept_ranges z (drop n rs)) s bytes known same painted full are)
