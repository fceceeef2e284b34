-- What the passes over the streams of a file cost.
use Rattle.std.proofs.Common.{◌≡◌, ◌∙◌, ◌<◌, ◌≤◌, ◌+◌, ◌*◌, ◌++◌, ℕ, Option, None, Some, suc, List, [], ◌∷◌, Ok, ap, arith, false, inl, inr, is_some, length, map, refl, sum, sym, take, true}
use Rattle.std.proofs.Math.Nat.{mul-le-mul_right}
use Rattle.std.proofs.lemmas.List.Sums.{sum_by-cons}
use Rattle.std.proofs.lemmas.Grind.{common_steps}
use Rattle.std.specs.Prelude.{◌&&◌, get_or}
use Rattle.mdmp_source.specs.Range.{IsInside, is_inside}
use Rattle.mdmp_wire.specs.declared.entry.Entry.{Entry}
use Rattle.mdmp_lister.specs.declared.kind.StreamKind.{StreamKind}
use Rattle.mdmp_lister.specs.Following.{IsBegun, Standing, records_by, through}
use Rattle.mdmp_lister.specs.Following as following
use Rattle.mdmp_lister.specs.Format.Kind.{is_known, kind_of}
use Rattle.mdmp_lister.specs.Format.Listing.{Numbered}
use Rattle.mdmp_lister.specs.Format.Numbers.{is_listed}
use Rattle.mdmp_lister.specs.Format.Shape.{location_fault, record_count}
use Rattle.mdmp_lister.specs.Listed.{entry_cost, entry_cost_by}
use Rattle.mdmp_lister.proofs.Heads.{listed-inside}
use Rattle.mdmp_dump.specs.EntryWalk.{LiesInside, MayCount, Pays, WalkState, name_cost, no_entry, pass_cost}
use Rattle.mdmp_dump.specs.FileView.{AreInside, costs_in, count_in, inside_cost_in, pass_cost_in}
use Rattle.mdmp_dump.proofs.Taking.{FetchesSome_none}

-- a walk that stays as it was costs nothing
pub pays_none : (bytes names : ℕ) (w : WalkState) → Pays bytes names w w
pays_none bytes names w = record {
  same = record { header = refl; choice = refl; chosen = refl; held = refl; start = refl; fetches = FetchesSome_none w.source };
  aside = refl;
  allowed = λ few. omega arith;
  reached = omega arith;
  more = omega arith;
}

-- ---- sums

sum_first : (x : ℕ) (xs : List ℕ) → sum (x ∷ xs) ≡ x + sum xs
sum_first x xs = sum_by-cons (λ (n : ℕ). n) x xs

none_cost : (es : List Numbered) → costs_in es [] ≡ []
unfolding costs_in
none_cost [] = refl
none_cost (e ∷ es) = refl

-- the costs with those of one more stream
pub costs_push : (es : List Numbered) (ns : List ℕ) (n : ℕ) → length ns < length es
    → sum (costs_in es (ns ++ n ∷ [])) ≡ sum (costs_in es ns) + pass_cost (get_or es (length ns) no_entry).entry n
unfolding costs_in
costs_push [] ns n fewer = absurd (let h : length ns < 0 = fewer in omega (arith, h))
costs_push (e ∷ es) [] n fewer = sum_first (pass_cost e.entry n) (costs_in es []) ∙ (rw (none_cost es) (omega arith))
costs_push (e ∷ es) (m ∷ ns) n fewer =
    sum_first (pass_cost e.entry m) (costs_in es (ns ++ n ∷ []))
    ∙ ap (λ (k : ℕ). pass_cost e.entry m + k) (costs_push es ns n (let h : suc (length ns) < suc (length es) = fewer in omega (arith, h)))
    ∙ (let h : sum (pass_cost e.entry m ∷ costs_in es ns) ≡ pass_cost e.entry m + sum (costs_in es ns) = sum_first (pass_cost e.entry m) (costs_in es ns) in omega (arith, h))

-- ---- streams inside

-- a stream that is not listed costs nothing
pub unlisted_cost : (z : ℕ) (e : Entry) → is_listed z e ≡ false → entry_cost z e ≡ 0
unfolding entry_cost_by
unlisted_cost z e none = rw none refl

inside_true : (at len size : ℕ) → IsInside at len size → is_inside at len size ≡ true
inside_true at len size (inl none) = rw none refl
inside_true at len size (inr within) = grind (arith, common_steps, within)

known_kind : (o : Option StreamKind) → is_some o ≡ true → (kind : StreamKind) × (o ≡ Some kind)
known_kind None is = absurd (cc)
known_kind (Some kind) is = (kind, refl)

-- one whose location has no fault lies inside, where its records are known
placed_listed : (z : ℕ) (e : Entry) → location_fault z e ≡ None → LiesInside z e
placed_listed z e placed known =
    let kind = known_kind (kind_of e.stream_type) known in
    ap (λ known_is. known_is && is_inside e.location.rva e.location.size z) known
    ∙ inside_true e.location.rva e.location.size z (listed-inside z e kind.0 placed kind.1)

begun_placed : (z : ℕ) (e : Entry) (s : Standing) → IsBegun z e (Ok s) → location_fault z e ≡ None
begun_placed z e s (following.outside fault is bad) = absurd (cc)
begun_placed z e s (following.opaque placed none is) = placed
begun_placed z e s (following.shaped placed kind of shape some offset is) = placed

-- one that may have so many records
pub may_listed : (z : ℕ) (e : Entry) (n : ℕ) → MayCount z e n → LiesInside z e
may_listed z e n may = placed_listed z e (begun_placed z e may.0 may.1.0)

begun_none : (z : ℕ) (e : Entry) (s : Standing) → IsBegun z e (Ok s) → is_listed z e ≡ false → records_by s ≡ 0
begun_none z e s (following.outside fault is bad) none = absurd (cc)
begun_none z e s (following.opaque placed unknown is) none = let same : s ≡ through = cc in ap records_by same
begun_none z e s (following.shaped placed kind of shape some offset is) none =
    let known : is_known e.stream_type ≡ true = ap is_some of in
    let lies = placed_listed z e placed known in
    absurd (cc (lies, none))

pub may_none : (z : ℕ) (e : Entry) (n : ℕ) → MayCount z e n → is_listed z e ≡ false → n ≡ 0
may_none z e n may none = may.1.1 ∙ begun_none z e may.0 may.1.0 none

-- ---- of a known file

module _ (F : List ℕ) where
  pub costs_are : (xs : List Numbered) (ns : List ℕ) → length ns ≡ length xs → ((k : ℕ) → k < length xs → record_count F (get_or xs k no_entry).entry ≡ Ok (get_or ns k 0)) → costs_in xs ns ≡ map (pass_cost_in F) xs
  unfolding costs_in
  costs_are [] [] same counted = refl
  costs_are (x ∷ xs) (n ∷ ns) same counted =
      let head : pass_cost x.entry n ≡ pass_cost_in F x = ap (λ r. pass_cost x.entry (count_in r)) (sym (counted 0 (omega arith))) in
      let rest : costs_in xs ns ≡ map (pass_cost_in F) xs = costs_are xs ns (omega (arith, same)) (λ k inside. counted (suc k) (omega (arith, inside))) in
      λ i. head i ∷ rest i
  costs_are [] (n ∷ ns) same counted = absurd (omega (arith, same))
  costs_are (x ∷ xs) [] same counted = absurd (omega (arith, same))

  -- so do the first of them
  pub costs_first : (xs : List Numbered) (ns : List ℕ) → length ns ≤ length xs → ((k : ℕ) → k < length ns → record_count F (get_or xs k no_entry).entry ≡ Ok (get_or ns k 0)) → costs_in xs ns ≡ map (pass_cost_in F) (take (length ns) xs)
  unfolding costs_in
  costs_first xs [] few counted = none_cost xs
  costs_first [] (n ∷ ns) few counted = absurd (omega (arith, few))
  costs_first (x ∷ xs) (n ∷ ns) few counted =
      let head : pass_cost x.entry n ≡ pass_cost_in F x = ap (λ r. pass_cost x.entry (count_in r)) (sym (counted 0 (omega arith))) in
      let rest : costs_in xs ns ≡ map (pass_cost_in F) (take (length ns) xs) = costs_first xs ns (omega (arith, few)) (λ k inside. counted (suc k) (omega (arith, inside))) in
      λ i. head i ∷ rest i

  -- those that were reached cost no more: of each stream no more records than it has
  pub costs_most : (xs : List Numbered) (ns : List ℕ) → ((k : ℕ) → k < length ns → get_or ns k 0 ≤ count_in (record_count F (get_or xs k no_entry).entry)) → sum (costs_in xs ns) ≤ sum (map (pass_cost_in F) xs)
  unfolding costs_in
  costs_most [] ns most = omega arith
  costs_most (x ∷ xs) [] most = omega arith
  costs_most (x ∷ xs) (n ∷ ns) most =
      let cost = name_cost x.entry.stream_type in
      let head : n * cost ≤ count_in (record_count F x.entry) * cost = mul-le-mul_right cost (most 0 (omega arith)) in
      let rest : sum (costs_in xs ns) ≤ sum (map (pass_cost_in F) xs) = costs_most xs ns (λ k inside. most (suc k) (omega (arith, inside))) in
      omega (arith, head, rest, sum_first (pass_cost x.entry n) (costs_in xs ns), sum_first (pass_cost_in F x) (map (pass_cost_in F) xs))

  -- nor than what those cost that lie inside
  inside_most : (z : ℕ) (x : Numbered) (n : ℕ) → n ≤ count_in (record_count F x.entry) → LiesInside z x.entry → pass_cost x.entry n ≤ inside_cost_in z F x
  inside_most z x n most lies = by (kind_of x.entry.stream_type) refl where
    by : (o : Option StreamKind) → kind_of x.entry.stream_type ≡ o → pass_cost x.entry n ≤ inside_cost_in z F x
    by None none = rw none (omega arith)
    by (Some kind) some =
        let cost = name_cost x.entry.stream_type in
        let is = lies (ap is_some some) in
        let few : n * cost ≤ count_in (record_count F x.entry) * cost = mul-le-mul_right cost most in
        rw is (omega (arith, few))

  pub costs_inside : (z : ℕ) (xs : List Numbered) (ns : List ℕ) → ((k : ℕ) → k < length ns → get_or ns k 0 ≤ count_in (record_count F (get_or xs k no_entry).entry)) → AreInside z xs ns
      → sum (costs_in xs ns) ≤ sum (map (inside_cost_in z F) xs)
  unfolding costs_in
  costs_inside z [] ns most lies = omega arith
  costs_inside z (x ∷ xs) [] most lies = omega arith
  costs_inside z (x ∷ xs) (n ∷ ns) most lies =
      let head : pass_cost x.entry n ≤ inside_cost_in z F x = inside_most z x n (most 0 (omega arith)) (lies 0 (omega arith)) in
      let rest : sum (costs_in xs ns) ≤ sum (map (inside_cost_in z F) xs) = costs_inside z xs ns (λ k inside. most (suc k) (omega (arith, inside))) (λ k inside. lies (suc k) (omega (arith, inside))) in
      omega (arith, head, rest, sum_first (pass_cost x.entry n) (costs_in xs ns), sum_first (inside_cost_in z F x) (map (inside_cost_in z F) xs))
