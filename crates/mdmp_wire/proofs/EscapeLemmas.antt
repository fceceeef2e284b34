-- The texts of units, some at a time.
use Rattle.std.proofs.Common.{◌≡◌, ◌∙◌, ℕ, ◌+◌, ◌-◌, ◌<◌, ◌≤◌, List, ◌++◌, length, slice_index, take, drop, ap, sym, subst, refl, append_assoc, append-nil, min, arith}
use Rattle.std.proofs.Math.Seq.{take-add}
use Rattle.std.proofs.lemmas.List.{drop_more, drop-drop, take_all, take-append-drop, take-take}
use Rattle.std.proofs.lemmas.Grind.{common_steps}
use Rattle.std.proofs.lemmas.List.Concat.{flat_map-append}
use Rattle.mdmp_source.specs.Output.{OutState, PutsAll, PutsPrefix}
use Rattle.mdmp_source.specs.OutputLaws.{PutsAll-PutsAll, PutsPrefix-front, PutsPrefix-last}
use Rattle.mdmp_wire.specs.Escape.{escaped, escaped_unit}

-- the text of n units, behind that of those before them
text_more : (a n : ℕ) (units : List ℕ) → escaped (take (a + n) units) ≡ escaped (take a units) ++ escaped (take n (drop a units))
text_more a n units = ap escaped (take-add a n units) ∙ flat_map-append escaped_unit (take a units) (take n (drop a units))

pub PutsAll-units : (a n m : ℕ) (units : List ℕ) (s t u : OutState) → m ≡ a + n
    → PutsAll s (escaped (take a units)) t → PutsAll t (escaped (take n (drop a units))) u → PutsAll s (escaped (take m units)) u
PutsAll-units a n m units s t u e put more = rw (e, text_more a n units) (PutsAll-PutsAll s t u _ _ put more)

pub PutsPrefix-units : (a n : ℕ) (units : List ℕ) (s t u : OutState)
    → PutsAll s (escaped (take a units)) t → PutsPrefix t (escaped (take n (drop a units))) u → PutsPrefix s (escaped units) u
PutsPrefix-units a n units s t u put cut =
    let first : PutsPrefix s (escaped (take (a + n) units)) u = rw (text_more a n units) (PutsPrefix-last s t u _ _ put cut) in
    let split : escaped (take (a + n) units) ++ escaped (drop (a + n) units) ≡ escaped units =
    sym (flat_map-append escaped_unit (take (a + n) units) (drop (a + n) units)) ∙ ap escaped (take-append-drop (a + n) units) in
    subst (λ (text : List ℕ). PutsPrefix s text u) split (PutsPrefix-front s u _ _ first)

-- ---- a text with the units from a place on behind it, up to i and then further

-- the next n units
pub text_run : (front before text : List ℕ) (a i j n : ℕ) (units : List ℕ) → a ≤ i → j ≡ i + n
    → before ≡ front ++ escaped (take (i - a) (drop a units)) → text ≡ before ++ escaped (take n (drop i units))
    → text ≡ front ++ escaped (take (j - a) (drop a units))
text_run front before text a i j n units behind e put more =
    let place : a + (i - a) ≡ i = omega arith in
    let count : j - a ≡ i - a + n = omega arith in
    let next = rw (drop-drop, place) at (text_more (i - a) n (drop a units)) in
    more ∙ rw (put, count, next) (append_assoc front (escaped (take (i - a) (drop a units))) (escaped (take n (drop i units))))

-- n of the next m
pub text_part : (front before text : List ℕ) (a i n m : ℕ) (units next : List ℕ) → a ≤ i → n ≤ m → next ≡ take m (drop i units)
    → before ≡ front ++ escaped (take (i - a) (drop a units)) → text ≡ before ++ escaped (take n next)
    → text ≡ front ++ escaped (take (i + n - a) (drop a units))
text_part front before text a i n m units next behind few is put more =
    let same : take n next ≡ take n (drop i units) = rw is (take-take n m (drop i units) few) in
    text_run front before text a i (i + n) n units behind refl put (rw same at more)

-- one unit more
pub text_unit : (front before text : List ℕ) (a i : ℕ) (units : List ℕ) → a ≤ i → i < length units
    → before ≡ front ++ escaped (take (i - a) (drop a units)) → text ≡ before ++ escaped_unit (slice_index units i)
    → text ≡ front ++ escaped (take (i + 1 - a) (drop a units))
text_unit front before text a i units behind lt put more =
    let one : escaped (take 1 (drop i units)) ≡ escaped_unit (slice_index units i) = rw (drop_more units i 0 lt) (append-nil (escaped_unit (slice_index units i))) in
    text_run front before text a i (i + 1) 1 units behind refl put (more ∙ ap (λ (t : List ℕ). before ++ t) (sym one))

-- as many are taken, or all
pub same_taken : (n m : ℕ) (units : List ℕ) → m ≡ min (length units) n → take m units ≡ take n units
same_taken n m units least = grind (arith, common_steps, take_all)
