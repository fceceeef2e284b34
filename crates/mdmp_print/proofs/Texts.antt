-- The texts of a list.
use Rattle.std.proofs.Common.{◌≡◌, ◌∙◌, ℕ, ◌+◌, ◌<◌, List, [], ◌∷◌, ◌++◌, length, get_or, take, drop, drop-drop, ap, sym, append-nil}
use Rattle.std.specs.List.{flat_map}
use Rattle.std.proofs.lemmas.List.{take-append-drop, take_more}
use Rattle.std.proofs.lemmas.List.Concat.{flat_map-append}

-- the texts up to that of one are those before it, and its own
pub texts_with : {X : Type 0} (f : X → List ℕ) (xs : List X) (i : ℕ) (d : X) → i < length xs → flat_map f (take (i + 1) xs) ≡ flat_map f (take i xs) ++ f (get_or xs i d)
texts_with f xs i d lt =
    ap (flat_map f) (take_more xs i d lt)
    ∙ flat_map-append f (take i xs) (get_or xs i d ∷ [])
    ∙ ap (λ (text : List ℕ). flat_map f (take i xs) ++ text) (append-nil (f (get_or xs i d)))

-- those from a place on are those of the next few, and those behind them
pub texts_split : {X : Type 0} (f : X → List ℕ) (xs : List X) (place k n : ℕ) → n ≡ k
    → flat_map f (drop place xs) ≡ flat_map f (take n (drop place xs)) ++ flat_map f (drop (place + k) xs)
texts_split f xs place k n same =
    ap (flat_map f) (sym (take-append-drop n (drop place xs)))
    ∙ flat_map-append f (take n (drop place xs)) (drop n (drop place xs))
    ∙ ap (λ (x : List ℕ). flat_map f (take n (drop place xs)) ++ x) (ap (flat_map f) (drop-drop n place xs) ∙ ap (λ (i : ℕ). flat_map f (drop (place + i) xs)) same)
