-- The first name that is near a word, found one by one.
use Rattle.std.proofs.Common.{◌≡◌, ◌∙◌, ◌+◌, ◌<◌, ◌≤◌, ℕ, List, Some, None, true, false, Bor, ap, refl, drop, length, slice_index_or}
use Rattle.std.proofs.lemmas.List.{drop_more}
use Rattle.std.proofs.Math.ListN.{drop_of_length-le}
use Rattle.mdmp_words.specs.NearTypes.{is_near, nearest_among}
use Rattle.mdmp_words.proofs.TypeLemmas.{texts}

module _ (word : List ℕ) (names : List (Bor (List ℕ))) (k : ℕ) (d : Bor (List ℕ)) where
  pub here : k < length names → is_near word (slice_index_or names k d).now ≡ true → nearest_among word (texts (drop k names)) ≡ Some (slice_index_or names k d).now
  unfolding nearest_among
  here fewer is = ap (λ (ws : List (Bor (List ℕ))). nearest_among word (texts ws)) (drop_more names k d fewer) ∙ (rw is refl)

  pub later : k < length names → is_near word (slice_index_or names k d).now ≡ false → nearest_among word (texts (drop k names)) ≡ nearest_among word (texts (drop (k + 1) names))
  unfolding nearest_among
  later fewer is = ap (λ (ws : List (Bor (List ℕ))). nearest_among word (texts ws)) (drop_more names k d fewer) ∙ (rw is refl)

pub none_left : (word : List ℕ) (names : List (Bor (List ℕ))) (k : ℕ) → length names ≤ k → nearest_among word (texts (drop k names)) ≡ None
unfolding nearest_among
none_left word names k past = ap (λ (ws : List (Bor (List ℕ))). nearest_among word (texts ws)) (drop_of_length-le names past)
