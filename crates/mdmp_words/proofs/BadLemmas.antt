-- The first word that names no type, found one by one.
use Rattle.std.proofs.Common.{◌≡◌, ◌∙◌, ◌+◌, ◌<◌, ◌≤◌, ℕ, List, Some, None, true, false, Bor, ap, refl, drop, length, slice_index_or}
use Rattle.std.proofs.lemmas.List.{drop_more}
use Rattle.std.proofs.Math.ListN.{drop_of_length-le}
use Rattle.mdmp_words.specs.BadWords.{bad_type, is_expected}
use Rattle.mdmp_words.specs.declared.bad_word.WordPlace.TheVariants.{StreamType}
use Rattle.mdmp_words.proofs.TypeLemmas.{texts}

module _ (words : List (Bor (List ℕ))) (k : ℕ) (d : Bor (List ℕ)) where
  pub here : k < length words → is_expected StreamType (slice_index_or words k d).now ≡ false
      → bad_type (texts (drop k words)) ≡ Some (record { place = StreamType; word = (slice_index_or words k d).now })
  unfolding bad_type
  here fewer is = ap (λ (ws : List (Bor (List ℕ))). bad_type (texts ws)) (drop_more words k d fewer) ∙ (rw is refl)

  pub later : k < length words → is_expected StreamType (slice_index_or words k d).now ≡ true → bad_type (texts (drop k words)) ≡ bad_type (texts (drop (k + 1) words))
  unfolding bad_type
  later fewer is = ap (λ (ws : List (Bor (List ℕ))). bad_type (texts ws)) (drop_more words k d fewer) ∙ (rw is refl)

pub none_left : (words : List (Bor (List ℕ))) (k : ℕ) → length words ≤ k → bad_type (texts (drop k words)) ≡ None
unfolding bad_type
none_left words k past = ap (λ (ws : List (Bor (List ℕ))). bad_type (texts ws)) (drop_of_length-le words past)
