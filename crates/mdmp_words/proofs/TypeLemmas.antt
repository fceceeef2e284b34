-- Types that are read word by word: those that were read stand in front of those that are left.
use Rattle.std.proofs.Common.{◌≡◌, ◌∙◌, sym, ap, ℕ, ◌+◌, ◌≤◌, ◌<◌, List, [], ◌∷◌, ◌++◌, Option, Some, None, option_map, Bor, length, map, take, drop, get_or, append_assoc, append-nil, add-one, option_and_then, refl}
use Rattle.std.proofs.Math.ListN.{set}
use Rattle.std.proofs.Math.Seq.{drop-cons, drop-length}
use Rattle.std.proofs.lemmas.List.{take_more_set}
use Rattle.mdmp_words.specs.OptionWords.{types_from}
use Rattle.mdmp_words.specs.TypeNames.{type_named}

-- the texts of words
abbrev pub texts : List (Bor (List ℕ)) → List (List ℕ)
texts words = map (λ w. w.now) words

-- types in front of others, if there are any
abbrev pub in_front : List ℕ → Option (List ℕ) → Option (List ℕ)
in_front types rest = option_map (λ others. types ++ others) rest

-- the first types were read, and the others are those of the words that are left
pub record TypesRead (words : List (Bor (List ℕ))) (types : List ℕ) (i : ℕ) : Type 0 where
  pub few : length words ≤ 16
  pub room : length types ≡ 16
  pub read : types_from (texts words) ≡ in_front (take i types) (types_from (texts (drop i words)))

nothing_in_front : (rest : Option (List ℕ)) → rest ≡ in_front [] rest
nothing_in_front None = refl
nothing_in_front (Some types) = refl

one_moved : (types : List ℕ) (n : ℕ) (rest : Option (List ℕ)) → in_front types (option_map (λ others. n ∷ others) rest) ≡ in_front (types ++ n ∷ []) rest
one_moved types n None = refl
one_moved types n (Some others) = ap Some (sym (append_assoc types (n ∷ []) others))

pub none_read : (words : List (Bor (List ℕ))) (types : List ℕ) → types_from (texts words) ≡ in_front (take 0 types) (types_from (texts (drop 0 words)))
none_read words types = nothing_in_front (types_from (texts words))

next_word : (words : List (Bor (List ℕ))) (word : Bor (List ℕ)) (i : ℕ) → i < length words → drop i words ≡ get_or words i word ∷ drop (i + 1) words
next_word words word i inside = rw add-one (drop-cons words i word inside)

-- a word that names a type
pub one_read : (words : List (Bor (List ℕ))) (word : Bor (List ℕ)) (types : List ℕ) (i n : ℕ) → i < length words → i < length types →
    type_named (get_or words i word).now ≡ Some n →
    types_from (texts words) ≡ in_front (take i types) (types_from (texts (drop i words))) →
    types_from (texts words) ≡ in_front (take (i + 1) (set types i n)) (types_from (texts (drop (i + 1) words)))
one_read words word types i n inside room named read =
    let left = types_from (texts (drop (i + 1) words)) in
    let parted = next_word words word i inside in
    let first : types_from (texts (get_or words i word ∷ drop (i + 1) words)) ≡ option_map (λ others. n ∷ others) left =
    ap (λ (o : Option ℕ). option_and_then (λ first. option_map (λ others. first ∷ others) left) o) named in
    let at_front : in_front (take i types) (types_from (texts (drop i words))) ≡ in_front (take i types) (option_map (λ others. n ∷ others) left) =
    ap (in_front (take i types)) (ap (λ (xs : List (Bor (List ℕ))). types_from (texts xs)) parted ∙ first) in
    read ∙ at_front ∙ one_moved (take i types) n left ∙ ap (λ (ts : List ℕ). in_front ts left) (sym (take_more_set types i n room))

-- a word that names none
pub none_named : (words : List (Bor (List ℕ))) (word : Bor (List ℕ)) (types : List ℕ) (i : ℕ) → i < length words →
    type_named (get_or words i word).now ≡ None →
    types_from (texts words) ≡ in_front (take i types) (types_from (texts (drop i words))) →
    types_from (texts words) ≡ None
none_named words word types i inside named read =
    let left = types_from (texts (drop (i + 1) words)) in
    let parted = next_word words word i inside in
    let first : types_from (texts (get_or words i word ∷ drop (i + 1) words)) ≡ None =
    ap (λ (o : Option ℕ). option_and_then (λ first. option_map (λ others. first ∷ others) left) o) named in
    read ∙ ap (in_front (take i types)) (ap (λ (xs : List (Bor (List ℕ))). types_from (texts xs)) parted ∙ first)

-- no word is left
pub all_read : (words : List (Bor (List ℕ))) (types : List ℕ) →
    types_from (texts words) ≡ in_front (take (length words) types) (types_from (texts (drop (length words) words))) →
    types_from (texts words) ≡ Some (take (length words) types)
all_read words types read =
    let ended : in_front (take (length words) types) (types_from (texts (drop (length words) words))) ≡ in_front (take (length words) types) (Some []) =
    ap (λ (xs : List (Bor (List ℕ))). in_front (take (length words) types) (types_from (texts xs))) (drop-length words) in
    read ∙ ended ∙ ap Some (append-nil (take (length words) types))
