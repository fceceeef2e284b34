-- The names of types of streams stand in strings as they are.
use Rattle.std.proofs.Common.{◌≡◌, ℕ, Bool, true, false, cond, ◌&&◌, ◌==◌, nat_lt, List, [], ◌∷◌, Option, Some, IfSome, refl}
use Rattle.std.proofs.lemmas.Bool.{and_from, and_parts}
use Rattle.mdmp_names.specs.StreamTypes.{stream_name, stream_types}
use Rattle.mdmp_names.specs.Table.{NamedNumber, name_among}
use Rattle.mdmp_print.specs.Shown.{are_plain, is_plain_byte}

-- plain bytes of ASCII
abbrev pub is_word : List ℕ → Bool
is_word [] = true
is_word (c ∷ s) = (is_plain_byte c && nat_lt c 128) && is_word s

pub word-plain : (s : List ℕ) → is_word s ≡ true → are_plain s ≡ true
word-plain [] e = refl
word-plain (c ∷ s) e =
    let parts = and_parts (is_plain_byte c && nat_lt c 128) (is_word s) e in
    let byte = and_parts (is_plain_byte c) (nat_lt c 128) parts.0 in
    and_from (is_plain_byte c) (are_plain s) byte.0 (word-plain s parts.1)

-- each name of a table is of such
abbrev pub are_words : List NamedNumber → Bool
are_words [] = true
are_words (row ∷ rows) = is_word row.1 && are_words rows

-- a name, if there is one, is of such
abbrev pub IsWord : Option (List ℕ) → Type 0
IsWord name = IfSome name (λ s. is_word s ≡ true)

first : (b : Bool) (s : List ℕ) (rest : Option (List ℕ)) → is_word s ≡ true → IsWord rest → IsWord (cond b (Some s) rest)
first true s rest word more = word
first false s rest word more = more

among : (rows : List NamedNumber) (n : ℕ) → are_words rows ≡ true → IsWord (name_among rows n)
among [] n e = tt
among (row ∷ rows) n e =
    let parts = and_parts (is_word row.1) (are_words rows) e in
    first (row.0 == n) row.1 (name_among rows n) parts.0 (among rows n parts.1)

pub stream_name-word : (n : ℕ) → IfSome (stream_name n) (λ s. is_word s ≡ true)
stream_name-word n = among stream_types n refl
