-- Which words are not what is expected at their place, and which of them is told. A word is the list of its bytes.
use Rattle.std.specs.Prelude.{ℕ, ◌^◌, ◌-◌, Bool, false, ◌&&◌, if◌then◌else◌, nat_le, List, [], ◌∷◌, Option, Some, None, is_some}
use Rattle.std.specs.Option.{option_map_or, option_or}
use Rattle.mdmp_lister.specs.Format.Kind.{greatest_record}
use Rattle.mdmp_lister.specs.Limits.{most_bytes}
use Rattle.mdmp_print.specs.HexText.{length_limit}
use Rattle.mdmp_words.specs.NumberWords.{address_named, decimal_number}
use Rattle.mdmp_words.specs.OptionWords.{LimitTexts}
use Rattle.mdmp_words.specs.TypeNames.{type_named}
use Rattle.mdmp_words.specs.declared.bad_word.BadWord.{BadWord}
use Rattle.mdmp_words.specs.declared.bad_word.NumberBounds.{NumberBounds}
use Rattle.mdmp_words.specs.declared.bad_word.WordPlace.{WordPlace}
use Rattle.mdmp_words.specs.declared.bad_word.WordPlace.TheVariants.{Window, Name, Budget, Memory, Aside, Address, Length, StreamType}

-- the greatest number below 2^64
abbrev greatest_number : ℕ
greatest_number = 2 ^ 64 - 1

-- the numbers that may stand at a place, where it takes a decimal number
abbrev pub bounds_of : WordPlace → Option NumberBounds
bounds_of Window = Some (record { least = greatest_record; most = most_bytes })
bounds_of Name = Some (record { least = 0; most = most_bytes })
bounds_of Budget = Some (record { least = 0; most = greatest_number })
bounds_of Memory = Some (record { least = 0; most = greatest_number })
bounds_of Aside = Some (record { least = 0; most = greatest_number })
bounds_of Address = None
bounds_of Length = Some (record { least = 0; most = length_limit })
bounds_of StreamType = None

abbrev pub is_number_within : NumberBounds → List ℕ → Bool
is_number_within bounds word = option_map_or (λ number. nat_le bounds.least number && nat_le number bounds.most) (decimal_number word) false

-- a word is what is expected at a place: a decimal number within the bounds, an address, or the number or name of a type
abbrev pub is_expected : WordPlace → List ℕ → Bool
is_expected Address word = is_some (address_named word)
is_expected StreamType word = is_some (type_named word)
is_expected place word = option_map_or (λ bounds. is_number_within bounds word) (bounds_of place) false

-- ---- the word that is told

-- a word that is not what is expected at its place
pub record PlainBad : Type 0 where
  pub place : WordPlace
  pub word : List ℕ

abbrev pub plain_bad : BadWord → PlainBad
plain_bad bad = record { place = bad.place; word = bad.word.now }

-- the word at a place, where there is one that is not expected
abbrev pub bad_at : WordPlace → Option (List ℕ) → Option PlainBad
bad_at place None = None
bad_at place (Some word) = if is_expected place word then None else Some (record { place = place; word = word })

-- the first bad one among the words of the limits
abbrev pub bad_limit : LimitTexts → Option PlainBad
bad_limit texts =
    option_or (bad_at Window texts.window)
    (option_or (bad_at Name texts.name)
    (option_or (bad_at Budget texts.budget)
    (option_or (bad_at Memory texts.memory)
    (bad_at Aside texts.aside))))

-- the first of some words that names no type
unfoldable pub bad_type : List (List ℕ) → Option PlainBad
bad_type [] = None
bad_type (word ∷ words) = option_or (bad_at StreamType (Some word)) (bad_type words)
