-- What the words of the options that limit a command, and of TYPE, name. A word is the list of its bytes.
use Rattle.std.specs.Prelude.{ℕ, ◌^◌, ◌-◌, Bool, if◌then◌else◌, ◌&&◌, nat_le, List, [], ◌∷◌, Option, Some, None, length, option_map, unwrap_or}
use Rattle.std.specs.Option.{option_and_then}
use Rattle.mdmp_lister.specs.Format.Kind.{greatest_record}
use Rattle.mdmp_lister.specs.Limits.{most_bytes}
use Rattle.mdmp_lister.specs.declared.limits.Limits.{Limits}
use Rattle.mdmp_words.specs.NumberWords.{decimal_number, decimal32_number}
use Rattle.mdmp_words.specs.TypeNames.{type_named}
use Rattle.mdmp_words.specs.declared.option_words.LimitWords.{LimitWords}

-- ---- limits

-- the words of `--window`, `--name`, `--budget`, `--memory` and `--aside`, and whether the file is untrusted
pub record LimitTexts : Type 0 where
  pub window : Option (List ℕ)
  pub name : Option (List ℕ)
  pub budget : Option (List ℕ)
  pub memory : Option (List ℕ)
  pub aside : Option (List ℕ)
  pub untrusted : Bool

abbrev pub texts_of : LimitWords → LimitTexts
texts_of words = record {
  window = option_map (λ w. w.now) words.window;
  name = option_map (λ w. w.now) words.name;
  budget = option_map (λ w. w.now) words.budget;
  memory = option_map (λ w. w.now) words.memory;
  aside = option_map (λ w. w.now) words.aside;
  untrusted = words.untrusted;
}

-- how many bytes a window and a name may have, and how many may be read for the listing, held in memory, and read of
-- CodeView records, if there is a limit
pub record Sizes : Type 0 where
  pub window : ℕ
  pub name : ℕ
  pub budget : Option ℕ
  pub memory : Option ℕ
  pub aside : Option ℕ

abbrev pub sizes_in_limits : Limits → Sizes
sizes_in_limits limits =
    record { window = limits.window; name = limits.name; budget = limits.budget; memory = limits.memory; aside = limits.aside }

-- these sizes, if the window and the name are within their bounds
abbrev pub sizes_within : Sizes → Option Sizes
sizes_within sizes =
    if nat_le greatest_record sizes.window && nat_le sizes.window most_bytes && nat_le sizes.name most_bytes then Some sizes else None

-- the number that a word names, or the usual one if there is no word
abbrev pub number_or : ℕ → Option (List ℕ) → Option ℕ
number_or usual None = Some usual
number_or usual (Some word) = decimal32_number word

-- the limit of an untrusted file: 64 MiB
abbrev pub untrusted_most : ℕ
untrusted_most = 67108864

-- the limit that a word names; without a word there is one only if the file is untrusted
abbrev pub most_named : Bool → Option (List ℕ) → Option (Option ℕ)
most_named untrusted (Some word) = option_map Some (decimal_number word)
most_named untrusted None = Some (if untrusted then Some untrusted_most else None)

-- the budget that stands for no limit is the greatest number below 2^64
abbrev pub budget_within : Option ℕ → ℕ
budget_within limit = unwrap_or limit (2 ^ 64 - 1)

-- a window and a name of these sizes, and the three limits that words name
abbrev pub sizes_named : LimitTexts → ℕ → ℕ → Option Sizes
sizes_named texts window name =
    option_and_then
    (λ budget. option_and_then
    (λ memory. option_and_then
    (λ aside. sizes_within (record { window = window; name = name; budget = Some (budget_within budget); memory = memory; aside = aside }))
    (most_named texts.untrusted texts.aside))
    (most_named texts.untrusted texts.memory))
    (most_named texts.untrusted texts.budget)

-- the sizes that words name, a window of 65536 bytes and a name of 4096 if there is no word
abbrev pub limits_named : LimitTexts → Option Sizes
limits_named texts =
    option_and_then
    (λ window. option_and_then (sizes_named texts window) (number_or 4096 texts.name))
    (number_or 65536 texts.window)

-- ---- stream types

-- the types that words name, in their order
abbrev pub types_from : List (List ℕ) → Option (List ℕ)
types_from [] = Some []
types_from (word ∷ words) =
    option_and_then (λ first. option_map (λ types. first ∷ types) (types_from words)) (type_named word)

-- the types that one to sixteen words name
abbrev pub types_named : List (List ℕ) → Option (List ℕ)
types_named words =
    if nat_le 1 (length words) && nat_le (length words) 16 then types_from words else None
