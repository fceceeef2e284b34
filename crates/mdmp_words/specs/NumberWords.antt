-- What the words ADDRESS and LENGTH of `hex` name. A word is the list of its bytes.
use Rattle.std.specs.Prelude.{ℕ, ◌+◌, ◌*◌, ◌^◌, ◌==◌, Bool, if◌then◌else◌, ◌&&◌, nat_eq, nat_lt, nat_le, List, Option, Some, None, length, drop, codes}
use Rattle.std.specs.List.{after_first, before_first, list_all, position_or_len, starts_with}
use Rattle.std.specs.Char.{is_digit}
use Rattle.std.specs.Option.{option_and_then}
use Rattle.std.specs.Str.Parse.{digits_value}
use Rattle.mdmp_map.specs.Ranges.{address_end}
use Rattle.mdmp_print.specs.HexText.{length_limit}
use Rattle.mdmp_words.specs.declared.number_words.Span.{Span}

-- ---- numbers

-- one digit of the base or more, and nothing else
abbrev pub is_numeral : ℕ → List ℕ → Bool
is_numeral base word = nat_lt 0 (length word) && list_all (λ c. is_digit c base) word

-- the number that such a word writes, where the number is below 2^64
abbrev pub number_in : ℕ → List ℕ → Option ℕ
number_in base word =
    if is_numeral base word && nat_lt (digits_value base word) (2 ^ 64) then Some (digits_value base word) else None

-- the number that digits `0` to `9` write, however many they are
abbrev pub decimal_number : List ℕ → Option ℕ
decimal_number word = number_in 10 word

-- the same, where it is below 2^32
abbrev pub decimal32_number : List ℕ → Option ℕ
decimal32_number word =
    option_and_then (λ number. if nat_lt number (2 ^ 32) then Some number else None) (decimal_number word)

-- the number that one to sixteen digits `0` to `9`, `a` to `f` and `A` to `F` write
abbrev pub hexadecimal_number : List ℕ → Option ℕ
hexadecimal_number word = if nat_le (length word) 16 then number_in 16 word else None

-- the number below 2^32 that one to eight such digits write
abbrev pub half_number : List ℕ → Option ℕ
half_number word =
    if nat_le (length word) 8 then option_and_then (λ number. if nat_lt number (2 ^ 32) then Some number else None) (number_in 16 word) else None

-- the number whose high half is written by one to eight such digits, and whose low half by eight
abbrev pub halves_number : List ℕ → List ℕ → Option ℕ
halves_number high low =
    if length low == 8
    then option_and_then (λ first. option_and_then (λ last. Some (first * 2 ^ 32 + last)) (half_number low)) (half_number high)
    else None

-- ---- words

-- a word without `0x` at its start
abbrev pub without_prefix : List ℕ → List ℕ
without_prefix word = if starts_with nat_eq word (codes "0x") then drop 2 word else word

-- `0x` and a hexadecimal number, or a decimal number
abbrev pub plain_address : List ℕ → Option ℕ
plain_address word =
    if starts_with nat_eq word (codes "0x") then hexadecimal_number (drop 2 word) else decimal_number word

-- the backtick that WinDbg prints between the halves of an address
abbrev pub is_backtick : ℕ → Bool
is_backtick byte = byte == 96

-- such a word; or, with a backtick, the two halves of a hexadecimal number, with `0x` or without
abbrev pub address_named : List ℕ → Option ℕ
address_named word =
    if nat_lt (position_or_len is_backtick word) (length word)
    then halves_number (without_prefix (before_first is_backtick word)) (after_first is_backtick word)
    else plain_address word

-- a decimal number up to the limit
abbrev pub length_named : List ℕ → Option ℕ
length_named word = option_and_then (λ length. if nat_le length length_limit then Some length else None) (decimal_number word)

-- an address and how many bytes stand from it on, none of them past the last address
abbrev pub span_from : ℕ → ℕ → Option Span
span_from address length =
    if nat_le (address + length) address_end then Some (record { address = address; length = length }) else None

-- the span that the two words name
abbrev pub span_named : List ℕ → List ℕ → Option Span
span_named address length =
    option_and_then (λ first. option_and_then (span_from first) (length_named length)) (address_named address)
