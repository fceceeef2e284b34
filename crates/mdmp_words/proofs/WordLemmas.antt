-- What a parsed number is, by the definition of the words.
use Rattle.std.proofs.Common.{◌≡◌, ◌≢◌, ℕ, ◌<◌, ◌^◌, List, [], ◌∷◌, Bool, true, false, cond, nat_lt, Some, None, Result, Ok, Err, length, get_or, refl, ap}
use Rattle.std.specs.Bool.{Decides}
use Rattle.std.specs.Char.{digit_value, is_digit}
use Rattle.std.specs.List.{list_all}
use Rattle.std.specs.Result.{OkIff, result_ok}
use Rattle.std.specs.Str.Parse.{AllDigits, IsNumeral, ParsesUnsigned, digits_value}
use Rattle.std.proofs.lemmas.Bool.Decides.{Decides-and, Decides-ltb}
use Rattle.std.proofs.lemmas.Str.Parse.{without_leading_plus_none}
use Rattle.mdmp_words.specs.NumberWords.{is_numeral, number_in}

all_digits : (base : ℕ) (word : List ℕ) → Decides (list_all (λ c. is_digit c base) word) (AllDigits base word)
all_digits base [] = (λ _. tt, λ _. refl)
all_digits base (c ∷ cs) =
    Decides-and (is_digit c base) (list_all (λ c. is_digit c base) cs) (Decides-ltb (digit_value c) base) (all_digits base cs)

numeral : (base : ℕ) (word : List ℕ) → Decides (is_numeral base word) (IsNumeral base word)
numeral base word = Decides-and (nat_lt 0 (length word)) (list_all (λ c. is_digit c base) word) (Decides-ltb 0 (length word)) (all_digits base word)

ok_where : {E P : Type 0} (r : Result ℕ E) (test : Bool) (v : ℕ) → Decides test P → OkIff r P v → result_ok r ≡ cond test (Some v) None
ok_where (Ok x) true v decides read = ap Some read.1
ok_where (Ok x) false v decides read = absurd (let h : false ≡ true = decides.1 read.0 in cc)
ok_where (Err e) true v decides read = absurd (read (decides.0 refl))
ok_where (Err e) false v decides read = refl

-- a word with no plus in front is read as the number that it writes
pub read_number : {E : Type 0} (base : ℕ) (word : List ℕ) (r : Result ℕ E) → get_or word 0 0 ≢ 43 → ParsesUnsigned 64 base word r → result_ok r ≡ number_in base word
read_number {E = E} base word r plain read =
    let value = digits_value base word in
    let bare : OkIff r (IsNumeral base word × (value < 2 ^ 64)) value = rw (without_leading_plus_none word plain) at read in
    ok_where r _ value (Decides-and (is_numeral base word) (nat_lt value (2 ^ 64)) (numeral base word) (Decides-ltb value (2 ^ 64))) bare
