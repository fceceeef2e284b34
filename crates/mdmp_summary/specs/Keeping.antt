-- The first of some values, their number and their sum, also one value at a time.
use Rattle.std.specs.Prelude.{ℕ, List, [], ◌∷◌, Option, Some, None}
use Rattle.std.specs.Option.{option_or}
use Rattle.mdmp_source.specs.Count.{raised}

-- the first of some values
abbrev pub first : {X : Type 0} → List X → Option X
first [] = None
first (x ∷ xs) = Some x

-- a count that stops at the greatest u128; no file of fewer than 2^64 bytes has so many of anything
abbrev pub capped : ℕ → ℕ
capped n = raised 0 n

-- ---- a value at a time

-- the value that was kept before, or else the first of these
abbrev pub kept : {X : Type 0} → Option X → List X → Option X
kept old [] = old
kept old (x ∷ xs) = option_or old (Some x)

-- the count after one for each value
abbrev pub counted_on : {X : Type 0} → ℕ → List X → ℕ
counted_on n [] = n
counted_on n (x ∷ xs) = counted_on (raised n 1) xs

-- the sum after these numbers
abbrev pub summed_on : ℕ → List ℕ → ℕ
summed_on n [] = n
summed_on n (x ∷ xs) = summed_on (raised n x) xs
