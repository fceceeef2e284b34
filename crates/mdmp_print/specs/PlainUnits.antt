-- Units that stand in a string as one byte.
use Rattle.std.specs.Prelude.{ℕ, Bool, not, ◌==◌, ◌&&◌, nat_le, nat_lt}

-- a character from the space on below 128, but the double quote and the backslash
abbrev pub is_plain_unit : ℕ → Bool
is_plain_unit u = nat_le 32 u && (nat_lt u 128 && (not (u == 34) && not (u == 92)))
