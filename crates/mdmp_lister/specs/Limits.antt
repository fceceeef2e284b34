-- How many bytes a window and a name may have.
use Rattle.std.specs.Prelude.{ℕ, ◌^◌}

-- the most bytes of a window, and of a name
abbrev pub most_bytes : ℕ
most_bytes = 2 ^ 30
