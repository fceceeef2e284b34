-- A text that is put together in a buffer.
use Rattle.std.specs.Prelude.{◌≡◌, ℕ, ◌+◌, ◌≤◌, List, ◌++◌, length, take}

-- behind the first `len` bytes of a buffer stands a piece of at most `most` bytes, up to `end`
pub record IsPutBehind (before : List ℕ) (len : ℕ) (piece : List ℕ) (most : ℕ) (after : List ℕ) (end : ℕ) : Type 0 where
  pub text : take end after ≡ take len before ++ piece
  pub within : end ≤ len + most
  pub same : length after ≡ length before
