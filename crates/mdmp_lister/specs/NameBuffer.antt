-- What a contract sees of the buffer for a name.
use Rattle.std.specs.Prelude.{ℕ, List}

pub record NameBufferState : Type 0 where
  -- as many bytes as the longest had that was read
  pub items : List ℕ
  -- its list has room for so many, and no more
  pub limit : ℕ
