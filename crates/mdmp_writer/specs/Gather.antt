-- Bytes that go to an output by way of a buffer.
use Rattle.std.specs.Prelude.{◌≡◌, List, ℕ, ◌++◌, length, Option, Result, MatchResult}
use Rattle.mdmp_source.specs.Output.{OutState, Takes}
use Rattle.mdmp_dump.specs.Shape.{ViewShape}
use Rattle.mdmp_writer.specs.Layout.{file_size}
use Rattle.mdmp_writer.specs.Written.{BeginsWith}

-- what the output has taken, where that is known, and what the buffer holds behind it
pub record Gathered : Type 0 where
  pub taken : Option (List ℕ)
  pub held : List ℕ

abbrev pub gathered : OutState → List ℕ → Gathered
gathered out held = record { taken = out.taken; held = held }

-- a text was put behind what was held, and of both the first bytes went out
pub record Gathers (before : Gathered) (text : List ℕ) (after : Gathered) : Type 0 where
  pub sent : List ℕ
  pub whole : before.held ++ text ≡ sent ++ after.held
  pub took : Takes before.taken sent after.taken

-- the first part of a text was put
pub record GathersPrefix (before : Gathered) (text : List ℕ) (after : Gathered) : Type 0 where
  pub first : List ℕ
  pub rest : List ℕ
  pub splits : text ≡ first ++ rest
  pub puts : Gathers before first after

-- all of a text was put, or an error and a first part of it
abbrev pub Writes : {T E : Type 0} → Result T E → Gathered → List ℕ → Gathered → Type 0
Writes result before text after = MatchResult result (λ _. Gathers before text after) (λ _. GathersPrefix before text after)

-- of a text some was put, and the rest is left
pub record IsLeft (before : Gathered) (text : List ℕ) (now : Gathered) (rest : List ℕ) : Type 0 where
  pub first : List ℕ
  pub splits : text ≡ first ++ rest
  pub puts : Gathers before first now

-- ---- of a text that is not known

-- some text of so many bytes was put
pub record PutsSome (before : Gathered) (n : ℕ) (after : Gathered) : Type 0 where
  pub text : List ℕ
  pub count : length text ≡ n
  pub puts : Gathers before text after

-- so many bytes more are held
pub record HoldsMore (n : ℕ) (old new : List ℕ) : Type 0 where
  pub more : List ℕ
  pub count : length more ≡ n
  pub held : new ≡ old ++ more

-- as many bytes were put as a dump of this shape has, which begin with its header and directory
pub record PutsDump (shape : ViewShape) (before after : Gathered) : Type 0 where
  pub some : PutsSome before (file_size shape.streams) after
  pub begins : BeginsWith shape some.text
