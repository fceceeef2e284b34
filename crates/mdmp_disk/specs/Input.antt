-- Standard input, as it was read, or was not.
use Rattle.std.specs.Prelude.{ℕ, ◌≤◌, ◌<◌, ◌≡◌, false, IsTrue, List, Option, None, IfSome, length}
use Rattle.mdmp_disk.specs.declared.input.InputRefused.{InputRefused}
use Rattle.mdmp_disk.specs.declared.input.InputRefused.TheVariants.{Failed, TooLong, Memory}
use Rattle.mdmp_disk.specs.Disk.{FileState}

-- bytes of which some may not be given: reading may fail anywhere
abbrev pub unsure : Option (List ℕ) → FileState
unsure bytes = record { bytes = bytes; is_reliable = false; fail_at = None }

-- these are the bytes that standard input gave, at most so many, and reading them to their end did not fail
pub record IsInput (input : FileState) (most : ℕ) (bytes : List ℕ) : Type 0 where
  pub all : IfSome input.bytes (λ known. bytes ≡ known)
  pub fits : length bytes ≤ most
  pub unfailing : IfSome input.fail_at (λ place. length bytes < place)

-- reading standard input may fail here, if at most so many bytes are wanted: just at the place where it fails, if that is known
pub record MayFailInput (input : FileState) (most at : ℕ) : Type 0 where
  pub unsure_of : IsTrue input.is_reliable → ⊥
  pub inside : IfSome input.bytes (λ known. at ≤ length known)
  pub place : IfSome input.fail_at (λ place. (at ≡ place) × (at ≤ most))

-- standard input may give more bytes than the most that are wanted, before it fails
pub record MayExceedInput (input : FileState) (most : ℕ) : Type 0 where
  pub more : IfSome input.bytes (λ known. most < length known)
  pub before : IfSome input.fail_at (λ place. most < place)

-- standard input may not be read for this reason, if at most so many bytes are wanted
abbrev pub MayRefuseInput : FileState → ℕ → InputRefused → Type 0
MayRefuseInput input most (Failed at) = MayFailInput input most at
MayRefuseInput input most TooLong = MayExceedInput input most
MayRefuseInput input most Memory = Unit {0}
