-- How what a call gives reaches its caller.
use Rattle.std.specs.Prelude.{◌≡◌, ◌++◌, ◌-◌, ◌^◌, ℕ, List, length, take, drop, min, nat_lt, if◌then◌else◌}
use Rattle.mdmp_c.specs.declared.fault.PlainFault.{PlainFault}
use Rattle.mdmp_c.specs.Fault.{no_memory, of_kind, status_of}

-- a list at the front of a buffer, as far as there is room, and behind it what stood there
abbrev pub put_front : {X : Type 0} → List X → List X → List X
put_front xs before = take (length before) xs ++ drop (length xs) before

-- a number as 64 bits tell it: the greatest, where it is greater
abbrev pub told_count : ℕ → ℕ
told_count n = min n (2 ^ 64 - 1)

-- all of it was given with what is told of the file, or as much as the buffer holds, which status 4 tells beside how many
-- there are
pub record GivesList {X : Type 0} (told : PlainFault) (xs : List X) (status count : ℕ) (fault : PlainFault) (before after : List X) : Type 0 where
  pub status_is : status ≡ (if nat_lt (length before) (length xs) then 4 else status_of told)
  pub count_is : count ≡ told_count (length xs)
  pub fault_is : fault ≡ told
  pub out : after ≡ put_front xs before

-- nothing was given, for this reason
pub record Fails {X : Type 0} (told : PlainFault) (status count : ℕ) (fault : PlainFault) (before after : List X) : Type 0 where
  pub status_is : status ≡ status_of told
  pub count_is : count ≡ 0
  pub fault_is : fault ≡ told
  pub untouched : after ≡ before

-- it was given, or memory was wanting
pub data GivesOrWants {X : Type 0} (told : PlainFault) (xs : List X) (status count : ℕ) (fault : PlainFault) (before after : List X) : Type 0 where
  given : (told ≡ no_memory → ⊥) → GivesList told xs status count fault before after → GivesOrWants told xs status count fault before after
  wanted : Fails no_memory status count fault before after → GivesOrWants told xs status count fault before after

-- a call ended at a limit: what was read up to there is the first of what is told of the file without limits
pub record IsStopped {X : Type 0} (IsTold : PlainFault → List X → Type 0) (xs : List X) : Type 0 where
  pub whole : PlainFault
  pub rest : List X
  pub begins : IsTold whole (xs ++ rest)

-- what a call answers: with good arguments that is what is told of the file, and what is given of it, if the limits are kept; or memory
-- was wanting, in which case nothing is told of it; or a limit was reached that may be told, and what was read up to there is given.
-- With others it is that one of these is bad
pub data Ends {X : Type 0} (IsTold : PlainFault → List X → Type 0) (IsValid IsKept : Type 0) (MayTell : PlainFault → Type 0) (refusal : PlainFault) (status count : ℕ) (fault : PlainFault) (before after : List X) : Type 0 where
  answers : (told : PlainFault) (xs : List X) → IsValid → IsKept → IsTold told xs → GivesList told xs status count fault before after
      → Ends IsTold IsValid IsKept MayTell refusal status count fault before after
  wants : IsValid → Fails no_memory status count fault before after → Ends IsTold IsValid IsKept MayTell refusal status count fault before after
  stops : (told : PlainFault) (xs : List X) → IsValid → MayTell told → IsStopped IsTold xs → GivesList told xs status count fault before after
      → Ends IsTold IsValid IsKept MayTell refusal status count fault before after
  refuses : (IsValid → ⊥) → Fails refusal status count fault before after → Ends IsTold IsValid IsKept MayTell refusal status count fault before after

abbrev pub bad_limits : PlainFault
bad_limits = of_kind 67

abbrev pub bad_types : PlainFault
bad_types = of_kind 68
