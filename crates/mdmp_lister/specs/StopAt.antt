-- A sink for tests, which stops at one call.
use Rattle.std.specs.Prelude.{◌≡◌, ◌+◌, ◌-◌, ◌^◌, ◌==◌, ℕ, Result, Ok, Err, min, if◌then◌else◌}
use Rattle.mdmp_lister.specs.declared.sink.Stopped.{Stopped}

-- such a sink as its callers see it: the number of the call at which it stops, and its calls so far, which stop at
-- the greatest u64
pub record StopAtState : Type 0 where
  pub stop_at : ℕ
  pub calls : ℕ

-- the answer of the call with this number
abbrev pub answer_at : ℕ → ℕ → Result (Unit {0}) Stopped
answer_at stop_at call = if call == stop_at then Err (record {}) else Ok tt

-- one call
pub record IsStopAtCall (old : StopAtState) (result : Result (Unit {0}) Stopped) (new : StopAtState) : Type 0 where
  pub answer : result ≡ answer_at old.stop_at old.calls
  pub calls : new ≡ record old { calls = min (old.calls + 1) (2 ^ 64 - 1) }
