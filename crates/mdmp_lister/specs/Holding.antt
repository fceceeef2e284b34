-- What a window holds of a file, and what its fills may still take.
use Rattle.std.specs.Prelude.{◌≡◌, ◌≤◌, ◌+◌, ◌-◌, ◌/◌, ℕ, zero, suc, List, [], Option, Result, Ok, Err, drop, length, min, IfSome, nat_lt, if◌then◌else◌}
use Rattle.mdmp_source.specs.Range.{bytes_at}
use Rattle.mdmp_source.specs.Source.{SourceState}
use Rattle.mdmp_source.specs.Window.{WindowState, behind_of, next_len_of}
use Rattle.mdmp_source.specs.declared.location.Location.{Location}

-- the bytes held are those of the file from the place on, where it is known
abbrev pub IsHeldOf : Option (List ℕ) → WindowState → Type 0
IsHeldOf content w = IfSome content (λ file. w.held ≡ bytes_at file w.place (length w.held))

-- `size` bytes at `at` lie ahead in the stretch of a window over a source, and it has room for them; the stretch lies
-- inside the file, and what is held is of it
pub record IsAhead (source : SourceState) (at size : ℕ) (w : WindowState) : Type 0 where
  pub from : w.place ≤ at
  pub inside : at + size ≤ w.end
  pub end : w.end ≤ source.size
  pub room : size ≤ w.room
  pub held : IsHeldOf source.store.content w

-- a window of the same stretch that has come to `at`
pub record ComesTo (at : ℕ) (content : Option (List ℕ)) (old new : WindowState) : Type 0 where
  pub place : new.place ≡ at
  pub end : new.end ≡ old.end
  pub room : new.room ≡ old.room
  pub held : IsHeldOf content new

-- a window that was started over a stream
abbrev pub started : Location → WindowState → WindowState
started at w = record w { place = at.rva; end = at.rva + at.size; held = [] }

-- a window that was moved to `at`: behind the bytes held it holds nothing
abbrev pub reached : ℕ → WindowState → WindowState
reached at w = record w { place = at; held = drop (at - w.place) w.held }

-- ---- what fills take

-- the bytes that are fetched to hold `size` bytes at `at`: none where they are held, else as many as a fill takes there
unfoldable pub needed : ℕ → ℕ → WindowState → ℕ
needed at size w = if nat_lt (length (reached at w).held) size then next_len_of (reached at w) else 0

-- those before `at` that are never fetched
abbrev pub jumped : ℕ → WindowState → ℕ
jumped at w = at - behind_of w

-- those of the stretch that are neither fetched nor passed over yet
abbrev pub unfetched : WindowState → ℕ
unfetched w = w.end - behind_of w

-- at most so many fills do so many bytes take, where each but the last takes at least `step` of them
unfoldable pub fills_of : (bytes step : ℕ) → ℕ
fills_of zero step = 0
fills_of (suc n) step = suc n / step + 1

-- those that a window may still take, where records have at most `most` bytes: one that lacks a record has room for this
-- many at least
abbrev pub fills : ℕ → WindowState → ℕ
fills most w = fills_of (unfetched w) (w.room + 1 - most)

-- what is left behind an answer: behind a fault nothing
abbrev pub left_behind : {T E : Type 0} → Result T E → ℕ → ℕ
left_behind (Ok x) left = left
left_behind (Err fault) left = 0

-- what was fetched and what was jumped over, to hold `size` bytes at `at`, comes off what was left
pub record Slides {T E : Type 0} (at size : ℕ) (old : WindowState) (result : Result T E) (new : WindowState) : Type 0 where
  pub bytes : needed at size old + jumped at old + left_behind result (unfetched new) ≤ unfetched old
  -- and the fill, where one was made, off those that were left, of records of at most `most` bytes
  pub calls : (most : ℕ) → size ≤ most → most ≤ old.room → min 1 (needed at size old) + left_behind result (fills most new) ≤ fills most old
