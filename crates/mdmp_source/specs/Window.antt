-- A window that slides over a stretch of a file, and what a fill does to it.
use Rattle.std.specs.Prelude.{◌≡◌, ◌+◌, ◌-◌, ◌++◌, ℕ, List, Option, length, max, min, IfSome}
use Rattle.mdmp_source.specs.Range.{bytes_at}

-- a window as its callers see it: the bytes held from `place` on, at most `room`, of a stretch that goes up to `end`
pub record WindowState : Type 0 where
  pub place : ℕ
  pub end : ℕ
  pub room : ℕ
  -- how many bytes its buffer has, of which `held` is a part
  pub touched : ℕ
  pub held : List ℕ

-- the offset of the byte behind those that are held
abbrev pub behind_of : WindowState → ℕ
behind_of w = w.place + length w.held

-- how many bytes the next fill fetches: the free room, or what is left of the stretch where that is less
abbrev pub next_len_of : WindowState → ℕ
next_len_of w = min (w.room - length w.held) (w.end - behind_of w)

-- a window whose buffer has at least so many bytes
abbrev pub touched_by : ℕ → WindowState → WindowState
touched_by n w = record w { touched = max w.touched n }

-- a fill lengthens the buffer to what it holds then, and no further
abbrev pub touched_after : WindowState → WindowState
touched_after w = touched_by (length w.held + next_len_of w) w

-- a fill appended the next bytes of the file
pub record IsFilled (content : Option (List ℕ)) (old new : WindowState) : Type 0 where
  pub more : List ℕ
  pub more_len : length more ≡ next_len_of old
  pub appended : new ≡ record (touched_after old) { held = old.held ++ more }
  pub known : IfSome content (λ file. more ≡ bytes_at file (behind_of old) (length more))
