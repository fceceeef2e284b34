-- What a walk may still fetch.
use Rattle.std.specs.Prelude.{◌≤◌, ◌<◌, ◌+◌, ◌-◌, ◌*◌, ◌/◌, ◌^◌, ℕ, List, drop, vec_len}
use Rattle.mdmp_source.specs.Window.{WindowState}
use Rattle.mdmp_wire.specs.declared.entry.Entry.{Entry}
use Rattle.mdmp_lister.specs.declared.choice.Choice.{Choice}
use Rattle.mdmp_lister.specs.declared.meter.Amount.{Amount}
use Rattle.mdmp_lister.specs.declared.stage.Stage.{Stage}
use Rattle.mdmp_lister.specs.declared.stage.Stage.TheVariants.{Head, Records}
use Rattle.mdmp_lister.specs.declared.walk.Walk.{Walk}
use Rattle.mdmp_lister.specs.StreamHead.{heads_ahead}
use Rattle.mdmp_lister.specs.Holding.{fills, fills_of, unfetched}
use Rattle.mdmp_lister.specs.Format.Kind.{greatest_record}
use Rattle.mdmp_lister.specs.Listed.{cost_by, cost_of, entry_cost, entry_cost_by}
use Rattle.mdmp_lister.specs.Walk.{work_of}

-- and what is left of the current one: all of it before its head is read, then what its window has neither fetched nor
-- passed over
abbrev pub owed_of : ℕ → Entry → WindowState → Stage → ℕ
owed_of size e w Head = entry_cost size e
owed_of size e w (Records kind shape index offset) = unfetched w
owed_of size e w stage = 0

-- the calls that the listing of a stream of so many bytes may make through a window with such room, those for names left
-- out: one for its head, and the fills behind it
unfoldable pub stream_calls : ℕ → ℕ → ℕ
stream_calls room size = 2 + size / (room - 167)

-- those of the chosen ones of some entries
abbrev pub calls_of : ℕ → Choice → ℕ → List Entry → ℕ
calls_of room choice size entries = cost_by (stream_calls room) choice size entries

-- and what is left of those of the current one: all of them before its head is read, then the fills that its window may
-- still take
abbrev pub calls_owed : ℕ → Entry → WindowState → Stage → ℕ
calls_owed size e w Head = entry_cost_by (stream_calls w.room) size e
calls_owed size e w (Records kind shape index offset) = fills greatest_record w
calls_owed size e w stage = 0

-- the bytes of the current entry's stream that may still be fetched
abbrev pub unread_bytes : {S A : Type 0} → Walk S A → ℕ
unread_bytes w = owed_of w.meter.source.size w.current w.window w.stage

-- what was asked for and may still be fetched is allowed, with a name and its length for each of the names reached behind
-- the first `before`, and so are the calls, with 2 for each of them; and those that may still be can be counted
pub record IsPaid {S A : Type 0} (allowed : Amount) (before : ℕ) (w : Walk S A) : Type 0 where
  pub bytes : w.meter.asked + (unread_bytes w + cost_of w.choice w.meter.source.size (drop w.next w.entries.items))
      + before * (w.name.limit + 4) ≤ allowed.bytes + w.meter.names * (w.name.limit + 4)
  pub calls : w.meter.calls
      + (calls_owed w.meter.source.size w.current w.window w.stage + calls_of w.window.room w.choice w.meter.source.size (drop w.next w.entries.items))
      + before * 2 ≤ allowed.calls + w.meter.names * 2
  pub names : w.meter.names + work_of w < 2 ^ 66

-- so many bytes were allowed since so many were asked for, so many fetched and so many names reached: what was asked for since
-- then and may still be fetched of the current entry is within them, and so is what was fetched, with a name and its length for
-- each name, unless their count is at its greatest
abbrev pub IsWithinSince : {S A : Type 0} → (asked fetched names allowed : ℕ) → Walk S A → Type 0
IsWithinSince asked fetched names allowed w =
    w.meter.names + 1 < 2 ^ 128
    → (w.meter.asked + unread_bytes w + names * (w.name.limit + 4) ≤ asked + allowed + w.meter.names * (w.name.limit + 4))
    × (w.meter.fetched + unread_bytes w + names * (w.name.limit + 4) ≤ fetched + allowed + w.meter.names * (w.name.limit + 4))

-- what is allowed, by the entries of the directory: the header, they, the heads that are fetched twice, and the streams
abbrev pub allowed_of : {S A : Type 0} → Walk S A → Amount
allowed_of w =
    let z = w.meter.source.size in
    let s = vec_len w.entries in
    record {
      bytes = 32 + 12 * s + heads_ahead w.choice z w.entries.items + cost_of w.choice z w.entries.items;
      calls = 1 + fills_of (12 * s) (w.window.room - 11) + s + calls_of w.window.room w.choice z w.entries.items;
    }

-- what was asked for and may still be fetched is within the bound
abbrev pub IsBounded : {S A : Type 0} → Walk S A → Type 0
IsBounded w = IsPaid (allowed_of w) 0 w
