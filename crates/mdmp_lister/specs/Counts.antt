-- The numbers that a lister tells of itself.
use Rattle.std.specs.Prelude.{◌≡◌, ◌≤◌, ◌<◌, ◌+◌, ◌-◌, ◌*◌, ◌^◌, ℕ, List, Some, length}
use Rattle.mdmp_lister.specs.declared.choice.Choice.{Choice}
use Rattle.mdmp_lister.specs.declared.counts.Counts.{Counts}
use Rattle.mdmp_lister.specs.Format.Bounds.{call_bound, fetch_bound, held_bound}
use Rattle.mdmp_lister.specs.Format.Numbers.{listed_bytes, listed_sizes}
use Rattle.mdmp_lister.specs.Lister.{ListerState}
use Rattle.mdmp_lister.specs.Format.Listing.{entry_count}
use Rattle.mdmp_lister.specs.Meter.{IsBooked, IsMetered}
use Rattle.mdmp_lister.specs.Listed.{cost_of, sizes_in}
use Rattle.mdmp_lister.specs.StreamHead.{directory_bytes, opening_bytes}

-- those of any lister, by the directory that it obtained and the room that it took
abbrev pub numbers_of : ListerState → Counts
numbers_of v = record {
  s = length v.entries;
  r = v.rooms.ranges;
  n = cost_of v.choice v.source.size v.entries;
  m = v.counts.names;
  held = held_bound v.rooms.window v.limit (length v.entries) v.rooms.ranges;
  fetched = v.counts.fetched;
  calls = v.counts.calls;
  aside = v.counts.aside.bytes;
}

-- those of a known file are the file's
pub record AreOfFile (file : List ℕ) (choice : Choice) (c : Counts) : Type 0 where
  pub entries : c.s ≡ entry_count file
  pub listed : c.n ≡ listed_bytes file choice

-- the bytes that a lister's lists have together
abbrev pub bytes_in_lists : ListerState → ℕ
bytes_in_lists v = v.rooms.window + 12 * length v.entries + 24 * length v.ranges + v.limit

-- a lister's lists stay within the bound that its numbers tell, no list has outgrown the room that it took as the file was
-- opened, its source's own counts have risen by what was fetched or stand at their greatest, and what was fetched is within
-- the budget and within what was asked for, and no less than the header and the directory
pub record AreHeld (v : ListerState) (c : Counts) : Type 0 where
  pub held : bytes_in_lists v ≤ c.held
  pub entries : length v.entries ≤ v.rooms.entries
  pub ranges : length v.ranges ≤ v.rooms.ranges
  pub booked : IsBooked v.source v.counts
  pub kept : IsMetered v.counts.budget c.fetched v.counts.asked
  pub opened : directory_bytes v.entries ≤ c.fetched

-- its fetches and calls stay within the bounds that its numbers and the sizes of the listed streams tell
pub record AreSpent (v : ListerState) (c : Counts) : Type 0 where
  pub fetched : c.fetched ≤ fetch_bound v.limit c.s c.n c.m
  -- also with the fetch that was not made, so that no budget ends a listing that it has room for
  pub asked : v.counts.asked ≤ fetch_bound v.limit c.s c.n c.m
  pub calls : c.calls ≤ call_bound v.rooms.window c.s (sizes_in v.choice v.source.size v.entries) c.m
  pub below : v.counts.asked < 2 ^ 128 - 1
  -- no less was fetched than for the opening
  pub opened : opening_bytes v.choice v.source.size v.entries ≤ c.fetched
  -- where the file is known, the streams that are listed are the file's
  pub sizes : (file : List ℕ) → v.source.store.content ≡ Some file → sizes_in v.choice v.source.size v.entries ≡ listed_sizes file v.choice
