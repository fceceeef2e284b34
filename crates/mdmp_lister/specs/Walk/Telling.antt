-- The numbers that a walk tells of itself.
use Rattle.std.specs.Prelude.{ℕ, length}
use Rattle.mdmp_lister.specs.declared.counts.Counts.{Counts}
use Rattle.mdmp_lister.specs.declared.walk.Walk.{Walk}
use Rattle.mdmp_lister.specs.Format.Bounds.{held_bound}
use Rattle.mdmp_lister.specs.Listed.{cost_of}

-- beside a map with room for so many ranges
abbrev pub numbers_of_walk : {S A : Type 0} → ℕ → Walk S A → Counts
numbers_of_walk ranges w = record {
  s = length w.entries.items;
  r = ranges;
  n = cost_of w.choice w.meter.source.size w.entries.items;
  m = w.meter.names;
  held = held_bound w.window.room w.name.limit (length w.entries.items) ranges;
  fetched = w.meter.fetched;
  calls = w.meter.calls;
  aside = w.meter.aside.bytes;
}
