use Rattle.std.proofs.Common.{◌≡◌, ◌≤◌, ◌+◌, ◌*◌, ◌^◌, drop}
use Rattle.mdmp_lister.specs.Listed.{cost_of}
use Rattle.mdmp_lister.proofs.counts.listed_bytes.Given as goal

-- the bytes of the first entries were counted
abbrev pub invariant-loop-entry : goal.invariant-loop-entry
invariant-loop-entry l = record {
  counted : l.total + cost_of l.choice l.size (drop l.entry-index l.entries) ≡ cost_of l.choice l.size l.entries;
  bound : l.total ≤ 2 ^ 32 * l.entry-index;
}
