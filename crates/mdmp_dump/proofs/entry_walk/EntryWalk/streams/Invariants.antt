use Rattle.std.proofs.Common.{◌≡◌, ◌≤◌, ◌+◌, length}
use Rattle.mdmp_dump.specs.Walking.{chosen_behind, chosen_of}
use Rattle.mdmp_dump.proofs.entry_walk.EntryWalk.streams.Given as goal

abbrev pub invariant-loop-number : goal.invariant-loop-number
invariant-loop-number g l =
    let v = l.self-inside.walker.list in
    record {
      all : l.streams + length (chosen_behind v.choice v.entries l.number) ≡ length (chosen_of v);
      few : l.streams ≤ l.number;
      count : l.entries ≡ length v.entries;
    }
