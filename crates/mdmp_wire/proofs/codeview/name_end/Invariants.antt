use Rattle.std.proofs.Common.{◌≡◌, ◌≤◌, ◌-◌, ◌++◌, length, take, drop, not, ◌==◌}
use Rattle.std.specs.Prelude.{take_while}
use Rattle.std.specs.List.{list_any}
use Rattle.mdmp_wire.proofs.codeview.name_end.Given as goal

abbrev pub invariant-loop-end : goal.invariant-loop-end
invariant-loop-end l = record {
  inside : l.end ≤ length l.bytes;
  name : take_while (λ b. not (b == 0)) l.bytes ≡ take l.end l.bytes ++ take_while (λ b. not (b == 0)) (drop l.end l.bytes);
  ended : list_any (λ b. b == 0) l.bytes ≡ list_any (λ b. b == 0) (drop l.end l.bytes);
}

abbrev pub decreases-loop-end : goal.decreases-loop-end
decreases-loop-end l = length l.bytes - l.end
