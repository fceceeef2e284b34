use Rattle.std.proofs.Common.{◌≡◌, ◌-◌, ◌≤◌, drop, length}
use Rattle.json.specs.Print.{escape}
use Rattle.mdmp_wire.specs.Units.{units_in, utf8_of}
use Rattle.mdmp_print.specs.Parts.{IsPartPut}
use Rattle.mdmp_print.proofs.json_units.QuotedParts.write_part.Given as goal

abbrev pub invariant-loop-end : goal.invariant-loop-end
invariant-loop-end l = record {
  put : IsPartPut l.fn.buffer l.len (escape (utf8_of (drop l.place (units_in l.self.units)))) (escape (utf8_of (drop l.end.next (units_in l.self.units)))) 1024 l.buffer l.end.len;
  behind : l.place ≤ l.end.next;
  within : l.end.next ≤ length (units_in l.self.units);
  some : l.end.next ≡ l.place → l.end.len ≡ l.len;
}

abbrev pub decreases-loop-end : goal.decreases-loop-end
decreases-loop-end l = length (units_in l.self.units) - l.end.next
