use Rattle.std.proofs.Common.{◌≡◌, ◌∙◌, ◌+◌, ◌-◌, ℕ, List, ◌++◌, take, drop, ap, sym, arith}
use Rattle.std.proofs.lemmas.Grind.{flat_map-append}
use Rattle.std.proofs.lemmas.List.{drop-drop, take-append-drop}
use Rattle.mdmp_wire.specs.Escape.{escaped, escaped_unit}
use Rattle.mdmp_wire.specs.Units.{units_in}
use Rattle.mdmp_summary_lines.proofs.file_name.UnitsFromParts.write_part.Goals as goal

-- the first few of some units from a place on, and the others
split : (units : List ℕ) (at k n to : ℕ) → n ≡ k → to ≡ at + k → escaped (drop at units) ≡ escaped (take n (drop at units)) ++ escaped (drop to units)
split units at k n to same end =
    rw (same, end)
    (ap escaped (sym (take-append-drop k (drop at units)))
    ∙ flat_map-append escaped_unit (take k (drop at units)) (drop k (drop at units))
    ∙ ap (λ (x : List ℕ). escaped (take k (drop at units)) ++ escaped x) (drop-drop k at units))

pub returns-clause-put : goal.returns-clause-put
returns-clause-put c =
    let units = units_in c.args.self.now.units in
    let at = c.args.self.now.start + c.args.place in
    let k = c.min.result in
    let n = c.args.self.now.start + (c.args.place + k) - at in
    record {
      part = escaped (take n (drop at units));
      whole = split units at k n (c.args.self.now.start + (c.args.place + k)) (omega arith) (omega arith);
      put = record {
        text = c.escape_at.ensures.text;
        within = omega (arith, c.escape_at.ensures.within, c.min.ensures);
        same = c.escape_at.ensures.same;
      };
    }
