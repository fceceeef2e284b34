use Rattle.std.proofs.Common.{◌≡◌, ◌∙◌, ◌+◌, ◌-◌, ℕ, List, ◌++◌, take, drop, ap, sym, arith}
use Rattle.std.proofs.lemmas.Grind.{flat_map-append}
use Rattle.std.proofs.lemmas.List.{drop-drop, take-append-drop}
use Rattle.mdmp_wire.specs.Escape.{escaped, escaped_unit}
use Rattle.mdmp_wire.specs.Units.{units_in}
use Rattle.mdmp_print.proofs.name.EscapedParts.write_part.Goals as goal

-- the first few of some units, and the others
split : (units : List ℕ) (k n : ℕ) → n ≡ k → escaped units ≡ escaped (take n units) ++ escaped (drop k units)
split units k n same = rw same (ap escaped (sym (take-append-drop k units)) ∙ flat_map-append escaped_unit (take k units) (drop k units))

pub returns-clause-put : goal.returns-clause-put
returns-clause-put c =
    let units = units_in c.args.self.now.units in
    let k = c.min.result in
    let n = c.args.place + k - c.args.place in
    record {
      part = escaped (take n (drop c.args.place units));
      whole =
          split (drop c.args.place units) k n (omega arith)
          ∙ ap (λ (x : List ℕ). escaped (take n (drop c.args.place units)) ++ escaped x) (drop-drop k c.args.place units);
      put = record {
        text = c.escape_at.ensures.text;
        within = omega (arith, c.escape_at.ensures.within, c.min.ensures);
        same = c.escape_at.ensures.same;
      };
    }
