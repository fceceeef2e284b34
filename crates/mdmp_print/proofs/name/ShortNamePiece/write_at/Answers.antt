use Rattle.std.proofs.Common.{◌≡◌, ◌∙◌, ◌-◌, ◌++◌, ℕ, List, ap, arith, length, take, drop, refl}
use Rattle.std.proofs.lemmas.Grind.{common_steps}
use Rattle.std.proofs.lemmas.List.{take_all}
use Rattle.mdmp_wire.specs.Escape.{escaped}
use Rattle.mdmp_wire.specs.Units.{units_in}
use Rattle.mdmp_print.specs.Buffer.{IsPutBehind}
use Rattle.mdmp_print.proofs.BufferLemmas.{IsPutBehind-as, IsPutBehind-then}
use Rattle.mdmp_print.proofs.name.ShortNamePiece.write_at.Goals as goal

-- all units of a name
all_units : (units : List ℕ) (k : ℕ) → k ≡ length units → escaped (take (k - 0) (drop 0 units)) ≡ escaped units
all_units units k all =
    let whole : take (k - 0) (drop 0 units) ≡ units = grind (arith, common_steps, take_all) in
    ap escaped whole

pub returns : goal.returns
returns c =
    let units = units_in c.args.self.now.units in
    let middle : IsPutBehind c.write_at-at.new.buffer c.write_at-at.result (escaped units) 960 c.escape_at-at.new.text c.escape_at-at.result = record {
      text =
          c.escape_at-at.ensures.text
          ∙ ap (λ (x : List ℕ). take c.write_at-at.result c.write_at-at.new.buffer ++ x) (all_units units _ c.len.ensures);
      within = omega (arith, c.escape_at-at.ensures.within, c.len.ensures, c.args.self.now.few);
      same = c.escape_at-at.ensures.same;
    } in
    IsPutBehind-as refl (omega arith) (IsPutBehind-then c.write_at-at.ensures (IsPutBehind-then middle c.write_at.ensures))
