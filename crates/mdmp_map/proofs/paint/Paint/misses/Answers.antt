use Rattle.std.proofs.Common.{subst}
use Rattle.mdmp_map.specs.Painting.{IsAround, PaintState}
use Rattle.mdmp_map.proofs.Painted.{missed}
use Rattle.mdmp_map.proofs.paint.Paint.misses.Goals as goal

pub returns : goal.returns
returns c = missed c.args.self.now c.args.range.now c.self.inside.first c.self.inside.last c.saturating_sub.result
    (subst (λ (t : PaintState). IsAround c.self.inside.first c.self.inside.last t.start t.count) c.self.view_is c.self.invariant.1) c.saturating_sub.ensures
