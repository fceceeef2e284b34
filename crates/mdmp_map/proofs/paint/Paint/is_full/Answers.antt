use Rattle.std.proofs.Common.{◌≡◌, ◌≤◌, ◌<◌, ◌∙◌, ap, arith, inl, inr, leb-true, sym}
use Rattle.std.proofs.lemmas.Bool.{cases_lt, le-leb}
use Rattle.mdmp_map.specs.Painting.{PaintState}
use Rattle.mdmp_map.proofs.Painted.{painted_is}
use Rattle.mdmp_map.proofs.paint.Paint.is_full.Goals as goal

pub returns-clause-full : goal.returns-clause-full
returns-clause-full c =
    let counted : c.self.inside.count ≡ c.args.self.now.count = ap (λ (t : PaintState). t.count) c.self.view_is in
    let marked = painted_is c.args.self.now c.self.inside.start c.self.inside.count c.self.inside.next c.self.view_is in (
      λ full place within.
          let past : c.self.inside.count ≤ c.free_from.result = leb-true c.self.inside.count c.free_from.result full in
          marked place within ∙ c.free_from.ensures.passed place (omega arith) (omega (arith, within, past, counted)),
      λ full. elim (cases_lt c.free_from.result c.self.inside.count) [
        | inl within ↦ absurd (let here = full c.free_from.result (omega (arith, within, counted)) in
            let mark = marked c.free_from.result (omega (arith, within, counted)) in
            let same = c.free_from.ensures.same c.free_from.result in
            let free = c.free_from.ensures.free in cc)
        | inr past ↦ le-leb c.self.inside.count c.free_from.result past
      ],
    )
