use Rattle.std.proofs.Common.{refl, rules, ◌≡◌, ◌≤◌, ◌<◌, ◌+◌, ◌∙◌, ℕ, true, ap, arith, sym}
use Rattle.mdmp_map.specs.Painting.{PaintState, is_held_at, is_marked, is_painted}
use Rattle.std.proofs.lemmas.Bool.{false≢true}
use Rattle.mdmp_map.proofs.Painted.{bounds_held, free_first, held_bounds, painted_is, painted_to, painted_whole, paints_by}
use Rattle.mdmp_map.proofs.paint.Paint.paint.Goals as goal

pub returns-then-first-high-clause-run : goal.returns-then-first-high-clause-run
returns-then-first-high-clause-run c = λ place at within held.
    let bounds = held_bounds c.args.self.now c.args.range.now c.args.from c.place_of.result c.max-low.result c.place_of-high.result c.min.result place
    (λ k lt. omega (arith, c.place_of.ensures.below k lt, c.from.ensures)) c.place_of-high.ensures.behind c.max-low.ensures (omega (arith, c.min.ensures, c.end.ensures)) at within held in
    painted_is c.args.self.now c.self.inside.start c.self.inside.count c.self.inside.next c.self.view_is place within
    ∙ c.free_from-first.ensures.passed place bounds.0 (omega (arith, bounds.1, c.if-first-high.true))

pub returns-clause-run : goal.returns-clause-run
returns-clause-run c =
    let s : PaintState = c.args.self.now in
    let painted : (place : ℕ) → place < s.count → is_painted s place ≡ is_marked c.self.inside.next place =
    painted_is s c.self.inside.start c.self.inside.count c.self.inside.next c.self.view_is in
    let bounds : (place : ℕ) → c.args.from ≤ place → place < s.count → is_held_at s c.args.range.now place ≡ true → (c.max-low.result ≤ place) × (place < c.place_of-high.result) =
    λ place at within held. held_bounds s c.args.range.now c.args.from c.place_of.result c.max-low.result c.place_of-high.result c.min.result place
    (λ k lt. omega (arith, c.place_of.ensures.below k lt, c.from.ensures)) c.place_of-high.ensures.behind c.max-low.ensures (omega (arith, c.min.ensures, c.end.ensures)) at within held in
    let within : c.free_end-end.result ≤ s.count = omega (arith, c.free_end-end.ensures.within, c.place_of-high.ensures.count) in
    let begun : (place : ℕ) → c.free_from-first.result ≤ place → place < s.count → c.args.range.now.start ≤ s.start + place =
    λ place at lt. omega (arith, c.place_of.ensures.behind place (omega (arith, at, c.free_from-first.ensures.order, c.max-low.ensures)) lt, c.from.ensures) in
    let same_start : c.self.inside.start ≡ s.start = ap (λ (t : PaintState). t.start) c.self.view_is in
    record {
      order = omega (arith, c.free_from-first.ensures.order, c.max-low.ensures);
      some = c.free_end-end.ensures.some;
      within = within;
      passed = λ place at lt held.
          let inside : place < s.count = omega (arith, lt, within, c.free_end-end.ensures.some) in
          painted place inside ∙ c.free_from-first.ensures.passed place (bounds place at inside held).0 lt;
      held = λ place at lt. bounds_held s c.args.range.now place c.min.result (begun place at (omega (arith, lt, within)))
          (c.place_of-high.ensures.below place (omega (arith, lt, c.free_end-end.ensures.within))) (omega (arith, c.min.ensures, c.end.ensures));
      free = λ place at lt. painted place (omega (arith, lt, within)) ∙ sym (c.free_from-first.ensures.same place) ∙ c.free_end-end.ensures.free place at lt;
      whole = λ lt held.
          painted c.free_end-end.result lt ∙ sym (c.free_from-first.ensures.same c.free_end-end.result)
          ∙ c.free_end-end.ensures.whole (bounds c.free_end-end.result (omega (arith, c.free_from-first.ensures.order, c.max-low.ensures, c.free_end-end.ensures.some)) lt held).1;
      offset =
          let ahead = begun c.free_from-first.result (omega arith) (omega (arith, within, c.free_end-end.ensures.some)) in
          omega (arith, ahead, same_start);
    }

pub returns-clause-painted : goal.returns-clause-painted
returns-clause-painted c =
    let counted : c.self.inside.count ≡ c.args.self.now.count = ap (λ (t : PaintState). t.count) c.self.view_is in
    paints_by c.args.self.now c.self.inside.start c.self.inside.count c.free_from-first.result c.free_end-end.result c.self.inside.next c.free_from-first.new.next c.mark.new.next c.self.view_is
    (omega (arith, c.free_end-end.ensures.within, c.place_of-high.ensures.count, counted)) c.free_from-first.ensures.same c.mark.ensures.marked c.mark.ensures.below c.mark.ensures.behind

pub returns-clause-first : goal.returns-clause-first
returns-clause-first c = λ seen painted. free_first c.args.from seen c.args.range.now c.args.self.now _ painted (returns-clause-run c)

pub returns-clause-goes_on : goal.returns-clause-goes_on
returns-clause-goes_on c = λ seen painted.
    painted_to c.args.from seen c.args.range.now c.args.self.now _ _ (ap (λ (t : PaintState). t.start) c.self.view_is) (ap (λ (t : PaintState). t.count) c.self.view_is) (returns-clause-run c) (returns-clause-painted c) painted

pub returns-then-first-high-clause-goes_on : goal.returns-then-first-high-clause-goes_on
returns-then-first-high-clause-goes_on c = λ seen painted.
    painted_whole c.args.from seen c.args.range.now c.args.self.now _ (ap (λ (t : PaintState). t.start) c.self.view_is) (ap (λ (t : PaintState). t.count) c.self.view_is) (search rules)
    (returns-then-first-high-clause-run c) painted

pub returns-then-low-high-clause-run : goal.returns-then-low-high-clause-run
returns-then-low-high-clause-run c = λ place at within held.
    let bounds = held_bounds c.args.self.now c.args.range.now c.args.from c.place_of.result c.max-low.result c.place_of-high.result c.min.result place
    (λ k lt. omega (arith, c.place_of.ensures.below k lt, c.from.ensures)) c.place_of-high.ensures.behind c.max-low.ensures (omega (arith, c.min.ensures, c.end.ensures)) at within held in
    absurd (omega (arith, bounds.0, bounds.1, c.if-low-high.true))

pub returns-then-low-high-clause-goes_on : goal.returns-then-low-high-clause-goes_on
returns-then-low-high-clause-goes_on c = λ seen painted.
    painted_whole c.args.from seen c.args.range.now c.args.self.now c.args.self.now refl refl refl (returns-then-low-high-clause-run c) painted

pub returns-then-misses-clause-goes_on : goal.returns-then-misses-clause-goes_on
returns-then-misses-clause-goes_on c = λ seen painted.
    painted_whole c.args.from seen c.args.range.now c.args.self.now c.args.self.now refl refl refl
    (λ place at within held. absurd (false≢true (sym (c.misses.ensures c.if-misses.true place within) ∙ held))) painted
