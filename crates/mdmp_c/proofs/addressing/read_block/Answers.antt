use Rattle.std.proofs.Common.{◌≡◌, ◌<◌, ◌∙◌, ◌∷◌, ◌++◌, [], ℕ, Some, ap, arith, length, refl, rules, subst, sym, take, true}
use Rattle.std.proofs.lemmas.List.{take_all}
use Rattle.mdmp_map.specs.Painting.{PaintState, is_painted}
use Rattle.mdmp_lister.specs.Painting.{AreCells, ArePainted}
use Rattle.mdmp_lister.proofs.Painted.{cells_read}
use Rattle.mdmp_c.specs.Memory.{kept_ranges}
use Rattle.mdmp_c.proofs.Kept.{kept_full, kept_passed, kept_shown}
use Rattle.mdmp_c.proofs.addressing.read_block.Goals as goal
use Rattle.mdmp_c.proofs.addressing.read_block.Goals.{in-Some, in_default}

pub returns-then-is_full : goal.returns-then-is_full
returns-then-is_full c =
    let before = c.loop-row.invariant in
    let content = Some c.args.file.now in
    let z : ℕ = length c.args.file.now in
    let same : length c.loop-row.known ≡ length c.loop-row.out = omega (arith, c.loop-row.auto.out, c.loop-row.auto.known, c.requires.same) in
    let full : (place : ℕ) → place < c.loop-row.paint.count → is_painted c.loop-row.paint place ≡ true = c.is_full.ensures.full.0 (search rules) in
    cells_read content (kept_ranges z c.args.rows.now) c.args.address c.loop-row.out c.loop-row.known same
    (subst (λ a. AreCells content (kept_ranges z c.args.rows.now) a c.loop-row.out c.loop-row.known) before.start
    (kept_full content z c.args.rows.now c.loop-row.row-index c.loop-row.paint c.loop-row.out c.loop-row.known same before.painted full
    (subst (λ a. AreCells content (kept_ranges z (take c.loop-row.row-index c.args.rows.now)) a c.loop-row.out c.loop-row.known) (sym before.start) before.cells)))

pub loop-row-preserved : goal.loop-row-preserved
loop-row-preserved c =
    let before = c.loop-row.invariant in
    let content = Some c.args.file.now in
    let z : ℕ = length c.args.file.now in
    let seen = kept_ranges z (take c.loop-row.row-index c.args.rows.now) in
    let start : c.is_full.new.self.start ≡ c.args.address = ap (λ (s : PaintState). s.start) c.is_full.ensures.same ∙ before.start in
    elim c.match-kept_range.branch [
      | in-Some w ↦
          let out = w.read_range.new.out in
          let known = w.read_range.new.known in
          let are = w.read_range.ensures.cells seen (subst (λ a. AreCells content seen a c.loop-row.out c.loop-row.known) (sym start) before.cells) in
          rw (w.paint-is, w.out-is, w.known-is) (record {
            painted = w.read_range.ensures.painted;
            start = w.read_range.ensures.start ∙ start;
            cells =
                subst (λ rs. AreCells content rs c.args.address out known)
                (sym (kept_shown z c.args.rows.now c.loop-row.row-index _ _ c.loop-row-test.true refl w.in-Some.range (sym w.in-Some.ensures)))
                (subst (λ a. AreCells content (seen ++ w.in-Some.range ∷ []) a out known) start are);
          })
      | in_default w ↦
          rw (w.paint-is, w.out-is, w.known-is) (record {
            painted = subst (λ s. ArePainted s c.loop-row.known) (sym c.is_full.ensures.same) before.painted;
            start = start;
            cells =
                subst (λ rs. AreCells content rs c.args.address c.loop-row.out c.loop-row.known)
                (sym (kept_passed z c.args.rows.now c.loop-row.row-index _ _ c.loop-row-test.true refl (sym w.in_default.ensures))) before.cells;
          })
    ]

pub returns : goal.returns
returns c =
    let before = c.loop-row.invariant in
    let content = Some c.args.file.now in
    let z : ℕ = length c.args.file.now in
    let same : length c.loop-row.known ≡ length c.loop-row.out = omega (arith, c.loop-row.auto.out, c.loop-row.auto.known, c.requires.same) in
    cells_read content (kept_ranges z c.args.rows.now) c.args.address c.loop-row.out c.loop-row.known same
    (subst (λ rows. AreCells content (kept_ranges z rows) c.args.address c.loop-row.out c.loop-row.known) (take_all c.loop-row.row-index c.args.rows.now c.loop-row-test.false) before.cells)
