use Rattle.std.proofs.Common.{◌∙◌, refl, sym, arith}
use Rattle.mdmp_disk.proofs.Given.{here, later, none_left}
use Rattle.mdmp_disk.proofs.memory_disk.find_given.Goals as goal

pub loop-file-init : goal.loop-file-init
loop-file-init c = refl

pub returns-then-eq : goal.returns-then-eq
returns-then-eq c =
    sym c.loop-file.invariant ∙ here c.args.files.now c.args.name.now c.loop-file.file-index _ c.loop-file-test.true (sym c.eq.ensures ∙ c.if-eq.true)

pub loop-file-preserved : goal.loop-file-preserved
loop-file-preserved c =
    sym (later c.args.files.now c.args.name.now c.loop-file.file-index _ c.loop-file-test.true (sym c.eq.ensures ∙ c.if-eq.false)) ∙ c.loop-file.invariant

pub returns : goal.returns
returns c = sym (sym (none_left c.args.files.now c.args.name.now c.loop-file.file-index (omega (arith, c.loop-file-test.false))) ∙ c.loop-file.invariant)
