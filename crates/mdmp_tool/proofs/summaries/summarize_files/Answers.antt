use Rattle.std.proofs.Common.{map, refl, subst, take_all}
use Rattle.mdmp_tool.proofs.InTurn.{EndsSome, next_file}
use Rattle.mdmp_tool.proofs.summaries.summarize_files.Goals as goal

pub loop-file-init : goal.loop-file-init
loop-file-init g c = record { zero = refl; same_disk = refl; quiet = refl }

pub loop-file-preserved : goal.loop-file-preserved
loop-file-preserved g c =
    rw c.max-worst.ensures
    (next_file c.args.form c.args.limits c.args.files.now c.loop-file.file-index _ c.loop-file-test.true _ _ _ _ _ _ c.loop-file.worst c.summarize_file-status.result
    c.loop-file.invariant c.summarize_file-status.ensures)

pub returns : goal.returns
returns g c =
    subst (λ given. EndsSome c.args.form c.args.limits (map (λ file. file.now) given) (g.D.Disk.state c.args.disk.now) (g.D.Disk.state c.loop-file.disk)
    (record { out = g.O.Out.state c.args.out.now; err = g.W.Out.state c.args.err.now }) c.loop-file.worst
    (record { out = g.O.Out.state c.loop-file.out; err = g.W.Out.state c.loop-file.err })) (take_all c.loop-file.file-index c.args.files.now c.loop-file-test.false) c.loop-file.invariant
