use Rattle.std.proofs.Common.{map, take}
use Rattle.mdmp_tool.proofs.InTurn.{EndsSome}
use Rattle.mdmp_tool.proofs.summaries.summarize_files.Given as goal

-- the files so far were summarized
abbrev pub invariant-loop-file : goal.invariant-loop-file
invariant-loop-file g l =
    EndsSome l.fn.form l.fn.limits (map (λ file. file.now) (take l.file-index l.fn.files)) (g.D.Disk.state l.fn.disk) (g.D.Disk.state l.disk)
    (record { out = g.O.Out.state l.fn.out; err = g.W.Out.state l.fn.err }) l.worst (record { out = g.O.Out.state l.out; err = g.W.Out.state l.err })
