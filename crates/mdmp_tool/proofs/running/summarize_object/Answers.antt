use Rattle.std.proofs.Common.{ap, refl, rules}
use Rattle.mdmp_print.specs.Blocks.{BlockState}
use Rattle.mdmp_tool.proofs.Loans.{object_came_back}
use Rattle.mdmp_tool.specs.Commands.{IsSummarizedObject}
use Rattle.mdmp_tool.proofs.running.summarize_object.Goals as goal

pub returns : goal.returns
returns g c =
    let told = c.summary_json_source-summarized.ensures in
    IsSummarizedObject.printed (object_came_back _ c.into_inner-out.result.ghost_name (g.O.Out.state c.args.out.now) (g.O.Out.state c.into_inner-out.result.now) _ _ _
    (ap (λ (b : BlockState). b.inner) c.over-blocks.ensures) c.into_inner-out.ensures (λ same. ap g.O.Out.state (search (same, rules)))
    c.args.file.now c.args.limits c.args.source c.summary_json_source-summarized.result.answer c.summary_json_source-summarized.result.source
    (record { prints = told.prints; good = told.good; reads = told.reads; through = told.through; quiet = told.quiet; out_cause = told.out_cause }))
