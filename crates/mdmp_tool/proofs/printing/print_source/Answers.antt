use Rattle.std.proofs.Common.{ap, rules}
use Rattle.mdmp_print.specs.Blocks.{BlockState}
use Rattle.mdmp_tool.proofs.Loans.{printed_lent}
use Rattle.mdmp_tool.specs.Words.{printed_source}
use Rattle.mdmp_tool.proofs.printing.print_source.Goals as goal

pub returns : goal.returns
returns g c =
    printed_source _ (printed_lent _ c.into_inner-out.result.ghost_name (g.O.Out.state c.args.out.now) (g.O.Out.state c.into_inner-out.result.now) _ _ _
    (ap (λ (b : BlockState). b.inner) c.over-blocks.ensures) c.into_inner-out.ensures (λ same. ap g.O.Out.state (search (same, rules)))
    _ _ (g.E.Engine.Ends c.args.engine) (g.E.Engine.text c.args.engine) _ _ _ _ _ c.print_and_report-status.ensures)
