use Rattle.mdmp_tool.proofs.SourceEnds.{file_ends}
use Rattle.mdmp_tool.proofs.printing.print_named.Goals as goal

pub returns : goal.returns
returns g c =
    file_ends _ _ _ _ _ _ _ c.new.ensures.store c.new.ensures.counts c.args.file.now c.in-Ok.ensures.state c.in-Ok.ensures.opened c.print_source.ensures
