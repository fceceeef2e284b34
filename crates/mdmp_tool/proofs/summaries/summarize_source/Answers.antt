use Rattle.std.proofs.Common.{◌∙◌}
use Rattle.mdmp_tool.specs.Words.{printed_source}
use Rattle.mdmp_tool.proofs.summaries.summarize_source.Goals as goal

pub returns : goal.returns
returns g c =
    let told = c.deref-2.ensures.value ∙ c.in-Ok.ensures in
    printed_source _ (rw (c.printed_name-printed.ensures, told) at c.summarize_named.ensures)
