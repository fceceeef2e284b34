use Rattle.std.proofs.Common.{◌∙◌, ap}
use Rattle.clap.specs.Simple.{app_of_fields}
use Rattle.clap.specs.declared.builder.command.Command.TheViews.{out-Command}
use Rattle.mdmp_words.proofs.command_line.described.Goals as goal

pub returns : goal.returns
returns c = record {
  app_is = ap app_of_fields c.after_help.ensures ∙ ap app_of_fields c.about.ensures ∙ c.new.ensures.app;
  local = ap (λ f. f.has_globals) {x = out-Command c.after_help.result} c.after_help.ensures ∙ ap (λ f. f.has_globals) {x = out-Command c.about.result} c.about.ensures ∙ c.new.ensures.local;
}
