use Rattle.std.proofs.Common.{◌≡◌, ◌∙◌, ◌+◌, ◌++◌, ℕ, List, Some, ap, subst, sym, append_assoc}
use Rattle.mdmp_lister.specs.Sink.{names_of_all}
use Rattle.mdmp_source.specs.Output.{OutState}
use Rattle.mdmp_wire.specs.declared.header.Header.{Header}
use Rattle.mdmp_print.specs.Forms.{dump_line_in}
use Rattle.mdmp_engines.specs.Text.{run_text}
use Rattle.mdmp_c.specs.Limits.{most_read}
use Rattle.mdmp_c.specs.TextPart.{EndsTextAt, IsPartOf, PutsRun}
use Rattle.mdmp_c.proofs.Listed.{lines_taken}
use Rattle.mdmp_engines.specs.declared.fault.ToolFault.TheVariants.{Memory, Out}
use Rattle.mdmp_engines.proofs.Asking.{requested_none}
use Rattle.mdmp_c.proofs.list_part.gather_list.Goals as goal

pub returns : goal.returns
returns g c = record {
  requests = c.gather_items.ensures.requests;
  aside = c.gather_items.ensures.aside;
  taken = c.gather_items.ensures.taken;
  puts = λ file good run known skip room before part.
      let line = c.deref.result.now in
      let first = dump_line_in c.args.form c.args.lister.now.header in
      let items = run_text c.args.form c.args.pdb file c.args.lister.now.limit run in
      let is : line ≡ first =
      lines_taken _ _ line c.new.result.items (dump_line_in c.args.form c.header.result) (ap (λ (o : OutState). o.taken) c.new-line.ensures) c.new.ensures.items c.in_default.ensures
      (sym c.into_inner-line.ensures ∙ ap Some (sym c.deref.ensures.value)) ∙ ap (λ (h : Header). dump_line_in c.args.form h) c.header.ensures in
      let all : (before ++ line) ++ items ≡ before ++ (first ++ items) = append_assoc before line items ∙ ap (λ xs. before ++ (xs ++ items)) is in
      let end = λ (text : List ℕ). PutsRun (λ part. IsPartOf skip room part c.gather_items.new.part.skip c.gather_items.new.part.room c.gather_items.new.part.size c.gather_items.new.part.kept.items)
      (EndsTextAt c.args.lister.now (most_read file c.args.lister.now.choice c.args.lister.now.limit (c.args.lister.now.counts.names + names_of_all run.items)) c.args.aside c.args.pdb run) text run c.gather_items.result in
      subst end all (c.gather_items.ensures.puts file good run known skip room (before ++ line) (c.in_default-take.ensures skip room before part));
}

pub returns-in-Err : goal.returns-in-Err
returns-in-Err g c = record { requests = requested_none c.args.lister.now Out tt; aside = c.requires.kept; taken = λ file known left is. tt; puts = λ file good left is skip room given part. tt }

pub returns-in-Err-take : goal.returns-in-Err-take
returns-in-Err-take g c = record { requests = requested_none c.args.lister.now Memory tt; aside = c.requires.kept; taken = λ file known left is. tt; puts = λ file good left is skip room given part. tt }
