use Rattle.std.proofs.Common.{arith, subst}
use Rattle.mdmp_source.specs.Output.{PutsAll, PutsPrefix}
use Rattle.mdmp_source.specs.OutputLaws.{PutsPrefix-front}
use Rattle.mdmp_wire.specs.declared.header.Header.{Header}
use Rattle.mdmp_print.specs.Forms.{dump_line_in}
use Rattle.mdmp_engines.specs.Text.{run_text}
use Rattle.mdmp_engines.specs.declared.fault.ToolFault.TheVariants.{Out}
use Rattle.mdmp_engines.proofs.Asking.{requested_none}
use Rattle.mdmp_engines.proofs.Besides.{ReadsLeft-none}
use Rattle.mdmp_engines.proofs.Listings.{Leaves-behind, ListsFile-behind}
use Rattle.mdmp_engines.proofs.SameRuns.{run_none}
use Rattle.mdmp_engines.proofs.list.print_listing.Goals as goal

pub returns-in-Err-clause-lists : goal.returns-in-Err-clause-lists
returns-in-Err-clause-lists g c = λ file content left known.
    let before = g.O.Printer.state c.args.out.now in
    let after = g.O.Printer.state c.print_dump.new.out in
    let lines = run_text c.args.form c.args.pdb file c.args.lister.now.limit left in
    let cut : PutsPrefix before (dump_line_in c.args.form c.args.lister.now.header) after = subst (λ (h : Header). PutsPrefix before (dump_line_in c.args.form h) after) c.header.ensures c.in-Err.ensures in
    record { ends = tt; writes = PutsPrefix-front before after (dump_line_in c.args.form c.args.lister.now.header) lines cut }

pub returns-clause-lists : goal.returns-clause-lists
returns-clause-lists g c = λ file content left known.
    let before = g.O.Printer.state c.args.out.now in
    let now = g.O.Printer.state c.print_dump.new.out in
    let head : PutsAll before (dump_line_in c.args.form c.args.lister.now.header) now = subst (λ (h : Header). PutsAll before (dump_line_in c.args.form h) now) c.header.ensures c.in_default.ensures in
    ListsFile-behind c.args.form c.args.pdb file c.args.lister.now.limit c.args.lister.now.header left before now (g.O.Printer.state c.list_items.new.out) c.list_items.result head
    (c.list_items.ensures.lists file content left known)

pub returns-clause-leaves : goal.returns-clause-leaves
returns-clause-leaves g c =
    Leaves-behind _ _ (g.O.Printer.state c.args.out.now) (g.O.Printer.state c.print_dump.new.out) (g.O.Printer.state c.list_items.new.out) c.list_items.result _ c.in_default.ensures.steady c.list_items.ensures.leaves

pub returns-clause-lines : goal.returns-clause-lines
returns-clause-lines g c = c.list_items.ensures.lines

pub returns-in-Err-clause-lines : goal.returns-in-Err-clause-lines
returns-in-Err-clause-lines g c = record {
  same = run_none _;
  over = tt;
  aside = record { kept = c.requires.kept; over = tt };
  read = ReadsLeft-none c.args.pdb _;
  requests = requested_none c.args.lister.now Out tt;
  names = λ left known. omega arith;
}
