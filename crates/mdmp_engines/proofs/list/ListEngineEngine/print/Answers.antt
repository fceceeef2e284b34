use Rattle.std.proofs.Common.{subst}
use Rattle.mdmp_wire.specs.declared.header.Header.{Header}
use Rattle.mdmp_lister.specs.declared.choice.Choice.TheVariants.{All}
use Rattle.mdmp_lister.specs.Format.Listing.{listing}
use Rattle.mdmp_engines.proofs.Besides.{KeepsBeside-list}
use Rattle.mdmp_engines.proofs.Reached.{KeepsNames-list}
use Rattle.mdmp_engines.specs.Runs.{ListsFile}
use Rattle.mdmp_engines.proofs.list.ListEngineEngine.print.Goals as goal

pub returns-clause-ends : goal.returns-clause-ends
returns-clause-ends g c = λ file known.
    (c.print_listing.ensures.lists file known (listing file All c.args.lister.now.limit) (c.requires.opened.left file known)).ends

pub returns-clause-writes : goal.returns-clause-writes
returns-clause-writes g c = λ file known.
    let opened = c.requires.opened in
    let form = c.args.self.now.form in
    let pdb = c.args.self.now.pdb in
    let limit = c.args.lister.now.limit in
    let run = listing file All limit in
    let before = g.O.Printer.state c.args.out.now in
    let after = g.O.Printer.state c.print_listing.new.out in
    let lists = c.print_listing.ensures.lists file known run (opened.left file known) in
    (subst (λ (h : Header). ListsFile form pdb file limit h run before c.print_listing.result after) (opened.header_is file known) lists).writes

pub returns-clause-same : goal.returns-clause-same
returns-clause-same g c = c.print_listing.ensures.lines.same

pub returns-clause-over : goal.returns-clause-over
returns-clause-over g c = c.print_listing.ensures.lines.over

pub returns-clause-aside : goal.returns-clause-aside
returns-clause-aside g c = c.print_listing.ensures.lines.aside

pub returns-clause-read : goal.returns-clause-read
returns-clause-read g c =
    let of = c.print_listing.ensures.lines in
    let content = c.print_listing.ensures.leaves.reads.fetches.fetches.same_content in
    record {
      keeps = record {
        beside = KeepsBeside-list c.args.self.now.pdb _ _ c.requires.opened of.same content of.read;
        names = KeepsNames-list _ _ c.requires.opened of.same content of.names;
      };
      requests = of.requests;
    }
