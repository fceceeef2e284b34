use Rattle.std.proofs.Common.{refl}
use Rattle.mdmp_engines.proofs.Symbols.{refused_by}
use Rattle.mdmp_engines.proofs.NamesRead.{name_unread, printed_named, unnamed}
use Rattle.mdmp_engines.specs.SummaryRuns.{IsPrintedOrUnread}
use Rattle.mdmp_engines.proofs.summary.print_told.Goals as goal

pub returns-in_err-names-clause-told : goal.returns-in_err-names-clause-told
returns-in_err-names-clause-told g c = λ bytes known.
    let fault = c.in_err-names.field-0.0 in
    let is = refused_by c.from_residual.result fault c.from_residual.ensures.1 in
    rw is (IsPrintedOrUnread.unread fault (name_unread c.args.walker.now.list.source c.read_names.new.walker.list.source fault c.in_err-names.ensures.fault) refl refl)

pub returns-clause-told : goal.returns-clause-told
returns-clause-told g c = λ bytes known.
    let printed = c.print_named.ensures in
    printed_named c.args.file.now bytes c.args.limit c.args.summary.now _ (g.O.Printer.state c.args.out.now) c.print_named.result (g.O.Printer.state c.print_named.new.out)
    (c.in_ok-names.ensures.names bytes known) printed.answer printed.text

pub returns-in_err-names-clause-fetches : goal.returns-in_err-names-clause-fetches
returns-in_err-names-clause-fetches g c =
    let fault = c.in_err-names.field-0.0 in
    let is = refused_by c.from_residual.result fault c.from_residual.ensures.1 in
    rw is (record {
      most = c.in_err-names.ensures.reads.fetches;
      all = λ named file known. absurd (unnamed _ _ fault c.in_err-names.ensures.fault named);
    })

pub returns-clause-fetches : goal.returns-clause-fetches
returns-clause-fetches g c =
    let reads = c.in_ok-names.ensures.reads in
    record { most = reads.most.fetches; all = λ named file known. (reads.all file known).fetches }
