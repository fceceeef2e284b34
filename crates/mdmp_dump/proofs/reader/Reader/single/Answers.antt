use Rattle.std.proofs.Common.{[], arith, refl, ◌∙◌}
use Rattle.mdmp_dump.proofs.Keeping.{keeps_err, keeps_then}
use Rattle.mdmp_dump.proofs.Settled.{behind-given, going_before, no-row-after-one, one-read}
use Rattle.mdmp_dump.proofs.Taking.{Fetches_as, Fetches_only, fetches_err, fetches_ok, refused_by}
use Rattle.mdmp_dump.proofs.ItemsRead.{reads_as, reads_done, reads_then, steps_sized}
use Rattle.mdmp_dump.proofs.reader.Reader.single.Goals as goal

pub returns-in_err-behind-in-Row-clause-of_file : goal.returns-in_err-behind-in-Row-clause-of_file
returns-in_err-behind-in-Row-clause-of_file g c = λ file limit x xs known left kind current one.
    let fault = c.in_err-behind-in-Row.field-0.0 in
    let is = refused_by c.from_residual-in_err-behind-in-Row.result fault c.from_residual-in_err-behind-in-Row.ensures.1 in
    let given = rw c.in-Row.is at (c.in_ok-row.ensures.of_file file limit x 0 xs known left kind current) in
    let first = no-row-after-one file limit x xs g.T.Row.kind (g.T.Row.IsAt file x.entry.location.rva) kind one c.in-Row.row given.0.0 in
    let behind = c.in_err-behind-in-Row.ensures.gives file _ (c.in_ok-row.ensures.fetches.fetches.fetches.same_content ∙ known) given.0.1 first in
    rw is (record { value = tt; settles = λ own. given.1 ∙ behind.1 own })

pub returns-in_ok-behind-in-Row-clause-of_file : goal.returns-in_ok-behind-in-Row-clause-of_file
returns-in_ok-behind-in-Row-clause-of_file g c = λ file limit x xs known left kind current one.
    let given = rw c.in-Row.is at (c.in_ok-row.ensures.of_file file limit x 0 xs known left kind current) in
    let first = no-row-after-one file limit x xs g.T.Row.kind (g.T.Row.IsAt file x.entry.location.rva) kind one c.in-Row.row given.0.0 in
    let behind = c.in_ok-behind-in-Row.ensures.gives file _ (c.in_ok-row.ensures.fetches.fetches.fetches.same_content ∙ known) given.0.1 first in
    let all = behind-given file limit x 1 xs c.in_ok-behind-in-Row.field-0 c.behind.new.self.lister.left behind.0 in
    record {
      value = ((c.in-Row.row, (refl, one-read file limit x xs g.T.Row.kind (g.T.Row.IsAt file x.entry.location.rva) kind one c.in-Row.row given.0.0 all.0)), all.1);
      settles = given.1 ∙ behind.1;
    }

pub returns-in_err-row-clause-of_file : goal.returns-in_err-row-clause-of_file
returns-in_err-row-clause-of_file g c =
    let fault = c.in_err-row.field-0.0 in
    let is = refused_by c.from_residual.result fault c.from_residual.ensures.1 in
    rw is (λ file limit x xs known left kind current one. record { value = tt; settles = λ own. (c.in_err-row.ensures.of_file file limit x 0 xs known left kind current).1 own })

pub returns-in_err-row-clause-step : goal.returns-in_err-row-clause-step
returns-in_err-row-clause-step g c =
    let fault = c.in_err-row.field-0.0 in
    rw (refused_by c.from_residual.result fault c.from_residual.ensures.1) (record {
      fetches = Fetches_as fault c.args.self.now.lister.source c.next.new.self.lister.source c.in_err-row.ensures.fetches;
      keeps = c.in_err-row.ensures.keeps;
      reads = reads_as [] fault _ _ c.in_err-row.ensures.reads;
      going = tt;
    })

pub returns-in_err-behind-in-Row-clause-step : goal.returns-in_err-behind-in-Row-clause-step
returns-in_err-behind-in-Row-clause-step g c =
    let fault = c.in_err-behind-in-Row.field-0.0 in
    let first = rw c.in-Row.is at c.in_ok-row.ensures.reads in
    let going = rw c.in-Row.is at c.in_ok-row.ensures.going in
    rw (refused_by c.from_residual-in_err-behind-in-Row.result fault c.from_residual-in_err-behind-in-Row.ensures.1) (record {
      fetches = fetches_err c.args.self.now.lister.source c.next.new.self.lister.source c.behind.new.self.lister.source c.in_ok-row.ensures.fetches.fetches fault c.in_err-behind-in-Row.ensures.fetches;
      keeps = keeps_err c.args.self.now c.next.new.self c.behind.new.self c.in_ok-row.ensures.keeps fault c.in_err-behind-in-Row.ensures.keeps;
      reads = reads_as [] fault _ _ (reads_then [] [] [] _ _ _ c.next.new.self.lister _ going.0.0 first c.in_err-behind-in-Row.ensures.reads);
      going = tt;
    })

pub returns-in_ok-behind-in-Row-clause-step : goal.returns-in_ok-behind-in-Row-clause-step
returns-in_ok-behind-in-Row-clause-step g c =
    let first = rw c.in-Row.is at c.in_ok-row.ensures.reads in
    let going = rw c.in-Row.is at c.in_ok-row.ensures.going in
    let all = reads_then [] [] _ _ _ _ c.next.new.self.lister _ going.0.0 first c.in_ok-behind-in-Row.ensures.reads in
    record {
      fetches = fetches_ok c.args.self.now.lister.source c.next.new.self.lister.source c.behind.new.self.lister.source c.in_ok-row.ensures.fetches.fetches _ c.in_ok-behind-in-Row.ensures.fetches.fetches;
      keeps = keeps_then c.args.self.now c.next.new.self c.behind.new.self c.in_ok-row.ensures.keeps c.in_ok-behind-in-Row.ensures.keeps;
      reads = reads_done [] _ _ _ _ _ (steps_sized [] _ c.in_ok-behind-in-Row.field-0 _ _ _ _ c.in_ok-row.ensures.fetches.fetches.fetches.same_size all);
      going = going_before c.args.self.now.lister c.next.new.self.lister c.in_ok-behind-in-Row.field-0 c.behind.new.self.lister (omega (arith, going.0.1)) c.in_ok-row.ensures.keeps.left c.in_ok-behind-in-Row.ensures.going;
    }

pub returns-in-Behind-clause-step : goal.returns-in-Behind-clause-step
returns-in-Behind-clause-step g c = record {
  fetches = Fetches_only _ c.args.self.now.lister.source c.next.new.self.lister.source c.in_ok-row.ensures.fetches.fetches;
  keeps = c.in_ok-row.ensures.keeps;
  reads = reads_done [] _ _ _ _ _ (rw c.in-Behind.is at c.in_ok-row.ensures.reads);
  going = rw c.in-Behind.is at c.in_ok-row.ensures.going;
}
