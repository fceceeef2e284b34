use Rattle.std.proofs.Common.{[], length, sym, ◌∙◌, ◌≡◌}
use Rattle.mdmp_dump.proofs.Keeping.{keeps_then}
use Rattle.mdmp_dump.proofs.Settled.{parts-read, parts_untaken, row-read, row-refused}
use Rattle.mdmp_dump.proofs.Taking.{Fetches_as, fetches_err, fetches_ok, refused_by}
use Rattle.mdmp_dump.proofs.ItemsRead.{reads_as, reads_done, reads_record}
use Rattle.mdmp_dump.proofs.reader.Reader.next.Goals as goal

pub returns-in_err-parts-in-Record-clause-fetches : goal.returns-in_err-parts-in-Record-clause-fetches
returns-in_err-parts-in-Record-clause-fetches g c =
    let fault = c.in_err-parts-in-Record.field-0.0 in
    let is = refused_by c.from_residual-in_err-parts-in-Record.result fault c.from_residual-in_err-parts-in-Record.ensures.1 in
    rw is (fetches_err c.args.self.now.lister.source c.find.new.self.lister.source c.parts.new.self.lister.source c.in_ok-read.ensures.fetches.fetches fault c.in_err-parts-in-Record.ensures.takes.fetches)

pub returns-in_err-parts-in-Record-clause-keeps : goal.returns-in_err-parts-in-Record-clause-keeps
returns-in_err-parts-in-Record-clause-keeps g c =
    let fault = c.in_err-parts-in-Record.field-0.0 in
    let is = refused_by c.from_residual-in_err-parts-in-Record.result fault c.from_residual-in_err-parts-in-Record.ensures.1 in
    let first = rw c.in-Record.is at c.in_ok-read.ensures.first in
    rw is (parts_untaken c.args.self.now c.find.new.self c.parts.new.self c.in_ok-read.ensures.keeps c.in-Record.read first fault c.in_err-parts-in-Record.ensures.takes.keeps)

pub returns-in_err-parts-in-Record-clause-of_file : goal.returns-in_err-parts-in-Record-clause-of_file
returns-in_err-parts-in-Record-clause-of_file g c = λ file limit x k xs known left kind current.
    let fault = c.in_err-parts-in-Record.field-0.0 in
    let is = refused_by c.from_residual-in_err-parts-in-Record.result fault c.from_residual-in_err-parts-in-Record.ensures.1 in
    let found = rw c.in-Record.is at (c.in_ok-read.ensures.of_file file limit x k xs g.T.Row.kind known left kind current) in
    let sized : c.find.new.self.lister.source.size ≡ length file = c.in_ok-read.ensures.fetches.fetches.fetches.same_size ∙ sym c.size-size.ensures.value ∙ (rw known at c.size-size.ensures.content) in
    rw is (tt, row-refused file limit x k xs g.T.Row.kind g.T.Row.IsAt _ c.find.new.self c.in-Record.read c.in-Record.name found.0 found.1 sized c.parts.new.self fault c.in_err-parts-in-Record.ensures.takes)

pub returns-in_err-read-clause-fetches : goal.returns-in_err-read-clause-fetches
returns-in_err-read-clause-fetches g c =
    let fault = c.in_err-read.field-0.0 in
    let is = refused_by c.from_residual.result fault c.from_residual.ensures.1 in
    rw is (Fetches_as fault c.args.self.now.lister.source c.find.new.self.lister.source c.in_err-read.ensures.fetches)

pub returns-in_err-read-clause-keeps : goal.returns-in_err-read-clause-keeps
returns-in_err-read-clause-keeps g c =
    let fault = c.in_err-read.field-0.0 in
    let is = refused_by c.from_residual.result fault c.from_residual.ensures.1 in
    rw is (c.in_err-read.ensures.keeps)

pub returns-in_err-read-clause-of_file : goal.returns-in_err-read-clause-of_file
returns-in_err-read-clause-of_file g c =
    let fault = c.in_err-read.field-0.0 in
    let is = refused_by c.from_residual.result fault c.from_residual.ensures.1 in
    rw is (λ file limit x k xs known left kind current. (tt, (c.in_err-read.ensures.of_file file limit x k xs g.T.Row.kind known left kind current).1))

pub returns-clause-of_file : goal.returns-clause-of_file
returns-clause-of_file g c = λ file limit x k xs known left kind current.
    rw c.in-Behind.is at (c.in_ok-read.ensures.of_file file limit x k xs g.T.Row.kind known left kind current)

pub returns-in-Some-clause-fetches : goal.returns-in-Some-clause-fetches
returns-in-Some-clause-fetches g c =
    fetches_ok c.args.self.now.lister.source c.find.new.self.lister.source c.parts.new.self.lister.source c.in_ok-read.ensures.fetches.fetches _ c.in_ok-parts-in-Record.ensures.takes.fetches.fetches

pub returns-in-Some-clause-keeps : goal.returns-in-Some-clause-keeps
returns-in-Some-clause-keeps g c =
    keeps_then c.args.self.now c.find.new.self c.parts.new.self c.in_ok-read.ensures.keeps c.in_ok-parts-in-Record.ensures.takes.keeps

pub returns-in-Some-clause-of_file : goal.returns-in-Some-clause-of_file
returns-in-Some-clause-of_file g c = λ file limit x k xs known left kind current.
    let found = rw c.in-Record.is at (c.in_ok-read.ensures.of_file file limit x k xs g.T.Row.kind known left kind current) in
    let first = c.in_ok-read.ensures.fetches.fetches.fetches in
    let sized : c.find.new.self.lister.source.size ≡ length file = first.same_size ∙ sym c.size-size.ensures.value ∙ (rw known at c.size-size.ensures.content) in
    let r = c.in_ok-parts-in-Record in
    let at = parts-read file limit x k xs g.T.Row.kind g.T.Row.IsAt _ c.find.new.self c.in-Record.read c.in-Record.name found.0 found.1 sized c.parts.new.self r.parts (r.ensures.of_file file (first.same_content ∙ known)) r.ensures.name in
    let stands = rw c.in-Some.is at (c.of.ensures file x.entry.location.rva k _ at) in
    row-read file limit x k xs g.T.Row.kind g.T.Row.IsAt _ c.find.new.self c.in-Record.read c.in-Record.name found.0 found.1 sized c.parts.new.self r.parts c.in-Some.row r.ensures.takes stands

pub returns-in-Record-clause-fetches : goal.returns-in-Record-clause-fetches
returns-in-Record-clause-fetches g c =
    fetches_ok c.args.self.now.lister.source c.find.new.self.lister.source c.parts.new.self.lister.source c.in_ok-read.ensures.fetches.fetches _ c.in_ok-parts-in-Record.ensures.takes.fetches.fetches

pub returns-in-Record-clause-keeps : goal.returns-in-Record-clause-keeps
returns-in-Record-clause-keeps g c =
    keeps_then c.args.self.now c.find.new.self c.parts.new.self c.in_ok-read.ensures.keeps c.in_ok-parts-in-Record.ensures.takes.keeps

pub returns-in-Record-clause-of_file : goal.returns-in-Record-clause-of_file
returns-in-Record-clause-of_file g c = λ file limit x k xs known left kind current.
    let found = rw c.in-Record.is at (c.in_ok-read.ensures.of_file file limit x k xs g.T.Row.kind known left kind current) in
    let first = c.in_ok-read.ensures.fetches.fetches.fetches in
    let sized : c.find.new.self.lister.source.size ≡ length file = first.same_size ∙ sym c.size-size.ensures.value ∙ (rw known at c.size-size.ensures.content) in
    let r = c.in_ok-parts-in-Record in
    let at = parts-read file limit x k xs g.T.Row.kind g.T.Row.IsAt _ c.find.new.self c.in-Record.read c.in-Record.name found.0 found.1 sized c.parts.new.self r.parts (r.ensures.of_file file (first.same_content ∙ known)) r.ensures.name in
    let stands = rw c.in-None.is at (c.of.ensures file x.entry.location.rva k _ at) in
    absurd stands

pub returns-in_err-read-clause-reads : goal.returns-in_err-read-clause-reads
returns-in_err-read-clause-reads g c =
    let fault = c.in_err-read.field-0.0 in
    let is = refused_by c.from_residual.result fault c.from_residual.ensures.1 in
    rw is (reads_as [] fault _ _ c.in_err-read.ensures.reads)

pub returns-in_err-parts-in-Record-clause-reads : goal.returns-in_err-parts-in-Record-clause-reads
returns-in_err-parts-in-Record-clause-reads g c =
    let fault = c.in_err-parts-in-Record.field-0.0 in
    let is = refused_by c.from_residual-in_err-parts-in-Record.result fault c.from_residual-in_err-parts-in-Record.ensures.1 in
    let found = c.in_ok-read.ensures in
    let going = rw c.in-Record.is at found.going in
    rw is (reads_as [] fault _ _
    (reads_record _ c.in-Record.read _ c.args.self.now c.find.new.self c.parts.new.self going.0.0 found.fetches.fetches.fetches.same_size (rw c.in-Record.is at found.reads) c.in_err-parts-in-Record.ensures.takes))

pub returns-in-Some-clause-reads : goal.returns-in-Some-clause-reads
returns-in-Some-clause-reads g c =
    let found = c.in_ok-read.ensures in
    let going = rw c.in-Record.is at found.going in
    reads_done [] [] _ _ _ _
    (reads_record _ c.in-Record.read _ c.args.self.now c.find.new.self c.parts.new.self going.0.0 found.fetches.fetches.fetches.same_size (rw c.in-Record.is at found.reads) c.in_ok-parts-in-Record.ensures.takes)

pub returns-in-Record-clause-reads : goal.returns-in-Record-clause-reads
returns-in-Record-clause-reads g c =
    let found = c.in_ok-read.ensures in
    let going = rw c.in-Record.is at found.going in
    reads_done [] [] _ _ _ _
    (reads_record _ c.in-Record.read _ c.args.self.now c.find.new.self c.parts.new.self going.0.0 found.fetches.fetches.fetches.same_size (rw c.in-Record.is at found.reads) c.in_ok-parts-in-Record.ensures.takes)

pub returns-clause-reads : goal.returns-clause-reads
returns-clause-reads g c = reads_done [] _ _ _ _ _ (rw c.in-Behind.is at c.in_ok-read.ensures.reads)
