use Rattle.mdmp_lister.proofs.RecordItems.{record-held}
use Rattle.mdmp_lister.proofs.record_reading.hold_record.Goals as goal

pub returns-clause-reads : goal.returns-clause-reads
returns-clause-reads g c =
    let read = rw c.record_size.ensures.value at c.hold.ensures.reads in
    record {
      of_file = λ file known. record-held c.hold.result c.args.kind c.args.at file c.hold.new.window.held (read.of_file file known);
      books = read.books;
      caused = read.caused;
      refused = read.refused;
    }

pub returns-clause-tries : goal.returns-clause-tries
returns-clause-tries g c = rw c.record_size.ensures.value at c.hold.ensures.tries
