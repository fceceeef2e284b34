use Rattle.mdmp_dump.specs.declared.part.Part.TheVariants as parts
use Rattle.mdmp_dump.proofs.Budget.{bytes-part}
use Rattle.mdmp_dump.proofs.Taking.{Takes_absent, Takes_as, Takes_fault_as, refused_by}
use Rattle.mdmp_dump.proofs.reader.Reader.part.Goals as goal

pub returns-in_err-bytes-in_default : goal.returns-in_err-bytes-in_default
returns-in_err-bytes-in_default g c =
    let fault = c.in_err-bytes-in_default.field-0.0 in
    let is = refused_by c.from_residual.result fault c.from_residual.ensures.1 in
    let takes = rw (c.from.ensures, c.from-size.ensures) at c.in_err-bytes-in_default.ensures.takes in
    rw is (record { takes = Takes_fault_as _ c.args.self.now fault c.bytes_at.new.self takes; of_file = λ file known. tt })

pub returns-in_ok-bytes-in_default : goal.returns-in_ok-bytes-in_default
returns-in_ok-bytes-in_default g c =
    let bytes = c.in_ok-bytes-in_default.bytes in
    let takes = rw (c.from.ensures, c.from-size.ensures) at c.in_ok-bytes-in_default.ensures.takes in
    record {
      takes = Takes_as _ c.args.self.now bytes (parts.Bytes bytes) c.bytes_at.new.self takes;
      of_file = λ file known.
          bytes-part file c.args.location c.args.class bytes c.in_default.not-Absent
          (rw (c.from.ensures, c.from-size.ensures) at (c.in_ok-bytes-in_default.ensures.of_file file known));
    }

pub returns-in-Absent-clause-takes : goal.returns-in-Absent-clause-takes
returns-in-Absent-clause-takes g c = rw c.in-Absent.is (Takes_absent _ c.args.self.now c.absent.result c.absent.ensures)
