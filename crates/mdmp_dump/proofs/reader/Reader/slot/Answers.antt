use Rattle.std.proofs.Common.{◌≡◌, length, refl}
use Rattle.mdmp_dump.proofs.Budget.{range-bytes}
use Rattle.mdmp_dump.proofs.Classed.{extent_in, range_in}
use Rattle.mdmp_dump.proofs.Taking.{Takes_as, Takes_fault_as, Takes_none, refused_by}
use Rattle.mdmp_dump.proofs.reader.Reader.slot.Goals as goal

pub returns-in-Empty : goal.returns-in-Empty
returns-in-Empty g c = rw c.in-Empty.is (record { takes = Takes_none _ _; of_file = λ file known. tt })

pub returns-in-Name : goal.returns-in-Name
returns-in-Name g c = rw c.in-Name.is (record { takes = Takes_none _ _; of_file = λ file known. tt })

pub part-requires : goal.part-requires
part-requires g c = record { inside = λ inside. (extent_in c.in-Part.location c.args.self.now.lister.source.size (rw (c.classify.ensures, c.size-size.ensures.value) at inside)).1 }

pub returns-in-Part : goal.returns-in-Part
returns-in-Part g c = record {
  takes = rw c.in-Part.is (rw (c.classify.ensures, c.size-size.ensures.value) at c.part.ensures.takes);
  of_file = λ file known.
      let size : c.size-size.result ≡ length file = rw known at c.size-size.ensures.content in
      rw c.in-Part.is (rw (c.classify.ensures, size) at (c.part.ensures.of_file file known));
}

pub bytes_at-requires : goal.bytes_at-requires
bytes_at-requires g c = record { inside = λ inside. (range_in c.args.far c.in-Behind.count c.args.self.now.lister.source.size (rw (c.range_extent-class.ensures, c.size-size.ensures.value) at inside)).1 }

pub returns-in_err-bytes-in-Behind : goal.returns-in_err-bytes-in-Behind
returns-in_err-bytes-in-Behind g c =
    let is = refused_by c.from_residual.result c.in_err-bytes-in-Behind.field-0.0 c.from_residual.ensures.1 in
    rw is (record {
      takes = rw c.in-Behind.is (Takes_fault_as _ _ _ _ (rw (c.range_extent-class.ensures, c.size-size.ensures.value) at c.in_err-bytes-in-Behind.ensures.takes));
      of_file = λ file known. tt;
    })

pub returns-in_ok-bytes-in-Behind : goal.returns-in_ok-bytes-in-Behind
returns-in_ok-bytes-in-Behind g c = record {
  takes = rw c.in-Behind.is (Takes_as _ _ _ _ _ (rw (c.range_extent-class.ensures, c.size-size.ensures.value) at c.in_ok-bytes-in-Behind.ensures.takes));
  of_file = λ file known.
      let size : c.size-size.result ≡ length file = rw known at c.size-size.ensures.content in
      let bytes = c.in_ok-bytes-in-Behind.bytes in
      rw c.in-Behind.is (bytes, (refl, range-bytes file c.args.far c.in-Behind.count bytes (rw (c.range_extent-class.ensures, size) at (c.in_ok-bytes-in-Behind.ensures.of_file file known))));
}
