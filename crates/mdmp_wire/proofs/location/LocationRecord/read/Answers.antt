use Rattle.mdmp_wire.proofs.location.LocationRecord.read.Goals as goal

pub returns : goal.returns
returns c = λ i. record {
  size = c.get_at.ensures i;
  rva = c.get_at-2.ensures i;
}
