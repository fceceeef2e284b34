use Rattle.mdmp_wire.proofs.entry.EntryRecord.read.Goals as goal

pub returns : goal.returns
returns c = λ i. record {
  stream_type = c.get_at.ensures i;
  location = c.get_at-2.ensures i;
}
