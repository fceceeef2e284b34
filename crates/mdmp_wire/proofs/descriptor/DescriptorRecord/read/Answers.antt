use Rattle.mdmp_wire.proofs.descriptor.DescriptorRecord.read.Goals as goal

pub returns : goal.returns
returns c = λ i. record {
  start_of_memory_range = c.get_at.ensures i;
  memory = c.get_at-2.ensures i;
}
