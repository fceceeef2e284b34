use Rattle.mdmp_wire.proofs.descriptor64.Descriptor64Record.read.Goals as goal

pub returns : goal.returns
returns c = λ i. record {
  start_of_memory_range = c.get_at.ensures i;
  data_size = c.get_at-2.ensures i;
}
