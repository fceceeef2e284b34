use Rattle.mdmp_wire.proofs.memory64_list.Memory64ListRecord.read.Goals as goal

pub returns : goal.returns
returns c = λ i. record {
  number_of_memory_ranges = c.get_at.ensures i;
  base_rva = c.get_at-2.ensures i;
}
