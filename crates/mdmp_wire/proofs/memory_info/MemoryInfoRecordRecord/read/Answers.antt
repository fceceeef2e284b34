use Rattle.mdmp_wire.proofs.memory_info.MemoryInfoRecordRecord.read.Goals as goal

pub returns : goal.returns
returns c = λ i. record {
  base_address = c.get_at.ensures i;
  allocation_base = c.get_at-2.ensures i;
  allocation_protect = c.get_at-3.ensures i;
  region_size = c.get_at-4.ensures i;
  state = c.get_at-5.ensures i;
  protect = c.get_at-6.ensures i;
  memory_type = c.get_at-7.ensures i;
}
