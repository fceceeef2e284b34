use Rattle.mdmp_wire.proofs.thread_name.ThreadNameRecordRecord.read.Goals as goal

pub returns : goal.returns
returns c = λ i. record {
  thread_id = c.get_at.ensures i;
  rva_of_thread_name = c.get_at-2.ensures i;
}
