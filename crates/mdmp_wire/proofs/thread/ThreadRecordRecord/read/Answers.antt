use Rattle.mdmp_wire.proofs.thread.ThreadRecordRecord.read.Goals as goal

pub returns : goal.returns
returns c = λ i. record {
  thread_id = c.get_at.ensures i;
  suspend_count = c.get_at-2.ensures i;
  priority_class = c.get_at-3.ensures i;
  priority = c.get_at-4.ensures i;
  teb = c.get_at-5.ensures i;
  stack = c.get_at-6.ensures i;
  thread_context = c.get_at-7.ensures i;
}
