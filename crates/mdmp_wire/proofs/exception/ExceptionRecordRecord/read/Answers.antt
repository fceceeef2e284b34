use Rattle.mdmp_wire.proofs.exception.ExceptionRecordRecord.read.Goals as goal

pub returns : goal.returns
returns c = λ i. record {
  thread_id = c.get_at.ensures i;
  exception_code = c.get_at-2.ensures i;
  exception_flags = c.get_at-3.ensures i;
  exception_record = c.get_at-4.ensures i;
  exception_address = c.get_at-5.ensures i;
  number_parameters = c.get_at-6.ensures i;
  exception_information = c.get_at-7.ensures i;
  thread_context = c.get_at-8.ensures i;
}
