use Rattle.mdmp_wire.proofs.header.HeaderRecord.read.Goals as goal

pub returns : goal.returns
returns c = λ i. record {
  signature = c.get_at.ensures i;
  version = c.get_at-2.ensures i;
  number_of_streams = c.get_at-3.ensures i;
  stream_directory_rva = c.get_at-4.ensures i;
  checksum = c.get_at-5.ensures i;
  time_date_stamp = c.get_at-6.ensures i;
  flags = c.get_at-7.ensures i;
}
