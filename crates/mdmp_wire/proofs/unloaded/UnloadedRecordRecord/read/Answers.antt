use Rattle.mdmp_wire.proofs.unloaded.UnloadedRecordRecord.read.Goals as goal

pub returns : goal.returns
returns c = λ i. record {
  base_of_image = c.get_at.ensures i;
  size_of_image = c.get_at-2.ensures i;
  checksum = c.get_at-3.ensures i;
  time_date_stamp = c.get_at-4.ensures i;
  module_name_rva = c.get_at-5.ensures i;
}
