use Rattle.mdmp_wire.proofs.module.ModuleRecordRecord.read.Goals as goal

pub returns : goal.returns
returns c = λ i. record {
  base_of_image = c.get_at.ensures i;
  size_of_image = c.get_at-2.ensures i;
  checksum = c.get_at-3.ensures i;
  time_date_stamp = c.get_at-4.ensures i;
  module_name_rva = c.get_at-5.ensures i;
  version_info = c.get_at-6.ensures i;
  cv_record = c.get_at-7.ensures i;
  misc_record = c.get_at-8.ensures i;
  reserved0 = c.get_at-9.ensures i;
  reserved1 = c.get_at-10.ensures i;
}
