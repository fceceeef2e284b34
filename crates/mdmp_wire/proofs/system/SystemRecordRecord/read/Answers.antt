use Rattle.mdmp_wire.proofs.system.SystemRecordRecord.read.Goals as goal

pub returns : goal.returns
returns c = λ i. record {
  processor_architecture = c.get_at.ensures i;
  processor_level = c.get_at-2.ensures i;
  processor_revision = c.get_at-3.ensures i;
  number_of_processors = c.get_at-4.ensures i;
  product_type = c.get_at-5.ensures i;
  major_version = c.get_at-6.ensures i;
  minor_version = c.get_at-7.ensures i;
  build_number = c.get_at-8.ensures i;
  platform_id = c.get_at-9.ensures i;
  csd_version_rva = c.get_at-10.ensures i;
  suite_mask = c.get_at-11.ensures i;
  reserved2 = c.get_at-12.ensures i;
  cpu = c.get_at-13.ensures i;
}
