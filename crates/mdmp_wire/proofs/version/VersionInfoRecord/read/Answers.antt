use Rattle.mdmp_wire.proofs.version.VersionInfoRecord.read.Goals as goal

pub returns : goal.returns
returns c = λ i. record {
  signature = c.get_at.ensures i;
  structure_version = c.get_at-2.ensures i;
  file_version_ms = c.get_at-3.ensures i;
  file_version_ls = c.get_at-4.ensures i;
  product_version_ms = c.get_at-5.ensures i;
  product_version_ls = c.get_at-6.ensures i;
  file_flags_mask = c.get_at-7.ensures i;
  file_flags = c.get_at-8.ensures i;
  file_os = c.get_at-9.ensures i;
  file_type = c.get_at-10.ensures i;
  file_subtype = c.get_at-11.ensures i;
  file_date_ms = c.get_at-12.ensures i;
  file_date_ls = c.get_at-13.ensures i;
}
