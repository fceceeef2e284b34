use Rattle.mdmp_wire.proofs.unloaded_list.UnloadedListRecord.read.Goals as goal

pub returns : goal.returns
returns c = λ i. record {
  size_of_header = c.get_at.ensures i;
  size_of_entry = c.get_at-2.ensures i;
  number_of_entries = c.get_at-3.ensures i;
}
