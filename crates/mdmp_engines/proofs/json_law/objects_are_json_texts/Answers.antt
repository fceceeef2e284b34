use Rattle.mdmp_engines.proofs.JsonPrinted.{check-lines, check_parts-lines, header-lines, item-lines, list-lines}
use Rattle.mdmp_engines.proofs.json_law.objects_are_json_texts.Goals as goal

pub returns : goal.returns
returns c = record {
  list = λ F pdb limit bytes. list-lines F bytes pdb limit;
  check = λ F limit bytes. check-lines F bytes limit;
  parts = λ F limit bytes. check_parts-lines F bytes limit;
  header = λ F bytes. header-lines F bytes;
  item = λ F choice pdb limit item bytes. item-lines F bytes pdb limit choice item;
}
