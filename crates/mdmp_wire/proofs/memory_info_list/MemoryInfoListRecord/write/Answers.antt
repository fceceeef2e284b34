use Rattle.std.proofs.Common.{◌≡◌, sym, ap, ◌∙◌, arith}
use Rattle.std.proofs.lemmas.List.{take_all}
use Rattle.mdmp_wire.specs.Number.{number_at, le}
use Rattle.mdmp_wire.specs.MemoryInfoList.{memory_info_list_at, memory_info_list_bytes}
use Rattle.mdmp_wire.proofs.memory_info_list.MemoryInfoListRecord.write.Goals as goal

pub returns-clause-bytes : goal.returns-clause-bytes
returns-clause-bytes c = sym (take_all 16 c.put_at-3.new.out (omega arith)) ∙ cc

pub returns-clause-back : goal.returns-clause-back
unfolding number_at le
returns-clause-back c =
    let back : memory_info_list_at (memory_info_list_bytes c.args.self.now) 0 ≡ c.args.self.now = λ i. record {
      size_of_header = c.put_at.ensures.back i;
      size_of_entry = c.put_at-2.ensures.back i;
      number_of_entries = c.put_at-3.ensures.back i;
    } in
    ap (λ b. memory_info_list_at b 0) (returns-clause-bytes c) ∙ back
