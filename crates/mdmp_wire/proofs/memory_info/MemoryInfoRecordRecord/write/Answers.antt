use Rattle.std.proofs.Common.{◌≡◌, refl, sym, ap, ◌∙◌, arith}
use Rattle.std.proofs.lemmas.List.{take_all}
use Rattle.mdmp_wire.specs.Number.{number_at, le}
use Rattle.mdmp_wire.specs.MemoryInfo.{memory_info_at, memory_info_bytes}
use Rattle.mdmp_wire.proofs.memory_info.MemoryInfoRecordRecord.write.Goals as goal

pub returns-clause-bytes : goal.returns-clause-bytes
returns-clause-bytes c =
    sym (take_all 48 c.put_at-9.new.out (omega arith)) ∙ rw (c.put_at-9.ensures.bytes, c.put_at-8.ensures.bytes, c.put_at-7.ensures.bytes, c.put_at-6.ensures.bytes, c.put_at-5.ensures.bytes, c.put_at-4.ensures.bytes, c.put_at-3.ensures.bytes, c.put_at-2.ensures.bytes, c.put_at.ensures.bytes) refl

pub returns-clause-back : goal.returns-clause-back
unfolding number_at le
returns-clause-back c =
    let back : memory_info_at (memory_info_bytes c.args.self.now) 0 ≡ c.args.self.now = λ i. record {
      base_address = c.put_at.ensures.back i;
      allocation_base = c.put_at-2.ensures.back i;
      allocation_protect = c.put_at-3.ensures.back i;
      region_size = c.put_at-5.ensures.back i;
      state = c.put_at-6.ensures.back i;
      protect = c.put_at-7.ensures.back i;
      memory_type = c.put_at-8.ensures.back i;
    } in
    ap (λ b. memory_info_at b 0) (returns-clause-bytes c) ∙ back
