use Rattle.std.proofs.Common.{◌≡◌, sym, ap, ◌∙◌, arith}
use Rattle.std.proofs.lemmas.List.{take_all}
use Rattle.mdmp_wire.specs.Number.{number_at, le}
use Rattle.mdmp_wire.specs.Descriptor.{descriptor_at, descriptor_bytes}
use Rattle.mdmp_wire.proofs.descriptor.DescriptorRecord.write.Goals as goal

pub returns-clause-bytes : goal.returns-clause-bytes
returns-clause-bytes c = sym (take_all 16 c.put_at-2.new.out (omega arith)) ∙ cc

pub returns-clause-back : goal.returns-clause-back
unfolding number_at le
returns-clause-back c =
    let back : descriptor_at (descriptor_bytes c.args.self.now) 0 ≡ c.args.self.now = λ i. record {
      start_of_memory_range = c.put_at.ensures.back i;
      memory = c.put_at-2.ensures.back i;
    } in
    ap (λ b. descriptor_at b 0) (returns-clause-bytes c) ∙ back
