use Rattle.std.proofs.Common.{◌≡◌, refl, sym, ap, ◌∙◌, arith}
use Rattle.std.proofs.lemmas.List.{take_all}
use Rattle.mdmp_wire.specs.Number.{number_at, le, array_at}
use Rattle.mdmp_wire.specs.System.{system_at, system_bytes}
use Rattle.mdmp_wire.proofs.system.SystemRecordRecord.write.Goals as goal

pub returns-clause-bytes : goal.returns-clause-bytes
returns-clause-bytes c =
    sym (take_all 56 c.put_at-13.new.out (omega arith)) ∙ rw (c.put_at-13.ensures.bytes, c.put_at-12.ensures.bytes, c.put_at-11.ensures.bytes, c.put_at-10.ensures.bytes, c.put_at-9.ensures.bytes, c.put_at-8.ensures.bytes, c.put_at-7.ensures.bytes, c.put_at-6.ensures.bytes, c.put_at-5.ensures.bytes, c.put_at-4.ensures.bytes, c.put_at-3.ensures.bytes, c.put_at-2.ensures.bytes, c.put_at.ensures.bytes) refl

pub returns-clause-back : goal.returns-clause-back
unfolding number_at le array_at
returns-clause-back c =
    let back : system_at (system_bytes c.args.self.now) 0 ≡ c.args.self.now = λ i. record {
      processor_architecture = c.put_at.ensures.back i;
      processor_level = c.put_at-2.ensures.back i;
      processor_revision = c.put_at-3.ensures.back i;
      number_of_processors = c.put_at-4.ensures.back i;
      product_type = c.put_at-5.ensures.back i;
      major_version = c.put_at-6.ensures.back i;
      minor_version = c.put_at-7.ensures.back i;
      build_number = c.put_at-8.ensures.back i;
      platform_id = c.put_at-9.ensures.back i;
      csd_version_rva = c.put_at-10.ensures.back i;
      suite_mask = c.put_at-11.ensures.back i;
      reserved2 = c.put_at-12.ensures.back i;
      cpu = c.put_at-13.ensures.back i;
    } in
    ap (λ b. system_at b 0) (returns-clause-bytes c) ∙ back
