use Rattle.std.proofs.Common.{◌≡◌, refl, sym, ap, ◌∙◌, arith}
use Rattle.std.proofs.lemmas.List.{take_all}
use Rattle.mdmp_wire.specs.Number.{number_at, le}
use Rattle.mdmp_wire.specs.Unloaded.{unloaded_at, unloaded_bytes}
use Rattle.mdmp_wire.proofs.unloaded.UnloadedRecordRecord.write.Goals as goal

pub returns-clause-bytes : goal.returns-clause-bytes
returns-clause-bytes c =
    sym (take_all 24 c.put_at-5.new.out (omega arith)) ∙ rw (c.put_at-5.ensures.bytes, c.put_at-4.ensures.bytes, c.put_at-3.ensures.bytes, c.put_at-2.ensures.bytes, c.put_at.ensures.bytes) refl

pub returns-clause-back : goal.returns-clause-back
unfolding number_at le
returns-clause-back c =
    let back : unloaded_at (unloaded_bytes c.args.self.now) 0 ≡ c.args.self.now = λ i. record {
      base_of_image = c.put_at.ensures.back i;
      size_of_image = c.put_at-2.ensures.back i;
      checksum = c.put_at-3.ensures.back i;
      time_date_stamp = c.put_at-4.ensures.back i;
      module_name_rva = c.put_at-5.ensures.back i;
    } in
    ap (λ b. unloaded_at b 0) (returns-clause-bytes c) ∙ back
