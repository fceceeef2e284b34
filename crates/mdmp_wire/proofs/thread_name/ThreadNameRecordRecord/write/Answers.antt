use Rattle.std.proofs.Common.{◌≡◌, sym, ap, ◌∙◌, arith}
use Rattle.std.proofs.lemmas.List.{take_all}
use Rattle.mdmp_wire.specs.Number.{number_at, le}
use Rattle.mdmp_wire.specs.ThreadName.{thread_name_at, thread_name_bytes}
use Rattle.mdmp_wire.proofs.thread_name.ThreadNameRecordRecord.write.Goals as goal

pub returns-clause-bytes : goal.returns-clause-bytes
returns-clause-bytes c = sym (take_all 12 c.put_at-2.new.out (omega arith)) ∙ cc

pub returns-clause-back : goal.returns-clause-back
unfolding number_at le
returns-clause-back c =
    let back : thread_name_at (thread_name_bytes c.args.self.now) 0 ≡ c.args.self.now = λ i. record {
      thread_id = c.put_at.ensures.back i;
      rva_of_thread_name = c.put_at-2.ensures.back i;
    } in
    ap (λ b. thread_name_at b 0) (returns-clause-bytes c) ∙ back
