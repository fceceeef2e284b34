use Rattle.std.proofs.Common.{◌≡◌, refl, sym, ap, ◌∙◌, arith}
use Rattle.std.proofs.lemmas.List.{take_all}
use Rattle.mdmp_wire.specs.Number.{number_at, le}
use Rattle.mdmp_wire.specs.Thread.{thread_at, thread_bytes}
use Rattle.mdmp_wire.proofs.thread.ThreadRecordRecord.write.Goals as goal

pub returns-clause-bytes : goal.returns-clause-bytes
returns-clause-bytes c =
    sym (take_all 48 c.put_at-7.new.out (omega arith)) ∙ rw (c.put_at-7.ensures.bytes, c.put_at-6.ensures.bytes, c.put_at-5.ensures.bytes, c.put_at-4.ensures.bytes, c.put_at-3.ensures.bytes, c.put_at-2.ensures.bytes, c.put_at.ensures.bytes) refl

pub returns-clause-back : goal.returns-clause-back
unfolding number_at le
returns-clause-back c =
    let back : thread_at (thread_bytes c.args.self.now) 0 ≡ c.args.self.now = λ i. record {
      thread_id = c.put_at.ensures.back i;
      suspend_count = c.put_at-2.ensures.back i;
      priority_class = c.put_at-3.ensures.back i;
      priority = c.put_at-4.ensures.back i;
      teb = c.put_at-5.ensures.back i;
      stack = c.put_at-6.ensures.back i;
      thread_context = c.put_at-7.ensures.back i;
    } in
    ap (λ b. thread_at b 0) (returns-clause-bytes c) ∙ back
