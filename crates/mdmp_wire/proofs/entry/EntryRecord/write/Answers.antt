use Rattle.std.proofs.Common.{◌≡◌, sym, ap, ◌∙◌, arith}
use Rattle.std.proofs.lemmas.List.{take_all}
use Rattle.mdmp_wire.specs.Number.{number_at, le}
use Rattle.mdmp_wire.specs.Entry.{entry_at, entry_bytes}
use Rattle.mdmp_wire.proofs.entry.EntryRecord.write.Goals as goal

pub returns-clause-bytes : goal.returns-clause-bytes
returns-clause-bytes c = sym (take_all 12 c.put_at-2.new.out (omega arith)) ∙ cc

pub returns-clause-back : goal.returns-clause-back
unfolding number_at le
returns-clause-back c =
    let back : entry_at (entry_bytes c.args.self.now) 0 ≡ c.args.self.now = λ i. record {
      stream_type = c.put_at.ensures.back i;
      location = c.put_at-2.ensures.back i;
    } in
    ap (λ b. entry_at b 0) (returns-clause-bytes c) ∙ back
