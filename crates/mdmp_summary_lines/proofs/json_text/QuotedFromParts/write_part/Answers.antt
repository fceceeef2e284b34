use Rattle.std.proofs.Common.{◌≡◌, ◌+◌, ◌-◌, arith}
use Rattle.mdmp_summary_lines.proofs.json_text.QuotedFromParts.write_part.Goals as goal

pub returns-clause-put : goal.returns-clause-put
returns-clause-put c =
    let start = c.args.self.now.start in
    let next = c.write_part-end.result.next in
    let back : start + (next - start) ≡ next = omega (arith, c.write_part-end.ensures.next) in
    rw back c.write_part-end.ensures.put
