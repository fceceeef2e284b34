use Rattle.std.proofs.Common.{◌≡◌, ◌∙◌, ap, sym, subst, true, arith, length, nat_lt}
use Rattle.std.proofs.lemmas.Grind.{common_steps}
use Rattle.mdmp_source.proofs.Writing.{TakesPrefix-take}
use Rattle.mdmp_source.specs.Output.{HasRefused, refused_if}
use Rattle.mdmp_source.specs.OutputLaws.{HasRefused-once}
use Rattle.mdmp_source.proofs.output.write_all.Goals as goal

pub returns-else-send-bytes-clause-puts : goal.returns-else-send-bytes-clause-puts
returns-else-send-bytes-clause-puts g c =
    let before = (g.O.Out.state c.args.out.now).failures in
    let less : nat_lt c.send.result (length c.args.bytes.now) ≡ true = grind (arith, common_steps, c.send.ensures.bound, c.if-send-bytes.false) in
    let once = c.send.ensures.failures ∙ ap (λ more. refused_if more before) less in
    record {
      took = TakesPrefix-take _ _ c.send.result c.args.bytes.now c.send.ensures.took;
      refused = subst (HasRefused before) (sym once) (HasRefused-once before);
    }

pub returns-else-send-bytes-clause-calls : goal.returns-else-send-bytes-clause-calls
returns-else-send-bytes-clause-calls g c =
    (c.send.result, grind (arith, common_steps, c.send.ensures.bound, c.if-send-bytes.false), c.send.ensures.calls)

pub returns-then-send-bytes-clause-puts : goal.returns-then-send-bytes-clause-puts
returns-then-send-bytes-clause-puts g c = grind (arith, common_steps)

pub returns-then-send-bytes-clause-calls : goal.returns-then-send-bytes-clause-calls
returns-then-send-bytes-clause-calls g c = rw c.if-send-bytes.true at c.send.ensures.calls
