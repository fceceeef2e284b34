use Rattle.std.proofs.Common.{◌≡◌, ◌≤◌, ◌+◌, ◌-◌, rules, arith, ap, length, min, ⊎_elim}
use Rattle.std.proofs.lemmas.Grind.{common_steps}
use Rattle.mdmp_source.specs.Count.{raised}
use Rattle.mdmp_source.specs.Store.{StoreState}
use Rattle.mdmp_source.proofs.Bytes.{filled_more}
use Rattle.mdmp_source.proofs.Filling.{least_last, least_more}
use borrow.Rule.Slice.PartMut.{put_mid, same_len_mid}
use Rattle.mdmp_source.proofs.source.fill.Goals as goal

pub loop-filled-preserved : goal.loop-filled-preserved
loop-filled-preserved g c =
    let so_far = c.loop-filled.invariant in
    let before = g.S.Store.state c.args.store.now in
    let was = g.S.Store.state c.loop-filled.store in
    let now = g.S.Store.state c.read_at.new.self in
    let filled = c.loop-filled.filled in
    let total = length c.loop-filled.out in
    let there = was.size - (c.args.at + filled) in
    let calls : now.counts.calls ≡ raised was.counts.calls 1 = ap (λ (s : StoreState). s.counts.calls) c.in-Ok.ensures.state in
    let once : now.counts.calls ≤ was.counts.calls + 1 = omega (arith, calls) in
    let least_calls = so_far.least_calls c.loop-filled-test.true in
    let same : length (put_mid filled (total - filled) c.loop-filled.out c.read_at.new.out) ≡ total = same_len_mid filled (total - filled) c.loop-filled.out c.read_at.new.out c.read_at.auto.out in
    let asked : length c.read_at.new.out ≡ total - filled = grind (arith, common_steps, c.read_at.auto.out) in
    let fits : total - filled ≤ there =
    ⊎_elim (λ none. omega (arith, none, c.loop-filled-test.true, c.loop-filled.auto.out)) (λ within. omega (arith, within, so_far.same_size, c.loop-filled.auto.out)) c.requires.inside in
    let gave : min before.least (min (total - filled) there) ≤ c.in-Ok.count = omega (arith, c.in-Ok.ensures.least, asked, so_far.same_least) in
    record {
      in_range = grind (arith, common_steps, c.in-Ok.ensures.bound, so_far.in_range);
      bytes = filled_more _ _ c.loop-filled.out c.read_at.new.out c.args.at c.loop-filled.filled _ c.in-Ok.count so_far.in_range c.in-Ok.ensures.bound so_far.same_content so_far.bytes c.in-Ok.ensures.bytes;
      same_content = grind (arith, common_steps, c.in-Ok.ensures.state, so_far.same_content);
      same_reliable = grind (arith, common_steps, c.in-Ok.ensures.state, so_far.same_reliable);
      same_failures = grind (arith, common_steps, c.in-Ok.ensures.state, so_far.same_failures);
      same_empties = grind (arith, common_steps, c.in-Ok.ensures.state, so_far.same_empties, c.in-Ok.count-test.1);
      same_size = grind (arith, common_steps, c.in-Ok.ensures.state, so_far.same_size);
      more_calls = grind (arith, common_steps, c.in-Ok.ensures.state, so_far.more_calls, c.in-Ok.count-test.1);
      few_calls = grind (arith, common_steps, c.in-Ok.ensures.state, so_far.few_calls, c.in-Ok.count-test.1);
      same_least = grind (arith, common_steps, c.in-Ok.ensures.state, so_far.same_least);
      least_calls = λ more. least_more before.counts.calls was.counts.calls now.counts.calls before.least filled c.in-Ok.count total there once least_calls fits gave (omega (arith, more, same));
      before_last = λ risen. let few = least_last before.counts.calls was.counts.calls now.counts.calls before.least filled total once least_calls c.loop-filled-test.true in omega (arith, few, same);
    }

pub returns-in-Ok-eq0-clause-cause : goal.returns-in-Ok-eq0-clause-cause
returns-in-Ok-eq0-clause-cause g c = search rules

pub returns-in-Ok-eq0-clause-once : goal.returns-in-Ok-eq0-clause-once
returns-in-Ok-eq0-clause-once g c = search rules
