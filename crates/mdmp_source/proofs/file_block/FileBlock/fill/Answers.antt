use Rattle.std.proofs.Common.{◌≡◌, ◌≤◌, ◌+◌, ◌-◌, ◌∙◌, [], ap, sym, subst, arith, length, max, take, vec_len, refl, Ok}
use Rattle.std.proofs.lemmas.List.{take-take}
use Rattle.std.specs.Vec.{with_items}
use Rattle.mdmp_source.specs.FileBlock.{IsReach}
use Rattle.mdmp_source.proofs.Held.{written_behind}
use borrow.Rule.Slice.PartMut.{put_mid}
use Rattle.mdmp_source.proofs.file_block.FileBlock.fill.Goals as goal

pub returns : goal.returns
returns g c =
    let k = c.in_ok-self-inside.field-0 in
    let bytes = c.read_at.new.out in
    let reach = c.reach_at-reach.result in
    let buffer = c.lengthen.new.buffer in
    let room : 0 + reach ≤ vec_len buffer = omega (arith, c.lengthen.ensures.len) in
    let written = written_behind buffer c.deref_mut.result.now bytes [] 0 reach (reach - 0)
    c.deref_mut.ensures.value (omega arith) c.read_at.auto.out refl room in
    let few : k ≤ length bytes = c.in_ok-self-inside.ensures.bound in
    let items = (with_items buffer (put_mid 0 (reach - 0) c.deref_mut.result.now bytes)).items in
    let within : k ≤ 0 + reach = omega (arith, few, written.all) in
    let front : take k items ≡ take k bytes = sym (take-take k (0 + reach) items within) ∙ ap (λ xs. take k xs) written.more in
    record {
      answer = Ok k;
      bytes = bytes;
      reach = subst (λ n. IsReach c.args.self.now c.args.at c.args.wanted n) (sym written.all) c.reach_at-reach.ensures.reach;
      read = c.in_ok-self-inside.ensures.read;
      at_place = refl;
      holds = front;
      same_room = c.lengthen.ensures.capacity ∙ ap (λ b. b.room) c.self.view_is;
      touched = c.lengthen.ensures.len ∙ ap (λ b. max b.touched reach) c.self.view_is ∙ ap (λ n. max c.args.self.now.touched n) (sym written.all);
      asked = sym written.all;
      fresh = (refl, refl);
      fails = (λ x. x, λ x. x);
    }
