use Rattle.std.proofs.Common.{◌∙◌, ◌++◌, ◌∷◌, List, [], ap, arith, rules, subst, sym}
use Rattle.std.proofs.lemmas.List.{append-nil}
use Rattle.mdmp_map.specs.declared.range.Range.{Range}
use Rattle.mdmp_lister.specs.Format.Ranges.{IsPlacedIn, ranges_of}
use Rattle.mdmp_lister.specs.HeldStep.{step_told}
use Rattle.mdmp_lister.specs.Step.{step_item}
use Rattle.mdmp_lister.proofs.HeldSteps.{item_told, ranges_told-few, ranges_told-of, told-fits}
use Rattle.mdmp_lister.proofs.Mapping.{kept, mapped, ranges-given, ranges_of-within, same_file}
use Rattle.mdmp_lister.proofs.Paying.{bounded_then}
use Rattle.mdmp_lister.proofs.ranging.advance_mapped.Goals as goal

pub push_range-requires-clause-placed : goal.push_range-requires-clause-placed
push_range-requires-clause-placed g c = told-fits _ _ c.range.result c.range.ensures

pub push_range-requires-clause-room : goal.push_range-requires-clause-room
push_range-requires-clause-room g c =
    let n = c.advance.new.walk in
    let room = rw (c.free.ensures.value, c.in-Ok-Some.field-0-is) at c.in-Ok-Some.ensures.room in
    omega (arith, room.ahead, ranges_told-few n.meter.source.size (step_told n.window.held c.in-Ok-Some.held) c.range.result c.range.ensures)

pub returns-in-Ok-None : goal.returns-in-Ok-None
returns-in-Ok-None g c =
    let w = c.args.walk.now in
    let n = c.advance.new.walk in
    let m = c.args.map.now in
    let e = rw c.in-Ok-None.field-0-is at c.in-Ok-None.ensures.answered in
    record {
      answered = e;
      whole = tt;
      mapped = kept w n m c.requires e.sound (same_file _ _ _ e.fetches e.same e.counts.more) (rw (c.free.ensures.value, c.in-Ok-None.field-0-is) at c.in-Ok-None.ensures.room) (bounded_then w n c.requires.bounded e.paid e.same e.fetches.same_size);
      pushed = ap (λ (rs : List Range). record m { ranges = rs }) (sym (append-nil m.ranges));
      kept = search rules;
    }

pub returns-in-Ok-Some : goal.returns-in-Ok-Some
returns-in-Ok-Some g c =
    let w = c.args.walk.now in
    let n = c.advance.new.walk in
    let m = c.args.map.now in
    let z = n.meter.source.size in
    let s = step_told n.window.held c.in-Ok-Some.held in
    let x = step_item z n.name.items s in
    let item = item_told z s c.range.result c.range.ensures n.name.items in
    let pushed = c.push_range.ensures ∙ ap (λ rs. record m { ranges = m.ranges ++ rs }) (ranges_told-of z s c.range.result c.range.ensures n.name.items x item.item) in
    let e = rw c.in-Ok-Some.field-0-is at c.in-Ok-Some.ensures.answered in
    let room = rw (c.free.ensures.value, c.in-Ok-Some.field-0-is) at c.in-Ok-Some.ensures.room in
    record {
      answered = e;
      whole = rw c.in-Ok-Some.field-0-is at c.in-Ok-Some.ensures.whole;
      mapped =
          rw pushed (mapped w n m (ranges_of (x ∷ [])) _ c.requires e.sound (same_file _ _ _ e.fetches e.same e.counts.more) room
          (bounded_then w n c.requires.bounded e.paid e.same e.fetches.same_size)
          (ranges_of-within _ x (subst (λ y. IsPlacedIn y x) e.fetches.same_size item.placed))
          (ranges-given z n.name.items s x item.item));
      pushed = pushed;
      kept = search rules;
    }

pub returns-in-Err : goal.returns-in-Err
returns-in-Err g c =
    let w = c.args.walk.now in
    let n = c.advance.new.walk in
    let m = c.args.map.now in
    let e = c.in-Err.ensures.answered in
    record {
      answered = e;
      whole = tt;
      mapped = kept w n m c.requires e.sound (same_file _ _ _ e.fetches e.same e.counts.more) (rw c.free.ensures.value at c.in-Err.ensures.room) (bounded_then w n c.requires.bounded e.paid e.same e.fetches.same_size);
      pushed = ap (λ (rs : List Range). record m { ranges = rs }) (sym (append-nil m.ranges));
      kept = search rules;
    }
