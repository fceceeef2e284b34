use Rattle.std.proofs.Common.{◌≡◌, ◌≤◌, ◌<◌, ◌∙◌, true, refl, ap, arith, inl, inr, sym, get_or}
use Rattle.mdmp_wire.specs.declared.entry.Entry.{Entry}
use Rattle.mdmp_lister.specs.Format.Listing.{entry_count, entry_of, is_chosen}
use Rattle.mdmp_lister.proofs.Entries.{chosen_from-chosen, chosen_from-other, chosen_from-end}
use Rattle.std.proofs.lemmas.Bool.{cases_lt}
use Rattle.std.proofs.lemmas.List.{get_or_default}
use Rattle.std.proofs.lemmas.Option.{get_or_from_slice_get, slice_get_within}
use Rattle.mdmp_lister.proofs.Listed.{cost_by-more, cost_by-passed}
use Rattle.mdmp_lister.proofs.opening.next_chosen.Goals as goal

abbrev no_entry : Entry
no_entry = record { stream_type = 0; location = record { size = 0; rva = 0 } }

pub returns-then-has : goal.returns-then-has
returns-then-has c = record {
  within = (omega (arith, c.loop-at.invariant.risen), omega (arith, c.loop-at-test.true));
  first = λ file dir.
      let at = c.loop-at.at in
      let e : Entry = get_or c.args.entries.now at no_entry in
      let lt : at < entry_count file = omega (arith, dir.count, c.loop-at-test.true) in
      let same : e ≡ entry_of file at = dir.each at no_entry c.loop-at-test.true in
      let chosen : true ≡ is_chosen c.args.choice.now (entry_of file at).stream_type = sym c.if-has.true ∙ c.has.ensures ∙ ap (λ (x : Entry). is_chosen c.args.choice.now x.stream_type) same in
      c.loop-at.invariant.passed file dir ∙ chosen_from-chosen file c.args.choice.now at (entry_of file at) lt refl chosen;
  stands = λ e is.
      let at = c.loop-at.at in
      let same : get_or c.args.entries.now at no_entry ≡ e = get_or_from_slice_get c.args.entries.now at e no_entry is in
      record {
        behind = c.loop-at.invariant.risen;
        is = is;
        chosen = rw (← same, ← c.has.ensures, c.if-has.true) refl;
        between = c.loop-at.invariant.unchosen;
      };
  costs = λ f size d.
      let at = c.loop-at.at in
      let chosen : is_chosen c.args.choice.now (get_or c.args.entries.now at no_entry).stream_type ≡ true = sym (sym c.if-has.true ∙ c.has.ensures) in
      omega (
        arith,
        c.loop-at.invariant.costs f size,
        cost_by-more f c.args.choice.now size at c.args.entries.now d c.loop-at-test.true (rw (get_or_default c.args.entries.now at d no_entry c.loop-at-test.true) chosen),
      );
}

pub loop-at-preserved : goal.loop-at-preserved
loop-at-preserved c = record {
  risen = omega arith;
  placed = omega arith;
  passed = λ file dir.
      let at = c.loop-at.at in
      let e : Entry = get_or c.args.entries.now at no_entry in
      let lt : at < entry_count file = omega (arith, dir.count, c.loop-at-test.true) in
      let same : e ≡ entry_of file at = dir.each at no_entry c.loop-at-test.true in
      c.loop-at.invariant.passed file dir ∙ chosen_from-other file c.args.choice.now at e lt same (sym c.if-has.false ∙ c.has.ensures);
  unchosen = λ k d from below is. elim (cases_lt k c.loop-at.at) [
    | inl before ↦ c.loop-at.invariant.unchosen k d from before is
    | inr here ↦
        let same : get_or c.args.entries.now k no_entry ≡ d = get_or_from_slice_get c.args.entries.now k d no_entry is in
        let at : c.loop-at.at ≡ k = omega (arith, below, here) in
        let other = sym c.has.ensures ∙ c.if-has.false in
        rw (at, same) at other
  ];
  costs = λ f size. omega (arith, c.loop-at.invariant.costs f size, cost_by-passed f c.args.choice.now size c.loop-at.at c.args.entries.now no_entry c.loop-at-test.true);
}

pub returns : goal.returns
returns c = record {
  within = tt;
  stands = λ k d from is.
      let inside = slice_get_within c.args.entries.now k d is in
      c.loop-at.invariant.unchosen k d from (omega (arith, inside, c.loop-at-test.false)) is;
  first = λ file dir.
      let over : entry_count file ≤ c.loop-at.at = omega (arith, dir.count, c.loop-at-test.false) in
      c.loop-at.invariant.passed file dir ∙ chosen_from-end file c.args.choice.now c.loop-at.at over;
  costs = λ f size. tt;
}
