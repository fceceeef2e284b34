use Rattle.std.proofs.Common.{◌≡◌, ◌∙◌, [], ◌∷◌, ◌++◌, ◌+◌, ap, arith, drop, get_or, refl, subst, sym, take, true, false}
use Rattle.std.proofs.lemmas.List.{at_drop_more, take-append-drop, take_more}
use Rattle.std.proofs.lemmas.Option.{get_or_from_slice_get, slice_get_within}
use Rattle.mdmp_map.specs.Ranges.{holds, place_of}
use Rattle.mdmp_map.specs.Search.{HasSeen}
use Rattle.mdmp_map.proofs.Scanning.{counted_found, counted_passed}
use Rattle.mdmp_map.proofs.scan.scan.Goals as goal

pub returns-in-Some-clause-found : goal.returns-in-Some-clause-found
returns-in-Some-clause-found g c =
    let i = c.loop-number.number in
    let ranges = c.args.ranges.now in
    let range = c.look-range.result in
    let before = take i ranges in
    let same : get_or ranges i range ≡ range = get_or_from_slice_get ranges i range range c.look-range.ensures.range in
    c.in-Some.ensures.place before c.loop-number.invariant.seen (drop (i + 1) ranges)
    ∙ ap (λ r. place_of (before ++ r ∷ drop (i + 1) ranges) c.loop-number.search.address) (sym same)
    ∙ sym (at_drop_more (λ xs. place_of (before ++ xs) c.loop-number.search.address) ranges i range (slice_get_within ranges i range c.look-range.ensures.range))
    ∙ ap (λ xs. place_of xs c.loop-number.search.address) (take-append-drop i ranges)
    ∙ ap (place_of ranges) c.loop-number.invariant.address

pub returns-in-Some-clause-steps : goal.returns-in-Some-clause-steps
returns-in-Some-clause-steps g c =
    let i = c.loop-number.number in
    let ranges = c.args.ranges.now in
    let range = c.look-range.result in
    let before = c.loop-number.invariant in
    let same : get_or ranges i range ≡ range = get_or_from_slice_get ranges i range range c.look-range.ensures.range in
    let held : holds c.args.address (get_or ranges i range) ≡ true =
    ap (holds c.args.address) same ∙ ap (λ a. holds a range) (sym before.address) ∙ sym c.in-Some.ensures.held in
    omega (
      arith,
      c.look-range.ensures.steps,
      before.steps,
      counted_found c.args.address i range ranges (slice_get_within ranges i range c.look-range.ensures.range) before.counted held,
    )

pub loop-number-preserved : goal.loop-number-preserved
loop-number-preserved g c =
    let i = c.loop-number.number in
    let ranges = c.args.ranges.now in
    let range = c.look-range.result in
    let before = c.loop-number.invariant in
    let inside = slice_get_within ranges i range c.look-range.ensures.range in
    let same : get_or ranges i range ≡ range = get_or_from_slice_get ranges i range range c.look-range.ensures.range in
    let passed : holds c.args.address (get_or ranges i range) ≡ false =
    ap (holds c.args.address) same ∙ ap (λ a. holds a range) (sym before.address) ∙ sym c.in_default.ensures.held in
    record {
      seen = subst (λ xs. HasSeen xs c.look.new.self) (ap (λ r. take i ranges ++ r ∷ []) (sym same) ∙ sym (take_more ranges i range inside))
          (c.in_default.ensures.passed (take i ranges) before.seen refl);
      address = c.in_default.ensures.address ∙ before.address;
      counted = counted_passed c.args.address i range ranges inside before.counted passed;
      steps = omega (arith, c.look-range.ensures.steps, before.steps);
    }
