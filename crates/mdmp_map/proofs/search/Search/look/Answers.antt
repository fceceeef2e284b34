use Rattle.std.proofs.Common.{◌∙◌, sym, ap, refl, min}
use Rattle.mdmp_map.proofs.Scanning.{limit_past-ahead, limit_past-begun}
use Rattle.mdmp_map.proofs.Seen.{seen_more}
use Rattle.mdmp_map.specs.Search.{SearchState}
use Rattle.mdmp_map.proofs.search.Search.look.Goals as goal

pub returns-then-self-range-clause-passed : goal.returns-then-self-range-clause-passed
returns-then-self-range-clause-passed c =
    let s = c.self.inside in
    rw (← c.self.view_is) (λ seen has none.
    seen_more (record { address = s.address; next_start = s.next_start }) _ c.args.range.now seen has (sym c.holds.ensures ∙ c.if-holds.false) refl
    (c.min-self-inside.ensures ∙ ap (min s.next_start) c.from.ensures ∙ sym (limit_past-ahead s.next_start s.address c.args.range.now c.if-self-range.true)))

pub returns-else-self-range-clause-passed : goal.returns-else-self-range-clause-passed
returns-else-self-range-clause-passed c =
    let s = c.self.inside in
    rw (← c.self.view_is) (λ seen has none.
    let at : SearchState = record { address = s.address; next_start = s.next_start } in
    seen_more at at c.args.range.now seen has (sym c.holds.ensures ∙ c.if-holds.false) refl
    (sym (limit_past-begun s.next_start s.address c.args.range.now c.if-self-range.false)))
