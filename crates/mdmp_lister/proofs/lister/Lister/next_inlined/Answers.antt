use Rattle.std.proofs.Common.{refl}
use Rattle.mdmp_lister.specs.HeldStep.{step_told}
use Rattle.mdmp_lister.proofs.NextLeft.{listed_fault, listed_item, listed_none}
use Rattle.mdmp_lister.proofs.lister.Lister.next_inlined.Goals as goal

pub returns-in-Ok-None : goal.returns-in-Ok-None
returns-in-Ok-None g c =
    let e = rw c.in-Ok-None.field-0-is at c.in-Ok-None.ensures in
    let l = listed_none c.self.inside.walk c.advance_mapped.new.walk c.self.inside.map c.advance_mapped.new.map e.mapped e.kept e.answered e.pushed in
    rw (← c.self.view_is) ((refl, λ _. tt, l.leaves), record { gives = l.gives; leaves = tt; good = λ _ _. tt; repeats = l.repeats })

pub returns-in-Ok-Some : goal.returns-in-Ok-Some
returns-in-Ok-Some g c =
    let n = c.advance_mapped.new.walk in
    let e = rw c.in-Ok-Some.field-0-is at c.in-Ok-Some.ensures in
    let l = listed_item c.self.inside.walk n c.self.inside.map c.advance_mapped.new.map e.mapped e.kept (step_told n.window.held c.in-Ok-Some.held) c.item.result e.answered c.item.ensures.item e.pushed in
    rw (← c.self.view_is) ((refl, λ _. tt, l.leaves), record { gives = l.gives; leaves = tt; good = λ _ _. tt; repeats = l.repeats })

pub returns-in-Err : goal.returns-in-Err
returns-in-Err g c =
    let e = c.in-Err.ensures in
    let l = listed_fault c.self.inside.walk c.advance_mapped.new.walk c.self.inside.map c.advance_mapped.new.map e.mapped e.kept c.in-Err.fault e.answered e.pushed in
    rw (← c.self.view_is) ((refl, λ _. tt, l.leaves), record { gives = l.gives; leaves = tt; good = e.answered.good; repeats = l.repeats })
