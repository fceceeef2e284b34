use Rattle.std.proofs.Common.{◌≡◌, refl}
use Rattle.mdmp_lister.specs.Format.Item.{plain}
use Rattle.mdmp_lister.specs.HeldStep.{step_told}
use Rattle.mdmp_lister.specs.ItemRead.{item_read}
use Rattle.mdmp_lister.specs.Step.{step_item}
use Rattle.mdmp_lister.proofs.NextLeft.{listed_fault, listed_item, listed_none}
use Rattle.mdmp_lister.proofs.ReadItems.{read_item, read_kind}
use Rattle.mdmp_lister.proofs.lister.Lister.next_read.Goals as goal

pub returns-in-Ok-None : goal.returns-in-Ok-None
returns-in-Ok-None g c =
    let e = rw c.in-Ok-None.field-0-is at c.in-Ok-None.ensures in
    let l = listed_none c.self.inside.walk c.advance_mapped.new.walk c.self.inside.map c.advance_mapped.new.map e.mapped e.kept e.answered e.pushed in
    rw (← c.self.view_is) ((refl, λ _. tt, record { leaves = l.leaves; kind = tt }), record { gives = l.gives; leaves = tt; good = λ _ _. tt; repeats = l.repeats })

pub returns-in-Ok-Some : goal.returns-in-Ok-Some
returns-in-Ok-Some g c =
    let w = c.self.inside.walk in
    let n = c.advance_mapped.new.walk in
    let read = c.item_read.result in
    let s = step_told n.window.held c.in-Ok-Some.held in
    let e = rw c.in-Ok-Some.field-0-is at c.in-Ok-Some.ensures in
    let x = item_read w.meter.source.size read in
    let of : plain x ≡ step_item n.meter.source.size n.name.items s = rw e.answered.fetches.same_size (read_item w.meter.source.size n.name.items s read c.item_read.ensures) in
    let l = listed_item w n c.self.inside.map c.advance_mapped.new.map e.mapped e.kept s x e.answered of e.pushed in
    let kind = read_kind n.name.items _ s read c.item_read.ensures e.answered.given.held in
    rw (← c.self.view_is) ((refl, λ _. tt, record { leaves = l.leaves; kind = kind }), record { gives = l.gives; leaves = tt; good = λ _ _. tt; repeats = l.repeats })

pub returns-in-Err : goal.returns-in-Err
returns-in-Err g c =
    let e = c.in-Err.ensures in
    let l = listed_fault c.self.inside.walk c.advance_mapped.new.walk c.self.inside.map c.advance_mapped.new.map e.mapped e.kept c.in-Err.fault e.answered e.pushed in
    rw (← c.self.view_is) ((refl, λ _. tt, record { leaves = l.leaves; kind = tt }), record { gives = l.gives; leaves = tt; good = e.answered.good; repeats = l.repeats })
