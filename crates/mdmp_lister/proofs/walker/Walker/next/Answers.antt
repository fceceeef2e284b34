use Rattle.std.proofs.Common.{◌≡◌, None, Some, Ok, Err, refl, subst, sym}
use Rattle.mdmp_lister.specs.declared.position.Position.TheVariants.{Within}
use Rattle.mdmp_lister.specs.Lister.{AnswersNext, NextLeaves, ListerState}
use Rattle.mdmp_lister.specs.Meter.{counts_of}
use Rattle.mdmp_lister.specs.HeldStep.{step_told}
use Rattle.mdmp_lister.specs.Step.{stream_told}
use Rattle.mdmp_lister.specs.Walk.Positions.{AnsweredFrom, mark_by, position_by}
use Rattle.mdmp_lister.proofs.Summary.{begins_as}
use Rattle.mdmp_lister.proofs.Walked.{begun_behind, fault_follows, fault_gives, fault_good, fault_leaves, fault_unsought, given_sought, item_follows, item_gives, item_leaves, none_follows, none_gives, none_leaves, none_unsought, request_fetched, request_spent, stop_again, walked_by, walked_by-behind}
use Rattle.mdmp_lister.proofs.walker.Walker.next.Goals as goal

pub returns-in-Ok-None : goal.returns-in-Ok-None
returns-in-Ok-None g c =
    let w = c.self.inside.walk in
    let p = c.self.inside.position in
    let n = c.advance_from.new.walk in
    let of = c.in-Ok-None.ensures in
    let none = c.in-Ok-None.field-0-is in
    let e : AnsweredFrom p w (Ok None) n = rw none at of.answered in
    let position : c.advance_from.new.position ≡ Within = rw none at of.position in
    let mark : c.advance_from.new.mark ≡ c.self.inside.mark = rw none at of.mark in
    rw (← c.self.view_is, position, mark) (
      (
        refl,
        λ _. tt,
        record { list = none_leaves w n p e; position = refl; mark = refl; spent = request_spent w n c.self.inside.mark c.self.invariant.within p (Ok None) e; fetched = request_fetched w n c.self.inside.mark c.self.invariant.within p (Ok None) e; unchanged = tt; nameless = of.nameless; follows = none_follows w n p e; begins = tt },
      ),
      record { gives = none_gives w n p e; leaves = tt; sought = λ number is. none_unsought w n p e number is; repeats = λ stop same. stop_again w n p (Ok None) e stop same; good = λ _ _. tt },
    )

pub returns-in-Ok-Some : goal.returns-in-Ok-Some
returns-in-Ok-Some g c =
    let w = c.self.inside.walk in
    let p = c.self.inside.position in
    let n = c.advance_from.new.walk in
    let s = step_told n.window.held c.in-Ok-Some.held in
    let x = c.item.result in
    let told = c.item.ensures.item in
    let sound = c.self.invariant.sound in
    let placed = c.self.invariant.placed in
    let of = c.in-Ok-Some.ensures in
    let some = c.in-Ok-Some.field-0-is in
    let e : AnsweredFrom p w (Ok (Some s)) n = rw some at of.answered in
    let position : c.advance_from.new.position ≡ position_by (stream_told s) = rw some at of.position in
    let mark : c.advance_from.new.mark ≡ mark_by (stream_told s) (counts_of n.meter) c.self.inside.mark = rw some at of.mark in
    let begins = begins_as n.meter.source.size n.name.items s x told in
    rw (← c.self.view_is, position, mark) (
      (
        refl,
        λ _. tt,
        record {
          list = subst (λ (v : ListerState). NextLeaves (walked_by p w) (Ok (Some x)) v) (sym (walked_by-behind (stream_told s) n)) (item_leaves w n s x told sound p placed e);
          position = rw begins refl;
          mark = rw begins refl;
          spent = request_spent w n c.self.inside.mark c.self.invariant.within p (Ok (Some s)) e;
          fetched = request_fetched w n c.self.inside.mark c.self.invariant.within p (Ok (Some s)) e;
          unchanged = tt;
          nameless = of.nameless;
          follows = λ going unsought. subst (λ (v : ListerState). AnswersNext (walked_by p w) (Ok (Some x)) v) (sym (walked_by-behind (stream_told s) n)) (item_follows w n p s x told e going unsought);
          begins = rw begins (begun_behind w n p s e);
        },
      ),
      record { gives = item_gives w n s x told sound p placed e; leaves = tt; sought = given_sought w n s x told p placed e; repeats = λ stop same. let again : None ≡ Some stop = stop_again w n p (Ok (Some s)) e stop same in absurd (cc); good = λ _ _. tt },
    )

pub returns-in-Err : goal.returns-in-Err
returns-in-Err g c =
    let w = c.self.inside.walk in
    let p = c.self.inside.position in
    let n = c.advance_from.new.walk in
    let f = c.in-Err.fault in
    let of = c.in-Err.ensures in
    rw (← c.self.view_is, of.position, of.mark) (
      (
        refl,
        λ _. tt,
        record { list = fault_leaves w n p f of.answered; position = refl; mark = refl; spent = request_spent w n c.self.inside.mark c.self.invariant.within p (Err f) of.answered; fetched = request_fetched w n c.self.inside.mark c.self.invariant.within p (Err f) of.answered; unchanged = of.unchanged; nameless = of.nameless; follows = fault_follows w n p f of.answered; begins = tt },
      ),
      record { gives = fault_gives w n p f of.answered; leaves = tt; sought = λ number is. fault_unsought w n p f of.answered number is; repeats = λ stop same. stop_again w n p (Err f) of.answered stop same; good = fault_good w n p f of.answered },
    )
