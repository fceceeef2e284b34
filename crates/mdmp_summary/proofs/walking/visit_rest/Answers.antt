use Rattle.std.proofs.Common.{◌≡◌, ◌∙◌, [], ◌∷◌, ◌++◌, Some, None, Ok, Err, refl, subst, sym}
use Rattle.std.specs.Prelude.{slice_get}
use Rattle.mdmp_wire.specs.declared.entry.Entry.{Entry}
use Rattle.mdmp_lister.specs.Fault.{IsToldIn}
use Rattle.mdmp_lister.specs.declared.meter.Amount.{Amount}
use Rattle.mdmp_lister.specs.Format.Item.{plain}
use Rattle.mdmp_lister.specs.Lister.{tail}
use Rattle.mdmp_lister.specs.Walker.{seeks}
use Rattle.mdmp_lister.proofs.Fetches.{told_in_later}
use Rattle.mdmp_lister.proofs.Handing.{give_all-next}
use Rattle.mdmp_lister.proofs.Standpoints.{run_fetch}
use Rattle.mdmp_summary.specs.Visiting.{IsAtMost, RisesOutside}
use Rattle.mdmp_summary.proofs.InEntries.{chosen_still, walked_fault, walked_item}
use Rattle.mdmp_summary.specs.InEntry.{IsInChosen}
use Rattle.mdmp_lister.specs.Walker.{WalkerState}
use Rattle.mdmp_summary.proofs.LeftOn.{if_begun, if_begun_outside, left_between, left_next, left_outside}
use Rattle.mdmp_lister.proofs.NamesFetched.{names_later, names_more, names_none}
use Rattle.mdmp_summary.proofs.NamesFetched.{names_one, names_read}
use Rattle.mdmp_summary.proofs.Over.{left_over, paid_head, paid_over, shown_over}
use Rattle.mdmp_summary.proofs.Paying.{both_outside, item_kept, look_end, look_ended, look_fault, paid_more, paid_none, paid_outside, unsought_behind}
use Rattle.mdmp_summary.proofs.Told.{end_later, good_still, next_listing, outside_listing, same_listing_none, same_listing_then}
use Rattle.mdmp_summary.proofs.Visited.{all_given, ended_reading, ended_taking, looked_same, outside_none, outside_one, outside_still, outside_then, shown_next}
use Rattle.mdmp_summary.proofs.walking.visit_rest.Goals as goal

pub loop-item-init : goal.loop-item-init
loop-item-init g c = record {
  same = same_listing_none c.args.walker.now.list;
  going = c.requires.going;
  spans = refl;
  shown = record { items = []; visited = refl; left = λ left known. (left, (known, refl)); outside = outside_none _ c.args.walker.now.list.counts.aside; named = names_none 1 c.args.walker.now.list.counts.fetched };
  left = left_between _ c.args.walker.now refl c.requires.between;
  paid = paid_none c.args.walker.now;
  walks = λ in_chosen. in_chosen;
}

pub loop-item-preserved : goal.loop-item-preserved
loop-item-preserved g c =
    let so_far = c.loop-item.invariant in
    let leaves = rw (c.in-Ok-Some.is, c.in-Ok-Some.field-0-is) at c.next.follows.holds-at-none in
    let x = c.in-Ok-Some.item in
    let old = c.args.walker.now in
    let now = c.loop-item.walker in
    let mid = c.next.follows.lender-at-none in
    let new = c.look.new.walker in
    let end = c.pass_unwanted.new.walker in
    let took = c.in-Ok.ensures in
    let look = c.in-Ok-look.ensures in
    let over = c.in-Ok-pass_unwanted.ensures.passes in
    let next = same_listing_then old.list now.list mid.list so_far.same (next_listing _ now.list mid.list leaves.list.same leaves.list.spends.fetches) in
    let same = same_listing_then old.list mid.list new.list next (outside_listing _ mid new look.reads) in
    let all = same_listing_then old.list new.list end.list same over.stays.same in
    let room = g.V.Visitor.room (g.V.Visitor.span c.args.visitor.now) in
    let fits = subst (λ n. IsAtMost (g.V.Visitor.owed c.take.new.self) (g.V.Visitor.room n (plain x))) so_far.spans took.owes in
    let outside : RisesOutside room (plain x ∷ []) mid.list.counts.aside new.list.counts.aside = outside_one room (plain x) (g.V.Visitor.owed c.take.new.self) mid.list.counts new.list.counts fits look.reads.aside in
    let content = old.list.source.store.content in
    record {
      same = all;
      going = over.stays.going;
      spans = look.spans ∙ took.spans ∙ so_far.spans;
      shown = shown_over g.V.Visitor.taken g.V.Visitor.looked room old.list c.args.visitor.now c.look.new.self new end
          (shown_next g.V.Visitor.taken g.V.Visitor.looked room old.list c.args.visitor.now now.list new.list (plain x) c.loop-item.visitor c.take.new.self c.look.new.self so_far.shown took.takes
          (looked_same g.V.Visitor.looked _ _ _ _ c.take.new.self (Ok tt) c.look.new.self next.same_file.fetches.same_content next.limit look.looks)
          (λ left is. (rw c.in-Ok-Some.field-0-is at (c.in-Ok-Some.ensures.gives left is), (λ i. (look.reads.same i).list.left) ∙ rw is at leaves.list.stands.left))
          (subst (λ (a : Amount). RisesOutside room (plain x ∷ []) a new.list.counts.aside) leaves.list.same.aside outside)
          (names_read now.list mid.list new.list x leaves.list.spends look.reads.aside.same_fetched))
          over;
      left = left_over g.V.Visitor.taken g.V.Visitor.looked room old.list c.args.visitor.now c.look.new.self new end content all.same_file.fetches.same_content over
          (left_outside _ mid new look.reads content (left_next now mid x (so_far.same.choice ∙ c.requires.all) leaves (λ number at. rw c.in-Ok-Some.field-0-is at (c.in-Ok-Some.ensures.sought number at))
          (λ left is. rw c.in-Ok-Some.field-0-is at (c.in-Ok-Some.ensures.gives left is)) content so_far.left));
      paid = paid_over old new end over.stays
          (paid_outside _ mid new look.reads old (paid_more old now mid so_far.same so_far.paid x c.requires.all so_far.going leaves (λ number at. rw c.in-Ok-Some.field-0-is at (c.in-Ok-Some.ensures.sought number at))));
      walks = λ in_chosen. λ not more. chosen_still new.list end.list over.stays.same.choice over.stays.same.entries over.stays.current (subst (λ (w : WalkerState). IsInChosen w.list) (sym look.reads.same)
          (walked_item now mid (so_far.same.choice ∙ c.requires.all) so_far.going (so_far.walks in_chosen) x leaves (λ number at. rw c.in-Ok-Some.field-0-is at (c.in-Ok-Some.ensures.sought number at))));
    }

-- the entry that was begun
pub pass_unwanted-requires-clause-begun : goal.pass_unwanted-requires-clause-begun
pass_unwanted-requires-clause-begun g c =
    let so_far = c.loop-item.invariant in
    let leaves = rw (c.in-Ok-Some.is, c.in-Ok-Some.field-0-is) at c.next.follows.holds-at-none in
    let now = c.loop-item.walker in
    let mid = c.next.follows.lender-at-none in
    let next = same_listing_then _ now.list mid.list so_far.same (next_listing _ now.list mid.list leaves.list.same leaves.list.spends.fetches) in
    if_begun_outside _ mid c.look.new.walker c.in-Ok-look.ensures.reads _
    (if_begun now mid c.in-Ok-Some.item (so_far.same.choice ∙ c.requires.all) leaves (λ number at. rw c.in-Ok-Some.field-0-is at (c.in-Ok-Some.ensures.sought number at))
    (λ left is. rw c.in-Ok-Some.field-0-is at (c.in-Ok-Some.ensures.gives left is)) c.args.walker.now.list.source.store.content next.same_file.fetches.same_content so_far.left _ c.begun_kind.ensures)

-- ---- the end

pub returns-in-Ok-None-clause-shows : goal.returns-in-Ok-None-clause-shows
returns-in-Ok-None-clause-shows g c =
    let run = c.loop-item.invariant.shown in
    let leaves = rw (c.in-Ok-None.is, c.in-Ok-None.field-0-is) at c.next.follows.holds-at-none in
    record {
      items = run.items;
      visited = run.visited;
      all = λ left known.
          let rest = run.left left known in
          all_given left run.items rest.0 None rest.1.1 (rw c.in-Ok-None.field-0-is at (c.in-Ok-None.ensures.gives rest.0 rest.1.0));
      outside = subst (λ (a : Amount). RisesOutside (g.V.Visitor.room (g.V.Visitor.span c.args.visitor.now)) run.items c.args.walker.now.list.counts.aside a) (sym leaves.list.same.aside) run.outside;
      named = names_later 1 run.items _ _ _ run.named leaves.list.spends.counts.more;
    }

pub returns-in-Ok-None-clause-ends : goal.returns-in-Ok-None-clause-ends
returns-in-Ok-None-clause-ends g c =
    let leaves = rw (c.in-Ok-None.is, c.in-Ok-None.field-0-is) at c.next.follows.holds-at-none in
    record {
      same = same_listing_then _ _ _ c.loop-item.invariant.same (next_listing _ _ _ leaves.list.same leaves.list.spends.fetches);
      stops = leaves.list.stands.stop;
    }

pub returns-in-Ok-None-clause-pays : goal.returns-in-Ok-None-clause-pays
returns-in-Ok-None-clause-pays g c =
    let so_far = c.loop-item.invariant in
    look_end c.args.walker.now c.loop-item.walker _ so_far.same so_far.paid (rw (c.in-Ok-None.is, c.in-Ok-None.field-0-is) at c.next.follows.holds-at-none)

-- ---- an error of the listing

pub returns-in-Err-clause-shows : goal.returns-in-Err-clause-shows
returns-in-Err-clause-shows g c =
    let run = c.loop-item.invariant.shown in
    let leaves = rw c.in-Err.is at c.next.follows.holds-at-none in
    let f = c.in-Err.fault in
    record {
      items = run.items;
      visited = run.visited;
      all = λ left known.
          let rest = run.left left known in
          ((rest.0, rest.1.1), λ not. all_given left run.items rest.0 (Some f) rest.1.1 (c.in-Err.ensures.gives rest.0 rest.1.0 not));
      outside = subst (λ (a : Amount). RisesOutside (g.V.Visitor.room (g.V.Visitor.span c.args.visitor.now)) run.items c.args.walker.now.list.counts.aside a) (sym leaves.list.same.aside) run.outside;
      named = names_later 1 run.items _ _ _ run.named leaves.list.spends.counts.more;
    }

pub returns-in-Err-clause-ends : goal.returns-in-Err-clause-ends
returns-in-Err-clause-ends g c =
    let so_far = c.loop-item.invariant in
    let leaves = rw c.in-Err.is at c.next.follows.holds-at-none in
    record {
      same = same_listing_then _ _ _ so_far.same (next_listing _ _ _ leaves.list.same leaves.list.spends.fetches);
      stops = (leaves.list.stands.stop, leaves.list.places.entry so_far.going ∙ sym leaves.list.places.passed);
    }

pub returns-in-Err-clause-fault : goal.returns-in-Err-clause-fault
returns-in-Err-clause-fault g c =
    let so_far = c.loop-item.invariant in
    let leaves = rw c.in-Err.is at c.next.follows.holds-at-none in
    let f = c.in-Err.fault in
    let fetches = leaves.list.spends.fetches in
    let before = so_far.same.same_file in
    let old = c.args.walker.now.list in
    let now = c.loop-item.walker.list in
    let new = c.next.follows.lender-at-none.list in
    record {
      told = subst (λ (e : Entry). IsToldIn e f old.source new.source) (sym leaves.list.places.current)
          (told_in_later now.current f before.count old.source now.source new.source before.fetches (leaves.list.told so_far.going));
      unchanged = leaves.unchanged;
      refused = leaves.list.spends.refused;
      next = run_fetch now new f leaves.list.same fetches.same_content fetches.same_size leaves.list.places.current (leaves.list.next so_far.going);
    }

pub returns-in-Err-clause-entry : goal.returns-in-Err-clause-entry
returns-in-Err-clause-entry g c = λ in_chosen.
    let so_far = c.loop-item.invariant in
    walked_fault c.loop-item.walker c.next.follows.lender-at-none (so_far.same.choice ∙ c.requires.all) so_far.going (so_far.walks in_chosen) c.in-Err.fault (rw c.in-Err.is at c.next.follows.holds-at-none) (λ number at. c.in-Err.ensures.sought number at)

pub returns-in-Err-clause-good : goal.returns-in-Err-clause-good
returns-in-Err-clause-good g c = λ file good.
    let before = c.loop-item.invariant.same.same_file in
    c.in-Err.ensures.good file (good_still file before.count _ _ before.fetches good)

pub returns-in-Err-clause-pays : goal.returns-in-Err-clause-pays
returns-in-Err-clause-pays g c =
    let so_far = c.loop-item.invariant in
    look_fault c.args.walker.now c.loop-item.walker _ so_far.same so_far.paid _ c.in-Err.fault (rw c.in-Err.is at c.next.follows.holds-at-none) (λ number at. c.in-Err.ensures.sought number at)

-- ---- a visitor that wants no more

pub returns-in-Err-take-clause-shows : goal.returns-in-Err-take-clause-shows
returns-in-Err-take-clause-shows g c =
    let so_far = c.loop-item.invariant in
    let run = so_far.shown in
    let leaves = rw (c.in-Ok-Some.is, c.in-Ok-Some.field-0-is) at c.next.follows.holds-at-none in
    let x = c.in-Ok-Some.item in
    let old = c.args.walker.now in
    let now = c.loop-item.walker in
    let mid = c.next.follows.lender-at-none in
    let room = g.V.Visitor.room (g.V.Visitor.span c.args.visitor.now) in
    record {
      items = run.items ++ plain x ∷ [];
      visited = ended_taking g.V.Visitor.taken (g.V.Visitor.looked old.list.source.store.content old.list.limit) run.items (plain x) c.args.visitor.now c.loop-item.visitor c.take.new.self run.visited c.in-Err-take.ensures.takes;
      all = λ run_left known.
          let rest = run.left run_left known in
          let first : slice_get rest.0.items 0 ≡ Some (plain x) = rw c.in-Ok-Some.field-0-is at (c.in-Ok-Some.ensures.gives rest.0 rest.1.0) in
          (tail rest.0, give_all-next run_left run.items (plain x) rest.0 rest.1.1 first);
      outside = outside_then room run.items (plain x ∷ []) old.list.counts.aside now.list.counts.aside mid.list.counts.aside run.outside (outside_still room (plain x) _ _ leaves.list.same.aside);
      named = names_more run.items (plain x ∷ []) old.list.counts.fetched now.list.counts.fetched mid.list.counts.fetched run.named (names_one now.list mid.list x leaves.list.spends);
    }

pub returns-in-Err-take-clause-ends : goal.returns-in-Err-take-clause-ends
returns-in-Err-take-clause-ends g c =
    let leaves = rw (c.in-Ok-Some.is, c.in-Ok-Some.field-0-is) at c.next.follows.holds-at-none in
    record {
      same = same_listing_then _ _ _ c.loop-item.invariant.same (next_listing _ _ _ leaves.list.same leaves.list.spends.fetches);
      stops = tt;
    }

pub returns-in-Err-take-clause-position : goal.returns-in-Err-take-clause-position
returns-in-Err-take-clause-position g c =
    let leaves = rw (c.in-Ok-Some.is, c.in-Ok-Some.field-0-is) at c.next.follows.holds-at-none in
    unsought_behind _ _ leaves.position

pub returns-in-Err-take-clause-pays : goal.returns-in-Err-take-clause-pays
returns-in-Err-take-clause-pays g c =
    let so_far = c.loop-item.invariant in
    let leaves = rw (c.in-Ok-Some.is, c.in-Ok-Some.field-0-is) at c.next.follows.holds-at-none in
    let x = c.in-Ok-Some.item in
    let old = c.args.walker.now in
    let now = c.loop-item.walker in
    let mid = c.next.follows.lender-at-none in
    look_ended _ old mid
    (paid_more old now mid so_far.same so_far.paid x c.requires.all so_far.going leaves (λ number at. rw c.in-Ok-Some.field-0-is at (c.in-Ok-Some.ensures.sought number at)))
    (item_kept now mid x leaves)

-- ---- a visitor that ended as it read

pub returns-in-Err-look-clause-shows : goal.returns-in-Err-look-clause-shows
returns-in-Err-look-clause-shows g c =
    let so_far = c.loop-item.invariant in
    let run = so_far.shown in
    let leaves = rw (c.in-Ok-Some.is, c.in-Ok-Some.field-0-is) at c.next.follows.holds-at-none in
    let x = c.in-Ok-Some.item in
    let old = c.args.walker.now in
    let now = c.loop-item.walker in
    let mid = c.next.follows.lender-at-none in
    let new = c.look.new.walker in
    let took = c.in-Ok.ensures in
    let look = c.in-Err-look.ensures in
    let next = same_listing_then old.list now.list mid.list so_far.same (next_listing _ now.list mid.list leaves.list.same leaves.list.spends.fetches) in
    let room = g.V.Visitor.room (g.V.Visitor.span c.args.visitor.now) in
    let fits = subst (λ n. IsAtMost (g.V.Visitor.owed c.take.new.self) (g.V.Visitor.room n (plain x))) so_far.spans took.owes in
    let outside : RisesOutside room (plain x ∷ []) mid.list.counts.aside new.list.counts.aside = outside_one room (plain x) (g.V.Visitor.owed c.take.new.self) mid.list.counts new.list.counts fits look.reads.aside in
    record {
      items = run.items ++ plain x ∷ [];
      visited = ended_reading g.V.Visitor.taken (g.V.Visitor.looked old.list.source.store.content old.list.limit) run.items (plain x) c.args.visitor.now c.loop-item.visitor c.take.new.self c.look.new.self c.in-Err-look.end
          run.visited took.takes (looked_same g.V.Visitor.looked _ _ _ _ c.take.new.self (Err c.in-Err-look.end) c.look.new.self next.same_file.fetches.same_content next.limit look.looks);
      all = λ run_left known.
          let rest = run.left run_left known in
          let first : slice_get rest.0.items 0 ≡ Some (plain x) = rw c.in-Ok-Some.field-0-is at (c.in-Ok-Some.ensures.gives rest.0 rest.1.0) in
          (tail rest.0, give_all-next run_left run.items (plain x) rest.0 rest.1.1 first);
      outside = outside_then room run.items (plain x ∷ []) old.list.counts.aside now.list.counts.aside new.list.counts.aside run.outside
          (subst (λ (a : Amount). RisesOutside room (plain x ∷ []) a new.list.counts.aside) leaves.list.same.aside outside);
      named = names_more run.items (plain x ∷ []) old.list.counts.fetched now.list.counts.fetched new.list.counts.fetched run.named (names_read now.list mid.list new.list x leaves.list.spends look.reads.aside.same_fetched);
    }

pub returns-in-Err-look-clause-ends : goal.returns-in-Err-look-clause-ends
returns-in-Err-look-clause-ends g c =
    let leaves = rw (c.in-Ok-Some.is, c.in-Ok-Some.field-0-is) at c.next.follows.holds-at-none in
    record {
      same = same_listing_then _ _ _ (same_listing_then _ _ _ c.loop-item.invariant.same (next_listing _ _ _ leaves.list.same leaves.list.spends.fetches))
          (outside_listing _ c.next.follows.lender-at-none c.look.new.walker c.in-Err-look.ensures.reads);
      stops = tt;
    }

pub returns-in-Err-look-clause-fault : goal.returns-in-Err-look-clause-fault
returns-in-Err-look-clause-fault g c =
    let leaves = rw (c.in-Ok-Some.is, c.in-Ok-Some.field-0-is) at c.next.follows.holds-at-none in
    let before = (same_listing_then _ _ _ c.loop-item.invariant.same (next_listing _ _ c.next.follows.lender-at-none.list leaves.list.same leaves.list.spends.fetches)).same_file in
    end_later c.in-Err-look.end before.count c.args.walker.now.list.source c.next.follows.lender-at-none.list.source c.look.new.walker.list.source before.fetches c.in-Err-look.ensures.told

pub returns-in-Err-look-clause-good : goal.returns-in-Err-look-clause-good
returns-in-Err-look-clause-good g c = λ file good.
    let leaves = rw (c.in-Ok-Some.is, c.in-Ok-Some.field-0-is) at c.next.follows.holds-at-none in
    let before = (same_listing_then _ _ _ c.loop-item.invariant.same (next_listing _ _ c.next.follows.lender-at-none.list leaves.list.same leaves.list.spends.fetches)).same_file in
    c.in-Err-look.ensures.good file (good_still file before.count _ _ before.fetches good)

pub returns-in-Err-look-clause-position : goal.returns-in-Err-look-clause-position
returns-in-Err-look-clause-position g c =
    let leaves = rw (c.in-Ok-Some.is, c.in-Ok-Some.field-0-is) at c.next.follows.holds-at-none in
    (λ i. seeks (c.in-Err-look.ensures.reads.same i).position) ∙ unsought_behind _ _ leaves.position

pub returns-in-Err-look-clause-pays : goal.returns-in-Err-look-clause-pays
returns-in-Err-look-clause-pays g c =
    let so_far = c.loop-item.invariant in
    let leaves = rw (c.in-Ok-Some.is, c.in-Ok-Some.field-0-is) at c.next.follows.holds-at-none in
    let x = c.in-Ok-Some.item in
    let old = c.args.walker.now in
    let now = c.loop-item.walker in
    let mid = c.next.follows.lender-at-none in
    let new = c.look.new.walker in
    let reads = c.in-Err-look.ensures.reads in
    look_ended _ old new
    (paid_outside _ mid new reads old
    (paid_more old now mid so_far.same so_far.paid x c.requires.all so_far.going leaves (λ number at. rw c.in-Ok-Some.field-0-is at (c.in-Ok-Some.ensures.sought number at))))
    (both_outside _ mid new reads (item_kept now mid x leaves))

-- ---- a head with an error

pub returns-in-Err-pass_unwanted-clause-shows : goal.returns-in-Err-pass_unwanted-clause-shows
returns-in-Err-pass_unwanted-clause-shows g c =
    let so_far = c.loop-item.invariant in
    let leaves = rw (c.in-Ok-Some.is, c.in-Ok-Some.field-0-is) at c.next.follows.holds-at-none in
    let x = c.in-Ok-Some.item in
    let old = c.args.walker.now in
    let now = c.loop-item.walker in
    let mid = c.next.follows.lender-at-none in
    let new = c.look.new.walker in
    let took = c.in-Ok.ensures in
    let look = c.in-Ok-look.ensures in
    let head = c.in-Err-pass_unwanted.ensures.meets in
    let f = c.in-Err-pass_unwanted.fault in
    let next = same_listing_then old.list now.list mid.list so_far.same (next_listing _ now.list mid.list leaves.list.same leaves.list.spends.fetches) in
    let room = g.V.Visitor.room (g.V.Visitor.span c.args.visitor.now) in
    let fits = subst (λ n. IsAtMost (g.V.Visitor.owed c.take.new.self) (g.V.Visitor.room n (plain x))) so_far.spans took.owes in
    let outside : RisesOutside room (plain x ∷ []) mid.list.counts.aside new.list.counts.aside = outside_one room (plain x) (g.V.Visitor.owed c.take.new.self) mid.list.counts new.list.counts fits look.reads.aside in
    let run = shown_next g.V.Visitor.taken g.V.Visitor.looked room old.list c.args.visitor.now now.list new.list (plain x) c.loop-item.visitor c.take.new.self c.look.new.self so_far.shown took.takes
    (looked_same g.V.Visitor.looked _ _ _ _ c.take.new.self (Ok tt) c.look.new.self next.same_file.fetches.same_content next.limit look.looks)
    (λ left is. (rw c.in-Ok-Some.field-0-is at (c.in-Ok-Some.ensures.gives left is), (λ i. (look.reads.same i).list.left) ∙ rw is at leaves.list.stands.left))
    (subst (λ (a : Amount). RisesOutside room (plain x ∷ []) a new.list.counts.aside) leaves.list.same.aside outside)
    (names_read now.list mid.list new.list x leaves.list.spends look.reads.aside.same_fetched) in
    record {
      items = run.items;
      visited = run.visited;
      all = λ left known.
          let rest = run.left left known in
          ((rest.0, rest.1.1), λ not. all_given left run.items rest.0 (Some f) rest.1.1 (head.left rest.0 rest.1.0 not));
      outside = subst (λ (a : Amount). RisesOutside room run.items old.list.counts.aside a) (sym head.counted.counts.same_aside) run.outside;
      named = names_later 1 run.items _ _ _ run.named head.counted.counts.more;
    }

pub returns-in-Err-pass_unwanted-clause-ends : goal.returns-in-Err-pass_unwanted-clause-ends
returns-in-Err-pass_unwanted-clause-ends g c =
    let leaves = rw (c.in-Ok-Some.is, c.in-Ok-Some.field-0-is) at c.next.follows.holds-at-none in
    let reads = c.in-Ok-look.ensures.reads in
    let counted = c.in-Err-pass_unwanted.ensures.meets.counted in
    record {
      same = same_listing_then _ _ _ (same_listing_then _ _ _ (same_listing_then _ _ _ c.loop-item.invariant.same (next_listing _ _ _ leaves.list.same leaves.list.spends.fetches))
          (outside_listing _ c.next.follows.lender-at-none c.look.new.walker reads)) (next_listing _ _ _ counted.same counted.fetches);
      stops = (counted.stop, (counted.told ((λ i. (reads.same i).list.stop) ∙ leaves.list.stands.stop)).1 ∙ sym counted.passed);
    }

pub returns-in-Err-pass_unwanted-clause-fault : goal.returns-in-Err-pass_unwanted-clause-fault
returns-in-Err-pass_unwanted-clause-fault g c =
    let leaves = rw (c.in-Ok-Some.is, c.in-Ok-Some.field-0-is) at c.next.follows.holds-at-none in
    let reads = c.in-Ok-look.ensures.reads in
    let counted = c.in-Err-pass_unwanted.ensures.meets.counted in
    let f = c.in-Err-pass_unwanted.fault in
    let new = c.look.new.walker.list in
    let end = c.pass_unwanted.new.walker.list in
    let before = (same_listing_then _ _ new (same_listing_then _ _ _ c.loop-item.invariant.same (next_listing _ _ _ leaves.list.same leaves.list.spends.fetches))
    (outside_listing _ c.next.follows.lender-at-none c.look.new.walker reads)).same_file in
    let going = (λ i. (reads.same i).list.stop) ∙ leaves.list.stands.stop in
    record {
      told = subst (λ (e : Entry). IsToldIn e f c.args.walker.now.list.source end.source) (sym counted.current)
          (told_in_later new.current f before.count c.args.walker.now.list.source new.source end.source before.fetches (counted.told going).0);
      unchanged = counted.unchanged;
      refused = counted.refused;
      next = run_fetch new end f counted.same counted.fetches.same_content counted.fetches.same_size counted.current (counted.next going);
    }

pub returns-in-Err-pass_unwanted-clause-entry : goal.returns-in-Err-pass_unwanted-clause-entry
returns-in-Err-pass_unwanted-clause-entry g c = λ in_chosen.
    let so_far = c.loop-item.invariant in
    let leaves = rw (c.in-Ok-Some.is, c.in-Ok-Some.field-0-is) at c.next.follows.holds-at-none in
    let counted = c.in-Err-pass_unwanted.ensures.meets.counted in
    chosen_still c.look.new.walker.list c.pass_unwanted.new.walker.list counted.same.choice counted.same.entries counted.current
    (subst (λ (w : WalkerState). IsInChosen w.list) (sym c.in-Ok-look.ensures.reads.same)
    (walked_item c.loop-item.walker c.next.follows.lender-at-none (so_far.same.choice ∙ c.requires.all) so_far.going (so_far.walks in_chosen) c.in-Ok-Some.item leaves
    (λ number at. rw c.in-Ok-Some.field-0-is at (c.in-Ok-Some.ensures.sought number at))))

pub returns-in-Err-pass_unwanted-clause-good : goal.returns-in-Err-pass_unwanted-clause-good
returns-in-Err-pass_unwanted-clause-good g c = λ file good.
    let leaves = rw (c.in-Ok-Some.is, c.in-Ok-Some.field-0-is) at c.next.follows.holds-at-none in
    let before = (same_listing_then _ _ c.look.new.walker.list (same_listing_then _ _ _ c.loop-item.invariant.same (next_listing _ _ _ leaves.list.same leaves.list.spends.fetches))
    (outside_listing _ c.next.follows.lender-at-none c.look.new.walker c.in-Ok-look.ensures.reads)).same_file in
    c.in-Err-pass_unwanted.ensures.meets.counted.good file (good_still file before.count _ _ before.fetches good)

pub returns-in-Err-pass_unwanted-clause-position : goal.returns-in-Err-pass_unwanted-clause-position
returns-in-Err-pass_unwanted-clause-position g c =
    let leaves = rw (c.in-Ok-Some.is, c.in-Ok-Some.field-0-is) at c.next.follows.holds-at-none in
    (λ i. seeks (c.in-Err-pass_unwanted.ensures.meets.counted.position i)) ∙ (λ i. seeks (c.in-Ok-look.ensures.reads.same i).position) ∙ unsought_behind _ _ leaves.position

pub returns-in-Err-pass_unwanted-clause-pays : goal.returns-in-Err-pass_unwanted-clause-pays
returns-in-Err-pass_unwanted-clause-pays g c =
    let so_far = c.loop-item.invariant in
    let leaves = rw (c.in-Ok-Some.is, c.in-Ok-Some.field-0-is) at c.next.follows.holds-at-none in
    let x = c.in-Ok-Some.item in
    let old = c.args.walker.now in
    let now = c.loop-item.walker in
    let mid = c.next.follows.lender-at-none in
    let new = c.look.new.walker in
    let reads = c.in-Ok-look.ensures.reads in
    let same = same_listing_then old.list mid.list new.list (same_listing_then old.list now.list mid.list so_far.same (next_listing _ now.list mid.list leaves.list.same leaves.list.spends.fetches)) (outside_listing _ mid new reads) in
    paid_head old new c.pass_unwanted.new.walker c.in-Err-pass_unwanted.fault c.in-Err-pass_unwanted.ensures.meets.counted _ same ((λ i. seeks (reads.same i).position) ∙ unsought_behind _ _ leaves.position)
    (paid_outside _ mid new reads old
    (paid_more old now mid so_far.same so_far.paid x c.requires.all so_far.going leaves (λ number at. rw c.in-Ok-Some.field-0-is at (c.in-Ok-Some.ensures.sought number at))))
