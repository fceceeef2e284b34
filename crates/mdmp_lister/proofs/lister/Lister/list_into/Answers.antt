use Rattle.std.proofs.Common.{◌≡◌, ◌∷◌, [], ◌++◌, ◌∙◌, Some, None, sym, ap, arith, refl, subst}
use Rattle.std.proofs.lemmas.List.{append-nil}
use Rattle.std.specs.Prelude.{slice_get}
use Rattle.mdmp_source.specs.Store.{IsGood}
use Rattle.mdmp_lister.specs.declared.fault.ListFault.{ListFault}
use Rattle.mdmp_lister.specs.Costs.{bad_name_cost}
use Rattle.mdmp_lister.specs.Fault.{IsOfStore}
use Rattle.mdmp_lister.specs.Format.Item.{plain}
use Rattle.mdmp_lister.specs.Sink.{give_all}
use Rattle.mdmp_lister.specs.Lister.{ListerState, tail}
use Rattle.mdmp_lister.proofs.Standpoints.{run_fetch}
use Rattle.mdmp_lister.specs.Format.Listing.{nothing, only_fault}
use Rattle.mdmp_lister.proofs.Advancing.{current_after-plain, passed_after-plain}
use Rattle.mdmp_lister.proofs.Cursors.{ComeNext-more}
use Rattle.mdmp_lister.proofs.Spending.{HasCost-end, HasCost-more, HasCost-most, HasCost-none}
use Rattle.mdmp_lister.proofs.Handing.{AllClassed-more, current_behind-more, end_comes, fault_comes, give_all-next, item_comes, names_of_all-more, passed_behind-more, rose_exactly, same_lister-then, Taken-more, TakenToStop-end}
use Rattle.mdmp_lister.proofs.Mapping.{ranges_of-more}
use Rattle.mdmp_lister.proofs.Requested.{aside_none, item_requested, requested_more}
use Rattle.mdmp_lister.proofs.lister.Lister.list_into.Goals as goal

pub loop-item-init : goal.loop-item-init
loop-item-init g c = record {
  same = record { header_is = refl; entries = refl; choice = refl; limit = refl; rooms = refl; aside = refl; start = refl; budget = refl };
  going = λ none. none;
  stays = λ stop same. (refl, refl);
  rests = omega arith;
  given = record {
    items = [];
    taken = refl;
    passed = refl;
    current = refl;
    classed = tt;
    ranges = sym (append-nil c.args.self.now.ranges);
    left = λ left known. (left, (known, refl));
    names = omega arith;
    cost = HasCost-none c.args.self.now.unread c.args.self.now.source;
    requested = aside_none c.args.self.now;
    come = λ _. refl;
  };
}

pub returns-in-Ok-None-clause-same : goal.returns-in-Ok-None-clause-same
returns-in-Ok-None-clause-same g c = same_lister-then _ _ _ c.loop-item.invariant.same c.next.follows.holds-at-none.list.same

pub returns-in-Err-clause-same : goal.returns-in-Err-clause-same
returns-in-Err-clause-same g c = same_lister-then _ _ _ c.loop-item.invariant.same c.next.follows.holds-at-none.list.same

pub returns-in-Err-take-clause-same : goal.returns-in-Err-take-clause-same
returns-in-Err-take-clause-same g c = same_lister-then _ _ _ c.loop-item.invariant.same c.next.follows.holds-at-none.list.same

pub returns-in-Err-take-clause-runs : goal.returns-in-Err-take-clause-runs
returns-in-Err-take-clause-runs g c =
    let run = c.loop-item.invariant.given in
    let leaves = c.next.follows.holds-at-none in
    let holds = leaves.list in
    let x = c.in-Ok-Some.item in
    let now = rw (c.in-Ok-Some.is, c.in-Ok-Some.field-0-is) at holds.places.current in
    let cost = HasCost-more _ _ _ _ run.items _ _ run.cost x (rw (c.in-Ok-Some.is, c.in-Ok-Some.field-0-is) at holds.spends.fetches)
    (rw (c.in-Ok-Some.is, c.in-Ok-Some.field-0-is) at holds.spends.unread) in
    record {
      items = run.items ++ plain x ∷ [];
      handed = TakenToStop-end g.K.Sink.step (plain x) run.items c.args.sink.now c.loop-item.sink c.take.new.self run.taken c.in-Err-take.ensures;
      passed = passed_behind-more run.items (plain x) _ _ _ run.passed (rw (c.in-Ok-Some.is, c.in-Ok-Some.field-0-is) at holds.places.passed ∙ sym (passed_after-plain x _));
      current = current_behind-more run.items (plain x) _ _ _ run.current (now ∙ sym (current_after-plain x _));
      classed = AllClassed-more _ run.items x _ _ c.next.follows.lender-at-none.current run.classed run.current now
          (rw (run.cost.fetches.same_size, c.in-Ok-Some.is, c.in-Ok-Some.field-0-is) at holds.places.classed);
      ranges = ranges_of-more _ _ _ run.items x run.ranges (rw (c.in-Ok-Some.is, c.in-Ok-Some.field-0-is) at leaves.ranges);
      left = λ run_left known.
          let rest = run.left run_left known in
          let first : slice_get rest.0.items 0 ≡ Some (plain x) = rw c.in-Ok-Some.field-0-is at (c.in-Ok-Some.ensures.gives rest.0 rest.1.0) in
          (tail rest.0, (rw (c.in-Ok-Some.is, c.in-Ok-Some.field-0-is, rest.1.0) at holds.stands.left, give_all-next run_left run.items (plain x) rest.0 rest.1.1 first));
      names = names_of_all-more run.items x _ _ _ run.names (rose_exactly _ _ _ leaves.few_names (rw (c.in-Ok-Some.is, c.in-Ok-Some.field-0-is) at holds.spends.names));
      names_at_end = λ _. tt;
      fetches = HasCost-most _ _ _ _ _ cost;
      unread = cost.within;
      follows = λ going.
          let next = rw (c.in-Ok-Some.is, c.in-Ok-Some.field-0-is) at (leaves.follows (c.loop-item.invariant.going going)) in
          record {
            behind = _;
            come = ComeNext-more _ _ _ _ _ _ _ run.items (plain x) (run.come going) (item_comes c.args.self.now c.loop-item.self _ c.loop-item.invariant.same run.cost.fetches.same_size x next);
            ends = refl;
          };
      next = λ going. tt;
      requests = record { behind = _; requested = requested_more _ _ _ _ run.items (plain x) run.requested (item_requested _ x _ (rw (c.in-Ok-Some.is, c.in-Ok-Some.field-0-is) at leaves) (λ left known. rw c.in-Ok-Some.field-0-is at (c.in-Ok-Some.ensures.gives left known))) (aside_none _); ended = refl };
    }

pub loop-item-preserved : goal.loop-item-preserved
loop-item-preserved g c =
    let so_far = c.loop-item.invariant in
    let run = so_far.given in
    let leaves = c.next.follows.holds-at-none in
    let holds = leaves.list in
    let x = c.in-Ok-Some.item in
    let now = rw (c.in-Ok-Some.is, c.in-Ok-Some.field-0-is) at holds.places.current in
    record {
      same = same_lister-then _ _ _ so_far.same holds.same;
      going = λ unstopped. rw (c.in-Ok-Some.is, c.in-Ok-Some.field-0-is) at holds.stands.stop;
      stays = λ stop same.
          let stopped : c.loop-item.self.stop ≡ Some stop = ap (λ (l : ListerState). l.stop) (so_far.stays stop same).0 ∙ same in
          let answer : None ≡ Some stop = rw c.in-Ok-Some.field-0-is at (c.in-Ok-Some.ensures.repeats stop stopped) in
          absurd (cc);
      rests = omega (arith, so_far.rests, holds.stands.rests);
      given = record {
        items = run.items ++ plain x ∷ [];
        taken = Taken-more g.K.Sink.step (plain x) run.items c.args.sink.now c.loop-item.sink c.take.new.self run.taken c.in-Ok.ensures;
        passed = passed_behind-more run.items (plain x) _ _ _ run.passed (rw (c.in-Ok-Some.is, c.in-Ok-Some.field-0-is) at holds.places.passed ∙ sym (passed_after-plain x _));
        current = current_behind-more run.items (plain x) _ _ _ run.current (now ∙ sym (current_after-plain x _));
        classed = AllClassed-more _ run.items x _ _ c.next.follows.lender-at-none.current run.classed run.current now
            (rw (run.cost.fetches.same_size, c.in-Ok-Some.is, c.in-Ok-Some.field-0-is) at holds.places.classed);
        ranges = ranges_of-more _ _ _ run.items x run.ranges (rw (c.in-Ok-Some.is, c.in-Ok-Some.field-0-is) at leaves.ranges);
        left = λ run_left known.
            let rest = run.left run_left known in
            let first : slice_get rest.0.items 0 ≡ Some (plain x) = rw c.in-Ok-Some.field-0-is at (c.in-Ok-Some.ensures.gives rest.0 rest.1.0) in
            (tail rest.0, (rw (c.in-Ok-Some.is, c.in-Ok-Some.field-0-is, rest.1.0) at holds.stands.left, give_all-next run_left run.items (plain x) rest.0 rest.1.1 first));
        names = names_of_all-more run.items x _ _ _ run.names (rose_exactly _ _ _ leaves.few_names (rw (c.in-Ok-Some.is, c.in-Ok-Some.field-0-is) at holds.spends.names));
        cost = HasCost-more _ _ _ _ run.items _ _ run.cost x (rw (c.in-Ok-Some.is, c.in-Ok-Some.field-0-is) at holds.spends.fetches)
            (rw (c.in-Ok-Some.is, c.in-Ok-Some.field-0-is) at holds.spends.unread);
        requested = requested_more _ _ _ _ run.items (plain x) run.requested (item_requested _ x _ (rw (c.in-Ok-Some.is, c.in-Ok-Some.field-0-is) at leaves) (λ left known. rw c.in-Ok-Some.field-0-is at (c.in-Ok-Some.ensures.gives left known))) (aside_none _);
        come = λ going.
            let next = rw (c.in-Ok-Some.is, c.in-Ok-Some.field-0-is) at (leaves.follows (so_far.going going)) in
            ComeNext-more _ _ _ _ _ _ _ run.items (plain x) (run.come going) (item_comes c.args.self.now c.loop-item.self _ so_far.same run.cost.fetches.same_size x next);
      };
    }

pub returns-in-Err-clause-runs : goal.returns-in-Err-clause-runs
returns-in-Err-clause-runs g c =
    let so_far = c.loop-item.invariant in
    let run = so_far.given in
    let leaves = c.next.follows.holds-at-none in
    let holds = leaves.list in
    let f = c.in-Err.fault in
    let none = rw c.in-Err.is at holds.spends.unread in
    record {
      items = run.items;
      handed = run.taken;
      passed = (rw c.in-Err.is at holds.places.passed) ∙ run.passed;
      current = (rw c.in-Err.is at holds.places.current) ∙ run.current;
      classed = run.classed;
      ranges = (rw c.in-Err.is at leaves.ranges) ∙ append-nil _ ∙ run.ranges;
      left = λ run_left known.
          let rest = run.left run_left known in
          (only_fault f, (rw (c.in-Err.is, rest.1.0) at holds.stands.left, ((rest.0, rest.1.1), (λ not. rest.1.1 ∙ ap (give_all run.items) (c.in-Err.ensures.gives rest.0 rest.1.0 not), refl))));
      names = (omega (arith, run.names, holds.spends.counts.more_names), omega (arith, run.names, holds.spends.counts.most_names));
      names_at_end = λ going. let at = rw c.in-Err.is at (holds.spends.names_at_fault (so_far.going going)) in (omega (arith, run.names, at.0, leaves.few_names), omega (arith, run.names, at.1));
      fetches = HasCost-end _ _ _ _ run.items _ _ run.cost _ _ (rw c.in-Err.is at holds.spends.fetches) (ap (λ n. bad_name_cost n f.kind) so_far.same.limit) none;
      unread = omega (arith, none);
      follows = λ going.
          let next = rw c.in-Err.is at (leaves.follows (so_far.going going)) in
          record { behind = _; come = run.come going; ends = fault_comes c.args.self.now c.loop-item.self _ so_far.same run.cost.fetches.same_size f next };
      next = λ going.
          run_fetch c.loop-item.self _ f holds.same holds.spends.fetches.same_content holds.spends.fetches.same_size (rw c.in-Err.is at holds.places.current)
          (rw c.in-Err.is at (holds.next (so_far.going going)));
      requests = record { behind = _; requested = run.requested; ended = record { leaves = rw c.in-Err.is at leaves; gives = c.in-Err.ensures.gives } };
    }

pub returns-in-Ok-None-clause-runs : goal.returns-in-Ok-None-clause-runs
returns-in-Ok-None-clause-runs g c =
    let run = c.loop-item.invariant.given in
    let leaves = c.next.follows.holds-at-none in
    let holds = leaves.list in
    let none = rw (c.in-Ok-None.is, c.in-Ok-None.field-0-is) at holds.spends.unread in
    record {
      items = run.items;
      handed = run.taken;
      passed = tt;
      current = (rw (c.in-Ok-None.is, c.in-Ok-None.field-0-is) at holds.places.current) ∙ run.current;
      classed = run.classed;
      ranges = (rw (c.in-Ok-None.is, c.in-Ok-None.field-0-is) at leaves.ranges) ∙ append-nil _ ∙ run.ranges;
      left = λ run_left known.
          let rest = run.left run_left known in
          let none : rest.0 ≡ nothing = rw c.in-Ok-None.field-0-is at (c.in-Ok-None.ensures.gives rest.0 rest.1.0) in
          (rest.0, (rw (c.in-Ok-None.is, c.in-Ok-None.field-0-is, rest.1.0) at holds.stands.left, (rest.1.1 ∙ ap (give_all run.items) none, none)));
      names = let none = rw (c.in-Ok-None.is, c.in-Ok-None.field-0-is) at holds.spends.names in omega (arith, none, run.names);
      names_at_end = λ _. tt;
      fetches = HasCost-end _ _ _ _ run.items _ _ run.cost 0 0 (rw (c.in-Ok-None.is, c.in-Ok-None.field-0-is) at holds.spends.fetches) refl none;
      unread = omega (arith, none);
      follows = λ going.
          let next = rw (c.in-Ok-None.is, c.in-Ok-None.field-0-is) at (leaves.follows (c.loop-item.invariant.going going)) in
          record { behind = _; come = run.come going; ends = end_comes c.args.self.now c.loop-item.self _ c.loop-item.invariant.same run.cost.fetches.same_size next };
      next = λ going. tt;
      requests = record { behind = _; requested = run.requested; ended = record { leaves = rw (c.in-Ok-None.is, c.in-Ok-None.field-0-is) at leaves; gives = λ left known. rw c.in-Ok-None.field-0-is at (c.in-Ok-None.ensures.gives left known) } };
    }

pub returns-in-Err-clause-good : goal.returns-in-Err-clause-good
returns-in-Err-clause-good g c = λ file good fault is of.
    let fetched = c.loop-item.invariant.given.cost.fetches in
    let now : IsGood c.loop-item.self.source.store file = record { known = fetched.same_content ∙ good.known; reliable = rw fetched.same_reliable good.reliable } in
    let same : c.in-Err.fault ≡ fault = cc in
    c.in-Err.ensures.good file now (subst (λ (f : ListFault). IsOfStore f.kind) (sym same) of)

pub returns-in-Err-take-clause-stop : goal.returns-in-Err-take-clause-stop
returns-in-Err-take-clause-stop g c = rw (c.in-Ok-Some.is, c.in-Ok-Some.field-0-is) at c.next.follows.holds-at-none.list.stands.stop
