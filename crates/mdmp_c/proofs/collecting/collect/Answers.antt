use Rattle.std.proofs.Common.{rules, ◌≡◌, ◌∙◌, ◌+◌, ◌++◌, ◌∷◌, [], ap, arith, Some, None, refl, sym}
use Rattle.std.specs.Prelude.{slice_get}
use Rattle.mdmp_source.specs.SourceLaws.{fetches_then}
use Rattle.mdmp_source.specs.Store.{IsGood}
use Rattle.mdmp_lister.proofs.Fetches.{IsGood-later}
use Rattle.mdmp_lister.specs.Format.Item.{plain}
use Rattle.mdmp_lister.proofs.Handing.{same_lister-then}
use Rattle.mdmp_lister.specs.declared.fault.FaultKind.TheVariants as kinds
use Rattle.mdmp_lister.specs.Format.Listing.{nothing}
use Rattle.mdmp_lister.specs.Format.Numbers.{maybe_name}
use Rattle.mdmp_lister.specs.Lister.{tail}
use Rattle.mdmp_lister.specs.Sink.{names_of_all}
use Rattle.mdmp_c.specs.Limits.{most_read}
use Rattle.mdmp_c.specs.Table.{EndsListAt}
use Rattle.mdmp_lister.proofs.Requested.{aside_none, item_requested, requested_more}
use Rattle.mdmp_engines.proofs.Asking.{given_end, given_fault}
use Rattle.mdmp_lister.proofs.Standpoints.{run_fetch}
use Rattle.mdmp_summary.proofs.InEntries.{answers_fault, answers_item}
use Rattle.mdmp_c.proofs.Coming.{lists_on}
use Rattle.mdmp_c.proofs.Gathered.{Collects-end, Collects-fault, HasCollected-more, HasCollected-nothing, names_left}
use Rattle.mdmp_c.proofs.Stopping.{listing_over}
use Rattle.mdmp_c.proofs.collecting.collect.Goals as goal

pub loop-item-init : goal.loop-item-init
loop-item-init g c = record {
  source = search rules;
  going = c.requires.going;
  stands = λ in_chosen. in_chosen;
  same = record { header_is = refl; entries = refl; choice = refl; limit = refl; rooms = refl; aside = refl; start = refl; budget = refl };
  requested = ([], aside_none _);
  collected = λ file good run known. (run, (known, (HasCollected-nothing g.T.PlainRow.row_of run c.args.out.now, refl)));
}

pub returns-in-Ok-None : goal.returns-in-Ok-None
returns-in-Ok-None g c = λ file good run known.
    let so_far = c.loop-item.invariant.collected file good run known in
    let end : so_far.0 ≡ nothing = rw c.in-Ok-None.field-0-is at (c.in-Ok-None.ensures.gives so_far.0 so_far.1.0) in
    let asked = c.loop-item.invariant.requested in
    Collects-end g.T.PlainRow.row_of _ _ run so_far.0 _ None _ _ so_far.1.1.0 end
    (given_end asked.0 c.args.lister.now c.loop-item.lister c.next.follows.lender-at-none run asked.1 record {
      leaves = rw (c.in-Ok-None.is, c.in-Ok-None.field-0-is) at c.next.follows.holds-at-none;
      gives = λ left known. rw c.in-Ok-None.field-0-is at (c.in-Ok-None.ensures.gives left known);
    } known)

pub loop-item-preserved : goal.loop-item-preserved
loop-item-preserved g c =
    let so_far = c.loop-item.invariant.source in
    let holds = c.next.follows.holds-at-none in
    record {
      source = record { count = so_far.count + _; fetches = fetches_then _ _ _ _ _ so_far.fetches holds.list.spends.fetches };
      going = rw (c.in-Ok-Some.is, c.in-Ok-Some.field-0-is) at holds.list.stands.stop;
      stands = λ in_chosen more. answers_item c.loop-item.lister c.next.follows.lender-at-none holds.list.same.choice holds.list.same.entries (c.loop-item.invariant.stands in_chosen) c.in-Ok-Some.item
          (rw (c.in-Ok-Some.is, c.in-Ok-Some.field-0-is) at (holds.follows c.loop-item.invariant.going));
      same = same_lister-then _ _ _ c.loop-item.invariant.same holds.list.same;
      requested =
          let so_far = c.loop-item.invariant.requested in
          let x = c.in-Ok-Some.item in (
            so_far.0 ++ plain x ∷ [],
            requested_more _ _ _ _ so_far.0 (plain x) so_far.1 (item_requested _ x _ (rw (c.in-Ok-Some.is, c.in-Ok-Some.field-0-is) at holds) (λ left known. rw c.in-Ok-Some.field-0-is at (c.in-Ok-Some.ensures.gives left known)))
                (aside_none _),
          );
      collected = λ file good run known.
          let before = c.loop-item.invariant.collected file good run known in
          let first : slice_get before.0.items 0 ≡ Some (plain c.in-Ok-Some.item) = rw c.in-Ok-Some.field-0-is at (c.in-Ok-Some.ensures.gives before.0 before.1.0) in (
            tail before.0,
            (
              rw (c.in-Ok-Some.is, c.in-Ok-Some.field-0-is, before.1.0) at holds.list.stands.left,
              (
                HasCollected-more g.T.PlainRow.row_of run before.0 _ _ _ _ _ (plain c.in-Ok-Some.item) c.of.result before.1.1.0 first (sym c.of.ensures) c.take_row-count.ensures,
                names_left before.0 c.in-Ok-Some.item _ _ _ first before.1.1.1 holds.few_names (rw (c.in-Ok-Some.is, c.in-Ok-Some.field-0-is) at holds.list.spends.names),
              ),
            ),
          );
    }

pub returns-in-Err : goal.returns-in-Err
returns-in-Err g c = λ file good run known.
    let so_far = c.loop-item.invariant.collected file good run known in
    let fetched = c.loop-item.invariant.source.fetches in
    let now : IsGood c.loop-item.lister.source.store file = IsGood-later file _ _ _ fetched good in
    let old = c.args.lister.now in
    let new = c.next.follows.lender-at-none in
    let holds = c.next.follows.holds-at-none.list in
    let spends = holds.spends in
    let counts = c.counts-counts.ensures in
    let content = spends.fetches.same_content ∙ now.known in
    let refused = rw c.in-Err.is at spends.refused in
    let names = (rw c.in-Err.is at (spends.names_at_fault c.loop-item.invariant.going)).1 in
    let ended : c.in-Err.fault.kind ≡ kinds.Budget → EndsListAt old (most_read file old.choice old.limit (old.counts.names + names_of_all run.items)) c.in-Err.fault =
    λ is. listing_over old new file (names_of_all run.items) c.counts-counts.result c.in-Err.fault
    (lists_on old new (same_lister-then _ _ _ c.loop-item.invariant.same holds.same) (spends.fetches.same_content ∙ fetched.same_content) (spends.fetches.same_size ∙ fetched.same_size))
    counts.value (counts.of_file file content) counts.held counts.spent (omega (arith, names, ap maybe_name is, so_far.1.1.1)) refused
    (run_fetch c.loop-item.lister new c.in-Err.fault holds.same spends.fetches.same_content spends.fetches.same_size (rw c.in-Err.is at holds.places.current) (rw c.in-Err.is at (holds.next c.loop-item.invariant.going)))
    (λ in_chosen. answers_fault c.loop-item.lister new holds.same.choice holds.same.entries (c.loop-item.invariant.stands in_chosen) c.in-Err.fault (rw c.in-Err.is at (c.next.follows.holds-at-none.follows c.loop-item.invariant.going))) is in
    let asked = c.loop-item.invariant.requested in
    Collects-fault g.T.PlainRow.row_of _ _ run so_far.0 _ c.in-Err.fault _ _ so_far.1.1.0 (c.in-Err.ensures.good file now) (c.in-Err.ensures.gives so_far.0 so_far.1.0) ended
    (λ not. given_fault asked.0 old c.loop-item.lister new c.in-Err.fault run asked.1 record { leaves = rw c.in-Err.is at c.next.follows.holds-at-none; gives = c.in-Err.ensures.gives } not known)
