-- What a request for the next item leaves of a lister, by what it leaves of the walk and of the map.
use Rattle.std.proofs.Common.{◌≡◌, ◌∙◌, ◌++◌, ◌∷◌, List, [], Option, Some, None, Result, Ok, Err, ap, refl, sym}
use Rattle.std.proofs.lemmas.List.{append-nil}
use Rattle.mdmp_map.specs.declared.range.Range.{Range}
use Rattle.mdmp_map.specs.Map.{MapState}
use Rattle.mdmp_lister.specs.declared.fault.ListFault.{ListFault}
use Rattle.mdmp_lister.specs.declared.item.Item.{Item}
use Rattle.mdmp_lister.specs.declared.step.Step.{Step}
use Rattle.mdmp_lister.specs.declared.walk.Walk.{Walk}
use Rattle.mdmp_lister.specs.Format.Item.{plain}
use Rattle.mdmp_lister.specs.Format.Listing.{Run}
use Rattle.mdmp_lister.specs.Format.Ranges.{ranges_of}
use Rattle.mdmp_lister.specs.Lister.{Gives, ListerLeaves, ListerState}
use Rattle.mdmp_lister.specs.Meter.{KeepsTo}
use Rattle.mdmp_lister.specs.Stage.{stop_after}
use Rattle.mdmp_lister.specs.Step.{step_item}
use Rattle.mdmp_lister.specs.Walk.Mapping.{IsMapped}
use Rattle.mdmp_lister.specs.Walk.Requests.{Answered}
use Rattle.mdmp_lister.proofs.Leaving.{follows_fault, follows_item, follows_none, gives_fault, gives_item, gives_none, leaves_fault, leaves_item, leaves_none, listed_by}
use Rattle.mdmp_lister.proofs.Mapping.{ranges_of-plain}
use Rattle.mdmp_lister.proofs.Paying.{few_names}

-- what it leaves, gives and answers again
pub record Listed (old : ListerState) (result : Result (Option Item) ListFault) (new : ListerState) : Type 0 where
  pub leaves : ListerLeaves old result new
  pub gives : (left : Run) → old.left ≡ Some left → Gives left result
  pub repeats : (stop : Option ListFault) → old.stop ≡ Some stop → stop_after result ≡ Some stop

module _ {S A : Type 0} (w n : Walk S A) (m after : MapState) (mapped : IsMapped n after) (keeps : KeepsTo n.meter.budget n.meter.fetched) where
  -- the map stays where nothing is given
  stays : after ≡ record m { ranges = m.ranges ++ [] } → after ≡ m
  stays pushed = pushed ∙ ap (λ (rs : List Range). record m { ranges = rs }) (append-nil m.ranges)

  pub listed_none : Answered w (Ok None) n → after ≡ record m { ranges = m.ranges ++ [] } → Listed (listed_by m.ranges m.room w) (Ok None) (listed_by after.ranges after.room n)
  listed_none e pushed =
      rw (stays pushed) (record {
        leaves = record { list = leaves_none w n m.room m.ranges e; follows = follows_none w n m.room m.ranges m.ranges e; ranges = sym (append-nil m.ranges); few_names = few_names n mapped.bounded; kept = keeps };
        gives = gives_none w n m.room m.ranges e;
        repeats = λ stop same. (e.repeats stop same).1;
      })

  pub listed_fault : (f : ListFault) → Answered w (Err f) n → after ≡ record m { ranges = m.ranges ++ [] } → Listed (listed_by m.ranges m.room w) (Err f) (listed_by after.ranges after.room n)
  listed_fault f e pushed =
      rw (stays pushed) (record {
        leaves = record { list = leaves_fault w n m.room m.ranges f e; follows = follows_fault w n m.room m.ranges m.ranges f e; ranges = sym (append-nil m.ranges); few_names = few_names n mapped.bounded; kept = keeps };
        gives = gives_fault w n m.room m.ranges f e;
        repeats = λ stop same. (e.repeats stop same).1;
      })

  pub listed_item : (s : Step) (x : Item) → Answered w (Ok (Some s)) n → plain x ≡ step_item n.meter.source.size n.name.items s
      → after ≡ record m { ranges = m.ranges ++ ranges_of (step_item n.meter.source.size n.name.items s ∷ []) } → Listed (listed_by m.ranges m.room w) (Ok (Some x)) (listed_by after.ranges after.room n)
  listed_item s x e of pushed =
      let ranges : ranges_of (step_item n.meter.source.size n.name.items s ∷ []) ≡ ranges_of (x ∷ []) = ap (λ (y : Item). ranges_of (y ∷ [])) (sym of) ∙ ranges_of-plain x in
      rw (pushed ∙ ap (λ (rs : List Range). record m { ranges = m.ranges ++ rs }) ranges) (record {
        leaves = record { list = leaves_item w n m.room m.ranges _ s x e of; follows = follows_item w n m.room m.ranges _ s x e of; ranges = refl; few_names = few_names n mapped.bounded; kept = keeps };
        gives = gives_item w n m.room m.ranges m.ranges s x e of;
        repeats = λ stop same. let a : None ≡ Some stop = (e.repeats stop same).1 in absurd (cc);
      })
