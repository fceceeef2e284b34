-- A run into a sink that looks at no item.
use Rattle.std.proofs.Common.{◌≡◌, ◌∙◌, ◌∷◌, [], List, None, sym, ap, inl, inr}
use Rattle.std.specs.Prelude.{Result, Ok}
use Rattle.std.proofs.lemmas.List.{append-nil}
use Rattle.mdmp_lister.specs.declared.item.Item.{Item}
use Rattle.mdmp_lister.specs.declared.sink.Stopped.{Stopped}
use Rattle.mdmp_lister.specs.Sink.{TakenToStop, give_all}
use Rattle.mdmp_lister.specs.Format.Listing.{Run, nothing}
use Rattle.mdmp_lister.specs.Format.Ranges.{ranges_of}

-- a sink that always takes its item never stops a run
pub never_stopped : {K : Type 0} (xs : List Item) (k new : K) → TakenToStop (λ (old : K) (x : Item) (r : Result (Unit {0}) Stopped) (m : K). r ≡ Ok tt) k xs new → ⊥
never_stopped [] k new stopped = stopped
never_stopped (x ∷ xs) k new (inl last) = let wrong = last.1 in absurd (cc)
never_stopped (x ∷ xs) k new (inr more) = never_stopped xs more.0 new more.1.1

-- all that was left was given
pub ranges-all : (left : Run) (xs : List Item) → left ≡ give_all xs nothing → (left.fault ≡ None) × (ranges_of xs ≡ ranges_of left.items)
ranges-all left xs all = (
  ap (λ (run : Run). run.fault) all,
  ap ranges_of (sym (ap (λ (run : Run). run.items) all ∙ append-nil xs)),
)
