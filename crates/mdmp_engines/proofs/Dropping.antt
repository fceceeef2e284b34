-- A source over a store that was dropped.
use Rattle.std.proofs.Common.{◌≡◌, ◌∙◌, ℕ, List, Some, subst}
use Rattle.std.specs.Prelude.{Result}
use Rattle.mdmp_source.specs.Source.{SourceState}
use Rattle.mdmp_source.specs.Store.{StoreState}
use Rattle.mdmp_lister.specs.declared.limits.Limits.{Limits}
use Rattle.mdmp_engines.specs.declared.fault.ToolFault.{ToolFault}
use Rattle.mdmp_engines.specs.Copying.{SpendsCopy, SpendsWithin, first_not_copied}
use Rattle.mdmp_engines.specs.Dropping.{DropsCopied, DropsStore}
use Rattle.mdmp_engines.specs.Engines.{ReadsSource}
use Rattle.mdmp_engines.specs.ReadThrough.{Access, IsReadThrough, source_over}

pub drops_copied : (may_go : SourceState → Type 0) (Z : Type 0) (types : List ℕ) (limits : Limits) (store : StoreState) (old gone : SourceState) (answer : Result ℕ ToolFault)
    → old ≡ source_over store → may_go gone → ReadsSource old answer gone → ((t : ℕ) → first_not_copied types ≡ Some t → gone ≡ old)
    → SpendsCopy Z types limits.window old answer gone → SpendsWithin limits.budget old answer gone → DropsCopied may_go Z types limits store answer
drops_copied may_go Z types limits store old gone answer is dropped reads unread spends within = record {
  gone = gone;
  dropped = dropped;
  reads = subst (λ (s : SourceState). ReadsSource s answer gone) is reads;
  unread = λ t refused. unread t refused ∙ is;
  spends = subst (λ (s : SourceState). SpendsCopy Z types limits.window s answer gone) is spends;
  within = subst (λ (s : SourceState). SpendsWithin limits.budget s answer gone) is within;
}

pub drops_store : {T : Type 0} (may_go : SourceState → Type 0) (access : Access) (store : StoreState) (old gone : SourceState) (answer : Result T ToolFault)
    → old ≡ source_over store → may_go gone → ReadsSource old answer gone → IsReadThrough access old answer gone → DropsStore may_go access store answer
drops_store may_go access store old gone answer is dropped reads through = record {
  read = record {
    gone = gone;
    reads = subst (λ (s : SourceState). ReadsSource s answer gone) is reads;
    through = subst (λ (s : SourceState). IsReadThrough access s answer gone) is through;
  };
  dropped = dropped;
}
