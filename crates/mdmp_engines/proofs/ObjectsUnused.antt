-- Records that the visitors of a summary's object have no use for.
use Rattle.std.proofs.Common.{◌≡◌, ℕ, List, Option, None, Ok, refl, subst, sym}
use Rattle.mdmp_source.specs.Output.{PutsAll}
use Rattle.mdmp_source.specs.OutputLaws.{PutsAll-nothing}
use Rattle.mdmp_wire.specs.declared.module.ModuleRecord.{ModuleRecord}
use Rattle.mdmp_wire.specs.declared.thread.ThreadRecord.{ThreadRecord}
use Rattle.mdmp_lister.specs.declared.item.Item.{Item}
use Rattle.mdmp_lister.specs.declared.item.Item.TheVariants as items
use Rattle.mdmp_lister.specs.declared.kind.StreamKind.{StreamKind}
use Rattle.mdmp_lister.specs.declared.kind.StreamKind.TheVariants as kinds
use Rattle.mdmp_summary.specs.Visiting.{IsOfKind}
use Rattle.mdmp_engines.specs.ObjectVisits.{LooksModule, LooksThread, ModulesAt, TakesModule, TakesThread, ThreadsAt}
use Rattle.mdmp_engines.specs.SummaryObject.{count_with, found_with, ids_of, thread_text}

-- ---- modules

no_module : (kind : StreamKind) (x : Item) → (kind ≡ kinds.Modules → ⊥) → IsOfKind kind x → (k : ModulesAt) → k ≡ record k { begun = None } → TakesModule k x (Ok tt) k
no_module kind (items.Module m) not is k same = absurd (never kind not is) where
  never : (kind : StreamKind) → (kind ≡ kinds.Modules → ⊥) → IsOfKind kind (items.Module m) → ⊥
  never kinds.Modules not is = not refl
  never _ not is = cc
no_module kind _ not is k same = (PutsAll-nothing k.out, same)

pub module_unused : (kind : StreamKind) (x : Item) (k : ModulesAt) (content : Option (List ℕ)) → (kind ≡ kinds.Modules → ⊥) → k.begun ≡ None → IsOfKind kind x → TakesModule k x (Ok tt) k × LooksModule content k (Ok tt) k
module_unused kind x k content not none is =
    let same : k ≡ record k { begun = None } = λ i. record { out = k.out; begun = none i; is_first = k.is_first; room = k.room } in
    (no_module kind x not is k same, (same, (refl, λ F known. subst (λ (b : Option ModuleRecord). PutsAll k.out (ids_of F k.room b) k.out) (sym none) (PutsAll-nothing k.out))))

-- ---- threads

no_thread : (kind : StreamKind) (x : Item) → (kind ≡ kinds.Threads → ⊥) → IsOfKind kind x → (k : ThreadsAt) → k ≡ record k { begun = None } → TakesThread k x (Ok tt) k
no_thread kind (items.Thread t) not is k same = absurd (never kind not is) where
  never : (kind : StreamKind) → (kind ≡ kinds.Threads → ⊥) → IsOfKind kind (items.Thread t) → ⊥
  never kinds.Threads not is = not refl
  never _ not is = cc
no_thread kind _ not is k same = (refl, same)

pub thread_unused : (kind : StreamKind) (x : Item) (k : ThreadsAt) (content : Option (List ℕ)) → (kind ≡ kinds.Threads → ⊥) → k.begun ≡ None → IsOfKind kind x → TakesThread k x (Ok tt) k × LooksThread content k (Ok tt) k
thread_unused kind x k content not none is =
    let same : k ≡ record k { begun = None } = λ i. record { out = k.out; crashed = k.crashed; begun = none i; count = k.count; found = k.found } in
    let looked : k ≡ record k { begun = None; count = count_with k.count k.begun; found = found_with k.crashed.id k.count k.found k.begun } =
    λ i. record { out = k.out; crashed = k.crashed; begun = none i; count = count_with k.count (sym none i); found = found_with k.crashed.id k.count k.found (sym none i) } in
    (no_thread kind x not is k same, (looked, (refl, λ F known. subst (λ (b : Option ThreadRecord). PutsAll k.out (thread_text F k.crashed k.count b) k.out) (sym none) (PutsAll-nothing k.out))))
