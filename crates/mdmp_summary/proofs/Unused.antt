-- Records that the visitors of a summary have no use for.
use Rattle.std.proofs.Common.{◌≡◌, ℕ, List, Option, None, false, refl, sym}
use Rattle.mdmp_lister.specs.declared.item.Item.{Item}
use Rattle.mdmp_lister.specs.declared.item.Item.TheVariants as items
use Rattle.mdmp_lister.specs.declared.kind.StreamKind.{StreamKind}
use Rattle.mdmp_lister.specs.declared.kind.StreamKind.TheVariants as kinds
use Rattle.mdmp_summary.specs.Gathering.{gathered_with, is_gathered}
use Rattle.mdmp_summary.specs.Search.{found, higher, is_searched}
use Rattle.mdmp_summary.specs.Visiting.{HasNoUse, IsOfKind, ReadsNothing, TakesBy, Visited}
use Rattle.mdmp_summary.specs.declared.gathering.Gathering.{Gathering}
use Rattle.mdmp_summary.specs.declared.search.CrashSearch.{CrashSearch}
use Rattle.mdmp_summary.proofs.Folds.{higher-none}

-- an item that changes nothing was visited
visited_still : {K : Type 0} (next : K → Item → K) (k : K) (content : Option (List ℕ)) (limit : ℕ) (x : Item) → next k x ≡ k → Visited (TakesBy next) (ReadsNothing content limit) k x k
visited_still next k content limit x same = (k, ((refl, sym same), (refl, refl)))

-- ---- what is gathered

of_unloaded : (old : Gathering) (x : Item) → IsOfKind kinds.Unloaded x → gathered_with old x ≡ old
of_unloaded old (items.Unloaded u) is = refl
of_unloaded old _ is = absurd (cc)

of_memory_info : (old : Gathering) (x : Item) → IsOfKind kinds.MemoryInfo x → gathered_with old x ≡ old
of_memory_info old (items.MemoryInfo m) is = refl
of_memory_info old _ is = absurd (cc)

of_thread_name : (old : Gathering) (x : Item) → IsOfKind kinds.ThreadNames x → gathered_with old x ≡ old
of_thread_name old (items.ThreadName t) is = refl
of_thread_name old _ is = absurd (cc)

gathered_same : (old : Gathering) (kind : StreamKind) (x : Item) → is_gathered kind ≡ false → IsOfKind kind x → gathered_with old x ≡ old
gathered_same old kinds.Unloaded x not is = of_unloaded old x is
gathered_same old kinds.MemoryInfo x not is = of_memory_info old x is
gathered_same old kinds.ThreadNames x not is = of_thread_name old x is
gathered_same old _ x not is = absurd (cc)

pub gathers_nothing : (old : Gathering) (kind : StreamKind) → is_gathered kind ≡ false → HasNoUse (TakesBy gathered_with) ReadsNothing old kind
gathers_nothing old kind not = λ content limit x is. visited_still gathered_with old content limit x (gathered_same old kind x not is)

-- ---- what is searched

-- an item that is neither a module nor a name of a thread
found_still : (old : CrashSearch) → record { address = old.address; thread = old.thread; holder = old.holder; nearest = higher old.nearest None; name = old.name } ≡ old
found_still old = λ i. record { address = old.address; thread = old.thread; holder = old.holder; nearest = sym (higher-none old.nearest) i; name = old.name }

found_same : (old : CrashSearch) (x : Item) (kind : StreamKind) → is_searched kind ≡ false → IsOfKind kind x → found old x ≡ old
found_same old (items.Module m) kind not is = absurd (no kind not is) where
  no : (kind : StreamKind) → is_searched kind ≡ false → IsOfKind kind (items.Module m) → ⊥
  no kinds.Modules not is = cc
  no kinds.ThreadNames not is = cc
  no _ not is = cc
found_same old (items.ThreadName t) kind not is = absurd (no kind not is) where
  no : (kind : StreamKind) → is_searched kind ≡ false → IsOfKind kind (items.ThreadName t) → ⊥
  no kinds.Modules not is = cc
  no kinds.ThreadNames not is = cc
  no _ not is = cc
found_same old _ kind not is = found_still old

pub finds_nothing : (old : CrashSearch) (kind : StreamKind) → is_searched kind ≡ false → HasNoUse (TakesBy found) ReadsNothing old kind
finds_nothing old kind not = λ content limit x is. visited_still found old content limit x (found_same old x kind not is)

-- ---- a visitor of which nothing is said

pub nothing_said : {K : Type 0} (k : K) (kind : StreamKind) → HasNoUse (λ old item result new. Unit {0}) (λ content limit old result new. Unit {0}) k kind
nothing_said k kind = λ content limit x is. (k, (tt, tt))
