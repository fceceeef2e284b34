-- Why there is no summary.
use Rattle.std.proofs.Common.{◌≡◌, ◌≤◌, ◌<◌, ◌+◌, ◌^◌, ◌∙◌, ℕ, Bool, List, Option, None, Some, true, false, ap, arith, length, refl, subst, sym}
use Rattle.std.specs.Prelude.{IsTrue, max, if◌then◌else◌}
use Rattle.std.proofs.lemmas.Bool.Decides.{nat_tests}
use Rattle.mdmp_source.specs.Count.{raised}
use Rattle.mdmp_source.specs.Source.{SourceState}
use Rattle.mdmp_lister.specs.declared.choice.Choice.TheVariants.{All}
use Rattle.mdmp_lister.specs.declared.fault.FaultKind.{FaultKind}
use Rattle.mdmp_lister.specs.declared.fault.FaultKind.TheVariants as kinds
use Rattle.mdmp_lister.specs.declared.fault.ListFault.{ListFault}
use Rattle.mdmp_lister.specs.declared.fault.OpenFault.{OpenFault}
use Rattle.mdmp_lister.specs.declared.fault.OpenFault.TheVariants as opening
use Rattle.mdmp_lister.specs.declared.limits.Limits.{Limits}
use Rattle.mdmp_lister.specs.Fault.{IsOfStore}
use Rattle.mdmp_lister.specs.Format.Refusal.{directory_refusal, range_fault}
use Rattle.mdmp_lister.specs.Lister.{ListerState, standpoint_in}
use Rattle.mdmp_lister.specs.Memory.{IsWalkRefusal, TellsWalkMemory, earlier_fault, is_within, mapped_fault, opening_fault_within, unmapped_fault, walk_fault}
use Rattle.mdmp_lister.specs.Meter.{IsRefusedFetch, IsUnmade, KeepsTo, is_passed}
use Rattle.mdmp_lister.specs.NextFetch.{TellsNextOpening, TellsSomeFetch}
use Rattle.mdmp_lister.specs.Opening.{IsUnread, KeepsToBudget}
use Rattle.mdmp_summary.specs.Summing.{IsCallFault, IsUnreadIn}
use Rattle.mdmp_summary.specs.Walking.{IsPassFault, IsSameListing}
use Rattle.mdmp_summary.specs.declared.summary.SummaryFault.{SummaryFault}
use Rattle.mdmp_summary.specs.declared.summary.SummaryFault.TheVariants as faults
use Rattle.mdmp_c.specs.declared.limits.PlainLimits.{PlainLimits}
use Rattle.mdmp_c.specs.Fault.{open_fault, plain_list_fault}
use Rattle.mdmp_c.specs.Limits.{AreGiven, reaches_memory}
use Rattle.mdmp_c.specs.Summary.{IsUnsummarized, of_file, of_limit, of_memory, summary_fault}
use Rattle.mdmp_c.proofs.Coming.{IsOpenedIn, comes_next, listing_next, opened_on, stays_on}
use Rattle.mdmp_c.proofs.Ending.{plain_budget}
use Rattle.mdmp_c.proofs.Stopping.{budget_passed, is_budget, is_limit, opening_passed}

-- ---- the opening

-- nothing, or the limit of memory
abbrev IsOfMemory : Option OpenFault → Type 0
IsOfMemory None = Unit {0}
IsOfMemory (Some (opening.MemoryLimit held)) = Unit {0}
IsOfMemory (Some fault) = ⊥

of_memory_only : (within : Bool) (bytes : ℕ) → IsOfMemory (if within then None else Some (opening.MemoryLimit bytes))
of_memory_only true bytes = tt
of_memory_only false bytes = tt

-- another fault that keeps a walk from being opened is that of the directory
of_directory : (d u : Option OpenFault) (fault : OpenFault) → IsOfMemory u → (IsOfMemory (Some fault) → ⊥) → earlier_fault d u ≡ Some fault → d ≡ Some fault
of_directory (Some f) u fault memory never is = is
of_directory None u fault memory never is = absurd (never (subst IsOfMemory is memory))

module _ (plain : PlainLimits) (limits : Limits) (F : List ℕ) (given : AreGiven plain limits) where
  refused : (fault : OpenFault) → (IsOfMemory (Some fault) → ⊥) → walk_fault limits F ≡ Some fault → IsUnsummarized F plain (open_fault fault)
  refused fault never is = of_file fault (of_directory (directory_refusal F) (unmapped_fault limits F) fault (of_memory_only _ _) never is) refl

  -- the limit of memory keeps a lister from being opened too
  over_memory : (held : ℕ) → walk_fault limits F ≡ Some (opening.MemoryLimit held) → opening_fault_within limits F All ≡ Some (opening.MemoryLimit held)
  over_memory held is = ap (λ (w : Option OpenFault). earlier_fault w (earlier_fault (range_fault F All) (mapped_fault limits F All))) is

  pub opening_told : (old : SourceState) (fault : OpenFault) (new : SourceState) → old.store.content ≡ Some F → old.size ≡ length F → old.size < 2 ^ 64 → old.fetched ≡ 0
      → IsWalkRefusal limits F fault → (IsUnread fault → ⊥) → KeepsToBudget limits old fault new → TellsNextOpening None limits old fault new → TellsWalkMemory limits old fault new → IsUnsummarized F plain (open_fault fault)
  opening_told old (opening.Source f) new known size small none is read kept next over = absurd (read tt)
  opening_told old (opening.Budget at len) new known size small none is read kept next over =
      of_limit (opening_passed plain limits F All None None old at len new given known size small none tt kept next)
  opening_told old (opening.MemoryLimit held) new known size small none is read kept next over =
      of_limit (reaches_memory (is_limit plain.memory limits.memory given.memory (λ none. let more = over.over in let open_end : is_within limits.memory held ≡ true = rw none refl in cc)) held refl limits given (over_memory held is))
  opening_told old opening.Memory new known size small none is read kept next over = of_memory refl
  opening_told old (opening.TooShort n) new known size small none is read kept next over = refused (opening.TooShort n) (λ never. never) is
  opening_told old opening.BadSignature new known size small none is read kept next over = refused opening.BadSignature (λ never. never) is
  opening_told old (opening.BadVersion low) new known size small none is read kept next over = refused (opening.BadVersion low) (λ never. never) is
  opening_told old (opening.DirectoryOutside at len) new known size small none is read kept next over = refused (opening.DirectoryOutside at len) (λ never. never) is
  opening_told old (opening.TooManyRanges n) new known size small none is read kept next over = refused (opening.TooManyRanges n) (λ never. never) is

  -- ---- the passes

  -- more bytes pass a budget too
  passes_more : (budget : Option ℕ) (n m : ℕ) → n ≤ m → IsTrue (is_passed budget n) → IsTrue (is_passed budget m)
  passes_more None n m le passes = passes
  passes_more (Some b) n m le passes = grind (arith, nat_tests, passes)

  -- a pass ended by its budget
  pass_told : (old new : ListerState) (f : ListFault) → IsOpenedIn limits F All old → IsSameListing old new → KeepsTo new.counts.budget new.counts.fetched → IsPassFault old new f → (IsOfStore f.kind → ⊥) → IsUnsummarized F plain (plain_list_fault f)
  pass_told old new f begun same keeps told never =
      let opened = opened_on limits F All old new begun same told.entry in
      let kind : f.kind ≡ kinds.Budget = is_budget f.kind never told.unobtained in
      let over : IsRefusedFetch (max new.rooms.window new.limit) f.offset f.size new.counts new.source.size =
      subst (λ (k : FaultKind). IsUnmade (max new.rooms.window new.limit) k f.offset f.size new.counts new.source.size) kind told.look.refused in
      let next = subst (λ (k : FaultKind). TellsSomeFetch (standpoint_in new) k f.offset f.size new.counts.fetched) kind told.look.next in
      let most : raised new.counts.fetched f.size ≤ new.counts.fetched + f.size = omega arith in
      let passes : IsTrue (is_passed limits.budget (new.counts.fetched + f.size)) =
      subst (λ (b : Option ℕ). IsTrue (is_passed b (new.counts.fetched + f.size))) opened.budget (passes_more new.counts.budget _ _ most over.passes) in
      let few : f.size ≤ max limits.window limits.name =
      subst (λ n. f.size ≤ n) (ap (λ n. max n new.limit) opened.window ∙ ap (max limits.window) opened.name) over.few in
      subst (IsUnsummarized F plain) (sym (plain_budget f kind))
      (of_limit (budget_passed plain limits F All None None new.counts.fetched f.offset f.size new.source.size given
      (subst (λ (b : Option ℕ). KeepsTo b new.counts.fetched) opened.budget keeps) passes tt over.inside opened.size few
      (listing_next plain limits F All None given new.counts.fetched f.offset f.size new opened (comes_next new new f.offset f.size (stays_on new) (λ stands. told.entry) next))))

  pub call_told : (old new : ListerState) (fault : SummaryFault) → IsOpenedIn limits F All old → IsSameListing old new → KeepsTo new.counts.budget new.counts.fetched → IsCallFault old new fault → (IsUnreadIn fault → ⊥) → IsUnsummarized F plain (summary_fault fault)
  call_told old new (faults.Opening f) begun same keeps told never = absurd told
  call_told old new (faults.List f) begun same keeps told never = pass_told old new f begun same keeps told never
  call_told old new (faults.Source f) begun same keeps told never = absurd (never tt)
