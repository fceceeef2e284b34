-- Where the text of a check tells a limit, it was reached.
use Rattle.std.proofs.Common.{◌≡◌, ◌≤◌, ◌<◌, ◌+◌, ◌-◌, ◌^◌, ◌∙◌, ℕ, List, Option, None, Some, Ok, Err, true, ap, arith, length, refl, subst, sym}
use Rattle.std.specs.Option.{option_map}
use Rattle.std.specs.Prelude.{Result}
use Rattle.std.proofs.lemmas.Option.{none-some}
use Rattle.mdmp_source.specs.Output.{OutState}
use Rattle.mdmp_source.specs.Source.{SourceState}
use Rattle.mdmp_lister.specs.declared.choice.Choice.{Choice}
use Rattle.mdmp_lister.specs.declared.choice.Choice.TheVariants.{All}
use Rattle.mdmp_lister.specs.declared.fault.OpenFault.{OpenFault}
use Rattle.mdmp_lister.specs.declared.fault.OpenFault.TheVariants as opening
use Rattle.mdmp_lister.specs.declared.limits.Limits.{Limits}
use Rattle.mdmp_lister.specs.Counts.{numbers_of}
use Rattle.mdmp_lister.specs.Format.Refusal.{behind_directory, directory_refusal, opening_fault, range_fault}
use Rattle.mdmp_lister.specs.Lister.{IsNewLister, ListerState}
use Rattle.mdmp_lister.specs.Memory.{earlier_fault, is_within, leaving, mapped_fault, opening_fault_within, unmapped_fault}
use Rattle.mdmp_engines.specs.CheckRuns.{Checks}
use Rattle.mdmp_engines.specs.ReadThrough.{IsReadThrough, check_access}
use Rattle.mdmp_engines.specs.declared.fault.ToolFault.{ToolFault}
use Rattle.mdmp_engines.specs.declared.fault.ToolFault.TheVariants.{AsideLimit, Budget, MemoryLimit, Opening}
use Rattle.mdmp_print.specs.declared.form.LineForm.{LineForm}
use Rattle.mdmp_c.specs.declared.limits.PlainLimits.{PlainLimits}
use Rattle.mdmp_c.specs.Limits.{AreGiven, EndsChecking, KeepsChecking, KeepsMemory, most_read, names_checked, reaches_memory}
use Rattle.mdmp_c.specs.ToolFault.{check_answer}
use Rattle.mdmp_c.proofs.Coming.{IsOpenedIn, stays_on}
use Rattle.mdmp_c.proofs.Ending.{keeps_checking, keeps_unchecked, names_within}
use Rattle.mdmp_c.proofs.Stopping.{ended_as, ended_by, ended_over, is_limit, least_read, most_for, opening_passed}
use Rattle.mdmp_c.proofs.Told.{IsAnswered, IsLimited}

-- with nothing held beside it a lister has all the memory
leaving_none : (limits : Limits) → leaving 0 limits ≡ limits
leaving_none limits = λ i. record limits { memory = by limits.memory i } where
  by : (memory : Option ℕ) → option_map (λ most. most - 0) memory ≡ memory
  by None = refl
  by (Some most) = ap Some (let same : most - 0 ≡ most = omega arith in same)

-- the names that it reached are those of the file
checked_names : (F : List ℕ) (choice : Choice) (limit : ℕ) (v : ListerState) → v.choice ≡ choice → v.limit ≡ limit → v.counts.names ≤ names_checked F v.choice v.limit + 1
    → v.counts.names ≤ names_checked F choice limit + 1
checked_names F choice limit v of is few =
    let same : names_checked F v.choice v.limit ≡ names_checked F choice limit = ap (λ (ch : Choice). names_checked F ch v.limit) of ∙ ap (names_checked F choice) is in
    omega (arith, few, same)

pub check_over : (plain : PlainLimits) (limits : Limits) (F : List ℕ) (old new : SourceState) (answer : Result ℕ ToolFault) → AreGiven plain limits → old.store.content ≡ Some F → old.size ≡ length F
    → old.size < 2 ^ 64 → old.fetched ≡ 0 → new.store.content ≡ Some F → new.size ≡ old.size → IsReadThrough (check_access limits) old answer new → IsLimited answer → EndsChecking plain F (check_answer answer)
check_over plain limits F old new (Err (Budget at len)) given known size small none now same (IsReadThrough.listed run) told =
    let v = run.lister in
    let ended = ended_by v v (numbers_of v) at len (stays_on v) refl run.held run.spent run.over (λ stands. run.entry) in
    let limit : v.limit ≡ plain.name = run.opened.asked.limit_is ∙ given.name in
    let content : v.source.store.content ≡ Some F = ap (λ (s : SourceState). s.store.content) run.source ∙ now in
    let few = checked_names F All plain.name v run.opened.asked.choice_is limit (run.reads.names F content) in
    let most = most_for v F All plain.name (names_checked F All plain.name) (numbers_of v) limit refl (run.of_file F known) few in
    let opened : IsOpenedIn limits F All v = record {
      budget = run.budget;
      window = run.opened.asked.window_room;
      name = run.opened.asked.limit_is;
      size = ap (λ (s : SourceState). s.size) run.source ∙ same ∙ size;
      content = content;
      choice_is = run.opened.asked.choice_is;
      directory = run.opened.read.directory F known;
      stands = λ more. run.entry;
    } in
    ended_over plain limits F All (Some All) _ v at len given opened
    (ended_as v _ (Some (most_read F All plain.name (names_checked F All plain.name))) at len ended (omega (arith, ended.bound, most)))
check_over plain limits F old new (Err (Budget at len)) given known size small none now same (IsReadThrough.refused asked early kept memory fetches inside) told =
    opening_passed plain limits F All (Some All) _ old at len new given known size small none (least_read F All plain.name _) kept.unmade kept.next
check_over plain limits F old new (Err (MemoryLimit held)) given known size small none now same (IsReadThrough.listed run) told = absurd run.within
check_over plain limits F old new (Err (MemoryLimit held)) given known size small none now same (IsReadThrough.refused asked early kept memory fetches inside) told =
    let exact : memory.listed ≡ held = let sum : held ≡ memory.listed + 0 = memory.held_is in omega (arith, sum) in
    let of : opening_fault_within limits F All ≡ Some (opening.MemoryLimit memory.listed) = subst (λ (l : Limits). opening_fault_within l F All ≡ Some (opening.MemoryLimit memory.listed)) (leaving_none limits) (memory.of_file F known) in
    reaches_memory (is_limit plain.memory limits.memory given.memory (λ none. let over = memory.over in let open_end : is_within limits.memory held ≡ true = rw none refl in cc)) held refl limits given
    (of ∙ ap (λ n. Some (opening.MemoryLimit n)) exact)
check_over plain limits F old new (Err (AsideLimit at len)) given known size small none now same (IsReadThrough.listed run) told = let over = run.aside_kept.over.0 in absurd (cc)
check_over plain limits F old new (Err (AsideLimit at len)) given known size small none now same (IsReadThrough.refused asked early kept memory fetches inside) told = absurd early
check_over plain limits F old new answer given known size small none now same through told = absurd told

-- what keeps a file from being opened keeps it from that within limits
ranged : (r m : Option OpenFault) (fault : OpenFault) → earlier_fault r m ≡ None → r ≡ Some fault → ⊥
ranged (Some f) m fault none some = none-some f (sym none)
ranged None m fault none some = none-some fault some

opened_within : (limits : Limits) (F : List ℕ) (choice : Choice) (fault : OpenFault) → opening_fault_within limits F choice ≡ None → opening_fault F choice ≡ Some fault → ⊥
opened_within limits F choice fault opens is = by (directory_refusal F) (unmapped_fault limits F) opens is where
  by : (d u : Option OpenFault) → earlier_fault (earlier_fault d u) (earlier_fault (range_fault F choice) (mapped_fault limits F choice)) ≡ None → behind_directory F choice d ≡ Some fault → ⊥
  by (Some f) u none some = none-some f (sym none)
  by None (Some f) none some = none-some f (sym none)
  by None None none some = ranged (range_fault F choice) (mapped_fault limits F choice) fault none some

-- of a file of which it tells, the limits were kept
pub check_keeps : (plain : PlainLimits) (limits : Limits) (F : List ℕ) (old new : SourceState) (answer : Result ℕ ToolFault) (form : LineForm) (before after : OutState) → AreGiven plain limits → old.store.content ≡ Some F → old.size ≡ length F
    → IsReadThrough (check_access limits) old answer new → Checks form F limits.name before answer after → IsAnswered answer → KeepsChecking plain F
check_keeps plain limits F old new (Ok bad) form before after given known size (IsReadThrough.listed run) runs told =
    let memory : KeepsMemory plain F All = record { limits = limits; given = given; within = subst (λ (l : Limits). opening_fault_within l F All ≡ None) (leaving_none limits) (run.opens F known) ∙ sym runs.says.0; opening = λ _. run.opening F known } in
    let first = run.asked.first in
    let is_new : IsNewLister old All limits first = subst (λ (l : Limits). IsNewLister old All l first) (leaving_none limits) run.asked.is_new in
    keeps_checking plain limits F old first given known size is_new memory
    (names_within F first run.lister (run.budget ∙ sym is_new.list.counts.budget_is) run.held.kept.kept (run.asked.requests F (is_new.list.same_content ∙ known)))
check_keeps plain limits F old new (Ok bad) form before after given known size (IsReadThrough.refused asked early kept memory fetches inside) runs told = absurd early
check_keeps plain limits F old new (Err (Opening fault)) form before after given known size (IsReadThrough.listed run) runs told =
    let opens : opening_fault_within limits F All ≡ None = subst (λ (l : Limits). opening_fault_within l F All ≡ None) (leaving_none limits) (run.opens F known) in
    absurd (opened_within limits F All fault opens runs.says)
check_keeps plain limits F old new (Err (Opening fault)) form before after given known size (IsReadThrough.refused asked early kept memory fetches inside) runs told =
    keeps_unchecked plain F fault runs.says record { limits = limits; given = given; within = subst (λ (l : Limits). opening_fault_within l F All ≡ Some fault) (leaving_none limits) (memory F known) ∙ sym runs.says; opening = λ none. absurd (none-some fault (sym none ∙ runs.says)) }
check_keeps plain limits F old new answer form before after given known size through runs told = absurd told
