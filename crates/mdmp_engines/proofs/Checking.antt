-- A run of `check`, or of `check --parts`, from its parts.
use Rattle.std.proofs.Common.{◌≡◌, ◌∙◌, ◌≤◌, ◌<◌, ◌+◌, ◌^◌, ◌++◌, ℕ, zero, suc, List, [], ◌∷◌, Option, Some, None, ap, refl, sym, length, map, subst, arith, inl, inr, append-nil}
use Rattle.std.specs.Prelude.{IfErr, Result, Ok, Err, flat_map, sum_by}
use Rattle.std.proofs.lemmas.List.Concat.{flat_map-append}
use Rattle.std.proofs.lemmas.List.Sums.{sum_by-cons}
use Rattle.mdmp_source.specs.declared.fault.SourceFault.{SourceFault}
use Rattle.mdmp_source.specs.declared.fault.SourceFault.TheVariants.{Changed}
use Rattle.mdmp_source.specs.Source.{SourceState}
use Rattle.mdmp_source.specs.Store.{IsGood}
use Rattle.mdmp_wire.specs.declared.entry.Entry.{Entry}
use Rattle.mdmp_source.specs.Output.{OutState, PutsAll, PutsPrefix}
use Rattle.mdmp_source.specs.OutputLaws.{PutsAll-PutsAll, PutsAll-nothing, PutsPrefix-front, PutsPrefix-last, TakesPrefix-front}
use Rattle.mdmp_lister.specs.declared.choice.Choice.{Choice}
use Rattle.mdmp_lister.specs.declared.choice.Choice.TheVariants.{All}
use Rattle.mdmp_lister.specs.declared.fault.FaultKind.{FaultKind}
use Rattle.mdmp_lister.specs.declared.fault.FaultKind.TheVariants as kinds
use Rattle.mdmp_lister.specs.declared.fault.ListFault.{ListFault}
use Rattle.mdmp_lister.specs.declared.item.Item.{Item}
use Rattle.mdmp_lister.specs.declared.sink.RunFault.{RunFault}
use Rattle.mdmp_lister.specs.declared.sink.RunFault.TheVariants as run
use Rattle.mdmp_lister.specs.declared.sink.Stopped.{Stopped}
use Rattle.mdmp_lister.specs.declared.verdict.Verdict.{Verdict}
use Rattle.mdmp_lister.specs.Check.{AreFirstVerdicts, CheckLeaves, ReadsFirst, items_of}
use Rattle.mdmp_lister.specs.Fault.{IsOfStore, IsUnobtained, IsToldByFetch, IsToldIn}
use Rattle.mdmp_lister.specs.Format.Listing.{Numbered, chosen, entries_from, entry_count, only_chosen, verdicts}
use Rattle.mdmp_lister.specs.Lister.{IsRefusedIn, ListerState}
use Rattle.mdmp_lister.specs.NamesFetched.{FetchesNames}
use Rattle.mdmp_lister.specs.Sink.{Taken, TakenToStop}
use Rattle.mdmp_summary.specs.BadEntries.{all_items}
use Rattle.mdmp_summary.specs.InEntry.{EndsInEntry}
use Rattle.mdmp_summary.proofs.InEntries.{check_ends}
use Rattle.mdmp_dump.specs.Reading.{IsLastTold}
use Rattle.mdmp_engines.specs.declared.fault.ToolFault.{ToolFault}
use Rattle.mdmp_engines.specs.declared.fault.ToolFault.TheVariants.{Source, Budget}
use Rattle.mdmp_summary.specs.Checking.{TellsRun}
use Rattle.mdmp_engines.specs.CheckRuns.{AreFirstChecked, HandsChecked, TakesLine}
use Rattle.mdmp_engines.specs.CheckText.{bad_count, fault_count, verdict_count}
use Rattle.mdmp_engines.specs.Engines.{StopsShort}
use Rattle.mdmp_engines.specs.ReadThrough.{FetchesAllNames}
use Rattle.mdmp_engines.specs.Telling.{told_by}
use Rattle.mdmp_print.specs.declared.form.LineForm.{LineForm}

-- ---- what the sink has put, whose output, count and form are these

module _ {K N R : Type 0} (line : LineForm → R → List ℕ) (count : R → ℕ) (out : K → OutState) (bad : K → ℕ) (name : K → N) (form : K → LineForm) where
  abbrev step : K → R → Result (Unit {0}) Stopped → K → Type 0
  step old row result new = (name new ≡ name old) × ((form new ≡ form old) × TakesLine (line (form old)) count (out old) (bad old) row result (out new) (bad new))

  pub lines-taken : (rows : List R) (k l : K) → Taken step k rows l → PutsAll (out k) (flat_map (line (form k)) rows) (out l)
  lines-taken [] k l same = rw same (PutsAll-nothing (out k))
  lines-taken (row ∷ rows) k l (m, ((same, (as_before, taken)), more)) =
      PutsAll-PutsAll (out k) (out m) (out l) (line (form k) row) (flat_map (line (form k)) rows) taken.put
      (subst (λ (f : LineForm). PutsAll (out m) (flat_map (line f) rows) (out l)) as_before (lines-taken rows m l more))

  pub count-taken : (rows : List R) (k l : K) → Taken step k rows l → bad k + sum_by count rows < 2 ^ 64 → bad l ≡ bad k + sum_by count rows
  count-taken [] k l same few = let none : sum_by count [] ≡ 0 = refl in rw same (omega (arith, none))
  count-taken (row ∷ rows) k l (m, ((same, (as_before, taken)), more)) few =
      let sum : sum_by count (row ∷ rows) ≡ count row + sum_by count rows = sum_by-cons count row rows in
      let now : bad m ≡ bad k + count row = taken.counts (omega (arith, few, sum)) in
      let rest : bad l ≡ bad m + sum_by count rows = count-taken rows m l more (omega (arith, few, now, sum)) in
      omega (arith, now, rest, sum)

  pub lines-stopped : (rows : List R) (k l : K) → TakenToStop step k rows l → PutsPrefix (out k) (flat_map (line (form k)) rows) (out l)
  lines-stopped [] k l never = absurd never
  lines-stopped (row ∷ rows) k l (inl last) = PutsPrefix-front (out k) (out l) (line (form k) row) (flat_map (line (form k)) rows) last.1.1.1
  lines-stopped (row ∷ rows) k l (inr (m, ((same, (as_before, taken)), more))) =
      PutsPrefix-last (out k) (out m) (out l) (line (form k) row) (flat_map (line (form k)) rows) taken.put
      (subst (λ (f : LineForm). PutsPrefix (out m) (flat_map (line f) rows) (out l)) as_before (lines-stopped rows m l more))

  -- it is the same output
  pub name-taken : (rows : List R) (k l : K) → Taken step k rows l → name l ≡ name k
  name-taken [] k l same = ap name same
  name-taken (row ∷ rows) k l (m, ((same, taken), more)) = name-taken rows m l more ∙ same

  pub name-stopped : (rows : List R) (k l : K) → TakenToStop step k rows l → name l ≡ name k
  name-stopped [] k l never = absurd never
  name-stopped (row ∷ rows) k l (inl last) = last.1.0
  name-stopped (row ∷ rows) k l (inr (m, ((same, taken), more))) = name-stopped rows m l more ∙ same

-- ---- the lines of the first rows are the first lines

module _ {R : Type 0} (line : R → List ℕ) (all rows rest : List R) (before after : OutState) where
  lines_split : all ≡ rows ++ rest → flat_map line all ≡ flat_map line rows ++ flat_map line rest
  lines_split split = ap (flat_map line) split ∙ flat_map-append line rows rest

  pub StopsShort-first : all ≡ rows ++ rest → PutsAll before (flat_map line rows) after → StopsShort before (flat_map line all) after
  StopsShort-first split put = record {
    took = rw (lines_split split) (TakesPrefix-front before.taken after.taken (flat_map line rows) (flat_map line rest) put.took);
    steady = put.steady;
  }

  pub PutsPrefix-first : all ≡ rows ++ rest → PutsPrefix before (flat_map line rows) after → PutsPrefix before (flat_map line all) after
  PutsPrefix-first split cut = rw (lines_split split) (PutsPrefix-front before after (flat_map line rows) (flat_map line rest) cut)

-- the first verdicts are the first rows of a check
first_verdicts : (all vs : List Verdict) (result : Result (Unit {0}) RunFault) → AreFirstVerdicts all vs result → AreFirstChecked all vs result
first_verdicts all vs (Ok done) first = first
first_verdicts all vs (Err fault) first = first

-- how a run told its end
pub tells_run : (old : ListerState) (result : Result (Unit {0}) RunFault) (new : ListerState)
    → IfErr result (λ r. (f : ListFault) → r ≡ run.At f → IsUnobtained f.kind × IsToldIn new.current f old.source new.source)
    → ((file : List ℕ) → IsGood old.source.store file → IfErr result (λ r. (f : ListFault) → r ≡ run.At f → IsOfStore f.kind → ⊥))
    → IfErr result (λ r. (f : ListFault) → r ≡ run.At f → IsRefusedIn f new) → TellsRun old result new
tells_run old (Ok done) new told good refused = tt
tells_run old (Err run.Stopped) new told good refused = tt
tells_run old (Err (run.At f)) new told good refused = record { unobtained = (told f refl).0; told = (told f refl).1; good = λ file of. good file of f refl; refused = refused f refl }

-- a check names the entry in which it ends
pub ends_in_entry : {K : Type 0} (step : K → Verdict → Result (Unit {0}) Stopped → K → Type 0) (old : ListerState) (k : K) (result : Result (Unit {0}) RunFault) (new : ListerState) (l : K)
    → CheckLeaves step old k result new l → EndsInEntry old result new
ends_in_entry step old k (Ok done) new l checks = record { next = checks.next; chosen = λ stands. tt; names = tt }
ends_in_entry step old k (Err run.Stopped) new l checks = record { next = checks.next; chosen = λ stands. tt; names = tt }
ends_in_entry step old k (Err (run.At f)) new l checks = record { next = checks.next; chosen = λ stands. check_ends step old k new l f checks; names = sym checks.passed }

-- ---- a directory has no more bad entries than entries

pub count_entries : (F : List ℕ) (n e : ℕ) → length (entries_from F n e) ≡ n
unfolding entries_from
count_entries F zero e = refl
count_entries F (suc n) e = ap suc (count_entries F n (e + 1))

pub all_chosen : (xs : List Numbered) → only_chosen All xs ≡ xs
unfolding only_chosen
all_chosen [] = refl
all_chosen (x ∷ xs) = ap (λ (ys : List Numbered). x ∷ ys) (all_chosen xs)

count_map : {X Y : Type 0} (f : X → Y) (xs : List X) → length (map f xs) ≡ length xs
count_map f [] = refl
count_map f (x ∷ xs) = ap suc (count_map f xs)

one_at_most : (fault : Option ListFault) → fault_count fault ≤ 1
one_at_most None = omega arith
one_at_most (Some fault) = omega arith

few_bad : (vs : List Verdict) → bad_count vs ≤ length vs
few_bad [] = let none : bad_count [] ≡ 0 = refl in omega (arith, none)
few_bad (v ∷ vs) = let sum = sum_by-cons verdict_count v vs in omega (arith, one_at_most v.fault, few_bad vs, sum)

pub bad_entries : (F : List ℕ) (limit : ℕ) → bad_count (verdicts F All limit) ≤ entry_count F
bad_entries F limit =
    let few = few_bad (verdicts F All limit) in
    let count : length (verdicts F All limit) ≡ entry_count F =
    count_map _ (only_chosen All (entries_from F (entry_count F) 0)) ∙ ap length (all_chosen (entries_from F (entry_count F) 0)) ∙ count_entries F (entry_count F) 0 in
    omega (arith, few, count)

-- ---- a sink was handed the verdicts on all entries

-- a check that came to the end has read all items
read_all : (F : List ℕ) (limit : ℕ) (n : ℕ) (items : List Item) → ReadsFirst F limit (chosen F All) n items (Ok tt) → items ≡ all_items F limit
read_all F limit n items read =
    let all : chosen F All ≡ read.judged = read.in_order ∙ ap (λ (xs : List Numbered). read.judged ++ xs) read.ends.0 ∙ append-nil read.judged in
    read.items_are ∙ ap (λ (xs : List Item). items_of F limit read.judged ++ xs) read.ends.1 ∙ append-nil (items_of F limit read.judged) ∙ ap (items_of F limit) (sym all)

all_judged : (old : ListerState) (result : Result (Unit {0}) RunFault) (new : ListerState) (items : List Item) (n : ℕ) → old.choice ≡ All
    → ((file : List ℕ) → old.source.store.content ≡ Some file → ReadsFirst file old.limit (chosen file old.choice) n items result)
    → FetchesNames 1 items old.counts.fetched new.counts.fetched → FetchesAllNames old result new
all_judged old (Ok done) new items n all read named = λ file known.
    let whole = read_all file old.limit n items (subst (λ (choice : Choice). ReadsFirst file old.limit (chosen file choice) n items (Ok tt)) all (read file known)) in
    subst (λ (xs : List Item). FetchesNames 1 xs old.counts.fetched new.counts.fetched) whole named
all_judged old (Err fault) new items n all read named = tt

pub hands_verdicts : {K : Type 0} (step : K → Verdict → Result (Unit {0}) Stopped → K → Type 0) (old : ListerState) (k : K) (result : Result (Unit {0}) RunFault) (new : ListerState) (l : K)
    → old.choice ≡ All → CheckLeaves step old k result new l → HandsChecked k step verdict_count (λ file limit. verdicts file All limit) old result new l
hands_verdicts step old k result new l all checks = record {
  rows = checks.judged;
  handed = checks.handed;
  of_file = λ file known. subst (λ (choice : Choice). AreFirstChecked (verdicts file choice old.limit) checks.judged result) all
      (first_verdicts (verdicts file old.choice old.limit) checks.judged result (checks.of_file file known));
  few = λ file. bad_entries file old.limit;
  fetches = record { count = _; fetches = checks.fetches };
  named = all_judged old result new checks.items (length checks.judged) all checks.read checks.named;
}

-- ---- a fault of the store or the budget, as it is told

last_told : (e : Entry) (s : SourceFault) (old new : SourceState) → IsToldByFetch e (kinds.Source s) old new → IsLastTold s old new
last_told e (Changed at) old new told = told.0
last_told e s old new told = told

pub told-cause : (e : Entry) (f : ListFault) (s : SourceFault) (old new : SourceState) → f.kind ≡ kinds.Source s → IsToldIn e f old new → IsLastTold s old new
told-cause e f s old new is told = last_told e s old new (subst (λ (kind : FaultKind). IsToldByFetch e kind old new) is told.by)

pub told-source : {T : Type 0} (P : Result T ToolFault → Type 0) (fault : ListFault) (kind : FaultKind) → IsUnobtained kind
    → ((s : SourceFault) → kind ≡ kinds.Source s → P (Err (Source s))) → P (Err (Budget fault.offset fault.size)) → P (Err (told_by kind fault))
told-source P fault (kinds.Source s) is by over = by s refl
told-source P fault kinds.Budget is by over = over
told-source P fault kind is by over = absurd is
