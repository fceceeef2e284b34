-- What was printed to a loan of an output was printed to the output.
use Rattle.std.proofs.Common.{◌≡◌, ◌∙◌, ℕ, List, ◌∷◌, [], ap, refl, sym, subst}
use Rattle.std.specs.Prelude.{Result, Ok, Err}
use Rattle.mdmp_source.specs.Output.{HasRefused, OutState, PutsAll, PutsPrefix, Refusals, lent}
use Rattle.mdmp_source.specs.Source.{SourceState}
use Rattle.mdmp_source.specs.Store.{StoreState}
use Rattle.mdmp_lister.specs.Walker.{WalkerState}
use Rattle.mdmp_lister.specs.declared.choice.Choice.{Choice}
use Rattle.mdmp_lister.specs.declared.limits.Limits.{Limits}
use Rattle.mdmp_engines.specs.declared.fault.ToolFault.{ToolFault}
use Rattle.mdmp_engines.specs.declared.fault.ToolFault.TheVariants.{Opening, List as BadList, Source, Budget, Memory, MemoryLimit, AsideLimit, Out}
use Rattle.mdmp_engines.specs.Causes.{HasOutCause}
use Rattle.mdmp_tool.specs.Commands.{HasRun, HasRunThrough, IsObjectPrinted}
use Rattle.mdmp_engines.specs.Engines.{IsFlushed, Pace, RefusesWithin, RunsThrough, StopsShort, Tells, WritesText, in_blocks}
use Rattle.mdmp_engines.specs.ReadThrough.{Access}
use Rattle.mdmp_engines.specs.ObjectRuns.{IsObjectThrough, IsQuietObject, PrintsObject, PrintsThrough, ReadsObject}
use Rattle.mdmp_engines.specs.SummaryRuns.{summary_names}
use Rattle.mdmp_engines.proofs.BlockLemmas.{at_fault, quiet_from}

-- ---- the loans stay

cause_loans : {T : Type 0} (r : Result T ToolFault) (a b : OutState) → HasOutCause a r b → b.failures.loans ≡ a.failures.loans
cause_loans (Err Out) a b cause = cause.loans
cause_loans r a b cause = ap (λ (f : Refusals). f.loans) cause

-- ---- what is said of an output that is lent holds of its lender

flushed_none : {T : Type 0} (r : Result T ToolFault) → IsFlushed r []
flushed_none (Err Out) = tt
flushed_none r = refl

module _ (name : ℕ) (a b : OutState) where
  same_refusals : (lent name b).failures ≡ (lent name a).failures → b.failures ≡ a.failures
  same_refusals same =
      let count : b.failures.count ≡ a.failures.count = ap (λ (f : Refusals). f.count) same in
      let all : name ∷ b.failures.loans ≡ name ∷ a.failures.loans = ap (λ (f : Refusals). f.loans) same in
      let loans : b.failures.loans ≡ a.failures.loans = cc in
      λ i. record { count = count i; loans = loans i }

  more_refusals : HasRefused (lent name a).failures (lent name b).failures → HasRefused a.failures b.failures
  more_refusals refused =
      let all : name ∷ b.failures.loans ≡ name ∷ a.failures.loans = refused.loans in
      let loans : b.failures.loans ≡ a.failures.loans = cc in
      record { more = refused.more; loans = loans }

  puts_all : (text : List ℕ) → PutsAll (lent name a) text (lent name b) → PutsAll a text b
  puts_all text put = record { took = put.took; steady = same_refusals put.steady }

  puts_prefix : (text : List ℕ) → PutsPrefix (lent name a) text (lent name b) → PutsPrefix a text b
  puts_prefix text cut = record { took = cut.took; refused = more_refusals cut.refused }

  stops_short : (text : List ℕ) → StopsShort (lent name a) text (lent name b) → StopsShort a text b
  stops_short text cut = record { took = cut.took; steady = same_refusals cut.steady }

  refuses_within : (text : List ℕ) → RefusesWithin (lent name a) text (lent name b) → RefusesWithin a text b
  refuses_within text cut = record { within = cut.within; refused = more_refusals cut.refused }

  cause_lent : {T : Type 0} (r : Result T ToolFault) → HasOutCause (lent name a) r (lent name b) → HasOutCause a r b
  cause_lent (Err Out) cause = more_refusals cause
  cause_lent r cause = same_refusals cause

  module _ {T : Type 0} (pace : Pace) where
    writes_lent : (text : List ℕ) (r : Result T ToolFault) → WritesText pace text (lent name a) r (lent name b) → WritesText pace text a r b
    writes_lent text (Ok x) put = puts_all text put
    writes_lent text (Err (BadList f)) put = at_fault pace _ _ (puts_all text) put
    writes_lent text (Err (Opening f)) put = puts_all [] put
    writes_lent text (Err Memory) put = puts_all [] put
    writes_lent text (Err (MemoryLimit held)) put = puts_all [] put
    writes_lent text (Err (Source f)) put = stops_short _ put
    writes_lent text (Err (Budget offset size)) put = stops_short _ put
    writes_lent text (Err (AsideLimit offset size)) put = stops_short _ put
    writes_lent text (Err Out) put = puts_prefix text put
    writes_lent text (Err fault) never = absurd never

    runs_lent : (F : List ℕ) (choice : Choice) (Ends : Result T ToolFault → Type 0) (text : List ℕ) (r : Result T ToolFault)
        → RunsThrough F choice Ends pace text (lent name a) r (lent name b) → RunsThrough F choice Ends pace text a r b
    runs_lent F choice Ends text (Err Out) cut = refuses_within text cut
    runs_lent F choice Ends text r run = record { says = run.says; writes = writes_lent text r run.writes }

    tells_lent : (store : StoreState) (size : ℕ) (r : Result T ToolFault) → Tells in_blocks pace store size (lent name a) r (lent name b) → Tells in_blocks pace store size a r b
    tells_lent store size r tells = record {
      good = tells.good;
      refusal = tells.refusal;
      short = tells.short;
      quiet = quiet_from pace r [] _ _ (flushed_none r) (λ _. puts_all []) tells.quiet;
      out_cause = cause_lent r tells.out_cause;
      changed = tells.changed;
    }

    run_lent : (access : Access) (End : Result T ToolFault → ℕ → OutState → OutState → Type 0) (Through : List ℕ → OutState → Result T ToolFault → OutState → Type 0)
        (old : SourceState) (err_before : OutState) (status : ℕ) (new : SourceState) (err_after : OutState)
        → ((file : List ℕ) (r : Result T ToolFault) → Through file (lent name a) r (lent name b) → Through file a r b)
        → HasRun access End Through pace old (lent name a) err_before status new (lent name b) err_after → HasRun access End Through pace old a err_before status new b err_after
    run_lent access End Through old err_before status new err_after through ran = record {
      answer = ran.answer;
      ends = ran.ends;
      writes = λ file known. through file ran.answer (ran.writes file known);
      tells = tells_lent old.store old.size ran.answer ran.tells;
      reads = ran.reads;
      through = ran.through;
    }

-- ---- an object that was printed to a loan

quiet_from_lent : (r : Result ℕ ToolFault) (P Q : Type 0) → (P → Q) → IsQuietObject r P → IsQuietObject r Q
quiet_from_lent (Ok n) P Q from quiet = tt
quiet_from_lent (Err Out) P Q from quiet = tt
quiet_from_lent (Err (Source f)) P Q from quiet = tt
quiet_from_lent (Err (Budget offset size)) P Q from quiet = tt
quiet_from_lent (Err f) P Q from quiet = from quiet

module _ (name : ℕ) (a b : OutState) where
  same_out : lent name b ≡ lent name a → b ≡ a
  same_out same =
      let taken : b.taken ≡ a.taken = ap (λ (o : OutState). o.taken) same in
      let failures : b.failures ≡ a.failures = same_refusals name a b (ap (λ (o : OutState). o.failures) same) in
      λ i. record { taken = taken i; failures = failures i }

  through_lent : (text : List ℕ) (bad : ℕ) (r : Result ℕ ToolFault) → PrintsThrough text bad (lent name a) r (lent name b) → PrintsThrough text bad a r b
  through_lent text bad (Ok n) put = (put.0, puts_all name a b text put.1)
  through_lent text bad (Err Out) cut = refuses_within name a b text cut
  through_lent text bad (Err f) short = (short.0, stops_short name a b text short.1)

  prints_lent : (file F : List ℕ) (limits : Limits) (r : Result ℕ ToolFault) → PrintsObject file F limits (lent name a) r (lent name b) → PrintsObject file F limits a r b
  prints_lent file F limits r (PrintsObject.refused fault is told same) = PrintsObject.refused fault is told (same_out same)
  prints_lent file F limits r (PrintsObject.printed walks prints) = PrintsObject.printed walks (through_lent _ _ r prints)

  reads_lent : (limit : ℕ) (old : WalkerState) (r : Result ℕ ToolFault) (new : WalkerState)
      → ReadsObject (summary_names limit) old (lent name a) r new (lent name b) → ReadsObject (summary_names limit) old a r new b
  reads_lent limit old r new (ReadsObject.unread fault outside same) = ReadsObject.unread fault outside (same_out same)
  reads_lent limit old r new (ReadsObject.printed named outside leaves lists) = ReadsObject.printed named outside leaves lists

  object_lent_through : (limits : Limits) (old : SourceState) (r : Result ℕ ToolFault) (new : SourceState) → IsObjectThrough limits old (lent name a) r new (lent name b) → IsObjectThrough limits old a r new b
  object_lent_through limits old r new (IsObjectThrough.refused fault is told same) = IsObjectThrough.refused fault is told (same_out same)
  object_lent_through limits old r new (IsObjectThrough.unread opened ended fault is spends listing called told last same) =
      IsObjectThrough.unread opened ended fault is spends listing called told last (same_out same)
  object_lent_through limits old r new (IsObjectThrough.printed opened ended last is spends listing reads keeps ends) =
      IsObjectThrough.printed opened ended last is spends listing (reads_lent limits.name ended r last reads) keeps ends

  object_lent : (file : List ℕ) (limits : Limits) (old : SourceState) (r : Result ℕ ToolFault) (new : SourceState)
      → IsObjectPrinted file limits old (lent name a) r new (lent name b) → IsObjectPrinted file limits old a r new b
  object_lent file limits old r new printed = record {
    prints = λ F known. prints_lent file F limits r (printed.prints F known);
    good = printed.good;
    reads = printed.reads;
    through = object_lent_through limits old r new printed.through;
    quiet = quiet_from_lent r _ _ same_out printed.quiet;
    out_cause = cause_lent name a b r printed.out_cause;
  }

-- ---- a loan that came back

module _ (name last : ℕ) (start behind stop inner_old inner_new : OutState) (began : inner_old ≡ lent name start) (ended : lent last behind ≡ inner_new)
    (back : last ≡ name → behind ≡ stop) where
  -- is the loan that was given, where its name is the same
  came_back : inner_new.failures.loans ≡ inner_old.failures.loans → inner_new ≡ lent name stop
  came_back kept =
      let loans : last ∷ behind.failures.loans ≡ name ∷ start.failures.loans =
      ap (λ (o : OutState). o.failures.loans) ended ∙ kept ∙ ap (λ (o : OutState). o.failures.loans) began in
      let same : last ≡ name = cc in
      sym ended ∙ (ap (λ (n : ℕ). lent n behind) same ∙ ap (lent name) (back same))

  ran_lent : {T : Type 0} (access : Access) (pace : Pace) (End : Result T ToolFault → ℕ → OutState → OutState → Type 0) (Through : List ℕ → OutState → Result T ToolFault → OutState → Type 0)
      (old : SourceState) (err_before : OutState) (status : ℕ) (new : SourceState) (err_after : OutState)
      → ((file : List ℕ) (r : Result T ToolFault) → Through file (lent name start) r (lent name stop) → Through file start r stop)
      → HasRun access End Through pace old inner_old err_before status new inner_new err_after → HasRun access End Through pace old start err_before status new stop err_after
  ran_lent access pace End Through old err_before status new err_after through ran =
      let stops : inner_new ≡ lent name stop = came_back (cause_loans ran.answer inner_old inner_new ran.tells.out_cause) in
      run_lent name start stop pace access End Through old err_before status new err_after through (
      subst (λ (x : OutState). HasRun access End Through pace old x err_before status new (lent name stop) err_after) began
      (subst (λ (y : OutState). HasRun access End Through pace old inner_old err_before status new y err_after) stops ran))

  -- what was printed to it was printed to its lender
  pub printed_lent : {T : Type 0} (access : Access) (End : Result T ToolFault → ℕ → OutState → OutState → Type 0) (Ends : List ℕ → ℕ → Result T ToolFault → Type 0) (text : List ℕ → ℕ → List ℕ)
      (old : SourceState) (err_before : OutState) (status : ℕ) (new : SourceState) (err_after : OutState)
      → HasRunThrough access End Ends text old inner_old err_before status new inner_new err_after → HasRunThrough access End Ends text old start err_before status new stop err_after
  printed_lent access End Ends text old err_before status new err_after ran =
      ran_lent access access.pace End _ old err_before status new err_after (λ file. runs_lent name start stop access.pace file access.choice _ _) ran

  -- an object too
  pub object_came_back : (file : List ℕ) (limits : Limits) (old : SourceState) (r : Result ℕ ToolFault) (new : SourceState)
      → IsObjectPrinted file limits old inner_old r new inner_new → IsObjectPrinted file limits old start r new stop
  object_came_back file limits old r new printed =
      let stops : inner_new ≡ lent name stop = came_back (cause_loans r inner_old inner_new printed.out_cause) in
      object_lent name start stop file limits old r new (
      subst (λ (x : OutState). IsObjectPrinted file limits old x r new (lent name stop)) began
      (subst (λ (y : OutState). IsObjectPrinted file limits old inner_old r new y) stops printed))
