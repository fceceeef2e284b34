-- What a copy does, from its parts.
use Rattle.std.proofs.Common.{◌≡◌, ◌⊎◌, ◌∙◌, ◌+◌, ◌<◌, ◌≤◌, ℕ, List, [], Option, Some, None, true, false, inl, inr, refl, ap, arith, drop, get_or, length, ltb-false, map, slice_index_or, subst, sum, sym}
use Rattle.std.specs.Prelude.{◌*◌, Result, Ok, Err, IfOk, IfSome, IsTrue, nat_lt}
use Rattle.std.proofs.lemmas.List.{drop_more}
use Rattle.std.proofs.lemmas.Option.{none-some}
use Rattle.std.proofs.Math.ListN.{drop_of_length-le}
use Rattle.mdmp_source.specs.Count.{raised}
use Rattle.mdmp_source.specs.Output.{OutState}
use Rattle.mdmp_source.specs.Source.{SourceState, FetchesSome}
use Rattle.mdmp_source.specs.SourceLaws.{told_later}
use Rattle.mdmp_source.specs.declared.fault.SourceFault.{SourceFault}
use Rattle.mdmp_source.specs.declared.fault.SourceFault.TheVariants.{Changed, Failed, ShortRead}
use Rattle.mdmp_lister.specs.declared.choice.Choice.{Choice}
use Rattle.mdmp_lister.specs.declared.choice.Choice.TheVariants.{Types}
use Rattle.mdmp_lister.specs.declared.fault.FaultKind.{FaultKind}
use Rattle.mdmp_lister.specs.declared.fault.FaultKind.TheVariants as kinds
use Rattle.mdmp_lister.specs.declared.fault.ListFault.{ListFault}
use Rattle.mdmp_lister.specs.declared.fault.OpenFault.{OpenFault}
use Rattle.mdmp_lister.specs.declared.fault.OpenFault.TheVariants as opening
use Rattle.mdmp_lister.specs.declared.limits.Limits.{Limits}
use Rattle.mdmp_lister.specs.Fault.{IsUnobtained}
use Rattle.mdmp_lister.specs.Format.Listing.{Numbered, chosen, entry_count}
use Rattle.mdmp_lister.specs.Format.Refusal.{directory_refusal}
use Rattle.mdmp_lister.specs.Meter.{KeepsTo, is_passed}
use Rattle.mdmp_dump.specs.declared.fault.ReadFault.{ReadFault}
use Rattle.mdmp_dump.specs.declared.fault.ReadFault.TheVariants as reads
use Rattle.mdmp_dump.specs.declared.pass.Pass.{Pass}
use Rattle.mdmp_dump.specs.declared.view.ViewFault.{ViewFault}
use Rattle.mdmp_dump.specs.declared.view.ViewFault.TheVariants as view
use Rattle.mdmp_dump.specs.EntryWalk.{WalkState, chosen_entry}
use Rattle.mdmp_dump.specs.FileRefusal.{IsUnbudgeted, IsViewRefusal, view_refusal}
use Rattle.mdmp_dump.specs.FileView.{AreCounted, AreInside, HasMoved, IsView, costs_in, count_in, inside_cost_in, opening_cost, source_fault}
use Rattle.mdmp_dump.specs.InFile.{dump_in}
use Rattle.mdmp_dump.specs.LaysOut.{LaysOut}
use Rattle.mdmp_dump.specs.Opening.{FetchesWithin, HasSpentOpening, HoldsWithin, IsLimited, IsShortOf, copy_bound, copy_held, opening_bound}
use Rattle.mdmp_lister.specs.Memory.{is_within}
use Rattle.mdmp_dump.specs.Reading.{IsLastTold, IsWanting, MayBeTold, TellsOf, store_fault, store_fault_in}
use Rattle.mdmp_dump.specs.Shape.{ViewShape}
use Rattle.mdmp_dump.proofs.Costs.{costs_inside, may_listed}
use Rattle.mdmp_writer.specs.Writing.{GoesOut}
use Rattle.mdmp_engines.specs.declared.fault.ToolFault.{ToolFault}
use Rattle.mdmp_engines.specs.declared.fault.ToolFault.TheVariants as tool
use Rattle.mdmp_engines.specs.Causes.{HasOutCause, HasSourceCause, IsNoSourceFault, MayChange}
use Rattle.mdmp_engines.specs.Copying.{Copies, EndsOf, IsCopy, IsCopyRefusal, IsDumpCopied, IsOfShape, IsOverCopy, IsQuietCopy, IsRefusedFirst, IsShapeCopied, IsToldByView, IsUnopened, IsWithinCopy, SpendsWithin, TellsCopyBudget, TellsCopyMemory, TellsNoBudget, TellsPlace, first_not_copied, is_copied, refused_type}
use Rattle.mdmp_engines.specs.Telling.{opening_told, reading_told, told_by}

-- ---- the first type that is not copied

pub here : (types : List ℕ) (k : ℕ) → k < length types → is_copied (slice_index_or types k 0) ≡ false → first_not_copied (drop k types) ≡ Some (slice_index_or types k 0)
unfolding first_not_copied
here types k fewer is = ap first_not_copied (drop_more types k 0 fewer) ∙ (rw is refl)

pub later : (types : List ℕ) (k : ℕ) → k < length types → is_copied (slice_index_or types k 0) ≡ true → first_not_copied (drop k types) ≡ first_not_copied (drop (k + 1) types)
unfolding first_not_copied
later types k fewer is = ap first_not_copied (drop_more types k 0 fewer) ∙ (rw is refl)

pub none_left : (types : List ℕ) (k : ℕ) → length types ≤ k → first_not_copied (drop k types) ≡ None
unfolding first_not_copied
none_left types k past = ap first_not_copied (drop_of_length-le types past)

-- ---- causes

-- what the listing tells of the store is a fault of the store
of_store : (kind : FaultKind) (fault : SourceFault) → store_fault_in kind ≡ Some fault → IsUnobtained kind
of_store (kinds.Source f) fault is = tt
of_store kinds.Budget fault is = tt
of_store kind fault is = none-some fault is

-- over a view that never answers a fault no fault of the store is told
pub reliable_copied : (shape : ViewShape) (before after : OutState) (r : Result ℕ ToolFault) → IsShapeCopied shape before r after → IsTrue shape.is_reliable → IsNoSourceFault r
reliable_copied shape before after (Err (tool.Source fault)) ends reliable = let never = ends.1 in cc
reliable_copied shape before after r ends reliable = tt

-- and of a good store none is told where the file gives no view
opening_good : (fault : OpenFault) → store_fault (reads.Opening fault) ≡ None → IsNoSourceFault {T = ℕ} (Err (opening_told fault))
opening_good (opening.Source f) none = none-some f (sym none)
opening_good opening.Memory none = tt
opening_good (opening.MemoryLimit held) none = tt
opening_good fault none = tt

list_good : (kind : FaultKind) (fault : ListFault) → store_fault_in kind ≡ None → IsNoSourceFault {T = ℕ} (Err (told_by kind fault))
list_good (kinds.Source f) fault none = none-some f (sym none)
list_good kind fault none = tt

pub good_read : (fault : ReadFault) → store_fault fault ≡ None → IsNoSourceFault {T = ℕ} (Err (reading_told fault))
good_read (reads.Opening fault) none = opening_good fault none
good_read (reads.List fault) none = list_good fault.kind fault none
good_read (reads.Source fault) none = none-some fault (sym none)
good_read fault none = tt

-- where the file gives no view none was opened
opening_unopened : (fault : OpenFault) → IsUnopened (Err (opening_told fault))
opening_unopened (opening.Source f) = tt
opening_unopened opening.Memory = tt
opening_unopened (opening.MemoryLimit held) = tt
opening_unopened fault = tt

list_unopened : (kind : FaultKind) (fault : ListFault) → IsUnopened (Err (told_by kind fault))
list_unopened (kinds.Source f) fault = tt
list_unopened kind fault = tt

pub read_unopened : (budget : Option ℕ) (size : ℕ) (fault : ReadFault) → IsViewRefusal budget size fault → IsUnopened (Err (reading_told fault))
read_unopened budget size (reads.Opening fault) refusal = opening_unopened fault
read_unopened budget size (reads.List fault) refusal = list_unopened fault.kind fault
read_unopened budget size (reads.PartsTooLarge e k) refusal = absurd refusal
read_unopened budget size reads.Memory refusal = tt
read_unopened budget size (reads.Source fault) refusal = tt
read_unopened budget size fault refusal = tt

-- nothing was fetched of a source that is as it was
pub unspent : (source : SourceState) (choice : Choice) → HasSpentOpening choice source source
unfolding costs_in
unspent source choice = record { entries = 0; chosen_are = []; reached = []; few = omega arith; fetched = omega arith; of_file = λ F known. omega arith; inside = λ k within. absurd (let h : k < 0 = within in omega (arith, h)); inside_costs = λ F known. omega arith }

-- a view was opened and let go, and nothing was asked of it
pub view_spent : {Z : Type 0} {limit : ℕ} {w : WalkState} {counts rooms : List ℕ} {pass : Option Pass} {passed asked : ℕ} {last : Option ViewFault} → IsView Z limit w counts rooms pass passed asked last
    → (source left : SourceState) (choice : Choice) → w.choice ≡ choice → FetchesSome source w.source → AreCounted source.size w counts → left.fetched ≤ source.fetched + opening_cost w counts
    → ((F : List ℕ) → source.store.content ≡ Some F → opening_cost w counts ≡ opening_bound F choice) → HasSpentOpening choice source left
view_spent {w = w} {counts = counts} sound source left choice choice_is fetches fits spent cost =
    let inside : AreInside source.size w.chosen counts = λ k within. may_listed source.size (chosen_entry w k).entry (get_or counts k 0) (fits k within) in
    record {
      entries = w.header.number_of_streams;
      chosen_are = w.chosen;
      reached = counts;
      few = sound.few;
      fetched = omega (arith, spent);
      of_file = λ F known. omega (arith, cost F known);
      inside = inside;
      inside_costs = λ F known.
          let of = sound.of_file F (fetches.fetches.same_content ∙ known) in
          let entries : w.header.number_of_streams ≡ entry_count F = ap (λ h. h.number_of_streams) of.header in
          let chosen_same : w.chosen ≡ chosen F choice = of.chosen_are ∙ ap (chosen F) choice_is in
          let passes : sum (map (inside_cost_in source.size F) w.chosen) ≡ sum (map (inside_cost_in source.size F) (chosen F choice)) = ap (λ (xs : List Numbered). sum (map (inside_cost_in source.size F) xs)) chosen_same in
          let most = costs_inside F source.size w.chosen counts (λ k within. omega (arith, ap count_in (of.counted k (omega (arith, within, sound.counted))))) inside in
          omega (arith, entries, passes, most);
    }

-- what was written fits the shape
pub shape_copied : (shape : ViewShape) (before after : OutState) (r : Result ℕ ToolFault) → IsShapeCopied shape before r after → IsOfShape shape r
shape_copied shape before after (Ok size) ends = ends.0
shape_copied shape before after (Err (tool.Layout fault)) ends = ends.0
shape_copied shape before after (Err tool.Out) ends = ends.0
shape_copied shape before after (Err (tool.Source fault)) ends = tt
shape_copied shape before after (Err fault) ends = absurd ends

-- a fault that is told of a call is told from before it
told_from : (fault : SourceFault) (a b c : SourceState) → FetchesSome a b → IsLastTold fault b c → IsLastTold fault a c
told_from (Changed at) a b c first told = sym first.fetches.same_content ∙ told
told_from (Failed at) a b c first told = told_later (Failed at) first.count a b c first.fetches told
told_from (ShortRead at) a b c first told = told_later (ShortRead at) first.count a b c first.fetches told

-- the fault of the store is that of the last call of the view that fetched
moved_cause : (source : SourceState) (w v : WalkState) (last : Option ViewFault) (fault : SourceFault) → FetchesSome source w.source → HasMoved w None v last → last ≡ Some (view.Source fault)
    → IsLastTold fault source v.source
moved_cause source w v last fault opened moved is =
    elim (subst (λ (o : Option ViewFault). IfSome o (λ f. ((None ≡ o) × (v.source ≡ w.source)) ⊎ IsLastTold (source_fault f) w.source v.source)) is moved.told) [
      | inl same ↦ absurd (none-some (view.Source fault) same.0)
      | inr told ↦ told_from fault source w.source v.source opened told
    ]

pub cause_copied : (source : SourceState) (w v : WalkState) (first last : Option ViewFault) (r : Result ℕ ToolFault) → FetchesSome source w.source → first ≡ None → HasMoved w first v last
    → IsToldByView r last → HasSourceCause source r v.source
cause_copied source w v first last (Err (tool.Source fault)) opened none moved told =
    moved_cause source w v last fault opened (subst (λ (o : Option ViewFault). HasMoved w o v last) none moved) told
cause_copied source w v first last r opened none moved told = tt

-- ---- what is answered

-- nothing is said of a view where there is none
no_shape : ViewShape
no_shape = record { header = record { version_high = 0; checksum = 0; time = 0; flags = 0 }; streams = []; costs = []; places = []; is_reliable = false; seen = None }

-- a type is refused
pub Copies-not : (Z : Type 0) (content : Option (List ℕ)) (file_size : ℕ) (types : List ℕ) (limit : ℕ) (before : OutState) (t : ℕ) → first_not_copied types ≡ Some t
    → Copies Z content file_size types limit before (Err (tool.NotCopied t)) before
Copies-not Z content file_size types limit before t is = record {
  refuses = is;
  short = λ few none. absurd (let some = is in cc);
  refusal = tt;
  quiet = refl;
  out_cause = refl;
  changed = tt;
  of_shape = record { shape = no_shape; size = tt; out = tt };
  of_file = λ F known. tt;
}

module _ (Z : Type 0) (content : Option (List ℕ)) (file_size : ℕ) (types : List ℕ) (limit : ℕ) (before : OutState) (all : first_not_copied types ≡ None) where
  -- a view of the file was written
  module _ (shape : ViewShape) (after : OutState) (laid_out : (F : List ℕ) → content ≡ Some F → LaysOut F (Types types) (dump_in {Z = Z} F (Types types)))
      (within : (F : List ℕ) → content ≡ Some F → view_refusal F (Types types) limit ≡ None) (long : file_size < 32 → ⊥) where
    copy : (r : Result ℕ ToolFault) (F : List ℕ) → content ≡ Some F → IsDumpCopied (dump_in {Z = Z} F (Types types)) before r after → IsCopy Z F types limit before r after
    copy r F known copied = record { within = within F known; laid_out = laid_out F known; copied = copied }

    pub Copies-viewed : (r : Result ℕ ToolFault) → IsShapeCopied shape before r after → IfOk r (λ size. GoesOut shape size before after) → MayChange content r
        → ((F : List ℕ) → content ≡ Some F → IsDumpCopied (dump_in {Z = Z} F (Types types)) before r after) → Copies Z content file_size types limit before r after
    Copies-viewed (Ok size) ends out may copied = record {
      refuses = all;
      short = λ few _. absurd (long few);
      refusal = tt;
      quiet = tt;
      out_cause = ends.1;
      changed = tt;
      of_shape = record { shape = shape; size = ends.0; out = out };
      of_file = λ F known. copy (Ok size) F known (copied F known);
    }
    Copies-viewed (Err (tool.Layout fault)) ends out may copied = record {
      refuses = all;
      short = λ few _. absurd (long few);
      refusal = tt;
      quiet = ends.1;
      out_cause = ap (λ (o : OutState). o.failures) ends.1;
      changed = tt;
      of_shape = record { shape = shape; size = ends.0; out = tt };
      of_file = λ F known. copy (Err (tool.Layout fault)) F known (copied F known);
    }
    Copies-viewed (Err tool.Out) ends out may copied = record {
      refuses = all;
      short = λ few _. absurd (long few);
      refusal = tt;
      quiet = tt;
      out_cause = ends.1;
      changed = tt;
      of_shape = record { shape = shape; size = ends.0; out = tt };
      of_file = λ F known. copy (Err tool.Out) F known (copied F known);
    }
    Copies-viewed (Err (tool.Source fault)) ends out may copied = record {
      refuses = all;
      short = λ few _. absurd (long few);
      refusal = tt;
      quiet = tt;
      out_cause = ends.2;
      changed = may;
      of_shape = record { shape = shape; size = tt; out = tt };
      of_file = λ F known. inr (copy (Err (tool.Source fault)) F known (copied F known));
    }
    Copies-viewed (Err fault) ends out may copied = absurd ends

  -- a copy needs more than its budget
  pub Copies-over : (needed : ℕ) → (file_size < 32 → ⊥) → ((F : List ℕ) → content ≡ Some F → (view_refusal F (Types types) limit ≡ None) × (needed ≡ raised 0 (copy_bound Z F (Types types))))
      → Copies Z content file_size types limit before (Err (tool.CopyBudget needed)) before
  Copies-over needed long needs = record {
    refuses = all;
    short = λ few _. absurd (long few);
    refusal = tt;
    quiet = refl;
    out_cause = refl;
    changed = tt;
    of_shape = record { shape = no_shape; size = tt; out = tt };
    of_file = needs;
  }

  -- nothing was written, and no type is refused
  record Answers (r : Result ℕ ToolFault) : Type 0 where
    all_copied : refused_type r ≡ None
    refusal : IsCopyRefusal file_size r
    quiet : IsQuietCopy r (before ≡ before)
    out_cause : HasOutCause before r before
    changed : MayChange content r
    of_shape : IsOfShape no_shape r
    of_file : (F : List ℕ) → content ≡ Some F → EndsOf Z F types limit before r before

  -- where the content is known, the fault is the reason, unless memory or the store was wanting
  abbrev IsTold : ReadFault → Type 0
  IsTold fault = (F : List ℕ) → content ≡ Some F → (IsWanting fault → ⊥) → view_refusal F (Types types) limit ≡ Some fault

  -- a fault of the store is told, or want of memory
  of_source : (fault : SourceFault) → MayBeTold content (Some fault) → Answers (Err (tool.Source fault))
  of_source fault may = record { all_copied = refl; refusal = tt; quiet = tt; out_cause = refl; changed = may; of_shape = tt; of_file = λ F known. inl refl }

  of_memory : ((F : List ℕ) → content ≡ Some F → directory_refusal F ≡ None) → Answers (Err tool.Memory)
  of_memory good = record { all_copied = refl; refusal = tt; quiet = refl; out_cause = refl; changed = tt; of_shape = tt; of_file = good }

  of_memory_limit : (held : ℕ) → ((F : List ℕ) → content ≡ Some F → directory_refusal F ≡ None) → Answers (Err (tool.MemoryLimit held))
  of_memory_limit held good = record { all_copied = refl; refusal = tt; quiet = refl; out_cause = refl; changed = tt; of_shape = tt; of_file = good }

  of_budget : (offset size : ℕ) → Answers (Err (tool.Budget offset size))
  of_budget offset size = record { all_copied = refl; refusal = tt; quiet = refl; out_cause = refl; changed = tt; of_shape = tt; of_file = λ F known. tt }

  module _ (limits : Limits) (budget : Option ℕ) where
    opened : (fault : OpenFault) → IsTold (reads.Opening fault) → IsViewRefusal budget file_size (reads.Opening fault) → TellsOf content (reads.Opening fault) → IsLimited limits content (reads.Opening fault) → Answers (Err (opening_told fault))
    opened (opening.Source f) told refusal tells limited = of_source f tells.changed
    opened opening.Memory told refusal tells limited = absurd refusal
    opened (opening.MemoryLimit held) told refusal tells limited = of_memory_limit held (λ F known. (limited.1 F known).0)
    opened (opening.Budget offset size) told refusal tells limited = of_budget offset size
    opened fault told refusal tells limited = record { all_copied = refl; refusal = (tt, refusal); quiet = refl; out_cause = refl; changed = tt; of_shape = tt; of_file = λ F known. told F known (λ own. own) }

    listed : (kind : FaultKind) (fault : ListFault) → fault.kind ≡ kind → IsTold (reads.List fault) → IsViewRefusal budget file_size (reads.List fault) → TellsOf content (reads.List fault) → Answers (Err (told_by kind fault))
    listed (kinds.Source f) fault is told fits tells = of_source f (subst (λ (k : FaultKind). MayBeTold content (store_fault_in k)) is tells.changed)
    listed kinds.Budget fault is told fits tells = absurd (subst IsUnbudgeted is fits.1)
    listed kind fault is told fits tells =
        let own : IsUnobtained fault.kind → ⊥ = subst (λ (k : FaultKind). IsUnobtained k → ⊥) (sym is) (λ x. x) in
        record {
          all_copied = refl;
          refusal = (own, fits.0);
          quiet = refl;
          out_cause = refl;
          changed = tt;
          of_shape = tt;
          of_file = λ F known. told F known own;
        }

    refused : (fault : ReadFault) → IsTold fault → IsViewRefusal budget file_size fault → TellsOf content fault → IsLimited limits content fault → Answers (Err (reading_told fault))
    refused (reads.Opening fault) told refusal tells limited = opened fault told refusal tells limited
    refused (reads.List fault) told refusal tells limited = listed fault.kind fault refl told refusal tells
    refused (reads.PartsTooLarge e k) told refusal tells limited = absurd refusal
    refused reads.Memory told refusal tells limited = of_memory (tells.memory refl)
    refused (reads.Source fault) told refusal tells limited = of_source fault tells.changed
    refused fault told refusal tells limited = record { all_copied = refl; refusal = tt; quiet = refl; out_cause = refl; changed = tt; of_shape = tt; of_file = λ F known. told F known (λ own. own) }

  -- the file gives no view
  pub Copies-refused : (limits : Limits) (budget : Option ℕ) (fault : ReadFault) → IsTold fault → IsViewRefusal budget file_size fault → (file_size < 32 → fault ≡ reads.Opening (opening.TooShort file_size)) → TellsOf content fault → IsLimited limits content fault
      → Copies Z content file_size types limit before (Err (reading_told fault)) before
  Copies-refused limits budget fault told refusal short tells limited =
      let answers = refused limits budget fault told refusal tells limited in
      record {
        refuses = all ∙ sym answers.all_copied;
        short = λ few _. ap (λ (f : ReadFault). Err (reading_told f)) (short few);
        refusal = answers.refusal;
        quiet = answers.quiet;
        out_cause = answers.out_cause;
        changed = answers.changed;
        of_shape = record { shape = no_shape; size = answers.of_shape; out = tt };
        of_file = answers.of_file;
      }

-- ---- what is told of a budget

module _ (Z : Type 0) (types : List ℕ) (budget : Option ℕ) (window : ℕ) (content : Option (List ℕ)) where
  -- none is
  abbrev IsPlain : Result ℕ ToolFault → Type 0
  IsPlain answer = TellsNoBudget answer × IsOverCopy budget answer × ((all opened : ℕ) → IsWithinCopy budget all opened answer) × ((F : List ℕ) → TellsPlace budget window F types answer)

  plain : (answer : Result ℕ ToolFault) → IsPlain answer → TellsCopyBudget Z types budget window content answer
  plain answer is = record { unlimited = λ none. is.0; over = is.1; of_file = λ F known. is.2 (copy_bound Z F (Types types)) (opening_bound F (Types types) + 16 * entry_count F); place = λ F known. is.3 F }

  pub budget_unread : (t : ℕ) → TellsCopyBudget Z types budget window content (Err (tool.NotCopied t))
  budget_unread t = plain (Err (tool.NotCopied t)) (tt, tt, λ all opened. tt, λ F. tt)

  module _ (size : ℕ) where
    budget_opened : (fault : OpenFault) → IsViewRefusal budget size (reads.Opening fault) → ((F : List ℕ) → content ≡ Some F → IsShortOf budget window F (Types types) (reads.Opening fault))
        → TellsCopyBudget Z types budget window content (Err (opening_told fault))
    budget_opened (opening.Budget offset len) refusal short = record { unlimited = refusal.0; over = tt; of_file = λ F known. (short F known).short; place = λ F known. (short F known).place }
    budget_opened (opening.Source f) refusal short = plain (Err (tool.Source f)) (tt, tt, λ all opened. tt, λ F. tt)
    budget_opened opening.Memory refusal short = plain (Err tool.Memory) (tt, tt, λ all opened. tt, λ F. tt)
    budget_opened (opening.MemoryLimit held) refusal short = plain (Err (tool.MemoryLimit held)) (tt, tt, λ all opened. tt, λ F. tt)
    budget_opened fault refusal short = plain (Err (tool.Opening fault)) (tt, tt, λ all opened. tt, λ F. tt)

    budget_listed : (kind : FaultKind) (fault : ListFault) → IsUnbudgeted kind → TellsCopyBudget Z types budget window content (Err (told_by kind fault))
    budget_listed (kinds.Source f) fault is = plain (Err (tool.Source f)) (tt, tt, λ all opened. tt, λ F. tt)
    budget_listed kinds.Budget fault is = absurd is
    budget_listed kind fault is = plain (Err (tool.List fault)) (tt, tt, λ all opened. tt, λ F. tt)

    -- where the file gives no view
    pub budget_refused : (fault : ReadFault) → IsViewRefusal budget size fault → ((F : List ℕ) → content ≡ Some F → IsShortOf budget window F (Types types) fault) → TellsCopyBudget Z types budget window content (Err (reading_told fault))
    budget_refused (reads.Opening fault) refusal short = budget_opened fault refusal short
    budget_refused (reads.List fault) refusal short = budget_listed fault.kind fault refusal.1
    budget_refused (reads.PartsTooLarge e k) refusal short = absurd refusal
    budget_refused reads.Memory refusal short = plain (Err tool.Memory) (tt, tt, λ all opened. tt, λ F. tt)
    budget_refused (reads.Source fault) refusal short = plain (Err (tool.Source fault)) (tt, tt, λ all opened. tt, λ F. tt)
    budget_refused fault refusal short = plain (Err (tool.Reading fault)) (tt, tt, λ all opened. tt, λ F. tt)

  -- where a view of it was written
  pub budget_written : (shape : ViewShape) (before after : OutState) (r : Result ℕ ToolFault) → IsShapeCopied shape before r after → ((F : List ℕ) → content ≡ Some F → KeepsTo budget (copy_bound Z F (Types types)))
      → TellsCopyBudget Z types budget window content r
  budget_written shape before after (Ok size) ends kept = record { unlimited = λ none. tt; over = tt; of_file = kept; place = λ F known. tt }
  budget_written shape before after (Err (tool.Layout fault)) ends kept = record { unlimited = λ none. tt; over = tt; of_file = kept; place = λ F known. tt }
  budget_written shape before after (Err tool.Out) ends kept = record { unlimited = λ none. tt; over = tt; of_file = kept; place = λ F known. tt }
  budget_written shape before after (Err (tool.Source fault)) ends kept = plain (Err (tool.Source fault)) (tt, tt, λ all opened. tt, λ F. tt)
  budget_written shape before after (Err fault) ends kept = absurd ends

  -- and where it needs more than the budget
  pub budget_over : (needed : ℕ) → IsTrue (is_passed budget needed) → ((F : List ℕ) → content ≡ Some F → IsTrue (is_passed budget (copy_bound Z F (Types types)))) → TellsCopyBudget Z types budget window content (Err (tool.CopyBudget needed))
  budget_over needed passes of_file = record {
    unlimited = λ none. let never : IsTrue false = rw none at passes in cc never;
    over = passes;
    of_file = of_file;
    place = λ F known. tt;
  }

-- ---- what is spent of it

-- nothing was written
pub within_refused : (budget : Option ℕ) (old new : SourceState) (answer : Result ℕ ToolFault) → FetchesWithin budget old new → SpendsWithin budget old answer new
within_refused budget old new answer within = record { refused = λ is. within; of_file = λ F known. within }

pub within_unread : (budget : Option ℕ) (source : SourceState) → FetchesWithin budget source source
within_unread budget source most is = omega arith

not_first : (shape : ViewShape) (before after : OutState) (r : Result ℕ ToolFault) → IsShapeCopied shape before r after → IsRefusedFirst r → ⊥
not_first shape before after (Ok size) ends first = first
not_first shape before after (Err (tool.Layout fault)) ends first = first
not_first shape before after (Err tool.Out) ends first = first
not_first shape before after (Err (tool.Source fault)) ends first = first
not_first shape before after (Err fault) ends first = absurd ends

-- a view was written, of a known file within the budget
pub within_written : (budget : Option ℕ) (old new : SourceState) (shape : ViewShape) (before after : OutState) (r : Result ℕ ToolFault) → IsShapeCopied shape before r after
    → ((F : List ℕ) → old.store.content ≡ Some F → (bound : ℕ) × (KeepsTo budget bound × (new.fetched ≤ old.fetched + bound))) → SpendsWithin budget old r new
within_written budget old new shape before after r ends kept = record {
  refused = λ first. absurd (not_first shape before after r ends first);
  of_file = λ F known most is.
      let of = kept F known in
      let within : nat_lt most of.0 ≡ false = rw is at of.1.0 in
      omega (arith, ltb-false most of.0 within, of.1.1);
}

-- ---- what is told of memory

module _ (limits : Limits) (content : Option (List ℕ)) where
  memory_opened : (fault : OpenFault) → IsLimited limits content (reads.Opening fault) → TellsCopyMemory limits content (Err (opening_told fault))
  memory_opened (opening.MemoryLimit held) limited = limited
  memory_opened (opening.Source f) limited = tt
  memory_opened (opening.Budget offset size) limited = tt
  memory_opened opening.Memory limited = limited
  memory_opened fault limited = tt

  memory_listed : (kind : FaultKind) (fault : ListFault) → HoldsWithin limits content → TellsCopyMemory limits content (Err (told_by kind fault))
  memory_listed (kinds.Source f) fault holds = tt
  memory_listed kinds.Budget fault holds = tt
  memory_listed kind fault holds = holds

  pub memory_refused : (fault : ReadFault) → IsLimited limits content fault → TellsCopyMemory limits content (Err (reading_told fault))
  memory_refused (reads.Opening fault) limited = memory_opened fault limited
  memory_refused (reads.List fault) limited = memory_listed fault.kind fault limited
  memory_refused (reads.PartsTooLarge e k) limited = limited
  memory_refused (reads.Source fault) limited = tt
  memory_refused fault limited = limited

  pub memory_written : (shape : ViewShape) (before after : OutState) (r : Result ℕ ToolFault) → IsShapeCopied shape before r after → HoldsWithin limits content → TellsCopyMemory limits content r
  memory_written shape before after (Ok size) ends holds = holds
  memory_written shape before after (Err (tool.Layout fault)) ends holds = holds
  memory_written shape before after (Err tool.Out) ends holds = holds
  memory_written shape before after (Err (tool.Source fault)) ends holds = tt
  memory_written shape before after (Err fault) ends holds = absurd ends

  -- a view of it was opened within the limit
  pub memory_viewed : {Z : Type 0} {limit : ℕ} {w : WalkState} {counts rooms : List ℕ} {pass : Option Pass} {passed asked : ℕ} {last : Option ViewFault} → IsView Z limit w counts rooms pass passed asked last
      → (source : SourceState) → source.store.content ≡ content → FetchesSome source w.source → is_within limits.memory (copy_held limits.window w.header.number_of_streams) ≡ true → HoldsWithin limits content
  memory_viewed {w = w} sound source is fetches within = λ F known.
      let listed : w.header.number_of_streams ≡ entry_count F = ap (λ h. h.number_of_streams) (sound.of_file F (fetches.fetches.same_content ∙ is ∙ known)).header in
      subst (λ (n : ℕ). is_within limits.memory (copy_held limits.window n) ≡ true) listed within
