-- Lines of items given one by one.
use Rattle.std.proofs.Common.{◌≡◌, ◌∙◌, ◌++◌, ◌-◌, ℕ, List, [], Bool, false, Option, Some, None, refl, ap, sym, length, inl, inr, append_assoc, append-nil}
use Rattle.std.specs.Prelude.{Ok, Err, Result, drop, take}
use Rattle.std.specs.List.{flat_map}
use Rattle.std.proofs.lemmas.List.{take-append-drop}
use Rattle.std.proofs.lemmas.List.Concat.{flat_map-append}
use Rattle.std.proofs.Math.Seq.{drop-nil}
use Rattle.mdmp_c.specs.declared.fault.PlainFault.{PlainFault}
use Rattle.mdmp_c.specs.Fault.{aside_fault, budget_fault, list_told, no_memory, open_fault, told_unless}
use Rattle.mdmp_c.specs.Giving.{Ends, Fails, GivesOrWants, answers, bad_limits, refuses, stops, told_count, wants}
use Rattle.mdmp_c.specs.TextPart.{EndsAt, IsListPart, IsPartOf, PutsFirst, PutsRun, ends_at, ends_early}
use Rattle.mdmp_c.specs.Texts.{IsList}
use Rattle.mdmp_c.specs.ToolFault.{list_answer}
use Rattle.mdmp_c.proofs.Ending.{WouldTell}
use Rattle.mdmp_c.proofs.Parted.{drop-append}
use Rattle.mdmp_c.proofs.Told.{Ends-given, IsTextLimit}
use Rattle.mdmp_lister.specs.declared.choice.Choice.TheVariants.{All}
use Rattle.mdmp_lister.specs.declared.fault.OpenFault.{OpenFault}
use Rattle.mdmp_lister.specs.Format.Refusal.{opening_fault}
use Rattle.mdmp_print.specs.Forms.{dump_line_in}
use Rattle.mdmp_wire.specs.Header.{header_at}
use Rattle.mdmp_lister.specs.declared.fault.ListFault.{ListFault}
use Rattle.mdmp_lister.specs.Lister.{tail}
use Rattle.mdmp_lister.specs.Format.Listing.{Run, listing}
use Rattle.mdmp_source.specs.Output.{OutState, PutsAll}
use Rattle.mdmp_engines.specs.Causes.{IsNoSourceFault}
use Rattle.mdmp_engines.specs.declared.fault.ToolFault.{ToolFault}
use Rattle.mdmp_engines.specs.declared.fault.ToolFault.TheVariants.{List as BadList, Budget, Memory, Source, Out, AsideLimit}
use Rattle.mdmp_engines.specs.ReadThrough.{WhereToldToEnd}
use Rattle.mdmp_engines.specs.Runs.{ListsNext}
use Rattle.mdmp_engines.specs.Text.{item_lines, list_text, next_lines, run_text}
use Rattle.mdmp_print.specs.declared.form.LineForm.{LineForm}

module _ (form : LineForm) (pdb : Bool) (F : List ℕ) (limit : ℕ) where
  -- the text of a run is that of its next item, and of the rest
  next_then : (left : Run) → run_text form pdb F limit left ≡ next_lines form pdb F limit left ++ run_text form pdb F limit (tail left)
  next_then left =
      ap (flat_map (item_lines form pdb F limit)) (sym (take-append-drop 1 left.items))
      ∙ flat_map-append (item_lines form pdb F limit) (take 1 left.items) (drop 1 left.items)

  -- a text was given up to some items of a run, which are left
  pub record HasGiven (run : Run) (before : List ℕ) (skip room : ℕ) (left : Run) (passing space size : ℕ) (kept : List ℕ) : Type 0 where
    pub text : List ℕ
    pub whole : before ++ run_text form pdb F limit run ≡ text ++ run_text form pdb F limit left
    pub fault : run.fault ≡ left.fault
    pub part : IsPartOf skip room text passing space size kept

  pub HasGiven-none : (run : Run) (before : List ℕ) (skip room passing space size : ℕ) (kept : List ℕ) → IsPartOf skip room before passing space size kept
      → HasGiven run before skip room run passing space size kept
  HasGiven-none run before skip room passing space size kept part = record { text = before; whole = refl; fault = refl; part = part }

  -- the lines of the next one were given too
  pub HasGiven-next : (run left : Run) (before line : List ℕ) (skip room p s n p' s' n' : ℕ) (kept kept' : List ℕ) → HasGiven run before skip room left p s n kept
      → line ≡ next_lines form pdb F limit left
      → ((text : List ℕ) → IsPartOf skip room text p s n kept → IsPartOf skip room (text ++ line) p' s' n' kept')
      → HasGiven run before skip room (tail left) p' s' n' kept'
  HasGiven-next run left before line skip room p s n p' s' n' kept kept' given is more = record {
    text = given.text ++ line;
    whole =
        given.whole
        ∙ ap (λ xs. given.text ++ xs) (next_then left ∙ ap (λ xs. xs ++ run_text form pdb F limit (tail left)) (sym is))
        ∙ sym (append_assoc given.text line (run_text form pdb F limit (tail left)));
    fault = given.fault;
    part = more given.text given.part;
  }

  -- all of it was given, where no item is left
  ended : (run left : Run) (before : List ℕ) (skip room p s n : ℕ) (kept : List ℕ) (fault : Option ListFault) → HasGiven run before skip room left p s n kept
      → left ≡ record { items = []; fault = fault } → IsPartOf skip room (before ++ run_text form pdb F limit run) p s n kept
  ended run left before skip room p s n kept fault given end =
      rw (given.whole ∙ ap (λ (r : Run). given.text ++ run_text form pdb F limit r) end ∙ append-nil given.text) given.part

  pub PutsRun-end : (MayEnd : ToolFault → Type 0) (run left : Run) (before : List ℕ) (skip room p s n : ℕ) (kept : List ℕ) (now after : OutState) → HasGiven run before skip room left p s n kept
      → ListsNext form pdb F limit left now (Ok false) after
      → PutsRun (λ text. IsPartOf skip room text p s n kept) MayEnd (before ++ run_text form pdb F limit run) run (Ok tt)
  PutsRun-end MayEnd run left before skip room p s n kept now after given next =
      (given.fault ∙ ap (λ (r : Run). r.fault) next.0, ended run left before skip room p s n kept None given next.0)

  -- no bytes were given
  given_nothing : (run left : Run) (before line : List ℕ) (skip room p s n : ℕ) (kept : List ℕ) → line ≡ [] → (given : HasGiven run before skip room left p s n kept)
      → (p' s' n' : ℕ) (kept' : List ℕ) → IsPartOf skip room (given.text ++ line) p' s' n' kept' → HasGiven run before skip room left p' s' n' kept'
  given_nothing run left before line skip room p s n kept none given p' s' n' kept' part =
      let same : given.text ++ line ≡ given.text = ap (λ xs. given.text ++ xs) none ∙ append-nil given.text in
      record { text = given.text; whole = given.whole; fault = given.fault; part = rw same at part }

  -- the first of the next lines were given
  begins_so : (run left : Run) (before text line rest : List ℕ) → before ++ run_text form pdb F limit run ≡ text ++ run_text form pdb F limit left
      → next_lines form pdb F limit left ≡ line ++ rest → before ++ run_text form pdb F limit run ≡ (text ++ line) ++ (rest ++ run_text form pdb F limit (tail left))
  begins_so run left before text line rest whole is =
      let after = run_text form pdb F limit (tail left) in
      whole
      ∙ ap (λ xs. text ++ xs) (next_then left ∙ ap (λ xs. xs ++ after) is ∙ append_assoc line rest after)
      ∙ sym (append_assoc text line (rest ++ after))

  -- or the list ended at a fault, or at a limit, behind the lines that were made before
  pub PutsRun-fault : (MayEnd : ToolFault → Type 0) (run left : Run) (before line : List ℕ) (skip room p s n p' s' n' : ℕ) (kept kept' : List ℕ) (now after : OutState) (f : ToolFault)
      → (given : HasGiven run before skip room left p s n kept) → ListsNext form pdb F limit left now (Err f) after → now.taken ≡ Some [] → after.taken ≡ Some line
      → IsPartOf skip room (given.text ++ line) p' s' n' kept' → IsNoSourceFault {T = Bool} (Err f)
      → (IsTextLimit f → MayEnd f)
      → PutsRun (λ text. IsPartOf skip room text p' s' n' kept') MayEnd (before ++ run_text form pdb F limit run) run (Err f)
  PutsRun-fault MayEnd run left before line skip room p s n p' s' n' kept kept' now after (BadList fault) given next none is more read can =
      let empty : line ≡ [] = let all : Some line ≡ Some [] = sym is ∙ ap (λ (o : OutState). o.taken) next.1 ∙ none in cc in
      let same = given_nothing run left before line skip room p s n kept empty given p' s' n' kept' more in
      (given.fault ∙ ap (λ (r : Run). r.fault) next.0, ended run left before skip room p' s' n' kept' (Some fault) same next.0)
  PutsRun-fault MayEnd run left before line skip room p s n p' s' n' kept kept' now after (Source fault) given next none is more read can = absurd read
  PutsRun-fault MayEnd run left before line skip room p s n p' s' n' kept kept' now after (Budget offset size) given next none is more read can =
      let empty : line ≡ [] = let all : Some line ≡ Some [] = sym is ∙ ap (λ (o : OutState). o.taken) next ∙ none in cc in
      let same = given_nothing run left before line skip room p s n kept empty given p' s' n' kept' more in
      record { limit = can tt; given = same.text; rest = run_text form pdb F limit left; begins = same.whole; put = same.part }
  PutsRun-fault MayEnd run left before line skip room p s n p' s' n' kept kept' now after (AsideLimit offset size) given next none is more read can =
      let short = next.1 in
      let all : after.taken ≡ Some short.took.sent = short.took.took [] none in
      let first : short.took.sent ≡ line = cc in
      let lines = short.took.whole ∙ ap (λ xs. xs ++ short.took.rest) first in
      record {
        limit = can tt;
        given = given.text ++ line;
        rest = short.took.rest ++ run_text form pdb F limit (tail left);
        begins = begins_so run left before given.text line short.took.rest given.whole lines;
        put = more;
      }
  PutsRun-fault MayEnd run left before line skip room p s n p' s' n' kept kept' now after Out given next none is more read can = tt
  PutsRun-fault MayEnd run left before line skip room p s n p' s' n' kept kept' now after _ given next none is more read can = absurd next

  -- what was made before the fault was put behind the rest, unless memory ran out
  pub PutsRun-ended : (MayEnd : ToolFault → Type 0) (run left : Run) (before line : List ℕ) (skip room p s n p' s' n' : ℕ) (kept kept' : List ℕ) (now after : OutState) (f : ToolFault) (result : Result (Unit {0}) ToolFault)
      → HasGiven run before skip room left p s n kept → ListsNext form pdb F limit left now (Err f) after → now.taken ≡ Some [] → after.taken ≡ Some line
      → ((text : List ℕ) → IsPartOf skip room text p s n kept → EndsAt (λ part. IsPartOf skip room part p' s' n' kept') (text ++ line) f result) → IsNoSourceFault {T = Bool} (Err f)
      → (IsTextLimit f → MayEnd f)
      → PutsRun (λ text. IsPartOf skip room text p' s' n' kept') MayEnd (before ++ run_text form pdb F limit run) run result
  PutsRun-ended MayEnd run left before line skip room p s n p' s' n' kept kept' now after f result given next none is ends read can = by (ends given.text given.part) where
    by : EndsAt (λ part. IsPartOf skip room part p' s' n' kept') (given.text ++ line) f result
        → PutsRun (λ text. IsPartOf skip room text p' s' n' kept') MayEnd (before ++ run_text form pdb F limit run) run result
    by (ends_early early) = rw early tt
    by (ends_at at part) =
        let told = PutsRun-fault MayEnd run left before line skip room p s n p' s' n' kept kept' now after f given next none is part read can in
        rw at told

-- the lines that an emptied line took
pub lines_taken : (before after : OutState) (line start text : List ℕ) → before.taken ≡ Some start → start ≡ [] → PutsAll before text after → after.taken ≡ Some line
    → line ≡ text
lines_taken before after line start text known none put is = let all : after.taken ≡ Some (start ++ text) = put.took start known in let same : line ≡ start ++ text = cc in same ∙ ap (λ xs. xs ++ text) none

module _ (form : LineForm) (pdb : Bool) (F : List ℕ) (limit skip : ℕ) where
  -- of a file that is refused nothing is given
  pub no_part : (fault : OpenFault) → opening_fault F All ≡ Some fault → IsListPart form pdb skip F limit (open_fault fault) []
  no_part fault is = record { told_is = rw is refl; part_is = rw is (sym (drop-nil {A = ℕ} skip)) }

  abbrev run : Run
  run = listing F All limit

  abbrev whole : List ℕ
  whole = dump_line_in form (header_at F 0) ++ run_text form pdb F limit run

  pub all_parts : WouldTell (IsListPart form pdb skip F limit)
  all_parts = record {
    whole = told_unless (opening_fault F All) (list_told run.fault);
    all = drop skip (list_text form pdb F limit);
    is = record { told_is = refl; part_is = refl };
  }

  module _ (valid IsKept : Type 0) (MayTell : PlainFault → Type 0) (MayEnd : ToolFault → Type 0) where
    answered : IsKept → (told : PlainFault) (status count : ℕ) (fault : PlainFault) (before after : List ℕ) (p s n : ℕ) (kept : List ℕ) → valid → opening_fault F All ≡ None
        → told ≡ list_told run.fault → IsPartOf skip (length before) whole p s n kept
        → ((part : List ℕ) → n ≡ told_count (length part) → kept ≡ take (length before) part → GivesOrWants told part status count fault before after)
        → Ends (IsListPart form pdb skip F limit) valid IsKept MayTell bad_limits status count fault before after
    answered keeps told status count fault before after p s n kept ok opened is part gives =
        Ends-given (IsListPart form pdb skip F limit) valid IsKept MayTell bad_limits told (drop skip whole) status count fault before after ok
        (inr (inl (keeps, record { told_is = rw opened is; part_is = rw opened refl }))) (gives (drop skip whole) part.size_is part.kept_is)

    -- a limit was reached behind the first of the text
    stopped : (told : PlainFault) (reached : Type 0) (status count : ℕ) (fault : PlainFault) (before after : List ℕ) (p s n : ℕ) (kept : List ℕ) → valid → opening_fault F All ≡ None
        → PutsFirst (λ text. IsPartOf skip (length before) text p s n kept) reached whole → MayTell told
        → ((part : List ℕ) → n ≡ told_count (length part) → kept ≡ take (length before) part → GivesOrWants told part status count fault before after)
        → Ends (IsListPart form pdb skip F limit) valid IsKept MayTell bad_limits status count fault before after
    stopped told reached status count fault before after p s n kept ok opened puts may gives =
        Ends-given (IsListPart form pdb skip F limit) valid IsKept MayTell bad_limits told (drop skip puts.given) status count fault before after ok
        (inr (inr (
          may,
          record {
            whole = list_told run.fault;
            rest = drop (skip - length puts.given) puts.rest;
            begins = record {
              told_is = rw opened refl;
              part_is = rw opened (sym (ap (drop skip) puts.begins ∙ drop-append skip puts.given puts.rest));
            };
          },
        )))
        (gives (drop skip puts.given) puts.put.size_is puts.put.kept_is)

    -- the part of the text of a file that was opened, up to what ended its listing
    pub Ends-part : (answer : Result (Unit {0}) ToolFault) → WhereToldToEnd answer IsKept → (status count : ℕ) (fault : PlainFault) (before after : List ℕ) (p s n : ℕ) (kept : List ℕ) → valid
        → ((f : ToolFault) → MayEnd f → MayTell (list_answer (Err f)))
        → opening_fault F All ≡ None → PutsRun (λ text. IsPartOf skip (length before) text p s n kept) MayEnd whole run answer
        → ((part : List ℕ) → n ≡ told_count (length part) → kept ≡ take (length before) part → GivesOrWants (list_answer answer) part status count fault before after)
        → (list_answer answer ≡ no_memory → Fails no_memory status count fault before after)
        → Ends (IsListPart form pdb skip F limit) valid IsKept MayTell bad_limits status count fault before after
    Ends-part (Ok x) keeps status count fault before after p s n kept ok can opened puts gives none =
        answered keeps (list_answer (Ok x)) status count fault before after p s n kept ok opened (ap list_told (sym puts.0)) puts.1 gives
    Ends-part (Err (BadList f)) keeps status count fault before after p s n kept ok can opened puts gives none =
        answered keeps (list_answer (Err (BadList f))) status count fault before after p s n kept ok opened (ap list_told (sym puts.0)) puts.1 gives
    Ends-part (Err (Budget offset size)) keeps status count fault before after p s n kept ok can opened puts gives none =
        stopped (budget_fault offset size) (MayEnd (Budget offset size)) status count fault before after p s n kept ok opened puts (can (Budget offset size) puts.limit) gives
    Ends-part (Err (AsideLimit offset size)) keeps status count fault before after p s n kept ok can opened puts gives none =
        stopped (aside_fault offset size) (MayEnd (AsideLimit offset size)) status count fault before after p s n kept ok opened puts (can (AsideLimit offset size) puts.limit) gives
    Ends-part (Err Out) keeps status count fault before after p s n kept ok can opened puts gives none = wants ok (none refl)
    Ends-part (Err Memory) keeps status count fault before after p s n kept ok can opened puts gives none = wants ok (none refl)
    Ends-part (Err _) keeps status count fault before after p s n kept ok can opened puts gives none = absurd puts

module _ (form : LineForm) (pdb : Bool) (F : List ℕ) (limit : ℕ) where
  -- what follows no bytes of a text is all of it
  all_of : (told : PlainFault) (text : List ℕ) → IsListPart form pdb 0 F limit told text → IsList form pdb F limit told text
  all_of told text part = record { told_is = part.told_is; text_is = part.part_is }

  pub Ends-whole : (valid kept : Type 0) (MayTell : PlainFault → Type 0) (status count : ℕ) (fault : PlainFault) (before after : List ℕ)
      → Ends (IsListPart form pdb 0 F limit) valid kept MayTell bad_limits status count fault before after
      → Ends (IsList form pdb F limit) valid kept MayTell bad_limits status count fault before after
  Ends-whole valid kept MayTell status count fault before after (answers told text ok keeps is gives) = answers told text ok keeps (all_of told text is) gives
  Ends-whole valid kept MayTell status count fault before after (wants ok fails) = wants ok fails
  Ends-whole valid kept MayTell status count fault before after (stops told text ok can cut gives) =
      stops told text ok can record { whole = cut.whole; rest = cut.rest; begins = all_of cut.whole (text ++ cut.rest) cut.begins } gives
  Ends-whole valid kept MayTell status count fault before after (refuses bad fails) = refuses bad fails
