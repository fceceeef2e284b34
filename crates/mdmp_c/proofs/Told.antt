-- What the calls tell that give a text.
use Rattle.std.proofs.Common.{◌≡◌, ◌∙◌, ◌⊎◌, ◌++◌, ℕ, List, [], Some, ap, refl, inl, inr, sym}
use Rattle.std.specs.Prelude.{Result, Ok, Err}
use Rattle.mdmp_lister.specs.declared.choice.Choice.TheVariants.{All}
use Rattle.mdmp_lister.specs.Format.Listing.{verdicts}
use Rattle.mdmp_lister.specs.Format.Refusal.{opening_fault}
use Rattle.mdmp_source.specs.Output.{OutState, PutsAll, TakesPrefix}
use Rattle.mdmp_engines.specs.declared.fault.ToolFault.{ToolFault}
use Rattle.mdmp_engines.specs.declared.fault.ToolFault.TheVariants as tool
use Rattle.mdmp_engines.specs.Causes.{IsNoSourceFault}
use Rattle.mdmp_engines.specs.CheckRuns.{Checks}
use Rattle.mdmp_engines.specs.CheckText.{bad_count, check_text}
use Rattle.mdmp_print.specs.declared.form.LineForm.{LineForm}
use Rattle.mdmp_c.specs.declared.fault.PlainFault.{PlainFault}
use Rattle.mdmp_c.specs.Fault.{no_memory, told_unless}
use Rattle.mdmp_c.specs.Giving.{Ends, GivesOrWants, IsStopped, answers, given, stops, wanted, wants}
use Rattle.mdmp_c.specs.Texts.{IsCheck}
use Rattle.mdmp_c.specs.ToolFault.{bad_entries, check_answer}

-- all that an output took which had taken nothing
pub taken : (before after : OutState) (whole text : List ℕ) → before.taken ≡ Some [] → after.taken ≡ Some text → PutsAll before whole after → text ≡ whole
taken before after whole text none is put = let all : after.taken ≡ Some whole = put.took [] none in cc

-- or the first part of it
first_taken : (before after : OutState) (whole text : List ℕ) → before.taken ≡ Some [] → after.taken ≡ Some text → (first : TakesPrefix before.taken whole after.taken)
    → text ++ first.rest ≡ whole
first_taken before after whole text none is first =
    let all : after.taken ≡ Some first.sent = first.took [] none in
    let same : text ≡ first.sent = cc in
    ap (λ (xs : List ℕ). xs ++ first.rest) same ∙ sym first.whole

-- memory ran out, or this is what is told of a file within the limits, or the first of it, up to where a limit was reached
abbrev pub IsTellable : {X : Type 0} → (PlainFault → List X → Type 0) → Type 0 → (PlainFault → Type 0) → PlainFault → List X → Type 0
IsTellable IsTold kept MayTell told xs = (told ≡ no_memory) ⊎ ((kept × IsTold told xs) ⊎ (MayTell told × IsStopped IsTold xs))

-- an answer that tells a limit
abbrev pub IsLimited : {T : Type 0} → Result T ToolFault → Type 0
IsLimited (Err (tool.Budget offset size)) = Unit {0}
IsLimited (Err (tool.MemoryLimit held)) = Unit {0}
IsLimited (Err (tool.AsideLimit offset size)) = Unit {0}
IsLimited answer = ⊥

-- one that tells of a file
abbrev pub IsAnswered : {T : Type 0} → Result T ToolFault → Type 0
IsAnswered (Ok x) = Unit {0}
IsAnswered (Err (tool.Opening fault)) = Unit {0}
IsAnswered answer = ⊥

-- a fault of a limit that ends a text
abbrev pub IsTextLimit : ToolFault → Type 0
IsTextLimit (tool.Budget offset size) = Unit {0}
IsTextLimit (tool.AsideLimit offset size) = Unit {0}
IsTextLimit fault = ⊥

-- of a check
pub IsCheck-told : (form : LineForm) (F : List ℕ) (limit : ℕ) (kept : Type 0) (MayTell : PlainFault → Type 0) (before after : OutState) (text : List ℕ) (answer : Result ℕ ToolFault) → before.taken ≡ Some [] → after.taken ≡ Some text
    → IsNoSourceFault answer → (IsLimited answer → MayTell (check_answer answer)) → (IsAnswered answer → kept) → Checks form F limit before answer after
    → IsTellable (IsCheck form F limit) kept MayTell (check_answer answer) text
IsCheck-told form F limit kept MayTell before after text (Ok bad) none is read can keep runs = inr (inl (
  keep tt,
  record {
    told_is = rw (runs.says.0, runs.says.1) refl;
    text_is = taken before after (check_text form F limit) text none is runs.writes;
  },
))
IsCheck-told form F limit kept MayTell before after text (Err (tool.Opening fault)) none is read can keep runs = inr (inl (
  keep tt,
  record {
    told_is = rw runs.says refl;
    text_is = rw runs.says (taken before after [] text none is runs.writes);
  },
))
IsCheck-told form F limit kept MayTell before after text (Err (tool.List fault)) none is read can keep runs = absurd runs.writes
IsCheck-told form F limit kept MayTell before after text (Err (tool.Budget offset size)) none is read can keep runs = inr (inr (
  can tt,
  record {
    whole = told_unless (opening_fault F All) (bad_entries (bad_count (verdicts F All limit)));
    rest = runs.writes.took.rest;
    begins = record { told_is = refl; text_is = first_taken before after (check_text form F limit) text none is runs.writes.took };
  },
))
IsCheck-told form F limit kept MayTell before after text (Err (tool.MemoryLimit held)) none is read can keep runs = inr (inr (
  can tt,
  record {
    whole = told_unless (opening_fault F All) (bad_entries (bad_count (verdicts F All limit)));
    rest = check_text form F limit;
    begins = record { told_is = refl; text_is = ap (λ (xs : List ℕ). xs ++ check_text form F limit) (taken before after [] text none is runs.writes) };
  },
))
IsCheck-told form F limit kept MayTell before after text (Err (tool.AsideLimit offset size)) none is read can keep runs = absurd runs.says.1
IsCheck-told form F limit kept MayTell before after text (Err (tool.CopyBudget needed)) none is read can keep runs = absurd runs.writes
IsCheck-told form F limit kept MayTell before after text (Err tool.Memory) none is read can keep runs = inl refl
IsCheck-told form F limit kept MayTell before after text (Err tool.Out) none is read can keep runs = inl refl
IsCheck-told form F limit kept MayTell before after text (Err (tool.Source fault)) none is read can keep runs = absurd read
IsCheck-told form F limit kept MayTell before after text (Err (tool.Reading fault)) none is read can keep runs = absurd runs.writes
IsCheck-told form F limit kept MayTell before after text (Err (tool.Layout fault)) none is read can keep runs = absurd runs.writes
IsCheck-told form F limit kept MayTell before after text (Err (tool.NotCopied t)) none is read can keep runs = absurd runs.writes

-- what was given unless memory was wanting
pub Ends-given : {X : Type 0} (IsTold : PlainFault → List X → Type 0) (valid kept : Type 0) (MayTell : PlainFault → Type 0) (refusal told : PlainFault) (xs : List X) (status count : ℕ) (fault : PlainFault)
    (before after : List X) → valid → IsTellable IsTold kept MayTell told xs → GivesOrWants told xs status count fault before after
    → Ends IsTold valid kept MayTell refusal status count fault before after
Ends-given IsTold valid kept MayTell refusal told xs status count fault before after ok (inl none) (given some gives) = absurd (some none)
Ends-given IsTold valid kept MayTell refusal told xs status count fault before after ok (inr (inl (keeps, is))) (given some gives) = answers told xs ok keeps is gives
Ends-given IsTold valid kept MayTell refusal told xs status count fault before after ok (inr (inr (can, is))) (given some gives) = stops told xs ok can is gives
Ends-given IsTold valid kept MayTell refusal told xs status count fault before after ok either (wanted fails) = wants ok fails
