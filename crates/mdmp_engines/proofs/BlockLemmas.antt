-- A run whose output is gathered into blocks, and the flush behind it.
use Rattle.std.proofs.Common.{◌≡◌, ◌≢◌, ◌∙◌, ◌++◌, ℕ, List, [], ◌∷◌, Option, Some, None, ap, sym, refl, append_assoc, append-nil, subst, inl, inr}
use Rattle.std.specs.Prelude.{Result, Ok, Err}
use Rattle.std.specs.Io.KnownBytes.{append_known}
use Rattle.mdmp_source.specs.Output.{HasRefused, OutState, Refusals, refused_once, Keeps, Takes, TakesPrefix, PutsAll}
use Rattle.mdmp_print.specs.Blocks.{MovesFront}
use Rattle.mdmp_print.specs.BlockLaws.{Keeps-moved}
use Rattle.mdmp_source.specs.OutputLaws.{HasRefused-once, PutsAll-nothing}
use Rattle.mdmp_engines.specs.declared.fault.ToolFault.{ToolFault}
use Rattle.mdmp_engines.specs.declared.fault.ToolFault.TheVariants.{Opening, List as BadList, Source, Budget, Out, Memory, MemoryLimit, AsideLimit}
use Rattle.mdmp_source.specs.Store.{StoreState}
use Rattle.mdmp_lister.specs.declared.choice.Choice.{Choice}
use Rattle.mdmp_engines.proofs.Engining.{cause_from}
use Rattle.mdmp_engines.specs.Causes.{HasOutCause}
use Rattle.mdmp_engines.specs.Engines.{EndsAtFault, EndsFlushed, IsFirstPart, IsFlushed, IsQuiet, Pace, RefusesWithin, Runs, RunsThrough, StopsShort, Tells, UnlessEarly, WritesText, at_the_end, directly, early_text, in_blocks, past_faults, refused, stands, up_to_a_fault}

-- ---- what has been taken, with nothing pending

append_known-nil : (a : Option (List ℕ)) → append_known a [] ≡ a
append_known-nil None = refl
append_known-nil (Some c) = ap Some (append-nil c)

-- all is out after a flush that went through
pub Takes-flushed : (a b c : OutState) (old pending left text : List ℕ) → old ≡ [] → left ≡ [] → MovesFront b pending c left
    → Takes (append_known a.taken old) text (append_known b.taken pending) → Takes a.taken text c.taken
Takes-flushed a b c old pending left text none done moved took start known =
    let before : append_known a.taken old ≡ Some start = ap (append_known a.taken) none ∙ append_known-nil a.taken ∙ known in
    let after : append_known c.taken left ≡ Some (start ++ text) = Keeps-moved b pending c left moved (start ++ text) (took start before) in
    sym (append_known-nil c.taken) ∙ sym (ap (append_known c.taken) done) ∙ after

-- ---- what is out where the output refused

first_part : (c : Option (List ℕ)) (pending sent rest start text : List ℕ) → append_known c pending ≡ Some (start ++ sent) → text ≡ sent ++ rest → IsFirstPart c (start ++ text)
first_part None pending sent rest start text known whole = absurd (cc)
first_part (Some out) pending sent rest start text known whole =
    let same : out ++ pending ≡ start ++ sent = cc in
    record {
      out = out;
      rest = pending ++ rest;
      known = refl;
      splits = rw whole (sym (append_assoc start sent rest) ∙ ap (λ x. x ++ rest) (sym same) ∙ append_assoc out pending rest);
    }

-- a prefix of the text is taken, of which some may be pending
pub first_part-taken : (a c : Option (List ℕ)) (old pending text : List ℕ) → old ≡ [] → TakesPrefix (append_known a old) text (append_known c pending)
    → (start : List ℕ) → a ≡ Some start → IsFirstPart c (start ++ text)
first_part-taken a c old pending text none cut start known =
    let before : append_known a old ≡ Some start = ap (append_known a) none ∙ append_known-nil a ∙ known in
    first_part c pending cut.sent cut.rest start text (cut.took start before) cut.whole

-- a prefix is still one after more has moved
pub TakesPrefix-Keeps : (a b c : Option (List ℕ)) (text : List ℕ) → TakesPrefix a text b → Keeps b c → TakesPrefix a text c
TakesPrefix-Keeps a b c text cut kept = record {
  sent = cut.sent;
  rest = cut.rest;
  whole = cut.whole;
  took = λ start known. kept (start ++ cut.sent) (cut.took start known);
}

sent_none : (sent rest : List ℕ) → [] ≡ sent ++ rest → sent ≡ []
sent_none [] rest whole = refl
sent_none (x ∷ sent) rest whole = absurd (cc)

nothing : (a b : Option (List ℕ)) (text : List ℕ) → Takes a [] b → TakesPrefix a text b
nothing a b text took = record { sent = []; rest = text; whole = refl; took = took }

none_of : (a b : Option (List ℕ)) (text : List ℕ) → TakesPrefix a [] b → TakesPrefix a text b
none_of a b text cut = record {
  sent = [];
  rest = text;
  whole = refl;
  took = subst (λ (sent : List ℕ). Takes a sent b) (sent_none cut.sent cut.rest cut.whole) cut.took;
}

pub all : (a b : Option (List ℕ)) (text : List ℕ) → Takes a text b → TakesPrefix a text b
all a b text took = record { sent = text; rest = []; whole = sym (append-nil text); took = took }

-- ---- the flush behind a run

-- an output with blocks as a run sees it
abbrev pub with_pending : OutState → List ℕ → OutState
with_pending inner pending = record { taken = append_known inner.taken pending; failures = inner.failures }

-- what happened to the output: before the run it was a with nothing pending, behind it b with the bytes pending, and
-- behind the flush c with what is left
pub record Flush (a b c : OutState) (old pending left : List ℕ) : Type 0 where
  pub none : old ≡ []
  pub moved : MovesFront b pending c left

-- a text that was written is out after a flush that went through
pub all_out : (a b c : OutState) (old pending left text : List ℕ) → Flush a b c old pending left → left ≡ [] → c.failures ≡ b.failures
    → PutsAll (with_pending a old) text (with_pending b pending) → PutsAll a text c
all_out a b c old pending left text f done same put = record {
  took = Takes-flushed a b c old pending left text f.none done f.moved put.took;
  steady = same ∙ put.steady;
}

-- and so is the first part of one
pub first_out : (a b c : OutState) (old pending left text : List ℕ) → Flush a b c old pending left → left ≡ [] → c.failures ≡ b.failures
    → StopsShort (with_pending a old) text (with_pending b pending) → StopsShort a text c
first_out a b c old pending left text f done same short = record {
  took = record {
    sent = short.took.sent;
    rest = short.took.rest;
    whole = short.took.whole;
    took = Takes-flushed a b c old pending left short.took.sent f.none done f.moved short.took.took;
  };
  steady = same ∙ short.steady;
}

-- where the output refused, a first part of the text is out
pub part_out : (a b c : OutState) (old pending left text : List ℕ) → Flush a b c old pending left → HasRefused a.failures c.failures
    → TakesPrefix (with_pending a old).taken text (with_pending b pending).taken → RefusesWithin a text c
part_out a b c old pending left text f risen cut = record {
  within = first_part-taken a.taken c.taken old left text f.none (TakesPrefix-Keeps _ _ _ text cut (Keeps-moved b pending c left f.moved));
  refused = risen;
}

-- ---- what a run says of its output

-- what a fault of the listing leaves, where it ends the command
ended : (pace : Pace) (P : Type 0) → EndsAtFault pace P → P
ended up_to_a_fault P ends = ends
ended past_faults P ends = absurd ends
ended at_the_end P ends = ends

pub at_fault : (pace : Pace) (P Q : Type 0) → (P → Q) → EndsAtFault pace P → EndsAtFault pace Q
at_fault up_to_a_fault P Q from ends = from ends
at_fault past_faults P Q from ends = ends
at_fault at_the_end P Q from ends = from ends

-- whatever the answer, what was written is a prefix of the text
WritesText-prefix : {T : Type 0} (pace : Pace) (text : List ℕ) (a b : OutState) (r : Result T ToolFault) → WritesText pace text a r b → TakesPrefix a.taken text b.taken
WritesText-prefix pace text a b (Ok x) put = all a.taken b.taken text put.took
WritesText-prefix pace text a b (Err (BadList f)) ends = let put = ended pace (PutsAll a text b) ends in all a.taken b.taken text put.took
WritesText-prefix pace text a b (Err (Opening f)) put = nothing a.taken b.taken text put.took
WritesText-prefix pace text a b (Err Memory) put = nothing a.taken b.taken text put.took
WritesText-prefix pace text a b (Err (MemoryLimit held)) put = nothing a.taken b.taken text put.took
WritesText-prefix up_to_a_fault text a b (Err (Source f)) short = short.took
WritesText-prefix past_faults text a b (Err (Source f)) short = short.took
WritesText-prefix at_the_end text a b (Err (Source f)) short = none_of a.taken b.taken text short.took
WritesText-prefix up_to_a_fault text a b (Err (Budget offset size)) short = short.took
WritesText-prefix past_faults text a b (Err (Budget offset size)) short = short.took
WritesText-prefix at_the_end text a b (Err (Budget offset size)) short = none_of a.taken b.taken text short.took
WritesText-prefix up_to_a_fault text a b (Err (AsideLimit offset size)) short = short.took
WritesText-prefix past_faults text a b (Err (AsideLimit offset size)) short = short.took
WritesText-prefix at_the_end text a b (Err (AsideLimit offset size)) short = none_of a.taken b.taken text short.took
WritesText-prefix pace text a b (Err Out) cut = cut.took
WritesText-prefix pace text a b (Err fault) never = absurd never

-- where a run was not refused, the refusals are as they were
pub not_refused : {T : Type 0} (a b : OutState) (r : Result T ToolFault) → r ≢ Err Out → HasOutCause a r b → b.failures ≡ a.failures
not_refused a b (Err Out) other cause = absurd (other refl)
not_refused a b r other cause = cause

-- so behind one refusal more there is one more
pub one_refused : (before now after : Refusals) → now ≡ before → after ≡ refused_once now → HasRefused before after
one_refused before now after same once = subst (HasRefused before) (sym (once ∙ ap refused_once same)) (HasRefused-once before)

-- ---- a run that is flushed

pub Runs-flushed : {T : Type 0} (F : List ℕ) (choice : Choice) (Ends : Result T ToolFault → Type 0) (pace : Pace) (text : List ℕ) (a b c : OutState) (old pending left : List ℕ)
    (r s : Result T ToolFault) → old ≡ [] → MovesFront b pending c left → IsFlushed s left → EndsFlushed r s b c → HasOutCause (with_pending a old) r (with_pending b pending)
    → Runs F choice Ends pace text (with_pending a old) r (with_pending b pending) → RunsThrough F choice Ends pace text a s c
Runs-flushed {T = T} F choice Ends pace text a b c old pending left r s none moved flushed ends cause run = by ends where
  flush : Flush a b c old pending left
  flush = record { none = none; moved = moved }

  cut : HasRefused a.failures c.failures → RefusesWithin a text c
  cut risen = part_out a b c old pending left text flush risen (WritesText-prefix pace text (with_pending a old) (with_pending b pending) r run.writes)

  put : (whole : List ℕ) → left ≡ [] → c.failures ≡ b.failures → PutsAll (with_pending a old) whole (with_pending b pending) → PutsAll a whole c
  put whole = all_out a b c old pending left whole flush

  through : (r : Result T ToolFault) → IsFlushed r left → c.failures ≡ b.failures
      → Runs F choice Ends pace text (with_pending a old) r (with_pending b pending)
      → (HasRefused a.failures c.failures → RefusesWithin a text c) → RunsThrough F choice Ends pace text a r c
  through (Ok x) done same run cut = record { says = run.says; writes = put text done same run.writes }
  through (Err (BadList f)) done same run cut = record { says = run.says; writes = at_fault pace _ _ (put text done same) run.writes }
  through (Err (Opening f)) done same run cut = record { says = run.says; writes = put [] done same run.writes }
  through (Err Memory) done same run cut = record { says = run.says; writes = put [] done same run.writes }
  through (Err (MemoryLimit held)) done same run cut = record { says = run.says; writes = put [] done same run.writes }
  through (Err (Source f)) done same run cut = record {
    says = run.says;
    writes = first_out a b c old pending left (early_text pace text) flush done same run.writes;
  }
  through (Err (Budget offset size)) done same run cut = record {
    says = run.says;
    writes = first_out a b c old pending left (early_text pace text) flush done same run.writes;
  }
  through (Err (AsideLimit offset size)) done same run cut = record {
    says = run.says;
    writes = first_out a b c old pending left (early_text pace text) flush done same run.writes;
  }
  through (Err Out) done same run cut =
      let writes = run.writes in
      cut (subst (HasRefused a.failures) (sym same) writes.refused)
  through (Err fault) done same run cut = absurd run.writes

  by : EndsFlushed r s b c → RunsThrough F choice Ends pace text a s c
  by (stands same steady) =
      let done : IsFlushed r left = subst (λ (x : Result T ToolFault). IsFlushed x left) same flushed in
      subst (λ (x : Result T ToolFault). RunsThrough F choice Ends pace text a x c) (sym same) (through r done steady run cut)
  by (refused other out more) =
      let same : b.failures ≡ a.failures = not_refused (with_pending a old) (with_pending b pending) r other cause in
      subst (λ (x : Result T ToolFault). RunsThrough F choice Ends pace text a x c) (sym out) (cut (one_refused a.failures b.failures c.failures same more))

-- ---- what is said of whatever file

-- an output that is as it was has taken nothing
put_none : (a b : OutState) → b ≡ a → PutsAll a [] b
put_none a b same = subst (λ (x : OutState). PutsAll a [] x) (sym same) (PutsAll-nothing a)

unless_early : (pace : Pace) (P Q : Type 0) → (P → Q) → UnlessEarly pace P → UnlessEarly pace Q
unless_early up_to_a_fault P Q from quiet = tt
unless_early past_faults P Q from quiet = tt
unless_early at_the_end P Q from quiet = from quiet

pub quiet_from : {T : Type 0} (pace : Pace) (r : Result T ToolFault) (left : List ℕ) (P Q : Type 0) → IsFlushed r left → (left ≡ [] → P → Q) → IsQuiet pace r P → IsQuiet pace r Q
quiet_from pace (Ok x) left P Q done from quiet = tt
quiet_from pace (Err Out) left P Q done from quiet = tt
quiet_from pace (Err (Opening f)) left P Q done from quiet = from done quiet
quiet_from pace (Err Memory) left P Q done from quiet = from done quiet
quiet_from pace (Err (MemoryLimit held)) left P Q done from quiet = from done quiet
quiet_from pace (Err (BadList f)) left P Q done from quiet = at_fault pace _ _ (unless_early pace P Q (from done)) quiet
quiet_from pace (Err (Source f)) left P Q done from quiet = unless_early pace P Q (from done) quiet
quiet_from pace (Err (Budget offset size)) left P Q done from quiet = unless_early pace P Q (from done) quiet
quiet_from pace (Err (AsideLimit offset size)) left P Q done from quiet = unless_early pace P Q (from done) quiet
quiet_from pace (Err fault) left P Q done from never = absurd never

pub Tells-flushed : {T : Type 0} (pace : Pace) (store : StoreState) (size : ℕ) (a b c : OutState) (old pending left : List ℕ) (r s : Result T ToolFault) → old ≡ []
    → MovesFront b pending c left → IsFlushed s left → EndsFlushed r s b c
    → Tells directly pace store size (with_pending a old) r (with_pending b pending) → Tells in_blocks pace store size a s c
Tells-flushed {T = T} pace store size a b c old pending left r s none moved flushed ends tells = by ends where
  flush : Flush a b c old pending left
  flush = record { none = none; moved = moved }

  by : EndsFlushed r s b c → Tells in_blocks pace store size a s c
  by (stands same steady) =
      let done : IsFlushed r left = subst (λ (x : Result T ToolFault). IsFlushed x left) same flushed in
      subst (λ (x : Result T ToolFault). Tells in_blocks pace store size a x c) (sym same) (record {
        good = tells.good;
        refusal = tells.refusal;
        short = λ few. inl (tells.short few);
        quiet = quiet_from pace r left _ _ done (λ empty is. all_out a b c old pending left [] flush empty steady (put_none _ _ is)) tells.quiet;
        out_cause = cause_from (with_pending a old) (with_pending b pending) a c r refl steady tells.out_cause;
        changed = tells.changed;
      })
  by (refused other out more) =
      let same : b.failures ≡ a.failures = not_refused (with_pending a old) (with_pending b pending) r other tells.out_cause in
      subst (λ (x : Result T ToolFault). Tells in_blocks pace store size a x c) (sym out) (record {
        good = λ file good. tt;
        refusal = tt;
        short = λ few. inr refl;
        quiet = tt;
        out_cause = one_refused a.failures b.failures c.failures same more;
        changed = tt;
      })
