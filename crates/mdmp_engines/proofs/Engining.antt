-- A run of a command over the listing of a file, from its parts.
use Rattle.std.proofs.Common.{◌≡◌, ◌<◌, ◌∙◌, ℕ, List, [], Option, None, Some, ap, refl, rules, sym, subst}
use Rattle.std.specs.Prelude.{Result, Ok, Err}
use Rattle.mdmp_source.specs.Output.{HasRefused, Refusals, OutState, PutsAll}
use Rattle.mdmp_source.specs.OutputLaws.{PutsAll-nothing, Takes-nothing}
use Rattle.mdmp_lister.specs.declared.choice.Choice.{Choice}
use Rattle.mdmp_lister.specs.declared.fault.OpenFault.{OpenFault}
use Rattle.mdmp_lister.specs.declared.fault.OpenFault.TheVariants as opening
use Rattle.std.specs.Option.{option_map}
use Rattle.mdmp_source.specs.Source.{SourceState}
use Rattle.mdmp_source.specs.declared.fault.SourceFault.{SourceFault}
use Rattle.mdmp_source.specs.declared.fault.SourceFault.TheVariants.{Changed, Failed, ShortRead}
use Rattle.mdmp_lister.specs.declared.limits.Limits.{Limits}
use Rattle.mdmp_lister.specs.Format.Listing.{listing}
use Rattle.mdmp_lister.specs.Lister.{IsNewLister, ListerState}
use Rattle.mdmp_lister.specs.declared.meter.Amount.{Amount}
use Rattle.mdmp_lister.specs.Format.Refusal.{behind_directory, directory_refusal, opening_fault}
use Rattle.mdmp_lister.specs.Opening.{IsOpenRefusal, IsRefusalOf, IsUnread, IsUnreadFor}
use Rattle.mdmp_source.specs.Store.{IsGood}
use Rattle.mdmp_dump.specs.Reading.{IsLastTold, MayBeTold}
use Rattle.mdmp_engines.specs.declared.fault.ToolFault.{ToolFault}
use Rattle.mdmp_engines.specs.declared.fault.ToolFault.TheVariants.{List as BadList, Source, Budget, AsideLimit, Out, Memory}
use Rattle.mdmp_engines.specs.Causes.{HasOutCause, HasSourceCause, IsNoSourceFault, IsRefusal, MayChange}
use Rattle.mdmp_engines.specs.Engines.{IsBehind, IsOpened, IsQuiet, Pace, Runs, Says, StopsShort, Tells, UnlessEarly, WritesText, at_the_end, directly, past_faults, unless_refused, up_to_a_fault}
use Rattle.mdmp_engines.specs.Telling.{opening_beside}

pub StopsShort-nothing : (before : OutState) (text : List ℕ) → StopsShort before text before
StopsShort-nothing before text = record {
  took = record { sent = []; rest = text; whole = refl; took = Takes-nothing before.taken };
  steady = refl;
}

-- nothing is the first part of no text
pub StopsShort-none : (before after : OutState) → PutsAll before [] after → StopsShort before [] after
StopsShort-none before after none = record {
  took = record { sent = []; rest = []; whole = refl; took = none.took };
  steady = none.steady;
}

-- a file that was not opened: nothing is written
pub Runs-unopened : {T : Type 0} (F : List ℕ) (choice : Choice) (Ends : Result T ToolFault → Type 0) (pace : Pace) (text : List ℕ) (before : OutState) (beside : ℕ) (fault : OpenFault)
    → IsRefusalOf F choice fault → Runs F choice Ends pace text before (Err (opening_beside beside fault)) before
Runs-unopened F choice Ends pace text before beside (opening.Source f) refused = record { says = tt; writes = StopsShort-nothing before _ }
Runs-unopened F choice Ends pace text before beside (opening.Budget offset size) refused = record { says = tt; writes = StopsShort-nothing before _ }
Runs-unopened F choice Ends pace text before beside (opening.Memory) refused = record { says = refused; writes = PutsAll-nothing before }
Runs-unopened F choice Ends pace text before beside (opening.MemoryLimit held) refused = record { says = refused; writes = PutsAll-nothing before }
Runs-unopened F choice Ends pace text before beside (opening.TooShort size) refused = record { says = refused; writes = PutsAll-nothing before }
Runs-unopened F choice Ends pace text before beside (opening.BadSignature) refused = record { says = refused; writes = PutsAll-nothing before }
Runs-unopened F choice Ends pace text before beside (opening.BadVersion low) refused = record { says = refused; writes = PutsAll-nothing before }
Runs-unopened F choice Ends pace text before beside (opening.DirectoryOutside offset size) refused = record { says = refused; writes = PutsAll-nothing before }
Runs-unopened F choice Ends pace text before beside (opening.TooManyRanges count) refused = record { says = refused; writes = PutsAll-nothing before }

-- a file that was opened: what its listing ends in is the run's
directory_good : (F : List ℕ) (choice : Choice) (directory : Option OpenFault) → behind_directory F choice directory ≡ None → directory ≡ None
directory_good F choice (Some fault) is = search (is, rules)
directory_good F choice None is = refl

says_opened : {T : Type 0} (F : List ℕ) (choice : Choice) (Ends : Result T ToolFault → Type 0) (pace : Pace) (untouched : Type 0) (size : ℕ) (r : Result T ToolFault)
    → opening_fault F choice ≡ None → IsBehind pace size r untouched → Ends r → Says F choice Ends r
says_opened F choice Ends pace untouched size (Ok x) opened behind ends = (opened, ends)
says_opened F choice Ends pace untouched size (Err (BadList fault)) opened behind ends = (opened, ends)
says_opened F choice Ends pace untouched size (Err Memory) opened behind ends = directory_good F choice (directory_refusal F) opened
says_opened F choice Ends pace untouched size (Err (Source fault)) opened behind ends = tt
says_opened F choice Ends pace untouched size (Err (Budget offset len)) opened behind ends = tt
says_opened F choice Ends pace untouched size (Err (AsideLimit offset len)) opened behind ends = (opened, ends)
says_opened F choice Ends pace untouched size (Err Out) opened behind ends = (opened, ends)
says_opened F choice Ends pace untouched size (Err fault) opened behind ends = absurd behind

pub Runs-opened : {T : Type 0} (F : List ℕ) (choice : Choice) (Ends : Result T ToolFault → Type 0) (pace : Pace) (text : List ℕ) (untouched : Type 0) (size : ℕ) (before : OutState) (r : Result T ToolFault) (after : OutState)
    → opening_fault F choice ≡ None → IsBehind pace size r untouched → Ends r → WritesText pace text before r after → Runs F choice Ends pace (unless_refused (opening_fault F choice) text) before r after
Runs-opened F choice Ends pace text untouched size before r after opened behind ends writes = record { says = says_opened F choice Ends pace untouched size r opened behind ends; writes = rw opened writes }

-- ---- a file that was not opened, of whatever content

good_unopened : (T : Type 0) (beside : ℕ) (fault : OpenFault) → (IsUnread fault → ⊥) → IsNoSourceFault {T = T} (Err (opening_beside beside fault))
good_unopened T beside (opening.Source f) never = never tt
good_unopened T beside (opening.Budget offset size) never = tt
good_unopened T beside opening.Memory never = tt
good_unopened T beside (opening.MemoryLimit held) never = tt
good_unopened T beside fault never = tt

refusal_unopened : (T : Type 0) (beside size : ℕ) (fault : OpenFault) → IsOpenRefusal size fault → IsRefusal {T = T} size (Err (opening_beside beside fault))
refusal_unopened T beside size (opening.Source f) refused = tt
refusal_unopened T beside size (opening.Budget offset len) refused = tt
refusal_unopened T beside size opening.Memory refused = tt
refusal_unopened T beside size (opening.MemoryLimit held) refused = tt
refusal_unopened T beside size fault refused = (tt, refused)

unless_touched : (pace : Pace) (before : OutState) → UnlessEarly pace (before ≡ before)
unless_touched up_to_a_fault before = tt
unless_touched past_faults before = tt
unless_touched at_the_end before = refl

quiet_unopened : (T : Type 0) (pace : Pace) (before : OutState) (beside : ℕ) (fault : OpenFault) → IsQuiet {T = T} pace (Err (opening_beside beside fault)) (before ≡ before)
quiet_unopened T pace before beside (opening.Source f) = unless_touched pace before
quiet_unopened T pace before beside (opening.Budget offset size) = unless_touched pace before
quiet_unopened T pace before beside opening.Memory = refl
quiet_unopened T pace before beside (opening.MemoryLimit held) = refl
quiet_unopened T pace before beside fault = refl

cause_unopened : (T : Type 0) (before : OutState) (beside : ℕ) (fault : OpenFault) → HasOutCause {T = T} before (Err (opening_beside beside fault)) before
cause_unopened T before beside (opening.Source f) = refl
cause_unopened T before beside (opening.Budget offset size) = refl
cause_unopened T before beside opening.Memory = refl
cause_unopened T before beside (opening.MemoryLimit held) = refl
cause_unopened T before beside fault = refl

changed_unopened : (T : Type 0) (beside : ℕ) (fault : OpenFault) (old new : SourceState) → IsUnreadFor fault old new → MayChange {T = T} old.store.content (Err (opening_beside beside fault))
changed_unopened T beside (opening.Source (Changed at)) old new cause = absurd cause.0.cause
changed_unopened T beside (opening.Source (Failed at)) old new cause = tt
changed_unopened T beside (opening.Source (ShortRead at)) old new cause = tt
changed_unopened T beside (opening.Budget offset size) old new cause = tt
changed_unopened T beside opening.Memory old new cause = tt
changed_unopened T beside (opening.MemoryLimit held) old new cause = tt
changed_unopened T beside fault old new cause = tt

pub Tells-unopened : (T : Type 0) (pace : Pace) (before : OutState) (beside : ℕ) (fault : OpenFault) (old new : SourceState) → ((file : List ℕ) → IsGood old.store file → IsUnread fault → ⊥) → IsOpenRefusal old.size fault
    → (old.size < 32 → fault ≡ opening.TooShort old.size) → IsUnreadFor fault old new → Tells {T = T} directly pace old.store old.size before (Err (opening_beside beside fault)) before
Tells-unopened T pace before beside fault old new good refusal short cause = record {
  good = λ file is. good_unopened T beside fault (good file is);
  refusal = refusal_unopened T beside old.size fault refusal;
  short = λ few. ap (λ (f : OpenFault). Err (opening_beside beside f)) (short few);
  quiet = quiet_unopened T pace before beside fault;
  out_cause = cause_unopened T before beside fault;
  changed = changed_unopened T beside fault old new cause;
}

-- what ends a command behind the opening
pub IsRefusal-behind : {T : Type 0} (pace : Pace) (untouched : Type 0) (size : ℕ) (r : Result T ToolFault) → IsBehind pace size r untouched → IsRefusal size r
IsRefusal-behind pace untouched size (Ok x) behind = tt
IsRefusal-behind pace untouched size (Err (BadList fault)) behind = behind.0
IsRefusal-behind pace untouched size (Err Memory) behind = tt
IsRefusal-behind pace untouched size (Err (Source fault)) behind = tt
IsRefusal-behind pace untouched size (Err (Budget offset len)) behind = tt
IsRefusal-behind pace untouched size (Err (AsideLimit offset len)) behind = tt
IsRefusal-behind pace untouched size (Err Out) behind = tt
IsRefusal-behind pace untouched size (Err fault) behind = absurd behind

pub IsQuiet-behind : {T : Type 0} (pace : Pace) (untouched : Type 0) (size : ℕ) (r : Result T ToolFault) → IsBehind pace size r untouched → IsQuiet pace r untouched
IsQuiet-behind pace untouched size (Ok x) behind = tt
IsQuiet-behind pace untouched size (Err (BadList fault)) behind = behind.1
IsQuiet-behind pace untouched size (Err Memory) behind = behind
IsQuiet-behind pace untouched size (Err (Source fault)) behind = behind
IsQuiet-behind pace untouched size (Err (Budget offset len)) behind = behind
IsQuiet-behind pace untouched size (Err (AsideLimit offset len)) behind = behind
IsQuiet-behind pace untouched size (Err Out) behind = tt
IsQuiet-behind pace untouched size (Err fault) behind = absurd behind

-- what a fault's cause says of a change
last_may : (fault : SourceFault) (old new : SourceState) → IsLastTold fault old new → MayBeTold old.store.content (Some fault)
last_may (Changed at) old new told = told
last_may _ old new told = tt

pub may_change : {T : Type 0} (r : Result T ToolFault) (old new : SourceState) → HasSourceCause old r new → MayChange old.store.content r
may_change (Ok x) old new cause = tt
may_change (Err (Source fault)) old new cause = last_may fault old new cause
may_change (Err fault) old new cause = tt

-- the refusals are the same elsewhere
pub cause_from : {T : Type 0} (a b start c : OutState) (r : Result T ToolFault) → start.failures ≡ a.failures → c.failures ≡ b.failures → HasOutCause a r b → HasOutCause start r c
cause_from a b start c (Err Out) before same cause =
    subst (λ (r : Refusals). HasRefused r c.failures) (sym before) (subst (HasRefused a.failures) (sym same) cause)
cause_from a b start c r before same cause = same ∙ cause ∙ sym before

-- a lister that was opened has given nothing
pub IsOpened-new : (source : SourceState) (choice : Choice) (limits : Limits) (new : ListerState) → IsNewLister source choice limits new → IsOpened choice new
IsOpened-new source choice limits new is = record {
  choice_is = is.list.asked.choice_is;
  passed = is.list.given.passed;
  stop = is.list.given.stop;
  standing = is.list.given.standing;
  ranges = is.list.given.ranges;
  header_is = λ file known. is.list.read.header_is file (sym is.fetches.same_content ∙ known);
  left = λ file known. is.list.given.left ∙ ap (option_map (λ (file : List ℕ). listing file choice limits.name)) (sym is.fetches.same_content ∙ known) ∙ ap (λ (limit : ℕ). Some (listing file choice limit)) (sym is.list.asked.limit_is);
  aside = ap (λ (a : Amount). a.bytes) is.list.counts.aside;
  names = is.list.counts.names;
}
