-- What the opening of a file tells of the dump that it lays out.
use Rattle.std.proofs.Common.{◌≡◌, ◌≤◌, ◌<◌, ◌+◌, ◌*◌, ◌^◌, ℕ, List, length, Option, Some, None, Err, Bool, true, false, nat_lt, if◌then◌else◌, arith, ltb-false, refl, subst, sym}
use Rattle.std.proofs.lemmas.Grind.{common_steps}
use Rattle.std.specs.Prelude.{IfSome, IsTrue}
use Rattle.mdmp_source.specs.Range.{is_inside}
use Rattle.mdmp_source.specs.Source.{SourceState, FetchesAtMost}
use Rattle.mdmp_source.specs.Store.{IsGood}
use Rattle.mdmp_wire.specs.declared.header_fault.HeaderFault.{HeaderFault}
use Rattle.mdmp_wire.specs.declared.header_fault.HeaderFault.TheVariants as header
use Rattle.mdmp_wire.specs.Header.{header_at}
use Rattle.mdmp_wire.specs.HeaderFault.{HasHeader, header_fault}
use Rattle.mdmp_lister.specs.Calls.{AskedRoom, TellsListsLacking}
use Rattle.mdmp_lister.specs.declared.choice.Choice.{Choice}
use Rattle.mdmp_lister.specs.declared.fault.OpenFault.{OpenFault}
use Rattle.mdmp_lister.specs.declared.fault.OpenFault.TheVariants as opening
use Rattle.mdmp_lister.specs.Format.Listing.{entry_count}
use Rattle.mdmp_lister.specs.Format.Refusal.{behind_directory, behind_header, directory_fault, directory_refusal, opening_fault}
use Rattle.mdmp_source.specs.Count.{raised}
use Rattle.mdmp_lister.specs.Opening.{IsBareRefusal, IsDirectoryRefusal, IsOpenRefusal, IsRefusalOf, IsUnread, IsUnreadFor, KeepsToBudget}
use Rattle.std.proofs.lemmas.Bool.Decides.{nat_tests}
use Rattle.mdmp_lister.specs.Format.Bounds.{held_bound}
use Rattle.mdmp_lister.specs.Memory.{IsWalkRefusal, TellsWalkMemory, is_within, memory_fault, walk_fault}
use Rattle.mdmp_dump.specs.FileView.{IsShortAt}
use Rattle.mdmp_dump.specs.Opening.{EndsOpening, FetchesWithin, IsLimited, IsNameless, TellsOpeningEnd, copy_fault, copy_held, half_of, opening_bound}
use Rattle.mdmp_lister.specs.Meter.{KeepsTo, is_passed}
use Rattle.mdmp_lister.specs.NextFetch.{IsDirectoryFetch, IsOpeningFetch, TellsNextOpening}
use Rattle.mdmp_wire.specs.declared.header.Header.{Header}
use Rattle.std.proofs.lemmas.Option.{none-some}
use Rattle.mdmp_dump.proofs.Budgets.{over_more}
use Rattle.mdmp_lister.specs.declared.limits.Limits.{Limits}
use Rattle.mdmp_dump.specs.FileRefusal.{view_refusal}
use Rattle.mdmp_dump.specs.declared.fault.ReadFault.{ReadFault}
use Rattle.mdmp_dump.specs.declared.fault.ReadFault.TheVariants as faults
use Rattle.mdmp_dump.specs.Reading.{Fetches, IsLastTold, IsWanting, MayBeTold, TellsOf, store_fault}
use Rattle.mdmp_source.specs.declared.fault.SourceFault.{SourceFault}
use Rattle.mdmp_source.specs.declared.fault.SourceFault.TheVariants.{Changed}
use Rattle.mdmp_dump.specs.Refusal.{read_refusal, refusal_of}
use Rattle.mdmp_dump.proofs.Budget.{Fetches-read}
use Rattle.mdmp_dump.proofs.Taking.{Fetches_memory}

-- ---- the header and the directory

directory-opens : (F : List ℕ) (choice : Choice) (fault : Option OpenFault) → behind_directory F choice fault ≡ None → fault ≡ None
directory-opens F choice None none = refl
directory-opens F choice (Some fault) none = absurd (cc none)

header-opens : (F : List ℕ) (fault : Option HeaderFault) → behind_header F fault ≡ None → (fault ≡ None) × (directory_fault F ≡ None)
header-opens F None none = (refl, none)
header-opens F (Some header.BadSignature) none = absurd (cc none)
header-opens F (Some (header.BadVersion low)) none = absurd (cc none)

long-opens : (F : List ℕ) (short : Bool) → nat_lt (length F) 32 ≡ short
    → (if short then Some (opening.TooShort (length F)) else behind_header F (header_fault F)) ≡ None → (32 ≤ length F) × (behind_header F (header_fault F) ≡ None)
long-opens F true is none = absurd (cc none)
long-opens F false is none = (ltb-false (length F) 32 is, none)

-- a file whose directory is not refused has a header, and its directory lies inside it
pub directory-head : (F : List ℕ) → directory_refusal F ≡ None
    → HasHeader F (header_at F 0) × IsTrue (is_inside (header_at F 0).stream_directory_rva (12 * entry_count F) (length F))
directory-head F none =
    let long = long-opens F (nat_lt (length F) 32) refl none in
    let head = header-opens F (header_fault F) long.1 in (
      record {
        room = long.0;
        signature = grind (arith, common_steps, head.0);
        version = grind (arith, common_steps, head.0);
        fields = refl;
      },
      grind (arith, common_steps, head.1),
    )

-- and so has one that opens
pub opened-head : (F : List ℕ) (choice : Choice) → opening_fault F choice ≡ None
    → HasHeader F (header_at F 0) × IsTrue (is_inside (header_at F 0).stream_directory_rva (12 * entry_count F) (length F))
opened-head F choice none = directory-head F (directory-opens F choice (directory_refusal F) none)

-- ---- a refused opening

-- it is the refusal of the file, where nothing is wanting
pub opening-settles : (F : List ℕ) (choice : Choice) (limit parts : ℕ) (fault : OpenFault) → IsRefusalOf F choice fault
    → (IsWanting (refusal_of fault) → ⊥) → read_refusal F choice limit parts ≡ Some (refusal_of fault)
opening-settles F choice limit parts (opening.Source fault) is own = absurd (own tt)
opening-settles F choice limit parts (opening.Budget offset size) is own = absurd (own tt)
opening-settles F choice limit parts opening.Memory is own = absurd (own tt)
opening-settles F choice limit parts (opening.MemoryLimit held) is own = absurd (own tt)
opening-settles F choice limit parts fault is own = rw is refl

-- a refusal does not tell a budget
abbrev pub TellsNone : OpenFault → Type 0
TellsNone fault = (offset size : ℕ) → fault ≡ opening.Budget offset size → ⊥

-- where there is none
pub tells_none : (limits : Limits) (old : SourceState) (fault : OpenFault) (new : SourceState) → limits.budget ≡ None → KeepsToBudget limits old fault new → TellsNone fault
tells_none limits old (opening.Budget at len) new none over = λ offset size same. let never : IsTrue false = rw none at over.over.passes in cc never
tells_none limits old fault new none over = λ offset size same. cc same

-- and that of its view, for which no ranges are counted
pub directory-settles : (F : List ℕ) (choice : Choice) (names : ℕ) (fault : OpenFault) → IsDirectoryRefusal F fault
    → (IsWanting (refusal_of (copy_fault fault)) → ⊥) → view_refusal F choice names ≡ Some (refusal_of (copy_fault fault))
directory-settles F choice names (opening.Source fault) is own = absurd (own tt)
directory-settles F choice names (opening.Budget offset size) is own = absurd (own tt)
directory-settles F choice names opening.Memory is own = absurd (own tt)
directory-settles F choice names (opening.MemoryLimit held) is own = absurd (own tt)
directory-settles F choice names fault is own = rw is refl

-- ---- what a copy tells of memory

pub copied_refusal : (F : List ℕ) (fault : OpenFault) → IsDirectoryRefusal F fault → IsDirectoryRefusal F (copy_fault fault)
copied_refusal F (opening.MemoryLimit held) is = is
copied_refusal F fault is = is

pub copied_unread : (fault : OpenFault) (old new : SourceState) → IsUnreadFor fault old new → IsUnreadFor (copy_fault fault) old new
copied_unread (opening.MemoryLimit held) old new is = is
copied_unread fault old new is = is

pub copied_good : (fault : OpenFault) → (IsUnread fault → ⊥) → IsUnread (copy_fault fault) → ⊥
copied_good (opening.MemoryLimit held) never is = never is
copied_good fault never is = never is

pub copied_open : (size : ℕ) (fault : OpenFault) → IsOpenRefusal size fault → IsOpenRefusal size (copy_fault fault)
copied_open size (opening.MemoryLimit held) is = is
copied_open size fault is = is

pub copied_bare : (size : ℕ) (fault : OpenFault) → IsBareRefusal size fault → IsBareRefusal size (copy_fault fault)
copied_bare size (opening.MemoryLimit held) is = is
copied_bare size fault is = is

pub copied_none : (fault : OpenFault) → TellsNone fault → TellsNone (copy_fault fault)
copied_none (opening.MemoryLimit held) none = λ offset size same. cc same
copied_none fault none = none

-- twice as much is within a limit where that is within half of it
twice_within : (memory : Option ℕ) (n : ℕ) → is_within (half_of memory) n ≡ true → is_within memory (2 * n) ≡ true
twice_within None n is = refl
twice_within (Some most) n is = grind (arith, nat_tests, is)

twice_over : (memory : Option ℕ) (n : ℕ) → is_within (half_of memory) n ≡ false → is_within memory (2 * n) ≡ false
twice_over None n is = is
twice_over (Some most) n is = grind (arith, nat_tests, is)

module _ (limits nameless : Limits) (halved : IsNameless limits nameless) where
  twice_held : (entries : ℕ) → 2 * held_bound nameless.window nameless.name entries 0 ≡ copy_held limits.window entries
  twice_held entries = omega (arith, halved.window, halved.name)

  pub copy_within : (entries : ℕ) → is_within nameless.memory (held_bound nameless.window nameless.name entries 0) ≡ true → is_within limits.memory (copy_held limits.window entries) ≡ true
  copy_within entries is =
      let half : is_within (half_of limits.memory) (held_bound nameless.window nameless.name entries 0) ≡ true = subst (λ (m : Option ℕ). is_within m (held_bound nameless.window nameless.name entries 0) ≡ true) halved.memory is in
      subst (λ (n : ℕ). is_within limits.memory n ≡ true) (twice_held entries) (twice_within limits.memory (held_bound nameless.window nameless.name entries 0) half)

  held_of : (F : List ℕ) (held : ℕ) → directory_refusal F ≡ None → walk_fault nameless F ≡ Some (opening.MemoryLimit held) → held ≡ held_bound nameless.window nameless.name (entry_count F) 0
  held_of F held opens is =
      let told : memory_fault nameless.memory (held_bound nameless.window nameless.name (entry_count F) 0) ≡ Some (opening.MemoryLimit held) = rw opens at is in
      by (is_within nameless.memory (held_bound nameless.window nameless.name (entry_count F) 0)) told where
        by : (b : Bool) → (if b then None else Some (opening.MemoryLimit (held_bound nameless.window nameless.name (entry_count F) 0))) ≡ Some (opening.MemoryLimit held) → held ≡ held_bound nameless.window nameless.name (entry_count F) 0
        by true none = absurd (cc none)
        by false some = let same = some in cc

  -- it is told only where a copy would hold more
  pub limited : {A : Type 0} (may_lack : A → Limits → AskedRoom → Type 0) (alloc : A) (choice : Choice) (old : SourceState) (fault : OpenFault) (new : SourceState) → old.size < 2 ^ 64 → TellsWalkMemory nameless old fault new → ((F : List ℕ) → old.store.content ≡ Some F → IsDirectoryRefusal F fault)
      → ((F : List ℕ) → old.store.content ≡ Some F → IsWalkRefusal nameless F fault)
      → TellsListsLacking may_lack alloc nameless choice old.store.content fault → IsLimited limits old.store.content (refusal_of (copy_fault fault))
  limited may_lack alloc choice old (opening.MemoryLimit held) new small over opens within lacks =
      let window = limits.window_most in
      let twice : raised held held ≡ 2 * held = omega (arith, over.held_is, over.inside, small, halved.window, halved.name, window) in
      let half : is_within (half_of limits.memory) held ≡ false = subst (λ (m : Option ℕ). is_within m held ≡ false) halved.memory over.over in (
        subst (λ (n : ℕ). is_within limits.memory n ≡ false) (sym twice) (twice_over limits.memory held half),
        λ F known. (opens F known, omega (arith, twice, held_of F held (opens F known) (within F known), halved.window, halved.name)),
      )
  limited may_lack alloc choice old opening.Memory new small over opens within lacks = λ F known.
      subst (λ (n : ℕ). is_within limits.memory (copy_held limits.window n) ≡ true) (lacks.1.of_file F known) (copy_within lacks.0 lacks.1.allowed)
  limited may_lack alloc choice old fault new small over opens within lacks = tt

-- ---- what an opening spends of a budget

pub kept_fetches : (limits : Limits) (old : SourceState) (fault : OpenFault) (new : SourceState) → KeepsToBudget limits old fault new → FetchesWithin limits.budget old new
kept_fetches limits old fault new kept most is =
    let within : nat_lt most kept.fetched ≡ false = rw is at kept.kept in
    omega (arith, ltb-false most kept.fetched within, kept.spent)

pub opening_short : (limits : Limits) (old : SourceState) (fault : OpenFault) (new : SourceState) → KeepsToBudget limits old fault new → (F : List ℕ) (choice : Choice) → old.store.content ≡ Some F
    → IsShortAt limits.budget (opening_bound F choice + 16 * entry_count F) (refusal_of (copy_fault fault))
opening_short limits old (opening.Budget offset size) new kept F choice known =
    let over = kept.over in
    over_more limits.budget (raised kept.fetched size) (opening_bound F choice + 16 * entry_count F) (omega (arith, over.bound, over.known F known)) over.passes
opening_short limits old opening.Memory new kept F choice known = tt
opening_short limits old (opening.MemoryLimit held) new kept F choice known = tt
opening_short limits old fault new kept F choice known = tt

-- the header's fetch was not made, or one of the directory
head_ends : (limits : Limits) (old : SourceState) (fetched offset size : ℕ) (F : List ℕ) (choice : Choice) → old.store.content ≡ Some F → KeepsTo limits.budget fetched → IsTrue (is_passed limits.budget (raised fetched size))
    → IsOpeningFetch None limits.window old fetched offset size → EndsOpening limits.budget limits.window F choice offset size
head_ends limits old fetched offset size F choice known kept passes (IsOpeningFetch.of_header none at few) =
    let all : raised fetched size ≡ 32 = omega (arith, none, few) in
    EndsOpening.at_header at few (subst (λ (n : ℕ). IsTrue (is_passed limits.budget n)) all passes)
head_ends limits old fetched offset size F choice known kept passes (IsOpeningFetch.of_directory header read fetch) =
    let of = read.of_file F known in
    EndsOpening.at_directory of.0 fetched (subst (λ (h : Header). IsDirectoryFetch limits.window h fetched offset size) of.1 fetch) kept passes
head_ends limits old fetched offset size F choice known kept passes (IsOpeningFetch.of_head header read entries all of is fetch) = absurd (none-some of is)

pub opening_ends : (limits : Limits) (old : SourceState) (fault : OpenFault) (new : SourceState) → TellsNextOpening None limits old fault new → (F : List ℕ) (choice : Choice) → old.store.content ≡ Some F
    → TellsOpeningEnd limits.budget limits.window F choice (refusal_of (copy_fault fault))
opening_ends limits old (opening.Budget offset size) new next F choice known = head_ends limits old next.fetched offset size F choice known next.kept next.passes next.next
opening_ends limits old opening.Memory new next F choice known = tt
opening_ends limits old (opening.MemoryLimit held) new next F choice known = tt
opening_ends limits old fault new next F choice known = tt

-- of which a fault of the store is told as such
pub opening-fetches : {T : Type 0} (n : ℕ) (fault : OpenFault) (old new : SourceState) → FetchesAtMost n old new → IsUnreadFor fault old new
    → ((file : List ℕ) → IsGood old.store file → IsUnread fault → ⊥) → IsOpenRefusal old.size fault → Fetches {T = T} (Err (refusal_of fault)) old new
opening-fetches {T = T} n (opening.Source fault) old new fetches cause good refusal =
    let read = Fetches-read {T = T} n fault old new fetches cause.0 (λ file is. good file is tt) in
    record { fetches = read.fetches; told = read.told; good = read.good; refusal = refusal }
opening-fetches n opening.Memory old new fetches cause good refusal = Fetches_memory old new (record { count = n; fetches = fetches })
opening-fetches n fault old new fetches cause good refusal = record { fetches = record { count = n; fetches = fetches }; told = tt; good = λ file is. refl; refusal = refusal }

-- ---- what is told of whatever file

last_may : (fault : SourceFault) (old new : SourceState) → IsLastTold fault old new → MayBeTold old.store.content (Some fault)
last_may (Changed at) old new told = told
last_may _ old new told = tt

changed_may : (fault : Option SourceFault) (old new : SourceState) → IfSome fault (λ told. IsLastTold told old new) → MayBeTold old.store.content fault
changed_may None old new told = tt
changed_may (Some fault) old new told = last_may fault old new told

-- where no file that is refused so is told as wanting memory
pub tells_of : {T : Type 0} (fault : ReadFault) (old new : SourceState) → Fetches {T = T} (Err fault) old new
    → (fault ≡ faults.Memory → (file : List ℕ) → old.store.content ≡ Some file → directory_refusal file ≡ None) → TellsOf old.store.content fault
tells_of fault old new fetches memory = record { memory = memory; changed = changed_may (store_fault fault) old new fetches.told }

wants_memory : (fault : OpenFault) → refusal_of fault ≡ faults.Memory → fault ≡ opening.Memory
wants_memory opening.Memory is = refl
wants_memory _ is = absurd (cc)

pub wants_behind : (F : List ℕ) (choice : Choice) (fault : OpenFault) → IsRefusalOf F choice fault → refusal_of fault ≡ faults.Memory → directory_refusal F ≡ None
wants_behind F choice fault of is = subst (λ (f : OpenFault). IsRefusalOf F choice f) (wants_memory fault is) of

-- and so where no ranges are counted
pub wants_bare : (F : List ℕ) (fault : OpenFault) → IsDirectoryRefusal F fault → refusal_of fault ≡ faults.Memory → directory_refusal F ≡ None
wants_bare F fault of is = subst (λ (f : OpenFault). IsDirectoryRefusal F f) (wants_memory fault is) of

pub opened_behind : (F : List ℕ) (choice : Choice) → opening_fault F choice ≡ None → directory_refusal F ≡ None
opened_behind F choice none = directory-opens F choice (directory_refusal F) none
