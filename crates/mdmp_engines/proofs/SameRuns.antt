-- The room of a lister stays, its budget, and where its counts began.
use Rattle.std.proofs.Common.{◌≡◌, ◌≤◌, ◌<◌, ◌∙◌, ◌+◌, ◌-◌, ◌*◌, ◌^◌, ℕ, List, Option, None, Some, false, true, ap, arith, inr, leb-true, refl, subst, sym}
use Rattle.std.proofs.lemmas.Bool.{le-leb}
use Rattle.std.proofs.lemmas.Grind.{common_steps}
use Rattle.std.specs.Prelude.{IsTrue, Result, Ok, Err, IfOk, length, max, min, take}
use Rattle.mdmp_source.specs.Output.{OutState}
use Rattle.mdmp_source.specs.Source.{SourceState}
use Rattle.mdmp_source.specs.declared.fault.SourceFault.{SourceFault}
use Rattle.mdmp_source.specs.declared.location.Location.{Location}
use Rattle.mdmp_lister.specs.declared.codeview.CodeViewBytes.{CodeViewBytes}
use Rattle.mdmp_lister.specs.CodeView.{AreFetched, codeview_cost, fetched_behind}
use Rattle.mdmp_lister.specs.declared.fault.OpenFault.{OpenFault}
use Rattle.mdmp_lister.specs.declared.fault.OpenFault.TheVariants as opening
use Rattle.mdmp_lister.specs.declared.limits.Limits.{Limits}
use Rattle.mdmp_lister.specs.declared.fault.FaultKind.{FaultKind}
use Rattle.mdmp_lister.specs.declared.fault.FaultKind.TheVariants as kinds
use Rattle.mdmp_lister.specs.declared.fault.ListFault.{ListFault}
use Rattle.mdmp_lister.specs.Calls.{IsOutOfMemory}
use Rattle.mdmp_lister.specs.Lister.{IsRefusedIn, IsSameLister, ListerState, ReadsAside, room_held, standpoint_in}
use Rattle.mdmp_lister.specs.Meter.{IsUnmade, IsRefusedFetch}
use Rattle.mdmp_lister.specs.NextFetch.{TellsNextOpening, TellsSomeFetch}
use Rattle.mdmp_lister.specs.declared.meter.Amount.{Amount}
use Rattle.mdmp_lister.specs.declared.meter.MeterCounts.{MeterCounts}
use Rattle.mdmp_lister.specs.Opening.{KeepsToBudget, TellsOver}
use Rattle.std.specs.Option.{option_map}
use Rattle.mdmp_source.specs.Count.{raised}
use Rattle.mdmp_lister.specs.declared.choice.Choice.{Choice}
use Rattle.mdmp_lister.specs.Memory.{IsRefusalWithin, TellsMemory, is_within, leaving}
use Rattle.mdmp_summary.specs.InEntry.{IsInChosen, StandsInChosen}
use Rattle.mdmp_engines.specs.Causes.{EndsByBudget, HasAsideCause, HasBudgetCause, HasMemoryCause, HasOpeningBudget, IsOverInChosen, IsWithinBudget, IsWithinMemory, KeepsAside, MayReachAside, MayReachBudget, MayReachMemory, symbols_cost}
use Rattle.mdmp_engines.specs.declared.fault.ToolFault.{ToolFault}
use Rattle.mdmp_engines.specs.declared.fault.ToolFault.TheVariants.{AsideLimit, Budget, MemoryLimit, Out}
use Rattle.mdmp_engines.proofs.Asking.{out_requested}
use Rattle.mdmp_engines.specs.Engines.{EndsFlushed}
use Rattle.mdmp_engines.specs.ReadThrough.{Access, HasAskedLister, HasListed, IsEarly, IsSameRun, IsReadThrough}
use Rattle.mdmp_engines.specs.Telling.{listing_told, opening_beside, told_by}

-- ---- a lister that a command was given

pub run_none : (v : ListerState) → IsSameRun v v
run_none v = record { header_is = refl; entries = refl; choice = refl; rooms = refl; limit = refl; start = refl; budget = refl }

pub run_then : (u v w : ListerState) → IsSameRun u v → IsSameRun v w → IsSameRun u w
run_then u v w p q = record { header_is = q.header_is ∙ p.header_is; entries = q.entries ∙ p.entries; choice = q.choice ∙ p.choice; rooms = q.rooms ∙ p.rooms; limit = q.limit ∙ p.limit; start = q.start ∙ p.start; budget = q.budget ∙ p.budget }

pub run_list : (u v w : ListerState) → IsSameRun u v → IsSameLister v w → IsSameRun u w
run_list u v w p q = record { header_is = q.header_is ∙ p.header_is; entries = q.entries ∙ p.entries; choice = q.choice ∙ p.choice; rooms = q.rooms ∙ p.rooms; limit = q.limit ∙ p.limit; start = q.start ∙ p.start; budget = q.budget ∙ p.budget }

pub run_aside : {T : Type 0} {calls : ℕ} (n : ℕ) (result : Result T SourceFault) (v w : ListerState) → ReadsAside calls n result v w → IsSameRun v w
run_aside n result v w q = record {
  header_is = ap (λ (x : ListerState). x.header) q.same;
  entries = ap (λ (x : ListerState). x.entries) q.same;
  choice = ap (λ (x : ListerState). x.choice) q.same;
  rooms = ap (λ (x : ListerState). x.rooms) q.same;
  limit = ap (λ (x : ListerState). x.limit) q.same;
  start = q.aside.same_start;
  budget = q.aside.same_budget;
}

-- ---- a run

-- a file that is refused is so before it was opened
pub early_opening : (T : Type 0) (beside : ℕ) (fault : OpenFault) → IsEarly {T = T} (Err (opening_beside beside fault))
early_opening T beside (opening.Source f) = tt
early_opening T beside opening.Memory = tt
early_opening T beside (opening.MemoryLimit held) = tt
early_opening T beside fault = tt

kept_opening : (limits : Limits) (old : SourceState) (fault : OpenFault) (new : SourceState) → KeepsToBudget limits old fault new → KeepsToBudget limits old opening.Memory new
kept_opening limits old fault new over = record { fetched = over.fetched; spent = over.spent; kept = over.kept; over = tt }

-- its budget is that of the limits without what is held beside it
over_leaving : (beside : ℕ) (limits : Limits) (old : SourceState) (fetched : ℕ) (fault : OpenFault) → TellsOver (leaving beside limits) old fetched fault → TellsOver limits old fetched fault
over_leaving beside limits old fetched (opening.Budget offset size) over = record {
  passes = over.passes;
  inside = over.inside;
  most = over.most;
  streams = over.streams;
  bound = over.bound;
  within = over.within;
  known = over.known;
}
over_leaving beside limits old fetched fault over = tt

pub kept_leaving : (beside : ℕ) (limits : Limits) (old : SourceState) (fault : OpenFault) (new : SourceState) → KeepsToBudget (leaving beside limits) old fault new → KeepsToBudget limits old fault new
kept_leaving beside limits old fault new kept =
    record { fetched = kept.fetched; spent = kept.spent; kept = kept.kept; over = over_leaving beside limits old kept.fetched fault kept.over }

-- and so is the fetch that comes next
pub next_leaving : (counted : Option Choice) (beside : ℕ) (limits : Limits) (old : SourceState) (fault : OpenFault) (new : SourceState) → TellsNextOpening counted (leaving beside limits) old fault new
    → TellsNextOpening counted limits old fault new
next_leaving counted beside limits old (opening.Budget offset size) new next =
    record { fetched = next.fetched; spent = next.spent; kept = next.kept; passes = next.passes; next = next.next }
next_leaving counted beside limits old fault new next = tt

-- where it tells the budget, its opening did
pub over_opening : (T : Type 0) (beside : ℕ) (choice : Choice) (limits : Limits) (old : SourceState) (fault : OpenFault) (new : SourceState) → KeepsToBudget limits old fault new
    → TellsNextOpening (Some choice) limits old fault new → HasOpeningBudget {T = T} choice limits old (Err (opening_beside beside fault)) new
over_opening T beside choice limits old (opening.Budget offset size) new over next = record { unmade = over; next = next }
over_opening T beside choice limits old (opening.Source fault) new over next = kept_opening limits old (opening.Source fault) new over
over_opening T beside choice limits old opening.Memory new over next = over
over_opening T beside choice limits old (opening.MemoryLimit held) new over next = kept_opening limits old (opening.MemoryLimit held) new over
over_opening T beside choice limits old fault new over next = kept_opening limits old fault new over

told_over : (T : Type 0) (f : ListFault) (kind : FaultKind) (v : ListerState) → IsUnmade (max v.rooms.window v.limit) kind f.offset f.size v.counts v.source.size
    → TellsSomeFetch (standpoint_in v) kind f.offset f.size v.counts.fetched → HasBudgetCause {T = T} (Err (told_by kind f)) v
told_over T f kinds.Budget v over next = record { unmade = over; next = next }
told_over T f (kinds.Source fault) v over next = tt
told_over T f kind v over next = tt

-- so does a fault of a listing
pub over_listing : (T : Type 0) (f : ListFault) (v : ListerState) → IsRefusedIn f v → TellsSomeFetch (standpoint_in v) f.kind f.offset f.size v.counts.fetched → HasBudgetCause {T = T} (Err (listing_told f)) v
over_listing T f v over next = told_over T f f.kind v over next

told_budget : (T : Type 0) (f : ListFault) (kind : FaultKind) (u v : ListerState) → IsUnmade (max v.rooms.window v.limit) kind f.offset f.size v.counts v.source.size
    → TellsSomeFetch (standpoint_in v) kind f.offset f.size v.counts.fetched → (StandsInChosen u → IsInChosen v) → EndsByBudget {T = T} u (Err (told_by kind f)) v
told_budget T f kinds.Budget u v over next entry = (record { unmade = over; next = next }, entry)
told_budget T f (kinds.Source fault) u v over next entry = tt
told_budget T f kind u v over next entry = tt

-- in a chosen entry
pub budget_listing : (T : Type 0) (f : ListFault) (u v : ListerState) → IsRefusedIn f v → TellsSomeFetch (standpoint_in v) f.kind f.offset f.size v.counts.fetched → (StandsInChosen u → IsInChosen v)
    → EndsByBudget {T = T} u (Err (listing_told f)) v
budget_listing T f u v over next entry = told_budget T f f.kind u v over next entry

-- a fault ends a run as it ended a part of it
pub budget_later : (T U : Type 0) (f : ToolFault) (u v w : ListerState) → (StandsInChosen u → StandsInChosen v) → EndsByBudget {T = T} v (Err f) w → EndsByBudget {T = U} u (Err f) w
budget_later T U (Budget offset size) u v w stands over = (over.0, λ in_chosen. over.1 (stands in_chosen))
budget_later T U f u v w stands over = tt

-- or it is none of a budget
pub budget_fault : (T U : Type 0) (f : ToolFault) (u v : ListerState) → IsWithinBudget {T = T} (Err f) → EndsByBudget {T = U} u (Err f) v
budget_fault T U (Budget offset size) u v within = absurd within
budget_fault T U f u v within = tt

pub budget_none : {T : Type 0} (r : Result T ToolFault) (u v : ListerState) → IsWithinBudget r → EndsByBudget u r v
budget_none (Err (Budget offset size)) u v within = absurd within
budget_none r u v within = tt

-- what is told of it
pub budget_cause : {T : Type 0} (r : Result T ToolFault) (u v : ListerState) → EndsByBudget u r v → HasBudgetCause r v
budget_cause (Err (Budget offset size)) u v over = over.0
budget_cause r u v over = tt

pub budget_entry : {T : Type 0} (r : Result T ToolFault) (u v : ListerState) → StandsInChosen u → EndsByBudget u r v → IsOverInChosen r v
budget_entry (Err (Budget offset size)) u v stands over = over.1 stands
budget_entry r u v stands over = tt

-- behind another answer, which may tell a limit too
listed_with : {T : Type 0} (access : Access) (old new : SourceState) (answer other : Result T ToolFault) (is : HasListed access old answer new)
    → HasBudgetCause other is.lister → IsOverInChosen other is.lister → HasAsideCause access.aside other is.lister → IsWithinMemory other → HasAskedLister access old other is.lister → HasListed access old other new
listed_with access old new answer other is over entry cause within asked = record {
  lister = is.lister;
  opened = is.opened;
  of_file = is.of_file;
  budget = is.budget;
  over = over;
  entry = entry;
  aside_kept = record { kept = is.aside_kept.kept; over = cause };
  reads = is.reads;
  asked = asked;
  memory = is.memory;
  opens = is.opens;
  opening = is.opening;
  within = within;
  source = is.source;
  start = is.start;
  held = is.held;
  spent = is.spent;
}

-- so it is where the flush was refused
module _ {T : Type 0} (access : Access) (old new : SourceState) (answer flushed : Result T ToolFault) (before after : OutState) where
  kept_answer : (r : Result T ToolFault) → HasOpeningBudget access.choice access.limits old r new → KeepsToBudget access.limits old opening.Memory new
  kept_answer (Err (Budget offset size)) over = kept_opening access.limits old (opening.Budget offset size) new over.unmade
  kept_answer r over = over

  pub through_flushed : EndsFlushed answer flushed before after → IsReadThrough access old answer new → IsReadThrough access old flushed new
  through_flushed (EndsFlushed.stands is same) through = subst (λ (r : Result T ToolFault). IsReadThrough access old r new) (sym is) through
  through_flushed (EndsFlushed.refused other is same) (IsReadThrough.listed was) =
      subst (λ (r : Result T ToolFault). IsReadThrough access old r new) (sym is) (IsReadThrough.listed (listed_with access old new answer (Err Out) was tt tt tt tt
      (record { first = was.asked.first; is_new = was.asked.is_new; requests = out_requested access.pace was.asked.first was.lister answer was.asked.requests })))
  through_flushed (EndsFlushed.refused other is same) (IsReadThrough.refused fault early over memory back told) =
      subst (λ (r : Result T ToolFault). IsReadThrough access old r new) (sym is) (IsReadThrough.refused fault tt (kept_answer answer over) tt back (inr refl))

-- ---- a budget that is told

reached : (T : Type 0) (limits : Limits) (z most offset size : ℕ) (c : MeterCounts) (file_size : ℕ) → c.budget ≡ limits.budget → most ≡ max limits.window limits.name → file_size ≡ z
    → IsRefusedFetch most offset size c file_size → MayReachBudget {T = T} limits z (Err (Budget offset size))
reached T limits z most offset size c file_size budget same here refused = (
  λ none. let never : IsTrue false = rw (budget, none) at refused.passes in cc never,
  (rw here at refused.inside, omega (arith, refused.few, same)),
)

-- there is one, and the bytes lie inside
module _ {T : Type 0} (access : Access) (old : SourceState) where
  pub may_reach : (answer : Result T ToolFault) (new : SourceState) → new.size ≡ old.size → IsReadThrough access old answer new → MayReachBudget access.limits old.size answer
  may_reach (Err (Budget offset size)) new same (IsReadThrough.listed is) =
      reached T access.limits old.size _ offset size is.lister.counts is.lister.source.size is.budget (λ i. max (is.opened.asked.window_room i) (is.opened.asked.limit_is i)) (ap (λ (s : SourceState). s.size) is.source ∙ same) is.over.unmade
  may_reach (Err (Budget offset size)) new same (IsReadThrough.refused fault early over memory back told) =
      let of = over.unmade.over in (λ none. let never : IsTrue false = rw none at of.passes in cc never, (of.inside, of.most))
  may_reach answer new same through = tt

  -- that limit is told only if there is one, of a record inside
  pub may_reach_aside : (answer : Result T ToolFault) (new : SourceState) → new.size ≡ old.size → IsReadThrough access old answer new → MayReachAside access.aside access.limits old.size answer
  may_reach_aside (Err (AsideLimit offset size)) new same (IsReadThrough.listed is) =
      let cause = is.aside_kept.over in (
        λ none. let open_end : is_within access.aside (is.lister.counts.aside.bytes + size) ≡ true = rw none refl in cc,
        (rw (ap (λ (s : SourceState). s.size) is.source ∙ same) at cause.1.0, rw is.opened.asked.limit_is at cause.1.1),
      )
  may_reach_aside (Err (AsideLimit offset size)) new same (IsReadThrough.refused fault early over memory back told) = absurd early
  may_reach_aside answer new same through = tt

-- ---- a limit of memory that is told

-- there is one
pub may_reach_memory : {T : Type 0} (access : Access) (old : SourceState) (answer : Result T ToolFault) (new : SourceState) → IsReadThrough access old answer new → MayReachMemory access.limits answer
may_reach_memory access old (Err (MemoryLimit held)) new (IsReadThrough.listed is) = absurd is.within
may_reach_memory access old (Err (MemoryLimit held)) new (IsReadThrough.refused fault early over memory back told) = memory.over
may_reach_memory access old answer new through = tt

-- ---- a limit of what is read aside

-- a fault ends a run as it ended a part of it
pub aside_fault : (T U : Type 0) (aside : Option ℕ) (f : ToolFault) (v : ListerState) → KeepsAside {T = T} aside (Err f) v → KeepsAside {T = U} aside (Err f) v
aside_fault T U aside f v keeps = record { kept = keeps.kept; over = by f keeps.over } where
  by : (f : ToolFault) → HasAsideCause {T = T} aside (Err f) v → HasAsideCause {T = U} aside (Err f) v
  by (AsideLimit offset size) over = over
  by f over = tt

-- a fault of the listing is none of that limit
pub aside_listing : (T : Type 0) (aside : Option ℕ) (f : ListFault) (v : ListerState) → is_within aside v.counts.aside.bytes ≡ true → KeepsAside {T = T} aside (Err (listing_told f)) v
aside_listing T aside f v kept = record { kept = kept; over = by f.kind } where
  by : (kind : FaultKind) → HasAsideCause {T = T} aside (Err (told_by kind f)) v
  by (kinds.Source fault) = tt
  by kinds.Budget = tt
  by kind = tt

-- what was read aside stays where a listing goes on
pub aside_same : (aside : Option ℕ) (u v : ListerState) → IsSameLister u v → is_within aside u.counts.aside.bytes ≡ true → is_within aside v.counts.aside.bytes ≡ true
aside_same aside u v same kept = subst (λ (a : Amount). is_within aside a.bytes ≡ true) (sym same.aside) kept

-- so many bytes more are within the limit, where all of a record may be read
pub aside_read : (aside : Option ℕ) (old cost n new : ℕ) → is_within aside (old + cost) ≡ true → n ≤ cost → new ≤ old + n → is_within aside new ≡ true
aside_read None old cost n new kept few more = refl
aside_read (Some most) old cost n new kept few more =
    let room : old + cost ≤ most = leb-true (old + cost) most kept in
    le-leb new most (omega (arith, room, few, more))

-- of a record no more is read than all of it, and than there is room for
behind_most : (head : List ℕ) (size room : ℕ) → min size 24 + fetched_behind head size room ≤ symbols_cost room size
behind_most head size room = grind (arith, common_steps)

pub cost_read : (at : Location) (room : ℕ) (head : List ℕ) (rest size : ℕ) → AreFetched at room head rest size → min at.size 24 + rest ≤ symbols_cost room at.size
cost_read at room head rest size fetched = rw fetched.rest_is (behind_most (take (min at.size 24) head) at.size room)

pub record_read : (at : Location) (room : ℕ) (result : Result CodeViewBytes SourceFault) → IfOk result (λ bytes. AreFetched at room bytes.head (length bytes.rest.now) bytes.size)
    → codeview_cost at room result ≤ symbols_cost room at.size
record_read at room (Ok bytes) fetched = cost_read at room bytes.head (length bytes.rest.now) bytes.size fetched
record_read at room (Err fault) fetched = omega arith

-- ---- a limit of memory

-- a sum that does not reach the greatest count
raised_small : (count n : ℕ) → count + n < 2 ^ 128 → raised count n ≡ count + n
raised_small count n small = omega arith

-- a file that is refused for it needs more than there may be
pub memory_opening : (T : Type 0) (limits : Limits) (choice : Choice) (beside : ℕ) (old : SourceState) (fault : OpenFault) (new : SourceState) → old.size < 2 ^ 64 → beside < 2 ^ 64
    → TellsMemory (leaving beside limits) old fault new
    → ((file : List ℕ) → old.store.content ≡ Some file → IsRefusalWithin (leaving beside limits) file choice fault)
    → (fault ≡ opening.Memory → IsOutOfMemory (leaving beside limits) choice old new)
    → HasMemoryCause {T = T} limits choice beside old (Err (opening_beside beside fault)) new
memory_opening T limits choice beside old (opening.MemoryLimit held) new size few tells within want =
    let of = tells.1.1 in
    let bound : held ≡ limits.window + 12 * of.entries + 24 * tells.0 + limits.name = of.held_is in
    let small : held + beside < 2 ^ 128 = omega (arith, bound, size, few, of.inside, tells.1.0, limits.window_most, limits.name_most) in
    record {
      over = past limits.memory of.over;
      listed = held;
      entries = of.entries;
      ranges = tells.0;
      held_is = raised_small held beside small;
      listed_is = of.held_is;
      inside = of.inside;
      of_file = within;
    } where
      past : (memory : Option ℕ) → is_within (option_map (λ most. most - beside) memory) held ≡ false → is_within memory (raised held beside) ≡ false
      past None over = over
      past (Some most) over = grind (arith, over)
memory_opening T limits choice beside old (opening.Source fault) new size few tells within want = tt
memory_opening T limits choice beside old (opening.Budget offset len) new size few tells within want = tt
memory_opening T limits choice beside old opening.Memory new size few tells within want = want refl
memory_opening T limits choice beside old fault new size few tells within want = within

-- what a lister has room for, and what is held beside it
pub memory_kept : (memory : Option ℕ) (beside held : ℕ) → 0 < held → is_within (option_map (λ most. most - beside) memory) held ≡ true → is_within memory (held + beside) ≡ true
memory_kept None beside held some kept = refl
memory_kept (Some most) beside held some kept = le-leb (held + beside) most (let few : held ≤ most - beside = leb-true held (most - beside) kept in omega (arith, some, few))

-- so it is behind a run too
pub run_within : (limits under : Limits) (beside : ℕ) (u v : ListerState) → under ≡ leaving beside limits → IsSameRun u v → u.rooms.window ≡ under.window
    → is_within under.memory (room_held u) ≡ true → is_within limits.memory (room_held v + beside) ≡ true
run_within limits under beside u v is same window kept =
    let room : room_held u ≡ room_held v = rw (same.rooms, same.limit) refl in
    let least : 0 < room_held u = omega (arith, window, under.window_least) in
    let less : is_within (leaving beside limits).memory (room_held u) ≡ true = subst (λ (l : Limits). is_within l.memory (room_held u) ≡ true) is kept in
    subst (λ (n : ℕ). is_within limits.memory (n + beside) ≡ true) room (memory_kept limits.memory beside (room_held u) least less)
