-- The fetch that came next in a listing, and the entry in which it came.
use Rattle.std.proofs.Common.{◌≡◌, ◌+◌, ℕ, zero, suc, List, Option, None, Some, Result, Ok, Err, ap, arith, refl, subst, sym}
use Rattle.mdmp_wire.specs.declared.entry.Entry.{Entry}
use Rattle.mdmp_lister.specs.declared.choice.Choice.{Choice}
use Rattle.mdmp_lister.specs.declared.fault.FaultKind.{FaultKind}
use Rattle.mdmp_lister.specs.declared.fault.FaultKind.TheVariants as kinds
use Rattle.mdmp_lister.specs.declared.fault.ListFault.{ListFault}
use Rattle.mdmp_lister.specs.declared.item.Item.{Item}
use Rattle.mdmp_lister.specs.declared.step.Step.{Step}
use Rattle.mdmp_lister.specs.Following.{Cursor, Follows, GivesChosenEntry, GivesCurrentRecord, GoesOn, Standing}
use Rattle.mdmp_lister.specs.Following as following
use Rattle.mdmp_lister.specs.Format.Item.{plain}
use Rattle.mdmp_lister.specs.Lister.{AnswersNext, ListerLeaves, ListerState, NextLeaves, Rooms, cursor_in, standpoint_in}
use Rattle.mdmp_lister.specs.NextFetch.{Standpoint, TellsNextFetch, TellsSomeFetch}
use Rattle.mdmp_lister.specs.Step.{TellsAnswer}
use Rattle.mdmp_dump.specs.Keeping.{IsAtEntry, IsEntryChosen, TellsListed}

-- ---- the current entry is the last one that was passed

abbrev IsLastPassed : Choice → List Entry → Cursor → Type 0
IsLastPassed choice entries c = (number : ℕ) → number + 1 ≡ c.passed → IsEntryChosen choice entries number c.current

module _ (choice : Choice) (entries : List Entry) (z limit : ℕ) where
  begun_at : (c : Cursor) (s : Step) (d : Cursor) → GivesChosenEntry choice entries z limit c s d → IsLastPassed choice entries d
  begun_at c s d gives =
      let first = gives.first in
      subst (IsLastPassed choice entries) (sym gives.stands) (λ number is.
      let same : gives.number ≡ number = omega (arith, is) in
      subst (λ n. IsEntryChosen choice entries n gives.entry) same (record { is = first.is; chosen = first.chosen }))

  recorded_at : (c : Cursor) (given left offset : ℕ) (s : Step) (d : Cursor) → GivesCurrentRecord choice entries z limit c given left offset s d → IsLastPassed choice entries c
      → IsLastPassed choice entries d
  recorded_at c given left offset s d gives at = subst (IsLastPassed choice entries) (sym gives.stands) at

  goes_at : (c : Cursor) (standing : Standing) (s : Step) (d : Cursor) → GoesOn choice entries z limit c standing (Ok (Some s)) d → IsLastPassed choice entries c → IsLastPassed choice entries d
  goes_at c following.through s d goes at = begun_at c s d goes
  goes_at c following.begun s d goes at = absurd goes
  goes_at c (following.within given zero offset) s d goes at = begun_at c s d (goes.0 refl)
  goes_at c (following.within given (suc left) offset) s d goes at = recorded_at c given (suc left) offset s d (goes.1 (omega arith)) at

  follows_at : (c : Cursor) (s : Step) (d : Cursor) → Follows choice entries z limit c (Ok (Some s)) d → IsLastPassed choice entries c → IsLastPassed choice entries d
  follows_at c s d (following.goes_on goes) at = goes_at c c.standing s d goes at
  follows_at c s d (following.begins stands standing is goes) at = goes_at c standing s d goes at
  follows_at c s d (following.refuses stands fault is meets) at = (let none = meets.answer_is in absurd (cc))

-- behind an item
item_at_entry : (old : ListerState) (item : Item) (new : ListerState) → AnswersNext old (Ok (Some item)) new → IsLastPassed old.choice old.entries (cursor_in old)
    → IsLastPassed old.choice old.entries (cursor_in new)
item_at_entry old item new answers at = by answers.read answers.told answers.follows where
  by : (read : Result (Option Step) ListFault) → TellsAnswer old.source.size read (Ok (Some (plain item)))
      → Follows old.choice old.entries old.source.size old.limit (cursor_in old) read (cursor_in new) → IsLastPassed old.choice old.entries (cursor_in new)
  by (Ok None) told follows = absurd (cc)
  by (Ok (Some s)) told follows = follows_at old.choice old.entries old.source.size old.limit (cursor_in old) s (cursor_in new) follows at
  by (Err g) told follows = absurd (cc)

module _ (old : ListerState) (going : old.stop ≡ None) where
  -- and so wherever the listing goes on
  pub goes_on_at : (result : Result (Option Item) ListFault) (new : ListerState) → ListerLeaves old result new → IsAtEntry old → IsAtEntry new
  goes_on_at (Ok None) new leaves at = λ goes. (let stop = leaves.list.stands.stop in absurd (cc))
  goes_on_at (Err f) new leaves at = λ goes. (let stop = leaves.list.stands.stop in absurd (cc))
  goes_on_at (Ok (Some item)) new leaves at = λ goes number is.
      rw (leaves.list.same.choice, leaves.list.same.entries) (item_at_entry old item new (leaves.follows going) (at going) number is)

-- ---- the fetch that came next

-- a standpoint that differs only in how far the listing came
pub some_fetch : (s t : Standpoint) (kind : FaultKind) (offset size fetched : ℕ)
    → t.content ≡ s.content → t.size ≡ s.size → t.room ≡ s.room → t.limit ≡ s.limit → t.entry ≡ s.entry
    → TellsSomeFetch s kind offset size fetched → TellsSomeFetch t kind offset size fetched
some_fetch s t kind offset size fetched content file_size room limit entry told =
    let contents = sym content in
    let sizes = sym file_size in
    let rooms = sym room in
    let limits = sym limit in
    let entries = sym entry in (
      told.0,
      told.1,
      told.2,
      subst (λ (u : Standpoint). TellsNextFetch u kind offset size fetched)
          (λ i. record { content = contents i; size = sizes i; room = rooms i; limit = limits i; entry = entries i; standing = told.0; unread = told.1; fetched = told.2 })
          told.3,
    )

module _ (old : ListerState) (going : old.stop ≡ None) (f : ListFault) (new : ListerState) (list : NextLeaves old (Err f) new) (at : IsAtEntry old) where
  chosen_in : IsEntryChosen new.choice new.entries f.entry new.current
  chosen_in =
      let chosen : IsEntryChosen old.choice old.entries f.entry old.current = at going f.entry (list.places.entry going) in
      rw (list.same.choice, list.same.entries, list.places.current) chosen

  told_by : (kind : FaultKind) → TellsNextFetch (standpoint_in old) kind f.offset f.size new.counts.fetched → TellsListed kind f old.source new
  told_by kinds.Budget told =
      let fetches = list.spends.fetches in
      record {
        chosen = chosen_in;
        next = some_fetch (standpoint_in old) (standpoint_in new) kinds.Budget f.offset f.size new.counts.fetched fetches.same_content fetches.same_size
            (ap (λ (r : Rooms). r.window) list.same.rooms) list.same.limit list.places.current (old.standing, old.unread, old.counts.fetched, told);
      }
  told_by (kinds.Source fault) told = record { chosen = chosen_in; told = rw list.places.current (list.told going) }
  told_by kind told = tt

  -- it is told of the entry whose number the fault has
  pub fault_at_entry : TellsListed f.kind f old.source new
  fault_at_entry = told_by f.kind (list.next going)
