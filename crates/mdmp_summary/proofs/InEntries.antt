-- A listing stands in a chosen entry of its directory.
use Rattle.std.proofs.Common.{◌≡◌, ◌∙◌, ◌-◌, ℕ, zero, suc, List, [], ◌∷◌, Option, Some, None, Ok, Err, false, ap, arith, refl, subst, sym}
use Rattle.std.specs.Prelude.{IsTrue, Result, slice_get}
use Rattle.mdmp_wire.specs.declared.entry.Entry.{Entry}
use Rattle.mdmp_lister.specs.declared.choice.Choice.{Choice}
use Rattle.mdmp_lister.specs.declared.choice.Choice.TheVariants.{All}
use Rattle.mdmp_lister.specs.declared.fault.ListFault.{ListFault}
use Rattle.mdmp_lister.specs.declared.item.Item.{Item}
use Rattle.mdmp_lister.specs.declared.item.StreamItem.{StreamItem}
use Rattle.mdmp_lister.specs.declared.position.Position.{Position}
use Rattle.mdmp_lister.specs.declared.position.Position.TheVariants.{Begun, Sought, Within}
use Rattle.mdmp_lister.specs.declared.sink.RunFault.{RunFault}
use Rattle.mdmp_lister.specs.declared.sink.RunFault.TheVariants as run
use Rattle.mdmp_lister.specs.declared.sink.Stopped.{Stopped}
use Rattle.mdmp_lister.specs.declared.step.Step.{Step}
use Rattle.mdmp_lister.specs.declared.verdict.Verdict.{Verdict}
use Rattle.mdmp_lister.specs.Check.{CheckLeaves}
use Rattle.mdmp_lister.specs.Following.{Cursor, Follows, GivesChosenEntry, GivesCurrentRecord, GoesOn, MeetsRecordFault, Standing, through}
use Rattle.mdmp_lister.specs.Following as following
use Rattle.mdmp_lister.specs.Format.Item.{plain}
use Rattle.mdmp_lister.specs.Format.Listing.{is_chosen}
use Rattle.mdmp_lister.specs.Format.Summary.{entry_begun, summary_of}
use Rattle.mdmp_lister.specs.Lister.{AnswersNext, ListerState, cursor_in}
use Rattle.mdmp_lister.specs.Sink.{ComeNext, RunFollows}
use Rattle.mdmp_lister.specs.Step.{TellsAnswer}
use Rattle.mdmp_lister.specs.Walker.{GivesEntry, WalkerLeaves, WalkerState, seeks}
use Rattle.mdmp_summary.specs.InEntry.{EndsInChosen, IsChosenEntry, IsInChosen, StandsInChosen, WalksInChosen}
use Rattle.mdmp_summary.proofs.Paying.{begins_entry, no_entry_sought}

module _ (choice : Choice) (entries : List Entry) (z limit : ℕ) where
  abbrev Stands : Cursor → Type 0
  Stands c = (c.standing ≡ through → ⊥) → IsChosenEntry choice entries c.current

  entry_given : (c : Cursor) (s : Step) (d : Cursor) → GivesChosenEntry choice entries z limit c s d → IsChosenEntry choice entries d.current
  entry_given c s d gives = subst (λ (e : Cursor). IsChosenEntry choice entries e.current) (sym gives.stands) (record { number = gives.number; is = gives.first.is; chosen = gives.first.chosen })

  -- ---- a step

  goes_item : (c : Cursor) (standing : Standing) (s : Step) (d : Cursor) → GoesOn choice entries z limit c standing (Ok (Some s)) d
      → ((standing ≡ through → ⊥) → IsChosenEntry choice entries c.current) → IsChosenEntry choice entries d.current
  goes_item c following.through s d goes stands = entry_given c s d goes
  goes_item c following.begun s d goes stands = absurd goes
  goes_item c (following.within given zero offset) s d goes stands = entry_given c s d (goes.0 refl)
  goes_item c (following.within given (suc left) offset) s d goes stands =
      let gives : GivesCurrentRecord choice entries z limit c given (suc left) offset s d = goes.1 (omega arith) in
      subst (λ (e : Cursor). IsChosenEntry choice entries e.current) (sym gives.stands) (stands (λ none. cc))

  goes_fault : (c : Cursor) (standing : Standing) (f : ListFault) (d : Cursor) → GoesOn choice entries z limit c standing (Err f) d
      → ((standing ≡ through → ⊥) → IsChosenEntry choice entries c.current) → IsChosenEntry choice entries d.current
  goes_fault c following.through f d goes stands = absurd goes
  goes_fault c following.begun f d goes stands = absurd goes
  goes_fault c (following.within given zero offset) f d goes stands = absurd (goes.0 refl)
  goes_fault c (following.within given (suc left) offset) f d goes stands =
      let met : MeetsRecordFault choice entries z limit c given (Err f) d = goes.1 (omega arith) in
      subst (λ (e : Cursor). IsChosenEntry choice entries e.current) (sym met.meets.stands) (stands (λ none. cc))

  -- a listing that has not read the head of its stream stands in an entry
  is_begun : (c : Cursor) → c.standing ≡ following.begun → Stands c → IsChosenEntry choice entries c.current
  is_begun c at stands = stands (λ none. let never : following.begun ≡ through = sym at ∙ none in cc)

  pub follows_item : (c : Cursor) (s : Step) (d : Cursor) → Follows choice entries z limit c (Ok (Some s)) d → Stands c → IsChosenEntry choice entries d.current
  follows_item c s d (following.goes_on goes) stands = goes_item c c.standing s d goes stands
  follows_item c s d (following.begins at standing is goes) stands = goes_item c standing s d goes (λ more. is_begun c at stands)
  follows_item c s d (following.refuses at fault is meets) stands = let never = meets.answer_is in absurd (cc)

  pub follows_fault : (c : Cursor) (f : ListFault) (d : Cursor) → Follows choice entries z limit c (Err f) d → Stands c → IsChosenEntry choice entries d.current
  follows_fault c f d (following.goes_on goes) stands = goes_fault c c.standing f d goes stands
  follows_fault c f d (following.begins at standing is goes) stands = goes_fault c standing f d goes (λ more. is_begun c at stands)
  follows_fault c f d (following.refuses at fault is meets) stands = subst (λ (e : Cursor). IsChosenEntry choice entries e.current) (sym meets.stands) (is_begun c at stands)

  -- ---- a run

  come_next : (c : Cursor) (xs : List Item) (d : Cursor) → ComeNext choice entries z limit c xs d → Stands c → Stands d
  come_next c [] d same stands = subst Stands (sym same) stands
  come_next c (x ∷ xs) d (m, (first, more)) stands = come_next m xs d more (λ going. follows_item c first.read m first.follows stands)

  run_fault : (c : Cursor) (xs : List Item) (f : ListFault) (d : Cursor) → RunFollows choice entries z limit c xs (Err (run.At f)) d → Stands c → IsChosenEntry choice entries d.current
  run_fault c xs f d follows stands = follows_fault follows.behind f d follows.ends (come_next c xs follows.behind follows.come stands)

-- a run that began in a chosen entry, or in none, ends in one
pub run_ends : (old new : ListerState) (xs : List Item) (result : Result (Unit {0}) RunFault) → new.choice ≡ old.choice → new.entries ≡ old.entries
    → RunFollows old.choice old.entries old.source.size old.limit (cursor_in old) xs result (cursor_in new) → StandsInChosen old → EndsInChosen result new
run_ends old new xs (Ok done) choice entries follows stands = tt
run_ends old new xs (Err run.Stopped) choice entries follows stands = tt
run_ends old new xs (Err (run.At f)) choice entries follows stands =
    rw (choice, entries) (run_fault old.choice old.entries old.source.size old.limit (cursor_in old) xs f (cursor_in new) follows stands)

-- a check ends in a chosen entry
pub check_ends : {K : Type 0} (step : K → Verdict → Result (Unit {0}) Stopped → K → Type 0) (old : ListerState) (k : K) (new : ListerState) (l : K) (f : ListFault)
    → CheckLeaves step old k (Err (run.At f)) new l → IsInChosen new
check_ends step old k new l f checks =
    let passed = checks.passed in
    let at : new.passed - 1 ≡ f.entry = omega (arith, passed) in
    let entry = checks.ends.0 in
    let of = checks.ends.1 in
    let is : slice_get old.entries f.entry ≡ Some new.current = subst (λ (n : ℕ). slice_get old.entries n ≡ Some new.current) at checks.current in
    let one : Some entry ≡ Some new.current = sym of.is ∙ is in
    let same : entry ≡ new.current = cc in
    rw (checks.same.choice, checks.same.entries)
    (record { number = f.entry; is = is; chosen = subst (λ (e : Entry). IsTrue (is_chosen old.choice e.stream_type)) same of.chosen })

-- ---- a request

module _ (old new : ListerState) (choice : new.choice ≡ old.choice) (entries : new.entries ≡ old.entries) (stands : StandsInChosen old) where
  -- an item stands in a chosen entry
  pub answers_item : (x : Item) → AnswersNext old (Ok (Some x)) new → IsInChosen new
  answers_item x answers = by answers.read answers.told answers.follows where
    by : (read : Result (Option Step) ListFault) → TellsAnswer old.source.size read (Ok (Some (plain x)))
        → Follows old.choice old.entries old.source.size old.limit (cursor_in old) read (cursor_in new) → IsInChosen new
    by (Ok None) told follows = absurd (cc)
    by (Ok (Some s)) told follows = rw (choice, entries) (follows_item old.choice old.entries old.source.size old.limit (cursor_in old) s (cursor_in new) follows stands)
    by (Err f) told follows = absurd (cc)

  -- and so does an error
  pub answers_fault : (f : ListFault) → AnswersNext old (Err f) new → IsInChosen new
  answers_fault f answers = by answers.read answers.told answers.follows where
    by : (read : Result (Option Step) ListFault) → TellsAnswer old.source.size read (Err f)
        → Follows old.choice old.entries old.source.size old.limit (cursor_in old) read (cursor_in new) → IsInChosen new
    by (Ok None) told follows = absurd (cc)
    by (Ok (Some s)) told follows = let never = told.1.0 in absurd (cc)
    by (Err g) told follows = rw (choice, entries) (follows_fault old.choice old.entries old.source.size old.limit (cursor_in old) g (cursor_in new) follows stands)

-- ---- a walker

-- a listing that stands in the same entry still stands in a chosen one
pub chosen_still : (old new : ListerState) → new.choice ≡ old.choice → new.entries ≡ old.entries → new.current ≡ old.current → IsInChosen old → IsInChosen new
chosen_still old new choice entries current chosen = rw (choice, entries, current) (chosen)

module _ (old new : WalkerState) (all : old.list.choice ≡ All) (going : old.list.stop ≡ None) (stands : WalksInChosen old) where
  -- an item that begins an entry
  begun_in : (x : Item) (s : StreamItem) → (summary_of x).stream ≡ Some s → WalkerLeaves old (Ok (Some x)) new
      → ((number : ℕ) → old.position ≡ Sought number → GivesEntry number old.list.entries (Ok (Some x))) → IsInChosen new.list
  begun_in x s is leaves sought =
      let b = begins_entry old.list all x s is old.position new.list (λ not. leaves.follows going not) sought in
      let current : new.list.current ≡ b.entry =
      leaves.list.places.current ∙ ap (λ (o : Option StreamItem). entry_begun o old.list.current) is ∙ (λ i. record { stream_type = (b.item_is i).stream_type; location = (b.item_is i).location }) in
      rw (leaves.list.same.choice, leaves.list.same.entries, current) (record { number = b.number; is = b.is; chosen = b.chosen })

  pub walked_item : (x : Item) → WalkerLeaves old (Ok (Some x)) new → ((number : ℕ) → old.position ≡ Sought number → GivesEntry number old.list.entries (Ok (Some x))) → IsInChosen new.list
  walked_item x leaves sought = by (summary_of x).stream refl where
    on : (p : Position) → old.position ≡ p → (summary_of x).stream ≡ None → IsInChosen new.list
    on (Sought number) at none = absurd (no_entry_sought old.list.entries x number none (sought number at))
    on Begun at none = let not : seeks old.position ≡ false = ap seeks at in answers_item old.list new.list leaves.list.same.choice leaves.list.same.entries (stands not) x (leaves.follows going not)
    on Within at none = let not : seeks old.position ≡ false = ap seeks at in answers_item old.list new.list leaves.list.same.choice leaves.list.same.entries (stands not) x (leaves.follows going not)

    by : (o : Option StreamItem) → (summary_of x).stream ≡ o → IsInChosen new.list
    by (Some s) is = begun_in x s is leaves sought
    by None is = on old.position refl is

  pub walked_fault : (f : ListFault) → WalkerLeaves old (Err f) new → ((number : ℕ) → old.position ≡ Sought number → GivesEntry number old.list.entries (Err f)) → IsInChosen new.list
  walked_fault f leaves sought = on old.position refl where
    on : (p : Position) → old.position ≡ p → IsInChosen new.list
    on (Sought number) at = absurd (sought number at)
    on Begun at = let not : seeks old.position ≡ false = ap seeks at in answers_fault old.list new.list leaves.list.same.choice leaves.list.same.entries (stands not) f (leaves.follows going not)
    on Within at = let not : seeks old.position ≡ false = ap seeks at in answers_fault old.list new.list leaves.list.same.choice leaves.list.same.entries (stands not) f (leaves.follows going not)
