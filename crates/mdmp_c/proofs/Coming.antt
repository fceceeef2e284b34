-- Which bytes a call came to next.
use Rattle.std.proofs.Common.{◌≡◌, ◌∙◌, ◌<◌, ℕ, List, Option, Some, ap, length, refl, subst, sym}
use Rattle.std.proofs.lemmas.Option.{get_or_from_slice_get, slice_get_within}
use Rattle.mdmp_source.specs.Source.{SourceState}
use Rattle.mdmp_wire.specs.declared.entry.Entry.{Entry}
use Rattle.mdmp_lister.specs.declared.choice.Choice.{Choice}
use Rattle.mdmp_lister.specs.declared.fault.FaultKind.TheVariants as kinds
use Rattle.mdmp_lister.specs.declared.limits.Limits.{Limits}
use Rattle.mdmp_lister.specs.Format.Directory.{IsDirectory}
use Rattle.mdmp_lister.specs.Lister.{IsNewList, IsSameLister, ListerState, Rooms, standpoint_in}
use Rattle.mdmp_lister.specs.NextFetch.{IsOpeningFetch, TellsSomeFetch}
use Rattle.mdmp_summary.specs.InEntry.{IsChosenEntry, IsInChosen, StandsInChosen}
use Rattle.mdmp_summary.specs.Walking.{IsSameListing}
use Rattle.mdmp_engines.specs.ReadThrough.{IsSameRun}
use Rattle.mdmp_c.specs.declared.limits.PlainLimits.{PlainLimits}
use Rattle.mdmp_c.specs.Limits.{AreGiven}
use Rattle.mdmp_c.specs.NextRead.{CameNext, IsEntryOf, IsNextRead, of_listing, of_opening}

-- ---- a lister that goes on

-- what stays of it
pub record GoesOnAs (old v : ListerState) : Type 0 where
  pub budget : v.counts.budget ≡ old.counts.budget
  pub rooms : v.rooms ≡ old.rooms
  pub limit : v.limit ≡ old.limit
  pub choice : v.choice ≡ old.choice
  pub entries : v.entries ≡ old.entries
  pub content : v.source.store.content ≡ old.source.store.content
  pub size : v.source.size ≡ old.source.size

pub lists_on : (old v : ListerState) → IsSameLister old v → v.source.store.content ≡ old.source.store.content → v.source.size ≡ old.source.size → GoesOnAs old v
lists_on old v same content size = record { budget = same.budget; rooms = same.rooms; limit = same.limit; choice = same.choice; entries = same.entries; content = content; size = size }

pub runs_on : (old v : ListerState) → IsSameRun old v → v.source.store.content ≡ old.source.store.content → v.source.size ≡ old.source.size → GoesOnAs old v
runs_on old v same content size = record { budget = same.budget; rooms = same.rooms; limit = same.limit; choice = same.choice; entries = same.entries; content = content; size = size }

pub stays_on : (v : ListerState) → GoesOnAs v v
stays_on v = record { budget = refl; rooms = refl; limit = refl; choice = refl; entries = refl; content = refl; size = refl }

-- a fetch that came next in its current entry
pub comes_next : (old v : ListerState) (offset size : ℕ) → GoesOnAs old v → (StandsInChosen old → IsInChosen v) → TellsSomeFetch (standpoint_in v) kinds.Budget offset size v.counts.fetched
    → CameNext old v.counts.fetched offset size
comes_next old v offset size same entry some = record {
  at = record (standpoint_in v) { standing = some.0; unread = some.1; fetched = some.2 };
  stands = record {
    content = same.content;
    size = same.size;
    room = ap (λ (r : Rooms). r.window) same.rooms;
    limit = same.limit;
    entry = λ in_chosen. rw (same.choice, same.entries) at (entry in_chosen);
  };
  next = some.3;
}

-- ---- a call

-- a lister was opened within these limits
pub record IsOpenedIn (limits : Limits) (F : List ℕ) (choice : Choice) (v : ListerState) : Type 0 where
  pub budget : v.counts.budget ≡ limits.budget
  pub window : v.rooms.window ≡ limits.window
  pub name : v.limit ≡ limits.name
  pub size : v.source.size ≡ length F
  pub content : v.source.store.content ≡ Some F
  pub choice_is : v.choice ≡ choice
  pub directory : IsDirectory F v.entries
  pub stands : StandsInChosen v

pub opened_in : (source : SourceState) (choice : Choice) (limits : Limits) (F : List ℕ) (v : ListerState) → source.store.content ≡ Some F → v.source.size ≡ length F → IsNewList source choice limits v
    → IsOpenedIn limits F choice v
opened_in source choice limits F v known size new = record {
  budget = new.counts.budget_is;
  window = new.asked.window_room;
  name = new.asked.limit_is;
  size = size;
  content = new.same_content ∙ known;
  choice_is = new.asked.choice_is;
  directory = new.read.directory F known;
  stands = λ more. absurd (more new.given.standing);
}

-- and went on to a chosen entry
pub opened_on : (limits : Limits) (F : List ℕ) (choice : Choice) (old new : ListerState) → IsOpenedIn limits F choice old → IsSameListing old new → IsInChosen new → IsOpenedIn limits F choice new
opened_on limits F choice old new opened same entry = record {
  budget = same.budget ∙ opened.budget;
  window = ap (λ (r : Rooms). r.window) same.rooms ∙ opened.window;
  name = same.limit ∙ opened.name;
  size = same.same_file.fetches.same_size ∙ opened.size;
  content = same.same_file.fetches.same_content ∙ opened.content;
  choice_is = same.choice ∙ opened.choice_is;
  directory = subst (IsDirectory F) (sym same.entries) opened.directory;
  stands = λ more. entry;
}

-- an entry of the directory as it was read
pub entry_in : (F : List ℕ) (choice : Choice) (entries : List Entry) (e : Entry) → IsDirectory F entries → IsChosenEntry choice entries e → IsEntryOf F choice e
entry_in F choice entries e directory of =
    let within : of.number < length entries = slice_get_within entries of.number e of.is in
    record {
      number = of.number;
      some = subst (λ n. of.number < n) directory.count within;
      is = sym (get_or_from_slice_get entries of.number e e of.is) ∙ directory.each of.number e within;
      chosen = of.chosen;
    }

module _ (plain : PlainLimits) (limits : Limits) (F : List ℕ) (choice : Choice) (counted : Option Choice) (given : AreGiven plain limits) (read offset size : ℕ) where
  -- a call comes to what its lister comes to
  pub listing_next : (v : ListerState) → IsOpenedIn limits F choice v → CameNext v read offset size → IsNextRead plain F choice counted read offset size
  listing_next v opened comes =
      let stands = comes.stands in
      of_listing comes.at
      record {
        content = stands.content ∙ opened.content;
        size = stands.size ∙ opened.size;
        room = stands.room ∙ opened.window ∙ given.window;
        limit = stands.limit ∙ opened.name ∙ given.name;
        entry = entry_in F choice v.entries comes.at.entry opened.directory (subst (λ (ch : Choice). IsChosenEntry ch v.entries comes.at.entry) opened.choice_is (stands.entry opened.stands));
      }
      comes.next

  -- or its opening
  pub opening_next : (source : SourceState) → source.store.content ≡ Some F → source.size ≡ length F → IsOpeningFetch counted limits.window source read offset size
      → IsNextRead plain F choice counted read offset size
  opening_next source known sized next = of_opening source known sized (subst (λ n. IsOpeningFetch counted n source read offset size) given.window next)
