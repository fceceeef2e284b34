-- Which bytes a call comes to next, so that the budget may end it there.
use Rattle.std.specs.Prelude.{◌≡◌, ◌<◌, ℕ, IsTrue, List, Option, Some, length}
use Rattle.mdmp_source.specs.Source.{SourceState}
use Rattle.mdmp_wire.specs.declared.entry.Entry.{Entry}
use Rattle.mdmp_lister.specs.declared.choice.Choice.{Choice}
use Rattle.mdmp_lister.specs.Format.Listing.{entry_count, entry_of, is_chosen}
use Rattle.mdmp_lister.specs.Lister.{ListerState}
use Rattle.mdmp_lister.specs.NextFetch.{IsNextFetch, IsOpeningFetch, Standpoint}
use Rattle.mdmp_summary.specs.InEntry.{IsChosenEntry, StandsInChosen}
use Rattle.mdmp_c.specs.declared.limits.PlainLimits.{PlainLimits}

-- ---- by a lister

-- a lister v may stand here as it goes on
pub record IsStandpointOf (v : ListerState) (at : Standpoint) : Type 0 where
  pub content : at.content ≡ v.source.store.content
  pub size : at.size ≡ v.source.size
  pub room : at.room ≡ v.rooms.window
  pub limit : at.limit ≡ v.limit
  -- in a chosen entry, if v stands in one or in none
  pub entry : StandsInChosen v → IsChosenEntry v.choice v.entries at.entry

-- it came to these bytes next, where so many were read
pub record CameNext (v : ListerState) (read offset size : ℕ) : Type 0 where
  pub at : Standpoint
  pub stands : IsStandpointOf v at
  pub next : IsNextFetch at read offset size

-- ---- by a call

-- this is an entry of F, and one of the chosen
pub record IsEntryOf (F : List ℕ) (choice : Choice) (e : Entry) : Type 0 where
  pub number : ℕ
  pub some : number < entry_count F
  pub is : e ≡ entry_of F number
  pub chosen : IsTrue (is_chosen choice e.stream_type)

-- a listing of the chosen entries of F, within limits, may stand here
pub record IsStandpointIn (limits : PlainLimits) (F : List ℕ) (choice : Choice) (at : Standpoint) : Type 0 where
  pub content : at.content ≡ Some F
  pub size : at.size ≡ length F
  pub room : at.room ≡ limits.window
  pub limit : at.limit ≡ limits.name
  pub entry : IsEntryOf F choice at.entry

-- a call that has read so many bytes of F comes to these next: as it opens F, where it counts the ranges of some lists or none; or as it
-- lists the chosen entries
pub data IsNextRead (limits : PlainLimits) (F : List ℕ) (choice : Choice) (counted : Option Choice) (read offset size : ℕ) : Type 0 where
  of_opening : (source : SourceState) → source.store.content ≡ Some F → source.size ≡ length F → IsOpeningFetch counted limits.window source read offset size
      → IsNextRead limits F choice counted read offset size
  of_listing : (at : Standpoint) → IsStandpointIn limits F choice at → IsNextFetch at read offset size → IsNextRead limits F choice counted read offset size
