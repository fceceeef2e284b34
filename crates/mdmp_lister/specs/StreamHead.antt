-- What is fetched of the heads of streams.
use Rattle.std.specs.Prelude.{◌≡◌, ◌<◌, ◌+◌, ◌*◌, ℕ, List, Option, Some, None, length, nat_lt, sum_by, if◌then◌else◌}
use Rattle.mdmp_source.specs.Range.{is_inside}
use Rattle.mdmp_source.specs.declared.location.Location.{Location}
use Rattle.mdmp_wire.specs.declared.entry.Entry.{Entry}
use Rattle.mdmp_lister.specs.declared.choice.Choice.{Choice}
use Rattle.mdmp_lister.specs.declared.fault.Fault.{Fault}
use Rattle.mdmp_lister.specs.declared.fault.FaultKind.TheVariants.{ShortStream}
use Rattle.mdmp_lister.specs.declared.kind.StreamKind.{StreamKind}
use Rattle.mdmp_lister.specs.Format.Listing.{is_chosen}
use Rattle.mdmp_lister.specs.Format.Kind.{form_of, kind_of, lists_ranges, record_size}
use Rattle.mdmp_lister.specs.Format.Shape.{head_cost, head_size}

-- a stream of this kind is too short for its head, or for its one record, and has this fault
pub record IsShort (at : Location) (kind : StreamKind) (fault : Fault) : Type 0 where
  pub less : at.size < head_size (form_of kind) (record_size kind)
  pub is : fault ≡ record { kind = ShortStream; offset = at.rva; size = at.size }

-- the bytes that are fetched of a head, of a stream of so many bytes: none of one that is too short
abbrev pub head_spent : ℕ → StreamKind → ℕ
head_spent size kind = if nat_lt size (head_size (form_of kind) (record_size kind)) then 0 else head_cost (form_of kind)

-- those of an entry of this kind in a file of z bytes: none of a stream that does not lie inside
abbrev pub head_inside : ℕ → Entry → StreamKind → ℕ
head_inside z e kind = if is_inside e.location.rva e.location.size z then head_spent e.location.size kind else 0

-- ---- as a file is opened

-- the heads of memory lists, and no others
abbrev pub ahead_by : ℕ → Entry → Option StreamKind → ℕ
ahead_by z e (Some kind) = if lists_ranges kind then head_inside z e kind else 0
ahead_by z e None = 0

unfoldable pub ahead_of : ℕ → Entry → ℕ
ahead_of z e = ahead_by z e (kind_of e.stream_type)

-- of those that are chosen
unfoldable pub chosen_ahead : Choice → ℕ → Entry → ℕ
chosen_ahead choice z e = if is_chosen choice e.stream_type then ahead_of z e else 0

-- of some entries together
abbrev pub heads_ahead : Choice → ℕ → List Entry → ℕ
heads_ahead choice z entries = sum_by (chosen_ahead choice z) entries

-- the bytes that are fetched of a file as it is opened, whose directory has these entries: the header, and they
abbrev pub directory_bytes : List Entry → ℕ
directory_bytes entries = 32 + 12 * length entries

-- and by a lister, which counts the ranges of the chosen memory lists: their heads too
abbrev pub opening_bytes : Choice → ℕ → List Entry → ℕ
opening_bytes choice z entries = directory_bytes entries + heads_ahead choice z entries
