-- A view of a file, by what it keeps of each stream.
use Rattle.std.specs.Prelude.{◌≡◌, ◌≤◌, ◌<◌, ◌+◌, ◌-◌, ◌*◌, ◌/◌, ◌^◌, ◌⊎◌, ℕ, List, [], ◌∷◌, length, map, get_or, take, Option, Some, None, Result, Ok, Err, false, ◌==◌, if◌then◌else◌, sum, sum_by, IfErr, IfSome, IsOk, IsTrue, MatchResult}
use Rattle.mdmp_source.specs.Range.{bytes_at}
use Rattle.mdmp_source.specs.Store.{AreBytes, IsGood}
use Rattle.mdmp_source.specs.declared.fault.SourceFault.{SourceFault}
use Rattle.mdmp_source.specs.declared.fault.SourceFault.TheVariants.{Changed}
use Rattle.mdmp_wire.specs.Header.{header_at}
use Rattle.mdmp_wire.specs.declared.header.Header.{Header}
use Rattle.mdmp_lister.specs.Format.Listing.{Numbered, chosen}
use Rattle.mdmp_lister.specs.Format.Numbers.{is_listed}
use Rattle.mdmp_lister.specs.Format.Shape.{record_count}
use Rattle.mdmp_lister.specs.declared.fault.OpenFault.TheVariants as opening
use Rattle.mdmp_lister.specs.Meter.{KeepsTo, is_passed}
use Rattle.mdmp_dump.specs.declared.fault.ReadFault.TheVariants as faults
use Rattle.mdmp_dump.specs.declared.dump.Dump.{Dump}
use Rattle.mdmp_dump.specs.declared.dump.Stream.{Stream}
use Rattle.mdmp_dump.specs.declared.found_record.FoundRecord.{FoundRecord}
use Rattle.mdmp_dump.specs.declared.fault.ReadFault.{ReadFault}
use Rattle.mdmp_dump.specs.declared.pass.Pass.{Pass}
use Rattle.mdmp_dump.specs.declared.stream_walk.TakenRoom.{TakenRoom}
use Rattle.mdmp_dump.specs.declared.stream_walk.Walked.{Walked}
use Rattle.mdmp_dump.specs.declared.view.HeaderFields.{HeaderFields}
use Rattle.mdmp_dump.specs.declared.view.Kind.{Kind}
use Rattle.mdmp_dump.specs.declared.view.Kind.TheVariants as kinds
use Rattle.mdmp_dump.specs.declared.view.ViewFault.{ViewFault}
use Rattle.mdmp_dump.specs.declared.view.ViewFault.TheVariants as view
use Rattle.mdmp_dump.specs.EntryWalk.{GivesNext, IsSameWalk, LiesInside, MayCount, Pays, WalkState, chosen_entry, kind_by, listed, name_cost, no_entry, pass_cost, raw_part}
use Rattle.mdmp_dump.specs.FileRefusal.{body_told, entry_told, view_refusal}
use Rattle.mdmp_dump.specs.FoundRecord.{AreIn, fields_of, no_part}
use Rattle.mdmp_dump.specs.InFile.{dump_in, stream_named}
use Rattle.mdmp_dump.specs.Placed.{far_room, fields_bytes, fields_room, size_in}
use Rattle.mdmp_dump.specs.Reading.{IsLastTold, IsWanting}
use Rattle.mdmp_dump.specs.Shape.{StreamCursor, GivesNone, ViewShape, StreamShape, all_bytes, is_far, parts_at, parts_in, shape_seen, sizes_at, told, value_cursor}
use Rattle.mdmp_dump.specs.View.{dump_seen, header_seen, kind_in, raw_in, records_seen}

-- ---- what a pass costs

unfoldable pub costs_in : List Numbered → List ℕ → List ℕ
costs_in (x ∷ xs) (n ∷ ns) = pass_cost x.entry n ∷ costs_in xs ns
costs_in xs ns = []

-- how many records were told
abbrev pub count_in : {X : Type 0} → Result ℕ X → ℕ
count_in (Ok n) = n
count_in (Err fault) = 0

-- a pass over a stream of F: its bytes, where its records are known, and the length of each name that they may have
abbrev pub pass_cost_in : List ℕ → Numbered → ℕ
pass_cost_in F x = pass_cost x.entry (count_in (record_count F x.entry))

-- the same of one that lies inside a file of z bytes; of another it is nothing
abbrev pub inside_cost_in : ℕ → List ℕ → Numbered → ℕ
inside_cost_in z F x = if is_listed z x.entry then pass_cost_in F x else 0

-- the first of some streams, those that were reached, lie inside a file of z bytes where their records are known
abbrev pub AreInside : ℕ → List Numbered → List ℕ → Type 0
AreInside z xs reached = (k : ℕ) → k < length reached → LiesInside z (get_or xs k no_entry).entry

-- ---- of unknown content

-- the greatest sum that is told
abbrev pub greatest : ℕ
greatest = 2 ^ 64 - 1

abbrev pub raw_by : Kind → ℕ → ℕ
raw_by (kinds.Raw t) size = size
raw_by kind size = 0

-- the bytes of names and parts of so many records: no more than their room where that is told, else 3 parts each
abbrev pub bytes_by : ℕ → ℕ → ℕ → ℕ
bytes_by count room left = if room == greatest then count * (3 * 2 ^ 64) else left

-- a stream of so many records whose names and parts take so much
abbrev pub stream_in : Numbered → ℕ → ℕ → StreamShape
stream_in x count room = record {
  kind = kind_by x.entry.stream_type;
  records = count;
  raw = raw_by (kind_by x.entry.stream_type) x.entry.location.size;
  parts = room;
  bytes = bytes_by count room room;
}

unfoldable pub streams_in : List Numbered → List ℕ → List ℕ → List StreamShape
streams_in (x ∷ xs) (n ∷ ns) (r ∷ rs) = stream_in x n r ∷ streams_in xs ns rs
streams_in xs ns rs = []

-- the numbers of a header that a view gives
abbrev pub header_fields : Header → HeaderFields
header_fields h = record { version_high = h.version / 65536; checksum = h.checksum; time = h.time_date_stamp; flags = h.flags }

-- where the streams of some entries stand
abbrev pub places_in : List Numbered → List ℕ
places_in xs = map (λ x. x.entry.location.rva) xs

abbrev pub unknown_shape : WalkState → List ℕ → List ℕ → ViewShape
unknown_shape w counts rooms = record {
  header = header_fields w.header;
  streams = streams_in w.chosen counts rooms;
  costs = costs_in w.chosen counts;
  places = places_in w.chosen;
  is_reliable = false;
  seen = None;
}

-- what is left of the room of a stream
abbrev pub left_room : Pass → ℕ
left_room p = if p.room == greatest then greatest else p.room - p.met

abbrev pub unknown_cursor : WalkState → Pass → StreamCursor
unknown_cursor w p = record {
  kind = kind_by (chosen_entry w p.stream).entry.stream_type;
  records = p.left;
  room = if is_far (kind_by (chosen_entry w p.stream).entry.stream_type) then 0 else left_room p;
  far = if is_far (kind_by (chosen_entry w p.stream).entry.stream_type) then left_room p else 0;
  bytes = bytes_by p.left p.room (p.room - p.met);
  seen = None;
  sizes = λ k. size_in (get_or p.parts k no_part).size;
  parts = None;
  at = p.rva;
}

-- no stream is begun
abbrev pub no_cursor : StreamCursor
no_cursor = record { kind = kinds.Unused; records = 0; room = 0; far = 0; bytes = 0; seen = None; sizes = λ k. 0; parts = None; at = 0 }

-- a pass fits the walk: while records are left, its stream is the current one; and the parts lie inside the file
pub record IsPass (w : WalkState) (p : Pass) : Type 0 where
  pub within : p.stream < length w.chosen
  pub few : p.given + p.left < 2 ^ 32
  pub met : p.met ≤ p.room
  pub parts : AreIn w.source.size p.parts
  pub going : 0 < p.left → (w.current ≡ chosen_entry w p.stream) × (w.left ≡ p.left)

-- ---- of known content

module _ {Z : Type 0} where
  -- the stream of an entry of F
  abbrev pub stream_of : List ℕ → WalkState → ℕ → Stream Z
  stream_of F w k = stream_named F (chosen_entry w k).entry

  -- what the names and parts of all records of a stream take, as it is told
  abbrev pub room_told : Stream Z → ℕ
  room_told s = told (parts_in (kind_in s) (records_seen s))

  -- and those of the first records
  abbrev pub met_told : Stream Z → ℕ → ℕ
  met_told s given = told (parts_in (kind_in s) (take given (records_seen s)))

  -- the bytes of its names and parts, and its own where its records are not known
  abbrev pub stream_asks : Stream Z → ℕ
  stream_asks s = all_bytes (records_seen s) + length (raw_in s)

  abbrev pub known_shape : (d : Dump Z) → WalkState → List ℕ → ViewShape
  known_shape d w counts = record {
    header = header_seen d;
    streams = map shape_seen (dump_seen d).streams;
    costs = costs_in w.chosen counts;
    places = places_in w.chosen;
    is_reliable = w.source.store.is_reliable;
    seen = Some (dump_seen d);
  }

module _ (Z : Type 0) where
  abbrev pub known_cursor : List ℕ → WalkState → Pass → StreamCursor
  known_cursor F w p = record (value_cursor (stream_of {Z = Z} F w p.stream) p.given) { at = p.rva }

  -- a view of F: its entries have as many records as were counted, whose names and parts take what was told, and nothing of
  -- it is refused
  pub record IsViewed (F : List ℕ) (limit : ℕ) (w : WalkState) (counts rooms : List ℕ) : Type 0 where
    pub size : w.source.size ≡ length F
    pub bytes : AreBytes F
    pub header : w.header ≡ header_at F 0
    pub chosen_are : w.chosen ≡ chosen F w.choice
    pub quiet : view_refusal F w.choice limit ≡ None
    pub counted : (k : ℕ) → k < length w.chosen → record_count F (chosen_entry w k).entry ≡ Ok (get_or counts k 0)
    pub roomed : (k : ℕ) → k < length w.chosen → get_or rooms k 0 ≡ room_told (stream_of {Z = Z} F w k)

  -- a pass over a stream of F: so many of its records were given, none of those that are left is refused, and the parts of
  -- the last one stand where it says, or the raw bytes
  pub record IsPassOf (F : List ℕ) (limit : ℕ) (w : WalkState) (p : Pass) : Type 0 where
    pub quiet : body_told F limit (chosen_entry w p.stream) p.given ≡ None
    pub counted : record_count F (chosen_entry w p.stream).entry ≡ Ok (p.given + p.left)
    pub room : p.room ≡ room_told (stream_of {Z = Z} F w p.stream)
    pub met : p.met ≡ met_told (stream_of {Z = Z} F w p.stream) p.given
    pub parts : (j : ℕ) → bytes_at F (get_or p.parts j no_part).at (size_in (get_or p.parts j no_part).size) ≡ get_or (parts_at (stream_of {Z = Z} F w p.stream) p.given) j []
    pub sizes : (j : ℕ) → size_in (get_or p.parts j no_part).size ≡ sizes_at (stream_of {Z = Z} F w p.stream) p.given j

  -- ---- of any content

  abbrev pub shape_by : Option (List ℕ) → WalkState → List ℕ → List ℕ → ViewShape
  shape_by None w counts rooms = unknown_shape w counts rooms
  shape_by (Some F) w counts rooms = known_shape (dump_in {Z = Z} F w.choice) w counts

  abbrev pub file_shape : WalkState → List ℕ → List ℕ → ViewShape
  file_shape w counts rooms = shape_by w.source.store.content w counts rooms

  abbrev pub cursor_by : Option (List ℕ) → WalkState → Pass → StreamCursor
  cursor_by None w p = unknown_cursor w p
  cursor_by (Some F) w p = known_cursor F w p

  abbrev pub pass_cursor : WalkState → Pass → StreamCursor
  pass_cursor w p = cursor_by w.source.store.content w p

  abbrev pub file_cursor : WalkState → Option Pass → StreamCursor
  file_cursor w None = no_cursor
  file_cursor w (Some p) = pass_cursor w p

-- the bytes that can be asked for of some entries of F
module _ (Z : Type 0) where
  abbrev pub asks_in : List ℕ → List Numbered → ℕ
  asks_in F xs = sum_by (λ x. stream_asks (stream_named {Z = Z} F x.entry)) xs

-- a pass over a stream of so many records that begins, whose names and parts take so much
abbrev pub first_pass : WalkState → ℕ → ℕ → ℕ → Pass
first_pass w k count room = record {
  stream = k;
  rva = (chosen_entry w k).entry.location.rva;
  given = 0;
  left = count;
  room = room;
  met = 0;
  parts = raw_part (chosen_entry w k).entry ∷ no_part ∷ no_part ∷ [];
}

-- ---- what was fetched

-- by the opening
abbrev pub opening_cost : WalkState → List ℕ → ℕ
opening_cost w counts = 32 + 12 * w.header.number_of_streams + sum (costs_in w.chosen counts)

-- the lengths of names that a pass may still fetch
abbrev pub names_owed : WalkState → Option Pass → ℕ
names_owed w None = 0
names_owed w (Some p) = p.left * name_cost (chosen_entry w p.stream).entry.stream_type

-- what was fetched is paid for: by the opening, by the passes that were begun, and by what was asked
pub record IsViewPaid (w : WalkState) (counts : List ℕ) (pass : Option Pass) (passed asked : ℕ) : Type 0 where
  pub bytes : opening_cost w counts + passed + asked < 2 ^ 128 - 1 → w.allowed + w.aside + names_owed w pass ≤ opening_cost w counts + passed + asked
  pub names : opening_cost w counts + passed + asked < 2 ^ 128 - 1 → 4 * w.names + names_owed w pass ≤ opening_cost w counts + passed + asked

-- ---- opening

-- with a record that was found: what the names and parts of the records up to it take, and how many bytes its own have
abbrev pub IsTakenWith : ℕ → Result FoundRecord ReadFault → Result TakenRoom ReadFault → Type 0
IsTakenWith room (Ok f) (Ok taken) = (taken.room ≡ told (told (room + fields_room (fields_of f)) + far_room (fields_of f))) × (taken.bytes ≡ fields_bytes (fields_of f)) × (taken.bytes ≤ 2 ^ 66)
IsTakenWith room (Err fault) (Err told) = told ≡ fault
IsTakenWith room given result = ⊥

-- the next record was walked over; those before it take so much room
pub record WalksRecord (old : WalkState) (limit room : ℕ) (result : Result TakenRoom ReadFault) (new : WalkState) : Type 0 where
  pub given : Result FoundRecord ReadFault
  pub gives : GivesNext old limit given new
  pub taken : IsTakenWith room given result

-- all streams were walked over, of so many records each
pub record PaysAll (counts : List ℕ) (old new : WalkState) : Type 0 where
  pub same : IsSameWalk old new
  pub aside : new.aside ≡ old.aside
  pub allowed : new.names + 1 < 2 ^ 128 → new.allowed ≤ old.allowed + sum (costs_in old.chosen counts)
  pub reached : 4 * new.names ≤ 4 * old.names + sum (costs_in old.chosen counts)

-- a stream was walked over up to what is refused: so many records were reached, of a known file no more than it has
pub record PaysUpTo (k : ℕ) (old new : WalkState) : Type 0 where
  pub reached : ℕ
  pub pays : Pays (listed (chosen_entry old k).entry) (reached * name_cost (chosen_entry old k).entry.stream_type) old new
  pub few : (F : List ℕ) → old.source.store.content ≡ Some F → reached ≤ count_in (record_count F (chosen_entry old k).entry)
  -- of one that lies outside nothing was fetched
  pub unlisted : is_listed old.source.size (chosen_entry old k).entry ≡ false → Pays 0 0 old new

-- the streams were, up to one of them
pub record PaysSome (old new : WalkState) : Type 0 where
  pub reached : List ℕ
  pub pays : PaysAll reached old new
  pub few : (F : List ℕ) → old.source.store.content ≡ Some F → sum (costs_in old.chosen reached) ≤ sum (map (pass_cost_in F) old.chosen)
  -- none that was reached lies outside the file
  pub inside : AreInside old.source.size old.chosen reached
  pub inside_costs : (F : List ℕ) → old.source.store.content ≡ Some F → sum (costs_in old.chosen reached) ≤ sum (map (inside_cost_in old.source.size F) old.chosen)

-- a stream of F was walked over: it has as many records as were counted, whose names and parts take what is told; or the
-- first refusal among them is told
module _ (Z : Type 0) where
  abbrev pub HasWalked : List ℕ → ℕ → WalkState → ℕ → Result Walked ReadFault → Type 0
  HasWalked F limit w k (Ok walked) =
      (record_count F (chosen_entry w k).entry ≡ Ok walked.count) × (walked.room ≡ room_told (stream_of {Z = Z} F w k)) × (entry_told F limit (chosen_entry w k) ≡ None)
      × (walked.asks ≡ stream_asks (stream_of {Z = Z} F w k))
  HasWalked F limit w k (Err fault) = (IsWanting fault → ⊥) → entry_told F limit (chosen_entry w k) ≡ Some fault

  -- so many streams were
  pub record AreWalked (F : List ℕ) (limit : ℕ) (w : WalkState) (counts rooms : List ℕ) : Type 0 where
    pub counted : (k : ℕ) → k < length counts → record_count F (chosen_entry w k).entry ≡ Ok (get_or counts k 0)
    pub roomed : (k : ℕ) → k < length counts → get_or rooms k 0 ≡ room_told (stream_of {Z = Z} F w k)
    pub quiet : (k : ℕ) → k < length counts → entry_told F limit (chosen_entry w k) ≡ None

-- the same within a budget: so many of its records were reached, and what was spent before with a pass over them is within it
pub record KeepsUpTo (budget : Option ℕ) (spent k : ℕ) (old new : WalkState) : Type 0 where
  pub reached : ℕ
  pub pays : Pays (listed (chosen_entry old k).entry) (reached * name_cost (chosen_entry old k).entry.stream_type) old new
  pub kept : KeepsTo budget (spent + pass_cost (chosen_entry old k).entry reached)

-- the streams were walked over within a budget, with the header and the directory, of so many records each
pub record KeepsAll (budget : Option ℕ) (old new : WalkState) : Type 0 where
  pub reached : List ℕ
  pub pays : PaysAll reached old new
  pub kept : KeepsTo budget (opening_cost old reached)

-- a budget that ends an opening has no room for so many bytes
abbrev pub IsShortAt : Option ℕ → ℕ → ReadFault → Type 0
IsShortAt budget bound (faults.Opening (opening.Budget offset size)) = IsTrue (is_passed budget bound)
IsShortAt budget bound fault = Unit {0}

-- what is told of a stream of F, if so many bytes may be fetched before it: its own size, if the budget has no room for those, and else
-- what a pass over it costs
abbrev pub size_told : Option ℕ → ℕ → List ℕ → Numbered → ℕ
size_told budget before F x = if is_passed budget (before + listed x.entry) then listed x.entry else pass_cost_in F x

-- the budget has no room for this stream of F: it is told where it stands, and how much would pass the budget
pub record IsStreamOver (budget : Option ℕ) (before : ℕ) (F : List ℕ) (x : Numbered) (offset size : ℕ) : Type 0 where
  pub offset_is : offset ≡ x.entry.location.rva
  pub size_is : size ≡ size_told budget before F x
  pub passes : IsTrue (is_passed budget (before + size))

abbrev pub TellsStream : Option ℕ → ℕ → List ℕ → Numbered → ReadFault → Type 0
TellsStream budget before F x (faults.Opening (opening.Budget offset size)) = IsStreamOver budget before F x offset size
TellsStream budget before F x fault = Unit {0}

-- what may be fetched for a directory of so many entries, and a pass over each of the first k of these streams of F
abbrev pub cost_before : List ℕ → (entries : ℕ) → List Numbered → ℕ → ℕ
cost_before F entries xs k = 32 + 12 * entries + sum (map (pass_cost_in F) (take k xs))

-- it is the first of these streams that the budget has no room for
pub record IsFirstOver (budget : Option ℕ) (F : List ℕ) (entries : ℕ) (xs : List Numbered) (offset size : ℕ) : Type 0 where
  pub stream : ℕ
  pub within : stream < length xs
  pub kept : 0 < stream → KeepsTo budget (cost_before F entries xs stream)
  pub over : IsStreamOver budget (cost_before F entries xs stream) F (get_or xs stream no_entry) offset size

abbrev pub TellsFirst : Option ℕ → List ℕ → (entries : ℕ) → List Numbered → ReadFault → Type 0
TellsFirst budget F entries xs (faults.Opening (opening.Budget offset size)) = IsFirstOver budget F entries xs offset size
TellsFirst budget F entries xs fault = Unit {0}

-- each of the streams of a walk over a file of z bytes has as many records as what was read of its head counts
abbrev pub AreCounted : ℕ → WalkState → List ℕ → Type 0
AreCounted z w counts = (k : ℕ) → k < length counts → MayCount z (chosen_entry w k).entry (get_or counts k 0)

-- of streams of these kinds, with so many records each, those of which none is given have no names and parts
abbrev pub AreBare : (ℕ → Kind) → List ℕ → List ℕ → Type 0
AreBare kind counts rooms = (k : ℕ) → GivesNone (kind k) (get_or counts k 0) → get_or rooms k 0 ≡ 0

-- the kind of a stream of a walk
abbrev pub kind_at : WalkState → ℕ → Kind
kind_at w k = kind_by (chosen_entry w k).entry.stream_type

-- ---- faults

abbrev pub source_fault : ViewFault → SourceFault
source_fault (view.Source fault) = fault

-- a fault of the store is told as it is, and any other says that the file has changed where the stream stands
abbrev pub told_as : ℕ → Option SourceFault → ViewFault
told_as rva (Some (Changed at)) = view.Source (Changed rva)
told_as rva (Some fault) = view.Source fault
told_as rva None = view.Source (Changed rva)

-- a call that fetches answers so: a fault is told in it, or the walk has ended with it before; over a good store there is none
pub record TellsViewFault {T : Type 0} (old : WalkState) (result : Result T ViewFault) (new : WalkState) : Type 0 where
  pub told : old.failed ≡ None → IfErr result (λ fault. IsLastTold (source_fault fault) old.source new.source)
  pub ended : (fault : SourceFault) → new.failed ≡ Some fault → MatchResult result (λ x. ⊥) (λ last. last ≡ view.Source fault)
  pub repeats : (fault : SourceFault) → old.failed ≡ Some fault → (new.source ≡ old.source) × (new.failed ≡ old.failed)
  pub good : (file : List ℕ) → IsGood old.source.store file → old.failed ≡ None → IsOk result

-- calls of a view, of which the last that fetched ended with this fault or with none: the walk goes on, and the fault is told
-- in them, or was the last before them
pub record HasMoved (old : WalkState) (before : Option ViewFault) (new : WalkState) (last : Option ViewFault) : Type 0 where
  pub same : IsSameWalk old new
  pub told : IfSome last (λ fault. ((before ≡ last) × (new.source ≡ old.source)) ⊎ IsLastTold (source_fault fault) old.source new.source)

-- ---- a view

-- what is true of each view: what it keeps of the streams, its pass, and what was spent, fit how the walk stands
pub record IsView (Z : Type 0) (limit : ℕ) (w : WalkState) (counts rooms : List ℕ) (pass : Option Pass) (passed asked : ℕ) (last : Option ViewFault) : Type 0 where
  pub counted : length counts ≡ length w.chosen
  pub roomed : length rooms ≡ length w.chosen
  pub few : length w.chosen ≤ w.header.number_of_streams
  pub light : w.held < 2 ^ 64
  pub passing : (p : Pass) → pass ≡ Some p → IsPass w p
  pub paid : IsViewPaid w counts pass passed asked
  pub bare : AreBare (kind_at w) counts rooms
  pub of_file : (F : List ℕ) → w.source.store.content ≡ Some F → IsViewed Z F limit w counts rooms
  pub pass_of : (F : List ℕ) (p : Pass) → w.source.store.content ≡ Some F → pass ≡ Some p → IsPassOf Z F limit w p
  -- a walk that has ended is begun no more
  pub ended : (fault : SourceFault) → w.failed ≡ Some fault → (last ≡ Some (view.Source fault)) × (pass ≡ None)
  pub steady : (F : List ℕ) → IsGood w.source.store F → w.failed ≡ None
