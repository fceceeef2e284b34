-- What a view is: a shape that stays, a cursor that moves, and what was spent of it.
use Rattle.std.specs.Prelude.{◌≡◌, ◌^◌, ◌≤◌, ◌<◌, ℕ, zero, suc, ◌+◌, ◌-◌, ◌*◌, List, [], ◌∷◌, length, map, get_or, drop, Option, Some, None, option_map, Bool, true, false, ◌==◌, if◌then◌else◌, min}
use Rattle.mdmp_wire.specs.declared.any_record.AnyRecord.{AnyRecord}
use Rattle.mdmp_lister.specs.declared.kind.StreamKind.{StreamKind}
use Rattle.mdmp_lister.specs.declared.kind.StreamKind.TheVariants as list
use Rattle.mdmp_lister.specs.Format.Item.{kind_told}
use Rattle.mdmp_lister.specs.Format.Kind.{form_of, kind_of, record_size, type_of_kind}
use Rattle.mdmp_lister.specs.Format.Shape.{head_cost}
use Rattle.mdmp_dump.specs.declared.view.Fields.{Fields}
use Rattle.mdmp_dump.specs.declared.view.HeaderFields.{HeaderFields}
use Rattle.mdmp_dump.specs.declared.view.Kind.{Kind}
use Rattle.mdmp_dump.specs.declared.view.Kind.TheVariants as kinds
use Rattle.mdmp_dump.specs.declared.view.ViewFault.{ViewFault}
use Rattle.mdmp_dump.specs.declared.view.ViewFault.TheVariants as view
use Rattle.mdmp_source.specs.Count.{raised}
use Rattle.mdmp_source.specs.declared.fault.SourceFault.TheVariants.{Changed}
use Rattle.mdmp_dump.specs.declared.dump.Stream.{Stream}
use Rattle.mdmp_dump.specs.declared.dump.Dump.{Dump}
use Rattle.mdmp_dump.specs.Seen.{Seen, nothing_seen}
use Rattle.mdmp_dump.specs.View.{DumpSeen, StreamSeen, dump_seen, header_seen, kind_in, raw_in, records_seen}
use Rattle.mdmp_dump.specs.Placed.{size_at, size_in, fields_bytes, fields_room, far_room}

-- ---- kinds

-- the records' bytes stand behind all streams
abbrev pub is_far : Kind → Bool
is_far (kinds.Known t) = t == type_of_kind list.Memory64
is_far _ = false

-- the bytes before the records of a stream of this kind, as it is written; none before a single record
abbrev pub head_by : Option StreamKind → ℕ
head_by (Some kind) = head_cost (form_of kind)
head_by None = 0

-- the bytes of a record of it. No view gives another type as known: its records would have 1.
abbrev pub row_by : Option StreamKind → ℕ
row_by (Some kind) = record_size kind
row_by None = 1

-- the same of a stream of this type
abbrev pub head_of : ℕ → ℕ
head_of t = head_by (kind_of t)

abbrev pub row_of : ℕ → ℕ
row_of t = row_by (kind_of t)

abbrev pub body_by : Kind → ℕ → ℕ → ℕ
body_by kinds.Unused records raw = 0
body_by (kinds.Known t) records raw = head_of t + records * row_of t
body_by (kinds.Raw t) records raw = raw

-- the type of a stream that has such records
abbrev pub type_told : AnyRecord → ℕ
type_told w = type_of_kind (kind_told w)

-- ---- what stays

-- a stream: its kind, how many records and raw bytes it has, and the room of its parts; of 64-bit memory their plain sum.
-- Its names and parts have at most `bytes`, without their lengths and padding.
pub record StreamShape : Type 0 where
  pub kind : Kind
  pub records : ℕ
  pub raw : ℕ
  pub parts : ℕ
  pub bytes : ℕ

-- the bytes of its body, the room of its parts behind it, and its bytes of 64-bit memory
abbrev pub body_of : StreamShape → ℕ
body_of s = body_by s.kind s.records s.raw

abbrev pub room_of : StreamShape → ℕ
room_of s = if is_far s.kind then 0 else s.parts

abbrev pub far_of : StreamShape → ℕ
far_of s = if is_far s.kind then s.parts else 0

-- the bytes that can be asked for: its names and parts, and its raw bytes
abbrev pub asks_of : StreamShape → ℕ
asks_of s = s.bytes + s.raw

-- a view: the numbers of its header; its streams, the cost of a pass over each, 0 where none is told, and where each of them
-- stands in a file; whether none of its calls answers a fault, and what it gives where that is known
pub record ViewShape : Type 0 where
  pub header : HeaderFields
  pub streams : List StreamShape
  pub costs : List ℕ
  pub places : List ℕ
  pub is_reliable : Bool
  pub seen : Option DumpSeen

abbrev pub unused_shape : StreamShape
unused_shape = record { kind = kinds.Unused; records = 0; raw = 0; parts = 0; bytes = 0 }

abbrev pub unused_seen : StreamSeen
unused_seen = record { kind = kinds.Unused; records = []; raw = [] }

-- the room of the parts of some records, and their bytes of 64-bit memory
unfoldable pub rooms : List Seen → ℕ
rooms [] = 0
rooms (x ∷ xs) = fields_room x.fields + rooms xs

unfoldable pub fars : List Seen → ℕ
fars [] = 0
fars (x ∷ xs) = far_room x.fields + fars xs

-- the bytes of their names and parts
unfoldable pub all_bytes : List Seen → ℕ
all_bytes [] = 0
all_bytes (x ∷ xs) = fields_bytes x.fields + all_bytes xs

-- what some records take: of 64-bit memory the bytes behind all streams, of others the room behind their own
abbrev pub all_taken : Bool → List Seen → ℕ
all_taken far xs = if far then fars xs else rooms xs

abbrev pub parts_in : Kind → List Seen → ℕ
parts_in kind xs = all_taken (is_far kind) xs

-- the same of one record
abbrev pub taken : Bool → Fields → ℕ
taken far f = if far then far_room f else fields_room f

abbrev pub shape_seen : StreamSeen → StreamShape
shape_seen s = record { kind = s.kind; records = length s.records; raw = length s.raw; parts = parts_in s.kind s.records; bytes = all_bytes s.records }

-- known content has this shape
abbrev pub IsShapeOfSeen : ViewShape → Type 0
IsShapeOfSeen s = (x : DumpSeen) → s.seen ≡ Some x → s.streams ≡ map shape_seen x.streams

abbrev pub stream_at : ViewShape → ℕ → StreamShape
stream_at s k = get_or s.streams k unused_shape

abbrev pub cost_at : ViewShape → ℕ → ℕ
cost_at s k = get_or s.costs k 0

abbrev pub place_at : ViewShape → ℕ → ℕ
place_at s k = get_or s.places k 0

abbrev pub seen_at : DumpSeen → ℕ → StreamSeen
seen_at x k = get_or x.streams k unused_seen

-- no record is given of a stream of this kind that has so many: it has none, or they are not known
abbrev pub GivesNone : Kind → ℕ → Type 0
GivesNone (kinds.Known t) records = records ≡ 0
GivesNone kind records = Unit {0}

-- such streams have no names and parts
abbrev pub HaveNoStrayParts : ViewShape → Type 0
HaveNoStrayParts s = (k : ℕ) → GivesNone (stream_at s k).kind (stream_at s k).records → (stream_at s k).parts ≡ 0

-- a size as it is told: it stops at the greatest
abbrev pub told : ℕ → ℕ
told n = min n (2 ^ 64 - 1)

-- ---- what moves

-- what is still to be given of a stream of this kind: how many records, the room of their parts and their bytes of 64-bit
-- memory, how many bytes their names and parts have at most, and the records where they are known. Then what `part` can be
-- asked for: the sizes of the parts of the record given last, or of the raw bytes as part 0, and their bytes where they are
-- known. And where the stream stands in a file.
pub record StreamCursor : Type 0 where
  pub kind : Kind
  pub records : ℕ
  pub room : ℕ
  pub far : ℕ
  pub bytes : ℕ
  pub seen : Option (List Seen)
  pub sizes : ℕ → ℕ
  pub parts : Option (List (List ℕ))
  pub at : ℕ

abbrev pub raw_sizes : ℕ → ℕ → ℕ
raw_sizes n zero = n
raw_sizes n (suc k) = 0

-- a stream is begun
abbrev pub begun : ViewShape → ℕ → StreamCursor
begun s k = record {
  kind = (stream_at s k).kind;
  records = (stream_at s k).records;
  room = room_of (stream_at s k);
  far = far_of (stream_at s k);
  bytes = (stream_at s k).bytes;
  seen = option_map (λ x. (seen_at x k).records) s.seen;
  sizes = raw_sizes (stream_at s k).raw;
  parts = option_map (λ x. (seen_at x k).raw ∷ []) s.seen;
  at = place_at s k;
}

-- a record's parts have the sizes that its fields tell
abbrev pub IsSized : Seen → Type 0
IsSized x = (k : ℕ) → length (get_or x.parts k []) ≡ size_in (size_at x.fields k)

-- a record of a stream of this kind, whose parts have the sizes that it tells
pub record IsOf (kind : Kind) (x : Seen) : Type 0 where
  pub kind_is : kind ≡ kinds.Known (type_told x.fields.wire)
  pub sized : IsSized x

abbrev pub AreOf : Kind → List Seen → Type 0
AreOf kind [] = Unit {0}
AreOf kind (x ∷ xs) = IsOf kind x × AreOf kind xs

-- the records of each stream are of its kind, where they are known
abbrev pub AreOfTheirKinds : ViewShape → Type 0
AreOfTheirKinds s = (x : DumpSeen) (k : ℕ) → s.seen ≡ Some x → AreOf (seen_at x k).kind (seen_at x k).records

-- of known records the first was given
pub record GivesSeen (xs : List Seen) (f : Fields) (new : StreamCursor) : Type 0 where
  pub first : Seen
  pub others : List Seen
  pub split : xs ≡ first ∷ others
  pub fields : first.fields ≡ f
  pub sized : IsSized first
  pub left : new.seen ≡ Some others
  pub parts : new.parts ≡ Some first.parts

-- what a record takes comes off a sum, of which nothing is left where no record is
pub record TakesOff (old taken new records : ℕ) : Type 0 where
  pub left : old ≡ taken + new
  pub last : records ≡ 0 → new ≡ 0

-- a record of the stream's kind was given: its parts never pass the room that is left, and with the last record none is
-- left, unless the room stands at the greatest size that is told
pub record GivesRecord (old : StreamCursor) (f : Fields) (new : StreamCursor) : Type 0 where
  pub kind : old.kind ≡ kinds.Known (type_told f.wire)
  pub stays : new.kind ≡ old.kind
  pub records : old.records ≡ new.records + 1
  pub room : old.room < 2 ^ 64 - 1 → TakesOff old.room (fields_room f) new.room new.records
  pub far : old.far < 2 ^ 64 - 1 → TakesOff old.far (far_room f) new.far new.records
  pub bytes : fields_bytes f + new.bytes ≤ old.bytes
  pub sizes : (k : ℕ) → new.sizes k ≡ size_in (size_at f k)
  pub seen : (xs : List Seen) → old.seen ≡ Some xs → GivesSeen xs f new
  pub at : new.at ≡ old.at

-- ---- what is spent

-- the costs of the passes that were begun, and how many bytes of names, parts and raw streams were asked for; how often its source was
-- asked to fetch, of a value never; and the fault that was answered last
pub record Spent : Type 0 where
  pub passed : ℕ
  pub asked : ℕ
  pub fetches : ℕ
  pub fault : Option ViewFault

-- nothing was spent
abbrev pub unspent : Spent
unspent = record { passed = 0; asked = 0; fetches = 0; fault = None }

-- so many bytes of a part are asked for: no pass begins, and its source is asked to fetch once at most, for all of them
pub record AsksOnce (count : ℕ) (old new : Spent) : Type 0 where
  pub passed : new.passed ≤ old.passed
  pub asked : new.asked ≤ old.asked + count
  pub fetches : new.fetches ≤ raised old.fetches 1

-- a call tells at this place of a file that the file has changed
abbrev pub IsChangeAt : ℕ → ViewFault → Type 0
IsChangeAt at (view.Source (Changed told)) = told ≡ at
IsChangeAt at fault = Unit {0}

-- the fault of a call is the one that was answered last, and a change is told at this place
pub record IsToldAt (at : ℕ) (spent : Spent) (fault : ViewFault) : Type 0 where
  pub last : spent.fault ≡ Some fault
  pub place : IsChangeAt at fault

-- ---- of a value

module _ {Z : Type 0} where
  abbrev pub value_shape : Dump Z → ViewShape
  value_shape d = record { header = header_seen d; streams = map shape_seen (dump_seen d).streams; costs = []; places = []; is_reliable = true; seen = Some (dump_seen d) }

  -- a view of this value
  abbrev pub IsViewOf : Dump Z → ViewShape → Type 0
  IsViewOf d s = s.seen ≡ Some (dump_seen d)

  -- the record of a stream with this index
  abbrev pub seen_record : Stream Z → ℕ → Seen
  seen_record s k = get_or (records_seen s) k nothing_seen

  abbrev pub sizes_at : Stream Z → ℕ → ℕ → ℕ
  sizes_at s zero = raw_sizes (length (raw_in s))
  sizes_at s (suc k) = λ which. size_in (size_at (seen_record s k).fields which)

  abbrev pub parts_at : Stream Z → ℕ → List (List ℕ)
  parts_at s zero = raw_in s ∷ []
  parts_at s (suc k) = (seen_record s k).parts

  -- so many records of a stream were given
  abbrev pub value_cursor : Stream Z → ℕ → StreamCursor
  value_cursor s k = record {
    kind = kind_in s;
    records = length (drop k (records_seen s));
    room = if is_far (kind_in s) then 0 else parts_in (kind_in s) (drop k (records_seen s));
    far = if is_far (kind_in s) then parts_in (kind_in s) (drop k (records_seen s)) else 0;
    bytes = all_bytes (drop k (records_seen s));
    seen = Some (drop k (records_seen s));
    sizes = sizes_at s k;
    parts = Some (parts_at s k);
    at = 0;
  }
