-- What a request for the next item may be answered with, by the directory as it was read and by what was given before: of
-- every file, whatever else stands in it. Where a head, a record or a name is read, some numbers stand there.
use Rattle.std.specs.Prelude.{◌≡◌, ◌≤◌, ◌<◌, ◌+◌, ◌-◌, ◌%◌, ◌==◌, ℕ, List, Option, Some, None, Result, Ok, Err, IsTrue, false, not, nat_lt, slice_get, if◌then◌else◌}
use Rattle.mdmp_source.specs.Range.{is_inside}
use Rattle.mdmp_source.specs.declared.location.Location.{Location}
use Rattle.mdmp_wire.specs.AnyRecord.{name_rva}
use Rattle.mdmp_wire.specs.declared.any_record.AnyRecord.{AnyRecord}
use Rattle.mdmp_wire.specs.declared.entry.Entry.{Entry}
use Rattle.mdmp_lister.specs.declared.choice.Choice.{Choice}
use Rattle.mdmp_lister.specs.declared.fault.Fault.{Fault}
use Rattle.mdmp_lister.specs.declared.fault.FaultKind.TheVariants.{ShortStream, NameLengthOutside, NameOdd, NameUnitsOutside}
use Rattle.mdmp_lister.specs.declared.fault.ListFault.{ListFault}
use Rattle.mdmp_lister.specs.declared.fetching.NameRead.{NameRead}
use Rattle.mdmp_lister.specs.declared.fetching.NameRead.TheVariants as read
use Rattle.mdmp_lister.specs.declared.form.Form.{Form}
use Rattle.mdmp_lister.specs.declared.form.Form.TheVariants as forms
use Rattle.mdmp_lister.specs.declared.kind.StreamKind.{StreamKind}
use Rattle.mdmp_lister.specs.declared.shape.Shape.{Shape}
use Rattle.mdmp_lister.specs.declared.step.Step.{Step}
use Rattle.mdmp_lister.specs.declared.step.Step.TheVariants as step
use Rattle.mdmp_lister.specs.Fault.{IsListFaultOf, IsUnobtained}
use Rattle.mdmp_lister.specs.Format.Item.{kind_told}
use Rattle.mdmp_lister.specs.Format.Kind.{form_of, kind_of, record_size}
use Rattle.mdmp_lister.specs.Format.Listing.{is_chosen}
use Rattle.mdmp_lister.specs.Format.Shape.{counted, head_cost, head_size, location_fault, ranges64, single, sized}
use Rattle.mdmp_lister.specs.Step.{bytes_behind}

-- an answer, of what it gives another thing
abbrev pub mapped : {X Y : Type 0} → (X → Y) → Result X Fault → Result Y Fault
mapped f (Ok x) = Ok (f x)
mapped f (Err fault) = Err fault

-- ---- where a listing stands in its directory

-- how far the current entry was given
pub data Standing : Type 0 where
  -- nothing of it is left, or none was begun
  through : Standing
  -- its Stream item was given, and the head of its stream is not read
  begun : Standing
  -- so many of its records were given, and so many are left; the bytes of the next range of a 64-bit memory list stand at
  -- this offset
  within : (given left offset : ℕ) → Standing

-- how many records of it are left, once its head was read
abbrev pub records_by : Standing → ℕ
records_by (within given left offset) = left
records_by standing = 0

-- how many were given
abbrev pub records_given : Standing → ℕ
records_given (within given left offset) = given
records_given standing = 0

-- the number of the first entry behind the current one, that entry, and how far it was given
pub record Cursor : Type 0 where
  pub passed : ℕ
  pub current : Entry
  pub standing : Standing

-- ---- the next chosen entry

-- entry i of a directory is the first from number `from` on that the choice has
pub record IsChosenBehind (choice : Choice) (entries : List Entry) (from i : ℕ) (e : Entry) : Type 0 where
  pub behind : from ≤ i
  pub is : slice_get entries i ≡ Some e
  pub chosen : IsTrue (is_chosen choice e.stream_type)
  pub between : (k : ℕ) (d : Entry) → from ≤ k → k < i → slice_get entries k ≡ Some d → is_chosen choice d.stream_type ≡ false

-- the choice has none from number `from` on
abbrev pub NoneChosenBehind : Choice → List Entry → ℕ → Type 0
NoneChosenBehind choice entries from = (k : ℕ) (d : Entry) → from ≤ k → slice_get entries k ≡ Some d → is_chosen choice d.stream_type ≡ false

-- ---- the head of a stream

-- a head of this form that holds some numbers says where the records of its stream stand, or shows a fault
unfoldable pub IsSomeHead : ℕ → ℕ → ℕ → Form → Result Shape Fault → Type 0
IsSomeHead at size record_size forms.Counted r = (count : ℕ) × (r ≡ counted at size record_size count)
IsSomeHead at size record_size forms.Single r = r ≡ single record_size
IsSomeHead at size record_size forms.Ranges64 r = (count : ℕ) × (r ≡ ranges64 at size record_size count)
IsSomeHead at size record_size form r = (first stride count : ℕ) × (r ≡ sized at size (head_cost form) record_size first stride count)

-- what is read of the head of a stream of this kind
pub data IsSomeShape (at : Location) (kind : StreamKind) (r : Result Shape Fault) : Type 0 where
  -- the stream is too short for it
  short : at.size < head_size (form_of kind) (record_size kind) → r ≡ Err (record { kind = ShortStream; offset = at.rva; size = at.size }) → IsSomeShape at kind r
  headed : head_size (form_of kind) (record_size kind) ≤ at.size → IsSomeHead at.rva at.size (record_size kind) (form_of kind) r → IsSomeShape at kind r
  -- its head was not obtained, or has changed
  failed : head_size (form_of kind) (record_size kind) ≤ at.size → (fault : Fault) → r ≡ Err fault → IsUnobtained fault.kind → IsSomeShape at kind r

-- all records of a stream of this shape are left
abbrev pub standing_by : ℕ → Shape → Standing
standing_by offset shape = within 0 shape.count offset

-- how far an entry was given whose head was read, or its fault, in a file of z bytes
pub data IsBegun (z : ℕ) (e : Entry) (r : Result Standing Fault) : Type 0 where
  outside : (fault : Fault) → location_fault z e ≡ Some fault → r ≡ Err fault → IsBegun z e r
  -- it is unused, or its records are not known
  opaque : location_fault z e ≡ None → kind_of e.stream_type ≡ None → r ≡ Ok through → IsBegun z e r
  shaped : location_fault z e ≡ None → (kind : StreamKind) → kind_of e.stream_type ≡ Some kind → (shape : Result Shape Fault) → IsSomeShape e.location kind shape
      → (offset : ℕ) → r ≡ mapped (standing_by offset) shape → IsBegun z e r

-- the head of the current entry's stream was read, or nothing was
pub data IsReadOn (z : ℕ) (c d : Cursor) : Type 0 where
  stays : d ≡ c → IsReadOn z c d
  headed : c.standing ≡ begun → IsBegun z c.current (Ok d.standing) → d.passed ≡ c.passed → d.current ≡ c.current → IsReadOn z c d

-- ---- a record

-- the name at an RVA, of so many bytes as its length says, or its fault, in a file of z bytes
abbrev pub name_by : ℕ → ℕ → ℕ → ℕ → Result NameRead Fault
name_by z limit rva bytes =
    if rva == 0 then Ok read.None
    else if not (is_inside rva 4 z) then Err (record { kind = NameLengthOutside; offset = rva; size = 4 })
    else if bytes % 2 == 1 then Err (record { kind = NameOdd; offset = rva; size = bytes })
    else if not (is_inside (rva + 4) bytes z) then Err (record { kind = NameUnitsOutside; offset = rva + 4; size = bytes })
    else if nat_lt limit bytes then Ok (read.Long bytes)
    else Ok (read.Units bytes)

-- what is read of a name at an RVA
pub data IsSomeName (z limit rva : ℕ) (r : Result NameRead Fault) : Type 0 where
  told : (bytes : ℕ) → r ≡ name_by z limit rva bytes → IsSomeName z limit rva r
  failed : (fault : Fault) → r ≡ Err fault → IsUnobtained fault.kind → IsSomeName z limit rva r

-- of a record that has no RVA of a name, none is
abbrev pub IsSomeNameOf : ℕ → ℕ → Option ℕ → Result NameRead Fault → Type 0
IsSomeNameOf z limit (Some rva) r = IsSomeName z limit rva r
IsSomeNameOf z limit None r = r ≡ Ok read.None

-- this is record k of entry number e, whose stream is of this kind, in a file of z bytes
pub record IsSomeRecord (z limit : ℕ) (kind : StreamKind) (e k offset : ℕ) (s : Step) : Type 0 where
  pub fields : AnyRecord
  pub kind_is : kind ≡ kind_told fields
  pub name : NameRead
  pub named : IsSomeNameOf z limit (name_rva fields) (Ok name)
  pub step_is : s ≡ step.Record (record { entry = e; index = k; fields = fields; offset = offset; name = name })

-- a fault that stands in the place of such a record
pub data IsRecordFault (z limit : ℕ) (kind : StreamKind) (fault : Fault) : Type 0 where
  of_name : (fields : AnyRecord) → kind ≡ kind_told fields → IsSomeNameOf z limit (name_rva fields) (Err fault) → IsRecordFault z limit kind fault
  failed : IsUnobtained fault.kind → IsRecordFault z limit kind fault

-- ---- answers

-- a fault is told of the current entry, of the record with this index or of all of it, and nothing of it is left
pub record MeetsFault (c : Cursor) (index : Option ℕ) (fault : Fault) (answer : Result (Option Step) ListFault) (d : Cursor) : Type 0 where
  pub f : ListFault
  pub answer_is : answer ≡ Err f
  pub is : IsListFaultOf (c.passed - 1) index fault f
  pub stands : d ≡ record c { standing = through }

module _ (choice : Choice) (entries : List Entry) (z limit : ℕ) where
  -- the Stream item of the next chosen entry was given
  pub record GivesChosenEntry (c : Cursor) (s : Step) (d : Cursor) : Type 0 where
    pub number : ℕ
    pub entry : Entry
    pub first : IsChosenBehind choice entries c.passed number entry
    pub step_is : s ≡ step.Stream (record { entry = number; stream_type = entry.stream_type; location = entry.location })
    pub stands : d ≡ record { passed = number + 1; current = entry; standing = begun }

  -- or there is none
  abbrev pub GivesNextEntry : Cursor → Result (Option Step) ListFault → Cursor → Type 0
  GivesNextEntry c (Ok None) d = NoneChosenBehind choice entries c.passed × (d.standing ≡ through)
  GivesNextEntry c (Ok (Some s)) d = GivesChosenEntry c s d
  GivesNextEntry c (Err f) d = ⊥

  -- the next record of the current entry, of which so many were given and so many are left, was given
  pub record GivesCurrentRecord (c : Cursor) (given left offset : ℕ) (s : Step) (d : Cursor) : Type 0 where
    pub kind : StreamKind
    pub kind_is : kind_of c.current.stream_type ≡ Some kind
    pub is : IsSomeRecord z limit kind (c.passed - 1) given offset s
    pub stands : d ≡ record c { standing = within (given + 1) (left - 1) (offset + bytes_behind s) }

  -- or its name has a fault, or bytes were not obtained
  pub record MeetsRecordFault (c : Cursor) (given : ℕ) (answer : Result (Option Step) ListFault) (d : Cursor) : Type 0 where
    pub kind : StreamKind
    pub kind_is : kind_of c.current.stream_type ≡ Some kind
    pub fault : Fault
    pub is : IsRecordFault z limit kind fault
    pub meets : MeetsFault c (Some given) fault answer d

  abbrev pub GivesNextRecord : Cursor → ℕ → ℕ → ℕ → Result (Option Step) ListFault → Cursor → Type 0
  GivesNextRecord c given left offset (Ok None) d = ⊥
  GivesNextRecord c given left offset (Ok (Some s)) d = GivesCurrentRecord c given left offset s d
  GivesNextRecord c given left offset (Err f) d = MeetsRecordFault c given (Err f) d

  -- the records of the current entry that are left come first, and then the next chosen entry
  abbrev pub GoesOn : Cursor → Standing → Result (Option Step) ListFault → Cursor → Type 0
  GoesOn c through answer d = GivesNextEntry c answer d
  GoesOn c begun answer d = ⊥
  GoesOn c (within given left offset) answer d = (left ≡ 0 → GivesNextEntry c answer d) × (0 < left → GivesNextRecord c given left offset answer d)

  -- what a request is answered with, where it does not repeat what was answered before, and where the listing then stands
  pub data Follows (c : Cursor) (answer : Result (Option Step) ListFault) (d : Cursor) : Type 0 where
    goes_on : GoesOn c c.standing answer d → Follows c answer d
    -- the head of the current entry's stream is read before
    begins : c.standing ≡ begun → (s : Standing) → IsBegun z c.current (Ok s) → GoesOn c s answer d → Follows c answer d
    -- or it has a fault
    refuses : c.standing ≡ begun → (fault : Fault) → IsBegun z c.current (Err fault) → MeetsFault c None fault answer d → Follows c answer d

-- ---- faults

-- what may be told of an entry of a file of z bytes: of its record with this index, or of all of it
abbrev pub IsEntryFault : ℕ → ℕ → Entry → Option ℕ → Fault → Type 0
IsEntryFault z limit e None fault = IsBegun z e (Err fault)
IsEntryFault z limit e (Some k) fault = (kind : StreamKind) × ((kind_of e.stream_type ≡ Some kind) × IsRecordFault z limit kind fault)

-- a listing of a file of z bytes may end with this fault, whatever they are: it is one of some entry. No fault goes by the
-- limit on names.
pub record FitsFile (z : ℕ) (f : ListFault) : Type 0 where
  pub entry : Entry
  pub limit : ℕ
  pub index : Option ℕ
  pub fault : Fault
  pub of_entry : IsEntryFault z limit entry index fault
  pub is : IsListFaultOf f.entry index fault f
