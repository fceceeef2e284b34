-- The numbers that bound a listing. Repeats count.
use Rattle.std.specs.Prelude.{ℕ, ◌&&◌, List, [], ◌∷◌, ◌++◌, length, map, filter, sum, sum_by, Option, Some, None, Result, Ok, Err, Bool, true, false}
use Rattle.mdmp_source.specs.Range.{is_inside}
use Rattle.mdmp_wire.specs.declared.entry.Entry.{Entry}
use Rattle.mdmp_lister.specs.declared.choice.Choice.{Choice}
use Rattle.mdmp_lister.specs.declared.kind.StreamKind.{StreamKind}
use Rattle.mdmp_lister.specs.declared.fault.Fault.{Fault}
use Rattle.mdmp_lister.specs.declared.fault.FaultKind.{FaultKind}
use Rattle.mdmp_lister.specs.declared.fault.FaultKind.TheVariants.{NameLengthOutside, NameOdd, NameUnitsOutside, Source, Budget}
use Rattle.mdmp_lister.specs.declared.fault.ListFault.{ListFault}
use Rattle.mdmp_lister.specs.declared.name.Name.{Name}
use Rattle.mdmp_lister.specs.declared.name.Name.TheVariants as names
use Rattle.mdmp_lister.specs.declared.item.Item.{Item}
use Rattle.mdmp_lister.specs.Format.Kind.{kind_of, is_known, lists_ranges}
use Rattle.mdmp_lister.specs.Format.Shape.{record_count}
use Rattle.mdmp_lister.specs.Format.Listing.{Numbered, Run, chosen}
use Rattle.mdmp_lister.specs.Format.Summary.{summary_of}

-- ---- bytes

-- the entry is of a known type, and its location lies inside a file of `size` bytes
abbrev pub is_listed : ℕ → Entry → Bool
is_listed size e = is_known e.stream_type && is_inside e.location.rva e.location.size size

-- those of some entries whose records are read
abbrev pub listed_entries : ℕ → List Numbered → List Numbered
listed_entries size entries = filter (λ x. is_listed size x.entry) entries

abbrev pub sizes_of : List Numbered → List ℕ
sizes_of entries = map (λ x. x.entry.location.size) entries

-- the sizes of the chosen streams of known types that lie inside
abbrev pub listed_sizes : List ℕ → Choice → List ℕ
listed_sizes F choice = sizes_of (listed_entries (length F) (chosen F choice))

-- how many bytes they have together
abbrev pub listed_bytes : List ℕ → Choice → ℕ
listed_bytes F choice = sum (listed_sizes F choice)

-- ---- ranges

-- a count, or none where there is a fault
abbrev pub good_count : Result ℕ Fault → ℕ
good_count (Ok count) = count
good_count (Err f) = 0

-- how many ranges an entry gives whose records are ranges or not: those of one that lies inside and has no fault
abbrev pub ranges_if : List ℕ → Entry → Bool → ℕ
ranges_if F e true = good_count (record_count F e)
ranges_if F e false = 0

-- how many an entry of this kind gives
abbrev pub ranges_in : List ℕ → Entry → Option StreamKind → ℕ
ranges_in F e (Some kind) = ranges_if F e (lists_ranges kind)
ranges_in F e None = 0

-- how many ranges some entries give together
abbrev pub ranges_of_all : List ℕ → List Numbered → ℕ
ranges_of_all F entries = sum_by (λ x. ranges_in F x.entry (kind_of x.entry.stream_type)) entries

-- how many ranges the chosen memory lists have
abbrev pub range_count : List ℕ → Choice → ℕ
range_count F choice = ranges_of_all F (chosen F choice)

-- ---- names

-- 1 for an item that has a name, long or not
abbrev pub named_once : Name → ℕ
named_once names.None = 0
named_once _ = 1

abbrev pub names_of : Item → ℕ
names_of item = named_once (summary_of item).name

-- 1 for the fault of a name
abbrev pub faulty_name : FaultKind → ℕ
faulty_name NameLengthOutside = 1
faulty_name NameOdd = 1
faulty_name NameUnitsOutside = 1
faulty_name _ = 0

-- the same, and 1 for a fault of bytes that were not obtained, which may stand in the place of a name
abbrev pub maybe_name : FaultKind → ℕ
maybe_name (Source f) = 1
maybe_name Budget = 1
maybe_name kind = faulty_name kind

-- what a lister answers to a request for the next item: an item, the end or a fault
abbrev pub NextAnswer : Type 0
NextAnswer = Result (Option Item) ListFault

-- how many names an answer reaches at least. A fault that is answered again is no answer of its own
abbrev pub names_in : NextAnswer → ℕ
names_in (Ok (Some item)) = names_of item
names_in (Ok None) = 0
names_in (Err f) = faulty_name f.kind

-- and how many at most
abbrev pub most_names_in : NextAnswer → ℕ
most_names_in (Err f) = maybe_name f.kind
most_names_in answer = names_in answer

-- how many names some answers have reached, each fault once, and none of them one of bytes that were not obtained
abbrev pub names_reached : List NextAnswer → ℕ
names_reached answers = sum_by names_in answers

-- the answers by which a run is given
abbrev pub end_of : Option ListFault → NextAnswer
end_of (Some f) = Err f
end_of None = Ok None

abbrev pub answers_of : Run → List NextAnswer
answers_of run = map (λ x. Ok (Some x)) run.items ++ end_of run.fault ∷ []
