-- When a file lays out a dump.
use Rattle.std.specs.Prelude.{◌≡◌, ℕ, ◌+◌, ◌*◌, ◌/◌, List, [], ◌∷◌, length, None, Ok, IsTrue, IsFalse, ◌==◌}
use Rattle.mdmp_source.specs.Range.{is_inside}
use Rattle.mdmp_source.specs.declared.location.Location.{Location}
use Rattle.mdmp_wire.specs.declared.entry.Entry.{Entry}
use Rattle.mdmp_wire.specs.Number.{array_at}
use Rattle.mdmp_wire.specs.Header.{header_at}
use Rattle.mdmp_wire.specs.HeaderFault.{HasHeader}
use Rattle.mdmp_wire.specs.MemoryInfo.{memory_info_at}
use Rattle.mdmp_lister.specs.declared.choice.Choice.{Choice}
use Rattle.mdmp_lister.specs.declared.kind.StreamKind.{StreamKind}
use Rattle.mdmp_lister.specs.declared.kind.StreamKind.TheVariants as kinds
use Rattle.mdmp_lister.specs.declared.shape.Shape.{Shape}
use Rattle.mdmp_lister.specs.Format.Kind.{kind_of}
use Rattle.mdmp_lister.specs.Format.Shape.{shape_of}
use Rattle.mdmp_lister.specs.Format.Listing.{Numbered, chosen, entry_count}
use Rattle.mdmp_dump.specs.declared.dump.Stream.{Stream}
use Rattle.mdmp_dump.specs.declared.dump.Stream.TheVariants as streams
use Rattle.mdmp_dump.specs.declared.dump.Dump.{Dump}
use Rattle.mdmp_dump.specs.Exception.{IsException}
use Rattle.mdmp_dump.specs.Memory.{IsMemory}
use Rattle.mdmp_dump.specs.Memory64.{IsMemory64}
use Rattle.mdmp_dump.specs.Module.{IsModule}
use Rattle.mdmp_dump.specs.System.{IsSystem}
use Rattle.mdmp_dump.specs.Thread.{IsThread}
use Rattle.mdmp_dump.specs.ThreadName.{IsThreadName}
use Rattle.mdmp_dump.specs.Unloaded.{IsUnloaded}
use Rattle.mdmp_dump.specs.Value.{type_of}

-- ---- records

-- each of these values is that of the record with its index, from index k on: the first record stands at `at`
abbrev pub EachFrom : {X : Type 0} → (ℕ → ℕ → X → Type 0) → ℕ → ℕ → ℕ → List X → Type 0
EachFrom IsAt at stride k [] = Unit {0}
EachFrom IsAt at stride k (x ∷ xs) = IsAt k (at + k * stride) x × EachFrom IsAt at stride (k + 1) xs

-- the stream lies inside; its shape has no fault, and it has as many records of this kind as it counts
pub record HasRecords {X : Type 0} (F : List ℕ) (at : Location) (kind : StreamKind) (IsAt : ℕ → ℕ → X → Type 0) (xs : List X) : Type 0 where
  pub inside : IsTrue (is_inside at.rva at.size (length F))
  pub shape : Shape
  pub shaped : shape_of F at.rva at.size kind ≡ Ok shape
  pub count : shape.count ≡ length xs
  pub each : EachFrom IsAt (at.rva + shape.first) shape.stride 0 xs

-- a stream of a type whose records are not known, inside the file
pub record HasBytes (F : List ℕ) (at : Location) (t : ℕ) (bytes : List ℕ) : Type 0 where
  pub used : IsFalse (t == 0)
  pub opaque : kind_of t ≡ None
  pub inside : IsTrue (is_inside at.rva at.size (length F))
  pub bytes_are : array_at F at.rva at.size ≡ bytes

module _ {Z : Type 0} where
  -- ---- streams

  -- what stands at the location is the stream
  abbrev pub StandsAt : List ℕ → Location → Stream Z → Type 0
  StandsAt F at streams.Unused = Unit {0}
  StandsAt F at (streams.Threads xs) = HasRecords F at kinds.Threads (λ k o. IsThread F o) xs
  StandsAt F at (streams.Modules xs) = HasRecords F at kinds.Modules (λ k o. IsModule F o) xs
  StandsAt F at (streams.Memory xs) = HasRecords F at kinds.Memory (λ k o. IsMemory F o) xs
  StandsAt F at (streams.Exception x) = HasRecords F at kinds.Exception (λ k o. IsException F o) (x ∷ [])
  StandsAt F at (streams.System x) = HasRecords F at kinds.System (λ k o. IsSystem F o) (x ∷ [])
  StandsAt F at (streams.Memory64 xs) = HasRecords F at kinds.Memory64 (λ k o. IsMemory64 F at.rva k o) xs
  StandsAt F at (streams.Unloaded xs) = HasRecords F at kinds.Unloaded (λ k o. IsUnloaded F o) xs
  StandsAt F at (streams.MemoryInfo xs) = HasRecords F at kinds.MemoryInfo (λ k o x. memory_info_at F o ≡ x) xs
  StandsAt F at (streams.ThreadNames xs) = HasRecords F at kinds.ThreadNames (λ k o. IsThreadName F o) xs
  StandsAt F at (streams.Raw t bytes) = HasBytes F at t bytes

  -- the entry names the stream
  pub record NamesStream (F : List ℕ) (e : Entry) (s : Stream Z) : Type 0 where
    pub type_is : e.stream_type ≡ type_of s
    pub stands : StandsAt F e.location s

  -- the entries name the streams, one each
  abbrev pub AreStreams : List ℕ → List Numbered → List (Stream Z) → Type 0
  AreStreams F [] [] = Unit {0}
  AreStreams F (x ∷ xs) (s ∷ ss) = NamesStream F x.entry s × AreStreams F xs ss
  AreStreams F [] (s ∷ ss) = ⊥
  AreStreams F (x ∷ xs) [] = ⊥

  -- ---- the whole

  -- the chosen entries of F are those of the dump. What they name may overlap.
  pub record LaysOut (F : List ℕ) (choice : Choice) (d : Dump Z) : Type 0 where
    pub header : HasHeader F (header_at F 0)
    pub version_high : (header_at F 0).version / 65536 ≡ d.version_high
    pub checksum : (header_at F 0).checksum ≡ d.checksum
    pub time : (header_at F 0).time_date_stamp ≡ d.time
    pub flags : (header_at F 0).flags ≡ d.flags
    pub directory : IsTrue (is_inside (header_at F 0).stream_directory_rva (12 * entry_count F) (length F))
    pub streams : AreStreams F (chosen F choice) d.streams
