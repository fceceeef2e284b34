-- Streams whose blocks are written record by record.
use Rattle.std.specs.Prelude.{◌≡◌, ℕ, List, [], ⊤}
use Rattle.mdmp_dump.specs.declared.view.Kind.{Kind}
use Rattle.mdmp_dump.specs.declared.view.Kind.TheVariants as kinds
use Rattle.mdmp_dump.specs.Seen.{Seen}
use Rattle.mdmp_dump.specs.Shape.{seen_at}
use Rattle.mdmp_dump.specs.View.{DumpSeen, StreamSeen}

abbrev pub AreOfKind : Kind → List Seen → Type 0
AreOfKind (kinds.Known t) records = ⊤
AreOfKind kind records = records ≡ []

-- a raw or unused stream has no records
abbrev pub RecordsAreKnown : StreamSeen → Type 0
RecordsAreKnown s = AreOfKind s.kind s.records

-- no raw or unused stream of a dump has records
abbrev pub AllAreKnown : DumpSeen → Type 0
AllAreKnown x = (k : ℕ) → RecordsAreKnown (seen_at x k)
