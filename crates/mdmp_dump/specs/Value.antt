-- The types of a dump's streams, and the dump with some of them.
use Rattle.std.specs.Prelude.{ℕ, List, filter}
use Rattle.mdmp_lister.specs.declared.choice.Choice.TheVariants.{Types}
use Rattle.mdmp_lister.specs.declared.kind.StreamKind.TheVariants as list
use Rattle.mdmp_lister.specs.Format.Kind.{type_of_kind}
use Rattle.mdmp_lister.specs.Format.Listing.{is_chosen}
use Rattle.mdmp_dump.specs.declared.dump.Stream.{Stream}
use Rattle.mdmp_dump.specs.declared.dump.Stream.TheVariants as streams
use Rattle.mdmp_dump.specs.declared.dump.Dump.{Dump}

module _ {Z : Type 0} where
  -- the type that a stream has in the directory
  abbrev pub type_of : Stream Z → ℕ
  type_of streams.Unused = 0
  type_of (streams.Threads threads) = type_of_kind list.Threads
  type_of (streams.Modules images) = type_of_kind list.Modules
  type_of (streams.Memory ranges) = type_of_kind list.Memory
  type_of (streams.Exception exception) = type_of_kind list.Exception
  type_of (streams.System system) = type_of_kind list.System
  type_of (streams.Memory64 ranges) = type_of_kind list.Memory64
  type_of (streams.Unloaded images) = type_of_kind list.Unloaded
  type_of (streams.MemoryInfo regions) = type_of_kind list.MemoryInfo
  type_of (streams.ThreadNames threads) = type_of_kind list.ThreadNames
  type_of (streams.Raw t bytes) = t

  -- the dump with only the streams of some types, in order
  abbrev pub select : Dump Z → List ℕ → Dump Z
  select d types = record d { streams = filter (λ s. is_chosen (Types types) (type_of s)) d.streams }
