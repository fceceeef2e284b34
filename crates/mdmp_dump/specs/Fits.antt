-- When the numbers of a dump fit their fields, as those of a program's dump do.
use Rattle.std.specs.Prelude.{◌<◌, ◌^◌, All}
use Rattle.mdmp_dump.specs.declared.dump.Dump.{Dump}
use Rattle.mdmp_dump.specs.declared.dump.Stream.{Stream}
use Rattle.mdmp_dump.specs.declared.dump.Stream.TheVariants as streams
use Rattle.mdmp_dump.specs.Exception.{ExceptionFits}
use Rattle.mdmp_dump.specs.Memory.{MemoryFits}
use Rattle.mdmp_dump.specs.Memory64.{Memory64Fits}
use Rattle.mdmp_dump.specs.MemoryInfo.{MemoryInfoFits}
use Rattle.mdmp_dump.specs.Module.{ModuleFits}
use Rattle.mdmp_dump.specs.System.{SystemFits}
use Rattle.mdmp_dump.specs.Thread.{ThreadFits}
use Rattle.mdmp_dump.specs.ThreadName.{ThreadNameFits}
use Rattle.mdmp_dump.specs.Unloaded.{UnloadedFits}

module _ {Z : Type 0} where
  abbrev pub StreamFits : Stream Z → Type 0
  StreamFits streams.Unused = Unit {0}
  StreamFits (streams.Threads xs) = All ThreadFits xs
  StreamFits (streams.Modules xs) = All ModuleFits xs
  StreamFits (streams.Memory xs) = All MemoryFits xs
  StreamFits (streams.Exception x) = ExceptionFits x
  StreamFits (streams.System x) = SystemFits x
  StreamFits (streams.Memory64 xs) = All Memory64Fits xs
  StreamFits (streams.Unloaded xs) = All UnloadedFits xs
  StreamFits (streams.MemoryInfo xs) = All MemoryInfoFits xs
  StreamFits (streams.ThreadNames xs) = All ThreadNameFits xs
  StreamFits (streams.Raw t bytes) = t < 2 ^ 32

  pub record Fits (d : Dump Z) : Type 0 where
    pub version_high : d.version_high < 2 ^ 16
    pub checksum : d.checksum < 2 ^ 32
    pub time : d.time < 2 ^ 32
    pub flags : d.flags < 2 ^ 64
    pub streams : All StreamFits d.streams
