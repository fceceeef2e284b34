-- Each stream is read of its block again.
use Rattle.std.proofs.Common.{◌≡◌, ℕ, ◌+◌, ◌++◌, length, arith, length-append}
use Rattle.mdmp_dump.specs.declared.dump.Stream.{Stream}
use Rattle.mdmp_dump.specs.declared.dump.Stream.TheVariants as streams
use Rattle.mdmp_dump.specs.Fits.{StreamFits}
use Rattle.mdmp_dump.specs.Places.{up}
use Rattle.mdmp_dump.specs.Shape.{body_of, far_of}
use Rattle.mdmp_dump.specs.View.{records_seen, stream_seen}
use Rattle.mdmp_writer.specs.Layout.{block_size, far_size}
use Rattle.mdmp_writer.specs.Written.{all_padded, block_text, body_text, far_text, padding, parts_of}
use Rattle.mdmp_writer.proofs.ReadBack.{IsReadBack, memory_text, shape_in}
use Rattle.mdmp_writer.proofs.Placing.{length-padding}
use Rattle.mdmp_writer.proofs.Forms.Exception.{exception_read}
use Rattle.mdmp_writer.proofs.Forms.Memory.{memory_read}
use Rattle.mdmp_writer.proofs.Forms.Memory64.{memory64_read}
use Rattle.mdmp_writer.proofs.Forms.MemoryInfo.{memory_info_read}
use Rattle.mdmp_writer.proofs.Forms.Module.{modules_read}
use Rattle.mdmp_writer.proofs.Forms.Raw.{raw_read, unused_read}
use Rattle.mdmp_writer.proofs.Forms.System.{system_read}
use Rattle.mdmp_writer.proofs.Forms.Thread.{threads_read}
use Rattle.mdmp_writer.proofs.Forms.ThreadName.{thread_names_read}
use Rattle.mdmp_writer.proofs.Forms.Unloaded.{unloaded_read}

module _ {Z : Type 0} where
  pub stream_read : (s : Stream Z) → StreamFits s → IsReadBack s
  stream_read streams.Unused fits = unused_read
  stream_read (streams.Threads xs) fits = threads_read xs fits
  stream_read (streams.Modules xs) fits = modules_read xs fits
  stream_read (streams.Memory xs) fits = memory_read xs fits
  stream_read (streams.Exception x) fits = exception_read x fits
  stream_read (streams.System x) fits = system_read x fits
  stream_read (streams.Memory64 xs) fits = memory64_read xs fits
  stream_read (streams.Unloaded xs) fits = unloaded_read xs fits
  stream_read (streams.MemoryInfo xs) fits = memory_info_read xs fits
  stream_read (streams.ThreadNames xs) fits = thread_names_read xs fits
  stream_read (streams.Raw t bytes) fits = raw_read t bytes fits

  -- its block takes the room that its shape tells
  pub length-block : (s : Stream Z) (at far : ℕ) → StreamFits s → length (block_text (stream_seen s) at far) ≡ block_size (shape_in s)
  length-block s at far fits =
      let size = body_of (shape_in s) in
      let b = body_text (stream_seen s) (at + up size) far in
      let parts = all_padded (parts_of (records_seen s)) in
      omega (arith, length-append (b ++ padding size) parts, length-append b (padding size), (stream_read s fits).body (at + up size) far, length-padding size, (stream_read s fits).behind)

  -- and so does its 64-bit memory
  pub length-far : (s : Stream Z) → StreamFits s → length (far_text (stream_seen s)) ≡ far_size (shape_in s)
  length-far s fits =
      let size = far_of (shape_in s) in
      omega (arith, length-append (memory_text (stream_seen s)) (padding size), (stream_read s fits).memory, length-padding size)
