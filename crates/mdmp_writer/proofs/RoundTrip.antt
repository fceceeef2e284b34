-- What is written of a dump lays it out.
use Rattle.std.proofs.Common.{◌≡◌, ℕ, ◌+◌, ◌*◌, ◌^◌, ◌<◌, List, [], ◌∷◌, ◌++◌, length, map, refl, ap, sym, subst, ◌∙◌, arith, length-append, Some, None, Option}
use Rattle.std.specs.Prelude.{Bool, true, false, nat_le, if◌then◌else◌}
use Rattle.std.specs.List.{AllByRecursion as Each}
use Rattle.std.proofs.lemmas.Bool.{or_parts, leb-false}
use Rattle.std.proofs.lemmas.List.{length-map}
use Rattle.std.proofs.lemmas.List.Elements.{recursion_from_All}
use Rattle.mdmp_wire.specs.declared.header.Header.{Header}
use Rattle.mdmp_wire.specs.declared.entry.Entry.{Entry}
use Rattle.mdmp_wire.specs.Header.{header_at, header_bytes, header_at-part}
use Rattle.mdmp_wire.specs.HeaderFault.{minidump_version}
use Rattle.mdmp_wire.specs.Entry.{entry_at, entry_bytes, entry_at-part}
use Rattle.mdmp_lister.specs.declared.choice.Choice.TheVariants.{All}
use Rattle.mdmp_lister.specs.Format.Listing as listing
use Rattle.mdmp_lister.specs.Format.Listing.{Numbered, entries_from, only_chosen, entry_count}
use Rattle.mdmp_dump.specs.declared.dump.Stream.{Stream}
use Rattle.mdmp_dump.specs.declared.dump.Dump.{Dump}
use Rattle.mdmp_dump.specs.Fits.{StreamFits, Fits}
use Rattle.mdmp_dump.specs.LaysOut.{NamesStream, AreStreams, LaysOut}
use Rattle.mdmp_dump.specs.Places.{up}
use Rattle.mdmp_dump.specs.Shape.{StreamShape, body_of, far_of, shape_seen}
use Rattle.mdmp_dump.specs.View.{header_seen, kind_in, records_seen, stream_seen}
use Rattle.mdmp_writer.specs.declared.fault.LayoutFault.TheVariants.{TooLarge}
use Rattle.mdmp_writer.specs.Layout.{block_size, blocks_end, blocks_size, far_size, fars_size, fault_behind, file_size, first_block, first_misnamed, is_misnamed, is_too_large, layout_fault, written_size}
use Rattle.mdmp_writer.specs.Written.{all_padded, block_text, blocks, body_text, directory, written_entry, far_text, far_texts, header_of, padding, parts_of, type_by, written}
use Rattle.mdmp_writer.proofs.Standing.{Stands, stands_whole, stands_first, stands_second, stands_inside, stands_room, stands_record}
use Rattle.mdmp_writer.proofs.Back.{header_back, length-header_bytes, entry_back, length-entry_bytes}
use Rattle.mdmp_writer.proofs.Placing.{length-padding}
use Rattle.mdmp_writer.proofs.ReadBack.{bytes_location_fits, memory_text, shape_in}
use Rattle.mdmp_writer.proofs.Streams.{length-block, length-far, stream_read}

none_chosen : {X : Type 0} (b : Bool) (x : X) (r : Option X) → (if b then Some x else r) ≡ None → (b ≡ false) × (r ≡ None)
none_chosen true x r good = absurd (cc good)
none_chosen false x r good = (refl, good)

all_chosen : (xs : List Numbered) → only_chosen All xs ≡ xs
unfolding only_chosen
all_chosen [] = refl
all_chosen (x ∷ xs) = ap (λ (ys : List Numbered). x ∷ ys) (all_chosen xs)

layout_good : (ss : List StreamShape) (o : Option ℕ) → fault_behind ss o ≡ None → (o ≡ None) × (is_too_large ss ≡ false)
layout_good ss None good = (refl, (none_chosen (is_too_large ss) TooLarge None good).0)
layout_good ss (Some k) good = absurd (cc good)

pub length-directory : (ss : List StreamShape) (at : ℕ) → length (directory ss at) ≡ length ss * 12
unfolding directory
length-directory [] at = refl
length-directory (s ∷ ss) at =
    omega (arith, length-append (entry_bytes (written_entry s at)) (directory ss (at + block_size s)), length-entry_bytes (written_entry s at), length-directory ss (at + block_size s))

module _ {Z : Type 0} where
  -- the shapes of streams
  abbrev shapes : List (Stream Z) → List StreamShape
  shapes ss = map shape_seen (map stream_seen ss)

  -- the streams that are not misnamed
  abbrev AreNamed : List (Stream Z) → Type 0
  AreNamed ss = Each (λ s. is_misnamed (kind_in s) ≡ false) ss

  length-shapes : (ss : List (Stream Z)) → length (shapes ss) ≡ length ss
  length-shapes ss = length-map (map stream_seen ss) shape_seen ∙ length-map ss (stream_seen {Z = Z})

  -- ---- one stream

  block_read : (F : List ℕ) (s : Stream Z) (at far : ℕ) → StreamFits s → is_misnamed (kind_in s) ≡ false → 0 < at → at + block_size (shape_in s) < 2 ^ 32 → far + far_size (shape_in s) < 2 ^ 64
      → Stands F at (block_text (stream_seen s) at far) → Stands F far (far_text (stream_seen s)) → (e : Entry) → e ≡ written_entry (shape_in s) at → NamesStream F e s
  block_read F s at far fits named pos low near there beyond e is =
      let size = body_of (shape_in s) in
      let place = at + up size in
      let b = body_text (stream_seen s) place far in
      let parts = all_padded (parts_of (records_seen s)) in
      let len : length (b ++ padding size) ≡ up size = omega (arith, length-append b (padding size), (stream_read s fits).body place far, length-padding size) in
      let begun = stands_first F at b (padding size) (stands_first F at (b ++ padding size) parts there) in
      let behind = stands_second F at (up size) place (b ++ padding size) parts len refl there in
      let memory = stands_first F far (memory_text (stream_seen s)) (padding (far_of (shape_in s))) beyond in
      let stands = (stream_read s fits).stands F at place far named pos refl (omega (arith, low)) (omega (arith, near)) begun behind memory in
      subst (λ (x : Entry). NamesStream F x s) (sym is) (record { type_is = (stream_read s fits).type_is; stands = stands })

  -- ---- all of them

  pub length-blocks : (ss : List (Stream Z)) (at far : ℕ) → Each StreamFits ss → length (blocks (map stream_seen ss) at far) ≡ blocks_size (shapes ss)
  unfolding blocks blocks_size
  length-blocks [] at far fits = refl
  length-blocks (s ∷ ss) at far fits =
      let next = at + block_size (shape_in s) in
      let beyond = far + far_size (shape_in s) in
      omega (arith, length-append (block_text (stream_seen s) at far) (blocks (map stream_seen ss) next beyond), length-block s at far fits.0, length-blocks ss next beyond fits.1)

  pub length-far_texts : (ss : List (Stream Z)) → Each StreamFits ss → length (far_texts (map stream_seen ss)) ≡ fars_size (shapes ss)
  unfolding far_texts fars_size
  length-far_texts [] fits = refl
  length-far_texts (s ∷ ss) fits = omega (arith, length-append (far_text (stream_seen s)) (far_texts (map stream_seen ss)), length-far s fits.0, length-far_texts ss fits.1)

  streams_read : (F : List ℕ) (ss : List (Stream Z)) (e at far : ℕ) → Each StreamFits ss → AreNamed ss → 0 < at → at + blocks_size (shapes ss) < 2 ^ 32 → far + fars_size (shapes ss) < 2 ^ 64
      → (header_at F 0).stream_directory_rva ≡ 32 → Stands F (32 + 12 * e) (directory (shapes ss) at) → Stands F at (blocks (map stream_seen ss) at far) → Stands F far (far_texts (map stream_seen ss))
      → AreStreams F (entries_from F (length ss) e) ss
  unfolding directory blocks far_texts blocks_size fars_size entries_from
  streams_read F [] e at far fits named pos low near base there begun beyond = tt
  streams_read F (s ∷ ss) e at far fits named pos low near base there begun beyond =
      let shape = shape_in s in
      let entry = written_entry shape at in
      let bytes = entry_bytes entry in
      let rest = directory (shapes ss) (at + block_size shape) in
      let small : type_by (kind_in s) < 2 ^ 32 = omega (arith, (stream_read s fits.0).type_is, (stream_read s fits.0).type_fits) in
      let back = entry_back entry small (bytes_location_fits (body_of shape) at (omega (arith, low))) in
      let place : (header_at F 0).stream_directory_rva + 12 * e ≡ 32 + 12 * e = omega (arith, base) in
      let read : entry_at F (32 + 12 * e) ≡ entry = stands_record entry_at 12 entry_at-part F (32 + 12 * e) bytes entry (length-entry_bytes entry) back (stands_first F (32 + 12 * e) bytes rest there) in
      let named_by : listing.entry_of F e ≡ entry = ap (λ (o : ℕ). entry_at F o) place ∙ read in
      let block = block_text (stream_seen s) at far in
      let others = blocks (map stream_seen ss) (at + block_size shape) (far + far_size shape) in
      let memory = far_text (stream_seen s) in
      let first = block_read F s at far fits.0 named.0 pos (omega (arith, low)) (omega (arith, near)) (stands_first F at block others begun)
      (stands_first F far memory (far_texts (map stream_seen ss)) beyond) (listing.entry_of F e) named_by in
      let later = streams_read F ss (e + 1) (at + block_size shape) (far + far_size shape) fits.1 named.1 (omega (arith, pos)) (omega (arith, low)) (omega (arith, near)) base
      (stands_second F (32 + 12 * e) 12 (32 + 12 * (e + 1)) bytes rest (length-entry_bytes entry) (omega arith) there)
      (stands_second F at (block_size shape) (at + block_size shape) block others (length-block s at far fits.0) refl begun)
      (stands_second F far (far_size shape) (far + far_size shape) memory (far_texts (map stream_seen ss)) (length-far s fits.0) refl beyond) in
      (first, later)

  named_from : (k : ℕ) (ss : List (Stream Z)) → first_misnamed k (shapes ss) ≡ None → AreNamed ss
  unfolding first_misnamed
  named_from k [] good = tt
  named_from k (s ∷ ss) good =
      let parts = none_chosen (is_misnamed (kind_in s)) k (first_misnamed (k + 1) (shapes ss)) good in
      (parts.0, named_from (k + 1) ss parts.1)

  -- ---- the round trip

  -- what is written of a dump lays it out, where nothing keeps it from being written
  pub written_lays_out : (d : Dump Z) → Fits d → layout_fault d ≡ None → LaysOut (written d) All d
  written_lays_out d fits good =
      let F = written d in
      let ss = d.streams in
      let told = shapes ss in
      let count_is : length told ≡ length ss = length-shapes ss in
      let h = header_of (header_seen d) (length told) in
      let at = first_block told in
      let far = blocks_end told in
      let hb = header_bytes h in
      let dir = directory told at in
      let bl = blocks (map stream_seen ss) at far in
      let fr = far_texts (map stream_seen ss) in
      let all_fit = recursion_from_All StreamFits ss fits.streams in
      let layout = layout_good told (first_misnamed 0 told) good in
      let sizes = or_parts (nat_le (2 ^ 32) far) (nat_le (2 ^ 64) (file_size told)) layout.1 in
      let low : far < 2 ^ 32 = leb-false (2 ^ 32) far sizes.0 in
      let near : file_size told < 2 ^ 64 = leb-false (2 ^ 64) (file_size told) sizes.1 in
      let hd_len : length (hb ++ dir) ≡ at = omega (arith, length-append hb dir, length-header_bytes h, length-directory told at) in
      let hdb_len : length (hb ++ dir ++ bl) ≡ far = omega (arith, length-append (hb ++ dir) bl, hd_len, length-blocks ss at far all_fit) in
      let hdb_there = stands_first F 0 (hb ++ dir ++ bl) fr (stands_whole F) in
      let hd_there = stands_first F 0 (hb ++ dir) bl hdb_there in
      let h_there = stands_first F 0 hb dir hd_there in
      let dir_there = stands_second F 0 32 32 hb dir (length-header_bytes h) refl hd_there in
      let bl_there = stands_second F 0 at at (hb ++ dir) bl hd_len (omega arith) hdb_there in
      let fr_there = stands_second F 0 far far (hb ++ dir ++ bl) fr hdb_len (omega arith) (stands_whole F) in
      let back = header_back h (record {
        signature = omega arith;
        version = omega (arith, fits.version_high);
        number_of_streams = omega (arith, low);
        stream_directory_rva = omega arith;
        checksum = fits.checksum;
        time_date_stamp = fits.time;
        flags = fits.flags;
      }) in
      let read : header_at F 0 ≡ h = stands_record header_at 32 header_at-part F 0 hb h (length-header_bytes h) back h_there in
      let version : (header_at F 0).version ≡ minidump_version + 65536 * d.version_high = ap (λ (x : Header). x.version) read in
      let count : (header_at F 0).number_of_streams ≡ length ss = ap (λ (x : Header). x.number_of_streams) read ∙ count_is in
      let base : (header_at F 0).stream_directory_rva ≡ 32 = ap (λ (x : Header). x.stream_directory_rva) read in
      let dir_len : length dir ≡ 12 * length ss = omega (arith, length-directory told at, count_is) in
      let streams = streams_read F ss 0 at far all_fit (named_from 0 ss layout.0) (omega arith) (omega (arith, low)) (omega (arith, near)) base dir_there bl_there fr_there in
      record {
        header = record {
          room = omega (arith, stands_room F 0 hb h_there, length-header_bytes h);
          signature = ap (λ (x : Header). x.signature) read;
          version = omega (arith, version);
          fields = refl;
        };
        version_high = omega (arith, version);
        checksum = ap (λ (x : Header). x.checksum) read;
        time = ap (λ (x : Header). x.time_date_stamp) read;
        flags = ap (λ (x : Header). x.flags) read;
        directory = rw (base, count) (stands_inside F 32 (12 * length ss) dir dir_len dir_there);
        streams = rw (all_chosen (entries_from F (entry_count F) 0), count) streams;
      }

  -- and it has as many bytes as its sizes tell
  pub length-written : (d : Dump Z) → Fits d → length (written d) ≡ written_size d
  length-written d fits =
      let ss = d.streams in
      let told = shapes ss in
      let at = first_block told in
      let far = blocks_end told in
      let h = header_of (header_seen d) (length told) in
      let hb = header_bytes h in
      let dir = directory told at in
      let bl = blocks (map stream_seen ss) at far in
      let fr = far_texts (map stream_seen ss) in
      let all_fit = recursion_from_All StreamFits ss fits.streams in
      omega (
        arith,
        length-append (hb ++ dir ++ bl) fr,
        length-append (hb ++ dir) bl,
        length-append hb dir,
        length-header_bytes h,
        length-directory told at,
        length-blocks ss at far all_fit,
        length-far_texts ss all_fit,
      )
