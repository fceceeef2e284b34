-- A view of a file whose content may be known: what it tells of its streams, and how a stream begins.
use Rattle.std.proofs.Common.{◌≡◌, ◌∙◌, ◌≤◌, ◌<◌, ◌-◌, ◌/◌, ◌^◌, ℕ, List, [], ◌∷◌, length, get_or, Option, Some, None, if◌then◌else◌, refl, ap, sym, subst, arith}
use Rattle.std.proofs.Math.ListN.{get_or-map, length-map}
use Rattle.mdmp_wire.specs.declared.header.Header.{Header}
use Rattle.mdmp_wire.specs.Header.{header_at}
use Rattle.mdmp_lister.specs.declared.choice.Choice.{Choice}
use Rattle.mdmp_lister.specs.Format.Listing.{Numbered, chosen}
use Rattle.mdmp_dump.specs.declared.dump.Dump.{Dump}
use Rattle.mdmp_dump.specs.declared.dump.Stream.{Stream}
use Rattle.mdmp_dump.specs.declared.dump.Stream.TheVariants as streams
use Rattle.mdmp_dump.specs.EntryWalk.{WalkState, chosen_entry, kind_by, no_entry, pass_cost}
use Rattle.mdmp_dump.specs.FileView.{IsViewed, cursor_by, file_shape, first_pass, header_fields, known_shape, pass_cursor, shape_by, stream_in, stream_of}
use Rattle.mdmp_dump.specs.InFile.{dump_in, stream_named}
use Rattle.mdmp_dump.specs.Shape.{StreamCursor, ViewShape, StreamShape, all_bytes, begun, body_by, body_of, cost_at, is_far, place_at, raw_sizes, rooms, seen_at, shape_seen, stream_at, told, unused_seen, value_cursor}
use Rattle.mdmp_dump.specs.ShapeLaws.{held}
use Rattle.mdmp_dump.specs.View.{DumpSeen, StreamSeen, dump_seen, stream_seen}
use Rattle.mdmp_dump.proofs.FileViews.{begun_is, cost_is, place_is, stream_is, streams_count}
use Rattle.mdmp_dump.proofs.Viewed.{kind_is, raw_is, records_are}

-- a fact of unknown content, and of each that is known, is one of any
pub by_content : (P : Option (List ℕ) → Type 0) (c : Option (List ℕ)) → P None → ((F : List ℕ) → c ≡ Some F → P (Some F)) → P c
by_content P None none some = none
by_content P (Some F) none some = some F refl

-- ---- the streams of a dump

module _ (Z : Type 0) (F : List ℕ) (choice : Choice) where
  -- the stream of an entry is that of the dump
  stream_in_dump : (k : ℕ) → get_or (dump_in {Z = Z} F choice).streams k streams.Unused ≡ stream_named F (get_or (chosen F choice) k no_entry).entry
  unfolding dump_in
  stream_in_dump k = get_or-map (λ (x : Numbered). stream_named {Z = Z} F x.entry) (chosen F choice) k no_entry

  streams_in_dump : length (dump_in {Z = Z} F choice).streams ≡ length (chosen F choice)
  unfolding dump_in
  streams_in_dump = length-map (chosen F choice) (λ (x : Numbered). stream_named {Z = Z} F x.entry)

module _ {Z : Type 0} (d : Dump Z) (w : WalkState) (counts : List ℕ) (k : ℕ) where
  seen_in_dump : seen_at (dump_seen d) k ≡ stream_seen (get_or d.streams k streams.Unused)
  seen_in_dump = get_or-map (λ (s : Stream Z). stream_seen s) d.streams k streams.Unused

  shape_in_dump : stream_at (known_shape d w counts) k ≡ shape_seen (stream_seen (get_or d.streams k streams.Unused))
  unfolding rooms all_bytes
  shape_in_dump = get_or-map shape_seen (dump_seen d).streams k unused_seen ∙ ap shape_seen seen_in_dump

-- the cursor of a stream that is begun
begun_seen : StreamShape → StreamSeen → ℕ → StreamCursor
begun_seen t s at = record {
  kind = t.kind;
  records = t.records;
  room = if is_far t.kind then 0 else t.parts;
  far = if is_far t.kind then t.parts else 0;
  bytes = t.bytes;
  seen = Some s.records;
  sizes = raw_sizes t.raw;
  parts = Some (s.raw ∷ []);
  at = at;
}

known_begun : {Z : Type 0} (d : Dump Z) (w : WalkState) (counts : List ℕ) (k at : ℕ) → at ≡ place_at (known_shape d w counts) k → record (value_cursor (get_or d.streams k streams.Unused) 0) { at = at } ≡ begun (known_shape d w counts) k
unfolding begun_seen
known_begun d w counts k at place =
    let stands = place_at (known_shape d w counts) k in
    sym (ap (λ (t : StreamShape). begun_seen t (seen_at (dump_seen d) k) stands) (shape_in_dump d w counts k)
    ∙ ap (λ (s : StreamSeen). begun_seen (shape_seen (stream_seen (get_or d.streams k streams.Unused))) s stands) (seen_in_dump d w counts k)
    ∙ ap (begun_seen (shape_seen (stream_seen (get_or d.streams k streams.Unused))) (stream_seen (get_or d.streams k streams.Unused))) (sym place))

header_of_dump : (Z : Type 0) (F : List ℕ) (choice : Choice) → header_fields (header_at F 0) ≡ (dump_seen (dump_in {Z = Z} F choice)).header
unfolding dump_in
header_of_dump Z F choice = refl

-- ---- a view

module _ (Z : Type 0) (limit : ℕ) (w : WalkState) (counts rooms : List ℕ) (counted : length counts ≡ length w.chosen) (roomed : length rooms ≡ length w.chosen)
    (known : (F : List ℕ) → w.source.store.content ≡ Some F → IsViewed Z F limit w counts rooms) where
  abbrev shape_in : Option (List ℕ) → ViewShape
  shape_in c = shape_by Z c w counts rooms

  pub streams_are : length (file_shape Z w counts rooms).streams ≡ length w.chosen
  streams_are = by_content (λ c. length (shape_in c).streams ≡ length w.chosen) w.source.store.content
      (streams_count w.chosen counts rooms counted roomed)
      (λ F is.
      let v = known F is in
      length-map (dump_seen (dump_in {Z = Z} F w.choice)).streams shape_seen
      ∙ length-map (dump_in {Z = Z} F w.choice).streams (λ (s : Stream Z). stream_seen s)
      ∙ streams_in_dump Z F w.choice ∙ ap (λ (xs : List Numbered). length xs) (sym v.chosen_are))

  -- its header
  pub header_told : (h : Header) (x : DumpSeen) → h ≡ w.header → (file_shape Z w counts rooms).seen ≡ Some x
      → record { version_high = h.version / 65536; checksum = h.checksum; time = h.time_date_stamp; flags = h.flags } ≡ x.header
  header_told h x same = by_content (λ c. (shape_in c).seen ≡ Some x → header_fields h ≡ x.header) w.source.store.content
      (λ none. absurd (cc))
      (λ F is seen.
      let v = known F is in
      ap header_fields (same ∙ v.header) ∙ header_of_dump Z F w.choice ∙ ap (λ (y : DumpSeen). y.header) (ap (held x) seen))

  -- which is that of its shape
  pub header_of_shape : (h : Header) → h ≡ w.header → header_fields h ≡ (file_shape Z w counts rooms).header
  header_of_shape h same = by_content (λ c. header_fields h ≡ (shape_in c).header) w.source.store.content
      (ap header_fields same)
      (λ F is.
      let v = known F is in
      ap header_fields (same ∙ v.header) ∙ header_of_dump Z F w.choice)

  pub inside_view : (k : ℕ) → k < length (file_shape Z w counts rooms).streams → k < length w.chosen
  inside_view k inside = subst (λ (n : ℕ). k < n) streams_are inside

  module _ (k : ℕ) (inside : k < length w.chosen) where
    stream_known : (F : List ℕ) → w.source.store.content ≡ Some F → stream_at (shape_in (Some F)) k ≡ shape_seen (stream_seen (stream_of {Z = Z} F w k))
    stream_known F is =
        let v = known F is in
        shape_in_dump (dump_in {Z = Z} F w.choice) w counts k
        ∙ ap (λ (s : Stream Z). shape_seen (stream_seen s)) (stream_in_dump Z F w.choice k ∙ ap (λ (xs : List Numbered). stream_named {Z = Z} F (get_or xs k no_entry).entry) (sym v.chosen_are))

    pub kind_told : kind_by (chosen_entry w k).entry.stream_type ≡ (stream_at (file_shape Z w counts rooms) k).kind
    kind_told = by_content (λ c. kind_by (chosen_entry w k).entry.stream_type ≡ (stream_at (shape_in c) k).kind) w.source.store.content
        (sym (ap (λ (t : StreamShape). t.kind) (stream_is w.chosen counts rooms k counted roomed inside)))
        (λ F is.
        let v = known F is in
        sym (ap (λ (t : StreamShape). t.kind) (stream_known F is) ∙ kind_is Z F (chosen_entry w k) (get_or counts k 0) (v.counted k inside)))

    pub body_told : told (body_of (stream_in (chosen_entry w k) (get_or counts k 0) (get_or rooms k 0))) ≡ told (body_of (stream_at (file_shape Z w counts rooms) k))
    body_told = by_content (λ c. told (body_of (stream_in (chosen_entry w k) (get_or counts k 0) (get_or rooms k 0))) ≡ told (body_of (stream_at (shape_in c) k))) w.source.store.content
        (sym (ap (λ (t : StreamShape). told (body_of t)) (stream_is w.chosen counts rooms k counted roomed inside)))
        (λ F is.
        let v = known F is in
        let x = chosen_entry w k in
        let n = get_or counts k 0 in
        let counts_are = v.counted k inside in
        sym (ap (λ (t : StreamShape). told (body_of t)) (stream_known F is)
        ∙ (λ i. told (body_by (kind_is Z F x n counts_are i) (records_are Z F x n counts_are i) (raw_is Z F x n counts_are i)))))

    pub room_is_told : get_or rooms k 0 ≤ 2 ^ 64 - 1 → get_or rooms k 0 ≡ told (stream_at (file_shape Z w counts rooms) k).parts
    room_is_told most = by_content (λ c. get_or rooms k 0 ≡ told (stream_at (shape_in c) k).parts) w.source.store.content
        ((let h : get_or rooms k 0 ≡ told (get_or rooms k 0) = omega (arith, most) in h) ∙ sym (ap (λ (t : StreamShape). told t.parts) (stream_is w.chosen counts rooms k counted roomed inside)))
        (λ F is.
        let v = known F is in
        v.roomed k inside ∙ sym (ap (λ (t : StreamShape). told t.parts) (stream_known F is)))

    pub cost_told : cost_at (file_shape Z w counts rooms) k ≡ pass_cost (chosen_entry w k).entry (get_or counts k 0)
    cost_told = by_content (λ c. cost_at (shape_in c) k ≡ pass_cost (chosen_entry w k).entry (get_or counts k 0)) w.source.store.content
        (cost_is w.chosen counts k counted inside) (λ F is. cost_is w.chosen counts k counted inside)

    -- a pass that begins
    pub pass_begins : (v : WalkState) (n r : ℕ) → v.source.store.content ≡ w.source.store.content → v.chosen ≡ w.chosen → v.choice ≡ w.choice → n ≡ get_or counts k 0 → r ≡ get_or rooms k 0
        → pass_cursor Z v (first_pass w k n r) ≡ begun (file_shape Z w counts rooms) k
    pass_begins v n r content chosen_same choice_same count room =
        subst (λ (c : Option (List ℕ)). cursor_by Z c v (first_pass w k n r) ≡ begun (file_shape Z w counts rooms) k) (sym content)
        (by_content (λ c. cursor_by Z c v (first_pass w k n r) ≡ begun (shape_in c) k) w.source.store.content
        (begun_is w v counts rooms k n r chosen_same counted roomed inside count room)
        (λ F is.
        let u = known F is in
        let at = (chosen_entry w k).entry.location.rva in
        ap (λ (xs : List Numbered). record (value_cursor (stream_named {Z = Z} F (get_or xs k no_entry).entry) 0) { at = at }) (chosen_same ∙ u.chosen_are)
        ∙ ap (λ (s : Stream Z). record (value_cursor s 0) { at = at }) (sym (stream_in_dump Z F w.choice k))
        ∙ known_begun (dump_in {Z = Z} F w.choice) w counts k at (place_is w.chosen k)))

    -- where its stream stands
    pub place_told : (chosen_entry w k).entry.location.rva ≡ place_at (file_shape Z w counts rooms) k
    place_told = by_content (λ c. (chosen_entry w k).entry.location.rva ≡ place_at (shape_in c) k) w.source.store.content (place_is w.chosen k) (λ F is. place_is w.chosen k)
