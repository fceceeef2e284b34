-- A stream whose content is known, its shape and its block.
use Rattle.std.proofs.Common.{◌≡◌, ◌+◌, ◌*◌, ℕ, zero, suc, List, [], ◌∷◌, ◌++◌, length, map, get_or, ap, sym, subst, refl, ◌∙◌, append-nil, Option, Some, option_map, Bool, false, if◌then◌else◌}
use Rattle.std.proofs.Math.ListN.{get_or-map}
use Rattle.mdmp_lister.specs.declared.kind.StreamKind.{StreamKind}
use Rattle.mdmp_lister.specs.Format.Kind.{kind_of}
use Rattle.mdmp_dump.specs.declared.dump.Dump.{Dump}
use Rattle.mdmp_dump.specs.declared.dump.Stream.{Stream}
use Rattle.mdmp_dump.specs.declared.dump.Stream.TheVariants as streams
use Rattle.mdmp_dump.specs.declared.view.Kind.{Kind}
use Rattle.mdmp_dump.specs.declared.view.Kind.TheVariants as kinds
use Rattle.mdmp_dump.specs.Places.{up}
use Rattle.mdmp_dump.specs.Seen.{Seen}
use Rattle.mdmp_dump.specs.Shape.{ViewShape, StreamShape, begun, body_of, head_of, is_far, row_of, seen_at, shape_seen, stream_at, unused_seen, unused_shape}
use Rattle.mdmp_dump.specs.Shape as shape
use Rattle.mdmp_dump.specs.View.{DumpSeen, StreamSeen, dump_seen, stream_seen}
use Rattle.mdmp_writer.specs.Block.{AreOfKind, RecordsAreKnown}
use Rattle.mdmp_writer.specs.Written.{all_padded, block_text, body_text_by, far_text, head_by_kind, head_text, padded, padding, parts_of, ranges_text, rows}
use Rattle.mdmp_writer.proofs.Padded.{parts_none}

-- ---- shapes

pub known_stream : (s : ViewShape) (x : DumpSeen) (k : ℕ) → s.streams ≡ map shape_seen x.streams → stream_at s k ≡ shape_seen (seen_at x k)
unfolding shape.rooms shape.all_bytes
known_stream s x k e = ap (λ (ss : List StreamShape). get_or ss k unused_shape) e ∙ get_or-map shape_seen x.streams k unused_seen

pub begun_parts : (s : ViewShape) (x : DumpSeen) (k : ℕ) → s.seen ≡ Some x → (begun s k).parts ≡ Some ((seen_at x k).raw ∷ [])
begun_parts s x k known = ap (λ (o : Option DumpSeen). option_map (λ (x : DumpSeen). (seen_at x k).raw ∷ []) o) known

pub begun_seen : (s : ViewShape) (x : DumpSeen) (k : ℕ) → s.seen ≡ Some x → (begun s k).seen ≡ Some (seen_at x k).records
begun_seen s x k known = ap (λ (o : Option DumpSeen). option_map (λ (x : DumpSeen). (seen_at x k).records) o) known

-- so many records
pub known_count : (s : ViewShape) (x : DumpSeen) (k n : ℕ) → s.streams ≡ map shape_seen x.streams → n ≡ (stream_at s k).records → n ≡ length (seen_at x k).records
known_count s x k n e told = told ∙ ap (λ (t : StreamShape). t.records) (known_stream s x k e)

pub known_raw : (s : ViewShape) (x : DumpSeen) (k n : ℕ) → s.streams ≡ map shape_seen x.streams → n ≡ (stream_at s k).raw → n ≡ length (seen_at x k).raw
known_raw s x k n e told = told ∙ ap (λ (t : StreamShape). t.raw) (known_stream s x k e)

pub known_kind : (s : ViewShape) (x : DumpSeen) (k : ℕ) (kind : Kind) → s.streams ≡ map shape_seen x.streams → (stream_at s k).kind ≡ kind → (seen_at x k).kind ≡ kind
known_kind s x k kind e told = sym (ap (λ (t : StreamShape). t.kind) (known_stream s x k e)) ∙ told

-- the size of a body by its kind
pub known_size : (s : StreamShape) (t : ℕ) → s.kind ≡ kinds.Known t → body_of s ≡ head_of t + s.records * row_of t
known_size s t is = ap (λ (o : Kind). shape.body_by o s.records s.raw) is

pub raw_size : (s : StreamShape) (t : ℕ) → s.kind ≡ kinds.Raw t → body_of s ≡ s.raw
raw_size s t is = ap (λ (o : Kind). shape.body_by o s.records s.raw) is

-- ---- blocks

-- a block by a kind that the stream has
block_by : (s : StreamSeen) (kind : Kind) (at far : ℕ) → s.kind ≡ kind
    → block_text s at far ≡ body_text_by kind s.records s.raw (at + up (body_of (shape_seen s))) far ++ padding (body_of (shape_seen s)) ++ all_padded (parts_of s.records)
block_by s kind at far is =
    ap (λ (o : Kind). body_text_by o s.records s.raw (at + up (body_of (shape_seen s))) far ++ padding (body_of (shape_seen s)) ++ all_padded (parts_of s.records)) is

-- a block of records, by what a view tells of it
pub block_known : (s : ViewShape) (x : DumpSeen) (k t : ℕ) (kind : Option StreamKind) (at far size count behind : ℕ) → s.streams ≡ map shape_seen x.streams → (stream_at s k).kind ≡ kinds.Known t
    → kind ≡ kind_of t → size ≡ body_of (stream_at s k) → count ≡ (stream_at s k).records → behind ≡ at + up size
    → block_text (seen_at x k) at far ≡ head_by_kind kind count far ++ rows behind (seen_at x k).records ++ padding size ++ all_padded (parts_of (seen_at x k).records)
block_known s x k t kind at far size count behind e is of told counted stands =
    let text = λ (n m place : ℕ). head_text t n far ++ rows place (seen_at x k).records ++ padding m ++ all_padded (parts_of (seen_at x k).records) in
    let whole : size ≡ body_of (shape_seen (seen_at x k)) = told ∙ ap body_of (known_stream s x k e) in
    block_by (seen_at x k) (kinds.Known t) at far (known_kind s x k (kinds.Known t) e is)
    ∙ ap (λ (m : ℕ). text (length (seen_at x k).records) m (at + up m)) (sym whole)
    ∙ ap (λ (n : ℕ). text n size (at + up size)) (sym (known_count s x k count e counted))
    ∙ ap (λ (place : ℕ). text count size place) (sym stands)
    ∙ ap (λ (o : Option StreamKind). head_by_kind o count far ++ rows behind (seen_at x k).records ++ padding size ++ all_padded (parts_of (seen_at x k).records)) (sym of)

-- no parts
no_parts : (text : List ℕ) (xs : List Seen) → xs ≡ [] → text ++ all_padded (parts_of xs) ≡ text
no_parts text xs none = ap (λ (ys : List Seen). text ++ all_padded (parts_of ys)) none ∙ ap (λ (t : List ℕ). text ++ t) parts_none ∙ append-nil text

pub block_raw : (s : StreamSeen) (t at far : ℕ) → s.kind ≡ kinds.Raw t → s.records ≡ [] → block_text s at far ≡ padded s.raw
block_raw s t at far is none =
    block_by s (kinds.Raw t) at far is ∙ no_parts (s.raw ++ padding (body_of (shape_seen s))) s.records none
    ∙ ap (λ (n : ℕ). s.raw ++ padding n) (raw_size (shape_seen s) t is)

pub block_unused : (s : StreamSeen) (at far : ℕ) → s.kind ≡ kinds.Unused → s.records ≡ [] → block_text s at far ≡ []
block_unused s at far is none =
    block_by s kinds.Unused at far is ∙ no_parts ([] ++ padding (body_of (shape_seen s))) s.records none
    ∙ ap (λ (o : Kind). padding (shape.body_by o (length s.records) (length s.raw))) is

-- ---- streams without records

pub none_of_raw : (s : StreamSeen) (t : ℕ) → s.kind ≡ kinds.Raw t → RecordsAreKnown s → s.records ≡ []
none_of_raw s t is known = subst (λ (o : Kind). AreOfKind o s.records) is known

pub none_of_unused : (s : StreamSeen) → s.kind ≡ kinds.Unused → RecordsAreKnown s → s.records ≡ []
none_of_unused s is known = subst (λ (o : Kind). AreOfKind o s.records) is known

-- ---- 64-bit memory

-- by a kind that the stream has
far_by : (s : StreamSeen) (kind : Kind) → s.kind ≡ kind
    → far_text s ≡ (if is_far kind then ranges_text s.records else []) ++ padding (if is_far kind then (shape_seen s).parts else 0)
far_by s kind is = ap (λ (o : Kind). (if is_far o then ranges_text s.records else []) ++ padding (if is_far o then (shape_seen s).parts else 0)) is

pub far_known : (s : ViewShape) (x : DumpSeen) (k size : ℕ) → s.streams ≡ map shape_seen x.streams → (stream_at s k).kind ≡ kinds.Known 9 → size ≡ (stream_at s k).parts
    → far_text (seen_at x k) ≡ ranges_text (seen_at x k).records ++ padding size
far_known s x k size e is told =
    far_by (seen_at x k) (kinds.Known 9) (known_kind s x k (kinds.Known 9) e is)
    ∙ ap (λ (n : ℕ). ranges_text (seen_at x k).records ++ padding n) (sym (told ∙ ap (λ (t : StreamShape). t.parts) (known_stream s x k e)))

pub far_none : (s : ViewShape) (x : DumpSeen) (k : ℕ) (kind : Kind) → s.streams ≡ map shape_seen x.streams → (stream_at s k).kind ≡ kind → is_far kind ≡ false → far_text (seen_at x k) ≡ []
far_none s x k kind e is near =
    let y = seen_at x k in
    far_by y kind (known_kind s x k kind e is)
    ∙ ap (λ (b : Bool). (if b then ranges_text y.records else []) ++ padding (if b then (shape_seen y).parts else 0)) near

-- ---- values

module _ {Z : Type 0} where
  stream_known : (s : Stream Z) → RecordsAreKnown (stream_seen s)
  stream_known streams.Unused = refl
  stream_known (streams.Threads xs) = tt
  stream_known (streams.Modules xs) = tt
  stream_known (streams.Memory xs) = tt
  stream_known (streams.Exception x) = tt
  stream_known (streams.System x) = tt
  stream_known (streams.Memory64 xs) = tt
  stream_known (streams.Unloaded xs) = tt
  stream_known (streams.MemoryInfo xs) = tt
  stream_known (streams.ThreadNames xs) = tt
  stream_known (streams.Raw t bytes) = refl

  streams_known : (ss : List (Stream Z)) (k : ℕ) → RecordsAreKnown (get_or (map stream_seen ss) k unused_seen)
  streams_known [] k = refl
  streams_known (s ∷ ss) zero = stream_known s
  streams_known (s ∷ ss) (suc k) = streams_known ss k

  -- of a value no raw or unused stream has records
  pub dump_records_known : (d : Dump Z) (k : ℕ) → RecordsAreKnown (seen_at (dump_seen d) k)
  dump_records_known d k = streams_known d.streams k
