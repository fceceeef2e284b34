-- The streams of a dump that are left, and what is to be written of them.
use Rattle.std.specs.Prelude.{ℕ, ◌+◌, ◌<◌, ◌≤◌, ◌≡◌, List, [], ◌∷◌, ◌++◌, length, drop, map, Some}
use Rattle.std.proofs.Common.{refl, ap, arith, sym, subst, ◌∙◌, append_assoc}
use Rattle.std.proofs.lemmas.List.{drop_more, length-map}
use Rattle.std.proofs.Math.ListN.{drop_of_length-le}
use Rattle.mdmp_wire.specs.declared.entry.Entry.{Entry}
use Rattle.mdmp_wire.specs.Entry.{entry_bytes}
use Rattle.mdmp_wire.specs.Header.{header_bytes}
use Rattle.mdmp_dump.specs.declared.view.HeaderFields.{HeaderFields}
use Rattle.mdmp_dump.specs.Shape.{ViewShape, StreamShape, seen_at, shape_seen, stream_at, unused_seen}
use Rattle.mdmp_dump.specs.View.{DumpSeen, StreamSeen}
use Rattle.mdmp_writer.specs.declared.layout.StreamRoom.{StreamRoom}
use Rattle.mdmp_writer.specs.Gather.{Gathered, IsLeft, Gathers, GathersPrefix}
use Rattle.mdmp_writer.specs.Layout.{IsRoom, block_size, blocks_end, far_size, first_block, shapes_in}
use Rattle.mdmp_writer.specs.Written.{block_text, blocks, directory, entry_by, written_entry, far_text, far_texts, header_of, seen_text}
use Rattle.mdmp_writer.proofs.Blocks.{known_stream}
use Rattle.mdmp_writer.proofs.Sending.{left_cut, left_next}
use Rattle.mdmp_writer.proofs.Sums.{next_stream}

pub directory_next : (s : ViewShape) (k at : ℕ) → k < length s.streams → directory (drop k s.streams) at ≡ entry_bytes (written_entry (stream_at s k) at) ++ directory (drop (k + 1) s.streams) (at + block_size (stream_at s k))
unfolding directory
directory_next s k at fewer = ap (λ (ss : List StreamShape). directory ss at) (next_stream s k fewer)

pub directory_none : (s : ViewShape) (k at : ℕ) → length s.streams ≤ k → directory (drop k s.streams) at ≡ []
unfolding directory
directory_none s k at past = ap (λ (ss : List StreamShape). directory ss at) (drop_of_length-le s.streams past)

-- ---- a text of which the first part is put

pub first_cut : (a b c : Gathered) (text now first rest : List ℕ) → now ≡ first ++ rest → IsLeft a text b now → GathersPrefix b first c → GathersPrefix a text c
first_cut a b c text now first rest e left cut = left_cut a b c text first rest (subst (λ (t : List ℕ). IsLeft a text b t) e left) cut

pub first_put : (a b c : Gathered) (text now first rest : List ℕ) → now ≡ first ++ rest → IsLeft a text b now → Gathers b first c → IsLeft a text c rest
first_put a b c text now first rest e left put = left_next a b c text first rest (subst (λ (t : List ℕ). IsLeft a text b t) e left) put

-- the entry of a stream that takes this room
pub entry_is : (s : StreamShape) (room : StreamRoom) (at : ℕ) (e : Entry) → IsRoom s (Some room) → e ≡ entry_by room.kind room.body at → e ≡ written_entry s at
entry_is s room at e is made = made ∙ ap (λ (r : StreamRoom). entry_by r.kind r.body at) is

-- an entry of the directory is put, and the rest is left
pub entry_put : (s : ViewShape) (k at next : ℕ) (e : Entry) (a b c : Gathered) (text : List ℕ) → k < length s.streams → e ≡ written_entry (stream_at s k) at → next ≡ at + block_size (stream_at s k)
    → IsLeft a text b (directory (drop k s.streams) at) → Gathers b (entry_bytes e) c → IsLeft a text c (directory (drop (k + 1) s.streams) next)
entry_put s k at next e a b c text fewer is place left put =
    subst (λ (n : ℕ). IsLeft a text c (directory (drop (k + 1) s.streams) n)) (sym place)
    (first_put a b c text _ (entry_bytes (written_entry (stream_at s k) at)) _ (directory_next s k at fewer) left (subst (λ (e : Entry). Gathers b (entry_bytes e) c) is put))

pub entry_cut : (s : ViewShape) (k at : ℕ) (e : Entry) (a b c : Gathered) (text : List ℕ) → k < length s.streams → e ≡ written_entry (stream_at s k) at
    → IsLeft a text b (directory (drop k s.streams) at) → GathersPrefix b (entry_bytes e) c → GathersPrefix a text c
entry_cut s k at e a b c text fewer is left cut =
    first_cut a b c text _ (entry_bytes (written_entry (stream_at s k) at)) _ (directory_next s k at fewer) left (subst (λ (e : Entry). GathersPrefix b (entry_bytes e) c) is cut)

-- ---- streams whose content is known

pub as_many : (s : ViewShape) (x : DumpSeen) → s.streams ≡ map shape_seen x.streams → length x.streams ≡ length s.streams
as_many s x e = sym (length-map x.streams shape_seen) ∙ ap length (sym e)

next_seen : (s : ViewShape) (x : DumpSeen) (k : ℕ) → s.streams ≡ map shape_seen x.streams → k < length s.streams → drop k x.streams ≡ seen_at x k ∷ drop (k + 1) x.streams
next_seen s x k e fewer = drop_more x.streams k unused_seen (omega (arith, as_many s x e, fewer))

blocks_next : (s : ViewShape) (x : DumpSeen) (k at far : ℕ) → s.streams ≡ map shape_seen x.streams → k < length s.streams
    → blocks (drop k x.streams) at far ≡ block_text (seen_at x k) at far ++ blocks (drop (k + 1) x.streams) (at + block_size (stream_at s k)) (far + far_size (stream_at s k))
unfolding blocks
blocks_next s x k at far e fewer =
    ap (λ (ss : List StreamSeen). blocks ss at far) (next_seen s x k e fewer)
    ∙ ap (λ (t : StreamShape). block_text (seen_at x k) at far ++ blocks (drop (k + 1) x.streams) (at + block_size t) (far + far_size t)) (sym (known_stream s x k e))

pub blocks_none : (s : ViewShape) (x : DumpSeen) (k at far : ℕ) → s.streams ≡ map shape_seen x.streams → length s.streams ≤ k → blocks (drop k x.streams) at far ≡ []
unfolding blocks
blocks_none s x k at far e past = ap (λ (ss : List StreamSeen). blocks ss at far) (drop_of_length-le x.streams (omega (arith, as_many s x e, past)))

pub block_put : (s : ViewShape) (x : DumpSeen) (k at far next behind : ℕ) (a b c : Gathered) (text : List ℕ) → s.streams ≡ map shape_seen x.streams → k < length s.streams
    → next ≡ at + block_size (stream_at s k) → behind ≡ far + far_size (stream_at s k)
    → IsLeft a text b (blocks (drop k x.streams) at far) → Gathers b (block_text (seen_at x k) at far) c → IsLeft a text c (blocks (drop (k + 1) x.streams) next behind)
block_put s x k at far next behind a b c text e fewer place place64 left put =
    subst (λ (n : ℕ). IsLeft a text c (blocks (drop (k + 1) x.streams) n behind)) (sym place)
    (subst (λ (n : ℕ). IsLeft a text c (blocks (drop (k + 1) x.streams) (at + block_size (stream_at s k)) n)) (sym place64)
    (first_put a b c text _ (block_text (seen_at x k) at far) _ (blocks_next s x k at far e fewer) left put))

pub block_cut : (s : ViewShape) (x : DumpSeen) (k at far : ℕ) (a b c : Gathered) (text : List ℕ) → s.streams ≡ map shape_seen x.streams → k < length s.streams
    → IsLeft a text b (blocks (drop k x.streams) at far) → GathersPrefix b (block_text (seen_at x k) at far) c → GathersPrefix a text c
block_cut s x k at far a b c text e fewer left cut = first_cut a b c text _ (block_text (seen_at x k) at far) _ (blocks_next s x k at far e fewer) left cut

fars_next : (s : ViewShape) (x : DumpSeen) (k : ℕ) → s.streams ≡ map shape_seen x.streams → k < length s.streams → far_texts (drop k x.streams) ≡ far_text (seen_at x k) ++ far_texts (drop (k + 1) x.streams)
unfolding far_texts
fars_next s x k e fewer = ap far_texts (next_seen s x k e fewer)

pub fars_none : (s : ViewShape) (x : DumpSeen) (k : ℕ) → s.streams ≡ map shape_seen x.streams → length s.streams ≤ k → far_texts (drop k x.streams) ≡ []
unfolding far_texts
fars_none s x k e past = ap far_texts (drop_of_length-le x.streams (omega (arith, as_many s x e, past)))

pub far_put : (s : ViewShape) (x : DumpSeen) (k : ℕ) (a b c : Gathered) (text : List ℕ) → s.streams ≡ map shape_seen x.streams → k < length s.streams
    → IsLeft a text b (far_texts (drop k x.streams)) → Gathers b (far_text (seen_at x k)) c → IsLeft a text c (far_texts (drop (k + 1) x.streams))
far_put s x k a b c text e fewer left put = first_put a b c text _ (far_text (seen_at x k)) _ (fars_next s x k e fewer) left put

pub far_cut : (s : ViewShape) (x : DumpSeen) (k : ℕ) (a b c : Gathered) (text : List ℕ) → s.streams ≡ map shape_seen x.streams → k < length s.streams
    → IsLeft a text b (far_texts (drop k x.streams)) → GathersPrefix b (far_text (seen_at x k)) c → GathersPrefix a text c
far_cut s x k a b c text e fewer left cut = first_cut a b c text _ (far_text (seen_at x k)) _ (fars_next s x k e fewer) left cut

-- ---- the whole

-- the bytes of a dump of this shape: its header and directory, and what stands behind them
pub text_parts : (s : ViewShape) (x : DumpSeen) (h : HeaderFields) (count first far : ℕ) → s.streams ≡ shapes_in x → h ≡ x.header → count ≡ length s.streams → first ≡ first_block s.streams → far ≡ blocks_end s.streams
    → seen_text x ≡ header_bytes (header_of h count) ++ directory s.streams first ++ (blocks x.streams first far ++ far_texts x.streams)
text_parts s x h count first far e same many at behind =
    append_assoc (header_bytes (header_of x.header (length (shapes_in x))) ++ directory (shapes_in x) (first_block (shapes_in x))) (blocks x.streams (first_block (shapes_in x)) (blocks_end (shapes_in x))) (far_texts x.streams)
    ∙ ap (λ (ss : List StreamShape). header_bytes (header_of x.header (length ss)) ++ directory ss (first_block ss) ++ (blocks x.streams (first_block ss) (blocks_end ss) ++ far_texts x.streams)) (sym e)
    ∙ (rw (same, many, at, behind) refl)
