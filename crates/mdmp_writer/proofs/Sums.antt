-- Sums over the streams that are left.
use Rattle.std.specs.Prelude.{ℕ, zero, suc, get_or, ◌+◌, ◌-◌, ◌<◌, ◌≤◌, ◌≡◌, ◌^◌, List, [], ◌∷◌, length, drop, Option, Some, None, Bool, true, false, if◌then◌else◌, IsTrue, IsFalse}
use Rattle.std.proofs.Common.{refl, ap, arith, sym, ◌∙◌, inl, inr}
use Rattle.std.proofs.lemmas.List.{drop_more}
use Rattle.std.proofs.lemmas.Option.{none-some}
use Rattle.std.proofs.Math.ListN.{drop_of_length-le}
use Rattle.std.proofs.lemmas.Bool.{or_left, or_right, or_from, or_parts, le-leb, leb-false, lt-leb}
use Rattle.mdmp_dump.specs.declared.view.Kind.{Kind}
use Rattle.mdmp_dump.specs.Places.{up}
use Rattle.mdmp_dump.specs.Shape.{ViewShape, StreamShape, body_of, is_far, room_of, stream_at, unused_shape}
use Rattle.mdmp_writer.specs.declared.layout.StreamRoom.{StreamRoom}
use Rattle.mdmp_writer.specs.declared.fault.LayoutFault.TheVariants.{TooLarge}
use Rattle.mdmp_writer.specs.Layout.{block_size, blocks_end, blocks_size, fault_behind, file_size, is_too_large, shape_fault, far_size, fars_size, first_misnamed, is_misnamed, stream_room, IsRoom}

pub next_stream : (s : ViewShape) (k : ℕ) → k < length s.streams → drop k s.streams ≡ stream_at s k ∷ drop (k + 1) s.streams
next_stream s k fewer = drop_more s.streams k unused_shape fewer

pub blocks_next : (s : ViewShape) (k : ℕ) → k < length s.streams → blocks_size (drop k s.streams) ≡ block_size (stream_at s k) + blocks_size (drop (k + 1) s.streams)
unfolding blocks_size
blocks_next s k fewer = ap blocks_size (next_stream s k fewer)

pub fars_next : (s : ViewShape) (k : ℕ) → k < length s.streams → fars_size (drop k s.streams) ≡ far_size (stream_at s k) + fars_size (drop (k + 1) s.streams)
unfolding fars_size
fars_next s k fewer = ap fars_size (next_stream s k fewer)

pub blocks_none : (s : ViewShape) (k : ℕ) → length s.streams ≤ k → blocks_size (drop k s.streams) ≡ 0
unfolding blocks_size
blocks_none s k past = ap blocks_size (drop_of_length-le s.streams past)

pub fars_none : (s : ViewShape) (k : ℕ) → length s.streams ≤ k → fars_size (drop k s.streams) ≡ 0
unfolding fars_size
fars_none s k past = ap fars_size (drop_of_length-le s.streams past)

-- ---- what a stream takes

-- as it is told
pub room_told : (s : StreamShape) (room : StreamRoom) (kind : Kind) (body parts : ℕ) → room ≡ stream_room kind body parts → kind ≡ s.kind → body ≡ body_of s → parts ≡ s.parts → IsRoom s (Some room)
room_told s room kind body parts is k b p = is ∙ rw (k, b, p) refl

pub room_kind : (s : StreamShape) (room : StreamRoom) → IsRoom s (Some room) → room.kind ≡ s.kind
room_kind s room is = ap (λ (r : StreamRoom). r.kind) is

pub room_body : (s : StreamShape) (room : StreamRoom) → IsRoom s (Some room) → room.body ≡ body_of s
room_body s room is = ap (λ (r : StreamRoom). r.body) is

pub room_parts : (s : StreamShape) (room : StreamRoom) → IsRoom s (Some room) → room.parts ≡ room_of s
room_parts s room is = ap (λ (r : StreamRoom). r.parts) is

pub room_far : (s : StreamShape) (room : StreamRoom) → IsRoom s (Some room) → room.far ≡ far_size s
room_far s room is = ap (λ (r : StreamRoom). r.far) is

pub room_block : (s : StreamShape) (room : StreamRoom) → IsRoom s (Some room) → up room.body + room.parts ≡ block_size s
room_block s room is = ap (λ (r : StreamRoom). up r.body + r.parts) is

-- the names and parts of one that is not too large are few enough to be told
few_by : (far : Bool) (body parts : ℕ) → up body + (if far then 0 else parts) < 2 ^ 33 → up (if far then parts else 0) < 2 ^ 64 → parts ≤ 2 ^ 64 - 4
few_by true body parts block far = omega arith
few_by false body parts block far = omega arith

pub few_parts : (s : StreamShape) → block_size s < 2 ^ 33 → far_size s < 2 ^ 64 → s.parts ≤ 2 ^ 64 - 4
few_parts s block far = few_by (is_far s.kind) (body_of s) s.parts block far

-- ---- the first stream that is misnamed

pub misnamed_here : (s : ViewShape) (k : ℕ) → k < length s.streams → is_misnamed (stream_at s k).kind ≡ true → first_misnamed k (drop k s.streams) ≡ Some k
unfolding first_misnamed
misnamed_here s k fewer is = ap (first_misnamed k) (next_stream s k fewer) ∙ (rw is refl)

pub misnamed_later : (s : ViewShape) (k : ℕ) → k < length s.streams → is_misnamed (stream_at s k).kind ≡ false → first_misnamed k (drop k s.streams) ≡ first_misnamed (k + 1) (drop (k + 1) s.streams)
unfolding first_misnamed
misnamed_later s k fewer is = ap (first_misnamed k) (next_stream s k fewer) ∙ (rw is refl)

pub misnamed_none : (s : ViewShape) (k : ℕ) → length s.streams ≤ k → first_misnamed k (drop k s.streams) ≡ None
unfolding first_misnamed
misnamed_none s k past = ap (first_misnamed k) (drop_of_length-le s.streams past)

-- ---- too large

pub too_large_blocks : (ss : List StreamShape) → 2 ^ 32 ≤ blocks_end ss → IsTrue (is_too_large ss)
too_large_blocks ss past = or_left _ _ (le-leb (2 ^ 32) (blocks_end ss) past)

pub too_large_file : (ss : List StreamShape) → 2 ^ 64 ≤ file_size ss → IsTrue (is_too_large ss)
too_large_file ss past = or_right _ _ (le-leb (2 ^ 64) (file_size ss) past)

pub not_too_large : (ss : List StreamShape) → blocks_end ss < 2 ^ 32 → file_size ss < 2 ^ 64 → IsFalse (is_too_large ss)
not_too_large ss low short = or_from _ _ (lt-leb (2 ^ 32) (blocks_end ss) low) (lt-leb (2 ^ 64) (file_size ss) short)

-- a stream that takes too much is too large, and so are all
pub past_room : (s : ViewShape) (k blocks far : ℕ) → k < length s.streams → blocks + blocks_size (drop k s.streams) ≡ blocks_end s.streams
    → far + fars_size (drop k s.streams) ≡ fars_size s.streams → IsRoom (stream_at s k) None → IsTrue (is_too_large s.streams)
past_room s k blocks far fewer b f (inl past) = too_large_blocks s.streams (omega (arith, b, past, blocks_next s k fewer))
past_room s k blocks far fewer b f (inr past) = too_large_file s.streams (omega (arith, f, past, fars_next s k fewer))

-- ---- one stream takes no more than all

pub block_within : (ss : List StreamShape) (k : ℕ) → block_size (get_or ss k unused_shape) ≤ blocks_size ss
unfolding blocks_size
block_within [] k = omega arith
block_within (s ∷ ss) zero = omega arith
block_within (s ∷ ss) (suc k) = omega (arith, block_within ss k)

pub far_within : (ss : List StreamShape) (k : ℕ) → far_size (get_or ss k unused_shape) ≤ fars_size ss
unfolding fars_size
far_within [] k = omega arith
far_within (s ∷ ss) zero = omega arith
far_within (s ∷ ss) (suc k) = omega (arith, far_within ss k)

-- a stream stands below the end of all
pub ends_below : (s : ViewShape) (k at : ℕ) → k < length s.streams → at + blocks_size (drop k s.streams) ≡ blocks_end s.streams → at + block_size (stream_at s k) ≤ blocks_end s.streams
ends_below s k at fewer e = omega (arith, e, blocks_next s k fewer)

-- ---- what can be written

if_none : (b : Bool) → (if b then Some TooLarge else None) ≡ None → b ≡ false
if_none true e = absurd (none-some _ (sym e))
if_none false e = refl

room_behind : (ss : List StreamShape) (o : Option ℕ) → fault_behind ss o ≡ None → is_too_large ss ≡ false
room_behind ss (Some k) e = absurd (none-some _ (sym e))
room_behind ss None e = if_none (is_too_large ss) e

-- a dump that can be written ends below 2^32 but for its 64-bit memory, and below 2^64
pub ends_low : (ss : List StreamShape) → shape_fault ss ≡ None → blocks_end ss < 2 ^ 32
ends_low ss e = leb-false (2 ^ 32) (blocks_end ss) (or_parts _ _ (room_behind ss (first_misnamed 0 ss) e)).0

pub file_short : (ss : List StreamShape) → shape_fault ss ≡ None → file_size ss < 2 ^ 64
file_short ss e = leb-false (2 ^ 64) (file_size ss) (or_parts _ _ (room_behind ss (first_misnamed 0 ss) e)).1
