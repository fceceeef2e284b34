-- What a writer spends of a view: the costs of its passes over streams, and the bytes that it asks for.
use Rattle.std.specs.Prelude.{ℕ, zero, suc, ◌+◌, ◌==◌, length, if◌then◌else◌, sum, sum_by}
use Rattle.mdmp_dump.specs.Shape.{ViewShape, asks_of, cost_at, is_far, room_of, stream_at}

-- ---- of the stream at a place

-- a pass over the names and parts that stand behind its body, if they take room there: 64-bit memory has none
abbrev pub parts_passes : ViewShape → ℕ → ℕ
parts_passes s k = if room_of (stream_at s k) == 0 then 0 else cost_at s k

abbrev pub parts_asks : ViewShape → ℕ → ℕ
parts_asks s k = if is_far (stream_at s k).kind then 0 else (stream_at s k).bytes

-- its block: a pass over its body, and that one
abbrev pub block_passes : ViewShape → ℕ → ℕ
block_passes s k = cost_at s k + parts_passes s k

abbrev pub block_asks : ViewShape → ℕ → ℕ
block_asks s k = parts_asks s k + (stream_at s k).raw

-- a pass over its 64-bit memory, which stands behind all streams
abbrev pub far_passes : ViewShape → ℕ → ℕ
far_passes s k = if is_far (stream_at s k).kind then cost_at s k else 0

abbrev pub far_asks : ViewShape → ℕ → ℕ
far_asks s k = if is_far (stream_at s k).kind then (stream_at s k).bytes else 0

-- a second pass, for those names and parts or for that memory
abbrev pub second_passes : ViewShape → ℕ → ℕ
second_passes s k = parts_passes s k + far_passes s k

-- ---- of all streams

-- a sum over the first n
unfoldable pub sum_below : (ℕ → ℕ) → ℕ → ℕ
sum_below f zero = 0
sum_below f (suc n) = sum_below f n + f n

abbrev pub all_block_passes : ViewShape → ℕ
all_block_passes s = sum_below (block_passes s) (length s.streams)

abbrev pub all_block_asks : ViewShape → ℕ
all_block_asks s = sum_below (block_asks s) (length s.streams)

abbrev pub all_far_passes : ViewShape → ℕ
all_far_passes s = sum_below (far_passes s) (length s.streams)

abbrev pub all_far_asks : ViewShape → ℕ
all_far_asks s = sum_below (far_asks s) (length s.streams)

-- the costs of a pass over each, of all passes, and the bytes of all names, parts and raw streams
abbrev pub all_costs : ViewShape → ℕ
all_costs s = sum s.costs

abbrev pub all_passes : ViewShape → ℕ
all_passes s = all_costs s + sum_below (second_passes s) (length s.streams)

abbrev pub all_asks : ViewShape → ℕ
all_asks s = sum_by asks_of s.streams
