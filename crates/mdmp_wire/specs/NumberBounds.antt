-- How large a number in bytes may be.
use Rattle.std.specs.Prelude.{ℕ, ◌<◌, ◌^◌, List, slice_index}
use Rattle.byteorder.specs.Numbers.{little_from-lt}
use Rattle.mdmp_wire.specs.Number.{number_at}

-- a number of k bytes is less than 256 ^ k
pub number_at-lt : (F : List ℕ) (o k : ℕ) → ((i : ℕ) → slice_index F i < 256) → number_at F o k < 256 ^ k
unfolding number_at
number_at-lt F o k fits = little_from-lt o k F fits
