-- A walk and the map of the ranges that it gave.
use Rattle.std.specs.Prelude.{◌≡◌, ◌≤◌, ◌+◌, ◌*◌, ◌∷◌, [], ℕ, List, All, Option, Some, Result, Ok, vec_len}
use Rattle.mdmp_map.specs.declared.range.Range.{Range}
use Rattle.mdmp_map.specs.Map.{MapState, free_of}
use Rattle.mdmp_map.specs.Ranges.{IsWithin}
use Rattle.mdmp_lister.specs.declared.fault.ListFault.{ListFault}
use Rattle.mdmp_lister.specs.declared.step.Step.{Step}
use Rattle.mdmp_lister.specs.declared.walk.Walk.{Walk}
use Rattle.mdmp_lister.specs.Format.Numbers.{range_count}
use Rattle.mdmp_lister.specs.Format.Ranges.{ranges_of}
use Rattle.mdmp_lister.specs.Step.{step_item}
use Rattle.mdmp_lister.specs.StreamHead.{heads_ahead}
use Rattle.mdmp_lister.specs.Walk.Owing.{HasRoom}
use Rattle.mdmp_lister.specs.Walk.Paying.{IsBounded}
use Rattle.mdmp_lister.specs.Walk.{IsSound}

-- the map has room for the ranges that the walk may still give, and those that it gave lie inside the file
pub record IsMapped {S A : Type 0} (w : Walk S A) (map : MapState) : Type 0 where
  pub sound : IsSound w
  pub room : HasRoom (free_of map) 0 w
  pub inside : All (IsWithin w.meter.source.size) map.ranges
  pub bounded : IsBounded w
  -- no less was fetched than the header, the directory and the heads of the chosen memory lists
  pub opened : 32 + 12 * vec_len w.entries + heads_ahead w.choice w.meter.source.size w.entries.items ≤ w.meter.fetched
  -- where the file is known, it was made for the ranges of its chosen lists
  pub counted : (file : List ℕ) → w.meter.source.store.content ≡ Some file → map.room ≡ range_count file w.choice

-- the range that the map is given of an answer, in a file of z bytes
abbrev pub ranges_read : ℕ → List ℕ → Result (Option Step) ListFault → List Range
ranges_read z buffer (Ok (Some s)) = ranges_of (step_item z buffer s ∷ [])
ranges_read z buffer answer = []
