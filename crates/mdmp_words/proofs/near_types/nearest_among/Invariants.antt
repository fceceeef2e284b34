use Rattle.std.proofs.Common.{◌≡◌, drop, map}
use Rattle.mdmp_words.specs.NearTypes.{nearest_among}
use Rattle.mdmp_words.proofs.near_types.nearest_among.Given as goal

abbrev pub invariant-loop-name : goal.invariant-loop-name
invariant-loop-name l =
    nearest_among l.fn.word (map (λ name. name.now) (drop l.name-index l.names)) ≡ nearest_among l.fn.word (map (λ name. name.now) l.names)
