use Rattle.std.proofs.Common.{◌∙◌, Bor, List, ℕ, ap, map}
use Rattle.mdmp_words.specs.NearTypes.{nearest_among}
use Rattle.mdmp_words.proofs.near_types.nearest_type.Goals as goal

pub returns : goal.returns
returns c = c.nearest_among.ensures ∙ ap (λ (names : List (Bor (List ℕ))). nearest_among c.args.word.now (map (λ name. name.now) names)) c.as_slice.ensures
