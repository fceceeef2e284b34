use Rattle.std.proofs.Common.{◌≡◌, drop, map}
use Rattle.mdmp_words.specs.BadWords.{bad_type}
use Rattle.mdmp_words.proofs.bad_word.bad_type_of.Given as goal

abbrev pub invariant-loop-word : goal.invariant-loop-word
invariant-loop-word l = bad_type (map (λ w. w.now) (drop l.word-index l.words)) ≡ bad_type (map (λ w. w.now) l.words)
