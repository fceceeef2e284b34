use Rattle.mdmp_words.proofs.TypeLemmas.{TypesRead}
use Rattle.mdmp_words.proofs.option_words.types_of.Given as goal

abbrev pub invariant-loop-i : goal.invariant-loop-i
invariant-loop-i l = TypesRead l.words l.types l.i
