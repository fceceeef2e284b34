use Rattle.std.proofs.Common.{arith, refl, sym}
use Rattle.std.proofs.lemmas.List.{append-nil}
use Rattle.mdmp_print.proofs.element.each_at.Goals as goal

pub loop-element-init : goal.loop-element-init
loop-element-init g c = record { text = sym (append-nil _); within = omega arith; same = refl }
