use Rattle.std.proofs.Common.{arith, refl}
use Rattle.std.proofs.lemmas.Bool.{eq-eqb, ne_eqb}
use Rattle.mdmp_lister.proofs.stop_at.StopAt.call.Goals.{then-call-self, else-call-self}
use Rattle.mdmp_lister.proofs.stop_at.StopAt.call.Goals as goal

pub returns : goal.returns
returns c =
    let calls = c.self.inside.calls in
    let stop = c.self.inside.stop_at in
    rw (← c.self.view_is) (record {
      answer = elim c.if-call-self.branch [
        | then-call-self w ↦ rw (w.result-is, eq-eqb calls stop (omega arith)) refl
        | else-call-self w ↦ rw (w.result-is, ne_eqb calls stop w.if-call-self.false) refl
      ];
      calls = rw c.saturating_add-self-inside.ensures refl;
    })
