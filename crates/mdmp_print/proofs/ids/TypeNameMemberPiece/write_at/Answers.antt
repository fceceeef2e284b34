use Rattle.std.proofs.Common.{◌≡◌, None, arith, refl}
use Rattle.mdmp_names.specs.StreamTypes.{stream_name}
use Rattle.mdmp_print.proofs.BufferLemmas.{IsPutBehind-as}
use Rattle.mdmp_print.proofs.ids.TypeNameMemberPiece.write_at.Goals as goal

pub returns-in-None : goal.returns-in-None
returns-in-None c =
    let none : None ≡ stream_name c.args.self.now.0 = rw c.in-None.is at c.stream_name.ensures.named in
    rw (← none) (IsPutBehind-as refl (omega arith) c.write_at-in-None.ensures)
