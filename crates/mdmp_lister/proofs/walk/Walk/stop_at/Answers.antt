use Rattle.std.proofs.Common.{◌≡◌, refl, rules}
use Rattle.mdmp_lister.specs.Stage.{fault_stage}
use Rattle.mdmp_lister.proofs.walk.Walk.stop_at.Goals as goal

pub returns : goal.returns
returns g c =
    let stage : c.if-is_unobtained.self ≡ fault_stage c.args.fault = search rules in
    rw stage (refl, refl)
