use Rattle.std.proofs.Common.{refl}
use Rattle.mdmp_lister.proofs.Leaving.{records_known, records_stand}
use Rattle.mdmp_lister.proofs.lister.Lister.records_left.Goals as goal

pub returns : goal.returns
returns g c =
    let w = c.self.inside.walk in
    let m = c.self.inside.map in
    rw (← c.self.view_is, c.records_left.ensures) (record { value = refl; stands = records_stand w.stage; of_file = λ file known some. records_known w m.ranges m.room c.self.invariant.sound file known some })
