use Rattle.std.proofs.Common.{◌≡◌}
use Rattle.mdmp_lister.specs.declared.position.Position.TheVariants.{Begun}
use Rattle.mdmp_lister.specs.Walk.Positions.{IsWalked}
use Rattle.mdmp_lister.proofs.Walked.{begun_position, records_answered, records_counted}
use Rattle.mdmp_lister.proofs.walker.Walker.records.Goals as goal

pub returns-clause-of_file : goal.returns-clause-of_file
returns-clause-of_file g c =
    let p : c.self.inside.position ≡ Begun = begun_position _ (rw (← c.self.view_is) at c.requires) in
    let walked : IsWalked Begun c.self.inside.mark c.self.inside.walk = rw p at c.self.invariant in
    rw (← c.self.view_is) (records_answered c.self.inside.walk c.count_records.new.self c.self.inside.mark walked c.count_records.result c.count_records.ensures)

pub returns-clause-counts : goal.returns-clause-counts
returns-clause-counts g c =
    let p : c.self.inside.position ≡ Begun = begun_position _ (rw (← c.self.view_is) at c.requires) in
    let walked : IsWalked Begun c.self.inside.mark c.self.inside.walk = rw p at c.self.invariant in
    rw (← c.self.view_is, p) (records_counted c.self.inside.walk c.count_records.new.self c.self.inside.mark walked c.count_records.result c.count_records.ensures)
