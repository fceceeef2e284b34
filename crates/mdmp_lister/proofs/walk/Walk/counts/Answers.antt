use Rattle.std.proofs.Common.{refl}
use Rattle.mdmp_lister.proofs.walk.Walk.counts.Goals as goal

pub returns-clause-value : goal.returns-clause-value
returns-clause-value g c =
    rw (c.requires.sound.listed.value, c.len-entries.ensures, c.counts-counted.ensures.value, c.room.ensures.value, c.limit.ensures, c.args.self.now.entries.ok.0) refl

pub returns-clause-listed : goal.returns-clause-listed
returns-clause-listed g c = c.requires.sound.listed.small
