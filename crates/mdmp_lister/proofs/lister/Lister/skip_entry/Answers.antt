use Rattle.std.proofs.Common.{◌≡◌, false, refl, rules}
use Rattle.mdmp_lister.specs.declared.stage.Stage.TheVariants.{Between}
use Rattle.mdmp_lister.specs.Lister.{is_for_good}
use Rattle.mdmp_lister.specs.Stage.{stop_of}
use Rattle.mdmp_lister.specs.Walk.Mapping.{IsMapped}
use Rattle.mdmp_lister.proofs.lister.Lister.skip_entry.Goals as goal

pub returns-clause-skips : goal.returns-clause-skips
returns-clause-skips g c =
    let w = c.self.inside.walk in
    let moved : is_for_good (stop_of w.stage) ≡ false → c.skip_entry.new.self ≡ record w { stage = Between } = search rules in
    rw (← c.self.view_is) (λ going. rw (moved going) (record { left = search rules; stop = refl; unread = refl; standing = refl }))

pub returns-clause-keeps : goal.returns-clause-keeps
returns-clause-keeps g c = rw (← c.self.view_is) (record {
  same = search rules;
  source = search rules;
  counts = search rules;
  passed = search rules;
  current = search rules;
  ranges = refl;
  rests = c.skip_entry.ensures.rests;
})

pub invariant_of-self : goal.invariant_of-self
invariant_of-self g c =
    let mapped : IsMapped c.skip_entry.new.self c.self.inside.map = search rules in
    mapped
