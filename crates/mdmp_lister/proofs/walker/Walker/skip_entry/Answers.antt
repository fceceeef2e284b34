use Rattle.std.proofs.Common.{arith, refl, rules}
use Rattle.mdmp_lister.proofs.walker.Walker.skip_entry.Goals as goal

pub returns-in-Sought-clause-sought : goal.returns-in-Sought-clause-sought
returns-in-Sought-clause-sought g c = λ sought. refl

pub returns-in-Sought-clause-position : goal.returns-in-Sought-clause-position
returns-in-Sought-clause-position g c = (refl, rw (← c.self.view_is, c.in-Sought.is) refl)

pub returns-in-Sought-clause-unbegun : goal.returns-in-Sought-clause-unbegun
returns-in-Sought-clause-unbegun g c = λ unbegun. refl

pub returns-in-Sought-clause-keeps : goal.returns-in-Sought-clause-keeps
returns-in-Sought-clause-keeps g c = record {
  same = record { header_is = refl; entries = refl; choice = refl; limit = refl; rooms = refl; aside = refl; start = refl; budget = refl };
  source = refl;
  counts = refl;
  passed = refl;
  current = refl;
  ranges = refl;
  rests = omega arith;
}

pub returns-in-Begun-clause-keeps : goal.returns-in-Begun-clause-keeps
returns-in-Begun-clause-keeps g c = rw (← c.self.view_is, c.in-Begun.is) (record {
  same = search rules;
  source = search rules;
  counts = search rules;
  passed = search rules;
  current = search rules;
  ranges = refl;
  rests = c.skip_entry.ensures.rests;
})
