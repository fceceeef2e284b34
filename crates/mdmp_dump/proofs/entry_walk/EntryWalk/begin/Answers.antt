use Rattle.mdmp_dump.proofs.EntryPlaces.{place_stays}
use Rattle.mdmp_dump.proofs.entry_walk.EntryWalk.begin.Goals as goal

pub invariant_of-self : goal.invariant_of-self
invariant_of-self g c = record {
  kept = c.begin_entry.ensures.kept;
  stands = place_stays c.self.inside.walker.list c.begin_entry.new.walker.list c.place_of-self-inside.result c.begin_entry.ensures.same c.place_of-self-inside.ensures.is;
}

pub returns : goal.returns
returns g c = rw (← c.self.view_is) (c.begin_entry.ensures.begins c.args.stream _ c.entry-self-inside.ensures.value (c.place_of-self-inside.ensures.entry _ c.entry-self-inside.ensures.value))
