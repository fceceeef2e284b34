use Rattle.std.proofs.Common.{List}
use Rattle.mdmp_lister.specs.declared.item.Item.{Item}
use Rattle.mdmp_lister.specs.Walk.{IsListing, work_of}
use Rattle.mdmp_lister.specs.Walk.Checking.{ItemsRead}
use Rattle.mdmp_lister.proofs.checking.judge_entry.Given as goal

-- some items were read
abbrev pub invariant-loop-fault : goal.invariant-loop-fault
invariant-loop-fault g l = record {
  items : List Item;
  read : ItemsRead items l.fn.walk l.fn.map l.walk l.map;
  stage : IsListing l.walk.stage;
}

abbrev pub decreases-loop-fault : goal.decreases-loop-fault
decreases-loop-fault g l = work_of l.walk
