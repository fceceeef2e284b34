use Rattle.std.proofs.Common.{◌∷◌, ◌++◌, [], refl}
use Rattle.mdmp_lister.proofs.Judging.{end_judged, fault_judged, fault_read, head_items, items_then, no_items}
use Rattle.mdmp_lister.proofs.Requests.{listing-going}
use Rattle.mdmp_lister.proofs.checking.judge_entry.Goals as goal

pub returns-in-Err : goal.returns-in-Err
returns-in-Err g c =
    let w = c.args.walk.now in
    let n = c.read_head.new.walk in
    let m = c.args.map.now in
    let f = c.in-Err.fault in
    let of = c.in-Err.ensures in
    rw c.judged.ensures
    (fault_judged [] w w m m (no_items w m c.requires.mapped) n m f (rw c.requires.head refl)
    (fault_read w n m f c.requires.mapped of.read (rw c.free.ensures.value at of.room)))

pub loop-fault-init : goal.loop-fault-init
loop-fault-init g c =
    let of = c.in_default.ensures in
    record {
      items = [];
      read = head_items c.args.walk.now c.read_head.new.walk c.args.map.now c.requires.mapped c.requires.head of.read (rw c.free.ensures.value at of.room);
      stage = of.read.stage;
    }

pub loop-fault-preserved : goal.loop-fault-preserved
loop-fault-preserved g c =
    let l = c.loop-fault in
    let one = rw c.in-Ok-true.field-0-test at c.in-Ok-true.ensures in
    record {
      items = l.invariant.items ++ one.item ∷ [];
      read = items_then l.invariant.items (one.item ∷ []) c.args.walk.now l.walk c.read_next.new.walk c.args.map.now l.map c.read_next.new.map l.invariant.read one.read;
      stage = one.stage;
    }

pub returns-in-Err-read_next : goal.returns-in-Err-read_next
returns-in-Err-read_next g c =
    let l = c.loop-fault in
    rw c.judged-in-Err-read_next.ensures
    (fault_judged l.invariant.items c.args.walk.now l.walk c.args.map.now l.map l.invariant.read c.read_next.new.walk c.read_next.new.map c.in-Err-read_next.fault
    (listing-going l.walk.stage l.invariant.stage) c.in-Err-read_next.ensures)

pub returns-in-Ok-false : goal.returns-in-Ok-false
returns-in-Ok-false g c =
    let l = c.loop-fault in
    let end = rw c.in-Ok-false.field-0-test at c.in-Ok-false.ensures in
    rw (end.0, end.1.0) (end_judged l.invariant.items c.args.walk.now l.walk c.args.map.now l.map l.invariant.read end.1.1)
