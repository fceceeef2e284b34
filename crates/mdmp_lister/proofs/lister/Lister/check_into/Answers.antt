use Rattle.std.proofs.Common.{◌≡◌, ap, refl, rules}
use Rattle.mdmp_map.specs.Map.{MapState}
use Rattle.mdmp_lister.proofs.Advancing.{same_entries, same_rooms}
use Rattle.mdmp_lister.proofs.Verdicts.{good_checked, items_of_file, left_told, next_checked, standing_checked, stop_checked, unread_checked, verdicts_of_file, refused_checked}
use Rattle.mdmp_lister.proofs.lister.Lister.check_into.Goals as goal

pub returns-clause-checks : goal.returns-clause-checks
returns-clause-checks g c =
    let w = c.self.inside.walk in
    let n = c.check_entries.new.walk in
    let m = c.self.inside.map in
    let e = c.check_entries.ensures in
    let step = g.K.VerdictSink.step in
    let result = c.check_entries.result in
    let first : w.next ≡ 0 = search rules in
    let room : c.check_entries.new.map.room ≡ m.room = ap (λ (s : MapState). s.room) e.ranges in
    rw (← c.self.view_is) (record {
      judged = e.verdicts;
      items = e.items;
      handed = e.handed;
      each = e.each;
      of_file = verdicts_of_file step w n m c.check_entries.new.map c.args.sink.now c.check_entries.new.sink result e first;
      read = items_of_file step w n m c.check_entries.new.map c.args.sink.now c.check_entries.new.sink result e first;
      ranges = ap (λ (s : MapState). s.ranges) e.ranges;
      left = left_told n e.mapped.sound result _ e.stage refl refl refl refl;
      stop = stop_checked n result e.stage;
      unread = unread_checked n n.meter.source.size result e.stage;
      passed = e.passed;
      current = e.current;
      same = record { aside = e.counts.same_aside; start = e.counts.same_start; budget = e.counts.same_budget; header_is = e.same.header_is; choice = e.same.choice; limit = e.same.name; entries = same_entries w n e.same; rooms = rw room (same_rooms w n m.room e.same) };
      counts = e.counts;
      names = e.names;
      named = e.named;
      fetches = e.fetches;
      follow = e.follow;
      ends = e.ends;
      standing = standing_checked n result e.stage;
      next = next_checked step w n m c.check_entries.new.map c.args.sink.now c.check_entries.new.sink result _ e refl refl;
    })

pub returns-clause-good : goal.returns-clause-good
returns-clause-good g c =
    let e = c.check_entries.ensures in
    rw (← c.self.view_is)
    (good_checked g.K.VerdictSink.step c.self.inside.walk c.check_entries.new.walk c.self.inside.map c.check_entries.new.map c.args.sink.now c.check_entries.new.sink c.check_entries.result e)

pub returns-clause-refused : goal.returns-clause-refused
returns-clause-refused g c =
    refused_checked c.check_entries.new.walk c.check_entries.result c.check_entries.ensures.stage c.check_entries.ensures.mapped.sound
