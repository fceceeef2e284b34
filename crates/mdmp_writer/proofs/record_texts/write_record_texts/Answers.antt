use Rattle.std.proofs.Common.{◌≡◌, ◌<◌, ◌^◌, ◌-◌, ◌+◌, Err, ap, arith, sym}
use Rattle.mdmp_dump.specs.declared.view.Fields.{Fields}
use Rattle.mdmp_dump.specs.Placed.{fields_bytes, fields_room}
use Rattle.mdmp_dump.specs.Shape.{StreamCursor}
use Rattle.mdmp_dump.specs.ShapeLaws.{last_told}
use Rattle.mdmp_writer.specs.RecordTexts.{record_texts}
use Rattle.mdmp_writer.proofs.Causes.{handed, told_ok, uses_next, uses_none, uses_passed, uses_same, uses_then, uses_within}
use Rattle.mdmp_writer.proofs.Counting.{come_begin, come_next, come_none}
use Rattle.mdmp_writer.proofs.Loops.{asked_off, have_text, next_of, rest_begin, text_cut, text_done, text_off, text_put, text_stop, texts_first, texts_none}
use Rattle.mdmp_writer.proofs.record_texts.write_record_texts.Goals as goal

pub loop-left-init : goal.loop-left-init
loop-left-init g c = record {
  count = sym c.requires.count;
  have = c.requires.have;
  room = omega arith;
  last = λ none. c.requires.stray (omega (arith, none, c.requires.count));
  bytes = omega arith;
  uses = uses_within uses_none (omega arith) (omega arith);
  moves = g.met.V.DumpView.stays _;
  texts = λ xs known len. rest_begin _ (record_texts c.args.text c.args.at) xs _ _ known len;
  come = come_begin _ _;
}

pub write_record_text-requires-clause-has : goal.write_record_text-requires-clause-has
write_record_text-requires-clause-has g c =
    let gives = rw (told_ok c.next_record.result c.in_ok-fields.fields c.in_ok-fields.ensures.cases) at c.next_record.ensures.gives in
    (have_text c.args.text _ _ _ c.loop-left.invariant.have gives).0

pub write_record_text-requires-clause-room : goal.write_record_text-requires-clause-room
write_record_text-requires-clause-room g c =
    let gives = rw (told_ok c.next_record.result c.in_ok-fields.fields c.in_ok-fields.ensures.cases) at c.next_record.ensures.gives in
    let old = g.V.DumpView.cursor c.loop-left.view in
    let low : old.room < 2 ^ 64 - 1 = omega (arith, c.loop-left.invariant.room, c.requires.room) in
    omega (arith, (gives.room low).left, c.loop-left.invariant.room, c.requires.room)

pub returns-in_err-fields-clause-writes : goal.returns-in_err-fields-clause-writes
returns-in_err-fields-clause-writes g c xs known len = rw (handed c.from_residual.result _ c.from_residual.ensures.1) (text_stop _ _ _ _ c.loop-left.left _ (c.loop-left.invariant.texts xs known len))

pub returns-in_err-write_record_text-clause-writes : goal.returns-in_err-write_record_text-clause-writes
returns-in_err-write_record_text-clause-writes g c xs known len =
    let gives = rw (told_ok c.next_record.result c.in_ok-fields.fields c.in_ok-fields.ensures.cases) at c.next_record.ensures.gives in
    let old = g.V.DumpView.cursor c.loop-left.view in
    let new = g.V.DumpView.cursor c.next_record.new.self in
    let n = next_of old new c.in_ok-fields.fields c.loop-left.left _ (c.loop-left.invariant.texts xs known len) gives in
    rw (handed c.from_residual-in_err-write_record_text.result _ c.from_residual-in_err-write_record_text.ensures.1) (text_cut _ _ _ _ _ _ _ new c.in_ok-fields.fields c.loop-left.left n (texts_first c.args.text c.loop-left.place n.first n.others) (c.in_err-write_record_text.ensures.writes n.first n.parts n.sized n.same))

pub loop-left-preserved : goal.loop-left-preserved
loop-left-preserved g c =
    let at = c.loop-left.invariant in
    let t = c.args.text in
    let f = c.in_ok-fields.fields in
    let old = g.V.DumpView.cursor c.loop-left.view in
    let new = g.V.DumpView.cursor c.next_record.new.self in
    let now = g.V.DumpView.cursor c.write_record_text.new.view in
    let stays : now ≡ new = c.in_ok-write_record_text.ensures.cursor in
    let gives = rw (told_ok c.next_record.result c.in_ok-fields.fields c.in_ok-fields.ensures.cases) at c.next_record.ensures.gives in
    let few : old.room < 2 ^ 32 = omega (arith, at.room, c.requires.room) in
    let low : old.room < 2 ^ 64 - 1 = omega (arith, few) in
    let off = text_off t old new f at.have few gives in
    let asked = asked_off t (fields_bytes f) new.bytes old.bytes gives.bytes in
    record {
      count = rw stays (omega (arith, gives.records, at.count));
      have = rw stays ((have_text t old new f at.have gives).1);
      room = rw stays (omega (arith, (gives.room low).left, at.room, c.room.ensures.value));
      last = λ none. rw stays (off.last (omega (arith, none, gives.records, at.count)));
      bytes = rw stays (omega (arith, asked, at.bytes));
      uses = rw stays (uses_then
          (uses_next at.uses c.next_record.ensures.shape c.next_record.ensures.passed c.next_record.ensures.asked)
          c.in_ok-write_record_text.ensures.uses (omega arith) (omega (arith, asked, at.bytes)));
      moves = g.met.V.DumpView.follows _ _ _ at.moves (g.met.V.DumpView.follows _ _ _ c.next_record.ensures.moves c.write_record_text.ensures.moves);
      texts = λ xs known len.
          let n = next_of old new f c.loop-left.left _ (at.texts xs known len) gives in
          text_put _ _ _ _ _ _ _ new f c.loop-left.left n (texts_first t c.loop-left.place n.first n.others) now (record_texts t (c.loop-left.place + c.room.result)) _
          (rw c.room.ensures.value (ap (λ (h : Fields). record_texts t (c.loop-left.place + fields_room h) n.others) (sym n.same))) (omega arith) (ap (λ (k : StreamCursor). k.seen) stays)
          (c.in_ok-write_record_text.ensures.writes n.first n.parts n.sized n.same);
      come = rw stays (come_next _ _ _ _ _ _ _ off.left at.come c.in_ok-write_record_text.ensures.some);
    }

pub returns-clause-writes : goal.returns-clause-writes
returns-clause-writes g c xs known len =
    text_done _ _ _ _ c.loop-left.left _ (texts_none c.args.text c.loop-left.place) (omega arith) (c.loop-left.invariant.texts xs known len)

pub returns-clause-some : goal.returns-clause-some
returns-clause-some g c = come_none _ _ _ _ (c.loop-left.invariant.last (omega arith)) c.loop-left.invariant.come

pub returns-clause-uses : goal.returns-clause-uses
returns-clause-uses g c = uses_within c.loop-left.invariant.uses (omega arith) (omega arith)

pub returns-in_err-fields-clause-uses : goal.returns-in_err-fields-clause-uses
returns-in_err-fields-clause-uses g c =
    let of = c.next_record.ensures in
    let before = c.loop-left.invariant.uses in
    rw (handed c.from_residual.result _ c.from_residual.ensures.1)
    (uses_same {T = Fields} (uses_passed c.next_record.result (Err c.in_err-fields.field-0.0) c.in_err-fields.ensures.cases before of.shape of.reliable (omega (arith, before.passed, of.passed)) (omega (arith, before.asked, of.asked))
    (last_told _ _ c.next_record.result of.told)))

pub returns-in_err-write_record_text-clause-uses : goal.returns-in_err-write_record_text-clause-uses
returns-in_err-write_record_text-clause-uses g c =
    let gives = rw (told_ok c.next_record.result c.in_ok-fields.fields c.in_ok-fields.ensures.cases) at c.next_record.ensures.gives in
    let asked = asked_off c.args.text (fields_bytes c.in_ok-fields.fields) _ _ gives.bytes in
    rw (handed c.from_residual-in_err-write_record_text.result _ c.from_residual-in_err-write_record_text.ensures.1) (uses_then
    (uses_next c.loop-left.invariant.uses c.next_record.ensures.shape c.next_record.ensures.passed c.next_record.ensures.asked)
    c.in_err-write_record_text.ensures.uses (omega arith) (omega (arith, asked, c.loop-left.invariant.bytes)))

pub returns-in_err-fields-clause-moves : goal.returns-in_err-fields-clause-moves
returns-in_err-fields-clause-moves g c = g.met.V.DumpView.follows _ _ _ c.loop-left.invariant.moves c.next_record.ensures.moves

pub returns-in_err-write_record_text-clause-moves : goal.returns-in_err-write_record_text-clause-moves
returns-in_err-write_record_text-clause-moves g c =
    g.met.V.DumpView.follows _ _ _ c.loop-left.invariant.moves (g.met.V.DumpView.follows _ _ _ c.next_record.ensures.moves c.write_record_text.ensures.moves)
