use Rattle.std.proofs.Common.{◌∙◌, sym, ap}
use Rattle.mdmp_dump.specs.Shape.{StreamCursor, seen_at, stream_at}
use Rattle.mdmp_writer.proofs.Blocks.{begun_seen, known_count}
use Rattle.mdmp_writer.proofs.Counting.{room_stray}
use Rattle.mdmp_writer.proofs.block_out.write_second_pass.Goals as goal

pub returns-in-Ok-clause-writes : goal.returns-in-Ok-clause-writes
returns-in-Ok-clause-writes g c x known =
    let s = g.V.DumpView.shape c.args.view.now in
    let k = c.args.stream in
    c.write_record_texts.ensures.writes (seen_at x k).records (ap (λ (u : StreamCursor). u.seen) c.in-Ok.ensures.begins ∙ begun_seen s x k known)
    (sym (known_count s x k c.args.count (g.met.V.DumpView.sound c.args.view.now x known) c.requires.count))

pub write_record_texts-requires-clause-stray : goal.write_record_texts-requires-clause-stray
write_record_texts-requires-clause-stray g c =
    let s = g.V.DumpView.shape c.args.view.now in
    let k = c.args.stream in
    rw c.in-Ok.ensures.begins (λ none. room_stray (stream_at s k) (g.met.V.DumpView.stray c.args.view.now k) none)

pub returns-in-Ok-clause-some : goal.returns-in-Ok-clause-some
returns-in-Ok-clause-some g c = rw c.in-Ok.ensures.begins at c.write_record_texts.ensures.some
