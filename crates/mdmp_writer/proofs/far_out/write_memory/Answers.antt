use Rattle.std.proofs.Common.{◌≡◌, ◌∙◌, arith, length, refl, sym, ap}
use Rattle.mdmp_dump.specs.Places.{up}
use Rattle.mdmp_dump.specs.Shape.{StreamCursor, far_of, seen_at, stream_at}
use Rattle.mdmp_writer.specs.Gather.{gathered}
use Rattle.mdmp_writer.specs.Layout.{far_size}
use Rattle.mdmp_writer.specs.Written.{padding, ranges_text}
use Rattle.mdmp_writer.proofs.Blocks.{begun_seen, far_known, known_count}
use Rattle.mdmp_writer.proofs.Counting.{far_kind, far_stray, known_far, ok_of, ok_then}
use Rattle.mdmp_writer.proofs.Placing.{length-padding}
use Rattle.mdmp_writer.proofs.Sending.{cut_before, cut_same, writes_same, writes_then}
use Rattle.mdmp_writer.proofs.Causes.{handed, told_ok}
use Rattle.mdmp_writer.proofs.far_out.write_memory.Goals as goal

pub returns-clause-writes : goal.returns-clause-writes
returns-clause-writes g c x known =
    let begins = rw (told_ok c.rewind.result tt c.in_ok-map_err.ensures.cases) at c.rewind.ensures.begins in
    let state = g.O.Out.state in
    let s = g.V.DumpView.shape c.args.view.now in
    let k = c.args.stream in
    let xs = (seen_at x k).records in
    let sound = g.met.V.DumpView.sound c.args.view.now x known in
    let put = c.in_ok-write_record_texts.ensures.writes xs (ap (λ (u : StreamCursor). u.seen) begins ∙ begun_seen s x k known) (sym (known_count s x k c.args.count sound c.requires.count)) in
    writes_same c.write_padding.result (gathered (state c.args.out.now) c.args.gather.now) (gathered (state c.write_padding.new.out) c.write_padding.new.gather) _ _
    (far_known s x k c.args.size sound (far_kind _ c.requires.far) c.requires.size)
    (writes_then c.write_padding.result _ _ _ (ranges_text xs) (padding c.args.size) put c.write_padding.ensures.writes)

pub returns-in_err-write_record_texts-clause-writes : goal.returns-in_err-write_record_texts-clause-writes
returns-in_err-write_record_texts-clause-writes g c x known =
    let begins = rw (told_ok c.rewind.result tt c.in_ok-map_err.ensures.cases) at c.rewind.ensures.begins in
    let s = g.V.DumpView.shape c.args.view.now in
    let k = c.args.stream in
    let xs = (seen_at x k).records in
    let sound = g.met.V.DumpView.sound c.args.view.now x known in
    let cut = c.in_err-write_record_texts.ensures.writes xs (ap (λ (u : StreamCursor). u.seen) begins ∙ begun_seen s x k known) (sym (known_count s x k c.args.count sound c.requires.count)) in
    rw (handed c.from_residual-in_err-write_record_texts.result _ c.from_residual-in_err-write_record_texts.ensures.1) (cut_same _ _ _ _ (far_known s x k c.args.size sound (far_kind _ c.requires.far) c.requires.size) (cut_before _ _ (ranges_text xs) (padding c.args.size) cut))

pub write_record_texts-requires-clause-stray : goal.write_record_texts-requires-clause-stray
write_record_texts-requires-clause-stray g c =
    let begins = rw (told_ok c.rewind.result tt c.in_ok-map_err.ensures.cases) at c.rewind.ensures.begins in
    let s = g.V.DumpView.shape c.args.view.now in
    let k = c.args.stream in
    let stray = g.met.V.DumpView.stray c.args.view.now k in
    rw begins (λ none. far_stray (stream_at s k) stray none)

pub write_record_texts-requires-clause-have : goal.write_record_texts-requires-clause-have
write_record_texts-requires-clause-have g c =
    let begins = rw (told_ok c.rewind.result tt c.in_ok-map_err.ensures.cases) at c.rewind.ensures.begins in
    let s = stream_at (g.V.DumpView.shape c.args.view.now) c.args.stream in
    let far : far_of s ≡ c.args.size = known_far s (far_kind _ c.requires.far) ∙ sym c.requires.size in
    rw begins (c.requires.far, omega (arith, c.requires.room, far))

pub returns-clause-some : goal.returns-clause-some
returns-clause-some g c =
    let begins = rw (told_ok c.rewind.result tt c.in_ok-map_err.ensures.cases) at c.rewind.ensures.begins in
    let s = stream_at (g.V.DumpView.shape c.args.view.now) c.args.stream in
    let far : far_of s ≡ c.args.size = known_far s (far_kind _ c.requires.far) ∙ sym c.requires.size in
    let rest = length (padding c.args.size) in
    let some = rw begins at c.in_ok-write_record_texts.ensures.some in
    ok_then c.write_padding.result _ _ _ (far_of s) rest (far_size s) (omega (arith, length-padding c.args.size, far, ap up far)) some
    (ok_of c.write_padding.result _ _ (padding c.args.size) rest refl c.write_padding.ensures.writes)

pub returns-clause-moves : goal.returns-clause-moves
returns-clause-moves g c = g.met.V.DumpView.follows _ _ _ c.rewind.ensures.moves c.in_ok-write_record_texts.ensures.moves

pub returns-in_err-write_record_texts-clause-moves : goal.returns-in_err-write_record_texts-clause-moves
returns-in_err-write_record_texts-clause-moves g c = g.met.V.DumpView.follows _ _ _ c.rewind.ensures.moves c.in_err-write_record_texts.ensures.moves
