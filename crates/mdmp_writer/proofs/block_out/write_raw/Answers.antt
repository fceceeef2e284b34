use Rattle.std.proofs.Common.{◌∙◌, [], ◌∷◌, sym, ap}
use Rattle.mdmp_dump.specs.Shape.{StreamCursor, seen_at}
use Rattle.mdmp_writer.proofs.Blocks.{begun_parts, known_raw}
use Rattle.mdmp_writer.proofs.block_out.write_raw.Goals as goal

pub returns-in-Ok-clause-writes : goal.returns-in-Ok-clause-writes
returns-in-Ok-clause-writes g c x known =
    let s = g.V.DumpView.shape c.args.view.now in
    let k = c.args.stream in
    c.write_padded.ensures.writes ((seen_at x k).raw ∷ []) (ap (λ (u : StreamCursor). u.parts) c.in-Ok.ensures.begins ∙ begun_parts s x k known)
    (sym (known_raw s x k c.args.size (g.met.V.DumpView.sound c.args.view.now x known) c.requires.size))
