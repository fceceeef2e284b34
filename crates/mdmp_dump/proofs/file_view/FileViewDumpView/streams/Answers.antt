use Rattle.std.proofs.Common.{◌≡◌, ◌∙◌, length, sym, arith}
use Rattle.mdmp_dump.proofs.KnownViews.{streams_are}
use Rattle.mdmp_dump.proofs.file_view.FileViewDumpView.streams.Goals as goal

pub returns-clause-count : goal.returns-clause-count
returns-clause-count g c =
    let s = c.args.self.now in
    let len : c.len.result ≡ length s.counts.items = omega (arith, c.len.ensures, s.counts.ok.0) in
    len ∙ s.sound.counted ∙ sym (streams_are g.row.A.Denot s.limit s.walk s.counts.items s.rooms.items s.sound.counted s.sound.roomed s.sound.of_file)
