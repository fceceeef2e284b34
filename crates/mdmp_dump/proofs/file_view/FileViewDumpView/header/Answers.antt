use Rattle.mdmp_dump.proofs.KnownViews.{header_of_shape, header_told}
use Rattle.mdmp_dump.proofs.file_view.FileViewDumpView.header.Goals as goal

pub returns-clause-header : goal.returns-clause-header
returns-clause-header g c =
    let s = c.args.self.now in
    λ x. header_told g.row.A.Denot s.limit s.walk s.counts.items s.rooms.items s.sound.counted s.sound.roomed s.sound.of_file c.header-header.result x c.header-header.ensures

pub returns-clause-told : goal.returns-clause-told
returns-clause-told g c =
    let s = c.args.self.now in
    header_of_shape g.row.A.Denot s.limit s.walk s.counts.items s.rooms.items s.sound.counted s.sound.roomed s.sound.of_file c.header-header.result c.header-header.ensures
