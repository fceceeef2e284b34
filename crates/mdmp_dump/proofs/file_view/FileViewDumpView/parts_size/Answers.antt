use Rattle.std.proofs.Common.{◌≡◌, ◌∙◌, get_or, arith}
use Rattle.std.proofs.lemmas.List.{get_or_read}
use Rattle.mdmp_dump.proofs.KnownViews.{inside_view, room_is_told}
use Rattle.mdmp_dump.proofs.file_view.FileViewDumpView.parts_size.Goals as goal

pub index-requires : goal.index-requires
index-requires g c =
    let s = c.args.self.now in
    let k = c.args.stream in
    let inside = inside_view g.row.A.Denot s.limit s.walk s.counts.items s.rooms.items s.sound.counted s.sound.roomed s.sound.of_file k c.requires in
    omega (arith, inside, s.sound.roomed)

pub returns-clause-size : goal.returns-clause-size
returns-clause-size g c =
    let s = c.args.self.now in
    let k = c.args.stream in
    let inside = inside_view g.row.A.Denot s.limit s.walk s.counts.items s.rooms.items s.sound.counted s.sound.roomed s.sound.of_file k c.requires in
    let room : c.index.result.now ≡ get_or s.rooms.items k 0 = get_or_read s.rooms.items _ _ (omega (arith, inside, s.sound.roomed)) c.index.ensures 0 in
    room ∙ room_is_told g.row.A.Denot s.limit s.walk s.counts.items s.rooms.items s.sound.counted s.sound.roomed s.sound.of_file k inside (omega (arith, room))
