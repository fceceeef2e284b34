use Rattle.std.proofs.Common.{◌≡◌, ◌∙◌, get_or, ap, subst, sym, arith}
use Rattle.std.proofs.lemmas.List.{get_or_read}
use Rattle.mdmp_wire.specs.declared.entry.Entry.{Entry}
use Rattle.mdmp_dump.specs.EntryWalk.{WalkState, chosen_entry, kind_by}
use Rattle.mdmp_dump.specs.FileView.{HasMoved, IsView, file_cursor, file_shape}
use Rattle.mdmp_dump.specs.FileViewLaws.{view_stays}
use Rattle.mdmp_dump.specs.declared.view.Kind.TheVariants as kinds
use Rattle.mdmp_dump.specs.Shape.{body_by}
use Rattle.mdmp_dump.proofs.FileViews.{known_body, raw_body, unused_body}
use Rattle.mdmp_dump.proofs.KnownViews.{body_told, inside_view}
use Rattle.mdmp_dump.proofs.file_view.FileViewDumpView.body_size.Goals as goal

pub entry-entry-requires : goal.entry-entry-requires
entry-entry-requires g c =
    let s = c.args.self.now in
    let k = c.args.stream in
    let inside = inside_view g.row.A.Denot s.limit s.walk s.counts.items s.rooms.items s.sound.counted s.sound.roomed s.sound.of_file k c.requires in
    inside

pub index-count-requires : goal.index-count-requires
index-count-requires g c =
    let s = c.args.self.now in
    let k = c.args.stream in
    let inside = inside_view g.row.A.Denot s.limit s.walk s.counts.items s.rooms.items s.sound.counted s.sound.roomed s.sound.of_file k c.requires in
    omega (arith, inside, s.sound.counted)

pub invariant_of-self : goal.invariant_of-self
invariant_of-self g c =
    let s = c.args.self.now in
    record { sound = subst (λ (w : WalkState). IsView g.row.A.Denot s.limit w s.counts.items s.rooms.items s.pass s.passed s.asked s.last) (sym c.entry-entry.ensures.same) s.sound }

pub returns-in-Unused-clause-size : goal.returns-in-Unused-clause-size
returns-in-Unused-clause-size g c =
    let s = c.args.self.now in
    let k = c.args.stream in
    let inside = inside_view g.row.A.Denot s.limit s.walk s.counts.items s.rooms.items s.sound.counted s.sound.roomed s.sound.of_file k c.requires in
    let entry = c.entry-entry.ensures.value in
    let body = body_told g.row.A.Denot s.limit s.walk s.counts.items s.rooms.items s.sound.counted s.sound.roomed s.sound.of_file k inside in
    let n = get_or s.counts.items k 0 in
    let r = get_or s.rooms.items k 0 in
    unused_body (chosen_entry s.walk k) n r (ap (λ (e : Entry). kind_by e.stream_type) (sym entry) ∙ sym c.in-Unused.ensures) ∙ body

pub returns-in-Known-clause-size : goal.returns-in-Known-clause-size
returns-in-Known-clause-size g c =
    let s = c.args.self.now in
    let k = c.args.stream in
    let inside = inside_view g.row.A.Denot s.limit s.walk s.counts.items s.rooms.items s.sound.counted s.sound.roomed s.sound.of_file k c.requires in
    let entry = c.entry-entry.ensures.value in
    let count : c.index-count.result.now ≡ get_or s.counts.items k 0 = get_or_read s.counts.items _ _ (omega (arith, inside, s.sound.counted)) c.index-count.ensures 0 in
    let body = body_told g.row.A.Denot s.limit s.walk s.counts.items s.rooms.items s.sound.counted s.sound.roomed s.sound.of_file k inside in
    let n = get_or s.counts.items k 0 in
    let r = get_or s.rooms.items k 0 in
    let t = c.in-Known.stream_type in
    known_body (chosen_entry s.walk k) t n r c.records_size.result (ap (λ (e : Entry). kind_by e.stream_type) (sym entry) ∙ sym c.in-Known.ensures)
    (c.records_size.ensures.value ∙ ap (λ m. body_by (kinds.Known t) m 0) count) (omega (arith, c.records_size.ensures.bound))
    ∙ body

pub returns-in-Raw-clause-size : goal.returns-in-Raw-clause-size
returns-in-Raw-clause-size g c =
    let s = c.args.self.now in
    let k = c.args.stream in
    let inside = inside_view g.row.A.Denot s.limit s.walk s.counts.items s.rooms.items s.sound.counted s.sound.roomed s.sound.of_file k c.requires in
    let entry = c.entry-entry.ensures.value in
    let body = body_told g.row.A.Denot s.limit s.walk s.counts.items s.rooms.items s.sound.counted s.sound.roomed s.sound.of_file k inside in
    let n = get_or s.counts.items k 0 in
    let r = get_or s.rooms.items k 0 in
    raw_body (chosen_entry s.walk k) c.in-Raw.field-0 n r c.from.result (ap (λ (e : Entry). kind_by e.stream_type) (sym entry) ∙ sym c.in-Raw.ensures)
    (c.from.ensures ∙ ap (λ (e : Entry). e.location.size) entry) (omega arith)
    ∙ body

pub returns-in-Unused-clause-shape : goal.returns-in-Unused-clause-shape
returns-in-Unused-clause-shape g c =
    let s = c.args.self.now in
    ap (λ (w : WalkState). file_shape g.row.A.Denot w s.counts.items s.rooms.items) c.entry-entry.ensures.same

pub returns-in-Unused-clause-cursor : goal.returns-in-Unused-clause-cursor
returns-in-Unused-clause-cursor g c =
    let s = c.args.self.now in
    ap (λ (w : WalkState). file_cursor g.row.A.Denot w s.pass) c.entry-entry.ensures.same

pub returns-in-Unused-clause-moves : goal.returns-in-Unused-clause-moves
returns-in-Unused-clause-moves g c =
    let s = c.args.self.now in
    subst (λ (w : WalkState). HasMoved s.walk s.last w s.last) (sym c.entry-entry.ensures.same) (view_stays s.walk s.last)

pub returns-in-Known-clause-shape : goal.returns-in-Known-clause-shape
returns-in-Known-clause-shape g c =
    let s = c.args.self.now in
    ap (λ (w : WalkState). file_shape g.row.A.Denot w s.counts.items s.rooms.items) c.entry-entry.ensures.same

pub returns-in-Known-clause-cursor : goal.returns-in-Known-clause-cursor
returns-in-Known-clause-cursor g c =
    let s = c.args.self.now in
    ap (λ (w : WalkState). file_cursor g.row.A.Denot w s.pass) c.entry-entry.ensures.same

pub returns-in-Known-clause-moves : goal.returns-in-Known-clause-moves
returns-in-Known-clause-moves g c =
    let s = c.args.self.now in
    subst (λ (w : WalkState). HasMoved s.walk s.last w s.last) (sym c.entry-entry.ensures.same) (view_stays s.walk s.last)

pub returns-in-Raw-clause-shape : goal.returns-in-Raw-clause-shape
returns-in-Raw-clause-shape g c =
    let s = c.args.self.now in
    ap (λ (w : WalkState). file_shape g.row.A.Denot w s.counts.items s.rooms.items) c.entry-entry.ensures.same

pub returns-in-Raw-clause-cursor : goal.returns-in-Raw-clause-cursor
returns-in-Raw-clause-cursor g c =
    let s = c.args.self.now in
    ap (λ (w : WalkState). file_cursor g.row.A.Denot w s.pass) c.entry-entry.ensures.same

pub returns-in-Raw-clause-moves : goal.returns-in-Raw-clause-moves
returns-in-Raw-clause-moves g c =
    let s = c.args.self.now in
    subst (λ (w : WalkState). HasMoved s.walk s.last w s.last) (sym c.entry-entry.ensures.same) (view_stays s.walk s.last)
