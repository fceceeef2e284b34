use Rattle.std.proofs.Common.{◌∙◌, ap, subst, sym}
use Rattle.mdmp_wire.specs.declared.entry.Entry.{Entry}
use Rattle.mdmp_dump.specs.EntryWalk.{WalkState, kind_by}
use Rattle.mdmp_dump.specs.FileView.{IsView}
use Rattle.mdmp_dump.proofs.KnownViews.{inside_view, kind_told}
use Rattle.mdmp_dump.proofs.file_view.FileViewDumpView.kind.Goals as goal

pub entry-requires : goal.entry-requires
entry-requires g c =
    let s = c.args.self.now in
    let k = c.args.stream in
    let inside = inside_view g.row.A.Denot s.limit s.walk s.counts.items s.rooms.items s.sound.counted s.sound.roomed s.sound.of_file k c.requires in
    inside

pub invariant_of-self : goal.invariant_of-self
invariant_of-self g c =
    let s = c.args.self.now in
    record { sound = subst (λ (w : WalkState). IsView g.row.A.Denot s.limit w s.counts.items s.rooms.items s.pass s.passed s.asked s.last) (sym c.entry.ensures.same) s.sound }

pub returns-clause-kind : goal.returns-clause-kind
returns-clause-kind g c =
    let s = c.args.self.now in
    let k = c.args.stream in
    let inside = inside_view g.row.A.Denot s.limit s.walk s.counts.items s.rooms.items s.sound.counted s.sound.roomed s.sound.of_file k c.requires in
    c.kind_of.ensures ∙ ap (λ (e : Entry). kind_by e.stream_type) c.entry.ensures.value
    ∙ kind_told g.row.A.Denot s.limit s.walk s.counts.items s.rooms.items s.sound.counted s.sound.roomed s.sound.of_file k inside
