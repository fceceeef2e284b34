use Rattle.std.proofs.Common.{◌≡◌, ◌∙◌, List, ℕ, ap, arith, subst, sym}
use Rattle.mdmp_dump.specs.Places.{up}
use Rattle.mdmp_dump.specs.declared.view.Kind.TheVariants.{Raw, Unused}
use Rattle.mdmp_dump.specs.Shape.{body_of, seen_at, stream_at}
use Rattle.mdmp_writer.specs.Gather.{Gathers, gathered}
use Rattle.mdmp_writer.proofs.Blocks.{block_raw, block_unused, known_kind, none_of_raw, none_of_unused, raw_size}
use Rattle.mdmp_writer.specs.Layout.{block_size}
use Rattle.mdmp_writer.proofs.Causes.{uses_within}
use Rattle.mdmp_writer.proofs.Counting.{ok_is, raw_block, some_is, some_none, unused_block}
use Rattle.mdmp_writer.proofs.Sending.{puts_nothing, writes_same}
use Rattle.mdmp_writer.proofs.Sums.{room_body, room_kind}
use Rattle.mdmp_writer.proofs.block_out.write_block.Goals as goal

pub returns-in-Unused-clause-writes : goal.returns-in-Unused-clause-writes
returns-in-Unused-clause-writes g c x known only =
    let before = gathered (g.O.Out.state c.args.out.now) c.args.gather.now in
    let s = g.V.DumpView.shape c.args.view.now in
    let k = c.args.stream in
    let told : (stream_at s k).kind ≡ Unused = sym (room_kind (stream_at s k) c.args.room c.requires.room) ∙ c.in-Unused.is in
    let is = known_kind s x k Unused (g.met.V.DumpView.sound c.args.view.now x known) told in
    subst (λ (t : List ℕ). Gathers before t before) (sym (block_unused (seen_at x k) c.args.place.at c.args.place.far is (none_of_unused (seen_at x k) is only)))
    (puts_nothing before)

pub returns-in-Raw-clause-writes : goal.returns-in-Raw-clause-writes
returns-in-Raw-clause-writes g c x known only =
    let state = g.O.Out.state in
    let s = g.V.DumpView.shape c.args.view.now in
    let k = c.args.stream in
    let t = c.in-Raw.field-0 in
    let told : (stream_at s k).kind ≡ Raw t = sym (room_kind (stream_at s k) c.args.room c.requires.room) ∙ c.in-Raw.is in
    let is = known_kind s x k (Raw t) (g.met.V.DumpView.sound c.args.view.now x known) told in
    writes_same c.write_raw.result (gathered (state c.args.out.now) c.args.gather.now) (gathered (state c.write_raw.new.out) c.write_raw.new.gather) _ _
    (block_raw (seen_at x k) t c.args.place.at c.args.place.far is (none_of_raw (seen_at x k) t is only)) (c.write_raw.ensures.writes x known)

pub returns-in-Unused-clause-some : goal.returns-in-Unused-clause-some
returns-in-Unused-clause-some g c =
    let k = c.args.stream in
    let s = stream_at (g.V.DumpView.shape c.args.view.now) k in
    let is : s.kind ≡ Unused = sym (room_kind s c.args.room c.requires.room) ∙ c.in-Unused.is in
    some_is _ _ 0 (block_size s) (sym (unused_block s is (g.met.V.DumpView.stray c.args.view.now k))) (some_none _)

pub returns-in-Raw-clause-some : goal.returns-in-Raw-clause-some
returns-in-Raw-clause-some g c =
    let k = c.args.stream in
    let s = stream_at (g.V.DumpView.shape c.args.view.now) k in
    let is : s.kind ≡ Raw c.in-Raw.field-0 = sym (room_kind s c.args.room c.requires.room) ∙ c.in-Raw.is in
    let told : c.args.room.body ≡ body_of s = room_body s c.args.room c.requires.room in
    ok_is c.write_raw.result _ _ (up c.args.room.body) (block_size s) (ap up told ∙ sym (raw_block s c.in-Raw.field-0 is (g.met.V.DumpView.stray c.args.view.now k))) c.write_raw.ensures.some

pub write_raw-requires-clause-size : goal.write_raw-requires-clause-size
write_raw-requires-clause-size g c =
    let s = stream_at (g.V.DumpView.shape c.args.view.now) c.args.stream in
    let is : s.kind ≡ Raw c.in-Raw.field-0 = sym (room_kind s c.args.room c.requires.room) ∙ c.in-Raw.is in
    room_body s c.args.room c.requires.room ∙ raw_size s c.in-Raw.field-0 is

pub write_records-requires-clause-kind : goal.write_records-requires-clause-kind
write_records-requires-clause-kind g c = sym (room_kind (stream_at (g.V.DumpView.shape c.args.view.now) c.args.stream) c.args.room c.requires.room) ∙ c.in-Known.is

pub returns-in-Raw-clause-uses : goal.returns-in-Raw-clause-uses
returns-in-Raw-clause-uses g c =
    let s = stream_at (g.V.DumpView.shape c.args.view.now) c.args.stream in
    let is : s.kind ≡ Raw c.in-Raw.field-0 = sym (room_kind s c.args.room c.requires.room) ∙ c.in-Raw.is in
    let raw = room_body s c.args.room c.requires.room ∙ raw_size s c.in-Raw.field-0 is in
    uses_within c.write_raw.ensures.uses (omega arith) (omega (arith, raw))
