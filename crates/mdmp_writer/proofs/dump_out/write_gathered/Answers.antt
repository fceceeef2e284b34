use Rattle.std.proofs.Common.{◌≡◌, ◌+◌, ◌*◌, ◌++◌, ◌∙◌, ap, arith, sym, length, Some}
use Rattle.mdmp_wire.specs.Header.{header_bytes}
use Rattle.mdmp_dump.specs.Shape.{ViewShape}
use Rattle.mdmp_dump.specs.View.{DumpSeen}
use Rattle.mdmp_writer.specs.Layout.{blocks_end, blocks_size, fars_size, first_block}
use Rattle.mdmp_writer.specs.Passes.{all_asks, all_passes}
use Rattle.mdmp_writer.specs.Written.{blocks, directory, far_texts, header_of, seen_text}
use Rattle.mdmp_writer.proofs.Causes.{handed, uses_asked, uses_none, uses_out, uses_sent, uses_then, uses_within}
use Rattle.mdmp_writer.proofs.Counting.{dump_then, ok_is}
use Rattle.mdmp_writer.proofs.Sending.{cut_before, cut_behind, cut_same, puts_puts, writes_same, writes_then}
use Rattle.mdmp_writer.proofs.Streaming.{text_parts}
use Rattle.mdmp_writer.proofs.dump_out.write_gathered.Given.{Over}
use Rattle.mdmp_writer.proofs.dump_out.write_gathered.Goals.{After-write_header}
use Rattle.mdmp_writer.proofs.dump_out.write_gathered.Goals as goal

-- what is written, in the order of the calls
is_text : (g : Over) (c : After-write_header g) (x : DumpSeen) → (g.V.DumpView.shape c.args.view.now).seen ≡ Some x
    → seen_text x ≡ header_bytes (header_of c.header-header.result c.streams-streams.result) ++ directory (g.V.DumpView.shape c.streams-streams.new.self).streams (32 + 12 * c.streams-streams.result)
    ++ (blocks x.streams (32 + 12 * c.streams-streams.result) c.args.ends.blocks ++ far_texts x.streams)
is_text g c x known =
    let s = g.V.DumpView.shape c.streams-streams.new.self in
    let same : s ≡ g.V.DumpView.shape c.args.view.now = c.streams-streams.ensures.shape ∙ c.header-header.ensures.shape in
    let here : s.seen ≡ Some x = ap (λ (t : ViewShape). t.seen) same ∙ known in
    let count : c.streams-streams.result ≡ length s.streams = c.streams-streams.ensures.count ∙ ap (λ (t : ViewShape). length t.streams) (sym c.streams-streams.ensures.shape) in
    let first = 32 + 12 * c.streams-streams.result in
    let at : first ≡ first_block s.streams = omega (arith, count) in
    let far : c.args.ends.blocks ≡ blocks_end s.streams = c.requires.ends.blocks ∙ ap (λ (t : ViewShape). blocks_end t.streams) (sym same) in
    text_parts s x c.header-header.result c.streams-streams.result first c.args.ends.blocks (g.met.V.DumpView.sound c.streams-streams.new.self x here) (c.header-header.ensures.header x known) count at far

pub returns-clause-writes : goal.returns-clause-writes
returns-clause-writes g c x known all =
    let head = header_bytes (header_of c.header-header.result c.streams-streams.result) in
    let entries = directory (g.V.DumpView.shape c.streams-streams.new.self).streams (32 + 12 * c.streams-streams.result) in
    let rest = blocks x.streams (32 + 12 * c.streams-streams.result) c.args.ends.blocks ++ far_texts x.streams in
    writes_same c.write_streams.result _ _ _ _ (is_text g (goal.at.returns-clause-writes g c).After-write_header x known)
    (writes_then c.write_streams.result _ _ _ (head ++ entries) rest (puts_puts _ _ _ head entries c.in_ok-write_header.ensures.writes c.in_ok-write_directory.ensures.writes)
    (c.write_streams.ensures.writes x (ap (λ (t : ViewShape). t.seen) (c.write_directory.ensures.shape ∙ c.streams-streams.ensures.shape ∙ c.header-header.ensures.shape) ∙ known) all))

pub returns-in_err-write_directory-clause-writes : goal.returns-in_err-write_directory-clause-writes
returns-in_err-write_directory-clause-writes g c x known all =
    let head = header_bytes (header_of c.header-header.result c.streams-streams.result) in
    let entries = directory (g.V.DumpView.shape c.streams-streams.new.self).streams (32 + 12 * c.streams-streams.result) in
    rw (handed c.from_residual-in_err-write_directory.result _ c.from_residual-in_err-write_directory.ensures.1) (cut_same _ _ _ _ (is_text g (goal.at.returns-in_err-write_directory-clause-writes g c).After-write_header x known)
    (cut_before _ _ (head ++ entries) _ (cut_behind _ _ _ head entries c.in_ok-write_header.ensures.writes c.in_err-write_directory.ensures.writes)))

pub returns-in_err-write_header-clause-writes : goal.returns-in_err-write_header-clause-writes
returns-in_err-write_header-clause-writes g c x known all =
    rw (handed c.from_residual.result _ c.from_residual.ensures.1) (cut_same _ _ _ _ (is_text g (goal.at.returns-in_err-write_header-clause-writes g c).After-write_header x known)
    (cut_before _ _ _ _ (cut_before _ _ (header_bytes (header_of c.header-header.result c.streams-streams.result)) _ c.in_err-write_header.ensures.writes)))

pub returns-clause-out : goal.returns-clause-out
returns-clause-out g c =
    let old = g.V.DumpView.shape c.args.view.now in
    let s = g.V.DumpView.shape c.streams-streams.new.self in
    let same : s ≡ old = c.streams-streams.ensures.shape ∙ c.header-header.ensures.shape in
    let count : c.streams-streams.result ≡ length old.streams = c.streams-streams.ensures.count ∙ ap (λ (t : ViewShape). length t.streams) c.header-header.ensures.shape in
    let first = 32 + 12 * c.streams-streams.result in
    let at : first ≡ first_block old.streams = omega (arith, count) in
    let entries = rw (ap (λ (t : ViewShape). t.streams) same, at) at c.in_ok-write_directory.ensures.writes in
    let head = rw (c.header-header.ensures.told, count) at c.in_ok-write_header.ensures.writes in
    let behind = ap (λ (t : ViewShape). blocks_size t.streams + fars_size t.streams) (c.write_directory.ensures.shape ∙ same) in
    dump_then c.write_streams.result _ _ _ _ old head entries (ok_is c.write_streams.result _ _ _ _ behind c.write_streams.ensures.some)

pub returns-clause-uses : goal.returns-clause-uses
returns-clause-uses g c =
    let asked = uses_asked uses_none (c.streams-streams.ensures.shape ∙ c.header-header.ensures.shape) (c.streams-streams.ensures.spent ∙ c.header-header.ensures.spent) in
    let head = uses_sent {o = g.O.Out.state c.write_header.new.out} asked c.in_ok-write_header.ensures.cause in
    let same = c.write_directory.ensures.shape ∙ c.streams-streams.ensures.shape ∙ c.header-header.ensures.shape in
    uses_then
    (uses_sent (uses_asked head c.write_directory.ensures.shape c.write_directory.ensures.spent) c.in_ok-write_directory.ensures.cause)
    c.write_streams.ensures.uses (omega (arith, ap (λ (t : ViewShape). all_passes t) same)) (omega (arith, ap (λ (t : ViewShape). all_asks t) same))

pub returns-in_err-write_directory-clause-uses : goal.returns-in_err-write_directory-clause-uses
returns-in_err-write_directory-clause-uses g c =
    let asked = uses_asked uses_none (c.streams-streams.ensures.shape ∙ c.header-header.ensures.shape) (c.streams-streams.ensures.spent ∙ c.header-header.ensures.spent) in
    let head = uses_sent {o = g.O.Out.state c.write_header.new.out} asked c.in_ok-write_header.ensures.cause in
    rw (handed c.from_residual-in_err-write_directory.result _ c.from_residual-in_err-write_directory.ensures.1) (uses_within (uses_out (uses_asked head c.write_directory.ensures.shape c.write_directory.ensures.spent) c.in_err-write_directory.ensures.cause) (omega arith) (omega arith))

pub returns-in_err-write_header-clause-uses : goal.returns-in_err-write_header-clause-uses
returns-in_err-write_header-clause-uses g c =
    let asked = uses_asked uses_none (c.streams-streams.ensures.shape ∙ c.header-header.ensures.shape) (c.streams-streams.ensures.spent ∙ c.header-header.ensures.spent) in
    rw (handed c.from_residual.result _ c.from_residual.ensures.1) (uses_within (uses_out asked c.in_err-write_header.ensures.cause) (omega arith) (omega arith))

pub returns-clause-moves : goal.returns-clause-moves
returns-clause-moves g c = g.met.V.DumpView.follows _ _ _ (g.met.V.DumpView.follows _ _ _ (g.met.V.DumpView.follows _ _ _ c.header-header.ensures.moves c.streams-streams.ensures.moves) c.write_directory.ensures.moves) c.write_streams.ensures.moves

pub returns-in_err-write_directory-clause-moves : goal.returns-in_err-write_directory-clause-moves
returns-in_err-write_directory-clause-moves g c =
    g.met.V.DumpView.follows _ _ _ (g.met.V.DumpView.follows _ _ _ c.header-header.ensures.moves c.streams-streams.ensures.moves) c.write_directory.ensures.moves

pub returns-in_err-write_header-clause-moves : goal.returns-in_err-write_header-clause-moves
returns-in_err-write_header-clause-moves g c = g.met.V.DumpView.follows _ _ _ c.header-header.ensures.moves c.streams-streams.ensures.moves
