use Rattle.std.proofs.Common.{◌≡◌, ◌<◌, ◌+◌, ◌-◌, ◌*◌, ◌^◌, min, ◌∙◌, List, ℕ, Bool, ap, arith, refl, subst, sym, if◌then◌else◌}
use Rattle.std.specs.Prelude.{false, true}
use Rattle.mdmp_dump.specs.Places.{up}
use Rattle.mdmp_dump.specs.Shape.{ViewShape, body_of, cost_at, is_far, stream_at}
use Rattle.mdmp_writer.specs.Gather.{Gathers, gathered}
use Rattle.mdmp_writer.specs.Layout.{far_size}
use Rattle.mdmp_writer.proofs.Blocks.{far_none, known_size}
use Rattle.mdmp_writer.proofs.Causes.{uses_asked, uses_none, uses_then, uses_within}
use Rattle.mdmp_writer.proofs.Counting.{far_kind, ok_is, some_is, some_none}
use Rattle.mdmp_writer.proofs.Sending.{puts_nothing}
use Rattle.mdmp_writer.proofs.far_out.write_far.Goals as goal

pub returns-clause-writes : goal.returns-clause-writes
returns-clause-writes g c x known =
    let before = gathered (g.O.Out.state c.args.out.now) c.args.gather.now in
    let s = g.V.DumpView.shape c.args.view.now in
    let kind = (stream_at s c.args.stream).kind in
    let near : is_far kind ≡ false = ap is_far (sym c.kind.ensures.kind) ∙ sym c.is_far.ensures ∙ c.if-is_far.false in
    let none = far_none s x c.args.stream kind (g.met.V.DumpView.sound c.args.view.now x known) refl near in
    subst (λ (text : List ℕ). Gathers before text before) (sym none) (puts_nothing before)

pub returns-clause-some : goal.returns-clause-some
returns-clause-some g c =
    let s = stream_at (g.V.DumpView.shape c.args.view.now) c.args.stream in
    let near : is_far s.kind ≡ false = ap is_far (sym c.kind.ensures.kind) ∙ sym c.is_far.ensures ∙ c.if-is_far.false in
    let none : far_size s ≡ 0 = ap (λ (b : Bool). up (if b then s.parts else 0)) near in
    some_is _ _ 0 (far_size s) (sym none) (some_none _)

pub returns-clause-uses : goal.returns-clause-uses
returns-clause-uses g c = uses_within (uses_asked uses_none c.kind.ensures.shape c.kind.ensures.spent) (omega arith) (omega arith)

pub write_memory-requires-clause-far : goal.write_memory-requires-clause-far
write_memory-requires-clause-far g c =
    let k = c.args.stream in
    ap (λ (u : ViewShape). is_far (stream_at u k).kind) (c.parts_size-size.ensures.shape ∙ c.body_size.ensures.shape ∙ c.kind.ensures.shape)
    ∙ ap is_far (sym c.kind.ensures.kind) ∙ sym c.is_far.ensures ∙ c.if-is_far.true

pub write_memory-requires-clause-count : goal.write_memory-requires-clause-count
write_memory-requires-clause-count g c =
    let k = c.args.stream in
    let s = stream_at (g.V.DumpView.shape c.args.view.now) k in
    let far : is_far s.kind ≡ true = ap is_far (sym c.kind.ensures.kind) ∙ sym c.is_far.ensures ∙ c.if-is_far.true in
    let whole : body_of s ≡ 16 + s.records * 16 = known_size s 9 (far_kind s.kind far) in
    let same : body_of (stream_at (g.V.DumpView.shape c.kind.new.self) k) ≡ body_of s = ap (λ (u : ViewShape). body_of (stream_at u k)) c.kind.ensures.shape in
    let told : c.body_size.result ≡ min (body_of s) (2 ^ 64 - 1) = c.body_size.ensures.size ∙ ap (λ (n : ℕ). min n (2 ^ 64 - 1)) same in
    let few : body_of s < 2 ^ 32 = c.requires.body in
    let body : c.body_size.result ≡ 16 + s.records * 16 = omega arith in
    c.count_of-count.ensures.count s.records body
    ∙ sym (ap (λ (u : ViewShape). (stream_at u k).records) (c.parts_size-size.ensures.shape ∙ c.body_size.ensures.shape ∙ c.kind.ensures.shape))

pub write_memory-requires-clause-size : goal.write_memory-requires-clause-size
write_memory-requires-clause-size g c =
    let k = c.args.stream in
    let s = stream_at (g.V.DumpView.shape c.args.view.now) k in
    let far : is_far s.kind ≡ true = ap is_far (sym c.kind.ensures.kind) ∙ sym c.is_far.ensures ∙ c.if-is_far.true in
    let size : far_size s ≡ up s.parts = ap (λ (b : Bool). up (if b then s.parts else 0)) far in
    let before = ap (λ (u : ViewShape). (stream_at u k).parts) (c.body_size.ensures.shape ∙ c.kind.ensures.shape) in
    let now = ap (λ (u : ViewShape). (stream_at u k).parts) (c.parts_size-size.ensures.shape ∙ c.body_size.ensures.shape ∙ c.kind.ensures.shape) in
    omega (arith, c.parts_size-size.ensures.size, before, now, size, c.requires.room)

pub returns-then-is_far-clause-uses : goal.returns-then-is_far-clause-uses
returns-then-is_far-clause-uses g c =
    let k = c.args.stream in
    let s = g.V.DumpView.shape c.args.view.now in
    let far : is_far (stream_at s k).kind ≡ true = ap is_far (sym c.kind.ensures.kind) ∙ sym c.is_far.ensures ∙ c.if-is_far.true in
    let same = c.parts_size-size.ensures.shape ∙ c.body_size.ensures.shape ∙ c.kind.ensures.shape in
    let asked = uses_asked (uses_asked (uses_asked uses_none c.kind.ensures.shape c.kind.ensures.spent) c.body_size.ensures.shape c.body_size.ensures.spent) c.parts_size-size.ensures.shape c.parts_size-size.ensures.spent in
    uses_then asked c.write_memory.ensures.uses
    (omega (arith, ap (λ (u : ViewShape). cost_at u k) same, ap (λ (b : Bool). if b then cost_at s k else 0) far))
    (omega (arith, ap (λ (u : ViewShape). (stream_at u k).bytes) same, ap (λ (b : Bool). if b then (stream_at s k).bytes else 0) far))

pub returns-then-is_far-clause-writes : goal.returns-then-is_far-clause-writes
returns-then-is_far-clause-writes g c x known =
    let same = c.parts_size-size.ensures.shape ∙ c.body_size.ensures.shape ∙ c.kind.ensures.shape in
    c.write_memory.ensures.writes x (ap (λ (u : ViewShape). u.seen) same ∙ known)

pub returns-then-is_far-clause-some : goal.returns-then-is_far-clause-some
returns-then-is_far-clause-some g c =
    let same = c.parts_size-size.ensures.shape ∙ c.body_size.ensures.shape ∙ c.kind.ensures.shape in
    ok_is c.write_memory.result _ _ _ _ (ap (λ (u : ViewShape). far_size (stream_at u c.args.stream)) same) c.write_memory.ensures.some

pub returns-then-is_far-clause-moves : goal.returns-then-is_far-clause-moves
returns-then-is_far-clause-moves g c = g.met.V.DumpView.follows _ _ _ (g.met.V.DumpView.follows _ _ _ (g.met.V.DumpView.follows _ _ _ c.kind.ensures.moves c.body_size.ensures.moves) c.parts_size-size.ensures.moves) c.write_memory.ensures.moves
