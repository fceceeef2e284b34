use Rattle.std.proofs.Common.{◌≡◌, ◌∙◌, ap, length, arith, set}
use Rattle.mdmp_c.specs.Giving.{put_front}
use Rattle.mdmp_c.proofs.Gathered.{length-put_front, put_front-set}
use Rattle.mdmp_c.proofs.collecting.set_row.Goals as goal

pub returns-then-at-out : goal.returns-then-at-out
returns-then-at-out g c = λ rows before stands index.
    let long : length c.args.out.now ≡ length before = ap length stands ∙ length-put_front rows before in
    let room = c.if-at-out.true in
    let at : c.args.at ≡ length rows = omega (arith, index, room, long) in
    ap (λ xs. set xs c.args.at c.args.row) stands ∙ ap (λ n. set (put_front rows before) n c.args.row) at
    ∙ put_front-set rows before c.args.row (omega (arith, at, room, long))
