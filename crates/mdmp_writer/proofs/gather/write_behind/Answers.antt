use Rattle.std.proofs.Common.{◌∙◌, ◌+◌, ◌-◌, ◌++◌, List, ℕ, ap, arith, length, length-take, take}
use Rattle.mdmp_source.proofs.Bytes.{take-put_mid_more}
use Rattle.mdmp_writer.proofs.gather.write_behind.Goals as goal

pub returns-clause-bytes : goal.returns-clause-bytes
returns-clause-bytes c =
    let wrote = c.write.ensures in
    take-put_mid_more c.args.buffer.now c.write.new.buffer c.args.held (c.args.held + 168 - c.args.held) c.write.result (omega (arith, c.requires)) wrote.within
    ∙ ap (λ (x : List ℕ). take c.args.held c.args.buffer.now ++ x) wrote.bytes

pub returns-clause-size : goal.returns-clause-size
returns-clause-size c =
    let wrote = c.write.ensures in
    omega (arith, ap (λ (x : List ℕ). length x) wrote.bytes, length-take c.write.result c.write.new.buffer, wrote.within, wrote.size)
