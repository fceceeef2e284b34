use Rattle.std.proofs.Common.{take}
use Rattle.mdmp_writer.proofs.Sending.{puts_sent}
use Rattle.mdmp_writer.proofs.gather.send_front.Goals as goal

pub returns-clause-puts : goal.returns-clause-puts
returns-clause-puts g c =
    puts_sent _ _ (take c.args.held c.args.buffer.now) _ c.send-sent.result c.send-sent.ensures.took c.move_front.ensures.bytes
