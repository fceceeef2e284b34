use Rattle.mdmp_words.specs.CommandLine.{check_command, copy_command, hex_command, list_command, summary_command}
use Rattle.mdmp_words.proofs.command_line.command_line.Goals as goal

pub returns : goal.returns
returns c =
    let made1 = c.with_command-made.ensures _ summary_command c.program.ensures c.summary_command.ensures.shape c.summary_command.ensures.local in
    let made2 = c.with_command-made-2.ensures _ check_command made1 c.check_command.ensures.shape c.check_command.ensures.local in
    let made3 = c.with_command-made-3.ensures _ list_command made2 c.list_command.ensures.shape c.list_command.ensures.local in
    let made4 = c.with_command-made-4.ensures _ hex_command made3 c.hex_command.ensures.shape c.hex_command.ensures.local in
    c.with_command.ensures _ copy_command made4 c.copy_command.ensures.shape c.copy_command.ensures.local
