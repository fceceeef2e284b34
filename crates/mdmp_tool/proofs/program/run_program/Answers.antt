use Rattle.std.specs.IoError.{error_kind}
use Rattle.mdmp_tool.specs.Program.{words_behind}
use Rattle.mdmp_tool.proofs.Wording.{somehow}
use Rattle.mdmp_tool.proofs.program.run_program.Goals as goal

pub returns : goal.returns
returns g c =
    somehow g.row.A.Denot c.match-args.args (λ given. words_behind given.items) error_kind c.run_args.new.disk.requests _ c.new.ensures _ _ c.run_args.result c.run_args.ensures.given c.run_args.ensures.unread
