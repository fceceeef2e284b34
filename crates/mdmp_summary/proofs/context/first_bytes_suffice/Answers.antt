use Rattle.mdmp_summary.proofs.Contexts.{room_suffices}
use Rattle.mdmp_summary.proofs.context.first_bytes_suffice.Goals as goal

pub returns : goal.returns
returns c = room_suffices c.args.architecture c.args.bytes.now
