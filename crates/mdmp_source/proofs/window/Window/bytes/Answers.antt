use Rattle.std.proofs.Common.{rules}
use Rattle.mdmp_source.proofs.window.Window.bytes.Goals as goal

pub returns : goal.returns
returns g c = search rules
