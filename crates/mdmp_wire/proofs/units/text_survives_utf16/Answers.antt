use Rattle.mdmp_wire.proofs.Utf16.{text_again}
use Rattle.mdmp_wire.proofs.units.text_survives_utf16.Goals as goal

pub returns : goal.returns
returns c = text_again c.args.text.now c.utf8.text
