use Rattle.std.proofs.Common.{arith, refl}
use Rattle.mdmp_dump.proofs.file_view.FileView.held.Goals as goal

pub overflow_add-result : goal.overflow_add-result
overflow_add-result g c = omega (arith, c.args.self.now.sound.light, c.held.ensures, c.from-entries.ensures)

pub returns : goal.returns
returns g c = record { value = rw (c.held.ensures, c.from-entries.ensures, c.header.ensures) refl }
