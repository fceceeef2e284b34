use Rattle.std.proofs.Common.{rules}
use Rattle.mdmp_source.proofs.two_faces.TwoFacesStore.read_at.Goals as goal

pub returns-clause-face : goal.returns-clause-face
returns-clause-face c = search rules
