use Rattle.std.proofs.Common.{arith}
use Rattle.mdmp_print.proofs.BufferLemmas.{IsPutBehind-as}
use Rattle.mdmp_print.proofs.DigitPairs.{row_hex}
use Rattle.mdmp_print.proofs.hex.Hex2Piece.write_at.Goals as goal

pub returns : goal.returns
returns c = IsPutBehind-as (row_hex c.args.self.now.0 (omega arith)) (omega arith) c.text_at.ensures
