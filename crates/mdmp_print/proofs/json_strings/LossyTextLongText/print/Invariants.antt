use Rattle.std.specs.Str.Chunks.{utf8_chunks_rest}
use Rattle.std.specs.Str.Lossy.{utf8_lossy}
use Rattle.json.specs.Print.{escape}
use Rattle.mdmp_print.specs.Parts.{IsUnprinted}
use Rattle.mdmp_print.proofs.json_strings.LossyTextLongText.print.Given as goal

abbrev pub invariant-loop-chunk : goal.invariant-loop-chunk
invariant-loop-chunk g l =
    IsUnprinted (g.O.Printer.state l.fn.out) (escape (utf8_lossy l.self.0.now)) (escape (utf8_lossy (utf8_chunks_rest l.chunk-iterator))) (g.O.Printer.state l.out)
