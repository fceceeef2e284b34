use Rattle.std.proofs.Common.{◌∙◌, ap}
use Rattle.mdmp_c.specs.FaultText.{words_of}
use Rattle.mdmp_c.proofs.Worded.{words_back}
use Rattle.mdmp_c.proofs.fault_text.mdmp_fault_text_.Goals as goal

pub returns-clause-words : goal.returns-clause-words
returns-clause-words c = λ f fits is. ap words_of is ∙ words_back f fits
