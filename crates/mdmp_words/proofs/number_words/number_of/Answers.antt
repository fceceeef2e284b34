use Rattle.std.proofs.Common.{◌≢◌, ◌∙◌, get_or, arith}
use Rattle.std.proofs.lemmas.Str.Pattern.{starts_char}
use Rattle.mdmp_words.proofs.WordLemmas.{read_number}
use Rattle.mdmp_words.proofs.number_words.number_of.Goals as goal

pub returns : goal.returns
returns c =
    let plus = starts_char 43 c.args.digits.now _ c.starts_with.ensures.cases (omega arith) (omega arith) in
    let plain : get_or c.args.digits.now 0 0 ≢ 43 = λ at. let yes = plus.1 at in cc in
    c.ok.ensures.value ∙ read_number c.args.base c.args.digits.now c.from_str_radix.result plain c.from_str_radix.ensures.value
