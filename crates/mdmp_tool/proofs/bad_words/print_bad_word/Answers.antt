use Rattle.std.proofs.Common.{ℕ, List, subst, sym}
use Rattle.std.proofs.lemmas.Result.{MatchResult-from_err}
use Rattle.mdmp_source.specs.Output.{Puts, PutsAll, PutsPrefix}
use Rattle.mdmp_source.specs.OutputLaws.{Puts-behind, PutsPrefix-front}
use Rattle.mdmp_tool.specs.BadWordText.{hint_line, meant_type}
use Rattle.mdmp_tool.specs.Shown.{shown}
use Rattle.mdmp_tool.proofs.BadLines.{before_hint, in_two}
use Rattle.mdmp_tool.proofs.bad_words.print_bad_word.Goals as goal

pub returns-in_err-print_around : goal.returns-in_err-print_around
returns-in_err-print_around g c =
    let place = c.args.place in
    let word = c.args.word.now in
    let old = g.O.Printer.state c.args.out.now in
    let new = g.O.Printer.state c.print_around.new.out in
    let cut : PutsPrefix old (before_hint place (shown word)) new =
    subst (λ (w : List ℕ). PutsPrefix old (before_hint place (shown w)) new) c.as_bytes.ensures.value c.in_err-print_around.ensures in
    MatchResult-from_err _ _ _ c.from_residual.ensures.0
    (λ _. subst (λ (text : List ℕ). PutsPrefix old text new) (sym (in_two place word)) (PutsPrefix-front old new (before_hint place (shown word)) (hint_line (meant_type place word)) cut))

pub returns : goal.returns
returns g c =
    let place = c.args.place in
    let word = c.args.word.now in
    let old = g.O.Printer.state c.args.out.now in
    let mid = g.O.Printer.state c.print_around.new.out in
    let new = g.O.Printer.state c.print_hint.new.out in
    let first : PutsAll old (before_hint place (shown word)) mid =
    subst (λ (w : List ℕ). PutsAll old (before_hint place (shown w)) mid) c.as_bytes.ensures.value c.in_ok-print_around.ensures in
    let hint = rw c.meant_type.ensures at c.print_hint.ensures in
    subst (λ (text : List ℕ). Puts c.print_hint.result old text new) (sym (in_two place word))
    (Puts-behind _ old mid new (before_hint place (shown word)) (hint_line (meant_type place word)) first hint)
