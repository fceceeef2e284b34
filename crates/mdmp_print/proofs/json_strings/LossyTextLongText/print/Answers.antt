use Rattle.std.proofs.Common.{◌≡◌, ◌<◌, ap, length, rules}
use Rattle.std.proofs.lemmas.Result.{MatchResult-from_err}
use Rattle.std.proofs.lemmas.Str.{utf8_lossy_empty}
use Rattle.json.specs.Print.{escape}
use Rattle.mdmp_print.proofs.Bytewise.{chunk-begins, chunk-last, chunk-next, replacement}
use Rattle.mdmp_print.proofs.LeftLemmas.{IsUnprinted-next, IsUnprinted-none, IsUnprinted-stopped, PutsAll-as, PutsPrefix-as}
use Rattle.mdmp_print.proofs.json_strings.LossyTextLongText.print.Goals as goal

pub returns-in_err-print_parts : goal.returns-in_err-print_parts
returns-in_err-print_parts g c =
    let steps = c.in-Some.ensures.steps in
    let begins = chunk-begins _ _ _ _ steps.0 steps.3.0 steps.3.1 steps.2 in
    MatchResult-from_err _ _ _ c.from_residual.ensures.0 (λ _.
    IsUnprinted-stopped _ _ _ _ _ _ (rw begins.1 at c.loop-chunk.invariant) (rw (c.over.ensures, c.as_bytes.ensures.value, c.valid.ensures) at c.in_err-print_parts.ensures))

pub loop-chunk-preserved-in-Continue-branch-2 : goal.loop-chunk-preserved-in-Continue-branch-2
loop-chunk-preserved-in-Continue-branch-2 g c =
    let steps = c.in-Some.ensures.steps in
    let some : 0 < length c.in-Some.chunk.invalid.now = search rules in
    let text = chunk-next _ _ _ _ steps.0 steps.3.0 steps.3.1 some in
    IsUnprinted-next _ _ _ _ _ _
    (IsUnprinted-next _ _ _ _ _ _ (rw text at c.loop-chunk.invariant) (rw (c.over.ensures, c.as_bytes.ensures.value, c.valid.ensures) at c.in_ok-print_parts.ensures))
    (PutsAll-as _ _ _ _ c.in_ok-print.ensures replacement)

pub returns-in_err-print : goal.returns-in_err-print
returns-in_err-print g c =
    let steps = c.in-Some.ensures.steps in
    let some : 0 < length c.in-Some.chunk.invalid.now = search rules in
    let text = chunk-next _ _ _ _ steps.0 steps.3.0 steps.3.1 some in
    MatchResult-from_err _ _ _ c.from_residual-in_err-print.ensures.0 (λ _. IsUnprinted-stopped _ _ _ _ _ _
    (IsUnprinted-next _ _ _ _ _ _ (rw text at c.loop-chunk.invariant) (rw (c.over.ensures, c.as_bytes.ensures.value, c.valid.ensures) at c.in_ok-print_parts.ensures))
    (PutsPrefix-as _ _ _ _ c.in_err-print.ensures replacement))

pub loop-chunk-preserved : goal.loop-chunk-preserved
loop-chunk-preserved g c =
    let steps = c.in-Some.ensures.steps in
    let none : length c.in-Some.chunk.invalid.now ≡ 0 = search rules in
    let text = chunk-last _ _ _ _ steps.0 steps.3.0 none (steps.2 none) in
    IsUnprinted-next _ _ _ _ _ _ (rw text at c.loop-chunk.invariant) (rw (c.over.ensures, c.as_bytes.ensures.value, c.valid.ensures) at c.in_ok-print_parts.ensures)

pub returns : goal.returns
returns g c = IsUnprinted-none _ _ _ _ c.loop-chunk.invariant (ap escape (utf8_lossy_empty _ c.in-None.ensures.steps.0))
