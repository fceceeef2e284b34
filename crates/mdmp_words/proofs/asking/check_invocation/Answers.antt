use Rattle.std.proofs.Common.{ap₂, codes, subst}
use Rattle.clap.specs.Words.{found_of, rows_of}
use Rattle.mdmp_words.specs.Invocations.{IsForSome, check, named_over}
use Rattle.mdmp_words.proofs.asking.check_invocation.Goals as goal

pub returns-clause-named : goal.returns-clause-named
returns-clause-named c =
    subst (λ wanted. IsForSome wanted c.invocation_over.result)
    (ap₂ (λ form parts. named_over (rows_of (found_of c.args.matches.now)) (codes "FILE") (check form parts)) c.form_of-form.ensures c.is_set-parts.ensures)
    c.invocation_over.ensures.named
