use Rattle.std.proofs.Common.{ap₂, codes, subst}
use Rattle.clap.specs.Words.{found_of, rows_of}
use Rattle.mdmp_words.specs.Invocations.{IsForSome, list, named_over}
use Rattle.mdmp_words.proofs.asking.list_invocation.Goals as goal

pub returns-clause-named : goal.returns-clause-named
returns-clause-named c =
    subst (λ wanted. IsForSome wanted c.invocation_over.result)
    (ap₂ (λ form pdb. named_over (rows_of (found_of c.args.matches.now)) (codes "FILE") (list form pdb)) c.form_of-form.ensures c.is_set-pdb.ensures)
    c.invocation_over.ensures.named
