use Rattle.std.proofs.Common.{◌∙◌, rules, arith, ap, length, subst, sym, ⊎_elim}
use Rattle.mdmp_source.specs.Range.{IsInside}
use Rattle.mdmp_source.proofs.source.Source.fetch.Goals as goal

pub fill-answer-requires : goal.fill-answer-requires
fill-answer-requires g c =
    let same_size = ap (λ s. s.size) c.self.view_is in
    record {
      fits = ⊎_elim (λ none. omega (arith, same_size)) (λ within. omega (arith, same_size)) c.requires;
      inside = subst (λ n. IsInside c.args.at (length c.args.out.now) n) (sym same_size ∙ c.self.invariant.2) c.requires;
    }

pub returns-clause-counts : goal.returns-clause-counts
returns-clause-counts g c = record { bytes = search rules; fetches = search rules; store_calls = rw (← c.self.view_is) c.fill-answer.ensures.few_calls }
