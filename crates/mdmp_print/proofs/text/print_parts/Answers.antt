use Rattle.std.proofs.Common.{◌≡◌, arith, ap, ◌∙◌}
use Rattle.std.proofs.lemmas.Result.{MatchResult-from_err}
use Rattle.mdmp_print.proofs.LeftLemmas.{IsUnprinted-all, IsUnprinted-cut, IsUnprinted-more, IsUnprinted-none}
use Rattle.mdmp_print.proofs.text.print_parts.Goals as goal

pub loop-place-init : goal.loop-place-init
loop-place-init g c = record { within = omega arith; left = IsUnprinted-all _ _ }

pub loop-place-preserved : goal.loop-place-preserved
loop-place-preserved g c = record {
  within = omega (arith, c.in_ok-place.ensures.next);
  left = IsUnprinted-more _ _ _ _ _ _ c.loop-place.invariant.left c.in_ok-place.ensures.puts;
}

pub returns-in_err-place : goal.returns-in_err-place
returns-in_err-place g c =
    MatchResult-from_err _ _ _ c.from_residual.ensures.0 (λ _. IsUnprinted-cut _ _ _ _ _ c.loop-place.invariant.left c.in_err-place.ensures.puts)

pub returns : goal.returns
returns g c =
    let last : c.loop-place.place ≡ g.T.Parts.places c.args.text.now = omega arith in
    IsUnprinted-none _ _ _ _ c.loop-place.invariant.left (ap (g.T.Parts.text_from c.args.text.now) last ∙ c.places-places.ensures.end)
