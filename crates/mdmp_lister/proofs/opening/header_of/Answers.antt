use Rattle.std.proofs.Common.{◌≡◌, ap, length, refl, take, sym}
use Rattle.std.proofs.lemmas.List.{length-take-le}
use Rattle.mdmp_source.specs.Range.{bytes_at}
use Rattle.mdmp_lister.proofs.Refusals.{refused_found}
use Rattle.mdmp_lister.proofs.opening.header_of.Goals as goal

pub returns-clause-header : goal.returns-clause-header
returns-clause-header c =
    let file = c.args.file.now in
    let whole : length (take 32 file) ≡ 32 = length-take-le 32 file c.if-size.false in
    let fetched : take 32 file ≡ bytes_at file 0 (length (take 32 file)) = ap (λ n. take n file) (sym whole) in
    refused_found file c.header_in.result (c.header_in.ensures.finds file refl fetched) c.header_in.ensures.obtained
