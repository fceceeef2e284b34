use Rattle.std.proofs.Common.{rules, ◌≡◌, ◌∙◌, ℕ, List, ap, arith, length, min}
use Rattle.mdmp_engines.proofs.NamesRead.{some_known}
use Rattle.mdmp_engines.proofs.summary_json.symbols_room.Goals as goal

pub returns : goal.returns
returns g c =
    let least : c.min.result ≡ min c.args.limit c.size.result = search rules in
    record {
      most = omega (arith, least);
      enough = λ file known.
          let size : c.size.result ≡ length file = some_known (λ (f : List ℕ). c.size.result ≡ length f) file _ known c.size.ensures.content in
          least ∙ ap (λ (n : ℕ). min c.args.limit n) size;
    }
