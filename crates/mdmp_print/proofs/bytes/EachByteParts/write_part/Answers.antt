use Rattle.std.proofs.Common.{◌≡◌, ◌+◌, ◌-◌, ◌≤◌, ℕ, take, drop, length, length-take, arith}
use Rattle.std.proofs.lemmas.Nat.{mul-le}
use Rattle.std.specs.List.{flat_map}
use Rattle.mdmp_print.proofs.Texts.{texts_split}
use Rattle.mdmp_print.proofs.bytes.EachByteParts.write_part.Goals as goal

pub returns-clause-put : goal.returns-clause-put
returns-clause-put g c =
    let f = λ (x : ℕ). g.E.Piece.text (g.E.Element.of x) in
    let bytes = c.args.self.now.bytes.now in
    let place = c.args.place in
    let k = c.min.result in
    let n = place + k - place in
    let same : n ≡ k = omega arith in
    let few : length (take n (drop place bytes)) ≤ 160 = omega (arith, length-take n (drop place bytes), c.min.ensures) in
    let most = mul-le g.E.Piece.most (length (take n (drop place bytes))) 6 160 c.args.self.now.small few in
    record {
      part = flat_map f (take n (drop place bytes));
      whole = texts_split f bytes place k n same;
      put = record {
        text = c.each_at.ensures.text;
        within = omega (arith, c.each_at.ensures.within, most);
        same = c.each_at.ensures.same;
      };
    }
