use Rattle.std.proofs.Common.{◌≡◌, ◌∙◌, ◌+◌, ◌-◌, ◌++◌, ◌≤◌, ℕ, List, take, drop, drop-drop, length, length-take, ap, sym, arith}
use Rattle.std.proofs.lemmas.List.{take-append-drop}
use Rattle.mdmp_print.proofs.bytes.LongBytesParts.write_part.Goals as goal

-- the first few, and the others
split : (xs : List ℕ) (place k n : ℕ) → n ≡ k → drop place xs ≡ take n (drop place xs) ++ drop (place + k) xs
split xs place k n same =
    sym (take-append-drop n (drop place xs))
    ∙ ap (λ (x : List ℕ). take n (drop place xs) ++ x) (drop-drop n place xs ∙ ap (λ (i : ℕ). drop (place + i) xs) same)

pub returns-clause-put : goal.returns-clause-put
returns-clause-put c =
    let bytes = c.args.self.now.0.now in
    let place = c.args.place in
    let n = place + c.min.result - place in
    let few : length (take n (drop place bytes)) ≤ 900 = omega (arith, length-take n (drop place bytes), c.min.ensures) in
    record {
      part = take n (drop place bytes);
      whole = split bytes place c.min.result n (omega arith);
      put = record {
        text = c.slice_at.ensures.text;
        within = omega (arith, c.slice_at.ensures.within, few);
        same = c.slice_at.ensures.same;
      };
    }
