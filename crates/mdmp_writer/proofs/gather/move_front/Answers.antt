use Rattle.std.proofs.Common.{◌≡◌, ◌∙◌, ◌+◌, ◌-◌, ◌≤◌, take, drop, ap, sym, arith, length, length-drop, ℕ, List}
use Rattle.std.proofs.lemmas.List.Edits.{take-paste}
use Rattle.std.proofs.lemmas.List.{drop-take}
use Rattle.std.proofs.Math.Seq.{paste}
use Rattle.mdmp_writer.proofs.gather.move_front.Goals as goal

-- the bytes between two places
between : (start end : ℕ) (xs : List ℕ) → start ≤ end → take (end - start) (drop start xs) ≡ drop start (take end xs)
between start end xs le =
    let whole : start + (end - start) ≡ end = omega arith in
    sym (drop-take start (end - start) xs) ∙ ap (λ (n : ℕ). drop start (take n xs)) whole

front : (xs rest : List ℕ) (n : ℕ) → n ≤ length rest → take n (paste xs 0 rest n) ≡ take n rest
front xs rest n room =
    let none : n ≡ 0 + n = omega arith in
    ap (λ (m : ℕ). take m (paste xs 0 rest n)) none ∙ take-paste xs 0 rest n (omega arith) room

pub returns-clause-bytes : goal.returns-clause-bytes
returns-clause-bytes c =
    let n = c.args.end - c.args.start in
    let rest = drop c.args.start c.args.buffer.now in
    let room : n ≤ length rest = omega (arith, length-drop c.args.start c.args.buffer.now) in
    rw c.copy_within.ensures.after (front c.args.buffer.now rest n room ∙ between c.args.start c.args.end c.args.buffer.now (omega arith))
