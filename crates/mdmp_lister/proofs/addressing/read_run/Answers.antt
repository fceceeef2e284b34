use Rattle.std.proofs.Common.{◌≡◌, ◌≤◌, ◌<◌, ◌-◌, ◌∙◌, ℕ, List, ap, arith, drop, length, replicate, rules, subst, take, true}
use borrow.Rule.Slice.PartMut.{put_mid}
use Rattle.std.proofs.lemmas.List.{length-drop, length-take-le}
use Rattle.mdmp_source.specs.Range.{bytes_at}
use Rattle.mdmp_lister.specs.Painting.{count_known}
use Rattle.mdmp_lister.proofs.Painted.{count_put, on_ok, run_bytes}
use Rattle.mdmp_lister.proofs.addressing.read_run.Goals as goal

pub returns-clause-counted : goal.returns-clause-counted
returns-clause-counted g c =
    let first : ℕ = c.args.run.first in
    let n : ℕ = c.args.run.end - first in
    let long : length (take n (drop first c.args.known.now)) ≡ n = length-take-le n (drop first c.args.known.now) (omega (arith, c.requires.within, c.requires.same, length-drop first c.args.known.now)) in
    let all : c.fill.new.self ≡ replicate (length c.fill.new.self) true = search rules in
    let filled : c.fill.new.self ≡ replicate n true = all ∙ ap (λ m. replicate m true) (omega (arith, long, c.fill.auto.self)) in
    ap (λ ys. count_known (put_mid first n c.args.known.now ys)) filled
    ∙ count_put first n c.args.known.now (omega (arith, c.requires.within, c.requires.same, c.requires.some)) (λ k at lt. c.requires.free k at (omega (arith, lt, c.requires.some)))

pub returns-clause-bytes : goal.returns-clause-bytes
returns-clause-bytes g c = λ F is.
    let first : ℕ = c.args.run.first in
    let n : ℕ = c.args.run.end - first in
    let part : List ℕ = c.fetch_aside.new.out in
    let long : length (take n (drop first c.args.out.now)) ≡ n = length-take-le n (drop first c.args.out.now) (omega (arith, c.requires.within, length-drop first c.args.out.now)) in
    let same : length part ≡ n = omega (arith, long, c.fetch_aside.auto.out) in
    on_ok c.fetch_aside.result (part ≡ bytes_at F c.args.run.offset (length part)) _ (c.fetch_aside.ensures.reads.of_file F is) (λ (read : part ≡ bytes_at F c.args.run.offset (length part)) (k : ℕ) (at : first ≤ k) (lt : k < c.args.run.end).
    run_bytes F c.args.out.now part first n c.args.run.offset k (omega (arith, c.requires.within, c.requires.some)) (subst (λ m. part ≡ bytes_at F c.args.run.offset m) same read) same at (omega (arith, lt, at)))
