use Rattle.std.proofs.Common.{◌≡◌, ◌-◌, ◌∙◌, ℕ, List, ap, arith, drop, length, take}
use Rattle.std.proofs.lemmas.List.{length-drop, length-take-le}
use Rattle.mdmp_source.specs.Range.{bytes_at}
use Rattle.mdmp_lister.proofs.Painted.{run_bytes}
use Rattle.mdmp_c.proofs.addressing.read_run.Goals as goal

pub returns-clause-bytes : goal.returns-clause-bytes
returns-clause-bytes c = λ k at lt.
    let first : ℕ = c.args.run.first in
    let n : ℕ = c.args.run.end - first in
    let part : List ℕ = c.copy_from_slice.new.self in
    let long : length (take n (drop first c.args.out.now)) ≡ n = length-take-le n (drop first c.args.out.now) (omega (arith, c.requires.within, length-drop first c.args.out.now)) in
    let same : length part ≡ n = omega (arith, long, c.copy_from_slice.auto.self) in
    let is : part ≡ bytes_at c.args.file.now c.args.run.offset n =
    c.copy_from_slice.ensures.after ∙ ap (λ m. bytes_at c.args.file.now c.args.run.offset m) (omega arith) in
    run_bytes c.args.file.now c.args.out.now part first n c.args.run.offset k (omega (arith, c.requires.within, c.requires.some)) is same at (omega (arith, lt, at))
