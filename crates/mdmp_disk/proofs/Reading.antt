-- What was read of known bytes, up to a limit.
use Rattle.std.proofs.Common.{◌≡◌, ◌∙◌, ◌<◌, ◌≤◌, ℕ, List, Some, None, Option, ap, arith, length, take}
use Rattle.std.proofs.lemmas.List.{length-take, length-append, take_all}
use Rattle.std.specs.Prelude.{IfSome, option_map}
use Rattle.std.specs.Io.KnownBytes.{Consumes}

-- fewer bytes than the limit are all that there are
pub all_read : (known : Option (List ℕ)) (limit : ℕ) (bytes : List ℕ) → IfSome (option_map (take limit) known) (λ xs. bytes ≡ xs) → length bytes < limit
    → IfSome known (λ xs. bytes ≡ xs)
all_read None limit bytes same short = tt
all_read (Some xs) limit bytes same short =
    let few : length xs ≤ limit = omega (arith, ap length same, length-take limit xs) in
    same ∙ take_all limit xs few

-- there are at least as many bytes as were read
pub some_read : (known rest : Option (List ℕ)) (limit : ℕ) (bytes : List ℕ) (count : ℕ) → Consumes (option_map (take limit) known) rest bytes
    → count ≡ length bytes → IfSome known (λ xs. count ≤ length xs)
some_read None rest limit bytes count took all = tt
some_read (Some xs) None limit bytes count took all = absurd took
some_read (Some xs) (Some ys) limit bytes count took all =
    omega (arith, all, ap length took, length-take limit xs, length-append bytes ys)
