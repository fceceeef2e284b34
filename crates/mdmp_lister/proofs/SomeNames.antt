-- What may be read of a name, whatever stands in the file.
use Rattle.std.proofs.Common.{◌≡◌, ◌<◌, ◌≤◌, ◌+◌, ◌∙◌, ◌==◌, ◌%◌, ℕ, Bool, true, false, Ok, Err, Result, refl, sym, arith}
use Rattle.std.specs.Prelude.{IfErr, not, nat_lt, if◌then◌else◌}
use Rattle.std.specs.Result.{IsErr}
use Rattle.std.proofs.lemmas.Bool.Decides.{nat_tests}
use Rattle.mdmp_source.specs.Range.{is_inside}
use Rattle.mdmp_lister.specs.declared.fault.Fault.{Fault}
use Rattle.mdmp_lister.specs.declared.fault.FaultKind.TheVariants.{NameLengthOutside, NameOdd, NameUnitsOutside}
use Rattle.mdmp_lister.specs.declared.fetching.NameRead.{NameRead}
use Rattle.mdmp_lister.specs.declared.fetching.NameRead.TheVariants as read
use Rattle.mdmp_lister.specs.Fault.{IsUnobtained}
use Rattle.mdmp_lister.specs.Following.{IsSomeName, failed, told}

-- the store failed
pub some_failed : (z limit rva : ℕ) (r : Result NameRead Fault) → IsErr r → IfErr r (λ fault. IsUnobtained fault.kind) → IsSomeName z limit rva r
some_failed z limit rva (Ok x) bad of = absurd (cc)
some_failed z limit rva (Err fault) bad of = failed fault refl of

pub some_none : (z limit rva : ℕ) → rva ≡ 0 → IsSomeName z limit rva (Ok read.None)
some_none z limit rva none = told 0 (rw none refl)

is_some : (rva : ℕ) → (rva ≡ 0 → ⊥) → (rva == 0) ≡ false
is_some rva some = grind (arith, nat_tests)

pub some_outside : (z limit rva : ℕ) (r : Result NameRead Fault) → (rva ≡ 0 → ⊥) → is_inside rva 4 z ≡ false → r ≡ Err (record { kind = NameLengthOutside; offset = rva; size = 4 })
    → IsSomeName z limit rva r
some_outside z limit rva r some outside is = told 0 (rw (is, is_some rva some, outside) refl)

-- what is answered behind the tests of a length
abbrev behind_tests : ℕ → ℕ → Result (Unit {0}) Fault → Result NameRead Fault
behind_tests limit bytes (Ok x) = if nat_lt limit bytes then Ok (read.Long bytes) else Ok (read.Units bytes)
behind_tests limit bytes (Err fault) = Err fault

abbrev tests : ℕ → ℕ → ℕ → Result (Unit {0}) Fault
tests z rva bytes =
    if bytes % 2 == 1 then Err (record { kind = NameOdd; offset = rva; size = bytes })
    else if not (is_inside (rva + 4) bytes z) then Err (record { kind = NameUnitsOutside; offset = rva + 4; size = bytes })
    else Ok tt

tested : (limit rva bytes : ℕ) (odd inside : Bool)
    → (if odd then Err (record { kind = NameOdd; offset = rva; size = bytes })
    else if not inside then Err (record { kind = NameUnitsOutside; offset = rva + 4; size = bytes })
    else if nat_lt limit bytes then Ok (read.Long bytes) else Ok (read.Units bytes))
    ≡ behind_tests limit bytes (if odd then Err (record { kind = NameOdd; offset = rva; size = bytes })
    else if not inside then Err (record { kind = NameUnitsOutside; offset = rva + 4; size = bytes })
    else Ok tt)
tested limit rva bytes true inside = refl
tested limit rva bytes false false = refl
tested limit rva bytes false true = refl

-- behind those tests
some_tested : (z limit rva bytes : ℕ) (u : Result (Unit {0}) Fault) → (rva ≡ 0 → ⊥) → is_inside rva 4 z ≡ true → u ≡ tests z rva bytes
    → IsSomeName z limit rva (behind_tests limit bytes u)
some_tested z limit rva bytes u some inside is =
    told bytes (rw (is, is_some rva some, inside) (sym (tested limit rva bytes (bytes % 2 == 1) (is_inside (rva + 4) bytes z))))

pub some_bad : (z limit rva bytes : ℕ) (u : Result (Unit {0}) Fault) (fault : Fault) (r : Result NameRead Fault) → (rva ≡ 0 → ⊥) → is_inside rva 4 z ≡ true → u ≡ tests z rva bytes
    → u ≡ Err fault → r ≡ Err fault → IsSomeName z limit rva r
some_bad z limit rva bytes u fault r some inside is bad here = rw here (some_tested z limit rva bytes (Err fault) some inside (sym bad ∙ is))

pub some_long : (z limit rva bytes : ℕ) → (rva ≡ 0 → ⊥) → is_inside rva 4 z ≡ true → Ok tt ≡ tests z rva bytes → limit < bytes → IsSomeName z limit rva (Ok (read.Long bytes))
some_long z limit rva bytes some inside is long =
    let past : nat_lt limit bytes ≡ true = grind (arith, nat_tests) in
    rw past at (some_tested z limit rva bytes (Ok tt) some inside is)

pub some_units : (z limit rva bytes : ℕ) → (rva ≡ 0 → ⊥) → is_inside rva 4 z ≡ true → Ok tt ≡ tests z rva bytes → bytes ≤ limit → IsSomeName z limit rva (Ok (read.Units bytes))
some_units z limit rva bytes some inside is within =
    let past : nat_lt limit bytes ≡ false = grind (arith, nat_tests) in
    rw past at (some_tested z limit rva bytes (Ok tt) some inside is)
