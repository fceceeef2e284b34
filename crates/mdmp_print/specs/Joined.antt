-- Texts in front of others.
use Rattle.std.proofs.Common.{◌≡◌, ◌∙◌, ℕ, ◌/◌, ◌%◌, List, ◌++◌, ap, codes, sym, append_assoc, append-nil, refl}
use Rattle.std.specs.Fmt.{decimal}
use Rattle.mdmp_print.specs.Versions.{build_text, file_version_text}

pub joined-then : (s t : List ℕ) (f g : List ℕ → List ℕ) → ((more : List ℕ) → f more ≡ s ++ more) → ((more : List ℕ) → g more ≡ t ++ more)
    → (more : List ℕ) → f (g more) ≡ (s ++ t) ++ more
joined-then s t f g first next more = first (g more) ∙ ap (λ (x : List ℕ). s ++ x) (next more) ∙ sym (append_assoc s t more)

pub joined-field : (name t : List ℕ) (g : List ℕ → List ℕ) → ((more : List ℕ) → g more ≡ t ++ more) → (more : List ℕ)
    → codes " " ++ (name ++ (codes " " ++ g more)) ≡ (codes " " ++ (name ++ (codes " " ++ t))) ++ more
joined-field name t g next more = rw (next more) (sym (simp append_assoc refl))

pub joined-stack : (s t more : List ℕ) → codes "0x" ++ (s ++ (codes " " ++ (t ++ more))) ≡ (codes "0x" ++ (s ++ (codes " " ++ t))) ++ more
joined-stack s t more = sym (simp append_assoc refl)

abbrev pub version_onto : ℕ → ℕ → List ℕ → List ℕ
version_onto ms ls more =
    decimal (ms / 65536) ++ (codes "." ++ (decimal (ms % 65536) ++ (codes "." ++ (decimal (ls / 65536) ++ (codes "." ++ (decimal (ls % 65536) ++ more))))))

pub joined-version : (ms ls : ℕ) (more : List ℕ) → version_onto ms ls more ≡ file_version_text ms ls ++ more
joined-version ms ls more = sym (simp (append_assoc, append-nil) refl)

abbrev pub build_onto : ℕ → ℕ → ℕ → List ℕ → List ℕ
build_onto major minor build more = decimal major ++ (codes "." ++ (decimal minor ++ (codes "." ++ (decimal build ++ more))))

pub joined-build : (major minor build : ℕ) (more : List ℕ) → build_onto major minor build more ≡ build_text major minor build ++ more
joined-build major minor build more = sym (simp (append_assoc, append-nil) refl)
