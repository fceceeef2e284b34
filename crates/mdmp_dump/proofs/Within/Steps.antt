-- Steps that are all taken.
use Rattle.std.proofs.Common.{◌≡◌, ◌∙◌, ◌+◌, ◌-◌, ◌≤◌, ℕ, List, [], ◌∷◌, ◌++◌, Option, append_assoc, append-nil, ap, arith, sym}
use Rattle.mdmp_dump.specs.declared.fault.ReadFault.{ReadFault}
use Rattle.mdmp_dump.specs.Refusal.{ReadStep, Take, first_refusal}
use Rattle.mdmp_dump.proofs.Budget.{take-taken}
use Rattle.mdmp_dump.proofs.Refusal.{refusal-end}

-- where so many bytes are left, none of the steps is refused, and they take these bytes
pub record IsTaken (steps : List ReadStep) (bytes : ℕ) : Type 0 where
  pub taken : (left : ℕ) (rest : List ReadStep) (last : Option ReadFault) → bytes ≤ left
      → first_refusal left 0 (steps ++ rest) last ≡ first_refusal (left - bytes) 0 rest last

pub none_taken : IsTaken [] 0
none_taken = record { taken = λ left rest last room. let same : left ≡ left - 0 = omega arith in ap (λ n. first_refusal n 0 rest last) same }

pub one_taken : (e k offset size : ℕ) → IsTaken (Take e k offset size ∷ []) size
one_taken e k offset size = record { taken = λ left rest last room. take-taken left e k offset size rest last room }

pub both_taken : {a b : List ReadStep} {m n : ℕ} → IsTaken a m → IsTaken b n → IsTaken (a ++ b) (m + n)
both_taken {a = a} {b = b} {m = m} {n = n} first next = record {
  taken = λ left rest last room.
      let both : left - m - n ≡ left - (m + n) = omega arith in
      ap (λ (steps : List ReadStep). first_refusal left 0 steps last) (append_assoc a b rest)
      ∙ first.taken left (b ++ rest) last (omega (arith, room))
      ∙ next.taken (left - m) rest last (omega (arith, room))
      ∙ ap (λ (x : ℕ). first_refusal x 0 rest last) both;
}

-- where nothing stands behind them, only the last fault is left
pub last_refused : {steps : List ReadStep} {bytes : ℕ} → IsTaken steps bytes → (limit : ℕ) (last : Option ReadFault) → bytes ≤ limit
    → first_refusal limit 0 steps last ≡ last
last_refused {steps = steps} {bytes = bytes} is limit last room =
    ap (λ (s : List ReadStep). first_refusal limit 0 s last) (sym (append-nil steps))
    ∙ is.taken limit [] last room
    ∙ refusal-end (limit - bytes) last
