-- The first refusal, where some of the limit was spent, and where no step is left.
use Rattle.std.proofs.Common.{◌≡◌, ◌∙◌, ◌+◌, ℕ, Bool, true, false, List, [], ◌∷◌, Option, Some, arith, ap, ap₂, refl, nat_lt, if◌then◌else◌, ltb-true, ltb-false, lt-ltb, le-ltb}
use Rattle.mdmp_dump.specs.declared.fault.ReadFault.{ReadFault}
use Rattle.mdmp_dump.specs.declared.fault.ReadFault.TheVariants as faults
use Rattle.mdmp_dump.specs.Refusal.{Refuse, ReadStep, Take, first_refusal}

module _ (spent limit : ℕ) where
  lt-moved_by : (total : ℕ) (b : Bool) → nat_lt limit total ≡ b → nat_lt (spent + limit) (spent + total) ≡ b
  lt-moved_by total true e = lt-ltb _ _ (omega (arith, ltb-true limit total e))
  lt-moved_by total false e = le-ltb _ _ (omega (arith, ltb-false limit total e))

  lt-moved : (total : ℕ) → nat_lt (spent + limit) (spent + total) ≡ nat_lt limit total
  lt-moved total = lt-moved_by total _ refl

  -- it is the same as with what is left of the limit and nothing spent
  pub refusal_moved : (total : ℕ) (steps : List ReadStep) (last : Option ReadFault)
      → first_refusal (spent + limit) (spent + total) steps last ≡ first_refusal limit total steps last
  unfolding first_refusal
  refusal_moved total [] last = refl
  refusal_moved total (Refuse fault ∷ steps) last = refl
  refusal_moved total (Take e k offset size ∷ steps) last =
      let sum : spent + total + size ≡ spent + (total + size) = omega arith in
      ap (λ n. if nat_lt (spent + limit) n then Some (faults.PartsTooLarge e k) else first_refusal (spent + limit) n steps last) sum
      ∙ ap₂ (λ (b : Bool) (rest : Option ReadFault). if b then Some (faults.PartsTooLarge e k) else rest)
      (lt-moved (total + size)) (refusal_moved (total + size) steps last)

-- behind the last step only the last fault is left
pub refusal-end : (left : ℕ) (last : Option ReadFault) → first_refusal left 0 [] last ≡ last
unfolding first_refusal
refusal-end left last = refl
