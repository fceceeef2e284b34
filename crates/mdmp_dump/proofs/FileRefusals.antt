-- Refusals of a reading and of a view.
use Rattle.std.proofs.Common.{◌≡◌, ◌∙◌, ◌+◌, ◌≤◌, ℕ, List, [], ◌∷◌, length, Option, Some, None, Bool, true, false, refl, ap, sym, subst, arith, flat_map, option_map, if◌then◌else◌}
use Rattle.std.specs.Prelude.{nat_lt}
use Rattle.std.proofs.lemmas.Bool.Decides.{nat_tests}
use Rattle.mdmp_lister.specs.declared.choice.Choice.{Choice}
use Rattle.mdmp_lister.specs.declared.fault.OpenFault.{OpenFault}
use Rattle.mdmp_lister.specs.Format.Listing.{listing}
use Rattle.mdmp_lister.specs.Format.Refusal.{behind_directory, directory_refusal, opening_fault}
use Rattle.mdmp_dump.specs.declared.fault.ReadFault.{ReadFault}
use Rattle.mdmp_dump.specs.declared.fault.ReadFault.TheVariants as faults
use Rattle.mdmp_dump.specs.FileRefusal.{first_told, opened_told, parts_taken, taken_by, view_refusal}
use Rattle.mdmp_dump.specs.Refusal.{ReadStep, Refuse, Take, first_refusal, item_steps, opened_refusal, read_refusal}

-- what is not refused with a limit on parts is not refused without one
take_or : (b : Bool) (e k : ℕ) (rest : Option ReadFault) → (if b then Some (faults.PartsTooLarge e k) else rest) ≡ None → rest ≡ None
take_or true e k rest none = absurd (cc)
take_or false e k rest none = none

told_none : (limit total : ℕ) (steps : List ReadStep) (last : Option ReadFault) → first_refusal limit total steps last ≡ None → first_told steps last ≡ None
unfolding first_refusal first_told
told_none limit total [] last none = none
told_none limit total (Refuse fault ∷ steps) last none = none
told_none limit total (Take e k offset size ∷ steps) last none = told_none limit (total + size) steps last (take_or (nat_lt limit (total + size)) e k _ none)

-- and where the limit suffices, both refuse for the same reason
take_within : (b : Bool) (limit n e k : ℕ) (rest : Option ReadFault) → nat_lt limit n ≡ b → n ≤ limit → (if b then Some (faults.PartsTooLarge e k) else rest) ≡ rest
take_within true limit n e k rest is within = absurd (grind (arith, nat_tests))
take_within false limit n e k rest is within = refl

told_same : (limit total : ℕ) (steps : List ReadStep) (last : Option ReadFault) → total + taken_by steps ≤ limit → first_refusal limit total steps last ≡ first_told steps last
unfolding first_refusal first_told taken_by
told_same limit total [] last within = refl
told_same limit total (Refuse fault ∷ steps) last within = refl
told_same limit total (Take e k offset size ∷ steps) last within =
    take_within (nat_lt limit (total + size)) limit (total + size) e k _ refl (omega (arith, within)) ∙ told_same limit (total + size) steps last (omega (arith, within))

directory_none : (F : List ℕ) (choice : Choice) (o : Option OpenFault) → behind_directory F choice o ≡ None → o ≡ None
directory_none F choice (Some fault) none = none
directory_none F choice None none = refl

opened_none : (F : List ℕ) (choice : Choice) (names parts : ℕ) (o : Option OpenFault) → opened_refusal F choice names parts o ≡ None → o ≡ None
opened_none F choice names parts (Some fault) none = absurd (cc)
opened_none F choice names parts None none = refl

pub viewed : (F : List ℕ) (choice : Choice) (names parts : ℕ) → read_refusal F choice names parts ≡ None → view_refusal F choice names ≡ None
viewed F choice names parts none =
    let opens : opening_fault F choice ≡ None = opened_none F choice names parts (opening_fault F choice) none in
    let run : opened_refusal F choice names parts None ≡ None = subst (λ (o : Option OpenFault). opened_refusal F choice names parts o ≡ None) opens none in
    ap (opened_told F choice names) (directory_none F choice (directory_refusal F) opens)
    ∙ told_none parts 0 (flat_map (item_steps (length F)) (listing F choice names).items) (option_map faults.List (listing F choice names).fault) run

pub read_too : (F : List ℕ) (choice : Choice) (names parts : ℕ) → opening_fault F choice ≡ None → parts_taken F choice names ≤ parts → read_refusal F choice names parts ≡ view_refusal F choice names
read_too F choice names parts opens within =
    ap (opened_refusal F choice names parts) opens
    ∙ told_same parts 0 (flat_map (item_steps (length F)) (listing F choice names).items) (option_map faults.List (listing F choice names).fault) (omega (arith, within))
    ∙ sym (ap (opened_told F choice names) (directory_none F choice (directory_refusal F) opens))
