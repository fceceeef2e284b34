-- Budgets of an opening, and the faults that tell them.
use Rattle.std.proofs.Common.{◌≡◌, ◌≤◌, ◌∙◌, ◌+◌, ℕ, Bool, List, Ok, Option, Some, None, false, true, if◌then◌else◌, ap, arith, refl, subst, sym}
use Rattle.std.proofs.lemmas.Bool.Decides.{nat_tests}
use Rattle.std.specs.Prelude.{IsTrue}
use Rattle.mdmp_source.specs.declared.fault.SourceFault.{SourceFault}
use Rattle.mdmp_lister.specs.declared.fault.FaultKind.{FaultKind}
use Rattle.mdmp_lister.specs.declared.fault.FaultKind.TheVariants as kinds
use Rattle.mdmp_lister.specs.declared.fault.OpenFault.TheVariants as opening
use Rattle.mdmp_lister.specs.Fault.{IsUnobtained}
use Rattle.mdmp_lister.specs.Format.Listing.{Numbered}
use Rattle.mdmp_lister.specs.Format.Shape.{record_count}
use Rattle.mdmp_wire.specs.declared.entry.Entry.{Entry}
use Rattle.mdmp_lister.specs.Meter.{KeepsTo, is_passed}
use Rattle.mdmp_dump.specs.declared.fault.ReadFault.{ReadFault}
use Rattle.mdmp_dump.specs.declared.fault.ReadFault.TheVariants as faults
use Rattle.mdmp_dump.specs.FileRefusal.{IsOfOpening, IsOfWalk}
use Rattle.mdmp_dump.specs.EntryWalk.{listed, pass_cost}
use Rattle.mdmp_dump.specs.FileView.{IsShortAt, TellsStream, count_in, pass_cost_in}
use Rattle.mdmp_dump.specs.Reading.{IsOwn, IsWanting, store_fault_in}

-- what is within a budget is so with less
pub kept_less : (budget : Option ℕ) (m n : ℕ) → n ≤ m → KeepsTo budget m → KeepsTo budget n
kept_less None m n less kept = refl
kept_less (Some most) m n less kept = grind (arith, nat_tests, less, kept)

-- and what is not is not with more
pub over_more : (budget : Option ℕ) (m n : ℕ) → m ≤ n → IsTrue (is_passed budget m) → IsTrue (is_passed budget n)
over_more None m n more over = absurd (cc)
over_more (Some most) m n more over = grind (arith, nat_tests, more, over)

-- a fault of a walk whose budget was lifted tells none
pub over_walk : (budget : Option ℕ) (bound : ℕ) (fault : ReadFault) → IsOfWalk fault → IsShortAt budget bound fault
over_walk budget bound (faults.Opening fault) of_walk = absurd of_walk
over_walk budget bound fault of_walk = tt

-- where the first stream is that has no room
pub place_walk : (budget : Option ℕ) (before : ℕ) (F : List ℕ) (x : Numbered) (fault : ReadFault) → IsOfWalk fault → TellsStream budget before F x fault
place_walk budget before F x (faults.Opening fault) of_walk = absurd of_walk
place_walk budget before F x fault of_walk = tt

own_size : (e : Entry) → pass_cost e 0 ≡ listed e
own_size e = omega arith

-- its own bytes have none
pub place_own : (budget : Option ℕ) (before : ℕ) (F : List ℕ) (x : Numbered) (e : Entry) (fault : ReadFault) → e ≡ x.entry → fault ≡ faults.Opening (opening.Budget e.location.rva (pass_cost e 0))
    → IsTrue (is_passed budget (before + pass_cost e 0)) → TellsStream budget before F x fault
place_own budget before F x e fault same is over =
    let own : pass_cost e 0 ≡ listed x.entry = own_size e ∙ ap (λ (y : Entry). listed y) same in
    let passes : is_passed budget (before + listed x.entry) ≡ true = subst (λ (n : ℕ). is_passed budget (before + n) ≡ true) own over in
    rw is (record {
      offset_is = ap (λ (y : Entry). y.location.rva) same;
      size_is = own ∙ ap (λ (b : Bool). if b then listed x.entry else pass_cost_in F x) (sym passes);
      passes = over;
    })

-- they have, but a pass over its records has none
pub place_pass : (budget : Option ℕ) (before : ℕ) (F : List ℕ) (x : Numbered) (e : Entry) (count : ℕ) (fault : ReadFault) → e ≡ x.entry → record_count F x.entry ≡ Ok count
    → KeepsTo budget (before + pass_cost e 0) → fault ≡ faults.Opening (opening.Budget e.location.rva (pass_cost e count)) → IsTrue (is_passed budget (before + pass_cost e count)) → TellsStream budget before F x fault
place_pass budget before F x e count fault same counted kept is over =
    let own : pass_cost e 0 ≡ listed x.entry = own_size e ∙ ap (λ (y : Entry). listed y) same in
    let keeps : is_passed budget (before + listed x.entry) ≡ false = subst (λ (n : ℕ). is_passed budget (before + n) ≡ false) own kept in
    let whole : pass_cost e count ≡ pass_cost_in F x = ap (λ (y : Entry). pass_cost y count) same ∙ ap (λ r. pass_cost x.entry (count_in r)) (sym counted) in
    rw is (record {
      offset_is = ap (λ (y : Entry). y.location.rva) same;
      size_is = whole ∙ ap (λ (b : Bool). if b then listed x.entry else pass_cost_in F x) (sym keeps);
      passes = over;
    })

pub walk_opens : (budget : Option ℕ) (fault : ReadFault) → IsOfWalk fault → IsOfOpening budget fault
walk_opens budget (faults.Opening fault) of_walk = absurd of_walk
walk_opens budget fault of_walk = of_walk

-- the one that tells it
pub over_told : (budget : Option ℕ) (m bound offset size : ℕ) (fault : ReadFault) → fault ≡ faults.Opening (opening.Budget offset size) → m ≤ bound → IsTrue (is_passed budget m) → IsShortAt budget bound fault
over_told budget m bound offset size fault is more over = rw is (over_more budget m bound more over)

pub budget_told : (budget : Option ℕ) (m offset size : ℕ) (fault : ReadFault) → fault ≡ faults.Opening (opening.Budget offset size) → IsTrue (is_passed budget m) → IsOfOpening budget fault
budget_told budget m offset size fault is over = rw is (λ none. let never : IsTrue false = rw none at over in cc never)

-- which is none of the file
pub wanting_own : (fault : ReadFault) → IsOwn fault → IsWanting fault
wanting_own faults.Memory own = tt
wanting_own (faults.Source fault) own = tt
wanting_own (faults.List fault) own = wanting_kind fault.kind own.0 own.1 where
  wanting_kind : (kind : FaultKind) (told : SourceFault) → store_fault_in kind ≡ Some told → IsUnobtained kind
  wanting_kind (kinds.Source fault) told is = tt
  wanting_kind kinds.Budget told is = tt
  wanting_kind kind told is = absurd (cc is)
wanting_own (faults.Opening (opening.Source fault)) own = tt
wanting_own (faults.Opening (opening.Budget offset size)) own = tt
wanting_own (faults.Opening (opening.MemoryLimit held)) own = tt
wanting_own (faults.Opening fault) own = absurd (let is = own.1 in cc is)
wanting_own fault own = absurd (let is = own.1 in cc is)

pub budget_wants : (fault : ReadFault) (offset size : ℕ) → fault ≡ faults.Opening (opening.Budget offset size) → IsWanting fault
budget_wants fault offset size is = rw is tt

pub over_tells : (budget : Option ℕ) (m bound : ℕ) (fault : ReadFault) → m ≤ bound → IsShortAt budget m fault → IsShortAt budget bound fault
over_tells budget m bound (faults.Opening (opening.Budget offset size)) more over = over_more budget m bound more over
over_tells budget m bound fault more over = tt
