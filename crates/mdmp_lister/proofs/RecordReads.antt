-- What is fetched for a record, and for its name.
use Rattle.std.proofs.Common.{◌≡◌, ◌≤◌, ◌+◌, ◌∙◌, ℕ, Bool, true, false, List, None, Result, Ok, Err, ap, arith, refl, subst, sym}
use Rattle.std.specs.Prelude.{IfErr, if◌then◌else◌, min, max, nat_lt, not}
use Rattle.std.proofs.Math.Nat.{add-mul}
use Rattle.std.proofs.lemmas.Bool.{lt-ltb}
use Rattle.mdmp_source.specs.Count.{raised, raised_if}
use Rattle.mdmp_source.specs.Source.{FetchesAtMost, SourceState}
use Rattle.mdmp_source.specs.SourceLaws.{fetches_then}
use Rattle.mdmp_lister.specs.declared.fault.Fault.{Fault}
use Rattle.mdmp_lister.specs.declared.fault.FaultKind.TheVariants.{NameOdd, NameUnitsOutside}
use Rattle.mdmp_lister.specs.declared.fault.FetchFault.{FetchFault}
use Rattle.mdmp_lister.specs.declared.fault.FetchFault.TheVariants as fetch
use Rattle.mdmp_lister.specs.declared.fetching.NameRead.{NameRead}
use Rattle.mdmp_lister.specs.declared.step.Step.{Step}
use Rattle.mdmp_lister.specs.Costs.{bad_name_cost, name_spent, read_cost, step_cost, step_spent}
use Rattle.mdmp_lister.specs.Fault.{IsCaused, IsCausedAt, IsUnobtained, fault_of_fetch}
use Rattle.mdmp_lister.specs.Fetching.{Reads, ReadsName, ReadsRecord}
use Rattle.mdmp_lister.specs.Meter.{Books, IsFetchOver, MeterState, Spends, store_fault_of}
use Rattle.mdmp_lister.specs.Walk.Reaching.{read_once, told_once}
use Rattle.mdmp_lister.proofs.Budgets.{over-within, over_read}
use Rattle.mdmp_lister.proofs.Costs.{source_name_cost}
use Rattle.mdmp_lister.proofs.Fetches.{FetchesAtMost-within, IsCausedAt_later}
use Rattle.mdmp_lister.proofs.Naming.{source_reached}
use Rattle.mdmp_lister.proofs.Requests.{Spends-booked}

pub unobtained_read : (fault : FetchFault) → IsUnobtained (fault_of_fetch fault).kind
unobtained_read (fetch.Source f) = tt
unobtained_read (fetch.Budget offset size) = tt

-- the cause of a fetch's fault is that of the fault which it is answered with
pub caused_read : {T : Type 0} (U : Type 0) (fault : FetchFault) (old new : SourceState) → IsCaused (store_fault_of {T = U} (Err fault)) old new → IsCausedAt {T = T} (Err (fault_of_fetch fault)) old new
caused_read U (fetch.Source f) old new caused = record { caused = caused; placed = (refl, refl) }
caused_read U (fetch.Budget offset size) old new caused = record { caused = caused; placed = tt }

-- ---- names

-- a name was reached, and fetched behind that
module _ (limit rva : ℕ) (old mid new : MeterState) (reached : mid ≡ record old { names = raised old.names 1 }) (some : rva ≡ 0 → ⊥) where
  module _ (calls n : ℕ) (books : Books calls n mid new) (few : calls ≤ 2) (within : n ≤ limit + 4) where
    names_reached : new.names ≡ raised old.names 1
    names_reached = (rw reached at books).same_names

    spends_reached : Spends 0 0 limit old new
    spends_reached =
        let b = rw reached at books in
        let more = add-mul old.names 1 (limit + 4) in
        record {
          paid = λ small. let up : new.names ≡ old.names + 1 = omega (arith, b.same_names, small) in rw (up, more) (omega (arith, b.asked, within));
          paid_fetched = λ small. let up : new.names ≡ old.names + 1 = omega (arith, b.same_names, small) in rw (up, more) (omega (arith, b.most, within));
          paid_calls = λ small. omega (arith, b.same_names, small, b.most_calls, few);
          more = b.more;
          more_calls = b.more_calls;
          more_names = omega (arith, b.same_names);
          one_name = omega (arith, b.same_names);
          same_aside = b.same_aside;
          same_start = b.same_start;
          same_budget = b.same_budget;
        }

    reached_some : new.names ≡ raised_if (nat_lt 0 rva) old.names
    reached_some = names_reached ∙ sym (ap (λ more. raised_if more old.names) (lt-ltb 0 rva (omega (arith, some))))

    -- it was read
    pub name_obtained : (name : NameRead) → n ≤ read_cost name → read_once name ≡ 1 → IsCaused None mid.source new.source → ReadsName limit rva (Ok name) old new
    name_obtained name cost once caused =
        let b = rw reached at books in
        record {
          fetches = FetchesAtMost-within n (read_cost name) old.source new.source cost b.fetches;
          spends = spends_reached;
          cost = omega (arith, b.asked, cost);
          reached = reached_some;
          named = rw once names_reached;
          at_fault = tt;
          over = tt;
          caused = record { caused = rw reached at caused; placed = tt };
        }

    -- or its bytes were not obtained
    pub name_unread : (most : ℕ) (fault : FetchFault) → most ≤ max 4 limit → IsFetchOver most fault new → IsCaused (store_fault_of {T = Unit {0}} (Err fault)) mid.source new.source
        → ReadsName limit rva (Err (fault_of_fetch fault)) old new
    name_unread most fault le over caused =
        let b = rw reached at books in
        record {
          fetches = FetchesAtMost-within n (bad_name_cost limit (fault_of_fetch fault).kind) old.source new.source (rw (source_name_cost limit (fault_of_fetch fault).kind (unobtained_read fault)) (omega (arith, within))) b.fetches;
          spends = spends_reached;
          cost = tt;
          reached = reached_some;
          named = tt;
          at_fault = source_reached (fault_of_fetch fault).kind old new (unobtained_read fault) (omega (arith, b.same_names)) (omega (arith, b.same_names));
          over = over_read most (max 4 limit) fault new le over;
          caused = caused_read (Unit {0}) fault old.source new.source (rw reached at caused);
        }

    within_length : n ≤ 4 → FetchesAtMost 4 old.source new.source
    within_length cost = FetchesAtMost-within n 4 old.source new.source cost (rw reached at books.fetches)

    -- or its length has a fault
    checked_bad : n ≤ 4 → IsCaused None mid.source new.source → (odd inside : Bool) (bytes : ℕ)
        → IfErr {T = Unit {0}} {E = Fault} (if odd then Err (record { kind = NameOdd; offset = rva; size = bytes })
        else if not inside then Err (record { kind = NameUnitsOutside; offset = rva + 4; size = bytes })
        else Ok tt) (λ fault. ReadsName limit rva (Err fault) old new)
    checked_bad cost caused true inside bytes = record { fetches = within_length cost; spends = spends_reached; cost = tt; reached = reached_some; named = tt; at_fault = (omega (arith, names_reached), omega (arith, names_reached)); over = tt; caused = record { caused = rw reached at caused; placed = tt } }
    checked_bad cost caused false false bytes = record { fetches = within_length cost; spends = spends_reached; cost = tt; reached = reached_some; named = tt; at_fault = (omega (arith, names_reached), omega (arith, names_reached)); over = tt; caused = record { caused = rw reached at caused; placed = tt } }
    checked_bad cost caused false true bytes = tt

    pub name_bad : n ≤ 4 → IsCaused None mid.source new.source → (odd inside : Bool) (bytes : ℕ) (fault : Fault)
        → ◌≡◌ {A = Result (Unit {0}) Fault} (if odd then Err (record { kind = NameOdd; offset = rva; size = bytes })
        else if not inside then Err (record { kind = NameUnitsOutside; offset = rva + 4; size = bytes })
        else Ok tt) (Err fault) → ReadsName limit rva (Err fault) old new
    name_bad cost caused odd inside bytes fault same =
        subst (λ (r : Result (Unit {0}) Fault). IfErr r (λ fault. ReadsName limit rva (Err fault) old new)) same (checked_bad cost caused odd inside bytes)

-- ---- records

module _ {T : Type 0} (room spent limit : ℕ) (Is : List ℕ → T → Type 0) (old mid : MeterState) where
  -- a record whose bytes were not obtained
  pub reads_failed : (fault : FetchFault) → Reads room (Books (min 1 spent) spent) Is (Err fault) old mid → ReadsRecord room spent limit (Err (fault_of_fetch fault)) old mid
  reads_failed fault read =
      let books = read.books in
      record {
        fetches = FetchesAtMost-within spent (spent + step_spent limit (Err (fault_of_fetch fault))) old.source mid.source (omega arith) books.fetches;
        spends = Spends-booked (min 1 spent) spent limit old mid books;
        named = tt;
        at_fault = source_reached (fault_of_fetch fault).kind old mid (unobtained_read fault) (omega (arith, books.same_names)) (omega (arith, books.same_names));
        over = over_read room (max room (max 4 limit)) fault mid (omega arith) read.refused;
        caused = caused_read T fault old.source mid.source read.caused;
      }

  -- one that has no name
  pub reads_nameless : (x : T) (s : Step) → told_once s ≡ 0 → Reads room (Books (min 1 spent) spent) Is (Ok x) old mid → ReadsRecord room spent limit (Ok s) old mid
  reads_nameless x s none read =
      let books = read.books in
      record {
        fetches = FetchesAtMost-within spent (spent + step_cost s) old.source mid.source (omega arith) books.fetches;
        spends = Spends-booked (min 1 spent) spent limit old mid books;
        named = omega (arith, none, books.same_names);
        at_fault = tt;
        over = tt;
        caused = record { caused = read.caused; placed = tt };
      }

  module _ (rva : ℕ) (new : MeterState) where
    spends_named : (name : Result NameRead Fault) → Books (min 1 spent) spent old mid → ReadsName limit rva name mid new → Spends (min 1 spent) spent limit old new
    spends_named name books read = record {
      paid = λ few. let named = rw books.same_names at read.spends.paid in omega (arith, books.asked, named few);
      paid_fetched = λ few. let named = rw books.same_names at read.spends.paid_fetched in omega (arith, books.most, named few);
      paid_calls = λ few. let named = rw books.same_names at read.spends.paid_calls in omega (arith, books.most_calls, named few);
      more = omega (arith, books.more, read.spends.more);
      more_calls = omega (arith, books.more_calls, read.spends.more_calls);
      more_names = omega (arith, books.same_names, read.spends.more_names);
      one_name = omega (arith, books.same_names, read.spends.one_name);
      same_aside = read.spends.same_aside ∙ books.same_aside;
      same_start = read.spends.same_start ∙ books.same_start;
      same_budget = read.spends.same_budget ∙ books.same_budget;
    }

    -- one whose name was read
    pub reads_named : (x : T) (name : NameRead) (s : Step) → step_cost s ≡ name_spent limit (Ok name) → told_once s ≡ read_once name → Reads room (Books (min 1 spent) spent) Is (Ok x) old mid
        → ReadsName limit rva (Ok name) mid new → ReadsRecord room spent limit (Ok s) old new
    reads_named x name s cost once first read =
        let books = first.books in
        record {
          fetches = rw cost (fetches_then spent (name_spent limit (Ok name)) old.source mid.source new.source books.fetches read.fetches);
          spends = spends_named (Ok name) books read;
          named = rw (once, ← books.same_names) read.named;
          at_fault = tt;
          over = tt;
          caused = IsCausedAt_later (Ok s) spent old.source mid.source new.source books.fetches first.caused (record { caused = read.caused.caused; placed = tt });
        }

    -- or has a fault
    pub reads_misnamed : (x : T) (fault : Fault) → Reads room (Books (min 1 spent) spent) Is (Ok x) old mid → ReadsName limit rva (Err fault) mid new → ReadsRecord room spent limit (Err fault) old new
    reads_misnamed x fault first read =
        let books = first.books in
        record {
          fetches = fetches_then spent (name_spent limit (Err fault)) old.source mid.source new.source books.fetches read.fetches;
          spends = spends_named (Err fault) books read;
          named = tt;
          at_fault = rw books.same_names at read.at_fault;
          over = over-within (max 4 limit) (max room (max 4 limit)) fault.kind fault.offset fault.size _ _ (omega arith) read.over;
          caused = IsCausedAt_later (Err fault) spent old.source mid.source new.source books.fetches first.caused (record { caused = read.caused.caused; placed = read.caused.placed });
        }
