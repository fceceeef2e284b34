-- Faults of the budget: what they tell stays so, and is of no more than a walk may fetch.
use Rattle.std.proofs.Common.{◌≡◌, ◌≤◌, ◌+◌, ◌*◌, ◌∙◌, ap, ℕ, List, Option, Some, None, Result, Ok, Err, arith, refl, subst}
use Rattle.std.specs.Prelude.{IfSome, IfErr, max}
use Rattle.mdmp_source.specs.Count.{raised}
use Rattle.mdmp_source.specs.Source.{SourceState}
use Rattle.mdmp_wire.specs.declared.header.Header.{Header}
use Rattle.mdmp_lister.specs.declared.fault.OpenFault.{OpenFault}
use Rattle.mdmp_lister.specs.declared.fault.OpenFault.TheVariants as opening
use Rattle.mdmp_lister.specs.declared.limits.Limits.{Limits}
use Rattle.mdmp_lister.specs.declared.meter.Amount.{Amount}
use Rattle.mdmp_lister.specs.Format.Listing.{entry_count}
use Rattle.mdmp_lister.specs.Opening.{IsFromBytes, IsOpeningOver, KeepsToBudget, TellsOver, TriesHeader, refusal_of_fetch}
use Rattle.mdmp_lister.specs.declared.fault.FaultKind.{FaultKind}
use Rattle.mdmp_lister.specs.declared.fault.FaultKind.TheVariants as kind
use Rattle.mdmp_lister.specs.declared.fault.FetchFault.{FetchFault}
use Rattle.mdmp_lister.specs.declared.fault.FetchFault.TheVariants as fetch
use Rattle.mdmp_lister.specs.declared.fault.ListFault.{ListFault}
use Rattle.mdmp_lister.specs.declared.meter.MeterCounts.{MeterCounts}
use Rattle.mdmp_lister.specs.Fault.{fault_of_fetch}
use Rattle.mdmp_lister.specs.Meter.{Books, IsBooked, IsFetchOver, IsUnmade, IsRefusedFetch, KeepsTo, MeterState, TellsBudget, TriesFetch, counts_of}
use Rattle.mdmp_lister.specs.Stage.{IsOverAt, failure_of, fault_stage, stage_by}
use Rattle.mdmp_lister.specs.declared.stage.Stage.{Stage}

refused-within : (m n offset size : ℕ) (c : MeterCounts) (z : ℕ) → m ≤ n → IsRefusedFetch m offset size c z → IsRefusedFetch n offset size c z
refused-within m n offset size c z le refused = record { passes = refused.passes; asked = refused.asked; inside = refused.inside; few = omega (arith, le, refused.few) }

-- a fault tells no less of a greater bound
pub over-within : (m n : ℕ) (kind : FaultKind) (offset size : ℕ) (c : MeterCounts) (z : ℕ) → m ≤ n → IsUnmade m kind offset size c z → IsUnmade n kind offset size c z
over-within m n kind.Budget offset size c z le over = refused-within m n offset size c z le over
over-within m n _ offset size c z le over = tt

fetch_over-within : (m n : ℕ) (fault : FetchFault) (v : MeterState) → m ≤ n → IsFetchOver m fault v → IsFetchOver n fault v
fetch_over-within m n (fetch.Source fault) v le told = tt
fetch_over-within m n (fetch.Budget offset size) v le told = refused-within m n offset size (counts_of v) v.source.size le told

pub tells-within : {T : Type 0} (m n : ℕ) (r : Result T FetchFault) (v : MeterState) → m ≤ n → TellsBudget m r v → TellsBudget n r v
tells-within m n (Ok x) v le told = tt
tells-within m n (Err fault) v le told = fetch_over-within m n fault v le told

-- the fault that a fetch is answered with, as a fault of a listing
pub over_read : (m n : ℕ) (fault : FetchFault) (v : MeterState) → m ≤ n → IsFetchOver m fault v
    → IsUnmade n (fault_of_fetch fault).kind (fault_of_fetch fault).offset (fault_of_fetch fault).size (counts_of v) v.source.size
over_read m n (fetch.Source fault) v le told = tt
over_read m n (fetch.Budget offset size) v le told = refused-within m n offset size (counts_of v) v.source.size le told

-- it stays so while nothing is fetched for the listing
pub over_kept : (most : ℕ) (kind : FaultKind) (offset size : ℕ) (old new : MeterCounts) (y z : ℕ) → new.budget ≡ old.budget → new.fetched ≡ old.fetched → new.asked ≡ old.asked → z ≡ y
    → IsUnmade most kind offset size old y → IsUnmade most kind offset size new z
over_kept most kind.Budget offset size old new y z budget fetched asked same over = record { passes = rw (budget, fetched) over.passes; asked = rw (fetched, asked) over.asked; inside = rw same over.inside; few = over.few }
over_kept most _ offset size old new y z budget fetched asked same over = tt

stands_kept : (most : ℕ) (failure : Option ListFault) (old new : MeterCounts) (y z : ℕ) → new.budget ≡ old.budget → new.fetched ≡ old.fetched → new.asked ≡ old.asked → z ≡ y
    → IfSome failure (λ f. IsUnmade most f.kind f.offset f.size old y) → IfSome failure (λ f. IsUnmade most f.kind f.offset f.size new z)
stands_kept most None old new y z budget fetched asked same over = tt
stands_kept most (Some f) old new y z budget fetched asked same over = over_kept most f.kind f.offset f.size old new y z budget fetched asked same over

pub over_at_kept : (most : ℕ) (stage : Stage) (old new : MeterState) → new.budget ≡ old.budget → new.fetched ≡ old.fetched → new.asked ≡ old.asked → new.source.size ≡ old.source.size
    → IsOverAt most stage old → IsOverAt most stage new
over_at_kept most stage old new budget fetched asked same over = stands_kept most (failure_of stage) (counts_of old) (counts_of new) old.source.size new.source.size budget fetched asked same over

stage_by-over : (most : ℕ) (f : ListFault) (kind : FaultKind) (v : MeterState) → IsUnmade most f.kind f.offset f.size (counts_of v) v.source.size → IsOverAt most (stage_by kind f) v
stage_by-over most f (kind.Source fault) v over = over
stage_by-over most f kind.Budget v over = over
stage_by-over most f _ v over = tt

-- a walk that stays at such a fault
pub fault_stage-over : (most : ℕ) (f : ListFault) (v : MeterState) → IsUnmade most f.kind f.offset f.size (counts_of v) v.source.size → IsOverAt most (fault_stage f) v
fault_stage-over most f v over = stage_by-over most f f.kind v over

told_over : (most : ℕ) (f : ListFault) (kind : FaultKind) (v : MeterState) → f.kind ≡ kind → IsOverAt most (stage_by kind f) v → IsUnmade most kind f.offset f.size (counts_of v) v.source.size
told_over most f (kind.Source fault) v same over = tt
told_over most f kind.Budget v same over = subst (λ (k : FaultKind). IsUnmade most k f.offset f.size (counts_of v) v.source.size) same over
told_over most f _ v same over = tt

-- and a fault at which a walk stays is such a one
pub fault_over : (most : ℕ) (f : ListFault) (v : MeterState) → IsOverAt most (fault_stage f) v → IsUnmade most f.kind f.offset f.size (counts_of v) v.source.size
fault_over most f v over = told_over most f f.kind v refl over

-- ---- a refusal to open

-- a meter that was begun over a source, by the limits of an opening, and was asked for at most n bytes since then
pub record IsOpening (limits : Limits) (old : SourceState) (n : ℕ) (m : MeterState) : Type 0 where
  pub budget : m.budget ≡ limits.budget
  pub start : m.start ≡ record { bytes = old.fetched; calls = old.calls }
  pub aside : m.aside ≡ record { bytes = 0; calls = 0 }
  pub size : m.source.size ≡ old.size
  pub asked : m.asked ≤ n

module _ (limits : Limits) (old : SourceState) where
  pub opening-begun : (m : MeterState) → m ≡ record { source = old; fetched = 0; calls = 0; names = 0; aside = record { bytes = 0; calls = 0 }; start = record { bytes = old.fetched; calls = old.calls }; budget = limits.budget; asked = 0 }
      → IsOpening limits old 0 m
  opening-begun m is = rw is (record { budget = refl; start = refl; aside = refl; size = refl; asked = omega arith })

  pub opening-then : (m calls n : ℕ) (a b : MeterState) → IsOpening limits old m a → Books calls n a b → IsOpening limits old (m + n) b
  opening-then m calls n a b is books = record {
    budget = books.same_budget ∙ is.budget;
    start = books.same_start ∙ is.start;
    aside = books.same_aside ∙ is.aside;
    size = books.fetches.same_size ∙ is.size;
    asked = omega (arith, books.asked, is.asked);
  }

  module _ (n most streams : ℕ) (m : MeterState) (is : IsOpening limits old n m) (booked : IsBooked m.source (counts_of m)) (kept : KeepsTo m.budget m.fetched) (few : most ≤ max limits.window limits.name)
      (bound : n ≤ 32 + 28 * streams) (within : 12 * streams ≤ old.size) (known : (file : List ℕ) → old.store.content ≡ Some file → streams ≤ entry_count file) where
    -- where it tells the budget
    tells_over : (fault : OpenFault) → IsOpeningOver most fault m → TellsOver limits old m.fetched fault
    tells_over (opening.Budget offset size) over = record {
      passes = rw (← is.budget) over.passes;
      inside = rw (← is.size) over.inside;
      most = omega (arith, few, over.few);
      streams = streams;
      bound = omega (arith, over.asked, is.asked, bound);
      within = within;
      known = known;
    }
    tells_over _ over = tt

    pub opening-over : (fault : OpenFault) → IsOpeningOver most fault m → KeepsToBudget limits old fault m.source
    opening-over fault over = record {
      fetched = m.fetched;
      spent = omega (arith, booked.bytes, ap (λ (a : Amount). a.bytes) is.start, ap (λ (a : Amount). a.bytes) is.aside);
      kept = rw (← is.budget) kept;
      over = tells_over fault over;
    }

-- a fetch that was answered with a fault
pub over_fetched : (n : ℕ) (fault : FetchFault) (m : MeterState) → IsFetchOver n fault m → IsOpeningOver n (refusal_of_fetch fault) m
over_fetched n (fetch.Source fault) m over = tt
over_fetched n (fetch.Budget offset size) m over = over

refusal_over : (n : ℕ) (fault : OpenFault) (m : MeterState) → IsFromBytes {T = Header} (Err fault) → IsOpeningOver n fault m
refusal_over n (opening.Budget offset size) m obtained = absurd obtained
refusal_over n _ m obtained = tt

-- bytes that were obtained tell no budget
pub over_obtained : (n : ℕ) (r : Result Header OpenFault) (m : MeterState) → IsFromBytes r → IfErr r (λ fault. IsOpeningOver n fault m)
over_obtained n (Ok header) m obtained = tt
over_obtained n (Err fault) m obtained = refusal_over n fault m obtained

-- the fetch of a header
pub header_tried : (fault : FetchFault) (old new : MeterState) → TriesFetch {T = Unit {0}} 0 32 (Err fault) old new → TriesHeader (Err (refusal_of_fetch fault)) old new
header_tried (fetch.Source fault) old new tried = tt
header_tried (fetch.Budget offset size) old new tried = tried

refusal_tried : (fault : OpenFault) (old new : MeterState) → IsFromBytes {T = Header} (Err fault) → TriesHeader (Err fault) old new
refusal_tried (opening.Budget offset size) old new obtained = absurd obtained
refusal_tried _ old new obtained = tt

pub header_obtained : (r : Result Header OpenFault) (old new : MeterState) → IsFromBytes r → new.fetched ≡ raised old.fetched 32 → TriesHeader r old new
header_obtained (Ok header) old new obtained made = made
header_obtained (Err fault) old new obtained made = refusal_tried fault old new obtained

-- behind the header no more than that was fetched
pub header-kept : (limits : Limits) (old : SourceState) (began m : MeterState)
    → began ≡ record { source = old; fetched = 0; calls = 0; names = 0; aside = record { bytes = 0; calls = 0 }; start = record { bytes = old.fetched; calls = old.calls }; budget = limits.budget; asked = 0 }
    → Books 1 32 began m → IsBooked m.source (counts_of m) → KeepsTo m.budget m.fetched → (fault : OpenFault) → IsOpeningOver 32 fault m → KeepsToBudget limits old fault m.source
header-kept limits old began m is books booked kept =
    opening-over limits old (0 + 32) 32 0 m (opening-then limits old 0 1 32 began m (opening-begun limits old began is) books) booked kept (omega (arith, limits.window_least)) (omega arith) (omega arith) (λ file known. omega arith)
