-- What a view tells of a fault.
use Rattle.std.proofs.Common.{◌≡◌, ◌∙◌, ◌+◌, ◌<◌, ℕ, List, Option, Some, None, Result, Ok, Err, refl, sym, ap, arith, subst}
use Rattle.std.specs.Prelude.{IfSome, IsOk}
use Rattle.mdmp_source.specs.Source.{SourceState, IsTold}
use Rattle.mdmp_source.specs.declared.fault.SourceFault.{SourceFault}
use Rattle.mdmp_source.specs.declared.fault.SourceFault.TheVariants.{Failed, ShortRead, Changed}
use Rattle.mdmp_lister.specs.Fault.{TellsNoChange}
use Rattle.mdmp_lister.specs.declared.fault.FaultKind.{FaultKind}
use Rattle.mdmp_lister.specs.declared.fault.FaultKind.TheVariants as kinds
use Rattle.mdmp_lister.specs.declared.fault.Fault.{Fault}
use Rattle.mdmp_lister.specs.declared.fault.ListFault.{ListFault}
use Rattle.mdmp_lister.specs.Format.Listing.{Numbered, count_listed}
use Rattle.mdmp_lister.specs.Format.Shape.{record_count}
use Rattle.mdmp_dump.specs.declared.fault.ReadFault.{ReadFault}
use Rattle.mdmp_dump.specs.declared.pass.Pass.{Pass}
use Rattle.mdmp_dump.specs.declared.view.ViewFault.TheVariants as view
use Rattle.mdmp_dump.specs.declared.fault.ReadFault.TheVariants as faults
use Rattle.mdmp_dump.specs.declared.found_record.FoundRecord.{FoundRecord}
use Rattle.mdmp_dump.specs.EntryWalk.{Begins, FindsRow, GivesNext, WalkState, ended_by, chosen_entry}
use Rattle.mdmp_dump.specs.FileRefusal.{IsOfWalk, IsUnbudgeted, body_told}
use Rattle.mdmp_dump.specs.FileView.{IsPass, IsPassOf, TellsViewFault, source_fault, told_as}
use Rattle.mdmp_dump.specs.Reading.{Fetches, IsLastTold, IsOwn, store_fault, store_fault_in}
use Rattle.mdmp_dump.specs.Shape.{IsChangeAt}
use Rattle.mdmp_dump.proofs.Refusals.{row_refused}

-- content that no file can be is not known
pub unknown : (c : Option (List ℕ)) → ((F : List ℕ) → c ≡ Some F → ⊥) → c ≡ None
unknown None none = refl
unknown (Some F) none = absurd (none F refl)

-- a fault is the view's own where it is want of memory or the store's
own_by : (fault : ReadFault) → (fault ≡ faults.Memory → ⊥) → store_fault fault ≡ None → IsOwn fault → ⊥
own_by faults.Memory able none own = able refl
own_by _ able none own = (let some = own.1 in cc)

-- a fault with which the walk ends is one of its listing, which tells no change
ended_as : (rva : ℕ) (told : SourceFault) → TellsNoChange (kinds.Source told) → told_as rva (Some told) ≡ view.Source told
ended_as rva (Changed at) steady = absurd steady
ended_as rva (Failed at) steady = refl
ended_as rva (ShortRead at) steady = refl

ended_kind : (rva : ℕ) (kind : FaultKind) (told : SourceFault) → TellsNoChange kind → store_fault_in kind ≡ Some told → told_as rva (store_fault_in kind) ≡ view.Source told
ended_kind rva (kinds.Source fault) told steady is = ended_as rva fault steady ∙ (let same : fault ≡ told = cc is in ap (λ (f : SourceFault). view.Source f) same)
ended_kind rva kind told steady is = absurd (cc is)

ended_is : (T : Type 0) (rva : ℕ) (fault : ReadFault) (told : SourceFault) → IsOfWalk fault → ended_by {T = T} (Err fault) ≡ Some told → told_as rva (store_fault fault) ≡ view.Source told
ended_is T rva (faults.List fault) told walk is = ended_kind rva fault.kind told walk.1 is
ended_is T rva _ told walk is = absurd (cc is)

last_by : (rva : ℕ) (o : Option SourceFault) (old new : SourceState) → IfSome o (λ of_store. IsLastTold of_store old new) → ((F : List ℕ) → old.store.content ≡ Some F → o ≡ None → ⊥)
    → IsLastTold (source_fault (told_as rva o)) old new
last_by rva (Some (Changed at)) old new told none = told
last_by rva (Some (Failed at)) old new told none = told
last_by rva (Some (ShortRead at)) old new told none = told
last_by rva None old new told none = unknown old.store.content (λ F known. none F known refl)

-- a fault of the listing is one of a walk
listed_walk : (fault : ReadFault) → (told : ListFault) × ((fault ≡ faults.List told) × IsUnbudgeted told.kind × TellsNoChange told.kind) → IsOfWalk fault
listed_walk fault told = subst IsOfWalk (sym told.1.0) (told.1.1, told.1.2)

-- a fault that a fetch told is no change
pub last_of : (fault : SourceFault) (old new : SourceState) → IsTold fault old new → IsLastTold fault old new
last_of (Changed at) old new told = absurd told.cause
last_of (Failed at) old new told = told
last_of (ShortRead at) old new told = told

pub fetched_place : (rva : ℕ) (fault : SourceFault) (old new : SourceState) → IsTold fault old new → IsChangeAt rva (view.Source fault)
fetched_place rva (Changed at) old new told = absurd told.cause
fetched_place rva (Failed at) old new told = tt
fetched_place rva (ShortRead at) old new told = tt

module _ (T U : Type 0) (old new : WalkState) where
  -- a fault of the walk is told
  pub tells_fault : (fault : ReadFault) (rva : ℕ) → IsOfWalk fault → (old.failed ≡ None → Fetches {T = U} (Err fault) old.source new.source)
      → ((F : List ℕ) → old.source.store.content ≡ Some F → store_fault fault ≡ None → ⊥)
      → new.failed ≡ ended_by {T = U} (Err fault)
      → ((told : SourceFault) → old.failed ≡ Some told → (new.source ≡ old.source) × (new.failed ≡ old.failed))
      → TellsViewFault {T = T} old (Err (told_as rva (store_fault fault))) new
  tells_fault fault rva walk fetches none failed repeats = record {
    told = λ going. last_by rva (store_fault fault) old.source new.source (fetches going).told none;
    ended = λ told is. ended_is U rva fault told walk (sym failed ∙ is);
    repeats = repeats;
    good = λ F good going. absurd (none F good.known ((fetches going).good F good));
  }

module _ (T : Type 0) (old new : WalkState) where
  -- a file that has changed is none of known content
  pub tells_change : (rva : ℕ) → ((F : List ℕ) → old.source.store.content ≡ Some F → ⊥) → new.failed ≡ None → ((told : SourceFault) → old.failed ≡ Some told → ⊥)
      → TellsViewFault {T = T} old (Err (told_as rva None)) new
  tells_change rva none failed going = record {
    told = λ _. unknown old.source.store.content none;
    ended = λ told is. absurd (let ended = is in cc);
    repeats = λ told is. absurd (going told is);
    good = λ F good _. absurd (none F good.known);
  }

  pub tells_ok : (x : T) → new.failed ≡ None → ((told : SourceFault) → old.failed ≡ Some told → ⊥) → TellsViewFault old (Ok x) new
  tells_ok x failed going = record {
    told = λ _. tt;
    ended = λ told is. absurd (let ended = is in cc);
    repeats = λ told is. absurd (going told is);
    good = λ F good _. refl;
  }

-- ---- a stream is begun

count_kept : (number : ℕ) (count : Result ℕ Fault) (n : ℕ) (f : ListFault) → count ≡ Ok n → count_listed number count ≡ Err f → ⊥
count_kept number (Ok m) n f is told = cc
count_kept number (Err fault) n f is told = cc

module _ (T : Type 0) (old new : WalkState) (k count : ℕ) (counted : (F : List ℕ) → old.source.store.content ≡ Some F → record_count F (chosen_entry old k).entry ≡ Ok count) where
  pub begin_refused : (fault : ReadFault) (rva : ℕ) → Begins old k (Err fault) new → TellsViewFault {T = T} old (Err (told_as rva (store_fault fault))) new
  begin_refused fault rva begins = tells_fault T ℕ old new fault rva (listed_walk fault begins.told) begins.fetches
      (λ F known none.
      let listed = begins.told in
      let told = begins.of_file F known (own_by fault (λ memory. (let list : faults.List listed.0 ≡ faults.Memory = sym listed.1.0 ∙ memory in cc)) none) in
      count_kept (chosen_entry old k).number (record_count F (chosen_entry old k).entry) count told.0 (counted F known) told.1.0)
      begins.failed
      (λ told is.
      let same = (begins.repeats told is).0 in
      (ap (λ (w : WalkState). w.source) same, ap (λ (w : WalkState). w.failed) same))

module _ (old new : WalkState) (k count : ℕ) (counted : (F : List ℕ) → old.source.store.content ≡ Some F → record_count F (chosen_entry old k).entry ≡ Ok count) where
  pub going_on : (now : ℕ) → Begins old k (Ok now) new → (told : SourceFault) → old.failed ≡ Some told → ⊥
  going_on now begins told is = (begins.repeats told is).1

  pub same_count : (now : ℕ) → Begins old k (Ok now) new → (F : List ℕ) → old.source.store.content ≡ Some F → now ≡ count
  same_count now begins F known = (let is = begins.of_file F known in let was = counted F known in cc)

-- ---- a record is taken

module _ (Z : Type 0) (old new : WalkState) (limit : ℕ) (p : Pass) (passing : IsPass old p) (going : 0 < p.left) (unfailed : old.failed ≡ None)
    (of_file : (F : List ℕ) → old.source.store.content ≡ Some F → IsPassOf Z F limit old p) where
  -- the record that is found is the next one of the pass
  pub next_row : (result : Result FoundRecord ReadFault) → GivesNext old limit result new → (F : List ℕ) → old.source.store.content ≡ Some F → FindsRow F limit (chosen_entry old p.stream) p.given result
  next_row result gives F known =
      let next = gives.of_file F known in
      let stands = passing.going going in
      let counted = (of_file F known).counted in
      let count : record_count F (chosen_entry old p.stream).entry ≡ Ok (next.0 + old.left) = subst (λ (x : Numbered). record_count F x.entry ≡ Ok (next.0 + old.left)) stands.0 next.1.0 in
      let sum : next.0 + old.left ≡ p.given + p.left = (let a = count in let b = counted in cc) in
      let same : next.0 ≡ p.given = omega (arith, sum, stands.1) in
      subst (λ (i : ℕ). FindsRow F limit (chosen_entry old p.stream) i result) same (subst (λ (x : Numbered). FindsRow F limit x next.0 result) stands.0 next.1.1)

  pub next_refused : (T : Type 0) (fault : ReadFault) (rva : ℕ) → GivesNext old limit (Err fault) new → TellsViewFault {T = T} old (Err (told_as rva (store_fault fault))) new
  next_refused T fault rva gives = tells_fault T FoundRecord old new fault rva gives.told (λ _. gives.fetches)
      (λ F known none.
      let pass = of_file F known in
      let refused : body_told F limit (chosen_entry old p.stream) p.given ≡ Some fault =
      row_refused F limit (chosen_entry old p.stream) (p.given + p.left) pass.counted p.given fault (next_row (Err fault) gives F known) (own_by fault (gives.able F known) none) in
      let quiet = pass.quiet in
      cc)
      gives.failed
      (λ told is. absurd (let no = unfailed in cc))

  -- or the file has changed, where it is not known
  pub next_changed : (T : Type 0) (result : Result FoundRecord ReadFault) (rva : ℕ) → GivesNext old limit result new → IsOk result → ((F : List ℕ) → old.source.store.content ≡ Some F → ⊥)
      → TellsViewFault {T = T} old (Err (told_as rva None)) new
  next_changed T (Ok f) rva gives ok none = tells_change T old new rva none gives.failed (λ told is. (let no = unfailed in cc))
  next_changed T (Err fault) rva gives ok none = absurd (let no = ok in cc)
