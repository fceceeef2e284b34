-- Steps that are taken one after another.
use Rattle.std.proofs.Common.{◌≡◌, ◌∙◌, ◌+◌, ℕ, List, [], ◌∷◌, ◌++◌, Option, Some, None, Result, Ok, Err, ap, append_assoc, refl, subst, sym}
use Rattle.std.specs.Prelude.{IfSome, MatchResult}
use Rattle.std.specs.Result.{IsErrAnd}
use Rattle.mdmp_source.specs.Source.{SourceState, FetchesSome}
use Rattle.mdmp_source.specs.SourceLaws.{fetches_then, told_later}
use Rattle.mdmp_source.specs.Store.{IsGood}
use Rattle.mdmp_wire.specs.declared.entry.Entry.{Entry}
use Rattle.mdmp_lister.specs.declared.fault.FaultKind.{FaultKind}
use Rattle.mdmp_lister.specs.declared.fault.FaultKind.TheVariants as kinds
use Rattle.mdmp_lister.specs.declared.fault.ListFault.{ListFault}
use Rattle.mdmp_lister.specs.Fault.{IsOfStore, IsToldByFetch, IsToldIn}
use Rattle.mdmp_lister.specs.Following.{FitsFile}
use Rattle.mdmp_source.specs.declared.fault.SourceFault.{SourceFault}
use Rattle.mdmp_source.specs.declared.fault.SourceFault.TheVariants.{Failed, ShortRead, Changed}
use Rattle.mdmp_lister.proofs.Fetches.{FetchesAtMost-none, IsGood-later}
use Rattle.mdmp_dump.specs.declared.fault.ReadFault.{ReadFault}
use Rattle.mdmp_dump.specs.declared.fault.ReadFault.TheVariants as faults
use Rattle.mdmp_lister.specs.declared.step.ItemRead.{ItemRead}
use Rattle.mdmp_lister.specs.declared.step.ItemRead.TheVariants as reads
use Rattle.mdmp_dump.specs.declared.reader.Reader.{Reader}
use Rattle.mdmp_dump.specs.Reading.{Fetches, FindsRead, IsLastTold, IsNameTaken, IsReadRefusal, Settles, TakesSteps, store_fault, store_fault_in}
use Rattle.mdmp_dump.specs.Refusal.{Refuse, ReadStep, first_refusal, name_steps}
use Rattle.mdmp_dump.specs.declared.reader.Told.{Told}
use Rattle.mdmp_dump.proofs.ItemsRead.{parts_append, parts_first, parts_none, parts_unread}
use Rattle.mdmp_dump.proofs.Keeping.{keeps_before, keeps_later, keeps_memory, keeps_none}
use Rattle.mdmp_lister.specs.Format.Name.{plain_name}
use Rattle.mdmp_lister.specs.declared.name.Name.{Name}
use Rattle.mdmp_lister.specs.declared.name.Name.TheVariants.{Long}

-- ---- fetches

pub FetchesSome_none : (a : SourceState) → FetchesSome a a
FetchesSome_none a = record { count = 0; fetches = FetchesAtMost-none a }

pub FetchesSome_then : (a b c : SourceState) → FetchesSome a b → FetchesSome b c → FetchesSome a c
FetchesSome_then a b c first then = record {
  count = first.count + then.count;
  fetches = fetches_then first.count then.count a b c first.fetches then.fetches;
}

-- a fault that is told behind some fetches is told by them all
pub last_told_later : (fault : Option SourceFault) (a b c : SourceState) → FetchesSome a b
    → IfSome fault (λ of_store. IsLastTold of_store b c) → IfSome fault (λ of_store. IsLastTold of_store a c)
last_told_later (Some (Changed at)) a b c first told = sym first.fetches.same_content ∙ told
last_told_later (Some (Failed at)) a b c first told = told_later (Failed at) first.count a b c first.fetches told
last_told_later (Some (ShortRead at)) a b c first told = told_later (ShortRead at) first.count a b c first.fetches told
last_told_later None a b c first told = tt

-- no fault of the store behind some fetches: an answer, or want of memory
pub Fetches_only : {T : Type 0} (x : T) (a b : SourceState) → FetchesSome a b → Fetches (Ok x) a b
Fetches_only x a b some = record { fetches = some; told = tt; good = λ file good. tt; refusal = tt }

pub Fetches_memory : {T : Type 0} (a b : SourceState) → FetchesSome a b → Fetches {T = T} (Err faults.Memory) a b
Fetches_memory a b some = record { fetches = some; told = tt; good = λ file good. refl; refusal = tt }

-- a fault where another type of answer was asked for
pub Fetches_as : {T U : Type 0} (fault : ReadFault) (a b : SourceState) → Fetches {T = T} (Err fault) a b → Fetches {T = U} (Err fault) a b
Fetches_as fault a b told = record { fetches = told.fetches; told = told.told; good = told.good; refusal = told.refusal }

-- what the exit of a `?` answers
pub refused_by : {T : Type 0} (result : Result T ReadFault) (fault : ReadFault) → IsErrAnd result (λ told. told ≡ fault) → result ≡ Err fault
refused_by (Ok x) fault is = absurd is
refused_by (Err told) fault is = ap (λ (f : ReadFault). Err f) is

-- the fault of a listing
told_last : (e : Entry) (kind : FaultKind) (a b : SourceState) → IsToldByFetch e kind a b → IfSome (store_fault_in kind) (λ of_store. IsLastTold of_store a b)
told_last e (kinds.Source (Changed at)) a b told = told.0
told_last e (kinds.Source (Failed at)) a b told = told
told_last e (kinds.Source (ShortRead at)) a b told = told
told_last e kind a b told = tt

none_of_store : (kind : FaultKind) → (IsOfStore kind → ⊥) → store_fault_in kind ≡ None
none_of_store (kinds.Source fault) never = absurd (never tt)
none_of_store kind never = refl

pub Fetches_listed : {T : Type 0} (e : Entry) (f : ListFault) (a b : SourceState) → FetchesSome a b → IsToldIn e f a b
    → ((file : List ℕ) → IsGood a.store file → IsOfStore f.kind → ⊥) → FitsFile a.size f → Fetches {T = T} (Err (faults.List f)) a b
Fetches_listed e f a b some told good fits = record {
  fetches = some;
  told = told_last e f.kind a b told.by;
  good = λ file is. none_of_store f.kind (good file is);
  refusal = fits;
}

-- an item is refused for the length of its name alone
long_only : (size e k : ℕ) (name : Name) (fault : ReadFault) → name_steps e k name ≡ Refuse fault ∷ [] → (store_fault fault ≡ None) × IsReadRefusal size fault
long_only size e k (Long bytes) fault is =
    let same : faults.NameTooLong e k bytes ≡ fault = cc in subst (λ (f : ReadFault). (store_fault f ≡ None) × IsReadRefusal size f) same (refl, tt)
long_only size e k _ fault is = absurd (cc)

-- what is found of an item that was read
module _ {Z : Type 0} (a b : SourceState) (some : FetchesSome a b) where
  refused : (e k : ℕ) (name : Name) (fault : ReadFault) → name_steps e k name ≡ Refuse fault ∷ [] → Fetches {T = Told Z} (Err fault) a b
  refused e k name fault is =
      let only = long_only a.size e k name fault is in
      record { fetches = some; told = rw (only.0) tt; good = λ file good. only.0; refusal = only.1 }

  named : (e k : ℕ) (name : Name) (fault : ReadFault) → IsNameTaken (name_steps e k name) name (Err fault) → Fetches {T = Told Z} (Err fault) a b
  named e k name faults.Memory of = Fetches_memory a b some
  named e k name fault of = refused e k name fault of

  pub Fetches_found : (item : ItemRead) (result : Result (Told Z) ReadFault) → FindsRead item result → Fetches result a b
  Fetches_found (reads.Stream x) (Ok y) of = Fetches_only y a b some
  Fetches_found (reads.Stream x) (Err fault) of = absurd (cc of)
  Fetches_found (reads.Record r name) (Ok y) of = Fetches_only y a b some
  Fetches_found (reads.Record r name) (Err fault) of = named r.entry r.index (plain_name name) fault of

-- fetches without a fault, and then more
module _ {T : Type 0} (a b c : SourceState) (first : FetchesSome a b) where
  pub fetches_ok : (x : T) → FetchesSome b c → Fetches (Ok x) a c
  fetches_ok x more = Fetches_only x a c (FetchesSome_then a b c first more)

  pub fetches_err : {U : Type 0} (fault : ReadFault) → Fetches {T = U} (Err fault) b c → Fetches {T = T} (Err fault) a c
  fetches_err fault more = record {
    fetches = FetchesSome_then a b c first more.fetches;
    told = last_told_later (store_fault fault) a b c first more.told;
    good = λ file good. more.good file (IsGood-later file first.count a b first.fetches good);
    refusal = subst (λ (size : ℕ). IsReadRefusal size fault) first.fetches.same_size more.refusal;
  }

pub Fetches_later : {T : Type 0} (result : Result T ReadFault) (a b c : SourceState) → FetchesSome a b → Fetches result b c → Fetches result a c
Fetches_later (Ok x) a b c first then = fetches_ok a b c first x then.fetches
Fetches_later (Err fault) a b c first then = fetches_err a b c first fault then

-- ---- steps

module _ {S A : Type 0} where
  -- nothing is asked
  pub Takes_none : {T : Type 0} (old : Reader S A) (x : T) → TakesSteps [] old (Ok x) old
  Takes_none old x = record {
    same = refl;
    fetches = Fetches_only x old.lister.source old.lister.source (FetchesSome_none old.lister.source);
    settles = λ rest last. refl;
    parts = parts_none [] old.lister;
    of_steps = tt;
    keeps = keeps_none old;
  }

  -- where memory is wanting, whatever is asked
  pub Takes_memory : {T : Type 0} (steps : List ReadStep) (old : Reader S A) → TakesSteps {T = T} steps old (Err faults.Memory) old
  Takes_memory steps old = record {
    same = refl;
    fetches = Fetches_memory old.lister.source old.lister.source (FetchesSome_none old.lister.source);
    settles = λ rest last other. absurd (other tt);
    parts = parts_unread steps old.lister;
    of_steps = λ is. is;
    keeps = keeps_memory old old (keeps_none old);
  }

  -- a part whose size alone is told, or which can't be
  pub Takes_absent : {T : Type 0} (P : T → Type 0) (old : Reader S A) (result : Result T ReadFault) → MatchResult result P (λ fault. fault ≡ faults.Memory) → TakesSteps [] old result old
  Takes_absent P old (Ok x) is = Takes_none old x
  Takes_absent {T = T} P old (Err fault) is = subst (λ (f : ReadFault). TakesSteps {T = T} [] old (Err f) old) (sym is) (Takes_memory [] old)

  module _ {T : Type 0} (steps : List ReadStep) (old new : Reader S A) (result : Result T ReadFault) (takes : TakesSteps steps old result new) where
    -- the file stays, and its size
    pub TakesSteps-known : (file : List ℕ) → old.lister.source.store.content ≡ Some file → new.lister.source.store.content ≡ Some file
    TakesSteps-known file known = takes.fetches.fetches.fetches.same_content ∙ known

    pub TakesSteps-size : new.lister.source.size ≡ old.lister.source.size
    TakesSteps-size = takes.fetches.fetches.fetches.same_size

  -- what is asked of a file of another size, which is the same
  pub Takes_at : {T : Type 0} (steps : ℕ → List ReadStep) (old new : Reader S A) (result : Result T ReadFault) (z : ℕ) → old.lister.source.size ≡ z
      → TakesSteps (steps old.lister.source.size) old result new → TakesSteps (steps z) old result new
  Takes_at steps old new result z same takes = subst (λ (n : ℕ). TakesSteps (steps n) old result new) same takes

  module _ {T U : Type 0} (steps : List ReadStep) (old : Reader S A) where
    -- what was taken may be put into another value
    pub Takes_as : (x : T) (y : U) (new : Reader S A) → TakesSteps steps old (Ok x) new → TakesSteps steps old (Ok y) new
    Takes_as x y new takes = record {
      same = takes.same;
      fetches = Fetches_only y old.lister.source new.lister.source takes.fetches.fetches;
      settles = λ rest last. takes.settles rest last;
      parts = takes.parts;
      of_steps = tt;
      keeps = takes.keeps;
    }

    -- behind what was taken some more is asked
    pub Takes_then : (more : List ReadStep) (x : T) (result : Result U ReadFault) (mid new : Reader S A)
        → TakesSteps steps old (Ok x) mid → TakesSteps more mid result new → TakesSteps (steps ++ more) old result new
    Takes_then more x result mid new first then = record {
      same = then.same ∙ (λ i. record (first.same i) { source = new.lister.source; counts = new.lister.counts });
      fetches = Fetches_later result old.lister.source mid.lister.source new.lister.source first.fetches.fetches then.fetches;
      settles = λ rest last.
          let all : first_refusal old.left 0 ((steps ++ more) ++ rest) last ≡ first_refusal mid.left 0 (more ++ rest) last =
          ap (λ (all : List ReadStep). first_refusal old.left 0 all last) (append_assoc steps more rest) ∙ first.settles (more ++ rest) last in
          subst (λ (refusal : Option ReadFault). Settles refusal result (λ _. first_refusal new.left 0 rest last)) (sym all) (then.settles rest last);
      parts = parts_append steps more old.lister mid.lister new.lister first.parts then.parts;
      of_steps = then.of_steps;
      keeps = keeps_later steps more result old mid new first.keeps then.keeps;
    }

    -- a step that can't be taken is the last
    pub Takes_fault : (more : List ReadStep) (fault : ReadFault) (new : Reader S A)
        → TakesSteps {T = T} steps old (Err fault) new → TakesSteps {T = U} (steps ++ more) old (Err fault) new
    Takes_fault more fault new takes = record {
      same = takes.same;
      fetches = Fetches_as fault old.lister.source new.lister.source takes.fetches;
      settles = λ rest last other.
          ap (λ (all : List ReadStep). first_refusal old.left 0 all last) (append_assoc steps more rest) ∙ takes.settles (more ++ rest) last other;
      parts = parts_first steps more old.lister new.lister takes.parts;
      of_steps = takes.of_steps;
      keeps = keeps_before steps more fault old new takes.keeps;
    }

    -- and so at another type of result
    pub Takes_fault_as : (fault : ReadFault) (new : Reader S A) → TakesSteps {T = T} steps old (Err fault) new → TakesSteps {T = U} steps old (Err fault) new
    Takes_fault_as fault new takes = record {
      same = takes.same;
      fetches = Fetches_as fault old.lister.source new.lister.source takes.fetches;
      settles = λ rest last other. takes.settles rest last other;
      parts = takes.parts;
      of_steps = takes.of_steps;
      keeps = takes.keeps;
    }
