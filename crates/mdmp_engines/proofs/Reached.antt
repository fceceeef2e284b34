-- The names that a command has reached.
use Rattle.std.proofs.Common.{◌≡◌, ◌≤◌, ◌<◌, ◌∙◌, ◌+◌, ◌^◌, ◌++◌, ℕ, List, [], ◌∷◌, Some, ap, arith, sym, append_assoc}
use Rattle.std.specs.List.{flat_map}
use Rattle.std.specs.Prelude.{Err, Ok, Result, length, slice_get, sum_by, take, drop}
use Rattle.std.specs.Option.{option_map}
use Rattle.std.proofs.lemmas.List.{take-append-drop}
use Rattle.std.proofs.lemmas.List.Concat.{flat_map-append}
use Rattle.std.proofs.lemmas.List.Sums.{sum_by-append, sum_by-cons}
use Rattle.mdmp_source.specs.Count.{raised}
use Rattle.mdmp_lister.specs.declared.choice.Choice.{Choice}
use Rattle.mdmp_lister.specs.declared.choice.Choice.TheVariants.{All}
use Rattle.mdmp_lister.specs.declared.fault.FaultKind.{FaultKind}
use Rattle.mdmp_lister.specs.declared.fault.FaultKind.TheVariants as kinds
use Rattle.mdmp_lister.specs.declared.item.Item.{Item}
use Rattle.mdmp_lister.specs.declared.sink.RunFault.{RunFault}
use Rattle.mdmp_lister.specs.declared.sink.RunFault.TheVariants as run
use Rattle.mdmp_lister.specs.declared.verdict.Verdict.{Verdict}
use Rattle.mdmp_lister.specs.Check.{AreFirstVerdicts, EndsBefore, ReadsFirst, items_of, names_at, names_at_end, names_judged}
use Rattle.mdmp_lister.specs.Format.Item.{plain}
use Rattle.mdmp_lister.specs.Format.Listing.{Numbered, Run, chosen, entry_listing, listing, nothing, verdicts}
use Rattle.mdmp_lister.specs.Format.Numbers.{maybe_name, names_of}
use Rattle.mdmp_lister.specs.Lister.{IsSameLister, ListerState, tail}
use Rattle.mdmp_lister.specs.declared.meter.Amount.{Amount}
use Rattle.mdmp_lister.specs.Sink.{names_of_all}
use Rattle.mdmp_lister.proofs.Handing.{rose_exactly}
use Rattle.mdmp_lister.proofs.Naming.{names_of-plain}
use Rattle.mdmp_engines.specs.Engines.{IsOpened, past_faults, up_to_a_fault}
use Rattle.mdmp_engines.specs.ReadThrough.{IsSameRun, KeepsNames, KeepsReads, at_most}
use Rattle.mdmp_engines.proofs.Symbols.{first_then}

-- ---- of a check

-- what was begun of some entries comes first
begun_first : (F : List ℕ) (limit : ℕ) (left : List Numbered) (begun : List Item) (result : Result (Unit {0}) RunFault) → EndsBefore F limit left begun result
    → (more : List Item) × (items_of F limit left ≡ begun ++ more)
begun_first F limit left begun (Ok done) ends = ([], ap (items_of F limit) ends.0 ∙ ap (λ (xs : List Item). xs ++ []) (sym ends.1))
begun_first F limit left begun (Err run.Stopped) ends = (items_of F limit left, ap (λ (xs : List Item). xs ++ items_of F limit left) (sym ends))
begun_first F limit left begun (Err (run.At f)) ends =
    let behind = items_of F limit ends.behind in
    (ends.more ++ behind, ap (items_of F limit) ends.first ∙ ap (λ (xs : List Item). xs ++ behind) ends.begun ∙ append_assoc begun ends.more behind)

-- so do the verdicts
faults_first : (all judged : List Verdict) (result : Result (Unit {0}) RunFault) → AreFirstVerdicts all judged result → sum_by (λ v. names_at v.fault) judged ≤ sum_by (λ v. names_at v.fault) all
faults_first all judged (Ok done) same = let is = ap (λ (vs : List Verdict). sum_by (λ v. names_at v.fault) vs) same in omega (arith, is)
faults_first all judged (Err fault) first =
    let is = ap (λ (vs : List Verdict). sum_by (λ v. names_at v.fault) vs) first.1 in
    omega (arith, is, sum_by-append (λ (v : Verdict). names_at v.fault) judged first.0)

-- no more names were reached than all entries have
pub names_judged_most : (F : List ℕ) (choice : Choice) (limit : ℕ) (items : List Item) (judged : List Verdict) (result : Result (Unit {0}) RunFault)
    → ReadsFirst F limit (chosen F choice) (length judged) items result → AreFirstVerdicts (verdicts F choice limit) judged result
    → names_judged items judged ≤ names_judged (items_of F limit (chosen F choice)) (verdicts F choice limit)
names_judged_most F choice limit items judged result read first =
    let of : Numbered → List Item = λ x. (entry_listing F limit x).items in
    let begun = begun_first F limit read.left read.begun result read.ends in
    let split : items_of F limit (chosen F choice) ≡ flat_map of (read.judged ++ read.left) = ap (items_of F limit) read.in_order in
    let halves : flat_map of (read.judged ++ read.left) ≡ flat_map of read.judged ++ flat_map of read.left = flat_map-append of read.judged read.left in
    let all : names_of_all (items_of F limit (chosen F choice)) ≡ names_of_all (flat_map of read.judged ++ (read.begun ++ begun.0)) =
    ap names_of_all (split ∙ halves ∙ ap (λ (xs : List Item). flat_map of read.judged ++ xs) begun.1) in
    let here : names_of_all items ≡ names_of_all (flat_map of read.judged ++ read.begun) = ap names_of_all read.items_are in
    let others = faults_first (verdicts F choice limit) judged result first in
    omega (
      arith,
      all,
      sum_by-append names_of (flat_map of read.judged) (read.begun ++ begun.0),
      sum_by-append names_of read.begun begun.0,
      here,
      sum_by-append names_of (flat_map of read.judged) read.begun,
      others,
    )

maybe_one : (kind : FaultKind) → maybe_name kind ≤ 1
maybe_one (kinds.Source f) = omega arith
maybe_one kinds.Budget = omega arith
maybe_one kinds.NameLengthOutside = omega arith
maybe_one kinds.NameOdd = omega arith
maybe_one kinds.NameUnitsOutside = omega arith
maybe_one kind = omega arith

pub end_one : (result : Result (Unit {0}) RunFault) → names_at_end result ≤ 1
end_one (Ok done) = omega arith
end_one (Err run.Stopped) = omega arith
end_one (Err (run.At f)) = maybe_one f.kind

-- a check has reached no more, and read nothing beside
pub keeps_checked : (u v : ListerState) → IsOpened All u → (items : List Item) (judged : List Verdict) (result : Result (Unit {0}) RunFault) → IsSameLister u v → v.source.store.content ≡ u.source.store.content
    → ((file : List ℕ) → u.source.store.content ≡ Some file → ReadsFirst file u.limit (chosen file u.choice) (length judged) items result)
    → ((file : List ℕ) → u.source.store.content ≡ Some file → AreFirstVerdicts (verdicts file u.choice u.limit) judged result)
    → v.counts.names ≤ u.counts.names + (names_judged items judged + names_at_end result) → KeepsReads (at_most 0) past_faults v
keeps_checked u v opened items judged result same content read first most = record {
  beside = let none = opened.aside in let is = ap (λ (a : Amount). a.bytes) same.aside in omega (arith, none, is);
  names = λ file known.
      let now = sym content ∙ known in
      let all = names_judged_most file u.choice u.limit items judged result (read file now) (first file now) in
      let one = end_one result in
      let none = opened.names in
      rw (same.limit, same.choice) (omega (arith, most, all, one, none));
}

-- ---- of a list

-- the next item has the names of the first that is left
one_name : (left : Run) (x : Item) → slice_get left.items 0 ≡ Some (plain x) → names_of_all (take 1 left.items) ≡ names_of x
one_name left x first =
    let all : names_of_all (take 1 left.items) ≡ names_of_all (plain x ∷ []) = ap names_of_all (first_then (plain x) left.items first) in
    let one : names_of_all (plain x ∷ []) ≡ names_of (plain x) + 0 = sum_by-cons names_of (plain x) [] in
    omega (arith, all, one, names_of-plain x)

pub names_next : (left : Run) (x : Item) (old new : ℕ) → slice_get left.items 0 ≡ Some (plain x) → new + 1 < 2 ^ 128 → new ≡ raised old (names_of x) → new ≡ old + names_of_all (take 1 left.items)
names_next left x old new first small rose = omega (arith, one_name left x first, rose_exactly old new (names_of x) small rose)

-- at the end there are none
pub names_none : (left : Run) (old new : ℕ) → left ≡ nothing → new + 1 < 2 ^ 128 → new ≡ raised old 0 → new ≡ old + names_of_all (take 1 left.items)
names_none left old new end small rose =
    let none : names_of_all (take 1 left.items) ≡ 0 = ap (λ (r : Run). names_of_all (take 1 r.items)) end in
    omega (arith, none, rose_exactly old new 0 small rose)

-- and at a fault maybe one
pub names_fault : (left : Run) (kind : FaultKind) (old new : ℕ) → new ≤ old + maybe_name kind → new ≤ old + names_of_all (take 1 left.items) + 1
names_fault left kind old new most = omega (arith, most, maybe_one kind)

-- the names of the items that were given were reached
pub record HasNamed (u v : ListerState) : Type 0 where
  pub known : (run : Run) → u.left ≡ Some run → (left : Run) × ((v.left ≡ Some left) × (v.counts.names + names_of_all left.items ≡ u.counts.names + names_of_all run.items))

pub HasNamed-none : (u : ListerState) → HasNamed u u
HasNamed-none u = record { known = λ run is. (run, (is, omega arith)) }

names_split : (xs : List Item) → names_of_all (take 1 xs) + names_of_all (drop 1 xs) ≡ names_of_all xs
names_split xs = sym (sum_by-append names_of (take 1 xs) (drop 1 xs)) ∙ ap names_of_all (take-append-drop 1 xs)

pub HasNamed-next : (u v w : ListerState) → HasNamed u v → ((left : Run) → v.left ≡ Some left → w.counts.names ≡ v.counts.names + names_of_all (take 1 left.items)) → w.left ≡ option_map tail v.left → HasNamed u w
HasNamed-next u v w named next left = record {
  known = λ run is.
      let was = named.known run is in
      (tail was.0, (left ∙ ap (option_map tail) was.1.0, omega (arith, names_split was.0.items, was.1.1, next was.0 was.1.0)));
}

-- all that were reached where it ended
pub HasNamed-end : (u v : ListerState) (reached : ℕ) → HasNamed u v → ((left : Run) → v.left ≡ Some left → reached ≡ v.counts.names + names_of_all (take 1 left.items))
    → (run : Run) → u.left ≡ Some run → reached ≤ u.counts.names + names_of_all run.items + 1
HasNamed-end u v reached named next run is = let was = named.known run is in let now = next was.0 was.1.0 in omega (arith, names_split was.0.items, was.1.1, now)

-- and maybe one more at a fault
pub HasNamed-fault : (u v : ListerState) (reached : ℕ) → HasNamed u v → ((left : Run) → v.left ≡ Some left → reached ≤ v.counts.names + names_of_all (take 1 left.items) + 1)
    → (run : Run) → u.left ≡ Some run → reached ≤ u.counts.names + names_of_all run.items + 1
HasNamed-fault u v reached named next run is = let was = named.known run is in let now = next was.0 was.1.0 in omega (arith, names_split was.0.items, was.1.1, now)

-- a list has reached no more
pub KeepsNames-list : (u v : ListerState) → IsOpened All u → IsSameRun u v → v.source.store.content ≡ u.source.store.content
    → ((left : Run) → u.left ≡ Some left → v.counts.names ≤ u.counts.names + names_of_all left.items + 1) → KeepsNames up_to_a_fault v
KeepsNames-list u v opened same content reached = λ file known.
    let none = opened.names in
    let most = reached (listing file All u.limit) (opened.left file (sym content ∙ known)) in
    rw (same.limit, same.choice, opened.choice_is) (omega (arith, most, none))
