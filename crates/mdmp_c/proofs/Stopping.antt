-- Where a limit is told, it was reached.
use Rattle.std.proofs.Common.{◌≡◌, ◌≤◌, ◌<◌, ◌+◌, ◌-◌, ◌*◌, ◌^◌, ◌∙◌, ◌⊎◌, ℕ, Bool, List, Option, None, Some, Err, false, true, ap, arith, inl, inr, length, refl, subst, sym}
use Rattle.std.specs.Prelude.{◌==◌, IfSome, IsTrue, max, nat_le, nat_lt, if◌then◌else◌}
use Rattle.std.proofs.lemmas.Bool.Decides.{nat_tests}
use Rattle.std.proofs.Math.Nat.{mul-le-mul_right}
use Rattle.mdmp_source.specs.Count.{raised}
use Rattle.mdmp_source.specs.Range.{IsInside}
use Rattle.mdmp_source.specs.Source.{SourceState}
use Rattle.mdmp_source.specs.Store.{IsSizeOf}
use Rattle.mdmp_lister.specs.declared.choice.Choice.{Choice}
use Rattle.mdmp_lister.specs.declared.choice.Choice.TheVariants.{All}
use Rattle.mdmp_lister.specs.declared.counts.Counts.{Counts}
use Rattle.mdmp_lister.specs.declared.fault.FaultKind.{FaultKind}
use Rattle.mdmp_lister.specs.declared.fault.FaultKind.TheVariants as kinds
use Rattle.mdmp_lister.specs.declared.fault.ListFault.{ListFault}
use Rattle.mdmp_lister.specs.declared.fault.OpenFault.{OpenFault}
use Rattle.mdmp_lister.specs.declared.fault.OpenFault.TheVariants as opening
use Rattle.mdmp_lister.specs.declared.limits.Limits.{Limits}
use Rattle.mdmp_lister.specs.Counts.{AreHeld, AreOfFile, AreSpent, numbers_of}
use Rattle.mdmp_lister.specs.Fault.{IsOfStore, IsUnobtained}
use Rattle.mdmp_lister.specs.Format.Bounds.{fetch_bound}
use Rattle.mdmp_lister.specs.Format.Listing.{Run, entry_count, listing}
use Rattle.mdmp_engines.specs.Symbols.{IsRecordAmong, IsRecordAt, symbols_bytes, symbols_of}
use Rattle.mdmp_lister.specs.Lister.{IsRefusedIn, ListerState, Rooms, standpoint_in}
use Rattle.mdmp_lister.specs.Memory.{IsRefusalWithin, TellsMemory, is_within}
use Rattle.mdmp_lister.specs.Meter.{IsUnmade, KeepsTo, is_passed}
use Rattle.mdmp_lister.specs.NextFetch.{IsOpeningFetch, TellsNextOpening, TellsSomeFetch}
use Rattle.mdmp_lister.specs.Opening.{KeepsToBudget}
use Rattle.mdmp_lister.specs.Sink.{names_of_all}
use Rattle.mdmp_summary.specs.InEntry.{IsInChosen, StandsInChosen}
use Rattle.mdmp_engines.specs.Causes.{EndsByBudget, HasBudgetFetch, KeepsAside}
use Rattle.mdmp_engines.specs.declared.fault.ToolFault.{ToolFault}
use Rattle.mdmp_engines.specs.declared.fault.ToolFault.TheVariants.{AsideLimit, Budget}
use Rattle.mdmp_c.specs.declared.limits.PlainLimits.{PlainLimits}
use Rattle.mdmp_c.specs.Fault.{budget_fault, open_fault}
use Rattle.mdmp_c.specs.Limits.{AreGiven, EndsText, IsLimit, ReachesLimit, ends_aside, ends_text, limit_of, most_read, names_checked, names_listed, reaches_budget, reaches_memory}
use Rattle.mdmp_c.specs.NextRead.{IsNextRead}
use Rattle.mdmp_c.specs.Table.{EndsListAt, IsEndedAt}
use Rattle.mdmp_c.specs.TextPart.{EndsTextAt}
use Rattle.mdmp_c.specs.ToolFault.{list_answer}
use Rattle.mdmp_c.proofs.Coming.{GoesOnAs, IsOpenedIn, comes_next, listing_next, opening_next}
use Rattle.mdmp_c.proofs.Told.{IsTextLimit}

-- a fault of a listing that is not the store's is the budget's or the file's
pub of_budget : (kind : FaultKind) → (IsOfStore kind → ⊥) → (kind ≡ kinds.Budget) ⊎ (IsUnobtained kind → ⊥)
of_budget kinds.Budget never = inl refl
of_budget (kinds.Source fault) never = absurd (never tt)
of_budget kind never = inr (λ unobtained. unobtained)

-- numbers that give a limit
pub is_limit : (n : ℕ) (limit : Option ℕ) → limit ≡ limit_of n → (limit ≡ None → ⊥) → IsLimit n
is_limit n limit is some = λ none. some (is ∙ ap limit_of none)

-- an opening that tells a limit
abbrev pub IsLimitTold : OpenFault → Type 0
IsLimitTold (opening.Budget offset size) = Unit {0}
IsLimitTold (opening.MemoryLimit held) = Unit {0}
IsLimitTold fault = ⊥

-- ---- numbers of limits

-- a number of bytes that passes a budget, and one that does not
pub limit_passed : (n read total : ℕ) (budget : Option ℕ) → budget ≡ limit_of n → KeepsTo budget read → IsTrue (is_passed budget total) → IsLimit n × ((read ≤ n) × (n < total))
limit_passed n read total budget is keeps passes = by (n == 2 ^ 64 - 1) refl where
  none_passed : budget ≡ None → ⊥
  none_passed none = let never : IsTrue false = rw none at passes in cc never

  by : (test : Bool) → (n == 2 ^ 64 - 1) ≡ test → IsLimit n × ((read ≤ n) × (n < total))
  by true same = absurd (none_passed (is ∙ ap (λ (b : Bool). if b then None else Some n) same))
  by false same =
      let some : budget ≡ Some n = is ∙ ap (λ (b : Bool). if b then None else Some n) same in
      let keep : nat_lt n read ≡ false = rw some at keeps in
      let pass : IsTrue (nat_lt n total) = rw some at passes in
      (is_limit n budget is none_passed, (grind (arith, nat_tests, keep), grind (arith, nat_tests, pass)))

-- a bound that is kept by more
bounded_by : (most : Option ℕ) (n m : ℕ) → n ≤ m → IfSome most (λ k. m ≤ k) → IfSome most (λ k. n ≤ k)
bounded_by None n m le bound = tt
bounded_by (Some k) n m le bound = omega (arith, le, bound)

-- ---- a budget that was reached

-- bytes were not read, with which the budget would have been passed
pub budget_passed : (plain : PlainLimits) (limits : Limits) (F : List ℕ) (choice : Choice) (counted : Option Choice) (most : Option ℕ) (read offset size z : ℕ) → AreGiven plain limits → KeepsTo limits.budget read
    → IsTrue (is_passed limits.budget (read + size)) → IfSome most (λ n. read + size ≤ n) → IsInside offset size z → z ≡ length F → size ≤ max limits.window limits.name
    → IsNextRead plain F choice counted read offset size → ReachesLimit plain F choice counted most (budget_fault offset size)
budget_passed plain limits F choice counted most read offset size z given keeps passes bound inside sized few next =
    let over = limit_passed plain.budget read (read + size) limits.budget given.budget keeps passes in
    reaches_budget over.0 offset size refl
    record {
      read = read;
      kept = over.1.0;
      passes = over.1.1;
      bound = bound;
      inside = rw sized at inside;
      few = rw (given.window, given.name) at few;
      next = next;
    }

-- an opening that was refused
pub opening_passed : (plain : PlainLimits) (limits : Limits) (F : List ℕ) (choice : Choice) (counted : Option Choice) (most : Option ℕ) (old : SourceState) (at len : ℕ) (new : SourceState) → AreGiven plain limits
    → old.store.content ≡ Some F → old.size ≡ length F → old.size < 2 ^ 64 → old.fetched ≡ 0 → IfSome most (λ n. 32 + 28 * entry_count F ≤ n) → KeepsToBudget limits old (opening.Budget at len) new
    → TellsNextOpening counted limits old (opening.Budget at len) new → ReachesLimit plain F choice counted most (budget_fault at len)
opening_passed plain limits F choice counted most old at len new given known size small none bound kept next =
    let over = kept.over in
    let exact : raised kept.fetched len ≡ kept.fetched + len = omega (arith, over.bound, over.within, small) in
    let least : kept.fetched + len ≤ 32 + 28 * entry_count F = omega (arith, exact, over.bound, over.known F known) in
    let spent : raised 0 kept.fetched ≡ raised 0 next.fetched = subst (λ n. raised n kept.fetched ≡ raised n next.fetched) none (sym kept.spent ∙ next.spent) in
    let same : next.fetched ≡ kept.fetched = omega (arith, spent, exact, over.bound, over.within, small) in
    budget_passed plain limits F choice counted most kept.fetched at len old.size given kept.kept (subst (λ n. IsTrue (is_passed limits.budget n)) exact over.passes)
    (bounded_by most _ _ least bound) over.inside size over.most
    (opening_next plain limits F choice counted given kept.fetched at len old known size (subst (λ n. IsOpeningFetch counted limits.window old n at len) same next.next))

pub opening_over : (plain : PlainLimits) (limits : Limits) (F : List ℕ) (choice : Choice) (counted : Option Choice) (most : Option ℕ) (old : SourceState) (fault : OpenFault) (new : SourceState) → AreGiven plain limits
    → old.store.content ≡ Some F → old.size ≡ length F → old.size < 2 ^ 64 → old.fetched ≡ 0 → IfSome most (λ n. 32 + 28 * entry_count F ≤ n)
    → KeepsToBudget limits old fault new → TellsNextOpening counted limits old fault new → TellsMemory limits old fault new → IsRefusalWithin limits F choice fault → IsLimitTold fault
    → ReachesLimit plain F choice counted most (open_fault fault)
opening_over plain limits F choice counted most old (opening.Budget at len) new given known size small none bound kept next memory of told =
    opening_passed plain limits F choice counted most old at len new given known size small none bound kept next
opening_over plain limits F choice counted most old (opening.MemoryLimit held) new given known size small none bound kept next memory of told =
    reaches_memory (is_limit plain.memory limits.memory given.memory (λ none. let over = memory.1.1.over in let open_end : is_within limits.memory held ≡ true = rw none refl in cc)) held refl limits given of
opening_over plain limits F choice counted most old fault new given known size small none bound kept next memory of told = absurd told

-- the size of a source whose content is known
pub sized : (F : List ℕ) (source : SourceState) → source.store.content ≡ Some F → IsSizeOf source.store.content source.size → source.size ≡ length F
sized F source known is = let of : IsSizeOf (Some F) source.size = rw known at is in of

none_more : (n k : ℕ) → n ≡ 0 → n + k ≡ k
none_more n k none = omega (arith, none)

-- what a lister that has given nothing may read at most
pub most_listed : (F : List ℕ) (choice : Choice) (n limit : ℕ) (v : ListerState) → v.choice ≡ choice → v.limit ≡ n → v.counts.names ≡ 0 → n ≡ limit
    → most_read F v.choice v.limit (v.counts.names + names_of_all (listing F choice n).items) ≡ most_read F choice limit (names_listed F choice limit)
most_listed F choice n limit v of is none same =
    ap (most_read F v.choice v.limit) (none_more v.counts.names (names_of_all (listing F choice n).items) none)
    ∙ ap (λ (c : Choice). most_read F c v.limit (names_of_all (listing F choice n).items)) of
    ∙ ap (λ k. most_read F choice k (names_of_all (listing F choice n).items)) is
    ∙ ap (λ k. most_read F choice k (names_listed F choice k)) same

-- and one that is to check a file
pub most_checked : (F : List ℕ) (choice : Choice) (limit : ℕ) (v : ListerState) → v.choice ≡ choice → v.limit ≡ limit → v.counts.names ≡ 0
    → most_read F v.choice v.limit (v.counts.names + names_checked F v.choice v.limit) ≡ most_read F choice limit (names_checked F choice limit)
most_checked F choice limit v of is none =
    ap (most_read F v.choice v.limit) (none_more v.counts.names (names_checked F v.choice v.limit) none)
    ∙ ap (λ (c : Choice). most_read F c v.limit (names_checked F c v.limit)) of
    ∙ ap (λ k. most_read F choice k (names_checked F choice k)) is

-- a listing may read no fewer bytes than its opening
pub least_read : (F : List ℕ) (choice : Choice) (limit names : ℕ) → 32 + 28 * entry_count F ≤ most_read F choice limit names
least_read F choice limit names = omega arith

-- a lister ended by its budget: what it has fetched and asked for is within what its numbers tell, and it ended so from where it began
pub ended_by : (old v : ListerState) (c : Counts) (offset size : ℕ) → GoesOnAs old v → c ≡ numbers_of v → AreHeld v c → AreSpent v c → HasBudgetFetch offset size v → (StandsInChosen old → IsInChosen v)
    → IsEndedAt old (Some (fetch_bound v.limit c.s c.n c.m)) offset size
ended_by old v c offset size same is held spent fetch entry =
    let over = fetch.unmade in
    let exact : raised v.counts.fetched size ≡ v.counts.fetched + size = omega (arith, over.asked, spent.below) in
    let fetched : c.fetched ≡ v.counts.fetched = ap (λ (x : Counts). x.fetched) is in
    let kept : KeepsTo v.counts.budget v.counts.fetched = subst (λ n. KeepsTo v.counts.budget n) fetched held.kept.kept in
    let passes : IsTrue (is_passed v.counts.budget (v.counts.fetched + size)) = subst (λ n. IsTrue (is_passed v.counts.budget n)) exact over.passes in
    record {
      read = v.counts.fetched;
      kept = subst (λ (b : Option ℕ). KeepsTo b v.counts.fetched) same.budget kept;
      passes = subst (λ (b : Option ℕ). IsTrue (is_passed b (v.counts.fetched + size))) same.budget passes;
      bound = omega (arith, exact, over.asked, spent.asked);
      inside = rw same.size at over.inside;
      few = subst (λ n. size ≤ n) (ap (λ (r : Rooms). max r.window v.limit) same.rooms ∙ ap (max old.rooms.window) same.limit) over.few;
      next = comes_next old v offset size same entry fetch.next;
    }

-- the same with another bound
pub ended_as : (v : ListerState) (most other : Option ℕ) (offset size : ℕ) → (ended : IsEndedAt v most offset size) → IfSome other (λ n. ended.read + size ≤ n) → IsEndedAt v other offset size
ended_as v most other offset size ended bound = record { read = ended.read; kept = ended.kept; passes = ended.passes; bound = bound; inside = ended.inside; few = ended.few; next = ended.next }

-- the most that a lister may fetch, by the names of the file
pub most_for : (v : ListerState) (F : List ℕ) (choice : Choice) (limit names : ℕ) (c : Counts) → v.limit ≡ limit → c ≡ numbers_of v → AreOfFile F choice c → v.counts.names ≤ names + 1
    → fetch_bound v.limit c.s c.n c.m ≤ most_read F choice limit names
most_for v F choice limit names c named is of most =
    let reached : c.m ≡ v.counts.names = ap (λ (x : Counts). x.m) is in
    let cost : c.m * (v.limit + 4) ≤ (names + 1) * (v.limit + 4) = mul-le-mul_right (v.limit + 4) (omega (arith, reached, most)) in
    let same : (names + 1) * (v.limit + 4) ≡ (names + 1) * (limit + 4) = ap (λ n. (names + 1) * (n + 4)) named in
    omega (arith, of.entries, of.listed, cost, same)

-- of one that was this before
most_by : (old v : ListerState) (F : List ℕ) (names : ℕ) (c : Counts) → v.choice ≡ old.choice → v.limit ≡ old.limit → c ≡ numbers_of v → AreOfFile F v.choice c
    → v.counts.names ≤ old.counts.names + names + 1 → fetch_bound v.limit c.s c.n c.m ≤ most_read F old.choice old.limit (old.counts.names + names)
most_by old v F names c choice limit is of most =
    most_for v F old.choice old.limit (old.counts.names + names) c limit is (subst (λ (ch : Choice). AreOfFile F ch c) choice of) most

-- a listing that ended by its budget
pub listing_over : (old v : ListerState) (F : List ℕ) (names : ℕ) (c : Counts) (f : ListFault) → GoesOnAs old v → c ≡ numbers_of v → AreOfFile F v.choice c → AreHeld v c → AreSpent v c
    → v.counts.names ≤ old.counts.names + names + 1 → IsRefusedIn f v → TellsSomeFetch (standpoint_in v) f.kind f.offset f.size v.counts.fetched → (StandsInChosen old → IsInChosen v)
    → f.kind ≡ kinds.Budget → EndsListAt old (most_read F old.choice old.limit (old.counts.names + names)) f
listing_over old v F names c f same is of held spent most refused next entry budget =
    let fetch : HasBudgetFetch f.offset f.size v = record {
      unmade = subst (λ (kind : FaultKind). IsUnmade (max v.rooms.window v.limit) kind f.offset f.size v.counts v.source.size) budget refused;
      next = subst (λ (kind : FaultKind). TellsSomeFetch (standpoint_in v) kind f.offset f.size v.counts.fetched) budget next;
    } in
    let ended = ended_by old v c f.offset f.size same is held spent fetch entry in
    ended_as old _ (Some (most_read F old.choice old.limit (old.counts.names + names))) f.offset f.size ended (omega (arith, ended.bound, most_by old v F names c same.choice same.limit is of most))

-- and told so by a call that opened it
pub ended_over : (plain : PlainLimits) (limits : Limits) (F : List ℕ) (choice : Choice) (counted : Option Choice) (most : Option ℕ) (v : ListerState) (offset size : ℕ) → AreGiven plain limits
    → IsOpenedIn limits F choice v → IsEndedAt v most offset size → ReachesLimit plain F choice counted most (budget_fault offset size)
ended_over plain limits F choice counted most v offset size given opened ended =
    budget_passed plain limits F choice counted most ended.read offset size v.source.size given (subst (λ (b : Option ℕ). KeepsTo b ended.read) opened.budget ended.kept)
    (subst (λ (b : Option ℕ). IsTrue (is_passed b (ended.read + size))) opened.budget ended.passes) ended.bound ended.inside opened.size
    (subst (λ n. size ≤ n) (ap (λ n. max n v.limit) opened.window ∙ ap (max limits.window) opened.name) ended.few)
    (listing_next plain limits F choice counted given ended.read offset size v opened ended.next)

-- what was not obtained of a good store, the budget did not allow
pub is_budget : (kind : FaultKind) → (IsOfStore kind → ⊥) → IsUnobtained kind → kind ≡ kinds.Budget
is_budget kinds.Budget never unobtained = refl
is_budget (kinds.Source fault) never unobtained = absurd (never tt)
is_budget kind never unobtained = absurd unobtained

-- ---- texts

-- the lines of a listing ended by a limit
pub text_over : (old v : ListerState) (F : List ℕ) (run : Run) (aside : Option ℕ) (pdb : Bool) (c : Counts) (f : ToolFault)
    → ((offset size : ℕ) → f ≡ AsideLimit offset size → (among : IsRecordAmong pdb old.limit run.items offset size) × (v.counts.aside.bytes ≤ old.counts.aside.bytes + symbols_bytes pdb old.limit among.before)) → GoesOnAs old v → c ≡ numbers_of v
    → AreOfFile F v.choice c → v.counts.names ≤ old.counts.names + names_of_all run.items + 1 → AreHeld v c → AreSpent v c → EndsByBudget {T = Bool} old (Err f) v → KeepsAside {T = Bool} aside (Err f) v → IsTextLimit f
    → EndsTextAt old (most_read F old.choice old.limit (old.counts.names + names_of_all run.items)) aside pdb run f
text_over old v F run aside pdb c (Budget offset size) place same is of most held spent over kept told =
    let ended = ended_by old v c offset size same is held spent over.0 over.1 in
    ended_as old _ (Some (most_read F old.choice old.limit (old.counts.names + names_of_all run.items))) offset size ended (omega (arith, ended.bound, most_by old v F (names_of_all run.items) c same.choice same.limit is of most))
text_over old v F run aside pdb c (AsideLimit offset size) place same is of most held spent over kept told =
    let at = place offset size refl in (
      at.0,
      record {
        read = v.counts.aside.bytes;
        kept = kept.kept;
        passes = kept.over.0;
        most = at.1;
        inside = rw same.size at kept.over.1.0;
        few = rw same.limit at kept.over.1.1;
      },
    )
text_over old v F run aside pdb c f place same is of most held spent over kept told = absurd told

-- bytes that pass the limit of what is read of CodeView records, and others that do not
aside_passed : (n read total : ℕ) (aside : Option ℕ) → aside ≡ limit_of n → is_within aside read ≡ true → is_within aside total ≡ false → IsLimit n × ((read ≤ n) × (n < total))
aside_passed n read total aside is keeps passes = by (n == 2 ^ 64 - 1) refl where
  none_passed : aside ≡ None → ⊥
  none_passed none = let open_end : is_within aside total ≡ true = rw none refl in cc

  by : (test : Bool) → (n == 2 ^ 64 - 1) ≡ test → IsLimit n × ((read ≤ n) × (n < total))
  by true same = absurd (none_passed (is ∙ ap (λ (b : Bool). if b then None else Some n) same))
  by false same =
      let some : aside ≡ Some n = is ∙ ap (λ (b : Bool). if b then None else Some n) same in
      let keep : nat_le read n ≡ true = rw some at keeps in
      let pass : nat_le total n ≡ false = rw some at passes in
      (is_limit n aside is none_passed, (grind (arith, nat_tests, keep), grind (arith, nat_tests, pass)))

-- and it is told so
pub text_ended : (plain : PlainLimits) (limits : Limits) (F : List ℕ) (v : ListerState) (most : ℕ) (pdb : Bool) → AreGiven plain limits → IsOpenedIn limits F All v → v.counts.aside.bytes ≡ 0
    → most ≡ most_read F All plain.name (names_listed F All plain.name) → (f : ToolFault)
    → EndsTextAt v most limits.aside pdb (listing F All plain.name) f → EndsText plain F pdb (list_answer (Err f))
text_ended plain limits F v most pdb given opened none is (Budget offset len) ended =
    ends_text (ended_over plain limits F All (Some All) _ v offset len given opened (subst (λ n. IsEndedAt v (Some n) offset len) is ended))
text_ended plain limits F v most pdb given opened none is (AsideLimit offset len) ended =
    let among = ended.0 in
    let at = ended.1 in
    let name : v.limit ≡ plain.name = opened.name ∙ given.name in
    let records : symbols_bytes pdb v.limit among.before ≡ symbols_bytes pdb plain.name among.before = ap (λ n. symbols_bytes pdb n among.before) name in
    let over = aside_passed plain.aside at.read (at.read + len) limits.aside given.aside at.kept at.passes in
    ends_aside over.0 offset len refl
    record {
      before = among.before;
      item = among.item;
      after = among.after;
      is = among.is;
      at = subst (λ n. IsRecordAt n (symbols_of pdb among.item) offset len) name among.at;
    }
    record {
      read = at.read;
      kept = over.1.0;
      passes = over.1.1;
      most = omega (arith, at.most, none, records);
      inside = rw opened.size at at.inside;
      few = rw (opened.name, given.name) at at.few;
    }
text_ended plain limits F v most pdb given opened none is f ended = absurd ended
