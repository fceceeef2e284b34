-- The heads that are fetched as a file is opened, one by one.
use Rattle.std.proofs.Common.{◌≡◌, ◌≤◌, ◌<◌, ◌+◌, ◌*◌, ℕ, List, [], ◌∷◌, Bool, Option, Some, None, Err, true, false, ap, ◌∙◌, if◌then◌else◌, inl, inr, refl, subst, sym, length, get_or, take, arith}
use Rattle.std.specs.Prelude.{is_some}
use Rattle.std.proofs.lemmas.Grind.{common_steps}
use Rattle.std.proofs.lemmas.List.{take_all}
use Rattle.std.proofs.lemmas.List.Sums.{sum_by-cons, sum_by_more, sum_by-take-le}
use Rattle.std.proofs.lemmas.Option.{slice_get-get_or}
use Rattle.mdmp_source.specs.Count.{raised}
use Rattle.mdmp_source.specs.Range.{IsInside, is_inside}
use Rattle.mdmp_wire.specs.declared.entry.Entry.{Entry}
use Rattle.mdmp_lister.specs.declared.choice.Choice.{Choice}
use Rattle.mdmp_lister.specs.declared.fault.Fault.{Fault}
use Rattle.mdmp_lister.specs.declared.fault.FaultKind.{FaultKind}
use Rattle.mdmp_lister.specs.declared.fault.FaultKind.TheVariants as kinds
use Rattle.mdmp_lister.specs.declared.fault.FetchFault.{FetchFault}
use Rattle.mdmp_lister.specs.declared.fault.FetchFault.TheVariants as fetch
use Rattle.mdmp_lister.specs.Fault.{IsUnobtained}
use Rattle.mdmp_lister.specs.declared.kind.StreamKind.{StreamKind}
use Rattle.mdmp_lister.specs.StreamHead.{ahead_by, ahead_of, chosen_ahead, head_inside, head_spent, heads_ahead}
use Rattle.mdmp_lister.specs.Format.Listing.{is_chosen}
use Rattle.mdmp_lister.specs.Meter.{Books, IsTried, MeterState, TriesFetch}
use Rattle.mdmp_lister.specs.NextFetch.{TriesHeads}
use Rattle.mdmp_lister.specs.Format.Kind.{form_of, kind_of, lists_ranges}
use Rattle.mdmp_lister.specs.Format.Shape.{head_cost, location_fault}
use Rattle.mdmp_lister.specs.Format.KindLaws.{most_head}

-- a stream of a known type whose location has no fault lies inside
pub listed-inside : (z : ℕ) (e : Entry) (kind : StreamKind) → location_fault z e ≡ None → kind_of e.stream_type ≡ Some kind → IsInside e.location.rva e.location.size z
listed-inside z e kind none known = grind (arith, common_steps, known, none)

head_inside-is : (z : ℕ) (e : Entry) (kind : StreamKind) → IsInside e.location.rva e.location.size z → head_inside z e kind ≡ head_spent e.location.size kind
head_inside-is z e kind (inl none) = rw none refl
head_inside-is z e kind (inr within) = grind (arith, common_steps, within)

-- of a memory list it is fetched ahead
ahead_of-is : (z : ℕ) (e : Entry) (kind : StreamKind) → lists_ranges kind ≡ true → kind_of e.stream_type ≡ Some kind → IsInside e.location.rva e.location.size z
    → head_spent e.location.size kind ≡ ahead_of z e
unfolding ahead_of
ahead_of-is z e kind list known inside = rw (known, list) (sym (head_inside-is z e kind inside))

module _ (z : ℕ) (e : Entry) (kind : StreamKind) (list : lists_ranges kind ≡ true) (known : kind_of e.stream_type ≡ Some kind) (inside : IsInside e.location.rva e.location.size z) where
  pub books_ahead : (old new : MeterState) → Books 1 (head_spent e.location.size kind) old new → Books 1 (ahead_of z e) old new
  books_ahead old new books = subst (λ n. Books 1 n old new) (ahead_of-is z e kind list known inside) books

  -- or it is what the budget is told of
  pub tries_ahead : (old new : MeterState) → new.fetched ≡ raised old.fetched (head_spent e.location.size kind) → new.fetched ≡ raised old.fetched (ahead_of z e)
  tries_ahead old new made = subst (λ n. new.fetched ≡ raised old.fetched n) (ahead_of-is z e kind list known inside) made

  pub told_ahead : (k : FaultKind) (at len before after : ℕ) → k ≡ kinds.Budget → IsTried e.location.rva (head_spent e.location.size kind) k at len before after
      → ((at ≡ e.location.rva) × (len ≡ ahead_of z e)) × (after ≡ before)
  told_ahead kinds.Budget at len before after is tried = subst (λ n. ((at ≡ e.location.rva) × (len ≡ n)) × (after ≡ before)) (ahead_of-is z e kind list known inside) tried
  told_ahead k at len before after is tried = cc

  pub read_ahead : (k : FaultKind) (at len before after : ℕ) → (IsUnobtained k → ⊥) → IsTried e.location.rva (head_spent e.location.size kind) k at len before after
      → after ≡ raised before (ahead_of z e)
  read_ahead kinds.Budget at len before after other tried = absurd (other tt)
  read_ahead (kinds.Source f) at len before after other tried = absurd (other tt)
  read_ahead k at len before after other tried = subst (λ n. after ≡ raised before n) (ahead_of-is z e kind list known inside) tried

-- nothing is fetched of an entry that is no memory list, or lies outside
pub ahead-unknown : (z : ℕ) (e : Entry) → kind_of e.stream_type ≡ None → ahead_of z e ≡ 0
unfolding ahead_of
ahead-unknown z e unknown = rw unknown refl

pub ahead-other : (z : ℕ) (e : Entry) (kind : StreamKind) → kind_of e.stream_type ≡ Some kind → lists_ranges kind ≡ false → ahead_of z e ≡ 0
unfolding ahead_of
ahead-other z e kind known other = rw (known, other) refl

if_outside : (b : Bool) (n : ℕ) → b ≡ false → (if b then n else 0) ≡ 0
if_outside true n is = cc
if_outside false n is = refl

if_none : (b : Bool) (n : ℕ) → n ≡ 0 → (if b then n else 0) ≡ 0
if_none true n is = is
if_none false n is = refl

fault-outside : (z : ℕ) (e : Entry) (fault : Fault) → location_fault z e ≡ Some fault → is_inside e.location.rva e.location.size z ≡ false
fault-outside z e fault some = grind (arith, common_steps, some)

ahead-outside : (z : ℕ) (e : Entry) (kind : StreamKind) (fault : Fault) → kind_of e.stream_type ≡ Some kind → location_fault z e ≡ Some fault → ahead_of z e ≡ 0
unfolding ahead_of
ahead-outside z e kind fault known some = rw known (if_none (lists_ranges kind) (head_inside z e kind) (if_outside _ (head_spent e.location.size kind) (fault-outside z e fault some)))

pub ahead-misplaced : (z : ℕ) (e : Entry) (kind : StreamKind) (fault : Option Fault) → kind_of e.stream_type ≡ Some kind → fault ≡ location_fault z e → is_some fault ≡ true → ahead_of z e ≡ 0
ahead-misplaced z e kind (Some fault) known is some = ahead-outside z e kind fault known (sym is)
ahead-misplaced z e kind None known is some = cc

module _ (choice : Choice) (z at : ℕ) (es : List Entry) (d : Entry) (h : at < length es) where
  -- all that was fetched of the heads, one by one
  pub heads-exact : is_chosen choice (get_or es at d).stream_type ≡ true
      → heads_ahead choice z (take (at + 1) es) ≡ heads_ahead choice z (take at es) + ahead_of z (get_or es at d)
  unfolding chosen_ahead
  heads-exact chosen =
      let cost : chosen_ahead choice z (get_or es at d) ≡ ahead_of z (get_or es at d) = rw chosen refl in
      rw (sum_by_more (chosen_ahead choice z) es at d h, cost) refl

  pub heads-passed : is_chosen choice (get_or es at d).stream_type ≡ false → heads_ahead choice z (take (at + 1) es) ≡ heads_ahead choice z (take at es)
  unfolding chosen_ahead
  heads-passed other =
      let cost : chosen_ahead choice z (get_or es at d) ≡ 0 = rw other refl in
      rw (sum_by_more (chosen_ahead choice z) es at d h, cost) (omega arith)

  -- the head of the next one is what the budget is told of
  pub heads-refused : (e : Entry) (fault : FetchFault) (old mid new : MeterState) → get_or es at d ≡ e → is_chosen choice e.stream_type ≡ true
      → mid.fetched ≡ raised old.fetched (heads_ahead choice z (take at es)) → TriesFetch {T = ℕ} e.location.rva (ahead_of z e) (Err fault) mid new → TriesHeads {T = ℕ} choice z es (Err fault) old new
  heads-refused e (fetch.Source f) old mid new is chosen before tried = tt
  heads-refused e (fetch.Budget offset size) old mid new is chosen before tried = (
    heads_ahead choice z (take at es),
    (
      tried.1 ∙ before,
      record {
        number = at;
        entry = e;
        is = slice_get-get_or es at d h ∙ ap Some is;
        chosen = chosen;
        behind = omega arith;
        offset_is = tried.0.0;
        size_is = tried.0.1;
      },
    ),
  )

  -- one more entry, and its head where it is chosen
  pub heads-more : heads_ahead choice z (take at es) ≤ heads_ahead choice z (take (at + 1) es)
  heads-more = rw (sum_by_more (chosen_ahead choice z) es at d h) (omega arith)

  pub heads-chosen : is_chosen choice (get_or es at d).stream_type ≡ true
      → heads_ahead choice z (take at es) + ahead_of z (get_or es at d) ≤ heads_ahead choice z (take (at + 1) es)
  unfolding chosen_ahead
  heads-chosen chosen =
      let cost : chosen_ahead choice z (get_or es at d) ≡ ahead_of z (get_or es at d) = rw chosen refl in
      rw (sum_by_more (chosen_ahead choice z) es at d h, cost) (omega arith)

  pub heads-chosen_most : is_chosen choice (get_or es at d).stream_type ≡ true
      → heads_ahead choice z (take at es) + ahead_of z (get_or es at d) ≤ heads_ahead choice z es
  heads-chosen_most chosen = omega (arith, heads-chosen chosen, sum_by-take-le (chosen_ahead choice z) es (at + 1))

pub heads-most : (choice : Choice) (z at : ℕ) (es : List Entry) → heads_ahead choice z (take at es) ≤ heads_ahead choice z es
heads-most choice z at es = sum_by-take-le (chosen_ahead choice z) es at

-- behind the last entry all of them
pub heads-all : (choice : Choice) (z at : ℕ) (es : List Entry) → length es ≤ at → heads_ahead choice z (take at es) ≡ heads_ahead choice z es
heads-all choice z at es past = ap (heads_ahead choice z) (take_all at es past)

-- ---- heads are short

if_most : (b : Bool) (n most : ℕ) → n ≤ most → (if b then n else 0) ≤ most
if_most true n most le = le
if_most false n most le = omega arith

unless_most : (b : Bool) (n most : ℕ) → n ≤ most → (if b then 0 else n) ≤ most
unless_most true n most le = omega arith
unless_most false n most le = le

inside_most : (z : ℕ) (e : Entry) (kind : StreamKind) → head_inside z e kind ≤ 16
inside_most z e kind = if_most _ (head_spent e.location.size kind) 16 (unless_most _ (head_cost (form_of kind)) 16 (most_head (form_of kind)))

ahead_most : (z : ℕ) (e : Entry) (kind : Option StreamKind) → ahead_by z e kind ≤ 16
ahead_most z e (Some kind) = if_most (lists_ranges kind) (head_inside z e kind) 16 (inside_most z e kind)
ahead_most z e None = omega arith

chosen_most : (choice : Choice) (z : ℕ) (e : Entry) → chosen_ahead choice z e ≤ 16
unfolding chosen_ahead ahead_of
chosen_most choice z e = if_most (is_chosen choice e.stream_type) (ahead_by z e (kind_of e.stream_type)) 16 (ahead_most z e (kind_of e.stream_type))

pub heads_few : (choice : Choice) (z : ℕ) (es : List Entry) → heads_ahead choice z es ≤ 16 * length es
heads_few choice z [] = omega arith
heads_few choice z (e ∷ es) = omega (arith, sum_by-cons (chosen_ahead choice z) e es, chosen_most choice z e, heads_few choice z es)
