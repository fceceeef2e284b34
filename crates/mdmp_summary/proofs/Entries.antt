-- A listing ends at its first bad entry, and the entries after it follow.
use Rattle.std.proofs.Common.{◌≡◌, ◌≤◌, ◌<◌, ◌+◌, ◌-◌, ◌*◌, ◌∙◌, ℕ, zero, suc, List, [], ◌∷◌, ◌++◌, Option, Some, None, Result, Ok, Err, length, map, IfSome, refl, ap, sym, append_assoc, arith}
use Rattle.std.specs.Prelude.{flat_map}
use Rattle.mdmp_lister.specs.declared.choice.Choice.TheVariants.{All}
use Rattle.mdmp_lister.specs.declared.fault.Fault.{Fault}
use Rattle.mdmp_lister.specs.declared.fault.ListFault.{ListFault}
use Rattle.mdmp_lister.specs.declared.item.Item.{Item}
use Rattle.mdmp_lister.specs.declared.kind.StreamKind.{StreamKind}
use Rattle.mdmp_lister.specs.declared.shape.Shape.{Shape}
use Rattle.mdmp_lister.specs.declared.verdict.Verdict.{Verdict}
use Rattle.mdmp_lister.specs.Check.{items_of}
use Rattle.mdmp_lister.specs.Format.Item.{item_at}
use Rattle.mdmp_lister.specs.Format.Kind.{kind_of}
use Rattle.mdmp_lister.specs.Format.Listing.{Numbered, Run, all_joined, chosen, chosen_from, entries_from, entry_body, entry_count, entry_listing, entry_of, item_then, items_from, joined, listing, listing_from, only_chosen, records_of, shaped}
use Rattle.mdmp_lister.specs.Format.Shape.{location_fault, shape_of}
use Rattle.mdmp_summary.specs.BadEntries.{all_items, entry_faults, entry_fault}

-- ---- the error of an entry names it

fault_then : (e k : ℕ) (item : Result Item Fault) (rest : Run) → IfSome rest.fault (λ f. f.entry ≡ e) → IfSome (item_then e k item rest).fault (λ f. f.entry ≡ e)
fault_then e k (Ok item) rest of = of
fault_then e k (Err f) rest of = refl

fault_items : (F : List ℕ) (limit e at : ℕ) (kind : StreamKind) (shape : Shape) (n k : ℕ) → IfSome (items_from F limit e at kind shape n k).fault (λ f. f.entry ≡ e)
fault_items F limit e at kind shape zero k = tt
fault_items F limit e at kind shape (suc n) k =
    fault_then e k (item_at F limit e k at (at + shape.first + k * shape.stride) kind) _ (fault_items F limit e at kind shape n (k + 1))

fault_shaped : (F : List ℕ) (limit e at : ℕ) (kind : StreamKind) (shape : Result Shape Fault) → IfSome (shaped F limit e at kind shape).fault (λ f. f.entry ≡ e)
fault_shaped F limit e at kind (Ok shape) = fault_items F limit e at kind shape shape.count 0
fault_shaped F limit e at kind (Err f) = refl

fault_records : (F : List ℕ) (limit e at size : ℕ) (kind : Option StreamKind) → IfSome (records_of F limit e at size kind).fault (λ f. f.entry ≡ e)
fault_records F limit e at size (Some kind) = fault_shaped F limit e at kind (shape_of F at size kind)
fault_records F limit e at size None = tt

fault_body : (F : List ℕ) (limit : ℕ) (x : Numbered) (outside : Option Fault) → outside ≡ location_fault (length F) x.entry → IfSome (entry_body F limit x).fault (λ f. f.entry ≡ x.number)
fault_body F limit x None inside = rw (← inside) (fault_records F limit x.number x.entry.location.rva x.entry.location.size (kind_of x.entry.stream_type))
fault_body F limit x (Some f) outside = rw (← outside) refl

pub fault_entry : (F : List ℕ) (limit : ℕ) (x : Numbered) → IfSome (entry_listing F limit x).fault (λ f. f.entry ≡ x.number)
fault_entry F limit x = fault_body F limit x (location_fault (length F) x.entry) refl

-- ---- n entries from entry k on

abbrev pub some_entries : List ℕ → ℕ → ℕ → List Numbered
some_entries F n k = only_chosen All (entries_from F n k)

abbrev pub run_of : List ℕ → ℕ → List Numbered → Run
run_of F limit xs = all_joined (map (entry_listing F limit) xs)

abbrev faults_by : List ℕ → ℕ → List Numbered → List ListFault
faults_by F limit xs = flat_map (λ x. entry_fault (entry_listing F limit x).fault) xs

abbrev faults_of : List ℕ → ℕ → ℕ → ℕ → List ListFault
faults_of F limit n k = faults_by F limit (some_entries F n k)

abbrev given_of : List ℕ → ℕ → ℕ → ℕ → List Item
given_of F limit n k = items_of F limit (some_entries F n k)

-- the entry with the first error: it is one of these, and the errors are its own and those after it; these items are given up
-- to there, and then those of the entries after it
record IsFirstBad (F : List ℕ) (limit n k : ℕ) (f : ListFault) (faults : List ListFault) (all given : List Item) : Type 0 where
  before : ℕ
  at : f.entry ≡ k + before
  within : before + 1 ≤ n
  rest : faults ≡ f ∷ faults_of F limit (n - (before + 1)) (k + before + 1)
  items : all ≡ given ++ given_of F limit (n - (before + 1)) (k + before + 1)

-- the same with one more entry before them
module _ (F : List ℕ) (limit m k : ℕ) (items : List Item) (more : Run) where
  first_bad-next : (fault : Option ListFault) (f : ListFault) → IfSome fault (λ g. g.entry ≡ k)
      → (more.fault ≡ Some f → IsFirstBad F limit m (k + 1) f (faults_of F limit m (k + 1)) (given_of F limit m (k + 1)) more.items)
      → (joined (record { items = items; fault = fault }) more).fault ≡ Some f
      → IsFirstBad F limit (suc m) k f (entry_fault fault ++ faults_of F limit m (k + 1)) (items ++ given_of F limit m (k + 1)) (joined (record { items = items; fault = fault }) more).items
  first_bad-next None f of behind same =
      let then = behind same in
      let fewer : suc m - (then.before + 1 + 1) ≡ m - (then.before + 1) = omega arith in
      let further : k + (then.before + 1) + 1 ≡ k + 1 + then.before + 1 = omega arith in
      record {
        before = then.before + 1;
        at = omega (arith, then.at);
        within = omega (arith, then.within);
        rest = then.rest ∙ (λ i. f ∷ faults_of F limit (sym fewer i) (sym further i));
        items = ap (λ (ys : List Item). items ++ ys) (then.items ∙ (λ i. more.items ++ given_of F limit (sym fewer i) (sym further i))) ∙ sym (append_assoc items more.items (given_of F limit (suc m - (then.before + 1 + 1)) (k + (then.before + 1) + 1)));
      }
  first_bad-next (Some g) f of behind same =
      let e : g ≡ f = cc in
      let fewer : m ≡ suc m - (0 + 1) = omega arith in
      let further : k + 1 ≡ k + 0 + 1 = omega arith in
      let at : g.entry ≡ k = of in
      record {
        before = 0;
        at = ap (λ (h : ListFault). h.entry) (sym e) ∙ at ∙ (let z : k ≡ k + 0 = omega arith in z);
        within = omega arith;
        rest = λ i. e i ∷ faults_of F limit (fewer i) (further i);
        items = λ i. items ++ given_of F limit (fewer i) (further i);
      }

first_bad : (F : List ℕ) (limit n k : ℕ) (f : ListFault) → (run_of F limit (some_entries F n k)).fault ≡ Some f → IsFirstBad F limit n k f (faults_of F limit n k) (given_of F limit n k) (run_of F limit (some_entries F n k)).items
unfolding entries_from only_chosen
first_bad F limit zero k f same = absurd (cc)
first_bad F limit (suc m) k f same =
    let x : Numbered = record { number = k; entry = entry_of F k } in
    let run = entry_listing F limit x in
    first_bad-next F limit m k run.items (run_of F limit (some_entries F m (k + 1))) run.fault f
    (fault_entry F limit x) (first_bad F limit m (k + 1) f) same

none_given-next : (items : List Item) (fault : Option ListFault) (more : Run) (all : List Item) → (more.fault ≡ None → all ≡ more.items)
    → (joined (record { items = items; fault = fault }) more).fault ≡ None → items ++ all ≡ (joined (record { items = items; fault = fault }) more).items
none_given-next items None more all behind same = ap (λ (ys : List Item). items ++ ys) (behind same)
none_given-next items (Some g) more all behind same = absurd (cc)

none_given : (F : List ℕ) (limit n k : ℕ) → (run_of F limit (some_entries F n k)).fault ≡ None → given_of F limit n k ≡ (run_of F limit (some_entries F n k)).items
unfolding entries_from only_chosen
none_given F limit zero k same = refl
none_given F limit (suc m) k same =
    let run = entry_listing F limit (record { number = k; entry = entry_of F k }) in
    none_given-next run.items run.fault (run_of F limit (some_entries F m (k + 1))) (given_of F limit m (k + 1)) (none_given F limit m (k + 1)) same

none_bad-next : (items : List Item) (fault : Option ListFault) (more : Run) (faults : List ListFault) → (more.fault ≡ None → faults ≡ [])
    → (joined (record { items = items; fault = fault }) more).fault ≡ None → entry_fault fault ++ faults ≡ []
none_bad-next items None more faults behind same = behind same
none_bad-next items (Some g) more faults behind same = absurd (cc)

none_bad : (F : List ℕ) (limit n k : ℕ) → (run_of F limit (some_entries F n k)).fault ≡ None → faults_of F limit n k ≡ []
unfolding entries_from only_chosen
none_bad F limit zero k same = refl
none_bad F limit (suc m) k same =
    let run = entry_listing F limit (record { number = k; entry = entry_of F k }) in
    none_bad-next run.items run.fault (run_of F limit (some_entries F m (k + 1))) (faults_of F limit m (k + 1)) (none_bad F limit m (k + 1)) same

-- ---- a listing from entry k on

-- what the entries from entry k on give, and their errors
abbrev pub items_behind : List ℕ → ℕ → ℕ → List Item
items_behind F limit k = items_of F limit (chosen_from F All k)

abbrev pub faults_behind : List ℕ → ℕ → ℕ → List ListFault
faults_behind F limit k = faults_by F limit (chosen_from F All k)

pub record GoesOnBehind (F : List ℕ) (limit k : ℕ) (f : ListFault) : Type 0 where
  pub further : k < f.entry + 1
  pub within : f.entry + 1 ≤ entry_count F
  pub faults : faults_behind F limit k ≡ f ∷ faults_behind F limit (f.entry + 1)
  pub items : items_behind F limit k ≡ (listing_from F All limit k).items ++ items_behind F limit (f.entry + 1)

pub goes_on_behind : (F : List ℕ) (limit k : ℕ) (f : ListFault) → k ≤ entry_count F → (listing_from F All limit k).fault ≡ Some f → GoesOnBehind F limit k f
goes_on_behind F limit k f few same =
    let first = first_bad F limit (entry_count F - k) k f same in
    let n = entry_count F - k - (first.before + 1) in
    let fewer : n ≡ entry_count F - (f.entry + 1) = omega (arith, first.at, first.within, few) in
    let at : k + first.before + 1 ≡ f.entry + 1 = omega (arith, first.at) in
    record {
      further = omega (arith, first.at);
      within = omega (arith, first.at, first.within, few);
      items = first.items ∙ (λ i. (listing_from F All limit k).items ++ given_of F limit (fewer i) (at i));
      faults = first.rest ∙ (λ i. f ∷ faults_of F limit (fewer i) (at i));
    }

pub none_left : (F : List ℕ) (limit k : ℕ) → (listing_from F All limit k).fault ≡ None → faults_behind F limit k ≡ []
none_left F limit k same = none_bad F limit (entry_count F - k) k same

pub all_left : (F : List ℕ) (limit k : ℕ) → (listing_from F All limit k).fault ≡ None → items_behind F limit k ≡ (listing_from F All limit k).items
all_left F limit k same = none_given F limit (entry_count F - k) k same

-- ---- all entries are those from the first one on

pub items_from_first : (F : List ℕ) (limit : ℕ) → all_items F limit ≡ items_behind F limit 0
items_from_first F limit = let e : entry_count F ≡ entry_count F - 0 = omega arith in ap (λ n. given_of F limit n 0) e

pub listing_all : (F : List ℕ) (limit : ℕ) → listing F All limit ≡ listing_from F All limit 0
listing_all F limit = let e : entry_count F ≡ entry_count F - 0 = omega arith in ap (λ n. run_of F limit (some_entries F n 0)) e

-- the errors of verdicts are those of the entries
judged : (F : List ℕ) (limit : ℕ) (xs : List Numbered)
    → flat_map (λ (v : Verdict). entry_fault v.fault) (map (λ (x : Numbered). record { entry = x.number; fault = (entry_listing F limit x).fault }) xs) ≡ faults_by F limit xs
judged F limit [] = refl
judged F limit (x ∷ xs) = ap (λ (fs : List ListFault). entry_fault (entry_listing F limit x).fault ++ fs) (judged F limit xs)

pub faults_from_first : (F : List ℕ) (limit : ℕ) → entry_faults F limit ≡ faults_behind F limit 0
faults_from_first F limit = judged F limit (chosen F All) ∙ (let e : entry_count F ≡ entry_count F - 0 = omega arith in ap (λ n. faults_of F limit n 0) e)

-- ---- a file without entries

none_from : (F : List ℕ) (limit n : ℕ) → n ≡ 0 → given_of F limit n 0 ≡ []
unfolding entries_from only_chosen
none_from F limit n e = rw e refl

none_of : (F : List ℕ) (limit n : ℕ) → n ≡ 0 → faults_of F limit n 0 ≡ []
unfolding entries_from only_chosen
none_of F limit n e = rw e refl

pub no_items : (F : List ℕ) (limit : ℕ) → entry_count F ≡ 0 → all_items F limit ≡ []
no_items F limit none = none_from F limit (entry_count F) none

pub no_faults : (F : List ℕ) (limit : ℕ) → entry_count F ≡ 0 → entry_faults F limit ≡ []
no_faults F limit none = judged F limit (chosen F All) ∙ none_of F limit (entry_count F) none
