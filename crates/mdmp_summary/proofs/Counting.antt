-- A pass so far over a file that is known: its items, and the errors of entries.
use Rattle.std.proofs.Common.{◌≡◌, ◌≤◌, ◌+◌, ◌∙◌, ℕ, List, [], ◌∷◌, ◌++◌, Option, Some, None, ap, sym, refl, append_assoc, arith, length, length-append}
use Rattle.std.specs.Option.{option_map}
use Rattle.std.proofs.lemmas.List.{append-nil}
use Rattle.mdmp_lister.specs.declared.choice.Choice.TheVariants.{All}
use Rattle.mdmp_lister.specs.declared.fault.ListFault.{ListFault}
use Rattle.mdmp_lister.specs.declared.item.Item.{Item}
use Rattle.mdmp_lister.specs.Format.Listing.{Run, entry_count, listing, listing_from}
use Rattle.mdmp_lister.specs.Lister.{ListerState, listing_behind}
use Rattle.mdmp_lister.specs.Sink.{give_all}
use Rattle.mdmp_summary.specs.BadEntries.{all_items, entry_faults, told_bad}
use Rattle.mdmp_summary.specs.Keeping.{first, kept}
use Rattle.mdmp_summary.specs.declared.bad_entries.BadEntries.{BadEntries}
use Rattle.mdmp_summary.proofs.Entries.{all_left, faults_behind, faults_from_first, goes_on_behind, items_behind, items_from_first, listing_all, none_left}

-- these errors were met, and these items given; the others are left from some entry on
pub record CountsOn (F : List ℕ) (limit : ℕ) (now : ListerState) (met : List ListFault) (items : List Item) : Type 0 where
  pub at : ℕ
  pub given : items ++ items_behind F limit at ≡ all_items F limit
  pub faults : met ++ faults_behind F limit at ≡ entry_faults F limit
  pub left : now.left ≡ Some (listing_from F All limit at)
  pub few : length met ≤ at
  pub within : at ≤ entry_count F

unfoldable pub counts_begin : (F : List ℕ) (limit : ℕ) (now : ListerState) → now.left ≡ Some (listing F All limit) → CountsOn F limit now [] []
counts_begin F limit now fresh = record {
  at = 0;
  given = sym (items_from_first F limit);
  faults = sym (faults_from_first F limit);
  left = fresh ∙ ap Some (listing_all F limit);
  few = omega arith;
  within = omega arith;
}

-- a look ended at a bad entry, which was skipped
unfoldable pub counts_more : (F : List ℕ) (limit : ℕ) (now new : ListerState) (met : List ListFault) (before items : List Item) (f : ListFault) → CountsOn F limit now met before
    → ((left : Run) → now.left ≡ Some left → left ≡ record { items = items; fault = Some f })
    → new.left ≡ Some (listing_from F All limit (f.entry + 1)) → CountsOn F limit new (met ++ f ∷ []) (before ++ items)
counts_more F limit now new met before items f so_far all left =
    let same = ap (λ (run : Run). run.fault) (all (listing_from F All limit so_far.at) so_far.left) in
    let behind = goes_on_behind F limit so_far.at f so_far.within same in
    record {
      at = f.entry + 1;
      given = append_assoc before items (items_behind F limit (f.entry + 1))
          ∙ ap (λ (ys : List Item). before ++ ys) (ap (λ (run : Run). run.items ++ items_behind F limit (f.entry + 1)) (sym (all (listing_from F All limit so_far.at) so_far.left)) ∙ sym behind.items)
          ∙ so_far.given;
      faults = append_assoc met (f ∷ []) (faults_behind F limit (f.entry + 1)) ∙ ap (λ (fs : List ListFault). met ++ fs) (sym behind.faults) ∙ so_far.faults;
      left = left;
      few = let longer = length-append met (f ∷ []) in omega (arith, longer, so_far.few, behind.further);
      within = behind.within;
    }

-- a look ended at the end
pub faults_end : (F : List ℕ) (limit : ℕ) (now : ListerState) (met : List ListFault) (before items : List Item) → CountsOn F limit now met before
    → ((left : Run) → now.left ≡ Some left → left ≡ record { items = items; fault = None }) → met ≡ entry_faults F limit
faults_end F limit now met before items so_far all =
    let same = ap (λ (run : Run). run.fault) (all (listing_from F All limit so_far.at) so_far.left) in
    sym (append-nil met) ∙ ap (λ (fs : List ListFault). met ++ fs) (sym (none_left F limit so_far.at same)) ∙ so_far.faults

pub items_end : (F : List ℕ) (limit : ℕ) (now : ListerState) (met : List ListFault) (before items : List Item) → CountsOn F limit now met before
    → ((left : Run) → now.left ≡ Some left → left ≡ record { items = items; fault = None }) → before ++ items ≡ all_items F limit
items_end F limit now met before items so_far all =
    let is = all (listing_from F All limit so_far.at) so_far.left in
    ap (λ (run : Run). before ++ run.items) (sym is) ∙ ap (λ (ys : List Item). before ++ ys) (sym (all_left F limit so_far.at (ap (λ (run : Run). run.fault) is))) ∙ so_far.given

-- what is left where an entry was skipped
pub skipped_left : (F : List ℕ) (v : ListerState) (limit k : ℕ) → v.source.store.content ≡ Some F → v.choice ≡ All → v.limit ≡ limit → k ≡ v.passed
    → listing_behind v v.passed ≡ Some (listing_from F All limit k)
skipped_left F v limit k known all same passed =
    ap (option_map (λ G. listing_from G v.choice v.limit v.passed)) known ∙ (λ i. Some (listing_from F (all i) (same i) (sym passed i)))

-- ---- the first items

-- the items up to the first error are the first of all
first_behind : (F : List ℕ) (limit k : ℕ) (fault : Option ListFault) → k ≤ entry_count F → (listing_from F All limit k).fault ≡ fault
    → (more : List Item) × (items_behind F limit k ≡ (listing_from F All limit k).items ++ more)
first_behind F limit k None few same = ([], all_left F limit k same ∙ sym (append-nil (listing_from F All limit k).items))
first_behind F limit k (Some f) few same = (items_behind F limit (f.entry + 1), (goes_on_behind F limit k f few same).items)

-- a look was ended
pub items_first : (F : List ℕ) (limit : ℕ) (now : ListerState) (met : List ListFault) (before items : List Item) → CountsOn F limit now met before
    → ((left : Run) → now.left ≡ Some left → (rest : Run) × (left ≡ give_all items rest)) → (more : List Item) × (all_items F limit ≡ (before ++ items) ++ more)
items_first F limit now met before items so_far first =
    let at = so_far.at in
    let one = first (listing_from F All limit at) so_far.left in
    let behind = first_behind F limit at (listing_from F All limit at).fault so_far.within refl in
    let given : (listing_from F All limit at).items ≡ items ++ one.0.items = ap (λ (run : Run). run.items) one.1 in (
      one.0.items ++ behind.0,
      sym so_far.given ∙ ap (λ (ys : List Item). before ++ ys) (behind.1 ∙ ap (λ (ys : List Item). ys ++ behind.0) given ∙ append_assoc items one.0.items behind.0)
          ∙ sym (append_assoc before items (one.0.items ++ behind.0)),
    )

-- an error more
first_on : {X : Type 0} (xs : List X) (x : X) → kept (first xs) (x ∷ []) ≡ first (xs ++ x ∷ [])
first_on [] x = refl
first_on (y ∷ ys) x = refl

pub bad_on : (met : List ListFault) (f : ListFault) (bad new : BadEntries) → bad ≡ told_bad met → new ≡ record { count = bad.count + 1; first = kept bad.first (f ∷ []) } → new ≡ told_bad (met ++ f ∷ [])
bad_on met f bad new so_far more =
    let count : bad.count + 1 ≡ length (met ++ f ∷ []) = let longer = length-append met (f ∷ []) in let same = ap (λ (b : BadEntries). b.count) so_far in omega (arith, longer, same) in
    let one : kept bad.first (f ∷ []) ≡ first (met ++ f ∷ []) = ap (λ (b : BadEntries). kept b.first (f ∷ [])) so_far ∙ first_on met f in
    more ∙ (λ i. record { count = count i; first = one i })
