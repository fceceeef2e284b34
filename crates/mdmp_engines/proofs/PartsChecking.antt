-- A run of `check --parts`, from its parts.
use Rattle.std.proofs.Common.{◌≡◌, ◌∙◌, ◌≤◌, ◌+◌, ℕ, List, [], ◌∷◌, Bool, true, false, Option, Some, None, ap, refl, sym, length, map, arith, subst}
use Rattle.std.specs.Prelude.{Result, Ok, Err, flat_map}
use Rattle.std.proofs.lemmas.List.Sums.{sum_by-append, sum_by-cons}
use Rattle.mdmp_lister.specs.declared.choice.Choice.TheVariants.{All}
use Rattle.mdmp_lister.specs.declared.fault.ListFault.{ListFault}
use Rattle.mdmp_lister.specs.declared.item.Item.{Item}
use Rattle.mdmp_lister.specs.declared.meter.Amount.{Amount}
use Rattle.mdmp_lister.specs.declared.sink.RunFault.{RunFault}
use Rattle.mdmp_lister.specs.declared.sink.Stopped.{Stopped}
use Rattle.mdmp_lister.specs.Check.{items_of, names_judged}
use Rattle.mdmp_lister.specs.Format.Listing.{Numbered, chosen, entries_from, entry_count, entry_listing, verdicts}
use Rattle.mdmp_lister.specs.Lister.{IsSameLister, ListerState}
use Rattle.mdmp_lister.specs.NamesFetched.{FetchesNames}
use Rattle.mdmp_summary.specs.BadEntries.{all_items}
use Rattle.mdmp_summary.specs.Checking.{AreRead, IsAllLeft, RowsHanded}
use Rattle.mdmp_summary.specs.CheckRows.{AreFirstRows, are_some, check_rows, entry_parts, entry_rows, result_row}
use Rattle.mdmp_summary.specs.declared.check_row.CheckRow.{CheckRow}
use Rattle.mdmp_summary.specs.declared.check_row.CheckRow.TheVariants.{Part}
use Rattle.mdmp_summary.specs.declared.part.PartOutside.{PartOutside}
use Rattle.mdmp_engines.specs.CheckParts.{bad_rows, loss_count, row_count}
use Rattle.mdmp_engines.specs.CheckRuns.{AreFirstChecked, HandsChecked}
use Rattle.mdmp_engines.specs.Engines.{IsOpened, past_faults}
use Rattle.mdmp_engines.specs.ReadThrough.{FetchesAllNames, KeepsReads, at_most}
use Rattle.mdmp_engines.proofs.Checking.{all_chosen, count_entries}

-- its first rows are the first rows of a check
first_rows : (all rows : List CheckRow) (result : Result (Unit {0}) RunFault) → AreFirstRows all rows result → AreFirstChecked all rows result
first_rows all rows (Ok done) first = first
first_rows all rows (Err fault) first = first

-- ---- a directory has no more bad entries than entries

-- the rows of parts are no entries
no_bad : (parts : List PartOutside) → bad_rows (map Part parts) ≡ 0
no_bad [] = refl
no_bad (part ∷ parts) = let sum = sum_by-cons row_count (Part part) (map Part parts) in omega (arith, sum, no_bad parts)

one_loss : (fault : Option ListFault) (loses : Bool) → loss_count fault loses ≤ 1
one_loss (Some fault) loses = omega arith
one_loss None true = omega arith
one_loss None false = omega arith

one_bad : (F : List ℕ) (limit : ℕ) (x : Numbered) → bad_rows (entry_rows F limit x) ≤ 1
one_bad F limit x =
    let parts = entry_parts F limit x in
    let fault = (entry_listing F limit x).fault in
    let row : CheckRow = result_row x.number fault (are_some parts) in
    let split : bad_rows (entry_rows F limit x) ≡ bad_rows (map Part parts) + bad_rows (row ∷ []) = sum_by-append row_count (map Part parts) (row ∷ []) in
    let last : bad_rows (row ∷ []) ≡ loss_count fault (are_some parts) + bad_rows [] = sum_by-cons row_count row [] in
    let end : bad_rows [] ≡ 0 = refl in
    omega (arith, split, last, end, no_bad parts, one_loss fault (are_some parts))

few_bad_rows : (F : List ℕ) (limit : ℕ) (xs : List Numbered) → bad_rows (flat_map (entry_rows F limit) xs) ≤ length xs
few_bad_rows F limit [] = let none : bad_rows [] ≡ 0 = refl in omega (arith, none)
few_bad_rows F limit (x ∷ xs) =
    let split : bad_rows (flat_map (entry_rows F limit) (x ∷ xs)) ≡ bad_rows (entry_rows F limit x) + bad_rows (flat_map (entry_rows F limit) xs) =
    sum_by-append row_count (entry_rows F limit x) (flat_map (entry_rows F limit) xs) in
    omega (arith, split, one_bad F limit x, few_bad_rows F limit xs)

pub bad_of_file : (F : List ℕ) (limit : ℕ) → bad_rows (check_rows F limit) ≤ entry_count F
bad_of_file F limit =
    let few = few_bad_rows F limit (chosen F All) in
    let count : length (chosen F All) ≡ entry_count F = ap length (all_chosen (entries_from F (entry_count F) 0)) ∙ count_entries F (entry_count F) 0 in
    omega (arith, few, count)

-- ---- a sink was handed the rows of all entries

all_read : (old : ListerState) (result : Result (Unit {0}) RunFault) (new : ListerState) (items : List Item)
    → ((file : List ℕ) → old.source.store.content ≡ Some file → AreRead (all_items file old.limit) items result)
    → FetchesNames 1 items old.counts.fetched new.counts.fetched → FetchesAllNames old result new
all_read old (Ok done) new items read named = λ file known. subst (λ (xs : List Item). FetchesNames 1 xs old.counts.fetched new.counts.fetched) (sym (read file known)) named
all_read old (Err fault) new items read named = tt

pub hands_parts : {K : Type 0} (step : K → CheckRow → Result (Unit {0}) Stopped → K → Type 0) (old : ListerState) (k : K) (result : Result (Unit {0}) RunFault) (new : ListerState) (l : K)
    → RowsHanded step old k result new l → HandsChecked k step row_count check_rows old result new l
hands_parts step old k result new l told = record {
  rows = told.rows;
  handed = told.handed;
  of_file = λ file known. first_rows (check_rows file old.limit) told.rows result (told.of_file file known);
  few = λ file. bad_of_file file old.limit;
  fetches = record { count = _; fetches = told.fetches };
  named = all_read old result new told.items told.read told.named;
}

-- a lister that was opened has given nothing
pub left_of_opened : (v : ListerState) → IsOpened All v → IsAllLeft v
left_of_opened v opened = record { choice_is = opened.choice_is; stop = opened.stop; header_is = opened.header_is; left = opened.left }

-- ---- names

-- such a check has reached no more names than all entries have, and read nothing beside
pub keeps_parts_checked : (u v : ListerState) → IsOpened All u → IsSameLister u v → v.source.store.content ≡ u.source.store.content
    → ((file : List ℕ) → u.source.store.content ≡ Some file
    → v.counts.names ≤ u.counts.names + names_judged (items_of file u.limit (chosen file All)) (verdicts file All u.limit) + 1)
    → KeepsReads (at_most 0) past_faults v
keeps_parts_checked u v opened same content most = record {
  beside = let none = opened.aside in let is = ap (λ (a : Amount). a.bytes) same.aside in omega (arith, none, is);
  names = λ file known.
      let now = most file (sym content ∙ known) in
      let none = opened.names in
      rw (same.limit, same.choice, opened.choice_is) (omega (arith, now, none));
}
