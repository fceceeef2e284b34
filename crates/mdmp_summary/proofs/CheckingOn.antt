-- A check so far over a file that is known: its rows, and how many names were reached.
use Rattle.std.proofs.Common.{◌≡◌, ◌≤◌, ◌+◌, ◌-◌, ◌∙◌, ℕ, Bool, List, [], ◌∷◌, ◌++◌, Err, Option, Some, None, ap, sym, refl, append_assoc, append-nil, arith, length, length-append}
use Rattle.std.specs.Prelude.{Result, flat_map, sum_by}
use Rattle.std.proofs.lemmas.List.Sums.{sum_by-append, sum_by-cons}
use Rattle.mdmp_source.specs.Source.{FetchesAtMost}
use Rattle.mdmp_source.specs.SourceLaws.{fetches_then}
use Rattle.mdmp_lister.specs.declared.choice.Choice.TheVariants.{All}
use Rattle.mdmp_lister.specs.declared.fault.ListFault.{ListFault}
use Rattle.mdmp_lister.specs.declared.item.Item.{Item}
use Rattle.mdmp_lister.specs.declared.sink.RunFault.{RunFault}
use Rattle.mdmp_lister.specs.declared.sink.RunFault.TheVariants as run
use Rattle.mdmp_lister.specs.declared.verdict.Verdict.{Verdict}
use Rattle.mdmp_lister.specs.Check.{items_of, names_at, names_judged}
use Rattle.mdmp_lister.specs.Costs.{end_cost}
use Rattle.mdmp_lister.specs.Format.Listing.{Run, chosen, entry_count, listing, listing_from, verdicts}
use Rattle.mdmp_lister.specs.Format.Numbers.{faulty_name, names_of}
use Rattle.mdmp_lister.specs.Lister.{ListerState}
use Rattle.mdmp_lister.specs.Sink.{names_of_all}
use Rattle.mdmp_lister.proofs.Fetches.{FetchesAtMost-within, told_in_later}
use Rattle.mdmp_lister.proofs.Spending.{items_cost-append}
use Rattle.mdmp_summary.specs.BadEntries.{all_items, entry_fault, entry_faults}
use Rattle.mdmp_summary.specs.CheckRows.{check_rows, run_rows}
use Rattle.mdmp_summary.specs.Checking.{EndsEarly, EndsRun, MeetsBad, TellsRun, row_cost, rows_cost}
use Rattle.mdmp_summary.specs.declared.check_row.CheckRow.{CheckRow}
use Rattle.mdmp_summary.proofs.Counting.{CountsOn, counts_begin, counts_more, faults_end, items_end}
use Rattle.mdmp_summary.proofs.Entries.{all_left, faults_behind, goes_on_behind, items_behind}
use Rattle.mdmp_summary.proofs.RowsBehind.{rows_behind, rows_from_first, rows_to_bad, rows_to_end}
use Rattle.mdmp_summary.proofs.Told.{good_still}

-- ---- names

-- how many names some errors have reached
abbrev pub names_met : List ListFault → ℕ
names_met fs = sum_by (λ f. faulty_name f.kind) fs

one_fault : (fault : Option ListFault) → names_at fault ≡ names_met (entry_fault fault)
one_fault None = refl
one_fault (Some f) = let one = sum_by-cons (λ (g : ListFault). faulty_name g.kind) f [] in omega (arith, one)

names_of_faults : (vs : List Verdict) → sum_by (λ v. names_at v.fault) vs ≡ names_met (flat_map (λ (v : Verdict). entry_fault v.fault) vs)
names_of_faults [] = refl
names_of_faults (v ∷ vs) =
    let one = sum_by-cons (λ (w : Verdict). names_at w.fault) v vs in
    let more = sum_by-append (λ (g : ListFault). faulty_name g.kind) (entry_fault v.fault) (flat_map (λ (w : Verdict). entry_fault w.fault) vs) in
    omega (arith, one, more, one_fault v.fault, names_of_faults vs)

-- those of all entries
names_of_entries : (F : List ℕ) (limit : ℕ) → names_judged (items_of F limit (chosen F All)) (verdicts F All limit) ≡ names_of_all (all_items F limit) + names_met (entry_faults F limit)
names_of_entries F limit = ap (λ n. names_of_all (all_items F limit) + n) (names_of_faults (verdicts F All limit))

-- ---- entries behind a run

-- the rows and the items of the entries that are left begin with those of the next run
record BeginsWith (F : List ℕ) (limit k : ℕ) : Type 0 where
  rows : List CheckRow
  rows_are : rows_behind F limit k ≡ run_rows (listing_from F All limit k) ++ rows
  items : List Item
  items_are : items_behind F limit k ≡ (listing_from F All limit k).items ++ items

begins_with : (F : List ℕ) (limit k : ℕ) (fault : Option ListFault) → k ≤ entry_count F → (listing_from F All limit k).fault ≡ fault → BeginsWith F limit k
begins_with F limit k None few same = record {
  rows = [];
  rows_are = rows_to_end F limit k same ∙ sym (append-nil (run_rows (listing_from F All limit k)));
  items = [];
  items_are = all_left F limit k same ∙ sym (append-nil (listing_from F All limit k).items);
}
begins_with F limit k (Some f) few same = record {
  rows = rows_behind F limit (f.entry + 1);
  rows_are = rows_to_bad F limit k f few same;
  items = items_behind F limit (f.entry + 1);
  items_are = (goes_on_behind F limit k f few same).items;
}

-- ---- a check so far

-- in so many runs these items were read, and these rows told
pub record ChecksOn (F : List ℕ) (limit : ℕ) (old now : ListerState) (rows : List CheckRow) (items : List Item) (runs : ℕ) : Type 0 where
  pub met : List ListFault
  pub counts : CountsOn F limit now met items
  pub runs_are : length met ≡ runs
  pub rows_are : rows ++ rows_behind F limit counts.at ≡ check_rows F limit
  pub names : now.counts.names ≤ old.counts.names + (names_of_all items + names_met met)

pub checks_begin : (F : List ℕ) (limit : ℕ) (old : ListerState) → old.left ≡ Some (listing F All limit) → ChecksOn F limit old old [] [] 0
unfolding counts_begin
checks_begin F limit old left = record {
  met = [];
  counts = counts_begin F limit old left;
  runs_are = refl;
  rows_are = sym (rows_from_first F limit);
  names = omega arith;
}

module _ (F : List ℕ) (limit : ℕ) (old now new : ListerState) (rows : List CheckRow) (before : List Item) (runs : ℕ) (so_far : ChecksOn F limit old now rows before runs) (items : List Item) (more : List CheckRow) where
  abbrev pub left_now : Run
  left_now = listing_from F All limit so_far.counts.at

  -- and the bad entry at which a run ended was dropped
  pub checks_more : (bad : MeetsBad now left_now items more new) → new.left ≡ Some (listing_from F All limit new.passed) → ChecksOn F limit old new (rows ++ more) (before ++ items) (runs + 1)
  unfolding counts_more
  checks_more bad left =
      let f = bad.fault in
      let longer = length-append so_far.met (f ∷ []) in
      let same : left_now.fault ≡ Some f = ap (λ (run : Run). run.fault) bad.all in
      let sum_items = sum_by-append names_of before items in
      let sum_met = sum_by-append (λ (g : ListFault). faulty_name g.kind) so_far.met (f ∷ []) in
      let one = sum_by-cons (λ (g : ListFault). faulty_name g.kind) f [] in
      record {
        met = so_far.met ++ f ∷ [];
        counts = counts_more F limit now new so_far.met before items f so_far.counts
            (λ run is. let here : run ≡ left_now = let e = so_far.counts.left in cc in here ∙ bad.all)
            (left ∙ ap (λ k. Some (listing_from F All limit k)) (sym bad.entry));
        runs_are = omega (arith, longer, so_far.runs_are);
        rows_are = append_assoc rows more (rows_behind F limit (f.entry + 1))
            ∙ ap (λ (rs : List CheckRow). rows ++ (rs ++ rows_behind F limit (f.entry + 1))) bad.rows_are
            ∙ ap (λ (rs : List CheckRow). rows ++ rs) (sym (rows_to_bad F limit so_far.counts.at f so_far.counts.within same))
            ∙ so_far.rows_are;
        names = omega (arith, so_far.names, bad.names, sum_items, sum_met, one);
      }

  -- a run went to the end
  pub rows_end : EndsRun now left_now items more new → check_rows F limit ≡ rows ++ more
  rows_end end =
      let same : left_now.fault ≡ None = ap (λ (run : Run). run.fault) end.all in
      sym so_far.rows_are ∙ ap (λ (rs : List CheckRow). rows ++ rs) (rows_to_end F limit so_far.counts.at same ∙ sym end.rows_are)

  pub names_end : EndsRun now left_now items more new → new.counts.names ≤ old.counts.names + names_judged (items_of F limit (chosen F All)) (verdicts F All limit) + 1
  names_end end =
      let is : (run : Run) → now.left ≡ Some run → run ≡ record { items = items; fault = None } = λ run is. let here : run ≡ left_now = let e = so_far.counts.left in cc in here ∙ end.all in
      let given = ap names_of_all (items_end F limit now so_far.met before items so_far.counts is) in
      let met = ap names_met (faults_end F limit now so_far.met before items so_far.counts is) in
      omega (arith, names_of_entries F limit, given, met, sum_by-append names_of before items, so_far.names, end.names)

  pub read_end : EndsRun now left_now items more new → all_items F limit ≡ before ++ items
  read_end end =
      let is : (run : Run) → now.left ≡ Some run → run ≡ record { items = items; fault = None } = λ run is. let here : run ≡ left_now = let e = so_far.counts.left in cc in here ∙ end.all in
      sym (items_end F limit now so_far.met before items so_far.counts is)

  -- or it ended early
  pub rows_early : EndsEarly now left_now items more new → (rest : List CheckRow) × (check_rows F limit ≡ rows ++ more ++ rest)
  rows_early end =
      let begins = begins_with F limit so_far.counts.at left_now.fault so_far.counts.within refl in (
        end.rest ++ begins.rows,
        sym so_far.rows_are
            ∙ ap (λ (rs : List CheckRow). rows ++ rs) (begins.rows_are ∙ ap (λ (rs : List CheckRow). rs ++ begins.rows) end.rows_first ∙ append_assoc more end.rest begins.rows)
            ∙ sym (append_assoc rows more (end.rest ++ begins.rows)),
      )

  pub read_early : EndsEarly now left_now items more new → (rest : List Item) × (all_items F limit ≡ (before ++ items) ++ rest)
  read_early end =
      let begins = begins_with F limit so_far.counts.at left_now.fault so_far.counts.within refl in (
        end.more ++ begins.items,
        sym so_far.counts.given
            ∙ ap (λ (xs : List Item). before ++ xs) (begins.items_are ∙ ap (λ (xs : List Item). xs ++ begins.items) end.items_first ∙ append_assoc items end.more begins.items)
            ∙ sym (append_assoc before items (end.more ++ begins.items)),
      )

  pub names_early : EndsEarly now left_now items more new → new.counts.names ≤ old.counts.names + names_judged (items_of F limit (chosen F All)) (verdicts F All limit) + 1
  names_early end =
      let begins = begins_with F limit so_far.counts.at left_now.fault so_far.counts.within refl in
      let all : all_items F limit ≡ before ++ (items ++ end.more ++ begins.items) =
      sym so_far.counts.given ∙ ap (λ (xs : List Item). before ++ xs) (begins.items_are ∙ ap (λ (xs : List Item). xs ++ begins.items) end.items_first) in
      let given = ap names_of_all all in
      let met = ap names_met (sym so_far.counts.faults) in
      omega (
        arith,
        names_of_entries F limit,
        given,
        met,
        sum_by-append names_of before (items ++ end.more ++ begins.items),
        sum_by-append names_of (items ++ end.more) begins.items,
        sum_by-append names_of items end.more,
        sum_by-append (λ (g : ListFault). faulty_name g.kind) so_far.met (faults_behind F limit so_far.counts.at),
        so_far.names,
        end.names,
      )

-- ---- one run behind others

cost_then : (z limit : ℕ) (xs ys : List Item) (rs ss : List CheckRow) → rows_cost z limit (xs ++ ys) (rs ++ ss) ≡ rows_cost z limit xs rs + rows_cost z limit ys ss
cost_then z limit xs ys rs ss =
    let items = items_cost-append z xs ys in
    let rows = sum_by-append (row_cost limit) rs ss in
    omega (arith, items, rows)

pub fetches_on : (old now new : ListerState) (result : Result (Unit {0}) RunFault) (xs ys : List Item) (rs ss : List CheckRow)
    → FetchesAtMost (old.unread + rows_cost old.source.size old.limit xs rs - now.unread) old.source now.source → now.unread ≤ old.unread + rows_cost old.source.size old.limit xs rs → now.limit ≡ old.limit
    → FetchesAtMost (now.unread + rows_cost now.source.size now.limit ys ss + end_cost now.limit result) now.source new.source
    → FetchesAtMost (old.unread + rows_cost old.source.size old.limit (xs ++ ys) (rs ++ ss) + end_cost old.limit result) old.source new.source
fetches_on old now new result xs ys rs ss so_far within limit then =
    let size : rows_cost now.source.size now.limit ys ss ≡ rows_cost old.source.size old.limit ys ss =
    ap (λ z. rows_cost z now.limit ys ss) so_far.same_size ∙ ap (λ n. rows_cost old.source.size n ys ss) limit in
    let end : end_cost now.limit result ≡ end_cost old.limit result = ap (λ n. end_cost n result) limit in
    let sum = cost_then old.source.size old.limit xs ys rs ss in
    FetchesAtMost-within _ (old.unread + rows_cost old.source.size old.limit (xs ++ ys) (rs ++ ss) + end_cost old.limit result) old.source new.source (omega (arith, size, end, sum, within))
    (fetches_then (old.unread + rows_cost old.source.size old.limit xs rs - now.unread) (now.unread + rows_cost now.source.size now.limit ys ss + end_cost now.limit result) old.source now.source new.source so_far then)

-- the error that ends a run is one of all runs before it too
pub told_later : (n : ℕ) (a b c : ListerState) (r : RunFault) → FetchesAtMost n a.source b.source → TellsRun {T = Bool} b (Err r) c → TellsRun {T = Unit {0}} a (Err r) c
told_later n a b c run.Stopped before told = tt
told_later n a b c (run.At f) before told = record {
  unobtained = told.unobtained;
  told = told_in_later c.current f n a.source b.source c.source before told.told;
  good = λ file good. told.good file (good_still file n a.source b.source before good);
  refused = told.refused;
}
