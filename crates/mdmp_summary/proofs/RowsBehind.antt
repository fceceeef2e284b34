-- The rows of a run are those of its entries, and the rows of the entries after it follow.
use Rattle.std.proofs.Common.{◌≡◌, ◌≤◌, ◌+◌, ◌-◌, ◌*◌, ◌∙◌, ℕ, zero, suc, List, [], ◌∷◌, ◌++◌, Bool, true, false, Option, Some, None, Result, Ok, Err, length, refl, ap, sym, append_assoc, arith}
use Rattle.std.proofs.lemmas.List.{append-nil, map-append}
use Rattle.std.specs.Prelude.{IfSome, flat_map}
use Rattle.mdmp_wire.specs.declared.any_record.AnyRecord.{AnyRecord}
use Rattle.mdmp_wire.specs.declared.any_record.AnyRecord.TheVariants as any
use Rattle.mdmp_wire.specs.AnyRecord.{name_rva}
use Rattle.mdmp_lister.specs.declared.choice.Choice.TheVariants.{All}
use Rattle.mdmp_lister.specs.declared.fault.Fault.{Fault}
use Rattle.mdmp_lister.specs.declared.fault.ListFault.{ListFault}
use Rattle.mdmp_lister.specs.declared.item.Item.{Item}
use Rattle.mdmp_lister.specs.declared.item.Item.TheVariants as items
use Rattle.mdmp_lister.specs.declared.kind.StreamKind.{StreamKind}
use Rattle.mdmp_lister.specs.declared.name.Name.{Name}
use Rattle.mdmp_lister.specs.declared.shape.Shape.{Shape}
use Rattle.mdmp_lister.specs.Format.Item.{item_of, name_of, named, offset_in, record_at}
use Rattle.mdmp_lister.specs.Format.Kind.{kind_of}
use Rattle.mdmp_lister.specs.Format.Listing.{Numbered, Run, chosen_from, entries_from, entry_body, entry_count, entry_of, item_then, items_from, joined, listing_from, only_chosen, records_of, shaped, stream_item}
use Rattle.mdmp_lister.specs.Format.Shape.{location_fault, shape_of}
use Rattle.mdmp_summary.specs.CheckRows.{are_some, check_rows, end_rows, entry_after, entry_behind, entry_rows, good_row, loses_after, loses_behind, loses_more, result_row, rows_over, rows_told, run_rows}
use Rattle.mdmp_summary.specs.Part.{parts_outside}
use Rattle.mdmp_summary.specs.RowMaking.{rows_of_parts}
use Rattle.mdmp_summary.specs.declared.check_row.CheckRow.{CheckRow}
use Rattle.mdmp_summary.specs.declared.check_row.CheckRow.TheVariants.{Part}
use Rattle.mdmp_summary.specs.declared.part.PartOutside.{PartOutside}
use Rattle.mdmp_summary.proofs.Entries.{fault_entry, run_of, some_entries}

-- ---- records begin no entry

abbrev pub is_begun : Item → Bool
is_begun (items.Stream x) = true
is_begun x = false

abbrev AreRecords : List Item → Type 0
AreRecords [] = Unit {0}
AreRecords (x ∷ xs) = (is_begun x ≡ false) × AreRecords xs

record_item : (z e k offset : ℕ) (fields : AnyRecord) (name : Name) → is_begun (item_of z e k offset fields name) ≡ false
record_item z e k offset (any.Thread fields) name = refl
record_item z e k offset _ name = refl

records_then : (e k : ℕ) (F : List ℕ) (offset : ℕ) (fields : AnyRecord) (name : Result Name Fault) (rest : Run) → AreRecords rest.items
    → AreRecords (item_then e k (named name (λ n. item_of (length F) e k offset fields n)) rest).items
records_then e k F offset fields (Ok name) rest are = (record_item (length F) e k offset fields name, are)
records_then e k F offset fields (Err f) rest are = tt

records_items : (F : List ℕ) (limit e at : ℕ) (kind : StreamKind) (shape : Shape) (n k : ℕ) → AreRecords (items_from F limit e at kind shape n k).items
records_items F limit e at kind shape zero k = tt
records_items F limit e at kind shape (suc n) k =
    let o = at + shape.first + k * shape.stride in
    records_then e k F (offset_in F at k kind) (record_at kind F o) (name_of F limit (name_rva (record_at kind F o))) _ (records_items F limit e at kind shape n (k + 1))

records_shaped : (F : List ℕ) (limit e at : ℕ) (kind : StreamKind) (shape : Result Shape Fault) → AreRecords (shaped F limit e at kind shape).items
records_shaped F limit e at kind (Ok shape) = records_items F limit e at kind shape shape.count 0
records_shaped F limit e at kind (Err f) = tt

records_stream : (F : List ℕ) (limit e at size : ℕ) (kind : Option StreamKind) → AreRecords (records_of F limit e at size kind).items
records_stream F limit e at size (Some kind) = records_shaped F limit e at kind (shape_of F at size kind)
records_stream F limit e at size None = tt

records_body : (F : List ℕ) (limit : ℕ) (x : Numbered) (outside : Option Fault) → outside ≡ location_fault (length F) x.entry → AreRecords (entry_body F limit x).items
records_body F limit x None inside = rw (← inside) (records_stream F limit x.number x.entry.location.rva x.entry.location.size (kind_of x.entry.stream_type))
records_body F limit x (Some f) outside = rw (← outside) tt

records_entry : (F : List ℕ) (limit : ℕ) (x : Numbered) → AreRecords (entry_body F limit x).items
records_entry F limit x = records_body F limit x (location_fault (length F) x.entry) refl

-- ---- rows of items and of the end behind them

abbrev rows_from : Option ℕ → Bool → List Item → Option ListFault → List CheckRow
rows_from entry loses [] fault = end_rows entry loses fault
rows_from entry loses (x ∷ xs) fault = rows_told entry loses x ++ rows_from (entry_after entry x) (loses_after loses x) xs fault

rows_joined : (entry : Option ℕ) (loses : Bool) (xs : List Item) (fault : Option ListFault)
    → rows_over entry loses xs ++ end_rows (entry_behind entry xs) (loses_behind loses xs) fault ≡ rows_from entry loses xs fault
rows_joined entry loses [] fault = refl
rows_joined entry loses (x ∷ xs) fault =
    let more = rows_over (entry_after entry x) (loses_after loses x) xs in
    append_assoc (rows_told entry loses x) more (end_rows (entry_behind (entry_after entry x) xs) (loses_behind (loses_after loses x) xs) fault)
    ∙ ap (λ (rows : List CheckRow). rows_told entry loses x ++ rows) (rows_joined (entry_after entry x) (loses_after loses x) xs fault)

loses_twice : (loses : Bool) (ps qs : List PartOutside) → loses_more (loses_more loses ps) qs ≡ loses_more loses (ps ++ qs)
loses_twice loses [] qs = refl
loses_twice loses (p ∷ ps) [] = refl
loses_twice loses (p ∷ ps) (q ∷ qs) = refl

-- a record tells its parts
module _ (entry : Option ℕ) (loses : Bool) (xs : List Item) (fault : Option ListFault) where
  record_told : (x : Item) → is_begun x ≡ false → rows_from entry loses (x ∷ xs) fault ≡ rows_of_parts (parts_outside x) ++ rows_from entry (loses_more loses (parts_outside x)) xs fault
  record_told (items.Stream x) begun = absurd (cc)
  record_told _ begun = refl

-- and records tell theirs
parts_told : (entry : Option ℕ) (loses : Bool) (xs ys : List Item) (fault : Option ListFault) → AreRecords xs
    → rows_from entry loses (xs ++ ys) fault ≡ rows_of_parts (flat_map parts_outside xs) ++ rows_from entry (loses_more loses (flat_map parts_outside xs)) ys fault
parts_told entry loses [] ys fault are = refl
parts_told entry loses (x ∷ xs) ys fault are =
    let here = parts_outside x in
    let more = flat_map parts_outside xs in
    record_told entry loses (xs ++ ys) fault x are.0
    ∙ ap (λ (rows : List CheckRow). rows_of_parts here ++ rows) (parts_told entry (loses_more loses here) xs ys fault are.1)
    ∙ sym (append_assoc (rows_of_parts here) (rows_of_parts more) (rows_from entry (loses_more (loses_more loses here) more) ys fault))
    ∙ (λ i. sym (map-append Part here more) i ++ rows_from entry (loses_twice loses here more i) ys fault)

-- ---- the rows of n entries from entry k on

abbrev rows_of : List ℕ → ℕ → ℕ → ℕ → List CheckRow
rows_of F limit n k = flat_map (entry_rows F limit) (some_entries F n k)

-- the rows of a run, and then those of the entries after its error
record IsRowsTo (F : List ℕ) (limit n k : ℕ) (f : ListFault) (all rows : List CheckRow) : Type 0 where
  before : ℕ
  at : f.entry ≡ k + before
  within : before + 1 ≤ n
  rest : all ≡ rows ++ rows_of F limit (n - (before + 1)) (k + before + 1)

-- the entry before them is told, and then this one and those after it
module _ (F : List ℕ) (limit m k : ℕ) (x : Numbered) (number : x.number ≡ k) (entry : Option ℕ) (loses : Bool) (body : List Item) (are : AreRecords body) (more : Run) where
  abbrev parts_of : List PartOutside
  parts_of = flat_map parts_outside body

  abbrev row_of : Option ListFault → List CheckRow
  row_of fault = rows_of_parts parts_of ++ result_row x.number fault (are_some parts_of) ∷ []

  rows_next : (fault : Option ListFault) → IfSome fault (λ g. g.entry ≡ x.number) → (f : ListFault)
      → (more.fault ≡ Some f → IsRowsTo F limit m (k + 1) f (good_row (Some x.number) (are_some parts_of) ++ rows_of F limit m (k + 1)) (rows_from (Some x.number) (are_some parts_of) more.items (Some f)))
      → (joined (record { items = stream_item x ∷ body; fault = fault }) more).fault ≡ Some f
      → IsRowsTo F limit (suc m) k f (good_row entry loses ++ (row_of fault ++ rows_of F limit m (k + 1))) (rows_from entry loses (joined (record { items = stream_item x ∷ body; fault = fault }) more).items (Some f))
  rows_next None of f behind same =
      let then = behind same in
      let fewer : suc m - (then.before + 1 + 1) ≡ m - (then.before + 1) = omega arith in
      let further : k + (then.before + 1) + 1 ≡ k + 1 + then.before + 1 = omega arith in
      let last = rows_of F limit (m - (then.before + 1)) (k + 1 + then.before + 1) in
      let here = rows_of_parts parts_of in
      let told = rows_from (Some x.number) (are_some parts_of) more.items (Some f) in
      let all : rows_from entry loses (stream_item x ∷ (body ++ more.items)) (Some f) ≡ good_row entry loses ++ (here ++ told) =
      ap (λ (rows : List CheckRow). good_row entry loses ++ rows) (parts_told (Some x.number) false body more.items (Some f) are) in
      record {
        before = then.before + 1;
        at = omega (arith, then.at);
        within = omega (arith, then.within);
        rest = ap (λ (rows : List CheckRow). good_row entry loses ++ rows)
            (append_assoc here (result_row x.number None (are_some parts_of) ∷ []) (rows_of F limit m (k + 1))
            ∙ ap (λ (rows : List CheckRow). here ++ rows) then.rest
            ∙ sym (append_assoc here told last))
            ∙ sym (append_assoc (good_row entry loses) (here ++ told) last)
            ∙ (λ i. sym all i ++ rows_of F limit (sym fewer i) (sym further i));
      }
  rows_next (Some g) of f behind same =
      let e : g ≡ f = cc in
      let fewer : m ≡ suc m - (0 + 1) = omega arith in
      let further : k + 1 ≡ k + 0 + 1 = omega arith in
      let here = rows_of_parts parts_of in
      let at : f.entry ≡ x.number = ap (λ (h : ListFault). h.entry) (sym e) ∙ of in
      let all : rows_from entry loses (stream_item x ∷ body) (Some f) ≡ good_row entry loses ++ row_of (Some g) =
      ap (λ (xs : List Item). good_row entry loses ++ rows_from (Some x.number) false xs (Some f)) (sym (append-nil body))
      ∙ ap (λ (rows : List CheckRow). good_row entry loses ++ rows) (parts_told (Some x.number) false body [] (Some f) are)
      ∙ (λ i. good_row entry loses ++ (here ++ result_row (at i) (Some (sym e i)) (are_some parts_of) ∷ [])) in
      record {
        before = 0;
        at = let zero_more : k ≡ k + 0 = omega arith in at ∙ number ∙ zero_more;
        within = omega arith;
        rest = sym (append_assoc (good_row entry loses) (row_of (Some g)) (rows_of F limit m (k + 1)))
            ∙ (λ i. sym all i ++ rows_of F limit (fewer i) (further i));
      }

  rows_last : (fault : Option ListFault)
      → (more.fault ≡ None → good_row (Some x.number) (are_some parts_of) ++ rows_of F limit m (k + 1) ≡ rows_from (Some x.number) (are_some parts_of) more.items None)
      → (joined (record { items = stream_item x ∷ body; fault = fault }) more).fault ≡ None
      → good_row entry loses ++ (row_of fault ++ rows_of F limit m (k + 1)) ≡ rows_from entry loses (joined (record { items = stream_item x ∷ body; fault = fault }) more).items None
  rows_last None behind same =
      let here = rows_of_parts parts_of in
      ap (λ (rows : List CheckRow). good_row entry loses ++ rows)
      (append_assoc here (result_row x.number None (are_some parts_of) ∷ []) (rows_of F limit m (k + 1))
      ∙ ap (λ (rows : List CheckRow). here ++ rows) (behind same)
      ∙ sym (parts_told (Some x.number) false body more.items None are))
  rows_last (Some g) behind same = absurd (cc)

rows_to : (F : List ℕ) (limit n k : ℕ) (entry : Option ℕ) (loses : Bool) (f : ListFault) → (run_of F limit (some_entries F n k)).fault ≡ Some f
    → IsRowsTo F limit n k f (good_row entry loses ++ rows_of F limit n k) (rows_from entry loses (run_of F limit (some_entries F n k)).items (Some f))
unfolding entries_from only_chosen
rows_to F limit zero k entry loses f same = absurd (cc)
rows_to F limit (suc m) k entry loses f same =
    let x : Numbered = record { number = k; entry = entry_of F k } in
    let body = (entry_body F limit x).items in
    let lost = are_some (flat_map parts_outside body) in
    rows_next F limit m k x refl entry loses body (records_entry F limit x) (run_of F limit (some_entries F m (k + 1))) (entry_body F limit x).fault (fault_entry F limit x) f
    (rows_to F limit m (k + 1) (Some k) lost f) same

rows_all : (F : List ℕ) (limit n k : ℕ) (entry : Option ℕ) (loses : Bool) → (run_of F limit (some_entries F n k)).fault ≡ None
    → good_row entry loses ++ rows_of F limit n k ≡ rows_from entry loses (run_of F limit (some_entries F n k)).items None
unfolding entries_from only_chosen
rows_all F limit zero k entry loses same = append-nil (good_row entry loses)
rows_all F limit (suc m) k entry loses same =
    let x : Numbered = record { number = k; entry = entry_of F k } in
    let body = (entry_body F limit x).items in
    let lost = are_some (flat_map parts_outside body) in
    rows_last F limit m k x refl entry loses body (records_entry F limit x) (run_of F limit (some_entries F m (k + 1))) (entry_body F limit x).fault
    (rows_all F limit m (k + 1) (Some k) lost) same

-- ---- a listing from entry k on

-- the rows of the entries from entry k on
abbrev pub rows_behind : List ℕ → ℕ → ℕ → List CheckRow
rows_behind F limit k = flat_map (entry_rows F limit) (chosen_from F All k)

rows_run : (run : Run) → run_rows run ≡ rows_from None false run.items run.fault
rows_run run = rows_joined None false run.items run.fault

-- a run that ends at an error tells its entries up to that one
pub rows_to_bad : (F : List ℕ) (limit k : ℕ) (f : ListFault) → k ≤ entry_count F → (listing_from F All limit k).fault ≡ Some f
    → rows_behind F limit k ≡ run_rows (listing_from F All limit k) ++ rows_behind F limit (f.entry + 1)
rows_to_bad F limit k f few same =
    let run = listing_from F All limit k in
    let to = rows_to F limit (entry_count F - k) k None false f same in
    let n = entry_count F - k - (to.before + 1) in
    let fewer : n ≡ entry_count F - (f.entry + 1) = omega (arith, to.at, to.within, few) in
    let at : k + to.before + 1 ≡ f.entry + 1 = omega (arith, to.at) in
    to.rest ∙ (λ i. rows_from None false run.items (sym same i) ++ rows_of F limit (fewer i) (at i))
    ∙ ap (λ (rows : List CheckRow). rows ++ rows_behind F limit (f.entry + 1)) (sym (rows_run run))

-- and one without an error tells all that are left
pub rows_to_end : (F : List ℕ) (limit k : ℕ) → (listing_from F All limit k).fault ≡ None → rows_behind F limit k ≡ run_rows (listing_from F All limit k)
rows_to_end F limit k same =
    let run = listing_from F All limit k in
    rows_all F limit (entry_count F - k) k None false same ∙ (λ i. rows_from None false run.items (sym same i)) ∙ sym (rows_run run)

-- all entries are those from the first one on
pub rows_from_first : (F : List ℕ) (limit : ℕ) → check_rows F limit ≡ rows_behind F limit 0
rows_from_first F limit = let e : entry_count F ≡ entry_count F - 0 = omega arith in ap (λ n. rows_of F limit n 0) e

-- ---- the first rows of a run

rows_append : (entry : Option ℕ) (loses : Bool) (xs ys : List Item) → rows_over entry loses (xs ++ ys) ≡ rows_over entry loses xs ++ rows_over (entry_behind entry xs) (loses_behind loses xs) ys
rows_append entry loses [] ys = refl
rows_append entry loses (x ∷ xs) ys =
    ap (λ (rows : List CheckRow). rows_told entry loses x ++ rows) (rows_append (entry_after entry x) (loses_after loses x) xs ys)
    ∙ sym (append_assoc (rows_told entry loses x) (rows_over (entry_after entry x) (loses_after loses x) xs) (rows_over (entry_behind (entry_after entry x) xs) (loses_behind (loses_after loses x) xs) ys))

-- the items of a run that were given first tell its first rows
pub rows_first : (run : Run) (xs ys : List Item) → run.items ≡ xs ++ ys → (rest : List CheckRow) × (run_rows run ≡ rows_over None false xs ++ rest)
rows_first run xs ys split =
    let end = end_rows (entry_behind None run.items) (loses_behind false run.items) run.fault in
    let more = rows_over (entry_behind None xs) (loses_behind false xs) ys in (
      more ++ end,
      ap (λ (zs : List Item). rows_over None false zs ++ end) split ∙ ap (λ (rows : List CheckRow). rows ++ end) (rows_append None false xs ys) ∙ append_assoc (rows_over None false xs) more end,
    )
