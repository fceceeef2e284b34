-- What a run tells, by how it ends.
use Rattle.std.proofs.Common.{◌≡◌, ◌∙◌, ◌≤◌, ◌+◌, ℕ, List, [], ◌∷◌, ◌++◌, Bool, true, false, Option, Some, None, Result, Ok, Err, refl, ap, sym, subst, append_assoc, append-nil, arith}
use Rattle.std.specs.Prelude.{sum_by}
use Rattle.std.proofs.lemmas.List.Sums.{sum_by-append, sum_by-cons}
use Rattle.mdmp_source.specs.Source.{FetchesAtMost, SourceState}
use Rattle.mdmp_lister.specs.declared.fault.FaultKind.{FaultKind}
use Rattle.mdmp_lister.specs.declared.fault.FaultKind.TheVariants as kinds
use Rattle.mdmp_lister.specs.declared.fault.ListFault.{ListFault}
use Rattle.mdmp_lister.specs.declared.item.Item.{Item}
use Rattle.mdmp_lister.specs.declared.sink.RunFault.TheVariants as run
use Rattle.mdmp_lister.specs.declared.sink.Stopped.{Stopped}
use Rattle.mdmp_lister.specs.Costs.{end_cost}
use Rattle.mdmp_lister.specs.Fault.{IsUnobtained, is_unobtained}
use Rattle.mdmp_lister.specs.Format.Listing.{Run}
use Rattle.mdmp_lister.specs.Format.Numbers.{faulty_name, maybe_name}
use Rattle.mdmp_lister.specs.Lister.{ListerState}
use Rattle.mdmp_lister.specs.Sink.{RunLeaves, Taken, TakenToStop, give_all, names_of_all}
use Rattle.mdmp_lister.proofs.Fetches.{FetchesAtMost-within}
use Rattle.mdmp_summary.specs.CheckRows.{end_rows, entry_behind, good_row, loses_behind, result_row, rows_over, run_rows}
use Rattle.mdmp_lister.proofs.NamesFetched.{names_later}
use Rattle.mdmp_summary.proofs.NamesFetched.{run_named}
use Rattle.mdmp_summary.specs.Checking.{EndsEarly, TellsRows, row_cost, rows_cost}
use Rattle.mdmp_summary.specs.RowMaking.{HandsRows, StopsAmong}
use Rattle.mdmp_summary.specs.declared.check_row.CheckRow.{CheckRow}
use Rattle.mdmp_summary.proofs.RowsBehind.{rows_first}
use Rattle.mdmp_summary.proofs.RowsTaken.{rows_made, rows_stopped, stopped_then, taken_then, takes}

-- at most one name is reached at an error, and where bytes were read just that of the error
maybe_most : (kind : FaultKind) → maybe_name kind ≤ 1
maybe_most (kinds.Source fault) = omega arith
maybe_most kinds.Budget = omega arith
maybe_most kinds.NameLengthOutside = omega arith
maybe_most kinds.NameOdd = omega arith
maybe_most kinds.NameUnitsOutside = omega arith
maybe_most _ = omega arith

maybe_read : (kind : FaultKind) → is_unobtained kind ≡ false → maybe_name kind ≡ faulty_name kind
maybe_read (kinds.Source fault) read = absurd (cc)
maybe_read kinds.Budget read = absurd (cc)
maybe_read _ read = refl

read_kind : (kind : FaultKind) → is_unobtained kind ≡ false → IsUnobtained kind → ⊥
read_kind (kinds.Source fault) read = λ _. cc
read_kind kinds.Budget read = λ _. cc
read_kind _ read = λ of. of

-- a sink that stopped at a row was handed that row
stopped_cost : {J : Type 0} (step : J → CheckRow → Result (Unit {0}) Stopped → J → Type 0) (limit : ℕ) (row : CheckRow) (told rest : List CheckRow) (k l : J) → TakenToStop step k told l
    → row ∷ [] ≡ told ++ rest → row_cost limit row ≤ sum_by (row_cost limit) told
stopped_cost step limit row [] rest k l stopped is = absurd stopped
stopped_cost step limit row (first ∷ told) rest k l stopped is =
    let same : row ≡ first = cc in
    let cost = ap (row_cost limit) same in
    let sum = sum_by-cons (row_cost limit) first told in
    omega (arith, cost, sum)

module _ {J K N : Type 0} (step : J → CheckRow → Result (Unit {0}) Stopped → J → Type 0) (sink : K → J) (entry : K → Option ℕ) (loses : K → Bool) (name : K → N)
    (old mid : ListerState) (k m : K) (going : old.stop ≡ None) (fresh : (entry k ≡ None) × (loses k ≡ false)) where
  -- the sink of a run
  abbrev pub to_maker : K → Item → Result (Unit {0}) Stopped → K → Type 0
  to_maker = takes step sink entry loses name

  -- the rows of all items were put, by a maker that was fresh
  record PutsAllOf (xs : List Item) : Type 0 where
    taken : Taken step (sink k) (rows_over None false xs) (sink m)
    entry_is : entry m ≡ entry_behind None xs
    loses_is : loses m ≡ loses_behind false xs
    same : name m ≡ name k

  puts_all : (xs : List Item) → Taken to_maker k xs m → PutsAllOf xs
  puts_all xs handed =
      let made = rows_made step sink entry loses name xs k m handed in
      record {
        taken = subst (λ e. Taken step (sink k) (rows_over e false xs) (sink m)) fresh.0 (subst (λ b. Taken step (sink k) (rows_over (entry k) b xs) (sink m)) fresh.1 made.taken);
        entry_is = made.entry_is ∙ ap (λ e. entry_behind e xs) fresh.0;
        loses_is = made.loses_is ∙ ap (λ b. loses_behind b xs) fresh.1;
        same = made.same;
      }

  -- the items are the first of what was left, and their rows the first of its rows
  begins : (left rest : Run) (xs : List Item) (told more : List CheckRow) → left ≡ give_all xs rest → rows_over None false xs ≡ told ++ more → (new : ListerState)
      → new.counts.names ≤ old.counts.names + names_of_all xs + 1 → EndsEarly old left xs told new
  begins left rest xs told more given splits new names =
      let first : left.items ≡ xs ++ rest.items = ap (λ (r : Run). r.items) given in
      let behind = rows_first left xs rest.items first in
      record {
        more = rest.items;
        items_first = first;
        rest = more ++ behind.0;
        rows_first = behind.1 ∙ ap (λ (rows : List CheckRow). rows ++ behind.0) splits ∙ append_assoc told more behind.0;
        names = names;
      }

  -- all that was left is these items, and the end or an error
  all_of : (left : Run) (xs : List Item) (fault : Option ListFault) → left ≡ give_all xs (record { items = []; fault = fault }) → left ≡ record { items = xs; fault = fault }
  all_of left xs fault given = given ∙ (λ i. record { items = append-nil xs i; fault = fault })

  -- its rows, and some of the last of them
  cut_rows : (left : Run) (xs : List Item) (fault : Option ListFault) (told more : List CheckRow) → left ≡ record { items = xs; fault = fault }
      → end_rows (entry_behind None xs) (loses_behind false xs) fault ≡ told ++ more → (new : ListerState)
      → new.counts.names ≤ old.counts.names + names_of_all xs + 1 → EndsEarly old left xs (rows_over None false xs ++ told) new
  cut_rows left xs fault told more all splits new names = record {
    more = [];
    items_first = ap (λ (r : Run). r.items) all ∙ sym (append-nil xs);
    rest = more;
    rows_first = ap run_rows all ∙ ap (λ (rows : List CheckRow). rows_over None false xs ++ rows) splits ∙ sym (append_assoc (rows_over None false xs) told more);
    names = names;
  }

  -- ---- the end

  pub run_ended : (ran : RunLeaves to_maker old k (Ok tt) mid m) (l : J) → HandsRows step (sink m) (good_row (entry m) (loses m)) (Ok tt) l → TellsRows step old (sink k) (Ok false) mid l
  run_ended ran l put =
      let all = puts_all ran.items ran.handed in
      let last = good_row (entry_behind None ran.items) (loses_behind false ran.items) in
      record {
        items = ran.items;
        rows = rows_over None false ran.items ++ last;
        handed = taken_then step (rows_over None false ran.items) last (sink k) (sink m) l all.taken (rw (← all.entry_is, ← all.loses_is) put);
        fetches = FetchesAtMost-within _ (old.unread + rows_cost old.source.size old.limit ran.items (rows_over None false ran.items ++ last) + 0) old.source mid.source (omega (arith)) ran.fetches;
        named = run_named old mid ran.items (Ok tt) ran.requests;
        gives = λ left known.
            let given = ran.left left known in
            let is = all_of left ran.items None given.1.1.0 in
            let names = ran.names in
            record { all = is; rows_are = sym (ap run_rows is); names = omega (arith, names) };
      }

  pub run_end_cut : (ran : RunLeaves to_maker old k (Ok tt) mid m) (l : J) → StopsAmong step (sink m) (good_row (entry m) (loses m)) l → TellsRows step old (sink k) (Err run.Stopped) mid l
  run_end_cut ran l among =
      let all = puts_all ran.items ran.handed in
      record {
        items = ran.items;
        rows = rows_over None false ran.items ++ among.told;
        handed = stopped_then step (rows_over None false ran.items) among.told (sink k) (sink m) l all.taken among.stopped;
        fetches = FetchesAtMost-within _ (old.unread + rows_cost old.source.size old.limit ran.items (rows_over None false ran.items ++ among.told) + 0) old.source mid.source (omega (arith)) ran.fetches;
        named = run_named old mid ran.items (Ok tt) ran.requests;
        gives = λ left known.
            let given = ran.left left known in
            let names = ran.names in
            cut_rows left ran.items None among.told among.rest (all_of left ran.items None given.1.1.0) (rw (← all.entry_is, ← all.loses_is) among.splits) mid (omega (arith, names));
      }

  -- ---- a sink that wants no more

  pub run_stopped : (ran : RunLeaves to_maker old k (Err run.Stopped) mid m) → TellsRows step old (sink k) (Err run.Stopped) mid (sink m)
  run_stopped ran =
      let all = rows_stopped step sink entry loses name ran.items k m ran.handed in
      let splits : rows_over None false ran.items ≡ all.among.told ++ all.among.rest =
      subst (λ e. rows_over e false ran.items ≡ all.among.told ++ all.among.rest) fresh.0
      (subst (λ b. rows_over (entry k) b ran.items ≡ all.among.told ++ all.among.rest) fresh.1 all.among.splits) in
      record {
        items = ran.items;
        rows = all.among.told;
        handed = all.among.stopped;
        fetches = FetchesAtMost-within _ (old.unread + rows_cost old.source.size old.limit ran.items all.among.told + 0) old.source mid.source (omega (arith)) ran.fetches;
        named = run_named old mid ran.items (Err run.Stopped) ran.requests;
        gives = λ left known.
            let given = ran.left left known in
            let names = ran.names in
            begins left given.0 ran.items all.among.told all.among.rest given.1.1 splits mid (omega (arith, names));
      }

  -- ---- an error

  module _ (f : ListFault) (ran : RunLeaves to_maker old k (Err (run.At f)) mid m) where
    pub run_unread : TellsRows step old (sink k) (Err (run.At f)) mid (sink m)
    run_unread =
        let all = puts_all ran.items ran.handed in
        record {
          items = ran.items;
          rows = rows_over None false ran.items;
          handed = all.taken;
          fetches = FetchesAtMost-within _ (old.unread + rows_cost old.source.size old.limit ran.items (rows_over None false ran.items) + end_cost old.limit (Err (run.At f))) old.source mid.source (omega (arith)) ran.fetches;
          named = run_named old mid ran.items (Err (run.At f)) ran.requests;
          gives = λ left known.
              let given = ran.left left known in
              let names = ran.names_at_end going in
              let rows = rows_over None false ran.items in
              begins left given.1.1.0.0 ran.items rows [] given.1.1.0.1 (sym (append-nil rows)) mid (omega (arith, names.1, maybe_most f.kind));
        }

    pub run_bad : is_unobtained f.kind ≡ false → (l : J) → HandsRows step (sink m) (result_row f.entry (Some f) (loses m) ∷ []) (Ok tt) l
        → (new : ListerState) → new.source ≡ mid.source → new.counts.names ≡ mid.counts.names → new.counts.fetched ≡ mid.counts.fetched → f.entry + 1 ≡ new.passed → TellsRows step old (sink k) (Ok true) new l
    run_bad read l put new source same fetched_is entry_is =
        let all = puts_all ran.items ran.handed in
        let row = result_row f.entry (Some f) (loses_behind false ran.items) in
        let last = row ∷ [] in
        let sum = sum_by-append (row_cost old.limit) (rows_over None false ran.items) last in
        let one = sum_by-cons (row_cost old.limit) row [] in
        record {
          items = ran.items;
          rows = rows_over None false ran.items ++ last;
          handed = taken_then step (rows_over None false ran.items) last (sink k) (sink m) l all.taken (rw (← all.loses_is) put);
          fetches = subst (λ (s : SourceState). FetchesAtMost (old.unread + rows_cost old.source.size old.limit ran.items (rows_over None false ran.items ++ last) + 0) old.source s) (sym source)
              (FetchesAtMost-within _ (old.unread + rows_cost old.source.size old.limit ran.items (rows_over None false ran.items ++ last) + 0) old.source mid.source (omega (arith, sum, one)) ran.fetches);
          named = names_later 1 ran.items old.counts.fetched mid.counts.fetched new.counts.fetched (run_named old mid ran.items (Err (run.At f)) ran.requests) (omega (arith, fetched_is));
          gives = λ left known.
              let given = ran.left left known in
              let is = all_of left ran.items (Some f) (given.1.1.1.0 (read_kind f.kind read)) in
              let names = ran.names_at_end going in
              record { fault = f; all = is; rows_are = sym (ap run_rows is); names = omega (arith, same, names.1, maybe_read f.kind read); entry = entry_is };
        }

    pub run_bad_cut : is_unobtained f.kind ≡ false → (l : J) → StopsAmong step (sink m) (result_row f.entry (Some f) (loses m) ∷ []) l → TellsRows step old (sink k) (Err run.Stopped) mid l
    run_bad_cut read l among =
        let all = puts_all ran.items ran.handed in
        let sum = sum_by-append (row_cost old.limit) (rows_over None false ran.items) among.told in
        let one = stopped_cost step old.limit (result_row f.entry (Some f) (loses m)) among.told among.rest (sink m) l among.stopped among.splits in
        record {
          items = ran.items;
          rows = rows_over None false ran.items ++ among.told;
          handed = stopped_then step (rows_over None false ran.items) among.told (sink k) (sink m) l all.taken among.stopped;
          fetches = FetchesAtMost-within _ (old.unread + rows_cost old.source.size old.limit ran.items (rows_over None false ran.items ++ among.told) + 0) old.source mid.source (omega (arith, sum, one)) ran.fetches;
          named = run_named old mid ran.items (Err (run.At f)) ran.requests;
          gives = λ left known.
              let given = ran.left left known in
              let names = ran.names_at_end going in
              cut_rows left ran.items (Some f) among.told among.rest (all_of left ran.items (Some f) (given.1.1.1.0 (read_kind f.kind read))) (rw (← all.loses_is) among.splits) mid
              (omega (arith, names.1, maybe_most f.kind));
        }
