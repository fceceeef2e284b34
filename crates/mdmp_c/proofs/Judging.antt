-- What a check has put into an array, and how a call that gives it ends.
use Rattle.std.proofs.Common.{◌≡◌, ◌∙◌, ◌<◌, ◌≤◌, ◌+◌, ◌-◌, ◌^◌, ◌++◌, ℕ, List, [], ◌∷◌, Some, None, ap, arith, inl, inr, length, length-append, map, refl, subst, sym, append_assoc, append-nil}
use Rattle.std.specs.Prelude.{Result, flat_map, min, nat_lt, sum_by, if◌then◌else◌}
use Rattle.std.proofs.lemmas.List.Concat.{flat_map-append}
use Rattle.std.proofs.lemmas.List.Sums.{sum_by-cons}
use Rattle.mdmp_lister.specs.declared.choice.Choice.TheVariants.{All}
use Rattle.mdmp_lister.specs.declared.fault.ListFault.{ListFault}
use Rattle.mdmp_lister.specs.declared.fault.OpenFault.{OpenFault}
use Rattle.mdmp_lister.specs.declared.sink.Stopped.{Stopped}
use Rattle.mdmp_lister.specs.declared.verdict.Verdict.{Verdict}
use Rattle.mdmp_lister.specs.Format.Listing.{entry_count, verdicts}
use Rattle.mdmp_lister.specs.Format.Refusal.{opening_fault}
use Rattle.mdmp_lister.specs.Sink.{Taken, TakenToStop}
use Rattle.mdmp_engines.specs.CheckText.{verdict_count}
use Rattle.mdmp_c.specs.declared.given_rows.Judged.{Judged}
use Rattle.mdmp_c.specs.declared.fault.PlainFault.{PlainFault}
use Rattle.mdmp_c.specs.GivenRows.{AreChecked, GivesChecked, PutsChecked, TakesRow, ending_told, gives_all, gives_some}
use Rattle.mdmp_c.specs.Fault.{budget_fault, open_fault, status_of, told_unless}
use Rattle.mdmp_c.specs.Giving.{Ends, GivesList, answers, bad_limits, put_front, refuses, stops, told_count, wants}
use Rattle.mdmp_c.specs.Table.{rows_unless}
use Rattle.mdmp_c.specs.ToolFault.{bad_entries}
use Rattle.mdmp_c.specs.Verdicts.{AreVerdicts, verdict_given, verdict_row}
use Rattle.mdmp_c.proofs.Ending.{WouldTell, plain_budget}

-- ---- what the sink has put

module _ {K N R : Type 0} (given : R → List PlainFault) (is_bad : R → ℕ) (out : K → List PlainFault) (count bad : K → ℕ) (name : K → N) where
  abbrev step : K → R → Result (Unit {0}) Stopped → K → Type 0
  step old row result new = (name new ≡ name old) × TakesRow given is_bad (out old) (count old) (bad old) row result (out new) (count new) (bad new)

  -- it never stops a run
  pub never_stopped : (rows : List R) (k l : K) → TakenToStop step k rows l → ⊥
  never_stopped [] k l stopped = stopped
  never_stopped (row ∷ rows) k l (inl last) = let wrong = last.1.1.taken in absurd (cc)
  never_stopped (row ∷ rows) k l (inr (m, (one, more))) = never_stopped rows m l more

  -- it is the same array
  pub name-taken : (rows : List R) (k l : K) → Taken step k rows l → name l ≡ name k
  name-taken [] k l same = ap name same
  name-taken (row ∷ rows) k l (m, ((same, taken), more)) = name-taken rows m l more ∙ same

  counted : (n more c d : ℕ) → c ≡ told_count n → d ≡ min (c + more) (2 ^ 64 - 1) → d ≡ told_count (n + more)
  counted n more c d is now = omega (arith, is, now)

  pub rows-taken : (rows : List R) (k l : K) → Taken step k rows l → (front start : List PlainFault) → out k ≡ put_front front start → count k ≡ told_count (length front)
      → (out l ≡ put_front (front ++ flat_map given rows) start) × (count l ≡ told_count (length (front ++ flat_map given rows)))
  rows-taken [] k l same front start is so_far =
      let all : front ++ [] ≡ front = append-nil front in (
        ap out same ∙ is ∙ ap (λ (xs : List PlainFault). put_front xs start) (sym all),
        ap count same ∙ so_far ∙ ap (λ (xs : List PlainFault). told_count (length xs)) (sym all),
      )
  rows-taken (row ∷ rows) k l (m, ((same, taken), more)) front start is so_far =
      let next : List PlainFault = front ++ given row in
      let long : length next ≡ length front + length (given row) = length-append front (given row) in
      let now = counted (length front) (length (given row)) (count k) (count m) so_far taken.count_is ∙ ap told_count (sym long) in
      let rest = rows-taken rows m l more next start (taken.put front start is so_far) now in
      let all : next ++ flat_map given rows ≡ front ++ flat_map given (row ∷ rows) = append_assoc front (given row) (flat_map given rows) in (
        rest.0 ∙ ap (λ (xs : List PlainFault). put_front xs start) all,
        rest.1 ∙ ap (λ (xs : List PlainFault). told_count (length xs)) all,
      )

  bad-taken : (rows : List R) (k l : K) → Taken step k rows l → (n : ℕ) → bad k ≡ told_count n → bad l ≡ told_count (n + sum_by is_bad rows)
  bad-taken [] k l same n is = let none : sum_by is_bad [] ≡ 0 = refl in ap bad same ∙ is ∙ ap told_count (let e : n ≡ n + sum_by is_bad [] = omega (arith, none) in e)
  bad-taken (row ∷ rows) k l (m, ((same, taken), more)) n is =
      let now : bad m ≡ told_count (n + is_bad row) = omega (arith, is, taken.bad_is) in
      let sum : sum_by is_bad (row ∷ rows) ≡ is_bad row + sum_by is_bad rows = sum_by-cons is_bad row rows in
      bad-taken rows m l more (n + is_bad row) now ∙ ap told_count (let e : n + is_bad row + sum_by is_bad rows ≡ n + sum_by is_bad (row ∷ rows) = omega (arith, sum) in e)

  pub bad-all : (rows : List R) (k l : K) → Taken step k rows l → bad k ≡ 0 → bad l ≡ told_count (sum_by is_bad rows)
  bad-all rows k l taken none =
      bad-taken rows k l taken 0 (none ∙ (let e : 0 ≡ told_count 0 = omega arith in e)) ∙ ap told_count (let e : 0 + sum_by is_bad rows ≡ sum_by is_bad rows = omega arith in e)

-- ---- how the call ends

module _ {R : Type 0} (rows_of : List ℕ → ℕ → List R) (given : R → List PlainFault) (is_bad : R → ℕ) (F : List ℕ) (limit : ℕ) where
  -- a file that is refused has no rows
  pub none_checked : (fault : OpenFault) → opening_fault F All ≡ Some fault → AreChecked rows_of given is_bad F limit (open_fault fault) []
  none_checked fault is = record { told_is = rw is refl; rows_are = rw is refl }

  pub all_checked : WouldTell (AreChecked rows_of given is_bad F limit)
  all_checked = record {
    whole = told_unless (opening_fault F All) (bad_entries (sum_by is_bad (rows_of F limit)));
    all = rows_unless (opening_fault F All) (flat_map given (rows_of F limit));
    is = record { told_is = refl; rows_are = refl };
  }

  -- the number of bad entries is told as it is
  few_told : entry_count F < 2 ^ 32 → sum_by is_bad (rows_of F limit) ≤ entry_count F → told_count (sum_by is_bad (rows_of F limit)) ≡ sum_by is_bad (rows_of F limit)
  few_told entries few = omega (arith, entries, few)

  rows_given : (rows : List R) (judged : Judged) (status count : ℕ) (told fault : PlainFault) (before after : List PlainFault) → PutsChecked given is_bad rows judged before after
      → ((n : ℕ) → judged.count ≡ told_count n → status ≡ (if nat_lt (length before) n then 4 else status_of told)) → count ≡ judged.count → fault ≡ told
      → GivesList told (flat_map given rows) status count fault before after
  rows_given rows judged status count told fault before after h ends counts same =
      record { status_is = ends (length (flat_map given rows)) h.count_is; count_is = counts ∙ h.count_is; fault_is = same; out = h.out }

  pub Ends-checked : (valid kept : Type 0) (MayTell : PlainFault → Type 0) (IsReadSo : Type 0) (MayEnd : ListFault → Type 0) (judged : Judged) (status count : ℕ) (told fault : PlainFault) (before after : List PlainFault) → valid → (IsReadSo → kept)
      → ((f : ListFault) → MayEnd f → MayTell (budget_fault f.offset f.size)) → opening_fault F All ≡ None
      → entry_count F < 2 ^ 32 → sum_by is_bad (rows_of F limit) ≤ entry_count F → GivesChecked given is_bad (rows_of F limit) IsReadSo MayEnd judged before after → told ≡ ending_told judged.bad judged.fault
      → ((n : ℕ) → judged.count ≡ told_count n → status ≡ (if nat_lt (length before) n then 4 else status_of told)) → count ≡ judged.count → fault ≡ told
      → Ends (AreChecked rows_of given is_bad F limit) valid kept MayTell bad_limits status count fault before after
  Ends-checked valid kept MayTell IsReadSo MayEnd judged status count told fault before after ok keeps can opened entries few (gives_all none so h) tells ends counts same =
      let bad : judged.bad ≡ sum_by is_bad (rows_of F limit) = h.bad_is ∙ few_told entries few in
      answers told (flat_map given (rows_of F limit)) ok (keeps so)
      record { told_is = tells ∙ ap (ending_told judged.bad) none ∙ ap bad_entries bad ∙ (rw opened refl); rows_are = rw opened refl }
      (rows_given (rows_of F limit) judged status count told fault before after h ends counts same)
  Ends-checked valid kept MayTell IsReadSo MayEnd judged status count told fault before after ok keeps can opened entries few (gives_some rows cut h) tells ends counts same =
      stops told (flat_map given rows) ok
      (subst MayTell (sym (tells ∙ ap (ending_told judged.bad) cut.told_is ∙ plain_budget cut.told cut.kind)) (can cut.told cut.reached))
      record {
        whole = bad_entries (sum_by is_bad (rows_of F limit));
        rest = flat_map given cut.rest;
        begins = record {
          told_is = rw opened refl;
          rows_are = rw opened (sym (ap (flat_map given) cut.first ∙ flat_map-append given rows cut.rest));
        };
      }
      (rows_given rows judged status count told fault before after h ends counts same)

-- the same in other words
module _ {X : Type 0} (A B : PlainFault → List X → Type 0) (turn : (told : PlainFault) (xs : List X) → A told xs → B told xs) {valid kept : Type 0} {MayTell : PlainFault → Type 0} {refusal : PlainFault}
    {status count : ℕ} {fault : PlainFault} {before after : List X} where
  pub Ends-as : Ends A valid kept MayTell refusal status count fault before after → Ends B valid kept MayTell refusal status count fault before after
  Ends-as (answers told xs ok keeps is gives) = answers told xs ok keeps (turn told xs is) gives
  Ends-as (wants ok fails) = wants ok fails
  Ends-as (stops told xs ok may so gives) = stops told xs ok may (record { whole = so.whole; rest = so.rest; begins = turn so.whole (xs ++ so.rest) so.begins }) gives
  Ends-as (refuses not fails) = refuses not fails

-- ---- verdicts

-- each is given
each_given : (vs : List Verdict) → flat_map verdict_given vs ≡ map verdict_row vs
each_given [] = refl
each_given (v ∷ vs) = ap (λ (rows : List PlainFault). verdict_row v ∷ rows) (each_given vs)

pub are_verdicts : (F : List ℕ) (limit : ℕ) (told : PlainFault) (rows : List PlainFault) → AreChecked (λ file limit. verdicts file All limit) verdict_given verdict_count F limit told rows → AreVerdicts F limit told rows
are_verdicts F limit told rows are = record { told_is = are.told_is; rows_are = are.rows_are ∙ ap (rows_unless (opening_fault F All)) (each_given (verdicts F All limit)) }
