-- What a list has read of the CodeView records of its items.
use Rattle.std.proofs.Common.{◌≡◌, ◌≤◌, ◌∙◌, ◌+◌, ◌++◌, ◌∷◌, ℕ, List, [], Bool, Option, Some, None, Result, Ok, Err, ◌⊎◌, ap, append-nil, append_assoc, arith, inl, inr, leb-true, refl, subst, sym, true}
use Rattle.std.specs.Prelude.{drop, take}
use Rattle.std.specs.Option.{option_map}
use Rattle.std.proofs.lemmas.Bool.{le-leb}
use Rattle.std.proofs.lemmas.List.{take-append-drop}
use Rattle.std.proofs.lemmas.List.Sums.{sum_by-append}
use Rattle.mdmp_source.specs.Count.{raised}
use Rattle.mdmp_source.specs.Output.{OutState}
use Rattle.mdmp_lister.specs.declared.fault.ListFault.{ListFault}
use Rattle.mdmp_lister.specs.declared.item.Item.{Item}
use Rattle.mdmp_lister.specs.declared.meter.Amount.{Amount}
use Rattle.mdmp_lister.specs.Format.Listing.{Run}
use Rattle.mdmp_lister.specs.Lister.{ListerState, tail}
use Rattle.mdmp_lister.specs.Memory.{is_within}
use Rattle.mdmp_print.specs.declared.form.LineForm.{LineForm}
use Rattle.mdmp_engines.specs.declared.fault.ToolFault.{ToolFault}
use Rattle.mdmp_engines.specs.declared.fault.ToolFault.TheVariants.{List as BadList, AsideLimit, Memory}
use Rattle.mdmp_engines.specs.ReadThrough.{WhereToldToEnd}
use Rattle.mdmp_engines.specs.Runs.{ListsNext, ReadsRequested, RestsAside}
use Rattle.mdmp_engines.specs.Symbols.{IsRecordAmong, symbols_bytes, symbols_of, symbols_read, symbols_taken, taken_bytes}

-- ---- the limit

-- fewer bytes are within it too
pub within_less : (aside : Option ℕ) (n m : ℕ) → m ≤ n → is_within aside n ≡ true → is_within aside m ≡ true
within_less None n m less kept = refl
within_less (Some most) n m less kept = let room = leb-true n most kept in le-leb m most (omega (arith, less, room))

-- ---- the items that were given so far

-- of the records of the first items of a run no more was read than they have, and what was read was counted
pub record HasMet (pdb : Bool) (F : List ℕ) (u : ListerState) (run : Run) (v : ListerState) : Type 0 where
  pub left : Run
  pub left_is : v.left ≡ Some left
  pub first : List Item
  pub items : run.items ≡ first ++ left.items
  pub most : v.counts.aside.bytes ≤ u.counts.aside.bytes + symbols_bytes pdb u.limit first
  pub taken : raised u.counts.aside.bytes (taken_bytes F pdb u.limit first) ≤ v.counts.aside.bytes

module _ (pdb : Bool) (F : List ℕ) (u : ListerState) (run : Run) where
  pub met_none : u.left ≡ Some run → HasMet pdb F u run u
  met_none is = record {
    left = run;
    left_is = is;
    first = [];
    items = refl;
    most = omega arith;
    taken = let none : taken_bytes F pdb u.limit [] ≡ 0 = refl in omega (arith, none);
  }

  -- one more was given
  pub met_next : (v w : ListerState) (met : HasMet pdb F u run v) → v.limit ≡ u.limit → ReadsRequested pdb v (Ok true) w → v.source.store.content ≡ Some F → w.left ≡ option_map tail v.left → HasMet pdb F u run w
  met_next v w met limit reads known left =
      let next = take 1 met.left.items in
      let symbols = sum_by-append (λ (x : Item). symbols_read u.limit (symbols_of pdb x)) met.first next in
      let counted = sum_by-append (λ (x : Item). symbols_taken F u.limit (symbols_of pdb x)) met.first next in
      let more : w.counts.aside.bytes ≤ v.counts.aside.bytes + symbols_bytes pdb u.limit next = rw limit at (reads.beside.known met.left met.left_is) in
      let least : raised v.counts.aside.bytes (taken_bytes F pdb u.limit next) ≤ w.counts.aside.bytes = rw limit at (reads.taken F known met.left met.left_is) in
      record {
        left = tail met.left;
        left_is = left ∙ ap (option_map tail) met.left_is;
        first = met.first ++ next;
        items =
            met.items
            ∙ ap (λ (xs : List Item). met.first ++ xs) (sym (take-append-drop 1 met.left.items))
            ∙ sym (append_assoc met.first next (drop 1 met.left.items));
        most = omega (arith, symbols, more, met.most);
        taken = omega (arith, counted, least, met.taken);
      }

  -- no item is left
  pub met_all : (v w : ListerState) (met : HasMet pdb F u run v) (fault : Option ListFault) (n : ℕ) → met.left ≡ record { items = []; fault = fault } → raised v.counts.aside.bytes n ≤ w.counts.aside.bytes
      → raised u.counts.aside.bytes (taken_bytes F pdb u.limit run.items) ≤ w.counts.aside.bytes
  met_all v w met fault n none later =
      let all : run.items ≡ met.first = met.items ∙ ap (λ (r : Run). met.first ++ r.items) none ∙ append-nil met.first in
      let same : taken_bytes F pdb u.limit run.items ≡ taken_bytes F pdb u.limit met.first = ap (taken_bytes F pdb u.limit) all in
      omega (arith, same, met.taken, later)

  -- or its fault stands there
  pub fault_met : (form : LineForm) (v w : ListerState) (met : HasMet pdb F u run v) (now after : OutState) (f : ToolFault) → ListsNext form pdb F u.limit met.left now (Err f) after → RestsAside {T = Bool} v (Err f) w
      → (answer : Result (Unit {0}) ToolFault) → (answer ≡ Err f) ⊎ (answer ≡ Err Memory) → WhereToldToEnd answer (raised u.counts.aside.bytes (taken_bytes F pdb u.limit run.items) ≤ w.counts.aside.bytes)
  fault_met form v w met now after f next rests answer (inl is) = subst (λ (r : Result (Unit {0}) ToolFault). WhereToldToEnd r all) (sym is) (by f next rests) where
    all : Type 0
    all = raised u.counts.aside.bytes (taken_bytes F pdb u.limit run.items) ≤ w.counts.aside.bytes

    by : (f : ToolFault) → ListsNext form pdb F u.limit met.left now (Err f) after → RestsAside {T = Bool} v (Err f) w → WhereToldToEnd {T = Unit {0}} (Err f) all
    by (BadList fault) next rests = met_all v w met (Some fault) 0 next.0 (let same : w.counts.aside.bytes ≡ v.counts.aside.bytes = ap (λ (a : Amount). a.bytes) rests in omega (arith, same))
    by f next rests = tt
  fault_met form v w met now after f next rests answer (inr is) =
      subst (λ (r : Result (Unit {0}) ToolFault). WhereToldToEnd r (raised u.counts.aside.bytes (taken_bytes F pdb u.limit run.items) ≤ w.counts.aside.bytes)) (sym is) tt

  -- the list ended at the record of the next one, of which nothing was read
  pub met_record : (form : LineForm) (v w : ListerState) (met : HasMet pdb F u run v) (now after : OutState) (f : ToolFault) → ListsNext form pdb F u.limit met.left now (Err f) after
      → RestsAside {T = Bool} v (Err f) w → (offset size : ℕ) → f ≡ AsideLimit offset size
      → (among : IsRecordAmong pdb u.limit run.items offset size) × (w.counts.aside.bytes ≤ u.counts.aside.bytes + symbols_bytes pdb u.limit among.before)
  met_record form v w met now after f next rests offset size is =
      let told : ListsNext form pdb F u.limit met.left now (Err (AsideLimit offset size)) after = subst (λ (g : ToolFault). ListsNext form pdb F u.limit met.left now (Err g) after) is next in
      let among = told.0 in
      let here : w.counts.aside ≡ v.counts.aside = subst (λ (g : ToolFault). RestsAside {T = Bool} v (Err g) w) is rests in
      let same : w.counts.aside.bytes ≡ v.counts.aside.bytes = ap (λ (a : Amount). a.bytes) here in
      let symbols = sum_by-append (λ (x : Item). symbols_read u.limit (symbols_of pdb x)) met.first among.before in (
        record {
          before = met.first ++ among.before;
          item = among.item;
          after = among.after ++ drop 1 met.left.items;
          is =
              met.items
              ∙ ap (λ (xs : List Item). met.first ++ xs)
              (sym (take-append-drop 1 met.left.items) ∙ ap (λ (xs : List Item). xs ++ drop 1 met.left.items) among.is ∙ append_assoc among.before (among.item ∷ among.after) (drop 1 met.left.items))
              ∙ sym (append_assoc met.first among.before (among.item ∷ (among.after ++ drop 1 met.left.items)));
          at = among.at;
        },
        omega (arith, same, symbols, met.most),
      )

-- ---- where a list came to the end

-- what holds there twice
pub both_to_end : {T : Type 0} (answer : Result T ToolFault) (P Q R : Type 0) → (P → Q → R) → WhereToldToEnd answer P → WhereToldToEnd answer Q → WhereToldToEnd answer R
both_to_end (Ok x) P Q R so p q = so p q
both_to_end (Err (BadList f)) P Q R so p q = so p q
both_to_end (Err f) P Q R so p q = tt
