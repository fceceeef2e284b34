-- Rows that a sink was handed, one behind the other.
use Rattle.std.proofs.Common.{◌≡◌, ◌∙◌, ℕ, List, [], ◌∷◌, ◌++◌, Bool, false, Option, Some, Result, Ok, Err, refl, ap, sym, subst, inl, inr, append_assoc}
use Rattle.std.proofs.lemmas.List.{map-append}
use Rattle.mdmp_lister.specs.declared.item.Item.{Item}
use Rattle.mdmp_lister.specs.declared.item.Item.TheVariants as items
use Rattle.mdmp_lister.specs.declared.item.StreamItem.{StreamItem}
use Rattle.mdmp_lister.specs.declared.sink.RunFault.{RunFault}
use Rattle.mdmp_lister.specs.declared.sink.RunFault.TheVariants as run
use Rattle.mdmp_lister.specs.declared.sink.Stopped.{Stopped}
use Rattle.mdmp_lister.specs.Format.Item.{plain}
use Rattle.mdmp_lister.specs.Sink.{Handed, Taken, TakenToStop}
use Rattle.mdmp_summary.specs.CheckRows.{entry_after, entry_behind, good_row, loses_after, loses_behind, loses_more, rows_over, rows_told}
use Rattle.mdmp_summary.specs.Part.{parts_outside}
use Rattle.mdmp_summary.specs.RowMaking.{HandsRows, HasTold, StopsAmong, TakesItem, rows_of_parts}
use Rattle.mdmp_summary.specs.declared.check_row.CheckRow.{CheckRow}
use Rattle.mdmp_summary.specs.declared.check_row.CheckRow.TheVariants.{Part}
use Rattle.mdmp_summary.specs.declared.part.PartOutside.{PartOutside}
use Rattle.mdmp_summary.proofs.RowsBehind.{is_begun}

-- ---- rows behind rows

module _ {J X : Type 0} (step : J → X → Result (Unit {0}) Stopped → J → Type 0) where
  pub taken_then : (xs ys : List X) (j k l : J) → Taken step j xs k → Taken step k ys l → Taken step j (xs ++ ys) l
  taken_then [] ys j k l first then = subst (λ m. Taken step m ys l) first then
  taken_then (x ∷ xs) ys j k l (m, (one, first)) then = (m, (one, taken_then xs ys m k l first then))

  pub stopped_then : (xs ys : List X) (j k l : J) → Taken step j xs k → TakenToStop step k ys l → TakenToStop step j (xs ++ ys) l
  stopped_then [] ys j k l first then = subst (λ m. TakenToStop step m ys l) first then
  stopped_then (x ∷ xs) ys j k l (m, (one, first)) then = inr (m, (one, stopped_then xs ys m k l first then))

  pub handed_then : (result : Result (Unit {0}) RunFault) (xs ys : List X) (j k l : J) → Taken step j xs k → Handed step k ys result l → Handed step j (xs ++ ys) result l
  handed_then (Ok done) xs ys j k l first then = taken_then xs ys j k l first then
  handed_then (Err (run.At f)) xs ys j k l first then = taken_then xs ys j k l first then
  handed_then (Err run.Stopped) xs ys j k l first then = stopped_then xs ys j k l first then

-- ---- rows of items, whose maker has this sink, this entry and this loss

module _ {J K N : Type 0} (step : J → CheckRow → Result (Unit {0}) Stopped → J → Type 0) (sink : K → J) (entry : K → Option ℕ) (loses : K → Bool) (name : K → N) where
  abbrev pub takes : K → Item → Result (Unit {0}) Stopped → K → Type 0
  takes old x result new = (name new ≡ name old) × TakesItem step (sink old) (entry old) (loses old) x result (sink new) (entry new) (loses new)

  -- all items were taken
  pub record HasMade (xs : List Item) (k l : K) : Type 0 where
    pub taken : Taken step (sink k) (rows_over (entry k) (loses k) xs) (sink l)
    pub entry_is : entry l ≡ entry_behind (entry k) xs
    pub loses_is : loses l ≡ loses_behind (loses k) xs
    pub same : name l ≡ name k

  pub rows_made : (xs : List Item) (k l : K) → Taken takes k xs l → HasMade xs k l
  rows_made [] k l same = record { taken = ap sink same; entry_is = ap entry same; loses_is = ap loses same; same = ap name same }
  rows_made (x ∷ xs) k l (m, ((same, has), more)) =
      let rest = rows_made xs m l more in
      record {
        taken = taken_then step (rows_told (entry k) (loses k) x) (rows_over (entry_after (entry k) x) (loses_after (loses k) x) xs) (sink k) (sink m) (sink l) has.taken
            (subst (λ e. Taken step (sink m) (rows_over e (loses_after (loses k) x) xs) (sink l)) has.entry_is
            (subst (λ b. Taken step (sink m) (rows_over (entry m) b xs) (sink l)) has.loses_is rest.taken));
        entry_is = rest.entry_is ∙ ap (λ e. entry_behind e xs) has.entry_is;
        loses_is = rest.loses_is ∙ ap (λ b. loses_behind b xs) has.loses_is;
        same = rest.same ∙ same;
      }

  -- the sink stopped among the rows of the last one
  pub record HasStopped (xs : List Item) (k l : K) : Type 0 where
    pub among : StopsAmong step (sink k) (rows_over (entry k) (loses k) xs) (sink l)
    pub same : name l ≡ name k

  pub rows_stopped : (xs : List Item) (k l : K) → TakenToStop takes k xs l → HasStopped xs k l
  rows_stopped [] k l never = absurd never
  rows_stopped (x ∷ xs) k l (inl (last, (same, among))) =
      let behind = rows_over (entry_after (entry k) x) (loses_after (loses k) x) xs in
      record {
        among = record {
          told = among.told;
          rest = among.rest ++ behind;
          splits = ap (λ (rows : List CheckRow). rows ++ behind) among.splits ∙ append_assoc among.told among.rest behind;
          stopped = among.stopped;
        };
        same = same;
      }
  rows_stopped (x ∷ xs) k l (inr (m, ((same, has), more))) =
      let rest = rows_stopped xs m l more in
      let here = rows_told (entry k) (loses k) x in
      let among : StopsAmong step (sink m) (rows_over (entry_after (entry k) x) (loses_after (loses k) x) xs) (sink l) =
      subst (λ e. StopsAmong step (sink m) (rows_over e (loses_after (loses k) x) xs) (sink l)) has.entry_is
      (subst (λ b. StopsAmong step (sink m) (rows_over (entry m) b xs) (sink l)) has.loses_is rest.among) in
      record {
        among = record {
          told = here ++ among.told;
          rest = among.rest;
          splits = ap (λ (rows : List CheckRow). here ++ rows) among.splits ∙ sym (append_assoc here among.told among.rest);
          stopped = stopped_then step here among.told (sink k) (sink m) (sink l) has.taken among.stopped;
        };
        same = rest.same ∙ same;
      }

-- ---- rows of an item

module _ {J : Type 0} (step : J → CheckRow → Result (Unit {0}) Stopped → J → Type 0) where
  -- a row was put
  pub one_row : (row : CheckRow) (k l : J) (result : Result (Unit {0}) Stopped) → step k row result l → HandsRows step k (row ∷ []) result l
  one_row row k l (Ok done) put = (l, (put, refl))
  one_row row k l (Err stop) put = record { told = row ∷ []; rest = []; splits = refl; stopped = inl (refl, put) }

  -- the rows of parts, and of more parts
  pub more_parts : (ps qs : List PartOutside) (k m l : J) (result : Result (Unit {0}) Stopped) → Taken step k (rows_of_parts ps) m → HandsRows step m (rows_of_parts qs) result l
      → HandsRows step k (rows_of_parts (ps ++ qs)) result l
  more_parts ps qs k m l (Ok done) first then =
      subst (λ rows. Taken step k rows l) (sym (map-append Part ps qs)) (taken_then step (rows_of_parts ps) (rows_of_parts qs) k m l first then)
  more_parts ps qs k m l (Err stop) first then = record {
    told = rows_of_parts ps ++ then.told;
    rest = then.rest;
    splits = map-append Part ps qs ∙ ap (λ (rows : List CheckRow). rows_of_parts ps ++ rows) then.splits ∙ sym (append_assoc (rows_of_parts ps) then.told then.rest);
    stopped = stopped_then step (rows_of_parts ps) then.told k m l first then.stopped;
  }

  pub cut_parts : (ps qs : List PartOutside) (k l : J) → StopsAmong step k (rows_of_parts ps) l → StopsAmong step k (rows_of_parts (ps ++ qs)) l
  cut_parts ps qs k l among = record {
    told = among.told;
    rest = among.rest ++ rows_of_parts qs;
    splits = map-append Part ps qs ∙ ap (λ (rows : List CheckRow). rows ++ rows_of_parts qs) among.splits ∙ append_assoc among.told among.rest (rows_of_parts qs);
    stopped = among.stopped;
  }

  -- an entry was begun
  pub begun_taken : (x : StreamItem) (k l : J) (entry : Option ℕ) (loses : Bool) (result : Result (Unit {0}) Stopped) (entry_now : Option ℕ) (loses_now : Bool)
      → HandsRows step k (good_row entry loses) result l → entry_now ≡ Some x.entry → loses_now ≡ false → TakesItem step k entry loses (items.Stream x) result l entry_now loses_now
  begun_taken x k l entry loses (Ok done) entry_now loses_now put entry_is loses_is = record { taken = put; entry_is = entry_is; loses_is = loses_is }
  begun_taken x k l entry loses (Err stop) entry_now loses_now put entry_is loses_is = put

  -- the parts of a record were told
  parts_by : (x : Item) (parts : List PartOutside) (k l : J) (entry : Option ℕ) (loses : Bool) (result : Result (Unit {0}) Stopped) (entry_now : Option ℕ) (loses_now : Bool)
      → rows_told entry loses x ≡ rows_of_parts parts → entry_after entry x ≡ entry → loses_after loses x ≡ loses_more loses parts
      → HandsRows step k (rows_of_parts parts) result l → entry_now ≡ entry → HasTold result loses parts loses_now → TakesItem step k entry loses x result l entry_now loses_now
  parts_by x parts k l entry loses (Ok done) entry_now loses_now rows after lost put entry_is loses_is = record {
    taken = rw rows put;
    entry_is = entry_is ∙ sym after;
    loses_is = loses_is ∙ sym lost;
  }
  parts_by x parts k l entry loses (Err stop) entry_now loses_now rows after lost put entry_is loses_is = rw rows put

  pub parts_taken : (x : Item) → is_begun x ≡ false → (parts : List PartOutside) → parts ≡ parts_outside x → (k l : J) (entry : Option ℕ) (loses : Bool) (result : Result (Unit {0}) Stopped) (entry_now : Option ℕ) (loses_now : Bool)
      → HandsRows step k (rows_of_parts parts) result l → entry_now ≡ entry → HasTold result loses parts loses_now → TakesItem step k entry loses (plain x) result l entry_now loses_now
  parts_taken (items.Stream x) begun parts is k l entry loses result entry_now loses_now put entry_is loses_is = absurd (cc)
  parts_taken (items.Module x) begun parts is k l entry loses result entry_now loses_now put entry_is loses_is =
      parts_by (plain (items.Module x)) parts k l entry loses result entry_now loses_now (ap rows_of_parts (sym is)) refl (ap (loses_more loses) (sym is)) put entry_is loses_is
  parts_taken x begun parts is k l entry loses result entry_now loses_now put entry_is loses_is =
      parts_by (plain x) parts k l entry loses result entry_now loses_now (ap rows_of_parts (sym is)) refl (ap (loses_more loses) (sym is)) put entry_is loses_is
