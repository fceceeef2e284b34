-- A file that is walked over as a view of it is opened.
use Rattle.std.proofs.Common.{◌≡◌, ◌∙◌, ◌<◌, ◌≤◌, ◌+◌, ◌*◌, ◌^◌, ◌⊎◌, ℕ, Bool, true, false, zero, suc, List, [], ◌∷◌, ◌++◌, length, get_or, map, take, Option, Some, None, Result, Ok, Err, ap, arith, inl, inr, refl, subst, sym, sum, length-append}
use Rattle.std.specs.Prelude.{sum_by}
use Rattle.std.proofs.Math.Nat.{mul-le-mul_right}
use Rattle.std.proofs.lemmas.Bool.{cases_lt}
use Rattle.std.proofs.lemmas.List.{get_or_append_left, get_or_push, take_all}
use Rattle.std.proofs.lemmas.List.Sums.{sum_by_push}
use Rattle.mdmp_source.specs.Count.{raised}
use Rattle.mdmp_source.specs.Source.{FetchesSome}
use Rattle.mdmp_lister.specs.declared.fault.OpenFault.TheVariants as opening
use Rattle.mdmp_lister.specs.Format.Listing.{Numbered}
use Rattle.mdmp_lister.specs.Format.Numbers.{is_listed}
use Rattle.mdmp_lister.specs.Format.Shape.{record_count}
use Rattle.mdmp_lister.specs.Meter.{KeepsTo}
use Rattle.mdmp_dump.specs.declared.fault.ReadFault.{ReadFault}
use Rattle.mdmp_dump.specs.declared.fault.ReadFault.TheVariants as faults
use Rattle.mdmp_dump.specs.declared.found_record.FoundRecord.{FoundRecord}
use Rattle.mdmp_dump.specs.declared.stream_walk.TakenRoom.{TakenRoom}
use Rattle.mdmp_dump.specs.declared.view.Fields.{Fields}
use Rattle.mdmp_dump.specs.declared.view.Kind.{Kind}
use Rattle.mdmp_dump.specs.declared.view.Kind.TheVariants.{Known}
use Rattle.mdmp_dump.specs.EntryWalk.{Begins, FindsRow, GivesNext, LiesInside, MayCount, Pays, WalkState, chosen_entry, kind_by, listed, name_cost, no_entry, pass_cost, raw_part}
use Rattle.mdmp_dump.specs.FileRefusal.{body_told, entry_told, run_told}
use Rattle.mdmp_dump.specs.Left.{run_of}
use Rattle.mdmp_dump.specs.FileView.{AreBare, AreCounted, AreInside, AreWalked, HasWalked, IsShortAt, IsStreamOver, IsTakenWith, KeepsAll, KeepsUpTo, PaysAll, PaysSome, PaysUpTo, TellsFirst, TellsStream, WalksRecord, cost_before, costs_in, count_in, kind_at, opening_cost, pass_cost_in, room_told, stream_asks, stream_of}
use Rattle.mdmp_dump.specs.FileViewLaws.{same_then}
use Rattle.mdmp_dump.specs.FoundRecord.{fields_of}
use Rattle.mdmp_dump.specs.InFile.{stream_named}
use Rattle.mdmp_dump.specs.Placed.{far_room, fields_bytes, fields_room, size_in}
use Rattle.mdmp_dump.specs.Reading.{Fetches, IsWanting}
use Rattle.mdmp_dump.specs.Seen.{Seen, nothing_seen}
use Rattle.mdmp_dump.specs.Shape.{GivesNone, all_bytes, parts_in, seen_record, told, type_told}
use Rattle.mdmp_dump.specs.View.{kind_in, raw_in, records_seen}
use Rattle.mdmp_dump.proofs.Budgets.{budget_wants, kept_less, over_tells, wanting_own}
use Rattle.mdmp_dump.proofs.Costs.{costs_first, costs_inside, costs_most, costs_push, may_listed, may_none, pays_none}
use Rattle.mdmp_dump.proofs.Refusals.{count_refused, entry_begins, one_told, row_passed, row_refused, rows_passed}
use Rattle.mdmp_dump.proofs.Taking.{fetches_err}
use Rattle.mdmp_dump.proofs.Viewed.{raw_sized, records_are, rooms_all, rooms_none, rooms_step, row_seen}

-- ---- walks one behind the other

pub pays_then : (a b c d : ℕ) (u v w : WalkState) → Pays a b u v → Pays c d v w → Pays (a + c) (b + d) u w
pays_then a b c d u v w p q = record {
  same = same_then u v w p.same q.same;
  aside = q.aside ∙ p.aside;
  allowed = λ few. (let later = q.allowed few in let first = p.allowed (omega (arith, few, q.more)) in omega (arith, later, first));
  reached = omega (arith, p.reached, q.reached);
  more = omega (arith, p.more, q.more);
}

-- ---- the bytes of names and parts

pub bytes_more : (xs : List Seen) (k : ℕ) → k < length xs → all_bytes (take (k + 1) xs) ≡ all_bytes (take k xs) + fields_bytes (get_or xs k nothing_seen).fields
unfolding all_bytes
bytes_more [] k within = absurd (omega (arith, within))
bytes_more (x ∷ xs) zero within = omega arith
bytes_more (x ∷ xs) (suc k) within =
    let next : suc k + 1 ≡ suc (k + 1) = omega arith in
    let more : all_bytes (take (k + 1) xs) ≡ all_bytes (take k xs) + fields_bytes (get_or xs k nothing_seen).fields = bytes_more xs k (omega (arith, within)) in
    ap (λ (m : ℕ). all_bytes (take m (x ∷ xs))) next
    ∙ (let h : fields_bytes x.fields + all_bytes (take (k + 1) xs) ≡ fields_bytes x.fields + all_bytes (take k xs) + fields_bytes (get_or xs k nothing_seen).fields = omega (arith, more) in h)

bytes_none : (xs : List Seen) → all_bytes (take 0 xs) ≡ 0
unfolding all_bytes
bytes_none xs = refl

-- ---- the records of a stream

-- so many of its records were found, none of them refused, and their names and parts take so much
pub record IsWalkedTo (Z : Type 0) (F : List ℕ) (limit : ℕ) (x : Numbered) (count index room asks : ℕ) : Type 0 where
  pub asks_is : asks ≡ all_bytes (take index (records_seen (stream_named {Z = Z} F x.entry))) + length (raw_in (stream_named {Z = Z} F x.entry))
  pub counted : record_count F x.entry ≡ Ok count
  pub quiet : entry_told F limit x ≡ body_told F limit x index
  pub room_is : room ≡ told (parts_in (kind_in (stream_named {Z = Z} F x.entry)) (take index (records_seen (stream_named {Z = Z} F x.entry))))

-- and the walk stands behind them
pub record IsWalking (Z : Type 0) (limit : ℕ) (old : WalkState) (k count : ℕ) (now : WalkState) (index room asks : ℕ) : Type 0 where
  pub asks_most : asks ≤ 2 ^ 64 + index * 2 ^ 66
  pub pays : Pays (listed (chosen_entry old k).entry) (index * name_cost (chosen_entry old k).entry.stream_type) old now
  pub current : now.current ≡ chosen_entry old k
  pub left : index + now.left ≡ count
  pub few : count < 2 ^ 32
  pub counts : MayCount old.source.size (chosen_entry old k).entry count
  pub going : now.failed ≡ None
  pub bare : GivesNone (kind_at old k) index → room ≡ 0
  pub of_file : (F : List ℕ) → old.source.store.content ≡ Some F → IsWalkedTo Z F limit (chosen_entry old k) count index room asks

-- a record is found of a known stream alone
found_none : (kind : Kind) (t index : ℕ) → kind ≡ Known t → GivesNone kind (index + 1) → ⊥
found_none (Known s) t index is none = omega (arith, none)
found_none kind t index is none = absurd (cc)

no_more : (cost : ℕ) → 0 ≡ 0 * cost
no_more cost = omega arith

one_more : (index cost : ℕ) → (index + 1) * cost ≡ index * cost + cost
one_more index cost = omega arith

module _ (Z : Type 0) (limit : ℕ) (old : WalkState) (k : ℕ) where
  pub walking_begins : (count : ℕ) (now : WalkState) (asks : ℕ) → asks ≡ size_in (raw_part (chosen_entry old k).entry).size → asks ≤ 2 ^ 64 → Begins old k (Ok count) now → IsWalking Z limit old k count now 0 0 asks
  walking_begins count now asks raw few begins = record {
    asks_most = omega (arith, few);
    pays = subst (λ (b : ℕ). Pays (listed (chosen_entry old k).entry) b old now) (no_more (name_cost (chosen_entry old k).entry.stream_type)) begins.pays;
    current = begins.begun.0;
    left = omega (arith, begins.begun.1);
    few = begins.begun.2;
    counts = begins.counts;
    going = begins.failed;
    bare = λ none. refl;
    of_file = λ F known. record {
      asks_is =
          let none = bytes_none (records_seen (stream_of {Z = Z} F old k)) in
          let sized = raw_sized Z F (chosen_entry old k) count (begins.of_file F known) in
          omega (arith, raw, none, sized);
      counted = begins.of_file F known;
      quiet = entry_begins F limit (chosen_entry old k);
      room_is = sym (rooms_none (kind_in (stream_of {Z = Z} F old k)) (records_seen (stream_of {Z = Z} F old k)));
    };
  }

  pub unbegun_paid : (fault : ReadFault) (now : WalkState) → Begins old k (Err fault) now → PaysUpTo k old now
  unbegun_paid fault now begins = record {
    reached = 0;
    pays = subst (λ (b : ℕ). Pays (listed (chosen_entry old k).entry) b old now) (no_more (name_cost (chosen_entry old k).entry.stream_type)) begins.pays;
    few = λ F known. omega arith;
    unlisted = begins.unlisted;
  }

  pub walking_unbegun : (fault : ReadFault) (now : WalkState) → Begins old k (Err fault) now → (F : List ℕ) → old.source.store.content ≡ Some F → HasWalked Z F limit old k (Err fault)
  walking_unbegun fault now begins F known = λ own.
      let told = begins.of_file F known (λ is. own (wanting_own fault is)) in
      count_refused F limit (chosen_entry old k) told.0 told.1.0 ∙ ap Some (sym told.1.1)

  module _ (count : ℕ) (now : WalkState) (index room asks : ℕ) (walking : IsWalking Z limit old k count now index room asks) (next : WalkState) where
    known_now : (F : List ℕ) → old.source.store.content ≡ Some F → now.source.store.content ≡ Some F
    known_now F known = walking.pays.same.fetches.fetches.same_content ∙ known

    row_next : (result : Result FoundRecord ReadFault) → GivesNext now limit result next → (F : List ℕ) → old.source.store.content ≡ Some F → FindsRow F limit (chosen_entry old k) index result
    row_next result gives F known =
        let found = gives.of_file F (known_now F known) in
        let count_is : record_count F (chosen_entry old k).entry ≡ Ok (found.0 + now.left) = subst (λ (x : Numbered). record_count F x.entry ≡ Ok (found.0 + now.left)) walking.current found.1.0 in
        let whole : found.0 + now.left ≡ count = (let a = count_is in let b = (walking.of_file F known).counted in cc) in
        let same : found.0 ≡ index = omega (arith, whole, walking.left) in
        subst (λ (i : ℕ). FindsRow F limit (chosen_entry old k) i result) same (subst (λ (x : Numbered). FindsRow F limit x found.0 result) walking.current found.1.1)

    -- one record more was reached
    row_paid : (result : Result FoundRecord ReadFault) → GivesNext now limit result next → Pays (listed (chosen_entry old k).entry) ((index + 1) * name_cost (chosen_entry old k).entry.stream_type) old next
    row_paid result gives =
        let cost = name_cost (chosen_entry old k).entry.stream_type in
        let pays : Pays 0 cost now next = subst (λ (x : Numbered). Pays 0 (name_cost x.entry.stream_type) now next) walking.current gives.pays in
        let both : Pays (listed (chosen_entry old k).entry + 0) (index * cost + cost) old next = pays_then (listed (chosen_entry old k).entry) (index * cost) 0 cost old now next walking.pays pays in
        let bytes : listed (chosen_entry old k).entry + 0 ≡ listed (chosen_entry old k).entry = omega arith in
        subst (λ (a : ℕ). Pays a ((index + 1) * cost) old next) bytes (subst (λ (b : ℕ). Pays (listed (chosen_entry old k).entry + 0) b old next) (sym (one_more index cost)) both)

    walking_goes : (f : FoundRecord) (g : Fields) (met bytes : ℕ) → GivesNext now limit (Ok f) next → index < count → g ≡ fields_of f → met ≡ told (told (room + fields_room g) + far_room g)
        → bytes ≡ fields_bytes g → bytes ≤ 2 ^ 66 → IsWalking Z limit old k count next (index + 1) met (asks + bytes)
    walking_goes f g met bytes gives fewer same sum size few =
        record {
          asks_most = omega (arith, walking.asks_most, few);
          pays = row_paid (Ok f) gives;
          current = gives.goes.0 ∙ walking.current;
          left = omega (arith, walking.left, gives.goes.1);
          few = walking.few;
          counts = walking.counts;
          going = gives.failed;
          bare = λ none. absurd (found_none (kind_at old k) (type_told f.wire) index (sym (ap (λ (x : Numbered). kind_by x.entry.stream_type) walking.current) ∙ gives.found.kind_is) none);
          of_file = λ F known.
              let of = walking.of_file F known in
              let row = row_next (Ok f) gives F known in
              let fields : g ≡ (seen_record (stream_of {Z = Z} F old k) index).fields = same ∙ (row_seen Z F (chosen_entry old k) count of.counted limit index f row).fields in
              record {
                asks_is =
                    let s = stream_of {Z = Z} F old k in
                    let inside : index < length (records_seen s) = omega (arith, fewer, records_are Z F (chosen_entry old k) count of.counted) in
                    let more = bytes_more (records_seen s) index inside in
                    let these : bytes ≡ fields_bytes (seen_record s index).fields = size ∙ ap (λ (h : Fields). fields_bytes h) fields in
                    omega (arith, of.asks_is, more, these);
                counted = of.counted;
                quiet = of.quiet ∙ row_passed F limit (chosen_entry old k) count of.counted index f row;
                room_is = rooms_step Z F (chosen_entry old k) count of.counted index room met fewer of.room_is (subst (λ (h : Fields). met ≡ told (told (room + fields_room h) + far_room h)) fields sum);
              };
        }

    pub walking_takes : (taken : TakenRoom) → WalksRecord now limit room (Ok taken) next → index < count → IsWalking Z limit old k count next (index + 1) taken.room (asks + taken.bytes)
    walking_takes taken walks fewer = by walks.given walks.gives walks.taken where
      by : (given : Result FoundRecord ReadFault) → GivesNext now limit given next → IsTakenWith room given (Ok taken) → IsWalking Z limit old k count next (index + 1) taken.room (asks + taken.bytes)
      by (Ok f) gives is = walking_goes f (fields_of f) taken.room taken.bytes gives fewer refl is.0 is.1 is.2
      by (Err fault) gives is = absurd is

    pub next_refused : (fault : ReadFault) → WalksRecord now limit room (Err fault) next → GivesNext now limit (Err fault) next
    next_refused fault walks = by walks.given walks.gives walks.taken where
      by : (given : Result FoundRecord ReadFault) → GivesNext now limit given next → IsTakenWith room given (Err fault) → GivesNext now limit (Err fault) next
      by (Ok f) gives is = absurd is
      by (Err told) gives is = subst (λ (g : ReadFault). GivesNext now limit (Err g) next) (sym is) gives

    pub walking_refused : (fault : ReadFault) → GivesNext now limit (Err fault) next → (F : List ℕ) → old.source.store.content ≡ Some F → HasWalked Z F limit old k (Err fault)
    walking_refused fault gives F known = λ own.
        let of = walking.of_file F known in
        of.quiet ∙ row_refused F limit (chosen_entry old k) count of.counted index fault (row_next (Err fault) gives F known) (λ is. own (wanting_own fault is))

    pub walking_paid : (fault : ReadFault) → GivesNext now limit (Err fault) next → index < count → PaysUpTo k old next
    walking_paid fault gives fewer = record {
      reached = index + 1;
      pays = row_paid (Err fault) gives;
      few = λ F known. omega (arith, fewer, ap count_in (walking.of_file F known).counted);
      unlisted = λ none. absurd (omega (arith, fewer, may_none old.source.size (chosen_entry old k).entry count walking.counts none));
    }

    -- within a budget that has room for a pass over all of its records
    pub walking_keeps : (budget : Option ℕ) (spent : ℕ) (fault : ReadFault) → GivesNext now limit (Err fault) next → index < count → KeepsTo budget (spent + pass_cost (chosen_entry old k).entry count)
        → KeepsUpTo budget spent k old next
    walking_keeps budget spent fault gives fewer kept =
        let cost = name_cost (chosen_entry old k).entry.stream_type in
        let less : (index + 1) * cost ≤ count * cost = mul-le-mul_right cost (omega (arith, fewer)) in
        record {
          reached = index + 1;
          pays = row_paid (Err fault) gives;
          kept = kept_less budget (spent + pass_cost (chosen_entry old k).entry count) (spent + pass_cost (chosen_entry old k).entry (index + 1)) (omega (arith, less)) kept;
        }

    pub walking_fetches : {T : Type 0} (fault : ReadFault) → GivesNext now limit (Err fault) next → Fetches {T = T} (Err fault) old.source next.source
    walking_fetches {T = T} fault gives = fetches_err old.source now.source next.source walking.pays.same.fetches fault gives.fetches

  -- none of its records was reached
  pub unbegun_keeps : (budget : Option ℕ) (spent : ℕ) (result : Result ℕ ReadFault) (now : WalkState) → Begins old k result now → KeepsTo budget (spent + pass_cost (chosen_entry old k).entry 0) → KeepsUpTo budget spent k old now
  unbegun_keeps budget spent result now begins kept = record {
    reached = 0;
    pays = subst (λ (b : ℕ). Pays (listed (chosen_entry old k).entry) b old now) (no_more (name_cost (chosen_entry old k).entry.stream_type)) begins.pays;
    kept = kept;
  }

  -- a budget has no room for it
  pub begun_paid : (result : Result ℕ ReadFault) (now : WalkState) → Begins old k result now → PaysUpTo k old now
  begun_paid result now begins = record {
    reached = 0;
    pays = subst (λ (b : ℕ). Pays (listed (chosen_entry old k).entry) b old now) (no_more (name_cost (chosen_entry old k).entry.stream_type)) begins.pays;
    few = λ F known. omega arith;
    unlisted = begins.unlisted;
  }

  pub untouched_paid : PaysUpTo k old old
  untouched_paid = record {
    reached = 0;
    pays = pays_none _ _ old;
    few = λ F known. omega arith;
    unlisted = λ none. pays_none 0 0 old;
  }

  pub budget_refuses : (fault : ReadFault) (offset size : ℕ) → fault ≡ faults.Opening (opening.Budget offset size) → (F : List ℕ) → HasWalked Z F limit old k (Err fault)
  budget_refuses fault offset size is F = λ own. absurd (own (budget_wants fault offset size is))

  pub budget_fetches : {T : Type 0} (fault : ReadFault) (offset size : ℕ) (now : WalkState) → fault ≡ faults.Opening (opening.Budget offset size) → 32 ≤ old.source.size → FetchesSome old.source now.source
      → Fetches {T = T} (Err fault) old.source now.source
  budget_fetches fault offset size now is long fetches = rw is (record { fetches = fetches; told = tt; good = λ F good. refl; refusal = long })

  pub walking_ends : (count : ℕ) (now : WalkState) (index room asks cost : ℕ) → IsWalking Z limit old k count now index room asks → index ≡ count → (F : List ℕ) → old.source.store.content ≡ Some F
      → HasWalked Z F limit old k (Ok (record { count = count; room = room; cost = cost; asks = asks }))
  walking_ends count now index room asks cost walking all F known =
      let of = walking.of_file F known in
      let s = stream_of {Z = Z} F old k in (
        of.counted,
        of.room_is ∙ ap told (rooms_all (kind_in s) (records_seen s) index (omega (arith, all, records_are Z F (chosen_entry old k) count of.counted))),
        of.quiet ∙ ap (body_told F limit (chosen_entry old k)) all ∙ rows_passed F limit (chosen_entry old k) count of.counted,
        of.asks_is ∙ ap (λ (xs : List Seen). all_bytes xs + length (raw_in s)) (take_all index (records_seen s) (omega (arith, all, records_are Z F (chosen_entry old k) count of.counted))),
      )

-- ---- all streams

-- the streams that were walked over, and the walk behind them
pub record AreWalking (Z : Type 0) (limit : ℕ) (old now : WalkState) (counts rooms : List ℕ) (k : ℕ) : Type 0 where
  pub pays : PaysAll counts old now
  pub counted : length counts ≡ k
  pub roomed : length rooms ≡ k
  pub going : now.failed ≡ None
  pub counts_fit : AreCounted old.source.size old counts
  pub bare : AreBare (kind_at old) counts rooms
  pub of_file : (F : List ℕ) → old.source.store.content ≡ Some F → AreWalked Z F limit old counts rooms

-- what they cost and have, in all
pub record AreSummed (Z : Type 0) (budget : Option ℕ) (old now : WalkState) (counts : List ℕ) (k costs asks : ℕ) : Type 0 where
  pub costs_are : costs ≡ sum (costs_in old.chosen counts)
  pub costs_few : costs ≤ k * 2 ^ 64
  pub asks_few : asks < 2 ^ 128
  pub asks_are : (F : List ℕ) → old.source.store.content ≡ Some F → asks ≡ raised 0 (sum_by (λ (x : Numbered). stream_asks (stream_named {Z = Z} F x.entry)) (take k old.chosen))
  pub keeps : (now ≡ old) ⊎ KeepsTo budget (opening_cost old counts)
  pub kept : 0 < k → KeepsTo budget (opening_cost old counts)

bare_push : (kind : ℕ → Kind) (ns rs : List ℕ) (n r : ℕ) → length rs ≡ length ns → AreBare kind ns rs → (GivesNone (kind (length ns)) n → r ≡ 0) → AreBare kind (ns ++ n ∷ []) (rs ++ r ∷ [])
bare_push kind [] [] n r same each last zero = last
bare_push kind [] [] n r same each last (suc k) = λ none. refl
bare_push kind [] (s ∷ rs) n r same each last k = absurd (omega (arith, same))
bare_push kind (m ∷ ns) [] n r same each last k = absurd (omega (arith, same))
bare_push kind (m ∷ ns) (s ∷ rs) n r same each last zero = each zero
bare_push kind (m ∷ ns) (s ∷ rs) n r same each last (suc k) = bare_push (λ i. kind (suc i)) ns rs n r (omega (arith, same)) (λ i. each (suc i)) last k

none_cost_sum : (xs : List Numbered) → sum (costs_in xs []) ≡ 0
unfolding costs_in
none_cost_sum [] = refl
none_cost_sum (x ∷ xs) = refl

-- what is true of each of some numbers and of one more behind them
each_push : (P : ℕ → ℕ → Type 0) (ns : List ℕ) (n : ℕ) → ((k : ℕ) → k < length ns → P k (get_or ns k 0)) → P (length ns) n → (k : ℕ) → k < length (ns ++ n ∷ []) → P k (get_or (ns ++ n ∷ []) k 0)
each_push P ns n each last k inside = elim (cases_lt k (length ns)) [
  | inl before ↦ subst (P k) (sym (get_or_append_left ns (n ∷ []) 0 k before)) (each k before)
  | inr at ↦
      let same : k ≡ length ns = omega (arith, at, inside, length-append ns (n ∷ [])) in
      subst (λ (i : ℕ). P i (get_or (ns ++ n ∷ []) i 0)) (sym same) (subst (P (length ns)) (sym (get_or_push ns n 0 (length ns) refl)) last)
]

-- none was walked over
none_walked : (w : WalkState) → PaysAll [] w w
none_walked w = record {
  same = (pays_none 0 0 w).same;
  aside = refl;
  allowed = λ few. omega (arith, none_cost_sum w.chosen);
  reached = omega (arith, none_cost_sum w.chosen);
}

pub none_paid : (w : WalkState) → PaysSome w w
none_paid w = record { reached = []; pays = none_walked w; few = λ F known. omega (arith, none_cost_sum w.chosen); inside = λ k within. absurd (let h : k < 0 = within in omega (arith, h)); inside_costs = λ F known. omega (arith, none_cost_sum w.chosen) }

-- a list's first elements and one more
take_more : {X : Type 0} (xs : List X) (k : ℕ) (d : X) → k < length xs → take (k + 1) xs ≡ take k xs ++ get_or xs k d ∷ []
take_more [] k d within = absurd (omega (arith, within))
take_more (x ∷ xs) zero d within = refl
take_more (x ∷ xs) (suc k) d within =
    let next : suc k + 1 ≡ suc (k + 1) = omega arith in
    ap (λ (m : ℕ). take m (x ∷ xs)) next ∙ ap (λ ys. x ∷ ys) (take_more xs k d (omega (arith, within)))

pub all_summed : (Z : Type 0) (budget : Option ℕ) (old : WalkState) → AreSummed Z budget old old [] 0 0 0
all_summed Z budget old = record {
  costs_are = sym (none_cost_sum old.chosen);
  costs_few = omega arith;
  asks_few = omega arith;
  asks_are = λ F known. refl;
  keeps = inl refl;
  kept = λ some. absurd (omega (arith, some));
}

module _ (Z : Type 0) (limit : ℕ) (old : WalkState) where
  pub all_begin : old.failed ≡ None → AreWalking Z limit old old [] [] 0
  all_begin going = record {
    pays = none_walked old;
    counted = refl;
    roomed = refl;
    going = going;
    counts_fit = λ k inside. absurd (let h : k < 0 = inside in omega (arith, h));
    bare = λ k none. refl;
    of_file = λ F known. record {
      counted = λ k inside. absurd (let h : k < 0 = inside in omega (arith, h));
      roomed = λ k inside. absurd (let h : k < 0 = inside in omega (arith, h));
      quiet = λ k inside. absurd (let h : k < 0 = inside in omega (arith, h));
    };
  }

  module _ (now : WalkState) (counts rooms : List ℕ) (k : ℕ) (walking : AreWalking Z limit old now counts rooms k) (inside : k < length old.chosen) (next : WalkState) where
    entry_now : chosen_entry now k ≡ chosen_entry old k
    entry_now = ap (λ (xs : List Numbered). get_or xs k no_entry) walking.pays.same.chosen

    file_now : (F : List ℕ) → old.source.store.content ≡ Some F → now.source.store.content ≡ Some F
    file_now F known = walking.pays.same.fetches.fetches.same_content ∙ known

    -- one stream more was walked over, or a part of it
    one_pays : (n : ℕ) → Pays (listed (chosen_entry now k).entry) (n * name_cost (chosen_entry now k).entry.stream_type) now next → (counts_new : List ℕ) → counts_new ≡ counts ++ n ∷ [] → PaysAll counts_new old next
    one_pays n pays counts_new pushed =
        let e : Numbered → ℕ = λ (x : Numbered). listed x.entry + n * name_cost x.entry.stream_type in
        let cost : listed (chosen_entry now k).entry + n * name_cost (chosen_entry now k).entry.stream_type ≡ pass_cost (get_or old.chosen (length counts) no_entry).entry n =
        ap e entry_now ∙ ap (λ (i : ℕ). e (get_or old.chosen i no_entry)) (sym walking.counted) in
        let sums : sum (costs_in old.chosen counts_new) ≡ sum (costs_in old.chosen counts) + pass_cost (get_or old.chosen (length counts) no_entry).entry n =
        ap (λ (ns : List ℕ). sum (costs_in old.chosen ns)) pushed ∙ costs_push old.chosen counts n (omega (arith, inside, walking.counted)) in
        record {
          same = same_then old now next walking.pays.same pays.same;
          aside = pays.aside ∙ walking.pays.aside;
          allowed = λ few. (let first = walking.pays.allowed (omega (arith, few, pays.more)) in let then = pays.allowed few in omega (arith, first, then, sums, cost));
          reached = omega (arith, walking.pays.reached, pays.reached, sums, cost);
        }

    -- the entry behind those that were counted
    entry_here : chosen_entry now k ≡ chosen_entry old (length counts)
    entry_here = entry_now ∙ ap (chosen_entry old) (sym walking.counted)

    pub one_walked : (n r : ℕ) → Pays (listed (chosen_entry now k).entry) (n * name_cost (chosen_entry now k).entry.stream_type) now next → next.failed ≡ None → MayCount now.source.size (chosen_entry now k).entry n → (GivesNone (kind_at now k) n → r ≡ 0)
        → (cost asks : ℕ) → ((F : List ℕ) → now.source.store.content ≡ Some F → HasWalked Z F limit now k (Ok (record { count = n; room = r; cost = cost; asks = asks }))) → (counts_new rooms_new : List ℕ) → counts_new ≡ counts ++ n ∷ [] → rooms_new ≡ rooms ++ r ∷ []
        → AreWalking Z limit old next counts_new rooms_new (k + 1)
    one_walked n r pays going fits bare cost asks of counts_new rooms_new pushed also =
        record {
          pays = one_pays n pays counts_new pushed;
          counted = ap (λ (ns : List ℕ). length ns) pushed ∙ length-append counts (n ∷ []) ∙ ap (λ (i : ℕ). i + 1) walking.counted;
          roomed = ap (λ (ns : List ℕ). length ns) also ∙ length-append rooms (r ∷ []) ∙ ap (λ (i : ℕ). i + 1) walking.roomed;
          going = going;
          counts_fit =
              let size : MayCount old.source.size (chosen_entry now k).entry n = subst (λ (z : ℕ). MayCount z (chosen_entry now k).entry n) walking.pays.same.fetches.fetches.same_size fits in
              rw pushed (each_push (λ i m. MayCount old.source.size (chosen_entry old i).entry m) counts n walking.counts_fit (subst (λ (x : Numbered). MayCount old.source.size x.entry n) entry_here size));
          bare = rw (pushed, also)
              (bare_push (kind_at old) counts rooms n r (walking.roomed ∙ sym walking.counted) walking.bare
              (λ none. bare (subst (λ (x : Numbered). GivesNone (kind_by x.entry.stream_type) n) (sym entry_here) none)));
          of_file = λ F known.
              let before = walking.of_file F known in
              let one = of F (file_now F known) in
              let here = entry_here in
              let rooms_same : length rooms ≡ length counts = walking.roomed ∙ sym walking.counted in
              rw (pushed, also) (record {
                counted = each_push (λ i m. record_count F (chosen_entry old i).entry ≡ Ok m) counts n before.counted (subst (λ (x : Numbered). record_count F x.entry ≡ Ok n) here one.0);
                roomed = λ i within.
                    each_push (λ j m. m ≡ room_told (stream_of {Z = Z} F old j)) rooms r (λ j less. before.roomed j (omega (arith, less, rooms_same)))
                    (subst (λ (m : ℕ). r ≡ room_told (stream_of {Z = Z} F old m)) (sym rooms_same) (subst (λ (x : Numbered). r ≡ room_told (stream_named {Z = Z} F x.entry)) here one.1)) i
                    (omega (arith, within, rooms_same, length-append rooms (r ∷ []), length-append counts (n ∷ [])));
                quiet = λ i within.
                    each_push (λ j m. entry_told F limit (chosen_entry old j) ≡ None) counts n before.quiet (subst (λ (x : Numbered). entry_told F limit x ≡ None) here one.2) i within;
              });
        }

    pub one_refused : (fault : ReadFault) → ((F : List ℕ) → now.source.store.content ≡ Some F → HasWalked Z F limit now k (Err fault)) → (F : List ℕ) → old.source.store.content ≡ Some F
        → (IsWanting fault → ⊥) → run_told F (run_of F limit old.chosen) ≡ Some fault
    one_refused fault of F known own =
        one_told F limit old.chosen k fault
        (λ i before. (walking.of_file F known).quiet i (omega (arith, before, walking.counted))) inside
        (subst (λ (x : Numbered). entry_told F limit x ≡ Some fault) entry_now (of F (file_now F known) own))

    inside_before : AreInside old.source.size old.chosen counts
    inside_before = λ i within. may_listed old.source.size (chosen_entry old i).entry (get_or counts i 0) (walking.counts_fit i within)

    few_before : (F : List ℕ) → old.source.store.content ≡ Some F → (i : ℕ) → i < length counts → get_or counts i 0 ≤ count_in (record_count F (chosen_entry old i).entry)
    few_before F known i before = omega (arith, ap count_in ((walking.of_file F known).counted i before))

    few_pushed : (up : PaysUpTo k now next) → (F : List ℕ) → old.source.store.content ≡ Some F → (i : ℕ) → i < length (counts ++ up.reached ∷ [])
        → get_or (counts ++ up.reached ∷ []) i 0 ≤ count_in (record_count F (chosen_entry old i).entry)
    few_pushed up F known =
        each_push (λ i m. m ≤ count_in (record_count F (chosen_entry old i).entry)) counts up.reached (few_before F known)
        (subst (λ (x : Numbered). up.reached ≤ count_in (record_count F x.entry)) entry_here (up.few F (file_now F known)))

    inside_pushed : (n : ℕ) → is_listed old.source.size (chosen_entry now k).entry ≡ true → AreInside old.source.size old.chosen (counts ++ n ∷ [])
    inside_pushed n lies =
        each_push (λ i m. LiesInside old.source.size (chosen_entry old i).entry) counts n inside_before
        (λ known. subst (λ (x : Numbered). is_listed old.source.size x.entry ≡ true) entry_here lies)

    -- up to a stream that lies inside, or before one that does not
    pub one_paid : PaysUpTo k now next → PaysSome old next
    one_paid up = by (is_listed old.source.size (chosen_entry now k).entry) refl where
      by : (b : Bool) → is_listed old.source.size (chosen_entry now k).entry ≡ b → PaysSome old next
      by true lies = record {
        reached = counts ++ up.reached ∷ [];
        pays = one_pays up.reached up.pays (counts ++ up.reached ∷ []) refl;
        few = λ F known. costs_most F old.chosen (counts ++ up.reached ∷ []) (few_pushed up F known);
        inside = inside_pushed up.reached lies;
        inside_costs = λ F known. costs_inside F old.source.size old.chosen (counts ++ up.reached ∷ []) (few_pushed up F known) (inside_pushed up.reached lies);
      }
      by false none =
          let free = up.unlisted (subst (λ (z : ℕ). is_listed z (chosen_entry now k).entry ≡ false) (sym walking.pays.same.fetches.fetches.same_size) none) in
          record {
            reached = counts;
            pays = record {
              same = same_then old now next walking.pays.same free.same;
              aside = free.aside ∙ walking.pays.aside;
              allowed = λ few. (let first = walking.pays.allowed (omega (arith, few, free.more)) in let then = free.allowed few in omega (arith, first, then));
              reached = omega (arith, walking.pays.reached, free.reached);
            };
            few = λ F known. costs_most F old.chosen counts (few_before F known);
            inside = inside_before;
            inside_costs = λ F known. costs_inside F old.source.size old.chosen counts (few_before F known) inside_before;
          }

    -- what is spent with a pass over one stream more
    spent_more : (n : ℕ) → opening_cost old (counts ++ n ∷ []) ≡ opening_cost old counts + pass_cost (chosen_entry now k).entry n
    spent_more n =
        let pushed = costs_push old.chosen counts n (omega (arith, inside, walking.counted)) in
        let here : pass_cost (get_or old.chosen (length counts) no_entry).entry n ≡ pass_cost (chosen_entry now k).entry n = ap (λ (x : Numbered). pass_cost x.entry n) (sym entry_here) in
        omega (arith, pushed, here)

    -- a known file has no fewer bytes to walk over
    spent_most : (F : List ℕ) → old.source.store.content ≡ Some F → opening_cost old counts + pass_cost_in F (chosen_entry now k) ≤ 32 + 12 * old.header.number_of_streams + sum (map (pass_cost_in F) old.chosen)
    spent_most F known =
        let n = count_in (record_count F (chosen_entry now k).entry) in
        let all = costs_most F old.chosen (counts ++ n ∷ [])
        (each_push (λ i m. m ≤ count_in (record_count F (chosen_entry old i).entry)) counts n
        (λ i before. omega (arith, ap count_in ((walking.of_file F known).counted i before)))
        (subst (λ (x : Numbered). n ≤ count_in (record_count F x.entry)) entry_here (omega arith))) in
        omega (arith, all, spent_more n)

    -- what may be fetched of a known file before this stream
    spent_file : (F : List ℕ) → old.source.store.content ≡ Some F → opening_cost old counts ≡ cost_before F old.header.number_of_streams old.chosen k
    spent_file F known =
        let firsts = costs_first F old.chosen counts (omega (arith, inside, walking.counted)) (walking.of_file F known).counted in
        let sums : sum (costs_in old.chosen counts) ≡ sum (map (pass_cost_in F) (take k old.chosen)) =
        ap sum firsts ∙ ap (λ (n : ℕ). sum (map (pass_cost_in F) (take n old.chosen))) walking.counted in
        ap (λ (n : ℕ). 32 + 12 * old.header.number_of_streams + n) sums

    module _ (budget : Option ℕ) (costs asks : ℕ) (summed : AreSummed Z budget old now counts k costs asks) where
      -- the budget has no room for it
      pub one_place : (F : List ℕ) → old.source.store.content ≡ Some F → (fault : ReadFault) → TellsStream budget (opening_cost old counts) F (chosen_entry now k) fault
          → TellsFirst budget F old.header.number_of_streams old.chosen fault
      one_place F known (faults.Opening (opening.Budget offset size)) over = record {
        stream = k;
        within = inside;
        kept = λ some. subst (KeepsTo budget) (spent_file F known) (summed.kept some);
        over =
            subst (λ (n : ℕ). IsStreamOver budget n F (get_or old.chosen k no_entry) offset size) (spent_file F known)
            (subst (λ (x : Numbered). IsStreamOver budget (opening_cost old counts) F x offset size) entry_now over);
      }
      one_place F known fault over = tt

      -- one stream more was walked over
      pub one_summed : (n cost more : ℕ) → cost ≡ pass_cost (chosen_entry now k).entry n → cost ≤ 2 ^ 64 → KeepsTo budget (opening_cost old counts + pass_cost (chosen_entry now k).entry n)
          → ((F : List ℕ) → now.source.store.content ≡ Some F → more ≡ stream_asks (stream_of {Z = Z} F now k)) → (counts_new : List ℕ) → counts_new ≡ counts ++ n ∷ []
          → (asks_new : ℕ) → asks_new ≡ raised asks more → AreSummed Z budget old next counts_new (k + 1) (costs + cost) asks_new
      one_summed n cost more cost_is few kept asks_of counts_new pushed asks_new sum_is = record {
        costs_are =
            let spent = spent_more n in
            let same = ap (λ (ns : List ℕ). sum (costs_in old.chosen ns)) pushed in
            omega (arith, spent, same, cost_is, summed.costs_are);
        costs_few = omega (arith, few, summed.costs_few);
        asks_few = omega (arith, sum_is, summed.asks_few);
        asks_are = λ F known.
            let f : Numbered → ℕ = λ (x : Numbered). stream_asks (stream_named {Z = Z} F x.entry) in
            let taken : sum_by f (take (k + 1) old.chosen) ≡ sum_by f (take k old.chosen) + f (get_or old.chosen k no_entry) =
            ap (sum_by f) (take_more old.chosen k no_entry inside) ∙ sum_by_push f (take k old.chosen) (get_or old.chosen k no_entry) in
            let one : more ≡ f (get_or old.chosen k no_entry) = asks_of F (file_now F known) ∙ ap f entry_now in
            omega (arith, taken, one, sum_is, summed.asks_are F known);
        keeps = inr (subst (KeepsTo budget) (sym (ap (opening_cost old) pushed ∙ spent_more n)) kept);
        kept = λ some. subst (KeepsTo budget) (sym (ap (opening_cost old) pushed ∙ spent_more n)) kept;
      }

      -- or it was not
      pub one_keeps : ((next ≡ now) ⊎ KeepsUpTo budget (opening_cost old counts) k now next) → (next ≡ old) ⊎ KeepsAll budget old next
      one_keeps (inl same) = elim summed.keeps [
        | inl first ↦ inl (same ∙ first)
        | inr kept ↦ inr (record { reached = counts; pays = subst (λ (w : WalkState). PaysAll counts old w) (sym same) walking.pays; kept = kept })
      ]
      one_keeps (inr up) = inr (record {
        reached = counts ++ up.reached ∷ [];
        pays = one_pays up.reached up.pays (counts ++ up.reached ∷ []) refl;
        kept = subst (KeepsTo budget) (sym (spent_more up.reached)) up.kept;
      })

      pub one_over : (F : List ℕ) → old.source.store.content ≡ Some F → (fault : ReadFault) → IsShortAt budget (opening_cost old counts + pass_cost_in F (chosen_entry now k)) fault
          → IsShortAt budget (32 + 12 * old.header.number_of_streams + sum (map (pass_cost_in F) old.chosen)) fault
      one_over F known fault over = over_tells budget (opening_cost old counts + pass_cost_in F (chosen_entry now k)) (32 + 12 * old.header.number_of_streams + sum (map (pass_cost_in F) old.chosen)) fault (spent_most F known) over

    pub one_fetches : {T U : Type 0} (fault : ReadFault) → Fetches {T = T} (Err fault) now.source next.source → Fetches {T = U} (Err fault) old.source next.source
    one_fetches fault fetches = fetches_err old.source now.source next.source walking.pays.same.fetches fault fetches
