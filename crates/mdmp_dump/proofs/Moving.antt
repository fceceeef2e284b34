-- A view of a file behind each of its calls.
use Rattle.std.proofs.Common.{◌≡◌, ◌∙◌, ◌≤◌, ◌<◌, ◌+◌, ◌-◌, ◌*◌, ◌^◌, ◌⊎◌, inl, inr, ℕ, zero, suc, List, [], ◌∷◌, length, get_or, length-drop, take, drop, Option, Some, None, Result, Ok, Err, ap, arith, refl, subst, sym, sum}
use Rattle.std.specs.Prelude.{IsTrue, min}
use Rattle.std.proofs.lemmas.Bool.{cases_lt}
use Rattle.std.proofs.lemmas.List.{drop-drop, drop-take, get_or_past, take-take}
use Rattle.mdmp_source.specs.Range.{bytes_at}
use Rattle.mdmp_source.specs.Store.{IsGood}
use Rattle.mdmp_source.specs.declared.fault.SourceFault.{SourceFault}
use Rattle.mdmp_lister.specs.Format.Listing.{Numbered, chosen}
use Rattle.mdmp_lister.specs.Format.Shape.{record_count}
use Rattle.mdmp_dump.specs.declared.pass.Pass.{Pass}
use Rattle.mdmp_dump.specs.declared.found_record.PartAt.{PartAt}
use Rattle.mdmp_dump.specs.declared.view.ViewFault.{ViewFault}
use Rattle.mdmp_dump.specs.declared.view.ViewFault.TheVariants as view
use Rattle.mdmp_dump.specs.EntryWalk.{IsSameWalk, Pays, WalkReadsAside, WalkState, chosen_entry, kind_by, listed, name_cost, no_entry, pass_cost, raw_part}
use Rattle.mdmp_dump.specs.FileRefusal.{body_told, entry_told, view_refusal}
use Rattle.mdmp_dump.specs.FileView.{AreBare, HasMoved, IsViewPaid, IsPass, IsPassOf, IsView, IsViewed, TellsViewFault, costs_in, cursor_by, file_cursor, file_shape, first_pass, kind_at, opening_cost, known_cursor, known_shape, names_owed, room_told, shape_by, source_fault, stream_of, unknown_cursor, unknown_shape}
use Rattle.mdmp_dump.specs.FoundRecord.{no_part}
use Rattle.mdmp_dump.specs.InFile.{dump_in, stream_named}
use Rattle.mdmp_dump.specs.Placed.{size_in}
use Rattle.mdmp_dump.specs.Reading.{IsLastTold}
use Rattle.mdmp_dump.specs.Shape.{GivesNone, parts_at, sizes_at}
use Rattle.mdmp_dump.specs.View.{kind_in, records_seen}
use Rattle.mdmp_dump.proofs.KnownViews.{by_content}
use Rattle.mdmp_dump.proofs.Refusals.{each_quiet, entry_begins, opened_run, view_opens}
use Rattle.mdmp_dump.proofs.Viewed.{records_are, raw_sized, raw_stands, rooms_none}

-- the lengths of names that a pass may still fetch, by the entries
owed_in : List Numbered → Option Pass → ℕ
owed_in xs None = 0
owed_in xs (Some p) = p.left * name_cost (get_or xs p.stream no_entry).entry.stream_type

owed_is : (w : WalkState) (pass : Option Pass) → names_owed w pass ≡ owed_in w.chosen pass
unfolding owed_in
owed_is w None = refl
owed_is w (Some p) = refl

none_by : {X : Type 0} (o : Option X) → ((x : X) → o ≡ Some x → ⊥) → o ≡ None
none_by None none = refl
none_by (Some x) none = absurd (none x refl)

-- a sum that stays below the greatest was not cut
pub uncut : (a n r b : ℕ) → r ≡ min (a + n) (2 ^ 128 - 1) → b + r < 2 ^ 128 - 1 → r ≡ a + n
uncut a n r b is low = omega arith

pub uncut_before : (a n r b d : ℕ) → r ≡ min (a + n) (2 ^ 128 - 1) → b + r + d < 2 ^ 128 - 1 → r ≡ a + n
uncut_before a n r b d is low = omega arith

-- ---- what a walk that goes on keeps

module _ (w v : WalkState) (same : IsSameWalk w v) where
  pub content_before : (F : List ℕ) → v.source.store.content ≡ Some F → w.source.store.content ≡ Some F
  content_before F known = sym same.fetches.fetches.same_content ∙ known

  pub good_before : (F : List ℕ) → IsGood v.source.store F → IsGood w.source.store F
  good_before F good = record { known = content_before F good.known; reliable = sym same.fetches.fetches.same_reliable ∙ good.reliable }

  pub entry_stays : (k : ℕ) → chosen_entry v k ≡ chosen_entry w k
  entry_stays k = ap (λ (xs : List Numbered). get_or xs k no_entry) same.chosen

  pub opening_stays : (counts : List ℕ) → opening_cost v counts ≡ opening_cost w counts
  opening_stays counts = λ i. 32 + 12 * (same.header i).number_of_streams + sum (costs_in (same.chosen i) counts)

  pub shape_stays : (Z : Type 0) (counts rooms : List ℕ) → file_shape Z v counts rooms ≡ file_shape Z w counts rooms
  shape_stays Z counts rooms =
      ap (λ (c : Option (List ℕ)). shape_by Z c v counts rooms) same.fetches.fetches.same_content
      ∙ by_content (λ c. shape_by Z c v counts rooms ≡ shape_by Z c w counts rooms) w.source.store.content
      (λ i. unknown_shape (record w { header = same.header i; chosen = same.chosen i }) counts rooms)
      (λ F known i.
      known_shape (dump_in {Z = Z} F (same.choice i))
      (record w { source = record w.source { store = record w.source.store { is_reliable = same.fetches.fetches.same_reliable i } }; chosen = same.chosen i })
      counts)

  pub cursor_stays : (Z : Type 0) (pass : Option Pass) → file_cursor Z v pass ≡ file_cursor Z w pass
  cursor_stays Z None = refl
  cursor_stays Z (Some p) =
      ap (λ (c : Option (List ℕ)). cursor_by Z c v p) same.fetches.fetches.same_content
      ∙ by_content (λ c. cursor_by Z c v p ≡ cursor_by Z c w p) w.source.store.content
      (λ i. unknown_cursor (record w { chosen = same.chosen i }) p)
      (λ F known i. known_cursor Z F (record w { chosen = same.chosen i }) p)

  -- no fault is told behind it
  pub moves_quiet : (before : Option ViewFault) → HasMoved w before v None
  moves_quiet before = record { same = same; told = tt }

  -- or one that was told in it
  pub moves_told : (before : Option ViewFault) (fault : ViewFault) → IsLastTold (source_fault fault) w.source v.source → HasMoved w before v (Some fault)
  moves_told before fault told = record { same = same; told = inr told }

  pub viewed_stays : (Z : Type 0) (F : List ℕ) (limit : ℕ) (counts rooms : List ℕ) → IsViewed Z F limit w counts rooms → IsViewed Z F limit v counts rooms
  viewed_stays Z F limit counts rooms is = record {
    size = same.fetches.fetches.same_size ∙ is.size;
    bytes = is.bytes;
    header = same.header ∙ is.header;
    chosen_are = same.chosen ∙ is.chosen_are ∙ ap (chosen F) (sym same.choice);
    quiet = ap (λ c. view_refusal F c limit) same.choice ∙ is.quiet;
    counted = λ k inside. rw (entry_stays k) (is.counted k (omega (arith, inside, ap (λ (xs : List Numbered). length xs) same.chosen)));
    roomed = λ k inside.
        is.roomed k (omega (arith, inside, ap (λ (xs : List Numbered). length xs) same.chosen))
        ∙ ap (λ (x : Numbered). room_told (stream_named {Z = Z} F x.entry)) (sym (entry_stays k));
  }

-- bytes are read beside the walk
pub aside_same : {count : ℕ} {w v : WalkState} {result : Result (Unit {0}) SourceFault} → WalkReadsAside count w result v → IsSameWalk w v
aside_same reads = record {
  header = ap (λ (u : WalkState). u.header) reads.same;
  choice = ap (λ (u : WalkState). u.choice) reads.same;
  chosen = ap (λ (u : WalkState). u.chosen) reads.same;
  held = ap (λ (u : WalkState). u.held) reads.same;
  start = ap (λ (u : WalkState). u.start) reads.same;
  fetches = reads.fetches;
}

-- ---- a pass that begins

-- no part behind the raw bytes of a stream has any
raw_parts_at : (Z : Type 0) (F : List ℕ) (x : Numbered) (n : ℕ) → record_count F x.entry ≡ Ok n → (j : ℕ)
    → bytes_at F (get_or (raw_part x.entry ∷ no_part ∷ no_part ∷ []) j no_part).at (size_in (get_or (raw_part x.entry ∷ no_part ∷ no_part ∷ []) j no_part).size)
    ≡ get_or (parts_at (stream_named {Z = Z} F x.entry) 0) j []
raw_parts_at Z F x n counts zero = rw (← raw_sized Z F x n counts) (raw_stands Z F x n counts)
raw_parts_at Z F x n counts (suc zero) = refl
raw_parts_at Z F x n counts (suc (suc zero)) = refl
raw_parts_at Z F x n counts (suc (suc (suc j))) = refl

raw_sizes_at : (Z : Type 0) (F : List ℕ) (x : Numbered) (n : ℕ) → record_count F x.entry ≡ Ok n → (j : ℕ)
    → size_in (get_or (raw_part x.entry ∷ no_part ∷ no_part ∷ []) j no_part).size ≡ sizes_at (stream_named {Z = Z} F x.entry) 0 j
raw_sizes_at Z F x n counts zero = sym (raw_sized Z F x n counts)
raw_sizes_at Z F x n counts (suc zero) = refl
raw_sizes_at Z F x n counts (suc (suc zero)) = refl
raw_sizes_at Z F x n counts (suc (suc (suc j))) = refl

-- nothing that an entry of a view gives is refused
entry_quiet : (Z : Type 0) (F : List ℕ) (limit : ℕ) (w : WalkState) (counts rooms : List ℕ) (k : ℕ) → IsViewed Z F limit w counts rooms → k < length w.chosen → body_told F limit (chosen_entry w k) 0 ≡ None
entry_quiet Z F limit w counts rooms k is inside =
    let run = sym (opened_run F w.choice limit (view_opens F w.choice limit is.quiet)) ∙ is.quiet in
    let each : entry_told F limit (get_or (chosen F w.choice) k no_entry) ≡ None =
    each_quiet F limit (chosen F w.choice) run k (omega (arith, inside, ap (λ (xs : List Numbered). length xs) is.chosen_are)) in
    sym (entry_begins F limit (chosen_entry w k)) ∙ ap (λ (xs : List Numbered). entry_told F limit (get_or xs k no_entry)) is.chosen_are ∙ each

pub first_pass_of : (Z : Type 0) (F : List ℕ) (limit : ℕ) (w : WalkState) (counts rooms : List ℕ) (k n r : ℕ) → IsViewed Z F limit w counts rooms → k < length w.chosen
    → n ≡ get_or counts k 0 → r ≡ get_or rooms k 0 → IsPassOf Z F limit w (first_pass w k n r)
first_pass_of Z F limit w counts rooms k n r is inside count room =
    let counted = is.counted k inside in
    record {
      quiet = entry_quiet Z F limit w counts rooms k is inside;
      counted = counted ∙ ap (λ (m : ℕ). Ok m) (let h : get_or counts k 0 ≡ 0 + n = omega (arith, count) in h);
      room = room ∙ is.roomed k inside;
      met = sym (rooms_none (kind_in (stream_of {Z = Z} F w k)) (records_seen (stream_of {Z = Z} F w k)));
      parts = raw_parts_at Z F (chosen_entry w k) (get_or counts k 0) counted;
      sizes = raw_sizes_at Z F (chosen_entry w k) (get_or counts k 0) counted;
    }

-- one record fewer is left
pub one_less : (n m c : ℕ) → m + 1 ≡ n → m * c + c ≡ n * c
one_less n m c is = omega (arith, ap (λ (x : ℕ). x * c) (sym is))

first_same : (w v : WalkState) → IsSameWalk w v → (k n r : ℕ) → first_pass w k n r ≡ first_pass v k n r
first_same w v same k n r = ap (λ (x : Numbered). first_by x k n r) (sym (entry_stays w v same k)) where
  first_by : Numbered → ℕ → ℕ → ℕ → Pass
  first_by x k n r = record { stream = k; rva = x.entry.location.rva; given = 0; left = n; room = r; met = 0; parts = raw_part x.entry ∷ no_part ∷ no_part ∷ [] }

-- ---- a view

-- where the store cannot be a good one, no view is reliable
unreliable : (Z : Type 0) (w : WalkState) (counts rooms : List ℕ) → ((F : List ℕ) → IsGood w.source.store F → ⊥) → IsTrue (file_shape Z w counts rooms).is_reliable → ⊥
unreliable Z w counts rooms none = by_content (λ c. IsTrue (shape_by Z c w counts rooms).is_reliable → ⊥) w.source.store.content
    (λ reliable. absurd (let no = reliable in cc))
    (λ F known reliable. none F (record { known = known; reliable = reliable }))

module _ (Z : Type 0) (limit : ℕ) (w : WalkState) (counts rooms : List ℕ) (pass : Option Pass) (passed asked : ℕ) (last : Option ViewFault)
    (is : IsView Z limit w counts rooms pass passed asked last) (v : WalkState) (same : IsSameWalk w v) where
  counted_then : length counts ≡ length v.chosen
  counted_then = is.counted ∙ sym (ap (λ (xs : List Numbered). length xs) same.chosen)

  roomed_then : length rooms ≡ length v.chosen
  roomed_then = is.roomed ∙ sym (ap (λ (xs : List Numbered). length xs) same.chosen)

  few_then : length v.chosen ≤ v.header.number_of_streams
  few_then = rw (same.chosen, same.header) is.few

  light_then : v.held < 2 ^ 64
  light_then = rw same.held is.light

  viewed_then : (F : List ℕ) → v.source.store.content ≡ Some F → IsViewed Z F limit v counts rooms
  viewed_then F known = viewed_stays w v same Z F limit counts rooms (is.of_file F (content_before w v same F known))

  bare_then : AreBare (kind_at v) counts rooms
  bare_then k none = is.bare k (subst (λ (x : Numbered). GivesNone (kind_by x.entry.stream_type) (get_or counts k 0)) (entry_stays w v same k) none)

  -- calls that end with a fault
  module _ {T : Type 0} (fault : ViewFault) (tells : TellsViewFault {T = T} w (Err fault) v) where
    ended_then : (told : SourceFault) → v.failed ≡ Some told → Some fault ≡ Some (view.Source told)
    ended_then told ended = ap Some (tells.ended told ended)

    steady_err : (F : List ℕ) → IsGood v.source.store F → v.failed ≡ None
    steady_err F good =
        let before = good_before w v same F good in
        absurd (let ok = tells.good F before (is.steady F before) in cc)

    moved_by : (o : Option SourceFault) → w.failed ≡ o → ((last ≡ Some fault) × (v.source ≡ w.source)) ⊎ IsLastTold (source_fault fault) w.source v.source
    moved_by None going = inr (tells.told going)
    moved_by (Some told) ended =
        let stays = tells.repeats told ended in
        inl ((is.ended told ended).0 ∙ sym (ended_then told (stays.1 ∙ ended)), stays.0)

    pub moves_err : HasMoved w last v (Some fault)
    moves_err = record { same = same; told = moved_by w.failed refl }

    -- the view behind it has no pass
    pub view_err : (more : ℕ) → IsViewPaid v counts None more asked → IsView Z limit v counts rooms None more asked (Some fault)
    view_err more paid = record {
      counted = counted_then;
      roomed = roomed_then;
      few = few_then;
      light = light_then;
      passing = λ p none. absurd (let some = none in cc);
      paid = paid;
      bare = bare_then;
      of_file = viewed_then;
      pass_of = λ F p known none. absurd (let some = none in cc);
      ended = λ told ended. (ended_then told ended, refl);
      steady = steady_err;
    }

  -- calls that give something
  module _ {T : Type 0} (x : T) (tells : TellsViewFault {T = T} w (Ok x) v) where
    going_then : v.failed ≡ None
    going_then = none_by v.failed (λ told ended. tells.ended told ended)

    pub view_ok : (q : Pass) (more : ℕ) → IsPass v q → ((F : List ℕ) → v.source.store.content ≡ Some F → IsPassOf Z F limit v q) → IsViewPaid v counts (Some q) more asked
        → IsView Z limit v counts rooms (Some q) more asked None
    view_ok q more passing of_file paid = record {
      counted = counted_then;
      roomed = roomed_then;
      few = few_then;
      light = light_then;
      passing = λ p some. subst (λ (r : Pass). IsPass v r) (let h = some in cc) passing;
      paid = paid;
      bare = bare_then;
      of_file = viewed_then;
      pass_of = λ F p known some. subst (λ (r : Pass). IsPassOf Z F limit v r) (let h = some in cc) (of_file F known);
      ended = λ told ended. absurd (let none = going_then in cc);
      steady = λ F good. going_then;
    }

  -- ---- what is paid

  -- a stream is begun
  module _ (k n more : ℕ) (pays : Pays (listed (chosen_entry w k).entry) 0 w v) (sum_is : opening_cost w counts + more + asked < 2 ^ 128 - 1 → more ≡ passed + pass_cost (chosen_entry w k).entry n) where
    begun_low : opening_cost v counts + more + asked < 2 ^ 128 - 1 → opening_cost w counts + more + asked < 2 ^ 128 - 1
    begun_low low = subst (λ (c : ℕ). c + more + asked < 2 ^ 128 - 1) (opening_stays w v same counts) low

    begun_before : (low : opening_cost w counts + more + asked < 2 ^ 128 - 1) → opening_cost w counts + passed + asked < 2 ^ 128 - 1
    begun_before low = omega (arith, low, sum_is low)

    pub paid_begun : (q : Option Pass) → names_owed v q ≤ n * name_cost (chosen_entry w k).entry.stream_type → IsViewPaid v counts q more asked
    paid_begun q least = record {
      bytes = λ low.
          let was = begun_low low in
          let before = begun_before was in
          let bytes = is.paid.bytes before in
          let names = is.paid.names before in
          omega (arith, opening_stays w v same counts, sum_is was, bytes, pays.allowed (omega (arith, pays.reached, names, before)), pays.aside, least);
      names = λ low.
          let was = begun_low low in
          let names = is.paid.names (begun_before was) in
          omega (arith, opening_stays w v same counts, sum_is was, names, pays.reached, least);
    }

  -- a record is taken
  module _ (p : Pass) (here : pass ≡ Some p) (pays : Pays 0 (name_cost (chosen_entry w p.stream).entry.stream_type) w v) where
    pub paid_taken : (q : Option Pass) → names_owed v q + name_cost (chosen_entry w p.stream).entry.stream_type ≤ p.left * name_cost (chosen_entry w p.stream).entry.stream_type → IsViewPaid v counts q passed asked
    paid_taken q least =
        let due : names_owed w pass ≡ p.left * name_cost (chosen_entry w p.stream).entry.stream_type = ap (names_owed w) here in
        record {
          bytes = λ low.
              let was : opening_cost w counts + passed + asked < 2 ^ 128 - 1 = omega (arith, low, opening_stays w v same counts) in
              let bytes = is.paid.bytes was in
              let names = is.paid.names was in
              omega (arith, opening_stays w v same counts, bytes, due, pays.allowed (omega (arith, pays.reached, names, due, least, was)), pays.aside, least);
          names = λ low.
              let was : opening_cost w counts + passed + asked < 2 ^ 128 - 1 = omega (arith, low, opening_stays w v same counts) in
              let names = is.paid.names was in
              omega (arith, opening_stays w v same counts, names, due, pays.reached, least);
        }

  -- a stream was begun
  module _ (k n r more : ℕ) (inside : k < length w.chosen) (count : n ≡ get_or counts k 0) (room : r ≡ get_or rooms k 0) (pays : Pays (listed (chosen_entry w k).entry) 0 w v)
      (sum_is : opening_cost w counts + more + asked < 2 ^ 128 - 1 → more ≡ passed + pass_cost (chosen_entry w k).entry n) where
    pub view_begun : (q : Pass) → q ≡ first_pass w k n r → IsPass v q → TellsViewFault w (Ok q) v → IsView Z limit v counts rooms (Some q) more asked None
    view_begun q first passing tells =
        let least : names_owed v (Some q) ≤ n * name_cost (chosen_entry w k).entry.stream_type =
        rw (first, entry_stays w v same k) (omega arith) in
        view_ok q tells q more passing
        (λ F known.
        rw (first, first_same w v same k n r)
        (first_pass_of Z F limit v counts rooms k n r (viewed_then F known) (omega (arith, inside, ap (λ (xs : List Numbered). length xs) same.chosen)) count room))
        (paid_begun k n more pays sum_is (Some q) least)

    pub view_unbegun : {T : Type 0} (fault : ViewFault) → TellsViewFault {T = T} w (Err fault) v → IsView Z limit v counts rooms None more asked (Some fault)
    view_unbegun fault tells = view_err fault tells more (paid_begun k n more pays sum_is None (omega arith))

  -- a record was taken
  module _ (p : Pass) (here : pass ≡ Some p) (going : 0 < p.left) (pays : Pays 0 (name_cost (chosen_entry w p.stream).entry.stream_type) w v) where
    pub view_taken : {T : Type 0} (x : T) (q : Pass) → IsPass v q → (q.stream ≡ p.stream) × (q.left + 1 ≡ p.left) → TellsViewFault w (Ok x) v
        → ((F : List ℕ) → w.source.store.content ≡ Some F → IsPassOf Z F limit v q) → IsView Z limit v counts rooms (Some q) passed asked None
    view_taken x q passing goes tells of_file =
        let cost = name_cost (chosen_entry w p.stream).entry.stream_type in
        let name : name_cost (chosen_entry v q.stream).entry.stream_type ≡ cost =
        ap (λ (y : Numbered). name_cost y.entry.stream_type) (entry_stays w v same q.stream ∙ ap (chosen_entry w) goes.0) in
        let due : names_owed v (Some q) ≡ q.left * cost = ap (λ (c : ℕ). q.left * c) name in
        view_ok x tells q passed passing (λ F known. of_file F (content_before w v same F known)) (paid_taken p here pays (Some q) (omega (arith, due, one_less p.left q.left cost goes.1)))

    pub view_untaken : {T : Type 0} (fault : ViewFault) → TellsViewFault {T = T} w (Err fault) v → IsView Z limit v counts rooms None passed asked (Some fault)
    view_untaken fault tells =
        let cost = name_cost (chosen_entry w p.stream).entry.stream_type in
        view_err fault tells passed (paid_taken p here pays None (omega (arith, one_less p.left (p.left - 1) cost (omega (arith, going)))))

  -- over a good store there is no fault
  pub reliable_err : {T : Type 0} (fault : ViewFault) → TellsViewFault {T = T} w (Err fault) v → IsTrue (file_shape Z w counts rooms).is_reliable → ⊥
  reliable_err fault tells = unreliable Z w counts rooms (λ F good. let ok = tells.good F good (is.steady F good) in cc)

-- ---- where the stream stands that was begun

pub cursor_place : (Z : Type 0) (w : WalkState) (pass : Option Pass) (p : Pass) → pass ≡ Some p → p.rva ≡ (file_cursor Z w pass).at
cursor_place Z w pass p here =
    by_content (λ c. p.rva ≡ (cursor_by Z c w p).at) w.source.store.content refl (λ F known. refl)
    ∙ ap (λ (o : Option Pass). (file_cursor Z w o).at) (sym here)

-- ---- bytes that are asked of a part

-- a view without a pass has no records and no bytes
pub records_none : (Z : Type 0) (w : WalkState) (pass : Option Pass) → pass ≡ None → 0 < (file_cursor Z w pass).records → ⊥
records_none Z w pass none some = (let no = ap (λ (o : Option Pass). (file_cursor Z w o).records) none in omega (arith, some, no))

pub bytes_none : (Z : Type 0) (w : WalkState) (pass : Option Pass) (which at n : ℕ) → pass ≡ None → at + n ≤ (file_cursor Z w pass).sizes which → 0 < n → ⊥
bytes_none Z w pass which at n none asks some = (let no = ap (λ (o : Option Pass). (file_cursor Z w o).sizes which) none in omega (arith, asks, some, no))

-- none of a good store is refused
pub reliable_read : (Z : Type 0) (w : WalkState) (counts rooms : List ℕ) {count : ℕ} {fault : SourceFault} {v : WalkState} → WalkReadsAside count w (Err fault) v
    → IsTrue (file_shape Z w counts rooms).is_reliable → ⊥
reliable_read Z w counts rooms reads = unreliable Z w counts rooms (λ F good. let ok = reads.good F good in cc)

-- there are so many parts
which_in : (ps : List PartAt) (k : ℕ) → length ps ≡ 3 → 0 < size_in (get_or ps k no_part).size → k < 3
which_in ps k three some = elim (cases_lt k 3) [
  | inl inside ↦ inside
  | inr past ↦ absurd (let none : size_in (get_or ps k no_part).size ≡ 0 = ap (λ (p : PartAt). size_in p.size) (get_or_past ps k no_part (omega (arith, three, past))) in omega (arith, some, none))
]

-- the bytes behind some of a stretch are those of the file
bytes_behind : (F : List ℕ) (at more n size : ℕ) → more + n ≤ size → bytes_at F (at + more) n ≡ take n (drop more (bytes_at F at size))
bytes_behind F at more n size within =
    let whole : size ≡ more + (size - more) = omega (arith, within) in
    ap (λ (xs : List ℕ). take n xs) (sym (drop-drop more at F))
    ∙ sym (take-take n (size - more) (drop more (drop at F)) (omega (arith, within)))
    ∙ ap (λ (xs : List ℕ). take n xs) (sym (drop-take more (size - more) (drop at F)))
    ∙ ap (λ (m : ℕ). take n (drop more (take m (drop at F)))) (sym whole)

-- no bytes were asked for
pub view_unasked : (Z : Type 0) (limit : ℕ) (w : WalkState) (counts rooms : List ℕ) (pass : Option Pass) (passed asked : ℕ) (last : Option ViewFault) → IsView Z limit w counts rooms pass passed asked last
    → (more : ℕ) → more ≡ min (asked + 0) (2 ^ 128 - 1) → IsView Z limit w counts rooms pass passed more last
view_unasked Z limit w counts rooms pass passed asked last is more sum_is = record {
  counted = is.counted;
  roomed = is.roomed;
  few = is.few;
  light = is.light;
  passing = is.passing;
  paid = record {
    bytes = λ low.
        let same : more ≡ asked = omega (arith, uncut asked 0 more (opening_cost w counts + passed) sum_is low) in
        subst (λ (n : ℕ). w.allowed + w.aside + names_owed w pass ≤ opening_cost w counts + passed + n) (sym same) (is.paid.bytes (subst (λ (n : ℕ). opening_cost w counts + passed + n < 2 ^ 128 - 1) same low));
    names = λ low.
        let same : more ≡ asked = omega (arith, uncut asked 0 more (opening_cost w counts + passed) sum_is low) in
        subst (λ (n : ℕ). 4 * w.names + names_owed w pass ≤ opening_cost w counts + passed + n) (sym same) (is.paid.names (subst (λ (n : ℕ). opening_cost w counts + passed + n < 2 ^ 128 - 1) same low));
  };
  bare = is.bare;
  of_file = is.of_file;
  pass_of = is.pass_of;
  ended = is.ended;
  steady = is.steady;
}

-- ---- what is left of a pass

module _ (Z : Type 0) (limit : ℕ) (w : WalkState) (counts rooms : List ℕ) (pass : Option Pass) (passed asked : ℕ) (last : Option ViewFault)
    (is : IsView Z limit w counts rooms pass passed asked last) (p : Pass) (here : pass ≡ Some p) where
  pub cursor_left : (file_cursor Z w pass).records ≡ p.left
  cursor_left =
      ap (λ (o : Option Pass). (file_cursor Z w o).records) here
      ∙ by_content (λ c. (cursor_by Z c w p).records ≡ p.left) w.source.store.content refl
      (λ F known.
      let of = is.pass_of F p known here in
      let xs = records_seen (stream_of {Z = Z} F w p.stream) in
      omega (arith, length-drop p.given xs, records_are Z F (chosen_entry w p.stream) (p.given + p.left) of.counted))

  pub cursor_sizes : (which : ℕ) → (file_cursor Z w pass).sizes which ≡ size_in (get_or p.parts which no_part).size
  cursor_sizes which =
      ap (λ (o : Option Pass). (file_cursor Z w o).sizes which) here
      ∙ by_content (λ c. (cursor_by Z c w p).sizes which ≡ size_in (get_or p.parts which no_part).size) w.source.store.content refl
      (λ F known. sym ((is.pass_of F p known here).sizes which))

  -- the bytes of its parts, where they are known, stand where it says
  pub cursor_bytes : (parts : List (List ℕ)) → (file_cursor Z w pass).parts ≡ Some parts
      → (F : List ℕ) × ((w.source.store.content ≡ Some F) × ((which : ℕ) → bytes_at F (get_or p.parts which no_part).at (size_in (get_or p.parts which no_part).size) ≡ get_or parts which []))
  cursor_bytes parts told =
      by_content
      (λ c. (cursor_by Z c w p).parts ≡ Some parts → w.source.store.content ≡ c
      → (F : List ℕ) × ((w.source.store.content ≡ Some F) × ((which : ℕ) → bytes_at F (get_or p.parts which no_part).at (size_in (get_or p.parts which no_part).size) ≡ get_or parts which [])))
      w.source.store.content
      (λ none same. absurd (cc))
      (λ F known some same.
      (F, (known, λ which. (is.pass_of F p known here).parts which ∙ ap (λ (xs : List (List ℕ)). get_or xs which []) (let h = some in cc))))
      (sym (ap (λ (o : Option Pass). (file_cursor Z w o).parts) here) ∙ told) refl

  -- nor has the walk ended
  pub unended : w.failed ≡ None
  unended = none_by w.failed (λ told ended. let none = (is.ended told ended).1 in cc)

  -- bytes that are asked of a part are inside the file
  module _ (which more n : ℕ) (asks : more + n ≤ (file_cursor Z w pass).sizes which) (some : 0 < n) where
    asked_within : more + n ≤ size_in (get_or p.parts which no_part).size
    asked_within = omega (arith, asks, cursor_sizes which)

    pub asked_which : which < 3
    asked_which = which_in p.parts which (is.passing p here).parts.0 (omega (arith, some, asked_within))

    pub asked_inside : (get_or p.parts which no_part).at + more + n ≤ w.source.size
    asked_inside = (let inside = (is.passing p here).parts.1 which (omega (arith, some, asked_within)) in omega (arith, inside, asked_within))

    pub asked_bytes : (out : List ℕ) → length out ≡ n → ((F : List ℕ) → w.source.store.content ≡ Some F → out ≡ bytes_at F ((get_or p.parts which no_part).at + more) (length out))
        → (parts : List (List ℕ)) → (file_cursor Z w pass).parts ≡ Some parts → out ≡ take n (drop more (get_or parts which []))
    asked_bytes out len read parts told =
        let known = cursor_bytes parts told in
        let at = (get_or p.parts which no_part).at in
        read known.0 known.1.0
        ∙ ap (bytes_at known.0 (at + more)) len
        ∙ bytes_behind known.0 at more n (size_in (get_or p.parts which no_part).size) asked_within
        ∙ ap (λ (xs : List ℕ). take n (drop more xs)) (known.1.1 which)

  -- bytes were read beside the walk
  module _ (count more : ℕ) (result : Result (Unit {0}) SourceFault) (v : WalkState) (reads : WalkReadsAside count w result v)
      (sum_is : opening_cost w counts + passed + more < 2 ^ 128 - 1 → more ≡ asked + count) where
    read_same : IsSameWalk w v
    read_same = aside_same reads

    still_going : v.failed ≡ None
    still_going = ap (λ (u : WalkState). u.failed) reads.same ∙ unended

    read_paid : IsViewPaid v counts pass passed more
    read_paid =
        let due : names_owed v pass ≡ names_owed w pass = owed_is v pass ∙ ap (λ (xs : List Numbered). owed_in xs pass) read_same.chosen ∙ sym (owed_is w pass) in
        let allowed : v.allowed ≡ w.allowed = ap (λ (u : WalkState). u.allowed) reads.same in
        let names : v.names ≡ w.names = ap (λ (u : WalkState). u.names) reads.same in
        record {
          bytes = λ low.
              let was : opening_cost w counts + passed + more < 2 ^ 128 - 1 = omega (arith, low, opening_stays w v read_same counts) in
              let bytes = is.paid.bytes (omega (arith, was, sum_is was)) in
              omega (arith, opening_stays w v read_same counts, sum_is was, bytes, due, allowed, reads.aside);
          names = λ low.
              let was : opening_cost w counts + passed + more < 2 ^ 128 - 1 = omega (arith, low, opening_stays w v read_same counts) in
              let bytes = is.paid.names (omega (arith, was, sum_is was)) in
              omega (arith, opening_stays w v read_same counts, sum_is was, bytes, due, names);
        }

    read_passing : (q : Pass) → pass ≡ Some q → IsPass v q
    read_passing q some =
        let of = is.passing q some in
        record {
          within = rw read_same.chosen of.within;
          few = of.few;
          met = of.met;
          parts = rw reads.fetches.fetches.same_size of.parts;
          going = λ left.
              let stands = of.going left in
              (ap (λ (u : WalkState). u.current) reads.same ∙ stands.0 ∙ sym (entry_stays w v read_same q.stream), ap (λ (u : WalkState). u.left) reads.same ∙ stands.1);
        }

    read_pass_of : (F : List ℕ) (q : Pass) → w.source.store.content ≡ Some F → pass ≡ Some q → IsPassOf Z F limit v q
    read_pass_of F q known some =
        let of = is.pass_of F q known some in
        let entry = entry_stays w v read_same q.stream in
        record {
          quiet = rw entry of.quiet;
          counted = rw entry of.counted;
          room = rw entry of.room;
          met = rw entry of.met;
          parts = λ j. rw entry (of.parts j);
          sizes = λ j. rw entry (of.sizes j);
        }

    pub view_read : (new : Option ViewFault) → IsView Z limit v counts rooms pass passed more new
    view_read new = record {
      counted = counted_then Z limit w counts rooms pass passed asked last is v read_same;
      roomed = roomed_then Z limit w counts rooms pass passed asked last is v read_same;
      few = few_then Z limit w counts rooms pass passed asked last is v read_same;
      light = light_then Z limit w counts rooms pass passed asked last is v read_same;
      passing = read_passing;
      paid = read_paid;
      bare = bare_then Z limit w counts rooms pass passed asked last is v read_same;
      of_file = viewed_then Z limit w counts rooms pass passed asked last is v read_same;
      pass_of = λ F q known some. read_pass_of F q (content_before w v read_same F known) some;
      ended = λ told ended. absurd (let none = still_going in cc);
      steady = λ F good. still_going;
    }
