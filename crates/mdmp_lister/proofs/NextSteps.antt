-- The fetches for a name, a record and a head, and the one that is refused.
use Rattle.std.proofs.Common.{◌≡◌, ◌≤◌, ◌<◌, ◌+◌, ◌-◌, ◌%◌, ◌∙◌, ℕ, Bool, true, false, List, [], Some, Result, Ok, Err, ap, arith, drop, inl, inr, length, subst, sym, ◌⊎◌}
use Rattle.std.specs.Prelude.{IfErr, if◌then◌else◌, max, min, not}
use Rattle.std.proofs.lemmas.Bool.{cases_lt, le-ltb, lt-ltb}
use Rattle.std.proofs.lemmas.List.{length-drop}
use Rattle.mdmp_source.specs.Count.{raised}
use Rattle.mdmp_source.specs.Range.{IsInside}
use Rattle.mdmp_source.specs.Window.{WindowState, behind_of, next_len_of}
use Rattle.mdmp_source.specs.declared.location.Location.{Location}
use Rattle.mdmp_wire.specs.Number.{u32_at}
use Rattle.mdmp_lister.specs.declared.fault.Fault.{Fault}
use Rattle.mdmp_lister.specs.declared.fault.FaultKind.{FaultKind}
use Rattle.mdmp_lister.specs.declared.fault.FaultKind.TheVariants as kinds
use Rattle.mdmp_lister.specs.declared.fault.FetchFault.{FetchFault}
use Rattle.mdmp_lister.specs.declared.fault.FetchFault.TheVariants as fetch
use Rattle.mdmp_lister.specs.declared.head.Head.{Head}
use Rattle.mdmp_lister.specs.declared.kind.StreamKind.{StreamKind}
use Rattle.mdmp_lister.specs.Fault.{fault_of_fetch}
use Rattle.mdmp_lister.specs.Costs.{bad_name_cost}
use Rattle.mdmp_lister.specs.Fetching.{IsHeadTried, IsNameTried, IsRecordFetch, IsRecordTried, TakesNamed, TriesHead, TriesHold}
use Rattle.mdmp_lister.specs.Fetching as fetching
use Rattle.mdmp_lister.specs.Format.Kind.{form_of, record_size}
use Rattle.mdmp_lister.specs.Format.Numbers.{maybe_name}
use Rattle.mdmp_lister.specs.Format.Shape.{head_cost}
use Rattle.mdmp_lister.specs.Holding.{IsAhead, needed, reached, started, unfetched}
use Rattle.mdmp_lister.specs.Meter.{MeterState, TriesFetch}
use Rattle.mdmp_lister.specs.NextFetch.{IsNamedAt, IsNextFetch, IsNextRecord, IsWindowFetch, TellsNextFetch, head_takes, record_takes, while_begun, window_leaves, window_takes}
use Rattle.mdmp_lister.specs.NextFetch as next

-- ---- what a window takes

takes_some : (room end unread at wanted : ℕ) → max at (end - unread) < at + wanted
    → window_takes room end unread at wanted ≡ min (room - (max at (end - unread) - at)) (end - max at (end - unread))
takes_some room end unread at wanted few =
    ap (λ b. if b then min (room - (max at (end - unread) - at)) (end - max at (end - unread)) else 0) (lt-ltb (max at (end - unread)) (at + wanted) few)

takes_none : (room end unread at wanted : ℕ) → at + wanted ≤ max at (end - unread) → window_takes room end unread at wanted ≡ 0
takes_none room end unread at wanted enough =
    ap (λ b. if b then min (room - (max at (end - unread) - at)) (end - max at (end - unread)) else 0) (le-ltb (max at (end - unread)) (at + wanted) enough)

fill_needed : (at size : ℕ) (w : WindowState) → length (reached at w).held < size → needed at size w ≡ next_len_of (reached at w)
unfolding needed
fill_needed at size w few = ap (λ b. if b then next_len_of (reached at w) else 0) (lt-ltb (length (reached at w).held) size few)

none_needed : (at size : ℕ) (w : WindowState) → size ≤ length (reached at w).held → needed at size w ≡ 0
unfolding needed
none_needed at size w enough = ap (λ b. if b then next_len_of (reached at w) else 0) (le-ltb (length (reached at w).held) size enough)

-- the bytes that are needed are those that it takes
needed_takes : (at size : ℕ) (w : WindowState) → w.place ≤ at → min (at + size) (behind_of (reached at w)) ≤ w.end → needed at size w ≡ window_takes w.room w.end (unfetched w) at size
needed_takes at size w from fits = by_case (cases_lt (length (reached at w).held) size) where
  left : length (drop (at - w.place) w.held) ≡ length w.held - (at - w.place)
  left = length-drop (at - w.place) w.held

  by_case : (length (reached at w).held < size) ⊎ (size ≤ length (reached at w).held) → needed at size w ≡ window_takes w.room w.end (unfetched w) at size
  by_case (inl few) =
      let same : next_len_of (reached at w) ≡ min (w.room - (max at (w.end - unfetched w) - at)) (w.end - max at (w.end - unfetched w)) = omega (arith, left, from, fits, few) in
      fill_needed at size w few ∙ same ∙ sym (takes_some w.room w.end (unfetched w) at size (omega (arith, left, from, fits, few)))
  by_case (inr enough) = none_needed at size w enough ∙ sym (takes_none w.room w.end (unfetched w) at size (omega (arith, left, from, fits, enough)))

-- of the bytes that are wanted some are not held
pub window_fetch : (at size : ℕ) (w new : WindowState) (offset len : ℕ) (was now : MeterState) → w.place ≤ at → behind_of (reached at w) ≤ w.end
    → TriesHold at size w (Err (fetch.Budget offset len)) new was now → IsWindowFetch w.room w.end (unfetched w) at size offset len
window_fetch at size w new offset len was now from fits tried =
    let left : length (drop (at - w.place) w.held) ≡ length w.held - (at - w.place) = length-drop (at - w.place) w.held in
    let need = fill_needed at size w tried.lacks in
    record {
      offset_is = omega (arith, tried.tries.0.0, left, from, fits, tried.lacks);
      size_is = omega (arith, tried.tries.0.0, tried.tries.0.1, need, left, from);
      lacks = omega (arith, tried.tries.0.0, tried.lacks);
    }

-- ---- counts

pub raised_none : (n : ℕ) → raised n 0 ≡ n
raised_none n = omega arith

pub raised_both : (n a b : ℕ) → raised (raised n a) b ≡ raised n (a + b)
raised_both n a b = omega arith

add_zero : (n : ℕ) → n + 0 ≡ n
add_zero n = omega arith

-- ---- records

module _ (limit : ℕ) (kind : StreamKind) (at : ℕ) (was mid : MeterState) (w new : WindowState) where
  -- its bytes were not obtained
  pub record_refused : (fault : FetchFault) → IsAhead was.source at (record_size kind) w → TriesHold at (record_size kind) w (Err fault) new was mid
      → IsRecordTried limit kind at was w mid (fault_of_fetch fault).kind (fault_of_fetch fault).offset (fault_of_fetch fault).size
  record_refused (fetch.Source f) ahead tried = tt
  record_refused (fetch.Budget offset size) ahead tried =
      fetching.of_bytes tried.tries.1 (window_fetch at (record_size kind) w new offset size was mid ahead.from (omega (arith, ahead.inside, tried.lacks)) tried)

  -- what the window took was fetched
  held_takes : IsAhead was.source at (record_size kind) w → TriesHold at (record_size kind) w (Ok tt) new was mid → TakesNamed kind at was w 0 mid
  held_takes ahead tried =
      let taken = needed_takes at (record_size kind) w ahead.from (omega (arith, ahead.inside)) in
      subst (λ n. mid.fetched ≡ raised was.fetched n) (taken ∙ sym (add_zero _)) tried.tries

  -- and what it left is unread
  pub held_leaves : IsAhead was.source at (record_size kind) w → new.end ≡ w.end → TriesHold at (record_size kind) w (Ok tt) new was mid
      → unfetched new ≡ window_leaves w.room w.end (unfetched w) at (record_size kind)
  held_leaves ahead end tried =
      let taken = needed_takes at (record_size kind) w ahead.from (omega (arith, ahead.inside)) in
      let left : length (drop (at - w.place) w.held) ≡ length w.held - (at - w.place) = length-drop (at - w.place) w.held in
      subst (λ n. unfetched new ≡ min (unfetched w) (w.end - at) - n) taken (omega (arith, tried.behind, end, left, ahead.from))

  -- and then so many bytes for its name, or none
  pub name_takes : (named : ℕ) (now : MeterState) → IsAhead was.source at (record_size kind) w → TriesHold at (record_size kind) w (Ok tt) new was mid
      → now.fetched ≡ raised mid.fetched named → TakesNamed kind at was w named now
  name_takes named now ahead tried paid =
      paid ∙ ap (λ n. raised n named) (held_takes ahead tried) ∙ raised_both was.fetched (window_takes w.room w.end (unfetched w) at (record_size kind) + 0) named
      ∙ ap (λ n. raised was.fetched (n + named)) (add_zero (window_takes w.room w.end (unfetched w) at (record_size kind)))

  pub nameless_takes : IsAhead was.source at (record_size kind) w → TriesHold at (record_size kind) w (Ok tt) new was mid → TakesNamed kind at was w 0 mid
  nameless_takes ahead tried = held_takes ahead tried

  -- or those of its name
  pub name_refused : (rva : ℕ) (now : MeterState) (fault : FaultKind) (offset size : ℕ) → mid.source.size ≡ was.source.size → mid.source.store.content ≡ was.source.store.content
      → IsNamedAt was.source.store.content kind at rva → IsAhead was.source at (record_size kind) w → TriesHold at (record_size kind) w (Ok tt) new was mid
      → IsNameTried limit rva fault offset size mid now → IsRecordTried limit kind at was w now fault offset size
  name_refused rva now kinds.Budget offset size same content named ahead held tried =
      let taken = needed_takes at (record_size kind) w ahead.from (omega (arith, ahead.inside)) in
      fetching.of_name rva mid.fetched named (subst (λ n. mid.fetched ≡ raised was.fetched n) taken held.tries) (rw (same, content) at tried)
  name_refused rva now (kinds.Source f) offset size same content named ahead held tried = tt
  name_refused rva now kinds.NameLengthOutside offset size same content named ahead held tried = name_takes (bad_name_cost limit kinds.NameLengthOutside) now ahead held tried
  name_refused rva now kinds.NameOdd offset size same content named ahead held tried = name_takes (bad_name_cost limit kinds.NameOdd) now ahead held tried
  name_refused rva now kinds.NameUnitsOutside offset size same content named ahead held tried = name_takes (bad_name_cost limit kinds.NameUnitsOutside) now ahead held tried
  name_refused rva now _ offset size same content named ahead held tried = absurd tried

-- ---- names

-- its length
pub length_refused : (limit rva : ℕ) (fault : FetchFault) (was now m : MeterState) → (rva ≡ 0 → ⊥) → IsInside rva 4 m.source.size → was.fetched ≡ m.fetched → TriesFetch {T = ℕ} rva 4 (Err fault) was now
    → IsNameTried limit rva (fault_of_fetch fault).kind (fault_of_fetch fault).offset (fault_of_fetch fault).size m now
length_refused limit rva (fetch.Source f) was now m some inside same tried = tt
length_refused limit rva (fetch.Budget offset size) was now m some inside same tried = next.of_length (omega (arith, some)) inside (tried.1 ∙ same) tried.0.0 tried.0.1

-- its units
pub units_refused : (limit rva bytes : ℕ) (fault : FetchFault) (was now m : MeterState) → (rva ≡ 0 → ⊥) → IsInside (rva + 4) bytes m.source.size → bytes % 2 ≡ 0 → bytes ≤ limit
    → ((file : List ℕ) → m.source.store.content ≡ Some file → u32_at file rva ≡ bytes) → was.fetched ≡ raised m.fetched 4 → TriesFetch {T = Unit {0}} (rva + 4) bytes (Err fault) was now
    → IsNameTried limit rva (fault_of_fetch fault).kind (fault_of_fetch fault).offset (fault_of_fetch fault).size m now
units_refused limit rva bytes (fetch.Source f) was now m some inside even few says same tried = tt
units_refused limit rva bytes (fetch.Budget offset size) was now m some inside even few says same tried =
    rw tried.0.1 (next.of_units (omega (arith, some)) inside (tried.1 ∙ same) tried.0.0 even few says)

-- where its length has a fault, that alone was fetched
checked_tried : (limit rva : ℕ) (m now : MeterState) → now.fetched ≡ raised m.fetched 4 → (odd inside : Bool) (bytes : ℕ)
    → IfErr {T = Unit {0}} {E = Fault} (if odd then Err (record { kind = kinds.NameOdd; offset = rva; size = bytes })
    else if not inside then Err (record { kind = kinds.NameUnitsOutside; offset = rva + 4; size = bytes })
    else Ok tt) (λ fault. IsNameTried limit rva fault.kind fault.offset fault.size m now)
checked_tried limit rva m now took true inside bytes = took
checked_tried limit rva m now took false false bytes = took
checked_tried limit rva m now took false true bytes = tt

pub length_bad : (limit rva : ℕ) (m now : MeterState) → now.fetched ≡ raised m.fetched 4 → (odd inside : Bool) (bytes : ℕ) (fault : Fault)
    → ◌≡◌ {A = Result (Unit {0}) Fault} (if odd then Err (record { kind = kinds.NameOdd; offset = rva; size = bytes })
    else if not inside then Err (record { kind = kinds.NameUnitsOutside; offset = rva + 4; size = bytes })
    else Ok tt) (Err fault) → IsNameTried limit rva fault.kind fault.offset fault.size m now
length_bad limit rva m now took odd inside bytes fault same =
    subst (λ (r : Result (Unit {0}) Fault). IfErr r (λ fault. IsNameTried limit rva fault.kind fault.offset fault.size m now)) same (checked_tried limit rva m now took odd inside bytes)

-- ---- heads

-- a fault of another kind comes behind what was fetched of it
head_plain : (room : ℕ) (at : Location) (kind : StreamKind) (was now : MeterState) → now.fetched ≡ raised was.fetched (window_takes room (at.rva + at.size) at.size at.rva (head_cost (form_of kind)))
    → (fault : FaultKind) (offset size : ℕ) → maybe_name fault ≡ 0 → IsHeadTried room at kind was now fault offset size
head_plain room at kind was now took kinds.Budget offset size plain = absurd (omega (arith, plain))
head_plain room at kind was now took (kinds.Source f) offset size plain = absurd (omega (arith, plain))
head_plain room at kind was now took kinds.NameLengthOutside offset size plain = absurd (omega (arith, plain))
head_plain room at kind was now took kinds.NameOdd offset size plain = absurd (omega (arith, plain))
head_plain room at kind was now took kinds.NameUnitsOutside offset size plain = absurd (omega (arith, plain))
head_plain room at kind was now took _ offset size plain = inr took

module _ (at : Location) (kind : StreamKind) (was now : MeterState) (old mid new : WindowState) (begun : mid ≡ started at old) where
  -- the head was not obtained
  pub head_refused : (fault : FetchFault) → TriesHold at.rva (head_cost (form_of kind)) mid (Err fault) new was now
      → IsHeadTried old.room at kind was now (fault_of_fetch fault).kind (fault_of_fetch fault).offset (fault_of_fetch fault).size
  head_refused (fetch.Source f) tried = tt
  head_refused (fetch.Budget offset size) tried =
      let none = length-drop {A = ℕ} (at.rva - at.rva) [] in
      let whole : unfetched (started at old) ≡ at.size = omega arith in
      let taken = window_fetch at.rva (head_cost (form_of kind)) (started at old) new offset size was now (omega arith) (omega (arith, none))
      (subst (λ (u : WindowState). TriesHold at.rva (head_cost (form_of kind)) u (Err (fetch.Budget offset size)) new was now) begun tried) in
      (tried.tries.1, subst (λ n. IsWindowFetch old.room (at.rva + at.size) n at.rva (head_cost (form_of kind)) offset size) whole taken)

  head_needs : needed at.rva (head_cost (form_of kind)) mid ≡ window_takes old.room (at.rva + at.size) at.size at.rva (head_cost (form_of kind))
  head_needs =
      let cost = head_cost (form_of kind) in
      let none = length-drop {A = ℕ} (at.rva - at.rva) [] in
      let whole : unfetched (started at old) ≡ at.size = omega arith in
      ap (needed at.rva cost) begun ∙ needed_takes at.rva cost (started at old) (omega arith) (omega (arith, none)) ∙ ap (λ n. window_takes old.room (at.rva + at.size) n at.rva cost) whole

  -- or it was, whatever it says then
  pub head_tried : (result : Result Head Fault) → new.end ≡ mid.end → TriesHold at.rva (head_cost (form_of kind)) mid (Ok tt) new was now → IfErr result (λ fault. maybe_name fault.kind ≡ 0)
      → TriesHead at kind result was now old new
  head_tried (Ok head) end tried plain =
      let cost = head_cost (form_of kind) in
      let none = length-drop {A = ℕ} (at.rva - at.rva) [] in
      let here : behind_of (reached at.rva (started at old)) ≡ at.rva = omega (arith, none) in
      let behind : behind_of new ≡ at.rva + needed at.rva cost mid = omega (arith, tried.behind, (ap (λ u. behind_of (reached at.rva u)) begun), here) in
      let stops : new.end ≡ at.rva + at.size = end ∙ ap (λ u. u.end) begun in
      subst (λ n. (now.fetched ≡ raised was.fetched n) × (unfetched new ≡ at.size - n)) head_needs (tried.tries, omega (arith, behind, stops))
  head_tried (Err fault) end tried plain =
      head_plain old.room at kind was now (subst (λ n. now.fetched ≡ raised was.fetched n) head_needs tried.tries) fault.kind fault.offset fault.size plain
