-- What a request for the next item fetches of a walk, and the fetch that it is refused.
use Rattle.std.proofs.Common.{◌≡◌, ◌<◌, ◌+◌, ◌-◌, ◌*◌, ◌∙◌, ℕ, Option, None, Some, ap, arith, inl, inr, refl, subst, sym, ◌⊎◌}
use Rattle.mdmp_source.specs.Count.{raised}
use Rattle.mdmp_wire.specs.declared.entry.Entry.{Entry}
use Rattle.mdmp_lister.specs.declared.fault.FaultKind.{FaultKind}
use Rattle.mdmp_lister.specs.declared.fault.FaultKind.TheVariants as kinds
use Rattle.mdmp_lister.specs.declared.kind.StreamKind.{StreamKind}
use Rattle.mdmp_lister.specs.declared.shape.Shape.{Shape}
use Rattle.mdmp_lister.specs.declared.stage.Stage.{Stage}
use Rattle.mdmp_lister.specs.declared.stage.Stage.TheVariants as stage
use Rattle.mdmp_lister.specs.declared.step.Step.{Step}
use Rattle.mdmp_lister.specs.declared.step.Step.TheVariants as step
use Rattle.mdmp_lister.specs.declared.walk.Walk.{Walk}
use Rattle.mdmp_lister.specs.Listed.{entry_cost, entry_cost_by}
use Rattle.mdmp_lister.specs.Costs.{read_cost}
use Rattle.mdmp_lister.specs.Fetching.{IsHeadTried, IsRecordFetch, IsRecordTried, TakesNamed}
use Rattle.mdmp_lister.specs.Fetching as fetching
use Rattle.mdmp_lister.specs.Following.{Standing, records_given}
use Rattle.mdmp_lister.specs.Following as following
use Rattle.mdmp_lister.specs.Format.Kind.{form_of, kind_of, record_size}
use Rattle.mdmp_lister.specs.Format.Shape.{head_cost, location_fault}
use Rattle.mdmp_lister.specs.Holding.{unfetched}
use Rattle.mdmp_lister.specs.NextFetch.{IsHeadPaid, IsNextFetch, IsNextRecord, IsRecordPaid, IsRecordPassed, IsStepPaid, IsThroughPaid, IsWindowFetch, Standpoint, TellsNextFetch, head_left, head_takes, record_leaves, record_takes, while_begun, window_leaves, window_takes}
use Rattle.mdmp_lister.specs.NextFetch as next
use Rattle.mdmp_lister.specs.RequestedLaws.{given_begun}
use Rattle.mdmp_lister.specs.Stage.{standing_of}
use Rattle.mdmp_lister.specs.Walk.{IsHolding, IsListing, IsReading, IsSound, IsThrough}
use Rattle.mdmp_lister.specs.Walk.Paying.{unread_bytes}
use Rattle.mdmp_lister.specs.Walk.Requests.{HeadRead, standpoint_of}
use Rattle.mdmp_lister.proofs.Heads.{listed-inside}
use Rattle.mdmp_lister.proofs.Paying.{entry_cost-listed}
use Rattle.mdmp_lister.proofs.NextSteps.{raised_both, raised_none}

-- ---- a walk whose head is not read, or that has a record left

-- nothing is fetched of a stream of an unknown kind
entry_cost-unknown : (z : ℕ) (e : Entry) → kind_of e.stream_type ≡ None → entry_cost z e ≡ 0
unfolding entry_cost_by
entry_cost-unknown z e unknown = rw unknown refl

listing-unbegun : (stage : Stage) → IsListing stage → standing_of stage ≡ following.begun → ⊥
listing-unbegun stage.Between listing is = cc
listing-unbegun (stage.Records kind shape index offset) listing is = cc
listing-unbegun _ listing is = absurd listing

-- nor is its head fetched any more
listing-taken : (stage : Stage) (n : ℕ) → IsListing stage → while_begun (standing_of stage) n ≡ 0
listing-taken stage.Between n listing = refl
listing-taken (stage.Records kind shape index offset) n listing = refl
listing-taken _ n listing = absurd listing

pub through-unbegun : (stage : Stage) → IsThrough stage → standing_of stage ≡ following.begun → ⊥
through-unbegun stage.Between through is = cc
through-unbegun (stage.Records kind shape index offset) through is = cc
through-unbegun _ through is = absurd through

past_none : (standing : Standing) (n : ℕ) → (standing ≡ following.begun → ⊥) → while_begun standing n ≡ 0
past_none following.begun n past = absurd (past refl)
past_none _ n past = refl

none_left : (s : Standpoint) (known : Option StreamKind) → (s.standing ≡ following.begun → ⊥) → head_left s known ≡ 0
none_left s (Some kind) past = past_none s.standing _ past
none_left s None past = refl

-- where no head is to be read nothing is fetched
pub past_paid : (s : Standpoint) → (s.standing ≡ following.begun → ⊥) → IsThroughPaid s s.fetched
past_paid s past = sym (raised_none s.fetched) ∙ ap (raised s.fetched) (sym (none_left s (kind_of s.entry.stream_type) past))

zero_add : (n : ℕ) → n ≡ 0 + n
zero_add n = omega arith

sub_zero : (n : ℕ) → n - 0 ≡ n
sub_zero n = omega arith

module _ {S A : Type 0} (old new : Walk S A) where
  -- the head of the current entry was read, or needed not be
  head_paid : (kind : StreamKind) → old.stage ≡ stage.Head → location_fault old.meter.source.size old.current ≡ None → kind_of old.current.stream_type ≡ Some kind
      → (new.meter.fetched ≡ old.meter.fetched)
      ⊎ (new.meter.fetched ≡ raised old.meter.fetched (window_takes old.window.room (old.current.location.rva + old.current.location.size) old.current.location.size old.current.location.rva (head_cost (form_of kind))))
      → IsHeadPaid (standpoint_of old) new.meter.fetched
  head_paid kind at whole known (inl same) = next.nothing_taken same
  head_paid kind at whole known (inr took) =
      let e = old.current in
      let z = old.meter.source.size in
      let all = entry_cost-listed (λ d. d) z e kind known (listed-inside z e kind whole known) in
      let takes : head_takes (standpoint_of old) kind ≡ window_takes old.window.room (e.location.rva + e.location.size) e.location.size e.location.rva (head_cost (form_of kind)) = rw (at, all) refl in
      next.head_taken kind known (took ∙ ap (raised old.meter.fetched) (sym takes))

  -- the head of the current entry is not obtained, or has a fault
  pub head_next : (kind : StreamKind) → old.stage ≡ stage.Head → location_fault old.meter.source.size old.current ≡ None → kind_of old.current.stream_type ≡ Some kind
      → (fault : FaultKind) (offset size : ℕ) → IsHeadTried old.window.room old.current.location kind old.meter new.meter fault offset size
      → TellsNextFetch (standpoint_of old) fault offset size new.meter.fetched
  head_next kind at whole known kinds.Budget offset size tried =
      let e = old.current in
      let z = old.meter.source.size in
      let all : unread_bytes old ≡ e.location.size = rw (at, entry_cost-listed (λ d. d) z e kind known (listed-inside z e kind whole known)) refl in
      next.of_head (rw at refl) kind known tried.0
      (subst (λ n. IsWindowFetch old.window.room (e.location.rva + e.location.size) n e.location.rva (head_cost (form_of kind)) offset size) (sym all) tried.1)
  head_next kind at whole known (kinds.Source f) offset size tried = tt
  head_next kind at whole known kinds.NameLengthOutside offset size tried = absurd tried
  head_next kind at whole known kinds.NameOdd offset size tried = absurd tried
  head_next kind at whole known kinds.NameUnitsOutside offset size tried = absurd tried
  head_next kind at whole known _ offset size tried = head_paid kind at whole known tried

  module _ (kind : StreamKind) (shape : Shape) (k bytes place : ℕ) (at : old.stage ≡ stage.Records kind shape k bytes) (left : k < shape.count) (sound : IsSound old)
      (stands : place ≡ old.current.location.rva + shape.first + k * shape.stride) where
    reading : IsReading old.meter.source.size old.next old.current kind shape k bytes
    reading = rw at at sound.staged

    holding : IsHolding old.meter.source.store.content old.current shape k old.window
    holding = rw at at sound.holding

    next_record : IsNextRecord (standpoint_of old) kind place
    next_record = record {
      shape = shape;
      kind_is = reading.known;
      fits = reading.fits;
      left = rw at left;
      of_file = λ file known. (rw at at (sound.headed file known)).0;
      at_is = rw at stands;
    }

    none_taken : head_takes (standpoint_of old) kind ≡ 0
    none_taken = rw at refl

    unread_is : unfetched old.window ≡ unread_bytes old - head_takes (standpoint_of old) kind
    unread_is = let whole : unfetched old.window ≡ unread_bytes old - 0 = rw at (omega arith) in subst (λ n. unfetched old.window ≡ unread_bytes old - n) (sym none_taken) whole

    both_taken : window_takes old.window.room old.window.end (unfetched old.window) place (record_size kind) ≡ head_takes (standpoint_of old) kind + record_takes (standpoint_of old) kind place
    both_taken =
        let z = old.current.location.rva + old.current.location.size in
        let rest = unread_bytes old - head_takes (standpoint_of old) kind in
        let record_is : window_takes old.window.room old.window.end (unfetched old.window) place (record_size kind) ≡ window_takes old.window.room z rest place (record_size kind) =
        ap (λ n. window_takes old.window.room n (unfetched old.window) place (record_size kind)) holding.end ∙ ap (λ n. window_takes old.window.room z n place (record_size kind)) unread_is in
        record_is ∙ zero_add _ ∙ ap (λ n. n + record_takes (standpoint_of old) kind place) (sym none_taken)

    both_left : window_leaves old.window.room old.window.end (unfetched old.window) place (record_size kind) ≡ record_leaves (standpoint_of old) kind place
    both_left =
        ap (λ n. window_leaves old.window.room n (unfetched old.window) place (record_size kind)) holding.end
        ∙ ap (λ n. window_leaves old.window.room (old.current.location.rva + old.current.location.size) n place (record_size kind)) unread_is

    fetch_next : (offset size : ℕ) → IsRecordFetch old.name.limit kind place old.meter old.window new.meter.fetched offset size → IsNextFetch (standpoint_of old) new.meter.fetched offset size
    fetch_next offset size (fetching.of_bytes same taken) =
        next.of_record kind place next_record (subst (λ n. new.meter.fetched ≡ raised old.meter.fetched n) (sym none_taken) (same ∙ sym (raised_none old.meter.fetched)))
        (subst (λ n. IsWindowFetch old.window.room n (unread_bytes old - head_takes (standpoint_of old) kind) place (record_size kind) offset size) holding.end
        (subst (λ n. IsWindowFetch old.window.room old.window.end n place (record_size kind) offset size) unread_is taken))
    fetch_next offset size (fetching.of_name rva before named took name) =
        next.of_name kind place rva before next_record named (took ∙ ap (raised old.meter.fetched) both_taken) name

    -- or they are, and so many bytes of its name
    record_paid : (named : ℕ) → TakesNamed kind place old.meter old.window named new.meter → IsRecordPaid (standpoint_of old) named new.meter.fetched
    record_paid named took = record {
      kind = kind;
      at = place;
      record_is = next_record;
      fetched_is = took ∙ ap (λ n. raised old.meter.fetched (n + named)) both_taken;
    }

    -- and the record is given
    pub record_passed : (named : ℕ) → TakesNamed kind place old.meter old.window named new.meter
        → unread_bytes new ≡ window_leaves old.window.room old.window.end (unfetched old.window) place (record_size kind)
        → IsRecordPassed (standpoint_of old) named new.meter.fetched (unread_bytes new)
    record_passed named took leaves = record {
      paid = record { kind = kind; at = place; record_is = next_record; fetched_is = took ∙ ap (λ n. raised old.meter.fetched (n + named)) both_taken };
      unread_is = leaves ∙ both_left;
    }

    -- nor are the bytes of the next record, or of its name
    pub record_next : (fault : FaultKind) (offset size : ℕ) → IsRecordTried old.name.limit kind place old.meter old.window new.meter fault offset size
        → TellsNextFetch (standpoint_of old) fault offset size new.meter.fetched
    record_next kinds.Budget offset size tried = fetch_next offset size tried
    record_next (kinds.Source f) offset size tried = tt
    record_next kinds.NameLengthOutside offset size tried = record_paid _ tried
    record_next kinds.NameOdd offset size tried = record_paid _ tried
    record_next kinds.NameUnitsOutside offset size tried = record_paid _ tried
    record_next _ offset size tried = absurd tried

module _ {S A : Type 0} (old mid : Walk S A) (head : HeadRead old mid) (at : old.stage ≡ stage.Head) where
  none_given : records_given (standing_of mid.stage) ≡ records_given (standing_of old.stage)
  none_given = given_begun _ _ (standing_of mid.stage) head.begins ∙ sym (ap (λ (s : Stage). records_given (standing_of s)) at)

  -- what was fetched of the head is no longer unread
  behind_head : (kind : StreamKind) (place : ℕ) → kind_of old.current.stream_type ≡ Some kind
      → (raised mid.meter.fetched (head_takes (standpoint_of mid) kind) ≡ raised old.meter.fetched (head_takes (standpoint_of old) kind))
      × (unread_bytes mid - head_takes (standpoint_of mid) kind ≡ unread_bytes old - head_takes (standpoint_of old) kind)
  behind_head kind place known =
      let none : head_takes (standpoint_of mid) kind ≡ 0 = listing-taken mid.stage _ head.stage in
      let took = head.taken kind known in
      (ap (raised mid.meter.fetched) none ∙ raised_none mid.meter.fetched ∙ took.0, ap (λ n. unread_bytes mid - n) none ∙ sub_zero (unread_bytes mid) ∙ took.1)

  -- the window goes on over the same stretch
  window_behind : (kind : StreamKind) → kind_of old.current.stream_type ≡ Some kind → (f : (room end unread : ℕ) → ℕ)
      → f mid.window.room (mid.current.location.rva + mid.current.location.size) (unread_bytes mid - head_takes (standpoint_of mid) kind)
      ≡ f old.window.room (old.current.location.rva + old.current.location.size) (unread_bytes old - head_takes (standpoint_of old) kind)
  window_behind kind known f =
      ap (f mid.window.room (mid.current.location.rva + mid.current.location.size)) (behind_head kind 0 known).1
      ∙ ap (λ room. f room (mid.current.location.rva + mid.current.location.size) (unread_bytes old - head_takes (standpoint_of old) kind)) head.same.room.window
      ∙ ap (λ (d : Entry). f old.window.room (d.location.rva + d.location.size) (unread_bytes old - head_takes (standpoint_of old) kind)) head.same.current

  left_behind : (kind : StreamKind) (place : ℕ) → kind_of old.current.stream_type ≡ Some kind → record_leaves (standpoint_of mid) kind place ≡ record_leaves (standpoint_of old) kind place
  left_behind kind place known = window_behind kind known (λ room end unread. window_leaves room end unread place (record_size kind))

  record_behind : (kind : StreamKind) (place : ℕ) → kind_of old.current.stream_type ≡ Some kind
      → raised mid.meter.fetched (head_takes (standpoint_of mid) kind + record_takes (standpoint_of mid) kind place)
      ≡ raised old.meter.fetched (head_takes (standpoint_of old) kind + record_takes (standpoint_of old) kind place)
  record_behind kind place known =
      let t = behind_head kind place known in
      let takes : record_takes (standpoint_of mid) kind place ≡ record_takes (standpoint_of old) kind place =
      window_behind kind known (λ room end unread. window_takes room end unread place (record_size kind)) in
      sym (raised_both mid.meter.fetched (head_takes (standpoint_of mid) kind) _)
      ∙ ap (λ n. raised n (record_takes (standpoint_of mid) kind place)) t.0
      ∙ ap (raised (raised old.meter.fetched (head_takes (standpoint_of old) kind))) takes
      ∙ raised_both old.meter.fetched (head_takes (standpoint_of old) kind) _

  record_then : (kind : StreamKind) (place : ℕ) → IsNextRecord (standpoint_of mid) kind place → IsNextRecord (standpoint_of old) kind place
  record_then kind place r = record {
    shape = r.shape;
    kind_is = rw head.same.current at r.kind_is;
    fits = rw head.same.current at r.fits;
    left = rw none_given at r.left;
    of_file = λ file known. rw head.same.current at (r.of_file file (head.books.fetches.same_content ∙ known));
    at_is = rw (head.same.current, none_given) at r.at_is;
  }

  fetch_then : (fetched offset size : ℕ) → IsNextFetch (standpoint_of mid) fetched offset size → IsNextFetch (standpoint_of old) fetched offset size
  fetch_then fetched offset size (next.of_head is kind known same taken) = absurd (listing-unbegun mid.stage head.stage is)
  fetch_then fetched offset size (next.of_record kind place r made taken) =
      let t = behind_head kind place (rw head.same.current at r.kind_is) in
      next.of_record kind place (record_then kind place r) (made ∙ t.0)
      (subst (λ (d : Entry). IsWindowFetch old.window.room (d.location.rva + d.location.size) (unread_bytes old - head_takes (standpoint_of old) kind) place (record_size kind) offset size) head.same.current
      (subst (λ room. IsWindowFetch room (mid.current.location.rva + mid.current.location.size) (unread_bytes old - head_takes (standpoint_of old) kind) place (record_size kind) offset size) head.same.room.window
      (subst (λ n. IsWindowFetch mid.window.room (mid.current.location.rva + mid.current.location.size) n place (record_size kind) offset size) t.1 taken)))
  fetch_then fetched offset size (next.of_name kind place rva before r named took name) =
      next.of_name kind place rva before (record_then kind place r) (λ file known. named file (head.books.fetches.same_content ∙ known))
      (took ∙ record_behind kind place (rw head.same.current at r.kind_is))
      (rw (head.books.fetches.same_size, head.books.fetches.same_content, head.same.room.name) at name)

  -- what was fetched for a record behind it
  fetched_then : (named fetched : ℕ) (r : IsRecordPaid (standpoint_of mid) named fetched)
      → fetched ≡ raised old.meter.fetched (head_takes (standpoint_of old) r.kind + record_takes (standpoint_of old) r.kind r.at + named)
  fetched_then named fetched r =
      let took = record_behind r.kind r.at (rw head.same.current at r.record_is.kind_is) in
      r.fetched_is ∙ sym (raised_both mid.meter.fetched _ named) ∙ ap (λ n. raised n named) took ∙ raised_both old.meter.fetched _ named

  paid_then : (named fetched : ℕ) → IsRecordPaid (standpoint_of mid) named fetched → IsRecordPaid (standpoint_of old) named fetched
  paid_then named fetched r = record { kind = r.kind; at = r.at; record_is = record_then r.kind r.at r.record_is; fetched_is = fetched_then named fetched r }

  passed_then : (named fetched unread : ℕ) → IsRecordPassed (standpoint_of mid) named fetched unread → IsRecordPassed (standpoint_of old) named fetched unread
  passed_then named fetched unread r =
      let p = r.paid in
      record {
        paid = record { kind = p.kind; at = p.at; record_is = record_then p.kind p.at p.record_is; fetched_is = fetched_then named fetched p };
        unread_is = r.unread_is ∙ left_behind p.kind p.at (rw head.same.current at p.record_is.kind_is);
      }

  -- and where none was read
  taken_then : (known : Option StreamKind) → kind_of old.current.stream_type ≡ known → mid.meter.fetched ≡ raised old.meter.fetched (head_left (standpoint_of old) known)
  taken_then (Some kind) known = (head.taken kind known).0
  taken_then None known =
      let none : unread_bytes old ≡ 0 = rw at (entry_cost-unknown old.meter.source.size old.current known) in
      let same : mid.meter.fetched ≡ old.meter.fetched = omega (arith, none, head.books.more, head.books.most) in
      same ∙ sym (raised_none old.meter.fetched)

  through_then : (fetched : ℕ) → IsThroughPaid (standpoint_of mid) fetched → IsThroughPaid (standpoint_of old) fetched
  through_then fetched paid =
      paid ∙ ap (raised mid.meter.fetched) (none_left (standpoint_of mid) (kind_of mid.current.stream_type) (listing-unbegun mid.stage head.stage)) ∙ raised_none mid.meter.fetched
      ∙ taken_then (kind_of old.current.stream_type) refl

  -- and where a fault stands in their place
  behind_then : (known : Option StreamKind) → kind_of old.current.stream_type ≡ known → IsHeadPaid (standpoint_of old) mid.meter.fetched
  behind_then (Some kind) known = next.head_taken kind known (taken_then (Some kind) known)
  behind_then None known = next.nothing_taken (taken_then None known ∙ raised_none old.meter.fetched)

  head_then : (fetched : ℕ) → IsHeadPaid (standpoint_of mid) fetched → IsHeadPaid (standpoint_of old) fetched
  head_then fetched (next.nothing_taken same) = subst (λ n. IsHeadPaid (standpoint_of old) n) (sym same) (behind_then (kind_of old.current.stream_type) refl)
  head_then fetched (next.head_taken kind known took) =
      let here = rw head.same.current at known in
      next.head_taken kind here (took ∙ (behind_head kind 0 here).0)

  -- what was fetched for an item or the end
  pub step_then : (given : Option Step) (fetched unread : ℕ) → IsStepPaid (standpoint_of mid) given fetched unread → IsStepPaid (standpoint_of old) given fetched unread
  step_then None fetched unread paid = through_then fetched paid
  step_then (Some (step.Stream x)) fetched unread paid = through_then fetched paid
  step_then (Some (step.Record r)) fetched unread paid = passed_then (read_cost r.name) fetched unread paid

  -- behind a head that was read it is the next fetch before it, too
  pub next_then : (fault : FaultKind) (offset size fetched : ℕ) → TellsNextFetch (standpoint_of mid) fault offset size fetched → TellsNextFetch (standpoint_of old) fault offset size fetched
  next_then kinds.Budget offset size fetched tells = fetch_then fetched offset size tells
  next_then (kinds.Source f) offset size fetched tells = tt
  next_then kinds.NameLengthOutside offset size fetched tells = paid_then _ fetched tells
  next_then kinds.NameOdd offset size fetched tells = paid_then _ fetched tells
  next_then kinds.NameUnitsOutside offset size fetched tells = paid_then _ fetched tells
  next_then _ offset size fetched tells = head_then fetched tells
