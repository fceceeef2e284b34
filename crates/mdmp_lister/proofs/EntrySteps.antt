-- What requests leave of a walk within an entry: behind its head, behind each record, and at their faults.
use Rattle.std.proofs.Common.{◌≡◌, ◌≤◌, ◌<◌, ◌+◌, ◌-◌, ◌*◌, ◌/◌, ◌^◌, ◌∙◌, ℕ, List, None, Some, Ok, Err, false, arith, ap, length, min, refl, subst, sym}
use Rattle.mdmp_source.specs.Count.{raised}
use Rattle.mdmp_source.specs.Store.{IsGood}
use Rattle.mdmp_lister.specs.declared.fault.Fault.{Fault}
use Rattle.mdmp_lister.specs.declared.fault.FaultKind.TheVariants.{StreamOutside}
use Rattle.mdmp_lister.specs.declared.fault.ListFault.{ListFault}
use Rattle.mdmp_lister.specs.declared.head.Head.{Head}
use Rattle.mdmp_lister.specs.declared.kind.StreamKind.{StreamKind}
use Rattle.mdmp_lister.specs.declared.kind.StreamKind.TheVariants.{Memory64}
use Rattle.mdmp_lister.specs.declared.shape.Shape.{Shape}
use Rattle.mdmp_lister.specs.declared.stage.Stage.TheVariants as stage
use Rattle.mdmp_lister.specs.declared.step.Step.{Step}
use Rattle.mdmp_lister.specs.declared.walk.Walk.{Walk}
use Rattle.mdmp_lister.specs.Costs.{step_cost}
use Rattle.mdmp_lister.specs.Fault.{IsListFaultOf, IsOfStore, IsUnobtained, source_of}
use Rattle.mdmp_lister.specs.Fetching.{IsHeadOf, IsRecordTried, ReadsRecord, TakesNamed, TellsRecord, TriesHead}
use Rattle.mdmp_lister.specs.Following.{IsRecordFault, IsSomeRecord, IsSomeShape}
use Rattle.mdmp_lister.specs.Following as following
use Rattle.mdmp_lister.specs.Format.Item.{item_at, range_offset}
use Rattle.mdmp_lister.specs.Format.Kind.{HasNoNames, form_of, greatest_record, has_names, kind_of, record_size}
use Rattle.mdmp_lister.specs.Format.Listing.{entry_body, only_fault}
use Rattle.mdmp_lister.specs.Format.Shape.{head_cost, location_fault, shape_of}
use Rattle.mdmp_lister.specs.Holding.{ComesTo, fills, started, unfetched}
use Rattle.mdmp_lister.specs.Meter.{Books}
use Rattle.mdmp_lister.specs.NextFetch.{head_takes, nothing_taken, window_leaves, window_takes}
use Rattle.mdmp_lister.specs.Stage.{fault_stage}
use Rattle.mdmp_lister.specs.Step.{bytes_behind, step_item}
use Rattle.mdmp_lister.specs.Walk.{IsHolding, IsReading, IsSound, SameEntry}
use Rattle.mdmp_lister.specs.Walk.Checking.{RecordGiven}
use Rattle.mdmp_lister.specs.Walk.Paying.{calls_owed, owed_of, stream_calls, unread_bytes}
use Rattle.mdmp_lister.specs.Walk.Requests.{Answered, FaultMet, HeadRead, TakesHead, standpoint_of}
use Rattle.mdmp_lister.proofs.Budgets.{over-within}
use Rattle.mdmp_lister.proofs.Bodies.{body-shaped, records-faulted, records-given}
use Rattle.mdmp_lister.proofs.Fetches.{FetchesAtMost-none, not_of_source, told_in_caused}
use Rattle.mdmp_lister.proofs.Heads.{listed-inside}
use Rattle.mdmp_lister.proofs.Metering.{Books-within, Books_none}
use Rattle.mdmp_lister.proofs.NextWalks.{record_next, record_passed}
use Rattle.mdmp_lister.proofs.Offsets.{range-next}
use Rattle.mdmp_lister.proofs.Paying.{entry_cost-listed, paid_headed}
use Rattle.mdmp_lister.proofs.Requests.{Spends-booked, answered_fault, answered_step, fault_meets}
use Rattle.mdmp_lister.proofs.Soundness.{IsSound-after}

-- ---- the head of the current entry, which is of a known kind and lies inside

module _ {S A : Type 0} (old new : Walk S A) (kind : StreamKind) (at : old.stage ≡ stage.Head) (sound : IsSound old) (same : SameEntry old new)
    (whole : location_fault old.meter.source.size old.current ≡ None) (known : kind_of old.current.stream_type ≡ Some kind)
    (spent : ℕ) (books : Books 1 spent old.meter new.meter) where
  pub head_read : (head : Head) (offset : ℕ) → new.stage ≡ stage.Records kind head.shape 0 offset → IsHeadOf old.current.location.size kind head → offset < 2 ^ 64
      → ComesTo old.current.location.rva old.meter.source.store.content (started old.current.location old.window) new.window
      → spent + unfetched new.window ≤ old.current.location.size
      → fills greatest_record new.window ≤ 1 + old.current.location.size / (old.window.room - 167)
      → ((file : List ℕ) → old.meter.source.store.content ≡ Some file → kind ≡ Memory64 → offset ≡ range_offset file old.current.location.rva 0)
      → ((file : List ℕ) → old.meter.source.store.content ≡ Some file → shape_of file old.current.location.rva old.current.location.size kind ≡ Ok head.shape)
      → IsSomeShape old.current.location kind (Ok head.shape)
      → TriesHead old.current.location kind (Ok head) old.meter new.meter old.window new.window
      → HeadRead old new
  unfolding stream_calls
  head_read head offset next of small comes bytes fills_left base shape some tried =
      let z = old.meter.source.size in
      let e = old.current in
      let begun : 0 < old.next = rw at at sound.staged in
      let inside = listed-inside z e kind whole known in
      let fits : owed_of z e new.window new.stage + spent ≤ owed_of z e old.window old.stage = rw (next, at, entry_cost-listed (λ d. d) z e kind known inside) (omega (arith, bytes)) in
      let called : calls_owed z e new.window new.stage + 1 ≤ calls_owed z e old.window old.stage =
      rw (next, at, entry_cost-listed (stream_calls old.window.room) z e kind known inside) (omega (arith, fills_left)) in
      let less : unread_bytes new + spent ≤ unread_bytes old = rw (books.fetches.same_size, same.current) fits in
      record {
        sound = IsSound-after spent old new sound books.fetches same
            (rw next (record { begun = begun; known = known; within = omega arith; inside = inside; fits = of.fits; ranges = of.ranges; bound = omega (arith, small); few = of.few }))
            (rw next (record { held = comes.held; end = comes.end; place = omega (arith, comes.place) }))
            (λ file content. rw next (shape file content, base file content))
            (λ end. absurd (cc))
            (λ file good. rw next tt)
            (rw next tt)
            books.more;
        same = same;
        left = λ file content.
            let size = rw content at sound.sized in
            rw (next, at, same.room.name, same.next, same.current) (sym (body-shaped file old.name.limit (old.next - 1) e kind (rw size at whole) known head.shape (shape file content)));
        stage = rw next tt;
        begins =
            let whole_count : head.shape.count ≡ head.shape.count - 0 = omega arith in
            rw next (following.shaped whole kind known (Ok head.shape) some offset (ap (λ n. Ok (following.within 0 n offset)) (sym whole_count)));
        falls = rw (same.room.entries, same.next, next, at) (omega (arith, of.few));
        owes = omega (arith, less);
        books = Books-within 1 1 _ _ old.meter new.meter (omega arith) (omega (arith, less)) books;
        taken = λ other is.
            let same : other ≡ kind = cc in
            let all = entry_cost-listed (λ d. d) z e kind known inside in
            let takes : head_takes (standpoint_of old) kind ≡ window_takes old.window.room (e.location.rva + e.location.size) e.location.size e.location.rva (head_cost (form_of kind)) = rw (at, all) refl in
            subst (λ k. TakesHead k old new) (sym same)
            (subst (λ n. (new.meter.fetched ≡ raised old.meter.fetched n) × (unread_bytes new ≡ unread_bytes old - n)) (sym takes) (tried.0, rw (next, at, all) tried.1));
        paid = λ allowed before paid.
            paid_headed allowed before 1 spent old new paid books same books.fetches.same_size fits called
            (rw (next, at) (omega (arith, of.few)));
      }

  pub answered_head : (f : ListFault) → new.stage ≡ fault_stage f → FaultMet old f new → spent ≤ old.current.location.size
      → ((file : List ℕ) → old.meter.source.store.content ≡ Some file → (IsUnobtained f.kind → ⊥) → entry_body file old.name.limit (record { number = old.next - 1; entry = old.current }) ≡ only_fault f)
      → ((file : List ℕ) → IsGood old.meter.source.store file → IsOfStore f.kind → ⊥)
      → (fault : Fault) → IsListFaultOf (old.next - 1) None fault f → IsSomeShape old.current.location kind (Err fault) → Answered old (Err f) new
  unfolding stream_calls
  answered_head f next met bytes left good fault told some =
      let z = old.meter.source.size in
      let e = old.current in
      let inside = listed-inside z e kind whole known in
      answered_fault spent 1 spent old new f sound (rw at at sound.staged) (rw at refl) (rw at (omega arith)) same next met
      books.fetches (omega arith)
      (Spends-booked 1 spent old.name.limit old.meter new.meter books)
      (rw (at, entry_cost-listed (λ d. d) z e kind known inside) bytes)
      (rw (at, entry_cost-listed (stream_calls old.window.room) z e kind known inside) (omega arith))
      (λ file content not. rw at (left file content not)) good
      (following.refuses (rw at refl) fault (following.shaped whole kind known (Err fault) some 0 refl) (fault_meets old new f same next None fault told))

-- an entry that lies outside the file, of which nothing is fetched

outside_kind : (f : ListFault) (fault : Fault) → f.kind ≡ fault.kind → fault.kind ≡ StreamOutside → f.kind ≡ StreamOutside
outside_kind f fault told is = told ∙ is

module _ {S A : Type 0} (old new : Walk S A) (f : ListFault) (at : old.stage ≡ stage.Head) (sound : IsSound old) (stops : new ≡ record old { stage = fault_stage f }) where
  abbrev stopped : Walk S A
  stopped = record old { stage = fault_stage f }

  same : SameEntry old stopped
  same = record { room = record { header_is = refl; entries = refl; choice = refl; listed = refl; window = refl; name = refl }; next = refl; current = refl }

  outside_answered : (fault : Fault) → IsListFaultOf (old.next - 1) None fault f → location_fault old.meter.source.size old.current ≡ Some fault → fault.kind ≡ StreamOutside
      → Answered old (Err f) stopped
  outside_answered fault told located kind =
      let begun : 0 < old.next = rw at at sound.staged in
      let is : f.kind ≡ StreamOutside = outside_kind f fault told.kind kind in
      let other : IsUnobtained fault.kind → ⊥ = rw kind (λ x. x) in
      answered_fault 0 0 0 old stopped f sound begun (rw at refl) (rw at (omega arith)) same refl
      (record {
        told = record { by = rw is tt; placed = rw is tt };
        number = omega (arith, told.entry, begun);
        named = rw is (omega arith, omega arith);
        over = rw is tt;
        next = rw is (nothing_taken refl);
      })
      (FetchesAtMost-none old.meter.source) (omega arith)
      (Spends-booked 0 0 old.name.limit old.meter old.meter (Books_none 0 0 old.meter))
      (omega arith) (omega arith)
      (λ file content not.
      let here : location_fault (length file) old.current ≡ Some fault = rw (rw content at sound.sized) at located in
      rw (at, here, told.of_file other) refl)
      (λ file good. rw is (λ x. x))
      (following.refuses (rw at refl) fault (following.outside fault located refl) (fault_meets old stopped f same refl None fault told))

  pub answered_outside : (fault : Fault) → IsListFaultOf (old.next - 1) None fault f → location_fault old.meter.source.size old.current ≡ Some fault → fault.kind ≡ StreamOutside
      → Answered old (Err f) new
  answered_outside fault told located kind = subst (λ (n : Walk S A). Answered old (Err f) n) (sym stops) (outside_answered fault told located kind)

-- ---- a record of the current entry

module _ {S A : Type 0} (old new : Walk S A) (kind : StreamKind) (shape : Shape) (k offset place : ℕ) (at : old.stage ≡ stage.Records kind shape k offset) (left : k < shape.count)
    (sound : IsSound old) (same : SameEntry old new) (stands : place ≡ old.current.location.rva + shape.first + k * shape.stride) where
  reading : IsReading old.meter.source.size old.next old.current kind shape k offset
  reading = rw at at sound.staged

  holding : IsHolding old.meter.source.store.content old.current shape k old.window
  holding = rw at at sound.holding

  -- the rest of the entry is left behind it
  pub given_record : (step : Step) (next : ℕ) → new.stage ≡ stage.Records kind shape (k + 1) next
      → ((file : List ℕ) → old.meter.source.store.content ≡ Some file → (kind ≡ Memory64 → offset ≡ range_offset file old.current.location.rva k)
      → item_at file old.name.limit (old.next - 1) k old.current.location.rva place kind ≡ Ok (step_item old.meter.source.size new.name.items step))
      → RecordGiven old step new
  given_record step next on item = record {
    same = same;
    stage = rw on tt;
    left = λ file known.
        let here = (rw at at (sound.headed file known)).1 in
        rw (on, at, same.room.name, same.next, same.current)
        (records-given file old.name.limit (old.next - 1) old.current.location.rva kind shape k left _ (rw stands at (item file known here)));
  }

  pub answered_record : (spent : ℕ) (step : Step) (next : ℕ) → new.stage ≡ stage.Records kind shape (k + 1) next → next ≡ offset + bytes_behind step → next < offset + 2 ^ 64
      → ReadsRecord old.window.room spent old.name.limit (Ok step) old.meter new.meter → TellsRecord (length new.name.items) kind step
      → ComesTo place old.meter.source.store.content old.window new.window → spent + unfetched new.window ≤ unfetched old.window
      → min 1 spent + fills greatest_record new.window ≤ fills greatest_record old.window
      → ((file : List ℕ) → old.meter.source.store.content ≡ Some file → (kind ≡ Memory64 → offset ≡ range_offset file old.current.location.rva k)
      → item_at file old.name.limit (old.next - 1) k old.current.location.rva place kind ≡ Ok (step_item old.meter.source.size new.name.items step))
      → IsSomeRecord old.meter.source.size old.name.limit kind (old.next - 1) k offset step
      → TakesNamed kind place old.meter old.window (step_cost step) new.meter
      → unfetched new.window ≡ window_leaves old.window.room old.window.end (unfetched old.window) place (record_size kind)
      → Answered old (Ok (Some step)) new
  answered_record spent step next on behind bound reads tells comes bytes called item some took leaves =
      let z = old.meter.source.size in
      let e = old.current in
      answered_step _ (min 1 spent) spent old new step
      (IsSound-after _ old new sound reads.fetches same
      (rw on (record { begun = reading.begun; known = reading.known; within = omega (arith, left); inside = reading.inside; fits = reading.fits; ranges = reading.ranges; bound = omega (arith, bound, reading.bound); few = reading.few }))
      (rw on (record { held = comes.held; end = comes.end ∙ holding.end; place = omega (arith, comes.place, stands) }))
      (λ file known. let headed = rw at at (sound.headed file known) in rw on (
        headed.0,
        λ list.
            let here = headed.1 in
            let places = reading.ranges list in
            range-next file old.name.limit (old.next - 1) k e.location.rva place z offset next new.name.items kind step list tells.held.1
            (item file known here) (here list) (rw (places.0, places.1) at stands) behind,
      ))
      (λ end. absurd (cc)) (λ file good. rw on tt) (rw on tt) reads.spends.more)
      (rw at refl) (rw on refl) (rw (on, at) (omega (arith, left))) (rw (on, at) (omega (arith, left)))
      same (tells.passed old.next) (tells.stays e)
      (rw reading.known tells.held) tells.begins
      reads.fetches (omega arith)
      reads.spends (rw (on, at) (omega (arith, bytes))) (rw (on, at) (omega (arith, called)))
      reads.named
      (rw tells.begins (record_passed old new kind shape k offset place at left sound stands (step_cost step) took (rw on leaves)))
      (given_record step next on item).left
      (following.goes_on (rw at (
        λ none. absurd (omega (arith, none, left)),
        λ more. record {
          kind = kind;
          kind_is = reading.known;
          is = some;
          stands =
              let less : shape.count - (k + 1) ≡ shape.count - k - 1 = omega arith in
              rw (same.next, same.current, on, less, behind) refl;
        },
      )))

  pub answered_record_fault : (spent : ℕ) (fault : Fault) (f : ListFault) → new.stage ≡ fault_stage f → ReadsRecord old.window.room spent old.name.limit (Err fault) old.meter new.meter
      → spent ≤ unfetched old.window → min 1 spent ≤ fills greatest_record old.window
      → IsListFaultOf (old.next - 1) (Some k) fault f
      → ((file : List ℕ) → old.meter.source.store.content ≡ Some file → (kind ≡ Memory64 → offset ≡ range_offset file old.current.location.rva k) → (IsUnobtained fault.kind → ⊥)
      → item_at file old.name.limit (old.next - 1) k old.current.location.rva place kind ≡ Err fault)
      → IsRecordFault old.meter.source.size old.name.limit kind fault
      → IsRecordTried old.name.limit kind place old.meter old.window new.meter fault.kind fault.offset fault.size
      → Answered old (Err f) new
  answered_record_fault spent fault f next reads bytes called told item some tried =
      let e = old.current in
      answered_fault _ (min 1 spent) spent old new f sound reading.begun (rw at refl) (rw at (omega (arith, left))) same next
      (record {
        told = told_in_caused e fault f old.meter.source new.meter.source reads.caused told.kind told.place told.of_all;
        number = omega (arith, told.entry, reading.begun);
        named = rw told.kind reads.at_fault;
        over = rw (told.kind, told.place.0, told.place.1) (over-within _ _ _ _ _ _ _ (omega (arith, sound.window)) reads.over);
        next = rw (told.kind, told.place.0, told.place.1) (record_next old new kind shape k offset place at left sound stands fault.kind fault.offset fault.size tried);
      })
      reads.fetches (rw told.kind (omega arith))
      reads.spends (rw at bytes) (rw at called)
      (λ file known not.
      let here = (rw at at (sound.headed file known)).1 in
      let other : IsUnobtained fault.kind → ⊥ = λ is. not (rw (sym told.kind) at is) in
      rw (at, told.of_file other) (records-faulted file old.name.limit (old.next - 1) e.location.rva kind shape k left fault (rw stands at (item file known here other))))
      (λ file good. not_of_source f.kind (ap source_of told.kind ∙ reads.caused.caused.good file good))
      (following.goes_on (rw at (
        λ none. absurd (omega (arith, none, left)),
        λ more. record {
          kind = kind;
          kind_is = reading.known;
          fault = fault;
          is = some;
          meets = rw at at (fault_meets old new f same next (Some k) fault told);
        },
      )))

-- ---- an entry whose records have no names

module _ {S A : Type 0} (w : Walk S A) (kind : StreamKind) (shape : Shape) (k offset : ℕ) (at : w.stage ≡ stage.Records kind shape k offset) (sound : IsSound w) where
  pub nameless_reading : HasNoNames (kind_of w.current.stream_type) → has_names kind ≡ false
  nameless_reading none =
      let reading : IsReading w.meter.source.size w.next w.current kind shape k offset = rw at at sound.staged in
      rw reading.known at none
