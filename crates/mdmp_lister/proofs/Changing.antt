-- The room for ranges behind a head that was read, and a list that has changed.
use Rattle.std.proofs.Common.{◌≡◌, ◌≤◌, ◌<◌, ◌+◌, ◌-◌, ◌∙◌, ℕ, List, Bool, true, false, None, Some, Ok, Err, Result, if◌then◌else◌, arith, inl, inr, length, refl, subst, sym}
use Rattle.std.proofs.lemmas.Grind.{common_steps}
use Rattle.mdmp_source.specs.Range.{IsInside}
use Rattle.mdmp_source.specs.declared.fault.SourceFault.TheVariants.{Changed}
use Rattle.mdmp_source.specs.declared.location.Location.{Location}
use Rattle.mdmp_lister.specs.declared.fault.Fault.{Fault}
use Rattle.mdmp_lister.specs.declared.shape.Shape.{Shape}
use Rattle.mdmp_wire.specs.declared.entry.Entry.{Entry}
use Rattle.mdmp_lister.specs.declared.fault.FaultKind.{FaultKind}
use Rattle.mdmp_lister.specs.declared.fault.FaultKind.TheVariants.{Source}
use Rattle.mdmp_lister.specs.declared.fault.ListFault.{ListFault}
use Rattle.mdmp_lister.specs.declared.kind.StreamKind.{StreamKind}
use Rattle.mdmp_lister.specs.declared.stage.Stage.{Stage}
use Rattle.mdmp_lister.specs.declared.stage.Stage.TheVariants.{Between, Head, Records}
use Rattle.mdmp_lister.specs.declared.walk.Walk.{Walk}
use Rattle.mdmp_lister.specs.Fault.{IsRanged}
use Rattle.mdmp_lister.specs.Following.{IsBegun, IsSomeShape, Standing, mapped, standing_by}
use Rattle.mdmp_lister.specs.Following as following
use Rattle.mdmp_lister.specs.Format.Kind.{HasNoNames, form_of, kind_of, lists_ranges, record_size}
use Rattle.mdmp_lister.specs.Format.Numbers.{ranges_in}
use Rattle.mdmp_lister.specs.Format.Shape.{head_size, location_fault}
use Rattle.mdmp_lister.specs.Stage.{StaysUnchanged, fault_stage, stage_by, standing_of}
use Rattle.mdmp_lister.specs.Walk.{IsHeaded, IsListing, IsSound, IsStaged, SameEntry}
use Rattle.mdmp_lister.specs.Walk.Owing.{HasRoom, ranges_ahead, ranges_owed}
use Rattle.mdmp_lister.specs.Walk.Requests.{Answered, HeadRead, StepTaken}
use Rattle.mdmp_lister.proofs.EntrySteps.{answered_head}
use Rattle.mdmp_lister.proofs.Naming.{source_reached}
use Rattle.mdmp_lister.proofs.Owing.{ranged, ranges_in-shape, told_changed, unknown}
use Rattle.mdmp_lister.proofs.Paying.{entry_cost-listed}

-- ---- stages

stage_by-ahead : (f : ListFault) (kind : FaultKind) → ranges_ahead (stage_by kind f) ≡ 0
stage_by-ahead f (Source fault) = refl
stage_by-ahead f _ = refl

stage_by-owed : (F : List ℕ) (e : Entry) (f : ListFault) (kind : FaultKind) → ranges_owed F e (stage_by kind f) ≡ 0
stage_by-owed F e f (Source fault) = refl
stage_by-owed F e f _ = refl

-- a stream that lies inside has no fault of its location
whole-inside : (z : ℕ) (e : Entry) → IsInside e.location.rva e.location.size z → location_fault z e ≡ None
whole-inside z e (inl none) = grind (arith, common_steps, none)
whole-inside z e (inr within) = grind (arith, common_steps, within)

if-less : (b : Bool) (m n : ℕ) → m ≤ n → (if b then m else 0) ≤ (if b then n else 0)
if-less true m n le = le
if-less false m n le = omega arith

-- no more ranges are ahead behind a head that was read than the file's list counts
ranges-headed : (F : List ℕ) (z next : ℕ) (e : Entry) (stage : Stage) → IsListing stage → z ≡ length F → IsStaged z next e stage → IsHeaded F e stage
    → ranges_owed F e stage ≤ ranges_in F e (kind_of e.stream_type)
ranges-headed F z next e Between listing size staged headed = omega arith
ranges-headed F z next e (Records kind shape index offset) listing size staged headed =
    let whole : location_fault (length F) e ≡ None = rw (← size) (whole-inside z e staged.inside) in
    let counted = ranges_in-shape F e kind shape whole staged.known headed.0 in
    omega (arith, counted, if-less (lists_ranges kind) (shape.count - index) shape.count (omega arith))
ranges-headed F z next e _ listing size staged headed = absurd listing

ahead-owed : (F : List ℕ) (e : Entry) (stage : Stage) → IsListing stage → ranges_owed F e stage ≡ ranges_ahead stage
ahead-owed F e Between listing = refl
ahead-owed F e (Records kind shape index offset) listing = refl
ahead-owed F e _ listing = absurd listing

-- where ranges are ahead the head of a memory list was read
record IsRangedIn (z : ℕ) (e : Entry) : Type 0 where
  kind : StreamKind
  known : kind_of e.stream_type ≡ Some kind
  inside : IsInside e.location.rva e.location.size z
  is : IsRanged (kind_of e.stream_type)

ahead-ranged : (z next room : ℕ) (e : Entry) (stage : Stage) → IsListing stage → IsStaged z next e stage → room < ranges_ahead stage → IsRangedIn z e
ahead-ranged z next room e Between listing staged more = absurd (omega (arith, more))
ahead-ranged z next room e (Records kind shape index offset) listing staged more = record {
  kind = kind;
  known = staged.known;
  inside = staged.inside;
  is = ranged (kind_of e.stream_type) kind (shape.count - index) room staged.known more;
}
ahead-ranged z next room e _ listing staged more = absurd listing

-- ---- room

module _ {S A : Type 0} (room : ℕ) (old new : Walk S A) where
  -- behind a fault no range is ahead of the current entry
  pub room_faulted : (f : ListFault) → HasRoom room 0 old → Answered old (Err f) new → HasRoom room 0 new
  room_faulted f has answered = record {
    ahead = rw (answered.stage, stage_by-ahead f f.kind) (omega arith);
    owed = λ file known.
        let was = has.owed file (sym answered.fetches.same_content ∙ known) in
        rw (answered.stage, stage_by-owed file new.current f f.kind, answered.same.choice, answered.passed) (omega (arith, was));
  }

  head-owed : (file : List ℕ) → HeadRead old new → old.stage ≡ Head → old.meter.source.store.content ≡ Some file
      → ranges_owed file new.current new.stage ≤ ranges_owed file old.current old.stage
  head-owed file head at known =
      let now = head.books.fetches.same_content ∙ known in
      let less = ranges-headed file new.meter.source.size new.next new.current new.stage head.stage (rw now at head.sound.sized) head.sound.staged (head.sound.headed file now) in
      rw (at, head.same.current) (rw head.same.current at less)

  -- behind a head there is room as before, where there is for the ranges that it counts
  pub room_headed : HeadRead old new → old.stage ≡ Head → HasRoom room 0 old → ranges_ahead new.stage ≤ room → HasRoom room 0 new
  room_headed head at has fits = record {
    ahead = omega (arith, fits);
    owed = λ file known.
        let was = sym head.books.fetches.same_content ∙ known in
        rw (head.same.room.choice, head.same.next) (omega (arith, has.owed file was, head-owed file head at was));
  }

  -- of a known file there is
  room-never : (file : List ℕ) → HeadRead old new → old.stage ≡ Head → HasRoom room 0 old → room < ranges_ahead new.stage → old.meter.source.store.content ≡ Some file → ⊥
  room-never file head at has more known =
      absurd (omega (arith, has.owed file known, head-owed file head at known, ahead-owed file new.current new.stage head.stage, more))

-- ---- a list that has changed

-- a stream whose head was read has room for it
shape_room : (at : Location) (kind : StreamKind) (r : Result Shape Fault) (offset : ℕ) (s : Standing) → IsSomeShape at kind r → Ok s ≡ mapped (standing_by offset) r
    → head_size (form_of kind) (record_size kind) ≤ at.size
shape_room at kind r offset s (following.short less is) ok = absurd (cc)
shape_room at kind r offset s (following.headed room some) ok = room
shape_room at kind r offset s (following.failed room fault is of) ok = room

begun_room : (z : ℕ) (e : Entry) (kind : StreamKind) → kind_of e.stream_type ≡ Some kind → (s : Standing) → IsBegun z e (Ok s)
    → head_size (form_of kind) (record_size kind) ≤ e.location.size
begun_room z e kind known s (following.outside fault is bad) = absurd (cc)
begun_room z e kind known s (following.opaque whole none is) = absurd (cc)
begun_room z e kind known s (following.shaped whole other of shape some offset is) =
    let same : other ≡ kind = cc in
    subst (λ (k : StreamKind). head_size (form_of k) (record_size k) ≤ e.location.size) same (shape_room e.location other shape offset s some is)

module _ {S A : Type 0} (room : ℕ) (old mid : Walk S A) (f : ListFault) (head : HeadRead old mid) (at : old.stage ≡ Head) (sound : IsSound old)
    (has : HasRoom room 0 old) (more : room < ranges_ahead mid.stage) where
  abbrev stopped : Walk S A
  stopped = record mid { stage = fault_stage f }

  same : SameEntry old stopped
  same = record {
    room = record { header_is = head.same.room.header_is; entries = head.same.room.entries; choice = head.same.room.choice; listed = head.same.room.listed; window = head.same.room.window; name = head.same.room.name };
    next = head.same.next;
    current = head.same.current;
  }

  changed : f.kind ≡ Source (Changed mid.current.location.rva) → (f.offset ≡ mid.current.location.rva) × (f.size ≡ 0) → f.index ≡ None → f.entry + 1 ≡ mid.next
      → Answered old (Err f) stopped
  changed kind placed index entry =
      let z = old.meter.source.size in
      let e = old.current in
      let never : (file : List ℕ) → old.meter.source.store.content ≡ Some file → ⊥ = λ file known. room-never room old mid file head at has more known in
      let of : IsRangedIn z e = rw (head.same.current, head.books.fetches.same_size) at (ahead-ranged mid.meter.source.size mid.next room mid.current mid.stage head.stage head.sound.staged more) in
      answered_head old stopped of.kind at sound same (whole-inside z e of.inside) of.known _ head.books f refl
      (record {
        told = told_changed e f old.meter.source mid.meter.source (rw head.same.current at kind) (rw head.same.current at placed) index (unknown old.meter.source.store.content never) of.is;
        number = entry ∙ head.same.next;
        named = source_reached f.kind old.meter mid.meter (rw kind tt) (rw head.books.same_names (omega arith)) (rw head.books.same_names (omega arith));
        over = rw kind tt;
        next = rw kind tt;
      })
      (rw (at, entry_cost-listed (λ d. d) z e of.kind of.known of.inside) (omega arith))
      (λ file content. absurd (never file content))
      (λ file good is. never file good.known)
      (record { kind = f.kind; offset = f.offset; size = f.size })
      (record {
        of_file = λ other. absurd (other (rw kind tt));
        kind = refl;
        entry = omega (arith, entry, head.same.next);
        place = (refl, refl);
        of_all = λ _. index;
      })
      (following.failed (begun_room z e of.kind of.known (standing_of mid.stage) head.begins) _ refl (rw kind tt))

module _ {S A : Type 0} (room : ℕ) (old mid new : Walk S A) (head : HeadRead old mid) (at : old.stage ≡ Head) (sound : IsSound old)
    (has : HasRoom room 0 old) (more : room < ranges_ahead mid.stage) where
  pub changed_answered : (f : ListFault) → new ≡ record mid { stage = fault_stage f } → f.kind ≡ Source (Changed mid.current.location.rva)
      → (f.offset ≡ mid.current.location.rva) × (f.size ≡ 0) → f.index ≡ None → f.entry + 1 ≡ mid.next → Answered old (Err f) new
  changed_answered f stops kind placed index entry =
      subst (λ (n : Walk S A). Answered old (Err f) n) (sym stops) (changed room old mid f head at sound has more kind placed index entry)

-- a step that was answered with a fault
pub taken_fault : {S A : Type 0} (old new : Walk S A) (f : ListFault) → Answered old (Err f) new → (StaysUnchanged old.stage → StaysUnchanged new.stage)
    → (HasNoNames (kind_of old.current.stream_type) → new.meter.names ≡ old.meter.names) → StepTaken old (Err f) new
taken_fault old new f answered unchanged nameless = record { answered = answered; room = λ room has. room_faulted room old new f has answered; unchanged = unchanged; nameless = nameless }
