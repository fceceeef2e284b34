-- A walk pays for what it fetches.
use Rattle.std.proofs.Common.{◌≡◌, ◌≤◌, ◌<◌, ◌+◌, ◌*◌, ◌^◌, ◌∙◌, ℕ, zero, suc, Some, Result, inl, inr, arith, refl, sym, subst, drop, vec_len}
use Rattle.std.proofs.lemmas.Grind.{common_steps}
use Rattle.std.proofs.Math.Nat.{mul-le-mul_left}
use Rattle.mdmp_source.specs.Range.{IsInside}
use Rattle.mdmp_source.specs.Source.{SourceState}
use Rattle.mdmp_lister.specs.declared.fault.FetchFault.{FetchFault}
use Rattle.mdmp_lister.specs.declared.limits.Limits.{Limits}
use Rattle.mdmp_source.specs.Window.{WindowState}
use Rattle.mdmp_wire.specs.declared.entry.Entry.{Entry}
use Rattle.mdmp_lister.specs.declared.choice.Choice.{Choice}
use Rattle.mdmp_lister.specs.declared.fault.FaultKind.{FaultKind}
use Rattle.mdmp_lister.specs.declared.fault.FaultKind.TheVariants.{Source}
use Rattle.mdmp_lister.specs.declared.fault.ListFault.{ListFault}
use Rattle.mdmp_lister.specs.declared.kind.StreamKind.{StreamKind}
use Rattle.mdmp_lister.specs.declared.meter.Amount.{Amount}
use Rattle.mdmp_lister.specs.declared.shape.Shape.{Shape}
use Rattle.mdmp_lister.specs.declared.stage.Stage.TheVariants.{Between}
use Rattle.mdmp_lister.specs.declared.walk.Walk.{Walk}
use Rattle.mdmp_lister.specs.Meter.{Books, Spends}
use Rattle.mdmp_lister.specs.Walk.Paying.{IsBounded, IsPaid, IsWithinSince, allowed_of, calls_of, calls_owed, owed_of, unread_bytes}
use Rattle.mdmp_lister.specs.Listed.{cost_of, entry_cost_by}
use Rattle.mdmp_lister.specs.Format.Shape.{FitsIn}
use Rattle.mdmp_lister.specs.Format.Kind.{kind_of, record_size}
use Rattle.mdmp_lister.specs.Stage.{fault_stage, stage_by}
use Rattle.mdmp_lister.specs.Format.KindLaws.{least_record}
use Rattle.mdmp_lister.specs.Walk.{CountsRanges, IsNewWalk, SameEntry, SameRoom, stage_work}

-- ---- the stage behind a fault

stage_by-owed : (size : ℕ) (e : Entry) (w : WindowState) (f : ListFault) (kind : FaultKind) → owed_of size e w (stage_by kind f) ≡ 0
stage_by-owed size e w f (Source fault) = refl
stage_by-owed size e w f _ = refl

pub fault_stage-owed : (size : ℕ) (e : Entry) (w : WindowState) (f : ListFault) → owed_of size e w (fault_stage f) ≡ 0
fault_stage-owed size e w f = stage_by-owed size e w f f.kind

stage_by-calls : (size : ℕ) (e : Entry) (w : WindowState) (f : ListFault) (kind : FaultKind) → calls_owed size e w (stage_by kind f) ≡ 0
stage_by-calls size e w f (Source fault) = refl
stage_by-calls size e w f _ = refl

pub fault_stage-calls : (size : ℕ) (e : Entry) (w : WindowState) (f : ListFault) → calls_owed size e w (fault_stage f) ≡ 0
fault_stage-calls size e w f = stage_by-calls size e w f f.kind

stage_by-work : (f : ListFault) (kind : FaultKind) → stage_work (stage_by kind f) ≡ 0
stage_by-work f (Source fault) = refl
stage_by-work f _ = refl

pub fault_stage-work : (f : ListFault) → stage_work (fault_stage f) ≡ 0
fault_stage-work f = stage_by-work f f.kind

-- ---- a walk whose entry stays

module _ {S A : Type 0} (allowed : Amount) (before calls spent : ℕ) (old new : Walk S A) where
  -- the calls of the entries to come stay
  later : SameEntry old new
      → calls_of new.window.room new.choice old.meter.source.size (drop old.next new.entries.items) ≡ calls_of old.window.room old.choice old.meter.source.size (drop old.next old.entries.items)
  later same = rw (same.room.choice, same.room.entries, same.room.window) refl

  pub paid_named : IsPaid allowed before old → Spends calls spent old.name.limit old.meter new.meter → SameEntry old new → new.meter.source.size ≡ old.meter.source.size
      → owed_of old.meter.source.size old.current new.window new.stage + spent ≤ owed_of old.meter.source.size old.current old.window old.stage
      → calls_owed old.meter.source.size old.current new.window new.stage + calls ≤ calls_owed old.meter.source.size old.current old.window old.stage
      → stage_work new.stage < stage_work old.stage
      → IsPaid allowed before new
  paid_named paid spends same size owed called falls =
      let pays = spends.paid (omega (arith, paid.names, falls)) in
      let calls_paid = spends.paid_calls (omega (arith, paid.names, falls)) in
      record {
        bytes = rw (same.room.choice, same.room.entries, same.room.name, same.next, same.current, size) (omega (arith, paid.bytes, pays, owed));
        calls = rw (same.next, same.current, size) (omega (arith, paid.calls, calls_paid, called, later same));
        names = rw (same.room.entries, same.next) (omega (arith, paid.names, spends.one_name, falls));
      }

  pub paid_headed : IsPaid allowed before old → Books calls spent old.meter new.meter → SameEntry old new → new.meter.source.size ≡ old.meter.source.size
      → owed_of old.meter.source.size old.current new.window new.stage + spent ≤ owed_of old.meter.source.size old.current old.window old.stage
      → calls_owed old.meter.source.size old.current new.window new.stage + calls ≤ calls_owed old.meter.source.size old.current old.window old.stage
      → stage_work new.stage ≤ stage_work old.stage
      → IsPaid allowed before new
  paid_headed paid books same size owed called falls = record {
    bytes = rw (same.room.choice, same.room.entries, same.room.name, same.next, same.current, size, books.same_names) (omega (arith, paid.bytes, books.asked, owed));
    calls = rw (same.next, same.current, size, books.same_names) (omega (arith, paid.calls, books.most_calls, called, later same));
    names = rw (same.room.entries, same.next, books.same_names) (omega (arith, paid.names, falls));
  }

-- ---- what was fetched since

module _ {S A : Type 0} (calls spent begun : ℕ) (old new : Walk S A) where
  pub within_named : new.name.limit ≡ old.name.limit → Spends calls spent old.name.limit old.meter new.meter → unread_bytes new + spent ≤ unread_bytes old + begun
      → IsWithinSince old.meter.asked old.meter.fetched old.meter.names (unread_bytes old + begun) new
  within_named room spends owes = λ few.
      let before : old.meter.names + 1 < 2 ^ 128 = omega (arith, few, spends.more_names) in
      let pays = spends.paid before in
      let fetched = spends.paid_fetched before in
      (rw room (omega (arith, pays, owes)), rw room (omega (arith, fetched, owes)))

-- ---- entries

-- a stream has fewer than 2^32 records
pub few_records : (size : ℕ) (kind : StreamKind) (shape : Shape) → size < 2 ^ 32 → FitsIn size kind shape → shape.count < 2 ^ 32
few_records size kind shape small fits = few shape.count shape.stride fits.records fits.stride where
  few : (count stride : ℕ) → shape.first + count * stride ≤ size → (0 < count → record_size kind ≤ stride) → count < 2 ^ 32
  few zero stride records wide = omega arith
  few (suc n) stride records wide =
      let one : 1 ≤ stride = omega (arith, wide (omega arith), least_record kind) in
      omega (arith, small, records, mul-le-mul_left (suc n) one)

pub entry_cost-listed : (f : ℕ → ℕ) (size : ℕ) (e : Entry) (kind : StreamKind) → kind_of e.stream_type ≡ Some kind → IsInside e.location.rva e.location.size size
    → entry_cost_by f size e ≡ f e.location.size
unfolding entry_cost_by
entry_cost-listed f size e kind known (inl none) = rw (known, none) refl
entry_cost-listed f size e kind known (inr within) = grind (arith, common_steps, known, within)

-- ---- the bound

module _ {S A : Type 0} (allowed : Amount) (w : Walk S A) where
  -- a walk that has given nothing
  pub paid_new : w.stage ≡ Between → w.meter.names ≡ 0 → vec_len w.entries < 2 ^ 32
      → w.meter.asked + cost_of w.choice w.meter.source.size (drop w.next w.entries.items) ≤ allowed.bytes
      → w.meter.calls + calls_of w.window.room w.choice w.meter.source.size (drop w.next w.entries.items) ≤ allowed.calls → IsPaid allowed 0 w
  paid_new between none few fetched called = record {
    bytes = rw (between, none) (omega (arith, fetched));
    calls = rw (between, none) (omega (arith, called));
    names = rw (between, none) (omega (arith, few));
  }

  -- what any walk has fetched, and its calls
  pub paid_bound : IsPaid allowed 0 w → w.meter.asked ≤ allowed.bytes + w.meter.names * (w.name.limit + 4)
  paid_bound paid = omega (arith, paid.bytes)

  pub called_bound : IsPaid allowed 0 w → w.meter.calls ≤ allowed.calls + w.meter.names * 2
  called_bound paid = omega (arith, paid.calls)

-- and the count of names is not at its greatest
pub few_names : {S A : Type 0} (w : Walk S A) → IsBounded w → w.meter.names + 1 < 2 ^ 128
few_names w bounded = omega (arith, bounded.names)

module _ {S A : Type 0} (old new : Walk S A) where
  pub bounded_then : IsBounded old → ((allowed : Amount) (before : ℕ) → IsPaid allowed before old → IsPaid allowed before new) → SameRoom old new → new.meter.source.size ≡ old.meter.source.size → IsBounded new
  bounded_then bounded pays same size =
      let was : allowed_of new ≡ allowed_of old = rw (same.entries, same.choice, same.window, size) refl in
      subst (λ allowed. IsPaid allowed 0 new) (sym was) (pays _ 0 bounded)

  pub bounded_new : (source : SourceState) (choice : Choice) (limits : Limits) (result : Result ℕ FetchFault) → IsNewWalk source choice limits old → CountsRanges old result new → IsBounded new
  bounded_new source choice limits result opened counts =
      let same = counts.same in
      let books = counts.books in
      paid_new _ new (counts.stage ∙ opened.stage) (books.same_names ∙ opened.spends.names) counts.sound.few
      (rw (same.next, opened.next, same.room.entries, same.room.choice, books.fetches.same_size) (omega (arith, books.asked, opened.spends.asked, opened.reads.entries)))
      (rw (same.next, opened.next, same.room.entries, same.room.choice, same.room.window, opened.reads.entries, books.fetches.same_size) (omega (arith, books.most_calls, opened.spends.called, opened.reads.entries)))
