-- Looks and passes one after the other: the listing stays, and an error has its cause in all of them.
use Rattle.std.proofs.Common.{◌≡◌, ℕ, ◌+◌, List, Option, None, Result, Ok, Err, refl, subst, sym, ◌∙◌, false, true}
use Rattle.std.specs.Prelude.{IfErr, IfOk, IsTrue, MatchResult}
use Rattle.mdmp_source.specs.Count.{raised}
use Rattle.mdmp_source.specs.Source.{FetchesAtMost, FetchesSome, SourceState}
use Rattle.mdmp_source.specs.SourceLaws.{fetches_then, told_later}
use Rattle.mdmp_source.specs.Store.{IsGood}
use Rattle.mdmp_lister.specs.declared.fault.FaultKind.{FaultKind}
use Rattle.mdmp_lister.specs.declared.fault.FaultKind.TheVariants.{Source, Budget}
use Rattle.mdmp_lister.specs.declared.fault.ListFault.{ListFault}
use Rattle.mdmp_lister.specs.declared.fault.OpenFault.{OpenFault}
use Rattle.mdmp_lister.specs.declared.fault.OpenFault.TheVariants as opening
use Rattle.mdmp_lister.specs.declared.limits.Limits.{Limits}
use Rattle.mdmp_lister.specs.declared.meter.Amount.{Amount}
use Rattle.mdmp_lister.specs.declared.meter.MeterCounts.{MeterCounts}
use Rattle.mdmp_lister.specs.declared.counts.Counts.{Counts}
use Rattle.mdmp_lister.specs.Counts.{AreHeld, numbers_of}
use Rattle.mdmp_lister.specs.Fault.{IsOfStore, IsUnobtained, is_unobtained}
use Rattle.mdmp_lister.specs.Lister.{IsSameLister, ListerState}
use Rattle.mdmp_lister.specs.Memory.{IsWalkRefusal}
use Rattle.mdmp_lister.specs.Meter.{IsUnmade, is_passed}
use Rattle.mdmp_lister.specs.Opening.{IsUnread, TellsOver}
use Rattle.mdmp_lister.specs.Walker.{WalkerState}
use Rattle.mdmp_lister.proofs.Fetches.{FetchesAtMost-none, told_in_later}
use Rattle.mdmp_summary.specs.Spending.{ReadsOutside}
use Rattle.mdmp_summary.specs.Summing.{IsCallFault, IsFileFault, IsSummaryFault, IsUnreadIn}
use Rattle.mdmp_summary.specs.Walking.{IsLookFault, IsPassFault, IsSameListing, KeepsItsBudget}
use Rattle.mdmp_summary.specs.declared.summary.SummaryFault.{SummaryFault}
use Rattle.mdmp_summary.specs.declared.summary.SummaryFault.TheVariants as faults
use Rattle.mdmp_summary.specs.Visiting.{IsEndTold}
use Rattle.mdmp_summary.specs.declared.visiting.VisitEnd.{VisitEnd}
use Rattle.mdmp_summary.specs.declared.visiting.VisitEnd.TheVariants as ends

-- ---- errors

pub obtained : (kind : FaultKind) → is_unobtained kind ≡ false → IsUnobtained kind → ⊥
obtained (Source fault) same = λ _. cc
obtained Budget same = λ _. cc
obtained _ same = λ is. is

pub unobtained : (kind : FaultKind) → is_unobtained kind ≡ true → IsUnobtained kind
unobtained (Source fault) same = tt
unobtained Budget same = tt
unobtained _ same = absurd (cc)

-- ---- the listing stays

pub same_listing_then : (a b c : ListerState) → IsSameListing a b → IsSameListing b c → IsSameListing a c
same_listing_then a b c first then = record {
  header_is = then.header_is ∙ first.header_is;
  entries = then.entries ∙ first.entries;
  choice = then.choice ∙ first.choice;
  limit = then.limit ∙ first.limit;
  rooms = then.rooms ∙ first.rooms;
  budget = then.budget ∙ first.budget;
  start = then.start ∙ first.start;
  same_file = record {
    count = first.same_file.count + then.same_file.count;
    fetches = fetches_then first.same_file.count then.same_file.count a.source b.source c.source first.same_file.fetches then.same_file.fetches;
  };
}

pub same_listing_none : (a : ListerState) → IsSameListing a a
same_listing_none a = record {
  header_is = refl;
  entries = refl;
  choice = refl;
  limit = refl;
  rooms = refl;
  budget = refl;
  start = refl;
  same_file = record { count = 0; fetches = FetchesAtMost-none a.source };
}

-- a request for the next item leaves the same listing
pub next_listing : (n : ℕ) (a b : ListerState) → IsSameLister a b → FetchesAtMost n a.source b.source → IsSameListing a b
next_listing n a b same fetches = record {
  header_is = same.header_is;
  entries = same.entries;
  choice = same.choice;
  limit = same.limit;
  rooms = same.rooms;
  budget = same.budget;
  start = same.start;
  same_file = record { count = n; fetches = fetches };
}

-- and so does an entry that is skipped
pub skipped_listing : (a b : ListerState) → IsSameLister a b → b.source ≡ a.source → IsSameListing a b
skipped_listing a b same source = next_listing 0 a b same (subst (λ (s : SourceState). FetchesAtMost 0 a.source s) (sym source) (FetchesAtMost-none a.source))

-- or one that is sought
pub sought_listing : (a b : ListerState) → b ≡ record a { left = b.left; stop = b.stop; unread = b.unread; standing = b.standing; records = b.records; work = b.work } → IsSameListing a b
sought_listing a b stays = record {
  header_is = λ i. (stays i).header;
  entries = λ i. (stays i).entries;
  choice = λ i. (stays i).choice;
  limit = λ i. (stays i).limit;
  rooms = λ i. (stays i).rooms;
  budget = λ i. (stays i).counts.budget;
  start = λ i. (stays i).counts.start;
  same_file = record { count = 0; fetches = subst (λ (l : ListerState). FetchesAtMost 0 a.source l.source) (sym stays) (FetchesAtMost-none a.source) };
}

-- or what is read outside it
pub outside_listing : (most : Amount) (old new : WalkerState) → ReadsOutside most old new → IsSameListing old.list new.list
outside_listing most old new reads = record {
  header_is = λ i. (reads.same i).list.header;
  entries = λ i. (reads.same i).list.entries;
  choice = λ i. (reads.same i).list.choice;
  limit = λ i. (reads.same i).list.limit;
  rooms = λ i. (reads.same i).list.rooms;
  budget = reads.aside.same_budget;
  start = reads.aside.same_start;
  same_file = record { count = most.bytes; fetches = reads.fetches };
}

-- what a walker counts tells that it kept to its budget
pub keeps_counted : (a b : ListerState) (c : Counts) → IsSameListing a b → c ≡ numbers_of b → AreHeld b c → KeepsItsBudget a b
keeps_counted a b c same is held = record { same = same; held = subst (AreHeld b) is held }

pub keeps_then : (a b c : ListerState) → IsSameListing a b → KeepsItsBudget b c → KeepsItsBudget a c
keeps_then a b c first then = record { same = same_listing_then a b c first then.same; held = then.held }

-- ---- causes

-- an error of a look is one of all looks before it too
pub look_later : (a b c : ListerState) (f : ListFault) → FetchesSome a.source b.source → IsLookFault b c f → IsLookFault a c f
look_later a b c f before look = record {
  told = told_in_later c.current f before.count a.source b.source c.source before.fetches look.told;
  unchanged = look.unchanged;
  refused = look.refused;
  next = look.next;
}

pub pass_later : (a b c : ListerState) (f : ListFault) → FetchesSome a.source b.source → IsPassFault b c f → IsPassFault a c f
pass_later a b c f before pass = record { unobtained = pass.unobtained; look = look_later a b c f before pass.look; entry = pass.entry; number = pass.number; stop = pass.stop }

pub call_later : (a b c : ListerState) (f : SummaryFault) → FetchesSome a.source b.source → IsCallFault b c f → IsCallFault a c f
call_later a b c (faults.Opening fault) before is = is
call_later a b c (faults.List fault) before is = pass_later a b c fault before is
call_later a b c (faults.Source fault) before is = record { told = told_later fault before.count a.source b.source c.source before.fetches is.told; going = is.going }

-- an error of what a visitor read is one of all that was read before it too
pub end_later : (end : VisitEnd) (n : ℕ) (a b c : SourceState) → FetchesAtMost n a b → IsEndTold b c end → IsEndTold a c end
end_later ends.Stopped n a b c before is = is
end_later (ends.Source fault) n a b c before is = told_later fault n a b c before is

-- ---- a known file

of_known : (limits : Limits) (F : List ℕ) (a b : ListerState) (f : SummaryFault) → IsCallFault a b f → IsSummaryFault limits F f
of_known limits F a b (faults.Opening fault) is = absurd is
of_known limits F a b (faults.List fault) is = is.unobtained
of_known limits F a b (faults.Source fault) is = tt

-- what else holds is told with it
pub told_known : {T : Type 0} (limits : Limits) (F : List ℕ) (P : Type 0) (a b : ListerState) (x y : T) (result : Result T SummaryFault) → P → x ≡ y
    → IfOk result (λ s. s ≡ x) → IfErr result (IsCallFault a b) → MatchResult result (λ s. P × (s ≡ y)) (IsSummaryFault limits F)
told_known limits F P a b x y (Ok s) p e is of = (p, is ∙ e)
told_known limits F P a b x y (Err f) p e is of = of_known limits F a b f of

-- ---- a store that never fails, and no read limit

obtained_kind : (most offset size z : ℕ) (c : MeterCounts) (kind : FaultKind) → c.budget ≡ None → IsUnobtained kind → (IsOfStore kind → ⊥) → IsUnmade most kind offset size c z → ⊥
obtained_kind most offset size z c (Source fault) none is not refused = not tt
obtained_kind most offset size z c Budget none is not refused = let P : Option ℕ → Type 0 = λ b. IsTrue (is_passed b (raised c.fetched size)) in let no : P None = subst P none refused.passes in cc
obtained_kind most offset size z c _ none is not refused = is

obtained_all : (limits : Limits) (F : List ℕ) (a b : ListerState) (f : SummaryFault) → b.counts.budget ≡ None → IsCallFault a b f → (IsUnreadIn f → ⊥) → IsFileFault limits F f
obtained_all limits F a b (faults.Opening fault) none is not = absurd is
obtained_all limits F a b (faults.List fault) none is not = obtained_kind _ fault.offset fault.size b.source.size b.counts fault.kind none is.unobtained not is.look.refused
obtained_all limits F a b (faults.Source fault) none is not = not tt

pub told_good : {T : Type 0} (limits : Limits) (F : List ℕ) (a b : ListerState) (result : Result T SummaryFault) → b.counts.budget ≡ None
    → IfErr result (IsCallFault a b) → IfErr result (λ f. IsUnreadIn f → ⊥) → IfErr result (IsFileFault limits F)
told_good limits F a b (Ok s) none is not = tt
told_good limits F a b (Err f) none is not = obtained_all limits F a b f none is not

-- a file that is not opened
pub opened_good : (limits : Limits) (F : List ℕ) (old : SourceState) (fetched : ℕ) (fault : OpenFault) → limits.budget ≡ None → IsWalkRefusal limits F fault → (IsUnread fault → ⊥) → TellsOver limits old fetched fault
    → IsFileFault limits F (faults.Opening fault)
opened_good limits F old fetched (opening.Source fault) none is not over = not tt
opened_good limits F old fetched (opening.Budget offset size) none is not over =
    let P : Option ℕ → Type 0 = λ b. IsTrue (is_passed b (raised fetched size)) in let no : P None = subst P none over.passes in absurd (cc)
opened_good limits F old fetched (opening.TooShort size) none is not over = is
opened_good limits F old fetched opening.BadSignature none is not over = is
opened_good limits F old fetched (opening.BadVersion low) none is not over = is
opened_good limits F old fetched (opening.DirectoryOutside offset size) none is not over = is
opened_good limits F old fetched (opening.TooManyRanges count) none is not over = is
opened_good limits F old fetched opening.Memory none is not over = is
opened_good limits F old fetched (opening.MemoryLimit held) none is not over = is

pub good_still : (F : List ℕ) (n : ℕ) (a b : SourceState) → FetchesAtMost n a b → IsGood a.store F → IsGood b.store F
good_still F n a b fetches good = record { known = fetches.same_content ∙ good.known; reliable = rw fetches.same_reliable good.reliable }
