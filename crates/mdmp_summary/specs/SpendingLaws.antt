-- What a summary of a file that was just opened fetches.
use Rattle.std.proofs.Common.{◌≡◌, ◌≤◌, ◌+◌, ◌*◌, ◌∙◌, ℕ, List, Option, None, Some, Result, Ok, Err, ap, arith, length, refl, subst, sym}
use Rattle.std.proofs.Math.Nat.{mul-le-mul_right}
use Rattle.std.proofs.lemmas.Bool.Decides.{nat_tests}
use Rattle.mdmp_source.specs.Count.{raised}
use Rattle.mdmp_source.specs.Source.{SourceState}
use Rattle.mdmp_lister.specs.declared.choice.Choice.{Choice}
use Rattle.mdmp_lister.specs.declared.choice.Choice.TheVariants.{All}
use Rattle.mdmp_lister.specs.declared.limits.Limits.{Limits}
use Rattle.mdmp_lister.specs.declared.meter.MeterCounts.{MeterCounts}
use Rattle.mdmp_lister.specs.Format.Bounds.{fetch_bound}
use Rattle.mdmp_lister.specs.Format.Listing.{entry_count}
use Rattle.mdmp_lister.specs.Listed.{entry_cost}
use Rattle.mdmp_lister.specs.Meter.{KeepsTo}
use Rattle.mdmp_lister.specs.Walker.{IsNewWalker, WalkerState}
use Rattle.mdmp_summary.specs.BadEntries.{all_items}
use Rattle.mdmp_summary.specs.Spending.{CountsNames, KeepsSettled, PassPaid, RisesByNames, SpendsPasses, all_listed, room_for_name, settled}
use Rattle.mdmp_summary.specs.Summary.{file_summary}
use Rattle.mdmp_summary.specs.Summing.{SpendsSummary, contexts_for, passes_for}
use Rattle.mdmp_lister.specs.NamesFetched.{FetchesNames, names_bytes}
use Rattle.mdmp_summary.specs.Walking.{IsSameListing, KeepsItsBudget}
use Rattle.mdmp_summary.specs.declared.summary.Crash.{Crash}
use Rattle.mdmp_summary.specs.declared.summary.FileSummary.{FileSummary}
use Rattle.mdmp_summary.specs.declared.summary.SummaryFault.{SummaryFault}
use Rattle.mdmp_summary.specs.declared.summary.SummaryFault.TheVariants as faults

-- what keeps to fewer passes keeps to more
more_by : (count : MeterCounts → ℕ) (m n : ℕ) (old new : WalkerState) → m ≤ n → PassPaid count m old new → PassPaid count n old new
more_by count m n old new few paid =
    let cost : m * all_listed old ≤ n * all_listed old = mul-le-mul_right (all_listed old) few in
    let rises = paid.rises in
    record { rises = omega (arith, cost, rises); kept = paid.kept }

pub spends_more : (m n a b : ℕ) (old new : WalkerState) → m ≤ n → a ≤ b → SpendsPasses m a old new → SpendsPasses n b old new
spends_more m n a b old new few contexts spends = record {
  more_names = spends.more_names;
  asked = λ names. more_by (λ c. c.asked) m n old new few (spends.asked names);
  fetched = λ names. more_by (λ c. c.fetched) m n old new few (spends.fetched names);
  aside = let one = spends.aside in omega (arith, one, contexts);
  aside_calls = let one = spends.aside_calls in omega (arith, one, contexts);
}

-- so a summary reads at most what two passes and a context cost
spends_crash : (crash : Option Crash) (old new : WalkerState) → SpendsPasses (passes_for crash) (contexts_for crash) old new → SpendsPasses 2 1 old new
spends_crash None old new spends = spends_more 1 2 0 1 old new (omega arith) (omega arith) spends
spends_crash (Some crash) old new spends = spends

pub spends_both : (result : Result FileSummary SummaryFault) (old new : WalkerState) → SpendsSummary result old new → SpendsPasses 2 1 old new
spends_both (Ok summary) old new spends = spends_crash summary.crash old new spends
spends_both (Err (faults.Opening fault)) old new spends = absurd spends
spends_both (Err (faults.List fault)) old new spends = spends.0
spends_both (Err (faults.Source fault)) old new spends = spends_more 1 2 1 1 old new (omega arith) (omega arith) spends

-- the bytes that a summary fetches for the listing at most: of a file with so many entries, whose listed streams have so many
-- bytes, where so many names were reached. A name counts as often as it is reached
abbrev pub summary_bound : (limit entries listed names : ℕ) → ℕ
summary_bound limit entries listed names = 32 + 12 * entries + 2 * listed + names * (limit + 4)

-- that is at most twice the bound of a listing
pub twice_listing : (limit entries listed names : ℕ) → summary_bound limit entries listed names ≤ 2 * fetch_bound limit entries listed names
twice_listing limit entries listed names = omega arith

module _ (source : SourceState) (choice : Choice) (limits : Limits) (old new : WalkerState) (opened : IsNewWalker source choice limits old) (spends : SpendsPasses 2 1 old new) (same : IsSameListing old.list new.list) where
  begun_kept : (count : MeterCounts → ℕ) → KeepsSettled count old
  begun_kept count =
      subst (λ (m : MeterCounts). RisesByNames (room_for_name old) (count m + entry_cost old.list.source.size old.list.current) m.names (count old.list.counts) old.list.counts.names)
      (sym opened.mark) (omega arith)

  most_by : (count : MeterCounts → ℕ) (begun : ℕ) → count old.list.counts ≤ begun → PassPaid count 2 old new
      → count new.list.counts ≤ begun + 2 * all_listed old + new.list.counts.names * room_for_name old
  most_by count begun few paid =
      let none : old.mark.names ≡ 0 = ap (λ (m : MeterCounts). m.names) opened.mark ∙ opened.list.counts.names in
      let zero : old.mark.names * room_for_name old ≡ 0 * room_for_name old = ap (λ n. n * room_for_name old) none in
      let unbegun = opened.unbegun in
      let mark = ap count opened.mark in
      let rises = paid.rises in
      let kept : RisesByNames (room_for_name old) (settled count new) new.mark.names (count new.list.counts) new.list.counts.names =
      subst (λ l. RisesByNames (l + 4) (settled count new) new.mark.names (count new.list.counts) new.list.counts.names) same.limit (paid.kept (begun_kept count)) in
      omega (arith, zero, unbegun, mark, rises, kept, few)

  -- what was asked for, with a read that the read limit forbids: so a read limit of that many bytes never ends a summary
  pub asked_most : CountsNames new → new.list.counts.asked ≤ summary_bound old.list.limit old.list.header.number_of_streams (all_listed old) new.list.counts.names
  asked_most few = most_by (λ c. c.asked) (32 + 12 * old.list.header.number_of_streams) opened.asked (spends.asked few)

-- ---- at least

-- what a summary of F fetches at least for its listing: the header and the directory, and in each pass the names of all items
abbrev pub least_summed : List ℕ → ℕ → ℕ
least_summed F limit = raised (32 + 12 * entry_count F) (passes_for (file_summary F limit).crash * names_bytes (all_items F limit))

-- that is within the budget
abbrev pub KeepsSummary : Option ℕ → List ℕ → ℕ → Type 0
KeepsSummary budget F limit = KeepsTo budget (least_summed F limit)

-- a count below one that is within the budget is within it too
pub kept_below : (budget : Option ℕ) (n m : ℕ) → n ≤ m → KeepsTo budget m → KeepsTo budget n
kept_below None n m few kept = refl
kept_below (Some most) n m few kept = grind (arith, nat_tests, kept)

-- a walker that was just opened over F, and kept to its budget as it made a summary, fetched no less
pub keeps_summary : (source : SourceState) (limits : Limits) (F : List ℕ) (opened ended : WalkerState) → source.store.content ≡ Some F → IsNewWalker source All limits opened → KeepsItsBudget opened.list ended.list
    → FetchesNames (passes_for (file_summary F limits.name).crash) (all_items F limits.name) opened.list.counts.fetched ended.list.counts.fetched → KeepsSummary limits.budget F limits.name
keeps_summary source limits F opened ended known is keeps named =
    let times = passes_for (file_summary F limits.name).crash in
    let all = all_items F limits.name in
    let entries : length opened.list.entries ≡ entry_count F = (is.list.read.directory F known).count in
    let begun : opened.list.counts.fetched ≡ 32 + 12 * entry_count F = is.fetched ∙ ap (λ n. 32 + 12 * n) entries in
    let least : least_summed F limits.name ≤ ended.list.counts.fetched = subst (λ n. FetchesNames times all n ended.list.counts.fetched) begun named in
    let kept = kept_below ended.list.counts.budget (least_summed F limits.name) ended.list.counts.fetched least keeps.held.kept.kept in
    subst (λ (b : Option ℕ). KeepsTo b (least_summed F limits.name)) (keeps.same.budget ∙ is.list.counts.budget_is) kept
