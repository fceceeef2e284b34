-- The passes of an object, one after the other.
use Rattle.std.proofs.Common.{◌≡◌, ◌+◌, ◌*◌, ◌∙◌, ◌≤◌, ℕ, List, [], ◌++◌, Option, Result, Ok, Err, arith, refl, subst, sym}
use Rattle.std.proofs.lemmas.List.{append-nil}
use Rattle.std.specs.Prelude.{sum_by}
use Rattle.mdmp_source.specs.Output.{HasRefused, OutState, PutsAll, Refusals}
use Rattle.mdmp_source.specs.OutputLaws.{PutsAll-PutsAll, PutsPrefix-front, PutsPrefix-last}
use Rattle.mdmp_lister.specs.declared.item.Item.{Item}
use Rattle.mdmp_lister.specs.declared.meter.Amount.{Amount}
use Rattle.mdmp_lister.specs.declared.meter.MeterCounts.{MeterCounts}
use Rattle.mdmp_lister.specs.Listed.{cost_of}
use Rattle.mdmp_lister.specs.Walker.{WalkerState}
use Rattle.mdmp_summary.specs.BadEntries.{all_items}
use Rattle.mdmp_summary.specs.Spending.{PassPaid, PaysPasses, RisesByNames, all_listed, settled}
use Rattle.mdmp_summary.specs.Walking.{IsSameListing}
use Rattle.mdmp_summary.proofs.Paying.{few_names}
use Rattle.mdmp_summary.proofs.Told.{good_still, same_listing_none, same_listing_then}
use Rattle.mdmp_engines.specs.Causes.{HasOutCause}
use Rattle.mdmp_engines.specs.ObjectRuns.{LeavesPasses, PrintsAnswer, PrintsWhileRead, ReadsItems, ReadsLists}
use Rattle.mdmp_engines.specs.ObjectVisits.{module_room, thread_room}
use Rattle.mdmp_engines.specs.declared.fault.ToolFault.{ToolFault}
use Rattle.mdmp_engines.specs.declared.fault.ToolFault.TheVariants as tool
use Rattle.mdmp_engines.proofs.Objects.{short_behind, short_front}
use Rattle.mdmp_engines.proofs.Symbols.{cause_then}

-- ---- one text and then another

pub prints_behind : {T : Type 0} (r : Result T ToolFault) (a b c : OutState) (first next : List ℕ) → PutsAll a first b → PrintsWhileRead next b r c → PrintsWhileRead (first ++ next) a r c
prints_behind (Ok x) a b c first next put more = PutsAll-PutsAll a b c first next put more
prints_behind (Err tool.Out) a b c first next put cut = PutsPrefix-last a b c first next put cut
prints_behind (Err f) a b c first next put short = (short.0, short_behind a b c first next put short.1)

pub prints_front : (T U : Type 0) (f : ToolFault) (a b : OutState) (first next : List ℕ) → PrintsWhileRead {T = T} first a (Err f) b → PrintsWhileRead {T = U} (first ++ next) a (Err f) b
prints_front T U tool.Out a b first next cut = PutsPrefix-front a b first next cut
prints_front T U f a b first next short = (short.0, short_front a first next b short.1)

pub prints_answer : (T : Type 0) (bad : ℕ) (f : ToolFault) (a b c : OutState) (first next : List ℕ) → PutsAll a first b → PrintsWhileRead {T = T} next b (Err f) c → PrintsAnswer (first ++ next) bad a (Err f) c
prints_answer T bad tool.Out a b c first next put cut = PutsPrefix-last a b c first next put cut
prints_answer T bad f a b c first next put short = (short.0, short_behind a b c first next put short.1)

-- ---- causes of the output

pub out_then : {T : Type 0} (r : Result T ToolFault) (a b c : OutState) → b.failures ≡ a.failures → HasOutCause b r c → HasOutCause a r c
out_then (Ok x) a b c same is = is ∙ same
out_then (Err tool.Out) a b c same is = subst (λ (s : Refusals). HasRefused s c.failures) same is
out_then (Err f) a b c same is = is ∙ same

-- ---- passes

module _ (old mid new : WalkerState) (same : IsSameListing old.list mid.list) where
  both_by : (count : MeterCounts → ℕ) → PassPaid count 1 old mid → PassPaid count 1 mid new → PassPaid count 2 old new
  both_by count first then =
      let all : 1 * all_listed mid ≡ 1 * all_listed old = λ i. 1 * cost_of (same.choice i) (same.same_file.fetches.same_size i) (same.entries i) in
      let rises = first.rises in
      let next = subst (λ l. RisesByNames (l + 4) (settled count mid + 1 * all_listed mid) mid.mark.names (settled count new) new.mark.names) same.limit then.rises in
      record { rises = omega (arith, all, rises, next); kept = λ kept. then.kept (first.kept kept) }

  pub pays_both : PaysPasses 1 old mid → PaysPasses 1 mid new → PaysPasses 2 old new
  pays_both first then = record {
    more_names = let one = first.more_names in let two = then.more_names in omega (arith, one, two);
    asked = λ names. both_by (λ c. c.asked) (first.asked (few_names mid.list.counts.names new.list.counts.names then.more_names names)) (then.asked names);
    fetched = λ names. both_by (λ c. c.fetched) (first.fetched (few_names mid.list.counts.names new.list.counts.names then.more_names names)) (then.fetched names);
  }

more_by : (count : MeterCounts → ℕ) (old new : WalkerState) → PassPaid count 1 old new → PassPaid count 2 old new
more_by count old new paid = record { rises = let rises = paid.rises in omega (arith, rises); kept = paid.kept }

pub pays_more : (old new : WalkerState) → PaysPasses 1 old new → PaysPasses 2 old new
pays_more old new pays = record {
  more_names = pays.more_names;
  asked = λ names. more_by (λ c. c.asked) old new (pays.asked names);
  fetched = λ names. more_by (λ c. c.fetched) old new (pays.fetched names);
}

none_by : (count : MeterCounts → ℕ) (v : WalkerState) → PassPaid count 2 v v
none_by count v = record { rises = omega arith; kept = λ kept. kept }

pub pays_none : (v : WalkerState) → PaysPasses 2 v v
pays_none v = record { more_names = omega arith; asked = λ few. none_by (λ c. c.asked) v; fetched = λ few. none_by (λ c. c.fetched) v }

-- ---- what they leave

pub leaves_both : {T : Type 0} (old mid new : WalkerState) (r : Result T ToolFault) → LeavesPasses {T = Unit {0}} 1 old (Ok tt) mid → LeavesPasses 1 mid r new → LeavesPasses 2 old r new
leaves_both old mid new r first then =
    let fetches = first.same.same_file.fetches in
    record {
      pays = pays_both old mid new first.same first.pays then.pays;
      same = same_listing_then old.list mid.list new.list first.same then.same;
      good = λ file good. then.good file (good_still file _ old.list.source mid.list.source fetches good);
      cause = cause_then _ old.list.source mid.list.source new.list.source r fetches then.cause;
      over = then.over;
      going = then.going;
      stops = then.stops;
    }

-- the first pass was not ended
pub leaves_first : (old new : WalkerState) (f : ToolFault) → LeavesPasses {T = Unit {0}} 1 old (Err f) new → LeavesPasses {T = Unit {0}} 2 old (Err f) new
leaves_first old new f first = record {
  pays = pays_more old new first.pays;
  same = first.same;
  good = first.good;
  cause = first.cause;
  over = first.over;
  going = tt;
  stops = first.stops;
}

-- the output refused between them, or before
pub leaves_out : (old new : WalkerState) → LeavesPasses {T = Unit {0}} 1 old (Ok tt) new → LeavesPasses {T = Unit {0}} 2 old (Err tool.Out) new
leaves_out old new first = record { pays = pays_more old new first.pays; same = first.same; good = λ file good. tt; cause = tt; over = tt; going = tt; stops = tt }

pub refused_pass : (old new : WalkerState) → LeavesPasses {T = Unit {0}} 1 old (Ok tt) new → LeavesPasses {T = Unit {0}} 1 old (Err tool.Out) new
refused_pass old new first = record { pays = first.pays; same = first.same; good = λ file good. tt; cause = tt; over = tt; going = tt; stops = tt }

pub leaves_none : {T : Type 0} (v : WalkerState) → LeavesPasses {T = T} 2 v (Err tool.Out) v
leaves_none v = record { pays = pays_none v; same = same_listing_none v.list; good = λ file good. tt; cause = tt; over = tt; going = tt; stops = tt }

-- ---- what they read beside the listing

none_of : (f : Item → ℕ) → sum_by f [] ≡ 0
none_of f = refl

-- the modules alone
pub reads_first : {T U : Type 0} (limit : ℕ) (content : Option (List ℕ)) (f : ToolFault) (old new : Amount) → ReadsItems {T = T} (module_room limit) limit content (Err f) old new → ReadsLists {T = U} limit content (Err f) old new
reads_first limit content f old new first = record {
  modules = first.items;
  threads = [];
  bytes = let bytes = first.outside.bytes in let none = none_of (λ x. (thread_room 0 x).bytes) in omega (arith, bytes, none);
  all = λ file known. (first.all file known, (all_items file limit, refl));
}

-- all modules, and then threads
module _ {U : Type 0} (limit : ℕ) (content : Option (List ℕ)) (old mid new : Amount) (first : ReadsItems {T = Unit {0}} (module_room limit) limit content (Ok tt) old mid) where
  pub reads_none : (f : ToolFault) → ReadsLists {T = U} limit content (Err f) old mid
  reads_none f = record {
    modules = first.items;
    threads = [];
    bytes = let bytes = first.outside.bytes in let none = none_of (λ x. (thread_room 0 x).bytes) in omega (arith, bytes, none);
    all = λ file known. (([], first.all file known ∙ sym (append-nil first.items)), (all_items file limit, refl));
  }

  -- both lists
  reads_by : (r : Result U ToolFault) (second : ReadsItems (thread_room 0) limit content r mid new) → new.bytes ≤ old.bytes + sum_by (λ x. (module_room limit x).bytes) first.items + sum_by (λ x. (thread_room 0 x).bytes) second.items
  reads_by r second = let one = first.outside.bytes in let two = second.outside.bytes in omega (arith, one, two)

  pub reads_both : (r : Result U ToolFault) → ReadsItems (thread_room 0) limit content r mid new → ReadsLists limit content r old new
  reads_both (Ok x) second = record {
    modules = first.items;
    threads = second.items;
    bytes = reads_by (Ok x) second;
    all = λ file known. (first.all file known, second.all file known);
  }
  reads_both (Err f) second = record {
    modules = first.items;
    threads = second.items;
    bytes = reads_by (Err f) second;
    all = λ file known. (([], first.all file known ∙ sym (append-nil first.items)), second.all file known);
  }

-- neither was begun
pub reads_neither : {U : Type 0} (limit : ℕ) (content : Option (List ℕ)) (f : ToolFault) (old : Amount) → ReadsLists {T = U} limit content (Err f) old old
reads_neither limit content f old = record {
  modules = [];
  threads = [];
  bytes = let one = none_of (λ x. (module_room limit x).bytes) in let two = none_of (λ x. (thread_room 0 x).bytes) in omega (arith, one, two);
  all = λ file known. ((all_items file limit, refl), (all_items file limit, refl));
}
