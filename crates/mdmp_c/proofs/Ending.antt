-- How a call that gives rows ends.
use Rattle.std.proofs.Common.{◌≡◌, ◌≤◌, Bool, ◌∙◌, ℕ, false, arith, List, [], Option, Some, None, ap, refl, subst, sym, length}
use Rattle.std.specs.Prelude.{filter_map, nat_lt, if◌then◌else◌}
use Rattle.std.proofs.lemmas.Bool.Decides.{nat_tests}
use Rattle.std.proofs.lemmas.Option.{none-some}
use Rattle.std.proofs.lemmas.List.Elements.{filter_map-append}
use Rattle.mdmp_c.specs.declared.fault.PlainFault.{PlainFault}
use Rattle.mdmp_c.specs.Fault.{budget_fault, list_told, open_fault, plain_by_kind, plain_list_fault, status_of, told_unless, wide_fault}
use Rattle.mdmp_c.specs.Giving.{Ends, GivesList, answers, bad_limits, stops, told_count, wants}
use Rattle.mdmp_c.specs.GivenRows.{AreNamesWithin}
use Rattle.mdmp_c.specs.Limits.{AreGiven, KeepsChecking, KeepsListing, KeepsMemory, KeepsText}
use Rattle.mdmp_c.specs.declared.limits.PlainLimits.{PlainLimits}
use Rattle.mdmp_lister.specs.declared.limits.Limits.{Limits}
use Rattle.mdmp_source.specs.Count.{raised}
use Rattle.mdmp_source.specs.Source.{SourceState}
use Rattle.mdmp_lister.specs.Lister.{IsNewLister, ListerState}
use Rattle.mdmp_lister.specs.Requested.{GivesByRequests}
use Rattle.mdmp_lister.specs.Memory.{IsRefusalWithin, opening_fault_within}
use Rattle.mdmp_c.specs.Table.{Collects, IsTable, PutsRows, collects_all, collects_some, rows_unless}
use Rattle.mdmp_c.proofs.Gathered.{put_front-nothing}
use Rattle.mdmp_c.proofs.Stopping.{IsLimitTold}
use Rattle.mdmp_lister.specs.declared.choice.Choice.{Choice}
use Rattle.mdmp_lister.specs.declared.choice.Choice.TheVariants.{All}
use Rattle.mdmp_lister.specs.declared.fault.FaultKind.{FaultKind}
use Rattle.mdmp_lister.specs.declared.fault.FaultKind.TheVariants as kinds
use Rattle.mdmp_lister.specs.declared.fault.ListFault.{ListFault}
use Rattle.mdmp_lister.specs.declared.fault.OpenFault.{OpenFault}
use Rattle.mdmp_lister.specs.declared.fault.OpenFault.TheVariants as opening
use Rattle.mdmp_lister.specs.declared.item.Item.{Item}
use Rattle.mdmp_lister.specs.Format.Listing.{Run, listing}
use Rattle.mdmp_lister.specs.Format.Refusal.{opening_fault}
use Rattle.mdmp_lister.specs.Meter.{KeepsTo}
use Rattle.mdmp_lister.specs.NamesFetched.{FetchesNames, names_bytes}
use Rattle.mdmp_lister.specs.Opening.{IsRefusalOf, IsUnread, KeepsOpening}
use Rattle.mdmp_lister.specs.StreamHead.{opening_bytes}
use Rattle.mdmp_summary.specs.BadEntries.{all_items}
use Rattle.mdmp_summary.specs.SpendingLaws.{kept_below}

-- a fault of the budget tells no entry
pub plain_budget : (f : ListFault) → f.kind ≡ kinds.Budget → plain_list_fault f ≡ budget_fault f.offset f.size
plain_budget f is = ap (λ (kind : FaultKind). plain_by_kind kind f) is

-- the limit of memory is kept if the same keeps a file from being opened within the limits and without
pub keeps_memory : (plain : PlainLimits) (limits : Limits) (F : List ℕ) (choice : Choice) (fault : Option OpenFault) → AreGiven plain limits → opening_fault_within limits F choice ≡ fault → opening_fault F choice ≡ fault
    → (fault ≡ None → KeepsOpening limits.budget F choice) → KeepsMemory plain F choice
keeps_memory plain limits F choice fault given within is opening = record { limits = limits; given = given; within = within ∙ sym is; opening = λ none. opening (sym is ∙ none) }

-- a room is never below nothing
fits_nothing : (n s : ℕ) → s ≡ (if nat_lt n 0 then 4 else s)
fits_nothing n s =
    let never : nat_lt n 0 ≡ false = grind (arith, nat_tests) in
    rw never refl

-- what is told of a file without limits
pub record WouldTell {T : Type 0} (IsTold : PlainFault → List T → Type 0) : Type 0 where
  pub whole : PlainFault
  pub all : List T
  pub is : IsTold whole all

-- a file that is refused is not listed
pub keeps_unlisted : (plain : PlainLimits) (F : List ℕ) (choice : Choice) (fault : OpenFault) → opening_fault F choice ≡ Some fault → KeepsMemory plain F choice → KeepsListing plain F choice
keeps_unlisted plain F choice fault is keeps = record { memory = keeps; listed = λ none. absurd (none-some fault (sym none ∙ is)) }

-- nor is it checked
pub keeps_unchecked : (plain : PlainLimits) (F : List ℕ) (fault : OpenFault) → opening_fault F All ≡ Some fault → KeepsMemory plain F All → KeepsChecking plain F
keeps_unchecked plain F fault is keeps = record { memory = keeps; checked = λ none. absurd (none-some fault (sym none ∙ is)) }

-- nor is its text
pub keeps_untold : (plain : PlainLimits) (F : List ℕ) (pdb : Bool) (fault : OpenFault) → opening_fault F All ≡ Some fault → KeepsMemory plain F All → KeepsText plain F pdb
keeps_untold plain F pdb fault is keeps = record { listed = keeps_unlisted plain F All fault is keeps; beside = λ none. absurd (none-some fault (sym none ∙ is)) }

-- the listing of one that was opened was given by requests
pub keeps_listing : (plain : PlainLimits) (limits : Limits) (F : List ℕ) (choice : Choice) (source : SourceState) (opened last : ListerState) → AreGiven plain limits → source.store.content ≡ Some F
    → IsNewLister source choice limits opened → KeepsMemory plain F choice → GivesByRequests opened (listing F choice limits.name).items last → KeepsListing plain F choice
keeps_listing plain limits F choice source opened last given known new keeps so = record {
  memory = keeps;
  listed = λ _. (limits, (given, record { source = source; known = known; opened = opened; is_new = new; last = last; given = so }));
}

-- a lister that fetched the names of all items kept to its budget
pub names_within : (F : List ℕ) (old new : ListerState) → new.counts.budget ≡ old.counts.budget → KeepsTo new.counts.budget new.counts.fetched → FetchesNames 1 (all_items F old.limit) old.counts.fetched new.counts.fetched
    → AreNamesWithin old F
names_within F old new same kept named =
    let least : raised old.counts.fetched (names_bytes (all_items F old.limit)) ≤ new.counts.fetched = omega (arith, named) in
    kept_below old.counts.budget (raised old.counts.fetched (names_bytes (all_items F old.limit))) new.counts.fetched least (subst (λ (b : Option ℕ). KeepsTo b new.counts.fetched) same kept)

-- and so did the check of a file that it was opened over
pub keeps_checking : (plain : PlainLimits) (limits : Limits) (F : List ℕ) (source : SourceState) (opened : ListerState) → AreGiven plain limits → source.store.content ≡ Some F → source.size ≡ length F
    → IsNewLister source All limits opened → KeepsMemory plain F All → AreNamesWithin opened F → KeepsChecking plain F
keeps_checking plain limits F source opened given known size new keeps within =
    let fetched : opened.counts.fetched ≡ opening_bytes All (length F) opened.entries = new.fetched ∙ ap (λ z. opening_bytes All z opened.entries) size in
    let limit : opened.limit ≡ plain.name = new.list.asked.limit_is ∙ given.name in
    let named = subst (λ n. KeepsTo opened.counts.budget (raised opened.counts.fetched (names_bytes (all_items F n)))) limit within in
    let all = subst (λ n. KeepsTo opened.counts.budget (raised n (names_bytes (all_items F plain.name)))) fetched named in
    let budget = new.list.counts.budget_is ∙ given.budget in
    let least = raised (opening_bytes All (length F) opened.entries) (names_bytes (all_items F plain.name)) in
    record {
      memory = keeps;
      checked = λ _. record { entries = opened.entries; directory = new.list.read.directory F known; kept = subst (λ (b : Option ℕ). KeepsTo b least) budget all };
    }

module _ {T : Type 0} (IsTold : PlainFault → List T → Type 0) (F : List ℕ) (choice : Choice) (valid : Type 0) (plain : PlainLimits) (limits : Limits) (given : AreGiven plain limits) (MayTell : PlainFault → Type 0)
    (none_told : (fault : OpenFault) → opening_fault F choice ≡ Some fault → IsTold (open_fault fault) []) (would : WouldTell IsTold)
    (kept : Type 0) (keep : (fault : OpenFault) → opening_fault F choice ≡ Some fault → KeepsMemory plain F choice → kept) where
  -- a file that is refused has no rows
  refused : (fault : OpenFault) (status count : ℕ) (told : PlainFault) (before after : List T) → valid → opening_fault F choice ≡ Some fault → opening_fault_within limits F choice ≡ Some fault
      → status ≡ status_of (open_fault fault) → count ≡ 0 → told ≡ open_fault fault → after ≡ before
      → Ends IsTold valid kept MayTell bad_limits status count told before after
  refused fault status count told before after ok is within ends none tells same =
      answers (open_fault fault) [] ok (keep fault is (keeps_memory plain limits F choice (Some fault) given within is (λ none. absurd (none-some fault (sym none))))) (none_told fault is)
      record {
        status_is = ends ∙ fits_nothing (length before) (status_of (open_fault fault));
        count_is = none;
        fault_is = tells;
        out = same ∙ sym (put_front-nothing before);
      }

  -- nor has one whose opening reached a limit
  stopped : (reason : PlainFault) (status count : ℕ) (told : PlainFault) (before after : List T) → valid → MayTell reason → status ≡ status_of reason → count ≡ 0 → told ≡ reason → after ≡ before
      → Ends IsTold valid kept MayTell bad_limits status count told before after
  stopped reason status count told before after ok can ends none tells same =
      stops reason [] ok can
      record { whole = would.whole; rest = would.all; begins = would.is }
      record {
        status_is = ends ∙ fits_nothing (length before) (status_of reason);
        count_is = none;
        fault_is = tells;
        out = same ∙ sym (put_front-nothing before);
      }

  pub Ends-refused_by : (fault : OpenFault) (status count : ℕ) (told : PlainFault) (before after : List T) → valid
      → (IsLimitTold fault → MayTell (open_fault fault)) → IsRefusalOf F choice fault → IsRefusalWithin limits F choice fault → (IsUnread fault → ⊥)
      → status ≡ status_of (open_fault fault) → count ≡ 0 → told ≡ open_fault fault → after ≡ before
      → Ends IsTold valid kept MayTell bad_limits status count told before after
  Ends-refused_by (opening.Source f) status count told before after ok can is within read ends none tells same = absurd (read tt)
  Ends-refused_by (opening.Budget offset size) status count told before after ok can is within read ends none tells same =
      stopped (budget_fault offset size) status count told before after ok (can tt) ends none tells same
  Ends-refused_by (opening.MemoryLimit held) status count told before after ok can is within read ends none tells same =
      stopped (wide_fault 72 held) status count told before after ok (can tt) ends none tells same
  Ends-refused_by opening.Memory status count told before after ok can is within read ends none tells same =
      wants ok record { status_is = ends; count_is = none; fault_is = tells; untouched = same }
  Ends-refused_by (opening.TooShort size) status count told before after ok can is within read ends none tells same =
      refused (opening.TooShort size) status count told before after ok is within ends none tells same
  Ends-refused_by opening.BadSignature status count told before after ok can is within read ends none tells same =
      refused opening.BadSignature status count told before after ok is within ends none tells same
  Ends-refused_by (opening.BadVersion low) status count told before after ok can is within read ends none tells same =
      refused (opening.BadVersion low) status count told before after ok is within ends none tells same
  Ends-refused_by (opening.DirectoryOutside offset size) status count told before after ok can is within read ends none tells same =
      refused (opening.DirectoryOutside offset size) status count told before after ok is within ends none tells same
  Ends-refused_by (opening.TooManyRanges n) status count told before after ok can is within read ends none tells same =
      refused (opening.TooManyRanges n) status count told before after ok is within ends none tells same

-- of a call that lists the file
module _ {T : Type 0} (IsTold : PlainFault → List T → Type 0) (F : List ℕ) (choice : Choice) (valid : Type 0) (plain : PlainLimits) (limits : Limits) (given : AreGiven plain limits) (MayTell : PlainFault → Type 0)
    (none_told : (fault : OpenFault) → opening_fault F choice ≡ Some fault → IsTold (open_fault fault) []) (would : WouldTell IsTold) where
  pub Ends-unlisted : (fault : OpenFault) (status count : ℕ) (told : PlainFault) (before after : List T) → valid
      → (IsLimitTold fault → MayTell (open_fault fault)) → IsRefusalOf F choice fault → IsRefusalWithin limits F choice fault → (IsUnread fault → ⊥)
      → status ≡ status_of (open_fault fault) → count ≡ 0 → told ≡ open_fault fault → after ≡ before
      → Ends IsTold valid (KeepsListing plain F choice) MayTell bad_limits status count told before after
  Ends-unlisted = Ends-refused_by IsTold F choice valid plain limits given MayTell none_told would (KeepsListing plain F choice) (keeps_unlisted plain F choice)

module _ {T : Type 0} (row : Item → Option T) (F : List ℕ) (choice : Choice) (limit : ℕ) where
  pub no_rows : (fault : OpenFault) → opening_fault F choice ≡ Some fault → IsTable row F choice limit (open_fault fault) []
  no_rows fault is = record { told_is = rw is refl; rows_are = rw is refl }

  abbrev run : Run
  run = listing F choice limit

  pub all_rows : WouldTell (IsTable row F choice limit)
  all_rows = record {
    whole = told_unless (opening_fault F choice) (list_told run.fault);
    all = rows_unless (opening_fault F choice) (filter_map row run.items);
    is = record { told_is = refl; rows_are = refl };
  }

  module _ (valid kept : Type 0) (MayTell : PlainFault → Type 0) (MayEnd : ListFault → Type 0) (AreGivenSo : List Item → Type 0) where
    rows_given : (items : List Item) (status count : ℕ) (told fault : PlainFault) (before after : List T) → PutsRows row items count before after
        → ((n : ℕ) → count ≡ told_count n → status ≡ (if nat_lt (length before) n then 4 else status_of told)) → fault ≡ told
        → GivesList told (filter_map row items) status count fault before after
    rows_given items status count told fault before after h ends tells = record {
      status_is = ends (length (filter_map row items)) h.count_is;
      count_is = h.count_is;
      fault_is = tells;
      out = h.out;
    }

    -- the rows of a file that was opened were put into the array
    pub Ends-collected : (status count : ℕ) (fault : Option ListFault) (told : PlainFault) (before after : List T) → valid → (AreGivenSo run.items → kept) → ((f : ListFault) → MayEnd f → MayTell (budget_fault f.offset f.size)) → opening_fault F choice ≡ None
        → Collects row MayEnd AreGivenSo run count fault before after
        → ((n : ℕ) → count ≡ told_count n → status ≡ (if nat_lt (length before) n then 4 else status_of (list_told fault)))
        → told ≡ list_told fault → Ends (IsTable row F choice limit) valid kept MayTell bad_limits status count told before after
    Ends-collected status count fault told before after ok keeps can opened (collects_all same so h) ends tells =
        answers (list_told fault) (filter_map row run.items) ok (keeps so)
        record { told_is = rw opened (ap list_told same); rows_are = rw opened refl }
        (rows_given run.items status count (list_told fault) told before after h ends tells)
    Ends-collected status count fault told before after ok keeps can opened (collects_some given cut h) ends tells =
        stops (list_told fault) (filter_map row given) ok
        (subst MayTell (sym (ap list_told cut.told_is ∙ plain_budget cut.told cut.kind)) (can cut.told cut.reached))
        record {
          whole = list_told run.fault;
          rest = filter_map row cut.rest;
          begins = record {
            told_is = rw opened refl;
            rows_are = rw opened (sym (ap (filter_map row) cut.first ∙ filter_map-append row given cut.rest));
          };
        }
        (rows_given given status count (list_told fault) told before after h ends tells)
