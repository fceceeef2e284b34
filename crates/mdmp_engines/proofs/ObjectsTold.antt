-- How a pass that prints objects ended, and what it printed.
use Rattle.std.proofs.Common.{◌≡◌, ◌∙◌, ℕ, List, ◌++◌, Option, Result, Ok, Err, ap, subst, sym}
use Rattle.std.specs.Prelude.{IfOk}
use Rattle.mdmp_source.specs.Output.{HasRefused, OutState, PutsAll, PutsPrefix}
use Rattle.mdmp_source.specs.OutputLaws.{PutsPrefix-front}
use Rattle.mdmp_source.specs.declared.fault.SourceFault.{SourceFault}
use Rattle.mdmp_lister.specs.declared.item.Item.{Item}
use Rattle.mdmp_lister.specs.declared.sink.Stopped.{Stopped}
use Rattle.mdmp_lister.specs.Lister.{ListerState}
use Rattle.mdmp_lister.proofs.Fetches.{FetchesAtMost-none}
use Rattle.mdmp_summary.specs.Visiting.{AreShown, EndedAt, IsUnreadVisit, IsVisitFault, Visited, VisitedTo}
use Rattle.mdmp_summary.specs.declared.visiting.VisitEnd.{VisitEnd}
use Rattle.mdmp_summary.specs.declared.visiting.VisitEnd.TheVariants as ends
use Rattle.mdmp_summary.specs.declared.visiting.VisitFault.{VisitFault}
use Rattle.mdmp_summary.specs.declared.visiting.VisitFault.TheVariants as faults
use Rattle.mdmp_engines.specs.Causes.{HasBudgetCause, HasOutCause, HasSourceCause, IsNoSourceFault}
use Rattle.mdmp_engines.specs.Engines.{StopsShort}
use Rattle.mdmp_engines.specs.ObjectRuns.{AreItems, IsPrintEnd, IsUnreadPass, PrintsWhileRead, outcome_told, visit_told}
use Rattle.mdmp_engines.specs.ObjectVisits.{ThreadsAt}
use Rattle.mdmp_engines.specs.SummaryObject.{found_among}
use Rattle.mdmp_engines.specs.declared.fault.ToolFault.{ToolFault}
use Rattle.mdmp_engines.proofs.Checking.{told-source}
use Rattle.mdmp_engines.proofs.SameRuns.{over_listing}
use Rattle.mdmp_engines.proofs.Summarizing.{cause-kind, good-kind, last_told}
use Rattle.mdmp_engines.proofs.Objects.{behind, found_all, put_all, put_short, put_stopped, refused_among, short_front, short_put, steady_all, steady_among, texts_of, texts_then, thread_looked, thread_taken}

module _ {T K : Type 0} (text : T → Item → List ℕ) (next : T → Item → T) (out : K → OutState) (of : K → T) (taken : K → Item → Result (Unit {0}) Stopped → K → Type 0) (looked : K → Result (Unit {0}) VisitEnd → K → Type 0)
    (one : (k : K) (x : Item) (m : K) → Visited taken looked k x m → PutsAll (out k) (text (of k) x) (out m) × (of m ≡ next (of k) x))
    (stop : (k : K) (x : Item) (l : K) → EndedAt taken looked k x ends.Stopped l → PutsPrefix (out k) (text (of k) x) (out l))
    (short : (k : K) (x : Item) (f : SourceFault) (l : K) → EndedAt taken looked k x (ends.Source f) l → StopsShort (out k) (text (of k) x) (out l)) where
  -- the text of all items is that of the first of them, and more
  more_text : (t : T) (all items rest : List Item) → all ≡ items ++ rest → texts_of text next t all ≡ texts_of text next t items ++ texts_of text next (behind text next t items) rest
  more_text t all items rest is = ap (λ (xs : List Item). texts_of text next t xs) is ∙ texts_then text next t items rest

  pub prints_outcome : (all items : List Item) (outcome : Result (Unit {0}) VisitFault) (k l : K) → AreShown all items outcome → VisitedTo taken looked k items outcome l → IsUnreadPass outcome
      → PrintsWhileRead (texts_of text next (of k) all) (out k) (outcome_told outcome) (out l)
  prints_outcome all items (Ok done) k l is visited unread =
      subst (λ (xs : List Item). PutsAll (out k) (texts_of text next (of k) xs) (out l)) (sym is) (put_all text next out of taken looked one items k l visited).0
  prints_outcome all items (Err (faults.List f)) k l (rest, is) visited unread =
      let before = texts_of text next (of k) items in
      let put = short_put (out k) (out l) before (texts_of text next (behind text next (of k) items) rest) (put_all text next out of taken looked one items k l visited).0 in
      let cut : StopsShort (out k) (texts_of text next (of k) all) (out l) = subst (λ (t : List ℕ). StopsShort (out k) t (out l)) (sym (more_text (of k) all items rest is)) put in
      told-source (λ (r : Result (Unit {0}) ToolFault). PrintsWhileRead (texts_of text next (of k) all) (out k) r (out l)) f f.kind unread (λ s same. (tt, cut)) (tt, cut)
  prints_outcome all items (Err (faults.Ended ends.Stopped)) k l (rest, is) visited unread =
      subst (λ (t : List ℕ). PutsPrefix (out k) t (out l)) (sym (more_text (of k) all items rest is))
      (PutsPrefix-front (out k) (out l) (texts_of text next (of k) items) (texts_of text next (behind text next (of k) items) rest) (put_stopped text next out of taken looked one stop short items k l visited))
  prints_outcome all items (Err (faults.Ended (ends.Source f))) k l (rest, is) visited unread = (
    tt,
    subst (λ (t : List ℕ). StopsShort (out k) t (out l)) (sym (more_text (of k) all items rest is))
        (short_front (out k) (texts_of text next (of k) items) (texts_of text next (behind text next (of k) items) rest) (out l) (put_short text next out of taken looked one stop short items f k l visited)),
  )

module _ {K N : Type 0} (out : K → OutState) (name : K → N) (taken : K → Item → Result (Unit {0}) Stopped → K → Type 0) (looked : K → Result (Unit {0}) VisitEnd → K → Type 0)
    (one : (k : K) (x : Item) (m : K) → Visited taken looked k x m → ((out m).failures ≡ (out k).failures) × (name m ≡ name k))
    (stop : (k : K) (x : Item) (l : K) → EndedAt taken looked k x ends.Stopped l → HasRefused (out k).failures (out l).failures × (name l ≡ name k))
    (short : (k : K) (x : Item) (f : SourceFault) (l : K) → EndedAt taken looked k x (ends.Source f) l → ((out l).failures ≡ (out k).failures) × (name l ≡ name k)) where
  pub outcome_out : (items : List Item) (outcome : Result (Unit {0}) VisitFault) (k l : K) → VisitedTo taken looked k items outcome l → IsUnreadPass outcome → HasOutCause (out k) (outcome_told outcome) (out l)
  outcome_out items (Ok done) k l visited unread = (steady_all out name taken looked one items k l visited).0
  outcome_out items (Err (faults.List f)) k l visited unread =
      let same = (steady_all out name taken looked one items k l visited).0 in
      told-source (λ (r : Result (Unit {0}) ToolFault). HasOutCause (out k) r (out l)) f f.kind unread (λ s is. same) same
  outcome_out items (Err (faults.Ended ends.Stopped)) k l visited unread = (refused_among out name taken looked one stop items k l visited).0
  outcome_out items (Err (faults.Ended (ends.Source f))) k l visited unread = (steady_among out name taken looked one short items f k l visited).0

  pub outcome_name : (items : List Item) (outcome : Result (Unit {0}) VisitFault) (k l : K) → VisitedTo taken looked k items outcome l → name l ≡ name k
  outcome_name items (Ok done) k l visited = (steady_all out name taken looked one items k l visited).1
  outcome_name items (Err (faults.List f)) k l visited = (steady_all out name taken looked one items k l visited).1
  outcome_name items (Err (faults.Ended ends.Stopped)) k l visited = (refused_among out name taken looked one stop items k l visited).1
  outcome_name items (Err (faults.Ended (ends.Source f))) k l visited = (steady_among out name taken looked one short items f k l visited).1

-- ---- a pass, as a command tells it

pub unread_pass : (old new : ListerState) (fault : VisitFault) → IsVisitFault old new fault → IsUnreadPass (Err fault)
unread_pass old new (faults.List f) is = is.unobtained
unread_pass old new (faults.Ended end) is = tt

pub visited_err : {K : Type 0} (taken : K → Item → Result (Unit {0}) Stopped → K → Type 0) (looked : K → Result (Unit {0}) VisitEnd → K → Type 0) (A B : Type 0) (fault : VisitFault) (k : K) (xs : List Item) (l : K)
    → VisitedTo taken looked {T = A} k xs (Err fault) l → VisitedTo taken looked {T = B} k xs (Err fault) l
visited_err taken looked A B (faults.List f) k xs l visited = visited
visited_err taken looked A B (faults.Ended end) k xs l visited = visited

pub good_visit : (T : Type 0) (fault : VisitFault) → (IsUnreadVisit fault → ⊥) → IsNoSourceFault {T = T} (Err (visit_told fault))
good_visit T (faults.List f) never = good-kind T f.kind f never
good_visit T (faults.Ended ends.Stopped) never = tt
good_visit T (faults.Ended (ends.Source f)) never = never tt

pub cause_visit : (T : Type 0) (old new : ListerState) (fault : VisitFault) → IsVisitFault old new fault → HasSourceCause {T = T} old.source (Err (visit_told fault)) new.source
cause_visit T old new (faults.List f) is = cause-kind T old.source old new f.kind f (record { count = 0; fetches = FetchesAtMost-none old.source }) is.look.told.by is.look.unchanged
cause_visit T old new (faults.Ended ends.Stopped) is = tt
cause_visit T old new (faults.Ended (ends.Source f)) is = last_told f old.source new.source is

pub over_visit : (T : Type 0) (old new : ListerState) (fault : VisitFault) → IsVisitFault old new fault → HasBudgetCause {T = T} (Err (visit_told fault)) new
over_visit T old new (faults.List f) is = over_listing T f new is.look.refused is.look.next
over_visit T old new (faults.Ended ends.Stopped) is = tt
over_visit T old new (faults.Ended (ends.Source f)) is = tt

pub stops_visit : (T : Type 0) (fault : VisitFault) → IsUnreadPass (Err fault) → IsPrintEnd {T = T} (Err (visit_told fault))
stops_visit T (faults.List f) unread = told-source (λ (r : Result T ToolFault). IsPrintEnd r) f f.kind unread (λ s same. tt) tt
stops_visit T (faults.Ended ends.Stopped) unread = tt
stops_visit T (faults.Ended (ends.Source f)) unread = tt

pub are_items : (all items : List Item) (outcome : Result (Unit {0}) VisitFault) → AreShown all items outcome → AreItems all items (outcome_told outcome)
are_items all items (Ok done) is = is
are_items all items (Err (faults.List f)) is = is
are_items all items (Err (faults.Ended end)) is = is

-- the index that was found once all threads were printed
pub found_outcome : {K N : Type 0} (at : K → ThreadsAt) (name : K → N) (content : Option (List ℕ)) (all items : List Item) (outcome : Result (Unit {0}) VisitFault) (k l : K) → AreShown all items outcome
    → VisitedTo (thread_taken at name content) (thread_looked at name content) k items outcome l → IfOk (outcome_told outcome) (λ _. (at l).found ≡ found_among (at k).crashed.id (at k).count (at k).found all)
found_outcome at name content all items (Ok done) k l is visited =
    found_all at name content items k l visited ∙ ap (λ (xs : List Item). found_among (at k).crashed.id (at k).count (at k).found xs) (sym is)
found_outcome at name content all items (Err (faults.List f)) k l is visited = tt
found_outcome at name content all items (Err (faults.Ended end)) k l is visited = tt
