-- Requests, one more.
use Rattle.std.proofs.Common.{◌≡◌, ◌+◌, ◌∙◌, ℕ, List, [], ◌∷◌, ◌++◌, None, Some, Result, Ok, Err, ap, arith, refl, slice_get, sym}
use Rattle.std.specs.Option.{option_map}
use Rattle.std.proofs.lemmas.List.{append-nil}
use Rattle.mdmp_source.specs.SourceLaws.{fetches_then}
use Rattle.mdmp_source.specs.declared.fault.SourceFault.{SourceFault}
use Rattle.mdmp_lister.specs.declared.fault.ListFault.{ListFault}
use Rattle.mdmp_lister.specs.declared.meter.MeterCounts.{MeterCounts}
use Rattle.mdmp_lister.specs.declared.sink.RunFault.{RunFault}
use Rattle.mdmp_lister.specs.declared.sink.RunFault.TheVariants as run
use Rattle.mdmp_lister.specs.Fault.{IsUnobtained}
use Rattle.mdmp_lister.specs.declared.item.Item.{Item}
use Rattle.mdmp_lister.specs.Format.Item.{plain}
use Rattle.mdmp_lister.specs.Format.Listing.{Run, nothing, only_fault}
use Rattle.mdmp_lister.specs.Lister.{Gives, ListerLeaves, ListerState, ReadsAside, left_after, tail}
use Rattle.mdmp_lister.specs.Meter.{SpendsAside}
use Rattle.mdmp_lister.specs.Requested.{AnswersRequest, AreRequested, GivesByRequests, IsRequested, OnlyReadsAside, RunRequests}
use Rattle.mdmp_lister.specs.Requested.EndsRequests.{asks_in_vain, stops_asking}
use Rattle.mdmp_lister.specs.Sink.{give_all}
use Rattle.mdmp_lister.proofs.Handing.{give_all-next}
use Rattle.mdmp_lister.proofs.Fetches.{FetchesAtMost-none}

pub spends_none : (c : MeterCounts) → SpendsAside 0 0 c c
spends_none c = record {
  aside = omega arith;
  more = omega arith;
  aside_calls = omega arith;
  more_aside_calls = omega arith;
  same_fetched = refl;
  same_calls = refl;
  same_names = refl;
  same_start = refl;
  same_budget = refl;
  same_asked = refl;
}

pub aside_none : (v : ListerState) → OnlyReadsAside v v
aside_none v = record {
  calls = 0;
  bytes = 0;
  same = refl;
  aside = spends_none v.counts;
  fetches = FetchesAtMost-none v.source;
}

pub aside_read : {T : Type 0} (calls n : ℕ) (result : Result T SourceFault) (old new : ListerState) → ReadsAside calls n result old new → OnlyReadsAside old new
aside_read calls n result old new reads = record { calls = calls; bytes = n; same = reads.same; aside = reads.aside; fetches = reads.fetches }

-- and behind what was read aside
pub aside_more : (u v w : ListerState) → OnlyReadsAside u v → OnlyReadsAside v w → OnlyReadsAside u w
aside_more u v w first then = record {
  calls = first.calls + then.calls;
  bytes = first.bytes + then.bytes;
  same = then.same ∙ ap (λ (l : ListerState). record l { source = w.source; counts = w.counts }) first.same;
  aside = record {
    aside = omega (arith, first.aside.aside, then.aside.aside);
    more = omega (arith, first.aside.more, then.aside.more);
    aside_calls = omega (arith, first.aside.aside_calls, then.aside.aside_calls);
    more_aside_calls = omega (arith, first.aside.more_aside_calls, then.aside.more_aside_calls);
    same_fetched = then.aside.same_fetched ∙ first.aside.same_fetched;
    same_calls = then.aside.same_calls ∙ first.aside.same_calls;
    same_names = then.aside.same_names ∙ first.aside.same_names;
    same_start = then.aside.same_start ∙ first.aside.same_start;
    same_budget = then.aside.same_budget ∙ first.aside.same_budget;
    same_asked = then.aside.same_asked ∙ first.aside.same_asked;
  };
  fetches = fetches_then _ _ _ _ _ first.fetches then.fetches;
}

pub item_requested : (old : ListerState) (x : Item) (new : ListerState) → ListerLeaves old (Ok (Some x)) new → ((left : Run) → old.left ≡ Some left → Gives left (Ok (Some x)))
    → IsRequested old (plain x) new
item_requested old x new leaves gives = record { given = x; is = refl; answers = record { leaves = leaves; gives = gives } }

-- one item more, and what was read aside behind it
pub requested_more : (u v m w : ListerState) (xs : List Item) (x : Item) → AreRequested u xs v → IsRequested v x m → OnlyReadsAside m w → AreRequested u (xs ++ x ∷ []) w
requested_more u v m w [] x aside next then = (v, (aside, (m, (next, then))))
requested_more u v m w (y ∷ ys) x so_far next then =
    (so_far.0, (so_far.1.0, (so_far.1.1.0, (so_far.1.1.1.0, requested_more so_far.1.1.0 v m w ys x so_far.1.1.1.1 next then))))

-- requests behind others
pub requested_append : (xs ys : List Item) (u v w : ListerState) → AreRequested u xs v → AreRequested v ys w → AreRequested u (xs ++ ys) w
requested_append [] [] u v w aside then = aside_more u v w aside then
requested_append [] (y ∷ ys) u v w aside then = (then.0, (aside_more u v then.0 aside then.1.0, then.1.1))
requested_append (x ∷ xs) ys u v w so_far then =
    (so_far.0, (so_far.1.0, (so_far.1.1.0, (so_far.1.1.1.0, requested_append xs ys so_far.1.1.0 v w so_far.1.1.1.1 then))))

-- ---- what was given is what was left

aside_left : (u v : ListerState) (left : Run) → OnlyReadsAside u v → u.left ≡ Some left → v.left ≡ Some left
aside_left u v left aside known = ap (λ (l : ListerState). l.left) aside.same ∙ known

item_left : (u v : ListerState) (x : Item) (left : Run) → IsRequested u x v → u.left ≡ Some left → (v.left ≡ Some (tail left)) × (slice_get left.items 0 ≡ Some x)
item_left u v x left next known =
    let of = next.answers in
    (of.leaves.list.stands.left ∙ ap (option_map (left_after (Ok (Some next.given)))) known, of.gives left known ∙ ap (λ (y : Item). Some y) (sym next.is))

pub requested_left : (xs : List Item) (u v : ListerState) (left : Run) → AreRequested u xs v → u.left ≡ Some left → (rest : Run) × ((v.left ≡ Some rest) × (left ≡ give_all xs rest))
requested_left [] u v left aside known = (left, (aside_left u v left aside known, refl))
requested_left (x ∷ xs) u v left chain known =
    let at = item_left chain.0 chain.1.1.0 x left chain.1.1.1.0 (aside_left u chain.0 left chain.1.0 known) in
    let more = requested_left xs chain.1.1.0 v (tail left) chain.1.1.1.1 at.0 in
    (more.0, (more.1.0, give_all-next left [] x left refl at.1 ∙ ap (λ (run : Run). give_all (x ∷ []) run) more.1.1))

pub whole_none : (xs : List Item) (u v w : ListerState) (left : Run) → AreRequested u xs v → AnswersRequest v (Ok None) w → u.left ≡ Some left → left ≡ give_all xs nothing
whole_none xs u v w left chain last known =
    let rest = requested_left xs u v left chain known in
    rest.1.1 ∙ ap (give_all xs) (last.gives rest.0 rest.1.0)

pub whole_fault : (xs : List Item) (u v w : ListerState) (f : ListFault) (left : Run) → AreRequested u xs v → AnswersRequest v (Err f) w → (IsUnobtained f.kind → ⊥) → u.left ≡ Some left
    → left ≡ give_all xs (only_fault f)
whole_fault xs u v w f left chain last not known =
    let rest = requested_left xs u v left chain known in
    rest.1.1 ∙ ap (give_all xs) (last.gives rest.0 rest.1.0 not)

-- they are all of its items, where the rest has none
pub all_items : (xs : List Item) (left rest : Run) → rest.items ≡ [] → left ≡ give_all xs rest → xs ≡ left.items
all_items xs left rest none is = sym (ap (λ (run : Run). run.items) is ∙ ap (λ (ys : List Item). xs ++ ys) none ∙ append-nil xs)

-- ---- the end of a run

pub run_given : (u : ListerState) (xs : List Item) (result : Result (Unit {0}) RunFault) (v : ListerState) → RunRequests u xs result v → GivesByRequests u xs v
run_given u xs (Ok done) v ran = record { behind = ran.behind; stopped = v; requested = ran.requested; ended = asks_in_vain (Ok None) tt ran.ended; aside = aside_none v }
run_given u xs (Err (run.At f)) v ran = record { behind = ran.behind; stopped = v; requested = ran.requested; ended = asks_in_vain (Err f) tt ran.ended; aside = aside_none v }
run_given u xs (Err run.Stopped) v ran = record { behind = ran.behind; stopped = v; requested = ran.requested; ended = stops_asking ran.ended; aside = aside_none v }

-- what is read aside behind it
pub given_aside : (u : ListerState) (xs : List Item) (v w : ListerState) → GivesByRequests u xs v → OnlyReadsAside v w → GivesByRequests u xs w
given_aside u xs v w given aside = record { behind = given.behind; stopped = given.stopped; requested = given.requested; ended = given.ended; aside = aside_more _ _ _ given.aside aside }
