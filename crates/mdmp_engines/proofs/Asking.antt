-- The requests of a command.
use Rattle.std.proofs.Common.{◌≡◌, ◌∙◌, List, [], ◌∷◌, ◌++◌, Bool, true, false, None, Some, Result, Ok, Err, ◌⊎◌, ap, inl, inr, refl, subst, sym}
use Rattle.mdmp_lister.specs.declared.fault.FaultKind.{FaultKind}
use Rattle.mdmp_lister.specs.declared.fault.FaultKind.TheVariants as kinds
use Rattle.mdmp_lister.specs.declared.fault.ListFault.{ListFault}
use Rattle.mdmp_lister.specs.declared.item.Item.{Item}
use Rattle.mdmp_lister.specs.declared.sink.RunFault.TheVariants as run
use Rattle.mdmp_lister.specs.Fault.{IsUnobtained}
use Rattle.mdmp_lister.specs.Format.Listing.{Run, nothing, only_fault}
use Rattle.mdmp_lister.specs.Lister.{ListerState}
use Rattle.mdmp_lister.specs.Requested.{AnswersRequest, AreRequested, EndsRequests, GivesByRequests, IsRequested, OnlyReadsAside, RunRequests}
use Rattle.mdmp_lister.specs.Requested.EndsRequests.{asks_in_vain, stops_asking}
use Rattle.mdmp_lister.proofs.Requested.{all_items, aside_none, given_aside, requested_append, requested_left, run_given, whole_fault, whole_none}
use Rattle.mdmp_engines.specs.declared.fault.ToolFault.{ToolFault}
use Rattle.mdmp_engines.specs.declared.fault.ToolFault.TheVariants.{List as BadList, Memory, Out}
use Rattle.mdmp_engines.specs.Engines.{Pace, at_the_end, past_faults, up_to_a_fault}
use Rattle.mdmp_engines.specs.ReadThrough.{HasRequested, KeepsRequests, WhereToldToEnd, WhereToldToFault}
use Rattle.mdmp_engines.specs.Runs.{RequestsNext}
use Rattle.mdmp_engines.specs.Telling.{listing_told, told_by}

-- ---- where something holds

pub to_fault : (f : ToolFault) (P Q : Type 0) → (P → Q) → WhereToldToFault f P → WhereToldToFault f Q
to_fault (BadList fault) P Q so holds = so holds
to_fault f P Q so holds = tt

pub to_end : {T : Type 0} (answer : Result T ToolFault) (P Q : Type 0) → (P → Q) → WhereToldToEnd answer P → WhereToldToEnd answer Q
to_end (Ok x) P Q so holds = so holds
to_end (Err f) P Q so holds = to_fault f P Q so holds

fault_holds : (f : ToolFault) (P : Type 0) → P → WhereToldToFault f P
fault_holds (BadList fault) P holds = holds
fault_holds f P holds = tt

end_holds : {T : Type 0} (answer : Result T ToolFault) (P : Type 0) → P → WhereToldToEnd answer P
end_holds (Ok x) P holds = holds
end_holds (Err f) P holds = fault_holds f P holds

-- ---- behind some items

pub requested_behind : {T : Type 0} (xs : List Item) (u v w : ListerState) (answer : Result T ToolFault) → AreRequested u xs v → HasRequested v answer w → HasRequested u answer w
requested_behind {T} xs u v w answer chain last = record {
  items = xs ++ last.items;
  given = record {
    behind = last.given.behind;
    stopped = last.given.stopped;
    requested = requested_append xs last.items u v last.given.behind chain last.given.requested;
    ended = last.given.ended;
    aside = last.given.aside;
  };
  whole = λ left known.
      let rest = requested_left xs u v left chain known in
      to_end answer (last.items ≡ rest.0.items) (xs ++ last.items ≡ left.items) (λ same. ap (λ (ys : List Item). xs ++ ys) same ∙ ap (λ (run : Run). run.items) (sym rest.1.1)) (last.whole rest.0 rest.1.0);
}

-- ---- at the end

last_asked : (u v : ListerState) → EndsRequests u v → GivesByRequests u [] v
last_asked u v ended = record { behind = u; stopped = v; requested = aside_none u; ended = ended; aside = aside_none v }

pub requested_end : {T : Type 0} (x : T) (u v : ListerState) → AnswersRequest u (Ok None) v → HasRequested u (Ok x) v
requested_end {T} x u v last = record {
  items = [];
  given = last_asked u v (asks_in_vain (Ok None) tt last);
  whole = λ left known. all_items [] left nothing refl (whole_none [] u u v left (aside_none u) last known);
}

pub requested_fault : {T : Type 0} (u v : ListerState) (f : ListFault) → AnswersRequest u (Err f) v → HasRequested {T = T} u (Err (listing_told f)) v
requested_fault {T} u v f last = record {
  items = [];
  given = last_asked u v (asks_in_vain (Err f) tt last);
  whole = λ left known. by ([] ≡ left.items) f.kind (λ not. all_items [] left (only_fault f) refl (whole_fault [] u u v f left (aside_none u) last not known));
} where
  by : (P : Type 0) (kind : FaultKind) → ((IsUnobtained kind → ⊥) → P) → WhereToldToFault (told_by kind f) P
  by P (kinds.Source fault) holds = tt
  by P kinds.Budget holds = tt
  by P _ holds = holds (λ of. of)

-- nothing was asked for
pub requested_none : {T : Type 0} (u : ListerState) (f : ToolFault) → WhereToldToFault f ⊥ → HasRequested {T = T} u (Err f) u
requested_none {T} u f not = record { items = []; given = last_asked u u (stops_asking refl); whole = λ left known. to_fault f ⊥ ([] ≡ left.items) (λ never. absurd never) not }

-- one item was given, and the command then ended otherwise than by a fault of the listing
pub requested_one : {T : Type 0} (u m w : ListerState) (x : Item) (f : ToolFault) → IsRequested u x m → OnlyReadsAside m w → WhereToldToFault f ⊥ → HasRequested {T = T} u (Err f) w
requested_one {T} u m w x f next then not = record {
  items = x ∷ [];
  given = record { behind = w; stopped = w; requested = (u, (aside_none u, (m, (next, then)))); ended = stops_asking refl; aside = aside_none w };
  whole = λ left known. to_fault f ⊥ (x ∷ [] ≡ left.items) (λ never. absurd never) not;
}

-- a run came to its end, and read aside then
pub requested_listed : {T : Type 0} (u m w : ListerState) (xs : List Item) (answer : Result T ToolFault) → RunRequests u xs (Ok tt) m → OnlyReadsAside m w → HasRequested u answer w
requested_listed {T} u m w xs answer ran then = record {
  items = xs;
  given = given_aside u xs m w (run_given u xs (Ok tt) m ran) then;
  whole = λ left known. end_holds answer (xs ≡ left.items) (all_items xs left nothing refl (whole_none xs u ran.behind m left ran.requested ran.ended known));
}

-- ---- with another answer

pub requested_same : {T U : Type 0} (u v : ListerState) (f : ToolFault) → HasRequested {T = T} u (Err f) v → HasRequested {T = U} u (Err f) v
requested_same {T} {U} u v f is = record { items = is.items; given = is.given; whole = is.whole }

pub requested_done : {T U : Type 0} (u v : ListerState) (x : T) (y : U) → HasRequested {T = T} u (Ok x) v → HasRequested {T = U} u (Ok y) v
requested_done {T} {U} u v x y is = record { items = is.items; given = is.given; whole = is.whole }

pub out_requested : {T : Type 0} (pace : Pace) (u v : ListerState) (answer : Result T ToolFault) → KeepsRequests pace u answer v → KeepsRequests {T = T} pace u (Err Out) v
out_requested {T} up_to_a_fault u v answer is = record { items = is.items; given = is.given; whole = λ left known. tt }
out_requested {T} past_faults u v answer is = tt
out_requested {T} at_the_end u v answer is = record { items = is.items; given = is.given; whole = λ left known. tt }

-- ---- of a list

-- one more item was given
pub next_requested : (u v w : ListerState) (xs : List Item) (more : Bool) → more ≡ true → AreRequested u xs v → RequestsNext v (Ok more) w → (ys : List Item) × AreRequested u ys w
next_requested u v w xs more is chain next =
    let one = subst (λ (b : Bool). RequestsNext v (Ok b) w) is next in
    (xs ++ one.0 ∷ [], requested_append xs (one.0 ∷ []) u v w chain (v, (aside_none v, one.1)))

-- or there was none
pub end_requested : {T : Type 0} (x : T) (u v w : ListerState) (xs : List Item) (more : Bool) → more ≡ false → AreRequested u xs v → RequestsNext v (Ok more) w → HasRequested u (Ok x) w
end_requested {T} x u v w xs more is chain next =
    let last = subst (λ (b : Bool). RequestsNext v (Ok b) w) is next in
    requested_behind xs u v w (Ok x) chain (requested_done v w false x last)

-- ---- all items of what was left

pub given_end : (xs : List Item) (u v w : ListerState) (left : Run) → AreRequested u xs v → AnswersRequest v (Ok None) w → u.left ≡ Some left → GivesByRequests u left.items w
given_end xs u v w left chain last known =
    subst (λ (ys : List Item). GivesByRequests u ys w) (all_items xs left nothing refl (whole_none xs u v w left chain last known))
    (record { behind = v; stopped = w; requested = chain; ended = asks_in_vain (Ok None) tt last; aside = aside_none w })

pub given_fault : (xs : List Item) (u v w : ListerState) (f : ListFault) (left : Run) → AreRequested u xs v → AnswersRequest v (Err f) w → (IsUnobtained f.kind → ⊥) → u.left ≡ Some left
    → GivesByRequests u left.items w
given_fault xs u v w f left chain last not known =
    subst (λ (ys : List Item). GivesByRequests u ys w) (all_items xs left (only_fault f) refl (whole_fault xs u v w f left chain last not known))
    (record { behind = v; stopped = w; requested = chain; ended = asks_in_vain (Err f) tt last; aside = aside_none w })

-- the items that were given so far, behind which a command ended otherwise than by a fault of the listing
pub requested_so_far : {T : Type 0} (xs : List Item) (u v : ListerState) (f : ToolFault) → AreRequested u xs v → WhereToldToFault f ⊥ → HasRequested {T = T} u (Err f) v
requested_so_far {T} xs u v f chain not = requested_behind xs u v v (Err f) chain (requested_none v f not)

-- or it ran out of memory
pub memory_requested : {T : Type 0} (u v : ListerState) (answer : Result T ToolFault) (other : Result T ToolFault) → other ≡ Err Memory → HasRequested u answer v → HasRequested u other v
memory_requested {T} u v answer other is asked =
    subst (λ (r : Result T ToolFault). HasRequested u r v) (sym is) (record { items = asked.items; given = asked.given; whole = λ left known. tt })

pub fault_or_memory : {T : Type 0} (u v : ListerState) (f : ToolFault) (answer : Result T ToolFault) → (answer ≡ Err f) ⊎ (answer ≡ Err Memory) → HasRequested {T = T} u (Err f) v → HasRequested u answer v
fault_or_memory {T} u v f answer (inl is) asked = subst (λ (r : Result T ToolFault). HasRequested u r v) (sym is) asked
fault_or_memory {T} u v f answer (inr is) asked = memory_requested u v (Err f) answer is asked
