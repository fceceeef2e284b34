-- Texts that go to an output one behind the other.
use Rattle.std.specs.Prelude.{◌≡◌, ◌<◌, ◌++◌, ℕ, List, [], Option, Some, Result, Ok, Err, take, drop, length, slice_index_or}
use Rattle.std.specs.List.{flat_map}
use Rattle.std.proofs.Common.{ap, sym, subst, ◌∙◌, refl, suc, append_assoc, append-nil, drop-cons}
use Rattle.std.proofs.lemmas.List.{take-append-drop}
use Rattle.std.proofs.lemmas.Grind.{flat_map-append}
use Rattle.std.proofs.lemmas.List.Concat.{flat_map-cons}
use Rattle.mdmp_source.specs.Output.{HasRefused, OutState, Refusals, refused_once, Takes, TakesPrefix, PutsAll, PutsPrefix, Puts}

-- ---- refusals

-- one refusal more
pub HasRefused-once : (r : Refusals) → HasRefused r (refused_once r)
HasRefused-once r = record { more = refl; loans = refl }

-- ---- all of a text

-- an output takes nothing by taking no bytes
pub Takes-nothing : (a : Option (List ℕ)) → Takes a [] a
Takes-nothing a start known = known ∙ ap Some (sym (append-nil start))

-- one text and then another
pub Takes-Takes : (a b c : Option (List ℕ)) (first next : List ℕ) → Takes a first b → Takes b next c → Takes a (first ++ next) c
Takes-Takes a b c first next took more start known =
    more (start ++ first) (took start known) ∙ ap Some (append_assoc start first next)

pub PutsAll-nothing : (a : OutState) → PutsAll a [] a
PutsAll-nothing a = record { took = Takes-nothing a.taken; steady = refl }

pub PutsAll-PutsAll : (a b c : OutState) (first next : List ℕ) → PutsAll a first b → PutsAll b next c → PutsAll a (first ++ next) c
PutsAll-PutsAll a b c first next put more = record {
  took = Takes-Takes a.taken b.taken c.taken first next put.took more.took;
  steady = more.steady ∙ put.steady;
}

-- ---- the first part of a text

-- a prefix of one text, behind another that went out, is a prefix of both with what follows
pub TakesPrefix-behind : (a b c : Option (List ℕ)) (first next more : List ℕ) → Takes a first b → TakesPrefix b next c → TakesPrefix a (first ++ (next ++ more)) c
TakesPrefix-behind a b c first next more took cut = record {
  sent = first ++ cut.sent;
  rest = cut.rest ++ more;
  whole = ap (λ (x : List ℕ). first ++ (x ++ more)) cut.whole ∙ simp append_assoc;
  took = Takes-Takes a b c first cut.sent took cut.took;
}

-- the same with nothing behind
pub TakesPrefix-last : (a b c : Option (List ℕ)) (first next : List ℕ) → Takes a first b → TakesPrefix b next c → TakesPrefix a (first ++ next) c
TakesPrefix-last a b c first next took cut =
    subst (λ (x : List ℕ). TakesPrefix a (first ++ x) c) (append-nil next) (TakesPrefix-behind a b c first next [] took cut)

-- all of the first part of a text is a prefix of it
pub TakesPrefix-front : (a b : Option (List ℕ)) (first more : List ℕ) → Takes a first b → TakesPrefix a (first ++ more) b
TakesPrefix-front a b first more took = record { sent = first; rest = more; whole = refl; took = took }

pub PutsPrefix-behind : (a b c : OutState) (first next more : List ℕ) → PutsAll a first b → PutsPrefix b next c → PutsPrefix a (first ++ (next ++ more)) c
PutsPrefix-behind a b c first next more put cut = record {
  took = TakesPrefix-behind a.taken b.taken c.taken first next more put.took cut.took;
  refused = subst (λ (r : Refusals). HasRefused r c.failures) put.steady cut.refused;
}

pub PutsPrefix-last : (a b c : OutState) (first next : List ℕ) → PutsAll a first b → PutsPrefix b next c → PutsPrefix a (first ++ next) c
PutsPrefix-last a b c first next put cut =
    subst (λ (x : List ℕ). PutsPrefix a (first ++ x) c) (append-nil next) (PutsPrefix-behind a b c first next [] put cut)

-- a prefix of the first part of a text is a prefix of it
pub PutsPrefix-front : (a b : OutState) (first more : List ℕ) → PutsPrefix a first b → PutsPrefix a (first ++ more) b
PutsPrefix-front a b first more cut = PutsPrefix-behind a a b [] first more (PutsAll-nothing a) cut

-- what a call leaves of one text, behind another that went out, it leaves of both
pub Puts-behind : {T E : Type 0} (r : Result T E) (a b c : OutState) (first next : List ℕ) → PutsAll a first b → Puts r b next c → Puts r a (first ++ next) c
Puts-behind (Ok x) a b c first next put more = PutsAll-PutsAll a b c first next put more
Puts-behind (Err e) a b c first next put cut = PutsPrefix-last a b c first next put cut

-- whatever the answer, a first part of the text was taken
pub Puts-taken : {T E : Type 0} (r : Result T E) (a b : OutState) (text : List ℕ) → Puts r a text b → TakesPrefix a.taken text b.taken
Puts-taken (Ok x) a b text put = record { sent = text; rest = []; whole = sym (append-nil text); took = put.took }
Puts-taken (Err e) a b text cut = cut.took

-- ---- the texts of a list

-- the texts of a list, split at one of them
flat_map-split : {X : Type 0} (f : X → List ℕ) (xs : List X) (i : ℕ) (d : X) → i < length xs
    → flat_map f xs ≡ flat_map f (take i xs) ++ (f (slice_index_or xs i d) ++ flat_map f (drop (suc i) xs))
flat_map-split f xs i d lt =
    ap (flat_map f) (sym (take-append-drop i xs)) ∙ (flat_map-append f (take i xs) (drop i xs)
    ∙ ap (λ (r : List ℕ). flat_map f (take i xs) ++ r) (ap (flat_map f) (drop-cons xs i d lt) ∙ flat_map-cons f (slice_index_or xs i d) (drop (suc i) xs)))

-- a prefix of the text of one, behind the texts before it, is a prefix of all
pub PutsPrefix-flat_map : {X : Type 0} (f : X → List ℕ) (xs : List X) (i : ℕ) (d : X) (a b c : OutState) → i < length xs
    → PutsAll a (flat_map f (take i xs)) b → PutsPrefix b (f (slice_index_or xs i d)) c → PutsPrefix a (flat_map f xs) c
PutsPrefix-flat_map f xs i d a b c lt put cut =
    subst (λ (x : List ℕ). PutsPrefix a x c) (sym (flat_map-split f xs i d lt))
    (PutsPrefix-behind a b c (flat_map f (take i xs)) (f (slice_index_or xs i d)) (flat_map f (drop (suc i) xs)) put cut)
