-- What is fetched for the names of items.
use Rattle.std.proofs.Common.{◌≡◌, ◌≤◌, ℕ, List, [], ◌∷◌, Some, Result, Ok, Err, ap, arith, false, refl, subst, sym}
use Rattle.std.proofs.lemmas.List.Sums.{sum_by-cons}
use Rattle.mdmp_lister.specs.declared.item.Item.{Item}
use Rattle.mdmp_lister.specs.declared.item.Item.TheVariants as items
use Rattle.mdmp_lister.specs.declared.kind.StreamKind.{StreamKind}
use Rattle.mdmp_lister.specs.declared.kind.StreamKind.TheVariants as kinds
use Rattle.mdmp_lister.specs.Costs.{item_cost}
use Rattle.mdmp_lister.specs.Format.Item.{plain}
use Rattle.mdmp_lister.specs.Format.Kind.{has_names}
use Rattle.mdmp_lister.specs.Lister.{ListerState, NextSpends, standpoint_in}
use Rattle.mdmp_lister.specs.NamesFetched.{FetchesNames, names_bytes}
use Rattle.mdmp_lister.specs.Requested.{AreRequested, EndsRunBy, RunRequests}
use Rattle.mdmp_lister.specs.declared.sink.RunFault.{RunFault}
use Rattle.mdmp_lister.specs.declared.sink.RunFault.TheVariants as run
use Rattle.mdmp_lister.proofs.NamesFetched.{named_one, names_later, names_more, names_none}
use Rattle.mdmp_summary.specs.Visiting.{IsOfKind}

pub names_one : (now mid : ListerState) (x : Item) → NextSpends now (Ok (Some x)) mid → FetchesNames 1 (plain x ∷ []) now.counts.fetched mid.counts.fetched
names_one now mid x spends = named_one (standpoint_in now) x mid.counts.fetched mid.unread spends.costs

-- after which only what is outside the listing was read
pub names_read : (now mid new : ListerState) (x : Item) → NextSpends now (Ok (Some x)) mid → new.counts.fetched ≡ mid.counts.fetched → FetchesNames 1 (plain x ∷ []) now.counts.fetched new.counts.fetched
names_read now mid new x spends same = names_later 1 (plain x ∷ []) now.counts.fetched mid.counts.fetched new.counts.fetched (names_one now mid x spends) (omega (arith, same))

-- ---- records without names

nameless_item : (kind : StreamKind) (x : Item) → has_names kind ≡ false → IsOfKind kind x → item_cost x ≡ 0
nameless_item kinds.Modules x not of = absurd (cc)
nameless_item kinds.Unloaded x not of = absurd (cc)
nameless_item kinds.System x not of = absurd (cc)
nameless_item kinds.ThreadNames x not of = absurd (cc)
nameless_item kind (items.Module x) not of = absurd (cc)
nameless_item kind (items.Unloaded x) not of = absurd (cc)
nameless_item kind (items.System x) not of = absurd (cc)
nameless_item kind (items.ThreadName x) not of = absurd (cc)
nameless_item kind _ not of = refl

pub names_idle : (xs : List Item) (a b : ℕ) → names_bytes xs ≡ 0 → a ≤ b → FetchesNames 1 xs a b
names_idle xs a b none later = omega (arith, none, later)

pub nameless_more : (kind : StreamKind) (x : Item) (xs : List Item) → has_names kind ≡ false → IsOfKind kind x → names_bytes xs ≡ 0 → names_bytes (x ∷ xs) ≡ 0
nameless_more kind x xs not of none =
    let more = sum_by-cons item_cost x xs in
    let one = nameless_item kind x not of in
    omega (arith, more, one, none)

-- ---- requests

requested_named : (xs : List Item) (u v : ListerState) → AreRequested u xs v → FetchesNames 1 xs u.counts.fetched v.counts.fetched
requested_named [] u v aside = let same = aside.aside.same_fetched in names_later 1 [] u.counts.fetched u.counts.fetched v.counts.fetched (names_none 1 u.counts.fetched) (omega (arith, same))
requested_named (x ∷ xs) u v (b, (aside, (m, (one, more)))) =
    let named = subst (λ n. FetchesNames 1 (plain one.given ∷ []) n m.counts.fetched) aside.aside.same_fetched (names_one b m one.given one.answers.leaves.list.spends) in
    let first = subst (λ (y : Item). FetchesNames 1 (y ∷ []) u.counts.fetched m.counts.fetched) (sym one.is) named in
    names_more (x ∷ []) xs u.counts.fetched m.counts.fetched v.counts.fetched first (requested_named xs m v more)

-- the request that ends a run fetches no less than nothing
ended_later : (u v : ListerState) (result : Result (Unit {0}) RunFault) → EndsRunBy u result v → u.counts.fetched ≤ v.counts.fetched
ended_later u v (Ok done) last = last.leaves.list.spends.counts.more
ended_later u v (Err (run.At f)) last = last.leaves.list.spends.counts.more
ended_later u v (Err run.Stopped) same = let fetched = ap (λ (l : ListerState). l.counts.fetched) same in omega (arith, fetched)

pub run_named : (old new : ListerState) (xs : List Item) (result : Result (Unit {0}) RunFault) → RunRequests old xs result new → FetchesNames 1 xs old.counts.fetched new.counts.fetched
run_named old new xs result ran =
    names_later 1 xs old.counts.fetched ran.behind.counts.fetched new.counts.fetched (requested_named xs old ran.behind ran.requested) (ended_later ran.behind new result ran.ended)
