-- What is fetched for the names of items.
use Rattle.std.proofs.Common.{◌≡◌, ◌≤◌, ◌+◌, ◌*◌, ◌∙◌, ◌++◌, ℕ, List, [], ◌∷◌, Option, Some, None, ap, arith, refl, sym}
use Rattle.std.proofs.Math.Nat.{add-mul}
use Rattle.std.proofs.lemmas.List.Sums.{sum_by-append, sum_by-cons}
use Rattle.mdmp_source.specs.Count.{raised}
use Rattle.mdmp_lister.specs.declared.item.Item.{Item}
use Rattle.mdmp_lister.specs.declared.item.Item.TheVariants as items
use Rattle.mdmp_lister.specs.declared.item.StreamItem.{StreamItem}
use Rattle.mdmp_lister.specs.Costs.{item_cost}
use Rattle.mdmp_lister.specs.Format.Item.{plain}
use Rattle.mdmp_lister.specs.Format.Kind.{kind_of}
use Rattle.mdmp_lister.specs.Format.Summary.{summary_of}
use Rattle.mdmp_lister.specs.NamesFetched.{FetchesNames, names_bytes}
use Rattle.mdmp_lister.specs.NextFetch.{IsItemPaid, Standpoint, head_left, head_takes, record_takes}
use Rattle.mdmp_lister.proofs.Costs.{item_cost-plain}

-- ---- some items after others

pub names_none : (times a : ℕ) → FetchesNames times [] a a
names_none times a = let none : names_bytes [] ≡ 0 = refl in let all : times * names_bytes [] ≡ times * 0 = ap (λ n. times * n) none in omega (arith, all)

raised_then : (a b c x y z : ℕ) → x + y ≡ z → raised a x ≤ b → raised b y ≤ c → raised a z ≤ c
raised_then a b c x y z all first then = omega (arith, all, first, then)

pub names_more : (xs ys : List Item) (a b c : ℕ) → FetchesNames 1 xs a b → FetchesNames 1 ys b c → FetchesNames 1 (xs ++ ys) a c
names_more xs ys a b c first then =
    let all = sum_by-append item_cost xs ys in
    raised_then a b c (1 * names_bytes xs) (1 * names_bytes ys) (1 * names_bytes (xs ++ ys)) (omega (arith, all)) first then

-- the same items twice
pub names_again : (m n k : ℕ) → m + n ≡ k → (xs : List Item) (a b c : ℕ) → FetchesNames m xs a b → FetchesNames n xs b c → FetchesNames k xs a c
names_again m n k both xs a b c first then = raised_then a b c (m * names_bytes xs) (n * names_bytes xs) (k * names_bytes xs) (by m n k both (names_bytes xs)) first then where
  by : (m n k : ℕ) → m + n ≡ k → (cost : ℕ) → m * cost + n * cost ≡ k * cost
  by m n k both cost = sym (add-mul m n cost) ∙ ap (λ t. t * cost) both

-- and no more, or more that is no name's
pub names_later : (times : ℕ) (xs : List Item) (a b c : ℕ) → FetchesNames times xs a b → b ≤ c → FetchesNames times xs a c
names_later times xs a b c fetched later = omega (arith, fetched, later)

-- ---- an item

stream_unnamed : (x : Item) (s : StreamItem) → (summary_of x).stream ≡ Some s → item_cost x ≡ 0
stream_unnamed (items.Stream y) s is = refl
stream_unnamed _ s is = absurd (cc)

-- what was fetched for an item has the bytes of its name
pub item_named : (s : Standpoint) (x : Item) (o : Option StreamItem) (fetched unread : ℕ) → (summary_of x).stream ≡ o → IsItemPaid s o (item_cost x) fetched unread → raised s.fetched (item_cost x) ≤ fetched
item_named s x (Some stream) fetched unread is paid =
    let none = stream_unnamed x stream is in
    let all : fetched ≡ raised s.fetched (head_left s (kind_of s.entry.stream_type)) = paid in
    omega (arith, none, all)
item_named s x None fetched unread is paid =
    let of = paid.paid in
    let all : fetched ≡ raised s.fetched (head_takes s of.kind + record_takes s of.kind of.at + item_cost x) = of.fetched_is in
    omega (arith, all)

-- so were those of an item
pub named_one : (s : Standpoint) (x : Item) (fetched unread : ℕ) → IsItemPaid s (summary_of x).stream (item_cost x) fetched unread → FetchesNames 1 (plain x ∷ []) s.fetched fetched
named_one s x fetched unread paid =
    let one = sum_by-cons item_cost (plain x) [] in
    let none : names_bytes [] ≡ 0 = refl in
    let cost = item_cost-plain x in
    let least = item_named s x (summary_of x).stream fetched unread refl paid in
    omega (arith, one, none, cost, least)
