-- What is fetched for items, one behind the other.
use Rattle.std.proofs.Common.{◌≡◌, ◌+◌, ◌-◌, ◌++◌, ◌∷◌, [], ℕ, List, ap, arith}
use Rattle.std.proofs.lemmas.List.Sums.{sum_by-append, sum_by-cons}
use Rattle.mdmp_source.specs.Source.{FetchesAtMost, SourceState}
use Rattle.mdmp_source.specs.SourceLaws.{fetches_then}
use Rattle.mdmp_lister.specs.declared.item.Item.{Item}
use Rattle.mdmp_lister.specs.Costs.{HasCost, IsUnreadBy, item_cost, items_cost, stream_begun}
use Rattle.mdmp_lister.specs.Format.Item.{plain}
use Rattle.mdmp_lister.specs.Format.Summary.{summary_of}
use Rattle.mdmp_lister.proofs.Costs.{item_cost-plain, stream_begun-plain, unread-within}
use Rattle.mdmp_lister.proofs.Fetches.{FetchesAtMost-none, FetchesAtMost-within}

pub items_cost-append : (z : ℕ) (xs ys : List Item) → items_cost z (xs ++ ys) ≡ items_cost z xs + items_cost z ys
items_cost-append z xs ys = sum_by-append (λ y. item_cost y + stream_begun z (summary_of y).stream) xs ys

-- one item costs its name, and the stream that it begins
pub items_cost-one : (z : ℕ) (x : Item) → items_cost z (plain x ∷ []) ≡ item_cost x + stream_begun z (summary_of x).stream
items_cost-one z x =
    let f : Item → ℕ = λ y. item_cost y + stream_begun z (summary_of y).stream in
    rw (sum_by-cons f (plain x) [], item_cost-plain x, stream_begun-plain z x) (omega arith)

pub HasCost-none : (unread : ℕ) (a : SourceState) → HasCost unread a [] unread a
HasCost-none unread a = record {
  fetches = FetchesAtMost-within 0 (unread + items_cost a.size [] - unread) a a (omega arith) (FetchesAtMost-none a);
  within = omega arith;
}

pub HasCost-then : (unread left more : ℕ) (a b c : SourceState) (xs ys : List Item) → HasCost unread a xs left b → HasCost left b ys more c → HasCost unread a (xs ++ ys) more c
HasCost-then unread left more a b c xs ys first then =
    let z = a.size in
    let all = items_cost-append z xs ys in
    let same : items_cost b.size ys ≡ items_cost z ys = ap (λ size. items_cost size ys) first.fetches.same_size in
    record {
      fetches = FetchesAtMost-within _ (unread + items_cost z (xs ++ ys) - more) a c (omega (arith, all, same, first.within, then.within))
          (fetches_then (unread + items_cost z xs - left) (left + items_cost b.size ys - more) a b c first.fetches then.fetches);
      within = omega (arith, all, same, first.within, then.within);
    }

pub HasCost-one : (unread left : ℕ) (a b : SourceState) (x : Item) → FetchesAtMost (unread + stream_begun a.size (summary_of x).stream + item_cost x - left) a b
    → IsUnreadBy a.size (summary_of x).stream unread left → HasCost unread a (plain x ∷ []) left b
HasCost-one unread left a b x fetches is =
    let z = a.size in
    let one = items_cost-one z x in
    record {
      fetches = FetchesAtMost-within _ (unread + items_cost z (plain x ∷ []) - left) a b (omega (arith, one)) fetches;
      within = omega (arith, one, unread-within z unread left (summary_of x).stream is);
    }

module _ (unread : ℕ) (old mid new : SourceState) (xs : List Item) (left more : ℕ) (so_far : HasCost unread old xs left mid) where
  pub HasCost-more : (x : Item) → FetchesAtMost (left + stream_begun mid.size (summary_of x).stream + item_cost x - more) mid new
      → IsUnreadBy mid.size (summary_of x).stream left more → HasCost unread old (xs ++ plain x ∷ []) more new
  HasCost-more x next is = HasCost-then unread left more old mid new xs (plain x ∷ []) so_far (HasCost-one left more mid new x next is)

  -- and for the last answer, behind which nothing is unread
  pub HasCost-end : (n cost : ℕ) → FetchesAtMost (left + 0 + n - more) mid new → n ≡ cost → more ≡ 0 → FetchesAtMost (unread + items_cost old.size xs + cost - more) old new
  HasCost-end n cost last same none =
      FetchesAtMost-within _ (unread + items_cost old.size xs + cost - more) old new (omega (arith, so_far.within, same, none))
      (fetches_then (unread + items_cost old.size xs - left) (left + 0 + n - more) old mid new so_far.fetches last)

pub HasCost-most : (unread : ℕ) (old new : SourceState) (xs : List Item) (left : ℕ) → HasCost unread old xs left new → FetchesAtMost (unread + items_cost old.size xs + 0 - left) old new
HasCost-most unread old new xs left cost = FetchesAtMost-within _ _ old new (omega (arith, cost.within)) cost.fetches
