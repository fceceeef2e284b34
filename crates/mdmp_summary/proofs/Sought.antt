-- A listing of all entries, gone over again from its first one.
use Rattle.std.proofs.Common.{◌≡◌, ℕ, zero, suc, ◌-◌, ◌<◌, List, Option, Some, None, ap, ◌∙◌, arith, refl, sym}
use Rattle.std.specs.Prelude.{map}
use Rattle.std.specs.Option.{option_map}
use Rattle.mdmp_lister.specs.declared.choice.Choice.{Choice}
use Rattle.mdmp_lister.specs.declared.choice.Choice.TheVariants.{All}
use Rattle.mdmp_lister.specs.Format.Listing.{Run, all_joined, entries_from, entry_count, entry_listing, entry_of, joined, listing, listing_from, listing_sought, only_chosen}
use Rattle.mdmp_lister.specs.Walker.{IsSoughtAt, WalkerState}
use Rattle.mdmp_summary.specs.Skipping.{IsBetween, next_in}
use Rattle.mdmp_summary.specs.Spending.{next_number}
use Rattle.mdmp_summary.proofs.Entries.{listing_all}

-- the n entries from the first one on
abbrev first_entries : List ℕ → ℕ → ℕ → Run
first_entries F limit n = all_joined (map (entry_listing F limit) (only_chosen All (entries_from F n 0)))

sought_from : (F : List ℕ) (limit n : ℕ) → 0 < n
    → joined (entry_listing F limit (record { number = 0; entry = entry_of F 0 })) (all_joined (map (entry_listing F limit) (only_chosen All (entries_from F (n - 1) 1)))) ≡ first_entries F limit n
unfolding entries_from only_chosen
sought_from F limit zero some = absurd (omega arith)
sought_from F limit (suc m) some = let e : suc m - 1 ≡ m = omega arith in rw e refl

sought_all : (F : List ℕ) (limit : ℕ) → 0 < entry_count F → listing_sought F All limit 0 ≡ listing F All limit
sought_all F limit some = sought_from F limit (entry_count F) some

-- where the first entry of a known file is sought, all is left
pub sought_left : (F : List ℕ) (choice : Choice) (limit : ℕ) (content : Option (List ℕ)) → content ≡ Some F → choice ≡ All → 0 < entry_count F
    → option_map (λ G. listing_sought G choice limit 0) content ≡ Some (listing F All limit)
sought_left F choice limit content known all some =
    ap (option_map (λ G. listing_sought G choice limit 0)) known
    ∙ ap (λ (c : Choice). Some (listing_sought F c limit 0)) all
    ∙ ap Some (sought_all F limit some)

-- so nothing is left of an entry that was begun before
between_by : (content known : Option (List ℕ)) (choice : Choice) (limit : ℕ) → content ≡ known → choice ≡ All → ((file : List ℕ) → content ≡ Some file → 0 < entry_count file)
    → option_map (λ F. listing_sought F choice limit 0) content ≡ option_map (λ F. listing_from F choice limit 0) content
between_by content None choice limit unknown all some =
    ap (option_map (λ F. listing_sought F choice limit 0)) unknown ∙ sym (ap (option_map (λ F. listing_from F choice limit 0)) unknown)
between_by content (Some F) choice limit known all some =
    sought_left F choice limit content known all (some F known) ∙ ap Some (listing_all F limit)
    ∙ ap (λ (c : Choice). Some (listing_from F c limit 0)) (sym all) ∙ sym (ap (option_map (λ G. listing_from G choice limit 0)) known)

pub sought_between : (old new : WalkerState)
    → new.list ≡ record old.list { left = new.list.left; stop = new.list.stop; unread = new.list.unread; standing = new.list.standing; records = new.list.records; work = new.list.work }
    → IsSoughtAt 0 old new → old.list.choice ≡ All → ((file : List ℕ) → old.list.source.store.content ≡ Some file → 0 < entry_count file) → IsBetween new
sought_between old new same goes all some =
    let next : next_in new ≡ 0 = ap (λ p. next_number p new.list.passed) goes.position in
    goes.left ∙ between_by _ old.list.source.store.content old.list.choice old.list.limit refl all some
    ∙ (λ i. option_map (λ F. listing_from F (sym same i).choice (sym same i).limit (sym next i)) (sym same i).source.store.content)
