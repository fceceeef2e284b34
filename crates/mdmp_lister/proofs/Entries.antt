-- The chosen entries of a directory, one by one.
use Rattle.std.proofs.Common.{◌≡◌, ◌+◌, ◌-◌, ◌<◌, ◌≤◌, ◌∙◌, ℕ, suc, true, false, arith, List, ◌∷◌, [], Some, refl, ap, sym}
use Rattle.std.specs.Prelude.{map}
use Rattle.std.proofs.lemmas.List.Sums.{sum_by-cons}
use Rattle.mdmp_wire.specs.declared.entry.Entry.{Entry}
use Rattle.mdmp_lister.specs.declared.choice.Choice.{Choice}
use Rattle.mdmp_lister.specs.Format.Listing.{Numbered, nothing, all_joined, entry_listing, listing_from, chosen_from, entries_from, only_chosen, entry_count, entry_of, is_chosen}
use Rattle.mdmp_lister.specs.Format.Directory.{IsFirstChosen}
use Rattle.mdmp_lister.specs.Format.Numbers.{ranges_in, ranges_of_all}
use Rattle.mdmp_lister.specs.Format.Kind.{kind_of}

chosen_from-has : (F : List ℕ) (choice : Choice) (i : ℕ) → i < entry_count F → true ≡ is_chosen choice (entry_of F i).stream_type
    → chosen_from F choice i ≡ record { number = i; entry = entry_of F i } ∷ chosen_from F choice (i + 1)
unfolding entries_from only_chosen
chosen_from-has F choice i lt chosen =
    let more : entry_count F - i ≡ suc (entry_count F - (i + 1)) = omega (arith, lt) in
    rw (more, ← chosen) refl

chosen_from-has_not : (F : List ℕ) (choice : Choice) (i : ℕ) → i < entry_count F → false ≡ is_chosen choice (entry_of F i).stream_type
    → chosen_from F choice i ≡ chosen_from F choice (i + 1)
unfolding entries_from only_chosen
chosen_from-has_not F choice i lt other =
    let more : entry_count F - i ≡ suc (entry_count F - (i + 1)) = omega (arith, lt) in
    rw (more, ← other) refl

-- entry i is the first of them where it is chosen, and is passed where it is not
pub chosen_from-chosen : (F : List ℕ) (choice : Choice) (i : ℕ) (e : Entry) → i < entry_count F → e ≡ entry_of F i → true ≡ is_chosen choice e.stream_type
    → chosen_from F choice i ≡ record { number = i; entry = e } ∷ chosen_from F choice (i + 1)
chosen_from-chosen F choice i e lt same chosen =
    chosen_from-has F choice i lt (chosen ∙ ap (λ (x : Entry). is_chosen choice x.stream_type) same)
    ∙ ap (λ (x : Entry). record { number = i; entry = x } ∷ chosen_from F choice (i + 1)) (sym same)

pub chosen_from-other : (F : List ℕ) (choice : Choice) (i : ℕ) (e : Entry) → i < entry_count F → e ≡ entry_of F i → false ≡ is_chosen choice e.stream_type
    → chosen_from F choice i ≡ chosen_from F choice (i + 1)
chosen_from-other F choice i e lt same other = chosen_from-has_not F choice i lt (other ∙ ap (λ (x : Entry). is_chosen choice x.stream_type) same)

pub chosen_from-end : (F : List ℕ) (choice : Choice) (i : ℕ) → entry_count F ≤ i → chosen_from F choice i ≡ []
unfolding entries_from only_chosen
chosen_from-end F choice i le =
    let none : entry_count F - i ≡ 0 = omega (arith, le) in
    rw none refl

-- ---- what they list

pub listing_from-end : (F : List ℕ) (choice : Choice) (limit i : ℕ) → entry_count F ≤ i → listing_from F choice limit i ≡ nothing
listing_from-end F choice limit i le = ap (λ (xs : List Numbered). all_joined (map (entry_listing F limit) xs)) (chosen_from-end F choice i le)

-- ---- the ranges that they give

pub ranges-chosen : (F : List ℕ) (choice : Choice) (i : ℕ) (e : Entry) → i < entry_count F → e ≡ entry_of F i → true ≡ is_chosen choice e.stream_type
    → ranges_of_all F (chosen_from F choice i) ≡ ranges_in F e (kind_of e.stream_type) + ranges_of_all F (chosen_from F choice (i + 1))
ranges-chosen F choice i e lt same chosen =
    ap (ranges_of_all F) (chosen_from-chosen F choice i e lt same chosen)
    ∙ sum_by-cons (λ (x : Numbered). ranges_in F x.entry (kind_of x.entry.stream_type)) (record { number = i; entry = e }) (chosen_from F choice (i + 1))

pub ranges-first : (F : List ℕ) (choice : Choice) (from at : ℕ) (e : Entry) → IsFirstChosen F choice from (Some at) → e ≡ entry_of F at
    → ranges_of_all F (chosen_from F choice from) ≡ ranges_in F e (kind_of e.stream_type) + ranges_of_all F (chosen_from F choice (at + 1))
ranges-first F choice from at e first same =
    ap (ranges_of_all F) first
    ∙ sum_by-cons (λ (x : Numbered). ranges_in F x.entry (kind_of x.entry.stream_type)) (record { number = at; entry = entry_of F at }) (chosen_from F choice (at + 1))
    ∙ ap (λ (x : Entry). ranges_in F x (kind_of x.stream_type) + ranges_of_all F (chosen_from F choice (at + 1))) (sym same)

pub ranges-other : (F : List ℕ) (choice : Choice) (i : ℕ) (e : Entry) → i < entry_count F → e ≡ entry_of F i → false ≡ is_chosen choice e.stream_type
    → ranges_of_all F (chosen_from F choice i) ≡ ranges_of_all F (chosen_from F choice (i + 1))
ranges-other F choice i e lt same other = ap (ranges_of_all F) (chosen_from-other F choice i e lt same other)

pub ranges-end : (F : List ℕ) (choice : Choice) (i : ℕ) → entry_count F ≤ i → ranges_of_all F (chosen_from F choice i) ≡ 0
ranges-end F choice i le = ap (ranges_of_all F) (chosen_from-end F choice i le)
