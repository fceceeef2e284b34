-- Where the entry of a stream stands in the directory.
use Rattle.std.proofs.Common.{◌≡◌, ◌∙◌, ◌≤◌, ◌<◌, ◌+◌, ℕ, zero, suc, Bool, true, false, List, [], ◌∷◌, drop, length, length-drop, slice_get, get_or, Some, arith, ap, refl, sym, if◌then◌else◌}
use Rattle.std.proofs.lemmas.List.{drop_all, drop_more, get_or-drop}
use Rattle.std.proofs.lemmas.Option.{get_or_from_slice_get, slice_get_within}
use Rattle.mdmp_wire.specs.declared.entry.Entry.{Entry}
use Rattle.mdmp_lister.specs.declared.choice.Choice.{Choice}
use Rattle.mdmp_lister.specs.Format.Directory.{IsDirectory}
use Rattle.mdmp_lister.specs.Format.Listing.{Numbered, chosen, entries_from, entry_of, is_chosen, only_chosen}
use Rattle.mdmp_lister.specs.Lister.{IsSameLister, ListerState}
use Rattle.mdmp_dump.specs.declared.entry_walk.EntryPlace.{EntryPlace}
use Rattle.mdmp_dump.specs.EntryWalk.{no_entry, numbered}
use Rattle.mdmp_dump.specs.Walking.{IsPlace, IsPlaceOf, chosen_behind, chosen_of}

-- ---- an entry, chosen or not

drop_one : {X : Type 0} (xs : List X) (s : ℕ) (y : X) (ys : List X) → drop s xs ≡ y ∷ ys → drop (s + 1) xs ≡ ys
drop_one [] zero y ys is = absurd (cc is)
drop_one [] (suc s) y ys is = absurd (cc is)
drop_one (x ∷ xs) zero y ys is = cc is
drop_one (x ∷ xs) (suc s) y ys is = let next : suc s + 1 ≡ suc (s + 1) = omega arith in ap (λ (n : ℕ). drop n (x ∷ xs)) next ∙ drop_one xs s y ys is

module _ (choice : Choice) (entries : List Entry) (n : ℕ) where
  module _ (e : Entry) (at : slice_get entries n ≡ Some e) where
    from_here : drop n entries ≡ e ∷ drop (n + 1) entries
    from_here = drop_more entries n e (slice_get_within entries n e at) ∙ ap (λ (x : Entry). x ∷ drop (n + 1) entries) (get_or_from_slice_get entries n e e at)

    pub chosen_here : is_chosen choice e.stream_type ≡ true → chosen_behind choice entries n ≡ record { number = n; entry = e } ∷ chosen_behind choice entries (n + 1)
    unfolding numbered only_chosen
    chosen_here is = ap (λ (es : List Entry). only_chosen choice (numbered n es)) from_here ∙ (rw is refl)

    pub passed_here : is_chosen choice e.stream_type ≡ false → chosen_behind choice entries n ≡ chosen_behind choice entries (n + 1)
    unfolding numbered only_chosen
    passed_here is = ap (λ (es : List Entry). only_chosen choice (numbered n es)) from_here ∙ (rw is refl)

  pub none_behind : length entries ≤ n → chosen_behind choice entries n ≡ []
  unfolding numbered only_chosen
  none_behind past = ap (λ (es : List Entry). only_chosen choice (numbered n es)) (drop_all n entries past)

-- ---- the place of a stream

pub first_place : (v : ListerState) → IsPlace v (record { number = 0; stream = 0 })
first_place v = record { number = omega arith; behind = refl }

module _ (v : ListerState) (place : EntryPlace) (stands : IsPlace v place) where
  -- a stream that is there stands at an entry
  pub place_within : (stream : ℕ) → place.stream ≤ stream → stream < length (chosen_of v) → length v.entries ≤ place.number → ⊥
  place_within stream before some past =
      let none : drop place.stream (chosen_of v) ≡ [] = stands.behind ∙ none_behind v.choice v.entries place.number past in
      omega (arith, before, some, length-drop place.stream (chosen_of v), ap length none)

  module _ (e : Entry) (at : slice_get v.entries place.number ≡ Some e) where
    pub place_passed : is_chosen v.choice e.stream_type ≡ false → IsPlace v (record { number = place.number + 1; stream = place.stream })
    place_passed is = record {
      number = omega (arith, slice_get_within v.entries place.number e at);
      behind = stands.behind ∙ passed_here v.choice v.entries place.number e at is;
    }

    module _ (is : is_chosen v.choice e.stream_type ≡ true) where
      first_behind : drop place.stream (chosen_of v) ≡ record { number = place.number; entry = e } ∷ chosen_behind v.choice v.entries (place.number + 1)
      first_behind = stands.behind ∙ chosen_here v.choice v.entries place.number e at is

      pub place_next : IsPlace v (record { number = place.number + 1; stream = place.stream + 1 })
      place_next = record {
        number = omega (arith, slice_get_within v.entries place.number e at);
        behind = drop_one (chosen_of v) place.stream _ _ first_behind;
      }

      pub place_found : (stream : ℕ) → place.stream ≡ stream → IsPlaceOf v stream place
      place_found stream same = record {
        is = stands;
        stream_is = same;
        within = slice_get_within v.entries place.number e at;
        entry = λ d there.
            let first : get_or (drop place.stream (chosen_of v)) 0 no_entry ≡ record { number = place.number; entry = e } = ap (λ (xs : List Numbered). get_or xs 0 no_entry) first_behind in
            let moved : get_or (chosen_of v) (place.stream + 0) no_entry ≡ record { number = place.number; entry = e } = sym (get_or-drop place.stream (chosen_of v) 0 no_entry) ∙ first in
            let index : stream ≡ place.stream + 0 = omega (arith, same) in
            let other : e ≡ d = cc (at, there) in
            ap (λ (k : ℕ). get_or (chosen_of v) k no_entry) index ∙ moved ∙ ap (λ (x : Entry). record { number = place.number; entry = x }) other;
      }

-- ---- how many there are

pub few_chosen : (choice : Choice) (xs : List Numbered) → length (only_chosen choice xs) ≤ length xs
unfolding only_chosen
few_chosen choice [] = omega arith
few_chosen choice (x ∷ xs) = by (few_chosen choice xs) (is_chosen choice x.entry.stream_type) where
  by : length (only_chosen choice xs) ≤ length xs → (b : Bool) → length (if b then x ∷ only_chosen choice xs else only_chosen choice xs) ≤ length (x ∷ xs)
  by few true = omega (arith, few)
  by few false = omega (arith, few)

pub length-numbered : (i : ℕ) (es : List Entry) → length (numbered i es) ≡ length es
unfolding numbered
length-numbered i [] = refl
length-numbered i (e ∷ es) = ap suc (length-numbered (i + 1) es)

-- ---- the directory of a file

numbered_from : (F : List ℕ) (es : List Entry) (i : ℕ) → ((j : ℕ) (d : Entry) → j < length es → get_or es j d ≡ entry_of F (i + j)) → numbered i es ≡ entries_from F (length es) i
unfolding numbered entries_from
numbered_from F [] i each = refl
numbered_from F (e ∷ es) i each =
    let none : i + 0 ≡ i = omega arith in
    let first : e ≡ entry_of F i = each 0 e (omega arith) ∙ ap (entry_of F) none in
    let rest = numbered_from F es (i + 1) (λ j d lt.
    let index : i + suc j ≡ i + 1 + j = omega arith in
    each (suc j) d (omega (arith, lt)) ∙ ap (entry_of F) index) in
    λ k. record { number = i; entry = first k } ∷ rest k

pub chosen_all : (F : List ℕ) (choice : Choice) (entries : List Entry) → IsDirectory F entries → only_chosen choice (numbered 0 entries) ≡ chosen F choice
chosen_all F choice entries directory =
    ap (only_chosen choice) (numbered_from F entries 0 (λ j d lt.
    let index : j ≡ 0 + j = omega arith in
    directory.each j d lt ∙ ap (entry_of F) index) ∙ ap (λ (n : ℕ). entries_from F n 0) directory.count)

-- a place stays where the directory and the choice do
pub place_stays : (old new : ListerState) (place : EntryPlace) → IsSameLister old new → IsPlace old place → IsPlace new place
place_stays old new place same stands = record {
  number = rw same.entries stands.number;
  behind = rw (same.entries, same.choice) stands.behind;
}
