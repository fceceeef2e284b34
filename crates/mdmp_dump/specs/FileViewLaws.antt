-- What is true of each view of a file.
use Rattle.std.proofs.Common.{◌≡◌, ◌+◌, ◌*◌, ◌∙◌, ◌⊎◌, inl, inr, ℕ, zero, suc, List, [], ◌∷◌, get_or, Option, Some, None, ap, refl, sum, sym, subst}
use Rattle.std.specs.Prelude.{IfSome}
use Rattle.mdmp_source.specs.Source.{SourceState, FetchesSome}
use Rattle.mdmp_source.specs.SourceLaws.{fetches_then, told_later}
use Rattle.mdmp_source.specs.declared.fault.SourceFault.{SourceFault}
use Rattle.mdmp_source.specs.declared.fault.SourceFault.TheVariants.{Failed, ShortRead, Changed}
use Rattle.mdmp_lister.proofs.Fetches.{FetchesAtMost-none}
use Rattle.mdmp_lister.specs.Format.Listing.{Numbered}
use Rattle.mdmp_dump.specs.declared.view.ViewFault.{ViewFault}
use Rattle.mdmp_dump.specs.EntryWalk.{IsSameWalk, WalkState, kind_by, no_entry}
use Rattle.mdmp_dump.specs.FileView.{AreBare, HasMoved, costs_in, file_shape, kind_at, opening_cost, shape_by, source_fault, streams_in}
use Rattle.mdmp_dump.specs.InFile.{dump_in}
use Rattle.mdmp_dump.specs.Reading.{IsLastTold}
use Rattle.mdmp_dump.specs.Shape.{AreOfTheirKinds, GivesNone, HaveNoStrayParts, IsShapeOfSeen, unused_shape}
use Rattle.mdmp_dump.specs.ShapeLaws.{value_kinds, value_sound, value_stray}

streams_stray : (xs : List Numbered) (ns rs : List ℕ) → AreBare (λ k. kind_by (get_or xs k no_entry).entry.stream_type) ns rs → (k : ℕ)
    → GivesNone (get_or (streams_in xs ns rs) k unused_shape).kind (get_or (streams_in xs ns rs) k unused_shape).records → (get_or (streams_in xs ns rs) k unused_shape).parts ≡ 0
unfolding streams_in
streams_stray [] ns rs bare k none = refl
streams_stray (x ∷ xs) [] rs bare k none = refl
streams_stray (x ∷ xs) (n ∷ ns) [] bare k none = refl
streams_stray (x ∷ xs) (n ∷ ns) (r ∷ rs) bare zero none = bare zero none
streams_stray (x ∷ xs) (n ∷ ns) (r ∷ rs) bare (suc k) none = streams_stray xs ns rs (λ i. bare (suc i)) k none

module _ (Z : Type 0) (w : WalkState) (counts rooms : List ℕ) where
  sound_by : (c : Option (List ℕ)) → IsShapeOfSeen (shape_by Z c w counts rooms)
  sound_by None x known = absurd (let none = known in cc)
  sound_by (Some F) x known = value_sound (dump_in {Z = Z} F w.choice) x known

  -- what it gives has its shape
  pub view_sound : IsShapeOfSeen (file_shape Z w counts rooms)
  view_sound = sound_by w.source.store.content

  kinds_by : (c : Option (List ℕ)) → AreOfTheirKinds (shape_by Z c w counts rooms)
  kinds_by None x k known = absurd (let none = known in cc)
  kinds_by (Some F) x k known = value_kinds (dump_in {Z = Z} F w.choice) x k known

  -- its records are of their streams' kinds
  pub view_kinds : AreOfTheirKinds (file_shape Z w counts rooms)
  view_kinds = kinds_by w.source.store.content

  stray_by : AreBare (kind_at w) counts rooms → (c : Option (List ℕ)) → HaveNoStrayParts (shape_by Z c w counts rooms)
  stray_by bare None k none = streams_stray w.chosen counts rooms bare k none
  stray_by bare (Some F) k none = value_stray (dump_in {Z = Z} F w.choice) k none

  -- a stream of which no record is given has no names and parts
  pub view_stray : AreBare (kind_at w) counts rooms → HaveNoStrayParts (file_shape Z w counts rooms)
  view_stray bare = stray_by bare w.source.store.content

  costs_by : (c : Option (List ℕ)) → (shape_by Z c w counts rooms).costs ≡ costs_in w.chosen counts
  costs_by None = refl
  costs_by (Some F) = refl

  -- what its opening may fetch, by what its shape tells of the passes
  pub opening_cost_told : opening_cost w counts ≡ 32 + 12 * w.header.number_of_streams + sum (file_shape Z w counts rooms).costs
  opening_cost_told = ap (λ (ns : List ℕ). 32 + 12 * w.header.number_of_streams + sum ns) (sym (costs_by w.source.store.content))

-- ---- how it moves

later : (fault : SourceFault) (a b c : SourceState) → FetchesSome a b → IsLastTold fault b c → IsLastTold fault a c
later (Changed at) a b c first told = sym first.fetches.same_content ∙ told
later (Failed at) a b c first told = told_later (Failed at) first.count a b c first.fetches told
later (ShortRead at) a b c first told = told_later (ShortRead at) first.count a b c first.fetches told

-- it moves by none of its calls
stays_by : (w : WalkState) (last : Option ViewFault) → IfSome last (λ fault. ((last ≡ last) × (w.source ≡ w.source)) ⊎ IsLastTold (source_fault fault) w.source w.source)
stays_by w None = tt
stays_by w (Some fault) = inl (refl, refl)

pub view_stays : (w : WalkState) (last : Option ViewFault) → HasMoved w last w last
view_stays w last = record {
  same = record { header = refl; choice = refl; chosen = refl; held = refl; start = refl; fetches = record { count = 0; fetches = FetchesAtMost-none w.source } };
  told = stays_by w last;
}

-- and by one behind the other
follows_by : (u : WalkState) (first : Option ViewFault) (v : WalkState) (second : Option ViewFault) (w : WalkState) (last : Option ViewFault)
    → FetchesSome u.source v.source
    → IfSome second (λ fault. ((first ≡ second) × (v.source ≡ u.source)) ⊎ IsLastTold (source_fault fault) u.source v.source)
    → IfSome last (λ fault. ((second ≡ last) × (w.source ≡ v.source)) ⊎ IsLastTold (source_fault fault) v.source w.source)
    → IfSome last (λ fault. ((first ≡ last) × (w.source ≡ u.source)) ⊎ IsLastTold (source_fault fault) u.source w.source)
follows_by u first v second w None some before behind = tt
follows_by u first v second w (Some fault) some before (inr told) = inr (later (source_fault fault) u.source v.source w.source some told)
follows_by u first v second w (Some fault) some before (inl same) =
    elim (subst (λ (o : Option ViewFault). IfSome o (λ f. ((first ≡ o) × (v.source ≡ u.source)) ⊎ IsLastTold (source_fault f) u.source v.source)) same.0 before) [
      | inl old ↦ inl (old.0, same.1 ∙ old.1)
      | inr told ↦ inr (subst (λ (s : SourceState). IsLastTold (source_fault fault) u.source s) (sym same.1) told)
    ]

-- walks one behind the other
pub same_then : (u v w : WalkState) → IsSameWalk u v → IsSameWalk v w → IsSameWalk u w
same_then u v w p q = record {
  header = q.header ∙ p.header;
  choice = q.choice ∙ p.choice;
  chosen = q.chosen ∙ p.chosen;
  held = q.held ∙ p.held;
  start = q.start ∙ p.start;
  fetches = record { count = p.fetches.count + q.fetches.count; fetches = fetches_then p.fetches.count q.fetches.count u.source v.source w.source p.fetches.fetches q.fetches.fetches };
}

pub view_follows : (u : WalkState) (first : Option ViewFault) (v : WalkState) (second : Option ViewFault) (w : WalkState) (last : Option ViewFault) → HasMoved u first v second → HasMoved v second w last → HasMoved u first w last
view_follows u first v second w last p q = record {
  same = same_then u v w p.same q.same;
  told = follows_by u first v second w last p.same.fetches p.told q.told;
}
