-- How many bytes can be asked for of a dump in a file.
use Rattle.std.proofs.Common.{◌≡◌, ◌∙◌, ◌+◌, ℕ, List, [], ◌∷◌, ap, map, refl, sym}
use Rattle.std.proofs.lemmas.List.Sums.{sum_by-cons}
use Rattle.std.specs.Prelude.{sum_by}
use Rattle.mdmp_lister.specs.declared.choice.Choice.{Choice}
use Rattle.mdmp_lister.specs.Format.Listing.{Numbered, chosen}
use Rattle.mdmp_dump.specs.FileView.{asks_in, stream_asks}
use Rattle.mdmp_dump.specs.InFile.{dump_in, stream_named}
use Rattle.mdmp_dump.specs.Shape.{IsShapeOfSeen, IsViewOf, StreamShape, ViewShape, asks_of, shape_seen}
use Rattle.mdmp_dump.specs.View.{dump_seen, stream_seen}

module _ (Z : Type 0) (F : List ℕ) where
  streams_ask : (xs : List Numbered) → sum_by asks_of (map shape_seen (map (λ s. stream_seen s) (map (λ (x : Numbered). stream_named {Z = Z} F x.entry) xs))) ≡ asks_in Z F xs
  streams_ask [] = refl
  streams_ask (x ∷ xs) =
      let first = shape_seen (stream_seen (stream_named {Z = Z} F x.entry)) in
      let others : List StreamShape = map shape_seen (map (λ s. stream_seen s) (map (λ (y : Numbered). stream_named {Z = Z} F y.entry) xs)) in
      sum_by-cons asks_of first others
      ∙ ap (λ (n : ℕ). asks_of first + n) (streams_ask xs)
      ∙ sym (sum_by-cons (λ (y : Numbered). stream_asks (stream_named {Z = Z} F y.entry)) x xs)

  -- of the dump that F lays out, as a view gives it
  pub dump_asks : (choice : Choice) → sum_by asks_of (map shape_seen (dump_seen (dump_in {Z = Z} F choice)).streams) ≡ asks_in Z F (chosen F choice)
  unfolding dump_in
  dump_asks choice = streams_ask (chosen F choice)

-- and of each view of it
pub view_asks : (Z : Type 0) (F : List ℕ) (choice : Choice) (shape : ViewShape) → IsShapeOfSeen shape → IsViewOf (dump_in {Z = Z} F choice) shape → sum_by asks_of shape.streams ≡ asks_in Z F (chosen F choice)
view_asks Z F choice shape sound viewed = ap (sum_by asks_of) (sound (dump_seen (dump_in {Z = Z} F choice)) viewed) ∙ dump_asks Z F choice
