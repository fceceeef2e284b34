-- One more record, and one more stream, behind those that a file lays out.
use Rattle.std.proofs.Common.{◌≡◌, ◌+◌, ◌*◌, ℕ, List, [], ◌∷◌, ◌++◌, length, arith, subst}
use Rattle.mdmp_lister.specs.Format.Listing.{Numbered}
use Rattle.mdmp_dump.specs.declared.dump.Stream.{Stream}
use Rattle.mdmp_dump.specs.LaysOut.{AreStreams, EachFrom, NamesStream}

module _ {X : Type 0} (IsAt : ℕ → ℕ → X → Type 0) (at stride : ℕ) where
  -- one more record of a list
  pub each_more : (k : ℕ) (xs : List X) (x : X) → EachFrom IsAt at stride k xs → IsAt (k + length xs) (at + (k + length xs) * stride) x
      → EachFrom IsAt at stride k (xs ++ x ∷ [])
  each_more k [] x each is =
      let first : k + 0 ≡ k = omega arith in
      (subst (λ n. IsAt n (at + n * stride) x) first is, tt)
  each_more k (y ∷ ys) x each is =
      let next : k + length (y ∷ ys) ≡ k + 1 + length ys = omega arith in
      (each.0, each_more (k + 1) ys x each.1 (subst (λ n. IsAt n (at + n * stride) x) next is))

-- one more entry and its stream
pub streams_more : {Z : Type 0} (F : List ℕ) (xs : List Numbered) (ss : List (Stream Z)) (x : Numbered) (s : Stream Z)
    → AreStreams F xs ss → NamesStream F x.entry s → AreStreams F (xs ++ x ∷ []) (ss ++ s ∷ [])
streams_more F [] [] x s streams is = (is, tt)
streams_more F (w ∷ ws) (z ∷ zs) x s streams is = (streams.0, streams_more F ws zs x s streams.1 is)
streams_more F [] (z ∷ zs) x s streams is = absurd streams
streams_more F (w ∷ ws) [] x s streams is = absurd streams
