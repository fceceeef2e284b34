-- What a file lays out of all entries, it lays out of a choice of types.
use Rattle.std.proofs.Common.{◌≡◌, ℕ, List, [], ◌∷◌, refl, ap, subst}
use Rattle.std.specs.Prelude.{Bool, true, false, filter, if◌then◌else◌}
use Rattle.mdmp_lister.specs.declared.choice.Choice.TheVariants.{All, Types}
use Rattle.mdmp_lister.specs.Format.Listing.{Numbered, entries, is_chosen, only_chosen}
use Rattle.mdmp_dump.specs.declared.dump.Stream.{Stream}
use Rattle.mdmp_dump.specs.declared.dump.Dump.{Dump}
use Rattle.mdmp_dump.specs.Value.{type_of, select}
use Rattle.mdmp_dump.specs.LaysOut.{NamesStream, AreStreams, LaysOut}

all_chosen : (es : List Numbered) → only_chosen All es ≡ es
unfolding only_chosen
all_chosen [] = refl
all_chosen (e ∷ es) = ap (λ (ys : List Numbered). e ∷ ys) (all_chosen es)

module _ {Z : Type 0} where
  -- the first of some entries and of their streams is chosen, or it is not, by two tests that agree
  selected_first : (F : List ℕ) (b c : Bool) (e : Numbered) (s : Stream Z) (es : List Numbered) (ss : List (Stream Z)) → b ≡ c → NamesStream F e.entry s → AreStreams F es ss → AreStreams F (if b then e ∷ es else es) (if c then s ∷ ss else ss)
  selected_first F true true e s es ss same first later = (first, later)
  selected_first F false false e s es ss same first later = later
  selected_first F true false e s es ss same first later = absurd (cc same)
  selected_first F false true e s es ss same first later = absurd (cc same)

  streams_selected : (F : List ℕ) (types : List ℕ) (es : List Numbered) (ss : List (Stream Z)) → AreStreams F es ss → AreStreams F (only_chosen (Types types) es) (filter (λ s. is_chosen (Types types) (type_of s)) ss)
  unfolding only_chosen
  streams_selected F types [] [] p = tt
  streams_selected F types [] (s ∷ ss) p = absurd p
  streams_selected F types (e ∷ es) [] p = absurd p
  streams_selected F types (e ∷ es) (s ∷ ss) p =
      let same = ap (λ (t : ℕ). is_chosen (Types types) t) p.0.type_is in
      selected_first F _ _ e s (only_chosen (Types types) es) (filter (λ s. is_chosen (Types types) (type_of s)) ss) same p.0 (streams_selected F types es ss p.1)

  pub lays_out_selected : (F : List ℕ) (types : List ℕ) (d : Dump Z) → LaysOut F All d → LaysOut F (Types types) (select d types)
  lays_out_selected F types d p = record {
    header = p.header;
    version_high = p.version_high;
    checksum = p.checksum;
    time = p.time;
    flags = p.flags;
    directory = p.directory;
    streams = streams_selected F types (entries F) d.streams (subst (λ (es : List Numbered). AreStreams F es d.streams) (all_chosen (entries F)) p.streams);
  }
