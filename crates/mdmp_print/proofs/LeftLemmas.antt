-- Texts that go out part by part.
use Rattle.std.proofs.Common.{◌≡◌, ◌∙◌, List, ℕ, [], ◌++◌, ap, sym, refl, append_assoc, append-nil, subst}
use Rattle.mdmp_source.specs.Output.{OutState, PutsAll, PutsPrefix}
use Rattle.mdmp_source.specs.OutputLaws.{PutsAll-PutsAll, PutsAll-nothing, PutsPrefix-front, PutsPrefix-last}
use Rattle.mdmp_print.specs.Parts.{IsUnprinted}

-- at first all of it is left
pub IsUnprinted-all : (b : OutState) (text : List ℕ) → IsUnprinted b text text b
IsUnprinted-all b text = record { sent = []; whole = refl; went = PutsAll-nothing b }

-- less of what was left
pub IsUnprinted-more : (b m a : OutState) (text left rest : List ℕ) → IsUnprinted b text left m → IsUnprinted m left rest a → IsUnprinted b text rest a
IsUnprinted-more b m a text left rest had next = record {
  sent = had.sent ++ next.sent;
  whole = had.whole ∙ ap (λ (x : List ℕ). had.sent ++ x) next.whole ∙ sym (append_assoc had.sent next.sent rest);
  went = PutsAll-PutsAll b m a had.sent next.sent had.went next.went;
}

-- a first part of what was left
pub IsUnprinted-cut : (b m a : OutState) (text left : List ℕ) → IsUnprinted b text left m → PutsPrefix m left a → PutsPrefix b text a
IsUnprinted-cut b m a text left had cut =
    subst (λ (x : List ℕ). PutsPrefix b x a) (sym had.whole) (PutsPrefix-last b m a had.sent left had.went cut)

-- nothing is left
pub IsUnprinted-none : (b a : OutState) (text left : List ℕ) → IsUnprinted b text left a → left ≡ [] → PutsAll b text a
IsUnprinted-none b a text left had none =
    subst (λ (x : List ℕ). PutsAll b x a) (sym (had.whole ∙ ap (λ (x : List ℕ). had.sent ++ x) none ∙ append-nil had.sent)) had.went

-- a text of which all goes out
pub IsUnprinted-next : (b m a : OutState) (text first rest : List ℕ) → IsUnprinted b text (first ++ rest) m → PutsAll m first a → IsUnprinted b text rest a
IsUnprinted-next b m a text first rest had put = IsUnprinted-more b m a text (first ++ rest) rest had (record { sent = first; whole = refl; went = put })

-- a text of which a first part goes out
pub IsUnprinted-stopped : (b m a : OutState) (text first rest : List ℕ) → IsUnprinted b text (first ++ rest) m → PutsPrefix m first a → PutsPrefix b text a
IsUnprinted-stopped b m a text first rest had cut = IsUnprinted-cut b m a text (first ++ rest) had (PutsPrefix-front m a first rest cut)

-- the same text in other words
pub PutsAll-as : (b a : OutState) (told text : List ℕ) → PutsAll b told a → text ≡ told → PutsAll b text a
PutsAll-as b a told text put same = subst (λ (x : List ℕ). PutsAll b x a) (sym same) put

pub PutsPrefix-as : (b a : OutState) (told text : List ℕ) → PutsPrefix b told a → text ≡ told → PutsPrefix b text a
PutsPrefix-as b a told text cut same = subst (λ (x : List ℕ). PutsPrefix b x a) (sym same) cut
