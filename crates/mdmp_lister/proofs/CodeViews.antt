-- What is fetched of a CodeView record.
use Rattle.std.proofs.Common.{◌≡◌, ◌≤◌, ◌+◌, ◌-◌, ◌++◌, ◌∙◌, ℕ, List, ap, arith, drop, length, min, refl, subst, sym, take}
use Rattle.std.proofs.Math.Seq.{drop-append_seam, take-append_seam}
use Rattle.mdmp_source.specs.SourceLaws.{fetches_then}
use Rattle.mdmp_source.specs.declared.location.Location.{Location}
use Rattle.mdmp_wire.specs.CodeView.{codeview_in}
use Rattle.mdmp_wire.specs.Number.{array_at}
use Rattle.std.proofs.lemmas.Grind.{common_steps}
use Rattle.mdmp_lister.specs.declared.codeview.CodeViewBytes.{CodeViewBytes}
use Rattle.mdmp_lister.specs.declared.codeview.CodeViewRead.{CodeViewRead}
use Rattle.mdmp_lister.specs.CodeView.{AreFetched, IsCodeViewOf, codeview_head, codeview_read, codeview_told, fetched_behind}
use Rattle.mdmp_lister.specs.Meter.{MeterState, BooksAside}
use Rattle.mdmp_lister.proofs.Fetches.{FetchesAtMost-within}

pub BooksAside-then : (m n k : ℕ) (a b c : MeterState) → m + n ≤ k → BooksAside 1 m a b → BooksAside 1 n b c → BooksAside 2 k a c
BooksAside-then m n k a b c le first then = record {
  fetches = FetchesAtMost-within (m + n) k a.source c.source le (fetches_then m n a.source b.source c.source first.fetches then.fetches);
  source_calls = omega (arith, first.source_calls, then.source_calls);
  spends = record {
    aside = omega (arith, le, first.spends.aside, then.spends.aside);
    more = omega (arith, first.spends.more, then.spends.more);
    aside_calls = omega (arith, first.spends.aside_calls, then.spends.aside_calls);
    more_aside_calls = omega (arith, first.spends.more_aside_calls, then.spends.more_aside_calls);
    same_fetched = then.spends.same_fetched ∙ first.spends.same_fetched;
    same_calls = then.spends.same_calls ∙ first.spends.same_calls;
    same_names = then.spends.same_names ∙ first.spends.same_names;
    same_start = then.spends.same_start ∙ first.spends.same_start;
    same_budget = then.spends.same_budget ∙ first.spends.same_budget;
    same_asked = then.spends.same_asked ∙ first.spends.same_asked;
  };
}

-- the front of a buffer, of which so many bytes were written
pub front-kept : (front past : List ℕ) (count : ℕ) → length front ≡ count → take count (front ++ past) ≡ front
front-kept front past count long = subst (λ n. take n (front ++ past) ≡ front) long (take-append_seam front past)

pub front-past : (front past : List ℕ) (count : ℕ) → length front ≡ count → drop count (front ++ past) ≡ past
front-past front past count long = subst (λ n. drop n (front ++ past) ≡ past) long (drop-append_seam front past)

-- no more is fetched behind the first bytes than there is room for
pub fetched_within : (head : List ℕ) (size room : ℕ) → fetched_behind head size room ≤ room
fetched_within head size room = grind (arith, common_steps)

-- what a record tells by its first bytes and the fetched ones behind them
pub codeview-fetched : (F head buffer : List ℕ) (at : Location) (limit count : ℕ) → head ≡ take (length head) (drop at.rva F) → length head ≡ min at.size 24
    → take count buffer ≡ take count (drop (at.rva + 24) F) → count ≡ min (at.size - 24) limit → IsCodeViewOf F at limit head (take count buffer) at.size
unfolding array_at
codeview-fetched F head buffer at limit count first size behind fits =
    let front : head ≡ array_at F at.rva (min at.size 24) = subst (λ n. head ≡ take n (drop at.rva F)) size first in
    let rest : take count buffer ≡ array_at F (at.rva + 24) (min (at.size - 24) limit) = subst (λ n. take count buffer ≡ take n (drop (at.rva + 24) F)) fits behind in
    record {
      head_is = front;
      told = ap (λ bytes. codeview_in bytes (take count buffer) at.size) front ∙ ap (λ bytes. codeview_in (array_at F at.rva (min at.size 24)) bytes at.size) rest;
    }

-- bytes that are lent tell what was read
module _ (bytes : CodeViewBytes) (read : CodeViewRead) (head : bytes.head ≡ read.head) (size : bytes.size ≡ read.size) where
  pub lent_told : (buffer : List ℕ) → bytes.rest.now ≡ take read.rest buffer → codeview_told bytes ≡ codeview_read buffer read
  lent_told buffer rest = rw (head, size, rest) refl

  pub lent_head : codeview_head bytes ≡ take (min read.size 24) read.head
  lent_head = rw (head, size) refl

  pub lent_fetched : (at : Location) (room : ℕ) → length bytes.rest.now ≡ read.rest → AreFetched at room read.head read.rest read.size
      → AreFetched at room bytes.head (length bytes.rest.now) bytes.size
  lent_fetched at room long fetched = record {
    size_is = size ∙ fetched.size_is;
    zeros = ap (λ (xs : List ℕ). drop (min at.size 24) xs) head ∙ fetched.zeros;
    rest_is = long ∙ fetched.rest_is ∙ ap (λ (xs : List ℕ). fetched_behind (take (min at.size 24) xs) at.size room) (sym head);
  }
