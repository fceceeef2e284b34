-- Fetches for a listing, one behind the other.
use Rattle.std.proofs.Common.{◌≡◌, ◌≤◌, ◌+◌, ◌∙◌, ℕ, arith, refl}
use Rattle.mdmp_source.specs.Count.{raised}
use Rattle.mdmp_source.specs.SourceLaws.{fetches_then}
use Rattle.mdmp_lister.specs.Meter.{MeterState, Books}
use Rattle.mdmp_lister.proofs.Fetches.{FetchesAtMost-none, FetchesAtMost-within}

pub Books_none : (calls n : ℕ) (a : MeterState) → Books calls n a a
Books_none calls n a = record {
  fetches = FetchesAtMost-within 0 n a.source a.source (omega arith) (FetchesAtMost-none a.source);
  source_calls = omega arith;
  asked = omega arith;
  most = omega arith;
  more = omega arith;
  more_calls = omega arith;
  most_calls = omega arith;
  same_names = refl;
  same_aside = refl;
  same_start = refl;
  same_budget = refl;
}

pub Books-then : (i j calls m n k : ℕ) (a b c : MeterState) → i + j ≤ calls → m + n ≤ k → Books i m a b → Books j n b c → Books calls k a c
Books-then i j calls m n k a b c few le first then = record {
  fetches = FetchesAtMost-within (m + n) k a.source c.source le (fetches_then m n a.source b.source c.source first.fetches then.fetches);
  source_calls = omega (arith, few, first.source_calls, then.source_calls);
  asked = omega (arith, le, first.asked, then.asked);
  most = omega (arith, le, first.most, then.most);
  more = omega (arith, first.more, then.more);
  more_calls = omega (arith, first.more_calls, then.more_calls);
  most_calls = omega (arith, few, first.most_calls, then.most_calls);
  same_names = then.same_names ∙ first.same_names;
  same_aside = then.same_aside ∙ first.same_aside;
  same_start = then.same_start ∙ first.same_start;
  same_budget = then.same_budget ∙ first.same_budget;
}

pub Books-within : (i calls m n : ℕ) (a b : MeterState) → i ≤ calls → m ≤ n → Books i m a b → Books calls n a b
Books-within i calls m n a b few le books = Books-then i 0 calls m 0 n a b b (omega (arith, few)) (omega (arith, le)) books (Books_none 0 0 b)

-- what one fetch counts behind another
pub counted_then : (c m n a b d : ℕ) → m ≡ raised c a → n ≡ raised m b → a + b ≡ d → n ≡ raised c d
counted_then c m n a b d first then all = omega (arith, first, then, all)
