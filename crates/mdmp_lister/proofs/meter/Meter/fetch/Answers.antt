use Rattle.std.proofs.Common.{ℕ, Ok, Result, ◌≡◌, arith, length, refl, rules, sym}
use Rattle.mdmp_source.specs.Count.{raised}
use Rattle.mdmp_lister.specs.Meter.{Books, IsBookedBy, IsMetered, MeterState}
use Rattle.mdmp_lister.specs.Fetching.{Reads}
use Rattle.mdmp_lister.specs.declared.fault.FetchFault.{FetchFault}
use Rattle.mdmp_source.specs.Range.{bytes_at}
use Rattle.mdmp_lister.proofs.Fetches.{FetchesAtMost-none, FetchesAtMost-within, IsCaused_none}
use Rattle.mdmp_lister.proofs.meter.Meter.fetch.Goals as goal

pub invariant_of-self : goal.invariant_of-self
invariant_of-self g c = (
  c.self.invariant.0,
  record {
    kept = c.self.invariant.1.kept;
    within = omega (arith, c.self.invariant.1.within, c.self.ranges);
    same = λ none. let passed = rw none at c.is_passed.ensures in absurd (cc);
  },
)

pub returns-then-is_passed-clause-reads : goal.returns-then-is_passed-clause-reads
returns-then-is_passed-clause-reads g c =
    let source = c.self.inside.source in
    let inside = rw (← c.self.view_is) at c.requires in
    rw (← c.self.view_is, c.over_budget.ensures) (record {
      of_file = λ file known. tt;
      books = record {
        fetches = FetchesAtMost-within 0 _ source source (omega arith) (FetchesAtMost-none source);
        source_calls = omega arith;
        asked = omega arith;
        most = omega arith;
        more = omega arith;
        more_calls = omega arith;
        most_calls = omega arith;
        same_names = refl;
        same_aside = refl;
        same_start = refl;
        same_budget = refl;
      };
      caused = IsCaused_none source;
      refused = record { passes = sym c.if-is_passed.ensures; asked = omega (arith, c.self.invariant.1.within); inside = inside; few = omega arith };
    })

pub returns-then-is_passed-clause-counts : goal.returns-then-is_passed-clause-counts
returns-then-is_passed-clause-counts g c =
    let asked : raised c.self.inside.fetched c.saturating_add-self-inside.result ≡ raised (raised c.self.inside.fetched c.self.inside.refused) (length c.args.out.now) = omega (arith, c.self.ranges) in
    rw (← c.self.view_is, c.over_budget.ensures, asked) refl

pub returns-then-is_passed-clause-refused : goal.returns-then-is_passed-clause-refused
returns-then-is_passed-clause-refused g c =
    rw (← c.self.view_is, c.over_budget.ensures) (
      (refl, refl),
      (
        record {
          passes = sym c.if-is_passed.ensures;
          asked = omega (arith, c.self.invariant.1.within);
          inside = rw (← c.self.view_is) at c.requires;
          few = omega arith;
        },
        refl,
      ),
    )

pub returns-clause-counts : goal.returns-clause-counts
returns-clause-counts g c =
    let m = c.self.inside in
    let n = length c.fetch.new.out in
    let fetched : c.saturating_add-self-inside-2.result ≡ raised m.fetched n = omega (arith, c.self.ranges, c.fetch.auto.out) in
    let calls : c.saturating_add-self-inside-3.result ≡ raised m.calls 1 = omega (arith, c.self.ranges) in
    let asked : raised (raised m.fetched n) m.refused ≡ raised (raised m.fetched m.refused) n = omega (arith, c.self.ranges) in
    rw (← c.self.view_is, fetched, calls, asked) refl

pub returns-clause-reads : goal.returns-clause-reads
returns-clause-reads g c =
    let m = c.self.inside in
    let n : ℕ = length c.fetch.new.out in
    let new : MeterState = record {
      source = c.fetch.new.self;
      fetched = c.saturating_add-self-inside-2.result;
      calls = c.saturating_add-self-inside-3.result;
      names = m.names;
      aside = m.aside;
      start = m.start;
      budget = m.budget;
      asked = raised c.saturating_add-self-inside-2.result m.refused;
    } in
    let done : Result (Unit {0}) FetchFault = Ok tt in
    let reads : Reads n (Books 1 n) (λ file x. c.fetch.new.out ≡ bytes_at file c.args.at n) done c.args.self.now new = search rules in
    reads

pub invariant_of-self-2 : goal.invariant_of-self-2
invariant_of-self-2 g c =
    let m = c.self.inside in
    let booked : IsBookedBy c.fetch.new.self c.saturating_add-self-inside-2.result c.saturating_add-self-inside-3.result m.aside m.start × IsMetered m.budget c.saturating_add-self-inside-2.result (raised c.saturating_add-self-inside-2.result m.refused) = search rules in
    booked

pub returns-then-is_passed-clause-tries : goal.returns-then-is_passed-clause-tries
returns-then-is_passed-clause-tries g c = rw (← c.self.view_is, c.over_budget.ensures) ((refl, refl), refl)
