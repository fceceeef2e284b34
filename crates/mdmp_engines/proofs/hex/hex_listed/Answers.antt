use Rattle.std.proofs.Common.{Err, rules, ◌≡◌, ◌∙◌, ◌+◌, ℕ, length, ap, arith, refl, subst, None}
use Rattle.mdmp_source.specs.SourceLaws.{fetches_then}
use Rattle.mdmp_lister.specs.FaultLaws.{ranges_fit}
use Rattle.mdmp_engines.specs.Engines.{IsBehind, at_the_end}
use Rattle.mdmp_lister.specs.declared.meter.Amount.{Amount}
use Rattle.mdmp_lister.specs.declared.sink.RunFault.TheVariants as run
use Rattle.mdmp_summary.proofs.InEntries.{run_ends}
use Rattle.mdmp_lister.proofs.Requested.{aside_none}
use Rattle.mdmp_engines.specs.declared.fault.ToolFault.TheVariants.{Memory}
use Rattle.mdmp_engines.specs.Telling.{listing_told}
use Rattle.mdmp_engines.proofs.Asking.{requested_behind, requested_fault, requested_listed}
use Rattle.mdmp_engines.proofs.Hexing.{HexesRun-printed, HexesRun-wanting}
use Rattle.mdmp_engines.proofs.SameRuns.{budget_listing, budget_none, run_list, run_none, run_then, aside_listing}
use Rattle.mdmp_engines.proofs.Symbols.{Leaves-listed}
use Rattle.mdmp_engines.proofs.hex.hex_listed.Goals as goal

pub returns-clause-hexes : goal.returns-clause-hexes
returns-clause-hexes g c = λ file known left given.
    let listed = c.in-Ok.ensures.lists left given in
    let room : length c.print_memory.new.bytes ≡ c.args.length = grind (arith, c.print_memory.auto.bytes, c.deref_mut.ensures, c.in-Ok-vec.ensures) in
    let printed = c.print_memory.ensures.hexes file (c.list_ranges.ensures.fetches.fetches.same_content ∙ known) in
    HexesRun-printed file c.list_ranges.new.self.ranges left c.args.address c.args.length _ _ c.print_memory.result listed.0 (rw c.requires.none at listed.1) (rw room at printed)

pub returns-in_default-clause-hexes : goal.returns-in_default-clause-hexes
returns-in_default-clause-hexes g c = λ file known left given. HexesRun-wanting file left c.args.address c.args.length _ (c.in-Ok.ensures.lists left given).0

pub returns-in_default-vec-clause-hexes : goal.returns-in_default-vec-clause-hexes
returns-in_default-vec-clause-hexes g c = λ file known left given. HexesRun-wanting file left c.args.address c.args.length _ (c.in-Ok.ensures.lists left given).0

pub returns-clause-leaves : goal.returns-clause-leaves
returns-clause-leaves g c =
    let first = c.list_ranges.ensures.fetches in
    let more = c.print_memory.ensures.leaves in
    let untouched : Type 0 = g.O.Printer.state c.print_memory.new.out ≡ g.O.Printer.state c.args.out.now in
    record {
      good = search rules;
      behind = subst (λ (size : ℕ). IsBehind at_the_end size c.print_memory.result untouched) first.fetches.same_size more.behind;
      reads = record {
        cause = search rules;
        fetches = record { count = first.count + more.reads.fetches.count; fetches = fetches_then _ _ _ _ _ first.fetches more.reads.fetches.fetches };
      };
      out_cause = more.out_cause;
    }

pub returns-clause-same : goal.returns-clause-same
returns-clause-same g c = run_then _ _ _ (run_list _ _ _ (run_none _) c.list_ranges.ensures.same) c.print_memory.ensures.same

pub returns-in-Err-clause-leaves : goal.returns-in-Err-clause-leaves
returns-in-Err-clause-leaves g c =
    let of = c.in-Err.ensures in
    let fits = ranges_fit c.args.lister.now c.in-Err.fault c.list_ranges.new.self of.follows in
    rw c.told_list.ensures (Leaves-listed at_the_end _ c.list_ranges.new.self.current c.in-Err.fault _ _ _ of.fetches of.told of.good fits refl refl)

pub returns-in-Err-clause-over : goal.returns-in-Err-clause-over
returns-in-Err-clause-over g c =
    let of = c.in-Err.ensures in
    let new = c.list_ranges.new.self in
    rw c.told_list.ensures (budget_listing (Unit {0}) c.in-Err.fault c.args.lister.now new of.refused of.follows.next
    (run_ends c.args.lister.now new of.follows.items (Err (run.At c.in-Err.fault)) of.same.choice of.same.entries of.follows.follows))

pub returns-clause-over : goal.returns-clause-over
returns-clause-over g c = budget_none c.print_memory.result c.args.lister.now c.print_memory.new.lister c.print_memory.ensures.over

pub returns-in-Err-clause-same : goal.returns-in-Err-clause-same
returns-in-Err-clause-same g c = run_list _ _ _ (run_none _) c.list_ranges.ensures.same

pub returns-in_default-vec-clause-same : goal.returns-in_default-vec-clause-same
returns-in_default-vec-clause-same g c = run_list _ _ _ (run_none _) c.list_ranges.ensures.same

pub returns-in_default-clause-same : goal.returns-in_default-clause-same
returns-in_default-clause-same g c = run_list _ _ _ (run_none _) c.list_ranges.ensures.same

pub returns-in-Err-clause-aside : goal.returns-in-Err-clause-aside
returns-in-Err-clause-aside g c = rw c.told_list.ensures (aside_listing (Unit {0}) None c.in-Err.fault c.list_ranges.new.self refl)

pub returns-clause-beside : goal.returns-clause-beside
returns-clause-beside g c =
    let room : length c.print_memory.new.bytes ≡ c.args.length = grind (arith, c.print_memory.auto.bytes, c.deref_mut.ensures, c.in-Ok-vec.ensures) in
    let same = ap (λ (a : Amount). a.bytes) c.list_ranges.ensures.same.aside in
    let more = c.print_memory.ensures.beside in
    omega (arith, room, same, more)

pub returns-in-Err-clause-beside : goal.returns-in-Err-clause-beside
returns-in-Err-clause-beside g c = let same = ap (λ (a : Amount). a.bytes) c.list_ranges.ensures.same.aside in omega (arith, same)

pub returns-in_default-vec-clause-beside : goal.returns-in_default-vec-clause-beside
returns-in_default-vec-clause-beside g c = let same = ap (λ (a : Amount). a.bytes) c.list_ranges.ensures.same.aside in omega (arith, same)

pub returns-in_default-clause-beside : goal.returns-in_default-clause-beside
returns-in_default-clause-beside g c = let same = ap (λ (a : Amount). a.bytes) c.list_ranges.ensures.same.aside in omega (arith, same)

pub returns-clause-requests : goal.returns-clause-requests
returns-clause-requests g c =
    let ran = c.in-Ok.ensures.follows in
    requested_listed _ _ _ ran.items c.print_memory.result ran.requests c.print_memory.ensures.stays

pub returns-in-Err-clause-requests : goal.returns-in-Err-clause-requests
returns-in-Err-clause-requests g c =
    let ran = c.in-Err.ensures.follows in
    let behind = ran.requests.behind in
    rw c.told_list.ensures (requested_behind ran.items c.args.lister.now behind c.list_ranges.new.self (Err (listing_told c.in-Err.fault)) ran.requests.requested (requested_fault behind c.list_ranges.new.self c.in-Err.fault ran.requests.ended))

pub returns-in_default-vec-clause-requests : goal.returns-in_default-vec-clause-requests
returns-in_default-vec-clause-requests g c = let ran = c.in-Ok.ensures.follows in requested_listed _ _ _ ran.items (Err Memory) ran.requests (aside_none _)

pub returns-in_default-clause-requests : goal.returns-in_default-clause-requests
returns-in_default-clause-requests g c = let ran = c.in-Ok.ensures.follows in requested_listed _ _ _ ran.items (Err Memory) ran.requests (aside_none _)
