use Rattle.std.proofs.Common.{◌≡◌, ◌≤◌, ◌+◌, ◌∙◌, None, Err, ap, arith, inr, refl, rules, sym}
use Rattle.mdmp_source.specs.Count.{raised}
use Rattle.mdmp_lister.specs.declared.fetching.NameRead.TheVariants.{Long, Units}
use Rattle.mdmp_lister.specs.Fault.{fault_of_fetch}
use Rattle.mdmp_lister.specs.Meter.{MeterState, store_fault_of}
use Rattle.mdmp_lister.proofs.Fetches.{IsCaused_later}
use Rattle.mdmp_lister.proofs.Metering.{Books-then}
use Rattle.mdmp_lister.proofs.NextSteps.{length_bad, length_refused, raised_both, raised_none, units_refused}
use Rattle.mdmp_lister.proofs.RecordReads.{name_bad, name_obtained, name_unread}
use Rattle.mdmp_lister.proofs.SomeNames.{some_bad, some_failed, some_long, some_none, some_outside, some_units}
use Rattle.mdmp_lister.proofs.fetching.read_name.Goals as goal

pub returns-in_err-check_units-clause-reads : goal.returns-in_err-check_units-clause-reads
returns-in_err-check_units-clause-reads g c =
    let bad = c.in_err-check_units in
    let read = c.in_ok-length.ensures.reads in
    let is : c.from_residual-in_err-check_units.result ≡ Err bad.field-0.0 = search rules in
    rw is (name_bad c.args.buffer.now.limit c.args.rva c.args.meter.now c.reach_name.new.self c.read_length.new.meter c.reach_name.ensures c.if-rva-eq0.false 1 4 read.books (omega arith) (omega arith)
    (omega arith) read.caused _ _ c.in_ok-length.length bad.field-0.0 (rw c.check_units.ensures at bad.was))

pub returns-then-rva-eq0-clause-some : goal.returns-then-rva-eq0-clause-some
returns-then-rva-eq0-clause-some g c = some_none c.args.meter.now.source.size c.args.buffer.now.limit c.args.rva c.if-rva-eq0.true

pub returns-then-not-inside-clause-some : goal.returns-then-not-inside-clause-some
returns-then-not-inside-clause-some g c = some_outside _ _ c.args.rva c.faulted.result c.if-rva-eq0.false (search rules) c.faulted.ensures

pub returns-in_err-length-clause-some : goal.returns-in_err-length-clause-some
returns-in_err-length-clause-some g c = some_failed _ _ c.args.rva c.from_residual.result (search rules) (search rules)

pub returns-in_err-check_units-clause-some : goal.returns-in_err-check_units-clause-some
returns-in_err-check_units-clause-some g c =
    let bad = c.in_err-check_units in
    some_bad _ _ c.args.rva c.in_ok-length.length c.check_units.result bad.field-0.0 c.from_residual-in_err-check_units.result c.if-rva-eq0.false (search rules) (search rules) bad.was (search rules)

pub returns-then-limit-length-clause-some : goal.returns-then-limit-length-clause-some
returns-then-limit-length-clause-some g c = some_long _ _ c.args.rva c.in_ok-length.length c.if-rva-eq0.false (search rules) (search rules) (omega arith)

pub returns-in_err-fetch-clause-some : goal.returns-in_err-fetch-clause-some
returns-in_err-fetch-clause-some g c = some_failed _ _ c.args.rva c.from_residual-in_err-fetch.result (search rules) (search rules)

pub returns-clause-some : goal.returns-clause-some
returns-clause-some g c = some_units _ _ c.args.rva c.in_ok-length.length c.if-rva-eq0.false (search rules) (search rules) (omega arith)

pub returns-in_err-length-clause-reads : goal.returns-in_err-length-clause-reads
returns-in_err-length-clause-reads g c =
    let fault = c.in_err-length.field-0.0 in
    let read = c.in_err-length.ensures.reads in
    let is : c.from_residual.result ≡ Err (fault_of_fetch fault) = search rules in
    rw is (name_unread c.args.buffer.now.limit c.args.rva c.args.meter.now c.reach_name.new.self c.read_length.new.meter c.reach_name.ensures c.if-rva-eq0.false 1 4 read.books (omega arith) (omega arith)
    4 fault (omega arith) read.refused read.caused)

pub returns-then-limit-length-clause-reads : goal.returns-then-limit-length-clause-reads
returns-then-limit-length-clause-reads g c =
    let read = c.in_ok-length.ensures.reads in
    name_obtained c.args.buffer.now.limit c.args.rva c.args.meter.now c.reach_name.new.self c.read_length.new.meter c.reach_name.ensures c.if-rva-eq0.false 1 4 read.books (omega arith) (omega arith)
    (Long c.in_ok-length.length) (omega arith) refl read.caused

pub returns-in_err-fetch-clause-reads : goal.returns-in_err-fetch-clause-reads
returns-in_err-fetch-clause-reads g c =
    let bytes = c.in_ok-length.length in
    let fault = c.in_err-fetch.field-0.0 in
    let first = c.in_ok-length.ensures.reads in
    let then = c.in_err-fetch.ensures.reads in
    let few : bytes ≤ c.fetch.new.self.limit = omega (arith, c.if-limit-length.false, c.limit.ensures, c.fetch.ensures.limit) in
    let is : c.from_residual-in_err-fetch.result ≡ Err (fault_of_fetch fault) = search rules in
    rw is (name_unread c.fetch.new.self.limit c.args.rva c.args.meter.now c.reach_name.new.self c.fetch.new.meter c.reach_name.ensures c.if-rva-eq0.false 2 (4 + bytes)
    (Books-then 1 1 2 4 bytes (4 + bytes) c.reach_name.new.self c.read_length.new.meter c.fetch.new.meter (omega arith) (omega arith) first.books then.books) (omega arith) (omega (arith, few))
    bytes fault (omega (arith, few)) then.refused
    (IsCaused_later (store_fault_of {T = Unit {0}} (Err fault)) 4 c.reach_name.new.self.source c.read_length.new.meter.source c.fetch.new.meter.source first.books.fetches first.caused then.caused))

pub returns-clause-reads : goal.returns-clause-reads
returns-clause-reads g c =
    let bytes = c.in_ok-length.length in
    let first = c.in_ok-length.ensures.reads in
    let then = c.in_ok-fetch.ensures.reads in
    let few : bytes ≤ c.fetch.new.self.limit = omega (arith, c.if-limit-length.false, c.limit.ensures, c.fetch.ensures.limit) in
    name_obtained c.fetch.new.self.limit c.args.rva c.args.meter.now c.reach_name.new.self c.fetch.new.meter c.reach_name.ensures c.if-rva-eq0.false 2 (4 + bytes)
    (Books-then 1 1 2 4 bytes (4 + bytes) c.reach_name.new.self c.read_length.new.meter c.fetch.new.meter (omega arith) (omega arith) first.books then.books) (omega arith) (omega (arith, few))
    (Units bytes) (omega arith) refl
    (IsCaused_later None 4 c.reach_name.new.self.source c.read_length.new.meter.source c.fetch.new.meter.source first.books.fetches first.caused then.caused)

pub returns-in_err-length-clause-tries : goal.returns-in_err-length-clause-tries
returns-in_err-length-clause-tries g c =
    let fault = c.in_err-length.field-0.0 in
    let is : c.from_residual.result ≡ Err (fault_of_fetch fault) = search rules in
    rw is (length_refused c.args.buffer.now.limit c.args.rva fault c.reach_name.new.self c.read_length.new.meter c.args.meter.now c.if-rva-eq0.false (inr (omega arith))
    (ap (λ (m : MeterState). m.fetched) c.reach_name.ensures) c.in_err-length.ensures.tries)

pub returns-in_err-check_units-clause-tries : goal.returns-in_err-check_units-clause-tries
returns-in_err-check_units-clause-tries g c =
    let bad = c.in_err-check_units in
    let is : c.from_residual-in_err-check_units.result ≡ Err bad.field-0.0 = search rules in
    rw is (length_bad c.args.buffer.now.limit c.args.rva c.args.meter.now c.read_length.new.meter
    (c.in_ok-length.ensures.tries ∙ ap (λ (m : MeterState). raised m.fetched 4) c.reach_name.ensures) _ _ c.in_ok-length.length bad.field-0.0 (rw c.check_units.ensures at bad.was))

pub returns-in_err-fetch-clause-tries : goal.returns-in_err-fetch-clause-tries
returns-in_err-fetch-clause-tries g c =
    let bytes = c.in_ok-length.length in
    let fault = c.in_err-fetch.field-0.0 in
    let few : bytes ≤ c.fetch.new.self.limit = omega (arith, c.if-limit-length.false, c.limit.ensures, c.fetch.ensures.limit) in
    let is : c.from_residual-in_err-fetch.result ≡ Err (fault_of_fetch fault) = search rules in
    rw is (units_refused c.fetch.new.self.limit c.args.rva bytes fault c.read_length.new.meter c.fetch.new.meter c.args.meter.now c.if-rva-eq0.false (search rules) (search rules) few
    (λ file known. c.in_ok-length.ensures.reads.of_file file (rw c.reach_name.ensures known))
    (c.in_ok-length.ensures.tries ∙ ap (λ (m : MeterState). raised m.fetched 4) c.reach_name.ensures) c.in_err-fetch.ensures.tries)

pub returns-then-rva-eq0-clause-tries : goal.returns-then-rva-eq0-clause-tries
returns-then-rva-eq0-clause-tries g c = omega arith

pub returns-then-not-inside-clause-tries : goal.returns-then-not-inside-clause-tries
returns-then-not-inside-clause-tries g c =
    rw c.faulted.ensures (ap (λ (m : MeterState). m.fetched) c.reach_name.ensures ∙ sym (raised_none c.args.meter.now.fetched))

pub returns-then-limit-length-clause-tries : goal.returns-then-limit-length-clause-tries
returns-then-limit-length-clause-tries g c = c.in_ok-length.ensures.tries ∙ ap (λ (m : MeterState). raised m.fetched 4) c.reach_name.ensures

pub returns-clause-tries : goal.returns-clause-tries
returns-clause-tries g c =
    c.in_ok-fetch.ensures.tries ∙ ap (λ n. raised n c.in_ok-length.length) (c.in_ok-length.ensures.tries ∙ ap (λ (m : MeterState). raised m.fetched 4) c.reach_name.ensures)
    ∙ raised_both c.args.meter.now.fetched 4 c.in_ok-length.length
