use Rattle.std.proofs.Common.{length, refl}
use Rattle.mdmp_lister.proofs.Asides.{aside_mapped}
use Rattle.mdmp_lister.proofs.Fetches.{good_caused, told_caused}
use Rattle.mdmp_lister.proofs.lister.Lister.read_address_counted.Goals as goal

pub returns-clause-reads : goal.returns-clause-reads
returns-clause-reads g c =
    let old = c.self.inside.walk.meter.source in
    let new = c.read_addresses.new.meter.source in
    let reads = c.read_addresses.ensures.reads in
    let fetches = reads.books.fetches in
    rw (← c.self.view_is) (record {
      same = rw (fetches.same_content, fetches.same_size) refl;
      aside = reads.books.spends;
      fetches = fetches;
      source_calls = reads.books.source_calls;
      told = told_caused old new c.read_addresses.result reads.caused;
      good = λ file good. good_caused old new c.read_addresses.result file reads.caused good;
    })

pub invariant_of-self : goal.invariant_of-self
invariant_of-self g c =
    aside_mapped (length c.read_addresses.new.out) c.self.inside.walk (record c.self.inside.walk { meter = c.read_addresses.new.meter }) c.self.inside.map c.self.invariant
    c.read_addresses.ensures.reads.books refl
