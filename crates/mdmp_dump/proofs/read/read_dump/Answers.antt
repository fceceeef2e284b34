use Rattle.mdmp_dump.proofs.read.read_dump.Goals as goal

pub returns-clause-lays_out : goal.returns-clause-lays_out
returns-clause-lays_out g c = c.read_source-answer.ensures.lays_out

pub returns-clause-refuses : goal.returns-clause-refuses
returns-clause-refuses g c = c.read_source-answer.ensures.refuses

pub returns-clause-tells : goal.returns-clause-tells
returns-clause-tells g c = c.read_source-answer.ensures.tells

pub returns-clause-short : goal.returns-clause-short
returns-clause-short g c = c.read_source-answer.ensures.short

pub returns-clause-within : goal.returns-clause-within
returns-clause-within g c =
    let read = c.read_source-answer.ensures in
    record {
      within = record { after = c.read_source-answer.result.source; fetches = read.cause; keeps = read.keeps; unbudgeted = read.unbudgeted };
      dropped = c.let_go.ensures;
    }
