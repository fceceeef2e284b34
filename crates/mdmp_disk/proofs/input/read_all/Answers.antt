use Rattle.std.specs.Io.Take.{take_remaining}
use Rattle.std.proofs.Common.{arith, rules}
use Rattle.std.proofs.lemmas.Bool.{false≢true}
use Rattle.mdmp_disk.proofs.Reading.{all_read, some_read}
use Rattle.mdmp_disk.proofs.input.read_all.Goals as goal

pub returns-in-Ok-clause-read : goal.returns-in-Ok-clause-read
returns-in-Ok-clause-read g c = record {
  all = all_read (g.R.Read.remaining c.args.reader) c.saturating_add-limit.result c.read_to_end.new.buf.items (search rules) (search rules);
  fits = search (rules, arith);
  unfailing = tt;
}

pub returns : goal.returns
returns g c = record {
  read = tt;
  refused = record {
    unsure_of = false≢true;
    inside = some_read (g.R.Read.remaining c.args.reader) (take_remaining g.R.Read.remaining c.read_to_end.new.self) c.saturating_add-limit.result c.read_to_end.new.buf.items _ (search rules) (search (rules, arith));
    place = tt;
  };
}
