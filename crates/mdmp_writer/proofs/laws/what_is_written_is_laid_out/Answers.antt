use Rattle.mdmp_lister.specs.declared.choice.Choice.TheVariants.{All}
use Rattle.mdmp_writer.specs.Written.{written}
use Rattle.mdmp_writer.proofs.RoundTrip.{written_lays_out, length-written}
use Rattle.mdmp_writer.proofs.laws.what_is_written_is_laid_out.Goals as goal

pub returns-clause-laid_out : goal.returns-clause-laid_out
returns-clause-laid_out g c = written_lays_out c.args.dump.now c.the_numbers_of_a_dump_fit.ensures

pub returns-clause-only : goal.returns-clause-only
returns-clause-only g c =
    λ good laid_out. c.a_file_lays_out_one_dump.ensures (written c.args.dump.now) All laid_out (written_lays_out c.args.dump.now c.the_numbers_of_a_dump_fit.ensures good)

pub returns-clause-size : goal.returns-clause-size
returns-clause-size g c = length-written c.args.dump.now c.the_numbers_of_a_dump_fit.ensures
