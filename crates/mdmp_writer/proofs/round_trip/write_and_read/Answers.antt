use Rattle.std.proofs.Common.{◌≡◌, ◌∙◌, ℕ, List, Option, ap, sym, subst, Some, Err}
use Rattle.mdmp_dump.specs.Reading.{OpensWithin}
use Rattle.mdmp_lister.specs.declared.choice.Choice.TheVariants.{All}
use Rattle.mdmp_writer.specs.RoundTrip.{ComesBack}
use Rattle.mdmp_writer.specs.declared.round_trip.RoundTripFault.{RoundTripFault}
use Rattle.mdmp_writer.specs.Written.{written}
use Rattle.mdmp_writer.proofs.Returns.{not_back}
use Rattle.mdmp_writer.proofs.round_trip.write_and_read.Goals as goal

pub returns-in-Err-clause-comes_back : goal.returns-in-Err-clause-comes_back
returns-in-Err-clause-comes_back g c =
    let d = c.args.dump.now in
    let content : c.new-source.result.store.content ≡ Some (written d) =
    ap (λ s. s.content) c.new-source.ensures.store ∙ c.new.ensures.same_content ∙ ap Some (c.deref.ensures.value ∙ c.in-Ok.ensures.1) in
    subst (λ (fault : RoundTripFault). ComesBack d c.args.limits c.args.parts (Err fault)) (sym c.not_read.ensures)
    (not_back d c.args.limits c.args.parts c.in-Ok.ensures.0 (λ within. c.a_dump_within_limits_is_read.ensures (written d) All c.args.limits.name c.args.parts (c.what_is_written_is_laid_out-in-Err.ensures.laid_out c.in-Ok.ensures.0) within) c.in-Err.fault (c.in-Err.ensures.refuses (written d) content) (c.in-Err.ensures.good (written d) (record { known = content; reliable = ap (λ s. s.is_reliable) c.new-source.ensures.store ∙ c.new.ensures.same_reliable })) c.in-Err.ensures.within.within.unbudgeted)

pub returns-in-Ok-read_dump-clause-comes_back : goal.returns-in-Ok-read_dump-clause-comes_back
returns-in-Ok-read_dump-clause-comes_back g c =
    let d = c.args.dump.now in
    let content : c.new-source.result.store.content ≡ Some (written d) =
    ap (λ s. s.content) c.new-source.ensures.store ∙ c.new.ensures.same_content ∙ ap Some (c.deref.ensures.value ∙ c.in-Ok.ensures.1) in
    let read = c.in-Ok-read_dump.ensures in
    let back = c.what_is_written_is_laid_out.ensures.only c.in-Ok.ensures.0 (read.lays_out (written d) content) in (
      c.in-Ok.ensures.0,
      (
        back,
        record {
          unrefused = read.refuses (written d) content;
        },
      ),
    )

pub returns-in-Ok-read_dump-clause-limited : goal.returns-in-Ok-read_dump-clause-limited
returns-in-Ok-read_dump-clause-limited g c =
    let content : c.new-source.result.store.content ≡ Some (written c.args.dump.now) =
    ap (λ s. s.content) c.new-source.ensures.store ∙ c.new.ensures.same_content ∙ ap Some (c.deref.ensures.value ∙ c.in-Ok.ensures.1) in
    subst (λ (known : Option (List ℕ)). OpensWithin c.args.limits All known) content c.in-Ok-read_dump.ensures.limited
