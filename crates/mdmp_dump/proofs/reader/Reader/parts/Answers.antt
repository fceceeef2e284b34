use Rattle.std.proofs.Common.{ℕ, List, refl}
use Rattle.mdmp_wire.specs.AnyRecord.{slot_at}
use Rattle.mdmp_lister.specs.declared.name.Name.TheVariants as names
use Rattle.mdmp_lister.specs.declared.step.RecordRead.{RecordRead}
use Rattle.mdmp_dump.specs.Refusal.{ReadStep, slot_steps}
use Rattle.mdmp_dump.proofs.Taking.{TakesSteps-known, TakesSteps-size, Takes_as, Takes_at, Takes_fault, Takes_fault_as, Takes_then, refused_by}
use Rattle.mdmp_dump.proofs.reader.Reader.parts.Goals as goal

-- what slot j asks in a file of z bytes
abbrev asked : RecordRead → ℕ → ℕ → List ReadStep
asked r j z = slot_steps z r.entry r.index r.offset names.None (slot_at r.fields j)

pub returns-in_err-first : goal.returns-in_err-first
returns-in_err-first g c =
    let is = refused_by c.from_residual.result c.in_err-first.field-0.0 c.from_residual.ensures.1 in
    let first = rw c.slots.ensures at c.in_err-first.ensures.takes in
    rw is (record { takes = Takes_fault {T = Unit {0}} _ _ _ _ _ (Takes_fault _ _ _ _ _ first); of_file = λ file known. tt; name = tt })

pub returns-in_err-second : goal.returns-in_err-second
returns-in_err-second g c =
    let is = refused_by c.from_residual-in_err-second.result c.in_err-second.field-0.0 c.from_residual-in_err-second.ensures.1 in
    let first = rw c.slots.ensures at c.in_ok-first.ensures.takes in
    let second = Takes_at (asked c.args.read 1) _ _ _ _ (TakesSteps-size _ _ _ _ first) (rw c.slots.ensures at c.in_err-second.ensures.takes) in
    rw is (record { takes = Takes_fault {T = Unit {0}} _ _ _ _ _ (Takes_then _ _ _ _ _ _ _ first (Takes_fault_as _ _ _ _ second)); of_file = λ file known. tt; name = tt })

pub returns-in_err-third : goal.returns-in_err-third
returns-in_err-third g c =
    let is = refused_by c.from_residual-in_err-third.result c.in_err-third.field-0.0 c.from_residual-in_err-third.ensures.1 in
    let first = rw c.slots.ensures at c.in_ok-first.ensures.takes in
    let second = Takes_at (asked c.args.read 1) _ _ _ _ (TakesSteps-size _ _ _ _ first) (rw c.slots.ensures at c.in_ok-second.ensures.takes) in
    let both = Takes_then _ _ _ _ _ _ _ first second in
    let third = Takes_at (asked c.args.read 2) _ _ _ _ (TakesSteps-size _ _ _ _ both) (rw c.slots.ensures at c.in_err-third.ensures.takes) in
    rw is (record { takes = Takes_then _ _ _ _ _ _ _ both (Takes_fault_as _ _ _ _ third); of_file = λ file known. tt; name = tt })

pub returns : goal.returns
returns g c =
    let first = rw c.slots.ensures at c.in_ok-first.ensures.takes in
    let second = Takes_at (asked c.args.read 1) _ _ _ _ (TakesSteps-size _ _ _ _ first) (rw c.slots.ensures at c.in_ok-second.ensures.takes) in
    let both = Takes_then _ _ _ _ _ _ _ first second in
    let third = Takes_at (asked c.args.read 2) _ _ _ _ (TakesSteps-size _ _ _ _ both) (rw c.slots.ensures at c.in_ok-third.ensures.takes) in
    record {
      takes = Takes_then _ _ _ _ _ _ _ both (Takes_as _ _ _ _ _ third);
      of_file = λ file known. record {
        first = rw c.slots.ensures at (c.in_ok-first.ensures.of_file file known);
        second = rw c.slots.ensures at (c.in_ok-second.ensures.of_file file (TakesSteps-known _ _ _ _ first file known));
        third = rw c.slots.ensures at (c.in_ok-third.ensures.of_file file (TakesSteps-known _ _ _ _ both file known));
      };
      name = refl;
    }
