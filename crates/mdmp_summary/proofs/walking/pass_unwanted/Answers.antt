use Rattle.std.proofs.Common.{rules, ◌≡◌, ◌∙◌, Err, ap, sym, false}
use Rattle.mdmp_lister.specs.Lister.{is_for_good}
use Rattle.mdmp_lister.specs.Walker.{is_sought, seeks}
use Rattle.mdmp_summary.specs.Skipping.{HasBegun}
use Rattle.mdmp_summary.proofs.Skipped.{begun_unsought, head_left, skipped_passed}
use Rattle.mdmp_summary.proofs.walking.pass_unwanted.Goals as goal

pub returns-clause-passes : goal.returns-clause-passes
returns-clause-passes g c =
    let old = c.args.walker.now in
    let kind = c.in-Some.kind in
    let begun : HasBegun old kind = rw c.in-Some.is at c.requires.begun in
    let counted = c.in_ok-records.ensures.counts in
    let skips = c.skip_entry.ensures in
    let unsought : is_sought c.records.new.self ≡ false = ap seeks counted.position ∙ begun_unsought old.position begun.begun in
    skipped_passed old c.records.new.self c.skip_entry.new.self kind c.in_ok-records.field-0 begun counted (skips.skips (ap is_for_good counted.stop) unsought) skips.keeps skips.mark (skips.position.0 ∙ unsought)
    g.V.Visitor.taken g.V.Visitor.looked c.args.visitor.now (sym c.has_names.ensures ∙ c.if-has_names.false) (c.wants.ensures.uses c.if-wants.false) c.in_ok-records.ensures.of_file

pub returns-in_err-records-clause-meets : goal.returns-in_err-records-clause-meets
returns-in_err-records-clause-meets g c =
    let fault = c.in_err-records.field-0.0 in
    let is : c.from_residual.result ≡ Err fault = search rules in
    let begun : HasBegun c.args.walker.now c.in-Some.kind = rw c.in-Some.is at c.requires.begun in
    rw is (record { left = head_left c.args.walker.now c.in-Some.kind fault begun c.in_err-records.ensures.of_file; counted = c.in_err-records.ensures.counts })
