use Rattle.std.proofs.Common.{◌∙◌, ℕ, refl, subst, sym}
use Rattle.mdmp_summary.proofs.Told.{good_still, outside_listing, same_listing_then}
use Rattle.mdmp_summary.specs.Spending.{ReadsOutside}
use Rattle.mdmp_summary_lines.specs.declared.names.SummaryNames.{SummaryNames}
use Rattle.mdmp_engines.specs.KeptNames.{ReadsNames, kept_names, names_cost, names_room, told_names}
use Rattle.mdmp_engines.specs.ObjectRuns.{PrintsThrough, ReadsObject}
use Rattle.mdmp_engines.specs.SummaryObject.{named_object, told_object}
use Rattle.mdmp_engines.proofs.ObjectBlocks.{still_flushed}
use Rattle.mdmp_engines.proofs.ObjectNames.{quiet_printed, quiet_untouched, unread_cause, unread_out, unread_prints}
use Rattle.mdmp_engines.proofs.Symbols.{cause_then, refused_by}
use Rattle.mdmp_engines.proofs.summary_json.print_object.Goals as goal

-- ---- a name was not read

pub returns-in_err-names-clause-prints : goal.returns-in_err-names-clause-prints
returns-in_err-names-clause-prints g c = λ bytes known.
    let fault = c.in_err-names.field-0.0 in
    let is = refused_by c.from_residual.result fault c.from_residual.ensures.1 in
    rw is (unread_prints c.args.walker.now.list.source c.read_names.new.walker.list.source fault (told_object c.args.file.now bytes c.args.limit c.args.symbols c.args.summary.now) c.args.summary.now.bad.count
    c.args.blocks.now.inner c.in_err-names.ensures.fault)

pub returns-in_err-names-clause-reads : goal.returns-in_err-names-clause-reads
returns-in_err-names-clause-reads g c =
    let fault = c.in_err-names.field-0.0 in
    let is = refused_by c.from_residual.result fault c.from_residual.ensures.1 in
    rw is (ReadsObject.unread c.in_err-names.ensures.fault (subst (λ (l : ℕ). ReadsOutside (names_cost (names_room l)) c.args.walker.now c.read_names.new.walker) c.requires.limit c.in_err-names.ensures.reads) refl)

pub returns-in_err-names-clause-same : goal.returns-in_err-names-clause-same
returns-in_err-names-clause-same g c = outside_listing _ c.args.walker.now c.read_names.new.walker c.in_err-names.ensures.reads

pub returns-in_err-names-clause-good : goal.returns-in_err-names-clause-good
returns-in_err-names-clause-good g c = λ bytes good.
    let fault = c.in_err-names.field-0.0 in
    let is = refused_by c.from_residual.result fault c.from_residual.ensures.1 in
    rw is (c.in_err-names.ensures.good bytes good)

pub returns-in_err-names-clause-cause : goal.returns-in_err-names-clause-cause
returns-in_err-names-clause-cause g c =
    let fault = c.in_err-names.field-0.0 in
    let is = refused_by c.from_residual.result fault c.from_residual.ensures.1 in
    rw is (unread_cause _ _ fault c.in_err-names.ensures.fault)

pub returns-in_err-names-clause-out_cause : goal.returns-in_err-names-clause-out_cause
returns-in_err-names-clause-out_cause g c =
    let fault = c.in_err-names.field-0.0 in
    let is = refused_by c.from_residual.result fault c.from_residual.ensures.1 in
    rw is (unread_out _ _ fault c.args.blocks.now.inner c.in_err-names.ensures.fault)

pub returns-in_err-names-clause-quiet : goal.returns-in_err-names-clause-quiet
returns-in_err-names-clause-quiet g c = quiet_untouched c.from_residual.result _ refl

pub returns-in_err-names-clause-flushed : goal.returns-in_err-names-clause-flushed
returns-in_err-names-clause-flushed g c = still_flushed c.from_residual.result c.args.blocks.now.pending c.requires.none

-- ---- they were read

pub returns-clause-prints : goal.returns-clause-prints
returns-clause-prints g c = λ bytes known.
    let named = c.read_names.new.walker in
    let reads = c.in_ok-names.ensures.reads in
    let limit = (outside_listing _ c.args.walker.now named reads.most).limit ∙ sym c.requires.limit in
    let before = c.args.blocks.now.inner in
    let after = c.print_gathered.new.blocks.inner in
    let answer = c.print_gathered.result in
    let summary = c.args.summary.now in
    let file = c.args.file.now in
    let printed = c.print_gathered.ensures.prints bytes (reads.most.fetches.same_content ∙ known) in
    subst (λ (n : SummaryNames). PrintsThrough (named_object file bytes c.args.limit c.args.symbols summary n) summary.bad.count before answer after) (c.in_ok-names.ensures.names bytes known)
    (subst (λ (l : ℕ). PrintsThrough (named_object file bytes l c.args.symbols summary (kept_names c.in_ok-names.names)) summary.bad.count before answer after) limit printed)

pub returns-clause-reads : goal.returns-clause-reads
returns-clause-reads g c =
    let old = c.args.walker.now in
    let named = c.read_names.new.walker in
    let reads = c.in_ok-names.ensures.reads in
    let same = outside_listing _ old named reads.most in
    let answer = c.print_gathered.result in
    let lists = c.print_gathered.ensures.reads in
    ReadsObject.printed named (subst (λ (l : ℕ). ReadsNames l (λ bytes. told_names bytes c.args.limit c.args.summary.now) old named) c.requires.limit reads) c.print_gathered.ensures.leaves
    (rw (same.limit, reads.most.fetches.same_content) at lists)

pub returns-clause-same : goal.returns-clause-same
returns-clause-same g c =
    let named = c.read_names.new.walker in
    same_listing_then c.args.walker.now.list named.list c.print_gathered.new.walker.list (outside_listing _ c.args.walker.now named c.in_ok-names.ensures.reads.most) c.print_gathered.ensures.leaves.same

pub returns-clause-good : goal.returns-clause-good
returns-clause-good g c = λ bytes good.
    c.print_gathered.ensures.leaves.good bytes (good_still bytes _ c.args.walker.now.list.source c.read_names.new.walker.list.source c.in_ok-names.ensures.reads.most.fetches good)

pub returns-clause-cause : goal.returns-clause-cause
returns-clause-cause g c =
    cause_then _ c.args.walker.now.list.source c.read_names.new.walker.list.source c.print_gathered.new.walker.list.source c.print_gathered.result c.in_ok-names.ensures.reads.most.fetches c.print_gathered.ensures.leaves.cause

pub returns-clause-quiet : goal.returns-clause-quiet
returns-clause-quiet g c = quiet_printed c.print_gathered.result _ c.print_gathered.ensures.leaves.stops
