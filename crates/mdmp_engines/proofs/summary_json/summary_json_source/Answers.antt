use Rattle.std.proofs.Common.{◌≡◌, ◌∙◌, ◌*◌, ℕ, ap, refl, subst, sym}
use Rattle.mdmp_source.specs.Source.{SourceState}
use Rattle.mdmp_source.specs.SourceLaws.{fetches_then}
use Rattle.mdmp_summary.proofs.Told.{good_still, keeps_counted}
use Rattle.mdmp_summary.specs.declared.summary.FileSummary.{FileSummary}
use Rattle.mdmp_engines.proofs.ObjectBlocks.{still_flushed}
use Rattle.mdmp_engines.proofs.ObjectNames.{object_as_told, quiet_untouched}
use Rattle.mdmp_engines.proofs.Symbols.{cause_then}
use Rattle.mdmp_engines.proofs.Unsummed.{unsummed_object, unsummed_object_through, unsummed_out}
use Rattle.mdmp_engines.specs.Engines.{ReadsSource}
use Rattle.mdmp_engines.specs.KeptNames.{told_names}
use Rattle.mdmp_engines.specs.ObjectRuns.{IsObjectThrough, PrintsThrough, PrintsObject, object_held}
use Rattle.mdmp_engines.specs.SummaryObject.{limited_object}
use Rattle.mdmp_engines.specs.SummaryRuns.{IsSummed, IsUnsummed, summary_names}
use Rattle.mdmp_engines.proofs.summary_json.summary_json_source.Goals as goal

-- ---- there is no summary

pub returns-in-Err-clause-prints : goal.returns-in-Err-clause-prints
returns-in-Err-clause-prints g c = λ bytes known.
    let held : 4 * c.from-beside.result ≡ object_held c.args.limits = ap (λ (n : ℕ). 4 * n) c.from-beside.ensures in
    unsummed_object c.args.limits c.args.source c.in-Err.ended.answer c.in-Err.ended.source c.args.file.now bytes c.args.blocks.now.inner known
    (subst (λ (n : ℕ). IsUnsummed n c.args.limits c.args.source c.in-Err.ended.answer c.in-Err.ended.source) held c.in-Err.ensures.unsummed)

pub returns-in-Err-clause-through : goal.returns-in-Err-clause-through
returns-in-Err-clause-through g c =
    let held : 4 * c.from-beside.result ≡ object_held c.args.limits = ap (λ (n : ℕ). 4 * n) c.from-beside.ensures in
    unsummed_object_through c.args.limits c.args.source c.in-Err.ended.answer c.in-Err.ended.source c.args.blocks.now.inner
    (subst (λ (n : ℕ). IsUnsummed n c.args.limits c.args.source c.in-Err.ended.answer c.in-Err.ended.source) held c.in-Err.ensures.unsummed)

pub returns-in-Err-clause-out_cause : goal.returns-in-Err-clause-out_cause
returns-in-Err-clause-out_cause g c = unsummed_out _ c.args.limits c.args.source c.in-Err.ended.answer c.in-Err.ended.source c.args.blocks.now.inner c.in-Err.ensures.unsummed

pub returns-in-Err-clause-quiet : goal.returns-in-Err-clause-quiet
returns-in-Err-clause-quiet g c = quiet_untouched c.in-Err.ended.answer _ refl

pub returns-in-Err-clause-flushed : goal.returns-in-Err-clause-flushed
returns-in-Err-clause-flushed g c = still_flushed c.in-Err.ended.answer c.args.blocks.now.pending c.requires

-- ---- the summary was made

pub returns-clause-prints : goal.returns-clause-prints
returns-clause-prints g c = λ bytes known.
    let held : 4 * c.from-beside.result ≡ object_held c.args.limits = ap (λ (n : ℕ). 4 * n) c.from-beside.ensures in
    let walker = c.in-Ok.summed.walker in
    let summary = c.in-Ok.summed.summary in
    let of : IsSummed (object_held c.args.limits) c.args.limits c.args.source walker summary =
    subst (λ (n : ℕ). IsSummed n c.args.limits c.args.source walker summary) held c.in-Ok.ensures.summed in
    let before = c.args.blocks.now.inner in
    let after = c.print_object-answer.new.blocks.inner in
    PrintsObject.printed (of.opens bytes known)
    (subst (λ (s : FileSummary). PrintsThrough (limited_object c.args.file.now bytes c.args.limits s) s.bad.count before c.print_object-answer.result after) (of.sums bytes known)
    (rw c.symbols_most-symbols.ensures.value at (c.print_object-answer.ensures.prints bytes (of.fetches.fetches.same_content ∙ known))))

pub returns-clause-good : goal.returns-clause-good
returns-clause-good g c = λ bytes good.
    c.print_object-answer.ensures.good bytes (good_still bytes _ c.args.source c.in-Ok.summed.walker.list.source c.in-Ok.ensures.summed.fetches.fetches good)

pub returns-clause-through : goal.returns-clause-through
returns-clause-through g c =
    let held : 4 * c.from-beside.result ≡ object_held c.args.limits = ap (λ (n : ℕ). 4 * n) c.from-beside.ensures in
    let walker = c.in-Ok.summed.walker in
    let summary = c.in-Ok.summed.summary in
    let of : IsSummed (object_held c.args.limits) c.args.limits c.args.source walker summary =
    subst (λ (n : ℕ). IsSummed n c.args.limits c.args.source walker summary) held c.in-Ok.ensures.summed in
    IsObjectThrough.printed of.opened walker c.print_object-answer.new.walker of.is_new of.spends of.keeps
    (object_as_told _ (summary_names c.args.limits.name) walker c.args.blocks.now.inner c.print_object-answer.result c.print_object-answer.new.walker c.print_object-answer.new.blocks.inner
    (λ bytes known. ap (told_names bytes c.args.limits.name) (of.sums bytes (sym of.fetches.fetches.same_content ∙ known))) c.print_object-answer.ensures.reads)
    (keeps_counted walker.list c.print_object-answer.new.walker.list c.counts-counts.result c.print_object-answer.ensures.same c.counts-counts.ensures.value c.counts-counts.ensures.held) c.into_source.ensures.value

pub returns-clause-reads : goal.returns-clause-reads
returns-clause-reads g c =
    let ended = c.in-Ok.summed.walker.list.source in
    let last = c.print_object-answer.new.walker.list.source in
    let passed = c.in-Ok.ensures.summed.fetches.fetches in
    subst (λ (s : SourceState). ReadsSource c.args.source c.print_object-answer.result s) (sym c.into_source.ensures.value) (record {
      cause = cause_then _ c.args.source ended last c.print_object-answer.result passed c.print_object-answer.ensures.cause;
      fetches = record { count = _; fetches = fetches_then _ _ c.args.source ended last passed c.print_object-answer.ensures.same.same_file.fetches };
    })
