use Rattle.std.proofs.Common.{◌≡◌, ◌∙◌, ◌*◌, ℕ, ap, refl, subst, sym}
use Rattle.std.specs.Prelude.{IfErr}
use Rattle.mdmp_source.specs.Source.{SourceState}
use Rattle.mdmp_source.specs.SourceLaws.{fetches_then}
use Rattle.mdmp_summary.proofs.Told.{good_still}
use Rattle.mdmp_engines.proofs.NamesRead.{fetches_summary}
use Rattle.mdmp_engines.proofs.Summarizing.{cause-named, summarizes_told}
use Rattle.mdmp_engines.proofs.Unsummed.{quiet_unsummed, unsummed_lines, unsummed_out, unsummed_through}
use Rattle.mdmp_engines.specs.Engines.{ReadsSource}
use Rattle.mdmp_engines.specs.SummaryRuns.{FetchesTold, IsNameEnd, IsSummed, IsSummedThrough, IsUnsummed, names_held, summary_names}
use Rattle.mdmp_engines.proofs.summary.summary_source.Goals as goal

-- ---- there is no summary

pub returns-in-Err-clause-summarizes : goal.returns-in-Err-clause-summarizes
returns-in-Err-clause-summarizes g c = λ bytes known.
    let held : 3 * c.from-beside.result ≡ names_held c.args.limits = ap (λ (n : ℕ). 3 * n) c.from-beside.ensures in
    unsummed_lines c.args.limits c.args.source c.in-Err.ended.answer c.in-Err.ended.source c.args.file.now bytes (g.O.Printer.state c.args.out.now) known
    (subst (λ (n : ℕ). IsUnsummed n c.args.limits c.args.source c.in-Err.ended.answer c.in-Err.ended.source) held c.in-Err.ensures.unsummed)

pub returns-in-Err-clause-through : goal.returns-in-Err-clause-through
returns-in-Err-clause-through g c =
    let held : 3 * c.from-beside.result ≡ names_held c.args.limits = ap (λ (n : ℕ). 3 * n) c.from-beside.ensures in
    unsummed_through c.args.limits c.args.source c.in-Err.ended.answer c.in-Err.ended.source
    (subst (λ (n : ℕ). IsUnsummed n c.args.limits c.args.source c.in-Err.ended.answer c.in-Err.ended.source) held c.in-Err.ensures.unsummed)

pub returns-in-Err-clause-quiet : goal.returns-in-Err-clause-quiet
returns-in-Err-clause-quiet g c = quiet_unsummed c.in-Err.ended.answer _ refl

pub returns-in-Err-clause-out_cause : goal.returns-in-Err-clause-out_cause
returns-in-Err-clause-out_cause g c = unsummed_out _ c.args.limits c.args.source c.in-Err.ended.answer c.in-Err.ended.source (g.O.Printer.state c.args.out.now) c.in-Err.ensures.unsummed

-- ---- the summary was made

pub returns-clause-summarizes : goal.returns-clause-summarizes
returns-clause-summarizes g c = λ bytes known.
    let held : 3 * c.from-beside.result ≡ names_held c.args.limits = ap (λ (n : ℕ). 3 * n) c.from-beside.ensures in
    let walker = c.in-Ok.summed.walker in
    let summary = c.in-Ok.summed.summary in
    let of : IsSummed (names_held c.args.limits) c.args.limits c.args.source walker summary =
    subst (λ (n : ℕ). IsSummed n c.args.limits c.args.source walker summary) held c.in-Ok.ensures.summed in
    summarizes_told c.args.file.now bytes c.args.limits summary (g.O.Printer.state c.args.out.now) c.print_told-answer.result (g.O.Printer.state c.print_told-answer.new.out)
    (of.opens bytes known) (of.sums bytes known) (c.print_told-answer.ensures.told bytes (of.fetches.fetches.same_content ∙ known))

pub returns-clause-good : goal.returns-clause-good
returns-clause-good g c = λ bytes good.
    c.print_told-answer.ensures.good bytes (good_still bytes _ c.args.source c.in-Ok.summed.walker.list.source c.in-Ok.ensures.summed.fetches.fetches good)

pub returns-clause-through : goal.returns-clause-through
returns-clause-through g c =
    let held : 3 * c.from-beside.result ≡ names_held c.args.limits = ap (λ (n : ℕ). 3 * n) c.from-beside.ensures in
    let walker = c.in-Ok.summed.walker in
    let summary = c.in-Ok.summed.summary in
    let of : IsSummed (names_held c.args.limits) c.args.limits c.args.source walker summary =
    subst (λ (n : ℕ). IsSummed n c.args.limits c.args.source walker summary) held c.in-Ok.ensures.summed in
    let answer = c.print_told-answer.result in
    let value = sym c.into_source.ensures.value in
    IsSummedThrough.summed of.opened walker of.is_new of.spends of.keeps
    (subst (λ (s : SourceState). FetchesTold c.args.limits.name (summary_names c.args.limits.name) answer walker.list.source s) value
    (fetches_summary c.args.limits.name summary answer walker.list.source c.print_told-answer.new.walker.list.source
    (λ bytes known. of.sums bytes (sym of.fetches.fetches.same_content ∙ known)) c.print_told-answer.ensures.fetches))
    (subst (λ (s : SourceState). IfErr answer (IsNameEnd walker.list.source s)) value c.print_told-answer.ensures.end)

pub returns-clause-reads : goal.returns-clause-reads
returns-clause-reads g c =
    let ended = c.in-Ok.summed.walker.list.source in
    let last = c.print_told-answer.new.walker.list.source in
    let answer = c.print_told-answer.result in
    let passed = c.in-Ok.ensures.summed.fetches.fetches in
    subst (λ (s : SourceState). ReadsSource c.args.source answer s) (sym c.into_source.ensures.value) (record {
      cause = cause-named c.args.source ended last _ answer passed c.print_told-answer.ensures.end;
      fetches = record { count = _; fetches = fetches_then _ _ c.args.source ended last passed c.print_told-answer.ensures.fetches.most };
    })
