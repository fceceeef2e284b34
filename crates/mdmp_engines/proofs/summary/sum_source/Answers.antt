use Rattle.std.proofs.Common.{◌≡◌, ◌∙◌, ℕ, None, Err, ap, subst, sym}
use Rattle.mdmp_source.specs.Source.{SourceState}
use Rattle.mdmp_source.specs.SourceLaws.{fetches_then}
use Rattle.mdmp_lister.specs.Memory.{IsWalkRefusal, walk_fault}
use Rattle.mdmp_lister.specs.Refused.{IsRefusedWalker}
use Rattle.mdmp_lister.specs.Walker.{IsNewWalker}
use Rattle.mdmp_lister.specs.declared.choice.Choice.TheVariants.{All}
use Rattle.mdmp_lister.specs.declared.limits.Limits.{Limits}
use Rattle.mdmp_summary.proofs.Told.{good_still}
use Rattle.mdmp_summary.specs.SpendingLaws.{spends_both}
use Rattle.mdmp_summary.specs.Summary.{file_summary}
use Rattle.mdmp_engines.proofs.Summarizing.{cause-refused, cause-unread, good-refused, good-unread}
use Rattle.mdmp_engines.specs.Causes.{HasSourceCause, IsNoSourceFault}
use Rattle.mdmp_engines.specs.Engines.{ReadsSource}
use Rattle.mdmp_engines.specs.SummaryRuns.{IsUnsummed}
use Rattle.mdmp_engines.specs.declared.fault.ToolFault.{ToolFault}
use Rattle.mdmp_engines.proofs.summary.sum_source.Goals as goal

-- ---- the file was not opened

pub returns-in-Err-clause-unsummed : goal.returns-in-Err-clause-unsummed
returns-in-Err-clause-unsummed g c =
    let fault = c.in-Err.refused.fault in
    let within = c.leave_memory.ensures in
    IsUnsummed.refused fault (subst (λ (l : Limits). IsRefusedWalker l c.args.source fault c.in-Err.refused.source) within c.in-Err.ensures.refused)
    (λ bytes known. subst (λ (l : Limits). IsWalkRefusal l bytes fault) within (c.in-Err.ensures.within bytes known)) (ap Err c.refused_beside.ensures)

pub returns-in-Err-clause-good : goal.returns-in-Err-clause-good
returns-in-Err-clause-good g c = λ bytes good.
    subst (λ (f : ToolFault). IsNoSourceFault {T = ℕ} (Err f)) (sym c.refused_beside.ensures)
    (good-refused _ c.in-Err.refused.fault (c.in-Err.ensures.refused.fetches.good bytes good))

pub returns-in-Err-clause-reads : goal.returns-in-Err-clause-reads
returns-in-Err-clause-reads g c =
    let of = c.in-Err.ensures.refused in
    record {
      cause = subst (λ (f : ToolFault). HasSourceCause {T = ℕ} c.args.source (Err f) c.in-Err.refused.source) (sym c.refused_beside.ensures)
          (cause-refused _ c.in-Err.refused.fault c.args.source c.in-Err.refused.source of.fetches.cause);
      fetches = record { count = _; fetches = of.handed_back.fetches };
    }

-- ---- the passes were made

pub returns-in-Ok-summarize_listing-clause-summed : goal.returns-in-Ok-summarize_listing-clause-summed
returns-in-Ok-summarize_listing-clause-summed g c =
    let within = c.leave_memory.ensures in
    let new = c.in-Ok.ensures.new in
    let sums = c.in-Ok-summarize_listing.ensures in
    let opened = c.in-Ok.walker in
    let ended = c.summarize_listing.new.walker in
    let limit = new.list.asked.limit_is ∙ ap (λ (l : Limits). l.name) within in
    record {
      opened = opened;
      is_new = subst (λ (l : Limits). IsNewWalker c.args.source All l opened) within new;
      spends = spends_both c.summarize_listing.result opened ended c.summarize_listing.ensures.spends;
      keeps = sums.keeps;
      fetches = record { count = _; fetches = fetches_then _ _ c.args.source opened.list.source ended.list.source new.fetches sums.keeps.same.same_file.fetches };
      choice_is = sums.keeps.same.choice ∙ new.list.asked.choice_is;
      limit_is = sums.keeps.same.limit ∙ limit;
      going = sums.going;
      opens = λ bytes known. subst (λ (l : Limits). walk_fault l bytes ≡ None) within (c.in-Ok.ensures.within bytes known);
      sums = λ bytes known. sums.sums bytes (new.fetches.same_content ∙ known) ∙ ap (file_summary bytes) limit;
    }

-- ---- bytes were not read

pub returns-in-Err-summarize_listing-clause-unsummed : goal.returns-in-Err-summarize_listing-clause-unsummed
returns-in-Err-summarize_listing-clause-unsummed g c =
    let within = c.leave_memory.ensures in
    let opened = c.in-Ok.walker in
    let ended = c.summarize_listing.new.walker in
    let sums = c.in-Err-summarize_listing.ensures in
    IsUnsummed.unread opened ended c.in-Err-summarize_listing.fault (subst (λ (l : Limits). IsNewWalker c.args.source All l opened) within c.in-Ok.ensures.new)
    (λ bytes known. subst (λ (l : Limits). walk_fault l bytes ≡ None) within (c.in-Ok.ensures.within bytes known)) sums.spends sums.keeps sums.fault
    (ap Err c.told_summary.ensures) c.into_source.ensures.value

pub returns-in-Err-summarize_listing-clause-good : goal.returns-in-Err-summarize_listing-clause-good
returns-in-Err-summarize_listing-clause-good g c = λ bytes good.
    let still = good_still bytes _ c.args.source c.in-Ok.walker.list.source c.in-Ok.ensures.new.fetches good in
    subst (λ (f : ToolFault). IsNoSourceFault {T = ℕ} (Err f)) (sym c.told_summary.ensures)
    (good-unread c.in-Err-summarize_listing.fault (c.in-Err-summarize_listing.ensures.good bytes still))

pub returns-in-Err-summarize_listing-clause-reads : goal.returns-in-Err-summarize_listing-clause-reads
returns-in-Err-summarize_listing-clause-reads g c =
    let first = c.args.source in
    let opened = c.in-Ok.walker.list in
    let ended = c.summarize_listing.new.walker.list in
    let new = c.in-Ok.ensures.new.fetches in
    let fault = c.in-Err-summarize_listing.fault in
    let cause = cause-unread first opened ended fault (record { count = _; fetches = new }) c.in-Err-summarize_listing.ensures.fault in
    subst (λ (s : SourceState). ReadsSource {T = ℕ} first (Err c.told_summary.result) s) (sym c.into_source.ensures.value) (record {
      cause = subst (λ (f : ToolFault). HasSourceCause {T = ℕ} first (Err f) ended.source) (sym c.told_summary.ensures) cause;
      fetches = record { count = _; fetches = fetches_then _ _ first opened.source ended.source new c.in-Err-summarize_listing.ensures.keeps.same.same_file.fetches };
    })
