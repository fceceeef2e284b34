use Rattle.std.proofs.Common.{◌≡◌, ◌∙◌, ℕ, ap, refl}
use Rattle.mdmp_engines.specs.Reports.{file_fault_text}
use Rattle.mdmp_tool.specs.Words.{EndsInput, input_fault, input_most, input_name}
use Rattle.mdmp_tool.proofs.SourceEnds.{input_ends}
use Rattle.mdmp_tool.proofs.summaries.summarize_input.Goals as goal

pub returns-in-Ok : goal.returns-in-Ok
returns-in-Ok g c =
    input_ends _ _ _ _ _ _ _ c.new-source.ensures.store c.new-source.ensures.counts (file_fault_text input_name) c.args.limits c.in-Ok.bytes.items c.in-Ok.ensures.state
    (rw c.input_most-most.ensures at c.in-Ok.ensures.read) (rw c.deref.ensures.value at c.new.ensures) c.summarize_source.ensures

pub returns-in-Err : goal.returns-in-Err
returns-in-Err g c =
    let fault : c.input_fault.result ≡ input_fault (input_most c.args.limits) c.in-Err.why =
    c.input_fault.ensures ∙ ap (λ (n : ℕ). input_fault n c.in-Err.why) c.input_most-most.ensures in
    let told = rw fault at c.report_summary.ensures in
    EndsInput.unread_input c.in-Err.why c.in-Err.ensures.state (rw c.input_most-most.ensures at c.in-Err.ensures.refused) (record { own = told.0; quiet = refl; told = told.1 })
