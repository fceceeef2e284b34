-- A run of `list`, from its parts.
use Rattle.std.proofs.Common.{◌≡◌, ◌∙◌, ◌++◌, ℕ, Bool, List, refl, sym}
use Rattle.std.specs.Prelude.{Result, Ok, Err}
use Rattle.mdmp_source.specs.Output.{OutState, PutsAll}
use Rattle.mdmp_source.specs.Source.{SourceState}
use Rattle.mdmp_source.specs.OutputLaws.{PutsAll-PutsAll, PutsPrefix-last, TakesPrefix-last}
use Rattle.mdmp_wire.specs.declared.header.Header.{Header}
use Rattle.mdmp_lister.specs.Format.Listing.{Run}
use Rattle.mdmp_engines.specs.declared.fault.ToolFault.{ToolFault}
use Rattle.mdmp_engines.specs.declared.fault.ToolFault.TheVariants.{List as BadList, Source, Budget, AsideLimit, Out}
use Rattle.mdmp_engines.proofs.Engining.{cause_from}
use Rattle.mdmp_engines.specs.Engines.{IsBehind, Leaves, WritesText, up_to_a_fault}
use Rattle.mdmp_print.specs.Forms.{dump_line_in}
use Rattle.mdmp_engines.specs.Text.{run_text}
use Rattle.mdmp_engines.specs.Runs.{ListEnds, ListsRun, ListsFile}
use Rattle.mdmp_print.specs.declared.form.LineForm.{LineForm}

WritesText-behind : (pdb : Bool) (limit : ℕ) (run : Run) (head text : List ℕ) (before now after : OutState) (r : Result (Unit {0}) ToolFault) → ListEnds pdb limit run r
    → PutsAll before head now → WritesText up_to_a_fault text now r after → WritesText up_to_a_fault (head ++ text) before r after
WritesText-behind pdb limit run head text before now after (Ok x) ends first put = PutsAll-PutsAll before now after head text first put
WritesText-behind pdb limit run head text before now after (Err (BadList f)) ends first put = PutsAll-PutsAll before now after head text first put
WritesText-behind pdb limit run head text before now after (Err (Source f)) ends first short = record {
  took = TakesPrefix-last before.taken now.taken after.taken head text first.took short.took;
  steady = short.steady ∙ first.steady;
}
WritesText-behind pdb limit run head text before now after (Err (Budget offset size)) ends first short = record {
  took = TakesPrefix-last before.taken now.taken after.taken head text first.took short.took;
  steady = short.steady ∙ first.steady;
}
WritesText-behind pdb limit run head text before now after (Err (AsideLimit offset size)) ends first short = record {
  took = TakesPrefix-last before.taken now.taken after.taken head text first.took short.took;
  steady = short.steady ∙ first.steady;
}
WritesText-behind pdb limit run head text before now after (Err Out) ends first cut = PutsPrefix-last before now after head text first cut
WritesText-behind pdb limit run head text before now after (Err f) ends first put = absurd ends

-- the items behind the line of the header
pub ListsFile-behind : (form : LineForm) (pdb : Bool) (F : List ℕ) (limit : ℕ) (h : Header) (run : Run) (before now after : OutState) (r : Result (Unit {0}) ToolFault)
    → PutsAll before (dump_line_in form h) now → ListsRun form pdb F limit run now r after → ListsFile form pdb F limit h run before r after
ListsFile-behind form pdb F limit h run before now after r head listed = record {
  ends = listed.ends;
  writes = WritesText-behind pdb limit run (dump_line_in form h) (run_text form pdb F limit run) before now after r listed.ends head listed.writes;
}

-- the end of the items is that of all that is printed
IsBehind-touched : (size : ℕ) (r : Result (Unit {0}) ToolFault) (untouched : Type 0) → IsBehind up_to_a_fault size r ⊥ → IsBehind up_to_a_fault size r untouched
IsBehind-touched size (Ok x) untouched behind = tt
IsBehind-touched size (Err (BadList f)) untouched behind = behind
IsBehind-touched size (Err (Source f)) untouched behind = tt
IsBehind-touched size (Err (Budget offset len)) untouched behind = tt
IsBehind-touched size (Err (AsideLimit offset len)) untouched behind = tt
IsBehind-touched size (Err Out) untouched behind = tt
IsBehind-touched size (Err f) untouched behind = absurd behind

pub Leaves-behind : (old new : SourceState) (before now after : OutState) (r : Result (Unit {0}) ToolFault) (untouched : Type 0) → now.failures ≡ before.failures
    → Leaves up_to_a_fault ⊥ old now r new after → Leaves up_to_a_fault untouched old before r new after
Leaves-behind old new before now after r untouched same left = record {
  good = left.good;
  behind = IsBehind-touched old.size r untouched left.behind;
  reads = left.reads;
  out_cause = cause_from now after before after r (sym same) refl left.out_cause;
}
