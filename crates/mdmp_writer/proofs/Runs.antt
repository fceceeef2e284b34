-- What a whole run leaves, from what its parts leave.
use Rattle.std.proofs.Common.{◌≡◌, ◌∙◌, ℕ, List, [], ◌++◌, ap, sym, subst, append_assoc, append-nil, Option, None, Some, Err, Ok, Bool}
use Rattle.mdmp_source.specs.Output.{OutState, Takes, TakesPrefix}
use Rattle.mdmp_dump.specs.declared.dump.Dump.{Dump}
use Rattle.mdmp_dump.specs.Shape.{ViewShape, StreamShape}
use Rattle.mdmp_dump.specs.View.{dump_seen}
use Rattle.mdmp_writer.specs.declared.fault.LayoutFault.{LayoutFault}
use Rattle.mdmp_writer.specs.declared.fault.WriteFault.{WriteFault}
use Rattle.mdmp_writer.specs.declared.fault.WriteFault.TheVariants.{Layout, Out, View}
use Rattle.mdmp_writer.specs.Gather.{Gathered, Gathers, GathersPrefix, gathered}
use Rattle.mdmp_writer.specs.Layout.{file_size, layout_fault, shape_fault, shapes_in, size_answer, size_or}
use Rattle.mdmp_writer.specs.Cause.{HasCause}
use Rattle.mdmp_writer.specs.Writing.{IsWritingOf, IsWritingOfDump}
use Rattle.mdmp_writer.specs.Written.{written}
use Rattle.mdmp_writer.proofs.Sending.{puts_flush}

-- ---- what went out, where nothing was held at first

pub all_out : (before after : OutState) (mid : Gathered) (held text : List ℕ) → held ≡ [] → Gathers (gathered before []) text mid → Gathers mid [] (gathered after held) → Takes before.taken text after.taken
all_out before after mid held text none put flushed =
    let whole = puts_flush (gathered before []) mid (gathered after held) text put flushed in
    subst (λ (t : List ℕ). Takes before.taken t after.taken) (sym (whole.whole ∙ ap (λ (h : List ℕ). whole.sent ++ h) none ∙ append-nil whole.sent)) whole.took

pub cut_out : (before : OutState) (after : Gathered) (text : List ℕ) → GathersPrefix (gathered before []) text after → TakesPrefix before.taken text after.taken
cut_out before after text cut = record {
  sent = cut.puts.sent;
  rest = after.held ++ cut.rest;
  whole = cut.splits ∙ ap (λ (t : List ℕ). t ++ cut.rest) cut.puts.whole ∙ append_assoc cut.puts.sent after.held cut.rest;
  took = cut.puts.took;
}

-- ---- the answers

pub size_of_shape : (ss : List StreamShape) (n : ℕ) → shape_fault ss ≡ None → n ≡ file_size ss → size_answer ss ≡ Ok n
size_of_shape ss n none is = ap (size_or (file_size ss)) none ∙ ap Ok (sym is)

pub fault_of_shape : (ss : List StreamShape) (fault : LayoutFault) → shape_fault ss ≡ Some fault → size_answer ss ≡ Err fault
fault_of_shape ss fault is = ap (size_or (file_size ss)) is

pub stopped : (s : ViewShape) (fault : WriteFault) (before mid after : OutState) (reliable : Bool) → shape_fault s.streams ≡ None → reliable ≡ s.is_reliable → mid.failures ≡ before.failures
    → HasCause {T = Unit {0}} reliable (Err fault) mid after → IsWritingOf s (Err fault) before after
stopped s Out before mid after reliable none is steady cause = (none, rw steady at cause)
stopped s (View fault) before mid after reliable none is steady cause = (none, rw is at cause.0, cause.1 ∙ steady)
stopped s (Layout fault) before mid after reliable none is steady cause = absurd cause

module _ {Z : Type 0} where
  -- a dump has the shape of its view
  pub fault_of_dump : (d : Dump Z) (ss : List StreamShape) (o : Option LayoutFault) → ss ≡ shapes_in (dump_seen d) → shape_fault ss ≡ o → layout_fault d ≡ o
  fault_of_dump d ss o e is = ap shape_fault (sym e) ∙ is

  pub all_of_dump : (d : Dump Z) (ss : List StreamShape) (n : ℕ) (before after : OutState) → ss ≡ shapes_in (dump_seen d) → shape_fault ss ≡ None → n ≡ file_size ss → Takes before.taken (written d) after.taken → IsWritingOfDump d (Ok n) before after
  all_of_dump d ss n before after e none size took = (fault_of_dump d ss None e none, size ∙ ap file_size e, took)

  pub cut_of_dump : (d : Dump Z) (ss : List StreamShape) (fault : WriteFault) (before mid after : OutState) (reliable : Bool) → ss ≡ shapes_in (dump_seen d) → shape_fault ss ≡ None
      → HasCause {T = Unit {0}} reliable (Err fault) mid after → TakesPrefix before.taken (written d) after.taken → IsWritingOfDump d (Err fault) before after
  cut_of_dump d ss Out before mid after reliable e none cause cut = (fault_of_dump d ss None e none, cut)
  cut_of_dump d ss (View fault) before mid after reliable e none cause cut = (fault_of_dump d ss None e none, cut)
  cut_of_dump d ss (Layout fault) before mid after reliable e none cause cut = absurd cause
