use Rattle.std.proofs.Common.{◌≡◌, ◌∙◌, ap, [], None, Option, Some, Err, List, ℕ}
use Rattle.mdmp_source.specs.Output.{OutState}
use Rattle.mdmp_dump.specs.Shape.{ViewShape}
use Rattle.mdmp_dump.specs.ShapeLaws.{held}
use Rattle.mdmp_writer.specs.declared.fault.LayoutFault.{LayoutFault}
use Rattle.mdmp_writer.specs.Layout.{size_or}
use Rattle.mdmp_writer.proofs.round_trip.to_memory.Goals as goal

-- an answer that is a fault tells this one
fault_is : (size : ℕ) (told : Option LayoutFault) (fault : LayoutFault) → Err fault ≡ size_or size told → told ≡ Some fault
fault_is size None fault is = absurd (cc is)
fault_is size (Some other) fault is = cc is

pub returns-in-Err : goal.returns-in-Err
returns-in-Err g c = fault_is _ _ c.in-Err.fault (c.in-Err.ensures.value c.args.dump.now (ap (λ (s : ViewShape). s.seen) c.view-view.ensures.shape))

pub returns-in-Ok-write_dump : goal.returns-in-Ok-write_dump
returns-in-Ok-write_dump g c =
    let d = c.args.dump.now in
    let is = c.in-Ok-write_dump.ensures.writes d (ap (λ (s : ViewShape). s.seen) (c.written_size.ensures.shape ∙ c.view-view.ensures.shape)) in
    let empty = ap (λ (o : OutState). o.taken) c.new-out.ensures ∙ ap Some c.in-Ok-with_capacity.ensures.items in
    (is.0, ap (held {X = List ℕ} []) (c.into_inner.ensures ∙ is.2 [] empty))
