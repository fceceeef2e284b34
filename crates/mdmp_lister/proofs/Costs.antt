-- What was fetched for an item, by its step.
use Rattle.std.proofs.Common.{◌≡◌, ◌≤◌, ◌+◌, ◌∙◌, ℕ, List, Option, None, Some, arith, refl, ap, sym, length, length-take}
use Rattle.mdmp_source.specs.Window.{WindowState}
use Rattle.mdmp_wire.specs.declared.entry.Entry.{Entry}
use Rattle.mdmp_lister.specs.declared.fault.FaultKind.{FaultKind}
use Rattle.mdmp_lister.specs.declared.fault.FaultKind.TheVariants.{Source, Budget}
use Rattle.mdmp_lister.specs.declared.fault.ListFault.{ListFault}
use Rattle.mdmp_lister.specs.declared.fetching.NameRead.{NameRead}
use Rattle.mdmp_lister.specs.declared.fetching.NameRead.TheVariants as read
use Rattle.mdmp_lister.specs.declared.item.Item.{Item}
use Rattle.mdmp_lister.specs.declared.item.StreamItem.{StreamItem}
use Rattle.mdmp_lister.specs.declared.kind.StreamKind.{StreamKind}
use Rattle.mdmp_lister.specs.declared.name.Name.{Name}
use Rattle.mdmp_lister.specs.declared.name.Name.TheVariants.{Units, Long}
use Rattle.mdmp_lister.specs.declared.name.Name.TheVariants as names
use Rattle.mdmp_lister.specs.declared.stage.Stage.{Stage}
use Rattle.mdmp_lister.specs.declared.stage.Stage.TheVariants.{Head, Records}
use Rattle.mdmp_lister.specs.declared.step.Step.{Step}
use Rattle.mdmp_lister.specs.declared.step.Step.TheVariants as step
use Rattle.mdmp_lister.specs.Costs.{IsUnreadBy, bad_name_cost, item_cost, cost_of_name, read_cost, step_cost, stream_begun}
use Rattle.mdmp_lister.specs.Format.Item.{plain}
use Rattle.mdmp_lister.specs.Format.Name.{plain_name}
use Rattle.mdmp_lister.specs.Step.{IsHeld, name_read, IsNameHeld, IsStepOf, step_item}
use Rattle.mdmp_lister.specs.Fault.{IsUnobtained}
use Rattle.mdmp_lister.specs.Stage.{stop_of}
use Rattle.mdmp_lister.specs.Format.Summary.{Summary, summary_of}
use Rattle.mdmp_lister.specs.Walk.Paying.{owed_of}
use Rattle.mdmp_lister.proofs.Summary.{summary_of-plain, summary_of-read}

-- a name that the store keeps from being read
pub source_name_cost : (limit : ℕ) (kind : FaultKind) → IsUnobtained kind → bad_name_cost limit kind ≡ 4 + limit
source_name_cost limit (Source fault) of = refl
source_name_cost limit Budget of = refl
source_name_cost limit _ of = absurd of

-- ---- items and their steps

cost_of_name-plain : (name : Name) → cost_of_name (plain_name name) ≡ cost_of_name name
cost_of_name-plain names.None = refl
cost_of_name-plain (Units units) = refl
cost_of_name-plain (Long bytes) = refl

pub item_cost-plain : (x : Item) → item_cost (plain x) ≡ item_cost x
item_cost-plain x = ap (λ (t : Summary). cost_of_name t.name) (summary_of-plain x) ∙ cost_of_name-plain (summary_of x).name

cost_of_name-read : (buffer : List ℕ) (name : NameRead) → IsHeld (length buffer) name → cost_of_name (name_read buffer name) ≡ read_cost name
cost_of_name-read buffer read.None held = refl
cost_of_name-read buffer (read.Long bytes) held = refl
cost_of_name-read buffer (read.Units bytes) held = let room : bytes ≤ length buffer = held.0 in rw length-take (omega (arith, room))

item_cost-read : (z : ℕ) (buffer : List ℕ) (kind : Option StreamKind) (s : Step) → IsNameHeld (length buffer) s → IsStepOf kind s → item_cost (step_item z buffer s) ≡ step_cost s
item_cost-read z buffer kind (step.Stream x) held of = refl
item_cost-read z buffer kind (step.Record r) held of =
    ap (λ (t : Summary). cost_of_name t.name) (summary_of-read z buffer r of.1) ∙ cost_of_name-read buffer r.name held

-- an item costs what its step does
pub item_cost-step : (z : ℕ) (buffer : List ℕ) (kind : Option StreamKind) (s : Step) (x : Item) → IsNameHeld (length buffer) s → IsStepOf kind s → plain x ≡ step_item z buffer s → item_cost x ≡ step_cost s
item_cost-step z buffer kind s x held of same = sym (item_cost-plain x) ∙ ap item_cost same ∙ item_cost-read z buffer kind s held of

pub stream_begun-plain : (z : ℕ) (x : Item) → stream_begun z (summary_of (plain x)).stream ≡ stream_begun z (summary_of x).stream
stream_begun-plain z x = ap (λ (s : Summary). stream_begun z s.stream) (summary_of-plain x)

-- ---- what is unread

-- behind an item no more than before, and the stream that it begins
pub unread-within : (z old new : ℕ) (stream : Option StreamItem) → IsUnreadBy z stream old new → new ≤ old + stream_begun z stream
unread-within z old new (Some x) is = omega (arith, is)
unread-within z old new None is = omega (arith, is)

-- nothing is unread where a walk has stopped
pub stopped-unread : (z : ℕ) (e : Entry) (w : WindowState) (stage : Stage) (stop : Option ListFault) → stop_of stage ≡ Some stop → owed_of z e w stage ≡ 0
stopped-unread z e w Head stop stopped = absurd (cc)
stopped-unread z e w (Records kind shape index offset) stop stopped = absurd (cc)
stopped-unread z e w _ stop stopped = refl
