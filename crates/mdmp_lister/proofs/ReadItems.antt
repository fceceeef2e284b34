-- The item that was read of a step.
use Rattle.std.proofs.Common.{◌≡◌, ◌∙◌, ℕ, List, Option, ap, length, subst, sym}
use Rattle.mdmp_lister.specs.declared.kind.StreamKind.{StreamKind}
use Rattle.mdmp_lister.specs.declared.step.ItemRead.{ItemRead}
use Rattle.mdmp_lister.specs.declared.step.ItemRead.TheVariants as reads
use Rattle.mdmp_lister.specs.declared.step.Step.{Step}
use Rattle.mdmp_lister.specs.Format.Item.{item_of, plain}
use Rattle.mdmp_lister.specs.ItemRead.{IsLentOf, IsReadOf, item_read}
use Rattle.mdmp_lister.specs.Step.{IsNameTold, IsStepHeld, step_item}
use Rattle.mdmp_lister.proofs.Classes.{name_told, plain-named}

-- it is the item of the step
pub read_item : (z : ℕ) (buffer : List ℕ) (s : Step) (x : ItemRead) → IsLentOf buffer s x → plain (item_read z x) ≡ step_item z buffer s
read_item z buffer s (reads.Stream y) is = ap (step_item z buffer) (sym is)
read_item z buffer s (reads.Record r name) is =
    plain-named z r.entry r.index r.offset r.fields name ∙ ap (item_of z r.entry r.index r.offset r.fields) is.1 ∙ ap (step_item z buffer) (sym is.0)

-- and of its kind
pub read_kind : (buffer : List ℕ) (kind : Option StreamKind) (s : Step) (x : ItemRead) → IsLentOf buffer s x → IsStepHeld (length buffer) kind s → IsReadOf kind x
read_kind buffer kind s (reads.Stream y) is held = tt
read_kind buffer kind s (reads.Record r name) is held =
    let at = subst (λ (t : Step). IsStepHeld (length buffer) kind t) is.0 held in
    (at.1, subst (IsNameTold r.name) (sym is.1) (name_told buffer r.name at.0))
