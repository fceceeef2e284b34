-- What is said of the item of a step.
use Rattle.std.proofs.Common.{◌≡◌, ◌∙◌, ◌⊎◌, ◌≤◌, ℕ, List, ap, arith, length, length-take, refl, subst, sym, take, inl, inr}
use Rattle.mdmp_wire.specs.declared.entry.Entry.{Entry}
use Rattle.mdmp_wire.specs.declared.any_record.AnyRecord.{AnyRecord}
use Rattle.mdmp_wire.specs.declared.any_record.AnyRecord.TheVariants as any
use Rattle.mdmp_lister.specs.declared.fetching.NameRead.{NameRead}
use Rattle.mdmp_lister.specs.declared.fetching.NameRead.TheVariants as read
use Rattle.mdmp_lister.specs.declared.name.Name.{Name}
use Rattle.mdmp_lister.specs.declared.item.Item.{Item}
use Rattle.mdmp_lister.specs.declared.step.Step.{Step}
use Rattle.mdmp_lister.specs.declared.step.Step.TheVariants as step
use Rattle.mdmp_lister.specs.Format.Classes.{IsClassed, IsRecordOf, IsStream}
use Rattle.mdmp_lister.specs.Format.Item.{item_of, plain}
use Rattle.mdmp_lister.specs.Step.{IsHeld, IsNameHeld, IsNameTold, IsStepOf, TellsItem, name_read, step_item}
use Rattle.mdmp_lister.specs.Format.Name.{plain_name}
use Rattle.mdmp_lister.specs.Format.Kind.{kind_of}
use Rattle.mdmp_lister.proofs.Summary.{plain-plain}

-- whatever place its name is lent from
pub classed-plain : (z : ℕ) (e : Entry) (x : Item) → IsClassed z e x → IsClassed z e (plain x)
classed-plain z e x classed = subst (λ (y : Item). IsStream y ⊎ IsRecordOf z (kind_of e.stream_type) y) (sym (plain-plain x)) classed

pub classed-given : (z : ℕ) (buffer : List ℕ) (e : Entry) (s : Step) (x : Item) → plain x ≡ step_item z buffer s → IsStepOf (kind_of e.stream_type) s → IsClassed z e x
classed-given z buffer e (step.Stream y) x same of = inl (y, same)
classed-given z buffer e (step.Record r) x same of =
    inr (record { entry = r.entry; index = r.index; offset = r.offset; fields = r.fields; name = name_read buffer r.name; known = of.0; same = same })

-- ---- an item as it was read

pub name_told : (buffer : List ℕ) (name : NameRead) → IsHeld (length buffer) name → IsNameTold name (name_read buffer name)
name_told buffer read.None held = refl
name_told buffer (read.Long bytes) held = refl
name_told buffer (read.Units bytes) held = let room : bytes ≤ length buffer = held.0 in (take bytes buffer, (rw length-take (omega (arith, room)), refl))

plain_name-read : (buffer : List ℕ) (name : NameRead) → plain_name (name_read buffer name) ≡ name_read buffer name
plain_name-read buffer read.None = refl
plain_name-read buffer (read.Units bytes) = refl
plain_name-read buffer (read.Long bytes) = refl

pub plain-named : (z e k offset : ℕ) (fields : AnyRecord) (name : Name) → plain (item_of z e k offset fields name) ≡ item_of z e k offset fields (plain_name name)
plain-named z e k offset (any.Thread fields) name = refl
plain-named z e k offset _ name = refl

plain-item_of : (z e k offset : ℕ) (fields : AnyRecord) (name : Name) → plain_name name ≡ name → plain (item_of z e k offset fields name) ≡ item_of z e k offset fields name
plain-item_of z e k offset fields name same = plain-named z e k offset fields name ∙ ap (item_of z e k offset fields) same

pub plain-step : (z : ℕ) (buffer : List ℕ) (s : Step) → plain (step_item z buffer s) ≡ step_item z buffer s
plain-step z buffer (step.Stream x) = refl
plain-step z buffer (step.Record r) = plain-item_of z r.entry r.index r.offset r.fields (name_read buffer r.name) (plain_name-read buffer r.name)

pub step-told : (z : ℕ) (buffer : List ℕ) (s : Step) → IsNameHeld (length buffer) s → TellsItem z s (step_item z buffer s)
step-told z buffer (step.Stream x) held = refl
step-told z buffer (step.Record r) held = (name_read buffer r.name, (name_told buffer r.name held, refl))
