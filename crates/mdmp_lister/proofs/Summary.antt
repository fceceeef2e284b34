-- The summary of an item that is made of a record, and of one whose name is lent. Lemmas by kinds, of ranges, stand here.
use Rattle.std.proofs.Common.{◌≡◌, ◌∙◌, ◌≤◌, ◌∷◌, [], arith, ℕ, List, length, Option, Some, None, refl, ap, sym}
use Rattle.std.specs.Prelude.{filter_map}
use Rattle.mdmp_source.specs.declared.location.Extent.{Extent}
use Rattle.mdmp_source.specs.declared.location.Extent.TheVariants.{Inside}
use Rattle.mdmp_map.specs.declared.range.Range.{Range}
use Rattle.mdmp_wire.specs.AnyRecord.{name_rva}
use Rattle.mdmp_wire.specs.declared.any_record.AnyRecord.{AnyRecord}
use Rattle.mdmp_wire.specs.declared.any_record.AnyRecord.TheVariants as any
use Rattle.mdmp_lister.specs.declared.fetching.NameRead.{NameRead}
use Rattle.mdmp_lister.specs.declared.item.Item.{Item}
use Rattle.mdmp_lister.specs.declared.item.Item.TheVariants as items
use Rattle.mdmp_lister.specs.declared.item.RangeItem.{RangeItem}
use Rattle.mdmp_lister.specs.declared.name.Name.{Name}
use Rattle.mdmp_lister.specs.declared.name.Name.TheVariants.{Units}
use Rattle.mdmp_lister.specs.declared.name.Name.TheVariants as names
use Rattle.mdmp_lister.specs.declared.step.RecordRead.{RecordRead}
use Rattle.mdmp_lister.specs.declared.step.Step.{Step}
use Rattle.mdmp_lister.specs.declared.step.Step.TheVariants as step
use Rattle.mdmp_lister.specs.Format.Item.{item_of, kind_told, plain, range64_item, range_item}
use Rattle.mdmp_lister.specs.Format.Name.{plain_name}
use Rattle.mdmp_lister.specs.Format.Ranges.{range_in, range_kept}
use Rattle.mdmp_lister.specs.Walk.Owing.{ranges_by}
use Rattle.mdmp_lister.specs.Step.{name_read, IsNameOf, step_item, stream_told}
use Rattle.mdmp_lister.specs.Format.Summary.{Summary, summary_by, summary_of}

-- ---- the two summaries

-- the name of a record, of a kind that has one
abbrev pub name_kept : Option ℕ → Name → Name
name_kept (Some rva) name = name
name_kept None name = names.None

-- the range that a record tells
abbrev pub range_told : ℕ → ℕ → ℕ → ℕ → AnyRecord → Option RangeItem
range_told z e k offset (any.Memory fields) = Some (range_item z e k fields)
range_told z e k offset (any.Memory64 fields) = Some (range64_item z e k fields offset)
range_told z e k offset fields = None

pub summary_of-item_of : (z e k offset : ℕ) (fields : AnyRecord) (name : Name)
    → summary_of (item_of z e k offset fields name) ≡ summary_by e k (kind_told fields) (name_kept (name_rva fields) name) (range_told z e k offset fields)
summary_of-item_of z e k offset (any.Memory fields) name = refl
summary_of-item_of z e k offset _ name = refl

pub summary_of-plain : (x : Item) → summary_of (plain x) ≡ record (summary_of x) { name = plain_name (summary_of x).name }
summary_of-plain (items.Stream x) = refl
summary_of-plain _ = refl

-- ---- the ranges of an item

-- those of its summary
abbrev pub given : Option RangeItem → List Range
given range = filter_map range_kept (range ∷ [])

-- at most one is given, and only where a record of its kind tells one
one_given : (r : RangeItem) (e : Extent) → length (filter_map (range_in r) (e ∷ [])) ≤ 1
one_given r Inside = omega arith
one_given r _ = omega arith

pub ranges_of-told : (z e k offset : ℕ) (fields : AnyRecord) → length (given (range_told z e k offset fields)) ≤ ranges_by (kind_told fields) 1
ranges_of-told z e k offset (any.Memory fields) = let r = range_item z e k fields in one_given r r.extent
ranges_of-told z e k offset (any.Memory64 fields) = let r = range64_item z e k fields offset in one_given r r.extent
ranges_of-told z e k offset _ = omega arith

-- ---- an item whose name is lent

plain_name-plain : (name : Name) → plain_name (plain_name name) ≡ plain_name name
plain_name-plain (Units units) = refl
plain_name-plain _ = refl

pub plain-plain : (x : Item) → plain (plain x) ≡ plain x
plain-plain (items.Stream x) = refl
plain-plain x = let same = plain_name-plain (summary_of x).name in cc

-- ---- the item of a step

-- the name of a record that was read is kept
name_kept-read : (rva : Option ℕ) (buffer : List ℕ) (name : NameRead) → IsNameOf rva name → name_kept rva (name_read buffer name) ≡ name_read buffer name
name_kept-read (Some rva) buffer name of = refl
name_kept-read None buffer name of = rw of refl

pub summary_of-read : (z : ℕ) (buffer : List ℕ) (r : RecordRead) → IsNameOf (name_rva r.fields) r.name
    → summary_of (step_item z buffer (step.Record r)) ≡ summary_by r.entry r.index (kind_told r.fields) (name_read buffer r.name) (range_told z r.entry r.index r.offset r.fields)
summary_of-read z buffer r of =
    summary_of-item_of z r.entry r.index r.offset r.fields (name_read buffer r.name)
    ∙ ap (λ (n : Name). summary_by r.entry r.index (kind_told r.fields) n (range_told z r.entry r.index r.offset r.fields)) (name_kept-read (name_rva r.fields) buffer r.name of)

stream_of-step : (z : ℕ) (buffer : List ℕ) (s : Step) → (summary_of (step_item z buffer s)).stream ≡ stream_told s
stream_of-step z buffer (step.Stream x) = refl
stream_of-step z buffer (step.Record r) = ap (λ (s : Summary). s.stream) (summary_of-item_of z r.entry r.index r.offset r.fields (name_read buffer r.name))

-- an item begins the entry that its step does
pub begins_as : (z : ℕ) (buffer : List ℕ) (s : Step) (x : Item) → plain x ≡ step_item z buffer s → (summary_of x).stream ≡ stream_told s
begins_as z buffer s x same =
    sym (ap (λ (s : Summary). s.stream) (summary_of-plain x)) ∙ ap (λ (y : Item). (summary_of y).stream) same ∙ stream_of-step z buffer s
