-- The sizes of ranges, one by one.
use Rattle.std.proofs.Common.{◌≡◌, ◌+◌, ◌*◌, ℕ, zero, suc, List, length, Result, Ok, Some, arith, refl}
use Rattle.mdmp_wire.specs.declared.any_record.AnyRecord.{AnyRecord}
use Rattle.mdmp_wire.specs.declared.any_record.AnyRecord.TheVariants as any
use Rattle.mdmp_wire.specs.Number.{number_at}
use Rattle.mdmp_wire.specs.Descriptor64.{descriptor64_at}
use Rattle.mdmp_lister.specs.declared.fault.Fault.{Fault}
use Rattle.mdmp_lister.specs.declared.item.Item.{Item}
use Rattle.mdmp_lister.specs.declared.item.RangeItem.{RangeItem}
use Rattle.mdmp_lister.specs.declared.kind.StreamKind.{StreamKind}
use Rattle.mdmp_lister.specs.declared.kind.StreamKind.TheVariants.{Memory64}
use Rattle.mdmp_lister.specs.declared.item.Item.TheVariants as items
use Rattle.mdmp_lister.specs.declared.name.Name.{Name}
use Rattle.mdmp_lister.specs.declared.step.Step.{Step}
use Rattle.mdmp_lister.specs.declared.step.Step.TheVariants as step
use Rattle.mdmp_lister.specs.Format.Item.{item_at, item_of, kind_told, range64_item, range_offset, sizes_before}
use Rattle.mdmp_lister.specs.Step.{name_read, IsStepOf, bytes_behind, range64_size, step_item}

-- the first of some ranges, and the others
pub sizes_before-step : (F : List ℕ) (o n j m : ℕ) → n ≡ suc m → j ≡ o + 16 → number_at F (o + 8) 8 + sizes_before F j m ≡ sizes_before F o n
unfolding sizes_before
sizes_before-step F o n j m more next = rw (more, next) refl

-- the last of some ranges, and those before it
sizes_before-last : (F : List ℕ) (o n : ℕ) → sizes_before F o (n + 1) ≡ sizes_before F o n + (descriptor64_at F (o + 16 * n)).data_size
unfolding sizes_before
sizes_before-last F o zero = let same : o + 16 * 0 ≡ o = omega arith in rw same (omega arith)
sizes_before-last F o (suc n) =
    let later = sizes_before-last F (o + 16) n in
    let place : o + 16 + 16 * n ≡ o + 16 * suc n = omega arith in
    let first = sizes_before-step F o (suc n + 1) (o + 16) (n + 1) (omega arith) refl in
    let last = rw place at later in
    omega (arith, first, last, sizes_before-step F o (suc n) (o + 16) n refl refl)

pub range_offset-next : (F : List ℕ) (at k o : ℕ) → o ≡ at + 16 + k * 16 → range_offset F at (k + 1) ≡ range_offset F at k + (descriptor64_at F o).data_size
range_offset-next F at k o place =
    let same : at + 16 + 16 * k ≡ o = omega (arith, place) in
    omega (arith, rw same at (sizes_before-last F (at + 16) k))

-- the size of a range of a 64-bit memory list
size_of_range : (z e k offset : ℕ) (fields : AnyRecord) (name : Name) (x : RangeItem) → Some Memory64 ≡ Some (kind_told fields) → item_of z e k offset fields name ≡ items.Range x → range64_size fields ≡ x.size
size_of_range z e k offset (any.Memory64 fields) name x known same = cc
size_of_range z e k offset _ name x known same = cc

size_of_step : (z : ℕ) (buffer : List ℕ) (s : Step) (x : RangeItem) → IsStepOf (Some Memory64) s → step_item z buffer s ≡ items.Range x → bytes_behind s ≡ x.size
size_of_step z buffer (step.Stream y) x of same = cc
size_of_step z buffer (step.Record r) x of same = size_of_range z r.entry r.index r.offset r.fields (name_read buffer r.name) x of.0 same

one_answer : (r : Result Item Fault) (x y : Item) → r ≡ Ok x → r ≡ Ok y → x ≡ y
one_answer r x y first second = cc

-- behind a range of a 64-bit memory list the next one's bytes stand
pub range-next : (F : List ℕ) (limit e k at o z offset next : ℕ) (buffer : List ℕ) (kind : StreamKind) (s : Step) → kind ≡ Memory64 → IsStepOf (Some kind) s
    → item_at F limit e k at o kind ≡ Ok (step_item z buffer s) → offset ≡ range_offset F at k → o ≡ at + 16 + k * 16 → next ≡ offset + bytes_behind s → next ≡ range_offset F at (k + 1)
range-next F limit e k at o z offset next buffer kind s is of given here place behind =
    let x = range64_item (length F) e k (descriptor64_at F o) (range_offset F at k) in
    let known : item_at F limit e k at o Memory64 ≡ Ok (step_item z buffer s) = rw is at given in
    let same : step_item z buffer s ≡ items.Range x = one_answer _ _ _ known refl in
    let size = size_of_step z buffer s x (rw is at of) same in
    omega (arith, behind, here, size, range_offset-next F at k o place)
