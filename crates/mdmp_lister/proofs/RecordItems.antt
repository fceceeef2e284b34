-- A record of any kind that was fetched, and the item of it and its name.
use Rattle.std.proofs.Common.{◌≡◌, ◌≤◌, ◌∙◌, ℕ, List, length, take, drop, Some, false, Result, Ok, Err, ap, arith, sym, refl, subst}
use Rattle.std.specs.Prelude.{IfOk}
use Rattle.mdmp_source.specs.Range.{bytes_at}
use Rattle.mdmp_wire.specs.AnyRecord.{name_rva}
use Rattle.mdmp_wire.specs.NumberLaws.{array_at-within, number_at-within, numbers_at-within}
use Rattle.mdmp_wire.specs.declared.any_record.AnyRecord.{AnyRecord}
use Rattle.mdmp_wire.specs.declared.any_record.AnyRecord.TheVariants as any
use Rattle.mdmp_lister.specs.declared.fault.Fault.{Fault}
use Rattle.mdmp_lister.specs.declared.item.Item.{Item}
use Rattle.mdmp_lister.specs.declared.kind.StreamKind.{StreamKind}
use Rattle.mdmp_lister.specs.declared.kind.StreamKind.TheVariants as kinds
use Rattle.mdmp_lister.specs.declared.name.Name.{Name}
use Rattle.mdmp_lister.specs.Format.Item.{item_at, item_of, kind_told, name_of, named, offset_in, range_offset, record_at}
use Rattle.mdmp_lister.specs.Format.Kind.{has_names, record_size}

-- a record is read of its own bytes alone
record_at-part : (kind : StreamKind) (n o : ℕ) (F : List ℕ) → record_size kind ≤ n → record_at kind (take n (drop o F)) 0 ≡ record_at kind F o
record_at-part kinds.Threads n o F room = grind (arith, number_at-within)
record_at-part _ n o F room = grind (arith, number_at-within, numbers_at-within, array_at-within)

-- where it tells the place of a name, records of its kind have names
pub named_kind : (w : AnyRecord) (rva : ℕ) → name_rva w ≡ Some rva → has_names (kind_told w) ≡ false → ⊥
named_kind (any.Thread r) rva is none = cc
named_kind _ rva is none = cc

-- the record of the bytes that are held, as they were fetched, is that of the file
pub record-held : {T E : Type 0} (result : Result T E) (kind : StreamKind) (o : ℕ) (F held : List ℕ) → IfOk result (λ _. take (record_size kind) held ≡ bytes_at F o (record_size kind))
    → IfOk result (λ _. record_at kind F o ≡ record_at kind held 0)
record-held (Ok x) kind o F held fetched =
    let n = record_size kind in
    sym (record_at-part kind n o F (omega arith)) ∙ ap (λ b. record_at kind b 0) (sym fetched) ∙ record_at-part kind n 0 held (omega arith)
record-held (Err f) kind o F held fetched = tt

-- only the bytes of a 64-bit range are said to stand elsewhere
item_of-offset : (F : List ℕ) (z e k at o offset : ℕ) (kind : StreamKind) (name : Name) → (kind ≡ kinds.Memory64 → offset ≡ range_offset F at k)
    → item_of z e k (offset_in F at k kind) (record_at kind F o) name ≡ item_of z e k offset (record_at kind F o) name
item_of-offset F z e k at o offset kinds.Memory64 name here = rw (here refl) refl
item_of-offset F z e k at o offset _ name here = refl

module _ (F : List ℕ) (limit e k at o : ℕ) (kind : StreamKind) (fields : AnyRecord) (known : record_at kind F o ≡ fields) where
  item_at-named : item_at F limit e k at o kind ≡ named (name_of F limit (name_rva fields)) (λ name. item_of (length F) e k (offset_in F at k kind) fields name)
  item_at-named = ap (λ (x : AnyRecord). named (name_of F limit (name_rva x)) (λ name. item_of (length F) e k (offset_in F at k kind) x name)) known

  pub item_read : (z offset : ℕ) (name : Name) → z ≡ length F → (kind ≡ kinds.Memory64 → offset ≡ range_offset F at k) → name_of F limit (name_rva fields) ≡ Ok name
      → item_at F limit e k at o kind ≡ Ok (item_of z e k offset fields name)
  item_read z offset name size here read =
      let there = subst (λ (x : AnyRecord). item_of z e k (offset_in F at k kind) x name ≡ item_of z e k offset x name) known (item_of-offset F z e k at o offset kind name here) in
      item_at-named
      ∙ ap (λ w. named w (λ n. item_of (length F) e k (offset_in F at k kind) fields n)) read
      ∙ ap (λ y. Ok (item_of y e k (offset_in F at k kind) fields name)) (sym size)
      ∙ ap (λ (x : Item). Ok x) there

  -- or the fault of the name
  pub name_faulted : (fault : Fault) → name_of F limit (name_rva fields) ≡ Err fault → item_at F limit e k at o kind ≡ Err fault
  name_faulted fault read = item_at-named ∙ ap (λ w. named w (λ n. item_of (length F) e k (offset_in F at k kind) fields n)) read
