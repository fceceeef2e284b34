-- What is left of an entry, step by step.
use Rattle.std.proofs.Common.{◌≡◌, ◌+◌, ◌-◌, ◌*◌, ◌<◌, ◌∙◌, ℕ, List, ◌++◌, length, take, Option, Some, None, Ok, Err, arith, ap, sym, refl}
use Rattle.std.specs.Prelude.{map}
use Rattle.std.proofs.Math.Seq.{take-append_seam}
use Rattle.mdmp_wire.specs.declared.entry.Entry.{Entry}
use Rattle.mdmp_lister.specs.declared.choice.Choice.{Choice}
use Rattle.mdmp_lister.specs.declared.fault.Fault.{Fault}
use Rattle.mdmp_lister.specs.declared.fault.FaultKind.{FaultKind}
use Rattle.mdmp_lister.specs.declared.fault.FaultKind.TheVariants.{Source}
use Rattle.mdmp_lister.specs.declared.fault.ListFault.{ListFault}
use Rattle.mdmp_lister.specs.declared.item.Item.{Item}
use Rattle.mdmp_lister.specs.declared.kind.StreamKind.{StreamKind}
use Rattle.mdmp_lister.specs.declared.shape.Shape.{Shape}
use Rattle.mdmp_lister.specs.Format.Directory.{IsFirstChosen}
use Rattle.mdmp_lister.specs.Format.Item.{item_at}
use Rattle.mdmp_lister.specs.Format.Listing.{Numbered, Run, all_joined, entry_body, entry_listing, entry_of, items_from, joined, list_fault, listing_from, only_fault, stream_item, with_item}
use Rattle.mdmp_lister.specs.Format.Kind.{kind_of}
use Rattle.mdmp_lister.specs.Format.Shape.{location_fault, shape_of}
use Rattle.mdmp_lister.specs.Stage.{fault_stage, stage_by}
use Rattle.mdmp_lister.specs.Walk.{left_of_entry}
use Rattle.mdmp_lister.proofs.Runs.{items_from-Ok, items_from-Err}

-- ---- runs

joined-with_item_of : (x : Item) (run rest : Run) (fault : Option ListFault) → run.fault ≡ fault → joined (with_item x run) rest ≡ with_item x (joined run rest)
joined-with_item_of x run rest None same = rw same refl
joined-with_item_of x run rest (Some f) same = rw same refl

pub joined-with_item : (x : Item) (run rest : Run) → joined (with_item x run) rest ≡ with_item x (joined run rest)
joined-with_item x run rest = joined-with_item_of x run rest run.fault refl

-- ---- a fault

stage_by-left : (F : List ℕ) (limit number : ℕ) (e : Entry) (f : ListFault) (kind : FaultKind) → left_of_entry F limit number e (stage_by kind f) ≡ only_fault f
stage_by-left F limit number e f (Source fault) = refl
stage_by-left F limit number e f _ = refl

-- is what is left behind it
pub fault_stage-left : (F : List ℕ) (limit number : ℕ) (e : Entry) (f : ListFault) → left_of_entry F limit number e (fault_stage f) ≡ only_fault f
fault_stage-left F limit number e f = stage_by-left F limit number e f f.kind

-- ---- records

module _ (F : List ℕ) (limit e at : ℕ) (kind : StreamKind) (shape : Shape) (k : ℕ) (left : k < shape.count) where
  pub records-given : (item : Item) → item_at F limit e k at (at + shape.first + k * shape.stride) kind ≡ Ok item
      → items_from F limit e at kind shape (shape.count - k) k ≡ with_item item (items_from F limit e at kind shape (shape.count - (k + 1)) (k + 1))
  records-given item given = items_from-Ok F limit e at kind shape (shape.count - k) (shape.count - (k + 1)) k _ item (omega (arith, left)) refl (sym given)

  pub records-faulted : (f : Fault) → item_at F limit e k at (at + shape.first + k * shape.stride) kind ≡ Err f
      → items_from F limit e at kind shape (shape.count - k) k ≡ only_fault (list_fault e (Some k) f)
  records-faulted f given = items_from-Err F limit e at kind shape (shape.count - k) (shape.count - (k + 1)) k _ f (omega (arith, left)) refl (sym given)

-- ---- heads

module _ (F : List ℕ) (limit number : ℕ) (e : Entry) (kind : StreamKind) (inside : location_fault (length F) e ≡ None) (known : kind_of e.stream_type ≡ Some kind) where
  -- what is left of an entry whose head was not read yet, by the shape of its stream
  pub body-shaped : (shape : Shape) → shape_of F e.location.rva e.location.size kind ≡ Ok shape
      → entry_body F limit (record { number = number; entry = e }) ≡ items_from F limit number e.location.rva kind shape (shape.count - 0) 0
  body-shaped shape shaped =
      let all : shape.count - 0 ≡ shape.count = omega arith in
      rw (inside, known, shaped, all) refl

  pub body-faulted : (f : Fault) → shape_of F e.location.rva e.location.size kind ≡ Err f → entry_body F limit (record { number = number; entry = e }) ≡ only_fault (list_fault number None f)
  body-faulted f faulted = rw (inside, known, faulted) refl

-- ---- the next entry

pub listing_from-first : (F : List ℕ) (choice : Choice) (limit from i : ℕ) (e : Entry) → IsFirstChosen F choice from (Some i) → e ≡ entry_of F i
    → listing_from F choice limit from
    ≡ with_item (stream_item (record { number = i; entry = e })) (joined (entry_body F limit (record { number = i; entry = e })) (listing_from F choice limit (i + 1)))
listing_from-first F choice limit from i e first same =
    ap (λ (xs : List Numbered). all_joined (map (entry_listing F limit) xs)) first
    ∙ ap (λ (x : Entry). joined (entry_listing F limit (record { number = i; entry = x })) (listing_from F choice limit (i + 1))) (sym same)
    ∙ joined-with_item (stream_item (record { number = i; entry = e })) (entry_body F limit (record { number = i; entry = e })) (listing_from F choice limit (i + 1))

-- a buffer that was lent whole has what was written
pub take-lent : (n : ℕ) (bytes rest : List ℕ) → length bytes ≡ n → take n (bytes ++ rest) ≡ bytes
take-lent n bytes rest whole = rw (← whole) (take-append_seam bytes rest)
