-- Runs, item by item.
use Rattle.std.proofs.Common.{◌≡◌, ◌+◌, ◌*◌, ℕ, suc, List, Some, Ok, Err, refl}
use Rattle.mdmp_lister.specs.declared.kind.StreamKind.{StreamKind}
use Rattle.mdmp_lister.specs.declared.shape.Shape.{Shape}
use Rattle.mdmp_lister.specs.declared.fault.Fault.{Fault}
use Rattle.mdmp_lister.specs.declared.item.Item.{Item}
use Rattle.mdmp_lister.specs.Format.Item.{item_at}
use Rattle.mdmp_lister.specs.Format.Listing.{items_from, with_item, only_fault, list_fault}

pub items_from-Ok : (F : List ℕ) (limit e at : ℕ) (kind : StreamKind) (shape : Shape) (n m k o : ℕ) (item : Item) → n ≡ suc m → o ≡ at + shape.first + k * shape.stride
    → Ok item ≡ item_at F limit e k at o kind → items_from F limit e at kind shape n k ≡ with_item item (items_from F limit e at kind shape m (k + 1))
items_from-Ok F limit e at kind shape n m k o item more place given = rw (more, ← place, ← given) refl

pub items_from-Err : (F : List ℕ) (limit e at : ℕ) (kind : StreamKind) (shape : Shape) (n m k o : ℕ) (f : Fault) → n ≡ suc m → o ≡ at + shape.first + k * shape.stride
    → Err f ≡ item_at F limit e k at o kind → items_from F limit e at kind shape n k ≡ only_fault (list_fault e (Some k) f)
items_from-Err F limit e at kind shape n m k o f more place given = rw (more, ← place, ← given) refl
