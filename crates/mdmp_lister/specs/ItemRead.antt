-- An item as it was read, whose name is lent.
use Rattle.std.specs.Prelude.{◌≡◌, ℕ, List, Option, Some, None, Result, Ok, Err, IfOk, IfSome}
use Rattle.mdmp_lister.specs.declared.fault.ListFault.{ListFault}
use Rattle.mdmp_lister.specs.declared.item.Item.{Item}
use Rattle.mdmp_lister.specs.declared.item.Item.TheVariants as items
use Rattle.mdmp_lister.specs.declared.kind.StreamKind.{StreamKind}
use Rattle.mdmp_lister.specs.declared.step.ItemRead.{ItemRead}
use Rattle.mdmp_lister.specs.declared.step.ItemRead.TheVariants as reads
use Rattle.mdmp_lister.specs.declared.step.Step.{Step}
use Rattle.mdmp_lister.specs.declared.step.Step.TheVariants as step
use Rattle.mdmp_lister.specs.Format.Item.{item_of}
use Rattle.mdmp_lister.specs.Format.Kind.{kind_of}
use Rattle.mdmp_lister.specs.Format.Name.{plain_name}
use Rattle.mdmp_lister.specs.Lister.{ListerLeaves, ListerState}
use Rattle.mdmp_lister.specs.Step.{IsNameTold, IsStepOf, name_read}

-- what is given of a step, its name lent from this buffer
abbrev pub IsLentOf : List ℕ → Step → ItemRead → Type 0
IsLentOf buffer s (reads.Stream x) = s ≡ step.Stream x
IsLentOf buffer s (reads.Record r name) = (s ≡ step.Record r) × (plain_name name ≡ name_read buffer r.name)

-- its item, in a file of z bytes
abbrev pub item_read : ℕ → ItemRead → Item
item_read z (reads.Stream x) = items.Stream x
item_read z (reads.Record r name) = item_of z r.entry r.index r.offset r.fields name

-- the answer of `next`
abbrev pub answer_read : ℕ → Result (Option ItemRead) ListFault → Result (Option Item) ListFault
answer_read z (Ok (Some x)) = Ok (Some (item_read z x))
answer_read z (Ok None) = Ok None
answer_read z (Err f) = Err f

-- its record is one of a stream of this kind, and its name the one that was read
abbrev pub IsReadOf : Option StreamKind → ItemRead → Type 0
IsReadOf kind (reads.Stream x) = Unit {0}
IsReadOf kind (reads.Record r name) = IsStepOf kind (step.Record r) × IsNameTold r.name (plain_name name)

-- what a request for the next item as it was read leaves: what `next` does, and a record of the current entry's kind
pub record ReadLeaves (old : ListerState) (result : Result (Option ItemRead) ListFault) (new : ListerState) : Type 0 where
  pub leaves : ListerLeaves old (answer_read old.source.size result) new
  pub kind : IfOk result (λ given. IfSome given (IsReadOf (kind_of new.current.stream_type)))
