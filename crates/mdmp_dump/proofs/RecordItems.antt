-- The item of a record tells it: where its kind is known, its fields are.
use Rattle.std.proofs.Common.{◌≡◌, ◌∙◌, ◌++◌, ℕ, List, [], ◌∷◌, length, Option, Some, None, Result, Ok, Err, ap, append-nil, refl, sym}
use Rattle.mdmp_wire.specs.AnyRecord.{name_rva, slot_at, slot_name}
use Rattle.mdmp_wire.specs.declared.any_record.AnyRecord.{AnyRecord}
use Rattle.mdmp_wire.specs.declared.any_record.AnyRecord.TheVariants as any
use Rattle.mdmp_wire.specs.declared.slot.Slot.{Slot}
use Rattle.mdmp_wire.specs.declared.slot.Slot.TheVariants as slots
use Rattle.mdmp_lister.specs.declared.fault.Fault.{Fault}
use Rattle.mdmp_lister.specs.declared.fetching.NameRead.{NameRead}
use Rattle.mdmp_lister.specs.declared.fetching.NameRead.TheVariants as read
use Rattle.mdmp_lister.specs.declared.item.Item.{Item}
use Rattle.mdmp_lister.specs.declared.item.Item.TheVariants as items
use Rattle.mdmp_lister.specs.declared.kind.StreamKind.{StreamKind}
use Rattle.mdmp_lister.specs.declared.kind.StreamKind.TheVariants as kinds
use Rattle.mdmp_lister.specs.declared.name.Name.{Name}
use Rattle.mdmp_lister.specs.declared.name.Name.TheVariants as names
use Rattle.mdmp_lister.specs.declared.step.RecordRead.{RecordRead}
use Rattle.mdmp_lister.specs.Format.Item.{item_at, item_of, kind_told, name_of, named, offset_in, record_at}
use Rattle.mdmp_lister.specs.Format.Name.{plain_name}
use Rattle.mdmp_lister.specs.Step.{IsNameOf, IsNameTold}
use Rattle.mdmp_dump.specs.Reading.{IsRecordIn}
use Rattle.mdmp_dump.specs.Refusal.{ReadStep, Refuse, item_steps, name_steps, parts_asked, record_steps, slot_steps}
use Rattle.mdmp_dump.specs.declared.fault.ReadFault.{ReadFault}

-- ---- the item of any record

-- one that has its name
named_given : (name : Result Name Fault) (f : Name → Item) (item : Item) → named name f ≡ Ok item → (n : Name) × ((name ≡ Ok n) × (f n ≡ item))
named_given (Ok n) f item is = (n, (refl, cc))
named_given (Err fault) f item is = absurd (cc)

module _ (kind : StreamKind) (file : List ℕ) (limit e k at o : ℕ) where
  -- the item that the record makes with a name
  abbrev pub made : Name → Item
  made name = item_of (length file) e k (offset_in file at k kind) (record_at kind file o) name

  pub item_made : (item : Item) → item_at file limit e k at o kind ≡ Ok item → (n : Name) × ((name_of file limit (name_rva (record_at kind file o)) ≡ Ok n) × (made n ≡ item))
  item_made item is = named_given (name_of file limit (name_rva (record_at kind file o))) made item is

-- ---- back from an item

pub record Told : Type 0 where
  pub entry : ℕ
  pub index : ℕ
  pub offset : ℕ
  pub fields : AnyRecord
  pub name : Name

-- a place is told of a 64-bit range alone, and a name of the kinds that have one
abbrev pub offset_by : AnyRecord → ℕ → ℕ
offset_by (any.Memory64 r) offset = offset
offset_by w offset = 0

abbrev pub name_by : Option ℕ → Name → Name
name_by (Some rva) name = name
name_by None name = names.None

abbrev pub told_of : ℕ → ℕ → ℕ → AnyRecord → Name → Told
told_of e k offset w name = record { entry = e; index = k; offset = offset_by w offset; fields = w; name = name_by (name_rva w) name }

abbrev nothing_told : Told
nothing_told = record { entry = 0; index = 0; offset = 0; fields = any.MemoryInfo (record { base_address = 0; allocation_base = 0; allocation_protect = 0; region_size = 0; state = 0; protect = 0; memory_type = 0 }); name = names.None }

abbrev told_back : StreamKind → Item → Told
told_back kinds.Threads (items.Thread x) = told_of x.entry x.index 0 (any.Thread x.fields) names.None
told_back kinds.Modules (items.Module x) = told_of x.entry x.index 0 (any.Module x.fields) x.name
told_back kinds.Memory (items.Range x) = told_of x.entry x.index 0 (any.Memory (record { start_of_memory_range = x.start; memory = record { size = x.size; rva = x.offset } })) names.None
told_back kinds.Exception (items.Exception x) = told_of x.entry x.index 0 (any.Exception x.fields) names.None
told_back kinds.System (items.System x) = told_of x.entry x.index 0 (any.System x.fields) x.name
told_back kinds.Memory64 (items.Range x) = told_of x.entry x.index x.offset (any.Memory64 (record { start_of_memory_range = x.start; data_size = x.size })) names.None
told_back kinds.Unloaded (items.Unloaded x) = told_of x.entry x.index 0 (any.Unloaded x.fields) x.name
told_back kinds.MemoryInfo (items.MemoryInfo x) = told_of x.entry x.index 0 (any.MemoryInfo x.fields) names.None
told_back kinds.ThreadNames (items.ThreadName x) = told_of x.entry x.index 0 (any.ThreadName x.fields) x.name
told_back kind item = nothing_told

back_of : (z e k offset : ℕ) (w : AnyRecord) (name : Name) → told_back (kind_told w) (item_of z e k offset w name) ≡ told_of e k offset w name
back_of z e k offset (any.Thread r) name = refl
back_of z e k offset _ name = refl

kind_at : (kind : StreamKind) (F : List ℕ) (o : ℕ) → kind_told (record_at kind F o) ≡ kind
kind_at kinds.Threads F o = refl
kind_at _ F o = refl

pub plain_told : (r : NameRead) (name : Name) → IsNameTold r name → plain_name name ≡ name
plain_told read.None name told = rw told refl
plain_told (read.Units n) name told = rw told.1.1 refl
plain_told (read.Long n) name told = rw told refl

-- ---- what it asks

-- of any other an offset says nothing, and of one without a name none
pub steps_by : (z e k far : ℕ) (w : AnyRecord) (name : Name) → record_steps z e k far w name ≡ record_steps z e k (offset_by w far) w (name_by (name_rva w) name)
steps_by z e k far (any.Thread r) name = refl
steps_by z e k far _ name = refl

-- what the item of a record asks is asked behind its slots
pub item_asks : (z e k far : ℕ) (w : AnyRecord) (name : Name) → item_steps z (item_of z e k far w name) ≡ record_steps z e k far w name
item_asks z e k far (any.Thread r) name = simp append-nil
item_asks z e k far (any.Module r) name = refl
item_asks z e k far (any.MemoryInfo r) name = refl
item_asks z e k far _ name = simp append-nil

-- a name that was taken asks nothing more
slot_named : (z e k far : ℕ) (name : Name) → name_steps e k name ≡ [] → (s : Slot) → slot_steps z e k far name s ≡ slot_steps z e k far names.None s
slot_named z e k far name none (slots.Name rva) = none
slot_named z e k far name none slots.Empty = refl
slot_named z e k far name none (slots.Part part at) = refl
slot_named z e k far name none (slots.Behind n) = refl

pub name_asked : (z : ℕ) (r : RecordRead) (name : Name) → name_steps r.entry r.index name ≡ [] → record_steps z r.entry r.index r.offset r.fields name ≡ parts_asked z r
name_asked z r name none = λ i.
    slot_named z r.entry r.index r.offset name none (slot_at r.fields 0) i
    ++ slot_named z r.entry r.index r.offset name none (slot_at r.fields 1) i
    ++ slot_named z r.entry r.index r.offset name none (slot_at r.fields 2) i

-- one that is refused is refused first
name_refused : (e k : ℕ) (fault : ReadFault) (r : NameRead) (name : Name) → r ≡ read.None → IsNameTold r name → name_steps e k name ≡ Refuse fault ∷ [] → ⊥
name_refused e k fault read.None name of told is = let none : name_steps e k name ≡ [] = ap (name_steps e k) told in cc
name_refused e k fault (read.Units n) name of told is = cc of
name_refused e k fault (read.Long n) name of told is = cc of

slot_first : (z e k far : ℕ) (fault : ReadFault) (r : NameRead) (name : Name) (s : Slot) (xs ys : List ReadStep) → IsNameOf (slot_name s) r → IsNameTold r name
    → name_steps e k name ≡ Refuse fault ∷ [] → (rest : List ReadStep) × (slot_steps z e k far name s ++ xs ++ ys ≡ Refuse fault ∷ rest)
slot_first z e k far fault r name (slots.Name rva) xs ys of told is = (xs ++ ys, ap (λ (steps : List ReadStep). steps ++ xs ++ ys) is)
slot_first z e k far fault r name slots.Empty xs ys of told is = absurd (name_refused e k fault r name of told is)
slot_first z e k far fault r name (slots.Part part at) xs ys of told is = absurd (name_refused e k fault r name of told is)
slot_first z e k far fault r name (slots.Behind n) xs ys of told is = absurd (name_refused e k fault r name of told is)

pub refused_first : (z : ℕ) (fault : ReadFault) (r : RecordRead) (name : Name) → IsNameOf (name_rva r.fields) r.name → IsNameTold r.name name
    → name_steps r.entry r.index name ≡ Refuse fault ∷ [] → (rest : List ReadStep) × (record_steps z r.entry r.index r.offset r.fields name ≡ Refuse fault ∷ rest)
refused_first z fault r name of told is = slot_first z r.entry r.index r.offset fault r.name name (slot_at r.fields 0) _ _ of told is

-- ---- a record that was read is the one that stands there

offset_told : (kind : StreamKind) (F : List ℕ) (o far other : ℕ) → kind ≡ kinds.Memory64 → offset_by (record_at kind F o) far ≡ offset_by (record_at kind F o) other → far ≡ other
offset_told kinds.Memory64 F o far other is same = same
offset_told kinds.Threads F o far other is same = absurd (cc is)
offset_told _ F o far other is same = absurd (cc is)

module _ (F : List ℕ) (limit e k at o : ℕ) (kind : StreamKind) (r : RecordRead) (name : Name) (z : ℕ)
    (is : item_at F limit e k at o kind ≡ Ok (item_of z r.entry r.index r.offset r.fields name)) (of : Some kind ≡ Some (kind_told r.fields)) where
  abbrev w : AnyRecord
  w = record_at kind F o

  given : (n : Name) × ((name_of F limit (name_rva w) ≡ Ok n) × (made kind F limit e k at o n ≡ item_of z r.entry r.index r.offset r.fields name))
  given = item_made kind F limit e k at o (item_of z r.entry r.index r.offset r.fields name) is

  kinds_are : kind_told w ≡ kind_told r.fields
  kinds_are = kind_at kind F o ∙ (let same = of in cc same)

  pub told_is : (n : Name) × ((name_of F limit (name_rva w) ≡ Ok n) × (told_of r.entry r.index r.offset r.fields name ≡ told_of e k (offset_in F at k kind) w n))
  told_is = (
    given.0,
    (
      given.1.0,
      sym (back_of z r.entry r.index r.offset r.fields name) ∙ sym (ap (told_back (kind_told r.fields)) given.1.1)
          ∙ sym (ap (λ (one : StreamKind). told_back one (item_of (length F) e k (offset_in F at k kind) w given.0)) kinds_are)
          ∙ back_of (length F) e k (offset_in F at k kind) w given.0,
    ),
  )

  -- its fields are, and where the bytes of a 64-bit range stand
  pub read_at : IsRecordIn kind F at k o r.fields r.offset
  read_at =
      let fields : r.fields ≡ w = ap (λ (t : Told). t.fields) told_is.1.1 in
      record {
        fields = fields;
        range = λ is64.
            offset_told kind F o r.offset (offset_in F at k kind) is64 (sym (ap (λ (v : AnyRecord). offset_by v r.offset) fields) ∙ ap (λ (t : Told). t.offset) told_is.1.1)
            ∙ ap (offset_in F at k) is64;
      }

  -- and its item asks what its slots do
  pub read_asks : item_steps (length F) (item_of z r.entry r.index r.offset r.fields name) ≡ record_steps (length F) r.entry r.index r.offset r.fields name
  unfolding given told_is
  read_asks =
      ap (item_steps (length F)) (sym given.1.1) ∙ item_asks (length F) e k (offset_in F at k kind) w given.0 ∙ steps_by (length F) e k (offset_in F at k kind) w given.0
      ∙ sym (ap (λ (t : Told). record_steps (length F) t.entry t.index t.offset t.fields t.name) told_is.1.1) ∙ sym (steps_by (length F) r.entry r.index r.offset r.fields name)
