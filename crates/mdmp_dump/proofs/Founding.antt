-- A record that was read with the limit 0: what is found behind its slots.
use Rattle.std.proofs.Common.{◌≡◌, ◌∙◌, ◌<◌, ◌+◌, ◌^◌, ℕ, zero, suc, List, [], ◌∷◌, ◌++◌, length, map, get_or, Option, Some, None, Result, Ok, Err, ap, arith, refl, subst, sym}
use Rattle.std.specs.Prelude.{IfErr}
use Rattle.mdmp_source.specs.Range.{bytes_at}
use Rattle.mdmp_source.specs.Store.{AreBytes}
use Rattle.mdmp_wire.specs.AnyRecord.{bare, bare_slot, name_rva, slot_at, slot_name, slots_of, with_slots}
use Rattle.mdmp_wire.specs.Units.{units_over}
use Rattle.mdmp_wire.proofs.Slots.{own_slots}
use Rattle.mdmp_wire.specs.declared.any_record.AnyRecord.{AnyRecord}
use Rattle.mdmp_wire.specs.declared.any_record.AnyRecord.TheVariants as any
use Rattle.mdmp_wire.specs.declared.slot.Slot.{Slot}
use Rattle.mdmp_wire.specs.declared.slot.Slot.TheVariants as slots
use Rattle.mdmp_lister.specs.declared.fault.Fault.{Fault}
use Rattle.mdmp_lister.specs.declared.fetching.NameRead.{NameRead}
use Rattle.mdmp_lister.specs.declared.fetching.NameRead.TheVariants as read
use Rattle.mdmp_lister.specs.declared.item.Item.{Item}
use Rattle.mdmp_lister.specs.declared.kind.StreamKind.{StreamKind}
use Rattle.mdmp_lister.specs.declared.name.Name.{Name}
use Rattle.mdmp_lister.specs.declared.name.Name.TheVariants as names
use Rattle.mdmp_lister.specs.declared.step.RecordRead.{RecordRead}
use Rattle.mdmp_lister.specs.declared.step.Step.TheVariants as step
use Rattle.mdmp_lister.specs.Format.Item.{item_at, item_of, name_of, named, offset_in, plain, range_extent_of, record_at}
use Rattle.mdmp_lister.specs.Format.Name.{name_at}
use Rattle.mdmp_lister.proofs.Classes.{plain-named}
use Rattle.mdmp_lister.specs.Step.{IsNameOf, IsNameTold, IsStepOf, TellsItem}
use Rattle.mdmp_wire.specs.declared.slot.PartName.TheVariants.{Memory}
use Rattle.mdmp_dump.specs.declared.fault.ReadFault.{ReadFault}
use Rattle.mdmp_dump.specs.declared.found_record.FoundRecord.{FoundRecord}
use Rattle.mdmp_dump.specs.declared.found_record.PartAt.{PartAt}
use Rattle.mdmp_dump.specs.declared.view.PartSize.{PartSize}
use Rattle.mdmp_dump.specs.declared.view.PartSize.TheVariants.{Size}
use Rattle.mdmp_dump.specs.FileRefusal.{first_told}
use Rattle.mdmp_dump.specs.Finding.{AreHad, FindsName, FindsRecord, FindsSeen, FindsSlot, FindsStep, IsAt, IsCountedName, IsFoundInFile, IsFoundInside, IsOfRecord, IsSeenAt, seen_in, seen_of, slot_bare, slot_bytes, slot_size}
use Rattle.mdmp_dump.specs.FoundRecord.{no_part}
use Rattle.mdmp_dump.specs.Placed.{size_in}
use Rattle.mdmp_dump.specs.Refusal.{Refuse, ReadStep, Take, item_steps, record_steps, slot_steps}
use Rattle.mdmp_dump.specs.Seen.{Seen, seen}
use Rattle.mdmp_dump.proofs.Laid.{range_inside}
use Rattle.mdmp_dump.proofs.Limits.{long_found, long_refused, none_found, units_found}
use Rattle.mdmp_dump.proofs.RecordItems.{Told, item_asks, made, name_by, offset_by, plain_told, steps_by, told_is, told_of}
use Rattle.mdmp_dump.proofs.Unrefused.{part_given}
use Rattle.mdmp_dump.proofs.Within.Part.{length-array_at}

-- ---- steps

pub both_had : (xs ys : List ReadStep) → AreHad xs → AreHad ys → AreHad (xs ++ ys)
unfolding first_told
both_had [] ys front back = back
both_had (Refuse fault ∷ xs) ys front back = absurd (cc front)
both_had (Take e k offset n ∷ xs) ys front back = both_had xs ys front back

pub then_refused : (xs ys : List ReadStep) (fault : ReadFault) → AreHad xs → ys ≡ Refuse fault ∷ [] → first_told (xs ++ ys) None ≡ Some fault
unfolding first_told
then_refused [] ys fault had is = ap (λ (steps : List ReadStep). first_told steps None) is
then_refused (Refuse other ∷ xs) ys fault had is = absurd (cc had)
then_refused (Take e k offset n ∷ xs) ys fault had is = then_refused xs ys fault had is

pub first_refused : (xs ys : List ReadStep) (fault : ReadFault) → xs ≡ Refuse fault ∷ [] → first_told (xs ++ ys) None ≡ Some fault
unfolding first_told
first_refused xs ys fault is = ap (λ (steps : List ReadStep). first_told (steps ++ ys) None) is

pub refused : (xs : List ReadStep) (fault : ReadFault) → xs ≡ Refuse fault ∷ [] → first_told xs None ≡ Some fault
unfolding first_told
refused xs fault is = ap (λ (steps : List ReadStep). first_told steps None) is

pub told_front : (xs ys : List ReadStep) (fault : ReadFault) → first_told xs None ≡ Some fault → first_told (xs ++ ys) None ≡ Some fault
unfolding first_told
told_front [] ys fault is = absurd (cc is)
told_front (Refuse other ∷ xs) ys fault is = is
told_front (Take e k offset n ∷ xs) ys fault is = told_front xs ys fault is

-- ---- parts

pub nothing_at : (F : List ℕ) → IsAt F no_part no_part.size []
nothing_at F = (refl, λ fits. refl)

module _ (F : List ℕ) (wire : AnyRecord) (a b c : PartSize) (x y z : List ℕ) (p q r : PartAt) (first : IsAt F p a x) (second : IsAt F q b y) (third : IsAt F r c z) where
  part_at : AreBytes F → (j : ℕ) → bytes_at F (get_or (p ∷ q ∷ r ∷ []) j no_part).at (size_in (get_or (p ∷ q ∷ r ∷ []) j no_part).size) ≡ get_or (x ∷ y ∷ z ∷ []) j []
  part_at fits zero = first.1 fits
  part_at fits (suc zero) = second.1 fits
  part_at fits (suc (suc zero)) = third.1 fits
  part_at fits (suc (suc (suc j))) = refl

  -- a record of these parts
  pub seen_at : IsSeenAt F (seen wire (a ∷ b ∷ c ∷ []) (x ∷ y ∷ z ∷ [])) (record { wire = wire; parts = p ∷ q ∷ r ∷ [] })
  seen_at = record {
    fields = λ i. record { wire = wire; parts = first.0 i ∷ second.0 i ∷ third.0 i ∷ [] };
    parts = part_at;
  }

-- ---- a name

module _ (F : List ℕ) (rva limit e k n : ℕ) (low : rva + 4 < 2 ^ 64) where
  -- units that were read, or a name that is longer than the limit 0
  units_answer : (units : List ℕ) → name_at F rva 0 ≡ Ok (names.Units (units_over units)) → length units ≡ n → (result : Result PartAt ReadFault) → IsCountedName limit e k rva n result → FindsName F limit e k rva result
  units_answer units is len (Ok p) counted =
      let found = units_found F rva limit e k units is in
      let part_is : p ≡ record { size = Size (length units); at = rva + 4 } = λ i. record { size = (counted.1.0 ∙ sym (ap Size len)) i; at = counted.1.1 low i } in
      subst (λ (q : PartAt). FindsName F limit e k rva (Ok q)) (sym part_is) found.1
  units_answer units is len (Err fault) counted = let none = (units_found F rva limit e k units is).0 in absurd (omega (arith, counted.0, none, len))

  long_answer : name_at F rva 0 ≡ Ok (names.Long n) → (result : Result PartAt ReadFault) → IsCountedName limit e k rva n result → FindsName F limit e k rva result
  long_answer is (Ok p) counted =
      let part_is : p ≡ record { size = Size n; at = rva + 4 } = λ i. record { size = counted.1.0 i; at = counted.1.1 low i } in
      subst (λ (q : PartAt). FindsName F limit e k rva (Ok q)) (sym part_is) (long_found F rva limit e k n is counted.0)
  long_answer is (Err fault) counted = subst (λ (f : ReadFault). FindsName F limit e k rva (Err f)) (sym counted.1) (long_refused F rva limit e k n is counted.0)

  pub units_told : (name : Name) → IsNameTold (read.Units n) name → name_at F rva 0 ≡ Ok name → (result : Result PartAt ReadFault) → IsCountedName limit e k rva n result → FindsName F limit e k rva result
  units_told name told is = units_answer told.0 (is ∙ ap Ok told.1.1) told.1.0

  pub long_told : (name : Name) → IsNameTold (read.Long n) name → name_at F rva 0 ≡ Ok name → (result : Result PartAt ReadFault) → IsCountedName limit e k rva n result → FindsName F limit e k rva result
  long_told name told is = long_answer (is ∙ ap Ok told)

pub none_told : (F : List ℕ) (rva limit e k : ℕ) (name : Name) → IsNameTold read.None name → name_at F rva 0 ≡ Ok name → FindsName F limit e k rva (Ok no_part)
none_told F rva limit e k name told is = none_found F rva limit e k (is ∙ ap Ok told)

-- ---- slots

pub empty_found : (F : List ℕ) → IsFoundInFile F [] no_part.size [] (Ok no_part)
unfolding first_told
empty_found F = (refl, nothing_at F)

abbrev IsNameless : Slot → Type 0
IsNameless (slots.Name rva) = ⊥
IsNameless slot = Unit {0}

-- only the first slot of a record is a name
nameless : (w : AnyRecord) → IsNameless (slot_at w 1) × IsNameless (slot_at w 2)
nameless (any.Thread r) = (tt, tt)
nameless _ = (tt, tt)

-- what each has, of the three
three_of : {X : Type 0} (f : Slot → X) (w : AnyRecord) → map f (slots_of w) ≡ f (slot_at w 0) ∷ f (slot_at w 1) ∷ f (slot_at w 2) ∷ []
three_of f (any.Thread r) = refl
three_of f _ = refl

module _ (F : List ℕ) (limit : ℕ) (r : RecordRead) where
  -- what is found behind a slot, with a name under the limit
  abbrev HasSlot : Name → Slot → Result PartAt ReadFault → Type 0
  HasSlot m s result = IsFoundInFile F (slot_steps (length F) r.entry r.index r.offset m s) (slot_size F r.offset s) (slot_bytes F r.offset s) result

  slot_other : (m : Name) (s : Slot) → IsNameless s → (result : Result PartAt ReadFault) → FindsSlot F limit r s result → HasSlot m s result
  slot_other m (slots.Name rva) none result found = absurd none
  slot_other m slots.Empty none result found = found
  slot_other m (slots.Part part at) none result found = found
  slot_other m (slots.Behind n) none result found = found

  slot_first : (name : Name) → IsNameTold r.name name → (s : Slot) → name_of F 0 (slot_name s) ≡ Ok name → (result : Result PartAt ReadFault) → FindsSlot F limit r s result
      → (m : Name) × ((name_of F limit (slot_name s) ≡ Ok m) × HasSlot m s result)
  slot_first name told (slots.Name rva) is result found = found name told is
  slot_first name told slots.Empty is result found = (names.None, (refl, found))
  slot_first name told (slots.Part part at) is result found = (names.None, (refl, found))
  slot_first name told (slots.Behind n) is result found = (names.None, (refl, found))

  -- the slot that is found has no place in it
  slot_same : (m : Name) (s : Slot) (p : PartAt) → HasSlot m s (Ok p) → bare_slot s ≡ slot_bare F r.offset s
  slot_same m slots.Empty p found = refl
  slot_same m (slots.Name rva) p found = refl
  slot_same m (slots.Part part at) p found = refl
  slot_same m (slots.Behind n) p found =
      let inside = range_inside r.offset n (length F) (part_given r.entry r.index Memory r.offset n (range_extent_of r.offset n (length F)) found.0) in
      ap slots.Behind (sym (length-array_at F r.offset n inside))

  abbrev Has : Name → ℕ → Result PartAt ReadFault → Type 0
  Has m j result = HasSlot m (slot_at r.fields j) result

  -- ---- the record

  module _ (m : Name) where
    abbrev FindsAll : Result FoundRecord ReadFault → Type 0
    FindsAll result = FindsSeen F (record_steps (length F) r.entry r.index r.offset r.fields m) (seen_of F r.offset r.fields) result

    all_found : (p q t : PartAt) → Has m 0 (Ok p) → Has m 1 (Ok q) → Has m 2 (Ok t) → FindsAll (Ok (record { wire = bare r.fields; parts = p ∷ q ∷ t ∷ [] }))
    all_found p q t a b c = (both_had _ _ (both_had _ _ a.0 b.0) c.0, subst (λ (s : Seen). IsSeenAt F s (record { wire = bare r.fields; parts = p ∷ q ∷ t ∷ [] })) (sym seen_is) (seen_at F (bare r.fields) _ _ _ _ _ _ p q t a.1 b.1 c.1)) where
      bare_is : map (slot_bare F r.offset) (slots_of r.fields) ≡ map bare_slot (slots_of r.fields)
      bare_is =
          three_of (slot_bare F r.offset) r.fields
          ∙ (λ i. sym (slot_same m (slot_at r.fields 0) p a) i ∷ sym (slot_same m (slot_at r.fields 1) q b) i ∷ sym (slot_same m (slot_at r.fields 2) t c) i ∷ [])
          ∙ sym (three_of bare_slot r.fields)

      seen_is : seen_of F r.offset r.fields
          ≡ seen (bare r.fields) (slot_size F r.offset (slot_at r.fields 0) ∷ slot_size F r.offset (slot_at r.fields 1) ∷ slot_size F r.offset (slot_at r.fields 2) ∷ [])
          (slot_bytes F r.offset (slot_at r.fields 0) ∷ slot_bytes F r.offset (slot_at r.fields 1) ∷ slot_bytes F r.offset (slot_at r.fields 2) ∷ [])
      seen_is = λ i. seen (with_slots r.fields (bare_is i)) (three_of (slot_size F r.offset) r.fields i) (three_of (slot_bytes F r.offset) r.fields i)

    first_fails : (fault : ReadFault) → Has m 0 (Err fault) → FindsAll (Err fault)
    first_fails fault a = λ own. told_front _ _ fault (first_refused _ _ fault (a own))

    second_fails : (p : PartAt) (fault : ReadFault) → Has m 0 (Ok p) → Has m 1 (Err fault) → FindsAll (Err fault)
    second_fails p fault a b = λ own. told_front _ _ fault (then_refused _ _ fault a.0 (b own))

    third_fails : (p q : PartAt) (fault : ReadFault) → Has m 0 (Ok p) → Has m 1 (Ok q) → Has m 2 (Err fault) → FindsAll (Err fault)
    third_fails p q fault a b c = λ own. then_refused _ _ fault (both_had _ _ a.0 b.0) (c own)

  abbrev Finds : ℕ → Result PartAt ReadFault → Type 0
  Finds j result = FindsSlot F limit r (slot_at r.fields j) result

  pub step_found : (p q t : PartAt) → Finds 0 (Ok p) → Finds 1 (Ok q) → Finds 2 (Ok t) → FindsStep F limit r (Ok (record { wire = bare r.fields; parts = p ∷ q ∷ t ∷ [] }))
  step_found p q t a b c name told is =
      let first = slot_first name told (slot_at r.fields 0) is (Ok p) a in
      let second = slot_other first.0 (slot_at r.fields 1) (nameless r.fields).0 (Ok q) b in
      let third = slot_other first.0 (slot_at r.fields 2) (nameless r.fields).1 (Ok t) c in
      (first.0, (first.1.0, all_found first.0 p q t first.1.1 second third))

  -- a record without slots is found as it was read
  pub found_bare : slots_of r.fields ≡ slots.Empty ∷ slots.Empty ∷ slots.Empty ∷ [] → FindsStep F limit r (Ok (record { wire = r.fields; parts = no_part ∷ no_part ∷ no_part ∷ [] }))
  found_bare none =
      let same : bare r.fields ≡ r.fields = ap (with_slots r.fields) (ap (map bare_slot) none ∙ sym none) ∙ own_slots r.fields in
      let nothing = empty_found F in
      rw same at (step_found no_part no_part no_part (rw none nothing) (rw none nothing) (rw none nothing))

  pub step_first : (fault : ReadFault) → Finds 0 (Err fault) → FindsStep F limit r (Err fault)
  step_first fault a name told is =
      let first = slot_first name told (slot_at r.fields 0) is (Err fault) a in
      (first.0, (first.1.0, first_fails first.0 fault first.1.1))

  pub step_second : (p : PartAt) (fault : ReadFault) → Finds 0 (Ok p) → Finds 1 (Err fault) → FindsStep F limit r (Err fault)
  step_second p fault a b name told is =
      let first = slot_first name told (slot_at r.fields 0) is (Ok p) a in
      let second = slot_other first.0 (slot_at r.fields 1) (nameless r.fields).0 (Err fault) b in
      (first.0, (first.1.0, second_fails first.0 p fault first.1.1 second))

  pub step_third : (p q : PartAt) (fault : ReadFault) → Finds 0 (Ok p) → Finds 1 (Ok q) → Finds 2 (Err fault) → FindsStep F limit r (Err fault)
  step_third p q fault a b c name told is =
      let first = slot_first name told (slot_at r.fields 0) is (Ok p) a in
      let second = slot_other first.0 (slot_at r.fields 1) (nameless r.fields).0 (Ok q) b in
      let third = slot_other first.0 (slot_at r.fields 2) (nameless r.fields).1 (Err fault) c in
      (first.0, (first.1.0, third_fails first.0 p q fault first.1.1 second third))

-- ---- the record that stands there

seen_by : (F : List ℕ) (far : ℕ) (w : AnyRecord) → seen_of F far w ≡ seen_of F (offset_by w far) w
seen_by F far (any.Thread r) = refl
seen_by F far _ = refl

name_given : (F : List ℕ) (rva : Option ℕ) (r : NameRead) (n name : Name) → IsNameOf rva r → IsNameTold r name → name_of F 0 rva ≡ Ok n → name_by rva n ≡ name_by rva name → name_of F 0 rva ≡ Ok name
name_given F (Some rva) r n name of told is same = is ∙ ap Ok same
name_given F None r n name of told is same = ap Ok (sym (subst (λ (x : NameRead). IsNameTold x name) of told))

module _ (F : List ℕ) (limit e k at o : ℕ) (kind : StreamKind) (r : RecordRead) (item : Item) (z : ℕ) (is : item_at F 0 e k at o kind ≡ Ok (plain item)) (tells : TellsItem z (step.Record r) item)
    (of : IsStepOf (Some kind) (step.Record r)) where
  abbrev w : AnyRecord
  w = record_at kind F o

  item_is : item_at F 0 e k at o kind ≡ Ok (item_of z r.entry r.index r.offset r.fields tells.0)
  item_is = is ∙ ap Ok (ap plain tells.1.1 ∙ plain-named z r.entry r.index r.offset r.fields tells.0 ∙ ap (item_of z r.entry r.index r.offset r.fields) (plain_told r.name tells.0 tells.1.0))

  given : (n : Name) × ((name_of F 0 (name_rva w) ≡ Ok n) × (told_of r.entry r.index r.offset r.fields tells.0 ≡ told_of e k (offset_in F at k kind) w n))
  given = told_is F 0 e k at o kind r tells.0 z item_is of.0

  fields_are : r.fields ≡ w
  fields_are = ap (λ (t : Told). t.fields) given.1.1

  name_is : name_of F 0 (name_rva r.fields) ≡ Ok tells.0
  name_is =
      let had : name_of F 0 (name_rva r.fields) ≡ Ok given.0 = ap (λ (v : AnyRecord). name_of F 0 (name_rva v)) fields_are ∙ given.1.0 in
      let same : name_by (name_rva r.fields) given.0 ≡ name_by (name_rva r.fields) tells.0 =
      ap (λ (v : AnyRecord). name_by (name_rva v) given.0) fields_are ∙ sym (ap (λ (t : Told). t.name) given.1.1) in
      name_given F (name_rva r.fields) r.name given.0 tells.0 of.1 tells.1.0 had same

  -- what is found of the record is found of the one that stands there
  pub record_found : (result : Result FoundRecord ReadFault) → IsFoundInside F limit r result → FindsRecord F limit e k at o kind result × IfErr result IsOfRecord
  record_found result finds =
      let found = finds tells.0 tells.1.0 name_is in
      let under : item_at F limit e k at o kind ≡ Ok (made kind F limit e k at o found.0) =
      ap (λ (x : Result Name Fault). named x (made kind F limit e k at o)) (sym (ap (λ (v : AnyRecord). name_of F limit (name_rva v)) fields_are) ∙ found.1.0) in
      let steps : record_steps (length F) r.entry r.index r.offset r.fields found.0 ≡ item_steps (length F) (made kind F limit e k at o found.0) =
      steps_by (length F) r.entry r.index r.offset r.fields found.0
      ∙ ap (λ (t : Told). record_steps (length F) t.entry t.index t.offset t.fields (name_by (name_rva t.fields) found.0)) given.1.1
      ∙ sym (steps_by (length F) e k (offset_in F at k kind) w found.0) ∙ sym (item_asks (length F) e k (offset_in F at k kind) w found.0) in
      let seen_are : seen_of F r.offset r.fields ≡ seen_in kind F at k o =
      seen_by F r.offset r.fields ∙ ap (λ (t : Told). seen_of F t.offset t.fields) given.1.1 ∙ sym (seen_by F (offset_in F at k kind) w) in (
        (
          made kind F limit e k at o found.0,
          (under, subst (λ (s : Seen). FindsSeen F (item_steps (length F) (made kind F limit e k at o found.0)) s result) seen_are (subst (λ (xs : List ReadStep). FindsSeen F xs (seen_of F r.offset r.fields) result) steps found.1.1.0)),
        ),
        found.1.1.1,
      )
