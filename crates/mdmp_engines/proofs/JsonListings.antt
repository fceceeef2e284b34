-- Each object of a listing of a file of bytes may stand on a line of JSON Lines.
use Rattle.std.proofs.Common.{◌≡◌, ℕ, zero, suc, ◌+◌, ◌*◌, ◌<◌, ◌^◌, ◌==◌, ◌%◌, Bool, true, false, cond, not, nat_lt, List, [], ◌∷◌, ◌++◌, length, map, Option, Some, None, Result, Ok, Err, IfOk, refl, arith}
use Rattle.std.specs.List.{All}
use Rattle.std.proofs.lemmas.List.Elements.{All-append, All-cons, All-head, All-map, All-nil, All-tail, All-weaker}
use Rattle.mdmp_source.specs.declared.location.Extent.{Extent}
use Rattle.mdmp_source.specs.declared.location.Extent.TheVariants.{Empty, Absent, Inside, Outside}
use Rattle.mdmp_source.specs.Range.{is_inside}
use Rattle.mdmp_source.specs.Store.{AreBytes}
use Rattle.mdmp_wire.specs.AnyRecord.{name_rva}
use Rattle.mdmp_wire.specs.Number.{array_at, number_at}
use Rattle.mdmp_wire.specs.Units.{units_over}
use Rattle.mdmp_lister.specs.declared.choice.Choice.{Choice}
use Rattle.mdmp_lister.specs.declared.fault.Fault.{Fault}
use Rattle.mdmp_lister.specs.declared.fault.ListFault.{ListFault}
use Rattle.mdmp_lister.specs.declared.form.Form.{Form}
use Rattle.mdmp_lister.specs.declared.form.Form.TheVariants as forms
use Rattle.mdmp_lister.specs.declared.item.Item.{Item}
use Rattle.mdmp_lister.specs.declared.item.Item.TheVariants as items
use Rattle.mdmp_lister.specs.declared.kind.StreamKind.{StreamKind}
use Rattle.mdmp_lister.specs.declared.kind.StreamKind.TheVariants as kinds
use Rattle.mdmp_lister.specs.declared.name.Name.{Name}
use Rattle.mdmp_lister.specs.declared.name.Name.TheVariants.{Units, Long}
use Rattle.mdmp_lister.specs.declared.name.Name.TheVariants as names
use Rattle.mdmp_lister.specs.declared.shape.Shape.{Shape}
use Rattle.mdmp_lister.specs.declared.verdict.Verdict.{Verdict}
use Rattle.mdmp_lister.specs.Format.Item.{item_at, item_of, name_of, named, offset_in, record_at}
use Rattle.mdmp_lister.specs.Format.Kind.{form_of, kind_of, record_size}
use Rattle.mdmp_lister.specs.Format.Listing.{Numbered, Run, all_joined, chosen, entries, entries_from, entry_body, entry_count, entry_listing, is_chosen, item_then, items_from, joined, listing, only_chosen, records_of, shaped, stream_item, verdicts}
use Rattle.mdmp_lister.specs.Format.Name.{name_at}
use Rattle.mdmp_lister.specs.Format.Shape.{counted, head_cost, head_size, location_fault, ranges64, shape_behind_head, shape_of, sized}
use Rattle.mdmp_summary.specs.Part.{if_outside, parts_outside}
use Rattle.mdmp_summary.specs.declared.part.PartOutside.{PartOutside}
use Rattle.mdmp_engines.specs.JsonLaws.{IsJsonLine}
use Rattle.mdmp_print.specs.JsonLines.{item_object, verdict_object}
use Rattle.mdmp_engines.proofs.JsonObjects.{at4, at8, item-line, stream-line, verdict-line}
use Rattle.mdmp_engines.proofs.JsonReads.{IsTold}
use Rattle.mdmp_engines.proofs.JsonStrings.{array-bytes}

-- the CodeView record of a module has numbers of Rust for its place and its size
abbrev pub HasSmallSymbols : Item → Type 0
HasSmallSymbols (items.Module m) = (m.entry < 2 ^ 64) × (m.index < 2 ^ 64) × (m.fields.cv_record.size < 2 ^ 64)
HasSmallSymbols item = Unit {0}

-- the entry of a part is such a number
abbrev pub IsSmallPart : PartOutside → Type 0
IsSmallPart part = part.entry < 2 ^ 64

-- an item's object may stand on a line, and those of its CodeView record and of its parts outside the file are of such numbers
abbrev pub IsPrinted : Item → Type 0
IsPrinted item = IsJsonLine (item_object item) × (HasSmallSymbols item × All IsSmallPart (parts_outside item))

-- a count of records that a number of Rust holds
abbrev HasSmallCount : Result Shape Fault → Type 0
HasSmallCount shape = IfOk shape (λ s. s.count < 2 ^ 64)

-- an entry of the directory whose numbers are such
abbrev pub IsSmallEntry : Numbered → Type 0
IsSmallEntry x = (x.number < 2 ^ 64) × (x.entry.stream_type < 2 ^ 64) × (x.entry.location.size < 2 ^ 64) × (x.entry.location.rva < 2 ^ 64)

abbrev verdict_of : List ℕ → ℕ → Numbered → Verdict
verdict_of F limit x = record { entry = x.number; fault = (entry_listing F limit x).fault }

-- ---- names and shapes

unless : {T : Type 0} (P : T → Type 0) (b : Bool) (f : Fault) (r : Result T Fault) → IfOk r P → IfOk (cond b (Err f) r) P
unless P true f r h = tt
unless P false f r h = h

either : {T : Type 0} (P : T → Type 0) (b : Bool) (r s : Result T Fault) → IfOk r P → IfOk s P → IfOk (cond b r s) P
either P true r s h k = h
either P false r s h k = k

counted-small : (at size record_size count : ℕ) → count < 2 ^ 64 → HasSmallCount (counted at size record_size count)
counted-small at size record_size count h = grind arith

sized-small : (at size head record_size first stride count : ℕ) → count < 2 ^ 64 → HasSmallCount (sized at size head record_size first stride count)
sized-small at size head record_size first stride count h = grind arith

ranges64-small : (at size record_size count : ℕ) → count < 2 ^ 64 → HasSmallCount (ranges64 at size record_size count)
ranges64-small at size record_size count h = grind arith

-- ---- parts

one-small : (class : Extent) (part : PartOutside) → IsSmallPart part → All IsSmallPart (if_outside class part)
one-small Outside part small = All-cons IsSmallPart part [] small (All-nil IsSmallPart)
one-small Empty part small = All-nil IsSmallPart
one-small Absent part small = All-nil IsSmallPart
one-small Inside part small = All-nil IsSmallPart

both-small : (class other : Extent) (part more : PartOutside) → IsSmallPart part → IsSmallPart more → All IsSmallPart (if_outside class part ++ if_outside other more)
both-small class other part more small few =
    All-append IsSmallPart (if_outside class part) (if_outside other more) (one-small class part small) (one-small other more few)

-- ---- runs

named-printed : (name : Result Name Fault) (item : Name → Item) → IfOk name IsTold → ((n : Name) → IsTold n → IsPrinted (item n)) → IfOk (named name item) IsPrinted
named-printed (Ok name) item told h = h name told
named-printed (Err f) item told h = tt

item_then-printed : (e k : ℕ) (item : Result Item Fault) (rest : Run) → IfOk item IsPrinted → All IsPrinted rest.items → All IsPrinted (item_then e k item rest).items
item_then-printed e k (Ok item) rest h more = All-cons IsPrinted item rest.items h more
item_then-printed e k (Err f) rest h more = All-nil IsPrinted

joined-printed : (xs : List Item) (fault : Option ListFault) (next : Run) → All IsPrinted xs → All IsPrinted next.items
    → All IsPrinted (joined (record { items = xs; fault = fault }) next).items
joined-printed xs None next h more = All-append IsPrinted xs next.items h more
joined-printed xs (Some f) next h more = h

kept : (b : Bool) (x : Numbered) (xs : List Numbered) → IsSmallEntry x → All IsSmallEntry xs → All IsSmallEntry (cond b (x ∷ xs) xs)
kept true x xs small h = All-cons IsSmallEntry x xs small h
kept false x xs small h = h

module _ (F : List ℕ) (bytes : AreBytes F) (limit : ℕ) where
  name_at-told : (rva : ℕ) → IfOk (name_at F rva limit) IsTold
  unfolding name_at
  name_at-told rva =
      let size = number_at F rva 4 in
      either IsTold (rva == 0) (Ok names.None) _ tt (unless IsTold (not (is_inside rva 4 (length F))) _ _ (unless IsTold (size % 2 == 1) _ _
      (unless IsTold (not (is_inside (rva + 4) size (length F))) _ _ (either IsTold (nat_lt limit size) (Ok (Long size)) (Ok (Units (units_over (array_at F (rva + 4) size))))
      (at4 F bytes rva) (array-bytes F (rva + 4) size bytes)))))

  name_of-told : (rva : Option ℕ) → IfOk (name_of F limit rva) IsTold
  name_of-told None = tt
  name_of-told (Some rva) = name_at-told rva

  behind_head-small : (at size record_size : ℕ) (form : Form) → HasSmallCount (shape_behind_head F at size record_size form)
  behind_head-small at size record_size forms.Counted = counted-small at size record_size (number_at F at 4) (at4 F bytes at)
  behind_head-small at size record_size forms.Single = omega arith
  behind_head-small at size record_size forms.Ranges64 = ranges64-small at size record_size (number_at F at 8) (at8 F bytes at)
  behind_head-small at size record_size forms.Sized32 =
      sized-small at size (head_cost forms.Sized32) record_size (number_at F at 4) (number_at F (at + 4) 4) (number_at F (at + 8) 4) (at4 F bytes (at + 8))
  behind_head-small at size record_size forms.Sized64 =
      sized-small at size (head_cost forms.Sized64) record_size (number_at F at 4) (number_at F (at + 4) 4) (number_at F (at + 8) 8) (at8 F bytes (at + 8))

  shape_of-small : (at size : ℕ) (kind : StreamKind) → HasSmallCount (shape_of F at size kind)
  unfolding shape_of
  shape_of-small at size kind =
      let form = form_of kind in
      unless (λ s. s.count < 2 ^ 64) (nat_lt size (head_size form (record_size kind))) _ (shape_behind_head F at size (record_size kind) form)
      (behind_head-small at size (record_size kind) form)

  -- ---- items

  symbols-small : (z e k offset o : ℕ) (kind : StreamKind) (name : Name) → e < 2 ^ 64 → k < 2 ^ 64 → HasSmallSymbols (item_of z e k offset (record_at kind F o) name)
  symbols-small z e k offset o kinds.Modules name es ks = (es, ks, at4 F bytes _)
  symbols-small z e k offset o kind name es ks = tt

  parts-small : (z e k offset o : ℕ) (kind : StreamKind) (name : Name) → e < 2 ^ 64 → All IsSmallPart (parts_outside (item_of z e k offset (record_at kind F o) name))
  parts-small z e k offset o kinds.Threads name es = both-small _ _ _ _ es es
  parts-small z e k offset o kinds.Modules name es = both-small _ _ _ _ es es
  parts-small z e k offset o kinds.Exception name es = one-small _ _ es
  parts-small z e k offset o kinds.Memory name es = one-small _ _ es
  parts-small z e k offset o kinds.Memory64 name es = one-small _ _ es
  parts-small z e k offset o kind name es = All-nil IsSmallPart

  item_at-printed : (e k at o : ℕ) (kind : StreamKind) → e < 2 ^ 64 → k < 2 ^ 64 → IfOk (item_at F limit e k at o kind) IsPrinted
  item_at-printed e k at o kind es ks =
      let offset = offset_in F at k kind in
      named-printed (name_of F limit (name_rva (record_at kind F o))) (item_of (length F) e k offset (record_at kind F o)) (name_of-told _)
      (λ name told. (item-line F bytes (length F) e k o es ks offset kind name told, (symbols-small (length F) e k offset o kind name es ks, parts-small (length F) e k offset o kind name es)))

  items_from-printed : (e at : ℕ) (kind : StreamKind) (shape : Shape) (n k : ℕ) → e < 2 ^ 64 → k + n < 2 ^ 64 → All IsPrinted (items_from F limit e at kind shape n k).items
  items_from-printed e at kind shape zero k es ks = All-nil IsPrinted
  items_from-printed e at kind shape (suc n) k es ks =
      let o = at + shape.first + k * shape.stride in
      item_then-printed e k (item_at F limit e k at o kind) _ (item_at-printed e k at o kind es (omega arith)) (items_from-printed e at kind shape n (k + 1) es (omega arith))

  shaped-printed : (e at : ℕ) (kind : StreamKind) (shape : Result Shape Fault) → e < 2 ^ 64 → HasSmallCount shape → All IsPrinted (shaped F limit e at kind shape).items
  shaped-printed e at kind (Ok shape) es few = items_from-printed e at kind shape shape.count 0 es (omega arith)
  shaped-printed e at kind (Err f) es few = All-nil IsPrinted

  records_of-printed : (e at size : ℕ) (kind : Option StreamKind) → e < 2 ^ 64 → All IsPrinted (records_of F limit e at size kind).items
  records_of-printed e at size (Some kind) es = shaped-printed e at kind (shape_of F at size kind) es (shape_of-small at size kind)
  records_of-printed e at size None es = All-nil IsPrinted

  entry_body-printed : (x : Numbered) (outside : Option Fault) → outside ≡ location_fault (length F) x.entry → x.number < 2 ^ 64 → All IsPrinted (entry_body F limit x).items
  entry_body-printed x None inside es =
      rw (← inside) (records_of-printed x.number x.entry.location.rva x.entry.location.size (kind_of x.entry.stream_type) es)
  entry_body-printed x (Some f) outside es = rw (← outside) (All-nil IsPrinted)

  pub entry_listing-printed : (x : Numbered) → IsSmallEntry x → All IsPrinted (entry_listing F limit x).items
  entry_listing-printed x small = All-cons IsPrinted (stream_item x) (entry_body F limit x).items
      (stream-line (record { entry = x.number; stream_type = x.entry.stream_type; location = x.entry.location }) small.0 small.1 small.2 small.3, (tt, All-nil IsSmallPart))
      (entry_body-printed x (location_fault (length F) x.entry) refl small.0)

  all_joined-printed : (xs : List Numbered) → All IsSmallEntry xs → All IsPrinted (all_joined (map (entry_listing F limit) xs)).items
  all_joined-printed [] h = All-nil IsPrinted
  all_joined-printed (x ∷ xs) h =
      let run = entry_listing F limit x in
      joined-printed run.items run.fault _ (entry_listing-printed x (All-head IsSmallEntry x xs h)) (all_joined-printed xs (All-tail IsSmallEntry x xs h))

  -- ---- the whole listing

  entries_from-small : (n e : ℕ) → e + n < 2 ^ 64 → All IsSmallEntry (entries_from F n e)
  unfolding entries_from
  entries_from-small zero e h = All-nil IsSmallEntry
  entries_from-small (suc n) e h =
      All-cons IsSmallEntry _ _ (omega arith, at4 F bytes _, at4 F bytes _, at4 F bytes _) (entries_from-small n (e + 1) (omega arith))

  only_chosen-small : (choice : Choice) (xs : List Numbered) → All IsSmallEntry xs → All IsSmallEntry (only_chosen choice xs)
  unfolding only_chosen
  only_chosen-small choice [] h = h
  only_chosen-small choice (x ∷ xs) h =
      kept (is_chosen choice x.entry.stream_type) x (only_chosen choice xs) (All-head IsSmallEntry x xs h) (only_chosen-small choice xs (All-tail IsSmallEntry x xs h))

  pub chosen-small : (choice : Choice) → All IsSmallEntry (chosen F choice)
  chosen-small choice = let few : entry_count F < 2 ^ 64 = at4 F bytes _ in only_chosen-small choice (entries F) (entries_from-small (entry_count F) 0 (omega arith))

  pub listing-printed : (choice : Choice) → All IsPrinted (listing F choice limit).items
  listing-printed choice = all_joined-printed (chosen F choice) (chosen-small choice)

  pub verdicts-lines : (choice : Choice) → All IsJsonLine (map verdict_object (verdicts F choice limit))
  verdicts-lines choice =
      All-map IsJsonLine verdict_object (verdicts F choice limit) (All-map (λ v. IsJsonLine (verdict_object v)) (verdict_of F limit) (chosen F choice)
      (All-weaker IsSmallEntry (λ x. IsJsonLine (verdict_object (verdict_of F limit x))) (λ x small. verdict-line (verdict_of F limit x) small.0) (chosen F choice) (chosen-small choice)))
