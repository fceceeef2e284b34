-- A file that is not refused a view lays out the dump that stands in it.
use Rattle.std.proofs.Common.{◌≡◌, ◌∙◌, ◌+◌, ◌*◌, ◌==◌, ◌||◌, ℕ, zero, suc, Bool, true, false, List, [], ◌∷◌, ◌++◌, length, map, Option, Some, None, Result, Ok, Err, refl, ap, sym, subst, arith, if◌then◌else◌}
use Rattle.std.specs.Prelude.{IsTrue}
use Rattle.std.proofs.lemmas.Bool.Decides.{nat_tests}
use Rattle.mdmp_source.specs.Range.{is_inside}
use Rattle.mdmp_source.specs.declared.location.Extent.TheVariants as classes
use Rattle.mdmp_wire.specs.Number.{array_at}
use Rattle.mdmp_wire.specs.Descriptor64.{descriptor64_at}
use Rattle.mdmp_wire.specs.MemoryInfo.{memory_info_at}
use Rattle.mdmp_wire.specs.Module.{module_at}
use Rattle.mdmp_wire.specs.System.{system_at}
use Rattle.mdmp_wire.specs.ThreadName.{thread_name_at}
use Rattle.mdmp_wire.specs.Unloaded.{unloaded_at}
use Rattle.mdmp_lister.specs.declared.choice.Choice.{Choice}
use Rattle.mdmp_lister.specs.declared.fault.Fault.{Fault}
use Rattle.mdmp_lister.specs.declared.fault.OpenFault.{OpenFault}
use Rattle.mdmp_lister.specs.declared.item.Item.{Item}
use Rattle.mdmp_lister.specs.declared.kind.StreamKind.{StreamKind}
use Rattle.mdmp_lister.specs.declared.kind.StreamKind.TheVariants as kinds
use Rattle.mdmp_lister.specs.declared.shape.Shape.{Shape}
use Rattle.mdmp_lister.specs.Format.Item.{item_at, range_extent_of, range_offset}
use Rattle.mdmp_lister.specs.Format.Kind.{kind_of, type_of_kind}
use Rattle.mdmp_lister.specs.Format.KindLaws.{type_of-kind}
use Rattle.mdmp_lister.specs.Format.Listing.{Numbered, entry_body, chosen, entry_listing, items_from, list_fault, records_of, shaped, stream_item}
use Rattle.mdmp_lister.specs.Format.Refusal.{directory_refusal}
use Rattle.mdmp_lister.specs.Format.Shape.{location_fault, shape_of}
use Rattle.mdmp_lister.proofs.Heads.{listed-inside}
use Rattle.mdmp_wire.specs.declared.slot.PartName.TheVariants.{Stack, Context, CodeView, Misc, Memory}
use Rattle.mdmp_dump.specs.Exception.{IsException}
use Rattle.mdmp_dump.specs.FileRefusal.{opened_told, run_told, view_refusal}
use Rattle.mdmp_dump.specs.InFile.{by_kind, by_type, dump_in, exception_in, memory_in, memory64_in, module_in, rows_in, shaped_in, stream_named, system_in, thread_in, thread_name_in, unloaded_in}
use Rattle.mdmp_dump.specs.LaysOut.{AreStreams, HasRecords, NamesStream, LaysOut, StandsAt}
use Rattle.mdmp_dump.specs.Left.{run_of}
use Rattle.mdmp_dump.specs.Memory.{IsMemory}
use Rattle.mdmp_dump.specs.Memory64.{IsMemory64}
use Rattle.mdmp_dump.specs.Module.{IsModule}
use Rattle.mdmp_dump.specs.Refusal.{item_steps, name_steps, location_steps}
use Rattle.mdmp_dump.specs.System.{IsSystem}
use Rattle.mdmp_dump.specs.Thread.{IsThread}
use Rattle.mdmp_dump.specs.ThreadName.{IsThreadName}
use Rattle.mdmp_dump.specs.Unloaded.{IsUnloaded}
use Rattle.mdmp_dump.specs.Value.{type_of}
use Rattle.mdmp_dump.proofs.Budget.{inside_is}
use Rattle.mdmp_dump.proofs.InFiles.{exception_is, memory_is, module_is, system_is, thread_is, thread_name_is, unloaded_is}
use Rattle.mdmp_dump.proofs.Opened.{directory-head}
use Rattle.mdmp_dump.proofs.Streams.{one_single}
use Rattle.mdmp_dump.proofs.Unrefused.{IsQuiet, fault_told, first_quiet, item_given, joined_quiet, name_given, part_given, rows_count, rows_laid, told_both}
use Rattle.mdmp_dump.proofs.Within.Part.{length-array_at}

-- ---- ranges of a 64-bit memory list

-- a range that does not lie outside lies inside
range_by : (empty inside : Bool) → (empty ≡ true → inside ≡ true)
    → ((if empty then classes.Empty else if inside then classes.Inside else classes.Outside) ≡ classes.Outside → ⊥) → inside ≡ true
range_by true inside none named = none refl
range_by false true none named = refl
range_by false false none named = absurd (named refl)

pub range_inside : (offset size z : ℕ) → (range_extent_of offset size z ≡ classes.Outside → ⊥) → is_inside offset size z ≡ true
range_inside offset size z named = range_by (size == 0) (is_inside offset size z) (λ none. rw none refl) named

module _ {Z : Type 0} where
  pub memory64_is : (F : List ℕ) (at k o : ℕ) → is_inside (range_offset F at k) (descriptor64_at F o).data_size (length F) ≡ true → IsMemory64 F at k o (memory64_in {Z = Z} F at k o)
  memory64_is F at k o inside =
      let offset = range_offset F at k in
      let size : length (array_at F offset (descriptor64_at F o).data_size) ≡ (descriptor64_at F o).data_size = length-array_at F offset (descriptor64_at F o).data_size inside in
      record {
        fields = λ i. record { start_of_memory_range = (descriptor64_at F o).start_of_memory_range; data_size = sym size i };
        inside = subst (λ (n : ℕ). IsTrue (is_inside offset n (length F))) (sym size) inside;
        bytes = ap (array_at F offset) size;
      }

  -- ---- the records of each kind, where their items are not refused

  module _ (F : List ℕ) (limit e at k o : ℕ) (item : Item) where
    thread_laid : item_at F limit e k at o kinds.Threads ≡ Ok item → IsQuiet (item_steps (length F) item) → IsThread F o (thread_in {Z = Z} F o)
    thread_laid is quiet = item_given kinds.Threads F limit e k at o item is quiet (λ n name all.
        let both = told_both (location_steps e k Stack _ _) (location_steps e k Context _ _) None all in
        thread_is F o (part_given e k Stack _ _ _ both.0) (part_given e k Context _ _ _ both.1))

    module_laid : item_at F limit e k at o kinds.Modules ≡ Ok item → IsQuiet (item_steps (length F) item) → IsModule F o (module_in {Z = Z} F o)
    module_laid is quiet = item_given kinds.Modules F limit e k at o item is quiet (λ n name all.
        let both = told_both (name_steps e k n ++ location_steps e k CodeView _ _) (location_steps e k Misc _ _) None all in
        let front = told_both (name_steps e k n) (location_steps e k CodeView _ _) None both.0 in
        module_is F o (name_given F limit e k (module_at F o).module_name_rva n name front.0) (part_given e k CodeView _ _ _ front.1) (part_given e k Misc _ _ _ both.1))

    memory_laid : item_at F limit e k at o kinds.Memory ≡ Ok item → IsQuiet (item_steps (length F) item) → IsMemory F o (memory_in {Z = Z} F o)
    memory_laid is quiet = item_given kinds.Memory F limit e k at o item is quiet (λ n name all. memory_is F o (part_given e k Memory _ _ _ all))

    exception_laid : item_at F limit e k at o kinds.Exception ≡ Ok item → IsQuiet (item_steps (length F) item) → IsException F o (exception_in {Z = Z} F o)
    exception_laid is quiet = item_given kinds.Exception F limit e k at o item is quiet (λ n name all. exception_is F o (part_given e k Context _ _ _ all))

    system_laid : item_at F limit e k at o kinds.System ≡ Ok item → IsQuiet (item_steps (length F) item) → IsSystem F o (system_in {Z = Z} F o)
    system_laid is quiet = item_given kinds.System F limit e k at o item is quiet (λ n name all. system_is F o (name_given F limit e k (system_at F o).csd_version_rva n name all))

    memory64_laid : item_at F limit e k at o kinds.Memory64 ≡ Ok item → IsQuiet (item_steps (length F) item) → IsMemory64 F at k o (memory64_in {Z = Z} F at k o)
    memory64_laid is quiet = item_given kinds.Memory64 F limit e k at o item is quiet (λ n name all. memory64_is F at k o (range_inside (range_offset F at k) (descriptor64_at F o).data_size (length F) (part_given e k Memory _ _ _ all)))

    unloaded_laid : item_at F limit e k at o kinds.Unloaded ≡ Ok item → IsQuiet (item_steps (length F) item) → IsUnloaded F o (unloaded_in {Z = Z} F o)
    unloaded_laid is quiet = item_given kinds.Unloaded F limit e k at o item is quiet (λ n name all. unloaded_is F o (name_given F limit e k (unloaded_at F o).module_name_rva n name all))

    thread_name_laid : item_at F limit e k at o kinds.ThreadNames ≡ Ok item → IsQuiet (item_steps (length F) item) → IsThreadName F o (thread_name_in {Z = Z} F o)
    thread_name_laid is quiet = item_given kinds.ThreadNames F limit e k at o item is quiet (λ n name all. thread_name_is F o (name_given F limit e k (thread_name_at F o).rva_of_thread_name n name all))

-- ---- the records of a stream

module _ {X : Type 0} (kind : StreamKind) (IsAt : ℕ → ℕ → X → Type 0) (f : ℕ → ℕ → X) (F : List ℕ) (limit : ℕ) (x : Numbered) (shape : Shape)
    (inside : IsTrue (is_inside x.entry.location.rva x.entry.location.size (length F)))
    (is_shape : shape_of F x.entry.location.rva x.entry.location.size kind ≡ Ok shape)
    (none : run_told F (items_from F limit x.number x.entry.location.rva kind shape shape.count 0) ≡ None)
    (each : (k o : ℕ) (item : Item) → item_at F limit x.number k x.entry.location.rva o kind ≡ Ok item → IsQuiet (item_steps (length F) item) → IsAt k o (f k o)) where
  abbrev all_in : List X
  all_in = rows_in f (x.entry.location.rva + shape.first) shape.stride 0 shape.count

  list_laid : HasRecords F x.entry.location kind IsAt all_in
  list_laid = record {
    inside = inside;
    shape = shape;
    shaped = is_shape;
    count = sym (rows_count f (x.entry.location.rva + shape.first) shape.stride 0 shape.count);
    each = rows_laid kind IsAt f F limit x.number x.entry.location.rva shape each shape.count 0 none;
  }

  -- or the one record
  single_in : shape.count ≡ 1 → all_in ≡ f 0 (x.entry.location.rva + shape.first) ∷ []
  unfolding rows_in
  single_in one =
      let at : x.entry.location.rva + shape.first + 0 * shape.stride ≡ x.entry.location.rva + shape.first = omega arith in
      ap (rows_in f (x.entry.location.rva + shape.first) shape.stride 0) one ∙ ap (λ (o : ℕ). f 0 o ∷ []) at

  single_laid : shape.count ≡ 1 → HasRecords F x.entry.location kind IsAt (f 0 (x.entry.location.rva + shape.first) ∷ [])
  single_laid one = subst (λ (xs : List X). HasRecords F x.entry.location kind IsAt xs) (single_in one) list_laid

-- ---- entries

pub unused_by : (unused inside : Bool) (f : Fault) → unused ≡ false → (if unused || inside then None else Some f) ≡ None → inside ≡ true
unused_by unused true f used none = refl
unused_by true false f used none = absurd (cc used)
unused_by false false f used none = absurd (cc none)

module _ (Z : Type 0) (F : List ℕ) (limit : ℕ) where
  pub shaped_type : (rva : ℕ) (kind : StreamKind) (shape : Shape) → type_of_kind kind ≡ type_of (shaped_in {Z = Z} F rva kind shape)
  shaped_type rva kinds.Threads shape = refl
  shaped_type rva _ shape = refl

  module _ (x : Numbered) where
    abbrev at_x : ℕ
    at_x = x.entry.location.rva

    shaped_stands : (kind : StreamKind) (shape : Shape) → IsTrue (is_inside x.entry.location.rva x.entry.location.size (length F))
        → shape_of F x.entry.location.rva x.entry.location.size kind ≡ Ok shape
        → run_told F (items_from F limit x.number x.entry.location.rva kind shape shape.count 0) ≡ None
        → StandsAt F x.entry.location (shaped_in {Z = Z} F x.entry.location.rva kind shape)
    shaped_stands kinds.Threads shape inside is none =
        list_laid kinds.Threads (λ k o. IsThread F o) (λ k o. thread_in F o) F limit x shape inside is none (λ k o item. thread_laid F limit x.number at_x k o item)
    shaped_stands kinds.Modules shape inside is none =
        list_laid kinds.Modules (λ k o. IsModule F o) (λ k o. module_in F o) F limit x shape inside is none (λ k o item. module_laid F limit x.number at_x k o item)
    shaped_stands kinds.Memory shape inside is none =
        list_laid kinds.Memory (λ k o. IsMemory F o) (λ k o. memory_in F o) F limit x shape inside is none (λ k o item. memory_laid F limit x.number at_x k o item)
    shaped_stands kinds.Exception shape inside is none =
        single_laid kinds.Exception (λ k o. IsException F o) (λ k o. exception_in F o) F limit x shape inside is none (λ k o item. exception_laid F limit x.number at_x k o item) (one_single F x kinds.Exception refl shape is)
    shaped_stands kinds.System shape inside is none =
        single_laid kinds.System (λ k o. IsSystem F o) (λ k o. system_in F o) F limit x shape inside is none (λ k o item. system_laid F limit x.number at_x k o item) (one_single F x kinds.System refl shape is)
    shaped_stands kinds.Memory64 shape inside is none =
        list_laid kinds.Memory64 (λ k o. IsMemory64 F at_x k o) (memory64_in F at_x) F limit x shape inside is none (λ k o item. memory64_laid F limit x.number at_x k o item)
    shaped_stands kinds.Unloaded shape inside is none =
        list_laid kinds.Unloaded (λ k o. IsUnloaded F o) (λ k o. unloaded_in F o) F limit x shape inside is none (λ k o item. unloaded_laid F limit x.number at_x k o item)
    shaped_stands kinds.MemoryInfo shape inside is none =
        list_laid kinds.MemoryInfo (λ k o y. memory_info_at F o ≡ y) (λ k o. memory_info_at F o) F limit x shape inside is none (λ k o item given quiet. refl)
    shaped_stands kinds.ThreadNames shape inside is none =
        list_laid kinds.ThreadNames (λ k o. IsThreadName F o) (λ k o. thread_name_in F o) F limit x shape inside is none (λ k o item. thread_name_laid F limit x.number at_x k o item)

    -- a stream whose records are known
    known_stands : (kind : StreamKind) (shape : Result Shape Fault) → kind_of x.entry.stream_type ≡ Some kind → location_fault (length F) x.entry ≡ None
        → shape_of F x.entry.location.rva x.entry.location.size kind ≡ shape
        → run_told F (shaped F limit x.number x.entry.location.rva kind shape) ≡ None → (shape_found : Shape) × ((shape ≡ Ok shape_found) × NamesStream F x.entry (shaped_in {Z = Z} F x.entry.location.rva kind shape_found))
    known_stands kind (Ok shape) known placed is none =
        let inside = inside_is F x.entry.location.rva x.entry.location.size (length F) (listed-inside (length F) x.entry kind placed known) refl in (
          shape,
          (
            refl,
            record {
              type_is = type_of-kind x.entry.stream_type kind known ∙ shaped_type x.entry.location.rva kind shape;
              stands = shaped_stands kind shape inside is none;
            },
          ),
        )
    known_stands kind (Err fault) known placed is none = absurd (fault_told F (list_fault x.number None fault) none)

    kind_stands : (t : ℕ) (kind : Option StreamKind) → x.entry.stream_type ≡ suc t → kind_of x.entry.stream_type ≡ kind → location_fault (length F) x.entry ≡ None
        → run_told F (records_of F limit x.number x.entry.location.rva x.entry.location.size kind) ≡ None → NamesStream F x.entry (by_kind {Z = Z} F x.entry kind)
    kind_stands t (Some kind) used known placed none =
        let given = known_stands kind (shape_of F x.entry.location.rva x.entry.location.size kind) known placed refl none in
        rw given.1.0 given.1.1
    kind_stands t None used known placed none =
        let not_unused : (x.entry.stream_type == 0) ≡ false = grind (arith, nat_tests, used) in
        record {
          type_is = refl;
          stands = record { used = not_unused; opaque = known; inside = unused_by (x.entry.stream_type == 0) _ _ not_unused placed; bytes_are = refl };
        }

    type_stands : (t : ℕ) → x.entry.stream_type ≡ t → location_fault (length F) x.entry ≡ None
        → run_told F (records_of F limit x.number x.entry.location.rva x.entry.location.size (kind_of t)) ≡ None → NamesStream F x.entry (by_type {Z = Z} F x.entry t)
    type_stands zero is placed none = record { type_is = is; stands = tt }
    type_stands (suc t) is placed none = kind_stands t (kind_of (suc t)) is (ap kind_of is) placed none

    body_stands : (fault : Option Fault) → location_fault (length F) x.entry ≡ fault → run_told F (entry_body F limit x) ≡ None → NamesStream F x.entry (stream_named {Z = Z} F x.entry)
    body_stands None placed none = type_stands x.entry.stream_type refl placed (rw placed at none)
    body_stands (Some fault) placed none = absurd (fault_told F (list_fault x.number None fault) (rw placed at none))

  -- ---- all entries

  streams_stand : (xs : List Numbered) → run_told F (run_of F limit xs) ≡ None → AreStreams F xs (map (λ (x : Numbered). stream_named {Z = Z} F x.entry) xs)
  streams_stand [] none = tt
  streams_stand (x ∷ xs) none =
      let both = joined_quiet F (entry_listing F limit x) (run_of F limit xs) none in
      let body = first_quiet F (stream_item x) (entry_body F limit x) both.0 in
      (body_stands x (location_fault (length F) x.entry) refl body.1, streams_stand xs both.1)

  opened_lays : (choice : Choice) (fault : Option OpenFault) → directory_refusal F ≡ fault → opened_told F choice limit fault ≡ None → LaysOut F choice (dump_in {Z = Z} F choice)
  unfolding dump_in
  opened_lays choice None opens none =
      let head = directory-head F opens in
      record {
        header = head.0;
        version_high = refl;
        checksum = refl;
        time = refl;
        flags = refl;
        directory = head.1;
        streams = streams_stand (chosen F choice) none;
      }
  opened_lays choice (Some fault) opens none = absurd (cc none)

  pub viewed_lays : (choice : Choice) → view_refusal F choice limit ≡ None → LaysOut F choice (dump_in {Z = Z} F choice)
  viewed_lays choice none = opened_lays choice (directory_refusal F) refl none
