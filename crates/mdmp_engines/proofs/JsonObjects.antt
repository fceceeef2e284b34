-- Each object of a file of bytes may stand on a line of JSON Lines.
use Rattle.std.proofs.Common.{◌≡◌, ℕ, ◌+◌, ◌-◌, ◌<◌, ◌^◌, ◌==◌, ◌||◌, ◌&&◌, Bool, true, false, cond, not, min, nat_lt, List, Option, Some, None, take_while, refl, arith, codes}
use Rattle.std.specs.List.{list_any}
use Rattle.uuid.specs.Parts.{swap_fields}
use Rattle.mdmp_source.specs.Store.{AreBytes}
use Rattle.mdmp_source.specs.declared.location.Location.{Location}
use Rattle.mdmp_wire.specs.CodeView.{CodeViewValue, Other, Rsds, Short, codeview_in, codeview_of, rsds_signature}
use Rattle.mdmp_wire.specs.Descriptor.{descriptor_at}
use Rattle.mdmp_wire.specs.Descriptor64.{descriptor64_at}
use Rattle.mdmp_wire.specs.Exception.{exception_at}
use Rattle.mdmp_wire.specs.Header.{header_at}
use Rattle.mdmp_wire.specs.MemoryInfo.{memory_info_at}
use Rattle.mdmp_wire.specs.Module.{module_at}
use Rattle.mdmp_wire.specs.Number.{array_at, number_at}
use Rattle.mdmp_wire.specs.NumberBounds.{number_at-lt}
use Rattle.mdmp_wire.specs.System.{system_at}
use Rattle.mdmp_wire.specs.Thread.{thread_at}
use Rattle.mdmp_wire.specs.ThreadName.{thread_name_at}
use Rattle.mdmp_wire.specs.Unloaded.{unloaded_at}
use Rattle.mdmp_names.specs.StreamTypes.{stream_name}
use Rattle.mdmp_lister.specs.CodeView.{codeview_head_of}
use Rattle.mdmp_lister.specs.Format.Item.{exception_item, item_of, memory_info_item, module_item, range64_item, range_item, record_at, system_item, thread_item, thread_name_item, unloaded_item}
use Rattle.mdmp_lister.specs.declared.item.ExceptionItem.{ExceptionItem}
use Rattle.mdmp_lister.specs.declared.item.Item.TheVariants as items
use Rattle.mdmp_lister.specs.declared.item.ModuleItem.{ModuleItem}
use Rattle.mdmp_lister.specs.declared.item.RangeItem.{RangeItem}
use Rattle.mdmp_lister.specs.declared.item.StreamItem.{StreamItem}
use Rattle.mdmp_lister.specs.declared.item.ThreadItem.{ThreadItem}
use Rattle.mdmp_lister.specs.declared.kind.StreamKind.{StreamKind}
use Rattle.mdmp_lister.specs.declared.kind.StreamKind.TheVariants as kinds
use Rattle.mdmp_lister.specs.declared.name.Name.{Name}
use Rattle.mdmp_lister.specs.declared.verdict.Verdict.{Verdict}
use Rattle.mdmp_summary.specs.Identity.{BuildIdValue, build_id_in, code_id_of, debug_id_built, pdb20_in}
use Rattle.mdmp_summary.specs.declared.identity.Pdb20.{Pdb20}
use Rattle.mdmp_engines.specs.JsonLaws.{IsJsonLine}
use Rattle.mdmp_print.specs.Ids.{pe_id_of}
use Rattle.mdmp_print.specs.JsonLines.{dump_members, dump_object, exception_members, item_object, module_members, other_ids, pdb_members, pdb_object, range_members, region_members, stream_members, system_members, thread_members, thread_name_members, unloaded_members, verdict_members, verdict_object}
use Rattle.mdmp_engines.proofs.JsonPlain.{bytes-plain, code_id-utf8, debug_id-plain, four-plain, guid-plain, stamp_id-plain, stream_name-utf8, three-plain}
use Rattle.mdmp_engines.proofs.JsonReads.{AreAll, IsTold, ◌&◌, is_line, number, of-bytes, of-hex, of-name, of-values, of-verdict, or_null, part, plain, placed-wide, stack, truth, wide, words}
use Rattle.mdmp_engines.proofs.JsonStrings.{array-bytes}

pub verdict-line : (v : Verdict) → v.entry < 2 ^ 64 → IsJsonLine (verdict_object v)
verdict-line v s = is_line (verdict_members v) (
    words 1 _ _ refl refl & number 1 _ _ refl s & of-verdict (codes "fault") v.fault refl & tt)

-- the numbers of an entry of the directory
pub stream-line : (x : StreamItem) → x.entry < 2 ^ 64 → x.stream_type < 2 ^ 64 → x.location.size < 2 ^ 64 → x.location.rva < 2 ^ 64 → IsJsonLine (item_object (items.Stream x))
stream-line x e t s r =
    is_line (stream_members x) (
    words 1 _ _ refl refl & number 1 _ _ refl e & number 1 _ _ refl t & number 1 _ _ refl s & number 1 _ _ refl r
    & or_null 1 (codes "name") (stream_name x.stream_type) refl (stream_name-utf8 x.stream_type) & tt)

module _ (F : List ℕ) (bytes : AreBytes F) where
  at1 : (o : ℕ) → number_at F o 1 < 2 ^ 64
  at1 o = let h : number_at F o 1 < 256 = number_at-lt F o 1 bytes in omega arith

  at2 : (o : ℕ) → number_at F o 2 < 2 ^ 64
  at2 o = let h : number_at F o 2 < 65536 = number_at-lt F o 2 bytes in omega arith

  pub at4 : (o : ℕ) → number_at F o 4 < 2 ^ 64
  at4 o = let h : number_at F o 4 < 4294967296 = number_at-lt F o 4 bytes in omega arith

  pub at8 : (o : ℕ) → number_at F o 8 < 2 ^ 64
  at8 o = number_at-lt F o 8 bytes

  pub dump-line : (o : ℕ) → IsJsonLine (dump_object (header_at F o))
  dump-line o =
      is_line (dump_members (header_at F o)) (
      words 1 _ _ refl refl & of-hex 1 _ 4 _ refl & number 1 _ _ refl (at4 _) & number 1 _ _ refl (at4 _)
      & number 1 _ _ refl (at4 _) & number 1 _ _ refl (at4 _) & of-hex 1 _ 16 _ refl & tt)

  -- item k of entry e, of the record at o
  module _ (z e k o : ℕ) (es : e < 2 ^ 64) (ks : k < 2 ^ 64) where
    thread-line : IsJsonLine (item_object (items.Thread (thread_item z e k (thread_at F o))))
    thread-line =
        let x : ThreadItem = thread_item z e k (thread_at F o) in
        is_line (thread_members x) (
        words 1 _ _ refl refl & number 1 _ _ refl es & number 1 _ _ refl ks & number 1 _ _ refl (at4 _)
        & number 1 _ _ refl (at4 _) & number 1 _ _ refl (at4 _) & number 1 _ _ refl (at4 _) & of-hex 1 _ 16 _ refl
        & stack x.fields.stack.start_of_memory_range x.stack x.fields.stack.memory.size x.fields.stack.memory.rva (at4 _) (at4 _)
        & part (codes "context") x.context x.fields.thread_context.size x.fields.thread_context.rva refl (at4 _) (at4 _) & tt)

    module-line : (name : Name) → IsTold name → IsJsonLine (item_object (items.Module (module_item z e k (module_at F o) name)))
    module-line name told =
        let x : ModuleItem = module_item z e k (module_at F o) name in
        is_line (module_members x) (
        words 1 _ _ refl refl & number 1 _ _ refl es & number 1 _ _ refl ks & of-hex 1 _ 16 _ refl & number 1 _ _ refl (at4 _)
        & number 1 _ _ refl (at4 _) & number 1 _ _ refl (at4 _) & plain 1 _ _ refl (four-plain _ _ _ _)
        & part (codes "cv") x.codeview x.fields.cv_record.size x.fields.cv_record.rva refl (at4 _) (at4 _)
        & part (codes "misc") x.misc x.fields.misc_record.size x.fields.misc_record.rva refl (at4 _) (at4 _)
        & of-name (codes "name") name refl told
        & or_null 1 (codes "code_id") (pe_id_of (code_id_of x.fields)) refl (code_id-utf8 (code_id_of x.fields))
        & plain 1 _ _ refl (four-plain _ _ _ _) & tt)

    unloaded-line : (name : Name) → IsTold name → IsJsonLine (item_object (items.Unloaded (unloaded_item e k (unloaded_at F o) name)))
    unloaded-line name told =
        is_line (unloaded_members (unloaded_item e k (unloaded_at F o) name)) (
        words 1 _ _ refl refl & number 1 _ _ refl es & number 1 _ _ refl ks & of-hex 1 _ 16 _ refl & number 1 _ _ refl (at4 _)
        & number 1 _ _ refl (at4 _) & number 1 _ _ refl (at4 _) & of-name (codes "name") name refl told & tt)

    exception-line : IsJsonLine (item_object (items.Exception (exception_item z e k (exception_at F o))))
    exception-line =
        let x : ExceptionItem = exception_item z e k (exception_at F o) in
        is_line (exception_members x) (
        words 1 _ _ refl refl & number 1 _ _ refl es & number 1 _ _ refl (at4 _) & of-hex 1 _ 8 _ refl
        & number 1 _ _ refl (at4 _) & of-hex 1 _ 16 _ refl & of-hex 1 _ 16 _ refl & number 1 _ _ refl (at4 _)
        & of-values (codes "information") x.fields.number_parameters x.fields.exception_information refl
        & part (codes "context") x.context x.fields.thread_context.size x.fields.thread_context.rva refl (at4 _) (at4 _) & tt)

    system-line : (name : Name) → IsTold name → IsJsonLine (item_object (items.System (system_item e k (system_at F o) name)))
    system-line name told =
        is_line (system_members (system_item e k (system_at F o) name)) (
        words 1 _ _ refl refl & number 1 _ _ refl es & number 1 _ _ refl (at2 _) & number 1 _ _ refl (at2 _)
        & number 1 _ _ refl (at2 _) & number 1 _ _ refl (at1 _) & number 1 _ _ refl (at1 _)
        & plain 1 _ _ refl (three-plain _ _ _) & number 1 _ _ refl (at4 _) & number 1 _ _ refl (at2 _)
        & of-name (codes "csd") name refl told & tt)

    region-line : IsJsonLine (item_object (items.MemoryInfo (memory_info_item e k (memory_info_at F o))))
    region-line =
        is_line (region_members (memory_info_item e k (memory_info_at F o))) (
        words 1 _ _ refl refl & number 1 _ _ refl es & number 1 _ _ refl ks & of-hex 1 _ 16 _ refl & of-hex 1 _ 16 _ refl
        & number 1 _ _ refl (at4 _) & wide 1 _ _ refl & number 1 _ _ refl (at4 _) & number 1 _ _ refl (at4 _)
        & number 1 _ _ refl (at4 _) & tt)

    thread_name-line : (name : Name) → IsTold name → IsJsonLine (item_object (items.ThreadName (thread_name_item e k (thread_name_at F o) name)))
    thread_name-line name told =
        is_line (thread_name_members (thread_name_item e k (thread_name_at F o) name)) (
        words 1 _ _ refl refl & number 1 _ _ refl es & number 1 _ _ refl ks & number 1 _ _ refl (at4 _)
        & of-name (codes "name") name refl told & tt)

    range-line : (x : RangeItem) → x.entry ≡ e → x.index ≡ k → IsJsonLine (item_object (items.Range x))
    range-line x f i =
        is_line (range_members x) (
        words 1 _ _ refl refl & number 1 _ _ refl (omega arith) & number 1 _ _ refl (omega arith) & of-hex 1 _ 16 _ refl
        & placed-wide 1 x.extent x.size x.offset & tt)

    -- the item of a record of any kind
    pub item-line : (offset : ℕ) (kind : StreamKind) (name : Name) → IsTold name → IsJsonLine (item_object (item_of z e k offset (record_at kind F o) name))
    item-line offset kinds.Threads name told = thread-line
    item-line offset kinds.Modules name told = module-line name told
    item-line offset kinds.Memory name told = range-line (range_item z e k (descriptor_at F o)) refl refl
    item-line offset kinds.Exception name told = exception-line
    item-line offset kinds.System name told = system-line name told
    item-line offset kinds.Memory64 name told = range-line (range64_item z e k (descriptor64_at F o) offset) refl refl
    item-line offset kinds.Unloaded name told = unloaded-line name told
    item-line offset kinds.MemoryInfo name told = region-line
    item-line offset kinds.ThreadNames name told = thread_name-line name told

-- ---- CodeView records

-- what stands in the object of one as a number is a number of Rust
abbrev IsSmallView : CodeViewValue → Type 0
IsSmallView (Rsds guid age name ended) = age < 2 ^ 64
IsSmallView (Other signature size) = size < 2 ^ 64
IsSmallView (Short size) = size < 2 ^ 64

-- the ids in a record of another kind
others : (id : Option BuildIdValue) (pdb : Option Pdb20) → AreAll 1 (other_ids id pdb)
others (Some id) pdb =
    plain 1 _ _ refl (bytes-plain id.bytes) & truth 1 (codes "build_id_cut") id.cut refl
    & plain 1 _ _ refl (debug_id-plain (debug_id_built id.bytes).guid (debug_id_built id.bytes).age) & tt
others None (Some pdb) = plain 1 _ _ refl (stamp_id-plain pdb.time pdb.age) & tt
others None None = tt

view-line : (entry index : ℕ) (head : List ℕ) (told : CodeViewValue) → entry < 2 ^ 64 → index < 2 ^ 64 → IsSmallView told
    → IsJsonLine (pdb_object entry index head told)
view-line entry index head (Rsds guid age name ended) e i s =
    is_line (pdb_members entry index head (Rsds guid age name ended)) (
    words 1 _ _ refl refl & number 1 _ _ refl e & number 1 _ _ refl i & words 1 _ _ refl refl
    & plain 1 _ _ refl (guid-plain guid) & number 1 _ _ refl s & plain 1 _ _ refl (debug_id-plain guid age)
    & of-bytes 1 (codes "name") name refl & truth 1 (codes "cut") (not ended) refl & tt)
view-line entry index head (Other signature size) e i s =
    is_line (pdb_members entry index head (Other signature size)) (
    words 1 _ _ refl refl & number 1 _ _ refl e & number 1 _ _ refl i & words 1 _ _ refl refl
    & plain 1 _ _ refl (bytes-plain signature) & number 1 _ _ refl s & others (build_id_in head size) (pdb20_in head size))
view-line entry index head (Short size) e i s =
    is_line (pdb_members entry index head (Short size)) (
    words 1 _ _ refl refl & number 1 _ _ refl e & number 1 _ _ refl i & words 1 _ _ refl refl & number 1 _ _ refl s & tt)

small : (short other : Bool) (size age : ℕ) (signature guid name : List ℕ) (ended : Bool) → size < 2 ^ 64 → age < 2 ^ 64
    → IsSmallView (cond short (Short size) (cond other (Other signature size) (Rsds guid age name ended)))
small true other size age signature guid name ended s a = s
small false true size age signature guid name ended s a = s
small false false size age signature guid name ended s a = a

small_in : (head rest : List ℕ) (size : ℕ) → AreBytes head → size < 2 ^ 64 → IsSmallView (codeview_in head rest size)
small_in head rest size bytes s =
    let is_rsds = number_at head 0 4 == rsds_signature in
    small (nat_lt size 4 || (is_rsds && nat_lt size 24)) (not is_rsds) size (number_at head 20 4) (array_at head 0 4) (swap_fields (array_at head 4 16))
    (take_while (λ b. not (b == 0)) rest) (list_any (λ b. b == 0) rest) s (at4 head bytes 20)

pub pdb-line : (F : List ℕ) → AreBytes F → (entry index limit : ℕ) (at : Location) → entry < 2 ^ 64 → index < 2 ^ 64 → at.size < 2 ^ 64
    → IsJsonLine (pdb_object entry index (codeview_head_of F at) (codeview_of F at limit))
pdb-line F bytes entry index limit at e i s =
    view-line entry index (codeview_head_of F at) (codeview_of F at limit) e i (small_in (array_at F at.rva (min at.size 24)) (array_at F (at.rva + 24) (min (at.size - 24) limit)) at.size (array-bytes F at.rva (min at.size 24) bytes) s)
