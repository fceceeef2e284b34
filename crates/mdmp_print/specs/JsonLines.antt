-- The objects that `list` and `check` print for programs, a line each. What the text has in hexadecimal is a string of the same
-- characters; a number is one where its field has at most 32 bits, else a string of digits.
use Rattle.std.specs.Prelude.{ℕ, ◌/◌, ◌%◌, not, Option, Some, None, List, [], ◌∷◌, ◌++◌, codes}
use Rattle.std.specs.List.{concat}
use Rattle.std.specs.Fmt.{decimal}
use Rattle.json.specs.Token.{Token, begin_array, end_array, key, boolean, null}
use Rattle.mdmp_wire.specs.declared.header.Header.{Header}
use Rattle.mdmp_wire.specs.CodeView.{CodeViewValue, Rsds, Other, Short}
use Rattle.mdmp_lister.specs.declared.fault.ListFault.{ListFault}
use Rattle.mdmp_lister.specs.declared.verdict.Verdict.{Verdict}
use Rattle.mdmp_lister.specs.declared.item.StreamItem.{StreamItem}
use Rattle.mdmp_lister.specs.declared.item.ThreadItem.{ThreadItem}
use Rattle.mdmp_lister.specs.declared.item.ModuleItem.{ModuleItem}
use Rattle.mdmp_lister.specs.declared.item.UnloadedItem.{UnloadedItem}
use Rattle.mdmp_lister.specs.declared.item.ExceptionItem.{ExceptionItem}
use Rattle.mdmp_lister.specs.declared.item.SystemItem.{SystemItem}
use Rattle.mdmp_lister.specs.declared.item.MemoryInfoItem.{MemoryInfoItem}
use Rattle.mdmp_lister.specs.declared.item.ThreadNameItem.{ThreadNameItem}
use Rattle.mdmp_lister.specs.declared.item.RangeItem.{RangeItem}
use Rattle.mdmp_lister.specs.declared.item.Item.{Item}
use Rattle.mdmp_lister.specs.declared.item.Item.TheVariants as items
use Rattle.mdmp_names.specs.StreamTypes.{stream_name}
use Rattle.mdmp_summary.specs.Identity.{BuildIdValue, build_id_in, code_id_of, pdb20_in}
use Rattle.mdmp_summary.specs.declared.identity.Pdb20.{Pdb20}
use Rattle.mdmp_print.specs.FaultWords.{kind_words}
use Rattle.mdmp_print.specs.Ids.{build_debug_id, build_id_text, pe_id_of, stamp_id}
use Rattle.mdmp_print.specs.Json.{of_number, of_wide, of_text, of_hex, object, of_object, part_members, name_value, text_or_null, bytes_value, values_of}
use Rattle.mdmp_print.specs.PdbLines.{debug_id, digits_text, guid_text}

-- `"line"`: what the object is of
abbrev pub line_of : List ℕ → List Token
line_of = of_text (codes "line")

-- a version: numbers with points between them
abbrev pub point : List ℕ
point = codes "."

abbrev pub dump_members : Header → List (List Token)
dump_members h = line_of (codes "dump") ∷ of_hex (codes "version") 4 (h.version / 65536) ∷ of_number (codes "streams") h.number_of_streams
    ∷ of_number (codes "directory") h.stream_directory_rva ∷ of_number (codes "checksum") h.checksum ∷ of_number (codes "time") h.time_date_stamp
    ∷ of_hex (codes "flags") 16 h.flags ∷ []

abbrev pub stream_members : StreamItem → List (List Token)
stream_members s = line_of (codes "stream") ∷ of_number (codes "entry") s.entry ∷ of_number (codes "type") s.stream_type
    ∷ of_number (codes "size") s.location.size ∷ of_number (codes "rva") s.location.rva
    ∷ (key (codes "name") ∷ text_or_null (stream_name s.stream_type)) ∷ []

abbrev pub thread_members : ThreadItem → List (List Token)
thread_members t = line_of (codes "thread") ∷ of_number (codes "entry") t.entry ∷ of_number (codes "index") t.index
    ∷ of_number (codes "id") t.fields.thread_id ∷ of_number (codes "suspend") t.fields.suspend_count
    ∷ of_number (codes "class") t.fields.priority_class ∷ of_number (codes "priority") t.fields.priority
    ∷ of_hex (codes "teb") 16 t.fields.teb
    ∷ of_object (codes "stack") (of_hex (codes "start") 16 t.fields.stack.start_of_memory_range
    ∷ part_members of_number t.stack t.fields.stack.memory.size t.fields.stack.memory.rva ∷ [])
    ∷ of_object (codes "context") (part_members of_number t.context t.fields.thread_context.size t.fields.thread_context.rva ∷ []) ∷ []

-- the versions, of each of which the two numbers are halved
abbrev pub module_members : ModuleItem → List (List Token)
module_members m = line_of (codes "module") ∷ of_number (codes "entry") m.entry ∷ of_number (codes "index") m.index
    ∷ of_hex (codes "base") 16 m.fields.base_of_image ∷ of_number (codes "size") m.fields.size_of_image
    ∷ of_number (codes "checksum") m.fields.checksum ∷ of_number (codes "time") m.fields.time_date_stamp
    ∷ of_text (codes "version") (concat (decimal (m.fields.version_info.file_version_ms / 65536) ∷ point
    ∷ decimal (m.fields.version_info.file_version_ms % 65536) ∷ point ∷ decimal (m.fields.version_info.file_version_ls / 65536) ∷ point
    ∷ decimal (m.fields.version_info.file_version_ls % 65536) ∷ []))
    ∷ of_object (codes "cv") (part_members of_number m.codeview m.fields.cv_record.size m.fields.cv_record.rva ∷ [])
    ∷ of_object (codes "misc") (part_members of_number m.misc m.fields.misc_record.size m.fields.misc_record.rva ∷ [])
    ∷ (key (codes "name") ∷ name_value m.name)
    ∷ (key (codes "code_id") ∷ text_or_null (pe_id_of (code_id_of m.fields)))
    ∷ of_text (codes "product_version") (concat (decimal (m.fields.version_info.product_version_ms / 65536) ∷ point
    ∷ decimal (m.fields.version_info.product_version_ms % 65536) ∷ point ∷ decimal (m.fields.version_info.product_version_ls / 65536) ∷ point
    ∷ decimal (m.fields.version_info.product_version_ls % 65536) ∷ [])) ∷ []

abbrev pub unloaded_members : UnloadedItem → List (List Token)
unloaded_members u = line_of (codes "unloaded") ∷ of_number (codes "entry") u.entry ∷ of_number (codes "index") u.index
    ∷ of_hex (codes "base") 16 u.fields.base_of_image ∷ of_number (codes "size") u.fields.size_of_image
    ∷ of_number (codes "checksum") u.fields.checksum ∷ of_number (codes "time") u.fields.time_date_stamp
    ∷ (key (codes "name") ∷ name_value u.name) ∷ []

abbrev pub exception_members : ExceptionItem → List (List Token)
exception_members x = line_of (codes "exception") ∷ of_number (codes "entry") x.entry ∷ of_number (codes "thread") x.fields.thread_id
    ∷ of_hex (codes "code") 8 x.fields.exception_code ∷ of_number (codes "flags") x.fields.exception_flags
    ∷ of_hex (codes "record") 16 x.fields.exception_record ∷ of_hex (codes "address") 16 x.fields.exception_address
    ∷ of_number (codes "parameters") x.fields.number_parameters
    ∷ (key (codes "information") ∷ begin_array ∷ (values_of x.fields.number_parameters x.fields.exception_information ++ end_array ∷ []))
    ∷ of_object (codes "context") (part_members of_number x.context x.fields.thread_context.size x.fields.thread_context.rva ∷ []) ∷ []

abbrev pub system_members : SystemItem → List (List Token)
system_members s = line_of (codes "system") ∷ of_number (codes "entry") s.entry ∷ of_number (codes "architecture") s.fields.processor_architecture
    ∷ of_number (codes "level") s.fields.processor_level ∷ of_number (codes "revision") s.fields.processor_revision
    ∷ of_number (codes "processors") s.fields.number_of_processors ∷ of_number (codes "product") s.fields.product_type
    ∷ of_text (codes "version") (concat (decimal s.fields.major_version ∷ point ∷ decimal s.fields.minor_version ∷ point ∷ decimal s.fields.build_number ∷ []))
    ∷ of_number (codes "platform") s.fields.platform_id ∷ of_number (codes "suite") s.fields.suite_mask
    ∷ (key (codes "csd") ∷ name_value s.name) ∷ []

abbrev pub region_members : MemoryInfoItem → List (List Token)
region_members r = line_of (codes "region") ∷ of_number (codes "entry") r.entry ∷ of_number (codes "index") r.index
    ∷ of_hex (codes "base") 16 r.fields.base_address ∷ of_hex (codes "allocation") 16 r.fields.allocation_base
    ∷ of_number (codes "initial") r.fields.allocation_protect ∷ of_wide (codes "size") r.fields.region_size
    ∷ of_number (codes "state") r.fields.state ∷ of_number (codes "protect") r.fields.protect ∷ of_number (codes "type") r.fields.memory_type ∷ []

abbrev pub thread_name_members : ThreadNameItem → List (List Token)
thread_name_members t = line_of (codes "threadname") ∷ of_number (codes "entry") t.entry ∷ of_number (codes "index") t.index
    ∷ of_number (codes "id") t.fields.thread_id ∷ (key (codes "name") ∷ name_value t.name) ∷ []

abbrev pub range_members : RangeItem → List (List Token)
range_members r = line_of (codes "range") ∷ of_number (codes "entry") r.entry ∷ of_number (codes "index") r.index
    ∷ of_hex (codes "start") 16 r.start ∷ part_members of_wide r.extent r.size r.offset ∷ []

-- the ids in a record of another kind than RSDS: a build id, the identity of a symbol file of PDB 2.0, or none
abbrev pub other_ids : Option BuildIdValue → Option Pdb20 → List (List Token)
other_ids (Some id) pdb = of_text (codes "build_id") (build_id_text id.bytes) ∷ (key (codes "build_id_cut") ∷ boolean id.cut ∷ [])
    ∷ of_text (codes "debug_id") (build_debug_id id.bytes) ∷ []
other_ids None (Some pdb) = of_text (codes "debug_id") (stamp_id pdb.time pdb.age) ∷ []
other_ids None None = []

-- of the record of a module, which is the item of this number in the stream of this entry. The record begins with the bytes `head`
abbrev pub pdb_members : ℕ → ℕ → List ℕ → CodeViewValue → List (List Token)
pdb_members entry index head (Rsds guid age name ended) = line_of (codes "pdb") ∷ of_number (codes "entry") entry ∷ of_number (codes "index") index
    ∷ of_text (codes "kind") (codes "rsds") ∷ of_text (codes "guid") (guid_text guid) ∷ of_number (codes "age") age
    ∷ of_text (codes "debug_id") (debug_id guid age) ∷ (key (codes "name") ∷ bytes_value name)
    ∷ (key (codes "cut") ∷ boolean (not ended) ∷ []) ∷ []
pdb_members entry index head (Other signature size) = line_of (codes "pdb") ∷ of_number (codes "entry") entry ∷ of_number (codes "index") index
    ∷ of_text (codes "kind") (codes "other") ∷ of_text (codes "signature") (digits_text signature) ∷ of_number (codes "size") size
    ∷ other_ids (build_id_in head size) (pdb20_in head size)
pdb_members entry index head (Short size) = line_of (codes "pdb") ∷ of_number (codes "entry") entry ∷ of_number (codes "index") index
    ∷ of_text (codes "kind") (codes "short") ∷ of_number (codes "size") size ∷ []

-- ---- check

-- the number of a record, where the fault is one's
abbrev pub record_member : Option ℕ → List Token
record_member None = []
record_member (Some k) = of_wide (codes "item") k

abbrev pub fault_value : Option ListFault → List Token
fault_value None = null ∷ []
fault_value (Some f) = object (of_text (codes "kind") (kind_words f.kind) ∷ record_member f.index ∷ of_wide (codes "offset") f.offset
    ∷ of_wide (codes "size") f.size ∷ [])

abbrev pub verdict_members : Verdict → List (List Token)
verdict_members v = line_of (codes "entry") ∷ of_number (codes "entry") v.entry ∷ (key (codes "fault") ∷ fault_value v.fault) ∷ []

-- ---- objects

abbrev pub dump_object : Header → List Token
dump_object h = object (dump_members h)

abbrev pub item_object : Item → List Token
item_object (items.Stream s) = object (stream_members s)
item_object (items.Thread t) = object (thread_members t)
item_object (items.Module m) = object (module_members m)
item_object (items.Unloaded u) = object (unloaded_members u)
item_object (items.Exception x) = object (exception_members x)
item_object (items.System s) = object (system_members s)
item_object (items.MemoryInfo r) = object (region_members r)
item_object (items.ThreadName t) = object (thread_name_members t)
item_object (items.Range r) = object (range_members r)

abbrev pub pdb_object : ℕ → ℕ → List ℕ → CodeViewValue → List Token
pdb_object entry index head told = object (pdb_members entry index head told)

abbrev pub verdict_object : Verdict → List Token
verdict_object v = object (verdict_members v)
