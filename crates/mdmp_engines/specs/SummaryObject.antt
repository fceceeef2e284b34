-- The object that `summary --json` prints of a file.
use Rattle.std.specs.Prelude.{ℕ, ◌+◌, ◌-◌, ◌/◌, ◌^◌, ◌==◌, List, [], ◌∷◌, ◌++◌, Bool, true, false, Option, Some, None, length, max, min, if◌then◌else◌}
use Rattle.mdmp_source.specs.Extent.{extent_of}
use Rattle.mdmp_source.specs.declared.location.Extent.{Extent}
use Rattle.mdmp_source.specs.declared.location.Extent.TheVariants.{Empty, Absent, Inside, Outside}
use Rattle.mdmp_wire.specs.declared.module.ModuleRecord.{ModuleRecord}
use Rattle.mdmp_wire.specs.declared.system.SystemRecord.{SystemRecord}
use Rattle.mdmp_wire.specs.declared.thread.ThreadRecord.{ThreadRecord}
use Rattle.mdmp_lister.specs.declared.item.Item.{Item}
use Rattle.mdmp_lister.specs.declared.item.Item.TheVariants as items
use Rattle.mdmp_lister.specs.declared.limits.Limits.{Limits}
use Rattle.mdmp_lister.specs.declared.name.Name.{Name}
use Rattle.mdmp_lister.specs.declared.name.Name.TheVariants as names
use Rattle.mdmp_summary.specs.BadEntries.{all_items}
use Rattle.mdmp_summary.specs.Keeping.{kept}
use Rattle.mdmp_summary.specs.Summary.{file_summary, registers_of}
use Rattle.mdmp_summary.specs.Symbols.{symbols_head, symbols_rest}
use Rattle.mdmp_summary.specs.declared.summary.Crash.{Crash}
use Rattle.mdmp_summary.specs.declared.summary.FileSummary.{FileSummary}
use Rattle.mdmp_summary_lines.specs.JsonEnd.{summary_end_text}
use Rattle.mdmp_summary_lines.specs.JsonHead.{summary_head_text}
use Rattle.mdmp_summary_lines.specs.JsonIds.{codeview_ids_text, module_ids_text}
use Rattle.mdmp_summary_lines.specs.JsonModules.{module_front_text}
use Rattle.mdmp_summary_lines.specs.JsonThreads.{thread_object_text, threads_front_text}
use Rattle.mdmp_summary_lines.specs.declared.names.SummaryNames.{SummaryNames}
use Rattle.mdmp_engines.specs.KeptNames.{told_names}

-- ---- the modules, each with its ids behind it

-- the module that an item is
abbrev pub module_begun : Item → Option ModuleRecord
module_begun (items.Module m) = Some m.fields
module_begun x = None

-- its name and its fields
abbrev pub module_front : Bool → Item → List ℕ
module_front is_first (items.Module m) = module_front_text is_first m
module_front is_first x = []

-- the ids of a module of F whose CodeView record is of this class, with names of at most `limit` bytes
abbrev pub ids_in_class : List ℕ → ℕ → ModuleRecord → Extent → List ℕ
ids_in_class F limit fields Inside = codeview_ids_text fields (symbols_head F fields.cv_record) (symbols_rest F fields.cv_record limit) fields.cv_record.size
ids_in_class F limit fields Empty = module_ids_text fields None
ids_in_class F limit fields Absent = module_ids_text fields None
ids_in_class F limit fields Outside = module_ids_text fields None

abbrev pub ids_of : List ℕ → ℕ → Option ModuleRecord → List ℕ
ids_of F limit (Some fields) = ids_in_class F limit fields (extent_of fields.cv_record (length F))
ids_of F limit None = []

abbrev pub module_text : List ℕ → ℕ → Bool → Item → List ℕ
module_text F limit is_first x = module_front is_first x ++ ids_of F limit (module_begun x)

-- whether no module came up to this item
abbrev pub first_still : Bool → Item → Bool
first_still is_first (items.Module m) = false
first_still is_first x = is_first

abbrev pub modules_text : List ℕ → ℕ → Bool → List Item → List ℕ
modules_text F limit is_first [] = []
modules_text F limit is_first (x ∷ xs) = module_text F limit is_first x ++ modules_text F limit (first_still is_first x) xs

-- ---- the threads

-- the thread that an item is
abbrev pub thread_begun : Item → Option ThreadRecord
thread_begun (items.Thread t) = Some t.fields
thread_begun x = None

-- what is known of the crash: the system, the id of the thread, and its name
pub record CrashedThread : Type 0 where
  pub system : Option SystemRecord
  pub id : Option ℕ
  pub name : Name

abbrev pub is_id : Option ℕ → ℕ → Bool
is_id (Some id) thread = id == thread
is_id None thread = false

-- only the thread of the crash has its name here
abbrev pub name_if : Bool → Name → Name
name_if true name = name
name_if false name = names.None

-- the object of a thread of F behind `count` others
abbrev pub thread_text : List ℕ → CrashedThread → ℕ → Option ThreadRecord → List ℕ
thread_text F crashed count (Some t) = thread_object_text (count == 0) t.thread_id (name_if (is_id crashed.id t.thread_id) crashed.name) (registers_of F crashed.system t.thread_context)
thread_text F crashed count None = []

-- one more, up to the greatest u64
abbrev pub one_more : ℕ → ℕ
one_more count = min (count + 1) (2 ^ 64 - 1)

abbrev pub count_with : ℕ → Option ThreadRecord → ℕ
count_with count (Some t) = one_more count
count_with count None = count

-- the index of the first thread with the id of the crash
abbrev pub found_with : Option ℕ → ℕ → Option ℕ → Option ThreadRecord → Option ℕ
found_with id count found (Some t) = if is_id id t.thread_id then kept found (count ∷ []) else found
found_with id count found None = found

abbrev pub threads_text : List ℕ → CrashedThread → ℕ → List Item → List ℕ
threads_text F crashed count [] = []
threads_text F crashed count (x ∷ xs) = thread_text F crashed count (thread_begun x) ++ threads_text F crashed (count_with count (thread_begun x)) xs

abbrev pub found_among : Option ℕ → ℕ → Option ℕ → List Item → Option ℕ
found_among id count found [] = found
found_among id count found (x ∷ xs) = found_among id (count_with count (thread_begun x)) (found_with id count found (thread_begun x)) xs

abbrev pub crashed_id : Option Crash → Option ℕ
crashed_id (Some crash) = Some crash.exception.fields.thread_id
crashed_id None = None

-- ---- the object

-- the threads of a file with this summary, whose crash is of a thread with this name, and the end
abbrev pub threads_and_end : List ℕ → FileSummary → Name → List Item → List ℕ
threads_and_end F summary name items =
    threads_text F (record { system = summary.system; id = crashed_id summary.crash; name = name }) 0 items
    ++ summary_end_text summary.crash summary.system (found_among (crashed_id summary.crash) 0 None items)

-- the modules, the threads, and the end
abbrev pub lists_text : List ℕ → ℕ → FileSummary → Name → List Item → List ℕ
lists_text F limit summary name items = modules_text F limit true items ++ (threads_front_text ++ threads_and_end F summary name items)

-- all that is printed of F, a file of this name, with this summary and these names, and with names of symbol files of at most
-- `symbols` bytes
abbrev pub named_object : (name F : List ℕ) → (limit symbols : ℕ) → FileSummary → SummaryNames → List ℕ
named_object name F limit symbols summary told = summary_head_text name summary told ++ lists_text F symbols summary told.thread (all_items F limit)

-- with the names that it tells
abbrev pub told_object : (name F : List ℕ) → (limit symbols : ℕ) → FileSummary → List ℕ
told_object name F limit symbols summary = named_object name F limit symbols summary (told_names F limit summary)

-- how many bytes of the name of a symbol file are told, of a file with so many modules: as many as the limit of names says, and
-- no more than the share of each module in the limit of what is read aside, behind the 24 bytes that begin a record
abbrev pub symbols_share : Option ℕ → (limit modules : ℕ) → ℕ
symbols_share None limit modules = limit
symbols_share (Some aside) limit modules = min limit (aside / max modules 1 - 24)

abbrev pub symbols_most : Limits → ℕ → ℕ
symbols_most limits modules = symbols_share limits.aside limits.name modules

abbrev pub limited_object : (name F : List ℕ) → Limits → FileSummary → List ℕ
limited_object name F limits summary = told_object name F limits.name (symbols_most limits summary.counts.modules) summary

-- and its own summary
abbrev pub object_text : (name F : List ℕ) → Limits → List ℕ
object_text name F limits = limited_object name F limits (file_summary F limits.name)
