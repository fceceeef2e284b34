-- The words that name types of streams. A word is the list of its bytes.
use Rattle.std.specs.Prelude.{ℕ, if◌then◌else◌, List, Option, Some, None, codes}
use Rattle.std.specs.Option.{option_or}
use Rattle.std.specs.Str.{bytes_eq}
use Rattle.mdmp_words.specs.NumberWords.{decimal32_number}

-- by what their records are
abbrev pub type_of_records : List ℕ → Option ℕ
type_of_records word =
    if bytes_eq word (codes "threads") then Some 3
    else if bytes_eq word (codes "modules") then Some 4
    else if bytes_eq word (codes "memory") then Some 5
    else if bytes_eq word (codes "exception") then Some 6
    else if bytes_eq word (codes "system") then Some 7
    else if bytes_eq word (codes "memory64") then Some 9
    else if bytes_eq word (codes "unloaded") then Some 14
    else if bytes_eq word (codes "regions") then Some 16
    else if bytes_eq word (codes "threadnames") then Some 24
    else None

-- by their names in minidumpapiset.h
abbrev pub type_in_header : List ℕ → Option ℕ
type_in_header word =
    if bytes_eq word (codes "UnusedStream") then Some 0
    else if bytes_eq word (codes "ThreadListStream") then Some 3
    else if bytes_eq word (codes "ModuleListStream") then Some 4
    else if bytes_eq word (codes "MemoryListStream") then Some 5
    else if bytes_eq word (codes "ExceptionStream") then Some 6
    else if bytes_eq word (codes "SystemInfoStream") then Some 7
    else if bytes_eq word (codes "Memory64ListStream") then Some 9
    else if bytes_eq word (codes "CommentStreamA") then Some 10
    else if bytes_eq word (codes "CommentStreamW") then Some 11
    else if bytes_eq word (codes "UnloadedModuleListStream") then Some 14
    else if bytes_eq word (codes "MiscInfoStream") then Some 15
    else if bytes_eq word (codes "MemoryInfoListStream") then Some 16
    else if bytes_eq word (codes "ThreadNamesStream") then Some 24
    else None

-- the type that a word names in one of these ways, or by its number in decimal digits
abbrev pub type_named : List ℕ → Option ℕ
type_named word = option_or (type_of_records word) (option_or (type_in_header word) (decimal32_number word))
