-- The name of a stream type that was probably meant. A word is the list of its bytes.
use Rattle.std.specs.Prelude.{ℕ, ◌-◌, ◌==◌, ◌&&◌, Bool, if◌then◌else◌, nat_lt, List, [], ◌∷◌, Option, Some, None, codes, length, map, slice_index, take}
use Rattle.std.specs.Char.{to_ascii_lowercase}
use Rattle.std.specs.Str.{bytes_eq}

-- a word ends with the letter `s`, of either case
abbrev pub ends_with_s : List ℕ → Bool
ends_with_s word = nat_lt 0 (length word) && to_ascii_lowercase (slice_index word (length word - 1)) == 115

-- a word without that letter
abbrev pub stem : List ℕ → List ℕ
stem word = if ends_with_s word then take (length word - 1) word else word

-- two words have the same letters, of either case, but for one `s` at the end
abbrev pub is_near : List ℕ → List ℕ → Bool
is_near word name = bytes_eq (map to_ascii_lowercase (stem word)) (map to_ascii_lowercase (stem name))

-- the first of some names that is near a word
unfoldable pub nearest_among : List ℕ → List (List ℕ) → Option (List ℕ)
nearest_among word [] = None
nearest_among word (name ∷ names) = if is_near word name then Some name else nearest_among word names

-- the names of types
abbrev pub type_words : List (List ℕ)
type_words =
    codes "threads" ∷ codes "modules" ∷ codes "memory" ∷ codes "exception" ∷ codes "system" ∷ codes "memory64" ∷ codes "unloaded"
    ∷ codes "regions" ∷ codes "threadnames" ∷ codes "UnusedStream" ∷ codes "ThreadListStream" ∷ codes "ModuleListStream"
    ∷ codes "MemoryListStream" ∷ codes "ExceptionStream" ∷ codes "SystemInfoStream" ∷ codes "Memory64ListStream" ∷ codes "CommentStreamA"
    ∷ codes "CommentStreamW" ∷ codes "UnloadedModuleListStream" ∷ codes "MiscInfoStream" ∷ codes "MemoryInfoListStream" ∷ codes "ThreadNamesStream" ∷ []

-- the first of them that is near a word
abbrev pub nearest_type : List ℕ → Option (List ℕ)
nearest_type word = nearest_among word type_words
