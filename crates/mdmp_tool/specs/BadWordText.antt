-- What is told of a word of the command line that is bad.
use Rattle.std.specs.Prelude.{ℕ, List, [], ◌∷◌, Option, Some, None, codes}
use Rattle.std.specs.Fmt.{decimal}
use Rattle.std.specs.List.{concat}
use Rattle.mdmp_tool.specs.Shown.{shown}
use Rattle.mdmp_words.specs.BadWords.{bounds_of}
use Rattle.mdmp_words.specs.NearTypes.{nearest_type}
use Rattle.mdmp_words.specs.declared.bad_word.NumberBounds.{NumberBounds}
use Rattle.mdmp_words.specs.declared.bad_word.WordPlace.{WordPlace}
use Rattle.mdmp_words.specs.declared.bad_word.WordPlace.TheVariants.{Window, Name, Budget, Memory, Aside, Address, Length, StreamType}

-- the option, or the name of the word in the help
abbrev pub place_name : WordPlace → List ℕ
place_name Window = codes "--window"
place_name Name = codes "--name"
place_name Budget = codes "--budget"
place_name Memory = codes "--memory"
place_name Aside = codes "--aside"
place_name Address = codes "ADDRESS"
place_name Length = codes "LENGTH"
place_name StreamType = codes "TYPE"

abbrev pub bounds_text : Option NumberBounds → List ℕ
bounds_text None = []
bounds_text (Some bounds) = concat (codes "a decimal number, " ∷ decimal bounds.least ∷ codes " to " ∷ decimal bounds.most ∷ [])

-- what is expected at a place
abbrev pub expected_text : WordPlace → List ℕ
expected_text Address = codes "'0x' and 1 to 16 hexadecimal digits, a decimal number, or 00000000`7ffe0000"
expected_text StreamType = codes "the number or the name of a stream type"
expected_text place = bounds_text (bounds_of place)

-- the type that was probably meant
abbrev pub meant_type : WordPlace → List ℕ → Option (List ℕ)
meant_type StreamType word = nearest_type word
meant_type place word = None

abbrev pub hint_text : Option (List ℕ) → List ℕ
hint_text None = []
hint_text (Some name) = concat (codes "; did you mean " ∷ name ∷ codes "?" ∷ [])

-- the same at the end of a line
abbrev pub hint_line : Option (List ℕ) → List ℕ
hint_line None = codes "\n"
hint_line (Some name) = concat (codes "; did you mean " ∷ name ∷ codes "?\n" ∷ [])

-- `bad command line: <place> '<word>': expected <words>`, and what was probably meant
abbrev pub bad_word_text : WordPlace → List ℕ → List ℕ
bad_word_text place word =
    concat (codes "bad command line: " ∷ place_name place ∷ codes " '" ∷ shown word ∷ codes "': expected " ∷ expected_text place
    ∷ hint_text (meant_type place word) ∷ [])
