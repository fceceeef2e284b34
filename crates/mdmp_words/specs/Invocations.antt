-- What the words of a command line ask for. `clap` parts them by `commands`: it gives the name of a command, and rows that
-- have the words of that command under their ids.
use Rattle.std.specs.Prelude.{◌≡◌, ◌≢◌, ◌≤◌, ◌+◌, ◌⊎◌, ℕ, Bool, false, if◌then◌else◌, List, [], ◌∷◌, Option, Some, None, option_map, option_and_then, codes, map}
use Rattle.std.specs.Option.{option_map_or, option_or}
use Rattle.std.specs.Str.{bytes_eq}
use Rattle.clap.specs.Words.{IsAmong, Kinds, Row, Text, all_of, fault_of, first_of, subcommand_of}
use Rattle.clap.specs.declared.error.kind.ErrorKind.{ErrorKind}
use Rattle.clap.specs.declared.error.kind.ErrorKind.TheVariants.{DisplayHelp, DisplayVersion, OutOfMemory}
use Rattle.mdmp_lister.specs.declared.limits.Limits.{Limits}
use Rattle.mdmp_map.specs.Ranges.{address_end}
use Rattle.mdmp_words.specs.BadWords.{PlainBad, bad_at, bad_limit, bad_type, plain_bad}
use Rattle.mdmp_words.specs.CommandLine.{commands}
use Rattle.mdmp_print.specs.HexText.{length_limit}
use Rattle.mdmp_words.specs.NumberWords.{span_named}
use Rattle.mdmp_words.specs.OptionWords.{LimitTexts, Sizes, limits_named, sizes_in_limits, types_named}
use Rattle.mdmp_words.specs.declared.number_words.Span.{Span}
use Rattle.mdmp_words.specs.declared.bad_word.WordPlace.TheVariants.{Address, Length}
use Rattle.mdmp_words.specs.declared.invocation.Invocation.{Invocation}
use Rattle.mdmp_words.specs.declared.invocation.Invocation.TheVariants.{Run, Summarize, Help, Refused, BadWord as BadOne, InvalidValue, Memory}
use Rattle.mdmp_words.specs.declared.invocation.Command.{Command}
use Rattle.mdmp_words.specs.declared.invocation.Command.TheVariants.{Check, List as Listing, Hex, Copy}
use Rattle.mdmp_print.specs.declared.form.LineForm.{LineForm}
use Rattle.mdmp_print.specs.declared.form.LineForm.TheVariants as forms

-- ---- commands as plain values

-- what is done with files
pub data PlainCommand : Type 0 where
  summary : LineForm → PlainCommand
  check : LineForm → Bool → PlainCommand
  list : LineForm → Bool → PlainCommand
  hex : Span → PlainCommand
  copy : List ℕ → List ℕ → PlainCommand

-- a command, the names of the files that it reads, in their order, and its limits
pub record Plain : Type 0 where
  pub files : List (List ℕ)
  pub sizes : Sizes
  pub command : PlainCommand

abbrev pub plain_command : Command → PlainCommand
plain_command (Check form parts) = check form parts
plain_command (Listing form pdb) = list form pdb
plain_command (Hex span) = hex span
plain_command (Copy target types) = copy target.now types

abbrev pub plain_over : List ℕ → Limits → Command → Plain
plain_over file limits command = record { files = file ∷ []; sizes = sizes_in_limits limits; command = plain_command command }

abbrev pub plain_summary : List (List ℕ) → Limits → LineForm → Plain
plain_summary files limits form = record { files = files; sizes = sizes_in_limits limits; command = summary form }

-- ---- what the words of a command ask for

-- the flag under this id is set
abbrev pub is_set : List Row → Text → Bool
is_set rows id = option_map_or (λ flag. bytes_eq flag (codes "true")) (first_of id rows) false

-- the words of the options that limit the command
abbrev pub limit_texts : List Row → LimitTexts
limit_texts rows = record {
  window = first_of (codes "window") rows;
  name = first_of (codes "name") rows;
  budget = first_of (codes "budget") rows;
  memory = first_of (codes "memory") rows;
  aside = first_of (codes "aside") rows;
  untrusted = is_set rows (codes "untrusted");
}

-- a command over the file whose name stands under this id
abbrev pub named_over : List Row → Text → PlainCommand → Option Plain
named_over rows id command =
    option_and_then
    (λ sizes. option_map (λ file. record { files = file ∷ []; sizes = sizes; command = command }) (first_of id rows))
    (limits_named (limit_texts rows))

-- lines are objects of JSON where the flag is set
abbrev pub form_named : List Row → LineForm
form_named rows = if is_set rows (codes "json") then forms.Json else forms.Text

abbrev pub summary_named : List Row → Option Plain
summary_named rows =
    option_and_then
    (λ sizes. option_map (λ files. record { files = files; sizes = sizes; command = summary (form_named rows) }) (all_of (codes "FILE") rows))
    (limits_named (limit_texts rows))

-- the parts that lie outside are told where the flag is set
abbrev pub check_named : List Row → Option Plain
check_named rows = named_over rows (codes "FILE") (check (form_named rows) (is_set rows (codes "parts")))

-- the symbol files are told where the flag is set
abbrev pub list_named : List Row → Option Plain
list_named rows = named_over rows (codes "FILE") (list (form_named rows) (is_set rows (codes "pdb")))

abbrev pub hex_named : List Row → Option Plain
hex_named rows =
    option_and_then
    (λ address. option_and_then
    (λ length. option_and_then (λ span. named_over rows (codes "FILE") (hex span)) (span_named address length))
    (first_of (codes "LENGTH") rows))
    (first_of (codes "ADDRESS") rows)

abbrev pub copy_named : List Row → Option Plain
copy_named rows =
    option_and_then
    (λ target. option_and_then
    (λ types. option_and_then (λ set. named_over rows (codes "IN") (copy target set)) (types_named types))
    (all_of (codes "TYPE") rows))
    (first_of (codes "OUT") rows)

-- ---- what the words of a command line ask for

-- the request that the words of the command of this name ask for
abbrev pub request_by : Text → List Row → Option Plain
request_by name rows =
    if bytes_eq name (codes "summary") then summary_named rows
    else if bytes_eq name (codes "check") then check_named rows
    else if bytes_eq name (codes "list") then list_named rows
    else if bytes_eq name (codes "hex") then hex_named rows
    else if bytes_eq name (codes "copy") then copy_named rows
    else None

-- the request of a command and its words, where there is a command
abbrev pub request_in : Option (Text × List Row) → Option Plain
request_in used = option_and_then (λ command. request_by command.0 command.1) used

-- the request that words ask for
unfoldable pub request_named : List Text → Option Plain
request_named words = request_in (subcommand_of commands words)

-- the first word of a command that is not what is expected at its place: those of the options first
abbrev pub bad_word : List Row → Option PlainBad
bad_word rows =
    option_or (bad_limit (limit_texts rows))
    (option_or (bad_at Address (first_of (codes "ADDRESS") rows))
    (option_or (bad_at Length (first_of (codes "LENGTH") rows))
    (option_and_then bad_type (all_of (codes "TYPE") rows))))

-- that of a command and its words, where there is a command
abbrev pub bad_in : Option (Text × List Row) → Option PlainBad
bad_in used = option_and_then (λ command. bad_word command.1) used

-- and that of words
unfoldable pub bad_named : List Text → Option PlainBad
bad_named words = bad_in (subcommand_of commands words)

-- what words may be refused for, or ask for in the place of a command
unfoldable pub faults : List Text → Kinds
faults words = fault_of commands words

-- the answer to a request: it is run, or memory ran out
abbrev pub IsFor : Option Plain → Invocation → Type 0
IsFor wanted (Run file limits command) = wanted ≡ Some (plain_over file.now limits command)
IsFor wanted (Summarize files limits form) = wanted ≡ Some (plain_summary (map (λ file. file.now) files.items) limits form)
IsFor wanted (Help text) = ⊥
IsFor wanted (Refused text) = ⊥
IsFor wanted (BadOne bad) = ⊥
IsFor wanted InvalidValue = ⊥
IsFor wanted Memory = Unit {0}

-- the same of a command: where it has no answer, its words ask for no request
abbrev pub IsForSome : Option Plain → Option Invocation → Type 0
IsForSome wanted (Some asked) = IsFor wanted asked
IsForSome wanted None = wanted ≡ None

-- the answer to a command and its words: a request where they ask for one; or else the first of them that is bad, or that none is
-- bad alone
abbrev pub AsksIn : Option (Text × List Row) → Invocation → Type 0
AsksIn used (BadOne bad) = (request_in used ≡ None) × (bad_in used ≡ Some (plain_bad bad))
AsksIn used InvalidValue = (request_in used ≡ None) × (bad_in used ≡ None)
AsksIn used asked = IsFor (request_in used) asked

-- the words have a fault that is not the wish for help or the version
abbrev pub AreRefused : List Text → Type 0
AreRefused words = (kind : ErrorKind) × IsAmong kind (faults words) × (kind ≢ DisplayHelp) × (kind ≢ DisplayVersion)

-- the answer to words: the request that they ask for, or that they ask for none, where they have no fault; help or the version
-- where they wish for one; a text that refuses them where they have another fault; want of memory at any time
abbrev pub AsksFor : List Text → Invocation → Type 0
AsksFor words (Run file limits command) = (faults words ≡ []) × (request_named words ≡ Some (plain_over file.now limits command))
AsksFor words (Summarize files limits form) = (faults words ≡ []) × (request_named words ≡ Some (plain_summary (map (λ file. file.now) files.items) limits form))
AsksFor words (Help text) = IsAmong DisplayHelp (faults words) ⊎ IsAmong DisplayVersion (faults words)
AsksFor words (Refused text) = AreRefused words
AsksFor words (BadOne bad) = (faults words ≡ []) × ((request_named words ≡ None) × (bad_named words ≡ Some (plain_bad bad)))
AsksFor words InvalidValue = (faults words ≡ []) × ((request_named words ≡ None) × (bad_named words ≡ None))
AsksFor words Memory = Unit {0}

-- ---- what is true of each answer

-- the addresses whose bytes are to be printed are not too many, and pass no last address
abbrev pub IsCommandWithin : Command → Type 0
IsCommandWithin (Check form parts) = Unit {0}
IsCommandWithin (Listing form pdb) = Unit {0}
IsCommandWithin (Hex span) = (span.length ≤ length_limit) × (span.address + span.length ≤ address_end)
IsCommandWithin (Copy target types) = Unit {0}

-- a command that is to be run can be
abbrev pub IsValid : Invocation → Type 0
IsValid (Run file limits command) = IsCommandWithin command
IsValid (Summarize files limits form) = Unit {0}
IsValid (Help text) = Unit {0}
IsValid (Refused text) = Unit {0}
IsValid (BadOne bad) = Unit {0}
IsValid InvalidValue = Unit {0}
IsValid Memory = Unit {0}

-- neither a request nor a text that was asked for
abbrev pub AsksNothing : Invocation → Type 0
AsksNothing (Run file limits command) = ⊥
AsksNothing (Summarize files limits form) = ⊥
AsksNothing (Help text) = ⊥
AsksNothing (Refused text) = Unit {0}
AsksNothing (BadOne bad) = Unit {0}
AsksNothing InvalidValue = Unit {0}
AsksNothing Memory = Unit {0}

-- the answer to an error: help and the version were asked for
abbrev pub IsTextOf : ErrorKind → Invocation → Type 0
IsTextOf kind (Run file limits command) = ⊥
IsTextOf kind (Summarize files limits form) = ⊥
IsTextOf kind (Help text) = (kind ≡ DisplayHelp) ⊎ (kind ≡ DisplayVersion)
IsTextOf kind (Refused text) = (kind ≢ DisplayHelp) × (kind ≢ DisplayVersion) × (kind ≢ OutOfMemory)
IsTextOf kind (BadOne bad) = ⊥
IsTextOf kind InvalidValue = ⊥
IsTextOf kind Memory = Unit {0}
