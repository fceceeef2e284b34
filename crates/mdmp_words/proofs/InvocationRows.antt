-- What some words ask for, computed by the definitions.
use Rattle.std.proofs.Common.{◌≡◌, ℕ, List, [], ◌∷◌, Option, Some, None, true, false, codes, refl}
use Rattle.clap.specs.Words.{Text}
use Rattle.clap.specs.declared.error.kind.ErrorKind.TheVariants.{DisplayHelp, DisplayVersion, InvalidSubcommand, MissingRequiredArgument, MissingSubcommand, UnknownArgument}
use Rattle.clap.proofs.OnLiterals.{clap_on_literals}
use Rattle.mdmp_print.specs.declared.form.LineForm.TheVariants as forms
use Rattle.mdmp_words.specs.BadWords.{bad_type}
use Rattle.mdmp_words.specs.OptionWords.{Sizes}
use Rattle.mdmp_words.specs.declared.bad_word.WordPlace.TheVariants.{Address, Name, StreamType}
use Rattle.mdmp_words.specs.Invocations.{Plain, PlainCommand, bad_named, check, copy, faults, hex, list, request_named, summary}

-- the limits without an option
abbrev usual : Sizes
usual = record { window = 65536; name = 4096; budget = Some 18446744073709551615; memory = None; aside = None }

-- the limits of an untrusted file
abbrev untrusted : Sizes
untrusted = record { window = 65536; name = 4096; budget = Some 67108864; memory = Some 67108864; aside = Some 67108864 }

-- a command over the file of this name, with these limits
abbrev within : Text → Sizes → PlainCommand → Option Plain
within file sizes command = Some (record { files = file ∷ []; sizes = sizes; command = command })

-- and the usual ones, but for the window and the name
abbrev over : Text → ℕ → ℕ → PlainCommand → Option Plain
over file window name command = within file (record usual { window = window; name = name }) command

-- ---- requests

abbrev check_words : List Text
check_words = codes "check" ∷ codes "a.dmp" ∷ []

check-request : request_named check_words ≡ over (codes "a.dmp") 65536 4096 (check forms.Text false)
unfolding clap_on_literals request_named
check-request = refl

check-faults : faults check_words ≡ []
unfolding clap_on_literals faults
check-faults = refl

summary-request : request_named (codes "summary" ∷ codes "--untrusted" ∷ codes "a.dmp" ∷ []) ≡ within (codes "a.dmp") untrusted (summary forms.Text)
unfolding clap_on_literals request_named
summary-request = refl

-- `summary` takes files, in their order, and options anywhere among them
summaries-request : request_named (codes "summary" ∷ codes "b.dmp" ∷ codes "--json" ∷ codes "a.dmp" ∷ codes "b.dmp" ∷ [])
    ≡ Some (record { files = codes "b.dmp" ∷ codes "a.dmp" ∷ codes "b.dmp" ∷ []; sizes = usual; command = summary forms.Json })
unfolding clap_on_literals request_named
summaries-request = refl

no_summary-faults : faults (codes "summary" ∷ codes "--json" ∷ []) ≡ MissingRequiredArgument ∷ []
unfolding clap_on_literals faults
no_summary-faults = refl

list-request : request_named (codes "list" ∷ codes "a.dmp" ∷ []) ≡ over (codes "a.dmp") 65536 4096 (list forms.Text false)
unfolding clap_on_literals request_named
list-request = refl

list_pdb-request : request_named (codes "list" ∷ codes "a.dmp" ∷ codes "--pdb" ∷ []) ≡ over (codes "a.dmp") 65536 4096 (list forms.Text true)
unfolding clap_on_literals request_named
list_pdb-request = refl

budget-request : request_named (codes "list" ∷ codes "a.dmp" ∷ codes "--budget" ∷ codes "43" ∷ []) ≡ within (codes "a.dmp") (record usual { budget = Some 43 }) (list forms.Text false)
unfolding clap_on_literals request_named
budget-request = refl

copy_budget-request : request_named (codes "copy" ∷ codes "--budget" ∷ codes "43" ∷ codes "a" ∷ codes "b" ∷ codes "3" ∷ [])
    ≡ within (codes "a") (record usual { budget = Some 43 }) (copy (codes "b") (3 ∷ []))
unfolding clap_on_literals request_named
copy_budget-request = refl

memory-request : request_named (codes "check" ∷ codes "a.dmp" ∷ codes "--memory" ∷ codes "0" ∷ [])
    ≡ within (codes "a.dmp") (record usual { memory = Some 0 }) (check forms.Text false)
unfolding clap_on_literals request_named
memory-request = refl

aside-request : request_named (codes "list" ∷ codes "--aside=7" ∷ codes "a.dmp" ∷ [])
    ≡ within (codes "a.dmp") (record usual { aside = Some 7 }) (list forms.Text false)
unfolding clap_on_literals request_named
aside-request = refl

-- `check` reads no CodeView record
check_aside-faults : faults (codes "check" ∷ codes "a.dmp" ∷ codes "--aside" ∷ codes "7" ∷ []) ≡ UnknownArgument ∷ []
unfolding clap_on_literals faults
check_aside-faults = refl

untrusted-request : request_named (codes "list" ∷ codes "a.dmp" ∷ codes "--untrusted" ∷ []) ≡ within (codes "a.dmp") untrusted (list forms.Text false)
unfolding clap_on_literals request_named
untrusted-request = refl

-- an option wins over `--untrusted`, also with a greater number
untrusted_memory-request : request_named (codes "list" ∷ codes "--untrusted" ∷ codes "a.dmp" ∷ codes "--memory" ∷ codes "67108865" ∷ [])
    ≡ within (codes "a.dmp") (record untrusted { memory = Some 67108865 }) (list forms.Text false)
unfolding clap_on_literals request_named
untrusted_memory-request = refl

list_json-request : request_named (codes "list" ∷ codes "--json" ∷ codes "a.dmp" ∷ codes "--pdb" ∷ []) ≡ over (codes "a.dmp") 65536 4096 (list forms.Json true)
unfolding clap_on_literals request_named
list_json-request = refl

check_json-request : request_named (codes "check" ∷ codes "--json" ∷ codes "a.dmp" ∷ []) ≡ over (codes "a.dmp") 65536 4096 (check forms.Json false)
unfolding clap_on_literals request_named
check_json-request = refl

check_parts-request : request_named (codes "check" ∷ codes "a.dmp" ∷ codes "--parts" ∷ []) ≡ over (codes "a.dmp") 65536 4096 (check forms.Text true)
unfolding clap_on_literals request_named
check_parts-request = refl

check_parts_json-request : request_named (codes "check" ∷ codes "--json" ∷ codes "--parts" ∷ codes "a.dmp" ∷ []) ≡ over (codes "a.dmp") 65536 4096 (check forms.Json true)
unfolding clap_on_literals request_named
check_parts_json-request = refl

-- `list` looks at no parts
list_parts-faults : faults (codes "list" ∷ codes "a.dmp" ∷ codes "--parts" ∷ []) ≡ UnknownArgument ∷ []
unfolding clap_on_literals faults
list_parts-faults = refl

hex-request : request_named (codes "hex" ∷ codes "f" ∷ codes "0x10" ∷ codes "17" ∷ codes "--window" ∷ codes "168" ∷ [])
    ≡ over (codes "f") 168 4096 (hex (record { address = 16; length = 17 }))
unfolding clap_on_literals request_named
hex-request = refl

copy-request : request_named (codes "copy" ∷ codes "--name=8" ∷ codes "a" ∷ codes "b" ∷ codes "3" ∷ codes "4" ∷ [])
    ≡ over (codes "a") 65536 8 (copy (codes "b") (3 ∷ 4 ∷ []))
unfolding clap_on_literals request_named
copy-request = refl

-- ---- words that are parted, and ask for no request

abbrev no_address-words : List Text
no_address-words = codes "hex" ∷ codes "f" ∷ codes "0x" ∷ codes "1" ∷ []

no_address-request : request_named no_address-words ≡ None
unfolding clap_on_literals request_named
no_address-request = refl

no_address-faults : faults no_address-words ≡ []
unfolding clap_on_literals faults
no_address-faults = refl

no_address-bad : bad_named no_address-words ≡ Some (record { place = Address; word = codes "0x" })
unfolding clap_on_literals bad_named
no_address-bad = refl

-- of several bad words the first is told, those of the options first
several-bad : bad_named (codes "hex" ∷ codes "f" ∷ codes "0x" ∷ codes "1" ∷ codes "--name" ∷ codes "1073741825" ∷ codes "--budget=x" ∷ [])
    ≡ Some (record { place = Name; word = codes "1073741825" })
unfolding clap_on_literals bad_named
several-bad = refl

type-bad : bad_named (codes "copy" ∷ codes "a" ∷ codes "b" ∷ codes "3" ∷ codes "Threads" ∷ codes "x" ∷ [])
    ≡ Some (record { place = StreamType; word = codes "Threads" })
unfolding clap_on_literals bad_named bad_type
type-bad = refl

-- words that are good alone, and wrong together
together-bad : bad_named (codes "hex" ∷ codes "f" ∷ codes "0xffffffffffffffff" ∷ codes "2" ∷ []) ≡ None
unfolding clap_on_literals bad_named
together-bad = refl

-- ---- words that ask for a text, or are refused

help-faults : faults (codes "--help" ∷ []) ≡ DisplayHelp ∷ []
unfolding clap_on_literals faults
help-faults = refl

hex_help-faults : faults (codes "hex" ∷ codes "-h" ∷ []) ≡ DisplayHelp ∷ []
unfolding clap_on_literals faults
hex_help-faults = refl

version-faults : faults (codes "--version" ∷ []) ≡ DisplayVersion ∷ []
unfolding clap_on_literals faults
version-faults = refl

other_command-faults : faults (codes "move" ∷ codes "a" ∷ []) ≡ UnknownArgument ∷ InvalidSubcommand ∷ []
unfolding clap_on_literals faults
other_command-faults = refl

no_file-faults : faults (codes "check" ∷ []) ≡ MissingRequiredArgument ∷ []
unfolding clap_on_literals faults
no_file-faults = refl

no_words-faults : faults [] ≡ MissingSubcommand ∷ []
unfolding clap_on_literals faults
no_words-faults = refl
