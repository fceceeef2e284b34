-- The command line of `mdmp`, as `clap` reads it: its commands, and the words and options of each.
use Rattle.std.specs.Prelude.{◌≡◌, Bool, List, [], ◌∷◌, Some, true, false, codes, fold}
use Rattle.clap.specs.Lexer.{usize_max}
use Rattle.clap.specs.Walk.{Rule, Text}
use Rattle.clap.specs.Simple.{App, Shape, app_of, new_app, new_rule, on_top, with_rule, with_subcommand}
use Rattle.clap.specs.declared.builder.action.ArgAction.TheVariants.{Append, Set, SetTrue}
use Rattle.clap.specs.declared.builder.command.Command.{Command}
use Rattle.clap.specs.declared.builder.command.Command.TheViews.{out-Command}

-- ---- words and options

-- a word that has to be there, at its place
abbrev pub word : Text → Rule
word id = record (new_rule id) { action = Some Set; required = true }

-- one word or more, behind the others
abbrev pub words : Text → Rule
words id = record (word id) { action = Some Append; range = Some (record { start_inclusive = 1; end_inclusive = usize_max }) }

-- an option that takes a number
abbrev pub number_option : Text → Rule
number_option name = record (new_rule name) { long = Some name; action = Some Set; value_names = 1 }

-- an option that is there or not
abbrev pub flag : Text → Rule
flag name = record (new_rule name) { long = Some name; action = Some SetTrue }

-- ---- commands

-- the options of every command: what it may cost is limited, by numbers or for an untrusted file
abbrev pub limit_options : List Rule
limit_options =
    number_option (codes "window") ∷ number_option (codes "name") ∷ number_option (codes "budget") ∷ number_option (codes "memory") ∷ flag (codes "untrusted") ∷ []

-- a command with the options that limit what it may cost
abbrev pub limited : App → App
limited made = fold with_rule made limit_options

-- a command of this name with these words and options, and with those that limit what it may cost
abbrev pub command : Text → List Rule → Shape
command name rules = (limited (fold with_rule (new_app name) rules)).top

-- `summary FILE.. [--json]`
abbrev pub summary_command : Shape
summary_command = command (codes "summary") (words (codes "FILE") ∷ flag (codes "json") ∷ [])

-- `check FILE [--parts] [--json]`
abbrev pub check_command : Shape
check_command = command (codes "check") (word (codes "FILE") ∷ flag (codes "parts") ∷ flag (codes "json") ∷ [])

-- `list FILE [--pdb] [--json] [--aside N]`
abbrev pub list_command : Shape
list_command = command (codes "list") (word (codes "FILE") ∷ flag (codes "pdb") ∷ flag (codes "json") ∷ number_option (codes "aside") ∷ [])

-- `hex FILE ADDRESS LENGTH`
abbrev pub hex_command : Shape
hex_command = command (codes "hex") (word (codes "FILE") ∷ word (codes "ADDRESS") ∷ word (codes "LENGTH") ∷ [])

-- `copy IN OUT TYPE..`
abbrev pub copy_command : Shape
copy_command = command (codes "copy") (word (codes "IN") ∷ word (codes "OUT") ∷ words (codes "TYPE") ∷ [])

-- the program, whose own name is not among the words
abbrev pub program : App
program = on_top (λ top. record top { no_binary_name = true; has_version = true; subcommand_required = true }) (new_app (codes "mdmp"))

-- the program with its commands
abbrev pub commands : App
commands = fold with_subcommand program (summary_command ∷ check_command ∷ list_command ∷ hex_command ∷ copy_command ∷ [])

-- an option of the command stands for its subcommands too
abbrev pub has_globals : Command → Bool
has_globals made = (out-Command made).has_globals

-- a command has this form, and no option that stands for its subcommands too
pub record IsCommand (app : App) (made : Command) : Type 0 where
  pub app_is : app_of made ≡ app
  pub local : has_globals made ≡ false
