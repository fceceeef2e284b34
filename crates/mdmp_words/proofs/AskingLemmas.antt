-- From what a parse gives to what the words ask for.
use Rattle.std.proofs.Common.{◌≡◌, ◌∙◌, sym, ap, subst, inl, inr, refl, true, List, [], ◌∷◌, Option, Some, None, option_map, Bor, map, length}
use Rattle.clap.specs.Faults.{fault_of, is_simple_and_free}
use Rattle.clap.specs.Words.{App, HasKind, HasMatchesOf, IsAmong, Row, Text, is_simple, kind_of, subcommand_name_of, subcommand_of, subcommand_rows_of}
use Rattle.clap.specs.declared.error.Error.{Error}
use Rattle.clap.specs.declared.error.kind.ErrorKind.TheVariants.{MissingSubcommand}
use Rattle.clap.specs.declared.parser.matches.ArgMatches.{ArgMatches}
use Rattle.clap.specs.declared.parser.matches.ArgMatches.TheViews.{out-ArgMatches}
use Rattle.clap.proofs.OnLiterals.{clap_on_literals}
use Rattle.mdmp_words.specs.CommandLine.{commands}
use Rattle.mdmp_words.specs.Invocations.{AreRefused, AsksFor, AsksIn, IsFor, IsTextOf, bad_in, bad_named, faults, request_in, request_named}
use Rattle.mdmp_words.specs.declared.invocation.Invocation.{Invocation}
use Rattle.mdmp_words.specs.declared.invocation.Invocation.TheVariants.{Run, Summarize, Help, Refused, BadWord as BadOne, InvalidValue, Memory}

-- two parts of what may be there
both : {X A B : Type 0} (f : X → A) (g : X → B) (x : Option X) (a : A) (b : B) → Some a ≡ option_map f x →
    Some b ≡ option_map (λ (p : A × B). p.1) (option_map {U = A × B} (λ x. (f x, g x)) x) → option_map {U = A × B} (λ x. (f x, g x)) x ≡ Some (a, b)
both f g None a b first second = cc
both f g (Some x) a b first second = cc

-- the command that was used, and its words
pub used : (matches : ArgMatches) (name : Text) (rows : List Row) → Some name ≡ subcommand_name_of matches →
    Some rows ≡ option_map (λ p. p.1) (subcommand_rows_of matches) → subcommand_rows_of matches ≡ Some (name, rows)
used matches name rows named parted = both _ _ (out-ArgMatches matches).subcommand name rows named parted

-- `clap` says of these commands which words it takes, and how it parts them
are_free : is_simple_and_free commands ≡ true
unfolding clap_on_literals
are_free = refl

are_simple : is_simple commands ≡ true
unfolding clap_on_literals
are_simple = refl

asks_named : (words : List Text) (used : Option (Text × List Row)) (asked : Invocation) → fault_of commands words ≡ [] → used ≡ subcommand_of commands words →
    AsksIn used asked → AsksFor words asked
unfolding faults request_named bad_named
asks_named words used (Run file limits command) none is asks = (none, ap request_in (sym is) ∙ asks)
asks_named words used (Summarize files limits form) none is asks = (none, ap request_in (sym is) ∙ asks)
asks_named words used (Help text) none is asks = absurd asks
asks_named words used (Refused text) none is asks = absurd asks
asks_named words used (BadOne bad) none is asks = (none, (ap request_in (sym is) ∙ asks.0, ap bad_in (sym is) ∙ asks.1))
asks_named words used InvalidValue none is asks = (none, (ap request_in (sym is) ∙ asks.0, ap bad_in (sym is) ∙ asks.1))
asks_named words used Memory none is asks = tt

-- a parse that succeeds
pub parsed : (line : App) (words : List Text) (matches : ArgMatches) (asked : Invocation) → line ≡ commands → (is_simple_and_free line ≡ true → fault_of line words ≡ []) →
    HasMatchesOf line words matches → AsksIn (subcommand_rows_of matches) asked → AsksFor words asked
parsed line words matches asked is none has asks =
    asks_named words (subcommand_rows_of matches) asked (ap (λ (a : App). fault_of a words) (sym is) ∙ none (ap is_simple_and_free is ∙ are_free))
    ((has (ap is_simple is ∙ are_simple)).1 ∙ ap (λ (a : App). subcommand_of a words) is) asks

-- a request that has an answer
pub asks_run : (used : Option (Text × List Row)) (asked : Invocation) → IsFor (request_in used) asked → AsksIn used asked
asks_run used (Run file limits command) is = is
asks_run used (Summarize files limits form) is = is
asks_run used (Help text) is = absurd is
asks_run used (Refused text) is = absurd is
asks_run used (BadOne bad) is = absurd is
asks_run used InvalidValue is = absurd is
asks_run used Memory is = tt

asks_text : (words : List Text) (error : Error) (asked : Invocation) → HasKind (faults words) error → IsTextOf (kind_of error) asked → AsksFor words asked
asks_text words error (Run file limits command) has told = absurd told
asks_text words error (Summarize files limits form) has told = absurd told
asks_text words error (Help text) (inl memory) (inl help) = absurd cc
asks_text words error (Help text) (inl memory) (inr version) = absurd cc
asks_text words error (Help text) (inr among) (inl help) = inl (subst (λ kind. IsAmong kind (faults words)) help among)
asks_text words error (Help text) (inr among) (inr version) = inr (subst (λ kind. IsAmong kind (faults words)) version among)
asks_text words error (Refused text) (inl memory) told = absurd (told.2 memory)
asks_text words error (Refused text) (inr among) told = (kind_of error, among, told.0, told.1)
asks_text words error (BadOne bad) has told = absurd told
asks_text words error InvalidValue has told = absurd told
asks_text words error Memory has told = tt

-- a parse that fails
pub failed : (line : App) (words : List Text) (error : Error) (asked : Invocation) → line ≡ commands → (is_simple_and_free line ≡ true → HasKind (fault_of line words) error) →
    IsTextOf (kind_of error) asked → AsksFor words asked
unfolding faults
failed line words error asked is has told =
    asks_text words error asked (subst (λ (a : App). HasKind (fault_of a words) error) is (has (ap is_simple_and_free is ∙ are_free))) told

-- no words name no command
no_command : IsAmong MissingSubcommand (fault_of commands [])
unfolding clap_on_literals
no_command = inl refl

-- and are refused
pub none_refused : (words : List (Bor Text)) → length words ≡ 0 → AreRefused (map (λ word. word.now) words)
unfolding faults
none_refused [] none = (MissingSubcommand, no_command, (λ h. cc), (λ h. cc))
none_refused (word ∷ words) none = cc
