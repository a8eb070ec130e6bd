-- The command line as clap sees it: its commands, and their words.
use Rattle.std.specs.Prelude.{◌≡◌, ◌∷◌, ◌++◌, ℕ, List, [], Option, Some, None, true, codes, fold, map}
use Rattle.std.specs.Borrow.{Bor}
use Rattle.clap.specs.Lexer.{usize_max}
use Rattle.clap.specs.Simple.{new_shape}
use Rattle.clap.specs.Words.{App, Kinds, Row, Rule, Shape, app_of, fault_of, new_rule, rule_of, shape_of, subcommand_of, with_subcommand}
use Rattle.clap.specs.declared.builder.action.ArgAction.TheVariants as actions
use Rattle.clap.specs.declared.builder.arg.Arg.{Arg}
use Rattle.clap.specs.declared.builder.command.Command.{Command}
use Rattle.clap.specs.declared.builder.value_parser.ValueParser.TheVariants as parsers
use Rattle.command_words.specs.Verbs.{Argument, all_verbs, arguments_of, verb_name}
use Rattle.command_words.specs.declared.parameters.WordKind.{WordKind}
use Rattle.command_words.specs.declared.parameters.WordKind.TheVariants as kinds
use Rattle.command_words.specs.declared.parameters.Need.{Need}
use Rattle.command_words.specs.declared.parameters.Need.TheVariants as needs
use Rattle.command_words.specs.declared.verbs.Verb.{Verb}

-- the part of an argument that clap's parse reads (clap's contract)
unfoldable pub rule : Arg → Rule
rule argument = rule_of argument

-- the part of a command without subcommands that clap's parse reads (clap's contract)
unfoldable pub shape : Command → Shape
shape command = shape_of command

-- the part of a command with subcommands that clap's parse reads (clap's contract)
unfoldable pub app : Command → App
app command = app_of command

-- the referenced texts are the words for the edition of a volume (this project)
abbrev pub AreEditions : Bor (List (Bor (List ℕ))) → Type 0
AreEditions editions = map (λ name. name.now) editions.now ≡ codes "6" ∷ codes "7" ∷ codes "any" ∷ []

-- an argument with this name and number of words (this project)
unfoldable pub need_rule : List ℕ → Need → Rule
need_rule name needs.Once = record (new_rule name) { required = true }
need_rule name needs.Maybe = new_rule name
need_rule name needs.Several = record (new_rule name) { required = true; range = Some (record { start_inclusive = 1; end_inclusive = usize_max }) }
need_rule name needs.Any = record (new_rule name) { range = Some (record { start_inclusive = 1; end_inclusive = usize_max }) }
need_rule name (needs.Flag letter) = record (new_rule name) { long = Some name; short = letter; action = Some actions.SetTrue }
need_rule name (needs.Value letter value) = record (new_rule name) { long = Some name; short = letter; value_names = 1 }

-- the rule of an argument; for an edition, its words must be among these texts (this project)
abbrev pub kind_rule : Bor (List (Bor (List ℕ))) → WordKind → Rule → Rule
kind_rule editions kinds.Edition argument = record argument { parser = Some (parsers.Names editions) }
kind_rule editions _ argument = argument

-- an argument of a command (this project)
unfoldable pub argument_rule : Bor (List (Bor (List ℕ))) → Argument → Rule
argument_rule editions argument = kind_rule editions argument.1 (need_rule argument.0 argument.2)

-- a command of this name without arguments (clap's contract)
unfoldable pub named_shape : List ℕ → Shape
named_shape name = new_shape name

-- a command with one more argument, the last (clap's contract)
unfoldable pub with_argument : Shape → Rule → Shape
with_argument command argument = record command { rules = command.rules ++ argument ∷ [] }

-- a command with more arguments (this project)
abbrev pub with_arguments : Bor (List (Bor (List ℕ))) → Shape → List Argument → Shape
with_arguments editions = fold (λ command argument. with_argument command (argument_rule editions argument))

-- the option `--explain`, which the program and all commands have (this project)
unfoldable pub explain_rule : Rule
explain_rule = need_rule (codes "explain") (needs.Flag None)

-- a command with its arguments, followed by the option of all commands (this project)
unfoldable pub verb_shape : Bor (List (Bor (List ℕ))) → Verb → Shape
verb_shape editions verb = with_argument (with_arguments editions (named_shape (verb_name verb)) (arguments_of verb)) explain_rule

-- the program without its commands and its option: it has a version and requires a command (this project)
unfoldable pub bare_program : App
bare_program = record {
  top = record (new_shape (codes "unixvol")) { has_version = true; subcommand_required = true; arg_required_else_help = true };
  subs = [];
}

-- the program without its commands, with the option of all commands (this project)
unfoldable pub program : App
program = record bare_program { top = with_argument bare_program.top explain_rule }

-- a program with one more command, the last (clap's contract)
unfoldable pub with_command : App → Shape → App
with_command old command = with_subcommand old command

-- a program with more commands (this project)
abbrev pub with_commands : Bor (List (Bor (List ℕ))) → App → List Verb → App
with_commands editions = fold (λ old verb. with_command old (verb_shape editions verb))

-- the command line of `unixvol` (this project)
unfoldable pub unixvol_app : Bor (List (Bor (List ℕ))) → App
unixvol_app editions = with_commands editions program all_verbs

-- clap's errors for the words, none if it accepts them (clap's contract)
unfoldable pub faults_of : App → List (List ℕ) → Kinds
faults_of app words = fault_of app words

-- the command that the words name, and the rows that clap makes of the words after it (clap's contract)
unfoldable pub command_in : App → List (List ℕ) → Option (List ℕ × List Row)
command_in app words = subcommand_of app words
