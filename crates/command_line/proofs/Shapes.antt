-- The steps that build the command line, and the part of the command line that each step adds.
use Rattle.std.proofs.Common.{Bool, codes, map, take, length, get_or, Option, Some, None, IsSomeAnd, Result, Ok, Err, IfOk, ◌&&◌, not, is_some, ◌≡◌, ◌<◌, ◌+◌, ◌∙◌, ℕ, true, false, List, ◌∷◌, ◌++◌, [], refl, sym, ap, ap₂}
use Rattle.std.specs.Borrow.{Bor}
use Rattle.std.proofs.lemmas.Grind.{fold-append}
use Rattle.std.proofs.lemmas.List.{map-append, take_more}
use Rattle.clap.specs.Lexer.{usize_max}
use Rattle.clap.specs.declared.builder.range.ValueRange.{ValueRange}
use Rattle.clap.specs.declared.builder.value_parser.ValueParser.{ValueParser}
use Rattle.clap.specs.declared.builder.value_parser.ValueParser.TheVariants as parsers
use Rattle.clap.specs.Walk.{Rule, is_empty, is_simple_arg}
use Rattle.clap.specs.Simple.{App, Shape, app_of_fields, shape_of_fields, with_rule}
use Rattle.clap.specs.Words.{AddsArg, AddsSubcommand, app_of, new_app, rule_of, shape_of, with_subcommand}
use Rattle.clap.specs.declared.builder.arg.Arg.{Arg}
use Rattle.clap.specs.declared.builder.command.Command.{Command}
use Rattle.clap.specs.declared.builder.command.Command.TheViews.{out-Command}
use Rattle.clap.specs.declared.builder.command.Command.TheOpen.{Command-F}
use Rattle.clap.proofs.WalkLemmas.{both}
use Rattle.clap.proofs.SimpleLemmas.{is_false, plain_fields}
use Rattle.command_words.specs.Verbs.{Argument, argument_of, arguments_of, verb_name}
use Rattle.command_words.specs.declared.parameters.WordKind.{WordKind}
use Rattle.command_words.specs.declared.parameters.WordKind.TheVariants as kinds
use Rattle.command_words.specs.declared.parameters.Need.{Need}
use Rattle.command_words.specs.declared.parameters.Need.TheVariants as needs
use Rattle.command_words.specs.declared.parameters.Parameter.{Parameter}
use Rattle.command_words.specs.declared.verbs.Verb.{Verb}
use Rattle.command_line.specs.Words.{app, argument_rule, bare_program, explain_rule, kind_rule, named_shape, need_rule, program, rule, shape, verb_shape, with_argument, with_arguments, with_command, with_commands}

-- if ten tests pass together, the last one passes
last : (a b c d e f g h i j : Bool) → (a && (b && (c && (d && (e && (f && (g && (h && (i && j))))))))) ≡ true → j ≡ true
last a b c d e f g h i j all =
    let from_b = (both a (b && (c && (d && (e && (f && (g && (h && (i && j)))))))) all).1 in
    let from_d = (both c (d && (e && (f && (g && (h && (i && j)))))) (both b (c && (d && (e && (f && (g && (h && (i && j))))))) from_b).1).1 in
    let from_f = (both e (f && (g && (h && (i && j)))) (both d (e && (f && (g && (h && (i && j))))) from_d).1).1 in
    let from_h = (both g (h && (i && j)) (both f (g && (h && (i && j))) from_f).1).1 in
    (both i j (both h (i && j) from_h).1).1

-- an argument that doesn't change how words are read belongs to one command only
local : (argument : Arg) → is_simple_arg argument ≡ true → argument.global ≡ false
local argument simple =
    is_false argument.global
    (last (is_empty argument.overrides.items) (is_empty argument.default_vals_ifs.items) (is_empty argument.groups.items) (not (is_some argument.val_delim))
    (not (is_some argument.terminator)) (not argument.allow_hyphen_values) (not argument.allow_negative_numbers) (not argument.require_equals)
    (not argument.last) (not argument.global) simple)

-- adding an argument with this rule to a command adds the rule
adds_rule : (old new : Command) (argument : Arg) (known : Rule) → AddsArg old argument new → rule_of argument ≡ known → known.is_simple ≡ true
    → shape new ≡ with_argument (shape old) known
unfolding shape with_argument
adds_rule old new argument known added is simple =
    let simple_argument : is_simple_arg argument ≡ true = ap (λ (r : Rule). r.is_simple) is ∙ simple in
    ap (λ (a : App). a.top) (added.shape (local argument simple_argument)) ∙ ap (λ (r : Rule). record (shape old) { rules = (shape old).rules ++ r ∷ [] }) is

-- setting the number of values turns an argument for a required word into one for one word or more
ranged : (old : Arg) (range : Option ValueRange) (name : List ℕ) → rule old ≡ need_rule name needs.Once
    → IsSomeAnd range (λ r. r ≡ record { start_inclusive = 1; end_inclusive = usize_max }) → rule (record old { num_vals = range }) ≡ need_rule name needs.Several
unfolding rule need_rule
ranged old None name before is = absurd is
ranged old (Some range) name before is =
    ap (λ (r : Rule). record r { range = Some range }) before ∙ ap (λ (r : ValueRange). record (need_rule name needs.Once) { range = Some r }) is

-- an argument for a required word, with another number of values, is one for one word or more
pub takes_words : (old new : Arg) (name : List ℕ) → rule old ≡ need_rule name needs.Once → new ≡ record old { num_vals = new.num_vals }
    → IsSomeAnd new.num_vals (λ r. r ≡ record { start_inclusive = 1; end_inclusive = usize_max }) → rule new ≡ need_rule name needs.Several
takes_words old new name before same is = ap rule same ∙ ranged old new.num_vals name before is

-- setting the number of values turns an argument for an optional word into one for any number of words
ranged_maybe : (old : Arg) (range : Option ValueRange) (name : List ℕ) → rule old ≡ need_rule name needs.Maybe
    → IsSomeAnd range (λ r. r ≡ record { start_inclusive = 1; end_inclusive = usize_max }) → rule (record old { num_vals = range }) ≡ need_rule name needs.Any
unfolding rule need_rule
ranged_maybe old None name before is = absurd is
ranged_maybe old (Some range) name before is =
    ap (λ (r : Rule). record r { range = Some range }) before ∙ ap (λ (r : ValueRange). record (need_rule name needs.Maybe) { range = Some r }) is

-- an argument for an optional word, with another number of values, is one for any number of words
pub takes_any : (old new : Arg) (name : List ℕ) → rule old ≡ need_rule name needs.Maybe → new ≡ record old { num_vals = new.num_vals }
    → IsSomeAnd new.num_vals (λ r. r ≡ record { start_inclusive = 1; end_inclusive = usize_max }) → rule new ≡ need_rule name needs.Any
takes_any old new name before same is = ap rule same ∙ ranged_maybe old new.num_vals name before is

-- if an argument gets the names of the editions as its possible values, it has the rule of an argument for an edition
pub takes_editions : (old new : Arg) (editions : Bor (List (Bor (List ℕ)))) (before : Rule) → rule old ≡ before → new ≡ record old { value_parser = new.value_parser }
    → new.value_parser ≡ Some (parsers.Names editions) → rule new ≡ record before { parser = Some (parsers.Names editions) }
unfolding rule
takes_editions old new editions before was same is =
    ap rule same
    ∙ (ap (λ (r : Rule). record r { parser = new.value_parser }) was
    ∙ ap (λ (p : Option ValueParser). record before { parser = p }) is)

-- any other kind of words leaves the rule of an argument unchanged
pub other_kinds : (editions : Bor (List (Bor (List ℕ)))) (kind : WordKind) (before : Rule) → (kind ≡ kinds.Edition → ⊥) → before ≡ kind_rule editions kind before
other_kinds editions kinds.Edition before other = absurd (other refl)
other_kinds editions _ before other = refl

-- the number of words of an argument doesn't change how words are read
need_simple : (name : List ℕ) (need : Need) → (need_rule name need).is_simple ≡ true
unfolding need_rule
need_simple name needs.Once = refl
need_simple name needs.Maybe = refl
need_simple name needs.Several = refl
need_simple name needs.Any = refl
need_simple name (needs.Flag letter) = refl
need_simple name (needs.Value letter value) = refl

-- the kind of the words of an argument doesn't change how words are read
kind_simple : (editions : Bor (List (Bor (List ℕ)))) (kind : WordKind) (argument : Rule) → (kind_rule editions kind argument).is_simple ≡ argument.is_simple
kind_simple editions kinds.Edition argument = refl
kind_simple editions _ argument = refl

argument_simple : (editions : Bor (List (Bor (List ℕ)))) (argument : Argument) → (argument_rule editions argument).is_simple ≡ true
unfolding argument_rule
argument_simple editions argument = kind_simple editions argument.1 (need_rule argument.0 argument.2) ∙ need_simple argument.0 argument.2

-- the arguments of a command with `i + 1` parameters are those with `i`, followed by one more
more_arguments : (editions : Bor (List (Bor (List ℕ)))) (begun : Shape) (parameters : List Parameter) (i : ℕ) (other : Parameter) → i < length parameters
    → with_arguments editions begun (map argument_of (take (i + 1) parameters))
    ≡ with_argument (with_arguments editions begun (map argument_of (take i parameters))) (argument_rule editions (argument_of (get_or parameters i other)))
more_arguments editions begun parameters i other inside =
    let step = λ (command : Shape) (argument : Argument). with_argument command (argument_rule editions argument) in
    ap (λ (ps : List Parameter). with_arguments editions begun (map argument_of ps)) (take_more parameters i other inside)
    ∙ (ap (with_arguments editions begun) (map-append argument_of (take i parameters) (get_or parameters i other ∷ []))
    ∙ fold-append step begun (map argument_of (take i parameters)) (argument_of (get_or parameters i other) ∷ []))

pub adds_argument : (old new : Command) (argument : Arg) (editions : Bor (List (Bor (List ℕ)))) (begun : Shape) (parameters : List Parameter) (i : ℕ) (other : Parameter)
    → i < length parameters → AddsArg old argument new → rule argument ≡ argument_rule editions (argument_of (get_or parameters i other))
    → shape old ≡ with_arguments editions begun (map argument_of (take i parameters))
    → shape new ≡ with_arguments editions begun (map argument_of (take (i + 1) parameters))
unfolding rule
adds_argument old new argument editions begun parameters i other inside added known was =
    let parameter = get_or parameters i other in
    adds_rule old new argument (argument_rule editions (argument_of parameter)) added known (argument_simple editions (argument_of parameter))
    ∙ (ap (λ (s : Shape). with_argument s (argument_rule editions (argument_of parameter))) was
    ∙ sym (more_arguments editions begun parameters i other inside))

-- the option of all commands doesn't change how words are read
explain_simple : explain_rule.is_simple ≡ true
unfolding explain_rule
explain_simple = need_simple (codes "explain") (needs.Flag None)

-- adding the option of all commands to a command adds its rule
pub adds_option : {E : Type 0} (old : Command) (result : Result Command E) (option : Arg) (known : Shape) → IfOk result (λ new. AddsArg old option new)
    → rule option ≡ explain_rule → shape old ≡ known → IfOk result (λ new. shape new ≡ with_argument known explain_rule)
unfolding rule
adds_option old (Ok new) option known added is was =
    adds_rule old new option explain_rule added is explain_simple ∙ ap (λ (s : Shape). with_argument s explain_rule) was
adds_option old (Err e) option known added is was = tt

-- adding the option of all commands to the program adds its rule
pub adds_option_to_program : {E : Type 0} (old : Command) (result : Result Command E) (option : Arg) → IfOk result (λ new. AddsArg old option new)
    → rule option ≡ explain_rule → app old ≡ bare_program → IfOk result (λ new. app new ≡ program)
unfolding rule app program with_argument
adds_option_to_program old (Ok new) option added is was =
    let simple_option : is_simple_arg option ≡ true = ap (λ (r : Rule). r.is_simple) is ∙ explain_simple in
    added.shape (local option simple_option) ∙ ap₂ with_rule was is
adds_option_to_program old (Err e) option added is was = tt

-- adding texts to a command without arguments doesn't change how its words are read
pub starts : (new texts more : Command) (about after_help : Bor (List ℕ)) (name : List ℕ) → app_of new ≡ new_app name
    → out-Command texts ≡ record (out-Command new) { about = Some about } → out-Command more ≡ record (out-Command texts) { after_help = Some after_help }
    → shape more ≡ named_shape name
unfolding shape named_shape
starts new texts more about after_help name is texts_are more_are = ap shape_of_fields more_are ∙ (ap shape_of_fields texts_are ∙ ap (λ (a : App). a.top) is)

-- a text of the usage doesn't change how words are read
pub shows_usage : (old new : Command) (usage : Bor (List ℕ)) → out-Command new ≡ record (out-Command old) { usage_str = Some usage } → shape new ≡ shape old
unfolding shape
shows_usage old new usage is = ap shape_of_fields is

-- if the arguments of a command don't change how words are read, none of them is passed on to its subcommands
no_globals : (command : Command) → (shape_of command).is_plain ≡ true → (out-Command command).has_globals ≡ false
no_globals command plain = (plain_fields command plain).globals

-- a command with arguments from the table doesn't change how words are read
arguments_plain : (editions : Bor (List (Bor (List ℕ)))) (before : Shape) (arguments : List Argument) → before.is_plain ≡ true
    → (with_arguments editions before arguments).is_plain ≡ true
unfolding with_argument
arguments_plain editions before [] plain = plain
arguments_plain editions before (argument ∷ rest) plain = arguments_plain editions (with_argument before (argument_rule editions argument)) rest plain

verb_plain : (editions : Bor (List (Bor (List ℕ)))) (verb : Verb) → (verb_shape editions verb).is_plain ≡ true
unfolding verb_shape named_shape with_argument
verb_plain editions verb = arguments_plain editions (named_shape (verb_name verb)) (arguments_of verb) refl

-- adding a command with this shape to the program adds the shape
adds_command : (old command new : Command) (before : App) (known : Shape) → AddsSubcommand old command new → shape command ≡ known → known.is_plain ≡ true
    → app old ≡ before → app new ≡ with_command before known
unfolding shape app with_command
adds_command old command new before known added is plain was =
    added.shape (no_globals command (ap (λ (s : Shape). s.is_plain) is ∙ plain)) ∙ ap₂ with_subcommand was is

-- the program with `i + 1` commands is the one with `i`, with one more command added
more_commands : (editions : Bor (List (Bor (List ℕ)))) (begun : App) (verbs : List Verb) (i : ℕ) (other : Verb) → i < length verbs
    → with_commands editions begun (take (i + 1) verbs) ≡ with_command (with_commands editions begun (take i verbs)) (verb_shape editions (get_or verbs i other))
more_commands editions begun verbs i other inside =
    let step = λ (old : App) (v : Verb). with_command old (verb_shape editions v) in
    ap (with_commands editions begun) (take_more verbs i other inside) ∙ fold-append step begun (take i verbs) (get_or verbs i other ∷ [])

pub adds_verb : (old command new : Command) (editions : Bor (List (Bor (List ℕ)))) (begun : App) (verbs : List Verb) (i : ℕ) (other : Verb) → i < length verbs
    → AddsSubcommand old command new → shape command ≡ verb_shape editions (get_or verbs i other) → app old ≡ with_commands editions begun (take i verbs)
    → app new ≡ with_commands editions begun (take (i + 1) verbs)
adds_verb old command new editions begun verbs i other inside added known was =
    let verb = get_or verbs i other in
    adds_command old command new (with_commands editions begun (take i verbs)) (verb_shape editions verb) added known (verb_plain editions verb) was
    ∙ sym (more_commands editions begun verbs i other inside)

-- the program with its version and its texts, before its option and its commands are added, is `bare_program`
pub starts_program : (new versioned about more asking whole : Command) (version about_text after_help : Bor (List ℕ)) → app_of new ≡ new_app (codes "unixvol")
    → out-Command versioned ≡ record (out-Command new) { version = Some version }
    → out-Command about ≡ record (out-Command versioned) { about = Some about_text }
    → out-Command more ≡ record (out-Command about) { after_help = Some after_help }
    → out-Command asking ≡ record (out-Command more) { subcommand_required = true }
    → out-Command whole ≡ record (out-Command asking) { arg_required_else_help = true }
    → app whole ≡ bare_program
unfolding app bare_program
starts_program new versioned about more asking whole version about_text after_help is version_is about_is more_is asking_is whole_is =
    ap app_of_fields whole_is
    ∙ (ap (λ (f : Command-F Command). app_of_fields (record f { arg_required_else_help = true })) asking_is
    ∙ (ap (λ (f : Command-F Command). app_of_fields (record f { subcommand_required = true; arg_required_else_help = true })) more_is
    ∙ (ap (λ (f : Command-F Command). app_of_fields (record f { subcommand_required = true; arg_required_else_help = true })) about_is
    ∙ (ap (λ (f : Command-F Command). app_of_fields (record f { subcommand_required = true; arg_required_else_help = true })) version_is
    ∙ ap (λ (a : App). record a { top = record a.top { has_version = true; subcommand_required = true; arg_required_else_help = true } }) is))))
