-- A command after one more argument or subcommand.
use Rattle.std.proofs.Common.{◌≡◌, ◌∙◌, ap, ap₂, refl, subst, true, false, Result}
use Rattle.std.specs.Prelude.{IfOk}
use Rattle.clap.specs.Words.{App, Rule, AddsArg, AddsSubcommand, is_simple, is_simple_and_free, rule_of, with_rule}
use Rattle.clap.specs.Words.{with_subcommand}
use Rattle.clap.specs.declared.builder.arg.Arg.{Arg}
use Rattle.clap.specs.declared.builder.command.Command.{Command}
use Rattle.driver_words.specs.Commands.{AddsRule, IsCommand, autolock}

pub arg_is : (old new : Command) (arg : Arg) (a : App) (r : Rule) → IsCommand a old → rule_of arg ≡ r →
    arg.global ≡ false
    → AddsArg old arg new → IsCommand (with_rule a r) new
arg_is old new arg a r is rule local adds =
    (adds.shape local ∙ ap₂ with_rule is.0 rule, adds.globals ∙ rw (is.1, local) refl)

pub subcommand_is : (old sub new : Command) (a b : App) → IsCommand a old → IsCommand b sub → AddsSubcommand old sub new
    → IsCommand (with_subcommand a b.top) new
subcommand_is old sub new a b is sub_is adds =
    (adds.shape sub_is.1 ∙ ap₂ with_subcommand is.0 (ap (λ (x : App). x.top) sub_is.0), adds.globals ∙ rw (is.1, sub_is.1) refl)

-- a command with an added argument is that with the argument's rule
pub added : {E : Type 0} (command result : Result Command E) (rule is : Rule) (a : App) → AddsRule command rule result → rule ≡ is
    → IfOk command (IsCommand a) → IfOk result (IsCommand (with_rule a is))
added command result rule is a adds same first =
    subst (λ (r : Rule). IfOk result (IsCommand (with_rule a r))) same (adds a first)

-- clap's definitions cover the command
pub is_simple-autolock : is_simple autolock ≡ true
is_simple-autolock = refl

-- clap's definitions cover the kinds of its errors
pub is_simple_and_free-autolock : is_simple_and_free autolock ≡ true
is_simple_and_free-autolock = refl
