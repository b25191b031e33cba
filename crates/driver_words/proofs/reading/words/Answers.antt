use Rattle.std.proofs.Common.{◌≡◌, ◌∙◌, ap, sym, subst, map, inl, inr, List, [], Option}
use Rattle.std.proofs.lemmas.Result.{err_from_is_err_and}
use Rattle.clap.specs.Words.{App, HasKind, HasMatchesOf, Row, Text, fault_of, is_simple, is_simple_and_free}
use Rattle.clap.specs.Words.{subcommand_of, subcommand_rows_of}
use Rattle.clap.specs.declared.parser.matches.ArgMatches.{ArgMatches}
use Rattle.driver_words.specs.Commands.{autolock}
use Rattle.driver_words.specs.Lines.{IsLineOf, IsUnaskedOf}
use Rattle.driver_words.proofs.CommandLemmas.{is_simple-autolock, is_simple_and_free-autolock}
use Rattle.driver_words.proofs.reading.words.Goals as goal

-- the subcommand that the words name by clap's definitions is the one that the matches have
met_is : (app : App) (words : List Text) (m : ArgMatches) → app ≡ autolock → HasMatchesOf app words m →
    subcommand_rows_of m ≡ subcommand_of autolock words
met_is app words m app_is has =
    (has (ap is_simple app_is ∙ is_simple-autolock)).1 ∙ ap (λ (a : App). subcommand_of a words) app_is

pub returns-in-Ok-clause-line : goal.returns-in-Ok-clause-line
returns-in-Ok-clause-line c =
    let given = met_is _ _ _ c.in_ok-command.ensures.0 c.in_ok-matches.ensures.ok.2 in
    subst (λ (o : Option (Text × List Row)). IsLineOf o c.in-Ok.line) given c.in-Ok.ensures.line

pub returns-in-Ok-clause-accepted : goal.returns-in-Ok-clause-accepted
returns-in-Ok-clause-accepted c =
    let app_is = c.in_ok-command.ensures.0 in
    subst (λ (a : App). fault_of a (map (λ word. word.now) c.args.words.now) ≡ []) app_is
    (c.in_ok-matches.ensures.kinds (ap is_simple_and_free app_is ∙ is_simple_and_free-autolock))

pub returns-in_err-matches-clause-refused : goal.returns-in_err-matches-clause-refused
returns-in_err-matches-clause-refused c =
    let app_is = c.in_ok-command.ensures.0 in
    let p = err_from_is_err_and c.from_residual-in_err-matches.result c.from_residual-in_err-matches.ensures.1 in
    let kinds = c.in_err-matches.ensures.kinds (ap is_simple_and_free app_is ∙ is_simple_and_free-autolock) in
    rw (p.1, p.2)
    (inl (subst (λ (a : App). HasKind (fault_of a (map (λ word. word.now) c.args.words.now)) c.in_err-matches.field-0.0) app_is kinds))

pub returns-clause-refused : goal.returns-clause-refused
returns-clause-refused c =
    let given = met_is _ _ _ c.in_ok-command.ensures.0 c.in_ok-matches.ensures.ok.2 in
    inr record {
      why = c.in-Err.unasked;
      unasked = subst (λ (o : Option (Text × List Row)). IsUnaskedOf o c.in-Err.unasked) given c.in-Err.ensures.unasked;
      kind = c.in_ok-error-in-Err.ensures.kind ∙ c.kind.ensures;
    }
