-- The subcommand that a parse met, from its name and its rows.
use Rattle.std.proofs.Common.{◌≡◌, List, Option, Some, None, refl}
use Rattle.std.specs.Prelude.{option_map, Box}
use Rattle.std.specs.Box.{box_value}
use Rattle.clap.specs.Words.{Row, Text, subcommand_rows}
use Rattle.clap.specs.declared.parser.matches.SubCommand.{SubCommand}
use Rattle.clap.specs.declared.parser.matches.ArgMatches.TheViews.{out-SubCommand}

pub met_rows : {Z : Type 0} (o : Option (Box SubCommand Z)) (name : Text) (rows : List Row)
    → option_map (λ b. (out-SubCommand (box_value b)).name.now) o ≡ Some name
    → option_map (λ p. p.1) (subcommand_rows o) ≡ Some rows → subcommand_rows o ≡ Some (name, rows)
met_rows None name rows named given = cc
met_rows (Some b) name rows named given = cc

-- if no rows are seen, no subcommand was met
pub not_met : {Z : Type 0} (o : Option (Box SubCommand Z)) → option_map (λ p. p.1) (subcommand_rows o) ≡ None →
    subcommand_rows o ≡ None
not_met None given = refl
not_met (Some b) given = cc
