-- The kind of error for words that request nothing.
use Rattle.clap.specs.declared.error.kind.ErrorKind.{ErrorKind}
use Rattle.clap.specs.declared.error.kind.ErrorKind.TheVariants.{MissingSubcommand, ValueValidation}
use Rattle.driver_words.specs.declared.unasked.Unasked.{Unasked}
use Rattle.driver_words.specs.declared.unasked.Unasked.TheVariants.{NoCommand, NoCode, BadPrefix, BadColor}

abbrev pub kind_for : Unasked → ErrorKind
kind_for NoCommand = MissingSubcommand
kind_for NoCode = ValueValidation
kind_for BadPrefix = ValueValidation
kind_for BadColor = ValueValidation
