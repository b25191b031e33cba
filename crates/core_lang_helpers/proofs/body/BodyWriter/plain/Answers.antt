use Rattle.std.proofs.Common.{subst, refl, sym}
use Rattle.core_lang.specs.declared.tree.Action.{Action, SetField}
use Rattle.core_lang.specs.Expansion.{Writes, one}
use Rattle.core_lang_helpers.specs.Working.Scopes.{at_of}
use Rattle.core_lang_helpers.specs.Working.Bodies.{bodies}
use Rattle.core_lang_helpers.proofs.body.BodyWriter.plain.Goals as goal

pub returns-in_ok-value-in-SetField-clause-written : goal.returns-in_ok-value-in-SetField-clause-written
returns-in_ok-value-in-SetField-clause-written c fresh start =
    let a = at_of c.args.scope.now fresh in
    subst (λ (y : Action). Writes (bodies c.args.self.now) y start a (one start (SetField c.in_ok-base-in-SetField.base c.in-SetField.structure c.in-SetField.field c.in_ok-value-in-SetField.value)) a) (sym c.in-SetField.is)
    (c.in_ok-base-in-SetField.base, c.in_ok-value-in-SetField.value, c.in_ok-base-in-SetField.ensures, c.in_ok-value-in-SetField.ensures, refl, refl)
