-- A checked program without helpers is well formed.
use Rattle.std.specs.Prelude.{◌≡◌, []}
use Rattle.core_lang.specs.declared.typed.Typed.{Typed}
use Rattle.core_lang.specs.WellFormed.{IsChecked, IsWellFormed}

pub alone_well_formed : (program : Typed) → IsChecked program → program.shape.helpers.items ≡ [] → IsWellFormed program
alone_well_formed program c none = record {
  within = c.within;
  laid_out = c.laid_out;
  protected = c.protected;
  opens = c.opens;
  sections = c.sections;
  scopes = c.scopes;
  helpers = none;
  scripts = c.scripts;
}
