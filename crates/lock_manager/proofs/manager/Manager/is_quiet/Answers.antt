use Rattle.std.specs.Prelude.{◌↔◌, IsTrue}
use Rattle.std.proofs.Common.{subst}
use Rattle.lock_manager.specs.Manager.{Managed, IsQuiet}
use Rattle.lock_manager.proofs.manager.Manager.is_quiet.Goals as goal

pub returns : goal.returns
returns c = subst (λ (m : Managed). IsTrue c.are_none.result ↔ IsQuiet m) c.self.view_is c.are_none.ensures
