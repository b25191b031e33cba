use Rattle.std.proofs.Common.{◌≡◌, Some, sym, ◌∙◌}
use Rattle.resolution.specs.Tables.{nothing_yet}
use Rattle.resolution.proofs.Ruled.{all_built}
use Rattle.resolution.proofs.laws.one_program.Goals as goal

pub returns : goal.returns
returns c = λ decls p q a b.
    let both : Some p ≡ Some q =
    sym (all_built decls 0 decls nothing_yet p a) ∙ all_built decls 0 decls nothing_yet q b in
    cc
