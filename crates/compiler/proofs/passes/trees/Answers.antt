use Rattle.std.proofs.Common.{rules}
use Rattle.std.proofs.lemmas.List.{nil_from_length}
use Rattle.compiler.proofs.Alone.{alone_well_formed}
use Rattle.compiler.proofs.passes.trees.Goals as goal

-- a program without helpers is well formed, and its own expansion
pub returns-then-is_empty-clause-expanded : goal.returns-then-is_empty-clause-expanded
returns-then-is_empty-clause-expanded c =
    c.a_program_without_helpers_is_its_own_expansion.ensures c.args.accepted (alone_well_formed c.args.accepted c.requires
    (nil_from_length c.args.accepted.shape.helpers.items (search rules)))
