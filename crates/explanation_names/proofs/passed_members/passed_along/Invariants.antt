use Rattle.std.proofs.Common.{◌≡◌, map, drop}
use Rattle.std.specs.Option.{option_map}
use Rattle.types_symbols.specs.Working.Views.{decls_of}
use Rattle.syntax.specs.Views.{ident}
use Rattle.explanation_names.specs.Working.PassedFound.{met_along}
use Rattle.explanation_names.specs.Working.Viewed.{members_behind}
use Rattle.explanation_names.proofs.passed_members.passed_along.Given as goal

abbrev pub invariant-loop-passed : goal.invariant-loop-passed
invariant-loop-passed l =
    met_along l.sought (decls_of l.symbols) (ident l.protection.first) l.passed (option_map members_behind l.structure) (ident l.name)
    (map ident (drop l.passed l.protection.rest.items))
    ≡ met_along l.sought (decls_of l.symbols) (ident l.protection.first) 0 (option_map members_behind l.fn.structure) (ident l.protection.first)
    (map ident l.protection.rest.items)
