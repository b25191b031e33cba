use Rattle.std.proofs.Common.{◌≡◌, ◌∙◌, List, slice_get, subst, ap}
use Rattle.std.specs.Prelude.{option_map, map}
use Rattle.syntax.specs.declared.tree.Decl as rust
use Rattle.syntax.specs.declared.tree.Struct as tree
use Rattle.syntax.specs.Trees.{Struct}
use Rattle.syntax.specs.Views.{struct_of}
use Rattle.resolution.specs.Scopes.{the_struct}
use Rattle.types_symbols.specs.Working.Views.{decls_of}
use Rattle.types_symbols.proofs.Items.{item_seen}
use Rattle.types_symbols.proofs.declarations.Declarations.structure.Goals as goal

pub returns : goal.returns
returns c =
    subst (λ (ds : List rust.Decl). option_map (λ s. struct_of s.now) c.get.result ≡ the_struct (decls_of ds) c.args.number) c.self.view_is
    (item_seen struct_of c.deref.result.now c.args.number c.get.result c.get.ensures.lookup
    ∙ ap (λ (ss : List tree.Struct). slice_get (map struct_of ss) c.args.number) c.deref.ensures.value
    ∙ ap (λ (ss : List Struct). slice_get ss c.args.number) c.self.invariant.2)
