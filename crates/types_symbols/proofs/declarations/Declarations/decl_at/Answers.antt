use Rattle.std.proofs.Common.{◌≡◌, List, slice_get, subst}
use Rattle.std.specs.Prelude.{option_map}
use Rattle.syntax.specs.declared.tree.Decl as rust
use Rattle.syntax.specs.Views.{decl_of}
use Rattle.types_symbols.specs.Working.Views.{decls_of}
use Rattle.types_symbols.proofs.Items.{item_seen}
use Rattle.types_symbols.proofs.declarations.Declarations.decl_at.Goals as goal

pub returns : goal.returns
returns c =
    subst (λ (ds : List rust.Decl). option_map (λ d. decl_of d.now) c.get.result ≡ slice_get (decls_of ds) c.args.place) c.self.view_is
    (item_seen decl_of c.self.inside.items.now c.args.place c.get.result c.get.ensures.lookup)
