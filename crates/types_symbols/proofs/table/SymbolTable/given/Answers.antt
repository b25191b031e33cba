use Rattle.std.proofs.Common.{◌≡◌, ◌∙◌, ap, sym, List, Some}
use Rattle.std.specs.Prelude.{option_map, slice_get}
use Rattle.syntax.specs.declared.tree.Decl as rust
use Rattle.syntax.specs.Views.{decl_of}
use Rattle.resolution.specs.Scopes.{place_of}
use Rattle.resolution.specs.Constants.{gives, giver, value_in}
use Rattle.types_symbols.specs.Working.Views.{decls_of}
use Rattle.types_symbols.proofs.Given.{named_is}
use Rattle.types_symbols.proofs.table.SymbolTable.given.Goals as goal

-- the `init` that is found in the table is the one that gives it
pub returns : goal.returns
returns c =
    let ds = decls_of c.args.self.now in
    let place : place_of (gives ds) ds c.args.init_target ≡ Some c.in_ok-place.place =
    ap (λ (xs : List rust.Decl). place_of (gives (decls_of xs)) (decls_of xs) c.args.init_target) (sym c.self.view_is) ∙ sym (c.self.invariant.1 c.args.init_target) ∙ sym c.find.ensures ∙ c.in_ok-place.was in
    let here : slice_get ds c.in_ok-place.place ≡ Some (decl_of c.in_ok-decl.decl.now) =
    ap (λ (xs : List rust.Decl). slice_get (decls_of xs) c.in_ok-place.place) (sym c.self.view_is) ∙ sym c.decl_at.ensures ∙ ap (option_map (λ d. decl_of d.now)) c.in_ok-decl.was in
    let found : giver ds ds c.args.init_target ≡ Some (c.in_ok-place.place, decl_of c.in_ok-decl.decl.now) = named_is (gives ds) ds c.args.init_target _ _ place here in
    c.value_in.ensures ∙ ap value_in (sym found)
