use Rattle.std.proofs.Common.{◌≡◌, List, Some, None, subst}
use Rattle.syntax.specs.declared.tree.Decl as rust
use Rattle.syntax.specs.Views.{decl_of}
use Rattle.resolution.specs.Scopes.{bears, the_decl}
use Rattle.types_symbols.specs.Working.Views.{decls_of}
use Rattle.types_symbols.proofs.Finding.{found_is, found_none, found_past}
use Rattle.types_symbols.proofs.declarations.Declarations.find.Goals as goal

pub returns : goal.returns
returns c =
    let s = c.self.inside in
    subst (λ (ds : List rust.Decl). Some (c.in_ok-place.place, decl_of c.in_ok-decl.decl.now) ≡ the_decl (decls_of ds) c.args.name.now) c.self.view_is
    (found_is bears decl_of s.items.now s.names c.args.name.now c.self.invariant.0 c.find.result c.in_ok-place.place c.in_ok-decl.decl c.find.ensures c.in_ok-place.was c.in_ok-decl.ensures.lookup)

pub returns-in_err-place : goal.returns-in_err-place
returns-in_err-place c =
    let s = c.self.inside in
    rw c.from_residual.ensures
    (subst (λ (ds : List rust.Decl). None ≡ the_decl (decls_of ds) c.args.name.now) c.self.view_is
    (found_none bears decl_of s.items.now s.names c.args.name.now c.self.invariant.0 c.find.result c.find.ensures c.in_err-place.was))

pub returns-in_err-decl : goal.returns-in_err-decl
returns-in_err-decl c =
    let s = c.self.inside in
    rw c.from_residual-in_err-decl.ensures
    (subst (λ (ds : List rust.Decl). None ≡ the_decl (decls_of ds) c.args.name.now) c.self.view_is
    (found_past bears decl_of s.items.now s.names c.args.name.now c.self.invariant.0 c.find.result c.in_ok-place.place c.find.ensures c.in_ok-place.was c.in_err-decl.ensures.lookup))
