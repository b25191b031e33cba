use Rattle.std.proofs.Common.{◌≡◌, List, Some, None, take, subst}
use Rattle.std.specs.Slice.{IsItemAt}
use Rattle.syntax.specs.declared.tree.Decl as rust
use Rattle.types_symbols.specs.declared.totals.Totals.{Totals}
use Rattle.types_symbols.specs.Working.Capped.{totals_of}
use Rattle.types_symbols.specs.Working.Views.{decls_of}
use Rattle.types_symbols.proofs.Ahead.{ahead_here, ahead_past}
use Rattle.types_symbols.proofs.table.SymbolTable.ahead_of.Goals as goal

pub returns-in-Some : goal.returns-in-Some
returns-in-Some c =
    let s = c.self.inside in
    let b = c.in-Some.totals in
    let here = subst (λ (cs : List Totals). IsItemAt cs c.args.place (Some b)) c.deref.ensures.value c.in-Some.ensures.lookup in
    subst (λ (x : List rust.Decl). b.now ≡ totals_of (decls_of x) (take c.args.place (decls_of x))) c.self.view_is
    (ahead_here (totals_of (decls_of s.decls)) (decls_of s.decls) s.ahead.items s.all c.args.place c.self.invariant.0 b here)

pub returns-in-None : goal.returns-in-None
returns-in-None c =
    let s = c.self.inside in
    let past = subst (λ (cs : List Totals). IsItemAt cs c.args.place None) c.deref.ensures.value c.in-None.ensures.lookup in
    subst (λ (x : List rust.Decl). s.all ≡ totals_of (decls_of x) (take c.args.place (decls_of x))) c.self.view_is
    (ahead_past (totals_of (decls_of s.decls)) (decls_of s.decls) s.ahead.items s.all c.args.place c.self.invariant.0 past)
