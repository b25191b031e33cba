use Rattle.std.proofs.Common.{◌≡◌, List, Some, None, take, subst}
use Rattle.std.specs.Slice.{IsItemAt}
use Rattle.syntax.specs.declared.tree.Decl as rust
use Rattle.types_symbols.specs.declared.declarations.Counts.{Counts}
use Rattle.types_symbols.specs.Working.Counted.{counts_from, no_counts}
use Rattle.types_symbols.specs.Working.Views.{decls_of}
use Rattle.types_symbols.proofs.Ahead.{ahead_here, ahead_past}
use Rattle.types_symbols.proofs.declarations.Declarations.ahead_of.Goals as goal

pub returns-in-Some : goal.returns-in-Some
returns-in-Some c =
    let s = c.self.inside in
    let b = c.in-Some.counts in
    let here = subst (λ (cs : List Counts). IsItemAt cs c.args.place (Some b)) c.deref.ensures.value c.in-Some.ensures.lookup in
    subst (λ (x : List rust.Decl). b.now ≡ counts_from no_counts (take c.args.place (decls_of x))) c.self.view_is
    (ahead_here (counts_from no_counts) (decls_of s.items.now) s.ahead.items s.all c.args.place c.self.invariant.1 b here)

pub returns-in-None : goal.returns-in-None
returns-in-None c =
    let s = c.self.inside in
    let past = subst (λ (cs : List Counts). IsItemAt cs c.args.place None) c.deref.ensures.value c.in-None.ensures.lookup in
    subst (λ (x : List rust.Decl). s.all ≡ counts_from no_counts (take c.args.place (decls_of x))) c.self.view_is
    (ahead_past (counts_from no_counts) (decls_of s.items.now) s.ahead.items s.all c.args.place c.self.invariant.1 past)
