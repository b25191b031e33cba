use Rattle.std.proofs.Common.{◌≡◌, List, Some, None, subst}
use Rattle.std.specs.Slice.{IsItemAt}
use Rattle.resolution.specs.Scopes.{local_bears, the_local}
use Rattle.types_symbols.specs.declared.scope.Local as rust
use Rattle.types_symbols.specs.Working.Scoped.{KnownLocals, local_seen}
use Rattle.types_symbols.proofs.Finding.{found_is, found_none, found_past}
use Rattle.types_symbols.proofs.scope.Locals.find.Goals as goal

pub returns : goal.returns
returns c =
    let s = c.self.inside in
    let l = c.in_ok-local.local in
    let here = subst (λ (ls : List rust.Local). IsItemAt ls c.in_ok-place.place (Some l)) c.deref.ensures.value c.in_ok-local.ensures.lookup in
    subst (λ (k : KnownLocals). Some (c.in_ok-place.place, local_seen l.now) ≡ the_local k.locals c.args.name.now) c.self.view_is
    (found_is local_bears local_seen s.items.items s.names c.args.name.now c.self.invariant c.find.result c.in_ok-place.place l c.find.ensures c.in_ok-place.was here)

pub returns-in_err-place : goal.returns-in_err-place
returns-in_err-place c =
    let s = c.self.inside in
    rw c.from_residual.ensures
    (subst (λ (k : KnownLocals). None ≡ the_local k.locals c.args.name.now) c.self.view_is
    (found_none local_bears local_seen s.items.items s.names c.args.name.now c.self.invariant c.find.result c.find.ensures c.in_err-place.was))

pub returns-in_err-local : goal.returns-in_err-local
returns-in_err-local c =
    let s = c.self.inside in
    let past = subst (λ (ls : List rust.Local). IsItemAt ls c.in_ok-place.place None) c.deref.ensures.value c.in_err-local.ensures.lookup in
    rw c.from_residual-in_err-local.ensures
    (subst (λ (k : KnownLocals). None ≡ the_local k.locals c.args.name.now) c.self.view_is
    (found_past local_bears local_seen s.items.items s.names c.args.name.now c.self.invariant c.find.result c.in_ok-place.place c.find.ensures c.in_ok-place.was past))
