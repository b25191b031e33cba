use Rattle.std.proofs.Common.{◌∙◌, ap, sym, inl, inr}
use Rattle.syntax.specs.Views.{member_of, struct_of, pool_of, ident}
use Rattle.resolution.specs.Constants.{init_target_at}
use Rattle.resolution.specs.Scopes.{the_decl, the_member}
use Rattle.types_symbols.specs.Working.Views.{decls_of, members_seen}
use Rattle.types_symbols.specs.Theory.Steps.{found_as, missed_as}
use Rattle.types_symbols.proofs.Named.{of_struct, of_no_struct}
use Rattle.types_symbols.proofs.first_inits.init_target_of.Goals as goal

pub returns-in-Final : goal.returns-in-Final
returns-in-Final c =
    let decls = decls_of c.args.decls.now in
    let i = c.args.i.now in
    let place = c.in_ok-place.place in
    let s = c.in_ok-structure.structure.now in
    let m = c.in_ok-member in
    let there = of_struct decls (the_decl decls (ident i.pool).text) place (pool_of c.in_ok-place.pool.now) c.in_ok-place.ensures i.index.value (ident i.field).text c.if-i-pool.false c.in_ok-structure.field-0-0 (struct_of s) c.in_ok-structure.ensures in
    elim c.in-Final.is [
      | inl h ↦ sym (there ∙ ap (init_target_at place i.index.value) (found_as member_of (the_member (members_seen s)) c.as_str.result.now _ c.as_str.ensures.value m.member m.m.now _ m.ensures h.1))
      | inr h ↦ sym (there ∙ ap (init_target_at place i.index.value) (found_as member_of (the_member (members_seen s)) c.as_str.result.now _ c.as_str.ensures.value m.member m.m.now _ m.ensures h.1))
    ]

pub returns-in-Lock : goal.returns-in-Lock
returns-in-Lock c =
    let decls = decls_of c.args.decls.now in
    let i = c.args.i.now in
    let place = c.in_ok-place.place in
    let s = c.in_ok-structure.structure.now in
    let m = c.in_ok-member in
    sym (of_struct decls (the_decl decls (ident i.pool).text) place (pool_of c.in_ok-place.pool.now) c.in_ok-place.ensures i.index.value (ident i.field).text c.if-i-pool.false c.in_ok-structure.field-0-0 (struct_of s) c.in_ok-structure.ensures
    ∙ ap (init_target_at place i.index.value) (found_as member_of (the_member (members_seen s)) c.as_str.result.now _ c.as_str.ensures.value m.member m.m.now _ m.ensures c.in-Lock.is))

pub returns-in_err-member : goal.returns-in_err-member
returns-in_err-member c =
    let decls = decls_of c.args.decls.now in
    let i = c.args.i.now in
    let place = c.in_ok-place.place in
    let s = c.in_ok-structure.structure.now in
    c.from_residual-in_err-member.ensures
    ∙ sym (of_struct decls (the_decl decls (ident i.pool).text) place (pool_of c.in_ok-place.pool.now) c.in_ok-place.ensures i.index.value (ident i.field).text c.if-i-pool.false c.in_ok-structure.field-0-0 (struct_of s) c.in_ok-structure.ensures
    ∙ ap (init_target_at place i.index.value) (missed_as member_of (the_member (members_seen s)) c.as_str.result.now _ c.as_str.ensures.value c.in_err-member.ensures))

pub returns-in_err-structure : goal.returns-in_err-structure
returns-in_err-structure c =
    let decls = decls_of c.args.decls.now in
    let i = c.args.i.now in
    c.from_residual-in_err-structure.ensures
    ∙ sym (of_no_struct decls (the_decl decls (ident i.pool).text) c.in_ok-place.place (pool_of c.in_ok-place.pool.now) c.in_ok-place.ensures i.index.value (ident i.field).text c.if-i-pool.false c.in_err-structure.ensures)
