use Rattle.std.proofs.Common.{Some, None, ap, refl}
use Rattle.std.specs.Prelude.{option_map}
use Rattle.syntax.specs.Views.{ident, pool_of, struct_of}
use Rattle.resolution.specs.Scopes.{the_decl}
use Rattle.types_symbols.specs.Working.Given.{pool_in}
use Rattle.types_symbols.specs.Working.Views.{decls_of, members_seen}
use Rattle.types_symbols.proofs.Named.{members_given, struct_given}
use Rattle.types_symbols.proofs.first_inits.structure_given.Goals as goal

pub returns-in_err-structure : goal.returns-in_err-structure
returns-in_err-structure c =
    let decls = decls_of c.args.decls.now in
    let named = the_decl decls (ident c.args.i.now.pool).text in
    let place = c.in_ok-pool.field-0-0 in
    let p = pool_of c.in_ok-pool.pool.now in
    let none = c.from_residual-in_err-structure.ensures in
    record {
      structure = struct_given decls (pool_in named) place p None _ c.in_ok-pool.ensures c.in_err-structure.ensures (ap (option_map (λ s. struct_of s.now)) none);
      members = members_given decls named place p None _ c.in_ok-pool.ensures c.in_err-structure.ensures (ap (option_map (λ s. members_seen s.now)) none);
    }

pub returns : goal.returns
returns c =
    let decls = decls_of c.args.decls.now in
    let named = the_decl decls (ident c.args.i.now.pool).text in
    let place = c.in_ok-pool.field-0-0 in
    let p = pool_of c.in_ok-pool.pool.now in
    let s = struct_of c.in_ok-structure.structure.now in
    let found = Some (c.in_ok-structure.field-0-0, s) in
    record {
      structure = struct_given decls (pool_in named) place p found (Some s) c.in_ok-pool.ensures c.in_ok-structure.ensures refl;
      members = members_given decls named place p found (Some s.members) c.in_ok-pool.ensures c.in_ok-structure.ensures refl;
    }
