use Rattle.std.proofs.Common.{◌≡◌, ℕ, List, Some, arith}
use Rattle.std.proofs.lemmas.Grind.{common_steps}
use Rattle.std.specs.Rc.{rc_str_bytes}
use Rattle.syntax.specs.Trees.{Decl, Struct, struct}
use Rattle.syntax.specs.Views.{struct_of}
use Rattle.resolution.specs.Scopes.{number_at, the_decl, the_struct}
use Rattle.resolution.specs.Theory.Facts.{decl_at, struct_at}
use Rattle.types_symbols.specs.Working.Views.{decls_of}
use Rattle.types_symbols.proofs.declarations.Declarations.struct_of.Goals as goal

-- a struct that is found by its name is found by its number
here : (decls : List Decl) (q : List ℕ) (place : ℕ) (s : Struct) → the_decl decls q ≡ Some (place, struct s) →
    the_struct decls (number_at decls place (struct s)) ≡ Some s
here decls q place s e = struct_at decls place s (decl_at decls q place (struct s) e)

pub returns-in_err-structure-in-Struct : goal.returns-in_err-structure-in-Struct
returns-in_err-structure-in-Struct c =
    let h = here (decls_of c.args.self.now) (rc_str_bytes c.args.name.now.text) c.in_ok-place.place (struct_of c.in-Struct.field-0) in
    grind (arith, common_steps, h)

pub returns-in_ok-structure-in-Struct : goal.returns-in_ok-structure-in-Struct
returns-in_ok-structure-in-Struct c =
    let h = here (decls_of c.args.self.now) (rc_str_bytes c.args.name.now.text) c.in_ok-place.place (struct_of c.in-Struct.field-0) in
    grind (arith, common_steps, h)
