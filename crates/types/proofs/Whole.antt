-- A struct in its place among the declarations.
use Rattle.std.proofs.Common.{◌≡◌, ℕ, List, Option, Some, None, ap, ◌∙◌}
use Rattle.std.specs.Prelude.{slice_get}
use Rattle.syntax.specs.declared.tree.Decl as rust
use Rattle.syntax.specs.declared.tree.Decl.TheVariants as variant
use Rattle.syntax.specs.declared.tree.Struct as rust_struct
use Rattle.syntax.specs.Trees.{Decl, Struct}
use Rattle.syntax.specs.Views.{decl_of, struct_of}
use Rattle.resolution.specs.Scopes.{number_at, the_struct}
use Rattle.resolution.specs.Theory.Facts.{struct_at}

pub at_place : (decls : List Decl) (place number : ℕ) (d : rust.Decl) (s : rust_struct.Struct) (o : Option Struct) →
    slice_get decls place ≡ Some (decl_of d) → d ≡ variant.Struct s → number ≡ number_at decls place (decl_of d) →
    o ≡ the_struct decls number → o ≡ Some (struct_of s)
at_place decls place number d s o there is at found =
    found ∙ ap (the_struct decls) (at ∙ ap (λ x. number_at decls place (decl_of x)) is) ∙ struct_at decls place (struct_of s) (there ∙ ap (λ x. Some (decl_of x)) is)

pub none_some : {A : Type 0} (y : A) → None ≡ Some y → ⊥
none_some y e = cc
