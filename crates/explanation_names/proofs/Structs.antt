-- A struct in its place among the declarations.
use Rattle.std.proofs.Common.{◌≡◌, ◌∙◌, ℕ, List, Some, None, ap}
use Rattle.std.specs.Prelude.{slice_get}
use Rattle.std.proofs.lemmas.Option.{same_Some}
use Rattle.resolution.specs.Theory.Facts.{struct_at}
use Rattle.resolution.specs.Scopes.{number_at, the_struct}
use Rattle.syntax.specs.declared.tree.Decl as written
use Rattle.syntax.specs.declared.tree.Decl.TheVariants as variant
use Rattle.syntax.specs.declared.tree.Struct as written_struct
use Rattle.syntax.specs.Trees.{Decl, Struct}
use Rattle.syntax.specs.Views.{decl_of, struct_of}

module _ (decls : List Decl) (place number : ℕ) (d : written.Decl) (s : written_struct.Struct) (there : slice_get decls place ≡ Some (decl_of d))
    (is : d ≡ variant.Struct s) (at : number ≡ number_at decls place (decl_of d)) where
  -- a struct is found by its number
  numbered : the_struct decls number ≡ Some (struct_of s)
  numbered =
      ap (the_struct decls) (at ∙ ap (λ (x : written.Decl). number_at decls place (decl_of x)) is)
      ∙ struct_at decls place (struct_of s) (there ∙ ap (λ (x : written.Decl). Some (decl_of x)) is)

  pub struct_found : (t : Struct) → Some t ≡ the_struct decls number → t ≡ struct_of s
  struct_found t found = same_Some t (struct_of s) (found ∙ numbered)

  pub struct_missed : None ≡ the_struct decls number → ⊥
  struct_missed none = let e : None ≡ Some (struct_of s) = none ∙ numbered in cc
