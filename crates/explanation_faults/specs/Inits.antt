-- The first of the `init`s of one field.
use Rattle.std.specs.Prelude.{◌≡◌, ℕ, Bool, false, ◌==◌, ◌&&◌, List, take, slice_get, Some}
use Rattle.std.specs.Str.{bytes_eq}
use Rattle.syntax.specs.Trees.{Init, Decl, init}
use Rattle.resolution.specs.Scopes.{place_from}

-- both name the same field of the same member of the same pool
abbrev pub same_target : Init → Init → Bool
same_target i j = bytes_eq i.pool.text j.pool.text && (i.index.value == j.index.value) && bytes_eq i.field.text j.field.text

-- the declaration is an `init` of the same field
abbrev pub gives_same : Init → Decl → Bool
gives_same i (init j) = same_target i j
gives_same i _ = false

-- the first of the declarations that is an `init` of the same field as this one
pub record IsFirstGiver (decls : List Decl) (j first : Init) : Type 0 where
  pub number : ℕ
  pub found : place_from (gives_same j) 0 decls ≡ Some number
  pub is_first : slice_get decls number ≡ Some (init first)

-- an `init` starts at this byte, and this is the first of the earlier ones of the same field
pub record IsGivenFirst (decls : List Decl) (at : ℕ) (first : Init) : Type 0 where
  pub place : ℕ
  pub later : Init
  pub listed : slice_get decls place ≡ Some (init later)
  pub starts : later.start.start ≡ at
  pub giver : IsFirstGiver (take place decls) later first
