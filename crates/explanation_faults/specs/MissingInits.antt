-- The final reference that no `init` sets in an object.
use Rattle.std.specs.Prelude.{◌≡◌, ◌<◌, ℕ, List, slice_get, Option, Some, None, IsSome}
use Rattle.resolution.specs.Constants.{given, initialised, members_of}
use Rattle.resolution.specs.Scopes.{the_member}
use Rattle.resolution.specs.Where.{Has}
use Rattle.source.specs.declared.span.Span.{Span}
use Rattle.syntax.specs.Trees.{Const, null_const, Final, Member, final_member, Pool, Init, Decl, pool, init}

-- ---- a missing `init`

-- the value that is given to a struct member, in the pool member with this index; the struct member and the pool are
-- given by their places
abbrev pub value_given : List Decl → ℕ → ℕ → ℕ → Option Const
value_given decls place member n = given decls (record { pool = place; index = n; member = member })

-- n is the first of `count` pool members to which no value is given for the struct member
pub record IsFirstWithout (decls : List Decl) (place member count n : ℕ) : Type 0 where
  pub within : n < count
  pub missing : value_given decls place member n ≡ None
  pub before : (k : ℕ) → k < n → IsSome (value_given decls place member k)

-- f is a final reference of the struct with these members that is not given to all pool members, and n is the first of
-- these
pub record IsMissing (decls : List Decl) (place : ℕ) (members : List Member) (count n : ℕ) (f : Final) : Type 0 where
  pub member : ℕ
  pub named : the_member members f.name.text ≡ Some (member, final_member f)
  pub first : IsFirstWithout decls place member count n

-- the pool's name starts at this byte, and such a final reference is missing for it
pub record IsGapOf (decls : List Decl) (place : ℕ) (p : Pool) (at n : ℕ) (f : Final) : Type 0 where
  pub starts : p.name.span.start ≡ at
  pub members : List Member
  pub of_struct : members_of decls p.target ≡ Some members
  pub missing : IsMissing decls place members p.length.value n f

-- the same for a pool of the program
pub record IsGap (decls : List Decl) (at : ℕ) (p : Pool) (n : ℕ) (f : Final) : Type 0 where
  pub place : ℕ
  pub listed : slice_get decls place ≡ Some (pool p)
  pub gap : IsGapOf decls place p at n f

-- ---- an `init` with null

-- an `init` whose null stands at this byte gives it to the final reference f
pub record IsNullGiven (decls : List Decl) (at : ℕ) (f : Final) : Type 0 where
  pub giver : Init
  pub listed : Has decls (init giver)
  pub span : Span
  pub value : giver.value ≡ null_const span
  pub starts : span.start ≡ at
  pub member : ℕ
  pub target : initialised decls giver ≡ Some (member, final_member f)
