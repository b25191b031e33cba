-- The lock class of a struct and a lock's name, and names of classes one after another.
use Rattle.std.proofs.Common.{◌≡◌, ◌∙◌, ℕ, List, [], ◌∷◌, ◌++◌, length, Option, Some, None, Bool, true, false, refl, sym, ap}
use Rattle.std.proofs.Common.{if◌then◌else◌, arith}
use Rattle.std.specs.Prelude.{is_some}
use Rattle.std.specs.Option.{option_or}
use Rattle.source.specs.declared.fault.Code.TheVariants.{DeclaredTwice}
use Rattle.syntax.specs.Trees.{ClassName, Ident, Struct, Decl, lock, struct, global, array, pool, init, atomic, helper, thread}
use Rattle.resolution.specs.declared.finding.Finding.{Finding}
use Rattle.resolution.specs.Scopes.{place_of, same_class, the_member}
use Rattle.resolution.specs.Working.FaultLists.{one_if, again, no_lock, no_lock_in}
use Rattle.resolution.specs.Working.TypedSections.{class_at, class_in}
use Rattle.types_symbols.specs.Working.Listed.{IsListOf, IsListedWith}
use Rattle.types_symbols.specs.Working.Views.{struct_in}
use Rattle.types_symbols.specs.declared.listed.Listed.{Listed}
use Rattle.types_symbols.proofs.Tables.{place-more}

module _ (decls : List Decl) (y : Ident) where
  abbrev pub class_of_struct : Option (ℕ × Struct) → Option ℕ
  class_of_struct (Some (i, s)) = class_at decls i s.members (the_member s.members y.text)
  class_of_struct None = None

  pub class_by_struct : (o : Option (ℕ × Decl)) → class_of_struct (struct_in o) ≡ class_in decls o y
  class_by_struct None = refl
  class_by_struct (Some (i, struct s)) = refl
  class_by_struct (Some (i, lock x)) = refl
  class_by_struct (Some (i, global v)) = refl
  class_by_struct (Some (i, array a)) = refl
  class_by_struct (Some (i, pool p)) = refl
  class_by_struct (Some (i, init j)) = refl
  class_by_struct (Some (i, atomic s)) = refl
  class_by_struct (Some (i, helper s)) = refl
  class_by_struct (Some (i, thread t)) = refl

  abbrev pub faults_of_struct : Option (ℕ × Struct) → List Finding
  faults_of_struct (Some (i, s)) = no_lock decls y.span.start (the_member s.members y.text)
  faults_of_struct None = []

  pub faults_by_struct : (o : Option (ℕ × Decl)) → faults_of_struct (struct_in o) ≡ no_lock_in decls o y
  faults_by_struct None = refl
  faults_by_struct (Some (i, struct s)) = refl
  faults_by_struct (Some (i, lock x)) = refl
  faults_by_struct (Some (i, global v)) = refl
  faults_by_struct (Some (i, array a)) = refl
  faults_by_struct (Some (i, pool p)) = refl
  faults_by_struct (Some (i, init j)) = refl
  faults_by_struct (Some (i, atomic s)) = refl
  faults_by_struct (Some (i, helper s)) = refl
  faults_by_struct (Some (i, thread t)) = refl

-- the names with one more class
pub listed_more : (cs : List ClassName) (c : ClassName) (old new : Listed) → IsListOf cs old → IsListedWith c old new →
    IsListOf (cs ++ c ∷ []) new
listed_more cs c old new h adds = λ d.
    adds d
    ∙ ap (λ (b : Bool). if same_class c d then true else b) (h d)
    ∙ by_test (same_class c d) (place_of same_class cs d)
    ∙ sym (ap is_some (place-more (λ e. same_class e d) cs c 0 (length cs) (omega arith)))
  where
    by_test : (b : Bool) (o : Option ℕ) →
        (if b then true else is_some o) ≡ is_some (option_or o (if b then Some (length cs) else None))
    by_test true None = refl
    by_test true (Some i) = refl
    by_test false None = refl
    by_test false (Some i) = refl

pub again_by : (b : Bool) (o : Option ℕ) (start : ℕ) → b ≡ is_some o → one_if b DeclaredTwice start ≡ again start o
again_by true None start e = absurd cc
again_by true (Some i) start e = refl
again_by false None start e = refl
again_by false (Some i) start e = absurd cc
