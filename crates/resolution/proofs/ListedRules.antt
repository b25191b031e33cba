-- The code computes for listed lock classes the results of the rules.
use Rattle.std.proofs.Common.{◌≡◌, ℕ, List, [], ◌∷◌, Option, Some, None, refl, ap, ◌∙◌}
use Rattle.syntax.specs.Trees.{ClassName, Struct, Member, lock_member, final_member, field_member, Decl, lock, struct}
use Rattle.syntax.specs.Trees.{global, array, pool, init, atomic, helper, thread}
use Rattle.resolution.specs.Scopes.{the_decl, the_member}
use Rattle.resolution.specs.Typing.{NamesClass, names_class, TypesListed, no_class, one_class}
use Rattle.resolution.specs.Working.TypedConstants.{added}
use Rattle.resolution.specs.Working.TypedSections.{class_at, class_in, class_named, classes_named}
use Rattle.resolution.proofs.ExpressionRules.{When}

module _ (decls : List Decl) where
  member_names : (c : ClassName) (i : ℕ) (s : Struct) → the_decl decls c.structure.text ≡ Some (i, struct s) →
      (o : Option (ℕ × Member)) → the_member s.members c.lock.text ≡ o →
      When (NamesClass decls c) (class_at decls i s.members o)
  member_names c i s at None is = tt
  member_names c i s at (Some (j, lock_member x)) is = names_class at is
  member_names c i s at (Some (j, final_member f)) is = tt
  member_names c i s at (Some (j, field_member f)) is = tt

  decl_names : (c : ClassName) (o : Option (ℕ × Decl)) → the_decl decls c.structure.text ≡ o →
      When (NamesClass decls c) (class_in decls o c.lock)
  decl_names c None is = tt
  decl_names c (Some (i, struct s)) is = member_names c i s is (the_member s.members c.lock.text) refl
  decl_names c (Some (i, lock x)) is = tt
  decl_names c (Some (i, global v)) is = tt
  decl_names c (Some (i, array a)) is = tt
  decl_names c (Some (i, pool p)) is = tt
  decl_names c (Some (i, init j)) is = tt
  decl_names c (Some (i, atomic s)) is = tt
  decl_names c (Some (i, helper s)) is = tt
  decl_names c (Some (i, thread t)) is = tt

  one_more : (c : ClassName) (cs : List ClassName) (o : Option ℕ) → When (NamesClass decls c) o →
      (rest : Option (List ℕ)) → When (TypesListed decls cs) rest → When (TypesListed decls (c ∷ cs)) (added o rest)
  one_more c cs None h rest k = tt
  one_more c cs (Some n) h None k = tt
  one_more c cs (Some n) h (Some ns) k = one_class h k

  pub listed_types : (cs : List ClassName) → When (TypesListed decls cs) (classes_named decls cs)
  listed_types [] = no_class
  listed_types (c ∷ cs) =
      one_more c cs (class_named decls c) (decl_names c (the_decl decls c.structure.text) refl)
      (classes_named decls cs) (listed_types cs)

class_is : {decls : List Decl} {c : ClassName} {n : ℕ} → NamesClass decls c n → class_named decls c ≡ Some n
class_is {decls = decls} (names_class {c = c} {i = i} {s = s} at is) =
    ap (λ (o : Option (ℕ × Decl)). class_in decls o c.lock) at ∙ ap (class_at decls i s.members) is

pub listed_are : {decls : List Decl} {cs : List ClassName} {ns : List ℕ} → TypesListed decls cs ns →
    classes_named decls cs ≡ Some ns
listed_are no_class = refl
listed_are {decls = decls} (one_class {n = n} {cs = cs} c k) =
    ap (λ (o : Option ℕ). added o (classes_named decls cs)) (class_is c) ∙ ap (added (Some n)) (listed_are k)
