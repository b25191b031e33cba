-- A named lock, with names after it or none, and a named member, from which an annotation is walked.
use Rattle.std.proofs.Common.{◌≡◌, ◌∙◌, ℕ, List, [], ◌∷◌, Option, Some, None, Bool, true, false, length, ap, sym}
use Rattle.std.proofs.Common.{refl, arith}
use Rattle.std.specs.Prelude.{map, ◌==◌, Result, Ok, Err, IfOk, is_some, option_map}
use Rattle.std.proofs.lemmas.Bool.{eqb-true}
use Rattle.source.specs.declared.fault.Code.TheVariants.{ProtectedByNoLock}
use Rattle.syntax.specs.declared.tree.Name.{Name}
use Rattle.syntax.specs.Trees.{Protection, Ident, Decl, lock, Member}
use Rattle.syntax.specs.Views.{ident}
use Rattle.resolution.specs.Annotations.{AnnotationCursor, along, class_in, class_number, protection_by}
use Rattle.resolution.specs.Working.FaultLists.{annotation_faults, along_faults, global_lock_faults, one}

-- ---- a lock, with names after it or none

module _ (decls : List Decl) (o : Option (ℕ × Decl)) (place : ℕ) (x : Ident) (is : o ≡ Some (place, lock x)) where
  pub class_alone : (rest : List Name) (b : Bool) → b ≡ (length rest == 0) → b ≡ true →
      class_in decls o (map ident rest) ≡ Some (class_number decls place 0)
  class_alone [] b e t = ap (λ (p : Option (ℕ × Decl)). class_in decls p []) is
  class_alone (y ∷ ys) b e t = let z : length (y ∷ ys) ≡ 0 = eqb-true (length (y ∷ ys)) 0 (sym e ∙ t) in absurd (omega (arith, z))

  pub class_behind : (rest : List Name) (b : Bool) → b ≡ (length rest == 0) → b ≡ false →
      class_in decls o (map ident rest) ≡ None
  class_behind [] b e f = let bad : true ≡ false = sym e ∙ f in absurd cc
  class_behind (y ∷ ys) b e f = ap (λ (p : Option (ℕ × Decl)). class_in decls p (map ident (y ∷ ys))) is

  pub lock_alone : (start : ℕ) (rest : List Name) (b : Bool) → b ≡ (length rest == 0) → b ≡ true →
      global_lock_faults decls start o (map ident rest) ≡ []
  lock_alone start [] b e t = ap (λ (p : Option (ℕ × Decl)). global_lock_faults decls start p []) is
  lock_alone start (y ∷ ys) b e t = let z : length (y ∷ ys) ≡ 0 = eqb-true (length (y ∷ ys)) 0 (sym e ∙ t) in absurd (omega (arith, z))

  pub lock_behind : (start : ℕ) (rest : List Name) (b : Bool) → b ≡ (length rest == 0) → b ≡ false →
      global_lock_faults decls start o (map ident rest) ≡ one ProtectedByNoLock start
  lock_behind start [] b e f = let bad : true ≡ false = sym e ∙ f in absurd cc
  lock_behind start (y ∷ ys) b e f = ap (λ (p : Option (ℕ × Decl)). global_lock_faults decls start p (map ident (y ∷ ys))) is

-- ---- a member that is named, from which an annotation is walked

pub seen_some : {A B : Type 0} (view : A → B) (r : Option A) (o : Option B) → option_map view r ≡ o →
    is_some r ≡ true → is_some o ≡ true
seen_some view (Some x) o e t = sym (ap is_some e)
seen_some view None o e t = let bad : true ≡ false = sym t in absurd cc

module _ (decls : List Decl) (own : AnnotationCursor) (p : Protection) where
  pub along_own : (o : Option (ℕ × Member)) → is_some o ≡ true →
      protection_by decls own p o ≡ along decls (Some own) p.first p.rest
  along_own (Some m) t = refl
  along_own None t = let bad : true ≡ false = sym t in absurd cc

  pub faults_own : (o : Option (ℕ × Member)) → is_some o ≡ true →
      annotation_faults decls own p o ≡ along_faults decls p.first.span.start (Some own) p.first p.rest
  faults_own (Some m) t = refl
  faults_own None t = let bad : true ≡ false = sym t in absurd cc

pub if_ok_same : {A B E : Type 0} (view : A → B) (r : Result A E) (x y : B) → x ≡ y → IfOk r (λ a. view a ≡ x) →
    IfOk r (λ a. view a ≡ y)
if_ok_same view (Ok a) x y e h = h ∙ e
if_ok_same view (Err a) x y e h = tt
