-- Structs among declarations, and their members, one after another.
use Rattle.std.proofs.Common.{◌≡◌, ℕ, ◌≤◌, List, [], ◌∷◌, ◌++◌, Option, Some, None, Bool, true, false, refl, sym, ap}
use Rattle.std.proofs.Common.{◌∙◌, arith}
use Rattle.std.proofs.lemmas.List.{map-append, append-nil}
use Rattle.std.specs.Prelude.{is_some, not, map}
use Rattle.source.specs.declared.fault.Code.TheVariants.{DeclaredTwice}
use Rattle.resolution.specs.declared.finding.Finding.{Finding}
use Rattle.resolution.specs.Working.Findings.{Firsts, found_in}
use Rattle.syntax.specs.declared.tree.Decl as rust
use Rattle.syntax.specs.declared.tree.Decl.TheVariants as variant
use Rattle.syntax.specs.declared.tree.Struct as rust_struct
use Rattle.syntax.specs.Trees.{Decl, lock, struct, global, array, pool, init, atomic, helper, thread, Struct, Member}
use Rattle.syntax.specs.Trees.{lock_member, final_member, field_member}
use Rattle.syntax.specs.Views.{decl_of, struct_of}
use Rattle.resolution.specs.Scopes.{structs_in}
use Rattle.resolution.specs.Numbers.{new_field}
use Rattle.resolution.specs.Working.FaultLists.{one_if, again, member_twice_faults, struct_faults}
use Rattle.types_symbols.specs.Working.Counted.{field_if}
use Rattle.types_symbols.specs.Working.Views.{AreStructures}

pub again_if : (b : Bool) (o : Option ℕ) (start : ℕ) → is_some o ≡ not b →
    one_if (not b) DeclaredTwice start ≡ again start o
again_if true None start e = refl
again_if true (Some i) start e = absurd (cc)
again_if false None start e = absurd (cc)
again_if false (Some i) start e = refl

pub field_is : (b : Bool) (o : Option ℕ) (m : Member) → is_some o ≡ not b → field_if b m ≡ new_field o m
field_is true None (lock_member x) e = refl
field_is true None (final_member f) e = refl
field_is true None (field_member f) e = refl
field_is true (Some i) m e = absurd (cc)
field_is false None m e = absurd (cc)
field_is false (Some i) (lock_member x) e = refl
field_is false (Some i) (final_member f) e = refl
field_is false (Some i) (field_member f) e = refl

pub field_le : (b : Bool) (m : Member) → field_if b m ≤ 1
field_le true (lock_member x) = omega arith
field_le true (final_member f) = omega arith
field_le true (field_member f) = omega arith
field_le false (lock_member x) = omega arith
field_le false (final_member f) = omega arith
field_le false (field_member f) = omega arith

structs_push : (ds : List Decl) (d : Decl) → structs_in (ds ++ d ∷ []) ≡ structs_in ds ++ structs_in (d ∷ [])
structs_push [] d = refl
structs_push (lock x ∷ ds) d = structs_push ds d
structs_push (struct x ∷ ds) d = ap (λ (l : List Struct). x ∷ l) (structs_push ds d)
structs_push (global x ∷ ds) d = structs_push ds d
structs_push (array x ∷ ds) d = structs_push ds d
structs_push (pool x ∷ ds) d = structs_push ds d
structs_push (init x ∷ ds) d = structs_push ds d
structs_push (atomic x ∷ ds) d = structs_push ds d
structs_push (helper x ∷ ds) d = structs_push ds d
structs_push (thread x ∷ ds) d = structs_push ds d

-- the structures with those that a declaration adds
pub structures_more : (ds : List Decl) (d : Decl) (ss new : List rust_struct.Struct) →
    map struct_of new ≡ map struct_of ss ++ structs_in (d ∷ []) → AreStructures ds ss →
    AreStructures (ds ++ d ∷ []) new
structures_more ds d ss new made all = made ∙ ap (λ (l : List Struct). l ++ structs_in (d ∷ [])) all ∙ sym (structs_push ds d)

pub faults_more : (d : Decl) (ds : List Decl) → struct_faults (d ∷ []) ++ struct_faults ds ≡ struct_faults (d ∷ ds)
faults_more (lock x) ds = refl
faults_more (struct s) ds = ap (λ (l : List Finding). l ++ struct_faults ds) (append-nil (member_twice_faults [] s.members))
faults_more (global x) ds = refl
faults_more (array x) ds = refl
faults_more (pool x) ds = refl
faults_more (init x) ds = refl
faults_more (atomic x) ds = refl
faults_more (helper x) ds = refl
faults_more (thread x) ds = refl

-- a struct
module _ (d : rust.Decl) (x : rust_struct.Struct) where
  pub structure_added : (y : rust_struct.Struct) (ss new : List rust_struct.Struct) → d ≡ variant.Struct x → y ≡ x →
      new ≡ ss ++ y ∷ [] → map struct_of new ≡ map struct_of ss ++ structs_in (decl_of d ∷ [])
  structure_added y ss new is same made =
      ap (map struct_of) made ∙ map-append struct_of ss (y ∷ []) ∙ ap (λ (z : rust_struct.Struct). map struct_of ss ++ struct_of z ∷ []) same
      ∙ ap (λ (e : rust.Decl). map struct_of ss ++ structs_in (decl_of e ∷ [])) (sym is)

  pub structure_blamed : (f g : Firsts) → d ≡ variant.Struct x →
      g ≡ found_in f (member_twice_faults [] (struct_of x).members) → g ≡ found_in f (struct_faults (decl_of d ∷ []))
  structure_blamed f g is noted =
      noted ∙ ap (found_in f) (sym (append-nil (member_twice_faults [] (struct_of x).members))) ∙ ap (λ (e : rust.Decl). found_in f (struct_faults (decl_of e ∷ []))) (sym is)

-- a declaration that is not a struct has none
none_struct : (d : rust.Decl) → ((x : rust_struct.Struct) → d ≡ variant.Struct x → ⊥) → structs_in (decl_of d ∷ []) ≡ []
none_struct (variant.Lock x) h = refl
none_struct (variant.Struct x) h = absurd (h x refl)
none_struct (variant.Global x) h = refl
none_struct (variant.Array x) h = refl
none_struct (variant.Pool x) h = refl
none_struct (variant.Init x) h = refl
none_struct (variant.Atomic x) h = refl
none_struct (variant.Helper x) h = refl
none_struct (variant.Thread x) h = refl

pub none_added : (d : rust.Decl) (ss : List rust_struct.Struct) →
    ((x : rust_struct.Struct) → d ≡ variant.Struct x → ⊥) →
    map struct_of ss ≡ map struct_of ss ++ structs_in (decl_of d ∷ [])
none_added d ss other = sym (ap (λ (l : List Struct). map struct_of ss ++ l) (none_struct d other) ∙ append-nil (map struct_of ss))

pub none_blamed : (d : rust.Decl) (f : Firsts) → ((x : rust_struct.Struct) → d ≡ variant.Struct x → ⊥) →
    f ≡ found_in f (struct_faults (decl_of d ∷ []))
none_blamed (variant.Lock x) f h = refl
none_blamed (variant.Struct x) f h = absurd (h x refl)
none_blamed (variant.Global x) f h = refl
none_blamed (variant.Array x) f h = refl
none_blamed (variant.Pool x) f h = refl
none_blamed (variant.Init x) f h = refl
none_blamed (variant.Atomic x) f h = refl
none_blamed (variant.Helper x) f h = refl
none_blamed (variant.Thread x) f h = refl
