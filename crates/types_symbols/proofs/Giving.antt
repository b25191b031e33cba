-- The targets of `init`s, one declaration after another.
use Rattle.std.proofs.Common.{◌≡◌, ℕ, ◌+◌, List, [], ◌∷◌, ◌++◌, Option, Some, None, Bool, true, length, refl, sym, ap}
use Rattle.std.proofs.Common.{◌∙◌, arith, if◌then◌else◌}
use Rattle.std.specs.Prelude.{slice_get, is_some}
use Rattle.std.specs.Option.{option_or}
use Rattle.resolution.specs.declared.init_target.InitTarget.{InitTarget}
use Rattle.syntax.specs.Trees.{Decl, lock, struct, global, array, pool, init, atomic, helper, thread}
use Rattle.resolution.specs.Scopes.{◌>>=◌, place_of, place_from}
use Rattle.resolution.specs.Constants.{init_target_of, gives}
use Rattle.resolution.specs.Theory.Facts.{passing}
use Rattle.resolution.specs.Working.FaultLists.{given_before, init_target_again, repeated}
use Rattle.types_symbols.specs.declared.first_inits.FirstInits.{FirstInits}
use Rattle.types_symbols.specs.Working.Given.{init_target_found, IsInitTargetTable, again_given, repeated_in}
use Rattle.types_symbols.proofs.Tables.{place-more}

pub init_targets_more : (decls ds : List Decl) (d : Decl) (place : ℕ) (old new : FirstInits) → place ≡ length ds →
    IsInitTargetTable decls ds old →
    ((g : InitTarget) → init_target_found new g ≡ option_or (init_target_found old g) (if gives decls d g then Some place else None)) → IsInitTargetTable decls (ds ++ d ∷ []) new
init_targets_more decls ds d place old new at table adds = λ g.
    adds g ∙ ap (λ (k : ℕ). option_or (init_target_found old g) (if gives decls d g then Some k else None)) at
    ∙ ap (λ (o : Option ℕ). option_or o (if gives decls d g then Some (length ds) else None)) (table g)
    ∙ sym (place-more (λ y. gives decls y g) ds d 0 (length ds) (omega arith))

again_some : (start : ℕ) (get : ℕ → Option Decl) (i : ℕ) (o : Option Decl) → get i ≡ o → is_some (get i) ≡ true →
    given_before start (Some i) ≡ given_before start (◌>>=◌ {B = ℕ × Decl} o (λ x. Some (i, x)))
again_some start get i (Some d) is e = refl
again_some start get i None is e = absurd (cc)

again_place : (start : ℕ) (xs : List Decl) (p : Decl → Bool) (o : Option ℕ) → place_from p 0 xs ≡ o →
    given_before start o ≡ given_before start (◌>>=◌ {B = ℕ × Decl} o (λ i. ◌>>=◌ {B = ℕ × Decl} (slice_get xs i) (λ x. Some (i, x))))
again_place start xs p None is = refl
again_place start xs p (Some i) is =
    let r = passing p xs 0 i is in
    let same : r.by ≡ i = (let e : i ≡ 0 + r.by = r.place in omega (arith, e)) in
    again_some start (slice_get xs) i (slice_get xs i) refl (ap (λ (k : ℕ). is_some (slice_get xs k)) (sym same) ∙ ap is_some r.here)

again_is : (decls ds : List Decl) (t : FirstInits) (start : ℕ) (o : Option InitTarget) →
    IsInitTargetTable decls ds t → again_given t start o ≡ init_target_again decls ds start o
again_is decls ds t start None table = refl
again_is decls ds t start (Some g) table = ap (given_before start) (table g) ∙ again_place start ds (λ y. gives decls y g) (place_of (gives decls) ds g) refl

pub repeated_is : (decls ds : List Decl) (t : FirstInits) (d : Decl) → IsInitTargetTable decls ds t →
    repeated_in t decls d ≡ repeated decls ds d
repeated_is decls ds t (init j) table = again_is decls ds t j.start.start (init_target_of decls j) table
repeated_is decls ds t (lock x) table = refl
repeated_is decls ds t (struct s) table = refl
repeated_is decls ds t (global v) table = refl
repeated_is decls ds t (array a) table = refl
repeated_is decls ds t (pool p) table = refl
repeated_is decls ds t (atomic s) table = refl
repeated_is decls ds t (helper s) table = refl
repeated_is decls ds t (thread t') table = refl
