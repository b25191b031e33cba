-- Members of pools, one after another.
use Rattle.std.proofs.Common.{◌≡◌, ℕ, zero, suc, ◌<◌, List, Option, Some, None, Bool, true, false, refl, sym, ap, ◌∙◌}
use Rattle.std.proofs.Common.{arith}
use Rattle.std.specs.Prelude.{is_some, not, ◌||◌, ◌==◌}
use Rattle.std.proofs.lemmas.Bool.Decides.{nat_tests}
use Rattle.syntax.specs.Trees.{Decl, Member}
use Rattle.resolution.specs.Core as core
use Rattle.resolution.specs.Scopes.{◌>>=◌}
use Rattle.resolution.specs.Constants.{given}
use Rattle.resolution.specs.Working.Building.{with_object, with_objects}
use Rattle.resolution.specs.Working.FaultLists.{some_lacks}

or_true : (b : Bool) → (b || true) ≡ true
or_true true = refl
or_true false = refl

lacking_next : (decls : List Decl) (i m index n : ℕ) → (index < n → some_lacks decls i m n ≡ true) → index < suc n →
    is_some (given decls (record { pool = i; index = index; member = m })) ≡ false → (b : Bool) → (index == n) ≡ b →
    some_lacks decls i m (suc n) ≡ true
lacking_next decls i m index n rec lt none true e = let same : index ≡ n = grind (arith, nat_tests) in ap (λ (k : ℕ). not (is_some (given decls (record { pool = i; index = k; member = m }))) || some_lacks decls i m n) (sym same) ∙ ap (λ (b : Bool). not b || some_lacks decls i m n) none
lacking_next decls i m index n rec lt none false e = let less : index < n = grind (arith, nat_tests) in ap (λ (b : Bool). not (is_some (given decls (record { pool = i; index = n; member = m }))) || b) (rec less) ∙ or_true (not (is_some (given decls (record { pool = i; index = n; member = m }))))

-- one that is lacking is lacking among more
pub lacking : (decls : List Decl) (i m index n : ℕ) → index < n →
    is_some (given decls (record { pool = i; index = index; member = m })) ≡ false → some_lacks decls i m n ≡ true
lacking decls i m index zero lt none = absurd (omega arith)
lacking decls i m index (suc n) lt none = lacking_next decls i m index n (λ h. lacking decls i m index n h none) lt none (index == n) refl

none_next : (decls : List Decl) (place number : ℕ) (ms : List Member) (p : Option core.Program) (index n : ℕ) →
    (index < n → with_objects decls place number ms p n ≡ None) → index < suc n →
    with_objects decls place number ms p (suc index) ≡ None → (b : Bool) → (index == n) ≡ b →
    with_objects decls place number ms p (suc n) ≡ None
none_next decls place number ms p index n rec lt none true e = let same : index ≡ n = grind (arith, nat_tests) in ap (λ (k : ℕ). with_objects decls place number ms p (suc k)) (sym same) ∙ none
none_next decls place number ms p index n rec lt none false e = let less : index < n = grind (arith, nat_tests) in ap (λ (o : Option core.Program). o >>= λ q. with_object decls place number ms n q) (rec less)

-- without this object, none comes after it
pub objects_none : (decls : List Decl) (place number : ℕ) (ms : List Member) (p : Option core.Program) (index n : ℕ) →
    index < n → with_objects decls place number ms p (suc index) ≡ None →
    with_objects decls place number ms p n ≡ None
objects_none decls place number ms p index zero lt none = absurd (omega arith)
objects_none decls place number ms p index (suc n) lt none = none_next decls place number ms p index n (λ h. objects_none decls place number ms p index n h none) lt none (index == n) refl

pub objects_next : (decls : List Decl) (place number : ℕ) (ms : List Member) (p : Option core.Program) (index : ℕ) (q : core.Program) (r : Option core.Program) → Some q ≡ with_objects decls place number ms p index → r ≡ with_object decls place number ms index q → r ≡ with_objects decls place number ms p (suc index)
objects_next decls place number ms p index q r is made = made ∙ ap (λ (o : Option core.Program). o >>= λ x. with_object decls place number ms index x) is
