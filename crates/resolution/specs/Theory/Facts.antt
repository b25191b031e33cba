-- Facts about names, structs, scopes and `init`s. Nobody has to believe these facts: they are proved here, for proofs
-- of this crate and of the crates above.
use Rattle.std.specs.Prelude.{slice_get, ◌==◌, ◌&&◌, if◌then◌else◌}
use Rattle.std.proofs.Common.{◌≡◌, ℕ, zero, suc, ◌+◌, List, [], ◌∷◌, Option, Some, None, Bool, true, false, refl, sym}
use Rattle.std.proofs.Common.{ap, ◌∙◌, arith}
use Rattle.std.proofs.Math.Nat.{add-zero, add-suc, suc-add}
use Rattle.std.proofs.lemmas.Bool.{eqb-true}
use Rattle.std.proofs.lemmas.Option.{none-some}
use Rattle.syntax.specs.Trees.{Struct, Section, Decl, lock, struct, global, array, pool, init, atomic, helper, thread}
use Rattle.syntax.specs.Trees.{Stmt, let_local, let_owned, let_call, var_local, assign, if_then, while, print}
use Rattle.syntax.specs.Trees.{return_value, call, Otherwise, no_else, else_do}
use Rattle.resolution.specs.Scopes.{◌>>=◌, place_from, place_of, count, bears, the_decl, alike, has_body, number_at}
use Rattle.resolution.specs.Scopes.{the_struct, Scope, left}
use Rattle.resolution.specs.Statements.{after, after_else, after_all}
use Rattle.resolution.specs.Constants.{same_init_target}
use Rattle.resolution.specs.declared.init_target.InitTarget.{InitTarget}

-- ---- the first of a name

-- an item that passes, at an index that is counted from n
pub record Passing {A : Type 0} (p : A → Bool) (xs : List A) (n i : ℕ) : Type 0 where
  pub by : ℕ
  pub place : i ≡ n + by
  pub item : A
  pub here : slice_get xs by ≡ Some item
  pub passed : p item ≡ true

abbrev number_or : ℕ → Option ℕ → ℕ
number_or n (Some i) = i
number_or n None = n

passing_if : {A : Type 0} (p : A → Bool) (x : A) (xs : List A) (n i : ℕ) (b : Bool) → p x ≡ b →
    (if b then Some n else place_from p (suc n) xs) ≡ Some i →
    (place_from p (suc n) xs ≡ Some i → Passing p xs (suc n) i) → Passing p (x ∷ xs) n i
passing_if p x xs n i true is e rest = record { by = 0; place = sym (ap (number_or n) e) ∙ sym (add-zero n); item = x; here = refl; passed = is }
passing_if p x xs n i false is e rest =
    let r = rest e in
    record { by = suc r.by; place = r.place ∙ suc-add n r.by ∙ sym (add-suc n r.by); item = r.item; here = r.here; passed = r.passed }

pub passing : {A : Type 0} (p : A → Bool) (xs : List A) (n i : ℕ) → place_from p n xs ≡ Some i → Passing p xs n i
passing p [] n i e = absurd (none-some i e)
passing p (x ∷ xs) n i e = passing_if p x xs n i (p x) refl e (passing p xs (suc n) i)

abbrev place_in : {A : Type 0} → ℕ → Option (ℕ × A) → ℕ
place_in n (Some f) = f.0
place_in n None = n

abbrev item_in : {A : Type 0} → A → Option (ℕ × A) → A
item_in x (Some f) = f.1
item_in x None = x

found_at : {A : Type 0} (get : ℕ → Option A) (k i : ℕ) (x : A) (o : Option A) → get k ≡ o →
    ◌>>=◌ {B = ℕ × A} o (λ y. Some (k, y)) ≡ Some (i, x) → get i ≡ Some x
found_at {A = A} get k i x None is e = absurd (none-some (i, x) e)
found_at {A = A} get k i x (Some y) is e =
    let same : ◌≡◌ {A = Option (ℕ × A)} (Some (k, y)) (Some (i, x)) = e in
    let place : k ≡ i = ap (place_in i) same in
    let item : y ≡ x = ap (item_in x) same in
    sym (ap get place) ∙ is ∙ ap Some item

named_at : {A : Type 0} (get : ℕ → Option A) (i : ℕ) (x : A) (o : Option ℕ) →
    ◌>>=◌ {B = ℕ × A} o (λ k. ◌>>=◌ {B = ℕ × A} (get k) (λ y. Some (k, y))) ≡ Some (i, x) → get i ≡ Some x
named_at {A = A} get i x None e = absurd (none-some (i, x) e)
named_at {A = A} get i x (Some k) e = found_at get k i x (get k) refl e

-- a declaration that is found by a name is at the place that is found
pub decl_at : (decls : List Decl) (q : List ℕ) (i : ℕ) (d : Decl) → the_decl decls q ≡ Some (i, d) →
    slice_get decls i ≡ Some d
decl_at decls q i d e = named_at (slice_get decls) i d (place_of bears decls q) e

-- ---- structs

abbrev as_struct : Option Decl → Option Struct
as_struct (Some (struct s)) = Some s
as_struct _ = None

-- a struct is found by its number
pub struct_at : (decls : List Decl) (n : ℕ) (s : Struct) → slice_get decls n ≡ Some (struct s) →
    the_struct decls (number_at decls n (struct s)) ≡ Some s
struct_at [] n s e = absurd (none-some (struct s) e)
struct_at (struct r ∷ ds) zero s e = ap as_struct e
struct_at (lock x ∷ ds) zero s e = absurd (none-some s (ap as_struct e))
struct_at (global v ∷ ds) zero s e = absurd (none-some s (ap as_struct e))
struct_at (array a ∷ ds) zero s e = absurd (none-some s (ap as_struct e))
struct_at (pool p ∷ ds) zero s e = absurd (none-some s (ap as_struct e))
struct_at (init j ∷ ds) zero s e = absurd (none-some s (ap as_struct e))
struct_at (atomic x ∷ ds) zero s e = absurd (none-some s (ap as_struct e))
struct_at (helper x ∷ ds) zero s e = absurd (none-some s (ap as_struct e))
struct_at (thread t ∷ ds) zero s e = absurd (none-some s (ap as_struct e))
struct_at (struct r ∷ ds) (suc n) s e = struct_at ds n s e
struct_at (lock x ∷ ds) (suc n) s e = struct_at ds n s e
struct_at (global v ∷ ds) (suc n) s e = struct_at ds n s e
struct_at (array a ∷ ds) (suc n) s e = struct_at ds n s e
struct_at (pool p ∷ ds) (suc n) s e = struct_at ds n s e
struct_at (init j ∷ ds) (suc n) s e = struct_at ds n s e
struct_at (atomic x ∷ ds) (suc n) s e = struct_at ds n s e
struct_at (helper x ∷ ds) (suc n) s e = struct_at ds n s e
struct_at (thread t ∷ ds) (suc n) s e = struct_at ds n s e

-- ---- sections and helpers

-- the number of sections and helpers is the sum of both numbers
pub bodies_counted : (decls : List Decl) (s r : Section) →
    count has_body decls ≡ count (alike (atomic s)) decls + count (alike (helper r)) decls
bodies_counted [] s r = refl
bodies_counted (lock x ∷ ds) s r = bodies_counted ds s r
bodies_counted (struct x ∷ ds) s r = bodies_counted ds s r
bodies_counted (global x ∷ ds) s r = bodies_counted ds s r
bodies_counted (array x ∷ ds) s r = bodies_counted ds s r
bodies_counted (pool x ∷ ds) s r = bodies_counted ds s r
bodies_counted (init x ∷ ds) s r = bodies_counted ds s r
bodies_counted (atomic x ∷ ds) s r = let n = bodies_counted ds s r in omega (arith, n)
bodies_counted (helper x ∷ ds) s r = let n = bodies_counted ds s r in omega (arith, n)
bodies_counted (thread x ∷ ds) s r = bodies_counted ds s r

-- ---- after statements

after_else_result : (sc : Scope) (o : Otherwise) → (after_else sc o).result ≡ sc.result
after_else_result sc no_else = refl
after_else_result sc (else_do body close) = refl

-- the result is the same
pub after_result : (sc : Scope) (s : Stmt) → (after sc s).result ≡ sc.result
after_result sc (let_local l) = refl
after_result sc (let_owned l o) = refl
after_result sc (let_call l) = refl
after_result sc (var_local l) = refl
after_result sc (assign p e) = refl
after_result sc (if_then start e body close other) = after_else_result (left sc (after_all sc body)) other
after_result sc (while start e body close) = refl
after_result sc (print start e) = refl
after_result sc (return_value start e) = refl
after_result sc (call start c) = refl

-- ---- the target of an `init`

pub and_left : (a b : Bool) → (a && b) ≡ true → a ≡ true
and_left true b e = refl
and_left false b e = e

pub and_right : (a b : Bool) → (a && b) ≡ true → b ≡ true
and_right true b e = e
and_right false b e = ap (λ (x : Bool). if x then true else b) e

same_parts : (g h : InitTarget) → g.pool ≡ h.pool → g.index ≡ h.index → g.member ≡ h.member → g ≡ h
same_parts g h a b c =
    ap (λ (n : ℕ). record { pool = n; index = g.index; member = g.member }) a
    ∙ ap (λ (n : ℕ). record { pool = h.pool; index = n; member = g.member }) b
    ∙ ap (λ (n : ℕ). record { pool = h.pool; index = h.index; member = n }) c

pub same_is : (g h : InitTarget) → same_init_target g h ≡ true → g ≡ h
same_is g h e =
    let p : Bool = g.pool == h.pool in
    let i : Bool = g.index == h.index in
    let m : Bool = g.member == h.member in
    let both = and_left (p && i) m e in
    same_parts g h (eqb-true g.pool h.pool (and_left p i both)) (eqb-true g.index h.index (and_right p i both)) (eqb-true g.member h.member (and_right (p && i) m e))
