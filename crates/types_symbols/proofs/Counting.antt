-- Sums and counts, one more item at a time.
use Rattle.std.proofs.Common.{◌≡◌, ◌∙◌, ◌+◌, ◌≤◌, ℕ, List, Bool, true, false, ◌∷◌, arith, sym, ap, subst, refl}
use Rattle.std.specs.Prelude.{min}
use Rattle.resolution.specs.Working.FaultLists.{lock_count}
use Rattle.resolution.specs.Limits.{CLASS_LIMIT, OBJECT_LIMIT, CELL_LIMIT, CALL_LIMIT}
use Rattle.resolution.specs.Numbers.{is_lock, classes_of, objects_of, cells_of, calls_of, total}
use Rattle.resolution.specs.Scopes.{count}
use Rattle.syntax.specs.declared.tree.Member as rust
use Rattle.syntax.specs.declared.tree.Member.TheVariants.{Lock, Final, Field}
use Rattle.syntax.specs.declared.tree.Name.{Name}
use Rattle.syntax.specs.Views.{member_of}
use Rattle.syntax.specs.Trees.{Decl, Member}
use Rattle.types_symbols.specs.declared.totals.Totals.{Totals}
use Rattle.types_symbols.specs.Working.Capped.{AreCapped, totals_of, added_by}

below_cap : (n L : ℕ) → min n (L + 1) ≤ L + 1
below_cap n L = omega arith

pub totals_capped : (t : Totals) (decls ds : List Decl) → t ≡ totals_of decls ds → AreCapped t
totals_capped t decls ds e =
    subst AreCapped (sym e) (below_cap (total classes_of ds) CLASS_LIMIT, below_cap (total objects_of ds) OBJECT_LIMIT, below_cap (total (cells_of decls) ds) CELL_LIMIT, below_cap (total calls_of ds) CALL_LIMIT)

pub added_capped : (t : Totals) (decls : List Decl) (d : Decl) → t ≡ added_by decls d → AreCapped t
added_capped t decls d e =
    subst AreCapped (sym e) (below_cap (classes_of d) CLASS_LIMIT, below_cap (objects_of d) OBJECT_LIMIT, below_cap (cells_of decls d) CELL_LIMIT, below_cap (calls_of d) CALL_LIMIT)

pub sum_step : (L sum k one new rest : ℕ) → one ≡ min k (L + 1) → new ≡ min (sum + one) (L + 1) →
    min (new + rest) (L + 1) ≡ min (sum + (k + rest)) (L + 1)
sum_step L sum k one new rest e f = omega (arith, e, f)

pub sum_done : (L sum rest all : ℕ) → sum ≤ L + 1 → rest ≡ 0 → min (sum + rest) (L + 1) ≡ min all (L + 1) →
    sum ≡ min all (L + 1)
sum_done L sum rest all le none e = omega (arith, le, none, e)

pub few_more : (b : Bool) (n classes place L : ℕ) → n ≡ classes + lock_count b → classes ≤ L + place →
    n ≤ L + (place + 1)
few_more true n classes place L e le = omega (arith, e, le)
few_more false n classes place L e le = omega (arith, e, le)

-- ---- lock fields

lock_first : (rest : List Member) (n : ℕ) → count is_lock rest ≡ n → (x : Name) →
    count is_lock (member_of (Lock x) ∷ rest) ≡ 1 + n
lock_first rest n e x = omega (arith, e)

pub count_lock : (m : rust.Member) (x : Name) (rest : List Member) → m ≡ Lock x →
    count is_lock (member_of m ∷ rest) ≡ 1 + count is_lock rest
count_lock m x rest is = ap (λ (y : rust.Member). count is_lock (member_of y ∷ rest)) is ∙ lock_first rest (count is_lock rest) refl x

pub count_other : (m : rust.Member) (rest : List Member) → ((x : Name) → m ≡ Lock x → ⊥) →
    count is_lock (member_of m ∷ rest) ≡ count is_lock rest
count_other (Lock x) rest not = absurd (not x refl)
count_other (Final f) rest not = refl
count_other (Field f) rest not = refl
