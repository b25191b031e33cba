-- What no reported end breaks holds in every order.
use Rattle.std.proofs.Common.{◌≡◌, ◌∙◌, ℕ, ◌<◌, zero, suc, Bool, true, false, cond, not, List, [], ◌∷◌, length, get_or}
use Rattle.std.proofs.Common.{Option, Some, None, ap, sym, refl, arith}
use Rattle.std.specs.Prelude.{find}
use Rattle.outcomes.specs.Ends.{Left, Told}
use Rattle.report_runs.specs.Sums.{holds}
use Rattle.report_runs.specs.ExpectationLaws.{HoldsInEveryOrder}

none_first : (b : Bool) (x : Told) (rest : Option Told) → cond b (Some x) rest ≡ None → (b ≡ false) × (rest ≡ None)
none_first true x rest is = cc
none_first false x rest is = (refl, is)

not_found : (test : Told → Bool) (told : List Told) (k : ℕ) (e : Told) → find test told ≡ None → k < length told →
    get_or told k e ≡ e → test e ≡ false
not_found test [] k e none within is = absurd (omega (arith, within))
not_found test (x ∷ xs) zero e none within is = ap test (sym is) ∙ (none_first (test x) x (find test xs) none).0
not_found test (x ∷ xs) (suc k) e none within is =
    not_found test xs k e (none_first (test x) x (find test xs) none).1 (omega (arith, within)) is

is_true : (b : Bool) → not b ≡ false → b ≡ true
is_true true is = refl
is_true false is = cc

pub held_everywhere : HoldsInEveryOrder
held_everywhere program asked comparison told every none order left ends =
    let there = every order left ends in
    let e = there.1 in
    let meets : (e : Told) → Bool = λ e. holds asked.cells e.left.cells comparison in
    let met : meets e ≡ true = is_true (meets e) (not_found (λ (e : Told). not (meets e)) told there.0 e none there.2 there.3) in
    ap (λ (l : Left). holds asked.cells l.cells comparison) (sym there.4) ∙ met
