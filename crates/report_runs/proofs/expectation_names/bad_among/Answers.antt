use Rattle.std.proofs.Common.{◌≡◌, ◌∙◌, ap, sym, ℕ, zero, suc, ◌<◌, Bool, List, [], ◌∷◌, length, drop, map, get_or, refl, arith}
use Rattle.std.specs.Prelude.{true, false, not, cond, ◌&&◌, Some}
use Rattle.std.specs.List.{find}
use Rattle.core_lang.specs.declared.typed.Typed.{Typed}
use Rattle.report_runs.specs.Names.{is_known}
use Rattle.report_runs.specs.ExpectationCells.{has_reference, is_numeric, IsBadName}
use Rattle.report_runs.specs.declared.expectation_names.BadName.{BadName}
use Rattle.report_runs.specs.declared.expectation_names.BadName.TheVariants.{Unknown, NoNumber}
use Rattle.report_runs.proofs.expectation_names.bad_among.Goals as goal

-- an element that passes is the first of those from it on
first_here : {A : Type 0} (p : List ℕ → Bool) (f : A → List ℕ) (xs : List A) (i : ℕ) (d : A) → i < length xs →
    p (f (get_or xs i d)) ≡ true → find p (map f (drop i xs)) ≡ Some (f (get_or xs i d))
first_here p f [] i d within passes = absurd (omega arith)
first_here p f (x ∷ xs) zero d within passes = ap (λ (b : Bool). cond b (Some (f x)) (find p (map f xs))) passes
first_here p f (x ∷ xs) (suc i) d within passes = first_here p f xs i d (omega arith) passes

with_reference : (known : Bool) → not (known && false) ≡ true
with_reference true = refl
with_reference false = refl

not_numeric : (program : Typed) (name : List ℕ) (bad : BadName) → IsBadName program name bad → not (is_numeric program name) ≡ true
not_numeric program name (Unknown bad) is = ap (λ (known : Bool). not (known && not (has_reference program name))) is.1
not_numeric program name (NoNumber bad) is =
    ap (λ (has : Bool). not (is_known program name && not has)) is.1 ∙ with_reference (is_known program name)

pub returns-in-Some : goal.returns-in-Some
returns-in-Some c =
    let bad = rw c.in-Some.is at c.in_ok-bad.ensures in
    let within : c.loop-name.name-index < length c.args.names.now = omega (arith, c.loop-name-test.true) in
    let program = c.args.program.now in (
      _,
      sym c.loop-name.invariant.1
          ∙ first_here (λ (name : List ℕ). not (is_numeric program name)) (λ name. name.now) c.args.names.now c.loop-name.name-index _ within
          (not_numeric program _ _ bad),
      bad,
    )
