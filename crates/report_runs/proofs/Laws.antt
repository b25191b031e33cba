-- The likeness of runs is an equivalence.
use Rattle.std.proofs.Common.{◌≡◌, Bool, true, false, true≢false, List, [], ◌∷◌, refl, sym}
use Rattle.std.specs.Prelude.{map, ◌&&◌, ◌==◌}
use Rattle.std.specs.Cmp.{IsEquivalence, on_equiv, int_eq_equiv, nat_eq_equiv}
use Rattle.std.specs.Cmp.Lexicographic.{pointwise, lists_equiv, options_equiv}
use Rattle.core_lang.specs.declared.value.Value.{Value}
use Rattle.core_lang.specs.declared.value.Value.TheVariants.{Int, Ref}
use Rattle.history.specs.Commits.{Commit}
use Rattle.report_runs.specs.Runs.{Run, same_place, same_order, same_value, same_end, same_kind}

-- the conjunction of two equivalences is an equivalence
both : {X : Type 0} (e f : X → X → Bool) → IsEquivalence e → IsEquivalence f → IsEquivalence (λ x y. e x y && f x y)
both e f p q = record {
  refl = λ x. λ i. p.refl x i && q.refl x i;
  symm = λ x y. λ i. p.symm x y i && q.symm x y i;
  congr = λ x y z h. λ i. p.congr x y z (first (e x y) (f x y) h) i && q.congr x y z (second (e x y) (f x y) h) i;
}
  where
    first : (a b : Bool) → (a && b) ≡ true → a ≡ true
    first true b h = refl
    first false b h = h

    second : (a b : Bool) → (a && b) ≡ true → b ≡ true
    second true b h = h
    second false b h = absurd (true≢false (sym h))

place_laws : IsEquivalence same_place
place_laws = both (λ (a b : Commit). a.thread == b.thread) (λ (a b : Commit). a.step == b.step)
    (on_equiv (λ (c : Commit). c.thread) nat_eq_equiv) (on_equiv (λ (c : Commit). c.step) nat_eq_equiv)

value_laws : IsEquivalence same_value
value_laws = record { refl = own; symm = turned; congr = along }
  where
    own : (x : Value) → same_value x x ≡ true
    own (Int a) = int_eq_equiv.refl a
    own (Ref a) = (options_equiv nat_eq_equiv).refl a

    turned : (x y : Value) → same_value x y ≡ same_value y x
    turned (Int a) (Int b) = int_eq_equiv.symm a b
    turned (Int a) (Ref b) = refl
    turned (Ref a) (Int b) = refl
    turned (Ref a) (Ref b) = (options_equiv nat_eq_equiv).symm a b

    along : (x y z : Value) → same_value x y ≡ true → same_value x z ≡ same_value y z
    along (Int a) (Int b) (Int c) h = int_eq_equiv.congr a b c h
    along (Int a) (Int b) (Ref c) h = refl
    along (Int a) (Ref b) z h = absurd (true≢false (sym h))
    along (Ref a) (Int b) z h = absurd (true≢false (sym h))
    along (Ref a) (Ref b) (Int c) h = refl
    along (Ref a) (Ref b) (Ref c) h = (options_equiv nat_eq_equiv).congr a b c h

pub order_laws : IsEquivalence same_order
order_laws = on_equiv (λ (run : Run). run.log) (lists_equiv place_laws)

pub end_laws : IsEquivalence same_end
end_laws = on_equiv (λ (run : Run). run.values) (lists_equiv value_laws)

pub kind_laws : IsEquivalence same_kind
kind_laws = both same_order same_end order_laws end_laws

-- ---- the tests of the code

module _ {X Y : Type 0} (eq : Y → Y → Bool) (same : X → X → Bool) (view : X → Y) (agree : (x y : X) → same x y ≡ eq (view x) (view y)) where
  -- lists are alike if the lists of what they show are
  pub pointwise_shown : (xs ys : List X) → pointwise same xs ys ≡ pointwise eq (map view xs) (map view ys)
  pointwise_shown [] [] = refl
  pointwise_shown [] (y ∷ ys) = refl
  pointwise_shown (x ∷ xs) [] = refl
  pointwise_shown (x ∷ xs) (y ∷ ys) = λ i. agree x y i && pointwise_shown xs ys i
