-- The pairs in scope, as the code keeps them and as the relation has them.
use Rattle.std.proofs.Common.{◌≡◌, ℕ, zero, suc, ◌+◌, ◌<◌, List, [], ◌∷◌, ◌++◌, length, map, reverse, take, refl, sym}
use Rattle.std.proofs.Common.{ap, ◌∙◌, subst, add-one, arith}
use Rattle.std.specs.Prelude.{slice_get, slice_index_or, Some}
use Rattle.std.specs.List.{Contains, AllZip}
use Rattle.std.proofs.lemmas.List.{reverse-append, reverse-reverse, map-append, length-map, take-map}
use Rattle.std.proofs.lemmas.List.Elements.{Contains-append_left, Contains-append_right, AllZip-push}
use Rattle.std.proofs.Math.Seq.{take-suc, take-append_seam}
use Rattle.core_lang.specs.Expansion.{Pair, pair, parameters_at}
use Rattle.core_lang_helpers.specs.declared.scope.Pair as code
use Rattle.core_lang_helpers.specs.Working.Scopes.{pair_of}

-- as many items and the one that follows
pub take_one : {X : Type 0} (xs : List X) (k : ℕ) (x : X) → k < length xs → x ≡ slice_index_or xs k x →
    take (k + 1) xs ≡ take k xs ++ x ∷ []
take_one xs k x lt is = ap (λ n. take n xs) (add-one k) ∙ take-suc xs k x lt ∙ ap (λ y. take k xs ++ y ∷ []) (sym is)

-- what holds of items made one by one holds of one more
pub zip_one_more : {X : Type 0} (R : X → X → Type 0) (xs : List X) (k : ℕ) (x y : X) (made new : List X) →
    k < length xs → x ≡ slice_index_or xs k x →
    new ≡ made ++ y ∷ [] → AllZip R (take k xs) made → R x y → AllZip R (take (k + 1) xs) new
zip_one_more R xs k x y made new lt is e h r =
    subst (λ vs. AllZip R vs new) (sym (take_one xs k x lt is))
    (subst (λ ys. AllZip R (take k xs ++ x ∷ []) ys) (sym e) (AllZip-push R (take k xs) made x y h r))

-- and so do data of them
pub map_one_more : {X D : Type 0} (f : X → D) (xs : List X) (k : ℕ) (x y : X) (made new : List X) → k < length xs →
    x ≡ slice_index_or xs k x →
    new ≡ made ++ y ∷ [] → f y ≡ f x → map f made ≡ map f (take k xs) → map f new ≡ map f (take (k + 1) xs)
map_one_more f xs k x y made new lt is e same h =
    ap (map f) e ∙ map-append f made (y ∷ []) ∙ ap (λ ys. ys ++ f y ∷ []) h ∙ ap (λ v. map f (take k xs) ++ v ∷ []) same
    ∙ sym (ap (map f) (take_one xs k x lt is) ∙ map-append f (take k xs) (x ∷ []))

-- what holds of items place by place holds at each place
pub zip_there : {X : Type 0} (R : X → X → Type 0) (xs ys : List X) → AllZip R xs ys → (k : ℕ) (x : X) →
    slice_get xs k ≡ Some x →
    (y : X) × (slice_get ys k ≡ Some y) × R x y
zip_there R [] [] h k x e = absurd cc
zip_there R [] (y ∷ ys) h k x e = absurd h
zip_there R (v ∷ xs) [] h k x e = absurd h
zip_there R (v ∷ xs) (w ∷ ys) h zero x e = let same : v ≡ x = cc in (w, refl, subst (λ z. R z w) same h.0)
zip_there R (v ∷ xs) (w ∷ ys) h (suc k) x e = zip_there R xs ys h.1 k x e

pub zip_back : {X : Type 0} (R : X → X → Type 0) (xs ys : List X) → AllZip R xs ys → (k : ℕ) (y : X) →
    slice_get ys k ≡ Some y →
    (x : X) × (slice_get xs k ≡ Some x) × R x y
zip_back R [] [] h k y e = absurd cc
zip_back R [] (w ∷ ys) h k y e = absurd h
zip_back R (v ∷ xs) [] h k y e = absurd h
zip_back R (v ∷ xs) (w ∷ ys) h zero y e = let same : w ≡ y = cc in (v, refl, subst (λ z. R v z) same h.0)
zip_back R (v ∷ xs) (w ∷ ys) h (suc k) y e = zip_back R xs ys h.1 k y e

any_default : {X : Type 0} (xs : List X) (k : ℕ) (d e : X) → k < length xs →
    slice_index_or xs k d ≡ slice_index_or xs k e
any_default [] k d e lt = absurd (omega (arith, lt))
any_default (x ∷ xs) zero d e lt = refl
any_default (x ∷ xs) (suc k) d e lt = any_default xs k d e (omega (arith, lt))

-- a pushed pair is the first
pub pushed : (ps qs : List code.Pair) (p : code.Pair) → qs ≡ ps ++ p ∷ [] →
    reverse (map pair_of qs) ≡ pair_of p ∷ reverse (map pair_of ps)
pushed ps qs p e = ap (λ xs. reverse (map pair_of xs)) e ∙ ap reverse (map-append pair_of ps (p ∷ [])) ∙ reverse-append (map pair_of ps) (pair_of p ∷ [])

-- so parameters that are pushed in their order are those that a body begins with
pub parameter_pushed : (ps qs : List code.Pair) (p : code.Pair) (k first : ℕ) → qs ≡ ps ++ p ∷ [] → p.own ≡ k →
    p.written ≡ first + k →
    reverse (map pair_of ps) ≡ parameters_at k first → reverse (map pair_of qs) ≡ parameters_at (k + 1) first
parameter_pushed ps qs p k first e own written h =
    pushed ps qs p e ∙ ap (λ n. pair n p.written ∷ reverse (map pair_of ps)) own ∙ ap (λ n. pair k n ∷ reverse (map pair_of ps)) written
    ∙ ap (λ xs. pair k (first + k) ∷ xs) h ∙ ap (λ n. parameters_at n first) (sym (add-one k))

at_place : {X : Type 0} (xs : List X) (k : ℕ) (x : X) → k < length xs → x ≡ slice_index_or xs k x → Contains xs x
at_place xs k x lt is = (k, lt, sym is)

mapped : (ps : List code.Pair) (p : code.Pair) → Contains ps p → Contains (map pair_of ps) (pair_of p)
mapped [] p c = absurd (omega (arith, c.1))
mapped (q ∷ ps) p (zero, lt, e) = (zero, omega arith, ap pair_of e)
mapped (q ∷ ps) p (suc k, lt, e) = let r = mapped ps p (k, omega (arith, lt), e) in (suc r.0, omega (arith, r.1), r.2)

turned : {X : Type 0} (xs : List X) (x : X) → Contains xs x → Contains (reverse xs) x
turned [] x c = absurd (omega (arith, c.1))
turned (y ∷ xs) x (zero, lt, e) =
    subst (λ zs. Contains zs x) (sym (reverse-append (y ∷ []) xs)) (Contains-append_right (reverse xs) (y ∷ []) x (0, omega arith, e))
turned (y ∷ xs) x (suc k, lt, e) =
    subst (λ zs. Contains zs x) (sym (reverse-append (y ∷ []) xs)) (Contains-append_left (reverse xs) (y ∷ []) x (turned xs x (k, omega (arith, lt), e)))

-- a pair that is found is in scope
pub found : (ps qs : List code.Pair) (k : ℕ) (d : code.Pair) (own : ℕ) → qs ≡ ps → k < length qs →
    (slice_index_or qs k d).own ≡ own →
    Contains (reverse (map pair_of ps)) (pair own (slice_index_or qs k d).written)
found ps qs k d own same lt e =
    let p = slice_index_or qs k d in
    let there = turned (map pair_of qs) (pair_of p) (mapped qs p (at_place qs k p lt (any_default qs k d p lt))) in
    subst (λ n. Contains (reverse (map pair_of ps)) (pair n p.written)) e (subst (λ xs. Contains (reverse (map pair_of xs)) (pair_of p)) same there)

-- cut back after a block, the pairs are those before it
pub cut_back : (ps qs : List code.Pair) (more : List Pair) (n : ℕ) → n ≡ length ps →
    reverse (map pair_of qs) ≡ more ++ reverse (map pair_of ps) →
    reverse (map pair_of (take n qs)) ≡ reverse (map pair_of ps)
cut_back ps qs more n is e =
    let old = map pair_of ps in
    let whole : map pair_of qs ≡ old ++ reverse more =
    sym (reverse-reverse (map pair_of qs)) ∙ ap reverse e ∙ reverse-append more (reverse old) ∙ ap (λ xs. xs ++ reverse more) (reverse-reverse old) in
    ap reverse (sym (take-map pair_of n qs) ∙ ap (take n) whole ∙ ap (λ k. take k (old ++ reverse more)) (is ∙ sym (length-map ps pair_of))
    ∙ take-append_seam old (reverse more))
