-- Orders that share their prefixes.
use Rattle.std.proofs.Common.{◌≡◌, ◌∙◌, ℕ, ◌+◌, ◌-◌, ◌<◌, ◌≤◌, zero, suc, List, [], ◌∷◌, ◌++◌, length, reverse, get_or}
use Rattle.std.proofs.Common.{slice_get, Some, inl, inr, ap, sym, refl, arith, append_assoc, length-append}
use Rattle.std.proofs.lemmas.List.{reverse-append}
use Rattle.std.proofs.Math.ListN.{get_or-append}
use Rattle.std.proofs.Math.Seq.{get_or-append_seam}
use Rattle.core_lang.specs.Theory.Items.{pushed_at}
use Rattle.outcomes.specs.declared.trail.TrailEdge.{TrailEdge}
use Rattle.outcomes.specs.Working.Trails.{longer, grown, orders_of, AreBackward}

-- one more step
pub grown_one_more : (orders : List (List ℕ)) (ss : List TrailEdge) (s : TrailEdge) →
    grown orders (ss ++ s ∷ []) ≡ grown orders ss ++ longer (grown orders ss) s.before s.thread ∷ []
grown_one_more orders [] s = refl
grown_one_more orders (x ∷ ss) s = grown_one_more (orders ++ longer orders x.before x.thread ∷ []) ss s

pub length-grown : (orders : List (List ℕ)) (ss : List TrailEdge) → length (grown orders ss) ≡ length orders + length ss
length-grown orders [] = sym (omega arith)
length-grown orders (x ∷ ss) =
    length-grown (orders ++ longer orders x.before x.thread ∷ []) ss ∙ omega (arith, length-append orders (longer orders x.before x.thread ∷ []))

-- the orders so far stay
pub grown_keeps : (orders : List (List ℕ)) (ss : List TrailEdge) (k : ℕ) → k < length orders →
    get_or (grown orders ss) k [] ≡ get_or orders k []
grown_keeps orders [] k within = refl
grown_keeps orders (x ∷ ss) k within =
    let more = longer orders x.before x.thread ∷ [] in
    let within' : k < length (orders ++ more) = omega (arith, length-append orders more) in
    grown_keeps (orders ++ more) ss k within' ∙ get_or-append orders more [] k within

-- the order of each step is that of the step before it, with the step's thread
pub grown_at : (orders : List (List ℕ)) (ss : List TrailEdge) (k : ℕ) (s : TrailEdge) → slice_get ss k ≡ Some s →
    s.before < length orders + k →
    get_or (grown orders ss) (length orders + k) [] ≡ longer (grown orders ss) s.before s.thread
grown_at orders [] k s is before = cc
grown_at orders (x ∷ ss) zero s is before =
    let same : x ≡ s = cc in
    let more = longer orders x.before x.thread ∷ [] in
    let long : length (orders ++ more) ≡ length orders + 1 = length-append orders more in
    let within : length orders < length (orders ++ more) = omega (arith, long) in
    let old : s.before < length orders = omega arith in
    let there : get_or (grown (orders ++ more) ss) (length orders) [] ≡ longer orders x.before x.thread =
    grown_keeps (orders ++ more) ss (length orders) within ∙ get_or-append_seam orders (longer orders x.before x.thread) [] [] in
    let before' : get_or (grown (orders ++ more) ss) s.before [] ≡ get_or orders s.before [] =
    grown_keeps (orders ++ more) ss s.before (omega (arith, long)) ∙ get_or-append orders more [] s.before old in
    let place : length orders + 0 ≡ length orders = omega arith in
    ap (λ (k : ℕ). get_or (grown (orders ++ more) ss) k []) place ∙ there ∙ ap (λ (y : TrailEdge). get_or orders y.before [] ++ y.thread ∷ []) same
    ∙ ap (λ (o : List ℕ). o ++ s.thread ∷ []) (sym before')
grown_at orders (x ∷ ss) (suc k) s is before =
    let more = longer orders x.before x.thread ∷ [] in
    let long : length (orders ++ more) ≡ length orders + 1 = length-append orders more in
    let place : length orders + suc k ≡ length (orders ++ more) + k = omega (arith, long) in
    let before' : s.before < length (orders ++ more) + k = omega (arith, long) in
    ap (λ (k : ℕ). get_or (grown (orders ++ more) ss) k []) place ∙ grown_at (orders ++ more) ss k s is before'

-- one more step, which leads on from an earlier one
pub backward_one_more : (ss : List TrailEdge) (s : TrailEdge) → AreBackward ss → s.before ≤ length ss → AreBackward (ss ++ s ∷ [])
backward_one_more ss s back within k y is =
    elim (pushed_at ss s k y is) [
      | inl there ↦ back k y there
      | inr here ↦ (let e : s.before ≡ y.before = ap (λ (z : TrailEdge). z.before) here.1 in let f : k ≡ length ss = here.0 in omega arith)
    ]

pub length-orders : (ss : List TrailEdge) → length (orders_of ss) ≡ suc (length ss)
length-orders ss = length-grown ([] ∷ []) ss ∙ omega arith

-- an order other than the first
pub order_at : (ss : List TrailEdge) (at : ℕ) (s : TrailEdge) → AreBackward ss → 0 < at → slice_get ss (at - 1) ≡ Some s →
    (s.before < at) × (get_or (orders_of ss) at [] ≡ longer (orders_of ss) s.before s.thread)
order_at ss at s back some is =
    let earlier : s.before ≤ at - 1 = back (at - 1) s is in
    let place : 1 + (at - 1) ≡ at = omega arith in
    let early : s.before < 1 + (at - 1) = omega arith in
    (omega arith, ap (λ (k : ℕ). get_or (orders_of ss) k []) (sym place) ∙ grown_at ([] ∷ []) ss (at - 1) s is early)

-- one more thread of an order is found
pub found_more : (whole left before : List ℕ) (thread : ℕ) (found : List ℕ) → whole ≡ left ++ reverse found →
    left ≡ before ++ thread ∷ [] →
    whole ≡ before ++ reverse (found ++ thread ∷ [])
found_more whole left before thread found is more =
    is ∙ ap (λ (l : List ℕ). l ++ reverse found) more ∙ append_assoc before (thread ∷ []) (reverse found)
    ∙ ap (λ (l : List ℕ). before ++ l) (sym (reverse-append found (thread ∷ [])))

-- the first order is empty
pub first_order : (ss : List TrailEdge) → get_or (orders_of ss) 0 [] ≡ []
first_order ss = grown_keeps ([] ∷ []) ss 0 (omega arith)
