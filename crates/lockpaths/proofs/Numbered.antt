-- Paths that are numbered by the steps that lead to them.
use Rattle.std.proofs.Common.{◌≡◌, ◌⊎◌, inl, inr, ℕ, zero, suc, ◌+◌, ◌<◌, ◌≤◌, Bool, true, false, true≢false, List, []}
use Rattle.std.proofs.Common.{◌∷◌, ◌++◌, length, get_or, Some, None, refl, sym, ap, subst, ◌∙◌, append_assoc}
use Rattle.std.proofs.Common.{append-nil, length-append, arith}
use Rattle.std.specs.Prelude.{fold, slice_get, if◌then◌else◌, ◌==◌, ◌&&◌}
use Rattle.std.specs.List.{list_any, IsDistinct}
use Rattle.std.proofs.lemmas.Bool.{eq-eqb, and_parts}
use Rattle.std.proofs.lemmas.Bool.Decides.{nat_tests}
use Rattle.std.proofs.lemmas.List.{get_or_append_left, get_or_push, same_from_push}
use Rattle.std.proofs.lemmas.List.Sums.{fold_push}
use Rattle.std.proofs.lemmas.Option.{none-some, same_Some, slice_get-get_or, slice_get_within, get_or_from_slice_get}
use Rattle.std.proofs.lemmas.Map.Keys.{apart_from_distinct}
use Rattle.indexmap.specs.IndexSet.{insert_key}
use Rattle.locks.specs.LockPaths.{StablePath, same_numbers}
use Rattle.lockpaths.specs.declared.nodes.PathEdge.{PathEdge}
use Rattle.lockpaths.specs.declared.nodes.PathEdge.TheVariants.{Local, Final}
use Rattle.lockpaths.specs.Working.Nodes.{local_path, nowhere, onto, longer, path_by, with_step, paths_of}
use Rattle.lockpaths.specs.Working.Nodes.{IsAfter, AreSteps, IsGrown, IsNodeOf, same_stable}
use Rattle.lockpaths.proofs.Places.{stood_or_last}

-- ---- the paths of steps after others

kept : (acc : List StablePath) (steps : List PathEdge) → IsGrown acc (fold with_step acc steps)
kept acc [] = ([], sym (append-nil acc))
kept acc (s ∷ ss) =
    let rest = kept (with_step acc s) ss in
    (path_by acc s ∷ rest.0, rest.1 ∙ append_assoc acc (path_by acc s ∷ []) rest.0)

path_kept : (old new : List StablePath) (step : PathEdge) → IsGrown old new → IsAfter (length old) step →
    path_by new step ≡ path_by old step
path_kept old new (Local local) grown after = refl
path_kept old new (Final node number) grown after =
    ap (λ (p : StablePath). longer p number)
    (ap (λ (ps : List StablePath). get_or ps node nowhere) grown.1 ∙ get_or_append_left old grown.0 nowhere node after)

length_push : (acc : List StablePath) (s : PathEdge) → length (with_step acc s) ≡ length acc + 1
length_push acc s = length-append acc (path_by acc s ∷ [])

pub length_of : (acc : List StablePath) (steps : List PathEdge) →
    length (fold with_step acc steps) ≡ length acc + length steps
length_of acc [] = omega arith
length_of acc (s ∷ ss) = let rest = length_of (with_step acc s) ss in let one = length_push acc s in omega (arith, rest, one)

after_more : (j k : ℕ) (step : PathEdge) → j ≤ k → IsAfter j step → IsAfter k step
after_more j k (Local local) le a = tt
after_more j k (Final node number) le a = omega (arith, le, a)

place_from : (acc : List StablePath) (steps : List PathEdge) (k j : ℕ) (step : PathEdge) → j ≡ length acc + k →
    slice_get steps k ≡ Some step → IsAfter j step →
    slice_get (fold with_step acc steps) j ≡ Some (path_by (fold with_step acc steps) step)
place_from acc [] k j step at is after = absurd (none-some step is)
place_from acc (s ∷ ss) zero j step at is after =
    let one : s ≡ step = same_Some s step is in
    let here : length acc ≡ j = omega (arith, at) in
    let all = fold with_step (with_step acc s) ss in
    let rest = kept acc (s ∷ ss) in
    let long = length_of (with_step acc s) ss in
    let more = length_push acc s in
    let lt : j < length all = omega (arith, long, more, here) in
    let behind = kept (with_step acc s) ss in
    let there : get_or all j nowhere ≡ path_by acc s =
    ap (λ (ps : List StablePath). get_or ps j nowhere) behind.1
    ∙ get_or_append_left (with_step acc s) behind.0 nowhere j (omega (arith, more, here)) ∙ get_or_push acc (path_by acc s) nowhere j here in
    slice_get-get_or all j nowhere lt
    ∙ ap Some (there ∙ ap (path_by acc) one ∙ sym (path_kept acc all step rest (after_more j (length acc) step (omega (arith, here)) after)))
place_from acc (s ∷ ss) (suc k) j step at is after =
    let more = length_push acc s in
    place_from (with_step acc s) ss k j step (omega (arith, at, more)) is after

module _ (steps : List PathEdge) (are : AreSteps steps) where
  pub place : (k : ℕ) (step : PathEdge) → slice_get steps k ≡ Some step →
      slice_get (paths_of steps) k ≡ Some (path_by (paths_of steps) step)
  place k step is = place_from [] steps k k step (omega arith) is (are.after k step is)

  -- ---- equal paths have one number

  cut_local : (a b : ℕ) (p : StablePath) (f : ℕ) → local_path a ≡ longer p f → ⊥
  cut_local a b p f e = by p.finals (ap (λ (q : StablePath). q.finals) e)
    where
      by : (fs : List ℕ) → [] ≡ fs ++ f ∷ [] → ⊥
      by [] h = cc
      by (x ∷ fs) h = cc

  two_of : (i j : ℕ) (s t : PathEdge) → slice_get steps i ≡ Some s → slice_get steps j ≡ Some t → s ≡ t → i ≡ j
  two_of i j s t a b e = are.once i j t (a ∙ ap Some e) b

  here : (k : ℕ) → k < length (paths_of steps) →
      (s : PathEdge) × (slice_get steps k ≡ Some s) × (get_or (paths_of steps) k nowhere ≡ path_by (paths_of steps) s) × IsAfter k s
  here k lt =
      let long = length_of [] steps in
      let s = get_or steps k (Local 0) in
      let is : slice_get steps k ≡ Some s = slice_get-get_or steps k (Local 0) (omega (arith, lt, long)) in
      (s, is, get_or_from_slice_get (paths_of steps) k _ nowhere (place k s is), are.after k s is)

  apart : (n i j : ℕ) → i < n → i < length (paths_of steps) → j < length (paths_of steps) →
      get_or (paths_of steps) i nowhere ≡ get_or (paths_of steps) j nowhere → i ≡ j
  apart zero i j lt a b e = absurd (omega (arith, lt))
  apart (suc n) i j lt a b e =
      let x = here i a in
      let y = here j b in
      by (apart n) x.0 y.0 x.1 y.1 x.3 y.3 (sym x.2 ∙ e ∙ y.2)
    where
      by : ((x y : ℕ) → x < n → x < length (paths_of steps) → y < length (paths_of steps) →
          get_or (paths_of steps) x nowhere ≡ get_or (paths_of steps) y nowhere → x ≡ y) →
          (s t : PathEdge) → slice_get steps i ≡ Some s → slice_get steps j ≡ Some t → IsAfter i s → IsAfter j t → path_by (paths_of steps) s ≡ path_by (paths_of steps) t → i ≡ j
      by below (Local l) (Local m) p q u v same = two_of i j (Local l) (Local m) p q (ap (λ (z : StablePath). Local z.root) same)
      by below (Local l) (Final node number) p q u v same = absurd (cut_local l 0 (get_or (paths_of steps) node nowhere) number same)
      by below (Final node number) (Local l) p q u v same = absurd (cut_local l 0 (get_or (paths_of steps) node nowhere) number (sym same))
      by below (Final node number) (Final other further) p q u v same =
          let parts = same_from_push _ _ number further (ap (λ (z : StablePath). z.finals) same) in
          let before : get_or (paths_of steps) node nowhere ≡ get_or (paths_of steps) other nowhere =
          ap (λ (r : ℕ). record { root = r; finals = (get_or (paths_of steps) node nowhere).finals }) (ap (λ (z : StablePath). z.root) same)
          ∙ ap (λ (fs : List ℕ). record { root = (get_or (paths_of steps) other nowhere).root; finals = fs }) parts.0 in
          let one : node ≡ other = below node other (omega (arith, u, lt)) (omega (arith, u, a)) (omega (arith, v, b)) before in
          two_of i j (Final node number) (Final other further) p q (ap (λ (z : ℕ). Final z number) one ∙ ap (Final other) parts.1)

-- ---- one step more

inserted : (eq : PathEdge → PathEdge → Bool) (keys : List PathEdge) (s : PathEdge) →
    (insert_key eq keys s ≡ keys) ⊎ (insert_key eq keys s ≡ keys ++ s ∷ [])
inserted eq keys s = by (list_any (eq s) keys)
  where
    by : (b : Bool) →
        ((if b then keys else keys ++ s ∷ []) ≡ keys) ⊎ ((if b then keys else keys ++ s ∷ []) ≡ keys ++ s ∷ [])
    by true = inl refl
    by false = inr refl

module _ (eq : PathEdge → PathEdge → Bool) (self : (s : PathEdge) → eq s s ≡ true) where
  before : (keys : List PathEdge) → IsDistinct eq keys → (i j : ℕ) (s : PathEdge) → slice_get keys i ≡ Some s →
      slice_get keys j ≡ Some s → i < j → ⊥
  before keys distinct i j s a b lt =
      let other : eq (get_or keys i s) (get_or keys j s) ≡ false = apart_from_distinct eq keys i j s distinct lt (slice_get_within keys j s b) in
      true≢false (sym (self s) ∙ sym (ap (λ (x : PathEdge). eq x s) (get_or_from_slice_get keys i s s a) ∙ ap (eq s) refl)
      ∙ sym (ap (eq (get_or keys i s)) (get_or_from_slice_get keys j s s b)) ∙ other)

  once_of : (keys : List PathEdge) → IsDistinct eq keys → (i j : ℕ) (s : PathEdge) → slice_get keys i ≡ Some s →
      slice_get keys j ≡ Some s → i ≡ j
  once_of keys distinct i j s a b =
      let x : i < j → ⊥ = before keys distinct i j s a b in
      let y : j < i → ⊥ = before keys distinct j i s b a in
      omega (arith, x, y)

  module _ (old new : List PathEdge) (s : PathEdge) (paths : List StablePath) (are : AreSteps old) (seen : paths_of old ≡ paths) (after : IsAfter (length paths) s)
      (keys : new ≡ insert_key eq old s) where
    pub grown : IsGrown paths (paths_of new)
    grown = elim (inserted eq old s) [
      | inl e ↦ ([], ap paths_of (keys ∙ e) ∙ seen ∙ sym (append-nil paths))
      | inr e ↦ (path_by paths s ∷ [], ap paths_of (keys ∙ e) ∙ fold_push with_step [] old s ∙ ap (λ (ps : List StablePath). with_step ps s) seen)
    ]

    pub are_more : IsDistinct eq new → AreSteps new
    are_more distinct = record {
      after = elim (inserted eq old s) [
        | inl e ↦ λ k step is. are.after k step (ap (λ (ks : List PathEdge). slice_get ks k) (sym (keys ∙ e)) ∙ is)
        | inr e ↦ λ k step is. elim (stood_or_last old s k step (ap (λ (ks : List PathEdge). slice_get ks k) (sym (keys ∙ e)) ∙ is)) [
          | inl there ↦ are.after k step there
          | inr last ↦ (
              let long = length_of [] old in
              let all = ap length seen in
              subst (IsAfter k) (sym last.1) (after_more (length paths) k s (omega (arith, long, all, last.0)) after))
        ]
      ];
      once = once_of new distinct;
    }

    pub numbered : (same : (x y : PathEdge) → eq x y ≡ true → x ≡ y) → IsDistinct eq new → (node : ℕ) →
        ((k : PathEdge) × (slice_get new node ≡ Some k) × (eq s k ≡ true)) →
        IsNodeOf (paths_of new) (path_by paths s) node
    numbered same distinct node stored =
        place new (are_more distinct) node s (stored.1 ∙ ap Some (sym (same s stored.0 stored.2))) ∙ ap Some (path_kept paths (paths_of new) s grown after)

-- ---- whether two paths are one

numbers_self : (xs : List ℕ) → same_numbers xs xs ≡ true
numbers_self [] = refl
numbers_self (x ∷ xs) = ap (λ (b : Bool). b && same_numbers xs xs) (eq-eqb x x refl) ∙ numbers_self xs

pub numbers_one : (xs ys : List ℕ) → same_numbers xs ys ≡ true → xs ≡ ys
numbers_one [] [] h = refl
numbers_one [] (y ∷ ys) h = absurd (true≢false (sym h))
numbers_one (x ∷ xs) [] h = absurd (true≢false (sym h))
numbers_one (x ∷ xs) (y ∷ ys) h =
    let parts = and_parts (x == y) (same_numbers xs ys) h in
    let one : x ≡ y = grind (arith, nat_tests, parts.0) in
    ap (λ (z : ℕ). z ∷ xs) one ∙ ap (λ (zs : List ℕ). y ∷ zs) (numbers_one xs ys parts.1)

stable_self : (p : StablePath) → same_stable p p ≡ true
stable_self p = ap (λ (b : Bool). b && same_numbers p.finals p.finals) (eq-eqb p.root p.root refl) ∙ numbers_self p.finals

stable_one : (p q : StablePath) → same_stable p q ≡ true → p ≡ q
stable_one p q h =
    let parts = and_parts (p.root == q.root) (same_numbers p.finals q.finals) h in
    let one : p.root ≡ q.root = grind (arith, nat_tests, parts.0) in
    ap (λ (r : ℕ). record { root = r; finals = p.finals }) one ∙ ap (λ (fs : List ℕ). record { root = q.root; finals = fs }) (numbers_one p.finals q.finals parts.1)

pub same_node : (steps : List PathEdge) → AreSteps steps → (paths : List StablePath) → paths_of steps ≡ paths →
    (i j : ℕ) → i < length paths → j < length paths →
    (i == j) ≡ same_stable (get_or paths i nowhere) (get_or paths j nowhere)
same_node steps are paths seen i j a b = by (same_stable (get_or paths i nowhere) (get_or paths j nowhere)) refl
  where
    by : (r : Bool) → same_stable (get_or paths i nowhere) (get_or paths j nowhere) ≡ r →
        (i == j) ≡ same_stable (get_or paths i nowhere) (get_or paths j nowhere)
    by true e =
        let all = ap length seen in
        let one : i ≡ j = apart steps are (i + 1) i j (omega arith) (omega (arith, a, all)) (omega (arith, b, all))
        (ap (λ (ps : List StablePath). get_or ps i nowhere) seen ∙ stable_one _ _ e ∙ sym (ap (λ (ps : List StablePath). get_or ps j nowhere) seen)) in
        eq-eqb i j one ∙ sym e
    by false e = two (i == j) refl
      where
        two : (r : Bool) → (i == j) ≡ r → (i == j) ≡ same_stable (get_or paths i nowhere) (get_or paths j nowhere)
        two false d = d ∙ sym e
        two true d =
            let one : i ≡ j = grind (arith, nat_tests, d) in
            absurd (true≢false (sym (ap (λ (k : ℕ). same_stable (get_or paths k nowhere) (get_or paths j nowhere)) one ∙ stable_self (get_or paths j nowhere)) ∙ e))

-- ---- along the steps to a node

-- how far a step is from its local
abbrev pub rank : PathEdge → ℕ
rank (Local local) = 0
rank (Final node number) = node + 1

pub falls : (node number : ℕ) (s : PathEdge) → IsAfter node s → rank s < rank (Final node number)
falls node number (Local local) a = omega arith
falls node number (Final other further) a = omega (arith, a)

pub onto_nothing : (p : StablePath) → onto p [] ≡ p
onto_nothing p = ap (λ (fs : List ℕ). record { root = p.root; finals = fs }) (append-nil p.finals)

pub onto_longer : (p : StablePath) (number : ℕ) (ns : List ℕ) → onto (longer p number) ns ≡ onto p (number ∷ ns)
onto_longer p number ns = ap (λ (fs : List ℕ). record { root = p.root; finals = fs }) (append_assoc p.finals (number ∷ []) ns)

pub after_below : (j k : ℕ) (s : PathEdge) → j < k → IsAfter j s → IsAfter k s
after_below j k s lt a = after_more j k s (omega (arith, lt)) a

-- ---- the step to a node

pub no_step : (steps : List PathEdge) (paths : List StablePath) → paths_of steps ≡ paths → (node : ℕ) →
    node < length paths → slice_get steps node ≡ None → ⊥
no_step steps paths seen node lt none =
    let long = length_of [] steps in
    let all = ap length seen in
    none-some _ (sym none ∙ slice_get-get_or steps node (Local 0) (omega (arith, lt, long, all)))

pub step_here : (steps : List PathEdge) → AreSteps steps → (paths : List StablePath) → paths_of steps ≡ paths →
    (node : ℕ) (step : PathEdge) → Some step ≡ slice_get steps node →
    path_by paths step ≡ get_or paths node nowhere
step_here steps are paths seen node step is =
    sym (get_or_from_slice_get paths node (path_by paths step) nowhere
    (sym (ap (λ (ps : List StablePath). slice_get ps node) seen) ∙ place steps are node step (sym is) ∙ ap (λ (ps : List StablePath). Some (path_by ps step)) seen))

pub step_after : (steps : List PathEdge) → AreSteps steps → (node : ℕ) (step : PathEdge) → Some step ≡ slice_get steps node →
    IsAfter node step
step_after steps are node step is = are.after node step (sym is)
