-- The listed faults are the faults of the graph.
use Rattle.std.proofs.Common.{◌≡◌, ℕ, zero, suc, ◌+◌, ◌<◌, ◌≤◌, Bool, true, false, not, List, [], ◌∷◌, ◌++◌, inl, inr}
use Rattle.std.proofs.Common.{refl, sym, ◌∙◌, subst, append_assoc, arith}
use Rattle.std.specs.Prelude.{nat_lt, nat_le, ◌==◌, slice_get, Some}
use Rattle.std.specs.List.{flat_map, sum_by}
use Rattle.std.proofs.lemmas.Bool.{and_parts, and_from, or_cases, or_left, or_right, eq-eqb, eqb-true, lt-ltb, ltb-true}
use Rattle.std.proofs.lemmas.Bool.{le-leb, leb-true, not-true, not_from_false}
use Rattle.std.proofs.lemmas.List.Sums.{sum_by_push, sum_by-cons}
use Rattle.source.specs.declared.fault.Code.{Code}
use Rattle.source.specs.declared.fault.Code.TheVariants.{LimitExceeded, RecursiveHelper}
use Rattle.source.specs.declared.mistake.Mistake.{Mistake}
use Rattle.source.specs.Theory.Leasts.{IsAmong, among_left, among_right, among_either}
use Rattle.core_lang_helpers.specs.declared.graph.CallSite.{CallSite}
use Rattle.core_lang_helpers.specs.Graphs.{Body, Graph}
use Rattle.core_lang_helpers.specs.Recursion.{LeadsTo}
use Rattle.core_lang_helpers.specs.Depths.{depth, is_endless}
use Rattle.core_lang_helpers.specs.Counts.{brought_locals, brought_points}
use Rattle.core_lang_helpers.specs.Working.Tables.{reaches}
use Rattle.core_lang_helpers.specs.Faults.{DEPTH_LIMIT, LOCAL_LIMIT, POINT_LIMIT, IsRecursive, recursive_call}
use Rattle.core_lang_helpers.specs.Faults.{IsOverLimit, too_deep, too_many_locals, too_many_points, IsGraphFault}
use Rattle.core_lang_helpers.specs.Faults.{recursive, over_limit}
use Rattle.core_lang_helpers.specs.Working.FaultLists.{told_if, leads_back, recursion_faults, is_too_deep, helper_faults}
use Rattle.core_lang_helpers.specs.Working.FaultLists.{helpers_faults, first_too_many, call_faults, section_faults}
use Rattle.core_lang_helpers.specs.Working.FaultLists.{graph_faults}
use Rattle.core_lang_helpers.proofs.Closing.{reaches_all, all_reaches}

-- ---- what is in lists

told : (b : Bool) (code : Code) (start : ℕ) (f : Mistake) → IsAmong f (told_if b code start) →
    (b ≡ true) × (f ≡ record { code = code; start = start })
told true code start f (inl e) = (refl, e)
told true code start f (inr h) = absurd h
told false code start f h = absurd h

is_told : (b : Bool) (code : Code) (start : ℕ) → b ≡ true →
    IsAmong (record { code = code; start = start }) (told_if b code start)
is_told true code start e = inl refl
is_told false code start e = absurd cc

abbrev InOne : {X : Type 0} → (X → List Mistake) → List X → Mistake → Type 0
InOne {X} faults xs f = (k : ℕ) × ((x : X) × (slice_get xs k ≡ Some x) × IsAmong f (faults x))

in_one : {X : Type 0} (faults : X → List Mistake) (xs : List X) (f : Mistake) → IsAmong f (flat_map faults xs) →
    InOne faults xs f
in_one faults [] f h = absurd h
in_one faults (x ∷ xs) f h = elim (among_either f (faults x) (flat_map faults xs) h) [
  | inl here ↦ (0, (x, refl, here))
  | inr later ↦ let r = in_one faults xs f later in (suc r.0, r.1)
]

in_all : {X : Type 0} (faults : X → List Mistake) (xs : List X) (f : Mistake) (k : ℕ) (x : X) →
    slice_get xs k ≡ Some x → IsAmong f (faults x) → IsAmong f (flat_map faults xs)
in_all faults [] f k x is h = absurd cc
in_all faults (y ∷ xs) f zero x is h = let same : y ≡ x = cc in among_left f (faults y) (flat_map faults xs) (subst (λ z. IsAmong f (faults z)) (sym same) h)
in_all faults (y ∷ xs) f (suc k) x is h = among_right f (faults y) (flat_map faults xs) (in_all faults xs f k x is h)

-- ---- helpers

module _ (graph : Graph) where
  abbrev Holds : Mistake → Type 0
  Holds f = IsGraphFault graph f.code f.start

  held : (f g : Mistake) → f ≡ g → IsGraphFault graph g.code g.start → Holds f
  held f g e h = subst (λ (x : Mistake). IsGraphFault graph x.code x.start) (sym e) h

  back : (f : ℕ) (c : CallSite) → leads_back graph.helpers f c ≡ true → LeadsTo graph.helpers c.helper f
  back f c e = elim (or_cases (c.helper == f) (reaches graph.helpers c.helper f) e) [
    | inl same ↦ inl (eqb-true c.helper f same)
    | inr r ↦ inr (all_reaches graph.helpers c.helper f r)
  ]

  forth : (f : ℕ) (c : CallSite) → LeadsTo graph.helpers c.helper f → leads_back graph.helpers f c ≡ true
  forth f c (inl same) = or_left (c.helper == f) (reaches graph.helpers c.helper f) (eq-eqb c.helper f same)
  forth f c (inr r) = or_right (c.helper == f) (reaches graph.helpers c.helper f) (reaches_all graph.helpers c.helper f r)

  helper_true : (k : ℕ) (b : Body) (f : Mistake) → slice_get graph.helpers k ≡ Some b →
      IsAmong f (helper_faults graph.helpers k b) → Holds f
  helper_true k b f is h =
      elim (among_either f (told_if (is_too_deep graph.helpers k) LimitExceeded b.start) (flat_map (recursion_faults graph.helpers k) b.calls) h) [
        | inl deep ↦
            let t = told (is_too_deep graph.helpers k) LimitExceeded b.start f deep in
            let p : (nat_lt DEPTH_LIMIT (depth graph.helpers k) ≡ true) × (not (is_endless graph.helpers k) ≡ true) = and_parts (nat_lt DEPTH_LIMIT (depth graph.helpers k)) (not (is_endless graph.helpers k)) t.0 in
            held f _ t.1 (over_limit (too_deep k is (not-true (is_endless graph.helpers k) p.1) (ltb-true DEPTH_LIMIT (depth graph.helpers k) p.0)))
        | inr call ↦
            let r = in_one (recursion_faults graph.helpers k) b.calls f call in
            let c : CallSite = r.1.0 in
            let t = told (leads_back graph.helpers k c) RecursiveHelper c.start f r.1.2 in
            held f _ t.1 (recursive (recursive_call k r.0 is r.1.1 (back k c t.0)))
      ]

  helpers_one : (f : Mistake) (n : ℕ) (bs : List Body) → IsAmong f (helpers_faults graph.helpers n bs) →
      (k : ℕ) × ((b : Body) × (slice_get bs k ≡ Some b) × IsAmong f (helper_faults graph.helpers (n + k) b))
  helpers_one f n [] h = absurd h
  helpers_one f n (b ∷ bs) h = elim (among_either f (helper_faults graph.helpers n b) (helpers_faults graph.helpers (n + 1) bs) h) [
    | inl here ↦ (0, (b, refl, subst (λ (k : ℕ). IsAmong f (helper_faults graph.helpers k b)) (let e : n ≡ n + 0 = omega arith in e) here))
    | inr later ↦
        let r = helpers_one f (n + 1) bs later in
        let k : ℕ = r.0 in
        (suc k, (r.1.0, r.1.1, subst (λ (m : ℕ). IsAmong f (helper_faults graph.helpers m r.1.0)) (let e : n + 1 + k ≡ n + suc k = omega arith in e) r.1.2))
  ]

  helpers_all : (f : Mistake) (n : ℕ) (bs : List Body) (k : ℕ) (b : Body) → slice_get bs k ≡ Some b →
      IsAmong f (helper_faults graph.helpers (n + k) b) →
      IsAmong f (helpers_faults graph.helpers n bs)
  helpers_all f n [] k b is h = absurd cc
  helpers_all f n (x ∷ bs) zero b is h =
      let same : x ≡ b = cc in
      among_left f (helper_faults graph.helpers n x) (helpers_faults graph.helpers (n + 1) bs)
      (subst (λ (y : Body). IsAmong f (helper_faults graph.helpers n y)) (sym same) (subst (λ (m : ℕ). IsAmong f (helper_faults graph.helpers m b)) (let e : n + 0 ≡ n = omega arith in e) h))
  helpers_all f n (x ∷ bs) (suc k) b is h =
      among_right f (helper_faults graph.helpers n x) (helpers_faults graph.helpers (n + 1) bs)
      (helpers_all f (n + 1) bs k b is (subst (λ (m : ℕ). IsAmong f (helper_faults graph.helpers m b)) (let e : n + suc k ≡ n + 1 + k = omega arith in e) h))

  -- ---- sections

  first_parts : (limit before more : ℕ) → first_too_many limit before more ≡ true →
      (before ≤ limit) × (limit < before + more)
  first_parts limit before more e =
      let p : (nat_le before limit ≡ true) × (nat_lt limit (before + more) ≡ true) = and_parts (nat_le before limit) (nat_lt limit (before + more)) e in
      (leb-true before limit p.0, ltb-true limit (before + more) p.1)

  first_from : (limit before more : ℕ) → before ≤ limit → limit < before + more →
      first_too_many limit before more ≡ true
  first_from limit before more le lt = and_from (nat_le before limit) (nat_lt limit (before + more)) (le-leb before limit le) (lt-ltb limit (before + more) lt)

  -- calls after others
  calls_true : (s : ℕ) (b : Body) → slice_get graph.sections s ≡ Some b →
      (f : Mistake) (before behind : List CallSite) → b.calls ≡ before ++ behind →
      (locals points : ℕ) → locals ≡ b.locals + sum_by (brought_locals graph.helpers) before → points ≡ sum_by (brought_points graph.helpers) before →
      IsAmong f (call_faults graph.helpers locals points behind) → Holds f
  calls_true s b is f before [] all locals points l_is p_is h = absurd h
  calls_true s b is f before (c ∷ cs) all locals points l_is p_is h =
      let L : ℕ = brought_locals graph.helpers c in
      let P : ℕ = brought_points graph.helpers c in
      let one : List Mistake = told_if (first_too_many LOCAL_LIMIT locals L) LimitExceeded c.start in
      let two : List Mistake = told_if (first_too_many POINT_LIMIT points P) LimitExceeded c.start in
      let rest : List Mistake = call_faults graph.helpers (locals + L) (points + P) cs in
      elim (among_either f (one ++ two) rest h) [
        | inl here ↦ elim (among_either f one two here) [
          | inl x ↦
              let t = told (first_too_many LOCAL_LIMIT locals L) LimitExceeded c.start f x in
              let p = first_parts LOCAL_LIMIT locals L t.0 in
              held f _ t.1 (over_limit (too_many_locals s before cs c is all (omega (arith, l_is, p.0)) (omega (arith, l_is, p.1))))
          | inr y ↦
              let t = told (first_too_many POINT_LIMIT points P) LimitExceeded c.start f y in
              let p = first_parts POINT_LIMIT points P t.0 in
              held f _ t.1 (over_limit (too_many_points s before cs c is all (omega (arith, p_is, p.0)) (omega (arith, p_is, p.1))))
        ]
        | inr later ↦
            calls_true s b is f (before ++ c ∷ []) cs (all ∙ sym (append_assoc before (c ∷ []) cs)) (locals + L) (points + P)
            (let e = sum_by_push (brought_locals graph.helpers) before c in omega (arith, l_is, e))
            (let e = sum_by_push (brought_points graph.helpers) before c in omega (arith, p_is, e)) later
      ]

  -- the faults of a call after others
  calls_all : (f : Mistake) (before behind : List CallSite) (c : CallSite) (locals points : ℕ) →
      IsAmong f (told_if (first_too_many LOCAL_LIMIT (locals + sum_by (brought_locals graph.helpers) before) (brought_locals graph.helpers c)) LimitExceeded c.start
      ++ told_if (first_too_many POINT_LIMIT (points + sum_by (brought_points graph.helpers) before) (brought_points graph.helpers c)) LimitExceeded c.start) →
      IsAmong f (call_faults graph.helpers locals points (before ++ c ∷ behind))
  calls_all f [] behind c locals points h =
      let L : ℕ = brought_locals graph.helpers c in
      let P : ℕ = brought_points graph.helpers c in
      let l_is : locals + 0 ≡ locals = omega arith in
      let p_is : points + 0 ≡ points = omega arith in
      among_left f (told_if (first_too_many LOCAL_LIMIT locals L) LimitExceeded c.start ++ told_if (first_too_many POINT_LIMIT points P) LimitExceeded c.start)
      (call_faults graph.helpers (locals + L) (points + P) behind)
      (subst (λ (n : ℕ). IsAmong f (told_if (first_too_many LOCAL_LIMIT locals L) LimitExceeded c.start ++ told_if (first_too_many POINT_LIMIT n P) LimitExceeded c.start)) p_is
      (subst (λ (n : ℕ). IsAmong f (told_if (first_too_many LOCAL_LIMIT n L) LimitExceeded c.start ++ told_if (first_too_many POINT_LIMIT (points + 0) P) LimitExceeded c.start)) l_is h))
  calls_all f (x ∷ before) behind c locals points h =
      let L : ℕ = brought_locals graph.helpers x in
      let P : ℕ = brought_points graph.helpers x in
      let C : ℕ = brought_locals graph.helpers c in
      let D : ℕ = brought_points graph.helpers c in
      let l_is : locals + sum_by (brought_locals graph.helpers) (x ∷ before) ≡ locals + L + sum_by (brought_locals graph.helpers) before =
      let e = sum_by-cons (brought_locals graph.helpers) x before in omega (arith, e) in
      let p_is : points + sum_by (brought_points graph.helpers) (x ∷ before) ≡ points + P + sum_by (brought_points graph.helpers) before =
      let e = sum_by-cons (brought_points graph.helpers) x before in omega (arith, e) in
      among_right f (told_if (first_too_many LOCAL_LIMIT locals L) LimitExceeded x.start ++ told_if (first_too_many POINT_LIMIT points P) LimitExceeded x.start)
      (call_faults graph.helpers (locals + L) (points + P) (before ++ c ∷ behind))
      (calls_all f before behind c (locals + L) (points + P)
      (subst (λ (n : ℕ). IsAmong f (told_if (first_too_many LOCAL_LIMIT (locals + L + sum_by (brought_locals graph.helpers) before) C) LimitExceeded c.start ++ told_if (first_too_many POINT_LIMIT n D) LimitExceeded c.start)) p_is
      (subst (λ (n : ℕ). IsAmong f (told_if (first_too_many LOCAL_LIMIT n C) LimitExceeded c.start ++ told_if (first_too_many POINT_LIMIT (points + sum_by (brought_points graph.helpers) (x ∷ before)) D) LimitExceeded c.start)) l_is h)))

  section_true : (s : ℕ) (b : Body) (f : Mistake) → slice_get graph.sections s ≡ Some b →
      IsAmong f (section_faults graph.helpers b) → Holds f
  section_true s b f is h = calls_true s b is f [] b.calls refl b.locals 0 (omega arith) refl h

  -- ---- the whole

  pub listed_true : (f : Mistake) → IsAmong f (graph_faults graph) → Holds f
  listed_true f h = elim (among_either f (helpers_faults graph.helpers 0 graph.helpers) (flat_map (section_faults graph.helpers) graph.sections) h) [
    | inl x ↦
        let r = helpers_one f 0 graph.helpers x in
        let k : ℕ = r.0 in
        helper_true k r.1.0 f r.1.1 (subst (λ (m : ℕ). IsAmong f (helper_faults graph.helpers m r.1.0)) (let e : 0 + k ≡ k = omega arith in e) r.1.2)
    | inr y ↦ let r = in_one (section_faults graph.helpers) graph.sections f y in section_true r.0 r.1.0 f r.1.1 r.1.2
  ]

  in_helpers : (f : Mistake) (k : ℕ) (b : Body) → slice_get graph.helpers k ≡ Some b →
      IsAmong f (helper_faults graph.helpers k b) → IsAmong f (graph_faults graph)
  in_helpers f k b is h =
      among_left f (helpers_faults graph.helpers 0 graph.helpers) (flat_map (section_faults graph.helpers) graph.sections)
      (helpers_all f 0 graph.helpers k b is (subst (λ (m : ℕ). IsAmong f (helper_faults graph.helpers m b)) (let e : k ≡ 0 + k = omega arith in e) h))

  in_sections : (f : Mistake) (s : ℕ) (b : Body) → slice_get graph.sections s ≡ Some b →
      IsAmong f (section_faults graph.helpers b) → IsAmong f (graph_faults graph)
  in_sections f s b is h =
      among_right f (helpers_faults graph.helpers 0 graph.helpers) (flat_map (section_faults graph.helpers) graph.sections)
      (in_all (section_faults graph.helpers) graph.sections f s b is h)

  listed_call : (f : Mistake) (s : ℕ) (b : Body) (before behind : List CallSite) (c : CallSite) →
      slice_get graph.sections s ≡ Some b → b.calls ≡ before ++ c ∷ behind →
      IsAmong f (told_if (first_too_many LOCAL_LIMIT (b.locals + sum_by (brought_locals graph.helpers) before) (brought_locals graph.helpers c)) LimitExceeded c.start
      ++ told_if (first_too_many POINT_LIMIT (0 + sum_by (brought_points graph.helpers) before) (brought_points graph.helpers c)) LimitExceeded c.start) →
      IsAmong f (graph_faults graph)
  listed_call f s b before behind c is all h =
      in_sections f s b is (subst (λ (cs : List CallSite). IsAmong f (call_faults graph.helpers b.locals 0 cs)) (sym all) (calls_all f before behind c b.locals 0 h))

  over_listed : (p : ℕ) → IsOverLimit graph p →
      IsAmong (record { code = LimitExceeded; start = p }) (graph_faults graph)
  over_listed p (too_deep k {body = b} is ends deep) =
      in_helpers _ k b is (among_left _ (told_if (is_too_deep graph.helpers k) LimitExceeded b.start) (flat_map (recursion_faults graph.helpers k) b.calls)
      (is_told (is_too_deep graph.helpers k) LimitExceeded b.start
      (and_from (nat_lt DEPTH_LIMIT (depth graph.helpers k)) (not (is_endless graph.helpers k)) (lt-ltb DEPTH_LIMIT (depth graph.helpers k) deep) (not_from_false (is_endless graph.helpers k) ends))))
  over_listed p (too_many_locals s before behind c {section = b} is all le lt) =
      listed_call _ s b before behind c is all (among_left _ _ _ (is_told _ LimitExceeded c.start (first_from LOCAL_LIMIT _ (brought_locals graph.helpers c) le lt)))
  over_listed p (too_many_points s before behind c {section = b} is all le lt) =
      let sum : ℕ = sum_by (brought_points graph.helpers) before in
      let le' : 0 + sum ≤ POINT_LIMIT = omega (arith, le) in
      let lt' : POINT_LIMIT < 0 + sum + brought_points graph.helpers c = omega (arith, lt) in
      listed_call _ s b before behind c is all (among_right _ _ _ (is_told _ LimitExceeded c.start (first_from POINT_LIMIT (0 + sum) (brought_points graph.helpers c) le' lt')))

  recursive_listed : (p : ℕ) → IsRecursive graph p →
      IsAmong (record { code = RecursiveHelper; start = p }) (graph_faults graph)
  recursive_listed p (recursive_call f k {body = b} {c = c} is at leads) =
      in_helpers _ f b is (among_right _ (told_if (is_too_deep graph.helpers f) LimitExceeded b.start) (flat_map (recursion_faults graph.helpers f) b.calls)
      (in_all (recursion_faults graph.helpers f) b.calls _ k c at (is_told (leads_back graph.helpers f c) RecursiveHelper c.start (forth f c leads))))

  pub true_listed : (code : Code) (p : ℕ) → IsGraphFault graph code p →
      IsAmong (record { code = code; start = p }) (graph_faults graph)
  true_listed code p (recursive h) = recursive_listed p h
  true_listed code p (over_limit h) = over_listed p h
