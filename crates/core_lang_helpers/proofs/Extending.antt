-- The extents of helpers, with calls followed one step further.
use Rattle.std.proofs.Common.{◌≡◌, ℕ, suc, ◌+◌, ◌<◌, ◌≤◌, max, List, [], ◌∷◌, ◌++◌, length, get_or, take, refl, sym, ap}
use Rattle.std.proofs.Common.{◌∙◌, arith}
use Rattle.std.specs.Prelude.{⊤, slice_get, Option, Some, None}
use Rattle.std.specs.List.{sum_by}
use Rattle.std.proofs.lemmas.List.{take_more}
use Rattle.std.proofs.lemmas.List.Sums.{sum_by-cons, sum_by_more}
use Rattle.std.proofs.lemmas.Option.{slice_get_past}
use Rattle.core_lang_helpers.specs.declared.graph.CallSite.{CallSite}
use Rattle.core_lang_helpers.specs.declared.extents.Extent.{Extent}
use Rattle.core_lang_helpers.specs.Graphs.{Body}
use Rattle.core_lang_helpers.specs.Depths.{of_body, deepest_of, depth_within, CallsOnly}
use Rattle.core_lang_helpers.specs.Counts.{one_for, hidden, locals_within, points_within}
use Rattle.core_lang_helpers.specs.Faults.{DEPTH_LIMIT, LOCAL_LIMIT, POINT_LIMIT}
use Rattle.core_lang_helpers.specs.Working.Tables.{up_to, no_extent, extent_seen, extent_within, extent_by}

-- ---- counts up to one past a limit

up_both : (limit a b x y : ℕ) → up_to limit a ≡ up_to limit b → up_to limit x ≡ up_to limit y →
    up_to limit (a + x) ≡ up_to limit (b + y)
up_both limit a b x y p q = omega (arith, p, q)

up_max : (limit a b x y : ℕ) → up_to limit a ≡ up_to limit b → up_to limit x ≡ up_to limit y →
    up_to limit (max a x) ≡ up_to limit (max b y)
up_max limit a b x y p q = omega (arith, p, q)

up_up : (limit a b : ℕ) → a ≡ up_to limit b → up_to limit a ≡ up_to limit b
up_up limit a b p = omega (arith, p)

-- a property of each call of a list
abbrev pub AllCalls : (CallSite → Type 0) → List CallSite → Type 0
AllCalls P [] = ⊤
AllCalls P (c ∷ cs) = P c × AllCalls P cs

pub all_calls : (P : ℕ → Type 0) (Q : CallSite → Type 0) → ((c : CallSite) → P c.helper → Q c) → (cs : List CallSite) →
    CallsOnly P cs → AllCalls Q cs
all_calls P Q go [] only = tt
all_calls P Q go (c ∷ cs) only = (go c only.0, all_calls P Q go cs only.1)

pub up_sum : (limit : ℕ) (f g : CallSite → ℕ) (cs : List CallSite) → AllCalls (λ c. up_to limit (f c) ≡ up_to limit (g c)) cs →
    up_to limit (sum_by f cs) ≡ up_to limit (sum_by g cs)
up_sum limit f g [] h = refl
up_sum limit f g (c ∷ cs) h =
    ap (λ n. up_to limit n) (sum_by-cons f c cs) ∙ up_both limit (f c) (g c) (sum_by f cs) (sum_by g cs) h.0 (up_sum limit f g cs h.1)
    ∙ ap (λ n. up_to limit n) (sym (sum_by-cons g c cs))

pub up_deepest : (limit : ℕ) (f g : ℕ → ℕ) (cs : List CallSite) →
    AllCalls (λ (c : CallSite). up_to limit (f c.helper) ≡ up_to limit (g c.helper)) cs →
    up_to limit (deepest_of f cs) ≡ up_to limit (deepest_of g cs)
up_deepest limit f g [] h = refl
up_deepest limit f g (c ∷ cs) h = up_max limit (f c.helper) (g c.helper) (deepest_of f cs) (deepest_of g cs) h.0 (up_deepest limit f g cs h.1)

-- ---- one call further

same_extent : (a b c x y z : ℕ) → a ≡ x → b ≡ y → c ≡ z →
    ◌≡◌ {A = Extent} (record { depth = a; locals = b; points = c }) (record { depth = x; locals = y; points = z })
same_extent a b c x y z p q r = cc

module _ (helpers : List Body) (table : List (Option Extent)) (n : ℕ) where
  -- the table has the extent of a helper, with calls followed up to depth n
  abbrev pub IsRight : ℕ → Type 0
  IsRight h = extent_seen table h ≡ extent_within n helpers h

  depths : (c : CallSite) → IsRight c.helper → up_to DEPTH_LIMIT (extent_seen table c.helper).depth ≡ up_to DEPTH_LIMIT (depth_within n helpers c.helper)
  depths c right = up_up DEPTH_LIMIT (extent_seen table c.helper).depth (depth_within n helpers c.helper) (ap (λ (e : Extent). e.depth) right)

  locals : (c : CallSite) → IsRight c.helper →
      up_to LOCAL_LIMIT ((extent_seen table c.helper).locals + hidden helpers c) ≡ up_to LOCAL_LIMIT (locals_within n helpers c.helper + hidden helpers c)
  locals c right =
      up_both LOCAL_LIMIT (extent_seen table c.helper).locals (locals_within n helpers c.helper) (hidden helpers c) (hidden helpers c)
      (up_up LOCAL_LIMIT (extent_seen table c.helper).locals (locals_within n helpers c.helper) (ap (λ (e : Extent). e.locals) right)) refl

  points : (c : CallSite) → IsRight c.helper →
      up_to POINT_LIMIT (extent_seen table c.helper).points ≡ up_to POINT_LIMIT (points_within n helpers c.helper)
  points c right = up_up POINT_LIMIT (extent_seen table c.helper).points (points_within n helpers c.helper) (ap (λ (e : Extent). e.points) right)

  pub one_further : (h : ℕ) (b : Body) → slice_get helpers h ≡ Some b → CallsOnly IsRight b.calls →
      extent_by table helpers b ≡ extent_within (suc n) helpers h
  one_further h b is right =
      let f : ℕ → ℕ = λ h. (extent_seen table h).depth in
      let g : CallSite → ℕ = λ c. (extent_seen table c.helper).locals + hidden helpers c in
      let g' : CallSite → ℕ = λ c. locals_within n helpers c.helper + hidden helpers c in
      let k : CallSite → ℕ = λ c. (extent_seen table c.helper).points in
      let k' : CallSite → ℕ = λ c. points_within n helpers c.helper in
      same_extent _ _ _ _ _ _
      (up_both DEPTH_LIMIT 1 1 (deepest_of f b.calls) (deepest_of (depth_within n helpers) b.calls) refl
      (up_deepest DEPTH_LIMIT f (depth_within n helpers) b.calls (all_calls IsRight _ depths b.calls right))
      ∙ ap (λ (o : Option Body). up_to DEPTH_LIMIT (of_body o (λ (b : Body). 1 + deepest_of (depth_within n helpers) b.calls))) (sym is))
      (up_both LOCAL_LIMIT b.locals b.locals (sum_by g b.calls) (sum_by g' b.calls) refl (up_sum LOCAL_LIMIT g g' b.calls (all_calls IsRight _ locals b.calls right))
      ∙ ap (λ (o : Option Body). up_to LOCAL_LIMIT (of_body o (λ (b : Body). b.locals + sum_by g' b.calls))) (sym is))
      (up_both POINT_LIMIT (b.parameters + b.points + sum_by k b.calls) (b.parameters + b.points + sum_by k' b.calls) (one_for b.has_result) (one_for b.has_result)
      (up_both POINT_LIMIT (b.parameters + b.points) (b.parameters + b.points) (sum_by k b.calls) (sum_by k' b.calls) refl
      (up_sum POINT_LIMIT k k' b.calls (all_calls IsRight _ points b.calls right))) refl
      ∙ ap (λ (o : Option Body). up_to POINT_LIMIT (of_body o (λ (b : Body). b.parameters + b.points + sum_by k' b.calls + one_for b.has_result))) (sym is))

-- a helper that does not exist brings nothing
pub none_within : (helpers : List Body) (n h : ℕ) → length helpers ≤ h → no_extent ≡ extent_within (suc n) helpers h
none_within helpers n h past =
    let none : slice_get helpers h ≡ None = slice_get_past helpers h past in
    let g : CallSite → ℕ = λ c. locals_within n helpers c.helper + hidden helpers c in
    let k : CallSite → ℕ = λ c. points_within n helpers c.helper in
    same_extent 0 0 0 _ _ _
    (ap (λ (o : Option Body). up_to DEPTH_LIMIT (of_body o (λ (b : Body). 1 + deepest_of (depth_within n helpers) b.calls))) (sym none))
    (ap (λ (o : Option Body). up_to LOCAL_LIMIT (of_body o (λ (b : Body). b.locals + sum_by g b.calls))) (sym none))
    (ap (λ (o : Option Body). up_to POINT_LIMIT (of_body o (λ (b : Body). b.parameters + b.points + sum_by k b.calls + one_for b.has_result))) (sym none))

-- ---- one more call

pub deepest_push : (deep : ℕ → ℕ) (cs : List CallSite) (c : CallSite) →
    deepest_of deep (cs ++ c ∷ []) ≡ max (deepest_of deep cs) (deep c.helper)
deepest_push deep [] c = omega arith
deepest_push deep (x ∷ cs) c = let rest : deepest_of deep (cs ++ c ∷ []) ≡ max (deepest_of deep cs) (deep c.helper) = deepest_push deep cs c in omega (arith, rest)

pub taken : {X : Type 0} (xs : List X) (i : ℕ) (x : X) → i < length xs → x ≡ get_or xs i x →
    take (i + 1) xs ≡ take i xs ++ x ∷ []
taken xs i x lt is = take_more xs i x lt ∙ ap (λ y. take i xs ++ y ∷ []) (sym is)

-- ---- as the code goes over calls

module _ (table : List (Option Extent)) (helpers : List Body) (b : Body) (cs : List CallSite) (i : ℕ) (d : CallSite) (lt : i < length cs) where
  abbrev local_sum : CallSite → ℕ
  local_sum c = (extent_seen table c.helper).locals + hidden helpers c

  abbrev point_sum : CallSite → ℕ
  point_sum c = (extent_seen table c.helper).points

  pub depth_next : (depth callee new : ℕ) → depth ≡ deepest_of (λ h. (extent_seen table h).depth) (take i cs) →
      callee ≡ (extent_seen table (get_or cs i d).helper).depth →
      new ≡ max depth callee → new ≡ deepest_of (λ h. (extent_seen table h).depth) (take (i + 1) cs)
  depth_next depth callee new before at is =
      let deep : ℕ → ℕ = λ h. (extent_seen table h).depth in
      let next : deepest_of deep (take (i + 1) cs) ≡ max (deepest_of deep (take i cs)) (deep (get_or cs i d).helper) =
      ap (deepest_of deep) (take_more cs i d lt) ∙ deepest_push deep (take i cs) (get_or cs i d) in
      omega (arith, before, at, is, next)

  pub locals_next : (locals callee more brought new : ℕ) →
      locals ≡ up_to LOCAL_LIMIT (b.locals + sum_by local_sum (take i cs)) →
      callee ≡ (extent_seen table (get_or cs i d).helper).locals → more ≡ hidden helpers (get_or cs i d) → brought ≡ up_to LOCAL_LIMIT (callee + more) →
      new ≡ up_to LOCAL_LIMIT (locals + brought) → new ≡ up_to LOCAL_LIMIT (b.locals + sum_by local_sum (take (i + 1) cs))
  locals_next locals callee more brought new before at hid both is =
      let next : sum_by local_sum (take (i + 1) cs) ≡ sum_by local_sum (take i cs) + local_sum (get_or cs i d) = sum_by_more local_sum cs i d lt in
      omega (arith, before, at, hid, both, is, next)

  pub points_next : (points callee new : ℕ) →
      points ≡ up_to POINT_LIMIT (b.parameters + b.points + sum_by point_sum (take i cs)) →
      callee ≡ (extent_seen table (get_or cs i d).helper).points → new ≡ up_to POINT_LIMIT (points + callee) →
      new ≡ up_to POINT_LIMIT (b.parameters + b.points + sum_by point_sum (take (i + 1) cs))
  points_next points callee new before at is =
      let next : sum_by point_sum (take (i + 1) cs) ≡ sum_by point_sum (take i cs) + point_sum (get_or cs i d) = sum_by_more point_sum cs i d lt in
      omega (arith, before, at, is, next)
