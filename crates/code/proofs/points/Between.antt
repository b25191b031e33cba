-- At the end of a point's code, jumps lead to the code of a point that follows it, or to the end of the section.
use Rattle.std.proofs.Common.{◌≡◌, ℕ, ◌+◌, ◌-◌, List, [], ◌∷◌, ◌++◌, length, Option, Some, None, Bool, true, false}
use Rattle.std.proofs.Common.{◌⊎◌, inl, inr, refl, sym, ◌∙◌, subst, arith, length-append}
use Rattle.std.specs.Prelude.{slice_get}
use Rattle.std.proofs.lemmas.Option.{none-some}
use Rattle.core_lang.specs.declared.tree.Stmt.{Stmt}
use Rattle.core_lang.specs.declared.tree.Action.{Action, Bind, SetLocal, SetGlobal, SetElement, SetField, Call, Print}
use Rattle.core_lang.specs.declared.tree.Action.{If', IfElse', While', Row_of-Stmt, end_of-Stmt, more_of-Stmt}
use Rattle.core_lang.specs.declared.tree.Return.{Return as Result_of}
use Rattle.core_lang.specs.declared.tree.Section.{Section}
use Rattle.flow.specs.Skeletons.{Skeleton, Nil, Step, Fork, Loop, count, in_front, all_in_front, return_skeleton}
use Rattle.flow.specs.Skeletons.{skeleton}
use Rattle.flow.specs.Skeletons as flow
use Rattle.flow.specs.Flow.{Flow, head, step_on, fork_a, fork_b, loop_on, loop_end, in_step, in_fork_a, in_fork_b}
use Rattle.flow.specs.Flow.{in_fork_r, in_loop, in_loop_r, Follows}
use Rattle.flow.specs.Points.{Point, statement, result}
use Rattle.code.specs.declared.instr.Instr.{Instr}
use Rattle.code.specs.declared.instr.Instr.TheVariants.{Jump, JumpBack, JumpIfFalse, Return, End}
use Rattle.code.specs.Lowering.{expr_code, test_code, points_of, points_in, acquire_code, stmt_code, block_code}
use Rattle.code.specs.Lowering.{body_code, section_code}
use Rattle.code.specs.Working.Spots.{HasAt, Spot, spot, InBlock, InAction, InBody, InSection}
use Rattle.code.specs.Working.PointLaws.{FirstPointIsAtStart, EmptyHasEnd, SpotsAcquire}
use Rattle.code.proofs.points.Places.{has_front, has_back, has_both, has_all}

-- as many points as in the skeleton
pub count_action : (action : Action) (r : Skeleton) → count (in_front action r) ≡ points_of action + count r
count_action (If' c m block) r = omega arith
count_action (IfElse' c m block k otherwise) r = omega arith
count_action (While' c m body) r = omega arith
count_action (Bind k e) r = omega arith
count_action (SetLocal k e) r = omega arith
count_action (SetGlobal cell e) r = omega arith
count_action (SetElement array i e) r = omega arith
count_action (SetField path s f e) r = omega arith
count_action (Call f es v) r = omega arith
count_action (Print e) r = omega arith

by_truth : (A : Bool → Type 0) → A true → A false → (b : Bool) → A b
by_truth A t f true = t
by_truth A t f false = f

pub head_action : (action : Action) (r : Skeleton) (n : ℕ) (k : Option ℕ) → head (in_front action r) n k ≡ Some n
head_action (If' c m block) r n k = refl
head_action (IfElse' c m block j otherwise) r n k = refl
head_action (While' c m body) r n k = refl
head_action (Bind j e) r n k = refl
head_action (SetLocal j e) r n k = refl
head_action (SetGlobal cell e) r n k = refl
head_action (SetElement array i e) r n k = refl
head_action (SetField path s f e) r n k = refl
head_action (Call f es v) r n k = refl
head_action (Print e) r n k = refl

module _ {P : Type 0} (lists : List (List P)) where
  -- a point's own code, with the acquire before it
  abbrev pub action_code : Action → ℕ → List Instr
  action_code (If' c m block) n = (acquire_code lists n ++ test_code c) ++ JumpIfFalse (length (block_code lists block (n + 1))) ∷ []
  action_code (IfElse' c m block k otherwise) n = (acquire_code lists n ++ test_code c) ++ JumpIfFalse (length (block_code lists block (n + 1)) + 1) ∷ []
  action_code (While' c m body) n = (acquire_code lists n ++ test_code c) ++ JumpIfFalse (length (block_code lists body (n + 1)) + 1) ∷ []
  action_code action n = stmt_code lists action n

  abbrev pub point_code : Point → ℕ → List Instr
  point_code (statement start action) n = action_code action n
  point_code (result r) n = acquire_code lists n ++ (expr_code r.value ++ Return ∷ [])

  -- the end of a point's code; after a condition, by its value
  abbrev pub passed_over : Bool → ℕ → ℕ
  passed_over true over = 0
  passed_over false over = over

  abbrev pub action_end : Action → ℕ → ℕ → Bool → ℕ
  action_end (If' c m block) n place b = place + length (acquire_code lists n ++ test_code c) + 1 + passed_over b (length (block_code lists block (n + 1)))
  action_end (IfElse' c m block k otherwise) n place b = place + length (acquire_code lists n ++ test_code c) + 1 + passed_over b (length (block_code lists block (n + 1)) + 1)
  action_end (While' c m body) n place b = place + length (acquire_code lists n ++ test_code c) + 1 + passed_over b (length (block_code lists body (n + 1)) + 1)
  action_end action n place b = place + length (stmt_code lists action n)

  -- over a code, and which points it has
  module _ (code : List Instr) (Has : Spot → Type 0) where
    -- jumps, or none
    pub data Jumps : ℕ → ℕ → Type 0 where
      none : {a : ℕ} → Jumps a a
      forth : {a b n : ℕ} → slice_get code a ≡ Some (Jump n) → Jumps (a + 1 + n) b → Jumps a b
      back : {a b n : ℕ} → slice_get code a ≡ Some (JumpBack n) → Jumps (a - n) b → Jumps a b

    -- they lead to where this point begins, or to the end
    abbrev pub Lands : ℕ → Option ℕ → Type 0
    Lands a (Some q) = (x : Spot) × Has x × (x.number ≡ q) × Jumps a x.place
    Lands a None = (b : ℕ) × Jumps a b × (slice_get code b ≡ Some End)

    -- to one of these points, or to the end
    abbrev pub Leaves : (ℕ → Type 0) → ℕ → Type 0
    Leaves To a = ((q : ℕ) × To q × Lands a (Some q)) ⊎ Lands a None

    lands_forth : (a n : ℕ) (k : Option ℕ) → slice_get code a ≡ Some (Jump n) → Lands (a + 1 + n) k → Lands a k
    lands_forth a n (Some q) at l = (l.0, l.1, l.2, forth at l.3)
    lands_forth a n None at l = (l.0, forth at l.1, l.2)

    lands_back : (a n : ℕ) (k : Option ℕ) → slice_get code a ≡ Some (JumpBack n) → Lands (a - n) k → Lands a k
    lands_back a n (Some q) at l = (l.0, l.1, l.2, back at l.3)
    lands_back a n None at l = (l.0, back at l.1, l.2)

    leaves : (To : ℕ → Type 0) (a : ℕ) (k : Option ℕ) → ((q : ℕ) → k ≡ Some q → To q) → Lands a k → Leaves To a
    leaves To a (Some q) f l = inl (q, f q refl, l)
    leaves To a None f l = inr l

    leaves_more : (To To' : ℕ → Type 0) (a : ℕ) → ((q : ℕ) → To q → To' q) → Leaves To a → Leaves To' a
    leaves_more To To' a f l = elim l [ inl x ↦ inl (x.0, f x.0 x.1, x.2) | inr y ↦ inr y ]

    -- a point has its code, and its ends lead to such points
    abbrev pub Ends : (ℕ → Type 0) → Spot → Point → Type 0
    Ends To x (statement start action) = (b : Bool) → Leaves To (action_end action x.number x.place b)
    Ends To x (result r) = Unit {0}

    pub record Fine (To : ℕ → Type 0) (x : Spot) : Type 0 where
      pub has : HasAt code x.place (point_code x.point x.number)
      pub ends : Ends To x x.point

    fine_more : (To To' : ℕ → Type 0) (x : Spot) → ((q : ℕ) → To q → To' q) → Fine To x → Fine To' x
    fine_more To To' x f h = record { has = h.has; ends = by x.point h.ends }
      where
        by : (point : Point) → Ends To x point → Ends To' x point
        by (statement start action) e = λ b. leaves_more To To' _ f (e b)
        by (result r) e = tt

    lands_as : (a a' i i' : ℕ) (r : Skeleton) (k : Option ℕ) → a ≡ a' → i ≡ i' → Lands a (head r i k) →
        Lands a' (head r i' k)
    lands_as a a' i i' r k e e' l = subst (λ n. Lands n (head r i' k)) e (subst (λ n. Lands a (head r n k)) e' l)

    flow_later : (action : Action) (r : Skeleton) (n : ℕ) (k : Option ℕ) (p q : ℕ) →
        Flow r (n + points_of action) k p q → Flow (in_front action r) n k p q
    flow_later (If' c m block) r n k p q f =
        let e : n + points_of (If' c m block) ≡ n + 1 + count (flow.block_skeleton block) + count Nil = omega arith in
        in_fork_r (subst (λ i. Flow r i k p q) e f)
    flow_later (IfElse' c m block j otherwise) r n k p q f =
        let e : n + points_of (IfElse' c m block j otherwise) ≡ n + 1 + count (flow.block_skeleton block) + count (flow.block_skeleton otherwise) = omega arith in
        in_fork_r (subst (λ i. Flow r i k p q) e f)
    flow_later (While' c m body) r n k p q f =
        let e : n + points_of (While' c m body) ≡ n + 1 + count (flow.block_skeleton body) = omega arith in
        in_loop_r (subst (λ i. Flow r i k p q) e f)
    flow_later (Bind j e) r n k p q f = in_step f
    flow_later (SetLocal j e) r n k p q f = in_step f
    flow_later (SetGlobal cell e) r n k p q f = in_step f
    flow_later (SetElement array i e) r n k p q f = in_step f
    flow_later (SetField path s g e) r n k p q f = in_step f
    flow_later (Call h es v) r n k p q f = in_step f
    flow_later (Print e) r n k p q f = in_step f

    block_lands : {m : _} (row : Row_of-Stmt m) (n place : ℕ) (k : Option ℕ) →
        ((y : Spot) → InBlock lists row n place y → Has y) →
        Lands (place + length (block_code lists row n)) k → Lands place (head (flow.block_skeleton row) n k)
    block_lands end_of-Stmt n place k emb l =
        let e : place + 0 ≡ place = omega arith in
        subst (λ a. Lands a k) e l
    block_lands (more_of-Stmt start action rest) n place k emb l =
        subst (Lands place) (sym (head_action action (flow.block_skeleton rest) n k)) (spot n place (statement start action), emb _ (inl (inl refl)), refl, none)

    -- a statement without blocks
    simple_fine : (start : ℕ) (action : Action) (n place : ℕ) (k : Option ℕ) (To : ℕ → Type 0) →
        ((q : ℕ) → k ≡ Some q → To q) →
        ((b : Bool) → action_end action n place b ≡ place + length (stmt_code lists action n)) → HasAt code place (action_code action n) →
        Lands (place + length (stmt_code lists action n)) k → Fine To (spot n place (statement start action))
    simple_fine start action n place k To f end has l =
        record { has = has; ends = λ b. leaves To _ k f (subst (λ a. Lands a k) (sym (end b)) l) }

    step_fine : (start : ℕ) (action : Action) (r : Skeleton) (n place : ℕ) (k : Option ℕ) (x : Spot) →
        ((b : Bool) → action_end action n place b ≡ place + length (stmt_code lists action n)) → HasAt code place (action_code action n) →
        Lands (place + length (stmt_code lists action n)) (head r (n + 1) k) → x ≡ spot n place (statement start action) → Fine (Flow (Step r) n k x.number) x
    step_fine start action r n place k x end has l same =
        subst (λ y. Fine (Flow (Step r) n k y.number) y) (sym same) (simple_fine start action n place (head r (n + 1) k) _ (λ q e. step_on e) end has l)

    mutual
      pub action_fine : (start : ℕ) (action : Action) (r : Skeleton) (n place : ℕ) (k : Option ℕ) (x : Spot) →
          HasAt code place (stmt_code lists action n) →
          ((y : Spot) → InAction lists start action n place y → Has y) → Lands (place + length (stmt_code lists action n)) (head r (n + points_of action) k) →
          InAction lists start action n place x → Fine (Flow (in_front action r) n k x.number) x
      action_fine start (Bind j e) r n place k x has emb l h =
          elim h [ inl same ↦ step_fine start (Bind j e) r n place k x (λ b. refl) has l same | inr bad ↦ absurd bad ]
      action_fine start (SetLocal j e) r n place k x has emb l h =
          elim h [ inl same ↦ step_fine start (SetLocal j e) r n place k x (λ b. refl) has l same | inr bad ↦ absurd bad ]
      action_fine start (SetGlobal cell e) r n place k x has emb l h =
          elim h [ inl same ↦ step_fine start (SetGlobal cell e) r n place k x (λ b. refl) has l same | inr bad ↦ absurd bad ]
      action_fine start (SetElement array i e) r n place k x has emb l h =
          elim h [ inl same ↦ step_fine start (SetElement array i e) r n place k x (λ b. refl) has l same | inr bad ↦ absurd bad ]
      action_fine start (SetField path s f e) r n place k x has emb l h =
          elim h [ inl same ↦ step_fine start (SetField path s f e) r n place k x (λ b. refl) has l same | inr bad ↦ absurd bad ]
      action_fine start (Call f es v) r n place k x has emb l h =
          elim h [ inl same ↦ step_fine start (Call f es v) r n place k x (λ b. refl) has l same | inr bad ↦ absurd bad ]
      action_fine start (Print e) r n place k x has emb l h =
          elim h [ inl same ↦ step_fine start (Print e) r n place k x (λ b. refl) has l same | inr bad ↦ absurd bad ]
      action_fine start (If' c m block) r n place k x has emb l h =
          let ct = acquire_code lists n ++ test_code c in
          let ca = block_code lists block (n + 1) in
          let place_a = place + length ct + 1 in
          let next = head r (n + 1 + count (flow.block_skeleton block) + count Nil) k in
          let back = has_back code place ct _ has in
          let l' = lands_as (place + length (ct ++ (JumpIfFalse (length ca) ∷ ca))) (place_a + length ca) (n + points_of (If' c m block)) (n + 1 + count (flow.block_skeleton block) + count Nil) r k
          (omega (arith, length-append ct (JumpIfFalse (length ca) ∷ ca))) (omega arith) l in
          let e0 : place_a ≡ place_a + 0 = omega arith in
          elim h [
            | inl same ↦ subst (λ y. Fine (Flow (Fork (flow.block_skeleton block) Nil r) n k y.number) y) (sym same)
                (record {
                  has = has_both code place ct (JumpIfFalse (length ca) ∷ []) (has_front code place ct _ has) (back.0, tt);
                  ends = by_truth (λ b. Leaves (Flow (Fork (flow.block_skeleton block) Nil r) n k n) (place_a + passed_over b (length ca)))
                      (leaves (Flow (Fork (flow.block_skeleton block) Nil r) n k n) (place_a + 0) (head (flow.block_skeleton block) (n + 1) next) (λ q e. fork_a e)
                      (subst (λ a. Lands a (head (flow.block_skeleton block) (n + 1) next)) e0 (block_lands block (n + 1) place_a next (λ y h. emb y (inr h)) l')))
                      (leaves (Flow (Fork (flow.block_skeleton block) Nil r) n k n) (place_a + length ca) next (λ q e. fork_b e) l');
                })
            | inr inside ↦ fine_more _ _ x (λ q f. in_fork_a f) (block_fine block (n + 1) place_a next x back.1 (λ y h. emb y (inr h)) l' inside)
          ]
      action_fine start (IfElse' c m block j otherwise) r n place k x has emb l h =
          let ct = acquire_code lists n ++ test_code c in
          let ca = block_code lists block (n + 1) in
          let cb = block_code lists otherwise (n + 1 + points_in block) in
          let fa = flow.block_skeleton block in let fb = flow.block_skeleton otherwise in
          let place_a = place + length ct + 1 in
          let place_b = place_a + length ca + 1 in
          let next = head r (n + 1 + count fa + count fb) k in
          let back = has_back code place ct _ has in
          let hb = has_back code place_a ca _ back.1 in
          let same_n : n + 1 + points_in block ≡ n + 1 + count fa = refl in
          let l' = lands_as (place + length (ct ++ (JumpIfFalse (length ca + 1) ∷ (ca ++ (Jump (length cb) ∷ cb))))) (place_b + length cb)
          (n + points_of (IfElse' c m block j otherwise)) (n + 1 + count fa + count fb) r k
          (omega (arith, length-append ct (JumpIfFalse (length ca + 1) ∷ (ca ++ (Jump (length cb) ∷ cb))), length-append ca (Jump (length cb) ∷ cb))) (omega arith) l in
          let la = lands_forth (place_a + length ca) (length cb) next hb.0 l' in
          let e0 : place_a ≡ place_a + 0 = omega arith in
          let e1 : place_b ≡ place_a + (length ca + 1) = omega arith in
          elim h [
            | inl same ↦ subst (λ y. Fine (Flow (Fork fa fb r) n k y.number) y) (sym same)
                (record {
                  has = has_both code place ct (JumpIfFalse (length ca + 1) ∷ []) (has_front code place ct _ has) (back.0, tt);
                  ends = by_truth (λ b. Leaves (Flow (Fork fa fb r) n k n) (place_a + passed_over b (length ca + 1)))
                      (leaves (Flow (Fork fa fb r) n k n) (place_a + 0) (head fa (n + 1) next) (λ q e. fork_a e)
                      (subst (λ a. Lands a (head fa (n + 1) next)) e0 (block_lands block (n + 1) place_a next (λ y h. emb y (inr (inl h))) la)))
                      (leaves (Flow (Fork fa fb r) n k n) (place_a + (length ca + 1)) (head fb (n + 1 + count fa) next) (λ q e. fork_b e)
                      (subst (λ a. Lands a (head fb (n + 1 + count fa) next)) e1
                      (subst (λ i. Lands place_b (head fb i next)) same_n (block_lands otherwise (n + 1 + points_in block) place_b next (λ y h. emb y (inr (inr h))) l'))));
                })
            | inr inside ↦ elim inside [
              | inl first ↦ fine_more _ _ x (λ q f. in_fork_a f) (block_fine block (n + 1) place_a next x (has_front code place_a ca _ back.1) (λ y h. emb y (inr (inl h))) la first)
              | inr second ↦ fine_more (Flow fb (n + 1 + points_in block) next x.number) _ x (λ q f. in_fork_b (subst (λ i. Flow fb i next x.number q) same_n f))
                  (block_fine otherwise (n + 1 + points_in block) place_b next x hb.1 (λ y h. emb y (inr (inr h))) l' second)
            ]
          ]
      action_fine start (While' c m body) r n place k x has emb l h =
          let ct = acquire_code lists n ++ test_code c in
          let cs = block_code lists body (n + 1) in
          let fa = flow.block_skeleton body in
          let place_s = place + length ct + 1 in
          let back = has_back code place ct _ has in
          let hb = has_back code place_s cs _ back.1 in
          let next = head r (n + 1 + count fa) k in
          let again_code = JumpBack (length ct + 1 + length cs) ∷ [] in
          let l' = lands_as (place + length (ct ++ (JumpIfFalse (length cs + 1) ∷ (cs ++ again_code)))) (place_s + (length cs + 1))
          (n + points_of (While' c m body)) (n + 1 + count fa) r k
          (omega (arith, length-append ct (JumpIfFalse (length cs + 1) ∷ (cs ++ again_code)), length-append cs again_code)) (omega arith) l in
          let again : place ≡ place_s + length cs - (length ct + 1 + length cs) = omega arith in
          let lb = lands_back (place_s + length cs) (length ct + 1 + length cs) (Some n) hb.0
          (subst (λ a. Lands a (Some n)) again (spot n place (statement start (While' c m body)), emb _ (inl refl), refl, none)) in
          let e0 : place_s ≡ place_s + 0 = omega arith in
          elim h [
            | inl same ↦ subst (λ y. Fine (Flow (Loop fa r) n k y.number) y) (sym same)
                (record {
                  has = has_both code place ct (JumpIfFalse (length cs + 1) ∷ []) (has_front code place ct _ has) (back.0, tt);
                  ends = by_truth (λ b. Leaves (Flow (Loop fa r) n k n) (place_s + passed_over b (length cs + 1)))
                      (leaves (Flow (Loop fa r) n k n) (place_s + 0) (head fa (n + 1) (Some n)) (λ q e. loop_on e)
                      (subst (λ a. Lands a (head fa (n + 1) (Some n))) e0 (block_lands body (n + 1) place_s (Some n) (λ y h. emb y (inr h)) lb)))
                      (leaves (Flow (Loop fa r) n k n) (place_s + (length cs + 1)) next (λ q e. loop_end e) l');
                })
            | inr inside ↦ fine_more _ _ x (λ q f. in_loop f) (block_fine body (n + 1) place_s (Some n) x (has_front code place_s cs _ back.1) (λ y h. emb y (inr h)) lb inside)
          ]

      pub block_fine : {m : _} (row : Row_of-Stmt m) (n place : ℕ) (k : Option ℕ) (x : Spot) →
          HasAt code place (block_code lists row n) →
          ((y : Spot) → InBlock lists row n place y → Has y) → Lands (place + length (block_code lists row n)) k →
          InBlock lists row n place x → Fine (Flow (flow.block_skeleton row) n k x.number) x
      block_fine end_of-Stmt n place k x has emb l h = absurd h
      block_fine (more_of-Stmt start action rest) n place k x has emb l h =
          let cx = stmt_code lists action n in
          let cr = block_code lists rest (n + points_of action) in
          let end : place + length (cx ++ cr) ≡ place + length cx + length cr = omega (arith, length-append cx cr) in
          let l' = subst (λ a. Lands a k) end l in
          elim h [
            | inl first ↦ action_fine start action (flow.block_skeleton rest) n place k x (has_front code place cx _ has) (λ y h. emb y (inl h))
                (block_lands rest (n + points_of action) (place + length cx) k (λ y h. emb y (inr h)) l') first
            | inr later ↦ fine_more _ _ x (λ q f. flow_later action (flow.block_skeleton rest) n k x.number q f)
                (block_fine rest (n + points_of action) (place + length cx) k x (has_back code place cx _ has) (λ y h. emb y (inr h)) l' later)
          ]

    body_lands : (ss : List Stmt) (r : Option Result_of) (n place : ℕ) → HasAt code place (body_code lists ss n r) →
        ((y : Spot) → InBody lists ss r n place y → Has y) →
        Lands place (head (all_in_front ss (return_skeleton r)) n None)
    body_lands [] None n place has emb = (place, none, has.0)
    body_lands [] (Some r) n place has emb = (spot n place (result r), emb _ refl, refl, none)
    body_lands (s ∷ ss) r n place has emb =
        subst (Lands place) (sym (head_action s.action (all_in_front ss (return_skeleton r)) n None)) (spot n place (statement s.start s.action), emb _ (inl (inl refl)), refl, none)

    body_fine : (ss : List Stmt) (r : Option Result_of) (n place : ℕ) (x : Spot) →
        HasAt code place (body_code lists ss n r) → ((y : Spot) → InBody lists ss r n place y → Has y) →
        InBody lists ss r n place x → Fine (Flow (all_in_front ss (return_skeleton r)) n None x.number) x
    body_fine [] None n place x has emb h = absurd h
    body_fine [] (Some r) n place x has emb h = subst (λ y. Fine (Flow (Step Nil) n None y.number) y) (sym h) (record { has = has; ends = tt })
    body_fine (s ∷ ss) r n place x has emb h =
        let cx = stmt_code lists s.action n in
        let back = has_back code place cx _ has in
        elim h [
          | inl first ↦ action_fine s.start s.action (all_in_front ss (return_skeleton r)) n place None x (has_front code place cx _ has) (λ y h. emb y (inl h))
              (body_lands ss r (n + points_of s.action) (place + length cx) back (λ y h. emb y (inr h))) first
          | inr later ↦ fine_more _ _ x (λ q f. flow_later s.action (all_in_front ss (return_skeleton r)) n None x.number q f)
              (body_fine ss r (n + points_of s.action) (place + length cx) x back (λ y h. emb y (inr h)) later)
        ]

-- each point of a section has its code in the section's, and its ends lead to points that follow it
pub section_fine : {P : Type 0} (lists : List (List P)) (section : Section) (x : Spot) → InSection lists section x →
    Fine lists (section_code lists section) (InSection lists section) (Follows (skeleton section) x.number) x
section_fine lists section x h =
    body_fine lists (section_code lists section) (InSection lists section) section.body.items section.result 0 0 x (has_all (section_code lists section) []) (λ y h. h) h

-- it starts with the first one
first_at_start : {P : Type 0} (lists : List (List P)) (ss : List Stmt) (r : Option Result_of) (p : ℕ) →
    head (all_in_front ss (return_skeleton r)) 0 None ≡ Some p →
    (x : Spot) × InBody lists ss r 0 0 x × (x.number ≡ p) × (x.place ≡ 0)
first_at_start lists [] None p e = absurd (none-some p e)
first_at_start lists [] (Some r) p e = (spot 0 0 (result r), refl, (let same : 0 ≡ p = cc in same), refl)
first_at_start lists (s ∷ ss) r p e =
    let is : Some 0 ≡ Some p = sym (head_action s.action (all_in_front ss (return_skeleton r)) 0 None) ∙ e in
    (spot 0 0 (statement s.start s.action), inl (inl refl), (let same : 0 ≡ p = cc in same), refl)

pub first_point_is_at_start : {P : Type 0} → FirstPointIsAtStart P
first_point_is_at_start lists section p e = first_at_start lists section.body.items section.result p e

-- or with its end
end_at_start : {P : Type 0} (lists : List (List P)) (ss : List Stmt) (r : Option Result_of) →
    head (all_in_front ss (return_skeleton r)) 0 None ≡ None →
    slice_get (body_code lists ss 0 r) 0 ≡ Some End
end_at_start lists [] None e = refl
end_at_start lists [] (Some r) e = absurd (none-some 0 (sym e))
end_at_start lists (s ∷ ss) r e = absurd (none-some 0 (sym e ∙ head_action s.action (all_in_front ss (return_skeleton r)) 0 None))

pub empty_has_end : {P : Type 0} → EmptyHasEnd P
empty_has_end lists section e = end_at_start lists section.body.items section.result e

-- ---- the acquire before a point

acquires_first : {P : Type 0} (lists : List (List P)) (code : List Instr) (place n : ℕ) (point : Point) →
    HasAt code place (point_code lists point n) →
    HasAt code place (acquire_code lists n)
acquires_first lists code place n (result r) has = has_front code place (acquire_code lists n) _ has
acquires_first lists code place n (statement start (Bind k e)) has = has_front code place (acquire_code lists n) _ has
acquires_first lists code place n (statement start (SetLocal k e)) has = has_front code place (acquire_code lists n) _ has
acquires_first lists code place n (statement start (SetGlobal cell e)) has = has_front code place (acquire_code lists n) _ has
acquires_first lists code place n (statement start (SetElement array i e)) has = has_front code place (acquire_code lists n) _ has
acquires_first lists code place n (statement start (SetField path s f e)) has = has_front code place (acquire_code lists n) _ has
acquires_first lists code place n (statement start (Call f es v)) has = has_front code place (acquire_code lists n) _ has
acquires_first lists code place n (statement start (Print e)) has = has_front code place (acquire_code lists n) _ has
acquires_first lists code place n (statement start (If' c m block)) has =
    has_front code place (acquire_code lists n) (test_code c) (has_front code place (acquire_code lists n ++ test_code c) _ has)
acquires_first lists code place n (statement start (IfElse' c m block k otherwise)) has =
    has_front code place (acquire_code lists n) (test_code c) (has_front code place (acquire_code lists n ++ test_code c) _ has)
acquires_first lists code place n (statement start (While' c m body)) has =
    has_front code place (acquire_code lists n) (test_code c) (has_front code place (acquire_code lists n ++ test_code c) _ has)

pub spots_acquire : {P : Type 0} → SpotsAcquire P
spots_acquire lists section x inside =
    acquires_first lists (section_code lists section) x.place x.number x.point (section_fine lists section x inside).has
