-- Each point of a section is a spot of it, and each `Acquire` of its code is at one.
use Rattle.std.proofs.Common.{◌≡◌, ℕ, ◌+◌, List, [], ◌∷◌, ◌++◌, length, Option, Some, None, inl, inr, refl, sym, ap}
use Rattle.std.proofs.Common.{subst, arith, append_assoc}
use Rattle.std.specs.Prelude.{slice_get}
use Rattle.core_lang.specs.declared.tree.FieldStep.{FieldStep}
use Rattle.core_lang.specs.declared.tree.FieldStep.TheVariants.{Final, Field}
use Rattle.core_lang.specs.declared.tree.Path.{Path}
use Rattle.core_lang.specs.declared.tree.Expr.{Expr, Number, Null, Place, Global, Element', Member', Negate', Owned'}
use Rattle.core_lang.specs.declared.tree.Expr.{Chain', Row_of-Operation, end_of-Operation, more_of-Operation}
use Rattle.core_lang.specs.declared.tree.Condition.{Condition, Compare, Not', And', Or', Row_of-Condition}
use Rattle.core_lang.specs.declared.tree.Condition.{end_of-Condition, more_of-Condition}
use Rattle.core_lang.specs.declared.tree.Stmt.{Stmt}
use Rattle.core_lang.specs.declared.tree.Action.{Action, Bind, SetLocal, SetGlobal, SetElement, SetField, Call, Print}
use Rattle.core_lang.specs.declared.tree.Action.{If', IfElse', While', Row_of-Stmt, end_of-Stmt, more_of-Stmt}
use Rattle.core_lang.specs.declared.tree.Return.{Return as Result_of}
use Rattle.flow.specs.Points.{Point, statement, result, inner_points, points_of_all, point_of_return}
use Rattle.flow.specs.Points as flow
use Rattle.flow.specs.Theory.Each.{Each, each_append}
use Rattle.code.specs.declared.instr.Instr.{Instr}
use Rattle.code.specs.declared.instr.Instr.TheVariants.{Jump, Acquire, Return}
use Rattle.code.specs.Lowering.{fields_code, path_code, expr_code, chain_code, test_code, all_code, any_code}
use Rattle.code.specs.Lowering.{points_of, points_in, acquire_any, acquire_code, stmt_code, block_code, body_code}
use Rattle.code.specs.LineTables.{behind_test}
use Rattle.code.specs.Working.Spots.{Spot, spot, Inside, InBlock, InAction, InBody, InSection}
use Rattle.code.specs.Working.PointLaws.{PointsHaveSpots, OnlySpotsAcquire}
use Rattle.code.proofs.points.Numbers.{length_inner, length_block}
use Rattle.code.proofs.points.Numbered.{EachAt, each_at_append, each_at_there}

-- ---- code that acquires nothing

abbrev IsQuiet : Instr → Type 0
IsQuiet (Acquire p) = ⊥
IsQuiet _ = Unit {0}

abbrev Quiet : List Instr → Type 0
Quiet code = Each IsQuiet code

quiet_both : (a b : List Instr) → Quiet a → Quiet b → Quiet (a ++ b)
quiet_both = each_append IsQuiet

quiet_fields : (fs : List FieldStep) → Quiet (fields_code fs)
quiet_fields [] = tt
quiet_fields (Final s f ∷ fs) = (tt, quiet_fields fs)
quiet_fields (Field s f ∷ fs) = (tt, quiet_fields fs)

quiet_path : (path : Path) → Quiet (path_code path)
quiet_path path = (tt, quiet_fields path.fields.items)

mutual
  quiet_expr : (e : Expr) → Quiet (expr_code e)
  quiet_expr (Number n) = (tt, tt)
  quiet_expr Null = (tt, tt)
  quiet_expr (Place path) = quiet_path path
  quiet_expr (Global start cell) = (tt, tt)
  quiet_expr (Element' start array p index) = quiet_both (expr_code index) _ (quiet_expr index) (tt, tt)
  quiet_expr (Member' pool p index) = quiet_both (expr_code index) _ (quiet_expr index) (tt, tt)
  quiet_expr (Owned' p e s f start k) = quiet_both (expr_code e) _ (quiet_expr e) (tt, tt)
  quiet_expr (Negate' p e) = quiet_both (expr_code e) _ (quiet_expr e) (tt, tt)
  quiet_expr (Chain' p first m rest) = quiet_both (expr_code first) (chain_code rest) (quiet_expr first) (quiet_chain rest)

  quiet_chain : {m : _} (row : Row_of-Operation m) → Quiet (chain_code row)
  quiet_chain end_of-Operation = tt
  quiet_chain (more_of-Operation operator e rest) =
      quiet_both (expr_code e ++ _ ∷ []) (chain_code rest) (quiet_both (expr_code e) _ (quiet_expr e) (tt, tt)) (quiet_chain rest)

mutual
  quiet_test : (c : Condition) → Quiet (test_code c)
  quiet_test (Compare comparison a b) = quiet_both (expr_code a) _ (quiet_expr a) (quiet_both (expr_code b) _ (quiet_expr b) (tt, tt))
  quiet_test (Not' p c) = quiet_both (test_code c) _ (quiet_test c) (tt, tt)
  quiet_test (And' m before p last) =
      let end = test_code last ++ Jump 1 ∷ [] in
      quiet_both (all_code before end) _ (quiet_all before end (quiet_both (test_code last) _ (quiet_test last) (tt, tt))) (tt, tt)
  quiet_test (Or' m before p last) =
      let end = test_code last ++ Jump 1 ∷ [] in
      quiet_both (any_code before end) _ (quiet_any before end (quiet_both (test_code last) _ (quiet_test last) (tt, tt))) (tt, tt)

  quiet_all : {m : _} (row : Row_of-Condition m) (last : List Instr) → Quiet last → Quiet (all_code row last)
  quiet_all end_of-Condition last h = h
  quiet_all (more_of-Condition c rest) last h = quiet_both (test_code c) _ (quiet_test c) (tt, quiet_all rest last h)

  quiet_any : {m : _} (row : Row_of-Condition m) (last : List Instr) → Quiet last → Quiet (any_code row last)
  quiet_any end_of-Condition last h = h
  quiet_any (more_of-Condition c rest) last h = quiet_both (test_code c) _ (quiet_test c) (tt, quiet_any rest last h)

-- ---- spots

module _ {P : Type 0} (lists : List (List P)) (Has : Spot → Type 0) where
  -- there is a spot with this number and this point
  abbrev IsSpotOf : ℕ → Point → Type 0
  IsSpotOf n point = (x : Spot) × Has x × (x.number ≡ n) × (x.point ≡ point)

  mutual
    inner_found : (action : Action) (n place : ℕ) → ((y : Spot) → Inside lists action n place y → Has y) →
        EachAt IsSpotOf (n + 1) (inner_points action)
    inner_found (If' c m block) n place emb = block_found block (n + 1) (behind_test lists (test_code c) n place) emb
    inner_found (IfElse' c m block k otherwise) n place emb =
        let b = behind_test lists (test_code c) n place in
        each_at_append IsSpotOf (n + 1) (flow.points_in block) (flow.points_in otherwise) (block_found block (n + 1) b (λ y h. emb y (inl h)))
        (subst (λ i. EachAt IsSpotOf (n + 1 + i) (flow.points_in otherwise)) (sym (length_block block))
        (block_found otherwise (n + 1 + points_in block) (b + length (block_code lists block (n + 1)) + 1) (λ y h. emb y (inr h))))
    inner_found (While' c m body) n place emb = block_found body (n + 1) (behind_test lists (test_code c) n place) emb
    inner_found (Bind k e) n place emb = tt
    inner_found (SetLocal k e) n place emb = tt
    inner_found (SetGlobal cell e) n place emb = tt
    inner_found (SetElement array i e) n place emb = tt
    inner_found (SetField path s f e) n place emb = tt
    inner_found (Call f es r) n place emb = tt
    inner_found (Print e) n place emb = tt

    block_found : {m : _} (row : Row_of-Stmt m) (n place : ℕ) → ((y : Spot) → InBlock lists row n place y → Has y) →
        EachAt IsSpotOf n (flow.points_in row)
    block_found end_of-Stmt n place emb = tt
    block_found (more_of-Stmt start action rest) n place emb =
        let counted = length_inner action in
        let e : n + points_of action ≡ n + 1 + length (inner_points action) = omega (arith, counted) in (
          (spot n place (statement start action), emb _ (inl (inl refl)), refl, refl),
          each_at_append IsSpotOf (n + 1) (inner_points action) (flow.points_in rest) (inner_found action n place (λ y h. emb y (inl (inr h))))
              (subst (λ i. EachAt IsSpotOf i (flow.points_in rest)) e
              (block_found rest (n + points_of action) (place + length (stmt_code lists action n)) (λ y h. emb y (inr h)))),
        )

  body_found : (ss : List Stmt) (r : Option Result_of) (n place : ℕ) →
      ((y : Spot) → InBody lists ss r n place y → Has y) →
      EachAt IsSpotOf n (points_of_all ss ++ point_of_return r)
  body_found [] None n place emb = tt
  body_found [] (Some r) n place emb = ((spot n place (result r), emb _ refl, refl, refl), tt)
  body_found (s ∷ ss) r n place emb =
      let counted = length_inner s.action in
      let e : n + points_of s.action ≡ n + 1 + length (inner_points s.action) = omega (arith, counted) in (
        (spot n place (statement s.start s.action), emb _ (inl (inl refl)), refl, refl),
        subst (EachAt IsSpotOf (n + 1)) (sym (append_assoc (inner_points s.action) (points_of_all ss) (point_of_return r)))
            (each_at_append IsSpotOf (n + 1) (inner_points s.action) (points_of_all ss ++ point_of_return r) (inner_found s.action n place (λ y h. emb y (inl (inr h))))
            (subst (λ i. EachAt IsSpotOf i (points_of_all ss ++ point_of_return r)) e
            (body_found ss r (n + points_of s.action) (place + length (stmt_code lists s.action n)) (λ y h. emb y (inr h))))),
      )

  -- there is a spot with this number at this place, and something is acquired before it
  abbrev IsAskedAt : ℕ → ℕ → Type 0
  IsAskedAt place p = (x : Spot) × Has x × (x.number ≡ p) × (x.place ≡ place) × (acquire_code lists p ≡ Acquire p ∷ [])

  -- an acquire is at a spot of the section
  abbrev AsksAt : ℕ → Instr → Type 0
  AsksAt place (Acquire p) = IsAskedAt place p
  AsksAt place _ = Unit {0}

  abbrev Asking : ℕ → List Instr → Type 0
  Asking place code = EachAt AsksAt place code

  asks_both : (place : ℕ) (a b : List Instr) → Asking place a → Asking (place + length a) b → Asking place (a ++ b)
  asks_both = each_at_append AsksAt

  quiet_at : (place : ℕ) (i : Instr) → IsQuiet i → AsksAt place i
  quiet_at place (Acquire p) h = absurd h
  quiet_at place _ h = tt

  quiet_asks : (code : List Instr) (place : ℕ) → Quiet code → Asking place code
  quiet_asks [] place h = tt
  quiet_asks (i ∷ is) place h = (quiet_at place i h.0, quiet_asks is (place + 1) h.1)

  acquire_asks : (x : Spot) (n place : ℕ) → Has x → x.number ≡ n → x.place ≡ place → Asking place (acquire_code lists n)
  acquire_asks x n place has e e' = by (slice_get lists n) refl
    where
      by : (o : Option (List P)) → slice_get lists n ≡ o → Asking place (acquire_any o n)
      by None at = tt
      by (Some []) at = tt
      by (Some (path ∷ paths)) at = ((x, has, e, e', ap (λ o. acquire_any o n) at), tt)

  -- a point's own code
  own_asks : (start : ℕ) (action : Action) (n place : ℕ) (own : List Instr) →
      ((y : Spot) → InAction lists start action n place y → Has y) → Quiet own →
      Asking place (acquire_code lists n ++ own)
  own_asks start action n place own emb quiet =
      asks_both place (acquire_code lists n) own (acquire_asks (spot n place (statement start action)) n place (emb _ (inl refl)) refl refl)
      (quiet_asks own (place + length (acquire_code lists n)) quiet)

  mutual
    action_asks : (start : ℕ) (action : Action) (n place : ℕ) →
        ((y : Spot) → InAction lists start action n place y → Has y) → Asking place (stmt_code lists action n)
    action_asks start (Bind k e) n place emb = own_asks start (Bind k e) n place _ emb (quiet_both (expr_code e) _ (quiet_expr e) (tt, tt))
    action_asks start (SetLocal k e) n place emb = own_asks start (SetLocal k e) n place _ emb (quiet_both (expr_code e) _ (quiet_expr e) (tt, tt))
    action_asks start (SetGlobal cell e) n place emb = own_asks start (SetGlobal cell e) n place _ emb (quiet_both (expr_code e) _ (quiet_expr e) (tt, tt))
    action_asks start (SetElement array i e) n place emb =
        own_asks start (SetElement array i e) n place _ emb (quiet_both (expr_code i) _ (quiet_expr i) (tt, quiet_both (expr_code e) _ (quiet_expr e) (tt, tt)))
    action_asks start (SetField path s f e) n place emb =
        own_asks start (SetField path s f e) n place _ emb (quiet_both (path_code path) _ (quiet_path path) (tt, quiet_both (expr_code e) _ (quiet_expr e) (tt, tt)))
    action_asks start (Call f es r) n place emb = own_asks start (Call f es r) n place _ emb (tt, (tt, tt))
    action_asks start (Print e) n place emb = own_asks start (Print e) n place _ emb (quiet_both (expr_code e) _ (quiet_expr e) (tt, tt))
    action_asks start (If' c m block) n place emb =
        asks_both place (acquire_code lists n ++ test_code c) _ (own_asks start (If' c m block) n place (test_code c) emb (quiet_test c))
        (tt, block_asks block (n + 1) (behind_test lists (test_code c) n place) (λ y h. emb y (inr h)))
    action_asks start (IfElse' c m block k otherwise) n place emb =
        let b = behind_test lists (test_code c) n place in
        asks_both place (acquire_code lists n ++ test_code c) _ (own_asks start (IfElse' c m block k otherwise) n place (test_code c) emb (quiet_test c)) (
          tt,
          asks_both b (block_code lists block (n + 1)) _ (block_asks block (n + 1) b (λ y h. emb y (inr (inl h))))
              (tt, block_asks otherwise (n + 1 + points_in block) (b + length (block_code lists block (n + 1)) + 1) (λ y h. emb y (inr (inr h)))),
        )
    action_asks start (While' c m body) n place emb =
        let b = behind_test lists (test_code c) n place in
        asks_both place (acquire_code lists n ++ test_code c) _ (own_asks start (While' c m body) n place (test_code c) emb (quiet_test c))
        (tt, asks_both b (block_code lists body (n + 1)) _ (block_asks body (n + 1) b (λ y h. emb y (inr h))) (tt, tt))

    block_asks : {m : _} (row : Row_of-Stmt m) (n place : ℕ) → ((y : Spot) → InBlock lists row n place y → Has y) →
        Asking place (block_code lists row n)
    block_asks end_of-Stmt n place emb = tt
    block_asks (more_of-Stmt start action rest) n place emb =
        asks_both place (stmt_code lists action n) _ (action_asks start action n place (λ y h. emb y (inl h)))
        (block_asks rest (n + points_of action) (place + length (stmt_code lists action n)) (λ y h. emb y (inr h)))

  body_asks : (ss : List Stmt) (r : Option Result_of) (n place : ℕ) →
      ((y : Spot) → InBody lists ss r n place y → Has y) → Asking place (body_code lists ss n r)
  body_asks [] None n place emb = (tt, tt)
  body_asks [] (Some r) n place emb =
      asks_both place (acquire_code lists n) _ (acquire_asks (spot n place (result r)) n place (emb _ refl) refl refl)
      (quiet_asks (expr_code r.value ++ Return ∷ []) (place + length (acquire_code lists n)) (quiet_both (expr_code r.value) _ (quiet_expr r.value) (tt, tt)))
  body_asks (s ∷ ss) r n place emb =
      asks_both place (stmt_code lists s.action n) _ (action_asks s.start s.action n place (λ y h. emb y (inl h)))
      (body_asks ss r (n + points_of s.action) (place + length (stmt_code lists s.action n)) (λ y h. emb y (inr h)))

pub points_have_spots : {P : Type 0} → PointsHaveSpots P
points_have_spots lists section p point at =
    let Has = InSection lists section in
    let z : 0 + p ≡ p = omega arith in
    subst (λ i. IsSpotOf lists Has i point) z
    (each_at_there (IsSpotOf lists Has) 0 _ p point (body_found lists Has section.body.items section.result 0 0 (λ y h. h)) at)

pub only_spots_acquire : {P : Type 0} → OnlySpotsAcquire P
only_spots_acquire lists section place p at =
    let Has = InSection lists section in
    let z : 0 + place ≡ place = omega arith in
    subst (λ i. IsAskedAt lists Has i p) z
    (each_at_there (AsksAt lists Has) 0 _ place (Acquire p) (body_asks lists Has section.body.items section.result 0 0 (λ y h. h)) at)
