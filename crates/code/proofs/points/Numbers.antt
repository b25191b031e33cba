-- A point of the code is the point of the flow with its number.
use Rattle.std.proofs.Common.{◌≡◌, ℕ, ◌+◌, ◌<◌, List, [], ◌∷◌, ◌++◌, length, Option, Some, None, inl, inr, refl, sym}
use Rattle.std.proofs.Common.{ap, ◌∙◌, subst, arith, length-append, append_assoc}
use Rattle.std.specs.Prelude.{slice_get}
use Rattle.std.proofs.Math.Seq.{get_or-append_seam}
use Rattle.std.proofs.lemmas.Option.{slice_get-get_or}
use Rattle.core_lang.specs.declared.tree.Stmt.{Stmt}
use Rattle.core_lang.specs.declared.tree.Action.{Action, Bind, SetLocal, SetGlobal, SetElement, SetField, Call, Print}
use Rattle.core_lang.specs.declared.tree.Action.{If', IfElse', While', Row_of-Stmt, end_of-Stmt, more_of-Stmt}
use Rattle.core_lang.specs.declared.tree.Return.{Return as Result_of}
use Rattle.core_lang.specs.declared.tree.Section.{Section}
use Rattle.flow.specs.Points.{Point, statement, result, inner_points, points_of_all, point_of_return, points}
use Rattle.flow.specs.Points as flow
use Rattle.code.specs.Lowering.{points_of, points_in}
use Rattle.flow.specs.Skeletons.{block_skeleton}
use Rattle.code.specs.Working.Spots.{Spot, spot, Inside, InBlock, InBody, InSection}
use Rattle.code.proofs.points.Between.{count_action}

-- a point of a list, after the given number of others
pub record StandsAt (xs : List Point) (i : ℕ) (p : Point) : Type 0 where
  pub before : List Point
  pub behind : List Point
  pub is : xs ≡ before ++ p ∷ behind
  pub count : length before ≡ i

stands_front : (xs ys : List Point) (i : ℕ) (p : Point) → StandsAt xs i p → StandsAt (xs ++ ys) i p
stands_front xs ys i p s =
    record { before = s.before; behind = s.behind ++ ys; is = ap (λ l. l ++ ys) s.is ∙ append_assoc s.before (p ∷ s.behind) ys; count = s.count }

stands_back : (xs ys : List Point) (i j : ℕ) (p : Point) → length xs + i ≡ j → StandsAt ys i p → StandsAt (xs ++ ys) j p
stands_back xs ys i j p e s =
    let c = s.count in
    record { before = xs ++ s.before; behind = s.behind; is = ap (λ l. xs ++ l) s.is ∙ sym (append_assoc xs s.before (p ∷ s.behind)); count = omega (arith, c, e, length-append xs s.before) }

stands_get : (xs : List Point) (i : ℕ) (p : Point) → StandsAt xs i p → slice_get xs i ≡ Some p
stands_get xs i p s =
    let within : length s.before < length (s.before ++ p ∷ s.behind) = omega (arith, length-append s.before (p ∷ s.behind)) in
    ap (slice_get xs) (sym s.count) ∙ ap (λ l. slice_get l (length s.before)) s.is
    ∙ slice_get-get_or (s.before ++ p ∷ s.behind) (length s.before) p within ∙ ap Some (get_or-append_seam s.before p s.behind p)

-- as many points as are counted
mutual
  pub length_inner : (action : Action) → 1 + length (inner_points action) ≡ points_of action
  length_inner (If' c m block) = let a = length_block block in omega (arith, a)
  length_inner (IfElse' c m block k otherwise) = let a = length_block block in let b = length_block otherwise in omega (arith, a, b, length-append (flow.points_in block) (flow.points_in otherwise))
  length_inner (While' c m body) = let a = length_block body in omega (arith, a)
  length_inner (Bind k e) = refl
  length_inner (SetLocal k e) = refl
  length_inner (SetGlobal cell e) = refl
  length_inner (SetElement array i e) = refl
  length_inner (SetField path s f e) = refl
  length_inner (Call f es r) = refl
  length_inner (Print e) = refl

  pub length_block : {m : _} (row : Row_of-Stmt m) → length (flow.points_in row) ≡ points_in row
  length_block end_of-Stmt = refl
  length_block (more_of-Stmt start action rest) =
      let a = length_inner action in let b = length_block rest in
      omega (arith, a, b, length-append (inner_points action) (flow.points_in rest), count_action action (block_skeleton rest))

module _ {P : Type 0} (lists : List (List P)) where
  -- the point has a number from n on, and stands there
  abbrev pub Numbered : List Point → ℕ → Spot → Type 0
  Numbered xs n x = (i : ℕ) × (x.number ≡ n + i) × StandsAt xs i x.point

  numbered_here : (x : Spot) (n place : ℕ) (p : Point) (behind : List Point) → x ≡ spot n place p →
      Numbered (p ∷ behind) n x
  numbered_here x n place p behind e =
      subst (Numbered (p ∷ behind) n) (sym e) (0, (let z : n ≡ n + 0 = omega arith in z), record { before = []; behind = behind; is = refl; count = refl })

  numbered_front : (xs ys : List Point) (n : ℕ) (x : Spot) → Numbered xs n x → Numbered (xs ++ ys) n x
  numbered_front xs ys n x h = (h.0, h.1, stands_front xs ys h.0 x.point h.2)

  numbered_back : (xs ys : List Point) (n n' : ℕ) (x : Spot) → n' ≡ n + length xs → Numbered ys n' x →
      Numbered (xs ++ ys) n x
  numbered_back xs ys n n' x e h = let a = h.1 in (length xs + h.0, omega (arith, a, e), stands_back xs ys h.0 (length xs + h.0) x.point refl h.2)

  mutual
    pub inside_numbered : (action : Action) (n place : ℕ) (x : Spot) → Inside lists action n place x →
        Numbered (inner_points action) (n + 1) x
    inside_numbered (If' c m block) n place x h = block_numbered block (n + 1) _ x h
    inside_numbered (IfElse' c m block k otherwise) n place x h =
        elim h [
          | inl first ↦ numbered_front (flow.points_in block) (flow.points_in otherwise) (n + 1) x (block_numbered block (n + 1) _ x first)
          | inr second ↦ numbered_back (flow.points_in block) (flow.points_in otherwise) (n + 1) (n + 1 + points_in block) x (ap (λ l. n + 1 + l) (sym (length_block block)))
              (block_numbered otherwise (n + 1 + points_in block) _ x second)
        ]
    inside_numbered (While' c m body) n place x h = block_numbered body (n + 1) _ x h
    inside_numbered (Bind k e) n place x h = absurd h
    inside_numbered (SetLocal k e) n place x h = absurd h
    inside_numbered (SetGlobal cell e) n place x h = absurd h
    inside_numbered (SetElement array i e) n place x h = absurd h
    inside_numbered (SetField path s f e) n place x h = absurd h
    inside_numbered (Call f es r) n place x h = absurd h
    inside_numbered (Print e) n place x h = absurd h

    pub block_numbered : {m : _} (row : Row_of-Stmt m) (n place : ℕ) (x : Spot) → InBlock lists row n place x →
        Numbered (flow.points_in row) n x
    block_numbered end_of-Stmt n place x h = absurd h
    block_numbered (more_of-Stmt start action rest) n place x h =
        let p = statement start action in
        let inner = inner_points action in let later = flow.points_in rest in
        elim h [
          | inl first ↦ elim first [
            | inl same ↦ numbered_here x n place p (inner ++ later) same
            | inr inside ↦ numbered_back (p ∷ []) (inner ++ later) n (n + 1) x refl (numbered_front inner later (n + 1) x (inside_numbered action n place x inside))
          ]
          | inr more ↦ numbered_back (p ∷ []) (inner ++ later) n (n + 1) x refl
              (numbered_back inner later (n + 1) (n + points_of action) x (let a = length_inner action in omega (arith, a)) (block_numbered rest (n + points_of action) _ x more))
        ]

  pub body_numbered : (ss : List Stmt) (r : Option Result_of) (n place : ℕ) (x : Spot) → InBody lists ss r n place x →
      Numbered (points_of_all ss ++ point_of_return r) n x
  body_numbered [] None n place x h = absurd h
  body_numbered [] (Some r) n place x h = numbered_here x n place (result r) [] h
  body_numbered (s ∷ ss) r n place x h =
      let p = statement s.start s.action in
      let inner = inner_points s.action in let later = points_of_all ss ++ point_of_return r in
      let flat : (p ∷ []) ++ (inner ++ later) ≡ points_of_all (s ∷ ss) ++ point_of_return r = ap (λ l. p ∷ l) (sym (append_assoc inner (points_of_all ss) (point_of_return r))) in
      subst (λ l. Numbered l n x) flat
      (elim h [
        | inl first ↦ elim first [
          | inl same ↦ numbered_here x n place p (inner ++ later) same
          | inr inside ↦ numbered_back (p ∷ []) (inner ++ later) n (n + 1) x refl (numbered_front inner later (n + 1) x (inside_numbered s.action n place x inside))
        ]
        | inr more ↦ numbered_back (p ∷ []) (inner ++ later) n (n + 1) x refl
            (numbered_back inner later (n + 1) (n + points_of s.action) x (let a = length_inner s.action in omega (arith, a)) (body_numbered ss r (n + points_of s.action) _ x more))
      ])

  pub spot_is_point : (section : Section) (x : Spot) → InSection lists section x →
      slice_get (points section) x.number ≡ Some x.point
  spot_is_point section x h =
      let b = body_numbered section.body.items section.result 0 0 x h in
      let z = b.1 in
      let e : x.number ≡ b.0 = omega (arith, z) in
      ap (slice_get (points section)) e ∙ stands_get (points section) b.0 x.point b.2
