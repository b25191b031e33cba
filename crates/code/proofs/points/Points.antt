-- From the start of a point's own code, with its accesses covered, each instruction has its case until a point that
-- follows it begins.
use Rattle.std.proofs.Common.{◌≡◌, ℕ, ◌+◌, ◌≤◌, List, [], ◌∷◌, ◌++◌, length, Option, Some, Bool, true, false, inl}
use Rattle.std.proofs.Common.{inr, refl, sym, ◌∙◌, subst, arith, length-append}
use Rattle.std.specs.Prelude.{slice_get}
use Rattle.core_lang.specs.declared.value.Value.{Value}
use Rattle.core_lang.specs.declared.value.Outcome.{Outcome}
use Rattle.core_lang.specs.declared.value.Outcome.TheVariants as out
use Rattle.core_lang.specs.declared.tree.Condition.{Condition}
use Rattle.core_lang.specs.declared.tree.Action.{Action, Bind, SetLocal, SetGlobal, SetElement, SetField, Call, Print}
use Rattle.core_lang.specs.declared.tree.Action.{If', IfElse', While'}
use Rattle.core_lang.specs.declared.tree.Section.{Section}
use Rattle.core_lang.specs.declared.shape.Shape.{Shape}
use Rattle.core_lang.specs.Meaning.{State, GoesOn, given, value_of, truth_of, effect_of}
use Rattle.core_lang.specs.Helpers.{NoHelper, CallsNothing}
use Rattle.flow.specs.Skeletons.{skeleton}
use Rattle.flow.specs.Flow.{Follows}
use Rattle.flow.specs.Points.{Point, statement, result}
use Rattle.flow.specs.Working.Effects.{effect_at}
use Rattle.flow.specs.Theory.PointCalls.{PointCalls, point_calls}
use Rattle.locks.specs.Accesses.{in_condition, in_action, accesses_at}
use Rattle.code.specs.declared.instr.Instr.{Instr}
use Rattle.code.specs.declared.instr.Instr.TheVariants.{Jump, JumpBack, JumpIfFalse, End}
use Rattle.code.specs.Machine.{Machine}
use Rattle.code.specs.Lowering.{expr_code, test_code, acquire_code, section_code}
use Rattle.code.specs.Needs.{test_need, stmt_need, operand_need}
use Rattle.code.proofs.points.Numbers.{spot_is_point}
use Rattle.code.proofs.points.Needed.{point_need, spot_within}
use Rattle.code.specs.Working.Seen.{IsMemory, Shows, IsSeen, Covers}
use Rattle.code.specs.Working.Spots.{HasAt, Spot, InSection}
use Rattle.code.specs.Working.Ahead.{Safe, there, Steps}
use Rattle.code.proofs.points.Covered.{CoversEach, covers_each}
use Rattle.code.proofs.points.Places.{has_front, has_back}
use Rattle.code.proofs.points.Results.{Gives, Leads, gives-given, gives-more, leads-more}
use Rattle.code.proofs.points.Taken.{takes}
use Rattle.code.proofs.points.Straight.{own_code, IsSimple, machine, simple_safe, branch, branch_safe, return_safe}
use Rattle.code.proofs.points.Between.{passed_over, point_code, Jumps, none, forth, back, Leaves, Ends, section_fine}

module _ {P M : Type 0} (load : M → ℕ → Option (Value × M)) (store : M → ℕ → Value → Option M) (view : M → ℕ → Option Value)
    (is : IsMemory load store view) (shape : Shape) (F : Outcome → Type 0) (Q : Machine M → Type 0) (room : ℕ) (lists : List (List P)) (section : Section) where
  -- the point's own meaning from a state leads to a state with the property, or to an outcome that may be
  abbrev pub Does : Point → State → (State → Type 0) → Type 0
  Does (statement start action) s A = Leads F (effect_at (statement start action) shape s) A
  Does (result r) s A = Gives F (value_of r.value shape s.locals s.heap) (λ v. F (out.Returns v))

  -- the section may end; and where a point that follows p begins, with the same cells seen, the machine has arrived
  abbrev pub Arrives : ℕ → M → State → Type 0
  Arrives p memory s =
      F out.Ends × ((memory' : M) (y : Spot) → Shows (view memory') s.heap → ((c : ℕ) → IsSeen (view memory) c → IsSeen (view memory') c) →
      InSection lists section y → Follows (skeleton section) p y.number → Q (machine y.place [] s.locals memory' s.prints))

  abbrev code : List Instr
  code = section_code lists section

  pub jumps_safe : {a b : ℕ} (s : State) (memory : M) → Jumps lists code (InSection lists section) a b →
      Safe load store shape code F Q room (machine b [] s.locals memory s.prints) →
      Safe load store shape code F Q room (machine a [] s.locals memory s.prints)
  jumps_safe s memory none k = k
  jumps_safe s memory (forth at j) k = takes load store shape code F Q room (Jump _) (machine _ [] s.locals memory s.prints) (omega arith) at (jumps_safe s memory j k)
  jumps_safe s memory (back at j) k = takes load store shape code F Q room (JumpBack _) (machine _ [] s.locals memory s.prints) (omega arith) at (jumps_safe s memory j k)

  leaves_safe : (p a : ℕ) (s : State) (memory memory' : M) → Arrives p memory s → Shows (view memory') s.heap →
      ((c : ℕ) → IsSeen (view memory) c → IsSeen (view memory') c) →
      Leaves lists code (InSection lists section) (Follows (skeleton section) p) a → Safe load store shape code F Q room (machine a [] s.locals memory' s.prints)
  leaves_safe p a s memory memory' arrives shows seen l =
      elim l [
        | inl x ↦ let y = x.2 in
            jumps_safe s memory' y.3 (there (arrives.1 memory' y.0 shows seen y.1 (subst (Follows (skeleton section) p) (sym y.2) x.1)))
        | inr x ↦ jumps_safe s memory' x.1 (takes load store shape code F Q room End (machine x.0 [] s.locals memory' s.prints) (omega arith) x.2 arrives.0)
      ]

  simple_point : (start : ℕ) (action : Action) (p n place : ℕ) (s : State) (memory : M) → stmt_need action ≤ room →
      IsSimple action →
      HasAt code place (acquire_code lists n ++ own_code action) →
      ((b : Bool) → Leaves lists code (InSection lists section) (Follows (skeleton section) p) (place + length (acquire_code lists n ++ own_code action))) →
      Shows (view memory) s.heap → CoversEach shape s.locals s.heap (view memory) (in_action start action) →
      Leads F (effect_of action shape 0 s) (Arrives p memory) →
      Steps load store shape code F Q room (machine (place + length (acquire_code lists n)) [] s.locals memory s.prints)
  simple_point start action p n place s memory fit simple has l shows c g =
      let ca = acquire_code lists n in
      let end : place + length (ca ++ own_code action) ≡ place + length ca + length (own_code action) = omega (arith, length-append ca (own_code action)) in
      simple_safe load store view is shape code F Q room s.locals s.heap s.prints (view memory) action start (place + length ca) [] (omega (arith, fit)) simple (has_back code place ca _ has) shows c
      (leads-more F (effect_of action shape 0 s) _ _
      (λ s' arrives memory' shows' seen'. leaves_safe p (place + length ca + length (own_code action)) s' memory memory' arrives shows' seen'
      (subst (Leaves lists code (InSection lists section) (Follows (skeleton section) p)) end (l true))) g)
      memory (λ c. refl)

  test_point : (x : Condition) (p n place over : ℕ) (s : State) (memory : M) → test_need x ≤ room →
      HasAt code place ((acquire_code lists n ++ test_code x) ++ JumpIfFalse over ∷ []) →
      ((b : Bool) → Leaves lists code (InSection lists section) (Follows (skeleton section) p) (place + length (acquire_code lists n ++ test_code x) + 1 + passed_over lists b over)) →
      Shows (view memory) s.heap → CoversEach shape s.locals s.heap (view memory) (in_condition x) →
      Leads F (given (truth_of x shape s.locals s.heap) s (λ b. GoesOn s)) (Arrives p memory) →
      Steps load store shape code F Q room (machine (place + length (acquire_code lists n)) [] s.locals memory s.prints)
  test_point x p n place over s memory fit has l shows c g =
      let ca = acquire_code lists n in let ct = test_code x in
      let front = has_front code place (ca ++ ct) (JumpIfFalse over ∷ []) has in
      let at = (has_back code place (ca ++ ct) (JumpIfFalse over ∷ []) has).0 in
      let end : place + length (ca ++ ct) ≡ place + length ca + length ct = omega (arith, length-append ca ct) in
      branch_safe load store view is shape code F Q room s.locals s.heap s.prints (view memory) x (place + length ca) over [] (omega (arith, fit)) (has_back code place ca ct front)
      (subst (λ i. slice_get code i ≡ Some (JumpIfFalse over)) end at) c
      (gives-more F (truth_of x shape s.locals s.heap) _ _
      (λ b arrives memory' sees. leaves_safe p _ s memory memory' arrives (λ d w e. shows d w (sym (sees d) ∙ e)) (λ d h. (h.0, sees d ∙ h.1))
      (by b (place + length (ca ++ ct)) (place + length ca + length ct) end (l b)))
      (gives-given F (truth_of x shape s.locals s.heap) s (λ b. GoesOn s) (Arrives p memory) g))
      memory (λ d. refl)
    where
      by : (b : Bool) (a a' : ℕ) → a ≡ a' →
          Leaves lists code (InSection lists section) (Follows (skeleton section) p) (a + 1 + passed_over lists b over) →
          Leaves lists code (InSection lists section) (Follows (skeleton section) p)
          (branch load store view is shape code F Q room s.locals s.heap s.prints (view memory) b a' over)
      by true a a' e h = let e' : a + 1 + 0 ≡ a' + 1 = omega (arith, e) in subst (Leaves lists code (InSection lists section) (Follows (skeleton section) p)) e' h
      by false a a' e h = subst (λ i. Leaves lists code (InSection lists section) (Follows (skeleton section) p) (i + 1 + over)) e h

  by_point : (point : Point) (x : Spot) (s : State) (memory : M) → PointCalls NoHelper point →
      point_need point ≤ room → HasAt code x.place (point_code lists point x.number) →
      Ends lists code (InSection lists section) (Follows (skeleton section) x.number) x point →
      Shows (view memory) s.heap → CoversEach shape s.locals s.heap (view memory) (accesses_at point) → Does point s (Arrives x.number memory) →
      Steps load store shape code F Q room (machine (x.place + length (acquire_code lists x.number)) [] s.locals memory s.prints)
  by_point (result r) x s memory only fit has e shows c g =
      let ca = acquire_code lists x.number in
      let back = has_back code x.place ca _ has in
      return_safe load store view is shape code F Q room s.locals s.heap s.prints (view memory) r.value (x.place + length ca) [] (omega (arith, fit)) (has_front code _ (expr_code r.value) _ back)
      (has_back code _ (expr_code r.value) _ back).0 c g memory (λ d. refl)
  by_point (statement start (If' c m block)) x s memory only fit has e shows cov g = test_point c x.number x.number x.place _ s memory fit has e shows cov g
  by_point (statement start (IfElse' c m block k otherwise)) x s memory only fit has e shows cov g = test_point c x.number x.number x.place _ s memory fit has e shows cov g
  by_point (statement start (While' c m body)) x s memory only fit has e shows cov g = test_point c x.number x.number x.place _ s memory fit has e shows cov g
  by_point (statement start (Bind k v)) x s memory only fit has e shows c g = simple_point start (Bind k v) x.number x.number x.place s memory fit tt has e shows c g
  by_point (statement start (SetLocal k v)) x s memory only fit has e shows c g = simple_point start (SetLocal k v) x.number x.number x.place s memory fit tt has e shows c g
  by_point (statement start (SetGlobal cell v)) x s memory only fit has e shows c g = simple_point start (SetGlobal cell v) x.number x.number x.place s memory fit tt has e shows c g
  by_point (statement start (SetElement array i v)) x s memory only fit has e shows c g = simple_point start (SetElement array i v) x.number x.number x.place s memory fit tt has e shows c g
  by_point (statement start (SetField path t f v)) x s memory only fit has e shows c g = simple_point start (SetField path t f v) x.number x.number x.place s memory fit tt has e shows c g
  by_point (statement start (Call f vs r)) x s memory only fit has e shows c g = absurd only
  by_point (statement start (Print v)) x s memory only fit has e shows c g = simple_point start (Print v) x.number x.number x.place s memory fit tt has e shows c g

  -- from a point's own code on
  pub point_safe : (x : Spot) (s : State) (memory : M) → CallsNothing section → InSection lists section x →
      operand_need section ≤ room → Shows (view memory) s.heap →
      Covers shape s.locals s.heap (view memory) (accesses_at x.point) → Does x.point s (Arrives x.number memory) →
      Steps load store shape code F Q room (machine (x.place + length (acquire_code lists x.number)) [] s.locals memory s.prints)
  point_safe x s memory only h room_is shows c g =
      let fine = section_fine lists section x h in
      by_point x.point x s memory (point_calls NoHelper section x.number x.point only (spot_is_point lists section x h)) (let n = spot_within lists section x h in omega (arith, n, room_is)) fine.has fine.ends shows
      (covers_each shape s.locals s.heap (view memory) (accesses_at x.point) c) g
