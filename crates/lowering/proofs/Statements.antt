-- Statements with blocks, as they are emitted.
use Rattle.std.proofs.Common.{◌≡◌, ℕ, ◌+◌, ◌-◌, ◌<◌, ◌≤◌, List, [], ◌∷◌, ◌++◌, length, sym, ap, subst, ◌∙◌, arith}
use Rattle.std.proofs.Common.{append_assoc, length-append, refl, Vec, Global}
use Rattle.std.proofs.Math.ListN.{length-set}
use Rattle.core_lang.specs.declared.tree.Condition.{Condition}
use Rattle.core_lang.specs.declared.tree.Stmt.{Stmt}
use Rattle.core_lang.specs.declared.tree.Action.{Action, If, IfElse, While}
use Rattle.code.specs.declared.instr.Instr.{Instr}
use Rattle.code.specs.declared.instr.Instr.TheVariants.{Jump, JumpBack, JumpIfFalse}
use Rattle.code.specs.Lowering.{test_code, if_code, while_code}
use Rattle.code.specs.LineTables.{behind_test}
use Rattle.lowering.specs.declared.assembler.Assembler.{Assembler}
use Rattle.lowering.specs.declared.emitter.Emitter.{Emitter}
use Rattle.lowering.specs.Working.Assembly.{Adds, Lands}
use Rattle.lowering.specs.Working.CodeLists.{points_of_all, sequence_code, sequence_begins}
use Rattle.lowering.proofs.CodeViews.{points_of-If, points_of-IfElse, points_of-While, stmt_code-If}
use Rattle.lowering.proofs.CodeViews.{stmt_code-IfElse, stmt_code-While}
use Rattle.lowering.proofs.BeginViews.{stmt_begins-If, stmt_begins-IfElse, stmt_begins-While}
use Rattle.lowering.proofs.NeedViews.{stmt_need-If, stmt_need-IfElse, stmt_need-While}
use Rattle.lowering.specs.Working.Emission.{lists_of, point_of, place_of, Piece, Emits, Opens, Keeps, Skips, Joins}
use Rattle.lowering.specs.Working.Emission.{and_then, open_piece, condition_code, tested_piece, choice_piece}
use Rattle.lowering.specs.Working.Emission.{loop_piece, either_piece, statement_piece, sequence_piece}
use Rattle.lowering.proofs.Landing.{landed}
use Rattle.lowering.proofs.Steps.{both, again, kept, longer, same_lists}

-- what is open and what follows it begin where they should
tested_begins : (ls : List (List ℕ)) (c : Condition) (ss : List Stmt) (p q : ℕ) →
    (and_then (open_piece c) (sequence_piece ss)).begins ls p q ≡ q ∷ sequence_begins ls ss (p + 1) (behind_test ls (test_code c) p q)
tested_begins ls c ss p q =
    let test = condition_code c ls p in
    let l : q + length (test ++ JumpIfFalse 0 ∷ []) ≡ q + length test + 1 = omega (arith, length-append test (JumpIfFalse 0 ∷ [])) in
    ap (λ n. q ∷ sequence_begins ls ss (p + 1) n) l

-- the place of the jump after a condition
module _ (c : Condition) (ss : List Stmt) (a b d : Emitter) (place : ℕ) (opens : Opens a b c place)
    (block : Emits b d (sequence_piece ss)) where
  whole : Emits a d (and_then (open_piece c) (sequence_piece ss))
  whole = both a b d _ _ opens.emits block

  pub open_within : place < length d.code.instructions.items
  open_within = omega (arith, opens.last, longer b d _ block)

  pub open_grows : length a.code.instructions.items ≤ length d.code.instructions.items
  open_grows = omega (arith, longer a b _ opens.emits, longer b d _ block)

  abbrev test : List Instr
  test = condition_code c (lists_of a) (point_of a)

  -- the instructions before the jump, and those after it
  abbrev front : List Instr
  front = a.code.instructions.items ++ test

  abbrev behind : List Instr
  behind = sequence_code (lists_of a) ss (point_of a + 1)

  -- the code, split at the jump
  split : d.code.instructions.items ≡ front ++ JumpIfFalse 0 ∷ behind
  split =
      let flat : a.code.instructions.items ++ ((test ++ JumpIfFalse 0 ∷ []) ++ behind) ≡ (a.code.instructions.items ++ test) ++ JumpIfFalse 0 ∷ behind = simp append_assoc in
      whole.code ∙ flat

  stands : place ≡ length front
  stands =
      let l = ap length opens.emits.code ∙ length-append a.code.instructions.items (test ++ JumpIfFalse 0 ∷ []) in
      omega (arith, opens.last, l, length-append test (JumpIfFalse 0 ∷ []), length-append a.code.instructions.items test)

  -- once all code after the condition is written, it is one piece with the condition
  tested : (join : List Instr → List Instr → List Instr) (e : Emitter) → Keeps d e →
      e.code.instructions.items ≡ a.code.instructions.items ++ join test behind → Emits a e (tested_piece join c ss)
  tested join e keeps code =
      kept a d e (and_then (open_piece c) (sequence_piece ss)) (tested_piece join c ss) whole keeps refl code
      (tested_begins (lists_of a) c ss (point_of a) (place_of a)) refl

  pub choice_emitted : (e : Emitter) → Keeps d e → Lands place d.code e.code → Emits a e (choice_piece c ss)
  choice_emitted e keeps lands =
      tested if_code e keeps
      (landed (λ n. JumpIfFalse n) front behind d.code.instructions.items e.code.instructions.items (JumpIfFalse 0) place split stands lands
      ∙ append_assoc a.code.instructions.items test (JumpIfFalse (length behind) ∷ behind))

  pub loop_emitted : (put : Assembler) (e : Emitter) (start len : ℕ) → start ≡ length a.code.instructions.items →
      len ≡ length d.code.instructions.items →
      Adds d.code put (JumpBack (len - start) ∷ []) → Keeps d e → Lands place put e.code → Emits a e (loop_piece c ss)
  loop_emitted put e start len from to adds keeps lands =
      let jump = JumpBack (len - start) in
      let all : put.instructions.items ≡ front ++ JumpIfFalse 0 ∷ (behind ++ jump ∷ []) =
      adds ∙ ap (λ l. l ++ jump ∷ []) split ∙ append_assoc front (JumpIfFalse 0 ∷ behind) (jump ∷ []) in
      let long = ap length split ∙ length-append front (JumpIfFalse 0 ∷ behind) in
      let back : len - start ≡ length test + 1 + length behind = omega (arith, from, to, long, length-append a.code.instructions.items test) in
      let over : length (behind ++ jump ∷ []) ≡ length behind + 1 = length-append behind (jump ∷ []) in
      tested while_code e keeps
      (landed (λ n. JumpIfFalse n) front (behind ++ jump ∷ []) put.instructions.items e.code.instructions.items (JumpIfFalse 0) place all stands lands
      ∙ ap (λ n. front ++ JumpIfFalse n ∷ (behind ++ jump ∷ [])) over
      ∙ ap (λ n. front ++ JumpIfFalse (length behind + 1) ∷ (behind ++ JumpBack n ∷ [])) back
      ∙ append_assoc a.code.instructions.items test (JumpIfFalse (length behind + 1) ∷ (behind ++ JumpBack (length test + 1 + length behind) ∷ [])))

  -- with a second block
  module _ (other : List Stmt) (s o e : Emitter) (skip : ℕ) (skips : Skips place d s skip) (second : Emits s o (sequence_piece other))
      (joins : Joins skip o e) where
    -- the instructions before the jump at the end of the first block
    abbrev before_skip : List Instr
    before_skip = front ++ JumpIfFalse (length behind + 1) ∷ behind

    first_done : s.code.instructions.items ≡ before_skip ++ Jump 0 ∷ []
    first_done =
        let tail = behind ++ Jump 0 ∷ [] in
        let all : d.code.instructions.items ++ Jump 0 ∷ [] ≡ front ++ JumpIfFalse 0 ∷ tail =
        ap (λ l. l ++ Jump 0 ∷ []) split ∙ append_assoc front (JumpIfFalse 0 ∷ behind) (Jump 0 ∷ []) in
        landed (λ n. JumpIfFalse n) front tail (d.code.instructions.items ++ Jump 0 ∷ []) s.code.instructions.items (JumpIfFalse 0) place all stands skips.code
        ∙ ap (λ n. front ++ JumpIfFalse n ∷ tail) (length-append behind (Jump 0 ∷ []))
        ∙ sym (append_assoc front (JumpIfFalse (length behind + 1) ∷ behind) (Jump 0 ∷ []))

    skip_stands : skip ≡ length before_skip
    skip_stands =
        let l = ap length split ∙ length-append front (JumpIfFalse 0 ∷ behind) in
        omega (arith, skips.last, l, length-append front (JumpIfFalse (length behind + 1) ∷ behind))

    -- the number of the second block's first point, and its place
    second_point : point_of s ≡ point_of a + 1 + points_of_all ss
    second_point =
        let n = whole.point in
        let m = ap (λ (v : Vec ℕ Global). length v.items) skips.keeps.begins in
        omega (arith, n, m)

    second_place : place_of s ≡ behind_test (lists_of a) (test_code c) (point_of a) (place_of a) + length behind + 1
    second_place =
        let l = ap length first_done ∙ length-append before_skip (Jump 0 ∷ []) in
        let m = length-append front (JumpIfFalse (length behind + 1) ∷ behind) in
        let n = length-append a.code.instructions.items test in
        omega (arith, l, m, n)

    lists_same : lists_of s ≡ lists_of a
    lists_same = same_lists a s (skips.keeps.lists ∙ whole.lists)

    pub either_emitted : Emits a e (either_piece c ss other)
    either_emitted =
        let ls = lists_of a in
        let p = point_of a in
        let q = place_of a in
        let one = whole.point in
        let two = second.point in
        let middle = ap (λ (v : Vec ℕ Global). length v.items) skips.keeps.begins in
        let last = ap (λ (v : Vec ℕ Global). length v.items) joins.keeps.begins in
        let rest = sequence_code ls other (p + 1 + points_of_all ss) in
        let base = before_skip in
        let all : o.code.instructions.items ≡ base ++ Jump 0 ∷ rest =
        second.code
        ∙ ap (λ l. l ++ sequence_code (lists_of s) other (point_of s)) first_done
        ∙ ap (λ l. (base ++ Jump 0 ∷ []) ++ sequence_code l other (point_of s)) lists_same
        ∙ ap (λ k. (base ++ Jump 0 ∷ []) ++ sequence_code ls other k) second_point
        ∙ append_assoc base (Jump 0 ∷ []) rest in
        let deep = whole.need in
        let deeper = second.need in
        let still = skips.keeps.operands in
        let kept_last = joins.keeps.operands in
        let b = behind_test ls (test_code c) p q in
        let first_begins = q ∷ sequence_begins ls ss (p + 1) b in
        let begun : s.begins.items ≡ a.begins.items ++ first_begins =
        ap (λ (v : Vec ℕ Global). v.items) skips.keeps.begins ∙ whole.begins ∙ ap (λ l. a.begins.items ++ l) (tested_begins ls c ss p q) in
        record {
          lists = joins.keeps.lists ∙ second.lists ∙ skips.keeps.lists ∙ whole.lists;
          point = omega (arith, one, two, middle, last);
          code =
              landed (λ k. Jump k) base rest o.code.instructions.items e.code.instructions.items (Jump 0) skip all skip_stands joins.code
              ∙ append_assoc front (JumpIfFalse (length behind + 1) ∷ behind) (Jump (length rest) ∷ rest)
              ∙ append_assoc a.code.instructions.items test (JumpIfFalse (length behind + 1) ∷ (behind ++ Jump (length rest) ∷ rest));
          begins =
              ap (λ (v : Vec ℕ Global). v.items) joins.keeps.begins ∙ second.begins
              ∙ ap (λ l. l ++ sequence_begins (lists_of s) other (point_of s) (place_of s)) begun
              ∙ append_assoc a.begins.items first_begins (sequence_begins (lists_of s) other (point_of s) (place_of s))
              ∙ ap (λ l. a.begins.items ++ (first_begins ++ sequence_begins l other (point_of s) (place_of s))) lists_same
              ∙ ap (λ k. a.begins.items ++ (first_begins ++ sequence_begins ls other k (place_of s))) second_point
              ∙ ap (λ k. a.begins.items ++ (first_begins ++ sequence_begins ls other (p + 1 + points_of_all ss) k)) second_place;
          need = omega (arith, deep, deeper, still, kept_last);
        }

-- the jump at the end of the first block is within the code
pub skip_within : (d s o : Emitter) (place skip : ℕ) (f : Piece) → Skips place d s skip → Emits s o f →
    skip < length o.code.instructions.items
skip_within d s o place skip f skips second =
    let whole = d.code.instructions.items ++ Jump 0 ∷ [] in
    let l = ap length skips.code ∙ length-set whole place (JumpIfFalse (length whole - place - 1)) ∙ length-append d.code.instructions.items (Jump 0 ∷ []) in
    omega (arith, l, skips.last, longer s o f second)

-- ---- of the statements

pub emits_as : (x y : Action) (a e : Emitter) → x ≡ y → Emits a e (statement_piece y) → Emits a e (statement_piece x)
emits_as x y a e is h = subst (λ (z : Action). Emits a e (statement_piece z)) (sym is) h

pub if_is : (x : Action) (c : Condition) (block : Vec Stmt Global) (items : List Stmt) (a e : Emitter) →
    x ≡ If c block → items ≡ block.items → Emits a e (choice_piece c items) → Emits a e (statement_piece x)
if_is x c block items a e is all h =
    emits_as x (If c block) a e is
    (again a e (choice_piece c items) (statement_piece (If c block)) h
    (ap (choice_piece c) all ∙ (λ j. record {
      points = sym (points_of-If c block) j;
      code = λ ls p. sym (stmt_code-If ls c block p) j;
      begins = λ ls p q. sym (stmt_begins-If ls c block p q) j;
      need = sym (stmt_need-If c block) j;
    })))

pub while_is : (x : Action) (c : Condition) (body : Vec Stmt Global) (items : List Stmt) (a e : Emitter) →
    x ≡ While c body → items ≡ body.items → Emits a e (loop_piece c items) → Emits a e (statement_piece x)
while_is x c body items a e is all h =
    emits_as x (While c body) a e is
    (again a e (loop_piece c items) (statement_piece (While c body)) h
    (ap (loop_piece c) all ∙ (λ j. record {
      points = sym (points_of-While c body) j;
      code = λ ls p. sym (stmt_code-While ls c body p) j;
      begins = λ ls p q. sym (stmt_begins-While ls c body p q) j;
      need = sym (stmt_need-While c body) j;
    })))

pub if_else_is : (x : Action) (c : Condition) (block otherwise : Vec Stmt Global) (ss os : List Stmt) (a e : Emitter) → x ≡ IfElse c block otherwise → ss ≡ block.items →
    os ≡ otherwise.items → Emits a e (either_piece c ss os) → Emits a e (statement_piece x)
if_else_is x c block otherwise ss os a e is all every h =
    emits_as x (IfElse c block otherwise) a e is
    (again a e (either_piece c ss os) (statement_piece (IfElse c block otherwise)) h
    (ap (λ i. either_piece c i os) all ∙ ap (either_piece c block.items) every ∙ (λ j. record {
      points = sym (points_of-IfElse c block otherwise) j;
      code = λ ls p. sym (stmt_code-IfElse ls c block otherwise p) j;
      begins = λ ls p q. sym (stmt_begins-IfElse ls c block otherwise p q) j;
      need = sym (stmt_need-IfElse c block otherwise) j;
    })))
