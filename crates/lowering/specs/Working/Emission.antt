-- The effects of the code on a section under construction. Nobody has to believe these.
use Rattle.std.specs.Prelude.{◌≡◌, ℕ, ◌+◌, ◌-◌, max, List, [], ◌∷◌, ◌++◌, length, slice_set, Option}
use Rattle.core_lang.specs.declared.tree.Path.{Path}
use Rattle.core_lang.specs.declared.tree.Expr.{Expr}
use Rattle.core_lang.specs.declared.tree.Condition.{Condition}
use Rattle.core_lang.specs.declared.tree.Stmt.{Stmt}
use Rattle.core_lang.specs.declared.tree.Action.{Action}
use Rattle.core_lang.specs.declared.tree.Return.{Return}
use Rattle.code.specs.declared.instr.Instr.{Instr}
use Rattle.code.specs.declared.instr.Instr.TheVariants.{PushNull, PrintTop, Bound, PutElement, NonNull, Jump}
use Rattle.code.specs.declared.instr.Instr.TheVariants.{JumpIfFalse}
use Rattle.code.specs.Lowering.{path_code, expr_code, test_code, acquire_code, if_code, if_else_code, while_code}
use Rattle.code.specs.Lowering.{points_of, stmt_code, end_code}
use Rattle.code.specs.LineTables.{behind_test, stmt_begins, end_begins}
use Rattle.code.specs.Needs.{expr_need, test_need, stmt_need, body_need, end_need}
use Rattle.lowering.specs.declared.emitter.Emitter.{Emitter}
use Rattle.code.specs.Working.NumberLists.{number_lists}
use Rattle.lowering.specs.Working.CodeLists.{points_of_all, sequence_code, sequence_begins}

-- the lists before the section's points
abbrev pub lists_of : Emitter → List (List ℕ)
lists_of emitter = number_lists emitter.lists.now

-- the number of the next point
abbrev pub point_of : Emitter → ℕ
point_of emitter = length emitter.begins.items

abbrev pub place_of : Emitter → ℕ
place_of emitter = length emitter.code.instructions.items

-- a piece of a section: the number of its points, its code, given the lists before the points and the number of its
-- first point, the places where its points begin, given its own place too, and the number of operands that it needs
pub record Piece : Type 0 where
  pub points : ℕ
  pub code : List (List ℕ) → ℕ → List Instr
  pub begins : List (List ℕ) → ℕ → ℕ → List ℕ
  pub need : ℕ

-- this piece was appended
pub record Emits (old new : Emitter) (piece : Piece) : Type 0 where
  pub lists : new.lists ≡ old.lists
  pub point : point_of new ≡ point_of old + piece.points
  pub code : new.code.instructions.items ≡ old.code.instructions.items ++ piece.code (lists_of old) (point_of old)
  pub begins : new.begins.items ≡ old.begins.items ++ piece.begins (lists_of old) (point_of old) (place_of old)
  pub need : new.operands ≡ max old.operands piece.need

-- a piece, and another one after it
abbrev pub and_then : Piece → Piece → Piece
and_then f g = record {
  points = f.points + g.points;
  code = λ ls p. f.code ls p ++ g.code ls (p + f.points);
  begins = λ ls p q. f.begins ls p q ++ g.begins ls (p + f.points) (q + length (f.code ls p));
  need = max f.need g.need;
}

-- ---- a point, and statements, over lists of statements

-- a point with this code after its acquire
abbrev pub point_piece : List Instr → ℕ → Piece
point_piece code need = record {
  points = 1;
  code = λ ls p. acquire_code ls p ++ code;
  begins = λ ls p q. q ∷ [];
  need = need;
}

-- a point with its acquire alone
abbrev pub acquire_piece : Piece
acquire_piece = record { points = 1; code = λ ls p. acquire_code ls p; begins = λ ls p q. q ∷ []; need = 0 }

-- an expression, and an instruction for its value
abbrev pub value_piece : Expr → Instr → Piece
value_piece value last = point_piece (expr_code value ++ last ∷ []) (expr_need value)

-- a point that prints null, at which a machine gets stuck
abbrev pub stuck_piece : Piece
stuck_piece = point_piece (PushNull ∷ (PrintTop ∷ [])) 1

abbrev pub set_element_piece : ℕ → Expr → Expr → Piece
set_element_piece array index value =
    point_piece (expr_code index ++ (Bound array ∷ (expr_code value ++ PutElement array ∷ [])))
    (max (expr_need index) (1 + expr_need value))

abbrev pub set_field_piece : Path → Expr → Instr → Piece
set_field_piece base value last =
    point_piece (path_code base ++ (NonNull ∷ (expr_code value ++ last ∷ []))) (1 + expr_need value)

abbrev pub condition_code : Condition → List (List ℕ) → ℕ → List Instr
condition_code c ls p = acquire_code ls p ++ test_code c

-- a condition, and a jump after it whose target is not known yet
abbrev pub open_piece : Condition → Piece
open_piece c = record {
  points = 1;
  code = λ ls p. condition_code c ls p ++ JumpIfFalse 0 ∷ [];
  begins = λ ls p q. q ∷ [];
  need = test_need c;
}

-- a condition and statements after it, whose codes are joined by the function
abbrev pub tested_piece : (List Instr → List Instr → List Instr) → Condition → List Stmt → Piece
tested_piece join c ss = record {
  points = 1 + points_of_all ss;
  code = λ ls p. join (condition_code c ls p) (sequence_code ls ss (p + 1));
  begins = λ ls p q. q ∷ sequence_begins ls ss (p + 1) (behind_test ls (test_code c) p q);
  need = max (test_need c) (body_need ss);
}

abbrev pub choice_piece : Condition → List Stmt → Piece
choice_piece = tested_piece if_code

abbrev pub loop_piece : Condition → List Stmt → Piece
loop_piece = tested_piece while_code

abbrev pub either_piece : Condition → List Stmt → List Stmt → Piece
either_piece c ss os = record {
  points = 1 + points_of_all ss + points_of_all os;
  code = λ ls p.
      if_else_code (condition_code c ls p) (sequence_code ls ss (p + 1)) (sequence_code ls os (p + 1 + points_of_all ss));
  begins = λ ls p q.
      q ∷ (sequence_begins ls ss (p + 1) (behind_test ls (test_code c) p q)
      ++ sequence_begins ls os (p + 1 + points_of_all ss)
      (behind_test ls (test_code c) p q + length (sequence_code ls ss (p + 1)) + 1));
  need = max (test_need c) (max (body_need ss) (body_need os));
}

abbrev pub statement_piece : Action → Piece
statement_piece action = record {
  points = points_of action;
  code = λ ls p. stmt_code ls action p;
  begins = λ ls p q. stmt_begins ls action p q;
  need = stmt_need action;
}

abbrev pub sequence_piece : List Stmt → Piece
sequence_piece ss = record {
  points = points_of_all ss;
  code = λ ls p. sequence_code ls ss p;
  begins = λ ls p q. sequence_begins ls ss p q;
  need = body_need ss;
}

-- ---- the end of a section

-- the result or the end was appended
pub record Ends (old new : Emitter) (returned : Option Return) : Type 0 where
  pub code : new.code.instructions.items
      ≡ old.code.instructions.items ++ end_code (lists_of old) returned (point_of old)
  pub begins : new.begins.items ≡ old.begins.items ++ end_begins returned (place_of old)
  pub need : new.operands ≡ max old.operands (end_need returned)

-- ---- jumps whose targets are not known yet

-- a condition was appended, and after it a jump, which is at this place
pub record Opens (old new : Emitter) (c : Condition) (place : ℕ) : Type 0 where
  pub emits : Emits old new (open_piece c)
  pub last : place + 1 ≡ length new.code.instructions.items

-- the lists, the places of points and the number of operands did not change
pub record Keeps (old new : Emitter) : Type 0 where
  pub lists : new.lists ≡ old.lists
  pub begins : new.begins ≡ old.begins
  pub operands : new.operands ≡ old.operands

-- a jump was appended at this place, and the jump at `test_end` leads past it
pub record Skips (test_end : ℕ) (old new : Emitter) (place : ℕ) : Type 0 where
  pub keeps : Keeps old new
  pub last : place ≡ length old.code.instructions.items
  pub code : new.code.instructions.items ≡ (
      let whole = old.code.instructions.items ++ Jump 0 ∷ [] in
      slice_set whole test_end (JumpIfFalse (length whole - test_end - 1)))

-- the jump at this place leads to the end now
pub record Joins (place : ℕ) (old new : Emitter) : Type 0 where
  pub keeps : Keeps old new
  pub code : new.code.instructions.items
      ≡ slice_set old.code.instructions.items place (Jump (length old.code.instructions.items - place - 1))
