-- Emission, piece after piece.
use Rattle.std.proofs.Common.{◌≡◌, ℕ, ◌+◌, ◌<◌, ◌≤◌, max, List, [], ◌∷◌, ◌++◌, length, take, get_or}
use Rattle.std.proofs.Common.{refl, sym, ap, subst, ◌∙◌, arith, append_assoc, append-nil, length-append, Vec, Global}
use Rattle.std.proofs.lemmas.List.{take_more}
use Rattle.core_lang.specs.declared.tree.Stmt.{Stmt}
use Rattle.core_lang.specs.declared.tree.Section.{Section}
use Rattle.code.specs.Lowering.{points_of, acquire_code, stmt_code, body_code, end_code, section_code}
use Rattle.code.specs.LineTables.{body_begins, end_begins, section_begins}
use Rattle.code.specs.Needs.{stmt_need, body_need, end_need, operand_need}
use Rattle.lowering.specs.declared.assembler.Assembler.{Assembler}
use Rattle.lowering.specs.declared.emitter.Emitter.{Emitter}
use Rattle.code.specs.Working.NumberLists.{number_lists}
use Rattle.lowering.specs.Working.CodeLists.{points_of_all, sequence_code, sequence_begins}
use Rattle.lowering.proofs.CodeViews.{body_code-split}
use Rattle.lowering.proofs.BeginViews.{body_begins-split, begins-append}
use Rattle.lowering.specs.Working.Emission.{lists_of, point_of, place_of, Piece, Emits, Ends, Keeps, and_then}
use Rattle.lowering.specs.Working.Emission.{acquire_piece, statement_piece, sequence_piece}

pub same_lists : (a b : Emitter) → b.lists ≡ a.lists → lists_of b ≡ lists_of a
same_lists a b e = ap (λ l. number_lists l.now) e

-- how far it has come
pub next_place : (a b : Emitter) (f : Piece) → Emits a b f →
    place_of b ≡ place_of a + length (f.code (lists_of a) (point_of a))
next_place a b f x = ap length x.code ∙ length-append a.code.instructions.items (f.code (lists_of a) (point_of a))

-- one after the other
pub both : (a b c : Emitter) (f g : Piece) → Emits a b f → Emits b c g → Emits a c (and_then f g)
both a b c f g x y =
    let ls = lists_of a in
    let p = point_of a in
    let q = place_of a in
    let same = same_lists a b x.lists in
    let one = x.point in
    let two = y.point in
    let deep = x.need in
    let deeper = y.need in
    record {
      lists = y.lists ∙ x.lists;
      point = omega (arith, one, two);
      code =
          y.code ∙ ap (λ code. code ++ g.code (lists_of b) (point_of b)) x.code
          ∙ append_assoc a.code.instructions.items (f.code ls p) (g.code (lists_of b) (point_of b))
          ∙ ap (λ l. a.code.instructions.items ++ (f.code ls p ++ g.code l (point_of b))) same
          ∙ ap (λ n. a.code.instructions.items ++ (f.code ls p ++ g.code ls n)) one;
      begins =
          y.begins ∙ ap (λ l. l ++ g.begins (lists_of b) (point_of b) (place_of b)) x.begins
          ∙ append_assoc a.begins.items (f.begins ls p q) (g.begins (lists_of b) (point_of b) (place_of b))
          ∙ ap (λ l. a.begins.items ++ (f.begins ls p q ++ g.begins l (point_of b) (place_of b))) same
          ∙ ap (λ n. a.begins.items ++ (f.begins ls p q ++ g.begins ls n (place_of b))) one
          ∙ ap (λ n. a.begins.items ++ (f.begins ls p q ++ g.begins ls (p + f.points) n)) (next_place a b f x);
      need = omega (arith, deep, deeper);
    }

-- by an equal piece
pub again : (a b : Emitter) (f g : Piece) → Emits a b f → f ≡ g → Emits a b g
again a b f g x e = subst (Emits a b) e x

-- code is never lost
pub longer : (a b : Emitter) (f : Piece) → Emits a b f →
    length a.code.instructions.items ≤ length b.code.instructions.items
longer a b f x = let l = next_place a b f x in omega arith

-- a step that only writes instructions
pub kept : (a b c : Emitter) (f g : Piece) → Emits a b f → Keeps b c → f.points ≡ g.points →
    c.code.instructions.items ≡ a.code.instructions.items ++ g.code (lists_of a) (point_of a) →
    f.begins (lists_of a) (point_of a) (place_of a) ≡ g.begins (lists_of a) (point_of a) (place_of a) → f.need ≡ g.need → Emits a c g
kept a b c f g x k points code begins need =
    let n = x.point in
    let begun = ap (λ (v : Vec ℕ Global). length v.items) k.begins in
    record {
      lists = k.lists ∙ x.lists;
      point = omega (arith, n, begun, points);
      code = code;
      begins = ap (λ (v : Vec ℕ Global). v.items) k.begins ∙ x.begins ∙ ap (λ l. a.begins.items ++ l) begins;
      need = k.operands ∙ x.need ∙ ap (max a.operands) need;
    }

-- ---- the place where a point begins

pub begun : (a : Emitter) (begins : Vec ℕ Global) (code : Assembler) (n p : ℕ) → p ≡ point_of a → n ≡ place_of a →
    begins.items ≡ a.begins.items ++ n ∷ [] →
    code.instructions.items ≡ a.code.instructions.items ++ acquire_code (lists_of a) p →
    Emits a (record { lists = a.lists; begins = begins; operands = a.operands; code = code }) acquire_piece
begun a begins code n p at place put adds =
    let l = ap length put ∙ length-append a.begins.items (n ∷ []) in
    record {
      lists = refl;
      point = l;
      code = adds ∙ ap (λ k. a.code.instructions.items ++ acquire_code (lists_of a) k) at;
      begins = put ∙ ap (λ k. a.begins.items ++ k ∷ []) place;
      need = (let z : a.operands ≡ max a.operands 0 = omega arith in z);
    }

-- ---- one turn of the loop over a block

points-append : (ss : List Stmt) (s : Stmt) → points_of_all (ss ++ s ∷ []) ≡ points_of_all ss + points_of s.action
points-append [] s = omega arith
points-append (x ∷ ss) s = omega (arith, points-append ss s)

need-append : (ss : List Stmt) (s : Stmt) → body_need (ss ++ s ∷ []) ≡ max (body_need ss) (stmt_need s.action)
need-append [] s = omega arith
need-append (x ∷ ss) s = omega (arith, need-append ss s)

code-append : (ls : List (List ℕ)) (ss : List Stmt) (s : Stmt) (p : ℕ) →
    sequence_code ls (ss ++ s ∷ []) p ≡ sequence_code ls ss p ++ stmt_code ls s.action (p + points_of_all ss)
code-append ls [] s p = let e : p ≡ p + 0 = omega arith in append-nil (stmt_code ls s.action p) ∙ ap (stmt_code ls s.action) e
code-append ls (x ∷ ss) s p =
    let far : (p + points_of x.action) + points_of_all ss ≡ p + (points_of x.action + points_of_all ss) = omega arith in
    ap (λ c. stmt_code ls x.action p ++ c) (code-append ls ss s (p + points_of x.action))
    ∙ sym (append_assoc (stmt_code ls x.action p) (sequence_code ls ss (p + points_of x.action)) (stmt_code ls s.action ((p + points_of x.action) + points_of_all ss)))
    ∙ ap (λ k. sequence_code ls (x ∷ ss) p ++ stmt_code ls s.action k) far

one_more : (ss : List Stmt) (s : Stmt) → and_then (sequence_piece ss) (statement_piece s.action) ≡ sequence_piece (ss ++ s ∷ [])
one_more ss s = λ j. record {
  points = sym (points-append ss s) j;
  code = λ ls p. sym (code-append ls ss s p) j;
  begins = λ ls p q. sym (begins-append ls ss s p q) j;
  need = sym (need-append ss s) j;
}

pub block_turn : (ss : List Stmt) (i : ℕ) (s : Stmt) (a b c : Emitter) → s ≡ get_or ss i s → i < length ss →
    Emits a b (sequence_piece (take i ss)) → Emits b c (statement_piece s.action) → Emits a c (sequence_piece (take (i + 1) ss))
block_turn ss i s a b c is h x y =
    let more : take i ss ++ s ∷ [] ≡ take (i + 1) ss = sym (take_more ss i s h ∙ ap (λ (z : Stmt). take i ss ++ z ∷ []) (sym is)) in
    again a c _ _ (both a b c _ _ x y) (one_more (take i ss) s ∙ ap sequence_piece more)

-- nothing yet
pub nothing_put : (a : Emitter) → Emits a a (sequence_piece [])
nothing_put a = record {
  lists = refl;
  point = (let z : point_of a ≡ point_of a + 0 = omega arith in z);
  code = sym (append-nil a.code.instructions.items);
  begins = sym (append-nil a.begins.items);
  need = (let z : a.operands ≡ max a.operands 0 = omega arith in z);
}

-- ---- a whole section

module _ (a b c : Emitter) (ls : List (List ℕ)) (section : Section) (ss : List Stmt) (is : lists_of a ≡ ls) (at_first : a.begins.items ≡ [])
    (empty : a.code.instructions.items ≡ []) (body : ss ≡ section.body.items) (x : Emits a b (sequence_piece ss)) (ends : Ends b c section.result) where
  first : point_of a ≡ 0
  first = ap length at_first

  front : place_of a ≡ 0
  front = ap length empty

  next : point_of b ≡ 0 + points_of_all ss
  next = x.point ∙ ap (λ n. n + points_of_all ss) first

  lists_same : lists_of b ≡ ls
  lists_same = same_lists a b x.lists ∙ is

  body_put : b.code.instructions.items ≡ sequence_code ls ss 0
  body_put =
      x.code ∙ ap (λ l. l ++ sequence_code (lists_of a) ss (point_of a)) empty ∙ ap (λ l. sequence_code l ss (point_of a)) is
      ∙ ap (sequence_code ls ss) first

  pub code_emitted : c.code.instructions.items ≡ section_code ls section
  code_emitted =
      ends.code ∙ ap (λ l. l ++ end_code (lists_of b) section.result (point_of b)) body_put
      ∙ ap (λ l. sequence_code ls ss 0 ++ end_code l section.result (point_of b)) lists_same
      ∙ ap (λ n. sequence_code ls ss 0 ++ end_code ls section.result n) next
      ∙ sym (body_code-split ls ss 0 section.result)
      ∙ ap (λ s. body_code ls s 0 section.result) body

  from_zero : length (sequence_code ls ss 0) ≡ 0 + length (sequence_code ls ss 0)
  from_zero = omega arith

  pub begins_emitted : c.begins.items ≡ section_begins ls section
  begins_emitted =
      ends.begins
      ∙ ap (λ l. l ++ end_begins section.result (place_of b))
      (x.begins ∙ ap (λ l. l ++ sequence_begins (lists_of a) ss (point_of a) (place_of a)) at_first
      ∙ ap (λ l. sequence_begins l ss (point_of a) (place_of a)) is ∙ ap (λ n. sequence_begins ls ss n (place_of a)) first
      ∙ ap (sequence_begins ls ss 0) front)
      ∙ ap (λ n. sequence_begins ls ss 0 0 ++ end_begins section.result n) (ap length body_put ∙ from_zero)
      ∙ sym (body_begins-split ls ss 0 0 section.result)
      ∙ ap (λ s. body_begins ls s 0 0 section.result) body

  pub need_emitted : a.operands ≡ 0 → c.operands ≡ operand_need section
  need_emitted none =
      let deep = x.need in
      let all : b.operands ≡ body_need ss = omega (arith, deep, none) in
      ends.need ∙ ap (λ n. max n (end_need section.result)) (all ∙ ap body_need body)
