-- The least byte of a fault of returns.
use Rattle.std.proofs.Common.{◌≡◌, Global, ℕ, suc, ◌-◌, ◌<◌, ◌≤◌, Bool, true, false, List, [], ◌∷◌, length, take}
use Rattle.std.proofs.Common.{Option, Some, None, refl, sym, ap, ◌∙◌, subst, arith, get_or, min, inl, inr}
use Rattle.std.specs.Prelude.{Box, ◌⊎◌}
use Rattle.std.proofs.lemmas.Bool.{cases_lt}
use Rattle.source.specs.declared.span.Span.{Span}
use Rattle.syntax.specs.declared.tree.Stmt as the_stmt
use Rattle.syntax.specs.declared.tree.Expr as the_expr
use Rattle.syntax.specs.declared.tree.Stmt.{While, If, Return}
use Rattle.syntax.specs.declared.tree.If as the_if
use Rattle.syntax.specs.declared.tree.If.{out-If}
use Rattle.syntax.specs.declared.tree.While as the_while
use Rattle.syntax.specs.Returns.{IsReturn, is_return, HasReturn, this_returns, returns_inside, later_returns}
use Rattle.syntax.specs.Returns.{HasReturnInside, in_then, in_else, in_while, HasStrayReturn, this_early}
use Rattle.syntax.specs.Returns.{stray_inside, later_stray, EndsInReturn, last_returns, ends_later, IsSectionFault}
use Rattle.syntax.specs.Returns.{no_result, stray, missing, IsReturnFault, this_section, this_helper, later_section}
use Rattle.syntax.specs.Returns.{ReturnsRight, IsFirstReturnFault}
use Rattle.syntax.specs.Trees.{Ident, ValueType, Expr, Variable, Array, Struct, Pool, Init, Thread, Stmt, let_local}
use Rattle.syntax.specs.Trees.{let_owned, let_call, var_local, assign, if_then, while, print, return_value, Stmts}
use Rattle.syntax.specs.Trees.{no_stmts, stmt, Otherwise, no_else, else_do, Section, Decl, lock, struct, global}
use Rattle.syntax.specs.Trees.{array, pool, init, atomic, helper, thread}
use Rattle.syntax.specs.Views.{stmt_of, stmts_of, else_of}
use Rattle.syntax.specs.Theory.Rows.{stmt_of-While, if_of-out}
use Rattle.parser.specs.Working.Returning.{earlier, own_return, least_return, inner_return, other_return, least_stray}
use Rattle.parser.specs.Working.Returning.{is_return as returns, does_end, missing_at, section_fault_of}
use Rattle.parser.specs.Working.Returning.{section_fault, least_fault}

-- ---- the lesser of places

pub earlier-none : (a : Option ℕ) → earlier a None ≡ a
earlier-none None = refl
earlier-none (Some a) = refl

pub earlier-assoc : (a b c : Option ℕ) → earlier (earlier a b) c ≡ earlier a (earlier b c)
earlier-assoc None b c = refl
earlier-assoc (Some a) None c = refl
earlier-assoc (Some a) (Some b) None = refl
earlier-assoc (Some a) (Some b) (Some c) = ap Some (omega arith)

-- ---- the statements of a `Vec`

-- the statements but the last, and the blocks of the last
pub stray_of : (xs : List the_stmt.Stmt) (x : the_stmt.Stmt) → 1 ≤ length xs → x ≡ get_or xs (length xs - 1) x →
    earlier (least_return (stmts_of (take (length xs - 1) xs))) (inner_return (stmt_of x)) ≡ least_stray (stmts_of xs)
stray_of [] x some e = absurd (omega arith)
stray_of (y ∷ []) x some e = ap (λ (z : the_stmt.Stmt). inner_return (stmt_of z)) e
stray_of (y ∷ z ∷ zs) x some e =
    let one : suc (suc (length zs)) - 1 ≡ suc (length zs) = omega arith in
    let two : suc (length zs) - 1 ≡ length zs = omega arith in
    let here = earlier (own_return (stmt_of y)) (inner_return (stmt_of y)) in
    ap (λ n. earlier (least_return (stmts_of (take n (y ∷ z ∷ zs)))) (inner_return (stmt_of x))) one ∙ earlier-assoc here (least_return (stmts_of (take (length zs) (z ∷ zs)))) (inner_return (stmt_of x)) ∙ ap (earlier here) (ap (λ n. earlier (least_return (stmts_of (take n (z ∷ zs)))) (inner_return (stmt_of x))) (sym two) ∙ stray_of (z ∷ zs) x (omega arith) (e ∙ ap (λ n. get_or (y ∷ z ∷ zs) n x) one ∙ ap (λ n. get_or (z ∷ zs) n x) (sym two)))

-- the blocks of a statement
pub inner_while : (s : the_stmt.Stmt) (b : Box the_while.While Global) → s ≡ While b
    → inner_return (stmt_of s) ≡ least_return (stmts_of b.value.block.stmts.items)
inner_while s b e = ap (λ (s : the_stmt.Stmt). inner_return (stmt_of s)) e ∙ ap inner_return (stmt_of-While b)

pub inner_if : (s : the_stmt.Stmt) (b : Box the_if.If Global) → s ≡ If b → inner_return (stmt_of s)
    ≡ earlier (least_return (stmts_of (out-If b.value).block.stmts.items)) (other_return (else_of (out-If b.value).otherwise))
inner_if s b e = ap (λ (s : the_stmt.Stmt). inner_return (stmt_of s)) e ∙ ap inner_return (if_of-out b.value)

-- a statement that is not a `return`
abbrev IsOther : the_stmt.Stmt → Type 0
IsOther s = (at : Span) (e : the_expr.Expr) → s ≡ Return at e → ⊥

pub other_returns : (s : the_stmt.Stmt) → IsOther s → false ≡ returns (stmt_of s)
other_returns (the_stmt.Let l) h = refl
other_returns (the_stmt.LetOwned l) h = refl
other_returns (the_stmt.LetCall l) h = refl
other_returns (the_stmt.Var l) h = refl
other_returns (the_stmt.Assign p e) h = refl
other_returns (the_stmt.If' x (the_if.If' start e n row close other)) h = refl
other_returns (the_stmt.While' x start e n row close) h = refl
other_returns (the_stmt.Print at e) h = refl
other_returns (the_stmt.Call at c) h = refl
other_returns (the_stmt.Return at e) h = absurd (h at e refl)

pub other_own : (s : the_stmt.Stmt) → IsOther s → None ≡ own_return (stmt_of s)
other_own (the_stmt.Let l) h = refl
other_own (the_stmt.LetOwned l) h = refl
other_own (the_stmt.LetCall l) h = refl
other_own (the_stmt.Var l) h = refl
other_own (the_stmt.Assign p e) h = refl
other_own (the_stmt.If' x (the_if.If' start e n row close other)) h = refl
other_own (the_stmt.While' x start e n row close) h = refl
other_own (the_stmt.Print at e) h = refl
other_own (the_stmt.Call at c) h = refl
other_own (the_stmt.Return at e) h = absurd (h at e refl)

-- the last statement
pub ends_of : (xs : List the_stmt.Stmt) (x : the_stmt.Stmt) → 1 ≤ length xs → x ≡ get_or xs (length xs - 1) x →
    returns (stmt_of x) ≡ does_end (stmts_of xs)
ends_of [] x some e = absurd (omega arith)
ends_of (y ∷ []) x some e = ap (λ (z : the_stmt.Stmt). returns (stmt_of z)) e
ends_of (y ∷ z ∷ zs) x some e =
    let one : suc (suc (length zs)) - 1 ≡ suc (length zs) = omega arith in
    let two : suc (length zs) - 1 ≡ length zs = omega arith in
    ends_of (z ∷ zs) x (omega arith) (e ∙ ap (λ n. get_or (y ∷ z ∷ zs) n x) one ∙ ap (λ n. get_or (z ∷ zs) n x) (sym two))

-- ---- what the least is of

-- the least of the numbers that P has, or that it has none
abbrev pub IsLeast : (ℕ → Type 0) → Option ℕ → Type 0
IsLeast P None = (at : ℕ) → P at → ⊥
IsLeast P (Some n) = P n × ((other : ℕ) → P other → n ≤ other)

-- of numbers that are P's or Q's
module _ (P Q R : ℕ → Type 0) (from_left : (n : ℕ) → P n → R n) (from_right : (n : ℕ) → Q n → R n) (split : (n : ℕ) → R n → P n ⊎ Q n) where
  pub least_of_both : (a b : Option ℕ) → IsLeast P a → IsLeast Q b → IsLeast R (earlier a b)
  least_of_both None None p q = λ n r. elim (split n r) [ inl h ↦ p n h | inr h ↦ q n h ]
  least_of_both None (Some b) p q = (from_right b q.0, λ n r. elim (split n r) [ inl h ↦ absurd (p n h) | inr h ↦ q.1 n h ])
  least_of_both (Some a) None p q = (from_left a p.0, λ n r. elim (split n r) [ inl h ↦ p.1 n h | inr h ↦ absurd (q n h) ])
  least_of_both (Some a) (Some b) p q = (lesser (cases_lt a b), λ n r. elim (split n r) [ inl h ↦ omega (arith, p.1 n h) | inr h ↦ omega (arith, q.1 n h) ])
    where
      lesser : (a < b) ⊎ (b ≤ a) → R (min a b)
      lesser (inl h) = subst R (omega (arith, h)) (from_left a p.0)
      lesser (inr h) = subst R (omega (arith, h)) (from_right b q.0)

-- of numbers that are P's and no others
pub least_same : (P R : ℕ → Type 0) (o : Option ℕ) → ((n : ℕ) → P n → R n) → ((n : ℕ) → R n → P n) → IsLeast P o →
    IsLeast R o
least_same P R None there back p = λ n r. p n (back n r)
least_same P R (Some a) there back p = (there a p.0, λ n r. p.1 n (back n r))

-- ---- statements

same_place : {at : Span} {e : Expr} {n : ℕ} → IsReturn (return_value at e) n → at.start ≤ n
same_place is_return = omega arith

own_least : (s : Stmt) → IsLeast (IsReturn s) (own_return s)
own_least (return_value at e) = (is_return, λ n h. same_place h)
own_least (let_local l) = λ n h. elim h [ ]
own_least (let_owned l o) = λ n h. elim h [ ]
own_least (let_call l) = λ n h. elim h [ ]
own_least (var_local l) = λ n h. elim h [ ]
own_least (if_then start e body close other) = λ n h. elim h [ ]
own_least (while start e body close) = λ n h. elim h [ ]
own_least (assign p e) = λ n h. elim h [ ]
own_least (print at e) = λ n h. elim h [ ]
own_least (Stmt.call at c) = λ n h. elim h [ ]

-- a `return` that is the statement, or in a block of it
abbrev IsHere : Stmt → ℕ → Type 0
IsHere s n = IsReturn s n ⊎ HasReturnInside s n

here_by : (s : Stmt) → IsLeast (HasReturnInside s) (inner_return s) →
    IsLeast (IsHere s) (earlier (own_return s) (inner_return s))
here_by s inside = least_of_both (IsReturn s) (HasReturnInside s) (IsHere s) (λ n h. inl h) (λ n h. inr h) (λ n h. h) (own_return s) (inner_return s) (own_least s) inside

split_return : {s : Stmt} {more : Stmts} (n : ℕ) → HasReturn (stmt s more) n → IsHere s n ⊎ HasReturn more n
split_return n (this_returns h) = inl (inl h)
split_return n (returns_inside h) = inl (inr h)
split_return n (later_returns h) = inr h

here_returns : {s : Stmt} {more : Stmts} (n : ℕ) → IsHere s n → HasReturn (stmt s more) n
here_returns n (inl h) = this_returns h
here_returns n (inr h) = returns_inside h

-- after `else`
data HasElse : Otherwise → ℕ → Type 0 where
  else_returns : {ss : Stmts} {close : Span} {n : ℕ} → HasReturn ss n → HasElse (else_do ss close) n

else_back : {ss : Stmts} {close : Span} (n : ℕ) → HasElse (else_do ss close) n → HasReturn ss n
else_back n (else_returns h) = h

split_if : {start close : Span} {e : Expr} {body : Stmts} {other : Otherwise} (n : ℕ) →
    HasReturnInside (if_then start e body close other) n → HasReturn body n ⊎ HasElse other n
split_if n (in_then h) = inl h
split_if n (in_else h) = inr (else_returns h)

in_other : {start close : Span} {e : Expr} {body : Stmts} {other : Otherwise} (n : ℕ) → HasElse other n →
    HasReturnInside (if_then start e body close other) n
in_other n (else_returns h) = in_else h

while_back : {start close : Span} {e : Expr} {body : Stmts} (n : ℕ) → HasReturnInside (while start e body close) n →
    HasReturn body n
while_back n (in_while h) = h

mutual
  return_least : (ss : Stmts) → IsLeast (HasReturn ss) (least_return ss)
  return_least no_stmts = λ n h. elim h [ ]
  return_least (stmt s more) = least_of_both (IsHere s) (HasReturn more) (HasReturn (stmt s more)) here_returns (λ n h. later_returns h) split_return (earlier (own_return s) (inner_return s)) (least_return more) (here_by s (inside_least s)) (return_least more)

  inside_least : (s : Stmt) → IsLeast (HasReturnInside s) (inner_return s)
  inside_least (let_local l) = λ n h. elim h [ ]
  inside_least (let_owned l o) = λ n h. elim h [ ]
  inside_least (let_call l) = λ n h. elim h [ ]
  inside_least (var_local l) = λ n h. elim h [ ]
  inside_least (assign p e) = λ n h. elim h [ ]
  inside_least (if_then start e body close other) = least_of_both (HasReturn body) (HasElse other) (HasReturnInside (if_then start e body close other)) (λ n h. in_then h) in_other split_if (least_return body) (other_return other) (return_least body) (other_least other)
  inside_least (while start e body close) = least_same (HasReturn body) (HasReturnInside (while start e body close)) (least_return body) (λ n h. in_while h) while_back (return_least body)
  inside_least (print at e) = λ n h. elim h [ ]
  inside_least (return_value at e) = λ n h. elim h [ ]
  inside_least (Stmt.call at c) = λ n h. elim h [ ]

  other_least : (o : Otherwise) → IsLeast (HasElse o) (other_return o)
  other_least no_else = λ n h. elim h [ ]
  other_least (else_do ss close) = least_same (HasReturn ss) (HasElse (else_do ss close)) (least_return ss) (λ n h. else_returns h) else_back (return_least ss)

stray_one : {s : Stmt} (n : ℕ) → HasStrayReturn (stmt s no_stmts) n → HasReturnInside s n
stray_one n (stray_inside h) = h
stray_one n (later_stray h) = elim h [ ]

split_stray : {s next : Stmt} {more : Stmts} (n : ℕ) → HasStrayReturn (stmt s (stmt next more)) n →
    IsHere s n ⊎ HasStrayReturn (stmt next more) n
split_stray n (this_early h) = inl (inl h)
split_stray n (stray_inside h) = inl (inr h)
split_stray n (later_stray h) = inr h

here_stray : {s next : Stmt} {more : Stmts} (n : ℕ) → IsHere s n → HasStrayReturn (stmt s (stmt next more)) n
here_stray n (inl h) = this_early h
here_stray n (inr h) = stray_inside h

stray_least : (ss : Stmts) → IsLeast (HasStrayReturn ss) (least_stray ss)
stray_least no_stmts = λ n h. elim h [ ]
stray_least (stmt s no_stmts) = least_same (HasReturnInside s) (HasStrayReturn (stmt s no_stmts)) (inner_return s) (λ n h. stray_inside h) stray_one (inside_least s)
stray_least (stmt s (stmt next more)) = least_of_both (IsHere s) (HasStrayReturn (stmt next more)) (HasStrayReturn (stmt s (stmt next more))) here_stray (λ n h. later_stray h) split_stray (earlier (own_return s) (inner_return s)) (least_stray (stmt next more)) (here_by s (inside_least s)) (stray_least (stmt next more))

-- the last statement is a `return`, or not
is_last : (s : Stmt) → returns s ≡ true → EndsInReturn (stmt s no_stmts)
is_last (return_value at e) h = last_returns is_return
is_last (let_local l) h = absurd cc
is_last (let_owned l o) h = absurd cc
is_last (let_call l) h = absurd cc
is_last (var_local l) h = absurd cc
is_last (if_then start e body close other) h = absurd cc
is_last (while start e body close) h = absurd cc
is_last (assign p e) h = absurd cc
is_last (print at e) h = absurd cc
is_last (Stmt.call at c) h = absurd cc

last_is : {s : Stmt} {n : ℕ} → IsReturn s n → returns s ≡ true
last_is is_return = refl

ends_true : (ss : Stmts) → does_end ss ≡ true → EndsInReturn ss
ends_true no_stmts h = absurd cc
ends_true (stmt s no_stmts) h = is_last s h
ends_true (stmt s (stmt next more)) h = ends_later (ends_true (stmt next more) h)

none_ends : EndsInReturn no_stmts → ⊥
none_ends h = elim h [ ]

true_ends : {ss : Stmts} → EndsInReturn ss → does_end ss ≡ true
true_ends (last_returns h) = last_is h
true_ends (ends_later {more = no_stmts} h) = absurd (none_ends h)
true_ends (ends_later {more = stmt next more} h) = true_ends h

-- ---- sections

-- a section with a result that no `return` ends
abbrev IsMissing : Stmts → ℕ → ℕ → Type 0
IsMissing ss close n = (EndsInReturn ss → ⊥) × (n ≡ close)

missing_least : (ss : Stmts) (close : ℕ) (b : Bool) → does_end ss ≡ b →
    IsLeast (IsMissing ss close) (missing_at b close)
missing_least ss close true e = λ n h. h.0 (ends_true ss e)
missing_least ss close false e = ((λ h. let t = true_ends h in absurd cc, refl), λ n h. omega (arith, h.1))

module _ (s : Section) where
  no_result_back : s.result ≡ None → (n : ℕ) → IsSectionFault s n → HasReturn s.body.stmts n
  no_result_back e n (no_result r h) = h
  no_result_back e n (stray r h) = absurd cc
  no_result_back e n (missing r h) = absurd cc

  split_fault : {t : ValueType} → s.result ≡ Some t → (n : ℕ) → IsSectionFault s n →
      HasStrayReturn s.body.stmts n ⊎ IsMissing s.body.stmts s.body.close.start n
  split_fault e n (no_result r h) = absurd cc
  split_fault e n (stray r h) = inl h
  split_fault e n (missing r h) = inr (h, refl)

  missing_there : {t : ValueType} → s.result ≡ Some t → (n : ℕ) → IsMissing s.body.stmts s.body.close.start n →
      IsSectionFault s n
  missing_there e n h = subst (IsSectionFault s) (sym h.1) (missing e h.0)

  section_by : (r : Option ValueType) → s.result ≡ r →
      IsLeast (IsSectionFault s) (section_fault_of r s.body.stmts s.body.close.start)
  section_by None e = least_same (HasReturn s.body.stmts) (IsSectionFault s) (least_return s.body.stmts) (λ n h. no_result e h) (no_result_back e) (return_least s.body.stmts)
  section_by (Some t) e =
      least_of_both (HasStrayReturn s.body.stmts) (IsMissing s.body.stmts s.body.close.start) (IsSectionFault s) (λ n h. stray e h) (missing_there e) (split_fault e) (least_stray s.body.stmts) (missing_at (does_end s.body.stmts) s.body.close.start) (stray_least s.body.stmts) (missing_least s.body.stmts s.body.close.start (does_end s.body.stmts) refl)

-- ---- programs

split_section : {s : Section} {ds : List Decl} (n : ℕ) → IsReturnFault (atomic s ∷ ds) n →
    IsSectionFault s n ⊎ IsReturnFault ds n
split_section n (this_section h) = inl h
split_section n (later_section h) = inr h

split_helper : {s : Section} {ds : List Decl} (n : ℕ) → IsReturnFault (helper s ∷ ds) n →
    IsSectionFault s n ⊎ IsReturnFault ds n
split_helper n (this_helper h) = inl h
split_helper n (later_section h) = inr h

lock_back : {x : Ident} {ds : List Decl} (n : ℕ) → IsReturnFault (lock x ∷ ds) n → IsReturnFault ds n
lock_back n (later_section h) = h

struct_back : {x : Struct} {ds : List Decl} (n : ℕ) → IsReturnFault (struct x ∷ ds) n → IsReturnFault ds n
struct_back n (later_section h) = h

global_back : {x : Variable} {ds : List Decl} (n : ℕ) → IsReturnFault (global x ∷ ds) n → IsReturnFault ds n
global_back n (later_section h) = h

array_back : {x : Array} {ds : List Decl} (n : ℕ) → IsReturnFault (array x ∷ ds) n → IsReturnFault ds n
array_back n (later_section h) = h

pool_back : {x : Pool} {ds : List Decl} (n : ℕ) → IsReturnFault (pool x ∷ ds) n → IsReturnFault ds n
pool_back n (later_section h) = h

init_back : {x : Init} {ds : List Decl} (n : ℕ) → IsReturnFault (init x ∷ ds) n → IsReturnFault ds n
init_back n (later_section h) = h

thread_back : {x : Thread} {ds : List Decl} (n : ℕ) → IsReturnFault (thread x ∷ ds) n → IsReturnFault ds n
thread_back n (later_section h) = h

pub fault_least : (ds : List Decl) → IsLeast (IsReturnFault ds) (least_fault ds)
fault_least [] = λ n h. elim h [ ]
fault_least (atomic s ∷ ds) = least_of_both (IsSectionFault s) (IsReturnFault ds) (IsReturnFault (atomic s ∷ ds)) (λ n h. this_section h) (λ n h. later_section h) split_section (section_fault s) (least_fault ds) (section_by s s.result refl) (fault_least ds)
fault_least (helper s ∷ ds) = least_of_both (IsSectionFault s) (IsReturnFault ds) (IsReturnFault (helper s ∷ ds)) (λ n h. this_helper h) (λ n h. later_section h) split_helper (section_fault s) (least_fault ds) (section_by s s.result refl) (fault_least ds)
fault_least (lock x ∷ ds) = least_same (IsReturnFault ds) (IsReturnFault (lock x ∷ ds)) (least_fault ds) (λ n h. later_section h) lock_back (fault_least ds)
fault_least (struct x ∷ ds) = least_same (IsReturnFault ds) (IsReturnFault (struct x ∷ ds)) (least_fault ds) (λ n h. later_section h) struct_back (fault_least ds)
fault_least (global x ∷ ds) = least_same (IsReturnFault ds) (IsReturnFault (global x ∷ ds)) (least_fault ds) (λ n h. later_section h) global_back (fault_least ds)
fault_least (array x ∷ ds) = least_same (IsReturnFault ds) (IsReturnFault (array x ∷ ds)) (least_fault ds) (λ n h. later_section h) array_back (fault_least ds)
fault_least (pool x ∷ ds) = least_same (IsReturnFault ds) (IsReturnFault (pool x ∷ ds)) (least_fault ds) (λ n h. later_section h) pool_back (fault_least ds)
fault_least (init x ∷ ds) = least_same (IsReturnFault ds) (IsReturnFault (init x ∷ ds)) (least_fault ds) (λ n h. later_section h) init_back (fault_least ds)
fault_least (thread x ∷ ds) = least_same (IsReturnFault ds) (IsReturnFault (thread x ∷ ds)) (least_fault ds) (λ n h. later_section h) thread_back (fault_least ds)

-- what the pass found

pub returns_right : (ds : List Decl) → least_fault ds ≡ None → ReturnsRight ds
returns_right ds e = subst (IsLeast (IsReturnFault ds)) e (fault_least ds)

pub first_fault : (ds : List Decl) (n : ℕ) → least_fault ds ≡ Some n → IsFirstReturnFault ds n
first_fault ds n e = subst (IsLeast (IsReturnFault ds)) e (fault_least ds)

pub not_right : (ds : List Decl) (n : ℕ) → least_fault ds ≡ Some n → ReturnsRight ds → ⊥
not_right ds n e right = right n (first_fault ds n e).0

pub same_first : (ds : List Decl) (n m : ℕ) → least_fault ds ≡ Some n → IsFirstReturnFault ds m → n ≡ m
same_first ds n m e f = let g = first_fault ds n e in omega (arith, g.1 m f.0, f.1 n g.0)
