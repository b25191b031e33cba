-- The law of statements.
use Rattle.std.proofs.Common.{◌≡◌, ℕ, zero, suc, ◌+◌, ◌<◌, List, [], ◌∷◌, refl, arith}
use Rattle.source.specs.declared.span.Span.{Span}
use Rattle.source.specs.declared.token.Keyword.TheVariants as keyword
use Rattle.source.specs.declared.token.Sign.TheVariants.{OpenBrace, CloseBrace, OpenParen, CloseParen, Semicolon}
use Rattle.source.specs.declared.token.Sign.TheVariants.{Colon, Equals, DoubleEquals}
use Rattle.source.specs.Tokens.{Lexeme, name, word, mark, Tok}
use Rattle.syntax.specs.Trees.{Ident, ValueType, int_type, Expr, Local, Owner, HelperCall, Stmt, let_local, let_owned}
use Rattle.syntax.specs.Trees.{let_call, var_local, assign, if_then, while, print, return_value, Stmts, no_stmts}
use Rattle.syntax.specs.Trees.{stmt, Otherwise, no_else, else_do}
use Rattle.syntax.specs.Grammar.{tok, name_tok, AreListed, none_listed, ANY, IsName, is_name, IsType, is_int_type}
use Rattle.syntax.specs.Grammar.{IsPlace, IsExpr, is_int, IsLocal, is_local, IsOwner, is_owner, IsHelperCall}
use Rattle.syntax.specs.Grammar.{is_helper_call, IsStmt, is_let, is_let_owned, is_let_call, is_var, is_assign, is_if}
use Rattle.syntax.specs.Grammar.{is_while, is_print, is_return, is_call_stmt, IsStmts, are_no_stmts, are_stmts}
use Rattle.syntax.specs.Grammar.{IsBraced, is_braced, IsElse, is_no_else, is_else}
use Rattle.parser.specs.Working.Reading.{Reader, next_until}
use Rattle.parser.specs.Working.Expressions.{inside_at, expr_at}
use Rattle.parser.specs.Working.Statements.{TypedName, local_with, called_with, typed_at, owner_at, owned_at}
use Rattle.parser.specs.Working.Statements.{plain_at, helper_call_at, called_at, valued_at, let_at, var_at}
use Rattle.parser.specs.Working.Statements.{call_stmt_at, assign_at, braced_with, some_else, nothing_else, else_with}
use Rattle.parser.specs.Working.Statements.{if_with, while_with, stmt_from, stmt_with, stmt_at, stmts_with, stmts_in}
use Rattle.parser.specs.Working.Statements.{braced_at}
use Rattle.parser.specs.Theory.Law.{Law, give_law, at_rest, Head, refuses, takes, first_law, IsTok, is_tok}
use Rattle.parser.specs.Theory.Laws.{many_law}
use Rattle.parser.specs.Theory.Joined.{Done, done, Both, both, nowhere, Part, Rest, ends_with, then_part, then_open}
use Rattle.parser.specs.Theory.Joined.{production, sign_part, word_part, name_part, listed_part, until_law}
use Rattle.parser.specs.Theory.Joined.{choose_law, weaken_law, either}
use Rattle.parser.specs.Theory.Productions.{zero_expr, any_part, expr_law, IsEnded, ended, ended_part, inside_law}
use Rattle.parser.specs.Theory.Productions.{place_part, IsCondition, is_condition, condition_part}
use Rattle.parser.specs.Theory.PartLaws.{one_is, no_name, zero_tok, type_part}

-- ---- the result of the parts of each production

-- a local's name and type, and the sign `=`, after a first word at this position
pub data IsTyped (start : Span) : TypedName → List Tok → List Tok → Type 0 where
  is_typed : {x : Ident} {t : ValueType} {colon equals : Span} {ts rest : List Tok}
      → IsType t ts (tok (mark Equals) equals ∷ rest)
      → IsTyped start (record { start = start; name = x; value_type = t }) (name_tok x ∷ tok (mark Colon) colon ∷ ts)
      rest

typed_is : {start : Span} {y : TypedName} {ts rest : List Tok} →
    Both IsName (λ x. Both (IsTok (mark Colon)) (λ c. Both IsType (λ t. Both (IsTok (mark Equals))
    (λ q. Done (record { start = start; name = x; value_type = t }))))) y ts rest → IsTyped start y ts rest
typed_is (both is_name (both is_tok (both t (both is_tok done)))) = is_typed t

helper_call_is : {y : HelperCall} {ts rest : List Tok} →
    Both IsName (λ x. Both (IsTok (mark OpenParen)) (λ b. Both (AreListed (IsExpr ANY))
    (λ es. Both (IsTok (mark CloseParen)) (λ c. Done (record { helper = x; arguments = es }))))) y ts rest →
    IsHelperCall y ts rest
helper_call_is (both is_name (both is_tok (both es (both is_tok done)))) = is_helper_call es

owner_is : {y : Owner} {ts rest : List Tok} →
    Both (IsTok (word keyword.Where)) (λ w. Both IsName (λ f. Both (IsTok (mark DoubleEquals))
    (λ q. Both IsName (λ x. Done (record { field = f; local = x }))))) y ts rest → IsOwner y ts rest
owner_is (both is_tok (both is_name (both is_tok (both is_name done)))) = is_owner

assign_is : {x : Ident} {y : Stmt} {ts rest : List Tok} →
    Both (at_rest IsPlace (name_tok x)) (λ p. Both (IsTok (mark Equals)) (λ q. Both IsEnded (λ e. Done (assign p e)))) y
    ts rest → IsStmt y (name_tok x ∷ ts) rest
assign_is (both p (both is_tok (both (ended e) done))) = is_assign p e

-- statements in braces, with the position of the closing one
abbrev pub IsBracedPair : Stmts × Span → List Tok → List Tok → Type 0
IsBracedPair b = IsBraced b.0 b.1

braced_is : {y : Stmts × Span} {ts rest : List Tok} →
    Both (IsTok (mark OpenBrace)) (λ b. Both IsStmts (λ ss. Both (IsTok (mark CloseBrace)) (λ c. Done (ss, c)))) y ts
    rest → IsBracedPair y ts rest
braced_is (both is_tok (both ss (both is_tok done))) = is_braced ss

else_is : {y : Otherwise} {ts rest : List Tok} →
    Both (IsTok (word keyword.Else)) (λ w. Both IsBracedPair (λ b. Done (else_do b.0 b.1))) y ts rest →
    IsElse y ts rest
else_is (both is_tok (both b done)) = is_else b

if_is : {start : Span} {y : Stmt} {ts rest : List Tok} →
    Both IsCondition (λ e. Both IsBracedPair (λ b. Both IsElse (λ o. Done (if_then start e b.0 b.1 o)))) y ts rest →
    IsStmt y (tok (word keyword.If) start ∷ ts) rest
if_is (both (is_condition e) (both b (both o done))) = is_if e b o

while_is : {start : Span} {y : Stmt} {ts rest : List Tok} →
    Both IsCondition (λ e. Both IsBracedPair (λ b. Done (while start e b.0 b.1))) y ts rest →
    IsStmt y (tok (word keyword.While) start ∷ ts) rest
while_is (both (is_condition e) (both b done)) = is_while e b

-- the end of a `let` of this local
data IsLetEnd (l : Local) : Stmt → List Tok → List Tok → Type 0 where
  ends_plain : {semicolon : Span} {ts : List Tok} → IsLetEnd l (let_local l) (tok (mark Semicolon) semicolon ∷ ts) ts
  ends_owned : {o : Owner} {semicolon : Span} {ts rest : List Tok} →
      IsOwner o ts (tok (mark Semicolon) semicolon ∷ rest) → IsLetEnd l (let_owned l o) ts rest

plain_is : {l : Local} {y : Stmt} {ts rest : List Tok} →
    Both (IsTok (mark Semicolon)) (λ s. Done (let_local l)) y ts rest → IsLetEnd l y ts rest
plain_is (both is_tok done) = ends_plain

owned_is : {l : Local} {y : Stmt} {ts rest : List Tok} →
    Both IsOwner (λ o. Both (IsTok (mark Semicolon)) (λ s. Done (let_owned l o))) y ts rest → IsLetEnd l y ts rest
owned_is (both o (both is_tok done)) = ends_owned o

let_ended : {l : Local} {y : Stmt} {ts mid rest : List Tok} → IsLocal l ts mid → IsLetEnd l y mid rest →
    IsStmt y (tok (word keyword.Let) l.start ∷ ts) rest
let_ended h ends_plain = is_let h
let_ended h (ends_owned o) = is_let_owned h o

-- the rest of a `let` after its sign `=`
data IsLetRest (t : TypedName) : Stmt → List Tok → List Tok → Type 0 where
  rest_valued : {e : Expr} {s : Stmt} {ts mid rest : List Tok} → IsExpr ANY e ts mid →
      IsLetEnd (local_with t e) s mid rest → IsLetRest t s ts rest
  rest_called : {c : HelperCall} {start semicolon : Span} {ts rest : List Tok}
      → IsHelperCall c ts (tok (mark Semicolon) semicolon ∷ rest) → IsLetRest t (let_call (called_with t c))
      (tok (word keyword.Call) start ∷ ts) rest

valued_is : {t : TypedName} {y : Stmt} {ts rest : List Tok} →
    Both (IsExpr ANY) (λ e. IsLetEnd (local_with t e)) y ts rest → IsLetRest t y ts rest
valued_is (both e f) = rest_valued e f

called_is : {t : TypedName} {y : Stmt} {ts rest : List Tok} →
    Both (IsTok (word keyword.Call)) (λ w. Both IsHelperCall (λ c. Both (IsTok (mark Semicolon))
    (λ s. Done (let_call (called_with t c))))) y ts rest → IsLetRest t y ts rest
called_is (both is_tok (both c (both is_tok done))) = rest_called c

let_is : {start : Span} {y : Stmt} {ts rest : List Tok} → Both (IsTyped start) (λ t. IsLetRest t) y ts rest →
    IsStmt y (tok (word keyword.Let) start ∷ ts) rest
let_is {start = start} (both (is_typed {x = x} {t = t} h) (rest_valued {e = e} i f)) = let_ended
    {l = record { start = start; name = x; value_type = t; value = e }} (is_local h i) f
let_is (both (is_typed t) (rest_called c)) = is_let_call t c

var_is : {start : Span} {y : Stmt} {ts rest : List Tok} →
    Both (IsTyped start) (λ t. Both IsEnded (λ e. Done (var_local (local_with t e)))) y ts rest →
    IsStmt y (tok (word keyword.Var) start ∷ ts) rest
var_is (both (is_typed t) (both (ended e) done)) = is_var (is_local t e)

call_stmt_is : {start : Span} {y : Stmt} {ts rest : List Tok} →
    Both IsHelperCall (λ c. Both (IsTok (mark Semicolon)) (λ s. Done (Stmt.call start c))) y ts rest →
    IsStmt y (tok (word keyword.Call) start ∷ ts) rest
call_stmt_is (both c (both is_tok done)) = is_call_stmt c

print_is : {start : Span} {e : Expr} {ts rest : List Tok} → IsEnded e ts rest →
    IsStmt (print start e) (tok (word keyword.Print) start ∷ ts) rest
print_is (ended h) = is_print h

return_is : {start : Span} {e : Expr} {ts rest : List Tok} → IsEnded e ts rest →
    IsStmt (return_value start e) (tok (word keyword.Return) start ∷ ts) rest
return_is (ended h) = is_return h

module _ (limit : ℕ) where
  owner_law : (d : ℕ) → Law limit IsOwner owner_at 1 d d
  unfolding owner_at
  owner_law d =
      production limit IsOwner
      (then_part limit (word_part limit keyword.Where d) (then_part limit (name_part limit d)
      (then_part limit (sign_part limit DoubleEquals d (λ o. o)) (then_part limit (name_part limit d)
      (ends_with limit (λ x. record { field = x.0.0.1; local = x.1 }))))))
      (λ y ts rest r. owner_is r)

  owner_part : {P : Type 0} (d : ℕ) → Part limit P IsOwner owner_at 1 d d
  owner_part d = record {
    law = λ p. owner_law d;
    can = λ rest. (
      record { field = no_name; local = no_name },
      tok (word keyword.Where) nowhere ∷ name_tok no_name ∷
          tok (mark DoubleEquals) nowhere ∷ name_tok no_name ∷ rest,
      is_owner,
    );
  }

  typed_law : (d : ℕ) (start : Span) → Law limit (IsTyped start) (typed_at start) 1 d d
  unfolding typed_at
  typed_law d start =
      production limit (IsTyped start)
      (then_part limit (name_part limit d) (then_part limit (sign_part limit Colon d (λ o. o))
      (then_part limit (type_part limit d) (then_part limit (sign_part limit Equals d (λ o. o))
      (ends_with limit (λ x. record { start = start; name = x.0.0.0.1; value_type = x.0.1 }))))))
      (λ y ts rest r. typed_is r)

  typed_part : {P : Type 0} (d : ℕ) (start : Span) → Part limit P (IsTyped start) (typed_at start) 1 d d
  typed_part d start = record {
    law = λ p. typed_law d start;
    can = λ rest. (
      record { start = start; name = no_name; value_type = int_type },
      name_tok no_name ∷ tok (mark Colon)
          nowhere ∷ tok (word keyword.Int) nowhere ∷ tok (mark Equals) nowhere ∷ rest,
      is_typed is_int_type,
    );
  }

  plain_rest : {P X : Type 0} (d : ℕ) (make : X → Local) →
      Rest limit P (λ (x : X). IsLetEnd (make x)) (λ x. plain_at (make x)) 1 d d
  plain_rest d make = record {
    law = λ p x. production limit (IsLetEnd (make x)) (then_part limit (sign_part limit Semicolon d (λ o. o))
        (ends_with limit (λ y. let_local (make x)))) (λ y ts rest r. plain_is r);
    can = λ rest. (tok (mark Semicolon) nowhere ∷ rest, λ x. (let_local (make x), ends_plain));
  }

  owned_rest : {P X : Type 0} (d : ℕ) (make : X → Local) →
      Rest limit P (λ (x : X). IsLetEnd (make x)) (λ x. owned_at (make x)) 1 d d
  owned_rest d make = record {
    law = λ p x. production limit (IsLetEnd (make x)) (then_part limit (owner_part d)
        (then_part limit (sign_part limit Semicolon d (λ o. o)) (ends_with limit (λ y. let_owned (make x) y.0.1))))
        (λ y ts rest r. owned_is r);
    can = λ rest. (tok (mark Semicolon) nowhere ∷ rest, λ x. (let_local (make x), ends_plain));
  }

  module _ (room d : ℕ) (sum : d + room ≡ limit) where
    helper_call_law : Law limit IsHelperCall (helper_call_at room) 1 d d
    unfolding helper_call_at
    helper_call_law =
        production limit IsHelperCall
        (then_part limit (name_part limit d) (then_open limit OpenParen room sum tt
        (then_part limit (listed_part limit (suc d) (any_part limit (inside_at room) (suc d)
        (inside_law limit room d sum))) (then_part limit (sign_part limit CloseParen (suc d) (λ o. o))
        (ends_with limit (λ x. record { helper = x.0.0.0.1; arguments = x.0.1 }))))))
        (λ y ts rest r. helper_call_is r)

    helper_call_part : {P : Type 0} → Part limit P IsHelperCall (helper_call_at room) 1 d d
    helper_call_part = record {
      law = λ p. helper_call_law;
      can = λ rest. (
        record { helper = no_name; arguments = [] },
        name_tok no_name ∷ tok (mark OpenParen) nowhere ∷ tok
            (mark CloseParen) nowhere ∷ rest,
        is_helper_call none_listed,
      );
    }

    valued_rest : {P : Type 0} →
        Rest limit P (λ (x : Unit {0} × TypedName). IsLetRest x.1) (λ x. valued_at room x.1) 1 d d
    valued_rest = record {
      law = λ p x.
          production limit (IsLetRest x.1) (then_part limit (any_part limit (expr_at room) d
          (λ p. expr_law limit room d sum)) (either limit (word keyword.Where)
          (owned_rest d (λ (y : Unit {0} × Expr). local_with x.1 y.1))
          (plain_rest d (λ (y : Unit {0} × Expr). local_with x.1 y.1)))) (λ y ts rest r. valued_is r);
      can = λ rest. (
        zero_tok ∷ tok (mark Semicolon) nowhere ∷ rest,
        λ x.
            (let_local (local_with x.1 zero_expr), rest_valued is_int ends_plain),
      );
    }

    called_rest : {P : Type 0} →
        Rest limit P (λ (x : Unit {0} × TypedName). IsLetRest x.1) (λ x. called_at room x.1) 1 d d
    called_rest = record {
      law = λ p x.
          production limit (IsLetRest x.1) (then_part limit (word_part limit keyword.Call d)
          (then_part limit helper_call_part (then_part limit (sign_part limit Semicolon d (λ o. o))
          (ends_with limit (λ y. let_call (called_with x.1 y.0.1)))))) (λ y ts rest r. called_is r);
      can = λ rest. (
        zero_tok ∷ tok (mark Semicolon) nowhere ∷ rest,
        λ x.
            (let_local (local_with x.1 zero_expr), rest_valued is_int ends_plain),
      );
    }

    let_law : (start : Span) → Law limit (at_rest IsStmt (tok (word keyword.Let) start)) (let_at room start) 1 d d
    unfolding let_at
    let_law start = production limit (at_rest IsStmt (tok (word keyword.Let) start))
        (then_part limit (typed_part d start) (either limit (word keyword.Call) called_rest valued_rest))
        (λ y ts rest r. let_is r)

    var_law : (start : Span) → Law limit (at_rest IsStmt (tok (word keyword.Var) start)) (var_at room start) 1 d d
    unfolding var_at
    var_law start = production limit (at_rest IsStmt (tok (word keyword.Var) start))
        (then_part limit (typed_part d start) (then_part limit (ended_part limit room d sum)
        (ends_with limit (λ x. var_local (local_with x.0.1 x.1))))) (λ y ts rest r. var_is r)

    call_stmt_law : (start : Span) →
        Law limit (at_rest IsStmt (tok (word keyword.Call) start)) (call_stmt_at room start) 1 d d
    unfolding call_stmt_at
    call_stmt_law start = production limit (at_rest IsStmt (tok (word keyword.Call) start))
        (then_part limit helper_call_part (then_part limit (sign_part limit Semicolon d (λ o. o))
        (ends_with limit (λ x. Stmt.call start x.0.1)))) (λ y ts rest r. call_stmt_is r)

    assign_law : (x : Ident) → Law limit (at_rest IsStmt (name_tok x)) (assign_at room x) 0 d d
    unfolding assign_at
    assign_law x =
        production limit (at_rest IsStmt (name_tok x))
        (then_part limit (place_part limit room d sum (inside_at room) (inside_law limit room d sum) x)
        (then_part limit (sign_part limit Equals d (λ o. o)) (then_part limit (ended_part limit room d sum)
        (ends_with limit (λ y. assign y.0.0.1 y.1)))))
        (λ y ts rest r. assign_is r)

    module _ (body : Reader Stmts) (law : 0 < room → Law limit IsStmts body 0 (suc d) (suc d)) where
      body_part : Part limit (0 < room) IsStmts body 0 (suc d) (suc d)
      body_part = record { law = law; can = λ rest. (no_stmts, rest, are_no_stmts) }

      braced_law : Law limit IsBracedPair (braced_with room body) 1 d d
      unfolding braced_with
      braced_law =
          production limit IsBracedPair
          (then_open limit OpenBrace room sum tt (then_part limit body_part
          (then_part limit (sign_part limit CloseBrace (suc d) (λ o. o)) (ends_with limit (λ x. (x.0.1, x.1))))))
          (λ y ts rest r. braced_is r)

      braced_part : {P : Type 0} → Part limit P IsBracedPair (braced_with room body) 1 d d
      braced_part = record {
        law = λ p. braced_law;
        can = λ rest. (
          (no_stmts, nowhere),
          tok (mark OpenBrace) nowhere ∷
              tok (mark CloseBrace) nowhere ∷ rest,
          is_braced are_no_stmts,
        );
      }

      some_else_law : Law limit IsElse (some_else room body) 1 d d
      some_else_law = production limit IsElse (then_part limit (word_part limit keyword.Else d)
          (then_part limit braced_part (ends_with limit (λ x. else_do x.1.0 x.1.1)))) (λ y ts rest r. else_is r)

      else_law : Law limit IsElse (else_with room body) 0 d d
      else_law = choose_law limit IsElse (word keyword.Else) (some_else room body) nothing_else 0 d d
          (weaken_law limit IsElse (some_else room body) d d some_else_law)
          (give_law limit IsElse no_else d (λ ts. is_no_else))

      else_part : {P : Type 0} → Part limit P IsElse (else_with room body) 0 d d
      else_part = record { law = λ p. else_law; can = λ rest. (no_else, rest, is_no_else) }

      if_law : (start : Span) → Law limit (at_rest IsStmt (tok (word keyword.If) start)) (if_with room body start) 1 d d
      unfolding if_with
      if_law start =
          production limit (at_rest IsStmt (tok (word keyword.If) start))
          (then_part limit (condition_part limit room d sum) (then_part limit braced_part
          (then_part limit else_part (ends_with limit (λ x. if_then start x.0.0.1 x.0.1.0 x.0.1.1 x.1)))))
          (λ y ts rest r. if_is r)

      while_law : (start : Span) →
          Law limit (at_rest IsStmt (tok (word keyword.While) start)) (while_with room body start) 1 d d
      unfolding while_with
      while_law start =
          production limit (at_rest IsStmt (tok (word keyword.While) start))
          (then_part limit (condition_part limit room d sum) (then_part limit braced_part
          (ends_with limit (λ x. while start x.0.1 x.1.0 x.1.1))))
          (λ y ts rest r. while_is r)

      stmt_head : (k : Lexeme) (at : Span) → Head limit IsStmt d d k at (stmt_from room body k at)
      stmt_head (name x) at = takes 0 (λ e. cc) (λ o. absurd o) (assign_law (record { text = x; span = at }))
      stmt_head (word keyword.Let) at = takes 1 (λ e. cc) (λ o. absurd o) (let_law at)
      stmt_head (word keyword.Var) at = takes 1 (λ e. cc) (λ o. absurd o) (var_law at)
      stmt_head (word keyword.If) at = takes 1 (λ e. cc) (λ o. absurd o) (if_law at)
      stmt_head (word keyword.While) at = takes 1 (λ e. cc) (λ o. absurd o) (while_law at)
      stmt_head (word keyword.Print) at = takes 1 (λ e. cc) (λ o. absurd o)
          (production limit (at_rest IsStmt (tok (word keyword.Print) at))
          (then_part limit (ended_part limit room d sum) (ends_with limit (λ x. print at x.1)))
          (one_is _ (λ x ts rest h. print_is h)))
      stmt_head (word keyword.Return) at = takes 1 (λ e. cc) (λ o. absurd o)
          (production limit (at_rest IsStmt (tok (word keyword.Return) at))
          (then_part limit (ended_part limit room d sum) (ends_with limit (λ x. return_value at x.1)))
          (one_is _ (λ x ts rest h. return_is h)))
      stmt_head (word keyword.Call) at = takes 1 (λ e. cc) (λ o. absurd o) (call_stmt_law at)
      stmt_head _ at = refuses (λ ts. refl)

      stmt_with_law : Law limit IsStmt (stmt_with room body) 1 d d
      unfolding stmt_with
      stmt_with_law = first_law limit IsStmt (stmt_from room body) d d (λ rest. (
        print nowhere zero_expr,
        tok (word keyword.Print) nowhere ∷ zero_tok ∷ tok (mark Semicolon) nowhere ∷ rest,
        print_is (ended is_int),
      )) stmt_head

  stmts_law : (f : Reader Stmt) (d : ℕ) → Law limit IsStmt f 1 d d → Law limit IsStmts (stmts_with f) 0 d d
  unfolding stmts_with
  stmts_law f d law = many_law limit IsStmt IsStmts no_stmts stmt (next_until (mark CloseBrace) f) d
      (until_law limit IsStmt (mark CloseBrace) f d law) (λ ts. are_no_stmts) (λ x l ts mid rest a b. are_stmts a b)

  -- statements after an opening brace, if one could be opened
  stmts_in_law : (room d : ℕ) → d + room ≡ limit → 0 < room → Law limit IsStmts (stmts_in room) 0 (suc d) (suc d)
  unfolding stmts_in
  stmts_in_law zero d sum some = absurd (omega arith)
  stmts_in_law (suc room) d sum some = stmts_law (stmt_with room (stmts_in room)) (suc d)
      (stmt_with_law room (suc d) (omega arith) (stmts_in room) (stmts_in_law room (suc d) (omega arith)))

  pub stmt_law : (room d : ℕ) → d + room ≡ limit → Law limit IsStmt (stmt_at room) 1 d d
  stmt_law room d sum = stmt_with_law room d sum (stmts_in room) (stmts_in_law room d sum)

  module _ (room d : ℕ) (sum : d + room ≡ limit) where
    pub block_part : {P : Type 0} → Part limit P IsBracedPair (braced_at room) 1 d d
    block_part = braced_part room d sum (stmts_in room) (stmts_in_law room d sum)
