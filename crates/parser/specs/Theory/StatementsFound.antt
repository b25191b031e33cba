-- Tokens that have a tree are read, unless a sign is too deep: statements.
use Rattle.std.proofs.Common.{◌≡◌, ℕ, zero, suc, true, false, List, [], ◌∷◌, length, Ok, refl, sym, subst}
use Rattle.source.specs.declared.span.Span.{Span}
use Rattle.source.specs.declared.token.Keyword.TheVariants as keyword
use Rattle.source.specs.declared.token.Sign.TheVariants.{OpenBrace, CloseBrace, OpenParen, CloseParen, Semicolon}
use Rattle.source.specs.declared.token.Sign.TheVariants.{Colon, Equals, DoubleEquals}
use Rattle.source.specs.Tokens.{Lexeme, name, word, mark, end, Tok}
use Rattle.source.specs.Tokens as lexeme
use Rattle.syntax.specs.Trees.{Ident, Place, Expr, Local, Owner, HelperCall, CalledLocal, Stmt, let_local, let_owned}
use Rattle.syntax.specs.Trees.{let_call, var_local, assign, if_then, while, print, return_value, Stmts, no_stmts}
use Rattle.syntax.specs.Trees.{stmt, Otherwise, no_else, else_do}
use Rattle.syntax.specs.Grammar.{tok, name_tok, AreListed, ANY, IsName, is_name, IsType, IsPlace, is_lone, is_element}
use Rattle.syntax.specs.Grammar.{is_path, IsExpr, IsLocal, is_local, IsOwner, is_owner, IsHelperCall, is_helper_call}
use Rattle.syntax.specs.Grammar.{IsStmt, is_let, is_let_owned, is_let_call, is_var, is_assign, is_if, is_while}
use Rattle.syntax.specs.Grammar.{is_print, is_return, is_call_stmt, IsStmts, are_no_stmts, are_stmts, IsBraced}
use Rattle.syntax.specs.Grammar.{is_braced, IsElse, is_no_else, is_else}
use Rattle.parser.specs.Working.Reading.{◌>>=◌, same_kind, sign_at, open_at, word_at, skip_at, choose}
use Rattle.parser.specs.Working.Expressions.{inside_at, place_at, expr_at, ended_at, condition_at}
use Rattle.parser.specs.Working.Statements.{TypedName, local_with, called_with, typed_at, owner_at, owned_at}
use Rattle.parser.specs.Working.Statements.{plain_at, helper_call_at, called_at, valued_at, let_at, var_at}
use Rattle.parser.specs.Working.Statements.{call_stmt_at, assign_at, braced_with, some_else, nothing_else, else_with}
use Rattle.parser.specs.Working.Statements.{if_with, while_with, stmt_with, stmt_at, stmts_with, stmts_in, braced_at}
use Rattle.parser.specs.Theory.Law.{IsTok, is_tok}
use Rattle.parser.specs.Theory.Joined.{Done, done, Both, both}
use Rattle.parser.specs.Theory.Productions.{IsEnded, ended}
use Rattle.parser.specs.Theory.StatementLaws.{IsTyped, is_typed, IsBracedPair}
use Rattle.parser.specs.Theory.StatementTurns.{next_stmt_shortens}
use Rattle.parser.specs.Theory.Complete.{NoOps, no_ops_close, no_ops_semicolon, no_ops_where, no_place_equals}
use Rattle.parser.specs.Theory.Complete.{PlaceFound, place_found, any_found, expr_starts, ended_found}
use Rattle.parser.specs.Theory.Complete.{condition_found, ClosesAll, arguments_found}
use Rattle.parser.specs.Theory.Finding.{Finds, found, deep, finds_then, FindsPart, Anything, ends_found, then_found}
use Rattle.parser.specs.Theory.Finding.{and_found, production_found, sign_found, word_found, open_then, name_found}
use Rattle.parser.specs.Theory.Finding.{NotNext, IsNext, until_none, until_found, choose_left, choose_right}
use Rattle.parser.specs.Theory.PartsFound.{type_found}

-- ---- names with types, and calls

typed_back : {start : Span} {y : TypedName} {ts rest : List Tok} → IsTyped start y ts rest →
    Both IsName (λ x. Both (IsTok (mark Colon)) (λ c. Both IsType (λ t. Both (IsTok (mark Equals))
    (λ q. Done (record { start = start; name = x; value_type = t }))))) y ts rest
typed_back (is_typed t) = both is_name (both is_tok (both t (both is_tok done)))

typed_found : (start : Span) → FindsPart Anything (IsTyped start) (typed_at start)
unfolding typed_at
typed_found start =
    production_found (IsTyped start)
    (and_found name_found (and_found (sign_found Colon) (and_found type_found
    (and_found (sign_found Equals) (ends_found (λ x. record {
      start = start;
      name = x.0.0.0.1;
      value_type = x.0.1;
    }))))))
    (λ y ts rest h. typed_back h)

call_closes : {A : Type 0} {R : Span → A → List Tok → List Tok → Type 0} {y : A} {ts rest : List Tok} →
    Both (IsTok (mark CloseParen)) R y ts rest → ClosesAll ts
unfolding skip_at
call_closes (both {x = at} {mid = ts} is_tok r) = (record { closing = refl; no_comma = refl }, no_ops_close at ts)

helper_call_back : {y : HelperCall} {ts rest : List Tok} → IsHelperCall y ts rest →
    Both IsName (λ x. Both (IsTok (mark OpenParen)) (λ b. Both (AreListed (IsExpr ANY))
    (λ es. Both (IsTok (mark CloseParen)) (λ c. Done (record { helper = x; arguments = es }))))) y ts rest
helper_call_back (is_helper_call es) = both is_name (both is_tok (both es (both is_tok done)))

helper_call_found : (room : ℕ) → FindsPart Anything IsHelperCall (helper_call_at room)
unfolding helper_call_at
helper_call_found room =
    production_found IsHelperCall
    (and_found name_found (open_then OpenParen room (λ r e. then_found {F = ClosesAll} (arguments_found room r e)
    (λ x a y ts rest q f. call_closes q) (and_found (sign_found CloseParen)
    (ends_found (λ x. record { helper = x.0.0.0.1; arguments = x.0.1 }))))))
    (λ y ts rest h. helper_call_back h)

assign_found : (room : ℕ) (x : Ident) (p : Place) (e : Expr) (equals : Span) (ts us rest : List Tok) →
    Finds (place_at room (inside_at room) x ts) (p, tok (mark Equals) equals ∷ us) → IsEnded e us rest →
    Finds (assign_at room x ts) (assign p e, rest)
unfolding assign_at sign_at
assign_found room x p e equals ts us rest h i =
    finds_then (place_at room (inside_at room) x ts) (λ p. sign_at Equals p.1 >>= λ q. ended_at room q.1 >>= λ e. Ok
    (assign p.0 e.0, e.1)) (p, tok (mark Equals) equals ∷ us) (assign p e, rest) h
    (finds_then (ended_at room us) (λ e. Ok (assign p e.0, e.1)) (e, rest) (assign p e, rest)
    (ended_found room e us rest i tt) (found refl))

named_found : (room : ℕ) (x : Ident) (s : Stmt) (ts rest : List Tok) → Finds (assign_at room x ts) (s, rest) →
    Finds (stmt_at room (name_tok x ∷ ts)) (s, rest)
unfolding stmt_with
named_found room x s ts rest h = h

place_assign : (room : ℕ) (p : Place) (e : Expr) (equals : Span) (ts us rest : List Tok) →
    PlaceFound room p ts (tok (mark Equals) equals ∷ us) → IsEnded e us rest →
    Finds (stmt_at room ts) (assign p e, rest)
place_assign room p e equals ts us rest h i = subst (λ (vs : List Tok). Finds (stmt_at room vs) (assign p e, rest))
    (sym h.parts) (named_found room h.first (assign p e) h.behind rest (assign_found room h.first p e equals h.behind us
    rest h.finds i))

while_found : (room : ℕ) (start before : Span) (e : Expr) (body : Stmts) (close : Span) (ts mid rest : List Tok) →
    Finds (condition_at room (tok (mark OpenParen) before ∷ ts)) (e, mid) →
    Finds (braced_at room mid) ((body, close), rest) →
    Finds (stmt_at room (tok (word keyword.While) start ∷ tok (mark OpenParen) before ∷ ts))
    (while start e body close, rest)
unfolding stmt_with while_with
while_found room start before e body close ts mid rest h g =
    finds_then (condition_at room (tok (mark OpenParen) before ∷ ts)) (λ e. braced_at room e.1 >>= λ b. Ok
    (while start e.0 b.0.0 b.0.1, b.1)) (e, mid) (while start e body close, rest) h
    (finds_then (braced_at room mid) (λ b. Ok (while start e b.0.0 b.0.1, b.1)) ((body, close), rest)
    (while start e body close, rest) g (found refl))

if_found : (room : ℕ) (start before : Span) (e : Expr) (body : Stmts) (close : Span) (other : Otherwise)
    (ts mid next rest : List Tok) → Finds (condition_at room (tok (mark OpenParen) before ∷ ts)) (e, mid) → Finds
    (braced_at room mid) ((body, close), next) → Finds (else_with room (stmts_in room) next) (other, rest) → Finds
    (stmt_at room (tok (word keyword.If) start ∷ tok (mark OpenParen) before ∷ ts))
    (if_then start e body close other, rest)
unfolding stmt_with if_with
if_found room start before e body close other ts mid next rest h g k =
    finds_then (condition_at room (tok (mark OpenParen) before ∷ ts)) (λ e. braced_at room e.1 >>= λ b. else_with room
    (stmts_in room) b.1 >>= λ o. Ok (if_then start e.0 b.0.0 b.0.1 o.0, o.1)) (e, mid)
    (if_then start e body close other, rest) h
    (finds_then (braced_at room mid) (λ b. else_with room (stmts_in room) b.1 >>= λ o. Ok
    (if_then start e b.0.0 b.0.1 o.0, o.1)) ((body, close), next) (if_then start e body close other, rest) g
    (finds_then (else_with room (stmts_in room) next) (λ o. Ok (if_then start e body close o.0, o.1)) (other, rest)
    (if_then start e body close other, rest) k (found refl)))

else_found_at : (room : ℕ) (at : Span) (ss : Stmts) (close : Span) (ts rest : List Tok) →
    Finds (braced_at room ts) ((ss, close), rest) →
    Finds (else_with room (stmts_in room) (tok (word keyword.Else) at ∷ ts)) (else_do ss close, rest)
unfolding choose word_at
else_found_at room at ss close ts rest h = finds_then (braced_at room ts) (λ b. Ok (else_do b.0.0 b.0.1, b.1))
    ((ss, close), rest) (else_do ss close, rest) h (found refl)

braces_found : (room : ℕ) (ss : Stmts) (begin close : Span) (ts rest : List Tok) →
    ((r : ℕ) → Finds (stmts_with (stmt_at r) ts) (ss, tok (mark CloseBrace) close ∷ rest)) →
    Finds (braced_at room (tok (mark OpenBrace) begin ∷ ts)) ((ss, close), rest)
unfolding braced_with open_at stmts_in sign_at
braces_found zero ss begin close ts rest h = deep (suc (length ts)) refl
braces_found (suc room) ss begin close ts rest h = finds_then (stmts_with (stmt_at room) ts)
    (λ ss. sign_at CloseBrace ss.1 >>= λ c. Ok ((ss.0, c.0), c.1)) (ss, tok (mark CloseBrace) close ∷ rest)
    ((ss, close), rest) (h room) (found refl)

owner_back : {y : Owner} {ts rest : List Tok} → IsOwner y ts rest →
    Both (IsTok (word keyword.Where)) (λ w. Both IsName (λ f. Both (IsTok (mark DoubleEquals))
    (λ q. Both IsName (λ x. Done (record { field = f; local = x }))))) y ts rest
owner_back is_owner = both is_tok (both is_name (both is_tok (both is_name done)))

owner_found : FindsPart Anything IsOwner owner_at
unfolding owner_at
owner_found =
    production_found IsOwner
    (and_found (word_found keyword.Where) (and_found name_found (and_found (sign_found DoubleEquals)
    (and_found name_found (ends_found (λ x. record { field = x.0.0.1; local = x.1 }))))))
    (λ y ts rest h. owner_back h)

owner_stops : {o : Owner} {ts rest : List Tok} → IsOwner o ts rest → NoOps ANY ts
owner_stops (is_owner {o} {start} {equals} {rest}) = no_ops_where start
    (name_tok o.field ∷ tok (mark DoubleEquals) equals ∷ name_tok o.local ∷ rest)

owner_begins : {o : Owner} {ts rest : List Tok} → IsOwner o ts rest → IsNext (word keyword.Where) ts
owner_begins is_owner = refl

-- the name and the type of a local
abbrev typed_local : Local → TypedName
typed_local l = record { start = l.start; name = l.name; value_type = l.value_type }

abbrev typed_called : CalledLocal → TypedName
typed_called l = record { start = l.start; name = l.name; value_type = l.value_type }

-- a `let` of a value, by what follows it
valued_found : (room : ℕ) (t : TypedName) (e : Expr) (s : Stmt) (ts us mid rest : List Tok) →
    IsTyped t.start t ts us → IsExpr ANY e us mid → NoOps ANY mid →
    Finds (choose (word keyword.Where) (owned_at (local_with t e)) (plain_at (local_with t e)) mid) (s, rest) →
    Finds (stmt_at room (tok (word keyword.Let) t.start ∷ ts)) (s, rest)
unfolding stmt_with let_at
valued_found room t e s ts us mid rest h i stops f =
    finds_then (typed_at t.start ts) (λ t. choose (word keyword.Call) (called_at room t.0) (valued_at room t.0) t.1)
    (t, us) (s, rest) (typed_found t.start t ts us h tt)
    (choose_right (word keyword.Call) (called_at room t) (valued_at room t) us (s, rest) (expr_starts i).1
    (finds_then (expr_at room us) (λ e. choose (word keyword.Where) (owned_at (local_with t e.0))
    (plain_at (local_with t e.0)) e.1) (e, mid) (s, rest) (any_found i room stops) f))

let_found : (room : ℕ) (l : Local) (semicolon : Span) (ts rest : List Tok) →
    IsLocal l ts (tok (mark Semicolon) semicolon ∷ rest) →
    Finds (stmt_at room (tok (word keyword.Let) l.start ∷ ts)) (let_local l, rest)
unfolding sign_at
let_found room l semicolon _ rest (is_local {mid = mid} t e) =
    let us = tok (mark Semicolon) semicolon ∷ rest in
    valued_found room (typed_local l) l.value (let_local l) _ mid us rest (is_typed t) e
    (no_ops_semicolon semicolon rest) (choose_right (word keyword.Where) (owned_at l) (plain_at l) us
    (let_local l, rest) refl (found refl))

owned_found : (l : Local) (o : Owner) (semicolon : Span) (ts rest : List Tok) →
    IsOwner o ts (tok (mark Semicolon) semicolon ∷ rest) → Finds (owned_at l ts) (let_owned l o, rest)
unfolding sign_at
owned_found l o semicolon ts rest h = finds_then (owner_at ts) (λ o. sign_at Semicolon o.1 >>= λ s. Ok
    (let_owned l o.0, s.1)) (o, tok (mark Semicolon) semicolon ∷ rest) (let_owned l o, rest) (owner_found o ts _ h tt)
    (found refl)

let_owned_found : (room : ℕ) (l : Local) (o : Owner) (semicolon : Span) (ts mid rest : List Tok) → IsLocal l ts mid →
    IsOwner o mid (tok (mark Semicolon) semicolon ∷ rest) →
    Finds (stmt_at room (tok (word keyword.Let) l.start ∷ ts)) (let_owned l o, rest)
let_owned_found room l o semicolon _ mid rest (is_local {mid = us} t e) g =
    valued_found room (typed_local l) l.value (let_owned l o) _ us mid rest (is_typed t) e (owner_stops g)
    (choose_left (word keyword.Where) (owned_at l) (plain_at l) mid (let_owned l o, rest) (owner_begins g)
    (owned_found l o semicolon mid rest g))

let_call_found : (room : ℕ) (l : CalledLocal) (start semicolon : Span) (ts mid rest : List Tok) →
    IsTyped l.start (typed_called l) ts (tok (word keyword.Call) start ∷ mid) →
    IsHelperCall l.call mid (tok (mark Semicolon) semicolon ∷ rest) →
    Finds (stmt_at room (tok (word keyword.Let) l.start ∷ ts)) (let_call l, rest)
unfolding stmt_with let_at word_at sign_at
let_call_found room l start semicolon ts mid rest h g =
    let t = typed_called l in
    let us = tok (word keyword.Call) start ∷ mid in
    finds_then (typed_at l.start ts) (λ t. choose (word keyword.Call) (called_at room t.0) (valued_at room t.0) t.1)
    (t, us) (let_call l, rest) (typed_found l.start t ts us h tt)
    (choose_left (word keyword.Call) (called_at room t) (valued_at room t) us (let_call l, rest) refl
    (finds_then (helper_call_at room mid) (λ c. sign_at Semicolon c.1 >>= λ s. Ok (let_call (called_with t c.0), s.1))
    (l.call, tok (mark Semicolon) semicolon ∷ rest) (let_call l, rest) (helper_call_found room l.call mid _ g tt)
    (found refl)))

var_found : (room : ℕ) (l : Local) (semicolon : Span) (ts rest : List Tok) →
    IsLocal l ts (tok (mark Semicolon) semicolon ∷ rest) →
    Finds (stmt_at room (tok (word keyword.Var) l.start ∷ ts)) (var_local l, rest)
unfolding stmt_with var_at
var_found room l semicolon ts rest (is_local {mid = mid} t e) =
    let n = typed_local l in
    finds_then (typed_at l.start ts) (λ t. ended_at room t.1 >>= λ e. Ok (var_local (local_with t.0 e.0), e.1)) (n, mid)
    (var_local l, rest) (typed_found l.start n ts mid (is_typed t) tt)
    (finds_then (ended_at room mid) (λ e. Ok (var_local (local_with n e.0), e.1)) (l.value, rest) (var_local l, rest)
    (ended_found room l.value mid rest (ended e) tt) (found refl))

call_stmt_found : (room : ℕ) (start : Span) (c : HelperCall) (semicolon : Span) (ts rest : List Tok) →
    IsHelperCall c ts (tok (mark Semicolon) semicolon ∷ rest) →
    Finds (stmt_at room (tok (word keyword.Call) start ∷ ts)) (Stmt.call start c, rest)
unfolding stmt_with call_stmt_at sign_at
call_stmt_found room start c semicolon ts rest h =
    finds_then (helper_call_at room ts) (λ c. sign_at Semicolon c.1 >>= λ s. Ok (Stmt.call start c.0, s.1))
    (c, tok (mark Semicolon) semicolon ∷ rest) (Stmt.call start c, rest) (helper_call_found room c ts _ h tt)
    (found refl)

print_found : (room : ℕ) (start : Span) (e : Expr) (ts rest : List Tok) → IsEnded e ts rest →
    Finds (stmt_at room (tok (word keyword.Print) start ∷ ts)) (print start e, rest)
unfolding stmt_with
print_found room start e ts rest h = finds_then (ended_at room ts) (λ e. Ok (print start e.0, e.1)) (e, rest)
    (print start e, rest) (ended_found room e ts rest h tt) (found refl)

return_found : (room : ℕ) (start : Span) (e : Expr) (ts rest : List Tok) → IsEnded e ts rest →
    Finds (stmt_at room (tok (word keyword.Return) start ∷ ts)) (return_value start e, rest)
unfolding stmt_with
return_found room start e ts rest h = finds_then (ended_at room ts) (λ e. Ok (return_value start e.0, e.1)) (e, rest)
    (return_value start e, rest) (ended_found room e ts rest h tt) (found refl)

place_begins : {p : Place} {ts rest : List Tok} → IsPlace p ts rest →
    NotNext (mark CloseBrace) ts × NotNext (word keyword.Else) ts
place_begins is_lone = (refl, refl)
place_begins (is_element h) = (refl, refl)
place_begins (is_path h) = (refl, refl)

stmt_begins : {s : Stmt} {ts rest : List Tok} → IsStmt s ts rest →
    NotNext (mark CloseBrace) ts × NotNext (word keyword.Else) ts
stmt_begins (is_let h) = (refl, refl)
stmt_begins (is_let_owned h o) = (refl, refl)
stmt_begins (is_let_call t c) = (refl, refl)
stmt_begins (is_var h) = (refl, refl)
stmt_begins (is_assign p h) = place_begins p
stmt_begins (is_if e b o) = (refl, refl)
stmt_begins (is_while e b) = (refl, refl)
stmt_begins (is_print h) = (refl, refl)
stmt_begins (is_return h) = (refl, refl)
stmt_begins (is_call_stmt c) = (refl, refl)

kind_no_else : (k : Lexeme) → same_kind k (mark CloseBrace) ≡ true → same_kind k (word keyword.Else) ≡ false
kind_no_else (mark m) e = refl
kind_no_else (name x) e = refl
kind_no_else (lexeme.int n) e = refl
kind_no_else (word w) e = absurd cc
kind_no_else end e = refl

close_no_else : (ts : List Tok) → IsNext (mark CloseBrace) ts → NotNext (word keyword.Else) ts
close_no_else [] e = refl
close_no_else (t ∷ ts) e = kind_no_else t.kind e

stmts_begin : {ss : Stmts} {ts rest : List Tok} → IsStmts ss ts rest → IsNext (mark CloseBrace) rest →
    NotNext (word keyword.Else) ts
stmts_begin (are_no_stmts {ts = ts}) e = close_no_else ts e
stmts_begin (are_stmts h g) e = (stmt_begins h).1

no_stmts_found : (room : ℕ) (ts : List Tok) → IsNext (mark CloseBrace) ts →
    Finds (stmts_with (stmt_at room) ts) (no_stmts, ts)
unfolding stmts_with
no_stmts_found room ts e = until_none no_stmts stmt (mark CloseBrace) (stmt_at room) (next_stmt_shortens room) ts e

more_stmts_found : (room : ℕ) (s : Stmt) (more : Stmts) (ts mid rest : List Tok) → NotNext (mark CloseBrace) ts →
    Finds (stmt_at room ts) (s, mid) → Finds (stmts_with (stmt_at room) mid) (more, rest) →
    Finds (stmts_with (stmt_at room) ts) (stmt s more, rest)
unfolding stmts_with
more_stmts_found room s more ts mid rest e h g = until_found no_stmts stmt (mark CloseBrace) (stmt_at room)
    (next_stmt_shortens room) s more ts mid rest e h g

mutual
  stmt_found : {s : Stmt} {ts rest : List Tok} → IsStmt s ts rest → (room : ℕ) → NotNext (word keyword.Else) rest →
      Finds (stmt_at room ts) (s, rest)
  stmt_found (is_let {l = l} {semicolon = semicolon} {ts = ts} {rest = rest} h) room follow = let_found room l semicolon
      ts rest h
  stmt_found (is_let_owned {l = l} {o = o} {semicolon = semicolon} {ts = ts} {mid = mid} {rest = rest} h g) room follow
      = let_owned_found room l o semicolon ts mid rest h g
  stmt_found (is_let_call {l = l} {start = start} {semicolon = semicolon} {mid = mid} {rest = rest} t c) room follow =
      let_call_found room l start semicolon _ mid rest (is_typed t) c
  stmt_found (is_var {l = l} {semicolon = semicolon} {ts = ts} {rest = rest} h) room follow = var_found room l semicolon
      ts rest h
  stmt_found (is_assign {p = p} {e = e} {equals = equals} {ts = ts} {mid = mid} {rest = rest} i h) room follow =
      place_assign room p e equals ts mid rest (place_found i room (no_place_equals equals mid)) (ended h)
  stmt_found (is_if {e = e} {body = body} {other = other} {start = start} {before = before} {after = behind}
      {close = close} {ts = ts} {mid = mid} {next = next} {rest = rest} h b o) room follow = if_found room start before
      e body close other ts mid next rest (condition_found room e before behind ts mid h) (braced_found b room)
      (else_found o room follow)
  stmt_found (is_while {e = e} {body = body} {start = start} {before = before} {after = behind} {close = close}
      {ts = ts} {mid = mid} {rest = rest} h b) room follow = while_found room start before e body close ts mid rest
      (condition_found room e before behind ts mid h) (braced_found b room)
  stmt_found (is_print {e = e} {start = start} {ts = ts} {rest = rest} h) room follow = print_found room start e ts rest
      (ended h)
  stmt_found (is_return {e = e} {start = start} {ts = ts} {rest = rest} h) room follow = return_found room start e ts
      rest (ended h)
  stmt_found (is_call_stmt {c = c} {start = start} {semicolon = semicolon} {ts = ts} {rest = rest} h) room follow =
      call_stmt_found room start c semicolon ts rest h

  stmts_found : {ss : Stmts} {ts rest : List Tok} → IsStmts ss ts rest → (room : ℕ) → IsNext (mark CloseBrace) rest →
      Finds (stmts_with (stmt_at room) ts) (ss, rest)
  stmts_found (are_no_stmts {ts = ts}) room follow = no_stmts_found room ts follow
  stmts_found (are_stmts {s = s} {more = more} {ts = ts} {mid = mid} {rest = rest} h g) room follow = more_stmts_found
      room s more ts mid rest (stmt_begins h).0 (stmt_found h room (stmts_begin g follow)) (stmts_found g room follow)

  braced_found : {ss : Stmts} {close : Span} {ts rest : List Tok} → IsBraced ss close ts rest → (room : ℕ) →
      Finds (braced_at room ts) ((ss, close), rest)
  braced_found (is_braced {ss = ss} {begin = begin} {close = close} {ts = ts} {rest = rest} h) room = braces_found room
      ss begin close ts rest (λ r. stmts_found h r refl)

  else_found : {o : Otherwise} {ts rest : List Tok} → IsElse o ts rest → (room : ℕ) →
      NotNext (word keyword.Else) rest → Finds (else_with room (stmts_in room) ts) (o, rest)
  else_found (is_no_else {ts = ts}) room follow = choose_right (word keyword.Else) (some_else room (stmts_in room))
      nothing_else ts (no_else, ts) follow (found refl)
  else_found (is_else {ss = ss} {at = at} {close = close} {ts = ts} {rest = rest} b) room follow = else_found_at room at
      ss close ts rest (braced_found b room)

pub block_found : (room : ℕ) → FindsPart Anything IsBracedPair (braced_at room)
block_found room b ts rest h follow = braced_found h room
