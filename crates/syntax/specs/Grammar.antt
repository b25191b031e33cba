-- The grammar: which tokens spell which tree. Each relation is between a part of a tree, the tokens from its first one
-- on, and the tokens after it.
use Rattle.std.specs.Prelude.{◌≡◌, ℕ, zero, suc, ◌<◌, ◌≤◌, List, [], ◌∷◌, ◌++◌, Option, Some, None}
use Rattle.source.specs.declared.span.Span.{Span}
use Rattle.source.specs.declared.token.Keyword.TheVariants as keyword
use Rattle.source.specs.declared.token.Sign.{Sign}
use Rattle.source.specs.declared.token.Sign.TheVariants as sign
use Rattle.source.specs.declared.token.Sign.TheVariants.{OpenBrace, CloseBrace, OpenParen, CloseParen, OpenBracket}
use Rattle.source.specs.declared.token.Sign.TheVariants.{CloseBracket, Semicolon, Comma, Colon, Dot, Equals}
use Rattle.source.specs.declared.token.Sign.TheVariants.{DoubleEquals, NotEquals, LessEquals, GreaterEquals, Plus}
use Rattle.source.specs.declared.token.Sign.TheVariants.{Minus, Star, Slash, Percent}
use Rattle.source.specs.Tokens.{Lexeme, name, word, mark, end, Tok}
use Rattle.source.specs.Tokens as lexeme
use Rattle.syntax.specs.declared.tree.Operator.{Operator}
use Rattle.syntax.specs.declared.tree.Operator.TheVariants.{Add, Sub, Mul, Div, Rem, And, Or}
use Rattle.syntax.specs.declared.tree.Level.{Level}
use Rattle.syntax.specs.declared.tree.Level.TheVariants.{Term, Sum, Conjunction, Disjunction}
use Rattle.syntax.specs.declared.tree.Prefix.{Prefix}
use Rattle.syntax.specs.declared.tree.Prefix.TheVariants.{Negate, Not}
use Rattle.syntax.specs.declared.tree.Comparison.{Comparison}
use Rattle.syntax.specs.declared.tree.Comparison.TheVariants.{Equal, NotEqual, Less, LessOrEqual, Greater}
use Rattle.syntax.specs.declared.tree.Comparison.TheVariants.{GreaterOrEqual}
use Rattle.source.specs.declared.token.Number.{Number}
use Rattle.syntax.specs.Trees.{Ident, ValueType, int_type, ref_type, Const, int_const, negative, null_const}
use Rattle.syntax.specs.Trees.{member_const, Place, lone, element, path, Expr, int, null, place, paren, prefix, chain}
use Rattle.syntax.specs.Trees.{compare, Links, no_links, link, Local, Owner, HelperCall, CalledLocal, Stmt, let_local}
use Rattle.syntax.specs.Trees.{let_owned, let_call, var_local, assign, if_then, while, print, return_value, Stmts}
use Rattle.syntax.specs.Trees.{no_stmts, stmt, Otherwise, no_else, else_do, Block, Protection, Variable, Array, Final}
use Rattle.syntax.specs.Trees.{Field, Member, lock_member, final_member, field_member, Struct, Pool, Init, Param}
use Rattle.syntax.specs.Trees.{ClassName, Section, Call, Item, repeat, Items, no_items, item, Thread, Decl, lock}
use Rattle.syntax.specs.Trees.{struct, global, array, pool, init, atomic, helper, thread}
pub use Rattle.source.specs.Limits.{NESTING_LIMIT}

-- the token of this kind at this position
abbrev pub tok : Lexeme → Span → Tok
tok k at = record { kind = k; span = at }

-- a name as a token
abbrev pub name_tok : Ident → Tok
name_tok n = tok (name n.text) n.span

-- a number as a token
abbrev pub int_tok : Number → Tok
int_tok n = tok (lexeme.int n.value) n.span

-- ---- parts that may be left out, and lists

-- the part, or nothing
pub data IsOptional {A : Type 0} (R : A → List Tok → List Tok → Type 0) : Option A → List Tok → List Tok → Type 0 where
  left_out : {ts : List Tok} → IsOptional R None ts ts
  given : {x : A} {ts rest : List Tok} → R x ts rest → IsOptional R (Some x) ts rest

-- any number of parts, one after the other
pub data AreMany {A : Type 0} (R : A → List Tok → List Tok → Type 0) : List A → List Tok → List Tok → Type 0 where
  no_more : {ts : List Tok} → AreMany R [] ts ts
  one_more : {x : A} {xs : List A} {ts mid rest : List Tok} → R x ts mid → AreMany R xs mid rest →
      AreMany R (x ∷ xs) ts rest

-- a part after a sign
pub data IsAfter {A : Type 0} (s : Sign) (R : A → List Tok → List Tok → Type 0) : A → List Tok → List Tok → Type 0 where
  after : {x : A} {at : Span} {ts rest : List Tok} → R x ts rest → IsAfter s R x (tok (mark s) at ∷ ts) rest

-- any number of parts, with commas between them
pub data AreListed {A : Type 0} (R : A → List Tok → List Tok → Type 0) : List A → List Tok → List Tok → Type 0 where
  none_listed : {ts : List Tok} → AreListed R [] ts ts
  listed : {x : A} {xs : List A} {ts mid rest : List Tok} → R x ts mid → AreMany (IsAfter Comma R) xs mid rest →
      AreListed R (x ∷ xs) ts rest

-- ---- names, types, constants

-- one token, the name
pub data IsName : Ident → List Tok → List Tok → Type 0 where
  is_name : {x : Ident} {ts : List Tok} → IsName x (name_tok x ∷ ts) ts

-- `int`, or `ref` and the name of a struct
pub data IsType : ValueType → List Tok → List Tok → Type 0 where
  is_int_type : {at : Span} {ts : List Tok} → IsType int_type (tok (word keyword.Int) at ∷ ts) ts
  is_ref_type : {target : Ident} {at : Span} {ts : List Tok} →
      IsType (ref_type target) (tok (word keyword.Ref) at ∷ name_tok target ∷ ts) ts

-- a constant: `7`, `-7`, `null` or `p[3]`
pub data IsConst : Const → List Tok → List Tok → Type 0 where
  is_int_const : {n : Number} {ts : List Tok} → IsConst (int_const n) (int_tok n ∷ ts) ts
  is_negative : {n : Number} {sign : Span} {ts : List Tok} →
      IsConst (negative sign n) (tok (mark Minus) sign ∷ int_tok n ∷ ts) ts
  is_null_const : {at : Span} {ts : List Tok} → IsConst (null_const at) (tok (word keyword.Null) at ∷ ts) ts
  is_member_const : {x : Ident} {n : Number} {begin close : Span} {ts : List Tok}
      → IsConst (member_const x n) (name_tok x ∷ tok (mark OpenBracket) begin ∷ int_tok n ∷ tok (mark CloseBracket) close ∷ ts) ts

-- ---- expressions

-- the sign of an operator
abbrev pub sign_of : Operator → Sign
sign_of Add = Plus
sign_of Sub = Minus
sign_of Mul = Star
sign_of Div = Slash
sign_of Rem = Percent
sign_of And = sign.And
sign_of Or = sign.Or

-- the precedence level of an operator
abbrev pub level_of : Operator → Level
level_of Add = Sum
level_of Sub = Sum
level_of Mul = Term
level_of Div = Term
level_of Rem = Term
level_of And = Conjunction
level_of Or = Disjunction

-- the sign of an operator before its operand
abbrev pub prefix_sign : Prefix → Sign
prefix_sign Negate = Minus
prefix_sign Not = sign.Not

-- the sign of a comparison
abbrev pub comparison_sign : Comparison → Sign
comparison_sign Equal = DoubleEquals
comparison_sign NotEqual = NotEquals
comparison_sign Less = sign.Less
comparison_sign LessOrEqual = LessEquals
comparison_sign Greater = sign.Greater
comparison_sign GreaterOrEqual = GreaterEquals

-- the ranks of expressions, by how loosely they bind. The tightest: a number, `null`, a place, or an expression in
-- parentheses
abbrev pub PRIM : ℕ
PRIM = 0

-- the rank of an operand with prefix operators or without
abbrev pub UNARY : ℕ
UNARY = 1

-- the rank of a chain by its level: its operands bind tighter
abbrev pub rank : Level → ℕ
rank Term = 2
rank Sum = 3
rank Conjunction = 5
rank Disjunction = 6

-- the rank of the operands of a chain, by its level
abbrev pub below : Level → ℕ
below Term = 1
below Sum = 2
below Conjunction = 4
below Disjunction = 5

-- the rank of two sums with a comparison between them
abbrev pub COMPARED : ℕ
COMPARED = 4

-- the rank of a sum
abbrev pub SUM : ℕ
SUM = 3

-- any expression
abbrev pub ANY : ℕ
ANY = 6

mutual
  -- an expression of at most this rank
  pub data IsExpr : ℕ → Expr → List Tok → List Tok → Type 0 where
    is_int : {n : ℕ} {v : Number} {ts : List Tok} → IsExpr n (int v) (int_tok v ∷ ts) ts
    is_null : {n : ℕ} {at : Span} {ts : List Tok} → IsExpr n (null at) (tok (word keyword.Null) at ∷ ts) ts
    is_place : {n : ℕ} {p : Place} {ts rest : List Tok} → IsPlace p ts rest → IsExpr n (place p) ts rest
    is_paren : {n : ℕ} {e : Expr} {at close : Span} {ts rest : List Tok}
        → IsExpr ANY e ts (tok (mark CloseParen) close ∷ rest)
        → IsExpr n (paren at e) (tok (mark OpenParen) at ∷ ts) rest
    is_prefix : {n : ℕ} {op : Prefix} {e : Expr} {at : Span} {ts rest : List Tok}
        → UNARY ≤ n → IsExpr PRIM e ts rest
        → IsExpr n (prefix op at e) (tok (mark (prefix_sign op)) at ∷ ts) rest
    is_chain : {n : ℕ} {k : Level} {first x : Expr} {op : Operator} {more : Links} {ts mid rest : List Tok}
        → rank k ≤ n → IsExpr (below k) first ts mid → IsLinks k (link op x more) mid rest
        → IsExpr n (chain k first (link op x more)) ts rest
    is_compare : {n : ℕ} {c : Comparison} {left right : Expr} {at : Span} {ts mid rest : List Tok}
        → COMPARED ≤ n → IsExpr SUM left ts (tok (mark (comparison_sign c)) at ∷ mid) → IsExpr SUM right mid rest
        → IsExpr n (compare left c right) ts rest

  -- a lone name, an element, or a path
  pub data IsPlace : Place → List Tok → List Tok → Type 0 where
    is_lone : {x : Ident} {ts : List Tok} → IsPlace (lone x) (name_tok x ∷ ts) ts
    is_element : {x : Ident} {e : Expr} {begin close : Span} {ts rest : List Tok}
        → IsExpr ANY e ts (tok (mark CloseBracket) close ∷ rest)
        → IsPlace (element x e) (name_tok x ∷ tok (mark OpenBracket) begin ∷ ts) rest
    is_path : {x first : Ident} {fields : List Ident} {dot : Span} {ts rest : List Tok}
        → AreMany (IsAfter Dot IsName) fields ts rest
        → IsPlace (path x (first ∷ fields)) (name_tok x ∷ tok (mark Dot) dot ∷ name_tok first ∷ ts) rest

  -- the operators of a level, each with its operand
  pub data IsLinks : Level → Links → List Tok → List Tok → Type 0 where
    are_no_links : {k : Level} {ts : List Tok} → IsLinks k no_links ts ts
    is_link : {op : Operator} {x : Expr} {more : Links} {at : Span} {ts mid rest : List Tok}
        → IsExpr (below (level_of op)) x ts mid → IsLinks (level_of op) more mid rest
        → IsLinks (level_of op) (link op x more) (tok (mark (sign_of op)) at ∷ ts) rest

-- ---- statements

-- `let` and `var`, after their first word, up to the end of the value
pub data IsLocal : Local → List Tok → List Tok → Type 0 where
  is_local : {l : Local} {colon equals : Span} {ts mid rest : List Tok}
      → IsType l.value_type ts (tok (mark Equals) equals ∷ mid)
      → IsExpr ANY l.value mid rest
      → IsLocal l (name_tok l.name ∷ tok (mark Colon) colon ∷ ts) rest

-- `where` and the final reference that has to equal the named local
pub data IsOwner : Owner → List Tok → List Tok → Type 0 where
  is_owner : {o : Owner} {start equals : Span} {rest : List Tok}
      → IsOwner o (tok (word keyword.Where) start ∷ name_tok o.field ∷ tok (mark DoubleEquals) equals ∷ name_tok o.local ∷ rest) rest

-- a call of a helper, after the word `call`
pub data IsHelperCall : HelperCall → List Tok → List Tok → Type 0 where
  is_helper_call : {c : HelperCall} {before after : Span} {ts rest : List Tok}
      → AreListed (IsExpr ANY) c.arguments ts (tok (mark CloseParen) after ∷ rest)
      → IsHelperCall c (name_tok c.helper ∷ tok (mark OpenParen) before ∷ ts) rest

mutual
  -- a statement, with its semicolon if it has one
  pub data IsStmt : Stmt → List Tok → List Tok → Type 0 where
    is_let : {l : Local} {semicolon : Span} {ts rest : List Tok}
        → IsLocal l ts (tok (mark Semicolon) semicolon ∷ rest)
        → IsStmt (let_local l) (tok (word keyword.Let) l.start ∷ ts) rest
    is_let_owned : {l : Local} {o : Owner} {semicolon : Span} {ts mid rest : List Tok}
        → IsLocal l ts mid
        → IsOwner o mid (tok (mark Semicolon) semicolon ∷ rest)
        → IsStmt (let_owned l o) (tok (word keyword.Let) l.start ∷ ts) rest
    is_let_call : {l : CalledLocal} {colon equals start semicolon : Span} {ts mid rest : List Tok}
        → IsType l.value_type ts (tok (mark Equals) equals ∷ tok (word keyword.Call) start ∷ mid)
        → IsHelperCall l.call mid (tok (mark Semicolon) semicolon ∷ rest)
        → IsStmt (let_call l) (tok (word keyword.Let) l.start ∷ name_tok l.name ∷ tok (mark Colon) colon ∷ ts) rest
    is_var : {l : Local} {semicolon : Span} {ts rest : List Tok}
        → IsLocal l ts (tok (mark Semicolon) semicolon ∷ rest)
        → IsStmt (var_local l) (tok (word keyword.Var) l.start ∷ ts) rest
    is_assign : {p : Place} {e : Expr} {equals semicolon : Span} {ts mid rest : List Tok}
        → IsPlace p ts (tok (mark Equals) equals ∷ mid)
        → IsExpr ANY e mid (tok (mark Semicolon) semicolon ∷ rest)
        → IsStmt (assign p e) ts rest
    is_if : {e : Expr} {body : Stmts} {other : Otherwise} {start before after close : Span} {ts mid next rest : List Tok}
        → IsExpr ANY e ts (tok (mark CloseParen) after ∷ mid)
        → IsBraced body close mid next
        → IsElse other next rest
        → IsStmt (if_then start e body close other) (tok (word keyword.If) start ∷ tok (mark OpenParen) before ∷ ts) rest
    is_while : {e : Expr} {body : Stmts} {start before after close : Span} {ts mid rest : List Tok}
        → IsExpr ANY e ts (tok (mark CloseParen) after ∷ mid)
        → IsBraced body close mid rest
        → IsStmt (while start e body close) (tok (word keyword.While) start ∷ tok (mark OpenParen) before ∷ ts) rest
    is_print : {e : Expr} {start semicolon : Span} {ts rest : List Tok}
        → IsExpr ANY e ts (tok (mark Semicolon) semicolon ∷ rest)
        → IsStmt (print start e) (tok (word keyword.Print) start ∷ ts) rest
    is_return : {e : Expr} {start semicolon : Span} {ts rest : List Tok}
        → IsExpr ANY e ts (tok (mark Semicolon) semicolon ∷ rest)
        → IsStmt (return_value start e) (tok (word keyword.Return) start ∷ ts) rest
    is_call_stmt : {c : HelperCall} {start semicolon : Span} {ts rest : List Tok}
        → IsHelperCall c ts (tok (mark Semicolon) semicolon ∷ rest)
        → IsStmt (Stmt.call start c) (tok (word keyword.Call) start ∷ ts) rest

  -- statements, one after another
  pub data IsStmts : Stmts → List Tok → List Tok → Type 0 where
    are_no_stmts : {ts : List Tok} → IsStmts no_stmts ts ts
    are_stmts : {s : Stmt} {more : Stmts} {ts mid rest : List Tok}
        → IsStmt s ts mid → IsStmts more mid rest → IsStmts (stmt s more) ts rest

  -- statements in braces; the span is that of the closing brace
  pub data IsBraced : Stmts → Span → List Tok → List Tok → Type 0 where
    is_braced : {ss : Stmts} {begin close : Span} {ts rest : List Tok}
        → IsStmts ss ts (tok (mark CloseBrace) close ∷ rest)
        → IsBraced ss close (tok (mark OpenBrace) begin ∷ ts) rest

  -- nothing, or `else` and a block
  pub data IsElse : Otherwise → List Tok → List Tok → Type 0 where
    is_no_else : {ts : List Tok} → IsElse no_else ts ts
    is_else : {ss : Stmts} {at close : Span} {ts rest : List Tok}
        → IsBraced ss close ts rest
        → IsElse (else_do ss close) (tok (word keyword.Else) at ∷ ts) rest

-- the body of a section or a helper
pub data IsBlock : Block → List Tok → List Tok → Type 0 where
  is_block : {b : Block} {ts rest : List Tok} → IsBraced b.stmts b.close ts rest → IsBlock b ts rest

-- ---- declarations

-- a number in brackets: the length of an array or a pool, or the index of a member
pub data IsIndex : Number → List Tok → List Tok → Type 0 where
  is_index : {n : Number} {begin close : Span} {ts : List Tok}
      → IsIndex n (tok (mark OpenBracket) begin ∷ int_tok n ∷ tok (mark CloseBracket) close ∷ ts) ts

-- `protected_by(a.b.c)`
pub data IsProtection : Protection → List Tok → List Tok → Type 0 where
  is_protection : {p : Protection} {start begin close : Span} {ts rest : List Tok}
      → AreMany (IsAfter Dot IsName) p.rest ts (tok (mark CloseParen) close ∷ rest)
      → IsProtection p (tok (word keyword.ProtectedBy) start ∷ tok (mark OpenParen) begin ∷ name_tok p.first ∷ ts) rest

-- a global variable, after the word `global`
pub data IsVariable : Variable → List Tok → List Tok → Type 0 where
  is_variable : {v : Variable} {semicolon : Span} {ts1 ts2 ts3 rest : List Tok}
      → IsType v.value_type ts1 (name_tok v.name ∷ ts2)
      → IsOptional IsProtection v.protection ts2 ts3
      → IsOptional (IsAfter Equals IsConst) v.value ts3 (tok (mark Semicolon) semicolon ∷ rest)
      → IsVariable v ts1 rest

-- a global array, after the word `global`
pub data IsArray : Array → List Tok → List Tok → Type 0 where
  is_array : {a : Array} {semicolon : Span} {ts1 ts2 ts3 rest : List Tok}
      → IsType a.value_type ts1 (name_tok a.name ∷ ts2)
      → IsIndex a.length ts2 ts3
      → IsOptional IsProtection a.protection ts3 (tok (mark Semicolon) semicolon ∷ rest)
      → IsArray a ts1 rest

-- a final reference, after the word `final`
pub data IsFinal : Final → List Tok → List Tok → Type 0 where
  is_final : {f : Final} {ref semicolon : Span} {rest : List Tok}
      → IsFinal f (tok (word keyword.Ref) ref ∷ name_tok f.target ∷ name_tok f.name ∷ tok (mark Semicolon) semicolon ∷ rest) rest

-- a field that can change
pub data IsField : Field → List Tok → List Tok → Type 0 where
  is_field : {f : Field} {semicolon : Span} {ts1 ts2 rest : List Tok}
      → IsType f.value_type ts1 (name_tok f.name ∷ ts2)
      → IsOptional IsProtection f.protection ts2 (tok (mark Semicolon) semicolon ∷ rest)
      → IsField f ts1 rest

-- a member of a struct: a lock, a final reference or a field
pub data IsMember : Member → List Tok → List Tok → Type 0 where
  is_lock_member : {x : Ident} {start semicolon : Span} {rest : List Tok}
      → IsMember (lock_member x) (tok (word keyword.Lock) start ∷ name_tok x ∷ tok (mark Semicolon) semicolon ∷ rest) rest
  is_final_member : {f : Final} {start : Span} {ts rest : List Tok} → IsFinal f ts rest →
      IsMember (final_member f) (tok (word keyword.Final) start ∷ ts) rest
  is_field_member : {f : Field} {ts rest : List Tok} → IsField f ts rest → IsMember (field_member f) ts rest

-- a struct, after its first word
pub data IsStruct : Struct → List Tok → List Tok → Type 0 where
  is_struct : {s : Struct} {begin close : Span} {ts rest : List Tok}
      → AreMany IsMember s.members ts (tok (mark CloseBrace) close ∷ rest)
      → IsStruct s (name_tok s.name ∷ tok (mark OpenBrace) begin ∷ ts) rest

-- a pool, after its first word
pub data IsPool : Pool → List Tok → List Tok → Type 0 where
  is_pool : {p : Pool} {semicolon : Span} {ts rest : List Tok}
      → IsIndex p.length ts (tok (mark Semicolon) semicolon ∷ rest)
      → IsPool p (name_tok p.target ∷ name_tok p.name ∷ ts) rest

-- an initial value, after the word `init`
pub data IsInit : Init → List Tok → List Tok → Type 0 where
  is_init : {i : Init} {dot equals semicolon : Span} {ts1 ts2 rest : List Tok}
      → IsIndex i.index ts1 (tok (mark Dot) dot ∷ name_tok i.field ∷ tok (mark Equals) equals ∷ ts2)
      → IsConst i.value ts2 (tok (mark Semicolon) semicolon ∷ rest)
      → IsInit i (name_tok i.pool ∷ ts1) rest

-- a parameter: its type and its name
pub data IsParam : Param → List Tok → List Tok → Type 0 where
  is_param : {p : Param} {ts rest : List Tok} → IsType p.value_type ts (name_tok p.name ∷ rest) → IsParam p ts rest

-- a lock class: the name of its struct, a dot and the name of the struct's lock
pub data IsClassName : ClassName → List Tok → List Tok → Type 0 where
  is_class_name : {c : ClassName} {dot : Span} {ts : List Tok} →
      IsClassName c (name_tok c.structure ∷ tok (mark Dot) dot ∷ name_tok c.lock ∷ ts) ts

-- the lock classes that a section takes whole: nothing, or `lock` and one or more classes in parentheses
pub data AreTakenWhole : List ClassName → List Tok → List Tok → Type 0 where
  none_taken : {ts : List Tok} → AreTakenWhole [] ts ts
  taken : {c : ClassName} {cs : List ClassName} {start before after : Span} {ts mid rest : List Tok}
      → IsClassName c ts mid
      → AreMany (IsAfter Comma IsClassName) cs mid (tok (mark CloseParen) after ∷ rest)
      → AreTakenWhole (c ∷ cs) (tok (word keyword.Lock) start ∷ tok (mark OpenParen) before ∷ ts) rest

-- a section, after its first word
pub data IsSection : Section → List Tok → List Tok → Type 0 where
  is_section : {s : Section} {before after : Span} {ts1 ts2 ts3 ts4 rest : List Tok}
      → AreListed IsParam s.params ts1 (tok (mark CloseParen) after ∷ ts2)
      → IsOptional (IsAfter Colon IsType) s.result ts2 ts3
      → AreTakenWhole s.listed ts3 ts4
      → IsBlock s.body ts4 rest
      → IsSection s (name_tok s.name ∷ tok (mark OpenParen) before ∷ ts1) rest

-- a call in a thread: the section, its constants and a semicolon
pub data IsCall : Call → List Tok → List Tok → Type 0 where
  is_call : {c : Call} {before after semicolon : Span} {ts rest : List Tok}
      → AreListed IsConst c.arguments ts (tok (mark CloseParen) after ∷ tok (mark Semicolon) semicolon ∷ rest)
      → IsCall c (name_tok c.section ∷ tok (mark OpenParen) before ∷ ts) rest

mutual
  -- a call, or `repeat` with a number and items in braces
  pub data IsItem : Item → List Tok → List Tok → Type 0 where
    is_call_item : {c : Call} {ts rest : List Tok} → IsCall c ts rest → IsItem (Item.call c) ts rest
    is_repeat : {n : Number} {is : Items} {start begin close : Span} {ts rest : List Tok}
        → IsItems is ts (tok (mark CloseBrace) close ∷ rest)
        → IsItem (repeat n is) (tok (word keyword.Repeat) start ∷ int_tok n ∷ tok (mark OpenBrace) begin ∷ ts) rest

  -- items, one after another
  pub data IsItems : Items → List Tok → List Tok → Type 0 where
    are_no_items : {ts : List Tok} → IsItems no_items ts ts
    are_items : {i : Item} {more : Items} {ts mid rest : List Tok}
        → IsItem i ts mid → IsItems more mid rest → IsItems (item i more) ts rest

-- a thread, after its first word
pub data IsThread : Thread → List Tok → List Tok → Type 0 where
  is_thread : {t : Thread} {begin close : Span} {ts rest : List Tok}
      → IsItems t.items ts (tok (mark CloseBrace) close ∷ rest)
      → IsThread t (name_tok t.name ∷ tok (mark OpenBrace) begin ∷ ts) rest

-- a declaration
pub data IsDecl : Decl → List Tok → List Tok → Type 0 where
  is_lock : {x : Ident} {start semicolon : Span} {rest : List Tok}
      → IsDecl (lock x) (tok (word keyword.Lock) start ∷ name_tok x ∷ tok (mark Semicolon) semicolon ∷ rest) rest
  is_struct_decl : {s : Struct} {start : Span} {ts rest : List Tok} → IsStruct s ts rest →
      IsDecl (struct s) (tok (word keyword.Struct) start ∷ ts) rest
  is_global : {v : Variable} {start : Span} {ts rest : List Tok} → IsVariable v ts rest →
      IsDecl (global v) (tok (word keyword.Global) start ∷ ts) rest
  is_array_decl : {a : Array} {start : Span} {ts rest : List Tok} → IsArray a ts rest →
      IsDecl (array a) (tok (word keyword.Global) start ∷ ts) rest
  is_pool_decl : {p : Pool} {start : Span} {ts rest : List Tok} → IsPool p ts rest →
      IsDecl (pool p) (tok (word keyword.Pool) start ∷ ts) rest
  is_init_decl : {i : Init} {ts rest : List Tok} → IsInit i ts rest →
      IsDecl (init i) (tok (word keyword.Init) i.start ∷ ts) rest
  is_atomic : {s : Section} {start : Span} {ts rest : List Tok} → IsSection s ts rest →
      IsDecl (atomic s) (tok (word keyword.Atomic) start ∷ ts) rest
  is_helper : {s : Section} {start : Span} {ts rest : List Tok} → s.listed ≡ [] → IsSection s ts rest →
      IsDecl (helper s) (tok (word keyword.Call) start ∷ ts) rest
  is_thread_decl : {t : Thread} {start : Span} {ts rest : List Tok} → IsThread t ts rest →
      IsDecl (thread t) (tok (word keyword.Thread) start ∷ ts) rest

-- the tokens are those of the program, whatever its nesting: declarations, and the end of the text
pub data Spells : List Decl → List Tok → Type 0 where
  spells : {ds : List Decl} {at : Span} {ts : List Tok} → AreMany IsDecl ds ts (tok end at ∷ []) → Spells ds ts

-- ---- nesting

-- the predecessor, and 0 of 0
abbrev pub one_less : ℕ → ℕ
one_less zero = zero
one_less (suc n) = n

-- the number of opening signs that are open after a token, if n were open before it
abbrev pub open_after : ℕ → Lexeme → ℕ
open_after n (mark OpenBrace) = suc n
open_after n (mark OpenParen) = suc n
open_after n (mark OpenBracket) = suc n
open_after n (mark CloseBrace) = one_less n
open_after n (mark CloseParen) = one_less n
open_after n (mark CloseBracket) = one_less n
open_after n _ = n

-- the number of opening signs that are open after several tokens, if n were open before them
abbrev pub nesting : ℕ → List Tok → ℕ
nesting n [] = n
nesting n (t ∷ ts) = nesting (open_after n t.kind) ts

-- the sign opens a brace, a parenthesis or a bracket
abbrev pub IsOpening : Lexeme → Type 0
IsOpening (mark OpenBrace) = Unit {0}
IsOpening (mark OpenParen) = Unit {0}
IsOpening (mark OpenBracket) = Unit {0}
IsOpening _ = ⊥

-- each opening sign is nested less deep than the limit
abbrev pub IsShallow : List Tok → Type 0
IsShallow ts = (before after : List Tok) (t : Tok) → ts ≡ before ++ t ∷ after → IsOpening t.kind → nesting 0 before < NESTING_LIMIT

-- the tokens have this tree
abbrev pub HasTree : List Tok → List Decl → Type 0
HasTree ts ds = Spells ds ts × IsShallow ts
