-- Tokens that some text has keep the limits of names and numbers.
use Rattle.std.proofs.Common.{ℕ, ◌≤◌, List, [], ◌∷◌, length}
use Rattle.source.specs.Tokens.{Lexeme, name, int, Tok}
use Rattle.source.specs.Texts as text
use Rattle.source.specs.Texts.{NUMBER_LIMIT, NAME_LIMIT, IsUnit, is_number, is_word, is_mark, IsWithin, AreTokens}
use Rattle.source.specs.Texts.{at_end, token}
use Rattle.syntax.specs.declared.tree.Level.{Level}
use Rattle.source.specs.declared.span.Span.{Span}
use Rattle.source.specs.declared.token.Sign.{Sign}
use Rattle.source.specs.declared.token.Sign.TheVariants.{Colon, Dot, Equals}
use Rattle.std.specs.Prelude.{Option}
use Rattle.syntax.specs.Trees.{Place, Expr, Links, Local, Owner, HelperCall, Stmt, Stmts, Otherwise, Section, Call}
use Rattle.syntax.specs.Trees.{Item, Items, Decl}
use Rattle.syntax.specs.Grammar.{IsOptional, left_out, given, AreMany, no_more, one_more, IsAfter, after, AreListed}
use Rattle.syntax.specs.Grammar.{none_listed, listed, IsName, is_name, IsType, is_int_type, is_ref_type, IsConst}
use Rattle.syntax.specs.Grammar.{is_int_const, is_negative, is_null_const, is_member_const, ANY, IsExpr, is_int}
use Rattle.syntax.specs.Grammar.{is_null, is_place, is_paren, is_prefix, is_chain, is_compare, IsPlace, is_lone}
use Rattle.syntax.specs.Grammar.{is_element, is_path, IsLinks, are_no_links, is_link, IsLocal, is_local, IsOwner}
use Rattle.syntax.specs.Grammar.{is_owner, IsHelperCall, is_helper_call, IsStmt, is_let, is_let_owned, is_let_call}
use Rattle.syntax.specs.Grammar.{is_var, is_assign, is_if, is_while, is_print, is_return, is_call_stmt, IsStmts}
use Rattle.syntax.specs.Grammar.{are_no_stmts, are_stmts, IsBraced, is_braced, IsElse, is_no_else, is_else, is_block}
use Rattle.syntax.specs.Grammar.{IsIndex, is_index, IsProtection, is_protection, is_field, is_final, IsMember}
use Rattle.syntax.specs.Grammar.{is_lock_member, is_final_member, is_field_member, is_struct, is_variable, is_array}
use Rattle.syntax.specs.Grammar.{is_pool, is_init, IsParam, is_param, IsClassName, is_class_name, AreTakenWhole}
use Rattle.syntax.specs.Grammar.{none_taken, taken, IsSection, is_section, IsCall, is_call, IsItem}
use Rattle.syntax.specs.Grammar.{is_call_item, is_repeat, IsItems, are_no_items, are_items, is_thread, IsDecl}
use Rattle.syntax.specs.Grammar.{is_lock, is_struct_decl, is_global, is_array_decl, is_pool_decl, is_init_decl}
use Rattle.syntax.specs.Grammar.{is_atomic, is_helper, is_thread_decl}

abbrev pub GoodKind : Lexeme → Type 0
GoodKind (name x) = IsUnit x (name x) × (length x ≤ NAME_LIMIT)
GoodKind (int n) = n ≤ NUMBER_LIMIT
GoodKind _ = Unit {0}

abbrev pub Good : List Tok → Type 0
Good [] = Unit {0}
Good (t ∷ ts) = GoodKind t.kind × Good ts

good_kind : {bytes : List ℕ} {k : Lexeme} → IsUnit bytes k → IsWithin k → GoodKind k
good_kind (text.is_name letter all none) w = (text.is_name letter all none, w)
good_kind (is_number all) w = w
good_kind (is_word v) w = tt
good_kind (is_mark s) w = tt

pub tokens_good : {total : ℕ} {bytes : List ℕ} {ts : List Tok} → AreTokens total bytes ts → Good ts
tokens_good (at_end g) = (tt, tt)
tokens_good (token n w ts) = (good_kind n.unit w, tokens_good ts)

-- ---- what follows a part is good too

-- a part of this kind, from good tokens on, has good tokens after it
abbrev pub Keeps : {A : Type 0} → (A → List Tok → List Tok → Type 0) → Type 0
Keeps {A} R = (x : A) (ts rest : List Tok) → R x ts rest → Good ts → Good rest

pub many_good : {A : Type 0} {R : A → List Tok → List Tok → Type 0} → Keeps R → {xs : List A} {ts rest : List Tok} →
    AreMany R xs ts rest → Good ts → Good rest
many_good keeps no_more g = g
many_good keeps (one_more r more) g = many_good keeps more (keeps _ _ _ r g)

pub after_good : {A : Type 0} {R : A → List Tok → List Tok → Type 0} → Keeps R →
    {s : Sign} {x : A} {ts rest : List Tok} → IsAfter s R x ts rest → Good ts → Good rest
after_good keeps (after r) g = keeps _ _ _ r g.1

pub listed_good : {A : Type 0} {R : A → List Tok → List Tok → Type 0} → Keeps R → {xs : List A} {ts rest : List Tok} →
    AreListed R xs ts rest → Good ts → Good rest
listed_good keeps none_listed g = g
listed_good keeps (listed r more) g = many_good (λ x ts rest a. after_good keeps a) more (keeps _ _ _ r g)

pub optional_good : {A : Type 0} {R : A → List Tok → List Tok → Type 0} → Keeps R →
    {x : Option A} {ts rest : List Tok} → IsOptional R x ts rest → Good ts → Good rest
optional_good keeps left_out g = g
optional_good keeps (given r) g = keeps _ _ _ r g

pub name_good : Keeps IsName
name_good x ts rest is_name g = g.1

pub type_good : Keeps IsType
type_good x ts rest is_int_type g = g.1
type_good x ts rest is_ref_type g = g.1.1

pub const_good : Keeps IsConst
const_good x ts rest is_int_const g = g.1
const_good x ts rest is_negative g = g.1.1
const_good x ts rest is_null_const g = g.1
const_good x ts rest is_member_const g = g.1.1.1.1

pub dotted_good : Keeps (IsAfter Dot IsName)
dotted_good x ts rest a = after_good name_good a

-- ---- expressions

mutual
  pub expr_good : {n : ℕ} {e : Expr} {ts rest : List Tok} → IsExpr n e ts rest → Good ts → Good rest
  expr_good is_int g = g.1
  expr_good is_null g = g.1
  expr_good (is_place p) g = place_good p g
  expr_good (is_paren e) g = (expr_good e g.1).1
  expr_good (is_prefix u e) g = expr_good e g.1
  expr_good (is_chain r e l) g = links_good l (expr_good e g)
  expr_good (is_compare r e f) g = expr_good f (expr_good e g).1

  pub place_good : {p : Place} {ts rest : List Tok} → IsPlace p ts rest → Good ts → Good rest
  place_good is_lone g = g.1
  place_good (is_element e) g = (expr_good e g.1.1).1
  place_good (is_path fields) g = many_good dotted_good fields g.1.1.1

  pub links_good : {k : Level} {l : Links} {ts rest : List Tok} → IsLinks k l ts rest → Good ts → Good rest
  links_good are_no_links g = g
  links_good (is_link e l) g = links_good l (expr_good e g.1)

-- ---- statements

pub local_good : {l : Local} {ts rest : List Tok} → IsLocal l ts rest → Good ts → Good rest
local_good (is_local t e) g = expr_good e (type_good _ _ _ t g.1.1).1

pub owner_good : {o : Owner} {ts rest : List Tok} → IsOwner o ts rest → Good ts → Good rest
owner_good is_owner g = g.1.1.1.1

pub any_good : Keeps (IsExpr ANY)
any_good x ts rest e g = expr_good e g

helper_call_good : {c : HelperCall} {ts rest : List Tok} → IsHelperCall c ts rest → Good ts → Good rest
helper_call_good (is_helper_call es) g = (listed_good any_good es g.1.1).1

mutual
  pub stmt_good : {s : Stmt} {ts rest : List Tok} → IsStmt s ts rest → Good ts → Good rest
  stmt_good (is_let l) g = (local_good l g.1).1
  stmt_good (is_let_owned l o) g = (owner_good o (local_good l g.1)).1
  stmt_good (is_let_call t c) g = (helper_call_good c (type_good _ _ _ t g.1.1.1).1.1).1
  stmt_good (is_var l) g = (local_good l g.1).1
  stmt_good (is_assign p e) g = (expr_good e (place_good p g).1).1
  stmt_good (is_if e b o) g = else_good o (braced_good b (expr_good e g.1.1).1)
  stmt_good (is_while e b) g = braced_good b (expr_good e g.1.1).1
  stmt_good (is_print e) g = (expr_good e g.1).1
  stmt_good (is_return e) g = (expr_good e g.1).1
  stmt_good (is_call_stmt c) g = (helper_call_good c g.1).1

  pub stmts_good : {ss : Stmts} {ts rest : List Tok} → IsStmts ss ts rest → Good ts → Good rest
  stmts_good are_no_stmts g = g
  stmts_good (are_stmts s ss) g = stmts_good ss (stmt_good s g)

  pub braced_good : {ss : Stmts} {close : Span} {ts rest : List Tok} → IsBraced ss close ts rest → Good ts → Good rest
  braced_good (is_braced ss) g = (stmts_good ss g.1).1

  pub else_good : {o : Otherwise} {ts rest : List Tok} → IsElse o ts rest → Good ts → Good rest
  else_good is_no_else g = g
  else_good (is_else b) g = braced_good b g.1

-- ---- declarations

pub index_good : Keeps IsIndex
index_good x ts rest is_index g = g.1.1.1

pub protection_good : Keeps IsProtection
protection_good x ts rest (is_protection fields) g = (many_good dotted_good fields g.1.1.1).1

pub member_good : Keeps IsMember
member_good x ts rest is_lock_member g = g.1.1.1
member_good x ts rest (is_final_member is_final) g = g.1.1.1.1.1
member_good x ts rest (is_field_member (is_field t p)) g = (optional_good protection_good p (type_good _ _ _ t g).1).1

pub param_good : Keeps IsParam
param_good x ts rest (is_param t) g = (type_good _ _ _ t g).1

pub call_good : {c : Call} {ts rest : List Tok} → IsCall c ts rest → Good ts → Good rest
call_good (is_call cs) g = (listed_good const_good cs g.1.1).1.1

mutual
  pub item_good : {i : Item} {ts rest : List Tok} → IsItem i ts rest → Good ts → Good rest
  item_good (is_call_item c) g = call_good c g
  item_good (is_repeat is) g = (items_good is g.1.1.1).1

  pub items_good : {is : Items} {ts rest : List Tok} → IsItems is ts rest → Good ts → Good rest
  items_good are_no_items g = g
  items_good (are_items i is) g = items_good is (item_good i g)

pub result_good : Keeps (IsAfter Colon IsType)
result_good x ts rest a = after_good type_good a

pub value_good : Keeps (IsAfter Equals IsConst)
value_good x ts rest a = after_good const_good a

pub class_good : Keeps IsClassName
class_good x ts rest is_class_name g = g.1.1.1

pub whole_good : Keeps AreTakenWhole
whole_good x ts rest none_taken g = g
whole_good x ts rest (taken c cs) g = (many_good (λ x ts rest a. after_good class_good a) cs (class_good _ _ _ c g.1.1)).1

section_good : {s : Section} {ts rest : List Tok} → IsSection s ts rest → Good ts → Good rest
section_good (is_section ps r cs (is_block b)) g = braced_good b (whole_good _ _ _ cs (optional_good result_good r (listed_good param_good ps g.1.1).1))

pub decl_good : {d : Decl} {ts rest : List Tok} → IsDecl d ts rest → Good ts → Good rest
decl_good is_lock g = g.1.1.1
decl_good (is_struct_decl (is_struct ms)) g = (many_good member_good ms g.1.1.1).1
decl_good (is_global (is_variable t p v)) g = (optional_good value_good v (optional_good protection_good p (type_good _ _ _ t g.1).1)).1
decl_good (is_array_decl (is_array t n p)) g = (optional_good protection_good p (index_good _ _ _ n (type_good _ _ _ t g.1).1)).1
decl_good (is_pool_decl (is_pool n)) g = (index_good _ _ _ n g.1.1.1).1
decl_good (is_init_decl (is_init n c)) g = (const_good _ _ _ c (index_good _ _ _ n g.1.1).1.1.1).1
decl_good (is_atomic s) g = section_good s g.1
decl_good (is_helper none s) g = section_good s g.1
decl_good (is_thread_decl (is_thread is)) g = (items_good is g.1.1.1).1
