-- Where expressions, names, types and constants stand in a program.
use Rattle.std.specs.Prelude.{◌≡◌, ℕ, List, ◌∷◌, ◌++◌, length, slice_get, Option, Some, None}
use Rattle.source.specs.declared.span.Span.{Span}
use Rattle.source.specs.declared.token.Number.{Number}
use Rattle.syntax.specs.declared.tree.Operator.{Operator}
use Rattle.syntax.specs.declared.tree.Level.{Level}
use Rattle.syntax.specs.declared.tree.Level.TheVariants.{Term, Sum, Conjunction, Disjunction}
use Rattle.syntax.specs.declared.tree.Prefix.{Prefix}
use Rattle.syntax.specs.declared.tree.Prefix.TheVariants.{Negate, Not}
use Rattle.syntax.specs.declared.tree.Comparison as written
use Rattle.syntax.specs.declared.tree.Comparison.TheVariants as sign
use Rattle.syntax.specs.Trees.{Ident, ValueType, ref_type, Const, Place, element, Expr, place, paren, prefix, chain}
use Rattle.syntax.specs.Trees.{compare, Links, link, Local, Owner, HelperCall, CalledLocal, Stmt, let_local}
use Rattle.syntax.specs.Trees.{let_owned, let_call, var_local, assign, if_then, while, print, return_value, Stmts}
use Rattle.syntax.specs.Trees.{stmt, Otherwise, else_do, Protection, Final, Field, Member, final_member, field_member}
use Rattle.syntax.specs.Trees.{Struct, Variable, Array, Pool, Init, Param, ClassName, Section, Call, Item, call}
use Rattle.syntax.specs.Trees.{repeat, Items, item, Thread, Decl, struct, global, array, pool, init, atomic, helper}
use Rattle.syntax.specs.Trees.{thread}
use Rattle.core_lang.specs.declared.value.ValueType as core_type
use Rattle.core_lang.specs.declared.value.ValueType.TheVariants.{Integer, Reference}
use Rattle.resolution.specs.declared.wanted.Want.{Want}
use Rattle.resolution.specs.declared.wanted.Want.TheVariants.{Anything, Condition, Value}
use Rattle.resolution.specs.declared.body_limits.BodyLimits.{BodyLimits}
use Rattle.resolution.specs.Limits.{section_limits, helper_limits}
use Rattle.resolution.specs.Core as core
use Rattle.resolution.specs.Scopes.{Scope, outside, meaning, helper_meant, the_decl, the_struct, type_of, entered, left}
use Rattle.resolution.specs.Expressions.{want}
use Rattle.resolution.specs.Statements.{after, after_all}
use Rattle.resolution.specs.Typing.{Assigns}
use Rattle.resolution.specs.Constants.{want_of, initialised, member_want}
use Rattle.resolution.specs.Statements.{ahead_of, entry}

-- the item is one of the list
pub data Has {A : Type 0} : List A → A → Type 0 where
  first : {x : A} {xs : List A} → Has (x ∷ xs) x
  further : {x y : A} {xs : List A} → Has xs x → Has (y ∷ xs) x

-- ---- expressions

-- what is expected of the operands of a chain
abbrev pub operand_want : Level → Want
operand_want Term = Value Integer
operand_want Sum = Value Integer
operand_want Conjunction = Condition
operand_want Disjunction = Condition

-- what is expected of the operand of a prefix sign
abbrev pub prefix_want : Prefix → Want
prefix_want Negate = Value Integer
prefix_want Not = Condition

-- what is expected of each side of a comparison by itself
abbrev pub side_want : written.Comparison → Want
side_want sign.Equal = Anything
side_want sign.NotEqual = Anything
side_want sign.Less = Value Integer
side_want sign.LessOrEqual = Value Integer
side_want sign.Greater = Value Integer
side_want sign.GreaterOrEqual = Value Integer

-- the chain has this operator with this operand
pub data HasLink : Links → Operator → Expr → Type 0 where
  this_link : {o : Operator} {e : Expr} {rest : Links} → HasLink (link o e rest) o e
  later_link : {o p : Operator} {e f : Expr} {rest : Links} → HasLink rest p f → HasLink (link o e rest) p f

-- an expression of which something is expected contains another one, of which something is expected
pub data Within : Want → Expr → Want → Expr → Type 0 where
  itself : {w : Want} {e : Expr} → Within w e w e
  in_parentheses : {w v : Want} {at : Span} {e x : Expr} → Within Anything e v x → Within w (paren at e) v x
  in_prefix : {w v : Want} {o : Prefix} {at : Span} {e x : Expr} →
      Within (prefix_want o) e v x → Within w (prefix o at e) v x
  in_first : {w v : Want} {level : Level} {e x : Expr} {links : Links} →
      Within (operand_want level) e v x → Within w (chain level e links) v x
  in_operand : {w v : Want} {level : Level} {e f x : Expr} {links : Links} {o : Operator} →
      HasLink links o f → Within (operand_want level) f v x → Within w (chain level e links) v x
  in_left : {w v : Want} {a b x : Expr} {c : written.Comparison} →
      Within (side_want c) a v x → Within w (compare a c b) v x
  in_right : {w v : Want} {a b x : Expr} {c : written.Comparison} →
      Within (side_want c) b v x → Within w (compare a c b) v x
  in_index : {w v : Want} {y : Ident} {e x : Expr} → Within (Value Integer) e v x → Within w (place (element y e)) v x

-- ---- statements

-- the statements, in the scope at the first of them, contain a statement in its scope
pub data Among : Scope → Stmts → Scope → Stmt → Type 0 where
  here : {sc : Scope} {s : Stmt} {rest : Stmts} → Among sc (stmt s rest) sc s
  later : {sc sc' : Scope} {s s' : Stmt} {rest : Stmts} → Among (after sc s) rest sc' s' → Among sc (stmt s rest) sc' s'
  in_then : {sc sc' : Scope} {s' : Stmt} {start close : Span} {e : Expr} {body rest : Stmts} {other : Otherwise} →
      Among sc body sc' s' → Among sc (stmt (if_then start e body close other) rest) sc' s'
  in_else : {sc sc' : Scope} {s' : Stmt} {start close end : Span} {e : Expr} {body other rest : Stmts} →
      Among (left sc (after_all sc body)) other sc' s' →
      Among sc (stmt (if_then start e body close (else_do other end)) rest) sc' s'
  in_while : {sc sc' : Scope} {s' : Stmt} {start close : Span} {e : Expr} {body rest : Stmts} →
      Among sc body sc' s' → Among sc (stmt (while start e body close) rest) sc' s'

-- an argument of a call, and what is expected of it: a value for its parameter, if the call is one of a helper with
-- this many; anything, if it is not a call of a helper
pub data IsArgument (decls : List Decl) : Option (ℕ × Section) → List Expr → Want → Expr → Type 0 where
  for_parameter : {i : ℕ} {s : Section} (k : ℕ) {p : Param} {es : List Expr} {e : Expr} →
      length es ≡ length s.params → slice_get s.params k ≡ Some p → slice_get es k ≡ Some e →
      IsArgument decls (Some (i, s)) es (want_of decls p) e
  for_nothing : {es : List Expr} {e : Expr} → Has es e → IsArgument decls None es Anything e

-- an argument of this call in its scope
abbrev pub Passes : Scope → HelperCall → Want → Expr → Type 0
Passes sc c w e = IsArgument sc.decls (helper_meant (meaning sc c.helper.text)) c.arguments w e

-- an expression of a statement, and what is expected of it
pub data Asks : Scope → Stmt → Want → Expr → Type 0 where
  of_let : {sc : Scope} {l : Local} → Asks sc (let_local l) (want (type_of sc l.value_type)) l.value
  of_owned : {sc : Scope} {l : Local} {o : Owner} → Asks sc (let_owned l o) (want (type_of sc l.value_type)) l.value
  of_let_call : {sc : Scope} {l : CalledLocal} {w : Want} {e : Expr} → Passes sc l.call w e → Asks sc (let_call l) w e
  of_var : {sc : Scope} {l : Local} → Asks sc (var_local l) (want (type_of sc l.value_type)) l.value
  of_assign : {sc : Scope} {p : Place} {e : Expr} {t : core_type.ValueType} {set : core.Expr → core.Action} →
      Assigns sc p t set → Asks sc (assign p e) (Value t) e
  of_unassignable : {sc : Scope} {p : Place} {e : Expr} →
      ((t : core_type.ValueType) (set : core.Expr → core.Action) → Assigns sc p t set → ⊥) → Asks sc (assign p e) Anything e
  of_index : {sc : Scope} {x : Ident} {i e : Expr} → Asks sc (assign (element x i) e) (Value Integer) i
  of_if : {sc : Scope} {start close : Span} {e : Expr} {body : Stmts} {other : Otherwise} →
      Asks sc (if_then start e body close other) Condition e
  of_while : {sc : Scope} {start close : Span} {e : Expr} {body : Stmts} →
      Asks sc (while start e body close) Condition e
  of_print : {sc : Scope} {start : Span} {e : Expr} → Asks sc (print start e) (Value Integer) e
  of_return : {sc : Scope} {start : Span} {e : Expr} → Asks sc (return_value start e) (want sc.result) e
  of_call_alone : {sc : Scope} {start : Span} {c : HelperCall} {w : Want} {e : Expr} → Passes sc c w e →
      Asks sc (call start c) w e

-- a section or a helper of the program, with its limits of parameters and locals
pub data HasBody (decls : List Decl) : BodyLimits → Section → Type 0 where
  of_section : {x : Section} → Has decls (atomic x) → HasBody decls section_limits x
  of_helper : {x : Section} → Has decls (helper x) → HasBody decls helper_limits x

-- a statement of the program, in its scope
pub data HasStmt (decls : List Decl) : Scope → Stmt → Type 0 where
  in_body : {limits : BodyLimits} {x : Section} {sc : Scope} {s : Stmt} →
      HasBody decls limits x → Among (entry decls limits x) x.body.stmts sc s → HasStmt decls sc s

-- a call of a helper, in its scope
pub data HasHelperCall (decls : List Decl) : Scope → HelperCall → Type 0 where
  by_let : {sc : Scope} {l : CalledLocal} → HasStmt decls sc (let_call l) → HasHelperCall decls sc l.call
  by_itself : {sc : Scope} {start : Span} {c : HelperCall} → HasStmt decls sc (call start c) → HasHelperCall decls sc c

-- an expression of the program in its scope, and what is expected of it
pub data HasExpr (decls : List Decl) : Scope → Want → Expr → Type 0 where
  in_stmt : {sc : Scope} {s : Stmt} {w v : Want} {e x : Expr} →
      HasStmt decls sc s → Asks sc s w e → Within w e v x → HasExpr decls sc v x

-- a place that is read or written
pub data HasPlace (decls : List Decl) : Scope → Place → Type 0 where
  is_read : {sc : Scope} {w : Want} {p : Place} → HasExpr decls sc w (place p) → HasPlace decls sc p
  is_written : {sc : Scope} {p : Place} {e : Expr} → HasStmt decls sc (assign p e) → HasPlace decls sc p

-- ---- names

-- a local that the program declares, in the scope before it
pub data Binds (decls : List Decl) : Scope → Ident → Type 0 where
  parameter : {limits : BodyLimits} {x : Section} (p : Param) (before behind : List Param) →
      HasBody decls limits x → x.params ≡ before ++ p ∷ behind → Binds decls (entered (ahead_of decls limits x) before) p.name
  a_let : {sc : Scope} {l : Local} → HasStmt decls sc (let_local l) → Binds decls sc l.name
  an_owned_let : {sc : Scope} {l : Local} {o : Owner} → HasStmt decls sc (let_owned l o) → Binds decls sc l.name
  a_called_let : {sc : Scope} {l : CalledLocal} → HasStmt decls sc (let_call l) → Binds decls sc l.name
  a_var : {sc : Scope} {l : Local} → HasStmt decls sc (var_local l) → Binds decls sc l.name

-- a type of the program, in its scope; the struct's name of a listed lock class counts as one
pub data HasType (decls : List Decl) : Scope → ValueType → Type 0 where
  of_global : {v : Variable} → Has decls (global v) → HasType decls (outside decls) v.value_type
  of_array : {a : Array} → Has decls (array a) → HasType decls (outside decls) a.value_type
  of_pool : {p : Pool} → Has decls (pool p) → HasType decls (outside decls) (ref_type p.target)
  of_final : {s : Struct} {f : Final} →
      Has decls (struct s) → Has s.members (final_member f) → HasType decls (outside decls) (ref_type f.target)
  of_field : {s : Struct} {f : Field} →
      Has decls (struct s) → Has s.members (field_member f) → HasType decls (outside decls) f.value_type
  of_parameter : {limits : BodyLimits} {x : Section} {p : Param} →
      HasBody decls limits x → Has x.params p → HasType decls (outside decls) p.value_type
  of_result : {limits : BodyLimits} {x : Section} {t : ValueType} →
      HasBody decls limits x → x.result ≡ Some t → HasType decls (outside decls) t
  of_listed : {limits : BodyLimits} {x : Section} {c : ClassName} →
      HasBody decls limits x → Has x.listed c → HasType decls (outside decls) (ref_type c.structure)
  of_a_let : {sc : Scope} {l : Local} → HasStmt decls sc (let_local l) → HasType decls sc l.value_type
  of_an_owned_let : {sc : Scope} {l : Local} {o : Owner} → HasStmt decls sc (let_owned l o) →
      HasType decls sc l.value_type
  of_a_called_let : {sc : Scope} {l : CalledLocal} → HasStmt decls sc (let_call l) → HasType decls sc l.value_type
  of_a_var : {sc : Scope} {l : Local} → HasStmt decls sc (var_local l) → HasType decls sc l.value_type

-- a name after `where` that has to be that of a final reference, for a value of the struct with these members
pub data NamesOwner (decls : List Decl) : List Member → Ident → Type 0 where
  names_owner : {sc : Scope} {l : Local} {o : Owner} {k : ℕ} {s : Struct} →
      HasStmt decls sc (let_owned l o) → type_of sc l.value_type ≡ Some (Reference k) → the_struct decls k ≡ Some s →
      NamesOwner decls s.members o.field

-- the lock's name of a listed lock class, whose struct has these members
pub data ListsLock (decls : List Decl) : List Member → Ident → Type 0 where
  lists_lock : {limits : BodyLimits} {x : Section} {c : ClassName} {i : ℕ} {s : Struct} →
      HasBody decls limits x → Has x.listed c → the_decl decls c.structure.text ≡ Some (i, struct s) →
      ListsLock decls s.members c.lock

-- ---- threads and constants

-- a call of a thread's items
pub data InItems : Items → Call → Type 0 where
  this_call : {c : Call} {rest : Items} → InItems (item (call c) rest) c
  in_repeat : {n : Number} {c : Call} {is rest : Items} → InItems is c → InItems (item (repeat n is) rest) c
  later_call : {i : Item} {c : Call} {rest : Items} → InItems rest c → InItems (item i rest) c

-- a call of one of the program's threads
pub data HasCall (decls : List Decl) : Call → Type 0 where
  in_thread : {t : Thread} {c : Call} → Has decls (thread t) → InItems t.items c → HasCall decls c

-- a constant that is checked, and what is expected of it: that of a global, of an `init`, or an argument of a call with
-- the right number of them
pub data HasConst (decls : List Decl) : Want → Const → Type 0 where
  opening : {v : Variable} {c : Const} →
      Has decls (global v) → v.value ≡ Some c → HasConst decls (want (type_of (outside decls) v.value_type)) c
  initial : {i : Init} → Has decls (init i) → HasConst decls (member_want decls (initialised decls i)) i.value
  argument : {c : Call} {i : ℕ} (k : ℕ) {s : Section} {p : Param} {x : Const} →
      HasCall decls c → the_decl decls c.section.text ≡ Some (i, atomic s) → length c.arguments ≡ length s.params →
      slice_get s.params k ≡ Some p → slice_get c.arguments k ≡ Some x → HasConst decls (want_of decls p) x

-- ---- annotations

-- the annotation of a global or an array
pub data HasLock (decls : List Decl) : Protection → Type 0 where
  of_variable : {v : Variable} {p : Protection} → Has decls (global v) → v.protection ≡ Some p → HasLock decls p
  of_elements : {a : Array} {p : Protection} → Has decls (array a) → a.protection ≡ Some p → HasLock decls p

-- the annotation of a field of the struct at this place with these members
pub data Annotates (decls : List Decl) : ℕ → List Member → Protection → Type 0 where
  annotates : {i : ℕ} {s : Struct} {f : Field} {p : Protection} →
      slice_get decls i ≡ Some (struct s) → Has s.members (field_member f) → f.protection ≡ Some p →
      Annotates decls i s.members p
