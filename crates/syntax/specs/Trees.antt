-- Trees of programs as plain data, without their place in memory.
use Rattle.std.specs.Prelude.{ℕ, List, Option}
use Rattle.source.specs.declared.span.Span.{Span}
use Rattle.syntax.specs.declared.tree.Operator.{Operator}
use Rattle.syntax.specs.declared.tree.Level.{Level}
use Rattle.syntax.specs.declared.tree.Prefix.{Prefix}
use Rattle.syntax.specs.declared.tree.Comparison.{Comparison}
use Rattle.source.specs.declared.token.Number.{Number}

-- a name and its position
pub record Ident : Type 0 where
  pub text : List ℕ
  pub span : Span

-- a type: `int`, or a reference to members of the pools of a struct
pub data ValueType : Type 0 where
  int_type : ValueType
  ref_type : (target : Ident) → ValueType

-- a constant: a number, a negative one, `null` or a member of a pool
pub data Const : Type 0 where
  int_const : Number → Const
  negative : (sign : Span) → Number → Const
  null_const : (at : Span) → Const
  member_const : (pool : Ident) → (index : Number) → Const

-- an expression, a place that a value is read from or written to, and the rest of a chain of operators
mutual
  pub data Expr : Type 0 where
    int : Number → Expr
    null : (at : Span) → Expr
    place : Place → Expr
    paren : (at : Span) → Expr → Expr
    prefix : Prefix → (at : Span) → Expr → Expr
    chain : Level → Expr → Links → Expr
    compare : Expr → Comparison → Expr → Expr

  pub data Place : Type 0 where
    lone : Ident → Place
    element : Ident → Expr → Place
    path : Ident → (fields : List Ident) → Place

  pub data Links : Type 0 where
    no_links : Links
    link : Operator → Expr → Links → Links

-- the declaration of a local by `let` or `var`: its start, name, type and value
pub record Local : Type 0 where
  pub start : Span
  pub name : Ident
  pub value_type : ValueType
  pub value : Expr

-- the `where` of a `let`: the final reference of its value, and the local that this has to equal
pub record Owner : Type 0 where
  pub field : Ident
  pub local : Ident

-- a call of a helper
pub record HelperCall : Type 0 where
  pub helper : Ident
  pub arguments : List Expr

-- a `let` that binds the result of a helper
pub record CalledLocal : Type 0 where
  pub start : Span
  pub name : Ident
  pub value_type : ValueType
  pub call : HelperCall

-- a statement, the statements of a block, and what follows the block of an `if`: an `else` with its block, or nothing
mutual
  pub data Stmt : Type 0 where
    let_local : Local → Stmt
    let_owned : Local → Owner → Stmt
    let_call : CalledLocal → Stmt
    var_local : Local → Stmt
    assign : Place → Expr → Stmt
    if_then : (start : Span) → Expr → Stmts → (close : Span) → Otherwise → Stmt
    while : (start : Span) → Expr → Stmts → (close : Span) → Stmt
    print : (start : Span) → Expr → Stmt
    return_value : (start : Span) → Expr → Stmt
    call : (start : Span) → HelperCall → Stmt

  pub data Stmts : Type 0 where
    no_stmts : Stmts
    stmt : Stmt → Stmts → Stmts

  pub data Otherwise : Type 0 where
    no_else : Otherwise
    else_do : Stmts → (close : Span) → Otherwise

-- statements in braces, and the position of the closing brace
pub record Block : Type 0 where
  pub stmts : Stmts
  pub close : Span

-- the names of an annotation
pub record Protection : Type 0 where
  pub first : Ident
  pub rest : List Ident

-- a global that is not an array
pub record Variable : Type 0 where
  pub name : Ident
  pub value_type : ValueType
  pub protection : Option Protection
  pub value : Option Const

-- a global that is an array
pub record Array : Type 0 where
  pub name : Ident
  pub value_type : ValueType
  pub length : Number
  pub protection : Option Protection

-- a reference that never changes
pub record Final : Type 0 where
  pub name : Ident
  pub target : Ident

-- a field that can change: its name, its type and its annotation, if it has one
pub record Field : Type 0 where
  pub name : Ident
  pub value_type : ValueType
  pub protection : Option Protection

-- a member of a struct
pub data Member : Type 0 where
  lock_member : Ident → Member
  final_member : Final → Member
  field_member : Field → Member

-- a struct: its name and its members
pub record Struct : Type 0 where
  pub name : Ident
  pub members : List Member

-- a pool: the struct of its members, its name and its length
pub record Pool : Type 0 where
  pub name : Ident
  pub target : Ident
  pub length : Number

-- an initial value for one field of one pool member
pub record Init : Type 0 where
  pub start : Span
  pub pool : Ident
  pub index : Number
  pub field : Ident
  pub value : Const

-- a parameter: its name and its type
pub record Param : Type 0 where
  pub name : Ident
  pub value_type : ValueType

-- a lock class: the names of its struct and of the struct's lock
pub record ClassName : Type 0 where
  pub structure : Ident
  pub lock : Ident

-- a section or a helper: its name, its parameters, its result type, the lock classes that it takes whole, and its body
pub record Section : Type 0 where
  pub name : Ident
  pub params : List Param
  pub result : Option ValueType
  pub listed : List ClassName
  pub body : Block

-- a call of a section
pub record Call : Type 0 where
  pub section : Ident
  pub arguments : List Const

-- the items of a thread: calls and repetitions
mutual
  pub data Item : Type 0 where
    call : Call → Item
    repeat : Number → Items → Item

  pub data Items : Type 0 where
    no_items : Items
    item : Item → Items → Items

-- a thread: its name and its items, in order
pub record Thread : Type 0 where
  pub name : Ident
  pub items : Items

-- a declaration of a program
pub data Decl : Type 0 where
  lock : Ident → Decl
  struct : Struct → Decl
  global : Variable → Decl
  array : Array → Decl
  pool : Pool → Decl
  init : Init → Decl
  atomic : Section → Decl
  helper : Section → Decl
  thread : Thread → Decl
