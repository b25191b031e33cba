-- Resolved programs as plain data, without their place in memory.
use Rattle.std.specs.Prelude.{ℕ, ℤ, Bool, List, Option}
use Rattle.core_lang.specs.declared.value.Value.{Value}
use Rattle.core_lang.specs.declared.value.ValueType.{ValueType}
use Rattle.core_lang.specs.declared.shape.Object.{Object}
use Rattle.core_lang.specs.declared.tree.Operator.{Operator}
use Rattle.core_lang.specs.declared.tree.Comparison.{Comparison}
use Rattle.core_lang.specs.declared.tree.FieldStep.{FieldStep}
use Rattle.core_lang.specs.declared.tree.LocalKind.{LocalKind}
use Rattle.core_lang.specs.declared.typed.Cell.{Cell}

-- ---- expressions

-- a local and the fields that lead on from it
pub record Path : Type 0 where
  pub start : ℕ
  pub local : ℕ
  pub fields : List FieldStep
  pub in_parentheses : Bool

mutual
  -- a resolved expression
  pub data Expr : Type 0 where
    number : ℤ → Expr
    null : Expr
    place : Path → Expr
    global : (start cell : ℕ) → Expr
    element : (start array : ℕ) → Expr → Expr
    member : (pool : ℕ) → Expr → Expr
    negate : Expr → Expr
    owned : Expr → (structure number start owner : ℕ) → Expr
    chain : Expr → Operations → Expr

  -- operators, each with its right side
  pub data Operations : Type 0 where
    no_operations : Operations
    operation : Operator → Expr → Operations → Operations

mutual
  -- a resolved condition
  pub data Condition : Type 0 where
    compare : Comparison → Expr → Expr → Condition
    negation : Condition → Condition
    all_of : Conditions → Condition → Condition
    any_of : Conditions → Condition → Condition

  -- conditions of a chain
  pub data Conditions : Type 0 where
    no_conditions : Conditions
    condition : Condition → Conditions → Conditions

-- ---- statements

mutual
  -- what a statement does
  pub data Action : Type 0 where
    bind : (local : ℕ) → Expr → Action
    set_local : (local : ℕ) → Expr → Action
    set_global : (cell : ℕ) → Expr → Action
    set_element : (array : ℕ) → Expr → Expr → Action
    set_field : Path → (structure field : ℕ) → Expr → Action
    call : (helper : ℕ) → List Expr → (result : Option ℕ) → Action
    print : Expr → Action
    if_true : Condition → Stmts → Action
    if_else : Condition → Stmts → Stmts → Action
    while_true : Condition → Stmts → Action

  -- statements, each with its first byte
  pub data Stmts : Type 0 where
    no_stmts : Stmts
    stmt : (start : ℕ) → Action → Stmts → Stmts

-- a statement: its first byte, and what it does
pub record Stmt : Type 0 where
  pub start : ℕ
  pub action : Action

-- a `return`: its first byte, and its value
pub record Return : Type 0 where
  pub start : ℕ
  pub value : Expr

-- a local: its name, its kind and its type
pub record Local : Type 0 where
  pub name : List ℕ
  pub kind : LocalKind
  pub value_type : ValueType

-- a section or a helper, with the lock classes that it takes whole
pub record Section : Type 0 where
  pub name : List ℕ
  pub parameters : ℕ
  pub locals : List Local
  pub result_type : Option ValueType
  pub listed : List ℕ
  pub body : Stmts
  pub result : Option Return

-- ---- data

-- a lock class: a global lock, or a lock field of a struct
pub data LockClass : Type 0 where
  global_lock : (name : List ℕ) → LockClass
  lock_field : (structure lock : ℕ) → LockClass

-- a lock field of a struct, and its class
pub record LockField : Type 0 where
  pub name : List ℕ
  pub class : ℕ

-- a final reference of a struct, and the struct that it refers to
pub record FinalField : Type 0 where
  pub name : List ℕ
  pub target : ℕ

-- the lock that protects a field: the final references to the object that has it, and its class
pub record Protection : Type 0 where
  pub through : List ℕ
  pub class : ℕ

-- a field that can change
pub record Field : Type 0 where
  pub name : List ℕ
  pub value_type : ValueType
  pub protection : Protection

-- a struct: its members by kind
pub record Struct : Type 0 where
  pub name : List ℕ
  pub locks : List LockField
  pub finals : List FinalField
  pub fields : List Field

-- a global variable: its name, its cell and the class of its lock
pub record GlobalVariable : Type 0 where
  pub name : List ℕ
  pub cell : ℕ
  pub class : ℕ

-- an array: its first cell, its length, the type of an element and the class of its lock
pub record Array : Type 0 where
  pub name : List ℕ
  pub first : ℕ
  pub length : ℕ
  pub element_type : ValueType
  pub class : ℕ

-- a pool: its first object, its length and the struct of its members
pub record Pool : Type 0 where
  pub name : List ℕ
  pub first : ℕ
  pub length : ℕ
  pub structure : ℕ

-- a call: the section and its arguments
pub record Call : Type 0 where
  pub section : ℕ
  pub arguments : List Value

-- a thread and its calls
pub record Thread : Type 0 where
  pub name : List ℕ
  pub calls : List Call

-- a whole program
pub record Program : Type 0 where
  pub classes : List LockClass
  pub structs : List Struct
  pub globals : List GlobalVariable
  pub arrays : List Array
  pub pools : List Pool
  pub objects : List Object
  pub finals : List ℕ
  pub cells : List Cell
  pub helpers : List Section
  pub sections : List Section
  pub threads : List Thread
