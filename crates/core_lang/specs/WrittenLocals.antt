-- The locals of a section with its helpers expanded: their names, kinds and types.
use Rattle.std.specs.Prelude.{◌≡◌, ℕ, zero, suc, List, [], ◌∷◌, ◌++◌, map, take, slice_get, Option, Some, None}
use Rattle.std.specs.Prelude.{string_bytes}
use Rattle.core_lang.specs.declared.value.ValueType.{ValueType}
use Rattle.core_lang.specs.declared.tree.LocalKind.{LocalKind}
use Rattle.core_lang.specs.declared.tree.LocalKind.TheVariants.{Let}
use Rattle.core_lang.specs.declared.tree.Local.{Local}
use Rattle.core_lang.specs.declared.tree.Stmt.{Stmt}
use Rattle.core_lang.specs.declared.tree.Action.{Action, Bind, Call, If', IfElse', While', Row_of-Stmt, end_of-Stmt}
use Rattle.core_lang.specs.declared.tree.Action.{more_of-Stmt}
use Rattle.core_lang.specs.declared.tree.Section.{Section}
use Rattle.core_lang.specs.declared.shape.Shape.{Shape}
use Rattle.core_lang.specs.Meaning.{deepest}

-- a local as data
pub record LocalData : Type 0 where
  pub name : List ℕ
  pub kind : LocalKind
  pub value_type : ValueType

-- the data of a local
abbrev pub local_data : Local → LocalData
local_data local = record { name = string_bytes local.name; kind = local.kind; value_type = local.value_type }

-- a parameter of a helper, which is a `let` of the argument
abbrev pub parameter_data : Local → LocalData
parameter_data local = record { name = string_bytes local.name; kind = Let; value_type = local.value_type }

-- the local of this number, if it exists
abbrev pub own_local : Option Local → List LocalData
own_local (Some local) = local_data local ∷ []
own_local None = []

-- a hidden `let` for a result that is dropped
abbrev pub hidden_local : Option ValueType → List LocalData
hidden_local (Some t) = record { name = []; kind = Let; value_type = t } ∷ []
hidden_local None = []

-- the locals that the call of a helper brings, and the type of its result
pub record Brought : Type 0 where
  pub locals : List LocalData
  pub result_type : Option ValueType

-- the locals that a statement binds in the expansion, given what helpers bring and the locals of the tree
abbrev mutual
  pub locals_by : (ℕ → Brought) → List Local → Action → List LocalData
  locals_by brings own (Bind k e) = own_local (slice_get own k)
  locals_by brings own (Call helper arguments (Some k)) = (brings helper).locals ++ own_local (slice_get own k)
  locals_by brings own (Call helper arguments None) = (brings helper).locals ++ hidden_local (brings helper).result_type
  locals_by brings own (If' c m block) = locals_in brings own block
  locals_by brings own (IfElse' c m block k otherwise) = locals_in brings own block ++ locals_in brings own otherwise
  locals_by brings own (While' c m body) = locals_in brings own body
  locals_by brings own _ = []

  pub locals_in : {m : _} → (ℕ → Brought) → List Local → Row_of-Stmt m → List LocalData
  locals_in brings own end_of-Stmt = []
  locals_in brings own (more_of-Stmt start action rest) = locals_by brings own action ++ locals_in brings own rest

-- the locals that a list of statements binds in the expansion
abbrev pub locals_in_all : (ℕ → Brought) → List Local → List Stmt → List LocalData
locals_in_all brings own [] = []
locals_in_all brings own (x ∷ xs) = locals_by brings own x.action ++ locals_in_all brings own xs

-- what a helper brings, which is nothing if it does not exist
abbrev pub brought_by : Option Section → (Section → Brought) → Brought
brought_by (Some helper) go = go helper
brought_by None go = record { locals = []; result_type = None }

-- the locals that a helper brings, with calls followed to this depth
abbrev pub brought : ℕ → Shape → ℕ → Brought
brought zero shape helper = record { locals = []; result_type = None }
brought (suc depth) shape helper =
    brought_by (slice_get shape.helpers.items helper) (λ (h : Section). record {
      locals = map parameter_data (take h.parameters h.locals.items) ++ locals_in_all (brought depth shape) h.locals.items h.body.items;
      result_type = h.result_type;
    })

-- the locals of a section in the expansion: the parameters, then those that are bound, in the order of the text
abbrev pub written_locals : Shape → Section → List LocalData
written_locals shape section =
    map local_data (take section.parameters section.locals.items) ++ locals_in_all (brought deepest shape) section.locals.items section.body.items

-- the second section has the locals that the first has with its helpers expanded
abbrev pub AreWrittenLocals : Shape → Section → Section → Type 0
AreWrittenLocals shape section section' = map local_data section'.locals.items ≡ written_locals shape section
