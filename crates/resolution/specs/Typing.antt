-- Well-typed expressions, statements and sections, and the resolved form of each, in which names are replaced by
-- numbers. Each form has a rule; nothing else is well typed.
use Rattle.std.specs.Prelude.{◌≡◌, ℕ, ◌≤◌, pos, List, [], ◌∷◌, ◌++◌, length, Option, Some, None, true}
use Rattle.source.specs.Texts.{NUMBER_LIMIT, SOURCE_LIMIT}
use Rattle.source.specs.declared.span.Span.{Span}
use Rattle.source.specs.declared.token.Number.{Number}
use Rattle.syntax.specs.declared.tree.Operator as sign
use Rattle.syntax.specs.declared.tree.Level.{Level}
use Rattle.syntax.specs.declared.tree.Level.TheVariants.{Conjunction, Disjunction}
use Rattle.syntax.specs.declared.tree.Prefix.TheVariants.{Negate, Not}
use Rattle.syntax.specs.declared.tree.Comparison as written
use Rattle.syntax.specs.Trees as tree
use Rattle.syntax.specs.Trees.{Ident, ref_type, Place, lone, element, path, Expr, int, null, place, paren, prefix}
use Rattle.syntax.specs.Trees.{chain, compare, Links, no_links, link, Owner, HelperCall, CalledLocal, Stmt, let_local}
use Rattle.syntax.specs.Trees.{let_owned, let_call, var_local, assign, if_then, while, print, return_value, call}
use Rattle.syntax.specs.Trees.{Stmts, no_stmts, stmt, no_else, else_do, Param, Section, Decl, global, array, pool}
use Rattle.syntax.specs.Trees.{helper, Struct, struct, Member, Final, lock_member, final_member, Variable, Array}
use Rattle.syntax.specs.Trees.{Pool, ClassName}
use Rattle.core_lang.specs.declared.value.ValueType.{ValueType}
use Rattle.core_lang.specs.declared.value.ValueType.TheVariants.{Integer, Reference}
use Rattle.core_lang.specs.declared.tree.Operator.{Operator}
use Rattle.core_lang.specs.declared.tree.FieldStep.{FieldStep}
use Rattle.core_lang.specs.declared.tree.FieldStep.TheVariants as step
use Rattle.resolution.specs.declared.body_limits.BodyLimits.{BodyLimits}
use Rattle.resolution.specs.declared.owner_field.OwnerField.{OwnerField}
use Rattle.resolution.specs.declared.wanted.Sort.{Sort}
use Rattle.resolution.specs.declared.wanted.Sort.TheVariants.{Of, Null}
use Rattle.resolution.specs.declared.wanted.Want.{Want}
use Rattle.resolution.specs.declared.wanted.Want.TheVariants.{Value}
use Rattle.resolution.specs.Core as core
use Rattle.resolution.specs.Limits.{STRUCT_LIMIT}
use Rattle.resolution.specs.Scopes.{Scope, Local, outside, a_local, a_decl, meaning, number_at, the_struct, the_member}
use Rattle.resolution.specs.Scopes.{type_of, result_of, struct_named, left, the_decl, number_in}
use Rattle.resolution.specs.Annotations.{class_number}
use Rattle.resolution.specs.Expressions.{ResolvedExpr, value, truth, fits_sort, alike_sorts, want, cell_of, local_path}
use Rattle.resolution.specs.Expressions.{member_number, reached, walk_from, marked, operator_of, comparison_of}
use Rattle.resolution.specs.Expressions.{IsOfNumbers, IsEquality}
use Rattle.resolution.specs.Statements.{first_name, is_var, after, after_all, entry}
use Rattle.resolution.specs.Constants.{want_of}

-- ---- expressions

mutual
  -- an expression, and its resolved form: a value of a sort, or a condition
  pub data Types (sc : Scope) : Expr → ResolvedExpr → Type 0 where
    types_int : {n : Number} →
        n.value ≤ NUMBER_LIMIT → Types sc (int n) (value (core.number (pos n.value)) (Of Integer))
    types_null : {at : Span} → Types sc (null at) (value core.null Null)
    types_local : {x : Ident} {i : ℕ} {l : Local} {t : ValueType} →
        meaning sc x.text ≡ a_local i l → l.value_type ≡ Some t →
        Types sc (place (lone x)) (value (core.place (local_path x.span.start i [])) (Of t))
    types_global : {x : Ident} {i : ℕ} {v : Variable} {t : ValueType} →
        meaning sc x.text ≡ a_decl i (global v) → type_of (outside sc.decls) v.value_type ≡ Some t →
        Types sc (place (lone x)) (value (core.global x.span.start (cell_of sc.decls i)) (Of t))
    types_element : {x : Ident} {e : Expr} {i : ℕ} {a : Array} {t : ValueType} {index : core.Expr} →
        meaning sc x.text ≡ a_decl i (array a) → type_of (outside sc.decls) a.value_type ≡ Some t →
        Types sc e (value index (Of Integer)) →
        Types sc (place (element x e)) (value (core.element x.span.start (number_at sc.decls i (array a)) index) (Of t))
    types_member : {x : Ident} {e : Expr} {i : ℕ} {p : Pool} {s : ℕ} {index : core.Expr} →
        meaning sc x.text ≡ a_decl i (pool p) → struct_named sc.decls p.target ≡ Some s →
        Types sc e (value index (Of Integer)) →
        Types sc (place (element x e)) (value (core.member (number_at sc.decls i (pool p)) index) (Of (Reference s)))
    types_path : {x : Ident} {fs : List Ident} {i : ℕ} {l : Local} {steps : List FieldStep} {t : ValueType} →
        meaning sc x.text ≡ a_local i l → walk_from sc.decls (a_local i l) fs ≡ reached steps t →
        Types sc (place (path x fs)) (value (core.place (local_path x.span.start i steps)) (Of t))
    types_paren : {at : Span} {e : Expr} {r : ResolvedExpr} → Types sc e r → Types sc (paren at e) (marked r)
    types_minus : {at : Span} {e : Expr} {x : core.Expr} →
        Types sc e (value x (Of Integer)) → Types sc (prefix Negate at e) (value (core.negate x) (Of Integer))
    types_not : {at : Span} {e : Expr} {c : core.Condition} →
        Types sc e (truth c) → Types sc (prefix Not at e) (truth (core.negation c))
    types_numbers : {level : Level} {e : Expr} {links : Links} {x : core.Expr} {rest : core.Operations} →
        IsOfNumbers level → Types sc e (value x (Of Integer)) → TypesOperands sc links rest →
        Types sc (chain level e links) (value (core.chain x rest) (Of Integer))
    types_and : {e : Expr} {links : Links} {c last : core.Condition} {before : core.Conditions} →
        Types sc e (truth c) → TypesTests sc c links before last →
        Types sc (chain Conjunction e links) (truth (core.all_of before last))
    types_or : {e : Expr} {links : Links} {c last : core.Condition} {before : core.Conditions} →
        Types sc e (truth c) → TypesTests sc c links before last →
        Types sc (chain Disjunction e links) (truth (core.any_of before last))
    types_order : {a b : Expr} {c : written.Comparison} {x y : core.Expr} →
        Types sc a (value x (Of Integer)) → Types sc b (value y (Of Integer)) →
        Types sc (compare a c b) (truth (core.compare (comparison_of c) x y))
    types_equality : {a b : Expr} {c : written.Comparison} {x y : core.Expr} {s t : Sort} →
        IsEquality c → Types sc a (value x s) → Types sc b (value y t) → alike_sorts s t ≡ true →
        Types sc (compare a c b) (truth (core.compare (comparison_of c) x y))

  -- the further operands of a chain of numbers
  pub data TypesOperands (sc : Scope) : Links → core.Operations → Type 0 where
    no_operand : TypesOperands sc no_links core.no_operations
    one_operand : {o : sign.Operator} {p : Operator} {e : Expr} {links : Links} {x : core.Expr}
        {rest : core.Operations} →
        operator_of o ≡ Some p → Types sc e (value x (Of Integer)) → TypesOperands sc links rest →
        TypesOperands sc (link o e links) (core.operation p x rest)

  -- a condition and the further operands of its chain: the conditions before the last one, and the last one
  pub data TypesTests (sc : Scope) : core.Condition → Links → core.Conditions → core.Condition → Type 0 where
    last_test : {c : core.Condition} → TypesTests sc c no_links core.no_conditions c
    one_test : {c d last : core.Condition} {o : sign.Operator} {e : Expr} {links : Links} {before : core.Conditions} →
        Types sc e (truth d) → TypesTests sc d links before last →
        TypesTests sc c (link o e links) (core.condition c before) last

-- an expression is a value, which is expected here
pub data Gives (sc : Scope) (w : Want) : Expr → core.Expr → Type 0 where
  gives : {e : Expr} {x : core.Expr} {s : Sort} → Types sc e (value x s) → fits_sort w s ≡ true → Gives sc w e x

-- ---- what statements consist of

-- the target of an assignment: the type of the assigned value, and what the statement does with it
pub data Assigns (sc : Scope) : Place → ValueType → (core.Expr → core.Action) → Type 0 where
  assigns_local : {x : Ident} {i : ℕ} {l : Local} {t : ValueType} →
      meaning sc x.text ≡ a_local i l → is_var l.kind ≡ true → l.value_type ≡ Some t →
      Assigns sc (lone x) t (core.set_local i)
  assigns_global : {x : Ident} {i : ℕ} {v : Variable} {t : ValueType} →
      meaning sc x.text ≡ a_decl i (global v) → type_of (outside sc.decls) v.value_type ≡ Some t →
      Assigns sc (lone x) t (core.set_global (cell_of sc.decls i))
  assigns_element : {x : Ident} {e : Expr} {i : ℕ} {a : Array} {t : ValueType} {index : core.Expr} →
      meaning sc x.text ≡ a_decl i (array a) → type_of (outside sc.decls) a.value_type ≡ Some t →
      Types sc e (value index (Of Integer)) →
      Assigns sc (element x e) t (core.set_element (number_at sc.decls i (array a)) index)
  assigns_field : {x : Ident} {fs : List Ident} {i k n : ℕ} {l : Local} {base : List FieldStep} {t : ValueType} →
      meaning sc x.text ≡ a_local i l → walk_from sc.decls (a_local i l) fs ≡ reached (base ++ step.Field k n ∷ []) t →
      Assigns sc (path x fs) t (core.set_field (local_path x.span.start i base) k n)

-- after `where`: the final reference of a type that a name refers to
pub data IsFinalOf (decls : List Decl) : ValueType → Ident → OwnerField → Type 0 where
  is_final_of : {k i : ℕ} {s : Struct} {x : Ident} {f : Final} {t : ValueType} →
      the_struct decls k ≡ Some s → the_member s.members x.text ≡ Some (i, final_member f) →
      type_of (outside decls) (ref_type f.target) ≡ Some t →
      IsFinalOf decls (Reference k) x
      (record { structure = k; number = member_number s.members i (final_member f); value_type = t })

-- a value of a type with a `where`, and the resolved form of its test: its final reference equals a local, which has
-- the reference's type. A struct past its limit has no number here, and the program has a fault; no source has more
-- locals than SOURCE_LIMIT
pub data TypesOwner (sc : Scope) (t : ValueType) : Owner → core.Expr → core.Expr → Type 0 where
  types_owner : {o : Owner} {x : core.Expr} {f : OwnerField} {i : ℕ} {l : Local} →
      IsFinalOf sc.decls t o.field f → meaning sc o.local.text ≡ a_local i l → l.value_type ≡ Some f.value_type →
      f.structure ≤ STRUCT_LIMIT → i ≤ SOURCE_LIMIT →
      TypesOwner sc t o x (core.owned x f.structure f.number o.local.span.start i)

-- one argument for each parameter
pub data TypesArguments (sc : Scope) : List Param → List Expr → List core.Expr → Type 0 where
  no_argument : TypesArguments sc [] [] []
  one_argument : {p : Param} {e : Expr} {x : core.Expr} {ps : List Param} {es : List Expr} {xs : List core.Expr} →
      Gives sc (want_of sc.decls p) e x → TypesArguments sc ps es xs →
      TypesArguments sc (p ∷ ps) (e ∷ es) (x ∷ xs)

-- a call of this helper: its number, and the arguments
pub data TypesCall (sc : Scope) : HelperCall → Section → ℕ → List core.Expr → Type 0 where
  types_call : {c : HelperCall} {i : ℕ} {s : Section} {xs : List core.Expr} →
      meaning sc c.helper.text ≡ a_decl i (helper s) → TypesArguments sc s.params c.arguments xs →
      TypesCall sc c s (number_at sc.decls i (helper s)) xs

-- ---- statements

mutual
  -- a statement other than `return`, in its scope: its first byte, and what it does
  pub data TypesStmt : Scope → Stmt → ℕ → core.Action → Type 0 where
    types_let : {sc : Scope} {l : tree.Local} {t : ValueType} {x : core.Expr} →
        type_of sc l.value_type ≡ Some t → Gives sc (Value t) l.value x →
        TypesStmt sc (let_local l) l.start.start (core.bind (length sc.locals) x)
    types_owned : {sc : Scope} {l : tree.Local} {o : Owner} {t : ValueType} {x y : core.Expr} →
        type_of sc l.value_type ≡ Some t → Gives sc (Value t) l.value x → TypesOwner sc t o x y →
        TypesStmt sc (let_owned l o) l.start.start (core.bind (length sc.locals) y)
    types_let_call : {sc : Scope} {l : CalledLocal} {t : ValueType} {s : Section} {n : ℕ} {xs : List core.Expr} →
        TypesCall sc l.call s n xs → type_of sc l.value_type ≡ Some t → result_of sc.decls s ≡ Some t →
        TypesStmt sc (let_call l) l.start.start (core.call n xs (Some (length sc.locals)))
    types_var : {sc : Scope} {l : tree.Local} {t : ValueType} {x : core.Expr} →
        type_of sc l.value_type ≡ Some t → Gives sc (Value t) l.value x →
        TypesStmt sc (var_local l) l.start.start (core.bind (length sc.locals) x)
    types_assign : {sc : Scope} {p : Place} {e : Expr} {t : ValueType} {x : core.Expr} {set : core.Expr → core.Action} →
        Assigns sc p t set → Gives sc (Value t) e x →
        TypesStmt sc (assign p e) (first_name p).span.start (set x)
    types_if : {sc : Scope} {start close : Span} {e : Expr} {body : Stmts} {c : core.Condition} {block : core.Stmts} →
        Types sc e (truth c) → TypesBody sc body block None →
        TypesStmt sc (if_then start e body close no_else) start.start (core.if_true c block)
    types_if_else : {sc : Scope} {start close end : Span} {e : Expr} {body other : Stmts} {c : core.Condition}
        {block otherwise : core.Stmts} →
        Types sc e (truth c) → TypesBody sc body block None →
        TypesBody (left sc (after_all sc body)) other otherwise None →
        TypesStmt sc (if_then start e body close (else_do other end)) start.start (core.if_else c block otherwise)
    types_while : {sc : Scope} {start close : Span} {e : Expr} {body : Stmts} {c : core.Condition}
        {block : core.Stmts} →
        Types sc e (truth c) → TypesBody sc body block None →
        TypesStmt sc (while start e body close) start.start (core.while_true c block)
    types_print : {sc : Scope} {start : Span} {e : Expr} {x : core.Expr} →
        Types sc e (value x (Of Integer)) → TypesStmt sc (print start e) start.start (core.print x)
    types_call_alone : {sc : Scope} {start : Span} {c : HelperCall} {s : Section} {n : ℕ} {xs : List core.Expr} →
        TypesCall sc c s n xs → TypesStmt sc (call start c) start.start (core.call n xs None)

  -- statements, in the scope at the first of them, and the `return` at their end, if there is one
  pub data TypesBody : Scope → Stmts → core.Stmts → Option core.Return → Type 0 where
    types_none : {sc : Scope} → TypesBody sc no_stmts core.no_stmts None
    types_return : {sc : Scope} {start : Span} {e : Expr} {x : core.Expr} →
        Gives sc (want sc.result) e x →
        TypesBody sc (stmt (return_value start e) no_stmts) core.no_stmts
        (Some (record { start = start.start; value = x }))
    types_next : {sc : Scope} {s : Stmt} {rest : Stmts} {start : ℕ} {action : core.Action} {stmts : core.Stmts}
        {result : Option core.Return} →
        TypesStmt sc s start action → TypesBody (after sc s) rest stmts result →
        TypesBody sc (stmt s rest) (core.stmt start action stmts) result

-- ---- sections and helpers

-- locals whose types all have no fault
pub data TypesLocals : List Local → List core.Local → Type 0 where
  no_local : TypesLocals [] []
  one_local : {l : Local} {t : ValueType} {ls : List Local} {rest : List core.Local} →
      l.value_type ≡ Some t → TypesLocals ls rest →
      TypesLocals (l ∷ ls) (record { name = l.name; kind = l.kind; value_type = t } ∷ rest)

-- a result type and a `return`: both, or neither
pub data TypesResult (decls : List Decl) : Option tree.ValueType → Option core.Return → Option ValueType → Type 0 where
  no_result : TypesResult decls None None None
  one_result : {t : tree.ValueType} {r : core.Return} {u : ValueType} →
      type_of (outside decls) t ≡ Some u → TypesResult decls (Some t) (Some r) (Some u)

-- the lock class of this name: a lock field of a struct
pub data NamesClass (decls : List Decl) : ClassName → ℕ → Type 0 where
  names_class : {c : ClassName} {i j : ℕ} {s : Struct} {x : Ident} →
      the_decl decls c.structure.text ≡ Some (i, struct s) →
      the_member s.members c.lock.text ≡ Some (j, lock_member x) →
      NamesClass decls c (class_number decls i (number_in s.members j (lock_member x)))

-- the listed lock classes, one for each name
pub data TypesListed (decls : List Decl) : List ClassName → List ℕ → Type 0 where
  no_class : TypesListed decls [] []
  one_class : {c : ClassName} {n : ℕ} {cs : List ClassName} {ns : List ℕ} →
      NamesClass decls c n → TypesListed decls cs ns → TypesListed decls (c ∷ cs) (n ∷ ns)

-- a section or a helper, with its limits of parameters and locals
pub data TypesSection (decls : List Decl) (limits : BodyLimits) : Section → core.Section → Type 0 where
  types_section : {s : Section} {locals : List core.Local} {stmts : core.Stmts} {r : Option core.Return}
      {t : Option ValueType} {classes : List ℕ} →
      TypesBody (entry decls limits s) s.body.stmts stmts r → TypesResult decls s.result r t →
      TypesListed decls s.listed classes →
      TypesLocals (after_all (entry decls limits s) s.body.stmts).locals locals →
      TypesSection decls limits s
      (record {
        name = s.name.text;
        parameters = length s.params;
        locals = locals;
        result_type = t;
        listed = classes;
        body = stmts;
        result = r;
      })
