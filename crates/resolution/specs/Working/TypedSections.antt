-- What the code computes: the resolved form of a section or a helper.
use Rattle.std.specs.Prelude.{ℕ, List, [], ◌∷◌, length, Option, Some, None}
use Rattle.syntax.specs.Trees.{Ident, ValueType, ClassName, Section, Decl, struct, Member, lock_member}
use Rattle.resolution.specs.Core as core
use Rattle.resolution.specs.declared.body_limits.BodyLimits.{BodyLimits}
use Rattle.resolution.specs.Scopes.{◌>>=◌, Scope, Local, outside, type_of, entered, the_decl, the_member, number_in}
use Rattle.resolution.specs.Annotations.{class_number}
use Rattle.resolution.specs.Working.TypedStatements.{Body, typed_body}
use Rattle.resolution.specs.Statements.{ahead_of, after_all}
use Rattle.resolution.specs.Working.TypedConstants.{added}

abbrev pub core_local : Local → Option core.Local
core_local l = l.value_type >>= λ t. Some (record { name = l.name; kind = l.kind; value_type = t })

-- locals, if the types of all have no fault
abbrev pub core_locals : List Local → Option (List core.Local)
core_locals [] = Some []
core_locals (l ∷ ls) = added (core_local l) (core_locals ls)

-- the class of a member of the struct at this place, if it is a lock
abbrev pub class_at : List Decl → ℕ → List Member → Option (ℕ × Member) → Option ℕ
class_at decls i ms (Some (j, lock_member x)) = Some (class_number decls i (number_in ms j (lock_member x)))
class_at decls i ms _ = None

abbrev pub class_in : List Decl → Option (ℕ × Decl) → Ident → Option ℕ
class_in decls (Some (i, struct s)) x = class_at decls i s.members (the_member s.members x.text)
class_in decls _ x = None

-- the lock class of this name, if it is that of a lock field of a struct
abbrev pub class_named : List Decl → ClassName → Option ℕ
class_named decls c = class_in decls (the_decl decls c.structure.text) c.lock

-- the lock classes of these names, if each has one
abbrev pub classes_named : List Decl → List ClassName → Option (List ℕ)
classes_named decls [] = Some []
classes_named decls (c ∷ cs) = added (class_named decls c) (classes_named decls cs)

-- a section or a helper from its parts, if it has a `return` exactly if it has a result type
abbrev pub section_with : List Decl → Section → List core.Local → List ℕ → core.Stmts → Option ValueType →
    Option core.Return → Option core.Section
section_with decls s locals classes body None None =
    Some (record {
      name = s.name.text;
      parameters = length s.params;
      locals = locals;
      result_type = None;
      listed = classes;
      body =
          body;
      result = None;
    })
section_with decls s locals classes body (Some t) (Some r) =
    type_of (outside decls) t >>= λ v. Some
    (record {
      name = s.name.text;
      parameters = length s.params;
      locals = locals;
      result_type = Some v;
      listed = classes;
      body =
          body;
      result = Some r;
    })
section_with decls s locals classes body None (Some r) = None
section_with decls s locals classes body (Some t) None = None

abbrev pub section_of : List Decl → Section → Option (List core.Local) → Option Body → Option core.Section
section_of decls s (Some locals) (Some b) =
    classes_named decls s.listed >>= λ classes. section_with decls s locals classes b.stmts s.result b.result
section_of decls s (Some locals) None = None
section_of decls s None b = None

-- the resolved form of a section or a helper, from the scope before its parameters
abbrev pub section_in : Scope → Section → Option core.Section
section_in sc s =
    section_of sc.decls s (core_locals (after_all (entered sc s.params) s.body.stmts).locals)
    (typed_body (entered sc s.params) s.body.stmts)

abbrev pub typed_section : List Decl → BodyLimits → Section → Option core.Section
typed_section decls limits s = section_in (ahead_of decls limits s) s
