-- What the code tests.
use Rattle.resolution.specs.Annotations.{class_of, protection_of}
use Rattle.resolution.specs.Core as core
use Rattle.std.specs.List.{flat_map, list_any}
use Rattle.std.specs.Prelude.{◌&&◌, ℕ, suc, Bool, true, false, not, nat_eq, List, [], ◌∷◌, ◌++◌, Option, Some, None}
use Rattle.std.specs.Prelude.{if◌then◌else◌}
use Rattle.std.specs.Str.{bytes_eq}
use Rattle.explanation.specs.Warnings.{Warning}
use Rattle.syntax.specs.Trees.{Ident, Expr, Stmts, Member, field_member, Decl, struct, global, array, thread}
use Rattle.explanations.specs.Names.{all_in, read_among, written_among, helpers_called, sections_called}
use Rattle.explanations.specs.Names.{cell_names}
use Rattle.explanations.specs.Warnings.{Subject, a_lock, a_local, a_helper, a_section, a_loop, warning}

-- whether a name is one of these
abbrev pub is_named : List Ident → Ident → Bool
is_named names x = list_any (λ (y : Ident). bytes_eq x.text y.text) names

-- ---- locks

abbrev pub class_if : Option ℕ → List ℕ
class_if (Some class) = class ∷ []
class_if None = []

abbrev pub class_at : Option core.Protection → List ℕ
class_at (Some p) = p.class ∷ []
class_at None = []

-- the class at which the annotation of a member ends, in the struct at a place with these members
abbrev pub class_for : List Decl → ℕ → List Member → Member → List ℕ
class_for decls i all (field_member f) = class_at (protection_of decls i all f.protection)
class_for decls i all _ = []

abbrev pub classes_for : List Decl → ℕ → List Member → List ℕ
classes_for decls i members = flat_map (class_for decls i members) members

abbrev pub classes_in_struct : List Decl → ℕ → Decl → List ℕ
classes_in_struct decls i (struct s) = classes_for decls i s.members
classes_in_struct decls i _ = []

abbrev pub classes_by : List Decl → ℕ → Decl → List ℕ
classes_by decls i (global v) = class_if (class_of decls v.protection)
classes_by decls i (array a) = class_if (class_of decls a.protection)
classes_by decls i (struct s) = classes_for decls i s.members
classes_by decls i _ = []

-- the classes at which the annotations of declarations end, from a place on
abbrev pub classes_from : List Decl → ℕ → List Decl → List ℕ
classes_from decls i [] = []
classes_from decls i (d ∷ ds) = classes_by decls i d ++ classes_from decls (suc i) ds

abbrev pub protecting : List Decl → List ℕ
protecting decls = classes_from decls 0 decls

-- ---- tests

abbrev pub is_thread : Decl → Bool
is_thread (thread t) = true
is_thread _ = false

-- whether a body may write what an expression reads
abbrev pub is_changed : List Ident → Expr → Stmts → Bool
is_changed cells e body = list_any (is_named (all_in e)) (written_among cells body)

abbrev pub is_warned : List Decl → Subject → Bool
is_warned decls (a_lock class x) = not (list_any (nat_eq class) (protecting decls))
is_warned decls (a_local body x) = not (is_named (read_among body) x)
is_warned decls (a_helper x) = not (is_named (flat_map helpers_called decls) x)
is_warned decls (a_section x) = list_any is_thread decls && not (is_named (flat_map sections_called decls) x)
is_warned decls (a_loop start e body) = not (is_changed (flat_map cell_names decls) e body)

-- the warning of one, if there is one
abbrev pub warned_of : List Decl → Subject → List Warning
warned_of decls subject = if is_warned decls subject then warning subject ∷ [] else []

abbrev pub warned : List Decl → List Subject → List Warning
warned decls subjects = flat_map (warned_of decls) subjects
