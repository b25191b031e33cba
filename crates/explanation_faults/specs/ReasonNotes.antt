-- The notes with the reasons of faults.
use Rattle.std.specs.Fmt.{decimal}
use Rattle.std.specs.Prelude.{◌≡◌, ℕ, List, [], ◌++◌, Option, Some, None, codes}
use Rattle.core_lang.specs.declared.tree.LocalKind.TheVariants as local
use Rattle.core_lang.specs.declared.value.ValueType.{ValueType}
use Rattle.core_lang.specs.declared.value.ValueType.TheVariants.{Integer, Reference}
use Rattle.source.specs.declared.fault.Code.{Code}
use Rattle.syntax.specs.Trees.{Struct, Decl}
use Rattle.resolution.specs.Faults.{IsFaultFor}
use Rattle.resolution.specs.Scopes.{the_struct}
use Rattle.resolution.specs.declared.wanted.Sort.{Sort}
use Rattle.resolution.specs.declared.wanted.Sort.TheVariants as sort
use Rattle.resolution.specs.declared.wanted.Want.{Want}
use Rattle.resolution.specs.declared.wanted.Want.TheVariants as want
use Rattle.resolution.specs.declared.why.Why.{Why}
use Rattle.resolution.specs.declared.why.Why.TheVariants as why
use Rattle.resolution.specs.declared.why.Kind.{Kind}
use Rattle.resolution.specs.declared.why.Kind.TheVariants as kind
use Rattle.resolution.specs.declared.why.Role.{Role}
use Rattle.resolution.specs.declared.why.Role.TheVariants as role
use Rattle.resolution.specs.declared.why.Referent.{Referent}
use Rattle.resolution.specs.declared.why.Referent.TheVariants as stands
use Rattle.explanation.specs.Notes.{Note}
use Rattle.explanation_faults.specs.Words.{note_of_all}

-- ---- types in words

-- the name of a struct; empty for none
abbrev pub struct_words : Option Struct → List ℕ
struct_words (Some s) = s.name.text
struct_words None = []

-- int, or ref S
abbrev pub type_words : List Decl → ValueType → List ℕ
type_words decls Integer = codes "int"
type_words decls (Reference k) = codes "ref " ++ struct_words (the_struct decls k)

-- a value's sort: its type, or null
abbrev pub sort_words : List Decl → Sort → List ℕ
sort_words decls (sort.Of t) = type_words decls t
sort_words decls sort.Null = codes "null"

-- an expression's kind: the sort of its value, or a condition
abbrev pub kind_words : List Decl → Kind → List ℕ
kind_words decls (kind.Value s) = sort_words decls s
kind_words decls kind.Condition = codes "a condition"

-- what is expected
abbrev pub want_words : List Decl → Want → List ℕ
want_words decls want.Anything = codes "any value"
want_words decls want.Condition = codes "a condition"
want_words decls (want.Value t) = type_words decls t

-- ---- names in words

-- what a name stands for
abbrev pub referent_words : Referent → List ℕ
referent_words stands.Nothing = codes "unknown"
referent_words (stands.Local local.Parameter) = codes "a parameter"
referent_words (stands.Local local.Let) = codes "a let"
referent_words (stands.Local local.Var) = codes "a var"
referent_words stands.Lock = codes "a lock"
referent_words stands.Struct = codes "a struct"
referent_words stands.Global = codes "a global"
referent_words stands.Array = codes "an array"
referent_words stands.Pool = codes "a pool"
referent_words stands.Section = codes "a section"
referent_words stands.Helper = codes "a helper"
referent_words stands.Thread = codes "a thread"

-- what is expected of a name
abbrev pub role_words : Role → List ℕ
role_words role.Value = codes ", and a value is expected"
role_words role.Elements = codes ", and an array or a pool is expected"
role_words role.Local = codes ", and a local is expected"
role_words role.Struct = codes ", and a struct is expected"
role_words role.Pool = codes ", and a pool is expected"
role_words role.Section = codes ", and a section is expected"
role_words role.Helper = codes ", and a helper is expected"
role_words role.Target = codes ", and keeps what it is"

-- a hint, where there is one
abbrev pub hint_words : Role → Referent → List ℕ
hint_words role.Value stands.Array = codes ": take an element by its index"
hint_words role.Value stands.Pool = codes ": take a member by its index"
hint_words role.Value stands.Helper = codes ": bind what it gives by let NAME: TYPE = call HELPER(..)"
hint_words role.Local stands.Global = codes ": bind it by a let first, and take fields of that"
hint_words role.Local stands.Array = codes ": bind an element by a let first, and take fields of that"
hint_words role.Local stands.Pool = codes ": bind a member by a let first, and take fields of that"
hint_words role.Section stands.Helper = codes ": threads call what is declared by atomic"
hint_words role.Helper stands.Section = codes ": sections and helpers call what is declared by call in place of atomic"
hint_words role.Target (stands.Local local.Parameter) = codes ": copy it into a var, and assign to that"
hint_words role.Target (stands.Local local.Let) = codes ": declare it by var"
hint_words role.Target stands.Array = codes ": assign to its elements"
hint_words role.Target stands.Pool = codes ": bind a member by a let, and assign to its fields"
hint_words _ _ = []

-- ---- reasons in words

-- E07, for an expression, a constant, the name of a helper in a `let`, and the names after a `where`
abbrev pub unwanted_words : List Decl → Want → Kind → List ℕ
unwanted_words decls w k = codes "expected " ++ want_words decls w ++ codes ", found " ++ kind_words decls k

-- E07, for the sides of `==` and `!=`
abbrev pub side_words : List Decl → Kind → Kind → List ℕ
side_words decls a b = (codes "the left side is " ++ kind_words decls a) ++ (codes ", the right side is " ++ kind_words decls b)

-- E07, for the name of a helper in a `let`
abbrev pub no_result_words : List Decl → ValueType → List ℕ
no_result_words decls t = codes "expected " ++ type_words decls t ++ codes ", found no result"

-- E07 and E09, for a name of another kind, and for one that can't be assigned to (E09); in some cases `: ` and what to
-- write follow
abbrev pub misnamed_words : Role → Referent → List ℕ
misnamed_words r s = codes "this is " ++ referent_words s ++ role_words r ++ hint_words r s

-- E08, for the arguments of a call
abbrev pub count_words : ℕ → ℕ → List ℕ
count_words n k = (codes "arguments expected: " ++ decimal n) ++ (codes ", given: " ++ decimal k)

-- E07 and E09, for the names after a `where`, fields, operators between conditions, and an assignment to a final
-- reference (E09)
abbrev pub fixed_words : Why → List ℕ
fixed_words why.OwnedInt = codes "expected a reference, found int"
fixed_words why.OwnerField = codes "this field can change, and a final reference is expected"
fixed_words why.ListedMember = codes "this member is not a lock"
fixed_words why.FieldOfInt = codes "an int has no fields"
fixed_words why.FieldOfLock = codes "a lock has no fields"
fixed_words why.OperatorOfConditions = codes "this operator stands between conditions"
fixed_words why.FinalTarget = codes "this is a final reference, and keeps what it is"
fixed_words _ = []

-- a reason in words: what is expected and what was found, what both sides are, what a name stands for, how many
-- arguments
abbrev pub reason_words : List Decl → Why → List ℕ
reason_words decls (why.Unwanted w k) = unwanted_words decls w k
reason_words decls (why.Unlike a b) = side_words decls a b
reason_words decls (why.NoResult t) = no_result_words decls t
reason_words decls (why.Misnamed r s) = misnamed_words r s
reason_words decls (why.Counted n k) = count_words n k
reason_words decls w = fixed_words w

-- the note with the words of a reason
abbrev pub reason_note : List Decl → Why → Note
reason_note decls w = note_of_all (reason_words decls w)

-- ---- truth

-- the note has the reason of a fault of this code at this byte
pub record IsReasonNote (decls : List Decl) (code : Code) (at : ℕ) (note : Note) : Type 0 where
  pub why : Why
  pub is_so : IsFaultFor decls code at why
  pub said : note ≡ reason_note decls why
