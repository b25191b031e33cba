-- What an accepted program may have by mistake: a lock that protects nothing, a local that nothing reads, a helper or a
-- section that nothing calls, a loop that doesn't change its condition.
use Rattle.std.specs.List.{flat_map}
use Rattle.std.specs.Prelude.{◌≡◌, ℕ, suc, ◌+◌, List, [], ◌∷◌, ◌++◌, map, slice_get, Some}
use Rattle.explanation.specs.Warnings.{Warning, useless_words, unused_words, uncalled_words, idle_words}
use Rattle.explanation.specs.Warnings.{unchanged_words}
use Rattle.resolution.specs.Annotations.{class_number, class_of, protection_of}
use Rattle.resolution.specs.Core as core
use Rattle.resolution.specs.Where.{Has}
use Rattle.source.specs.declared.span.Span.{Span}
use Rattle.syntax.specs.Trees.{Ident, Expr, Stmt, let_local, let_owned, let_call, var_local, while, Stmts, Variable}
use Rattle.syntax.specs.Trees.{Array, Field, Member, lock_member, field_member, Struct, Section, Thread, Decl, lock}
use Rattle.syntax.specs.Trees.{struct, global, array, atomic, helper, thread}
use Rattle.explanation_names.specs.Vars.{all_of}
use Rattle.explanations.specs.Names.{all_in, read_among, written_among, helpers_called, sections_called}
use Rattle.explanations.specs.Names.{cell_names}

-- ---- the subjects of warnings

-- what a warning is about: a lock with its class, a local with the body that it is in, a helper, a section, or a loop
pub data Subject : Type 0 where
  a_lock : (class : ℕ) → Ident → Subject
  a_local : (body : Stmts) → Ident → Subject
  a_helper : Ident → Subject
  a_section : Ident → Subject
  a_loop : (start : Span) → Expr → Stmts → Subject

-- the locks of the struct at a place, the first of which has the number n in it
abbrev pub own_locks : List Decl → ℕ → ℕ → List Member → List Subject
own_locks decls i n [] = []
own_locks decls i n (lock_member x ∷ ms) = a_lock (class_number decls i n) x ∷ own_locks decls i (n + 1) ms
own_locks decls i n (m ∷ ms) = own_locks decls i n ms

-- the subject that a statement of a body itself is or declares
abbrev pub subject_of : Stmts → Stmt → List Subject
subject_of body (let_local l) = a_local body l.name ∷ []
subject_of body (let_owned l o) = a_local body l.name ∷ []
subject_of body (let_call l) = a_local body l.name ∷ []
subject_of body (var_local l) = a_local body l.name ∷ []
subject_of body (while start e inner close) = a_loop start e inner ∷ []
subject_of body _ = []

-- the subjects that the statements of a section are or declare
abbrev pub subjects_in : Section → List Subject
subjects_in s = flat_map (subject_of s.body.stmts) (all_of s.body.stmts)

-- the subjects of the declaration at a place: itself, and what is in it
abbrev pub subjects_of : List Decl → ℕ → Decl → List Subject
subjects_of decls i (lock x) = a_lock (class_number decls i 0) x ∷ []
subjects_of decls i (struct s) = own_locks decls i 0 s.members
subjects_of decls i (atomic s) = a_section s.name ∷ subjects_in s
subjects_of decls i (helper s) = a_helper s.name ∷ subjects_in s
subjects_of decls i _ = []

-- the subjects of declarations from a place on, as they stand in the text
abbrev pub subjects_from : List Decl → ℕ → List Decl → List Subject
subjects_from decls i [] = []
subjects_from decls i (d ∷ ds) = subjects_of decls i d ++ subjects_from decls (suc i) ds

-- ---- what is warned of

-- the annotation of a global, an array or a field ends at the lock of this class
pub data IsProtecting (decls : List Decl) (class : ℕ) : Type 0 where
  a_global : {v : Variable} → Has decls (global v) → class_of decls v.protection ≡ Some class → IsProtecting decls class
  an_array : {a : Array} → Has decls (array a) → class_of decls a.protection ≡ Some class → IsProtecting decls class
  a_field : (i : ℕ) {s : Struct} {f : Field} {p : core.Protection} → slice_get decls i ≡ Some (struct s) →
      Has s.members (field_member f) → protection_of decls i s.members f.protection ≡ Some p → p.class ≡ class →
      IsProtecting decls class

-- one of the names is the same as x
pub record IsNamed (names : List Ident) (x : Ident) : Type 0 where
  pub name : Ident
  pub listed : Has names name
  pub same : x.text ≡ name.text

-- the program has a thread
pub record HasThread (decls : List Decl) : Type 0 where
  pub a_thread : Thread
  pub listed : Has decls (thread a_thread)

-- a subject with a warning: a lock at which no annotation ends, a local that its body doesn't read, a helper that
-- nothing calls, a section that no thread calls in a program with threads, or a loop whose body does not write a name
-- of its condition
abbrev pub IsWarned : List Decl → Subject → Type 0
IsWarned decls (a_lock class x) = IsProtecting decls class → ⊥
IsWarned decls (a_local body x) = IsNamed (read_among body) x → ⊥
IsWarned decls (a_helper x) = IsNamed (flat_map helpers_called decls) x → ⊥
IsWarned decls (a_section x) = HasThread decls × (IsNamed (flat_map sections_called decls) x → ⊥)
IsWarned decls (a_loop start e body) =
    (x : Ident) → Has (written_among (flat_map cell_names decls) body) x → IsNamed (all_in e) x → ⊥

-- ---- the warnings

-- the warning on a subject: its place and its words
abbrev pub warning : Subject → Warning
warning (a_lock class x) = record { start = x.span.start; words = useless_words x.text }
warning (a_local body x) = record { start = x.span.start; words = unused_words x.text }
warning (a_helper x) = record { start = x.span.start; words = uncalled_words x.text }
warning (a_section x) = record { start = x.span.start; words = idle_words x.text }
warning (a_loop start e body) = record { start = start.start; words = unchanged_words }

-- the second list has the elements of the first one for which P holds, in their order
pub data IsSifted {A : Type 0} (P : A → Type 0) : List A → List A → Type 0 where
  at_end : IsSifted P [] []
  kept : {x : A} {xs ys : List A} → P x → IsSifted P xs ys → IsSifted P (x ∷ xs) (x ∷ ys)
  left_out : {x : A} {xs ys : List A} → (P x → ⊥) → IsSifted P xs ys → IsSifted P (x ∷ xs) ys

-- a warning on each subject that is warned of, in the order of the text, each once
pub record AreWarnings (decls : List Decl) (warnings : List Warning) : Type 0 where
  pub warned : List Subject
  pub are : IsSifted (IsWarned decls) (subjects_from decls 0 decls) warned
  pub tell : warnings ≡ map warning warned
