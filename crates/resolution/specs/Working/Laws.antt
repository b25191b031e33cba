-- Laws of resolution and of faults, as `src/laws.rt` claims them.
use Rattle.std.specs.Prelude.{◌≡◌, ℕ, List, ◌++◌, Option, Some, None, false, option_map, option_to_list}
use Rattle.source.specs.declared.fault.Code.{Code}
use Rattle.syntax.specs.Trees.{Decl, Section, helper}
use Rattle.syntax.specs.Returns.{ReturnsRight}
use Rattle.core_lang.specs.declared.typed.Typed.{Typed}
use Rattle.core_lang.specs.WellFormed.{IsChecked, IsWellFormed}
use Rattle.source.specs.declared.mistake.Mistake.{Mistake}
use Rattle.source.specs.Mistakes.{goes_before}
use Rattle.resolution.specs.declared.finding.Finding.{Finding}
use Rattle.resolution.specs.Working.Findings.{mistake_of, plain, least_of, Firsts, first, nothing_found, found_in}
use Rattle.resolution.specs.FirstFaults.{AreFirstFaults}
use Rattle.source.specs.Mistakes as bare
use Rattle.core_lang_helpers.specs.Working.FaultLists.{graph_faults}
use Rattle.resolution.specs.Core as core
use Rattle.resolution.specs.Working.Building.{resolved}
use Rattle.resolution.specs.Tables.{AreTables}
use Rattle.resolution.specs.Resolved.{Resolves}
use Rattle.resolution.specs.Where.{Has, Asks}
use Rattle.resolution.specs.Faults.{IsFault, IsFaultFor, HasNoFault}
use Rattle.resolution.specs.Working.FaultLists.{declaration_faults, program_faults}
use Rattle.core_lang_helpers.specs.Working.Programs.{IsGraphOf}
use Rattle.resolution.specs.CallGraphs.{tree_graph}
use Rattle.syntax.specs.Trees.{Ident, Const, Param, Expr, Place, assign, Stmt, Stmts}
use Rattle.core_lang.specs.declared.value.Value.{Value}
use Rattle.core_lang.specs.declared.value.Value.TheVariants.{Ref}
use Rattle.core_lang.specs.declared.value.ValueType.{ValueType}
use Rattle.core_lang.specs.declared.value.ValueType.TheVariants.{Reference}
use Rattle.resolution.specs.declared.body_limits.BodyLimits.{BodyLimits}
use Rattle.resolution.specs.declared.owner_field.OwnerField.{OwnerField}
use Rattle.resolution.specs.declared.wanted.Sort.{Sort}
use Rattle.resolution.specs.declared.wanted.Want.{Want}
use Rattle.resolution.specs.declared.wanted.Want.TheVariants as wanted
use Rattle.resolution.specs.Scopes.{Scope}
use Rattle.resolution.specs.Expressions.{ResolvedExpr}
use Rattle.resolution.specs.Typing.{Types, Assigns, IsFinalOf, TypesStmt, TypesBody, TypesSection}
use Rattle.resolution.specs.Working.TypedExpressions.{typed}
use Rattle.resolution.specs.Working.TypedOwners.{owner_field}
use Rattle.resolution.specs.Working.TypedStatements.{Assignee, wanted_by, target_of, set_to, does, typed_stmt, Body}
use Rattle.resolution.specs.Working.TypedStatements.{typed_body}
use Rattle.resolution.specs.Working.TypedSections.{typed_section}
use Rattle.resolution.specs.Constants.{IsOfSort, Yields, AreArguments, Opens}
use Rattle.resolution.specs.Working.TypedConstants.{const_sort, typed_const, typed_arguments, opened, referred}

-- the least fault of the program's list, if there is one
abbrev pub the_least : List Decl → Option Finding
the_least decls = least_of None (program_faults decls)

-- the first faults of the program's list, which has only the least fault of calls
abbrev pub the_firsts : List Decl → Firsts
the_firsts decls =
    found_in nothing_found (declaration_faults decls ++ option_to_list (option_map plain (bare.least_of None (graph_faults (tree_graph decls)))))

-- the first faults of the list are first faults of the program
abbrev pub TheFirstsAreFirstFaults : Type 0
TheFirstsAreFirstFaults = (decls : List Decl) → AreFirstFaults decls (the_firsts decls)

-- the first of these faults is the least
abbrev pub TheFirstIsTheLeast : Type 0
TheFirstIsTheLeast = (decls : List Decl) → first (the_firsts decls) ≡ the_least decls

-- the least fault of the list is a fault of the program
abbrev pub TheLeastIsAFault : Type 0
TheLeastIsAFault = (decls : List Decl) (f : Finding) → the_least decls ≡ Some f → IsFault decls f.code f.start

-- the reason of the least fault is true
abbrev pub TheLeastHasItsReason : Type 0
TheLeastHasItsReason = (decls : List Decl) (f : Finding) → the_least decls ≡ Some f → IsFaultFor decls f.code f.start f.why

-- no fault of the program comes before this one
abbrev pub IsFirst : List Decl → Mistake → Type 0
IsFirst decls f = (code : Code) (p : ℕ) → IsFault decls code p →
    goes_before (record { code = code; start = p }) f ≡ false

-- no fault of the program comes before the least of the list
abbrev pub NoneGoesBeforeTheLeast : Type 0
NoneGoesBeforeTheLeast = (decls : List Decl) (f : Finding) → the_least decls ≡ Some f → IsFirst decls (mistake_of f)

-- two faults of a program before which no other comes are the same
abbrev pub HaveAtMostOneLeast : Type 0
HaveAtMostOneLeast = (decls : List Decl) (f g : Mistake) → IsFault decls f.code f.start →
    IsFault decls g.code g.start → IsFirst decls f → IsFirst decls g → f ≡ g

-- if the list has no least fault, the program has no fault
abbrev pub NoLeastIsNoFault : Type 0
NoLeastIsNoFault = (decls : List Decl) → the_least decls ≡ None → HasNoFault decls

-- a tree without faults, whose returns are right, stands for a program
abbrev pub FaultlessAreResolved : Type 0
FaultlessAreResolved = (decls : List Decl) → ReturnsRight decls → the_least decls ≡ None →
    (p : core.Program) × AreTables decls p

-- the program that the code builds from a tree is one that the rules build
abbrev pub ResolvedByRules : Type 0
ResolvedByRules = (decls : List Decl) (p : core.Program) → resolved decls ≡ Some p → AreTables decls p

-- each program that the rules build from a tree is the one that the code builds
abbrev pub RulesAreResolved : Type 0
RulesAreResolved = (decls : List Decl) (p : core.Program) → AreTables decls p → resolved decls ≡ Some p

-- a tree stands for at most one program
abbrev pub StandsForOne : Type 0
StandsForOne = (decls : List Decl) (p q : core.Program) → AreTables decls p → AreTables decls q → p ≡ q

-- the call graph of a tree without faults is that of its resolution
abbrev pub GraphOfResolved : Type 0
GraphOfResolved = (decls : List Decl) (program : Typed) → the_least decls ≡ None → Resolves decls program →
    IsGraphOf program (tree_graph decls)

-- the resolution of a tree without faults is a checked program
abbrev pub ResolvedAreChecked : Type 0
ResolvedAreChecked =
    (decls : List Decl) (program : Typed) → the_least decls ≡ None → Resolves decls program → IsChecked program

-- the tree declares no helper
abbrev pub DeclaresNoHelper : List Decl → Type 0
DeclaresNoHelper decls = (s : Section) → Has decls (helper s) → ⊥

-- the resolution of a tree without faults and without helpers is well formed
abbrev pub WithoutHelpersAreWellFormed : Type 0
WithoutHelpersAreWellFormed =
    (decls : List Decl) (program : Typed) → the_least decls ≡ None → Resolves decls program → DeclaresNoHelper decls →
    IsWellFormed program

-- ---- the code computes exactly the results of the rules

abbrev pub ExpressionsByRules : Type 0
ExpressionsByRules =
    (sc : Scope) (e : Expr) (r : ResolvedExpr) →
    (typed sc e ≡ Some r → Types sc e r) × (Types sc e r → typed sc e ≡ Some r)

-- each target that the code finds is a left side by the rules
abbrev pub FoundAreAssigned : Type 0
FoundAreAssigned =
    (sc : Scope) (p : Place) (a : Assignee) → target_of sc p ≡ Some a → Assigns sc p a.value_type (set_to a.target)

-- each left side by the rules is found by the code
abbrev pub AssignedAreFound : Type 0
AssignedAreFound =
    (sc : Scope) (p : Place) (t : ValueType) (set : core.Expr → core.Action) → Assigns sc p t set →
    (a : Assignee) × (target_of sc p ≡ Some a) × (a.value_type ≡ t) × (set_to a.target ≡ set)

-- the code and the rules expect the same of an assigned value
abbrev pub WantedAreAsked : Type 0
WantedAreAsked =
    (sc : Scope) (p : Place) →
    ((e : Expr) → Asks sc (assign p e) (wanted_by (target_of sc p)) e) ×
    ((t : ValueType) (set : core.Expr → core.Action) → Assigns sc p t set →
    wanted_by (target_of sc p) ≡ wanted.Value t) ×
    (((t : ValueType) (set : core.Expr → core.Action) → Assigns sc p t set → ⊥) →
    wanted_by (target_of sc p) ≡ wanted.Anything)

-- the code finds the final reference after `where` exactly as the rules say
abbrev pub FinalsByRules : Type 0
FinalsByRules =
    (decls : List Decl) (t : ValueType) (x : Ident) (f : OwnerField) →
    (owner_field decls (Some t) x ≡ Some f → IsFinalOf decls t x f) ×
    (IsFinalOf decls t x f → owner_field decls (Some t) x ≡ Some f)

abbrev pub StatementsByRules : Type 0
StatementsByRules =
    (sc : Scope) (s : Stmt) (x : core.Stmt) →
    (typed_stmt sc s ≡ Some (does x) → TypesStmt sc s x.start x.action) ×
    (TypesStmt sc s x.start x.action → typed_stmt sc s ≡ Some (does x))

abbrev pub BodiesByRules : Type 0
BodiesByRules =
    (sc : Scope) (stmts : Stmts) (b : Body) →
    (typed_body sc stmts ≡ Some b → TypesBody sc stmts b.stmts b.result) ×
    (TypesBody sc stmts b.stmts b.result → typed_body sc stmts ≡ Some b)

abbrev pub SectionsByRules : Type 0
SectionsByRules =
    (decls : List Decl) (limits : BodyLimits) (s : Section) (x : core.Section) →
    (typed_section decls limits s ≡ Some x → TypesSection decls limits s x) ×
    (TypesSection decls limits s x → typed_section decls limits s ≡ Some x)

-- ---- constants

abbrev pub SortsByRules : Type 0
SortsByRules =
    (decls : List Decl) (c : Const) (s : Sort) →
    (const_sort decls c ≡ Some s → IsOfSort decls c s) × (IsOfSort decls c s → const_sort decls c ≡ Some s)

abbrev pub ConstantsByRules : Type 0
ConstantsByRules =
    (decls : List Decl) (w : Want) (c : Const) (v : Value) →
    (typed_const decls w c ≡ Some v → Yields decls w c v) × (Yields decls w c v → typed_const decls w c ≡ Some v)

abbrev pub ArgumentsByRules : Type 0
ArgumentsByRules =
    (decls : List Decl) (ps : List Param) (cs : List Const) (vs : List Value) →
    (typed_arguments decls ps cs ≡ Some vs → AreArguments decls ps cs vs) ×
    (AreArguments decls ps cs vs → typed_arguments decls ps cs ≡ Some vs)

abbrev pub OpeningsByRules : Type 0
OpeningsByRules =
    (decls : List Decl) (t : ValueType) (given : Option Const) (v : Value) →
    (opened decls t given ≡ Some v → Opens decls t given v) × (Opens decls t given v → opened decls t given ≡ Some v)

abbrev pub ReferencesByRules : Type 0
ReferencesByRules =
    (decls : List Decl) (s : ℕ) (c : Const) (o : ℕ) →
    (referred decls (Some s) (Some c) ≡ Some o → Yields decls (wanted.Value (Reference s)) c (Ref (Some o))) ×
    (Yields decls (wanted.Value (Reference s)) c (Ref (Some o)) → referred decls (Some s) (Some c) ≡ Some o)
