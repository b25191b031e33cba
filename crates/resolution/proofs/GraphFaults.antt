-- The faults of a program are those of its declarations and those of its graph.
use Rattle.std.proofs.Common.{◌≡◌, ℕ, List, [], ◌∷◌, map, None, inl, inr, refl, sym, subst}
use Rattle.source.specs.declared.mistake.Mistake.{Mistake}
use Rattle.resolution.specs.declared.finding.Finding.{Finding}
use Rattle.resolution.specs.Working.Findings.{plain, least_of}
use Rattle.source.specs.Theory.Leasts as bare
use Rattle.source.specs.declared.fault.Code.{Code}
use Rattle.core_lang_helpers.specs.Faults.{IsGraphFault, recursive, over_limit}
use Rattle.resolution.specs.Theory.Leasts.{IsAmong, IsOneOf, least_none, among_left, among_right}
use Rattle.resolution.specs.declared.why.Why.TheVariants as why
use Rattle.resolution.specs.Faults.{IsFaultFor, plainly, of_calls}
use Rattle.syntax.specs.Trees.{Decl}
use Rattle.core_lang_helpers.specs.Working.FaultLists.{graph_faults}
use Rattle.core_lang_helpers.specs.Working.Laws.{FaultsAreListed, HasNoGraphFault}
use Rattle.resolution.specs.CallGraphs.{tree_graph}
use Rattle.resolution.specs.Working.FaultLists.{declaration_faults, program_faults}
use Rattle.resolution.proofs.FaultlessExpressions.{Clean}

pub of_declarations : (decls : List Decl) (f : Mistake) → IsAmong f (declaration_faults decls) →
    IsAmong f (program_faults decls)
of_declarations decls f i = among_left f (declaration_faults decls) (map plain (graph_faults (tree_graph decls))) i

among_plain : (f : Mistake) (gs : List Mistake) → bare.IsAmong f gs → IsAmong f (map plain gs)
among_plain f [] i = absurd i
among_plain f (g ∷ gs) (inl e) = inl e
among_plain f (g ∷ gs) (inr i) = inr (among_plain f gs i)

pub of_graph : (decls : List Decl) (f : Mistake) → bare.IsAmong f (graph_faults (tree_graph decls)) →
    IsAmong f (program_faults decls)
of_graph decls f i =
    among_right f (declaration_faults decls) (map plain (graph_faults (tree_graph decls))) (among_plain f (graph_faults (tree_graph decls)) i)

-- a fault of the graph has a code that says all
pub plain_code : (decls : List Decl) (c : Code) (p : ℕ) → IsGraphFault (tree_graph decls) c p → IsFaultFor decls c p why.Plain
plain_code decls c p (recursive h) = plainly tt (of_calls (recursive h))
plain_code decls c p (over_limit h) = plainly tt (of_calls (over_limit h))

-- and its reason is true
pub true_graph : (decls : List Decl) (gs : List Mistake) →
    ((m : Mistake) → bare.IsAmong m gs → IsGraphFault (tree_graph decls) m.code m.start) → (f : Finding) → IsOneOf f (map plain gs) →
    IsFaultFor decls f.code f.start f.why
true_graph decls [] so f i = absurd i
true_graph decls (g ∷ gs) so f (inl e) =
    subst (λ (x : Finding). IsFaultFor decls x.code x.start x.why) (sym e) (plain_code decls g.code g.start (so g (inl refl)))
true_graph decls (g ∷ gs) so f (inr i) = true_graph decls gs (λ m j. so m (inr j)) f i

-- without a least fault, neither list has one
pub clean_of : (decls : List Decl) → least_of None (program_faults decls) ≡ None → Clean decls
clean_of decls e = λ f i. subst (IsAmong f) (least_none (program_faults decls) e) (of_declarations decls f i)

pub no_graph_fault : (decls : List Decl) → least_of None (program_faults decls) ≡ None → FaultsAreListed →
    HasNoGraphFault (tree_graph decls)
no_graph_fault decls e listed = λ code p h.
    let f : Mistake = record { code = code; start = p } in
    subst (IsAmong f) (least_none (program_faults decls) e) (of_graph decls f (listed (tree_graph decls) code p h))
