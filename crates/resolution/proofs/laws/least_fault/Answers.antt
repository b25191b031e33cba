use Rattle.std.proofs.Common.{◌≡◌, ℕ, List, map, Some, inl, inr, subst}
use Rattle.source.specs.declared.fault.Code.{Code}
use Rattle.source.specs.declared.mistake.Mistake.{Mistake}
use Rattle.syntax.specs.Trees.{Decl}
use Rattle.core_lang_helpers.specs.Working.FaultLists.{graph_faults}
use Rattle.core_lang_helpers.specs.Working.Laws.{ListedAreFaults}
use Rattle.resolution.specs.declared.finding.Finding.{Finding}
use Rattle.resolution.specs.declared.why.Why.{Why}
use Rattle.resolution.specs.Working.Findings.{plain}
use Rattle.resolution.specs.Theory.Leasts.{least_in, least_none, none_before, IsAmong, one_of_either}
use Rattle.resolution.specs.CallGraphs.{tree_graph}
use Rattle.resolution.specs.Faults.{IsFault, IsFaultFor, for_type, for_count, for_target, plainly, wrong_type, miscounted, not_assignable}
use Rattle.resolution.specs.Working.FaultLists.{declaration_faults, program_faults}
use Rattle.resolution.specs.Working.Laws.{the_least}
use Rattle.resolution.proofs.TrueFaults.{true_faults}
use Rattle.resolution.proofs.AllFaults.{all_faults}
use Rattle.resolution.proofs.GraphFaults.{of_declarations, of_graph, true_graph}
use Rattle.resolution.proofs.laws.least_fault.Goals as goal

reasoned : ListedAreFaults → (decls : List Decl) (f : Finding) → the_least decls ≡ Some f → IsFaultFor decls f.code f.start f.why
reasoned listed decls f e =
    let graph = graph_faults (tree_graph decls) in
    elim (one_of_either f (declaration_faults decls) (map plain graph) (least_in f (program_faults decls) e)) [
      | inl i ↦ true_faults decls f i
      | inr i ↦ true_graph decls graph (listed (tree_graph decls)) f i
    ]

fault_of : {decls : List Decl} {c : Code} {p : ℕ} {w : Why} → IsFaultFor decls c p w → IsFault decls c p
fault_of (for_type h) = wrong_type h
fault_of (for_count h) = miscounted h
fault_of (for_target h) = not_assignable h
fault_of (plainly c h) = h

pub returns-clause-fault : goal.returns-clause-fault
returns-clause-fault c = λ decls f e. fault_of (reasoned c.listed_faults.ensures.listed decls f e)

pub returns-clause-reason : goal.returns-clause-reason
returns-clause-reason c = λ decls f e. reasoned c.listed_faults.ensures.listed decls f e

pub returns-clause-least : goal.returns-clause-least
returns-clause-least c = λ decls f e code p h.
    let g : Mistake = record { code = code; start = p } in
    none_before f g (program_faults decls) (elim (all_faults decls code p h) [
      | inl x ↦ of_graph decls g (c.listed_faults.ensures.all (tree_graph decls) code p x)
      | inr i ↦ of_declarations decls g i
    ]) e

pub returns-clause-none : goal.returns-clause-none
returns-clause-none c = λ decls e code p h.
    let g : Mistake = record { code = code; start = p } in
    subst (IsAmong g) (least_none (program_faults decls) e) (elim (all_faults decls code p h) [
      | inl x ↦ of_graph decls g (c.listed_faults.ensures.all (tree_graph decls) code p x)
      | inr i ↦ of_declarations decls g i
    ])
