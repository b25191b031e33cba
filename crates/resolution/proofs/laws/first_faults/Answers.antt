use Rattle.std.proofs.Common.{◌≡◌, ℕ, ◌++◌, ◌≤◌, arith, List, None, true, inl, inr, sym, ◌∙◌, ap, subst}
use Rattle.std.specs.Prelude.{option_map, option_to_list}
use Rattle.source.specs.declared.mistake.Mistake.{Mistake}
use Rattle.source.specs.Mistakes as bare
use Rattle.syntax.specs.Trees.{Decl}
use Rattle.core_lang_helpers.specs.Working.FaultLists.{graph_faults}
use Rattle.core_lang_helpers.specs.Working.Laws.{ListedAreFaults}
use Rattle.resolution.specs.declared.finding.Finding.{Finding}
use Rattle.resolution.specs.Working.Findings.{plain, nothing_found, found_in, IsOneOf}
use Rattle.resolution.specs.Theory.Leasts.{one_of_either, among_left}
use Rattle.resolution.specs.CallGraphs.{tree_graph}
use Rattle.resolution.specs.Faults.{IsFaultFor}
use Rattle.resolution.specs.Working.FaultLists.{declaration_faults}
use Rattle.resolution.proofs.TrueFaults.{true_faults}
use Rattle.resolution.proofs.AllFaults.{all_faults}
use Rattle.resolution.proofs.GraphFaults.{plain_code}
use Rattle.resolution.proofs.FirstOnes.{one_found, rises_found, few_found, among_found, more_found, least_alone, alone_of}
use Rattle.resolution.specs.Theory.Firsts.{first_found}
use Rattle.resolution.proofs.laws.first_faults.Goals as goal

-- of calls the least alone is there
abbrev alone : List Decl → List Finding
alone decls = option_to_list (option_map plain (bare.least_of None (graph_faults (tree_graph decls))))

each : ListedAreFaults → (decls : List Decl) (f : Finding) → IsOneOf f (declaration_faults decls ++ alone decls) →
    IsFaultFor decls f.code f.start f.why
each listed decls f i = elim (one_of_either f (declaration_faults decls) (alone decls) i) [
  | inl d ↦ true_faults decls f d
  | inr a ↦
      let x = alone_of f (graph_faults (tree_graph decls)) a in
      subst (λ (g : Finding). IsFaultFor decls g.code g.start g.why) (sym x.2)
      (plain_code decls x.0.code x.0.start (listed (tree_graph decls) x.0 x.1))
]

pub returns-clause-firsts : goal.returns-clause-firsts
returns-clause-firsts c = λ decls.
    let gs = declaration_faults decls ++ alone decls in
    let one = each c.listed_faults.ensures.listed decls in
    let more = more_found (λ f. IsFaultFor decls f.code f.start f.why) nothing_found gs tt (λ f i. absurd i) one (λ e. cc) in
    record {
      faults = λ f i. elim (one_found f nothing_found gs i) [ inl none ↦ absurd none | inr j ↦ one f j ];
      rising = rises_found nothing_found gs tt;
      few = few_found nothing_found gs (omega arith);
      whole = λ e code start h. elim (all_faults decls code start h) [
        | inl g ↦ inl g
        | inr i ↦ inr (among_found (record { code = code; start = start }) nothing_found gs e
            (inr (among_left (record { code = code; start = start }) (declaration_faults decls) (alone decls) i)))
      ];
      full = λ e. (more e).0;
      further = λ e. ((more e).1, (more e).2, (more e).3);
    }

pub returns-clause-first : goal.returns-clause-first
returns-clause-first c = λ decls.
    first_found nothing_found (declaration_faults decls ++ alone decls)
    ∙ least_alone (declaration_faults decls) (graph_faults (tree_graph decls))
