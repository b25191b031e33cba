use Rattle.std.proofs.Common.{◌≡◌, ◌∙◌, List, true, false, sym, ap, subst}
use Rattle.core_lang_helpers.specs.Graphs.{Body, bodies_of}
use Rattle.core_lang_helpers.specs.declared.graph.CallerBody as code
use Rattle.resolution.specs.CallGraphs.{tree_graph}
use Rattle.types_symbols.specs.Working.Views.{decls_of}
use Rattle.explanation_faults.specs.HelperLimits.{depth, brought}
use Rattle.explanation_faults.specs.Working.HelpersFound.{IsDeepThere}
use Rattle.explanation_faults.proofs.HelperLimits.{deep_over, deep_there, first_over, first_there}
use Rattle.explanation_faults.proofs.helper_limits.helper_limit.Goals as goal

pub returns-then-branch : goal.returns-then-branch
returns-then-branch c =
    let ds = decls_of c.args.symbols.now in
    let same = ap (λ (l : List code.CallerBody). bodies_of l) c.deref.ensures.value ∙ c.in_ok-helpers.ensures in
    let d = deep_over (tree_graph ds) c.args.at (subst (λ (l : List Body). IsDeepThere l c.args.at) same (c.in_ok-is_deep_there.ensures.0 c.if-branch.true)) in
    depth d.0 d.1

pub returns-then-branch-2 : goal.returns-then-branch-2
returns-then-branch-2 c =
    let ds = decls_of c.args.symbols.now in
    let same = ap (λ (l : List code.CallerBody). bodies_of l) c.deref.ensures.value ∙ c.in_ok-helpers.ensures in
    let o = first_over c.listed_faults.ensures.listed c.listed_faults.ensures.all ds c.args.at (c.in_ok-is_first_there.ensures.0 c.if-branch-2.true) in
    brought o
    (λ is.
    let d = subst (λ (l : List Body). IsDeepThere l c.args.at) (sym same) (deep_there (tree_graph ds) c.args.at o is) in
    let e : false ≡ true = sym c.if-branch.false ∙ c.in_ok-is_deep_there.ensures.1 d in absurd cc)

pub returns : goal.returns
returns c first =
    let ds = decls_of c.args.symbols.now in
    let so = first_there c.listed_faults.ensures.listed c.listed_faults.ensures.all ds c.args.at first in
    let e : false ≡ true = sym c.if-branch-2.false ∙ c.in_ok-is_first_there.ensures.1 so in absurd cc
