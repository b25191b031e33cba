-- The passes together.
use Rattle.std.proofs.Common.{map, ◌≡◌, List, [], ◌++◌, Option, Some, None, Bool, true, false, refl, sym, ap, ◌∙◌}
use Rattle.std.proofs.Common.{if◌then◌else◌}
use Rattle.std.specs.Prelude.{is_some, not, option_map, option_to_list}
use Rattle.source.specs.Mistakes as mistakes
use Rattle.resolution.specs.declared.finding.Finding.{Finding}
use Rattle.core_lang.specs.declared.typed.Typed.{Typed}
use Rattle.resolution.specs.CoreViews.{core_of}
use Rattle.syntax.specs.Trees.{Decl}
use Rattle.resolution.specs.Core as core
use Rattle.resolution.specs.Working.Findings.{Firsts, plain, nothing_found, found_in}
use Rattle.resolution.specs.Theory.Leasts.{found_append}
use Rattle.resolution.specs.Tables.{nothing_yet}
use Rattle.resolution.specs.Working.Building.{resolved, resolved_from}
use Rattle.resolution.specs.Working.FaultLists.{twice_faults, struct_faults, total_faults, repeated_faults, each_faults}
use Rattle.resolution.specs.Working.Laws.{the_firsts}
use Rattle.types.specs.Working.Grown.{if_right}
use Rattle.core_lang_helpers.specs.Working.FaultLists.{graph_faults}
use Rattle.resolution.specs.CallGraphs.{tree_graph}
use Rattle.types.specs.Working.Whole.{judged_faults}

-- the first ones after the passes over all declarations
abbrev pub firsts_after : Firsts → List Decl → Firsts
firsts_after f ds = found_in f (twice_faults [] ds ++ struct_faults ds ++ total_faults ds [] ds ++ repeated_faults ds [] ds)

-- the first ones of all faults of a program
pub whole_firsts : (ds ps : List Decl) (f g : Firsts) → ps ≡ ds →
    f ≡ found_in nothing_found (twice_faults [] ds ++ struct_faults ds ++ total_faults ds [] ds ++ repeated_faults ds [] ds) →
    g ≡ found_in f (judged_faults ps) → g ≡ the_firsts ds
whole_firsts ds ps f g same hf hg =
    let ahead = twice_faults [] ds ++ struct_faults ds ++ total_faults ds [] ds ++ repeated_faults ds [] ds in
    let each = each_faults ds 0 ds in
    let calls = option_to_list (option_map plain (mistakes.least_of None (graph_faults (tree_graph ds)))) in
    hg ∙ ap (λ (x : List Decl). found_in f (judged_faults x)) same
    ∙ ap (λ (s : Firsts). found_in s (judged_faults ds)) hf
    ∙ found_append (found_in nothing_found ahead) each calls
    ∙ ap (λ (s : Firsts). found_in s calls) (sym (found_append nothing_found ahead each))
    ∙ sym (found_append nothing_found (ahead ++ each) calls)

-- without a fault, the whole is resolved
pub whole_built : (ds ps : List Decl) (start v : Option core.Program) → ps ≡ ds → start ≡ Some nothing_yet →
    v ≡ resolved_from ps 0 start ps → v ≡ resolved ds
whole_built ds ps start v same begun made =
    made ∙ ap (λ (x : List Decl). resolved_from x 0 start x) same ∙ ap (λ (o : Option core.Program). resolved_from ds 0 o ds) begun

-- and a program that is not there is none that the tree stands for
pub none_built : (ds : List Decl) (v : Option core.Program) → v ≡ resolved ds → v ≡ None →
    ((p : core.Program) × (resolved ds ≡ Some p)) → ⊥
none_built ds v is none some = let e : None ≡ Some some.0 = sym none ∙ is ∙ some.1 in cc

-- without declarations and without a fault so far, all is right
pub begun : (f : Option Finding) (b : Bool) (t : Typed) → f ≡ None → is_some f ≡ not b → core_of t ≡ nothing_yet →
    if_right b t ≡ Some nothing_yet
begun f true t none is made = ap Some made
begun f false t none is made = let e : false ≡ true = sym (ap is_some none) ∙ is in absurd (cc)
