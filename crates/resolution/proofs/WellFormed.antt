-- A program without faults is resolved to a well-formed one.
use Rattle.std.proofs.Common.{◌≡◌, ℕ, List, Some}
use Rattle.std.specs.Prelude.{slice_get}
use Rattle.syntax.specs.Trees.{Section, Decl}
use Rattle.core_lang.specs.declared.tree.Section as the_section
use Rattle.core_lang.specs.declared.typed.Typed.{Typed}
use Rattle.core_lang.specs.WellFormed.{IsChecked, IsWellFormed}
use Rattle.core_lang.specs.Theory.Items.{map_at}
use Rattle.resolution.specs.CoreViews.{core_section}
use Rattle.resolution.specs.Limits.{section_limits, helper_limits}
use Rattle.resolution.specs.Working.TypedSections.{typed_section}
use Rattle.core_lang_helpers.specs.Working.Programs.{CallsKeepLimits}
use Rattle.core_lang_helpers.specs.Working.Laws.{FaultlessKeepLimits, HasNoGraphFault}
use Rattle.resolution.specs.CallGraphs.{tree_graph}
use Rattle.resolution.specs.Working.Laws.{DeclaresNoHelper}
use Rattle.resolution.specs.Resolved.{Resolves}
use Rattle.resolution.proofs.FaultlessExpressions.{Clean}
use Rattle.resolution.proofs.LaidProgram.{no_helpers, sound, helped, laid_out, protected, opens, sections_are}
use Rattle.resolution.proofs.LaidProgram.{helpers_are, scripts}
use Rattle.resolution.proofs.WithinLimits.{within_limits}
use Rattle.resolution.proofs.WellSections.{section_well_typed, section_well_scoped}
use Rattle.resolution.proofs.TreeGraphs.{graph_is}

-- a section of the program is that of a declaration
section_from : (decls : List Decl) → Clean decls → (program : Typed) → Resolves decls program →
    (k : ℕ) (x : the_section.Section) → slice_get program.sections.items k ≡ Some x →
    (s : Section) × (typed_section decls section_limits s ≡ Some (core_section x))
section_from decls clean program is k x at =
    let r = sections_are decls clean program is k (core_section x) (map_at core_section program.sections.items k x at) in
    (r.1, r.4)

-- a helper too
helper_from : (decls : List Decl) → Clean decls → (program : Typed) → Resolves decls program →
    (k : ℕ) (x : the_section.Section) → slice_get program.shape.helpers.items k ≡ Some x →
    (s : Section) × (typed_section decls helper_limits s ≡ Some (core_section x))
helper_from decls clean program is k x at =
    let r = helpers_are decls clean program is k (core_section x) (map_at core_section program.shape.helpers.items k x at) in
    (r.1, r.4)

keeps_limits : (decls : List Decl) → Clean decls → (program : Typed) → Resolves decls program →
    FaultlessKeepLimits → HasNoGraphFault (tree_graph decls) → CallsKeepLimits program
keeps_limits decls clean program is keep none =
    keep program (tree_graph decls) (graph_is decls clean program is) none (within_limits decls clean program is)
    (λ k x at. (let r = helper_from decls clean program is k x at in section_well_typed decls program (sound decls clean program is) (helped decls clean program is) helper_limits r.0 x r.1))
    (λ k x at. (let r = section_from decls clean program is k x at in section_well_scoped decls section_limits r.0 x r.1))

pub checked : (decls : List Decl) → Clean decls → (program : Typed) → Resolves decls program →
    FaultlessKeepLimits → HasNoGraphFault (tree_graph decls) → IsChecked program
checked decls clean program is keep none = record {
  within = within_limits decls clean program is;
  laid_out = laid_out decls clean program is;
  protected = protected decls clean program is;
  opens = opens decls clean program is;
  sections = λ k x at. (let r = section_from decls clean program is k x at in section_well_typed decls program (sound decls clean program is) (helped decls clean program is) section_limits r.0 x r.1);
  scopes = λ k x at. (let r = section_from decls clean program is k x at in section_well_scoped decls section_limits r.0 x r.1);
  helpers = λ k x at. (let r = helper_from decls clean program is k x at in section_well_typed decls program (sound decls clean program is) (helped decls clean program is) helper_limits r.0 x r.1);
  helper_scopes = λ k x at. (let r = helper_from decls clean program is k x at in section_well_scoped decls helper_limits r.0 x r.1);
  helper_depths = (keeps_limits decls clean program is keep none).helper_depths;
  written_locals = (keeps_limits decls clean program is keep none).written_locals;
  helper_points = (keeps_limits decls clean program is keep none).helper_points;
  scripts = scripts decls clean program is;
}

pub well_formed : (decls : List Decl) → Clean decls → (program : Typed) → Resolves decls program →
    DeclaresNoHelper decls → IsWellFormed program
well_formed decls clean program is none = record {
  within = within_limits decls clean program is;
  laid_out = laid_out decls clean program is;
  protected = protected decls clean program is;
  opens = opens decls clean program is;
  sections = λ k x at. (let r = section_from decls clean program is k x at in section_well_typed decls program (sound decls clean program is) (helped decls clean program is) section_limits r.0 x r.1);
  scopes = λ k x at. (let r = section_from decls clean program is k x at in section_well_scoped decls section_limits r.0 x r.1);
  helpers = no_helpers decls clean program is none;
  scripts = scripts decls clean program is;
}
