use Rattle.std.proofs.Common.{◌≡◌, List, ap, sym, ◌∙◌, Option}
use Rattle.std.specs.List.{flat_map}
use Rattle.source.specs.declared.mistake.Mistake.{Mistake}
use Rattle.source.specs.Mistakes.{least_of}
use Rattle.source.specs.Theory.Leasts.{least_append}
use Rattle.core_lang_helpers.specs.declared.graph.CallerBody as code
use Rattle.core_lang_helpers.specs.Graphs.{bodies_of}
use Rattle.core_lang_helpers.specs.Working.FaultLists.{helpers_faults, section_faults}
use Rattle.core_lang_helpers.proofs.graph.CallGraph.check.Goals as goal

pub returns : goal.returns
returns c =
    let start = c.args.least.now in
    let helpers = bodies_of c.args.self.now.helpers.items in
    let sections = bodies_of c.args.self.now.sections.items in
    let middle = c.report_helpers.new.least in
    let same : c.in_ok-callers.callers.helpers.now ≡ c.args.self.now.helpers.items = c.in_ok-callers.ensures.0 ∙ c.deref.ensures.value in
    let first : middle ≡ least_of start (helpers_faults helpers 0 helpers) =
    c.in_ok-report_helpers.ensures ∙ ap (λ (l : List code.CallerBody). least_of start (helpers_faults (bodies_of l) 0 (bodies_of l))) same in
    let second : c.report_sections.new.least ≡ least_of middle (flat_map (section_faults helpers) sections) =
    c.report_sections.ensures ∙ ap (λ (l : List code.CallerBody). least_of middle (flat_map (section_faults (bodies_of l)) (bodies_of c.deref-2.result.now))) same
    ∙ ap (λ (l : List code.CallerBody). least_of middle (flat_map (section_faults helpers) (bodies_of l))) c.deref-2.ensures.value in
    second ∙ ap (λ (f : Option Mistake). least_of f (flat_map (section_faults helpers) sections)) first
    ∙ sym (least_append start (helpers_faults helpers 0 helpers) (flat_map (section_faults helpers) sections))
