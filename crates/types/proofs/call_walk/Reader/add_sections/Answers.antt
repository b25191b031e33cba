use Rattle.std.proofs.Common.{ap, ◌∙◌}
use Rattle.syntax.specs.Views.{decl_of, section_of}
use Rattle.core_lang_helpers.specs.Graphs.{body_of, graph_of}
use Rattle.types_symbols.specs.{decls_of}
use Rattle.types.proofs.Adding.{section_added, section_none}
use Rattle.types.proofs.call_walk.Reader.add_sections.Goals as goal
use Rattle.types.proofs.call_walk.Reader.add_sections.Goals.{in-Atomic+in_ok-section+in_ok-add_section, in_default}

pub loop-d-preserved : goal.loop-d-preserved
loop-d-preserved c =
    let all = decls_of c.args.self.now.symbols.now in
    let items = c.items-d-items.result.now in
    let i = c.loop-d.d-index in
    let d = c.d-item.result in
    let first = graph_of c.args.graph.now in
    let old = graph_of c.loop-d.graph in
    let new = graph_of c.match-d.graph in
    elim c.match-d.branch [
      | in-Atomic+in_ok-section+in_ok-add_section w ↦
          section_added all items i d first old new c.loop-d-test.true c.d-item.is c.loop-d.invariant (section_of w.in-Atomic.s) (body_of w.in_ok-section.section) (ap decl_of w.in-Atomic.is)
          w.in_ok-section.ensures (ap graph_of w.graph-is ∙ w.in_ok-add_section.ensures.ok)
      | in_default w ↦ section_none all items i d first old new c.loop-d-test.true c.d-item.is c.loop-d.invariant (ap graph_of w.graph-is) w.in_default.not-Atomic
    ]
