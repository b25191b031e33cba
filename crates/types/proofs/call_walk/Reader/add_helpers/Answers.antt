use Rattle.std.proofs.Common.{ap, ◌∙◌}
use Rattle.syntax.specs.Views.{decl_of, section_of}
use Rattle.core_lang_helpers.specs.Graphs.{body_of, graph_of}
use Rattle.types_symbols.specs.{decls_of}
use Rattle.types.proofs.Adding.{helper_added, helper_none}
use Rattle.types.proofs.call_walk.Reader.add_helpers.Goals as goal
use Rattle.types.proofs.call_walk.Reader.add_helpers.Goals.{in-Helper+in_ok-helper+in_ok-add_helper, in_default}

pub loop-d-preserved : goal.loop-d-preserved
loop-d-preserved c =
    let all = decls_of c.args.self.now.symbols.now in
    let items = c.items-d-items.result.now in
    let i = c.loop-d.d-index in
    let d = c.d-item.result in
    let first = graph_of c.args.graph.now in
    let old = graph_of c.loop-d.graph in
    let new = graph_of c.match-d.graph in
    elim c.match-d.branch [
      | in-Helper+in_ok-helper+in_ok-add_helper w ↦
          helper_added all items i d first old new c.loop-d-test.true c.d-item.is c.loop-d.invariant (section_of w.in-Helper.s) (body_of w.in_ok-helper.helper) (ap decl_of w.in-Helper.is)
          w.in_ok-helper.ensures (ap graph_of w.graph-is ∙ w.in_ok-add_helper.ensures.ok)
      | in_default w ↦ helper_none all items i d first old new c.loop-d-test.true c.d-item.is c.loop-d.invariant (ap graph_of w.graph-is) w.in_default.not-Helper
    ]
