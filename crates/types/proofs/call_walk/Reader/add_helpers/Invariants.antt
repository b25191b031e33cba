use Rattle.std.proofs.Common.{◌≡◌, take}
use Rattle.core_lang_helpers.specs.Graphs.{graph_of}
use Rattle.resolution.specs.CallGraphs.{helper_bodies}
use Rattle.types_symbols.specs.{decls_of}
use Rattle.types.proofs.call_walk.Reader.add_helpers.Given as goal

abbrev pub invariant-loop-d : goal.invariant-loop-d
invariant-loop-d l = graph_of l.graph ≡ record (graph_of l.fn.graph) { helpers = helper_bodies (decls_of l.self.symbols.now) (decls_of (take l.d-index l.d-items)) }
