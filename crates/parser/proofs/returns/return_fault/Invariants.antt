use Rattle.std.proofs.Common.{◌≡◌, map, drop}
use Rattle.syntax.specs.Views.{decl_of}
use Rattle.parser.specs.Working.Returning.{earlier, least_fault}
use Rattle.parser.proofs.returns.return_fault.Given as goal

abbrev pub invariant-loop-decl : goal.invariant-loop-decl
invariant-loop-decl l = earlier l.least (least_fault (map decl_of (drop l.decl-index l.decls))) ≡ least_fault (map decl_of l.decls)
