use Rattle.std.proofs.Common.{◌≡◌, ◌+◌, ◌∙◌, ap, sym, drop, List, []}
use Rattle.std.proofs.lemmas.List.{drop_all}
use Rattle.std.specs.Prelude.{map, option_map}
use Rattle.syntax.specs.declared.tree.Name.{Name}
use Rattle.syntax.specs.Views.{ident}
use Rattle.resolution.specs.Working.Findings.{found_in}
use Rattle.resolution.specs.Annotations.{stepped_on}
use Rattle.resolution.specs.Working.FaultLists.{passed, along_faults}
use Rattle.types_symbols.specs.Working.Views.{decls_of}
use Rattle.types_symbols.specs.Working.AnnotationCursors.{cursor_of}
use Rattle.types_symbols.specs.Theory.Steps.{step, noted_one}
use Rattle.types_symbols.proofs.annotation.AnnotationWalk.report_along.Goals as goal

pub loop-z-preserved : goal.loop-z-preserved
loop-z-preserved c =
    let decls = decls_of c.args.self.now.symbols.now in
    let start = c.args.self.now.start in
    let before = option_map cursor_of c.loop-z.cursor in
    let behind = option_map cursor_of c.in_ok-cursor.cursor in
    let y = ident c.loop-z.y.now in
    let z = c.z-item.result in
    let rest = map ident (drop (c.loop-z.z-index + 1) c.args.rest.now) in
    let f = c.loop-z.firsts in
    let g = c.report_passed.new.firsts in
    record {
      faults = step (λ (zs : List Name). found_in f (along_faults decls start before y (map ident zs))) (λ (zs : List Name). found_in g (along_faults decls start behind (ident z) (map ident zs))) c.args.rest.now c.loop-z.z-index z _ c.loop-z-test.true c.z-item.is
          (ap (λ s. found_in g (along_faults decls start s (ident z) rest)) c.in_ok-cursor.ensures
          ∙ noted_one f g (passed decls start before y) (along_faults decls start (stepped_on decls before y) (ident z) rest) c.report_passed.ensures)
          c.loop-z.invariant.faults;
    }

pub returns : goal.returns
returns c =
    let none : drop c.loop-z.z-index c.args.rest.now ≡ [] = drop_all c.loop-z.z-index c.args.rest.now c.loop-z-test.false in
    c.report_last.ensures
    ∙ sym (ap (λ (zs : List Name). found_in c.loop-z.firsts (along_faults (decls_of c.args.self.now.symbols.now) c.args.self.now.start (option_map cursor_of c.loop-z.cursor) (ident c.loop-z.y.now) (map ident zs))) none)
    ∙ c.loop-z.invariant.faults
