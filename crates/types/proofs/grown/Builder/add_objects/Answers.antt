use Rattle.std.proofs.Common.{sym, ap, ◌∙◌, Some}
use Rattle.std.specs.Prelude.{map}
use Rattle.syntax.specs.Views.{member_of}
use Rattle.resolution.specs.CoreViews.{core_of}
use Rattle.types_symbols.specs.Working.Views.{decls_of}
use Rattle.types.specs.Working.Grown.{if_right}
use Rattle.types.proofs.Objects.{objects_none, objects_next}
use Rattle.types.proofs.grown.Builder.add_objects.Goals as goal

pub returns-then-not-branch : goal.returns-then-not-branch
returns-then-not-branch c =
    let ds = decls_of c.args.self.now.symbols.now in
    let pool = c.args.pool.now in
    let ms = map member_of pool.members.now in
    let start = Some (core_of c.args.program.now) in
    sym (objects_none ds pool.place pool.number ms start c.loop-index.index c.args.count c.loop-index-test.true
    (sym (objects_next ds pool.place pool.number ms start c.loop-index.index _ _ c.loop-index.invariant.value (ap (λ b. if_right b c.add_object.new.program) (sym c.if-not-branch.true) ∙ c.in_ok-add_object.ensures))))
