use Rattle.std.proofs.Common.{◌∙◌, sym, ◌<◌, ◌≤◌, length, refl, arith}
use Rattle.std.proofs.lemmas.Option.{slice_get_read}
use Rattle.explanations.proofs.Found.{used_at, used_found}
use Rattle.explanations.proofs.cycle_teller.CycleWriter.uses_class.Goals as goal

pub returns-then-contains : goal.returns-then-contains
returns-then-contains c =
    let program = c.args.self.now.program.now in
    let section = c.args.self.now.section.now in
    let x = c.args.self.now.found.now in
    let are = c.requires.paths in
    let lt : c.args.point < length x.used.items = rw are.used.0 c.requires.point in
    let there = slice_get_read x.used.items (length x.used.items) c.args.point c.index-used.result.now refl lt c.index-used.ensures in (
      λ e. used_at program section x are c.args.point c.args.class c.loop-number.number c.index-used.result.now there (c.if-is_of_class.ensures.0 refl)
          (sym c.contains.ensures ∙ c.if-contains.true),
      λ u. refl,
    )

pub returns : goal.returns
returns c =
    let program = c.args.self.now.program.now in
    let section = c.args.self.now.section.now in
    let x = c.args.self.now.found.now in
    let are = c.requires.paths in
    let lt : c.args.point < length x.used.items = rw are.used.0 c.requires.point in
    let there = slice_get_read x.used.items (length x.used.items) c.args.point c.index-used.result.now refl lt c.index-used.ensures in
    let many : length x.paths.items ≤ c.loop-number.number = omega (arith, c.loop-number-test.false, c.len-number-end.ensures) in (
      λ e. absurd cc,
      λ u.
          absurd (used_found program section x are c.each_path_once.ensures.listed c.args.point c.args.class u c.index-used.result.now there
          c.loop-number.number many c.loop-number.invariant),
    )
