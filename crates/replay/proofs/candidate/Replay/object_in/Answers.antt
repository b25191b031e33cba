use Rattle.std.proofs.Common.{◌≡◌, ◌∙◌, arith, ap, sym, slice_get, map, string_bytes, Some}
use Rattle.core_lang.specs.declared.shape.Pool.{Pool}
use Rattle.core_lang.specs.Typing.{lookup}
use Rattle.locks.specs.Theory.Written.{item_here}
use Rattle.input_files.specs.Pieces.{before, behind, count_in}
use Rattle.replay.specs.Told.{first_named, pool_named}
use Rattle.replay.proofs.Members.{member_few, member_told, no_member}
use Rattle.replay.proofs.candidate.Replay.object_in.Goals as goal

pub overflow_add-result : goal.overflow_add-result
overflow_add-result c =
    let here = item_here c.args.self.now.program.now.shape.pools.items c.deref.result.now c.in-Some.pool c.deref.ensures.value c.in-Some-get.pool c.in-Some-get.ensures.lookup in
    let few = member_few c.args.self.now.program.now c.in-Some.pool c.in-Some-get.pool.now c.in-Some-count.index c.requires.well_formed here (omega arith) in
    omega (arith, few)

pub returns-then-index-from : goal.returns-then-index-from
returns-then-index-from c =
    let shape = c.args.self.now.program.now.shape in
    let names = map (λ (p : Pool). string_bytes p.name) shape.pools.items in
    let here = item_here shape.pools.items c.deref.result.now c.in-Some.pool c.deref.ensures.value c.in-Some-get.pool c.in-Some-get.ensures.lookup in
    let first : first_named 0 names (before 91 c.args.text.now) ≡ Some c.in-Some.pool =
    ap (first_named 0 names) (sym c.cut.ensures.before) ∙ sym (c.requires.pools c.cut.result.0.now) ∙ sym c.find.ensures ∙ c.in-Some.is in
    let named : pool_named shape (before 91 c.args.text.now) ≡ Some c.in-Some-get.pool.now =
    ap (λ found. lookup found (slice_get shape.pools.items)) first ∙ here in
    let counted : count_in (before 93 (behind 91 c.args.text.now)) ≡ Some c.in-Some-count.index =
    ap count_in (sym (c.cut-2.ensures.before ∙ ap (before 93) c.cut.ensures.behind)) ∙ sym c.count.ensures.value ∙ c.in-Some-count.is in
    member_told shape c.args.text.now c.in-Some-get.pool.now named c.in-Some-count.index counted (omega (arith, c.if-index-from.true, c.from.ensures))

pub returns-else-index-from : goal.returns-else-index-from
returns-else-index-from c =
    let shape = c.args.self.now.program.now.shape in
    let names = map (λ (p : Pool). string_bytes p.name) shape.pools.items in
    let here = item_here shape.pools.items c.deref.result.now c.in-Some.pool c.deref.ensures.value c.in-Some-get.pool c.in-Some-get.ensures.lookup in
    let first : first_named 0 names (before 91 c.args.text.now) ≡ Some c.in-Some.pool =
    ap (first_named 0 names) (sym c.cut.ensures.before) ∙ sym (c.requires.pools c.cut.result.0.now) ∙ sym c.find.ensures ∙ c.in-Some.is in
    let named : pool_named shape (before 91 c.args.text.now) ≡ Some c.in-Some-get.pool.now =
    ap (λ found. lookup found (slice_get shape.pools.items)) first ∙ here in
    let counted : count_in (before 93 (behind 91 c.args.text.now)) ≡ Some c.in-Some-count.index =
    ap count_in (sym (c.cut-2.ensures.before ∙ ap (before 93) c.cut.ensures.behind)) ∙ sym c.count.ensures.value ∙ c.in-Some-count.is in
    no_member shape c.args.text.now c.in-Some-get.pool.now named c.in-Some-count.index counted (omega (arith, c.if-index-from.false, c.from.ensures))
