use Rattle.std.proofs.Common.{◌∙◌, length, sym}
use Rattle.layout.proofs.Found.{below_same, pool_within, structure_within, fields_read}
use Rattle.layout.proofs.protection.lock_fields.Goals as goal
use Rattle.core_lang.specs.Theory.Items.{read_at}

pub index-requires-2 : goal.index-requires-2
index-requires-2 c =
    let program = c.args.program.now in
    let x = c.index.result.now in
    let at = read_at program.shape.objects.items c.args.object x c.requires.object c.index.ensures in
    below_same x.pool (length program.shape.pools.items) _ (pool_within program c.requires.program.laid_out c.args.object x at) (sym program.shape.pools.ok.0)

pub index-requires-3 : goal.index-requires-3
index-requires-3 c =
    let program = c.args.program.now in
    let x = c.index.result.now in
    let p = c.index-2.result.now in
    let laid = c.requires.program.laid_out in
    let at = read_at program.shape.objects.items c.args.object x c.requires.object c.index.ensures in
    let there = read_at program.shape.pools.items x.pool p (pool_within program laid c.args.object x at) c.index-2.ensures in
    below_same p.structure (length program.structs.items) _ (structure_within program laid c.args.object x at p there) (sym program.structs.ok.0)

pub returns : goal.returns
returns c =
    let program = c.args.program.now in
    let x = c.index.result.now in
    let p = c.index-2.result.now in
    let s = c.index-3.result.now in
    let laid = c.requires.program.laid_out in
    let at = read_at program.shape.objects.items c.args.object x c.requires.object c.index.ensures in
    let there = read_at program.shape.pools.items x.pool p (pool_within program laid c.args.object x at) c.index-2.ensures in
    c.as_slice.ensures.value
    ∙ fields_read program laid c.args.object x at p there s
    (read_at program.structs.items p.structure s (structure_within program laid c.args.object x at p there) c.index-3.ensures)
