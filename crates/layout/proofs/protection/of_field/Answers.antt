use Rattle.std.proofs.Common.{◌∙◌, ◌^◌, length, sym}
use Rattle.std.proofs.lemmas.Option.{slice_get_within}
use Rattle.layout.proofs.Found.{below_bound, no_object, no_pool, of_pool, no_struct, struct_missing, field_missing}
use Rattle.layout.proofs.Found.{field_here}
use Rattle.locks.specs.Theory.Written.{item_here, item_past}
use Rattle.layout.proofs.protection.of_field.Goals as goal

pub overflow_cast-object : goal.overflow_cast-object
overflow_cast-object c =
    let objects = c.args.program.now.shape.objects.items in
    let here = item_here objects c.deref.result.now c.args.object c.deref.ensures.value c.in_ok-pool.field-0 c.in_ok-pool.ensures.lookup in
    record { fits = below_bound c.args.object (length objects) (2 ^ 32) (slice_get_within objects c.args.object c.in_ok-pool.field-0.now here) c.requires }

pub returns : goal.returns
returns c =
    let program = c.args.program.now in
    let object = c.in_ok-pool.field-0 in
    let pool = c.in_ok-structure.field-0 in
    let structure = c.in_ok-get.field-0 in
    let field = c.in_ok-field.field in
    let at = item_here program.shape.objects.items c.deref.result.now c.args.object c.deref.ensures.value object c.in_ok-pool.ensures.lookup in
    let there = item_here program.shape.pools.items c.deref-2.result.now object.now.pool c.deref-2.ensures.value pool c.in_ok-structure.ensures.lookup in
    let found = item_here program.structs.items c.deref-3.result.now pool.now.structure c.deref-3.ensures.value structure c.in_ok-get.ensures.lookup in
    let here = item_here structure.now.fields.items c.deref-4.result.now c.args.field c.deref-4.ensures.value field c.in_ok-field.ensures.lookup in
    c.walked.ensures
    ∙ sym (field_here program c.args.object c.args.field pool.now.structure structure.now field.now
    (of_pool program.shape c.args.object object.now pool.now at there) found here)

pub returns-in_err-field : goal.returns-in_err-field
returns-in_err-field c =
    let program = c.args.program.now in
    let object = c.in_ok-pool.field-0 in
    let pool = c.in_ok-structure.field-0 in
    let structure = c.in_ok-get.field-0 in
    let at = item_here program.shape.objects.items c.deref.result.now c.args.object c.deref.ensures.value object c.in_ok-pool.ensures.lookup in
    let there = item_here program.shape.pools.items c.deref-2.result.now object.now.pool c.deref-2.ensures.value pool c.in_ok-structure.ensures.lookup in
    let found = item_here program.structs.items c.deref-3.result.now pool.now.structure c.deref-3.ensures.value structure c.in_ok-get.ensures.lookup in
    c.from_residual-in_err-field.ensures
    ∙ sym (field_missing program c.args.object c.args.field pool.now.structure structure.now
    (of_pool program.shape c.args.object object.now pool.now at there) found
    (item_past structure.now.fields.items c.deref-4.result.now c.args.field c.deref-4.ensures.value c.in_err-field.ensures.lookup))

pub returns-in_err-get : goal.returns-in_err-get
returns-in_err-get c =
    let program = c.args.program.now in
    let object = c.in_ok-pool.field-0 in
    let pool = c.in_ok-structure.field-0 in
    let at = item_here program.shape.objects.items c.deref.result.now c.args.object c.deref.ensures.value object c.in_ok-pool.ensures.lookup in
    let there = item_here program.shape.pools.items c.deref-2.result.now object.now.pool c.deref-2.ensures.value pool c.in_ok-structure.ensures.lookup in
    c.from_residual-in_err-get.ensures
    ∙ sym (struct_missing program c.args.object c.args.field pool.now.structure
    (of_pool program.shape c.args.object object.now pool.now at there)
    (item_past program.structs.items c.deref-3.result.now pool.now.structure c.deref-3.ensures.value c.in_err-get.ensures.lookup))

pub returns-in_err-structure : goal.returns-in_err-structure
returns-in_err-structure c =
    let program = c.args.program.now in
    let object = c.in_ok-pool.field-0 in
    let at = item_here program.shape.objects.items c.deref.result.now c.args.object c.deref.ensures.value object c.in_ok-pool.ensures.lookup in
    c.from_residual-in_err-structure.ensures
    ∙ sym (no_struct program c.args.object c.args.field (no_pool program.shape c.args.object object.now at
    (item_past program.shape.pools.items c.deref-2.result.now object.now.pool c.deref-2.ensures.value c.in_err-structure.ensures.lookup)))

pub returns-in_err-pool : goal.returns-in_err-pool
returns-in_err-pool c =
    let program = c.args.program.now in
    c.from_residual.ensures
    ∙ sym (no_struct program c.args.object c.args.field (no_object program.shape c.args.object
    (item_past program.shape.objects.items c.deref.result.now c.args.object c.deref.ensures.value c.in_err-pool.ensures.lookup)))
