use Rattle.std.proofs.Common.{sym, ap, ◌∙◌, length, length-set, arith}
use Rattle.meaning.specs.Working.Undo.{Changed}
use Rattle.meaning.proofs.Kept.{kept_as}
use Rattle.meaning.proofs.draft.Draft.write.Goals as goal

pub remember-requires-clause-kept : goal.remember-requires-clause-kept
remember-requires-clause-kept c = kept_as _ _ c.self.inside.cells.items c.as_slice.result.now (sym (ap length c.as_slice.ensures.value)) c.self.invariant

pub index_mut-requires : goal.index_mut-requires
index_mut-requires c = omega (arith, c.requires, ap (λ (d : Changed). length d.now) c.self.view_is, c.self.inside.cells.ok.0)

pub invariant_of-self : goal.invariant_of-self
invariant_of-self c = kept_as _ _ c.as_slice.result.now c.self.inside.cells.items (ap length c.as_slice.ensures.value) c.remember.ensures.kept

pub invariant_of-self-2 : goal.invariant_of-self-2
invariant_of-self-2 c =
    let cells = c.self.inside.cells.items in
    kept_as _ _ c.as_slice.result.now _ (ap length c.as_slice.ensures.value ∙ sym (length-set cells c.args.cell c.args.value)) c.remember.ensures.kept
