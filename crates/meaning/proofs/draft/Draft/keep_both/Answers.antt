use Rattle.meaning.proofs.Kept.{kept_of}
use Rattle.std.proofs.Common.{length, sym, ap, ◌∙◌}
use Rattle.meaning.specs.Working.Undo.{Changed}
use Rattle.meaning.proofs.Steps.{undone-length}
use Rattle.meaning.proofs.draft.Draft.keep_both.Goals as goal

pub returns-clause-long : goal.returns-clause-long
returns-clause-long c =
    sym (undone-length c.self.inside.overwritten.items c.self.inside.cells.items) ∙ ap (λ (d : Changed). length d.before) c.self.view_is

pub cleared-requires : goal.cleared-requires
cleared-requires c = kept_of _ _ _ _ _ c.as_slice-2.ensures.value c.as_slice.ensures.value c.self.invariant
