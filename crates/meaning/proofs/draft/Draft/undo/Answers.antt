use Rattle.meaning.proofs.Kept.{kept_of}
use Rattle.meaning.proofs.draft.Draft.undo.Goals as goal

pub cleared-is_written-requires : goal.cleared-is_written-requires
cleared-is_written-requires c = kept_of _ _ _ _ _ c.as_slice-2.ensures.value c.as_slice.ensures.value c.self.invariant
