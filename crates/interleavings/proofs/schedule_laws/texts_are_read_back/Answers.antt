use Rattle.interleavings.proofs.ReadBack.{texts_read_back}
use Rattle.interleavings.proofs.schedule_laws.texts_are_read_back.Goals as goal

pub returns : goal.returns
returns c = texts_read_back
