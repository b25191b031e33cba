use Rattle.interleavings.proofs.SameTurns.{texts_come}
use Rattle.interleavings.proofs.schedule_laws.texts_come_to_their_turns.Goals as goal

pub returns : goal.returns
returns c = texts_come
