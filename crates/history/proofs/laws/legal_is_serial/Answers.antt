use Rattle.history.proofs.Heaps.{serial_from}
use Rattle.history.proofs.laws.legal_is_serial.Goals as goal

pub returns : goal.returns
returns c = serial_from
