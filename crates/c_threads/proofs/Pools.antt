-- The pools of a well-formed program lie one after another.
use Rattle.c_threads.proofs.LockGiving.{WellFormedRise}

pub pools_rise : WellFormedRise
pools_rise program well = well.laid_out.rise
