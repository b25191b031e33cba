-- What the code computes, for proofs. Nobody has to believe these files: no promise cites them.
pub mod HistoryReading
pub mod StepsReading
