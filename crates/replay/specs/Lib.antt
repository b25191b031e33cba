pub mod Told
pub mod Readers
pub mod Verdicts
pub mod Wanted
pub mod Working
-- the definitions that the public clauses cite
pub use Rattle.replay.specs.Verdicts.{IsSame, IsDiffering, IsBeyond, Holds}
pub use Rattle.replay.specs.Wanted.{MayCome, IsWanted, IsWantedAt, Explains}
pub use Rattle.replay.specs.Working.Histories.{IsHistory, history_lines, text_of}
pub use Rattle.replay.specs.Working.Laws.{AtMostOneVerdict, SameIsHistory, HistoryIsSame, TextIsOfLines, SerialIsSame}
pub use Rattle.replay.specs.Working.Laws.{EntriesAreSame, ScriptsAreOpen, OneOrderOneHistory}
pub use Rattle.replay.specs.Working.Laws.{HasPlainNames, PlainCallsAreTold}
