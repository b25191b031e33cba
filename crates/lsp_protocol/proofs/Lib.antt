mod AnswerLemmas
mod DeedLemmas
mod DocumentLemmas
mod FrameLemmas
mod HeaderLemmas
mod LoopLemmas
