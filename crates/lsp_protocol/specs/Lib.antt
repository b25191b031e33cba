pub mod Calls
pub mod Connections
pub mod Deeds
pub mod Documents
pub mod Frames
pub mod Headers
pub mod Loop
pub mod Parameters
pub mod Replies
pub mod Servers
pub mod Sessions
pub mod Working
-- the definitions that public clauses cite
pub use Rattle.lsp_protocol.specs.Frames.{frame, frame_of, NoFrameIn, TakesFrame, AppendsFront}
pub use Rattle.lsp_protocol.specs.Loop.{Serves}
