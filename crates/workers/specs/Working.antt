-- Definitions of what the code computes and of the values of its types, for proofs and for the crates above. Nobody has
-- to believe these files: no promise cites them.
--
-- How the contracts of the crate are proved: a thread knows of the others by types. Under the Mutex is a manager whose
-- type keeps what all need (`IsManagerOf`): it is the program's, its entries are true, each cell has a value of its
-- type. An open section is a value of `runner::states`, whose type keeps it in order. From one hold of the Mutex to the
-- next plan, thread, step, room, call and begin are carried (`IsSame` of `runner`), and that the section's cells are
-- part of what a log leaves that was seen, as a token says (`IsPartAt`). Everything else is tested, and never assumed:
-- `Asking::fits`, whether one of the section's locks was given back since (`LockEnds`), whether the entry began above
-- the seat's last answer, whether the log has another entry of the thread since. Where no lock was given back the cells
-- are part of what the present log leaves, so that what a section read, wrote and holds needs no test
-- (`Ended::fits_as_part`): its end costs by its locks and by what it wrote, whatever cells its locks protect
-- (`proofs/Parts`).
--
-- The answer is drawn at the release: the log is legal by the manager's type, the entry true by the section's, and by
-- the test it read what the log leaves. A true entry, applied to the cells that the log leaves, is the answer
-- (`IsEntered`, `IsAnswer`). A seat's answers equal what its thread's entries give in the whole history, as lists, so
-- each answer is there and no other entry (`replies_of`, `in_step`, `proofs/Passing`). What a seat has seen is a token
-- of a log that only grows: of two tokens of one log the entries of one are a prefix of the other's (`proofs/Fronts`).
--
-- The rule of the log is that its word is its length (`Rules`). The step that adds an entry finds the word equal to the
-- length of what was seen, or adds nothing (`proofs/Adding`). Under the Mutex the log is the manager's history
-- (`Guarded`), sound with the entry that is added (`proofs/Guarding`); only then is the section released. For each
-- thread the log has its length with the thread's last entry (`AreEnds`), so that the thread has no entry between what
-- its seat had seen and its own, and at the end none after it. A marker `J: Naming`, whose members are the plan and the
-- log's name, names the program and the log. A value that was lent to a thread is known only by its type, so a field of
-- it says that its script's calls were answered (`ScriptSeat`).
pub mod Guarding
pub mod LockEnds
pub mod Nothing
pub mod Rules
pub mod Within
