-- A compiled program may be shared by many threads: it consists of a program, and of numbers and lists of these.
use denote.Param.Send.{IsSync, sendable}
use denote.Hole.{as_row}
use Rattle.std.proofs.Crossing.{crosses}
use Rattle.core_lang.proofs.Crossing.{typed_whole, typed_part}
use Rattle.core_lang.specs.contracts.typed.Typed as typed
use Rattle.lowering.specs.contracts.compiled.Program as program
use Rattle.code.specs.contracts.section_code.ProgramCode as code
use Rattle.code.specs.contracts.section_code.SectionCode as section_code
use Rattle.code.specs.contracts.instr.Instr as instr
use Rattle.layout.specs.contracts.table.Layout as layout
use Rattle.layout.specs.contracts.room.Room as room

instr_sync : IsSync instr.the_row
instr_sync = search (sendable, crosses) depth 40 fits 20000

section_code_sync : IsSync section_code.the_row
section_code_sync = search (instr_sync, sendable, crosses) depth 40 fits 20000

code_sync : IsSync code.the_row
code_sync = search (section_code_sync, sendable, crosses) depth 40 fits 20000

code_part : IsSync (code.the_field).row
code_part = search (section_code_sync, sendable, crosses) depth 40 fits 20000

layout_sync : IsSync layout.the_row
layout_sync = search (sendable, crosses) depth 30

room_sync : IsSync room.the_row
room_sync = search (sendable, crosses) depth 30

typed_as : IsSync (as_row typed.the_field)
typed_as = typed_whole

pub program_whole : IsSync program.the_row
program_whole = search (typed_whole, typed_part, typed_as, code_sync, code_part, layout_sync, room_sync, sendable, crosses) depth 60 fits 100000

pub program_part : IsSync (program.the_field).row
program_part = search (typed_whole, typed_part, typed_as, code_sync, code_part, layout_sync, room_sync, sendable, crosses) depth 60 fits 100000
