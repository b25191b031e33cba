use Rattle.std.proofs.Common.{◌≡◌, ◌++◌, drop}
use Rattle.rope.specs.Working.Ropes.{rope_text}
use Rattle.code.specs.Listing.{instrs_text}
use Rattle.code.specs.Working.Asked.{lists_of}
use Rattle.code.specs.Working.Sections.{front_text_of}
use Rattle.code.proofs.lines.SectionLines.push.Given as goal

-- the written text and that of the remaining items are the whole text
abbrev pub invariant-loop-place : goal.invariant-loop-place
invariant-loop-place l =
    let program = l.self.lister.now.program.now in
    let section = l.self.listed.section.now in
    let lists = lists_of l.self.listed in
    let front = front_text_of l.self in
    let instrs = l.self.listed.code.now.instructions.items in
    record {
      text : rope_text l.out ++ instrs_text program section lists front l.place (drop l.place instrs)
          ≡ rope_text l.initial.out ++ instrs_text program section lists front 0 instrs;
      groups : l.out.groups ≡ l.initial.out.groups;
    }
