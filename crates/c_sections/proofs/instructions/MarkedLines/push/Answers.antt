use Rattle.std.proofs.Common.{◌<◌, length, string_bytes, refl, arith}
use Rattle.code.specs.Working.Asked.{lists_of}
use Rattle.c_sections.specs.Instructions as text
use Rattle.c_sections.specs.Working.Bodies.{program_of, code_of, paths_of, begins_of}
use Rattle.c_sections.specs.Working.Marked.{mark_in}
use Rattle.c_sections.proofs.Loops.{numbered_moved}
use Rattle.c_sections.proofs.instructions.MarkedLines.push.Goals as goal

pub loop-place-init : goal.loop-place-init
loop-place-init c = record {
  stands = (c.new-groups.ensures.program, c.new-groups.ensures.begins (code_of c.args.self.now.lines.now));
  text = refl;
}

pub loop-place-preserved : goal.loop-place-preserved
loop-place-preserved c =
    let x = c.args.self.now.lines.now in
    let within : c.loop-place.place < length (code_of x) = omega arith in
    record {
      stands = c.in_ok-push_next.ensures.stands;
      text = numbered_moved (text.marked_instr (program_of x) x.scope.section.now (lists_of x.listed) (paths_of x)
          (mark_in c.args.self.now.marks (begins_of x)) (code_of x))
          c.loop-place.place (code_of x) (string_bytes c.loop-place.out) (string_bytes c.push_next.new.out) _
          within c.in_ok-push_next.ensures.text c.loop-place.invariant.text;
    }
