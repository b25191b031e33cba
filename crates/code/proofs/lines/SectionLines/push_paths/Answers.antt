use Rattle.std.proofs.Common.{◌≡◌, ◌++◌, ℕ, List, get_or, sym, ap, ◌∙◌}
use Rattle.std.proofs.lemmas.Grind.{get_or_default_zero}
use Rattle.std.specs.Prelude.{codes}
use Rattle.locks.specs.LockPaths.{lock_paths}
use Rattle.locks.specs.Texts.{path_text}
use Rattle.rope.specs.Working.Ropes.{rope_text, part_of}
use Rattle.code.specs.Listing.{text_at}
use Rattle.rope.specs.Theory.Parts.{part_is, two_more}
use Rattle.code.proofs.lines.SectionLines.push_paths.Goals as goal

pub loop-number-preserved : goal.loop-number-preserved
loop-number-preserved c =
    let program = c.args.self.now.lister.now.program.now in
    let section = c.args.self.now.listed.section.now in
    let paths = lock_paths program section in
    let group = c.args.self.now.group in
    let i = c.loop-number.number-index in
    let n = get_or c.args.list.now i 0 in
    let groups = c.in_ok-push_str.ensures.1 ∙ c.loop-number.invariant.groups in
    let text = path_text program section in
    let part : part_of c.push_str.new.self.groups group n ≡ text_at text paths n =
    ap (λ gs. part_of gs group n) groups ∙ part_is text paths c.args.out.now.groups group n c.requires in
    let read = sym (get_or_default_zero c.args.list.now i n c.loop-number-test.true) in
    record {
      text = two_more (λ (k : ℕ). codes " " ++ text_at text paths k) c.args.list.now i n (rope_text c.args.out.now)
          (rope_text c.loop-number.out) (rope_text c.push_str.new.self) (rope_text c.push_part.new.self) (codes " ")
          (part_of c.push_str.new.self.groups group n) c.loop-number-test.true read c.loop-number.invariant.text
          c.in_ok-push_str.ensures.0 c.in_ok-push_part.ensures.0 (ap (λ (t : List ℕ). codes " " ++ t) part);
      groups = c.in_ok-push_part.ensures.1 ∙ groups;
    }
