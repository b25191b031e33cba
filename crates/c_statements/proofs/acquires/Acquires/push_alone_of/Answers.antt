use Rattle.std.proofs.Common.{◌∙◌, ◌++◌, ℕ, List, string_bytes, ap}
use Rattle.std.specs.Prelude.{codes}
use Rattle.std.specs.Fmt.{decimal}
use Rattle.locks.specs.Theory.Written.{piece_added}
use Rattle.c_statements.specs.Working.Taken.{tested_of, locks_of}
use Rattle.c_statements.specs.Theory.Chains.{then, five}
use Rattle.c_statements.specs.Theory.Lines.{alone_line}
use Rattle.c_statements.proofs.acquires.Acquires.push_alone_of.Goals as goal

pub returns : goal.returns
returns c =
    let x = c.args.self.now in
    let path = c.args.path.now in
    let old = string_bytes c.args.out.now in
    let d = decimal c.args.number in
    let root = tested_of x path.root in
    let take = locks_of x c.args.number path in
    then c.push_str-2.result
    (piece_added c.push_str-2.result (string_bytes c.push_str-2.new.self) (string_bytes c.push_take.new.out) (codes " }\n") c.push_str-2.ensures.bytes)
    (λ e. five (codes "  if (AL_RARE(h[" ++ d ++ codes "] == NULL") root (codes ")) {") take (codes " }\n") old
    (string_bytes c.write.new.self) (string_bytes c.push_root_test.new.out) (string_bytes c.push_str.new.self) (string_bytes c.push_take.new.out)
    (string_bytes c.push_str-2.new.self) c.in_ok-write.ensures.bytes c.in_ok-push_root_test.ensures c.in_ok-push_str.ensures.bytes
    c.in_ok-push_take.ensures e
    ∙ ap (λ (t : List ℕ). old ++ t) (alone_line d root take))
