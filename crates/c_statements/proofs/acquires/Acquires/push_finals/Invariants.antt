use Rattle.std.proofs.Common.{◌≡◌, ◌++◌, drop, string_bytes}
use Rattle.c_statements.specs.Acquires as text
use Rattle.c_statements.proofs.acquires.Acquires.push_finals.Given as goal

abbrev pub invariant-loop-number : goal.invariant-loop-number
invariant-loop-number l =
    let program = l.self.scope.program.now in
    string_bytes l.out ++ text.finals_text program l.from (drop l.number-index l.finals)
    ≡ string_bytes l.fn.out ++ text.finals_text program l.fn.structure l.fn.finals
