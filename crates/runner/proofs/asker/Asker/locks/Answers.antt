use Rattle.std.specs.Prelude.{List}
use Rattle.std.proofs.Common.{sym, ap, ◌∙◌}
use Rattle.core_lang.specs.declared.typed.Typed.{Typed}
use Rattle.core_lang.specs.declared.value.Value.{Value}
use Rattle.locks.specs.LockPaths.{lock_path_of, locks_in, locks_named}
use Rattle.runner.proofs.asker.Asker.locks.Goals as goal

pub returns-in-Some : goal.returns-in-Some
returns-in-Some c =
    let a = c.args.self.now in
    let path = c.in-Some.path.now in
    ap (λ (t : Typed). locks_in t.shape c.named.result) (sym c.expanded.ensures.program)
    ∙ c.named.ensures
    ∙ ap (λ (vs : List Value). locks_named (lock_path_of path) c.expanded.result.now.shape vs) c.locals.ensures
    ∙ ap (λ (t : Typed). locks_named (lock_path_of path) t.shape a.machine.now.machine.locals) c.expanded.ensures.program
    ∙ sym (c.in-Some.ensures.some a.machine.now.machine.locals)

pub returns-in-None : goal.returns-in-None
returns-in-None c = sym (c.in-None.ensures.none c.args.self.now.machine.now.machine.locals)
