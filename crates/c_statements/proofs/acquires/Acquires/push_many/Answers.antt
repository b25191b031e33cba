use Rattle.std.proofs.Common.{◌∙◌, ◌++◌, ℕ, [], length, string_bytes, ap, sym}
use Rattle.std.proofs.lemmas.List.{length-map}
use Rattle.locks.specs.LockPaths.{lock_path_of}
use Rattle.std.specs.Prelude.{codes}
use Rattle.c_statements.specs.Acquires.{numbered, keep_text, call_text, drop_call_text}
use Rattle.c_statements.specs.Working.Taken.{asked_of, paths_in}
use Rattle.c_statements.specs.Theory.Chains.{then, five}
use Rattle.c_statements.proofs.acquires.Acquires.push_many.Goals as goal

pub returns : goal.returns
returns c =
    let x = c.args.self.now in
    let run = c.args.run.now in
    then c.push_call-2.result c.push_call-2.ensures
    (five (asked_of x run) (drop_call_text (length run) (length (paths_in x))) (numbered keep_text 0 run)
    (call_text (codes "autolock_order") (length run) []) (call_text (codes "autolock_lock") (length run) [])
    (string_bytes c.args.out.now) (string_bytes c.push_asked.new.out) (string_bytes c.push_drop_call.new.out) (string_bytes c.push_kept.new.out)
    (string_bytes c.push_call.new.out) (string_bytes c.push_call-2.new.out)
    c.in_ok-push_asked.ensures (c.in_ok-push_drop_call.ensures
    ∙ ap (λ (n : ℕ). string_bytes c.push_asked.new.out ++ drop_call_text (length run) n) (sym (length-map x.paths.now lock_path_of)))
    c.in_ok-push_kept.ensures c.in_ok-push_call.ensures)
