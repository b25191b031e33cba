use Rattle.std.proofs.Common.{string_bytes}
use Rattle.std.proofs.lemmas.Result.{on_ok_weaker}
use Rattle.core_lang.specs.declared.shape.Pool.{Pool}
use Rattle.locks.specs.Theory.Written.{piece_added}
use Rattle.code.specs.Theory.Written.{found_added, none_added}
use Rattle.code.proofs.lines.push_pool.Goals as goal

pub returns-in-Some : goal.returns-in-Some
returns-in-Some c =
    let name = λ (x : Pool). string_bytes x.name in
    let old = string_bytes c.args.out.now in
    on_ok_weaker c.push_str.result
    (λ e. found_added name _ _ _ old c.deref.ensures.value c.in-Some.pool _ _ c.in-Some.ensures.lookup
    c.as_str.ensures.value e)
    (piece_added c.push_str.result _ old c.as_str.result.now c.push_str.ensures.bytes)

pub returns-in-None : goal.returns-in-None
returns-in-None c =
    let name = λ (x : Pool). string_bytes x.name in
    none_added name _ _ _ (string_bytes c.args.out.now) c.deref.ensures.value c.in-None.ensures.lookup
