use Rattle.std.proofs.Common.{◌≡◌, drop}
use Rattle.std.specs.List.{list_any}
use Rattle.core_lang.specs.declared.typed.LockField.{LockField}
use Rattle.c_data.specs.Types.{is_under}
use Rattle.c_data.proofs.types.is_beside.Given as goal

abbrev pub invariant-loop-lock : goal.invariant-loop-lock
invariant-loop-lock l =
    let test = λ (lock : LockField). is_under lock l.field in
    list_any test (drop l.lock-index l.structure.locks.items) ≡ list_any test l.structure.locks.items
