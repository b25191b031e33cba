-- A program may be shared by many threads: it consists of numbers, names and lists of these.
use denote.Param.Send.{IsSync, IsSend, sendable, recorded_sync, struct_sync, AllSync}
use denote.Struct.Declared.{shape}
use Rattle.std.proofs.Crossing.{crosses}
use Rattle.core_lang.specs.contracts.tree.Section as section
use Rattle.core_lang.specs.contracts.tree.Stmt as stmt
use Rattle.core_lang.specs.contracts.tree.Return as ret
use Rattle.core_lang.specs.contracts.tree.Expr as ex
use Rattle.core_lang.specs.contracts.tree.Condition as cond
use Rattle.core_lang.specs.contracts.shape.Shape as shapes
use Rattle.core_lang.specs.contracts.typed.Typed as typed
use Rattle.core_lang.proofs.tree.Action.TheLaws.TheKnot as action
use Rattle.core_lang.proofs.tree.Expr.TheLaws.TheKnot as expr
use Rattle.core_lang.proofs.tree.Condition.TheLaws.TheKnot as condition
use Rattle.core_lang.proofs.tree.Local.TheSendSync as local
use Rattle.core_lang.proofs.tree.Path.TheSendSync as path
use Rattle.core_lang.proofs.tree.Operator.TheSendSync as operator
use Rattle.core_lang.proofs.tree.Comparison.TheSendSync as comparison
use Rattle.core_lang.proofs.typed.LockClass.TheSendSync as class
use Rattle.core_lang.proofs.typed.Struct.TheSendSync as structs
use Rattle.core_lang.proofs.typed.GlobalVariable.TheSendSync as variable
use Rattle.core_lang.proofs.shape.Array.TheSendSync as array
use Rattle.core_lang.proofs.shape.Pool.TheSendSync as pool
use Rattle.core_lang.proofs.shape.Object.TheSendSync as object
use Rattle.core_lang.proofs.typed.Cell.TheSendSync as cell
use Rattle.core_lang.proofs.typed.Thread.TheSendSync as thread
use Rattle.core_lang.proofs.value.ValueType.TheSendSync as valued

pub expr_send : IsSend (ex.the_field).row
expr_send = search (sendable, crosses, expr.both_send-Expr, operator.the_field_send, operator.the_field_sync, path.the_field_send, path.the_field_sync) depth 12

pub expr_sync : IsSync (ex.the_field).row
expr_sync = search (sendable, crosses, expr.both_sync-Expr, operator.the_field_send, operator.the_field_sync, path.the_field_send, path.the_field_sync) depth 12

pub cond_send : IsSend (cond.the_field).row
cond_send = search (sendable, crosses, condition.both_send-Condition, comparison.the_field_send, comparison.the_field_sync, expr_send, expr_sync) depth 12

pub cond_sync : IsSync (cond.the_field).row
cond_sync = search (sendable, crosses, condition.both_sync-Condition, comparison.the_field_send, comparison.the_field_sync, expr_send, expr_sync) depth 12

pub stmt_sync : IsSync (stmt.the_field).row
stmt_sync = search (sendable, crosses, action.both_sync-Stmt, cond_send, cond_sync, expr_send, expr_sync, path.the_field_send, path.the_field_sync) depth 12

pub return_sync : IsSync ret.the_row
return_sync = recorded_sync _ _ _ ret.the_type.to_one (struct_sync (shape ret.the_type) (search (sendable, crosses), (expr_sync, tt)))

pub section_sync : IsSync section.the_row
section_sync = recorded_sync _ _ _ section.the_type.to_one (struct_sync (shape section.the_type) (search (sendable, crosses), (search (sendable, crosses), (search (sendable, crosses, local.the_sync), (search (sendable, crosses, valued.the_sync), (search (sendable, crosses), (search (sendable, crosses, stmt_sync), (search (sendable, crosses, return_sync), tt))))))))

shape_parts : AllSync (shape shapes.the_type).fields
shape_parts = (search (sendable, crosses, array.the_sync), (search (sendable, crosses, pool.the_sync), (search (sendable, crosses, object.the_sync), (search (sendable, crosses), (search (sendable, crosses, section_sync), tt)))))

shape_sync : IsSync (shapes.the_field).row
shape_sync = struct_sync (shape shapes.the_type) shape_parts

parts : AllSync (shape typed.the_type).fields
parts = (search (sendable, crosses, class.the_sync), (search (sendable, crosses, structs.the_sync), (search (sendable, crosses, variable.the_sync), (shape_sync, (search (sendable, crosses, cell.the_sync), (search (sendable, crosses, section_sync), (search (sendable, crosses, thread.the_sync), tt)))))))

pub typed_whole : IsSync typed.the_row
typed_whole = recorded_sync _ _ _ typed.the_type.to_one (struct_sync (shape typed.the_type) parts)

pub typed_part : IsSync (typed.the_field).row
typed_part = struct_sync (shape typed.the_type) parts
