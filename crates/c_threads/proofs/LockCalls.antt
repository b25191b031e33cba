-- The locks that a section in order asks for come after those that it holds.
use Rattle.std.proofs.Common.{ℕ, List, sym, subst}
use Rattle.code.specs.Machine.{Asks}
use Rattle.code.specs.Lowering.{lists_at}
use Rattle.core_lang.specs.declared.tree.Section.{Section}
use Rattle.lowering.specs.Plans.{Plan}
use Rattle.worlds.specs.Worlds.{Activation, instructed}
use Rattle.worlds.specs.Working.InTurn.{RiseBehind}
use Rattle.worlds.specs.Working.Ahead.{CanGoOn, running, asking, over}
use Rattle.worlds.specs.Working.InOrder.{IsInOrder, SectionsStayInOrder}
use Rattle.c_threads.specs.LockClaims.{CallsRise}

rises : (plan : Plan) (section : Section) (lists : List (List ℕ)) (b : Activation) → CanGoOn plan section lists b →
    RiseBehind plan.ranks b.held b.pending
rises plan section lists b (running none s) = subst (RiseBehind plan.ranks b.held) (sym none) tt
rises plan section lists b (asking f) = f.rise
rises plan section lists b (over none o) = subst (RiseBehind plan.ranks b.held) (sym none) tt

pub calls_rise : SectionsStayInOrder → CallsRise
calls_rise laws plan a point ok order none out e =
    let after = subst (λ x. IsInOrder plan (instructed plan a x)) e (laws.moves plan a ok order none out) in
    let r = after.ready in
    rises plan r.section (lists_at plan.lists a.call.section) (instructed plan a (Asks point)) r.goes_on
