use Rattle.worlds.proofs.Covering.{CoverLaws}
use Rattle.worlds.proofs.Going.{GoingLaws}
use Rattle.worlds.proofs.Well.{Laws}
use Rattle.worlds.proofs.Ready.{ReadyLaws}
use Rattle.worlds.proofs.InOrder.{stay_in_order}
use Rattle.worlds.proofs.laws.sections_stay_in_order.Goals as goal

pub returns : goal.returns
returns c =
    let cover : CoverLaws = record {
      named = c.paths_name_the_locks.ensures;
      typed = c.points_stay_typed.ensures;
      held = c.asks_rise.ensures.held;
    } in
    let going : GoingLaws = record {
      cover = cover;
      first_lets = c.lets_keep_agreeing.ensures.first;
      later_lets = c.lets_keep_agreeing.ensures.kept;
      names = c.names_stay.ensures;
      scopes = c.points_are_counted.ensures.scopes;
      go_on = c.points_go_on.ensures.held;
      spots = c.points_have_places.ensures.number;
      first = c.points_have_places.ensures.first;
      none = c.points_have_places.ensures.none;
      acquired = c.points_have_places.ensures.acquired;
      ordered = c.placements_are_ordered.ensures;
      in_turn = c.locks_are_asked_in_turn.ensures;
      written = c.written_values_stand.ensures.written;
      unwritten = c.written_values_stand.ensures.unwritten;
      size = c.written_values_stand.ensures.size;
    } in
    let well : Laws = record {
      keeps = c.steps_go_alike.ensures.keeps;
      moves = c.steps_go_alike.ensures.moves;
      asks = c.steps_go_alike.ensures.asks;
      finishes = c.steps_go_alike.ensures.finishes;
      unwritten = c.written_values_stand.ensures.unwritten;
      ends_only = c.sections_end_alike.ensures.ends_only;
      heap = c.one_entry_more.ensures.heap;
      legal = c.one_entry_more.ensures.legal;
      all_true = c.one_entry_more.ensures.all_true;
    } in
    let ready : ReadyLaws = record {
      going = going;
      astray = c.never_astray.ensures;
      ends_only = c.sections_end_alike.ensures.ends_only;
      heap = c.one_entry_more.ensures.heap;
      size = c.one_entry_more.ensures.size;
    } in
    stay_in_order (record {
      well = well;
      ready = ready;
      named = c.asks_rise.ensures.named;
      few = c.asks_rise.ensures.few;
      locks = c.named_are_locks.ensures;
      listed = c.each_path_once.ensures.listed;
    })
