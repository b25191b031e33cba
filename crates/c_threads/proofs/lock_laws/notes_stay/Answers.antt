use Rattle.worlds.proofs.Covering.{CoverLaws}
use Rattle.worlds.proofs.Going.{GoingLaws}
use Rattle.c_threads.proofs.Taking.{TakingLaws}
use Rattle.c_threads.proofs.Standing.{notes_stay}
use Rattle.c_threads.proofs.Pools.{pools_rise}
use Rattle.c_threads.proofs.lock_laws.notes_stay.Goals as goal

pub returns : goal.returns
returns c =
    let cover : CoverLaws = record {
      named = c.paths_name_the_locks.ensures;
      typed = c.points_stay_typed.ensures;
      held = c.asks_rise.ensures.held;
    } in
    let going : GoingLaws = record {
      cover = cover;
      first_lets = c.lets_keep_agreeing.ensures.first;
      later_lets = c.lets_keep_agreeing.ensures.kept;
      names = c.names_stay.ensures;
      scopes = c.points_are_counted.ensures.scopes;
      go_on = c.points_go_on.ensures.held;
      spots = c.points_have_places.ensures.number;
      first = c.points_have_places.ensures.first;
      none = c.points_have_places.ensures.none;
      acquired = c.points_have_places.ensures.acquired;
      ordered = c.placements_are_ordered.ensures;
      in_turn = c.locks_are_asked_in_turn.ensures;
      written = c.written_values_stand.ensures.written;
      unwritten = c.written_values_stand.ensures.unwritten;
      size = c.written_values_stand.ensures.size;
    } in
    let taking : TakingLaws = record {
      classes = c.paths_have_classes.ensures;
      listed = c.each_path_once.ensures.listed;
      once = c.each_path_once.ensures.once;
      rise = pools_rise;
    } in
    notes_stay (record { going = going; taking = taking })
