use Rattle.inserter.proofs.Listed.{PathLaws}
use Rattle.inserter.proofs.Asked.{some_asked}
use Rattle.inserter.proofs.RunLaws.{asks_rise, used_are_held, held_are_named, few_are_held}
use Rattle.inserter.proofs.RunLaws.{whole_classes_are_held}
use Rattle.inserter.proofs.laws.asks_rise.Goals as goal

pub returns : goal.returns
returns c =
    let laws : PathLaws = record {
      in_scope = c.used_are_in_scope.ensures.used;
      scope_back = c.used_are_in_scope.ensures.back;
      classes = c.paths_have_classes.ensures;
      listed = c.each_path_once.ensures.listed;
    } in
    record {
      rise = asks_rise laws;
      some = λ program section ranks lists p locals held ok run. some_asked laws c.precedes_is_strict.ensures program section ranks lists ok p locals held;
      held = used_are_held laws;
      named = held_are_named laws;
      few = few_are_held laws;
      whole = whole_classes_are_held laws;
    }
