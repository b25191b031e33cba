use Rattle.points.proofs.Scopings.{scopes_with, scopes_without}
use Rattle.points.proofs.roots.Roots.in_scope.Goals as goal

pub returns-in_ok-push-in-Some : goal.returns-in_ok-push-in-Some
returns-in_ok-push-in-Some c =
    scopes_with c.args.self.now.paths.now c.args.section.now _ _ _ _ c.new-sets.result c.push_block.new.sets c.push.new.self c.among_parameters-opening.ensures
    c.new-sets.ensures.items c.deref.ensures.value c.in_ok-scope.ensures.sets c.in_ok-scope.ensures.behind c.in-Some.is c.in_ok-push-in-Some.ensures.items

pub returns-in-None : goal.returns-in-None
returns-in-None c =
    scopes_without c.args.self.now.paths.now c.args.section.now _ _ c.new-sets.result c.push_block.new.sets c.among_parameters-opening.ensures
    c.new-sets.ensures.items c.deref.ensures.value c.in_ok-scope.ensures.sets c.in-None.is
