use Rattle.std.proofs.Common.{List, subst, sym, ap, ◌∙◌}
use Rattle.core_lang.specs.declared.value.Value.{Value}
use Rattle.code.specs.Memory.{Agrees}
use Rattle.lock_manager.specs.Working.Committed.{CommittedOf}
use Rattle.lock_manager.proofs.committed.Committed.agrees.Goals as goal

pub returns : goal.returns
returns c =
    let heap = c.deref.ensures.value ∙ ap (λ (v : CommittedOf). v.values) c.self.view_is in (
      λ e. subst (λ (h : List Value). Agrees h c.args.reads.now) heap (c.agrees.ensures.0 e),
      λ there. c.agrees.ensures.1 (subst (λ (h : List Value). Agrees h c.args.reads.now) (sym heap) there),
    )
