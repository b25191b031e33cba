-- An instruction keeps the plan, thread, call, room and begin of a section.
use Rattle.std.proofs.Common.{◌≡◌, ℕ, zero, suc, refl, sym, ◌∙◌, subst}
use Rattle.worlds.specs.Worlds.{next_effect}
use Rattle.worlds.specs.Theory.Steps.{instructed_call, instructed_begun}
use Rattle.runner.specs.Working.Opens.{OpenOf, IsSame, moved, moved_by}

same : (o : OpenOf) → IsSame o o
same o = record { plan = refl; thread = refl; step = refl; room = refl; call = refl; begun = refl }

same_then : (o p q : OpenOf) → IsSame o p → IsSame p q → IsSame o q
same_then o p q a b = record {
  plan = b.plan ∙ a.plan;
  thread = b.thread ∙ a.thread;
  step = b.step ∙ a.step;
  room = b.room ∙ a.room;
  call = b.call ∙ a.call;
  begun = b.begun ∙ a.begun;
}

moved_same : (o : OpenOf) → IsSame o (moved o)
moved_same o = record {
  plan = refl;
  thread = refl;
  step = refl;
  room = refl;
  call = instructed_call o.plan o.activation (next_effect o.plan o.activation);
  begun = instructed_begun o.plan o.activation (next_effect o.plan o.activation);
}

moved_by_same : (n : ℕ) (o : OpenOf) → IsSame o (moved_by n o)
moved_by_same zero o = same o
moved_by_same (suc n) o = same_then o (moved_by n o) (moved (moved_by n o)) (moved_by_same n o) (moved_same (moved_by n o))

-- a section that has moved on is the same
pub once_moved : (o p : OpenOf) → p ≡ moved o → IsSame o p
once_moved o p is = subst (IsSame o) (sym is) (moved_same o)

pub often_moved : (o p : OpenOf) (n : ℕ) → p ≡ moved_by n o → IsSame o p
often_moved o p n is = subst (IsSame o) (sym is) (moved_by_same n o)

pub moved_once_more : (o p q : OpenOf) (n : ℕ) → p ≡ moved_by n o → q ≡ moved p → IsSame o q
moved_once_more o p q n so_far is = same_then o p q (often_moved o p n so_far) (once_moved p q is)
