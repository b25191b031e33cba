use Rattle.std.proofs.Common.{◌≡◌, ℕ, List, Option, Some, None, refl}
use Rattle.std.specs.Prelude.{IfSome}
use Rattle.core_lang.specs.declared.value.Value.{Value}
use Rattle.core_lang.specs.declared.typed.Typed.{Typed}
use Rattle.core_lang.specs.Serial.{Invocation, run_call}
use Rattle.core_lang.specs.Typing.{HasCells, IsHeap}
use Rattle.meaning.specs.declared.run.End.{End}
use Rattle.meaning.specs.Working.Answer.{Answers, NoneIsBeyond}
use Rattle.meaning.specs.Working.Undo.{undone}
use Rattle.outcomes.specs.Working.Steps.{Leaves}
use Rattle.outcomes.proofs.search.Search.run.Goals as goal

leaves : (program : Typed) (n : ℕ) (call : Invocation) (old new : List Value) (run : Option End) →
    Answers run (run_call program n call old) old new → NoneIsBeyond run (run_call program n call old) →
    IfSome run (λ end. undone end.overwritten.items new ≡ old) → HasCells program new → IsHeap program new →
    Leaves program n call old new run
leaves program n call old new None answers beyond back cells typed = beyond
leaves program n call old new (Some end) answers beyond back cells typed = (
  record {
    finished = record { outcome = end.outcome; prints = end.prints.items; heap = new };
    over = answers;
    heap_is = refl;
    outcome_is = refl;
    there = cells;
    typed = typed;
  },
  back,
)

pub returns : goal.returns
returns c =
    let search = c.args.self.now in
    leaves search.program.now search.turns _ c.args.heap.now c.run_whole.new.heap c.in_ok-ended.ended
    (rw (c.requires.search.same, c.deref.ensures.value) at c.in_ok-ended.ensures.answer)
    (rw (c.requires.search.same, c.deref.ensures.value) at (c.in_ok-ended.ensures.beyond (rw (← c.requires.search.same) at c.requires.search.checked) (rw (← c.requires.search.same) at c.requires.typed)))
    c.in_ok-ended.ensures.overwritten
    (rw c.requires.search.same at c.run_whole.ensures.cells)
    ((rw c.requires.search.same at c.run_whole.ensures.typed) c.requires.search.checked c.requires.typed)
