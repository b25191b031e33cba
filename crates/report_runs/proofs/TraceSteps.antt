-- The lines of steps, one after another.
use Rattle.std.proofs.Common.{◌≡◌, ◌∙◌, ◌<◌, ◌+◌, ℕ, List, [], ◌∷◌, ◌++◌, length, take, get_or, replicate, refl, sym}
use Rattle.std.proofs.Common.{ap, append_assoc, append-nil, subst, Bool, String, string_bytes}
use Rattle.std.proofs.lemmas.List.{take_more, replicate_more}
use Rattle.lowering.specs.Plans.{Plan}
use Rattle.worlds.specs.Worlds.{World, happens, world_after, opening_world}
use Rattle.interleavings.specs.Coming.{coming_to}
use Rattle.interleavings.specs.Threads.{ThreadsOf, threads_of, with_steps, at_opening, after_steps}
use Rattle.report_runs.specs.Simulation.{simulation_of}
use Rattle.input_files.specs.declared.turn.Turn.{Turn}
use Rattle.input_files.specs.Turns.{steps_of}
use Rattle.worlds.specs.Theory.Steps.{steps_more}
use Rattle.report_runs.specs.declared.step_teller.StepWriter.{StepWriter}
use Rattle.report_runs.specs.Working.Tellers.{IsTellerOf, Tells}
use Rattle.report_runs.specs.Trace.{step_text, steps_text, trace_text}

lines_more : (text : List ℕ) (plan : Plan) (moves all : Bool) (w : World) (xs ys : List ℕ) →
    steps_text text plan moves all w (xs ++ ys)
    ≡ steps_text text plan moves all w xs ++ steps_text text plan moves all (world_after plan w xs) ys
lines_more text plan moves all w [] ys = refl
lines_more text plan moves all w (t ∷ xs) ys =
    let first = step_text text plan moves all t (coming_to w t) (happens plan w t).0 in
    let next = (happens plan w t).1 in
    ap (λ l. first ++ l) (lines_more text plan moves all next xs ys)
    ∙ sym (append_assoc first (steps_text text plan moves all next xs)
    (steps_text text plan moves all (world_after plan next xs) ys))

module _ {Z : Type 0} (x : StepWriter) where
  -- some steps, and then more
  pub tells_both : (a b c : ThreadsOf) (ts us : List ℕ) (o p q : String Z) → a.plan ≡ x.program.now →
      Tells x ts a b o p → Tells x us b c p q →
      Tells x (ts ++ us) a c o q
  tells_both a b c ts us o p q plan first last =
      let text = λ (w : World) (steps : List ℕ). steps_text x.text.now x.program.now x.moves x.all w steps in
      let here : b.world ≡ world_after x.program.now a.world ts =
      ap (λ (w : ThreadsOf). w.world) first.world ∙ ap (λ (r : Plan). world_after r a.world ts) plan in
      record {
        world = last.world ∙ ap (λ (w : ThreadsOf). with_steps w us) first.world ∙ ap (threads_of a.plan) (sym (steps_more a.plan a.world ts us));
        lines = last.lines ∙ ap (λ l. l ++ text b.world us) first.lines ∙ append_assoc (string_bytes o) (text a.world ts) (text b.world us)
            ∙ ap (λ w. string_bytes o ++ (text a.world ts ++ text w us)) here
            ∙ ap (λ l. string_bytes o ++ l) (sym (lines_more x.text.now x.program.now x.moves x.all a.world ts us));
      }

  -- one more step of a thread
  pub tells_again : (a b c : ThreadsOf) (n t : ℕ) (o p q : String Z) → a.plan ≡ x.program.now →
      Tells x (replicate n t) a b o p →
      Tells x (t ∷ []) b c p q → Tells x (replicate (n + 1) t) a c o q
  tells_again a b c n t o p q plan first last =
      subst (λ ts. Tells x ts a c o q) (replicate_more n t) (tells_both a b c (replicate n t) (t ∷ []) o p q plan first last)

  -- one more turn
  pub tells_turn : (a b c : ThreadsOf) (turns : List Turn) (i : ℕ) (d : Turn) (o p q : String Z) →
      a.plan ≡ x.program.now →
      i < length turns → Tells x (steps_of (take i turns)) a b o p →
      Tells x (replicate (get_or turns i d).count (get_or turns i d).thread) b c p q → Tells x (steps_of (take (i + 1) turns)) a c o q
  tells_turn a b c turns i d o p q plan within first last =
      let turn = get_or turns i d in
      let more : steps_of (take (i + 1) turns) ≡ steps_of (take i turns) ++ replicate turn.count turn.thread =
      ap steps_of (take_more turns i d within) ∙ push (take i turns) turn in
      subst (λ ts. Tells x ts a c o q) (sym more) (tells_both a b c (steps_of (take i turns)) (replicate turn.count turn.thread) o p q plan first last)
    where
      push : (ts : List Turn) (y : Turn) → steps_of (ts ++ y ∷ []) ≡ steps_of ts ++ replicate y.count y.thread
      push [] y = append-nil (replicate y.count y.thread)
      push (z ∷ ts) y =
          ap (λ l. replicate z.count z.thread ++ l) (push ts y)
          ∙ sym (append_assoc (replicate z.count z.thread) (steps_of ts) (replicate y.count y.thread))

  -- the whole text
  pub trace_made : (text : List ℕ) (plan : Plan) (moves all : Bool) (steps : List ℕ) (a b : ThreadsOf) (o p : String Z) →
      (told : List ℕ) → IsTellerOf text plan moves all x → a ≡ at_opening plan → string_bytes o ≡ [] →
      Tells x steps a b o p → told ≡ string_bytes p ++ simulation_of b.plan b.world →
      told ≡ trace_text text plan moves all steps
  trace_made text plan moves all steps a b o p told is opening empty tells whole =
      let lines : string_bytes p ≡ steps_text text plan moves all (opening_world plan) steps =
      tells.lines ∙ ap (λ l. l ++ steps_text x.text.now x.program.now x.moves x.all a.world steps) empty
      ∙ (λ j. steps_text (is.text_is j) (is.plan_is j) (is.moves_is j) (is.all_is j) (opening j).world steps) in
      let last : b ≡ after_steps plan steps = tells.world ∙ ap (λ (w : ThreadsOf). with_steps w steps) opening in
      whole ∙ (λ j. lines j ++ simulation_of (last j).plan (last j).world)
