-- Alone, a section's code comes to an outcome exactly if the whole run of the section ends.
use Rattle.std.proofs.Common.{◌≡◌, ℕ, List, [], length, sym, ap, ◌∙◌, subst, arith}
use Rattle.core_lang.specs.declared.value.Value.{Value}
use Rattle.core_lang.specs.declared.shape.Shape.{Shape}
use Rattle.core_lang.specs.declared.tree.Section.{Section}
use Rattle.core_lang.specs.Whole.{Finished, Run, Over, Beyond_turns, Gone_astray, opening, run_of, Whole}
use Rattle.code.specs.declared.instr.Instr.{Instr}
use Rattle.code.specs.Machine.{Machine, Standing, Stuck}
use Rattle.code.specs.Memory.{load_from, store_to}
use Rattle.core_lang.specs.Helpers.{CallsNothing}
use Rattle.code.specs.Lowering.{section_code}
use Rattle.code.specs.Alone.{starting, alone, halted}
use Rattle.code.specs.Working.Laws.{IsOver}
use Rattle.code.proofs.Over.{ends_once}
use Rattle.code.proofs.runs.Places.{has_all}
use Rattle.code.proofs.runs.Settling.{IsGoing, stands, Settles}
use Rattle.code.proofs.runs.Blocks.{body_settles}

-- n turns settle n instructions
section_settles : {P : Type 0} (lists : List (List P)) (section : Section) (shape : Shape) (n : ℕ) (arguments heap : List Value) →
    CallsNothing section → Settles shape (section_code lists section) n (starting (opening section arguments heap).locals heap) (run_of section shape n arguments heap)
section_settles lists section shape n arguments heap only =
    let code = section_code lists section in
    body_settles shape code n lists section.body.items section.result 0 n 0 (length code) (opening section arguments heap) only (omega arith) (has_all code [])

same_end : (x y : Finished) → halted x ≡ halted y → x ≡ y
same_end x y e =
    let outcome : x.outcome ≡ y.outcome = cc in
    let prints : x.prints ≡ y.prints = cc in
    let heap : x.heap ≡ y.heap = cc in
    ap (λ o. record { outcome = o; prints = x.prints; heap = x.heap }) outcome
    ∙ ap (λ p. record { outcome = y.outcome; prints = p; heap = x.heap }) prints
    ∙ ap (λ h. record { outcome = y.outcome; prints = y.prints; heap = h }) heap

module _ (shape : Shape) (code : List Instr) (m : Machine (List Value)) where
  one_end : (n j : ℕ) (x y : Standing (List Value)) → IsOver x → IsOver y → stands shape code n m ≡ x →
      stands shape code j m ≡ y → x ≡ y
  one_end n j x y over_x over_y e f =
      sym e ∙ ends_once load_from store_to shape code m n j (subst IsOver (sym e) over_x) (subst IsOver (sym f) over_y) ∙ f

  -- if the machine has halted after n instructions, a run that it settles up to these is over
  is_over : (n : ℕ) (finished : Finished) (run : Run) → stands shape code n m ≡ halted finished →
      Settles shape code n m run → run ≡ Over finished
  is_over n finished (Over other) e settled = ap Over (same_end other finished (one_end settled.0 n (halted other) (halted finished) tt tt settled.1 e))
  is_over n finished Beyond_turns e settled = absurd (subst IsGoing e settled)
  is_over n finished Gone_astray e settled =
      absurd (let both : Stuck ≡ halted finished = one_end settled.0 n Stuck (halted finished) tt tt settled.1 e in cc)

pub ends : {P : Type 0} (lists : List (List P)) (section : Section) (shape : Shape) (arguments heap : List Value) (finished : Finished) →
    CallsNothing section → Whole section shape arguments heap finished →
    (n : ℕ) × (alone shape (section_code lists section) n (opening section arguments heap).locals heap ≡ halted finished)
ends lists section shape arguments heap finished only whole =
    subst (Settles shape (section_code lists section) whole.0 (starting (opening section arguments heap).locals heap)) whole.1
    (section_settles lists section shape whole.0 arguments heap only)

pub ends_only : {P : Type 0} (lists : List (List P)) (section : Section) (shape : Shape) (arguments heap : List Value) (n : ℕ) (finished : Finished) → CallsNothing section →
    alone shape (section_code lists section) n (opening section arguments heap).locals heap ≡ halted finished →
    Whole section shape arguments heap finished
ends_only lists section shape arguments heap n finished only e = (
  n,
  is_over shape (section_code lists section) (starting (opening section arguments heap).locals heap) n finished (run_of section shape n arguments heap) e
      (section_settles lists section shape n arguments heap only),
)
