-- Numbers have 64 bits in each sound world, if those of the program do.
use Rattle.std.proofs.Common.{◌≡◌, ℕ, zero, suc, List, [], ◌∷◌, length, Option, Some, None, slice_get, refl, sym, ap, ◌∙◌, subst}
use Rattle.std.specs.Prelude.{⊤}
use Rattle.std.specs.Option.{option_map_or}
use Rattle.std.proofs.lemmas.Option.{none-some}
use Rattle.core_lang.specs.declared.value.Value.{Value}
use Rattle.core_lang.specs.declared.value.Outcome.{Outcome}
use Rattle.core_lang.specs.declared.tree.Section.{Section}
use Rattle.core_lang.specs.Whole.{opening}
use Rattle.code.specs.Memory.{overwritten}
use Rattle.code.specs.Alone.{alone}
use Rattle.code.specs.Lowering.{section_code, lists_at}
use Rattle.code.specs.Working.Laws.{on_heap}
use Rattle.history.specs.Commits.{Commit, committed, IsLegal, AreTrue}
use Rattle.history.specs.Working.Laws.{CommittedKeepsSize}
use Rattle.lowering.specs.Plans.{Plan, IsCompiled}
use Rattle.worlds.specs.Worlds.{World, Activation, HasOpen, section_at, code_at, locals_at}
use Rattle.worlds.specs.Working.States.{IsSound, standing}
use Rattle.c_language.specs.Alike.{IsFitting, AreFitting}
use Rattle.c_language.specs.InC.{AreShort, Fitting, StandsFitting, NumbersStayFitting, SectionsBehaveInC}
use Rattle.c_threads.specs.Claims.{HasFittingNumbers}
use Rattle.code.specs.Theory.Values.{length-overwritten}

-- ---- lists of values

pub get_fits : (xs : List Value) (k : ℕ) (v : Value) → AreFitting xs → slice_get xs k ≡ Some v → IsFitting v
get_fits [] k v f e = absurd (none-some v e)
get_fits (x ∷ xs) zero v f e = (let same : x ≡ v = cc e in subst IsFitting same f.0)
get_fits (x ∷ xs) (suc k) v f e = get_fits xs k v f.1 e

pub all_fit : (xs : List Value) → ((k : ℕ) (v : Value) → slice_get xs k ≡ Some v → IsFitting v) → AreFitting xs
all_fit [] h = tt
all_fit (x ∷ xs) h = (h 0 x refl, all_fit xs (λ k v e. h (suc k) v e))

module _ (plan : Plan) (ok : IsCompiled plan) (short : HasFittingNumbers plan) where
  -- the code of a section
  code_of : (k : ℕ) (section : Section) → section_at plan k ≡ Some section → code_at plan k ≡ section_code (lists_at plan.lists k) section
  code_of k section is = ap (λ o. option_map_or (λ (s : Section). section_code (lists_at plan.lists k) s) o []) is

  section_short : (k : ℕ) (section : Section) → section_at plan k ≡ Some section → AreShort (section_code (lists_at plan.lists k) section)
  section_short k section is = subst AreShort (code_of k section is) (short.code k)

  -- ---- what the history leaves

  abbrev pub ArgumentsFit : List Commit → Type 0
  ArgumentsFit [] = ⊤
  ArgumentsFit (c ∷ cs) = AreFitting c.arguments × ArgumentsFit cs

  pub heap_fits : SectionsBehaveInC ℕ → (heap : List Value) (cs : List Commit) → length heap ≡ length plan.program.cells.items → AreFitting heap →
      AreTrue plan.program cs → IsLegal heap cs → ArgumentsFit cs → AreFitting (committed heap cs)
  heap_fits behave heap [] size f true_entries legal arguments = f
  heap_fits behave heap (c ∷ cs) size f true_entries legal arguments =
      let whole = true_entries.0 heap size legal.0 in
      let behaves = behave plan.program whole.0 (lists_at plan.lists c.section) ok.well_formed (c.section, whole.1) (section_short c.section whole.0 whole.1) in
      let left = behaves.fits c.arguments heap _ arguments.0 f whole.2 in
      heap_fits behave (overwritten heap c.writes) cs (length-overwritten heap c.writes ∙ size) left true_entries.1 legal.1 arguments.1

  -- ---- open sections

  pub section_fits : NumbersStayFitting → CommittedKeepsSize → (w : World) (t : ℕ) (a : Activation) → IsSound plan w → HasOpen w t a →
      AreFitting a.call.arguments → AreFitting (committed plan.layout.opening w.history) →
      StandsFitting (standing a.outcome (on_heap (committed plan.layout.opening w.history) a.machine))
  section_fits law size w t a sound o arguments heap_fit =
      let heap = committed plan.layout.opening w.history in
      let well = sound.well t a o in
      let locals : locals_at plan a.call ≡ (opening well.section a.call.arguments heap).locals =
      ap (λ x. option_map_or (λ (s : Section). (opening s a.call.arguments []).locals) x []) well.is in
      let stands = law plan.program.shape well.section (code_at plan a.call.section) a.call.arguments heap well.count (short.code a.call.section) arguments heap_fit in
      subst StandsFitting (ap (λ (xs : List Value). alone plan.program.shape (code_at plan a.call.section) well.count xs heap) (sym locals)
      ∙ well.truth heap (size plan.layout.opening w.history) (sound.fit t a o).part.reads) stands

  -- the machine of a section without an outcome fits
  pub machine_fits : (a : Activation) (heap : List Value) → a.outcome ≡ None → StandsFitting (standing a.outcome (on_heap heap a.machine)) →
      Fitting (on_heap heap a.machine)
  machine_fits a heap none s = subst (λ o. StandsFitting (standing o (on_heap heap a.machine))) none s

  -- the value of a cell that the section holds fits
  pub held_fits : (a : Activation) (heap : List Value) → StandsFitting (standing a.outcome (on_heap heap a.machine)) → AreFitting (overwritten heap a.machine.memory.writes)
  held_fits a heap s = by a.outcome s
    where
      by : (o : Option Outcome) → StandsFitting (standing o (on_heap heap a.machine)) → AreFitting (overwritten heap a.machine.memory.writes)
      by None s = s.heap
      by (Some outcome) s = s
