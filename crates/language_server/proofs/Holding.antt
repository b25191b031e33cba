-- Which paths are held.
use Rattle.std.proofs.Common.{◌≡◌, ◌∙◌, ℕ, zero, suc, ◌+◌, ◌-◌, ◌<◌, Bool, true, false, List, [], ◌∷◌, ◌++◌, Some, length, map, append_assoc, ap, sym, subst, refl, inl, inr, arith}
use Rattle.std.specs.Prelude.{slice_get, if◌then◌else◌}
use Rattle.std.specs.List.{filter, range_with_len}
use Rattle.std.proofs.lemmas.List.{length-map}
use Rattle.std.proofs.lemmas.Option.{none-some, same_Some}
use Rattle.core_lang.specs.Theory.Items.{pushed_at}
use Rattle.core_lang.specs.declared.tree.Section.{Section}
use Rattle.core_lang.specs.declared.typed.Typed.{Typed}
use Rattle.locks.specs.declared.path_set.PathSet.{PathSet}
use Rattle.locks.specs.LockPaths.{LockPath, lock_paths}
use Rattle.locks.specs.Sets.{has}
use Rattle.lowering.specs.Plans.{Plan}
use Rattle.points.specs.declared.table.Points.{Points}
use Rattle.points.specs.Working.Points.{ArePoints}
use Rattle.language_server.specs.Held.{AreHeldLists, IsHeldList}
use Rattle.language_server.specs.Working.Lines.{AreHeldAt, AreNumbersOf, numbers_of}

-- ---- numbers that pass a test

more : (a n : ℕ) → a < n → range_with_len a (n - a) ≡ a ∷ range_with_len (a + 1) (n - (a + 1))
more a n lt = let e : n - a ≡ suc (n - (a + 1)) = omega arith in rw e refl

module _ (test : ℕ → Bool) (i n : ℕ) (old new whole : List ℕ) (within : i < n) where
  pub listed : test i ≡ true → new ≡ old ++ i ∷ [] → old ++ filter test (range_with_len i (n - i)) ≡ whole →
      new ++ filter test (range_with_len (i + 1) (n - (i + 1))) ≡ whole
  listed passes is before =
      let here : filter test (range_with_len i (n - i)) ≡ i ∷ filter test (range_with_len (i + 1) (n - (i + 1))) =
      ap (filter test) (more i n within) ∙ rw passes refl in
      rw is (append_assoc old (i ∷ []) _ ∙ ap (λ l. old ++ l) (sym here) ∙ before)

  pub passed : test i ≡ false → new ≡ old → old ++ filter test (range_with_len i (n - i)) ≡ whole →
      new ++ filter test (range_with_len (i + 1) (n - (i + 1))) ≡ whole
  passed fails is before =
      let here : filter test (range_with_len i (n - i)) ≡ filter test (range_with_len (i + 1) (n - (i + 1))) =
      ap (filter test) (more i n within) ∙ rw fails refl in
      rw is (ap (λ l. old ++ l) (sym here) ∙ before)

-- ---- the lists of a section

mapped : {X Y : Type 0} (f : X → Y) (xs : List X) (p : ℕ) (y : Y) → slice_get (map f xs) p ≡ Some y →
    (x : X) × (slice_get xs p ≡ Some x) × (f x ≡ y)
mapped f [] p y e = absurd (none-some y e)
mapped f (x ∷ xs) zero y e = (x, refl, same_Some (f x) y e)
mapped f (x ∷ xs) (suc p) y e = mapped f xs p y e

pub held_lists : (program : Typed) (section : Section) (ranks : List ℕ) (x : Points) (lists : List (List ℕ)) → ArePoints program section x →
    AreNumbersOf x ranks lists → AreHeldLists program section ranks lists
held_lists program section ranks x lists points (sets, held, is) =
    let are = held program section points in
    let many = length x.classes.items in
    let all : many ≡ length (lock_paths program section) = ap length points.classes ∙ length-map (lock_paths program section) _ in
    record {
      long = ap length is ∙ length-map sets _ ∙ are.0;
      each = λ p list e.
          let at = mapped (λ (set : PathSet). filter (has set) (range_with_len 0 many)) sets p list (ap (λ (l : List (List ℕ)). slice_get l p) (sym is) ∙ e) in
          record {
            held = has at.0;
            decides = λ i path here. are.1 p i at.0 path at.1 here;
            rising = sym at.2 ∙ ap (λ (n : ℕ). filter (has at.0) (range_with_len 0 n)) all;
          };
    }

-- one section more
module _ (plan : Plan) (all : List (List (List ℕ))) (k : ℕ) (new : List (List ℕ)) (long : length all ≡ k) (here : AreHeldAt plan k new) where
  pub one_more : ((i : ℕ) (section : Section) (ls : List (List ℕ)) → slice_get plan.program.sections.items i ≡ Some section → slice_get all i ≡ Some ls →
      AreHeldLists plan.program section plan.ranks ls) → (i : ℕ) (section : Section) (ls : List (List ℕ)) →
      slice_get plan.program.sections.items i ≡ Some section → slice_get (all ++ new ∷ []) i ≡ Some ls →
      AreHeldLists plan.program section plan.ranks ls
  one_more before i section ls there e =
      elim (pushed_at all new i ls e) [
        | inl old ↦ before i section ls there old
        | inr last ↦
            subst (λ (l : List (List ℕ)). AreHeldLists plan.program section plan.ranks l) last.1
            (here section (ap (slice_get plan.program.sections.items) (sym (last.0 ∙ long)) ∙ there))
      ]
