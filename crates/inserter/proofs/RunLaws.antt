-- The laws of a run's locks: each lock asked for comes after those held, used locks are held, and few are held.
use Rattle.std.proofs.Common.{◌≡◌, ℕ, ◌<◌, ◌≤◌, List, [], ◌∷◌, ◌++◌, length, Some, inl, inr, sym, ◌∙◌, subst, arith}
use Rattle.std.specs.Prelude.{slice_get, slice_index}
use Rattle.std.specs.List.{Contains, flat_map}
use Rattle.std.proofs.lemmas.Option.{same_Some, slice_get_within}
use Rattle.std.proofs.lemmas.List.Elements.{Contains-append_left, Contains-push, Contains-push_cases}
use Rattle.core_lang.specs.declared.value.Value.{Value}
use Rattle.core_lang.specs.declared.tree.Section.{Section}
use Rattle.core_lang.specs.declared.typed.Typed.{Typed}
use Rattle.core_lang.specs.Theory.Items.{not_in_none, in_cases, at_contained}
use Rattle.locks.specs.declared.lock.Lock.{Lock}
use Rattle.locks.specs.Locks.{locks_of}
use Rattle.locks.specs.LockPaths.{LockPath, lock_paths, locks_named, whole_class}
use Rattle.locks.specs.Theory.Members.{in_flat_map}
use Rattle.locks.specs.Theory.Naming.{few_in_paths}
use Rattle.locks.specs.Theory.Order.{by_rank}
use Rattle.points.specs.Wanted.{IsWanted}
use Rattle.inserter.specs.Working.Runs.{IsListed, Asks, Run, begins, gets, goes, executed}
use Rattle.inserter.specs.Working.Laws.{IsOrdered, InRuns, AsksRise, UsedAreHeld, HeldAreNamed, FewAreHeld}
use Rattle.inserter.specs.Working.Laws.{WholeClassesAreHeld}
use Rattle.inserter.proofs.Held.{distinct_push}
use Rattle.inserter.proofs.Few.{no_more_than}
use Rattle.inserter.proofs.Listed.{PathLaws, named_rank, used_wanted, number_of, listed_wanted}
use Rattle.inserter.proofs.Arrived.{starts}
use Rattle.inserter.proofs.Standing.{IsGranted, Standing, path_of, wanted_held}
use Rattle.inserter.proofs.Going.{goes_on}

module _ (laws : PathLaws) (program : Typed) (section : Section) (ranks : List ℕ) (lists : List (List ℕ)) (ok : IsOrdered program section ranks lists) where
  granted : (p : ℕ) (locals : List Value) (held : List Lock) (lock : Lock) →
      Standing program section ranks lists p locals held →
      Asks program section ranks lists p locals held lock → Standing program section ranks lists p locals (held ++ lock ∷ [])
  granted p locals held lock s asks =
      let more = λ (m : Lock) (c : Contains held m). Contains-append_left held (lock ∷ []) m c in
      let last : IsGranted program section ranks lists p locals (held ++ lock ∷ []) lock = record {
        listed = asks.listed;
        first = λ m listed new. elim (asks.first m listed (λ c. new (more m c))) [
          | inl e ↦ absurd (new (subst (λ (x : Lock). Contains (held ++ lock ∷ []) x) (sym e) (Contains-push held lock)))
          | inr before ↦ before
        ];
      } in
      record {
        before = s.before;
        arrived = s.arrived;
        keeps = λ h c. more h (s.keeps h c);
        each = λ h c. elim (Contains-push_cases held lock h c) [
          | inl old ↦ elim (s.each h old) [
            | inl b ↦ inl b
            | inr g ↦ inr (record { listed = g.listed; first = λ m listed new. g.first m listed (λ d. new (more m d)) })
          ]
          | inr e ↦ inr (subst (λ (x : Lock). IsGranted program section ranks lists p locals (held ++ lock ∷ []) x) e last)
        ];
        once = distinct_push held lock s.once asks.new;
      }

  stands : {p : ℕ} {locals : List Value} {held : List Lock} → Run program section ranks lists p locals held →
      Standing program section ranks lists p locals held
  stands (begins {locals}) = record {
    before = [];
    arrived = starts program section ranks locals;
    keeps = λ h c. c;
    each = λ h c. inl c;
    once = λ i j k lt b. absurd (omega (arith, b));
  }
  stands (gets {p} {locals} {held} {lock} run asks) = granted p locals held lock (stands run) asks
  stands (goes {p} {q} {locals} {after} {held} run all keeps follows) =
      let s = stands run in
      record {
        before = held;
        arrived = goes_on laws program section ranks lists ok p q locals after held s all keeps follows;
        keeps = λ h c. c;
        each = λ h c. inl c;
        once = s.once;
      }

  rise : (p : ℕ) (locals : List Value) (held : List Lock) → Run program section ranks lists p locals held →
      AsksRise program section ranks lists p locals held
  rise p locals held run lock other asks c =
      let s = stands run in
      elim (s.each other c) [
        | inl old ↦
            let x = asks.listed in
            let wanted = listed_wanted laws program section ranks lists ok p locals lock x in
            let below = s.arrived.free x.path lock wanted.in_scope wanted.ahead x.named (λ d. asks.new (s.keeps lock d)) other old in
            let same = named_rank laws program section ranks lists ok x.path locals lock x.named in
            let lt : slice_index ranks other.class < slice_index ranks lock.class = omega (arith, below, same) in
            by_rank ranks other lock lt
        | inr new ↦ new.first lock asks.listed asks.new
      ]

  held_there : (p : ℕ) (locals : List Value) (held : List Lock) → Run program section ranks lists p locals held →
      UsedAreHeld program section ranks lists p locals held
  held_there p locals held run all path lock uses e =
      wanted_held laws program section ranks lists ok p locals held (stands run) all path lock (used_wanted laws program section ranks lists ok p path uses) e

  all_named : (p : ℕ) (locals : List Value) (held : List Lock) → Run program section ranks lists p locals held →
      HeldAreNamed program section ranks lists p locals held
  all_named p locals held run lock c =
      let x = path_of laws program section ranks lists ok p locals held (stands run) lock c in
      let i = number_of laws program section ranks lists ok x.user x.path x.uses in
      (i.0, x.path, i.1, x.named)

  -- the lock has this place in the list
  abbrev IsAt : List Lock → ℕ → Lock → Type 0
  IsAt named k lock = slice_get named k ≡ Some lock

  few : (p : ℕ) (locals : List Value) (held : List Lock) → Run program section ranks lists p locals held →
      FewAreHeld program section ranks lists p locals held
  few p locals held run =
      let s = stands run in
      let named : List Lock = flat_map (λ (path : LockPath). locks_named path program.shape locals) (lock_paths program section) in
      let most = few_in_paths (lock_paths program section) program.shape locals in
      let less : length held ≤ length named = no_more_than (length named) (IsAt named) (one named) held s.once (λ h c.
      let x = path_of laws program section ranks lists ok p locals held s h c in
      let i = number_of laws program section ranks lists ok x.user x.path x.uses in
      let at = at_contained named h (in_flat_map (λ (path : LockPath). locks_named path program.shape locals) (lock_paths program section) i.0 x.path h i.1 x.named) in
      (at.0, slice_get_within named at.0 h at.1, at.1))
      in
      (s.once, omega (arith, less, most))
    where
      one : (named : List Lock) (k : ℕ) (a b : Lock) → IsAt named k a → IsAt named k b → a ≡ b
      one named k a b x y = same_Some a b (sym x ∙ y)

  here_whole : (p : ℕ) (locals : List Value) (held : List Lock) (run : Run program section ranks lists p locals held) →
      (point number structure : ℕ) → IsWanted program section ranks point (whole_class number structure) → point ≡ p →
      ((l : Lock) → IsListed program section ranks lists p locals l → Contains held l) →
      (lock : Lock) → Contains (locks_of program.shape number structure) lock → Contains held lock
  here_whole p locals held run point number structure wanted e all lock named =
      wanted_held laws program section ranks lists ok p locals held (stands run) all (whole_class number structure) lock
      (subst (λ n. IsWanted program section ranks n (whole_class number structure)) e wanted) named

  -- a class that is wanted at a point which the run executes is held from there on
  held_whole : {p : ℕ} {locals : List Value} {held : List Lock} (run : Run program section ranks lists p locals held) →
      (point number structure : ℕ) → IsWanted program section ranks point (whole_class number structure) →
      Contains (executed program section ranks lists run) point →
      (lock : Lock) → Contains (locks_of program.shape number structure) lock → Contains held lock
  held_whole begins point number structure wanted c lock named = absurd (not_in_none point c)
  held_whole (gets {p} {locals} {held} {lock} run asks) point number structure wanted c l named =
      Contains-append_left held (lock ∷ []) l (held_whole run point number structure wanted c l named)
  held_whole (goes {p} {q} {locals} {after} {held} run all keeps follows) point number structure wanted c lock named =
      elim (in_cases p point (executed program section ranks lists run) c) [
        | inl e ↦ here_whole p locals held run point number structure wanted (sym e) all lock named
        | inr d ↦ held_whole run point number structure wanted d lock named
      ]

pub asks_rise : PathLaws → InRuns AsksRise
asks_rise laws program section ranks lists p locals held ok run = rise laws program section ranks lists ok p locals held run

pub used_are_held : PathLaws → InRuns UsedAreHeld
used_are_held laws program section ranks lists p locals held ok run = held_there laws program section ranks lists ok p locals held run

pub held_are_named : PathLaws → InRuns HeldAreNamed
held_are_named laws program section ranks lists p locals held ok run = all_named laws program section ranks lists ok p locals held run

pub few_are_held : PathLaws → InRuns FewAreHeld
few_are_held laws program section ranks lists p locals held ok run = few laws program section ranks lists ok p locals held run

pub whole_classes_are_held : PathLaws → WholeClassesAreHeld
whole_classes_are_held laws program section ranks lists p locals held ok run point number structure wanted (inl here) lock named =
    here_whole laws program section ranks lists ok p locals held run point number structure wanted here.0 here.1 lock named
whole_classes_are_held laws program section ranks lists p locals held ok run point number structure wanted (inr since) lock named =
    held_whole laws program section ranks lists ok run point number structure wanted since lock named
