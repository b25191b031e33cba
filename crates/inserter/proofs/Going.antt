-- From a point where all listed locks are held to one that follows: what holds on arrival holds there too.
use Rattle.std.proofs.Common.{◌≡◌, ℕ, List, [], ◌∷◌, ◌⊎◌, inl, inr, refl, sym, subst, arith}
use Rattle.std.specs.Prelude.{slice_index}
use Rattle.std.specs.List.{Contains}
use Rattle.std.proofs.lemmas.Bool.{cases_lt}
use Rattle.core_lang.specs.declared.value.Value.{Value}
use Rattle.core_lang.specs.declared.tree.Section.{Section}
use Rattle.core_lang.specs.declared.typed.Typed.{Typed}
use Rattle.flow.specs.Skeletons.{skeleton}
use Rattle.flow.specs.Flow.{Follows, Before, one, more}
use Rattle.flow.specs.Walks.{go}
use Rattle.locks.specs.declared.lock.Lock.{Lock}
use Rattle.locks.specs.LockPaths.{LockPath, Names, Uses, IsInScope, BindsRoot}
use Rattle.points.specs.Used.{IsUsedLater}
use Rattle.points.specs.Wanted.{rank_of, IsTaken, last, earlier, IsSurelyHeld}
use Rattle.inserter.specs.Working.Runs.{IsListed, Keeps}
use Rattle.inserter.specs.Working.Laws.{IsOrdered}
use Rattle.inserter.proofs.Held.{held_or_not}
use Rattle.inserter.proofs.Arrived.{AreBelow, HasPath, Arrived}
use Rattle.inserter.proofs.Listed.{PathLaws, named_rank, rises, somewhere, listed_below}
use Rattle.inserter.proofs.Standing.{Standing, path_of, wanted_held}

module _ (program : Typed) (section : Section) where
  from_here : {p q b : ℕ} → Follows (skeleton section) p q → (q ≡ b) ⊎ Before (skeleton section) q b →
      Before (skeleton section) p b
  from_here {p} f (inl e) = subst (λ x. Before (skeleton section) p x) e (one f)
  from_here f (inr b) = more f b

  later_than : {p q : ℕ} (path : LockPath) → Follows (skeleton section) p q →
      Uses program section q path ⊎ IsUsedLater program section q path →
      IsUsedLater program section p path
  later_than {p} {q} path f (inl u) = (q, one f, u)
  later_than path f (inr later) = (later.0, more f later.1, later.2)

  taken_user : (ranks : List ℕ) (path : LockPath) (ps : List ℕ) → IsTaken program section ranks path ps →
      (p : ℕ) × (Uses program section p path ⊎ IsUsedLater program section p path)
  taken_user ranks path [] t = elim t [ ]
  taken_user ranks path (p ∷ ps) (last wanted free) = (p, wanted.ahead)
  taken_user ranks path (p ∷ ps) (earlier t free) = taken_user ranks path ps t

  not_bound : (ranks : List ℕ) (path : LockPath) (p : ℕ) (ps : List ℕ) → IsTaken program section ranks path (p ∷ ps) →
      BindsRoot section p path → ⊥
  not_bound ranks path p ps (last wanted free) = free
  not_bound ranks path p ps (earlier t free) = free

module _ (laws : PathLaws) (program : Typed) (section : Section) (ranks : List ℕ) (lists : List (List ℕ)) (ok : IsOrdered program section ranks lists)
    (p q : ℕ) (locals after : List Value) (held : List Lock) (s : Standing program section ranks lists p locals held)
    (all : (l : Lock) → IsListed program section ranks lists p locals l → Contains held l)
    (keeps : Keeps program section ranks lists p locals after) (follows : Follows (skeleton section) p q) where
  -- all that is held is below a path whose root is bound here or later
  below_bound : (path : LockPath) (user b : ℕ) → Uses program section user path → BindsRoot section b path →
      (p ≡ b) ⊎ Before (skeleton section) p b →
      AreBelow program section ranks held path
  below_bound path user b u binds order h c =
      elim (s.each h c) [
        | inl old ↦ s.arrived.later path user b u binds order h old
        | inr new ↦
            let a = listed_below laws program section ranks lists ok p locals h new.listed in
            let up = rises laws program section ranks lists ok p b user a.0 path a.1 u binds order in
            omega (arith, a.2, up)
      ]

  held_now : (path : LockPath) (l : Lock) → (BindsRoot section p path → ⊥) → IsInScope section p path →
      IsUsedLater program section p path →
      Names path program.shape locals l → (Contains held l → ⊥) → AreBelow program section ranks held path
  held_now path l stays scope later e none h c =
      elim (s.each h c) [
        | inl old ↦ s.arrived.free path l scope (inr later) e (λ d. none (s.keeps l d)) h old
        | inr new ↦
            let a = listed_below laws program section ranks lists ok p locals h new.listed in
            elim (cases_lt (rank_of ranks a.0) (rank_of ranks path)) [
              | inl lt ↦ omega (arith, lt, a.2)
              | inr ge ↦ absurd (none (wanted_held laws program section ranks lists ok p locals held s all path l (record {
                in_scope = scope;
                ahead = inr later;
                below = (a.0, a.1, ge);
              }) e))
            ]
      ]

  -- what a path names after the point it named before it
  named_before : (path : LockPath) (l : Lock) (user : ℕ) → Uses program section user path →
      (BindsRoot section p path → ⊥) → Names path program.shape after l → Names path program.shape locals l
  named_before path l user u stays e = subst (λ (ls : List Lock). Contains ls l) (keeps user path u stays) e

  free_on : (path : LockPath) (l : Lock) → IsInScope section q path →
      Uses program section q path ⊎ IsUsedLater program section q path →
      Names path program.shape after l → (Contains held l → ⊥) → AreBelow program section ranks held path
  free_on path l scope ahead e none h c =
      let user = somewhere laws program section ranks lists ok q path ahead in
      elim (cases_lt (slice_index ranks h.class) (rank_of ranks path)) [
        | inl lt ↦ lt
        | inr ge ↦
            let stays : BindsRoot section p path → ⊥ = λ binds. let lt = below_bound path user.0 p user.1 binds (inl refl) h c in omega (arith, lt, ge) in
            let e' = named_before path l user.0 user.1 stays e in
            elim (laws.scope_back section p q path follows scope) [
              | inl here ↦ held_now path l stays here (later_than program section path follows ahead) e' none h c
              | inr binds ↦ absurd (stays binds)
            ]
      ]

  sure_on : (path : LockPath) (l : Lock) → IsSurelyHeld program section ranks q path →
      Names path program.shape after l → Contains held l
  sure_on path l surely e =
      let walk = s.arrived.walk in
      let taken = surely (p ∷ walk.0) (go walk.1 follows) in
      let at = taken_user program section ranks path (p ∷ walk.0) taken in
      let user = somewhere laws program section ranks lists ok at.0 path at.1 in
      let e' = named_before path l user.0 user.1 (not_bound program section ranks path p walk.0 taken) e in
      elim (held_or_not held l) [
        | inl c ↦ c
        | inr none ↦ s.keeps l (s.arrived.sure path l (λ ps w. by_then ps (surely (p ∷ ps) (go w follows)) e' none) e')
      ]
    where
      by_then : {path : LockPath} {l : Lock} (ps : List ℕ) → IsTaken program section ranks path (p ∷ ps) →
          Names path program.shape locals l →
          (Contains held l → ⊥) → IsTaken program section ranks path ps
      by_then {path} {l} ps (last wanted free) e none = absurd (none (wanted_held laws program section ranks lists ok p locals held s all path l wanted e))
      by_then ps (earlier t free) e none = t

  of_path_on : (h : Lock) → Contains held h → HasPath program section ranks after h
  of_path_on h c =
      let x = path_of laws program section ranks lists ok p locals held s h c in
      let stays : BindsRoot section p x.path → ⊥ = λ binds.
      let lt = below_bound x.path x.user p x.uses binds (inl refl) h c in
      let same = named_rank laws program section ranks lists ok x.path locals h x.named in
      omega (arith, lt, same)
      in
      record { path = x.path; user = x.user; uses = x.uses; named = subst (λ (ls : List Lock). Contains ls h) (sym (keeps x.user x.path x.uses stays)) x.named }

  pub goes_on : Arrived program section ranks q after held
  goes_on = record {
    walk = (p ∷ s.arrived.walk.0, go s.arrived.walk.1 follows);
    free = free_on;
    later = λ path user b u binds order. below_bound path user b u binds (inr (from_here program section follows order));
    sure = sure_on;
    of_path = of_path_on;
  }
