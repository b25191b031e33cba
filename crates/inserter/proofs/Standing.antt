-- What holds while a run is at a point, with some of the locks granted that are listed there.
use Rattle.std.proofs.Common.{ℕ, List, ◌⊎◌, inl, inr}
use Rattle.std.specs.Prelude.{◌≢◌}
use Rattle.std.specs.List.{AllPairs, Contains}
use Rattle.core_lang.specs.declared.value.Value.{Value}
use Rattle.core_lang.specs.declared.tree.Section.{Section}
use Rattle.core_lang.specs.declared.typed.Typed.{Typed}
use Rattle.locks.specs.declared.lock.Lock.{Lock}
use Rattle.locks.specs.LockPaths.{LockPath, Names}
use Rattle.locks.specs.Order.{Precedes}
use Rattle.points.specs.Wanted.{IsWanted}
use Rattle.inserter.specs.Working.Runs.{IsListed}
use Rattle.inserter.specs.Working.Laws.{IsOrdered}
use Rattle.inserter.proofs.Held.{held_or_not}
use Rattle.inserter.proofs.Arrived.{HasPath, Arrived}
use Rattle.inserter.proofs.Listed.{PathLaws, somewhere, listed_wanted, due_listed}

module _ (program : Typed) (section : Section) (ranks : List ℕ) (lists : List (List ℕ)) where
  -- it was granted at this point: it is listed, and precedes all listed locks that aren't held
  pub record IsGranted (p : ℕ) (locals : List Value) (held : List Lock) (h : Lock) : Type 0 where
    pub listed : IsListed program section ranks lists p locals h
    pub first : (m : Lock) → IsListed program section ranks lists p locals m → (Contains held m → ⊥) →
        Precedes ranks h m

  pub record Standing (p : ℕ) (locals : List Value) (held : List Lock) : Type 0 where
    -- the locks that were held when it came
    pub before : List Lock
    pub arrived : Arrived program section ranks p locals before
    pub keeps : (h : Lock) → Contains before h → Contains held h
    pub each : (h : Lock) → Contains held h → Contains before h ⊎ IsGranted p locals held h
    pub once : AllPairs ◌≢◌ held

module _ (laws : PathLaws) (program : Typed) (section : Section) (ranks : List ℕ) (lists : List (List ℕ)) (ok : IsOrdered program section ranks lists)
    (p : ℕ) (locals : List Value) (held : List Lock) (s : Standing program section ranks lists p locals held) where
  pub path_of : (h : Lock) → Contains held h → HasPath program section ranks locals h
  path_of h c =
      elim (s.each h c) [
        | inl old ↦ s.arrived.of_path h old
        | inr new ↦
            let x = new.listed in
            let user = somewhere laws program section ranks lists ok p x.path (listed_wanted laws program section ranks lists ok p locals h x).ahead in
            record { path = x.path; user = user.0; uses = user.1; named = x.named }
      ]

  -- if all listed locks are held, so are the locks of each wanted path
  pub wanted_held : ((l : Lock) → IsListed program section ranks lists p locals l → Contains held l) →
      (path : LockPath) (l : Lock) →
      IsWanted program section ranks p path → Names path program.shape locals l → Contains held l
  wanted_held all path l wanted e =
      elim (held_or_not held l) [
        | inl c ↦ c
        | inr none ↦ all l (due_listed laws program section ranks lists ok p path locals l (record {
          wanted = wanted;
          missing = λ surely. none (s.keeps l (s.arrived.sure path l surely e));
        }) e)
      ]
