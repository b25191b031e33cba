-- The paths taken on a walk by relations are those by the tests that decide them.
use Rattle.std.specs.Prelude.{◌≡◌, ℕ, ◌⊎◌, Bool, true, false, not, ◌&&◌, ◌||◌, List, [], ◌∷◌}
use Rattle.std.specs.Bool.{Decides}
use Rattle.std.proofs.Common.{refl, inl, inr}
use Rattle.core_lang.specs.declared.tree.Section.{Section}
use Rattle.core_lang.specs.declared.typed.Typed.{Typed}
use Rattle.flow.specs.Skeletons.{skeleton}
use Rattle.flow.specs.Theory.Held.{covers, SurelyHeld}
use Rattle.locks.specs.LockPaths.{LockPath, BindsRoot}
use Rattle.points.specs.Wanted.{IsWanted, IsTaken, last, earlier, IsSurelyHeld}

step : (x y z : Bool) → (x ≡ true) ⊎ (y ≡ true) → (z ≡ true → ⊥) → ((x || y) && not z) ≡ true
step x y true h n = absurd (n refl)
step true y false h n = refl
step false true false h n = refl
step false false false (inl e) n = e
step false false false (inr e) n = e

back : (x y z : Bool) → ((x || y) && not z) ≡ true → ((x ≡ true) ⊎ (y ≡ true)) × (z ≡ true → ⊥)
back true y true h = absurd cc
back false true true h = absurd cc
back false false true h = absurd cc
back true y false h = (inl refl, λ e. absurd cc)
back false true false h = (inr refl, λ e. absurd cc)
back false false false h = absurd cc

module _ (program : Typed) (section : Section) (ranks : List ℕ) (path : LockPath) (wanted binds : ℕ → Bool)
    (w : (p : ℕ) → Decides (wanted p) (IsWanted program section ranks p path)) (b : (p : ℕ) → Decides (binds p) (BindsRoot section p path)) where
  taken_covers : (ps : List ℕ) → IsTaken program section ranks path ps → covers wanted binds ps ≡ true
  taken_covers [] t = elim t [ ]
  taken_covers (p ∷ ps) (last is free) = step (wanted p) _ (binds p) (inl ((w p).1 is)) (λ e. free ((b p).0 e))
  taken_covers (p ∷ ps) (earlier t free) = step (wanted p) _ (binds p) (inr (taken_covers ps t)) (λ e. free ((b p).0 e))

  covers_taken : (ps : List ℕ) → covers wanted binds ps ≡ true → IsTaken program section ranks path ps
  covers_taken [] e = absurd cc
  covers_taken (p ∷ ps) e =
      let parts = back (wanted p) (covers wanted binds ps) (binds p) e in
      let free = λ (is : BindsRoot section p path). parts.1 ((b p).1 is) in
      elim (parts.0) [ inl x ↦ last ((w p).0 x) free | inr x ↦ earlier (covers_taken ps x) free ]

  pub held_decided : (p : ℕ) (set : Bool) → Decides set (SurelyHeld wanted binds (skeleton section) p) →
      Decides set (IsSurelyHeld program section ranks p path)
  held_decided p set d = ((λ t ps walk. covers_taken ps (d.0 t ps walk)), (λ h. d.1 (λ ps walk. taken_covers ps (h ps walk))))
