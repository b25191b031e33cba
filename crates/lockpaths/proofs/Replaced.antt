-- Replacements of locals, one after another.
use Rattle.std.proofs.Common.{◌≡◌, ◌≢◌, ℕ, ◌+◌, ◌<◌, List, [], ◌∷◌, ◌++◌, length, map, take, get_or, Bool, refl, sym}
use Rattle.std.proofs.Common.{ap, ◌∙◌}
use Rattle.std.specs.Prelude.{if◌then◌else◌}
use Rattle.std.proofs.lemmas.Bool.{eq-eqb, ne_eqb}
use Rattle.std.proofs.lemmas.List.{map_push, take_more}
use Rattle.locks.specs.LockPaths.{StablePath}
use Rattle.lockpaths.specs.declared.forms.Bound.{Bound}
use Rattle.lockpaths.specs.Working.Forms.{Replacement, replacement_of, put_in, replaced_by, all_replaced_by}

pub behind_last : (rs : List Replacement) (r : Replacement) (path : StablePath) →
    all_replaced_by (rs ++ r ∷ []) path ≡ all_replaced_by rs (replaced_by r path)
behind_last [] r path = refl
behind_last (x ∷ rs) r path = ap (replaced_by x) (behind_last rs r path)

-- the last of those that are left
module _ (items : List Bound) (n k : ℕ) (b : Bound) (form all : StablePath) (count : n ≡ k + 1) (lt : k < length items) (is : b ≡ get_or items k b)
    (before : all_replaced_by (map replacement_of (take n items)) form ≡ all) where
  last_first : all_replaced_by (map replacement_of (take k items)) (replaced_by (replacement_of b) form) ≡ all
  last_first =
      let taken : take n items ≡ take k items ++ b ∷ [] = ap (λ j. take j items) count ∙ take_more items k b lt ∙ ap (λ (y : Bound). take k items ++ y ∷ []) (sym is) in
      sym (behind_last (map replacement_of (take k items)) (replacement_of b) form)
      ∙ sym (ap (λ l. all_replaced_by l form) (ap (map replacement_of) taken ∙ map_push replacement_of (take k items) b))
      ∙ before

  pub put : (next : StablePath) → b.local ≡ form.root → next ≡ put_in (replacement_of b) form →
      all_replaced_by (map replacement_of (take k items)) next ≡ all
  put next same made =
      ap (all_replaced_by (map replacement_of (take k items)))
      (made ∙ sym (ap (λ (t : Bool). if t then put_in (replacement_of b) form else form) (eq-eqb b.local form.root same)))
      ∙ last_first

  pub stays : (next : StablePath) → b.local ≢ form.root → next ≡ form →
      all_replaced_by (map replacement_of (take k items)) next ≡ all
  stays next other made =
      ap (all_replaced_by (map replacement_of (take k items)))
      (made ∙ sym (ap (λ (t : Bool). if t then put_in (replacement_of b) form else form) (ne_eqb b.local form.root other)))
      ∙ last_first
