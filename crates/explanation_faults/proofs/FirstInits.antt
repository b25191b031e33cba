-- The first of the declarations that gives what an `init` gives.
use Rattle.std.proofs.Common.{◌≡◌, ◌∙◌, ◌<◌, ◌+◌, ℕ, Bool, true, false, List, ◌∷◌, drop, length, map, get_or, Some}
use Rattle.std.proofs.Common.{refl, sym, ap, add-one}
use Rattle.std.proofs.lemmas.List.{at_drop_more}
use Rattle.syntax.specs.declared.tree.Decl as the_decl
use Rattle.syntax.specs.declared.tree.Decl.TheVariants as decl_case
use Rattle.syntax.specs.declared.tree.Init as the_init
use Rattle.syntax.specs.Trees.{Init, Decl, init}
use Rattle.syntax.specs.Views.{decl_of}
use Rattle.resolution.specs.Scopes.{place_from}
use Rattle.explanation_faults.specs.Inits.{gives_same}

-- a declaration other than an `init` gives nothing
pub gives_nothing : (j : Init) (d : the_decl.Decl) → ((i : the_init.Init) → d ≡ decl_case.Init i → ⊥) →
    gives_same j (decl_of d) ≡ false
gives_nothing j (decl_case.Lock x) none = refl
gives_nothing j (decl_case.Struct x) none = refl
gives_nothing j (decl_case.Global x) none = refl
gives_nothing j (decl_case.Array x) none = refl
gives_nothing j (decl_case.Pool x) none = refl
gives_nothing j (decl_case.Init i) none = absurd (none i refl)
gives_nothing j (decl_case.Atomic x) none = refl
gives_nothing j (decl_case.Helper x) none = refl
gives_nothing j (decl_case.Thread x) none = refl

module _ (j : Init) (ds : List the_decl.Decl) (k : ℕ) (d : the_decl.Decl) (is : d ≡ get_or ds k d) (lt : k < length ds) where
  abbrev p : Decl → Bool
  p = gives_same j

  opened : place_from p k (map decl_of (drop k ds)) ≡ place_from p k (decl_of d ∷ map decl_of (drop (k + 1) ds))
  opened =
      at_drop_more (λ (l : List the_decl.Decl). place_from p k (map decl_of l)) ds k d lt
      ∙ ap (λ (x : the_decl.Decl). place_from p k (decl_of x ∷ map decl_of (drop (k + 1) ds))) (sym is)

  pub first_here : gives_same j (decl_of d) ≡ true →
      place_from p k (map decl_of (drop k ds)) ≡ place_from p 0 (map decl_of ds) →
      place_from p 0 (map decl_of ds) ≡ Some k
  first_here gives before = sym before ∙ opened ∙ rw gives refl

  pub not_here : gives_same j (decl_of d) ≡ false →
      place_from p k (map decl_of (drop k ds)) ≡ place_from p 0 (map decl_of ds) →
      place_from p (k + 1) (map decl_of (drop (k + 1) ds)) ≡ place_from p 0 (map decl_of ds)
  not_here gives before = ap (λ n. place_from p n (map decl_of (drop (k + 1) ds))) (add-one k) ∙ sym (opened ∙ rw gives refl) ∙ before

pub no_init : (d : the_decl.Decl) → ((i : the_init.Init) → d ≡ decl_case.Init i → ⊥) → (j : Init) →
    decl_of d ≡ init j → ⊥
no_init (decl_case.Lock x) none j e = cc
no_init (decl_case.Struct x) none j e = cc
no_init (decl_case.Global x) none j e = cc
no_init (decl_case.Array x) none j e = cc
no_init (decl_case.Pool x) none j e = cc
no_init (decl_case.Init i) none j e = none i refl
no_init (decl_case.Atomic x) none j e = cc
no_init (decl_case.Helper x) none j e = cc
no_init (decl_case.Thread x) none j e = cc
