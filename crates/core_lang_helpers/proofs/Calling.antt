-- The callers of each helper, as the code finds them.
use Rattle.std.proofs.Common.{◌≡◌, ℕ, zero, suc, ◌+◌, ◌<◌, ◌≤◌, List, [], ◌∷◌, ◌++◌, ◌⊎◌, length, get_or, set, take, inl, inr, refl, sym, ap}
use Rattle.std.proofs.Common.{◌∙◌, subst, Vec, Global, arith}
use Rattle.std.specs.Prelude.{slice_get, Some}
use Rattle.std.proofs.lemmas.Bool.{cases_lt, cases_eq}
use Rattle.std.proofs.lemmas.List.{length-set, length_push}
use Rattle.std.proofs.lemmas.Option.{same_Some}
use Rattle.core_lang_helpers.specs.declared.graph.CallSite.{CallSite}
use Rattle.core_lang_helpers.specs.Graphs.{Body}
use Rattle.core_lang_helpers.specs.Recursion.{HasCall}
use Rattle.core_lang_helpers.specs.Working.Tables.{Has, row_at, HaveNone, AddsCaller, IsCallersTo}
use Rattle.core_lang_helpers.proofs.Extending.{taken}
use Rattle.core_lang_helpers.proofs.Having.{has_push, has_last, has_either, call_push, call_last, call_either, row_read, row_same, row_other}

-- ---- empty rows

empty_push : (rows : List (Vec ℕ Global)) (row : Vec ℕ Global) → row.items ≡ [] →
    ((g f : ℕ) → Has (row_at rows g) f → ⊥) → (g f : ℕ) → Has (row_at (rows ++ row ∷ []) g) f → ⊥
empty_push [] row none before zero f h = subst (λ (xs : List ℕ). Has xs f) none h
empty_push [] row none before (suc g) f h = h
empty_push (x ∷ xs) row none before zero f h = before 0 f h
empty_push (x ∷ xs) row none before (suc g) f h = empty_push xs row none (λ g f h. before (suc g) f h) g f h

pub one_empty : (rows new : List (Vec ℕ Global)) (k : ℕ) (row : Vec ℕ Global) → HaveNone rows k → row.items ≡ [] →
    new ≡ rows ++ row ∷ [] → HaveNone new (k + 1)
one_empty rows new k row none empty is = subst (λ (l : List (Vec ℕ Global)). HaveNone l (k + 1)) (sym is) (record {
  long = length_push rows row ∙ ap (λ n. n + 1) none.long;
  empty = empty_push rows row empty none.empty;
})

-- ---- one more call

pub none_added : (rows : List (Vec ℕ Global)) (f : ℕ) → AddsCaller rows rows f []
none_added rows f = record { long = refl; kept = λ g x h. h; added = λ g lt h. absurd h; from = λ g x h. inl h }

module _ (old rows : List (Vec ℕ Global)) (f : ℕ) (cs : List CallSite) (i : ℕ) (c : CallSite) (adds : AddsCaller old rows f (take i cs)) (lt : i < length cs)
    (is : c ≡ get_or cs i c) where
  abbrev before : List CallSite
  before = take i cs

  abbrev after : List CallSite
  after = take (i + 1) cs

  next : after ≡ before ++ c ∷ []
  next = taken cs i c lt is

  wider : (g : ℕ) → HasCall before g → HasCall after g
  wider g h = subst (λ (l : List CallSite). HasCall l g) (sym next) (call_push before c g h)

  newest : HasCall after c.helper
  newest = subst (λ (l : List CallSite). HasCall l c.helper) (sym next) (call_last before c)

  parts : (g : ℕ) → HasCall after g → HasCall before g ⊎ (c.helper ≡ g)
  parts g h = call_either before c g (subst (λ (l : List CallSite). HasCall l g) next h)

  later : (g x : ℕ) → Has (row_at old g) x ⊎ ((f ≡ x) × HasCall before g) → Has (row_at old g) x ⊎ ((f ≡ x) × HasCall after g)
  later g x (inl h) = inl h
  later g x (inr p) = inr (p.0, wider g p.1)

  pub caller_passed : length rows ≤ c.helper → AddsCaller old rows f after
  caller_passed past = record {
    long = adds.long;
    kept = adds.kept;
    added = λ g there h. elim (parts g h) [
      | inl earlier ↦ adds.added g there earlier
      | inr same ↦ absurd (omega (arith, same, past, there, adds.long))
    ];
    from = λ g x h. later g x (adds.from g x h);
  }

  module _ (row row' : Vec ℕ Global) (there : c.helper < length rows) (row_is : row ≡ get_or rows c.helper row) (step : row'.items ≡ row.items ++ f ∷ []) where
    abbrev new : List (Vec ℕ Global)
    new = set rows c.helper row'

    here : (g : ℕ) → g ≡ c.helper → row_at new g ≡ row_at rows g ++ f ∷ []
    here g same =
        ap (row_at new) same ∙ row_same rows c.helper row' there ∙ step
        ∙ ap (λ (l : List ℕ). l ++ f ∷ []) (sym (row_read rows c.helper row there row_is) ∙ ap (row_at rows) (sym same))

    grows : (g x : ℕ) → Has (row_at rows g) x → Has (row_at new g) x
    grows g x h = elim (cases_eq g c.helper) [
      | inl same ↦ subst (λ (l : List ℕ). Has l x) (sym (here g same)) (has_push (row_at rows g) f x h)
      | inr ne ↦ subst (λ (l : List ℕ). Has l x) (sym (row_other rows c.helper g row' ne)) h
    ]

    has_f : (g : ℕ) → c.helper ≡ g → Has (row_at new g) f
    has_f g same = subst (λ (l : List ℕ). Has l f) (sym (here g (sym same))) (has_last (row_at rows g) f)

    from_new : (g x : ℕ) → Has (row_at new g) x → Has (row_at old g) x ⊎ ((f ≡ x) × HasCall after g)
    from_new g x h = elim (cases_eq g c.helper) [
      | inl same ↦ elim (has_either (row_at rows g) f x (subst (λ (l : List ℕ). Has l x) (here g same) h)) [
        | inl before ↦ later g x (adds.from g x before)
        | inr e ↦ inr (e, subst (HasCall after) (sym same) newest)
      ]
      | inr ne ↦ later g x (adds.from g x (subst (λ (l : List ℕ). Has l x) (row_other rows c.helper g row' ne) h))
    ]

    pub caller_added : AddsCaller old new f after
    caller_added = record {
      long = length-set rows c.helper row' ∙ adds.long;
      kept = λ g x h. grows g x (adds.kept g x h);
      added = λ g within h. elim (parts g h) [ inl earlier ↦ grows g f (adds.added g within earlier) | inr same ↦ has_f g same ];
      from = from_new;
    }

-- ---- one more helper

pub no_callers : (helpers : List Body) (rows : List (Vec ℕ Global)) (n : ℕ) → HaveNone rows n → n ≡ length helpers →
    IsCallersTo helpers rows 0
no_callers helpers rows n none is = record {
  long = none.long ∙ is;
  calls = λ f g h. absurd (none.empty g f h);
  called = λ f g lt there c. absurd (omega (arith, lt));
}

pub one_caller : (helpers : List Body) (rows new : List (Vec ℕ Global)) (k : ℕ) (b : Body) → IsCallersTo helpers rows k →
    slice_get helpers k ≡ Some b → AddsCaller rows new k b.calls → IsCallersTo helpers new (k + 1)
one_caller helpers rows new k b before is adds = record {
  long = adds.long ∙ before.long;
  calls = λ f g h. elim (adds.from g f h) [
    | inl earlier ↦ before.calls f g earlier
    | inr p ↦ (b, ap (slice_get helpers) (sym p.0) ∙ is, p.1)
  ];
  called = λ f g lt there c. elim (cases_lt f k) [
    | inl less ↦ adds.kept g f (before.called f g less (omega (arith, there, adds.long)) c)
    | inr ge ↦
        let same : f ≡ k = omega (arith, lt, ge) in
        let body : c.0 ≡ b = same_Some c.0 b (sym c.1 ∙ ap (slice_get helpers) same ∙ is) in
        subst (λ (x : ℕ). Has (row_at new g) x) (sym same)
        (adds.added g (omega (arith, there, adds.long)) (subst (λ (x : Body). HasCall x.calls g) body c.2))
  ];
}
