-- The other faults among the first faults of the tree.
use Rattle.std.proofs.Common.{◌≡◌, ℕ, ◌≤◌, List, [], ◌∷◌, length, map, Bool, true, false, Some, None, refl, sym, ap, ◌∙◌, subst, ◌||◌}
use Rattle.std.proofs.Common.{if◌then◌else◌, ◌⊎◌, inl, inr, ◌==◌, ◌&&◌, nat_lt, arith}
use Rattle.std.proofs.lemmas.Bool.Decides.{nat_tests}
use Rattle.explanation.specs.Further.{Further, nothing_further}
use Rattle.resolution.specs.declared.finding.Finding.{Finding}
use Rattle.resolution.specs.FirstFaults.{AreFirstFaults, Firsts, mistake_of}
use Rattle.resolution.specs.Working.Findings.{first, first_of}
use Rattle.source.specs.declared.fault.Code.{Code}
use Rattle.source.specs.declared.fault.Code.TheVariants.{BadCharacter}
use Rattle.core_lang_helpers.specs.Faults.{IsGraphFault, recursive, over_limit}
use Rattle.resolution.specs.CallGraphs.{tree_graph}
use Rattle.resolution.specs.Faults as names
use Rattle.resolution.specs.Faults.{IsFault}
use Rattle.source.specs.declared.mistake.Mistake.{Mistake}
use Rattle.source.specs.Mistakes.{code_number, goes_before}
use Rattle.source.specs.Theory.Leasts.{neither_before}
use Rattle.source.specs.Texts.{HasTokens, SOURCE_LIMIT}
use Rattle.source.specs.Tokens.{Tok}
use Rattle.syntax.specs.Grammar.{HasTree}
use Rattle.syntax.specs.Trees.{Decl}
use Rattle.resolution.specs.Working.Laws.{the_least, the_firsts, TheFirstsAreFirstFaults, TheFirstIsTheLeast, TheLeastIsAFault}
use Rattle.resolution.specs.Working.Laws.{NoneGoesBeforeTheLeast, NoLeastIsNoFault, HaveAtMostOneLeast}
use Rattle.explanation_faults.specs.FurtherFaults.{AreFurther, others, none}
use Rattle.explanation_faults.specs.TextNotes.{HasTextTree}
use Rattle.explanation_faults.specs.FaultNotes.{IsFirstFault}
use Rattle.explanation_faults.specs.Working.Others.{differ, others_of}

either : (a b : Bool) → (a || b) ≡ true → (a ≡ true) ⊎ (b ≡ true)
either true b e = inl refl
either false b e = inr e

or_parts : (a b : Bool) → (a || b) ≡ false → (a ≡ false) × (b ≡ false)
or_parts true b e = absurd (let bad : true ≡ false = e in cc)
or_parts false b e = (refl, e)

-- a fault doesn't differ from itself
never : (k n : ℕ) → (nat_lt n n || ((n == n) && nat_lt k k)) ≡ true → ⊥
never k n e = grind (arith, nat_tests)

alike : (m : Mistake) → differ m m ≡ true → ⊥
alike m e = elim (either (goes_before m m) (goes_before m m) e) [
  | inl p ↦ never (code_number m.code) m.start p
  | inr p ↦ never (code_number m.code) m.start p
]

module _ (text : List ℕ) (code : Code) (at : ℕ) (tokens : List Tok) (decls : List Decl) (few : length text ≤ SOURCE_LIMIT)
    (has : HasTextTree text tokens decls) (only : (us : List Tok) → length text ≤ SOURCE_LIMIT → HasTokens text us → us ≡ tokens)
    (one_tree : (us : List Tok) (a b : List Decl) → HasTree us a → HasTree us b → a ≡ b) where
  abbrev asked : Mistake
  asked = record { code = code; start = at }

  same_tree : (us : List Tok) (ds : List Decl) → HasTextTree text us ds → ds ≡ decls
  same_tree us ds h = one_tree tokens ds decls (subst (λ (l : List Tok). HasTree l ds) (only us few h.has_tokens) h.has_tree) has.has_tree

  -- the fault is not the first fault of the tree
  abbrev IsNotFirst : Type 0
  IsNotFirst = IsFirstFault decls code at → ⊥

  so_of_text : IsNotFirst → (us : List Tok) (ds : List Decl) → length text ≤ SOURCE_LIMIT → HasTextTree text us ds → IsFirstFault ds code at → ⊥
  so_of_text not_first us ds short h first = not_first (subst (λ (d : List Decl). IsFirstFault d code at) (same_tree us ds h) first)

  by_test : (b : Bool) (s : Firsts) (f : Finding) (fs : List Finding) → AreFirstFaults decls s → s.kept ≡ f ∷ fs →
      differ (mistake_of f) asked ≡ b → (b ≡ true → IsNotFirst) →
      AreFurther text code at (if b then nothing_further else record { faults = map mistake_of fs; more = s.more })
  by_test true s f fs are is test other = none (so_of_text (other refl))
  by_test false s f fs are is test other =
      let same = or_parts (goes_before (mistake_of f) asked) (goes_before asked (mistake_of f)) test in
      others few has are (ap (map mistake_of) is ∙ ap (λ (m : Mistake). m ∷ map mistake_of fs) (neither_before (mistake_of f) asked same.0 same.1))

  module _ (firsts : TheFirstsAreFirstFaults) (first_least : TheFirstIsTheLeast) (a_fault : TheLeastIsAFault) (before : NoneGoesBeforeTheLeast)
      (no_fault : NoLeastIsNoFault) (one_least : HaveAtMostOneLeast) where
    least_is : (s : Firsts) (k : List Finding) → s ≡ the_firsts decls → s.kept ≡ k → the_least decls ≡ first_of k
    least_is s k is e = sym (first_least decls) ∙ ap first (sym is) ∙ ap first_of e

    by_kept : (s : Firsts) (k : List Finding) → s ≡ the_firsts decls → s.kept ≡ k → AreFurther text code at (others_of asked s.more k)
    by_kept s [] is e = none (so_of_text (λ first. no_fault decls (least_is s [] is e) code at first.is_fault))
    by_kept s (f ∷ fs) is e =
        let least = least_is s (f ∷ fs) is e in
        by_test (differ (mistake_of f) asked) s f fs (subst (AreFirstFaults decls) (sym is) (firsts decls)) e refl (λ differs first.
        let same = one_least decls (mistake_of f) asked (a_fault decls f least) first.is_fault (before decls f least) first.first in
        alike asked (subst (λ (m : Mistake). differ m asked ≡ true) same differs))

    -- the first faults of the tree after the first one are reported with it
    pub with_first : (s : Firsts) → s ≡ the_firsts decls → AreFurther text code at (others_of asked s.more s.kept)
    with_first s is = by_kept s s.kept is refl

-- ---- texts of which no fault is the first one of names and types

-- a text without tokens or without a tree has no such fault
pub without : (text : List ℕ) (code : Code) (at : ℕ) → ((us : List Tok) (ds : List Decl) → length text ≤ SOURCE_LIMIT → HasTextTree text us ds → ⊥) →
    AreFurther text code at nothing_further
without text code at no_tree = none (λ us ds few has first. no_tree us ds few has)

not_of_calls : (decls : List Decl) (code : Code) (p : ℕ) → IsGraphFault (tree_graph decls) code p → code ≡ BadCharacter → ⊥
not_of_calls decls code p (recursive h) is = cc
not_of_calls decls code p (over_limit h) is = cc

not_bad : (decls : List Decl) (code : Code) (p : ℕ) → IsFault decls code p → code ≡ BadCharacter → ⊥
not_bad decls code p (names.too_large h) is = cc
not_bad decls code p (names.declared_twice h) is = cc
not_bad decls code p (names.unknown h) is = cc
not_bad decls code p (names.wrong_type h) is = cc
not_bad decls code p (names.miscounted h) is = cc
not_bad decls code p (names.not_assignable h) is = cc
not_bad decls code p (names.without_lock h) is = cc
not_bad decls code p (names.ends_at_no_lock h) is = cc
not_bad decls code p (names.passes_non_final h) is = cc
not_bad decls code p (names.over_limit h) is = cc
not_bad decls code p (names.final_missing h) is = cc
not_bad decls code p (names.out_of_range h) is = cc
not_bad decls code p (names.lock_as_value h) is = cc
not_bad decls code p (names.of_calls h) is = not_of_calls decls code p h is

-- a bad byte is not such a fault
pub with_bad : (text : List ℕ) (code : Code) (at : ℕ) → code ≡ BadCharacter → AreFurther text code at nothing_further
with_bad text code at bad = none (λ us ds few has first. not_bad ds code at first.is_fault bad)
