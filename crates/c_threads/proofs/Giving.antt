-- The calls of AL_UNLOCK at the end release exactly the locked locks, each once.
use Rattle.std.proofs.Common.{◌≡◌, ◌≢◌, suc, true, List, [], ◌∷◌, Option, sym, subst, arith, inl, inr}
use Rattle.std.specs.List.{AllPairs, Contains}
use Rattle.core_lang.specs.declared.tree.Section.{Section}
use Rattle.core_lang.specs.declared.typed.Typed.{Typed}
use Rattle.core_lang.specs.WellFormed.{IsWellFormed}
use Rattle.core_lang.specs.Theory.Items.{in_cases, in_first, in_rest, not_in_none, distinct_first}
use Rattle.locks.specs.declared.lock.Lock.{Lock}
use Rattle.locks.specs.Locks.{among}
use Rattle.locks.specs.Theory.Order.{contains_among, among_contains}
use Rattle.c_threads.specs.Locking.{NotesAre, given_back}
use Rattle.c_threads.specs.LockClaims.{EndsGiveBackWhatIsHeld}
use Rattle.c_threads.specs.Threads.{without_lock}
use Rattle.c_threads.proofs.Lists.{without_cases, without_keeps}

-- calls of AL_UNLOCK release all locked locks: each call releases one of those left
abbrev pub GivesBack : List Lock → List Lock → Type 0
GivesBack locked [] = (lock : Lock) → among locked lock ≡ true → ⊥
GivesBack locked (lock ∷ rest) = (among locked lock ≡ true) × GivesBack (without_lock locked lock) rest

distinct_rest : {X : Type 0} (x : X) (xs : List X) → AllPairs ◌≢◌ (x ∷ xs) → AllPairs ◌≢◌ xs
distinct_rest x xs pairs i j d less within = pairs (suc i) (suc j) d (omega (arith, less)) (omega (arith, within))

-- calls for distinct locks release all locked locks, if these are exactly the locked ones
gives_back : (locks locked : List Lock) → AllPairs ◌≢◌ locks → ((l : Lock) → among locked l ≡ true → Contains locks l) →
    ((l : Lock) → Contains locks l → among locked l ≡ true) → GivesBack locked locks
gives_back [] locked pairs all each = λ lock h. not_in_none lock (all lock h)
gives_back (lock ∷ rest) locked pairs all each = (
  each lock (in_first lock rest),
  gives_back rest (without_lock locked lock) (distinct_rest lock rest pairs)
      (λ l h. (let w = without_cases locked lock l h in
      elim (in_cases lock l rest (all l w.0)) [ inl e ↦ absurd (w.1 (sym e)) | inr c ↦ c ]))
      (λ l c. without_keeps locked lock l (each l (in_rest lock l rest c))
      (λ e. distinct_first lock rest pairs (subst (Contains rest) e c))),
)

pub all_given_back : EndsGiveBackWhatIsHeld → (program : Typed) (section : Section) (notes : List (Option Lock))
    (held : List Lock) → IsWellFormed program → NotesAre program section notes held →
    GivesBack held (given_back program section notes)
all_given_back law program section notes held well are =
    let g = law program section notes held well are in
    gives_back (given_back program section notes) held g.once (λ l h. (g.exactly l).1 (among_contains held l h))
    (λ l c. contains_among held l ((g.exactly l).0 c))
