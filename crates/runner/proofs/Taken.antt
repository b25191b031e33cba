-- Lock paths of whole classes that a section has taken.
use Rattle.std.proofs.Common.{◌≡◌, ℕ, true, false, List, [], ◌∷◌, ◌++◌, refl, sym, ap, ◌∙◌, subst}
use Rattle.std.proofs.Common.{inl, inr, arith, true≢false}
use Rattle.std.specs.Prelude.{if◌then◌else◌}
use Rattle.std.specs.List.{Contains}
use Rattle.std.proofs.lemmas.Bool.{cases_Bool}
use Rattle.std.proofs.lemmas.List.{append_assoc}
use Rattle.std.proofs.lemmas.List.Elements.{Contains-append_left, Contains-append_right, Contains-append_cases}
use Rattle.core_lang.specs.declared.value.Value.{Value}
use Rattle.core_lang.specs.declared.shape.Shape.{Shape}
use Rattle.core_lang.specs.Theory.Items.{in_first, in_rest, in_cases, not_in_none}
use Rattle.locks.specs.declared.lock.Lock.{Lock}
use Rattle.locks.specs.declared.path.Root.{Root}
use Rattle.locks.specs.declared.path.Root.TheVariants.{WholeClass}
use Rattle.locks.specs.declared.path_set.PathSet.{PathSet}
use Rattle.locks.specs.LockPaths.{LockPath, locks_from, locks_named}
use Rattle.locks.specs.Locks.{same_lock, among}
use Rattle.locks.specs.Order.{precedes}
use Rattle.locks.specs.Sets.{has}
use Rattle.locks.specs.Theory.Order.{same_is, contains_among, among_contains}
use Rattle.lowering.specs.Plans.{Plan}
use Rattle.worlds.specs.Asking.{insert, insert_new, insert_all}
use Rattle.runner.specs.Working.Asked.{locks_at, AreTaken, IsNoted}

-- ---- inserted locks

insert_keeps : (ranks : List ℕ) (lock l : Lock) (locks : List Lock) → Contains locks l → Contains (insert ranks lock locks) l
insert_keeps ranks lock l [] has = in_rest lock l [] has
insert_keeps ranks lock l (next ∷ rest) has =
    let deeper : Contains (next ∷ insert ranks lock rest) l =
    elim (in_cases next l rest has) [
      | inl e ↦ subst (Contains (next ∷ insert ranks lock rest)) e (in_first next (insert ranks lock rest))
      | inr h ↦ in_rest next l (insert ranks lock rest) (insert_keeps ranks lock l rest h)
    ] in
    elim (cases_Bool (same_lock lock next)) [
      | inl same ↦ subst (λ (ls : List Lock). Contains ls l) (sym (ap (λ b. if b then next ∷ rest else if precedes ranks lock next then lock ∷ next ∷ rest else next ∷ insert ranks lock rest) same)) has
      | inr other ↦
          subst (λ (ls : List Lock). Contains ls l) (sym (ap (λ b. if b then next ∷ rest else if precedes ranks lock next then lock ∷ next ∷ rest else next ∷ insert ranks lock rest) other))
          (elim (cases_Bool (precedes ranks lock next)) [
            | inl before ↦ subst (λ (ls : List Lock). Contains ls l) (sym (ap (λ b. if b then lock ∷ next ∷ rest else next ∷ insert ranks lock rest) before)) (in_rest lock l (next ∷ rest) has)
            | inr after ↦ subst (λ (ls : List Lock). Contains ls l) (sym (ap (λ b. if b then lock ∷ next ∷ rest else next ∷ insert ranks lock rest) after)) deeper
          ])
    ]

insert_has : (ranks : List ℕ) (lock : Lock) (locks : List Lock) → Contains (insert ranks lock locks) lock
insert_has ranks lock [] = in_first lock []
insert_has ranks lock (next ∷ rest) =
    elim (cases_Bool (same_lock lock next)) [
      | inl same ↦
          subst (λ (ls : List Lock). Contains ls lock) (sym (ap (λ b. if b then next ∷ rest else if precedes ranks lock next then lock ∷ next ∷ rest else next ∷ insert ranks lock rest) same))
          (subst (Contains (next ∷ rest)) (sym (same_is lock next same)) (in_first next rest))
      | inr other ↦
          subst (λ (ls : List Lock). Contains ls lock) (sym (ap (λ b. if b then next ∷ rest else if precedes ranks lock next then lock ∷ next ∷ rest else next ∷ insert ranks lock rest) other))
          (elim (cases_Bool (precedes ranks lock next)) [
            | inl before ↦ subst (λ (ls : List Lock). Contains ls lock) (sym (ap (λ b. if b then lock ∷ next ∷ rest else next ∷ insert ranks lock rest) before)) (in_first lock (next ∷ rest))
            | inr after ↦ subst (λ (ls : List Lock). Contains ls lock) (sym (ap (λ b. if b then lock ∷ next ∷ rest else next ∷ insert ranks lock rest) after)) (in_rest next lock (insert ranks lock rest) (insert_has ranks lock rest))
          ])
    ]

module _ (ranks : List ℕ) (held : List Lock) where
  new_keeps : (lock l : Lock) (locks : List Lock) → Contains locks l → Contains (insert_new ranks held lock locks) l
  new_keeps lock l locks has =
      elim (cases_Bool (among held lock)) [
        | inl e ↦ subst (λ (ls : List Lock). Contains ls l) (sym (ap (λ b. if b then locks else insert ranks lock locks) e)) has
        | inr e ↦ subst (λ (ls : List Lock). Contains ls l) (sym (ap (λ b. if b then locks else insert ranks lock locks) e)) (insert_keeps ranks lock l locks has)
      ]

  -- a lock is held, or it is pending once it is inserted
  new_has : (lock : Lock) (locks : List Lock) → Contains (held ++ insert_new ranks held lock locks) lock
  new_has lock locks =
      elim (cases_Bool (among held lock)) [
        | inl e ↦ Contains-append_left held (insert_new ranks held lock locks) lock (among_contains held lock e)
        | inr e ↦
            Contains-append_right held (insert_new ranks held lock locks) lock
            (subst (λ (ls : List Lock). Contains ls lock) (sym (ap (λ b. if b then locks else insert ranks lock locks) e)) (insert_has ranks lock locks))
      ]

  more_keep : (locks locks' : List Lock) (l : Lock) → (Contains locks l → Contains locks' l) → Contains (held ++ locks) l →
      Contains (held ++ locks') l
  more_keep locks locks' l keep has =
      elim (Contains-append_cases held locks l has) [
        | inl h ↦ Contains-append_left held locks' l h
        | inr h ↦ Contains-append_right held locks' l (keep h)
      ]

  pub all_keep : (more locks : List Lock) (l : Lock) → Contains (held ++ locks) l →
      Contains (held ++ insert_all ranks held more locks) l
  all_keep [] locks l has = has
  all_keep (lock ∷ more) locks l has =
      more_keep (insert_all ranks held more locks) (insert_new ranks held lock (insert_all ranks held more locks)) l
      (new_keeps lock l (insert_all ranks held more locks)) (all_keep more locks l has)

  pub all_have : (more locks : List Lock) (l : Lock) → Contains more l → Contains (held ++ insert_all ranks held more locks) l
  all_have [] locks l (k, less, e) = absurd (omega (arith, less))
  all_have (lock ∷ more) locks l has =
      elim (in_cases lock l more has) [
        | inl e ↦ subst (Contains (held ++ insert_all ranks held (lock ∷ more) locks)) e (new_has lock (insert_all ranks held more locks))
        | inr h ↦
            more_keep (insert_all ranks held more locks) (insert_new ranks held lock (insert_all ranks held more locks)) l
            (new_keeps lock l (insert_all ranks held more locks)) (all_have more locks l h)
      ]

  -- locks that are held are not inserted
  pub all_held : (more locks : List Lock) → ((l : Lock) → Contains more l → Contains held l) →
      insert_all ranks held more locks ≡ locks
  all_held [] locks are = refl
  all_held (lock ∷ more) locks are =
      ap (λ b. if b then insert_all ranks held more locks else insert ranks lock (insert_all ranks held more locks))
      (contains_among held lock (are lock (in_first lock more)))
      ∙ all_held more locks (λ l has. are l (in_rest lock l more has))

-- ---- whole classes

-- a whole class is the same whatever the locals are
pub whole_named : (path : LockPath) (structure : ℕ) (shape : Shape) (locals locals' : List Value) →
    path.root ≡ WholeClass structure → locks_named path shape locals ≡ locks_named path shape locals'
whole_named path structure shape locals locals' e =
    ap (λ (r : Root). locks_from r path.finals path.class shape locals) e
    ∙ sym (ap (λ (r : Root). locks_from r path.finals path.class shape locals') e)

-- ---- taken paths

module _ (plan : Plan) (k : ℕ) where
  pub taken_keep : (ranks : List ℕ) (held more locks : List Lock) (set : PathSet) → AreTaken plan k (held ++ locks) set →
      AreTaken plan k (held ++ insert_all ranks held more locks) set
  taken_keep ranks held more locks set are = λ p there locals l has. all_keep ranks held more locks l (are p there locals l has)

  pub taken_more : (ranks : List ℕ) (held : List Lock) (locals : List Value) (number : ℕ) (locks locks' : List Lock)
      (set set' : PathSet) → locks' ≡ insert_all ranks held (locks_at plan k locals number) locks →
      IsNoted plan k number set set' → AreTaken plan k (held ++ locks) set → AreTaken plan k (held ++ locks') set'
  taken_more ranks held locals number locks locks' set set' is noted are =
      subst (λ (ls : List Lock). AreTaken plan k (held ++ ls) set') (sym is) (λ p there values l has.
      elim (noted p there) [
        | inl old ↦ taken_keep ranks held (locks_at plan k locals number) locks set are p old values l has
        | inr new ↦
            all_have ranks held (locks_at plan k locals number) locks l
            (subst (λ (ls : List Lock). Contains ls l) (new.1 values locals)
            (subst (λ (n : ℕ). Contains (locks_at plan k values n) l) new.0 has))
      ])

  pub taken_already : (ranks : List ℕ) (held : List Lock) (locals : List Value) (number : ℕ) (locks : List Lock)
      (set : PathSet) → AreTaken plan k held set → has set number ≡ true →
      insert_all ranks held (locks_at plan k locals number) locks ≡ locks
  taken_already ranks held locals number locks set are there =
      all_held ranks held (locks_at plan k locals number) locks (λ l has. are number there locals l has)

  -- nothing is pending
  pub taken_at_first : (held pending : List Lock) (set : PathSet) → pending ≡ [] → AreTaken plan k held set →
      AreTaken plan k (held ++ pending) set
  taken_at_first held pending set none are = λ p there locals l has.
      Contains-append_left held pending l (are p there locals l has)

  -- nothing was pending
  pub taken_alone : (held pending : List Lock) (set : PathSet) → pending ≡ [] → AreTaken plan k (held ++ pending) set →
      AreTaken plan k held set
  taken_alone held pending set none are = λ p there locals l has.
      elim (Contains-append_cases held pending l (are p there locals l has)) [
        | inl h ↦ h
        | inr h ↦ absurd (not_in_none l (subst (λ (ls : List Lock). Contains ls l) none h))
      ]

  pub none_taken : (locks : List Lock) (set : PathSet) → ((i : ℕ) → has set i ≡ false) → AreTaken plan k locks set
  none_taken locks set none = λ p there. absurd (true≢false (sym there ∙ none p))

  -- the first pending lock is granted
  pub taken_granted : (held held' pending pending' rest : List Lock) (lock : Lock) (set : PathSet) →
      pending ≡ lock ∷ rest → held' ≡ held ++ lock ∷ [] → pending' ≡ rest → AreTaken plan k (held ++ pending) set →
      AreTaken plan k (held' ++ pending') set
  taken_granted held held' pending pending' rest lock set first more left are =
      subst (λ (ls : List Lock). AreTaken plan k ls set) (sym same) are
    where
      same : held' ++ pending' ≡ held ++ pending
      same =
          (λ i. more i ++ left i)
          ∙ append_assoc held (lock ∷ []) rest
          ∙ ap (λ (ls : List Lock). held ++ ls) (sym first)
