-- The notes after a run of paths of one class.
use Rattle.std.proofs.Common.{◌≡◌, ◌⊎◌, ◌<◌, ℕ, zero, suc, List, [], ◌∷◌, ◌++◌, map, length, Some, None}
use Rattle.std.proofs.Common.{Bool, true, false, slice_get, set, refl, sym, ap, ◌∙◌, subst, arith, inl, inr, if◌then◌else◌}
use Rattle.std.proofs.Common.{append_assoc}
use Rattle.std.specs.Prelude.{◌||◌, ⊤}
use Rattle.std.specs.List.{Contains}
use Rattle.std.proofs.lemmas.Bool.{cases_Bool, cases_eq, or_cases, or_left, or_right, or_parts, true≢false}
use Rattle.std.proofs.lemmas.Option.{none-some, same_Some, slice_get_within}
use Rattle.std.proofs.lemmas.List.{append-nil}
use Rattle.std.proofs.lemmas.List.Elements.{Contains-append_left, Contains-append_right, Contains-append_cases}
use Rattle.core_lang.specs.declared.tree.Section.{Section}
use Rattle.core_lang.specs.declared.typed.Typed.{Typed}
use Rattle.core_lang.specs.Theory.Items.{one_contained, in_cases, in_first, in_rest, not_in_none, push_cases, set_same, set_other}
use Rattle.locks.specs.declared.lock.Lock.{Lock}
use Rattle.locks.specs.Locks.{same_lock, among}
use Rattle.locks.specs.Theory.Order.{same_is, same_refl, same_itself, among_contains}
use Rattle.c_threads.specs.Locking.{Pointer, NotesAre, had, stood_for, noted_at}
use Rattle.c_threads.proofs.Orders.{is_same, any_same, dropped, aimed, ordered, called, any_ordered}
use Rattle.c_threads.proofs.Loops.{put, noted, length_put}

-- ---- among pointers

pub any_from : (lock : Lock) (ps : List Pointer) → any_same lock ps ≡ true →
    (j : ℕ) × (slice_get ps j ≡ Some (Some lock))
any_from lock [] h = absurd (true≢false (sym h))
any_from lock (None ∷ ps) h = (let r = any_from lock ps h in (suc r.0, r.1))
any_from lock (Some q ∷ ps) h = elim (or_cases (same_lock lock q) (any_same lock ps) h) [
  | inl e ↦ (0, ap (λ (l : Lock). Some (Some l)) (sym (same_is lock q e)))
  | inr e ↦ (let r = any_from lock ps e in (suc r.0, r.1))
]

pub any_at : (lock : Lock) (ps : List Pointer) (j : ℕ) → slice_get ps j ≡ Some (Some lock) → any_same lock ps ≡ true
any_at lock [] j e = absurd (none-some (Some lock) e)
any_at lock (p ∷ ps) zero e =
    let same : p ≡ Some lock = cc e in
    or_left (is_same lock p) (any_same lock ps) (ap (is_same lock) same ∙ same_itself lock)
any_at lock (p ∷ ps) (suc j) e = or_right (is_same lock p) (any_same lock ps) (any_at lock ps j e)

pub called_any : (lock : Lock) (ps : List Pointer) → Contains (called ps) lock → any_same lock ps ≡ true
called_any lock [] c = absurd (not_in_none lock c)
called_any lock (None ∷ ps) c = called_any lock ps c
called_any lock (Some q ∷ ps) c = elim (in_cases q lock (called ps) c) [
  | inl e ↦ or_left (same_lock lock q) (any_same lock ps) (same_refl lock q (sym e))
  | inr d ↦ or_right (same_lock lock q) (any_same lock ps) (called_any lock ps d)
]

pub any_called : (lock : Lock) (ps : List Pointer) → any_same lock ps ≡ true → Contains (called ps) lock
any_called lock [] h = absurd (true≢false (sym h))
any_called lock (None ∷ ps) h = any_called lock ps h
any_called lock (Some q ∷ ps) h = elim (or_cases (same_lock lock q) (any_same lock ps) h) [
  | inl e ↦ subst (Contains (q ∷ called ps)) (sym (same_is lock q e)) (in_first q (called ps))
  | inr e ↦ in_rest q lock (called ps) (any_called lock ps e)
]

-- ---- notes of locks

pub not_among : (held : List Lock) (lock : Lock) → (Contains held lock → ⊥) → among held lock ≡ false
not_among held lock not = elim (cases_Bool (among held lock)) [
  | inl e ↦ absurd (not (among_contains held lock e))
  | inr e ↦ e
]

in_order : (held : List Lock) (ps : List Pointer) (l : Lock) → Contains (held ++ called ps) l →
    Contains (held ++ called (ordered ps)) l
in_order held ps l c = elim (Contains-append_cases held (called ps) l c) [
  | inl d ↦ Contains-append_left held (called (ordered ps)) l d
  | inr d ↦ Contains-append_right held (called (ordered ps)) l
      (any_called l (ordered ps) (any_ordered l ps ∙ called_any l ps d))
]

out_of_order : (held : List Lock) (ps : List Pointer) (l : Lock) → Contains (held ++ called (ordered ps)) l →
    Contains (held ++ called ps) l
out_of_order held ps l c = elim (Contains-append_cases held (called (ordered ps)) l c) [
  | inl d ↦ Contains-append_left held (called ps) l d
  | inr d ↦ Contains-append_right held (called ps) l
      (any_called l ps (sym (any_ordered l ps) ∙ called_any l (ordered ps) d))
]

-- for a program and a section of it
module _ (program : Typed) (section : Section) where
  abbrev Are : List Pointer → List Lock → Type 0
  Are notes held = NotesAre program section notes held

  abbrev stood : ℕ → Lock → List Lock
  stood k lock = stood_for program section k lock

  abbrev at : List Pointer → ℕ → List Lock
  at notes k = noted_at program section notes k

  -- the same locks in another order
  pub notes_same : (notes : List Pointer) (xs ys : List Lock) → ((l : Lock) → Contains xs l → Contains ys l) →
      ((l : Lock) → Contains ys l → Contains xs l) → Are notes xs → Are notes ys
  notes_same notes xs ys there back are = record {
    noted = λ l c. are.noted l (back l c);
    only = λ k l e. there l (are.only k l e);
    once = are.once;
  }

  pub notes_ordered : (notes : List Pointer) (held : List Lock) (ps : List Pointer) → Are notes (held ++ called ps) →
      Are notes (held ++ called (ordered ps))
  notes_ordered notes held ps are =
      notes_same notes (held ++ called ps) (held ++ called (ordered ps)) (in_order held ps) (out_of_order held ps) are

  -- one more note, which stands for locks that are not held
  pub note_one : (notes : List Pointer) (held : List Lock) (k : ℕ) (lock : Lock) → Are notes held →
      slice_get notes k ≡ Some None → ((l : Lock) → Contains (stood k lock) l → Contains held l → ⊥) →
      Are (set notes k (Some lock)) (held ++ stood k lock)
  note_one notes held k lock are free new = record {
    noted = λ l c. elim (Contains-append_cases held (stood k lock) l c) [
      | inl d ↦ (let r = are.noted l d in (r.0, subst (λ xs. Contains xs l) (sym (before r.0 (apart r.0 l r.1))) r.1))
      | inr e ↦ (k, subst (λ xs. Contains xs l) (sym (here k refl)) e)
    ];
    only = λ i l e. elim (cases_eq i k) [
      | inl same ↦ Contains-append_right held (stood k lock) l (its i l same e)
      | inr other ↦ Contains-append_left held (stood k lock) l (are.only i l (old i l other e))
    ];
    once = λ i j l ei ej. elim (cases_eq i k) [
      | inl si ↦ elim (cases_eq j k) [
        | inl sj ↦ si ∙ sym sj
        | inr oj ↦ absurd (new l (its i l si ei) (are.only j l (old j l oj ej)))
      ]
      | inr oi ↦ elim (cases_eq j k) [
        | inl sj ↦ absurd (new l (its j l sj ej) (are.only i l (old i l oi ei)))
        | inr oj ↦ are.once i j l (old i l oi ei) (old j l oj ej)
      ]
    ];
  } where
    here : (i : ℕ) → i ≡ k → at (set notes k (Some lock)) i ≡ stood k lock
    here i same =
        ap (at (set notes k (Some lock))) same ∙ ap (had (stood k)) (set_same notes k (Some lock) (slice_get_within notes k None free))

    before : (i : ℕ) → (i ≡ k → ⊥) → at (set notes k (Some lock)) i ≡ at notes i
    before i other = ap (had (stood i)) (set_other notes k i (Some lock) (λ same. other (sym same)))

    apart : (i : ℕ) (l : Lock) → Contains (at notes i) l → i ≡ k → ⊥
    apart i l c same =
        not_in_none l (subst (λ xs. Contains xs l) (ap (at notes) same ∙ ap (had (stood k)) free) c)

    its : (i : ℕ) (l : Lock) → i ≡ k → Contains (at (set notes k (Some lock)) i) l → Contains (stood k lock) l
    its i l same c = subst (λ xs. Contains xs l) (here i same) c

    old : (i : ℕ) (l : Lock) → (i ≡ k → ⊥) → Contains (at (set notes k (Some lock)) i) l → Contains (at notes i) l
    old i l other c = subst (λ xs. Contains xs l) (before i other) c

-- ---- after a run

-- each number is less than all after it
abbrev pub Rising : List ℕ → Type 0
Rising [] = ⊤
Rising (k ∷ ks) = ((i : ℕ) → Contains ks i → k < i) × Rising ks

module _ (program : Typed) (section : Section) (name : ℕ → Pointer) (first : List Lock) where
  -- the notes of these paths stand for themselves
  abbrev pub Single : List ℕ → Type 0
  Single ks = (k : ℕ) (l : Lock) → Contains ks k → stood_for program section k l ≡ l ∷ []

  abbrev pub kept_of : List ℕ → List Pointer
  kept_of ks = aimed first (map name ks)

  -- the notes at these numbers name what the paths name
  abbrev pub Fit : List ℕ → List Pointer → Type 0
  Fit ks notes = (k : ℕ) (l : Lock) → Contains ks k → slice_get notes k ≡ Some (Some l) → name k ≡ Some l

  some_of : (notes : List Pointer) (k : ℕ) → k < length notes → (p : Pointer) × (slice_get notes k ≡ Some p)
  some_of [] k lt = absurd (omega (arith, lt))
  some_of (x ∷ notes) zero lt = (x, refl)
  some_of (x ∷ notes) (suc k) lt = some_of notes k (omega (arith, lt))

  -- a lock is dropped, or kept if it is in neither list
  dropped_cases : (later : List Pointer) (l : Lock) →
      (dropped first later (Some l) ≡ None) ⊎ ((dropped first later (Some l) ≡ Some l) × (among first l ≡ false) × (any_same l later ≡ false))
  dropped_cases later l = by (among first l) (any_same l later) refl refl where
    by : (a b : Bool) → among first l ≡ a → any_same l later ≡ b →
        ((if a then None else if b then None else Some l) ≡ None)
        ⊎ (((if a then None else if b then None else Some l) ≡ Some l) × (among first l ≡ false) × (any_same l later ≡ false))
    by true b ea eb = inl refl
    by false true ea eb = inl refl
    by false false ea eb = inr (refl, ea, eb)

  abbrev Goal : List ℕ → List Pointer → List Pointer → List Lock → Type 0
  Goal ks ps notes held = NotesAre program section (noted ks ps notes) (held ++ called ps)

  -- after a run the notes are of what was held and of what is kept
  abbrev NoteRun : List ℕ → Type 0
  NoteRun ks =
      (notes : List Pointer) (held : List Lock) → NotesAre program section notes held → Rising ks → Single ks →
      ((k : ℕ) → Contains ks k → k < length notes) → Fit ks notes →
      ((l : Lock) → Contains held l → any_same l (kept_of ks) ≡ false) → Goal ks (kept_of ks) notes held

  one_more : (k : ℕ) (ks : List ℕ) → NoteRun ks → NoteRun (k ∷ ks)
  one_more k ks more notes held are rising single within fit apart = by (name k) refl where
    parts : (l : Lock) → Contains held l →
        (is_same l (dropped first (kept_of ks) (name k)) ≡ false) × (any_same l (kept_of ks) ≡ false)
    parts l c = or_parts (is_same l (dropped first (kept_of ks) (name k))) (any_same l (kept_of ks)) (apart l c)

    passed : Goal (k ∷ ks) (None ∷ kept_of ks) notes held
    passed =
        more notes held are rising.1 (λ i l c. single i l (in_rest k i ks c)) (λ i c. within i (in_rest k i ks c)) (λ i l c. fit i l (in_rest k i ks c))
        (λ l c. (parts l c).1)

    less_other : (i : ℕ) → k < i → k ≡ i → ⊥
    less_other i less same = omega (arith, less, same)

    none : (p : Pointer) → slice_get notes k ≡ Some p → (l : Lock) → name k ≡ Some l → (Contains held l → ⊥) → p ≡ None
    none None e l named new = refl
    none (Some x) e l named new =
        let mine = fit k x (in_first k ks) e in
        let same : x ≡ l = same_Some x l (sym mine ∙ named) in
        let its : noted_at program section notes k ≡ l ∷ [] =
        ap (had (stood_for program section k)) (e ∙ ap (λ (y : Lock). Some (Some y)) same) ∙ single k l (in_first k ks) in
        absurd (new (are.only k l (subst (λ xs. Contains xs l) (sym its) (in_first l []))))

    taken : (l : Lock) → name k ≡ Some l → dropped first (kept_of ks) (name k) ≡ Some l → any_same l (kept_of ks) ≡ false →
        Goal (k ∷ ks) (Some l ∷ kept_of ks) notes held
    taken l named is alone =
        let new : Contains held l → ⊥ =
        λ c. true≢false (sym (ap (is_same l) is ∙ same_itself l) ∙ (parts l c).0) in
        let at = some_of notes k (within k (in_first k ks)) in
        let free : slice_get notes k ≡ Some None = at.1 ∙ ap (λ p. Some p) (none at.0 at.1 l named new) in
        let many = length_put notes k (Some l) in
        let alone_there = single k l (in_first k ks) in
        let noted_one : NotesAre program section (set notes k (Some l)) (held ++ l ∷ []) =
        subst (λ xs. NotesAre program section (set notes k (Some l)) (held ++ xs)) alone_there
        (note_one program section notes held k l are free
        (λ x c d. new (subst (Contains held) (sym (one_contained l x (subst (λ xs. Contains xs x) alone_there c))) d))) in
        let rest =
        more (set notes k (Some l)) (held ++ l ∷ []) noted_one rising.1 (λ i x c. single i x (in_rest k i ks c))
        (λ i c. subst (λ n. i < n) (sym many) (within i (in_rest k i ks c)))
        (λ i x c e. fit i x (in_rest k i ks c) (sym (set_other notes k i (Some l) (less_other i (rising.0 i c))) ∙ e))
        (λ x c. elim (push_cases held l x c) [
          | inl d ↦ (parts x d).1
          | inr e ↦ subst (λ y. any_same y (kept_of ks) ≡ false) e alone
        ]) in
        subst (NotesAre program section (noted ks (kept_of ks) (set notes k (Some l)))) (append_assoc held (l ∷ []) (called (kept_of ks))) rest

    by : (p : Pointer) → name k ≡ p → Goal (k ∷ ks) (dropped first (kept_of ks) p ∷ kept_of ks) notes held
    by None e = passed
    by (Some l) e = elim (dropped_cases (kept_of ks) l) [
      | inl n ↦ subst (λ p. Goal (k ∷ ks) (p ∷ kept_of ks) notes held) (sym n) passed
      | inr s ↦ subst (λ p. Goal (k ∷ ks) (p ∷ kept_of ks) notes held) (sym s.0)
          (taken l e (ap (dropped first (kept_of ks)) e ∙ s.0) s.2)
    ]

  pub note_run : (ks : List ℕ) → NoteRun ks
  note_run [] notes held are rising single within fit apart = subst (NotesAre program section notes) (sym (append-nil held)) are
  note_run (k ∷ ks) notes held are rising single within fit apart =
      one_more k ks (note_run ks) notes held are rising single within fit apart

  -- none of those that are kept was held
  pub kept_apart : (ks : List ℕ) (l : Lock) → among first l ≡ true → any_same l (kept_of ks) ≡ false
  kept_apart [] l h = refl
  kept_apart (k ∷ ks) l h = by (name k) (kept_apart ks l h) where
    other : (x : Lock) → among first x ≡ false → any_same l (kept_of ks) ≡ false →
        (same_lock l x || any_same l (kept_of ks)) ≡ false
    other x new rest = elim (cases_Bool (same_lock l x)) [
      | inl e ↦ absurd (true≢false (sym h ∙ (ap (among first) (same_is l x e) ∙ new)))
      | inr e ↦ ap (λ b. b || any_same l (kept_of ks)) e ∙ rest
    ]

    by : (p : Pointer) → any_same l (kept_of ks) ≡ false →
        (is_same l (dropped first (kept_of ks) p) || any_same l (kept_of ks)) ≡ false
    by None rest = rest
    by (Some x) rest = elim (dropped_cases (kept_of ks) x) [
      | inl n ↦ ap (λ p. is_same l p || any_same l (kept_of ks)) n ∙ rest
      | inr s ↦ ap (λ p. is_same l p || any_same l (kept_of ks)) s.0 ∙ other x s.1 rest
    ]

  -- a note after the run was there, or is one of the run's
  abbrev Found : List ℕ → List Pointer → ℕ → Lock → Type 0
  Found ks notes i l = (slice_get notes i ≡ Some (Some l)) ⊎ (Contains ks i × (name i ≡ Some l))

  abbrev NotedFrom : List ℕ → Type 0
  NotedFrom ks =
      (notes : List Pointer) (i : ℕ) (l : Lock) → slice_get (noted ks (kept_of ks) notes) i ≡ Some (Some l) →
      Found ks notes i l

  from_more : (k : ℕ) (ks : List ℕ) → NotedFrom ks → NotedFrom (k ∷ ks)
  from_more k ks more notes i l e = by (name k) refl e where
    further : (Contains ks i × (name i ≡ Some l)) → Found (k ∷ ks) notes i l
    further r = inr (in_rest k i ks r.0, r.1)

    unchanged : slice_get (noted ks (kept_of ks) notes) i ≡ Some (Some l) → Found (k ∷ ks) notes i l
    unchanged e = elim (more notes i l e) [ inl h ↦ inl h | inr r ↦ further r ]

    here : (x : Lock) → name k ≡ Some x → i ≡ k → slice_get (set notes k (Some x)) i ≡ Some (Some l) →
        Found (k ∷ ks) notes i l
    here x named same h =
        let within = slice_get_within (set notes k (Some x)) i (Some l) h in
        let many = length_put notes k (Some x) in
        let less : k < length notes = omega (arith, within, same, many) in
        let is : slice_get (set notes k (Some x)) i ≡ Some (Some x) =
        ap (slice_get (set notes k (Some x))) same ∙ set_same notes k (Some x) less in
        let both : Some (Some x) ≡ Some (Some l) = sym is ∙ h in
        let lock : x ≡ l = cc both in
        inr (subst (Contains (k ∷ ks)) (sym same) (in_first k ks), ap name same ∙ (named ∙ ap (λ (y : Lock). Some y) lock))

    changed : (x : Lock) → name k ≡ Some x →
        slice_get (noted ks (kept_of ks) (set notes k (Some x))) i ≡ Some (Some l) → Found (k ∷ ks) notes i l
    changed x named e = elim (more (set notes k (Some x)) i l e) [
      | inl h ↦ elim (cases_eq i k) [
        | inl same ↦ here x named same h
        | inr other ↦ inl (sym (set_other notes k i (Some x) (λ s. other (sym s))) ∙ h)
      ]
      | inr r ↦ further r
    ]

    by : (p : Pointer) → name k ≡ p →
        slice_get (noted ks (kept_of ks) (put notes k (dropped first (kept_of ks) p))) i ≡ Some (Some l) →
        Found (k ∷ ks) notes i l
    by None named e = unchanged e
    by (Some x) named e = elim (dropped_cases (kept_of ks) x) [
      | inl n ↦ unchanged (subst (λ p. slice_get (noted ks (kept_of ks) (put notes k p)) i ≡ Some (Some l)) n e)
      | inr s ↦ changed x named (subst (λ p. slice_get (noted ks (kept_of ks) (put notes k p)) i ≡ Some (Some l)) s.0 e)
    ]

  pub noted_from : (ks : List ℕ) → NotedFrom ks
  noted_from [] notes i l e = inl e
  noted_from (k ∷ ks) notes i l e = from_more k ks (noted_from ks) notes i l e

  pub length_noted : (ks : List ℕ) (ps notes : List Pointer) → length (noted ks ps notes) ≡ length notes
  length_noted [] ps notes = refl
  length_noted (k ∷ ks) [] notes = refl
  length_noted (k ∷ ks) (p ∷ ps) notes = length_noted ks ps (put notes k p) ∙ length_put notes k p
