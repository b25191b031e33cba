-- The locks that an acquire asks for, one after another.
use Rattle.std.proofs.Common.{◌≡◌, ◌⊎◌, ◌==◌, ◌&&◌, ℕ, Bool, true, false, if◌then◌else◌, nat_lt, List, [], ◌∷◌, ◌++◌}
use Rattle.std.proofs.Common.{Option, Some, None, slice_get, refl, sym, ap, ◌∙◌, subst, arith, inl, inr, true≢false}
use Rattle.std.proofs.lemmas.Bool.{cases_Bool, cases_lt, eq-eqb, lt-ltb, and_from, or_cases, or_left, or_right}
use Rattle.std.proofs.lemmas.Bool.{or_parts}
use Rattle.std.proofs.lemmas.Option.{get_or_from_slice_get, slice_get_within, slice_get-get_or}
use Rattle.std.proofs.lemmas.List.Elements.{Contains-append_left, Contains-push, Contains-append_cases}
use Rattle.std.specs.Prelude.{slice_index}
use Rattle.std.specs.Option.{option_map_or}
use Rattle.std.specs.List.{Contains}
use Rattle.core_lang.specs.declared.value.Value.{Value}
use Rattle.core_lang.specs.declared.tree.Section.{Section}
use Rattle.core_lang.specs.declared.typed.LockClass.{LockClass}
use Rattle.core_lang.specs.declared.typed.Typed.{Typed}
use Rattle.locks.specs.declared.lock.Lock.{Lock}
use Rattle.locks.specs.LockPaths.{LockPath, lock_paths, locks_named, Names}
use Rattle.locks.specs.Theory.Naming.{named_class}
use Rattle.locks.specs.Working.Laws.{PathsHaveClasses, UsedAreListed}
use Rattle.locks.specs.Order.{Precedes, PrecedesIsStrict, precedes}
use Rattle.locks.specs.Locks.{same_lock, among}
use Rattle.lockorder.specs.Edges.{AreRanksOf}
use Rattle.inserter.specs.Working.Runs.{IsListed, Asks, Run, gets}
use Rattle.inserter.specs.Working.Laws.{IsOrdered, InRuns, AsksRise}
use Rattle.worlds.specs.Asking.{insert, insert_new, insert_all, locks_numbered, to_ask}
use Rattle.worlds.specs.Working.InTurn.{RiseBehind, AskedInTurn}
use Rattle.locks.specs.Theory.Order.{by_rank, by_object, same_is, same_refl, contains_among, among_contains}
use Rattle.core_lang.specs.Theory.Items.{not_in_none, in_cases, in_first, in_rest}

pub record OrderLaws : Type 0 where
  pub classes : PathsHaveClasses
  pub listed : UsedAreListed
  pub strict : PrecedesIsStrict
  pub rise : InRuns AsksRise

-- a lock of one of the program's classes
abbrev Known : Typed → Lock → Type 0
Known program l = (c : LockClass) × (slice_get program.classes.items l.class ≡ Some c)

-- ---- ranks tell classes apart

rank_place : (program : Typed) (ranks : List ℕ) (ok : AreRanksOf program ranks) (l : Lock) → Known program l →
    (k : ℕ) × (slice_get ok.list k ≡ Some l.class) × (slice_index ranks l.class ≡ k)
rank_place program ranks ok l known =
    let c = ok.is_list.all l.class (slice_get_within program.classes.items l.class known.0 known.1) in
    let here : slice_get ok.list c.0 ≡ Some l.class = slice_get-get_or ok.list c.0 l.class c.1 ∙ ap (λ (x : ℕ). Some x) c.2 in
    (c.0, here, get_or_from_slice_get ranks l.class c.0 0 (ok.places c.0 l.class here))

same_rank : (program : Typed) (ranks : List ℕ) → AreRanksOf program ranks → (a b : Lock) → Known program a →
    Known program b →
    slice_index ranks a.class ≡ slice_index ranks b.class → a.class ≡ b.class
same_rank program ranks ok a b ka kb e =
    let p = rank_place program ranks ok a ka in
    let q = rank_place program ranks ok b kb in
    let same : p.0 ≡ q.0 = sym p.2 ∙ (e ∙ q.2) in
    let classes : Some a.class ≡ Some b.class = sym p.1 ∙ (ap (slice_get ok.list) same ∙ q.1) in
    cc classes

-- of two locks that aren't the same one comes before the other
total : (program : Typed) (ranks : List ℕ) → AreRanksOf program ranks → (a b : Lock) → Known program a →
    Known program b → same_lock a b ≡ false →
    precedes ranks a b ≡ false → Precedes ranks b a
total program ranks ok a b ka kb differ not =
    let parts = or_parts (nat_lt (slice_index ranks a.class) (slice_index ranks b.class)) ((a.class == b.class) && nat_lt a.object b.object) not in
    elim (cases_lt (slice_index ranks b.class) (slice_index ranks a.class)) [
      | inl less ↦ by_rank ranks b a less
      | inr more ↦ elim (cases_lt (slice_index ranks a.class) (slice_index ranks b.class)) [
        | inl less ↦ absurd (true≢false (sym (lt-ltb (slice_index ranks a.class) (slice_index ranks b.class) less) ∙ parts.0))
        | inr other ↦ (let ranks_same : slice_index ranks a.class ≡ slice_index ranks b.class = omega (arith, more, other) in
            let same = same_rank program ranks ok a b ka kb ranks_same in
            elim (cases_lt b.object a.object) [
              | inl less ↦ by_object ranks b a (sym same) less
              | inr further ↦ elim (cases_lt a.object b.object) [
                | inl less ↦ absurd (true≢false (sym (and_from (a.class == b.class) (nat_lt a.object b.object)
                    (eq-eqb a.class b.class same) (lt-ltb a.object b.object less)) ∙ parts.1))
                | inr back ↦ (let objects : a.object ≡ b.object = omega (arith, further, back) in
                    absurd (true≢false (sym (same_refl a b (λ i. record { class = same i; object = objects i })) ∙ differ)))
              ]
            ])
      ]
    ]

-- ---- insertion

abbrev Rising : List ℕ → List Lock → Type 0
Rising ranks [] = Unit {0}
Rising ranks (x ∷ xs) = ((y : Lock) → among xs y ≡ true → Precedes ranks x y) × Rising ranks xs

insert_among : (ranks : List ℕ) (l : Lock) (xs : List Lock) (y : Lock) → among (insert ranks l xs) y ≡ true →
    (l ≡ y) ⊎ (among xs y ≡ true)
insert_among ranks l [] y h = elim (or_cases (same_lock l y) false h) [ inl e ↦ inl (same_is l y e) | inr e ↦ inr e ]
insert_among ranks l (x ∷ xs) y h =
    by (same_lock l x) (precedes ranks l x) (insert_among ranks l xs y) h where
      by : (b d : Bool) → (among (insert ranks l xs) y ≡ true → (l ≡ y) ⊎ (among xs y ≡ true)) →
          among (if b then x ∷ xs else if d then l ∷ x ∷ xs else x ∷ insert ranks l xs) y ≡ true → (l ≡ y) ⊎ (among (x ∷ xs) y ≡ true)
      by true d go h = inr h
      by false true go h = elim (or_cases (same_lock l y) (among (x ∷ xs) y) h) [ inl e ↦ inl (same_is l y e) | inr e ↦ inr e ]
      by false false go h = elim (or_cases (same_lock x y) (among (insert ranks l xs) y) h) [
        | inl e ↦ inr (or_left (same_lock x y) (among xs y) e)
        | inr e ↦ elim (go e) [ inl q ↦ inl q | inr q ↦ inr (or_right (same_lock x y) (among xs y) q) ]
      ]

among_insert : (ranks : List ℕ) (l : Lock) (xs : List Lock) (y : Lock) → (l ≡ y) ⊎ (among xs y ≡ true) →
    among (insert ranks l xs) y ≡ true
among_insert ranks l [] y (inl e) = or_left (same_lock l y) false (same_refl l y e)
among_insert ranks l [] y (inr e) = absurd (true≢false (sym e))
among_insert ranks l (x ∷ xs) y h =
    by (same_lock l x) refl (precedes ranks l x) (among_insert ranks l xs y) h where
      by : (b : Bool) → same_lock l x ≡ b → (d : Bool) →
          ((l ≡ y) ⊎ (among xs y ≡ true) → among (insert ranks l xs) y ≡ true) →
          (l ≡ y) ⊎ (among (x ∷ xs) y ≡ true) → among (if b then x ∷ xs else if d then l ∷ x ∷ xs else x ∷ insert ranks l xs) y ≡ true
      by true same d go (inl e) = or_left (same_lock x y) (among xs y) (same_refl x y (sym (same_is l x same) ∙ e))
      by true same d go (inr h) = h
      by false same true go (inl e) = or_left (same_lock l y) (among (x ∷ xs) y) (same_refl l y e)
      by false same true go (inr h) = or_right (same_lock l y) (among (x ∷ xs) y) h
      by false same false go (inl e) = or_right (same_lock x y) (among (insert ranks l xs) y) (go (inl e))
      by false same false go (inr h) = elim (or_cases (same_lock x y) (among xs y) h) [
        | inl e ↦ or_left (same_lock x y) (among (insert ranks l xs) y) e
        | inr e ↦ or_right (same_lock x y) (among (insert ranks l xs) y) (go (inr e))
      ]

rising_insert : PrecedesIsStrict → (program : Typed) (ranks : List ℕ) → AreRanksOf program ranks →
    (l : Lock) (xs : List Lock) → Known program l →
    ((y : Lock) → among xs y ≡ true → Known program y) → Rising ranks xs → Rising ranks (insert ranks l xs)
rising_insert strict program ranks ok l [] kl known rise = (λ y h. absurd (true≢false (sym h)), tt)
rising_insert strict program ranks ok l (x ∷ xs) kl known rise =
    by (same_lock l x) refl (precedes ranks l x) refl
    (rising_insert strict program ranks ok l xs kl (λ y h. known y (or_right (same_lock x y) (among xs y) h)) rise.1) where
      by : (b : Bool) → same_lock l x ≡ b → (d : Bool) → precedes ranks l x ≡ d → Rising ranks (insert ranks l xs) →
          Rising ranks (if b then x ∷ xs else if d then l ∷ x ∷ xs else x ∷ insert ranks l xs)
      by true same d before rest = rise
      by false same true before rest =
          let first : Precedes ranks l x = before in (
            λ y h. elim (or_cases (same_lock x y) (among xs y) h) [
              | inl e ↦ subst (Precedes ranks l) (same_is x y e) first
              | inr e ↦ strict.goes_on ranks l x y first (rise.0 y e)
            ],
            rise,
          )
      by false same false before rest = (
        λ y h. elim (insert_among ranks l xs y h) [
          | inl e ↦ subst (Precedes ranks x) e
              (total program ranks ok l x kl (known x (or_left (same_lock x x) (among xs x) (same_refl x x refl))) same before)
          | inr e ↦ rise.0 y e
        ],
        rest,
      )

-- ---- what is asked for

record IsNumbered (program : Typed) (section : Section) (locals : List Value) (held : List Lock) (list : List ℕ) (l : Lock) : Type 0 where
  number : ℕ
  listed : Contains list number
  named : Contains (locks_numbered program section locals number) l
  new : among held l ≡ false

-- the path of a number
record IsNamed (program : Typed) (section : Section) (locals : List Value) (i : ℕ) (l : Lock) : Type 0 where
  path : LockPath
  is_path : slice_get (lock_paths program section) i ≡ Some path
  named : Names path program.shape locals l

named_by : (program : Typed) (section : Section) (locals : List Value) (i : ℕ) (l : Lock) (x : Option LockPath) →
    slice_get (lock_paths program section) i ≡ x →
    Contains (option_map_or (λ (path : LockPath). locks_named path program.shape locals) x []) l → IsNamed program section locals i l
named_by program section locals i l None e h = absurd (not_in_none l h)
named_by program section locals i l (Some path) e h = record { path = path; is_path = e; named = h }

named_at : (program : Typed) (section : Section) (locals : List Value) (i : ℕ) (l : Lock) →
    Contains (locks_numbered program section locals i) l → IsNamed program section locals i l
named_at program section locals i l h = named_by program section locals i l (slice_get (lock_paths program section) i) refl h

known_named : OrderLaws → (program : Typed) (section : Section) (ranks : List ℕ) (lists : List (List ℕ)) →
    IsOrdered program section ranks lists →
    (locals : List Value) (i : ℕ) (l : Lock) → IsNamed program section locals i l → Known program l
known_named laws program section ranks lists ok locals i l n =
    let inside : Contains (lock_paths program section) n.path =
    (i, slice_get_within (lock_paths program section) i n.path n.is_path, get_or_from_slice_get (lock_paths program section) i n.path n.path n.is_path) in
    let used = (laws.listed program section n.path).0 inside in
    let class = laws.classes program section used.0 n.path ok.well_formed used.1 in
    (class.0, ap (slice_get program.classes.items) (named_class n.path program.shape locals l n.named) ∙ class.1)

-- one lock more
new_only : (ranks : List ℕ) (held : List Lock) (l : Lock) (xs : List Lock) (y : Lock) →
    among (insert_new ranks held l xs) y ≡ true →
    ((l ≡ y) × (among held y ≡ false)) ⊎ (among xs y ≡ true)
new_only ranks held l xs y h = by (among held l) refl h where
  by : (b : Bool) → among held l ≡ b → among (if b then xs else insert ranks l xs) y ≡ true →
      ((l ≡ y) × (among held y ≡ false)) ⊎ (among xs y ≡ true)
  by true e h = inr h
  by false e h = elim (insert_among ranks l xs y h) [
    | inl same ↦ inl (same, subst (λ z. among held z ≡ false) same e)
    | inr q ↦ inr q
  ]

new_has : (ranks : List ℕ) (held : List Lock) (l : Lock) (xs : List Lock) (y : Lock) → among held y ≡ false →
    (l ≡ y) ⊎ (among xs y ≡ true) → among (insert_new ranks held l xs) y ≡ true
new_has ranks held l xs y new h = by (among held l) refl h where
  by : (b : Bool) → among held l ≡ b → (l ≡ y) ⊎ (among xs y ≡ true) →
      among (if b then xs else insert ranks l xs) y ≡ true
  by true e (inl same) = absurd (true≢false (sym e ∙ (ap (among held) same ∙ new)))
  by true e (inr q) = q
  by false e (inl same) = among_insert ranks l xs y (inl same)
  by false e (inr q) = among_insert ranks l xs y (inr q)

-- several locks more
all_only : (ranks : List ℕ) (held new xs : List Lock) (y : Lock) → among (insert_all ranks held new xs) y ≡ true →
    (Contains new y × (among held y ≡ false)) ⊎ (among xs y ≡ true)
all_only ranks held [] xs y h = inr h
all_only ranks held (l ∷ ls) xs y h =
    elim (new_only ranks held l (insert_all ranks held ls xs) y h) [
      | inl e ↦ inl (subst (Contains (l ∷ ls)) e.0 (in_first l ls), e.1)
      | inr q ↦ elim (all_only ranks held ls xs y q) [ inl r ↦ inl (in_rest l y ls r.0, r.1) | inr r ↦ inr r ]
    ]

all_has : (ranks : List ℕ) (held new xs : List Lock) (y : Lock) → among held y ≡ false →
    Contains new y ⊎ (among xs y ≡ true) → among (insert_all ranks held new xs) y ≡ true
all_has ranks held [] xs y free (inl c) = absurd (not_in_none y c)
all_has ranks held [] xs y free (inr h) = h
all_has ranks held (l ∷ ls) xs y free (inl c) =
    new_has ranks held l (insert_all ranks held ls xs) y free
    (elim (in_cases l y ls c) [ inl e ↦ inl e | inr d ↦ inr (all_has ranks held ls xs y free (inl d)) ])
all_has ranks held (l ∷ ls) xs y free (inr h) =
    new_has ranks held l (insert_all ranks held ls xs) y free (inr (all_has ranks held ls xs y free (inr h)))

asked_only : (program : Typed) (section : Section) (ranks : List ℕ) (held : List Lock) (locals : List Value) (list : List ℕ) (y : Lock) →
    among (to_ask program section ranks held locals list) y ≡ true → IsNumbered program section locals held list y
asked_only program section ranks held locals [] y h = absurd (true≢false (sym h))
asked_only program section ranks held locals (i ∷ is) y h =
    elim (all_only ranks held (locks_numbered program section locals i) (to_ask program section ranks held locals is) y h) [
      | inl e ↦ record { number = i; listed = in_first i is; named = e.0; new = e.1 }
      | inr q ↦ (let r = asked_only program section ranks held locals is y q in
          record { number = r.number; listed = in_rest i r.number is r.listed; named = r.named; new = r.new })
    ]

asked_has : (program : Typed) (section : Section) (ranks : List ℕ) (held : List Lock) (locals : List Value) (list : List ℕ) (y : Lock) (i : ℕ) →
    Contains list i → Contains (locks_numbered program section locals i) y → among held y ≡ false →
    among (to_ask program section ranks held locals list) y ≡ true
asked_has program section ranks held locals [] y i c named new = absurd (let less = c.1 in omega (arith, less))
asked_has program section ranks held locals (k ∷ is) y i c named new =
    all_has ranks held (locks_numbered program section locals k) (to_ask program section ranks held locals is) y new
    (elim (in_cases k i is c) [
      | inl e ↦ inl (subst (λ n. Contains (locks_numbered program section locals n) y) (sym e) named)
      | inr d ↦ inr (asked_has program section ranks held locals is y i d named new)
    ])

new_rises : PrecedesIsStrict → (program : Typed) (ranks : List ℕ) → AreRanksOf program ranks →
    (held : List Lock) (l : Lock) (xs : List Lock) → Known program l →
    ((y : Lock) → among xs y ≡ true → Known program y) → Rising ranks xs →
    Rising ranks (insert_new ranks held l xs)
new_rises strict program ranks ok held l xs first known rise =
    by (among held l) (rising_insert strict program ranks ok l xs first known rise) where
      by : (b : Bool) → Rising ranks (insert ranks l xs) → Rising ranks (if b then xs else insert ranks l xs)
      by true r = rise
      by false r = r

all_rise : PrecedesIsStrict → (program : Typed) (ranks : List ℕ) → AreRanksOf program ranks →
    (held new xs : List Lock) → ((l : Lock) → Contains new l → Known program l) →
    ((y : Lock) → among xs y ≡ true → Known program y) → Rising ranks xs → Rising ranks (insert_all ranks held new xs)
all_rise strict program ranks ok held [] xs first known rise = rise
all_rise strict program ranks ok held (l ∷ ls) xs first known rise =
    new_rises strict program ranks ok held l (insert_all ranks held ls xs) (first l (in_first l ls))
    (λ y h. elim (all_only ranks held ls xs y h) [ inl e ↦ first y (in_rest l y ls e.0) | inr q ↦ known y q ])
    (all_rise strict program ranks ok held ls xs (λ y c. first y (in_rest l y ls c)) known rise)

asked_rises : OrderLaws → (program : Typed) (section : Section) (ranks : List ℕ) (lists : List (List ℕ)) →
    IsOrdered program section ranks lists →
    (held : List Lock) (locals : List Value) (list : List ℕ) → Rising ranks (to_ask program section ranks held locals list)
asked_rises laws program section ranks lists ok held locals [] = tt
asked_rises laws program section ranks lists ok held locals (i ∷ is) =
    let known : (k : ℕ) (l : Lock) → Contains (locks_numbered program section locals k) l → Known program l =
    λ k l named. known_named laws program section ranks lists ok locals k l (named_at program section locals k l named) in
    all_rise laws.strict program ranks ok.ranked held (locks_numbered program section locals i) (to_ask program section ranks held locals is)
    (known i)
    (λ y h. (let n = asked_only program section ranks held locals is y h in known n.number y n.named))
    (asked_rises laws program section ranks lists ok held locals is)

-- ---- granted in turn

not_among : (held : List Lock) (l : Lock) → (Contains held l → ⊥) → among held l ≡ false
not_among held l not = elim (cases_Bool (among held l)) [ inl e ↦ absurd (not (among_contains held l e)) | inr e ↦ e ]

pub behind : (xs : List Lock) (x : Lock) (ys : List Lock) → (xs ++ x ∷ []) ++ ys ≡ xs ++ x ∷ ys
behind [] x ys = refl
behind (z ∷ xs) x ys = ap (λ rest. z ∷ rest) (behind xs x ys)

pub with_none : (xs : List Lock) → xs ++ [] ≡ xs
with_none [] = refl
with_none (x ∷ xs) = ap (λ rest. x ∷ rest) (with_none xs)

module _ (laws : OrderLaws) (program : Typed) (section : Section) (ranks : List ℕ) (lists : List (List ℕ)) (p : ℕ) (locals : List Value)
    (ok : IsOrdered program section ranks lists) where
  -- exactly the listed locks that aren't held, in order
  record Filling (held xs : List Lock) : Type 0 where
    order : Rising ranks xs
    only : (l : Lock) → among xs l ≡ true → IsListed program section ranks lists p locals l × (Contains held l → ⊥)
    all : (l : Lock) → IsListed program section ranks lists p locals l → (Contains held l → ⊥) → among xs l ≡ true

  abbrev Result : List Lock → List Lock → Type 0
  Result held xs =
      RiseBehind ranks held xs × Run program section ranks lists p locals (held ++ xs)
      × ((lock : Lock) → IsListed program section ranks lists p locals lock → Contains (held ++ xs) lock)

  asks_first : (held : List Lock) (l : Lock) (rest : List Lock) → Filling held (l ∷ rest) →
      Asks program section ranks lists p locals held l
  asks_first held l rest f =
      let mine = f.only l (or_left (same_lock l l) (among rest l) (same_refl l l refl)) in
      record {
        listed = mine.0;
        new = mine.1;
        first = λ other listed new. elim (or_cases (same_lock l other) (among rest other) (f.all other listed new)) [
          | inl e ↦ inl (sym (same_is l other e))
          | inr e ↦ inr (f.order.0 other e)
        ];
      }

  next_filling : (held : List Lock) (l : Lock) (rest : List Lock) → Filling held (l ∷ rest) →
      Filling (held ++ l ∷ []) rest
  next_filling held l rest f = record {
    order = f.order.1;
    only = λ y h. (let old = f.only y (or_right (same_lock l y) (among rest y) h) in (
      old.0,
      λ c. elim (Contains-append_cases held (l ∷ []) y c) [
        | inl d ↦ old.1 d
        | inr d ↦ elim (in_cases l y [] d) [
          | inl e ↦ laws.strict.not_itself ranks l (f.order.0 l (subst (λ z. among rest z ≡ true) (sym e) h))
          | inr none ↦ (let less = none.1 in omega (arith, less))
        ]
      ],
    ));
    all = λ y listed new.
        elim (or_cases (same_lock l y) (among rest y) (f.all y listed (λ c. new (Contains-append_left held (l ∷ []) y c)))) [
          | inl e ↦ absurd (new (subst (Contains (held ++ l ∷ [])) (same_is l y e) (Contains-push held l)))
          | inr e ↦ e
        ];
  }

  fill : (held xs : List Lock) → Run program section ranks lists p locals held → Filling held xs → Result held xs
  fill held [] run f = (
    tt,
    subst (λ h. Run program section ranks lists p locals h) (sym (with_none held)) run,
    λ l listed. subst (λ h. Contains h l) (sym (with_none held)) (elim (cases_Bool (among held l)) [
      | inl e ↦ among_contains held l e
      | inr e ↦ absurd (true≢false (sym (f.all l listed (λ c. true≢false (sym (contains_among held l c) ∙ e)))))
    ]),
  )
  fill held (l ∷ rest) run f =
      let asks = asks_first held l rest f in
      let more = fill (held ++ l ∷ []) rest (gets run asks) (next_filling held l rest f) in (
        (λ other c. laws.rise program section ranks lists p locals held ok run l other asks c, more.0),
        subst (λ h. Run program section ranks lists p locals h) (behind held l rest) more.1,
        λ y listed. subst (λ h. Contains h y) (behind held l rest) (more.2 y listed),
      )

pub asked_in_turn : OrderLaws → AskedInTurn
asked_in_turn laws program section ranks lists p locals held list ok run here =
    fill laws program section ranks lists p locals ok held (to_ask program section ranks held locals list) run (record {
      order = asked_rises laws program section ranks lists ok held locals list;
      only = λ l h. (let n = asked_only program section ranks held locals list l h in
          let named = named_at program section locals n.number l n.named in (
            record { list = list; number = n.number; path = named.path; here = here; listed = n.listed; is_path = named.is_path; named = named.named },
            λ c. true≢false (sym (contains_among held l c) ∙ n.new),
          ));
      all = λ l listed new.
          (let lists_same : Some listed.list ≡ Some list = sym listed.here ∙ here in
          let same : listed.list ≡ list = cc lists_same in
          asked_has program section ranks held locals list l listed.number (subst (λ xs. Contains xs listed.number) same listed.listed)
          (subst (λ x. Contains (option_map_or (λ (path : LockPath). locks_named path program.shape locals) x []) l) (sym listed.is_path) listed.named)
          (not_among held l new));
    })
