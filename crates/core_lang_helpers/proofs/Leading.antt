-- Which helpers lead to one, as the code marks them.
use Rattle.std.proofs.Common.{◌≡◌, ◌≢◌, ℕ, ◌+◌, ◌<◌, Bool, true, false, List, [], ◌∷◌, ◌++◌, ◌⊎◌, length, get_or, set}
use Rattle.std.proofs.Common.{take, replicate, inl, inr, refl, sym, ap, ◌∙◌, subst, Vec, Global, arith}
use Rattle.std.specs.Prelude.{◌==◌}
use Rattle.std.proofs.lemmas.Bool.{cases_lt, cases_eq, or_cases, or_left, or_right, eq-eqb, eqb-true, both_ways}
use Rattle.std.proofs.lemmas.List.{length-set, length-replicate, length_push, get_or-set_same, get_or-set_other, get_or-replicate}
use Rattle.std.proofs.lemmas.List.{get_or_past}
use Rattle.std.proofs.lemmas.List.Sums.{sum_by-set}
use Rattle.core_lang_helpers.specs.Graphs.{Body}
use Rattle.core_lang_helpers.specs.Recursion.{Calls, Reaches, calls, calls_one, LeadsTo}
use Rattle.core_lang_helpers.specs.Working.Tables.{reaches, Has, row_at, IsCallersTo, is_marked, leads_to, AreLeading}
use Rattle.core_lang_helpers.specs.Working.Tables.{open_mark, unmarked, Marks}
use Rattle.core_lang_helpers.proofs.Closing.{reaches_all, all_reaches, first_there}
use Rattle.core_lang_helpers.proofs.Extending.{taken}
use Rattle.core_lang_helpers.proofs.Having.{has_push, has_last, has_either}

-- a marked number is within the list of marks
pub marked_there : (marks : List Bool) (g : ℕ) → is_marked marks g ≡ true → g < length marks
marked_there marks g m = elim (cases_lt g (length marks)) [
  | inl lt ↦ lt
  | inr ge ↦ absurd (both_ways (is_marked marks g) (get_or_past marks g false ge) m)
]

-- ---- one more of a row

pub none_marked : (marks : List Bool) (pending : List ℕ) → Marks [] marks marks pending pending
none_marked marks pending = record {
  long = refl;
  kept = λ g m. m;
  all = λ g h lt. absurd h;
  from = λ g m. inl m;
  still = λ g h. h;
  queued = λ g h. inl h;
  count = refl;
}

module _ (row : List ℕ) (old marks : List Bool) (before pending : List ℕ) (i x : ℕ) (so : Marks (take i row) old marks before pending) (lt : i < length row)
    (is : x ≡ get_or row i x) where
  abbrev earlier : List ℕ
  earlier = take i row

  abbrev now : List ℕ
  now = take (i + 1) row

  next : now ≡ earlier ++ x ∷ []
  next = taken row i x lt is

  wider : (g : ℕ) → Has earlier g → Has now g
  wider g h = subst (λ (l : List ℕ). Has l g) (sym next) (has_push earlier x g h)

  newest : Has now x
  newest = subst (λ (l : List ℕ). Has l x) (sym next) (has_last earlier x)

  parts : (g : ℕ) → Has now g → Has earlier g ⊎ (x ≡ g)
  parts g h = has_either earlier x g (subst (λ (l : List ℕ). Has l g) next h)

  pub mark_passed : (x < length marks → is_marked marks x ≡ true) → Marks now old marks before pending
  mark_passed marked = record {
    long = so.long;
    kept = so.kept;
    all = λ g h there. elim (parts g h) [
      | inl l ↦ so.all g l there
      | inr same ↦ subst (λ (n : ℕ). is_marked marks n ≡ true) same (marked (omega (arith, same, there, so.long)))
    ];
    from = λ g m. elim (so.from g m) [ inl l ↦ inl l | inr r ↦ inr (wider g r.0, r.1) ];
    still = so.still;
    queued = so.queued;
    count = so.count;
  }

  module _ (there : x < length marks) (fails : is_marked marks x ≡ false) where
    abbrev new : List Bool
    new = set marks x true

    same_mark : (g : ℕ) → x ≡ g → is_marked new g ≡ true
    same_mark g same = subst (λ (n : ℕ). is_marked new n ≡ true) same (get_or-set_same marks x true false there)

    other_mark : (g : ℕ) → g ≢ x → is_marked new g ≡ is_marked marks g
    other_mark g ne = get_or-set_other marks x g true false ne

    grows : (g : ℕ) → is_marked marks g ≡ true → is_marked new g ≡ true
    grows g m = elim (cases_eq g x) [ inl same ↦ same_mark g (sym same) | inr ne ↦ other_mark g ne ∙ m ]

    one_less : unmarked new + 1 ≡ unmarked marks
    one_less =
        let sums : unmarked new + open_mark (get_or marks x false) ≡ unmarked marks + 0 = sum_by-set open_mark marks x true false there in
        let one : open_mark (get_or marks x false) ≡ 1 = ap open_mark fails in
        omega (arith, sums, one)

    from_new : (g : ℕ) → is_marked new g ≡ true → (is_marked old g ≡ true) ⊎ (Has now g × Has (pending ++ x ∷ []) g)
    from_new g m = elim (cases_eq g x) [
      | inl same ↦ inr (subst (Has now) (sym same) newest, subst (Has (pending ++ x ∷ [])) (sym same) (has_last pending x))
      | inr ne ↦ elim (so.from g (sym (other_mark g ne) ∙ m)) [ inl l ↦ inl l | inr r ↦ inr (wider g r.0, has_push pending x g r.1) ]
    ]

    pub mark_added : Marks now old new before (pending ++ x ∷ [])
    mark_added = record {
      long = length-set marks x true ∙ so.long;
      kept = λ g m. grows g (so.kept g m);
      all = λ g h within. elim (parts g h) [ inl l ↦ grows g (so.all g l within) | inr same ↦ same_mark g same ];
      from = from_new;
      still = λ g h. has_push pending x g (so.still g h);
      queued = λ g h. elim (has_either pending x g h) [
        | inl l ↦ elim (so.queued g l) [ inl b ↦ inl b | inr m ↦ inr (grows g m) ]
        | inr same ↦ inr (same_mark g same)
      ];
      count = omega (arith, one_less, so.count, length_push pending x);
    }

-- ---- the whole search

-- so far all that are marked lead to the helper, and each caller of one is marked, or will be
pub record IsSearch (helpers : List Body) (marks : List Bool) (pending : List ℕ) (to : ℕ) : Type 0 where
  pub long : length marks ≡ length helpers
  pub first : is_marked marks to ≡ true
  pub leads : (g : ℕ) → is_marked marks g ≡ true → LeadsTo helpers g to
  pub closed : (f h : ℕ) → Calls helpers f h → is_marked marks h ≡ true → (is_marked marks f ≡ true) ⊎ Has pending h
  pub queued : (h : ℕ) → Has pending h → is_marked marks h ≡ true

pub search_first : (helpers : List Body) (n to : ℕ) → n ≡ length helpers → to < n →
    IsSearch helpers (set (replicate n false) to true) ([] ++ to ∷ []) to
search_first helpers n to all there =
    let marks : List Bool = set (replicate n false) to true in
    let long : length marks ≡ n = length-set (replicate n false) to true ∙ length-replicate n false in
    let first : is_marked marks to ≡ true = get_or-set_same (replicate n false) to true false (omega (arith, there, length-replicate {A = Bool} n false)) in
    let none : (g : ℕ) → g ≢ to → is_marked marks g ≡ false = λ g ne.
    get_or-set_other (replicate n false) to g true false ne ∙ none_yet g in
    let only : (g : ℕ) → is_marked marks g ≡ true → g ≡ to = λ g m. elim (cases_eq g to) [
      | inl same ↦ same
      | inr ne ↦ absurd (both_ways (is_marked marks g) (none g ne) m)
    ] in
    record {
      long = long ∙ all;
      first = first;
      leads = λ g m. inl (only g m);
      closed = λ f h c m. inr (inl (sym (only h m)));
      queued = λ h has. elim has [ inl e ↦ subst (λ (x : ℕ). is_marked marks x ≡ true) e first | inr none ↦ absurd none ];
    }
  where
    none_yet : (g : ℕ) → get_or (replicate n false) g false ≡ false
    none_yet g = elim (cases_lt g n) [
      | inl lt ↦ get_or-replicate n g false false lt
      | inr ge ↦ get_or_past (replicate n false) g false (omega (arith, ge, length-replicate {A = Bool} n false))
    ]

leads_on : (helpers : List Body) (g h to : ℕ) → Calls helpers g h → LeadsTo helpers h to → LeadsTo helpers g to
leads_on helpers g h to c (inl same) = inr (calls (subst (Calls helpers g) same c))
leads_on helpers g h to c (inr r) = inr (calls_one c r)

pub search_next : (helpers : List Body) (rows : List (Vec ℕ Global)) (n : ℕ) (marks new : List Bool) (rest after pending : List ℕ) (h to : ℕ) →
    IsCallersTo helpers rows n → n ≡ length helpers → IsSearch helpers marks pending to → pending ≡ rest ++ h ∷ [] → Marks (row_at rows h) marks new rest after →
    IsSearch helpers new after to
search_next helpers rows n marks new rest after pending h to callers all before popped so =
    let old : (x : ℕ) → Has pending x → Has rest x ⊎ (h ≡ x) = λ x has. has_either rest h x (subst (λ (l : List ℕ). Has l x) popped has) in
    let was : (x : ℕ) → Has rest x → Has pending x = λ x has. subst (λ (l : List ℕ). Has l x) (sym popped) (has_push rest h x has) in
    let here : is_marked marks h ≡ true = before.queued h (subst (λ (l : List ℕ). Has l h) (sym popped) (has_last rest h)) in
    record {
      long = so.long ∙ before.long;
      first = so.kept to before.first;
      leads = λ g m. elim (so.from g m) [
        | inl marked ↦ before.leads g marked
        | inr p ↦ leads_on helpers g h to (callers.calls g h p.0) (before.leads h here)
      ];
      closed = λ f x c m. elim (so.from x m) [
        | inl marked ↦ elim (before.closed f x c marked) [
          | inl done ↦ inl (so.kept f done)
          | inr has ↦ elim (old x has) [
            | inl left ↦ inr (so.still x left)
            | inr same ↦
                let there : h < length rows = omega (arith, marked_there marks h here, before.long, callers.long) in
                let within : f < length marks = omega (arith, calls_there helpers f x c, before.long) in
                let called : Calls helpers f h = subst (Calls helpers f) (sym same) c in
                inl (so.all f (callers.called f h (omega (arith, calls_there helpers f x c, all)) there called) within)
          ]
        ]
        | inr p ↦ inr p.1
      ];
      queued = λ x has. elim (so.queued x has) [ inl left ↦ so.kept x (before.queued x (was x left)) | inr marked ↦ marked ];
    }
  where
    calls_there : (helpers : List Body) (f g : ℕ) → Calls helpers f g → f < length helpers
    calls_there helpers f g c = first_there helpers f g (calls c)

reach_marked : (helpers : List Body) (marks : List Bool) (f to : ℕ) →
    ((f h : ℕ) → Calls helpers f h → is_marked marks h ≡ true → is_marked marks f ≡ true) → is_marked marks to ≡ true → Reaches helpers f to → is_marked marks f ≡ true
reach_marked helpers marks f to closed first (calls c) = closed f to c first
reach_marked helpers marks f to closed first (calls_one {g = x} c r) = closed f x c (reach_marked helpers marks x to closed first r)

leads_marked : (helpers : List Body) (marks : List Bool) (g to : ℕ) →
    ((f h : ℕ) → Calls helpers f h → is_marked marks h ≡ true → is_marked marks f ≡ true) → is_marked marks to ≡ true → LeadsTo helpers g to → is_marked marks g ≡ true
leads_marked helpers marks g to closed first (inl same) = subst (λ (x : ℕ). is_marked marks x ≡ true) (sym same) first
leads_marked helpers marks g to closed first (inr r) = reach_marked helpers marks g to closed first r

leads_so : (helpers : List Body) (g to : ℕ) → LeadsTo helpers g to → leads_to helpers g to ≡ true
leads_so helpers g to (inl same) = or_left (g == to) (reaches helpers g to) (eq-eqb g to same)
leads_so helpers g to (inr r) = or_right (g == to) (reaches helpers g to) (reaches_all helpers g to r)

so_leads : (helpers : List Body) (g to : ℕ) → leads_to helpers g to ≡ true → LeadsTo helpers g to
so_leads helpers g to e = elim (or_cases (g == to) (reaches helpers g to) e) [
  | inl same ↦ inl (eqb-true g to same)
  | inr r ↦ inr (all_reaches helpers g to r)
]

same_test : (a b : Bool) → (a ≡ true → b ≡ true) → (b ≡ true → a ≡ true) → a ≡ b
same_test true b f g = sym (f refl)
same_test false true f g = g refl
same_test false false f g = refl

pub search_done : (helpers : List Body) (marks : List Bool) (pending : List ℕ) (to : ℕ) → IsSearch helpers marks pending to →
    pending ≡ [] → AreLeading helpers marks to
search_done helpers marks pending to is none =
    let closed : (f h : ℕ) → Calls helpers f h → is_marked marks h ≡ true → is_marked marks f ≡ true = λ f h c m. elim (is.closed f h c m) [
      | inl done ↦ done
      | inr has ↦ absurd (subst (λ (l : List ℕ). Has l h) none has)
    ] in
    record {
      leads = λ g. same_test (is_marked marks g) (leads_to helpers g to) (λ m. leads_so helpers g to (is.leads g m))
          (λ e. leads_marked helpers marks g to closed is.first (so_leads helpers g to e));
    }
