-- The first faults of a list: they are of the list, they rise, and each fault that is left out comes after all of them.
use Rattle.std.proofs.Common.{◌≡◌, ℕ, suc, zero, ◌+◌, ◌≤◌, ◌<◌, arith, List, [], ◌∷◌, ◌++◌, length, take, Option, Some, None, Bool, true, false, refl, sym, ap}
use Rattle.std.proofs.Common.{if◌then◌else◌, ◌∙◌, ◌⊎◌, inl, inr, subst, nat_lt, ◌||◌}
use Rattle.std.proofs.lemmas.Bool.Decides.{nat_tests}
use Rattle.std.proofs.lemmas.List.{take_all}
use Rattle.source.specs.declared.mistake.Mistake.{Mistake}
use Rattle.source.specs.Mistakes.{code_number}
use Rattle.source.specs.Theory.Leasts.{neither_before}
use Rattle.resolution.specs.declared.finding.Finding.{Finding}
use Rattle.std.specs.Prelude.{option_map, option_to_list, map}
use Rattle.source.specs.Mistakes as bare
use Rattle.source.specs.Theory.Leasts as bare_lists
use Rattle.resolution.specs.Theory.Leasts.{code_less, least_append, least_plain, noted}
use Rattle.resolution.specs.Theory.Firsts.{first_found}
use Rattle.resolution.specs.Working.Findings.{Firsts, MOST, goes_ahead, mistake_of, plain, lesser, least_of, first_of, first, placed, cut_off}
use Rattle.resolution.specs.Working.Findings.{with_found, found_in, IsOneOf, IsAmong, GoesAheadOfAll, AllGoAhead, Rises}

trans : (a b c : Finding) → goes_ahead a b ≡ true → goes_ahead b c ≡ true → goes_ahead a c ≡ true
trans a b c p q = code_less a.start b.start (code_number a.code) (code_number b.code) c.start (code_number c.code) p q

-- ---- they are of the list

one_by : (x y : Bool) (f g h : Finding) (hs : List Finding) → (IsOneOf f (placed g hs) → (f ≡ g) ⊎ IsOneOf f hs) →
    IsOneOf f (if x then g ∷ h ∷ hs else if y then h ∷ placed g hs else h ∷ hs) → (f ≡ g) ⊎ IsOneOf f (h ∷ hs)
one_by true y f g h hs rest i = i
one_by false true f g h hs rest (inl e) = inr (inl e)
one_by false true f g h hs rest (inr i) = elim (rest i) [ inl e ↦ inl e | inr j ↦ inr (inr j) ]
one_by false false f g h hs rest i = inr i

one_placed : (f g : Finding) (fs : List Finding) → IsOneOf f (placed g fs) → (f ≡ g) ⊎ IsOneOf f fs
one_placed f g [] i = i
one_placed f g (h ∷ hs) i = one_by (goes_ahead g h) (goes_ahead h g) f g h hs (one_placed f g hs) i

one_taken : (n : ℕ) (f : Finding) (fs : List Finding) → IsOneOf f (take n fs) → IsOneOf f fs
one_taken zero f fs i = absurd i
one_taken (suc n) f [] i = absurd i
one_taken (suc n) f (h ∷ hs) (inl e) = inl e
one_taken (suc n) f (h ∷ hs) (inr i) = inr (one_taken n f hs i)

pub one_found : (f : Finding) (s : Firsts) (gs : List Finding) → IsOneOf f (found_in s gs).kept → IsOneOf f s.kept ⊎ IsOneOf f gs
one_found f s [] i = inl i
one_found f s (g ∷ gs) i = elim (one_found f (with_found s g) gs i) [
  | inl a ↦ elim (one_placed f g s.kept (one_taken MOST f (placed g s.kept) a)) [ inl e ↦ inr (inl e) | inr j ↦ inl j ]
  | inr b ↦ inr (inr b)
]

-- ---- they rise

ahead_of_all : (a b : Finding) (fs : List Finding) → goes_ahead a b ≡ true → GoesAheadOfAll b fs → GoesAheadOfAll a fs
ahead_of_all a b [] p all = tt
ahead_of_all a b (f ∷ fs) p all = (trans a b f p all.0, ahead_of_all a b fs p all.1)

ahead_by : (x y : Bool) (a g h : Finding) (hs : List Finding) → goes_ahead a g ≡ true → goes_ahead a h ≡ true → GoesAheadOfAll a hs →
    GoesAheadOfAll a (placed g hs) → GoesAheadOfAll a (if x then g ∷ h ∷ hs else if y then h ∷ placed g hs else h ∷ hs)
ahead_by true y a g h hs p q all rest = (p, (q, all))
ahead_by false true a g h hs p q all rest = (q, rest)
ahead_by false false a g h hs p q all rest = (q, all)

ahead_placed : (a g : Finding) (fs : List Finding) → goes_ahead a g ≡ true → GoesAheadOfAll a fs → GoesAheadOfAll a (placed g fs)
ahead_placed a g [] p all = (p, tt)
ahead_placed a g (h ∷ hs) p all =
    ahead_by (goes_ahead g h) (goes_ahead h g) a g h hs p all.0 all.1 (ahead_placed a g hs p all.1)

rises_by : (x y : Bool) (g h : Finding) (hs : List Finding) → goes_ahead g h ≡ x → goes_ahead h g ≡ y → Rises (h ∷ hs) → Rises (placed g hs) →
    Rises (if x then g ∷ h ∷ hs else if y then h ∷ placed g hs else h ∷ hs)
rises_by true y g h hs p q up rest = ((p, ahead_of_all g h hs p up.0), up)
rises_by false true g h hs p q up rest = (ahead_placed h g hs q up.0, rest)
rises_by false false g h hs p q up rest = up

rises_placed : (g : Finding) (fs : List Finding) → Rises fs → Rises (placed g fs)
rises_placed g [] up = (tt, tt)
rises_placed g (h ∷ hs) up = rises_by (goes_ahead g h) (goes_ahead h g) g h hs refl refl up (rises_placed g hs up.1)

ahead_taken : (n : ℕ) (a : Finding) (fs : List Finding) → GoesAheadOfAll a fs → GoesAheadOfAll a (take n fs)
ahead_taken zero a fs all = tt
ahead_taken (suc n) a [] all = tt
ahead_taken (suc n) a (f ∷ fs) all = (all.0, ahead_taken n a fs all.1)

rises_taken : (n : ℕ) (fs : List Finding) → Rises fs → Rises (take n fs)
rises_taken zero fs up = tt
rises_taken (suc n) [] up = tt
rises_taken (suc n) (f ∷ fs) up = (ahead_taken n f fs up.0, rises_taken n fs up.1)

rises_with : (s : Firsts) (g : Finding) → Rises s.kept → Rises (with_found s g).kept
rises_with s g up = rises_taken MOST (placed g s.kept) (rises_placed g s.kept up)

pub rises_found : (s : Firsts) (gs : List Finding) → Rises s.kept → Rises (found_in s gs).kept
rises_found s [] up = up
rises_found s (g ∷ gs) up = rises_found (with_found s g) gs (rises_with s g up)

-- ---- there are few

few_taken : (n : ℕ) (fs : List Finding) → length (take n fs) ≤ n
few_taken zero fs = omega arith
few_taken (suc n) [] = omega arith
few_taken (suc n) (f ∷ fs) = let le = few_taken n fs in omega arith

pub few_found : (s : Firsts) (gs : List Finding) → length s.kept ≤ MOST → length (found_in s gs).kept ≤ MOST
few_found s [] le = le
few_found s (g ∷ gs) le = few_found (with_found s g) gs (few_taken MOST (placed g s.kept))

-- ---- if no more were found, none is left out

or_left : (a b : Bool) → (a || b) ≡ false → (a ≡ false) × (b ≡ false)
or_left true b e = absurd (let bad : true ≡ false = e in cc)
or_left false b e = (refl, e)

or_false : (a : Bool) → (a || false) ≡ true → a ≡ true
or_false true e = refl
or_false false e = absurd (let bad : false ≡ true = e in cc)

before_false : (s : Firsts) (gs : List Finding) → (found_in s gs).more ≡ false → s.more ≡ false
before_false s [] e = e
before_false s (g ∷ gs) e = (or_left s.more (nat_lt MOST (length (placed g s.kept))) (before_false (with_found s g) gs e)).0

uncut_kept : (n : ℕ) (fs : List Finding) → nat_lt n (length fs) ≡ false → take n fs ≡ fs
uncut_kept n fs e = take_all n fs (grind (arith, nat_tests))

among_by : (x y : Bool) (m : Mistake) (g h : Finding) (hs : List Finding) → (IsAmong m hs → IsAmong m (placed g hs)) → IsAmong m (h ∷ hs) →
    IsAmong m (if x then g ∷ h ∷ hs else if y then h ∷ placed g hs else h ∷ hs)
among_by true y m g h hs rest i = inr i
among_by false true m g h hs rest (inl e) = inl e
among_by false true m g h hs rest (inr i) = inr (rest i)
among_by false false m g h hs rest i = i

among_placed : (m : Mistake) (g : Finding) (fs : List Finding) → IsAmong m fs → IsAmong m (placed g fs)
among_placed m g [] i = absurd i
among_placed m g (h ∷ hs) i = among_by (goes_ahead g h) (goes_ahead h g) m g h hs (among_placed m g hs) i

new_by : (x y : Bool) (g h : Finding) (hs : List Finding) → goes_ahead g h ≡ x → goes_ahead h g ≡ y → IsAmong (mistake_of g) (placed g hs) →
    IsAmong (mistake_of g) (if x then g ∷ h ∷ hs else if y then h ∷ placed g hs else h ∷ hs)
new_by true y g h hs p q rest = inl refl
new_by false true g h hs p q rest = inr rest
new_by false false g h hs p q rest = inl (neither_before (mistake_of g) (mistake_of h) p q)

new_placed : (g : Finding) (fs : List Finding) → IsAmong (mistake_of g) (placed g fs)
new_placed g [] = inl refl
new_placed g (h ∷ hs) = new_by (goes_ahead g h) (goes_ahead h g) g h hs refl refl (new_placed g hs)

pub among_found : (m : Mistake) (s : Firsts) (gs : List Finding) → (found_in s gs).more ≡ false → IsAmong m s.kept ⊎ IsAmong m gs →
    IsAmong m (found_in s gs).kept
among_found m s [] e (inl i) = i
among_found m s [] e (inr i) = absurd i
among_found m s (g ∷ gs) e i =
    let all = uncut_kept MOST (placed g s.kept) (or_left s.more (nat_lt MOST (length (placed g s.kept))) (before_false (with_found s g) gs e)).1 in
    among_found m (with_found s g) gs e (elim i [
      | inl j ↦ inl (subst (IsAmong m) (sym all) (among_placed m g s.kept j))
      | inr (inl here) ↦ inl (subst (IsAmong m) (sym all) (subst (λ (x : Mistake). IsAmong x (placed g s.kept)) (sym here) (new_placed g s.kept)))
      | inr (inr k) ↦ inr k
    ])

-- ---- if more were found, one comes after all that are kept

longer_by : (x y : Bool) (g h : Finding) (hs : List Finding) → length hs ≤ length (placed g hs) →
    length (h ∷ hs) ≤ length (if x then g ∷ h ∷ hs else if y then h ∷ placed g hs else h ∷ hs)
longer_by true y g h hs le = omega arith
longer_by false true g h hs le = omega arith
longer_by false false g h hs le = omega arith

longer : (g : Finding) (fs : List Finding) → length fs ≤ length (placed g fs)
longer g [] = omega arith
longer g (h ∷ hs) = longer_by (goes_ahead g h) (goes_ahead h g) g h hs (longer g hs)

same_by : (x y : Bool) (g h : Finding) (hs : List Finding) → (length (placed g hs) ≡ length hs → placed g hs ≡ hs) →
    length (if x then g ∷ h ∷ hs else if y then h ∷ placed g hs else h ∷ hs) ≡ length (h ∷ hs) →
    (if x then g ∷ h ∷ hs else if y then h ∷ placed g hs else h ∷ hs) ≡ h ∷ hs
same_by true y g h hs rest e = absurd (omega arith)
same_by false true g h hs rest e = ap (λ (l : List Finding). h ∷ l) (rest (omega arith))
same_by false false g h hs rest e = refl

same_placed : (g : Finding) (fs : List Finding) → length (placed g fs) ≡ length fs → placed g fs ≡ fs
same_placed g [] e = absurd (omega arith)
same_placed g (h ∷ hs) e = same_by (goes_ahead g h) (goes_ahead h g) g h hs (same_placed g hs) e

full_taken : (n : ℕ) (fs : List Finding) → n < length fs → length (take n fs) ≡ n
full_taken zero fs lt = refl
full_taken (suc n) [] lt = absurd (omega arith)
full_taken (suc n) (f ∷ fs) lt = let e = full_taken n fs (omega arith) in omega arith

ahead_of_one : (f w : Finding) (fs : List Finding) → GoesAheadOfAll f fs → IsOneOf w fs → goes_ahead f w ≡ true
ahead_of_one f w [] all i = absurd i
ahead_of_one f w (h ∷ hs) all (inl e) = ap (goes_ahead f) e ∙ all.0
ahead_of_one f w (h ∷ hs) all (inr i) = ahead_of_one f w hs all.1 i

cut_one : (n : ℕ) (fs : List Finding) → n < length fs → Rises fs → (w : Finding) × IsOneOf w fs × AllGoAhead (take n fs) w
cut_one n [] lt up = absurd (omega arith)
cut_one zero (f ∷ fs) lt up = (f, inl refl, tt)
cut_one (suc n) (f ∷ fs) lt up =
    let rest = cut_one n fs (omega arith) up.1 in
    (rest.0, inr rest.1, (ahead_of_one f rest.0 fs up.0 rest.1, rest.2))

module _ (P : Finding → Type 0) where
  -- as many as possible are kept, and a fault with the property P comes after all of them
  abbrev pub HasMore : Firsts → Type 0
  HasMore s = (length s.kept ≡ MOST) × (w : Finding) × P w × AllGoAhead s.kept w

  each_with : (s : Firsts) (g : Finding) → ((f : Finding) → IsOneOf f s.kept → P f) → P g → (f : Finding) → IsOneOf f (placed g s.kept) → P f
  each_with s g all new f i = elim (one_placed f g s.kept i) [ inl e ↦ subst P (sym e) new | inr j ↦ all f j ]

  more_by : (cut : Bool) (s : Firsts) (g : Finding) → nat_lt MOST (length (placed g s.kept)) ≡ cut → (s.more || cut) ≡ true → Rises s.kept →
      ((f : Finding) → IsOneOf f s.kept → P f) → P g → (s.more ≡ true → HasMore s) → HasMore (with_found s g)
  more_by true s g long is up all new before =
      let lt : MOST < length (placed g s.kept) = grind (arith, nat_tests) in
      let one = cut_one MOST (placed g s.kept) lt (rises_placed g s.kept up) in
      (full_taken MOST (placed g s.kept) lt, one.0, each_with s g all new one.0 one.1, one.2)
  more_by false s g long is up all new before =
      let had = before (or_false s.more is) in
      let longer = longer g s.kept in
      let full = had.0 in
      let le : length (placed g s.kept) ≤ MOST = grind (arith, nat_tests) in
      let same : take MOST (placed g s.kept) ≡ s.kept = take_all MOST (placed g s.kept) le ∙ same_placed g s.kept (omega arith) in
      (ap length same ∙ had.0, had.1, had.2, subst (λ (l : List Finding). AllGoAhead l had.1) (sym same) had.3)

  pub more_found : (s : Firsts) (gs : List Finding) → Rises s.kept → ((f : Finding) → IsOneOf f s.kept → P f) →
      ((f : Finding) → IsOneOf f gs → P f) → (s.more ≡ true → HasMore s) → (found_in s gs).more ≡ true → HasMore (found_in s gs)
  more_found s [] up all rest before e = before e
  more_found s (g ∷ gs) up all rest before e =
      more_found (with_found s g) gs (rises_with s g up)
      (λ f i. each_with s g all (rest g (inl refl)) f (one_taken MOST f (placed g s.kept) i)) (λ f i. rest f (inr i))
      (λ more. more_by (nat_lt MOST (length (placed g s.kept))) s g refl more up all (rest g (inl refl)) before) e

-- ---- the least of others noted alone

noted_alone : (f : Option Finding) (m : Option Mistake) → least_of f (option_to_list (option_map plain m)) ≡ noted f m
noted_alone f None = refl
noted_alone f (Some m) = refl

-- the least fault of a list is the same if a part of it is replaced by the least of that part
pub least_alone : (fs : List Finding) (ms : List Mistake) →
    least_of None (fs ++ option_to_list (option_map plain (bare.least_of None ms))) ≡ least_of None (fs ++ map plain ms)
least_alone fs ms =
    least_append None fs (option_to_list (option_map plain (bare.least_of None ms)))
    ∙ noted_alone (least_of None fs) (bare.least_of None ms)
    ∙ sym (least_append None fs (map plain ms) ∙ least_plain (least_of None fs) ms)

alone_one : (f : Finding) (m : Option Mistake) (ms : List Mistake) → ((x : Mistake) → m ≡ Some x → bare_lists.IsAmong x ms) →
    IsOneOf f (option_to_list (option_map plain m)) → (x : Mistake) × bare_lists.IsAmong x ms × (f ≡ plain x)
alone_one f None ms so i = absurd i
alone_one f (Some x) ms so (inl e) = (x, so x refl, e)
alone_one f (Some x) ms so (inr i) = absurd i

pub alone_of : (f : Finding) (ms : List Mistake) → IsOneOf f (option_to_list (option_map plain (bare.least_of None ms))) →
    (x : Mistake) × bare_lists.IsAmong x ms × (f ≡ plain x)
alone_of f ms i = alone_one f (bare.least_of None ms) ms (λ x e. bare_lists.least_in x ms e) i
