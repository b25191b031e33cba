-- The fault that is kept of several is one of them, and none of them comes before it. Nobody has to believe these
-- lemmas: they are checked, and are here for proofs of the crates above.
use Rattle.std.proofs.Common.{◌≡◌, ℕ, ◌+◌, ◌*◌, ◌<◌, ◌≤◌, ◌==◌, ◌||◌, ◌&&◌, ◌⊎◌, nat_lt, List, [], ◌∷◌, ◌++◌, Option}
use Rattle.std.proofs.Common.{Some, None, Bool, true, false, inl, inr, refl, sym, ap, ◌∙◌, subst, if◌then◌else◌, arith}
use Rattle.std.proofs.lemmas.Bool.Decides.{nat_tests}
use Rattle.source.specs.declared.fault.Code.{Code}
use Rattle.source.specs.declared.fault.Code.TheVariants.{BadCharacter, NumberTooLarge, UnexpectedToken, NestedTooDeep}
use Rattle.source.specs.declared.fault.Code.TheVariants.{DeclaredTwice, UnknownName, WrongType, WrongArgumentCount}
use Rattle.source.specs.declared.fault.Code.TheVariants.{NotAssignable, NeitherFinalNorProtected, ProtectedByNoLock}
use Rattle.source.specs.declared.fault.Code.TheVariants.{ProtectedByPassesNonFinal, UnstableBase, LockOrderCycle}
use Rattle.source.specs.declared.fault.Code.TheVariants.{LimitExceeded, FinalWithoutOpeningValue}
use Rattle.source.specs.declared.fault.Code.TheVariants.{InitOutOfRangeOrRepeated, MisplacedReturn, LockAsValue}
use Rattle.source.specs.declared.fault.Code.TheVariants.{RecursiveHelper}
use Rattle.source.specs.declared.mistake.Mistake.{Mistake}
use Rattle.source.specs.Mistakes.{code_number, goes_before, lesser, least_of}

-- the fault is one of these
abbrev pub IsAmong : Mistake → List Mistake → Type 0
IsAmong f [] = ⊥
IsAmong f (g ∷ gs) = (f ≡ g) ⊎ IsAmong f gs

pub least_append : (f : Option Mistake) (a b : List Mistake) → least_of f (a ++ b) ≡ least_of (least_of f a) b
least_append f [] b = refl
least_append f (g ∷ a) b = least_append (lesser f g) a b

lesser_in : (b : Bool) (f g h : Mistake) (gs : List Mistake) →
    ((x : Mistake) → least_of (Some x) gs ≡ Some f → (f ≡ x) ⊎ IsAmong f gs) →
    least_of (if b then Some g else Some h) gs ≡ Some f → (f ≡ h) ⊎ IsAmong f (g ∷ gs)
lesser_in true f g h gs rest e = elim (rest g e) [ inl s ↦ inr (inl s) | inr i ↦ inr (inr i) ]
lesser_in false f g h gs rest e = elim (rest h e) [ inl s ↦ inl s | inr i ↦ inr (inr i) ]

least_among : (f h : Mistake) (gs : List Mistake) → least_of (Some h) gs ≡ Some f → (f ≡ h) ⊎ IsAmong f gs
least_among f h [] e = inl (cc)
least_among f h (g ∷ gs) e = lesser_in (goes_before g h) f g h gs (λ x. least_among f x gs) e

pub least_in : (f : Mistake) (gs : List Mistake) → least_of None gs ≡ Some f → IsAmong f gs
least_in f [] e = cc
least_in f (g ∷ gs) e = least_among f g gs e

pub among_left : (f : Mistake) (a b : List Mistake) → IsAmong f a → IsAmong f (a ++ b)
among_left f [] b i = absurd i
among_left f (g ∷ a) b (inl e) = inl e
among_left f (g ∷ a) b (inr i) = inr (among_left f a b i)

pub among_right : (f : Mistake) (a b : List Mistake) → IsAmong f b → IsAmong f (a ++ b)
among_right f [] b i = i
among_right f (g ∷ a) b i = inr (among_right f a b i)

pub among_either : (f : Mistake) (a b : List Mistake) → IsAmong f (a ++ b) → IsAmong f a ⊎ IsAmong f b
among_either f [] b i = inr i
among_either f (g ∷ a) b (inl e) = inl (inl e)
among_either f (g ∷ a) b (inr i) = elim (among_either f a b i) [ inl l ↦ inl (inr l) | inr r ↦ inr r ]

lesser_some : (b : Bool) (g h : Mistake) (gs : List Mistake) → ((x : Mistake) → least_of (Some x) gs ≡ None → ⊥) →
    least_of (if b then Some g else Some h) gs ≡ None → ⊥
lesser_some true g h gs rest e = rest g e
lesser_some false g h gs rest e = rest h e

pub some_least : (h : Mistake) (gs : List Mistake) → least_of (Some h) gs ≡ None → ⊥
some_least h [] e = cc
some_least h (g ∷ gs) e = lesser_some (goes_before g h) g h gs (λ x. some_least x gs) e

pub least_none : (gs : List Mistake) → least_of None gs ≡ None → gs ≡ []
least_none [] e = refl
least_none (g ∷ gs) e = absurd (some_least g gs e)

abbrev key : Mistake → ℕ
key f = f.start * 32 + code_number f.code

small : (c : Code) → code_number c < 32
small BadCharacter = omega arith
small NumberTooLarge = omega arith
small UnexpectedToken = omega arith
small NestedTooDeep = omega arith
small DeclaredTwice = omega arith
small UnknownName = omega arith
small WrongType = omega arith
small WrongArgumentCount = omega arith
small NotAssignable = omega arith
small NeitherFinalNorProtected = omega arith
small ProtectedByNoLock = omega arith
small ProtectedByPassesNonFinal = omega arith
small UnstableBase = omega arith
small LockOrderCycle = omega arith
small LimitExceeded = omega arith
small FinalWithoutOpeningValue = omega arith
small InitOutOfRangeOrRepeated = omega arith
small MisplacedReturn = omega arith
small LockAsValue = omega arith
small RecursiveHelper = omega arith

before_true : (a b c d : ℕ) → c < 32 → d < 32 → (nat_lt a b || (a == b) && nat_lt c d) ≡ true → a * 32 + c < b * 32 + d
before_true a b c d lc ld e = grind (arith, nat_tests)

before_false : (a b c d : ℕ) → c < 32 → d < 32 → (nat_lt a b || (a == b) && nat_lt c d) ≡ false →
    b * 32 + d ≤ a * 32 + c
before_false a b c d lc ld e = grind (arith, nat_tests)

not_before : (b : Bool) (f g : Mistake) → goes_before g f ≡ b → key f ≤ key g → goes_before g f ≡ false
not_before true f g e le = let lt : key g < key f = before_true g.start f.start (code_number g.code) (code_number f.code) (small g.code) (small f.code) e in absurd (omega arith)
not_before false f g e le = e

least_step : (b : Bool) (f g h : Mistake) (gs : List Mistake) → goes_before g h ≡ b →
    ((x : Mistake) → least_of (Some x) gs ≡ Some f → key f ≤ key x) →
    least_of (if b then Some g else Some h) gs ≡ Some f → (key f ≤ key h) × (key f ≤ key g)
least_step true f g h gs e rest is =
    let lt : key g < key h = before_true g.start h.start (code_number g.code) (code_number h.code) (small g.code) (small h.code) e in
    let le : key f ≤ key g = rest g is in
    (omega arith, le)
least_step false f g h gs e rest is =
    let ge : key h ≤ key g = before_false g.start h.start (code_number g.code) (code_number h.code) (small g.code) (small h.code) e in
    let le : key f ≤ key h = rest h is in
    (le, omega arith)

least_first : (f h : Mistake) (gs : List Mistake) → least_of (Some h) gs ≡ Some f → key f ≤ key h
least_first f h [] e = let same : h ≡ f = cc in let k : key h ≡ key f = ap key same in omega arith
least_first f h (g ∷ gs) e = (least_step (goes_before g h) f g h gs refl (λ x. least_first f x gs) e).0

again_if : (b : Bool) (f g h x : Mistake) (gs : List Mistake) →
    ((y : Mistake) → least_of (Some y) gs ≡ Some f → key f ≤ key x) →
    least_of (if b then Some g else Some h) gs ≡ Some f → key f ≤ key x
again_if true f g h x gs rest e = rest g e
again_if false f g h x gs rest e = rest h e

least_of_all : (f h x : Mistake) (gs : List Mistake) → IsAmong x gs → least_of (Some h) gs ≡ Some f → key f ≤ key x
least_of_all f h x [] i e = absurd i
least_of_all f h x (g ∷ gs) (inl s) e =
    let le : key f ≤ key g = (least_step (goes_before g h) f g h gs refl (λ y. least_first f y gs) e).1 in
    let k : key x ≡ key g = ap key s in omega arith
least_of_all f h x (g ∷ gs) (inr i) e = again_if (goes_before g h) f g h x gs (λ y. least_of_all f y x gs i) e

pub none_before : (f x : Mistake) (gs : List Mistake) → IsAmong x gs → least_of None gs ≡ Some f →
    goes_before x f ≡ false
none_before f x [] i e = absurd i
none_before f x (g ∷ gs) (inl s) e =
    let le : key f ≤ key g = least_first f g gs e in
    let k : key x ≡ key g = ap key s in
    not_before (goes_before x f) f x refl (omega arith)
none_before f x (g ∷ gs) (inr i) e = not_before (goes_before x f) f x refl (least_of_all f g x gs i e)

-- ---- at most one is the least

-- the code of a number
abbrev code_of : ℕ → Code
code_of n =
    if n == 1 then BadCharacter else if n == 2 then NumberTooLarge else if n == 3 then UnexpectedToken else if n == 4 then NestedTooDeep
    else if n == 5 then DeclaredTwice else if n == 6 then UnknownName else if n == 7 then WrongType else if n == 8 then WrongArgumentCount
    else if n == 9 then NotAssignable else if n == 10 then NeitherFinalNorProtected else if n == 11 then ProtectedByNoLock else if n == 12 then ProtectedByPassesNonFinal
    else if n == 13 then UnstableBase else if n == 14 then LockOrderCycle else if n == 15 then LimitExceeded else if n == 16 then FinalWithoutOpeningValue
    else if n == 17 then InitOutOfRangeOrRepeated else if n == 18 then MisplacedReturn else if n == 19 then LockAsValue else RecursiveHelper

number_back : (c : Code) → code_of (code_number c) ≡ c
number_back BadCharacter = refl
number_back NumberTooLarge = refl
number_back UnexpectedToken = refl
number_back NestedTooDeep = refl
number_back DeclaredTwice = refl
number_back UnknownName = refl
number_back WrongType = refl
number_back WrongArgumentCount = refl
number_back NotAssignable = refl
number_back NeitherFinalNorProtected = refl
number_back ProtectedByNoLock = refl
number_back ProtectedByPassesNonFinal = refl
number_back UnstableBase = refl
number_back LockOrderCycle = refl
number_back LimitExceeded = refl
number_back FinalWithoutOpeningValue = refl
number_back InitOutOfRangeOrRepeated = refl
number_back MisplacedReturn = refl
number_back LockAsValue = refl
number_back RecursiveHelper = refl

same_start : (a b c d : ℕ) → c < 32 → d < 32 → a * 32 + c ≡ b * 32 + d → a ≡ b
same_start a b c d lc ld e = omega (arith, lc, ld, e)

pub neither_before : (f g : Mistake) → goes_before f g ≡ false → goes_before g f ≡ false → f ≡ g
neither_before f g a b =
    let up = before_false f.start g.start (code_number f.code) (code_number g.code) (small f.code) (small g.code) a in
    let down = before_false g.start f.start (code_number g.code) (code_number f.code) (small g.code) (small f.code) b in
    let keys : f.start * 32 + code_number f.code ≡ g.start * 32 + code_number g.code = omega (arith, up, down) in
    let start = same_start f.start g.start (code_number f.code) (code_number g.code) (small f.code) (small g.code) keys in
    let number : code_number f.code ≡ code_number g.code = omega (arith, keys, start) in
    let code : f.code ≡ g.code = sym (number_back f.code) ∙ ap code_of number ∙ number_back g.code in
    subst (λ (s : ℕ). f ≡ record { code = g.code; start = s }) start (subst (λ (c : Code). f ≡ record { code = c; start = f.start }) code refl)
