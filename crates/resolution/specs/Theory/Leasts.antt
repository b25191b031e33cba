-- Lists of faults with their reasons: whether a fault is in a list, by code and place or with its reason, and the least
-- fault.
use Rattle.std.proofs.Common.{◌≡◌, ℕ, ◌==◌, ◌||◌, ◌&&◌, nat_lt, arith, ◌⊎◌, List, [], ◌∷◌, ◌++◌, map, Option, Some, None, Bool, true, false, inl, inr, refl, sym, ap}
use Rattle.std.proofs.Common.{◌∙◌, subst, if◌then◌else◌}
use Rattle.std.specs.Option.{option_map}
use Rattle.std.proofs.lemmas.Bool.Decides.{nat_tests}
use Rattle.source.specs.declared.mistake.Mistake.{Mistake}
use Rattle.source.specs.Mistakes.{code_number, goes_before}
use Rattle.source.specs.Mistakes as bare
use Rattle.source.specs.Theory.Leasts as bare_lists
use Rattle.resolution.specs.declared.finding.Finding.{Finding}
use Rattle.resolution.specs.Working.Findings.{mistake_of, plain, goes_ahead, lesser, least_of, Firsts, with_found, found_in}
pub use Rattle.resolution.specs.Working.Findings.{IsAmong, IsOneOf}

pub least_append : (f : Option Finding) (a b : List Finding) → least_of f (a ++ b) ≡ least_of (least_of f a) b
least_append f [] b = refl
least_append f (g ∷ a) b = least_append (lesser f g) a b

pub found_append : (s : Firsts) (a b : List Finding) → found_in s (a ++ b) ≡ found_in (found_in s a) b
found_append s [] b = refl
found_append s (g ∷ a) b = found_append (with_found s g) a b

-- ---- with the reason

lesser_in : (b : Bool) (f g h : Finding) (gs : List Finding) →
    ((x : Finding) → least_of (Some x) gs ≡ Some f → (f ≡ x) ⊎ IsOneOf f gs) →
    least_of (if b then Some g else Some h) gs ≡ Some f → (f ≡ h) ⊎ IsOneOf f (g ∷ gs)
lesser_in true f g h gs rest e = elim (rest g e) [ inl s ↦ inr (inl s) | inr i ↦ inr (inr i) ]
lesser_in false f g h gs rest e = elim (rest h e) [ inl s ↦ inl s | inr i ↦ inr (inr i) ]

least_one : (f h : Finding) (gs : List Finding) → least_of (Some h) gs ≡ Some f → (f ≡ h) ⊎ IsOneOf f gs
least_one f h [] e = inl cc
least_one f h (g ∷ gs) e = lesser_in (goes_ahead g h) f g h gs (λ x. least_one f x gs) e

pub least_in : (f : Finding) (gs : List Finding) → least_of None gs ≡ Some f → IsOneOf f gs
least_in f [] e = cc
least_in f (g ∷ gs) e = least_one f g gs e

pub one_of_either : (f : Finding) (a b : List Finding) → IsOneOf f (a ++ b) → IsOneOf f a ⊎ IsOneOf f b
one_of_either f [] b i = inr i
one_of_either f (g ∷ a) b (inl e) = inl (inl e)
one_of_either f (g ∷ a) b (inr i) = elim (one_of_either f a b i) [ inl l ↦ inl (inr l) | inr r ↦ inr r ]

lesser_some : (b : Bool) (g h : Finding) (gs : List Finding) → ((x : Finding) → least_of (Some x) gs ≡ None → ⊥) →
    least_of (if b then Some g else Some h) gs ≡ None → ⊥
lesser_some true g h gs rest e = rest g e
lesser_some false g h gs rest e = rest h e

pub some_least : (h : Finding) (gs : List Finding) → least_of (Some h) gs ≡ None → ⊥
some_least h [] e = cc
some_least h (g ∷ gs) e = lesser_some (goes_ahead g h) g h gs (λ x. some_least x gs) e

-- ---- by code and place

pub among_left : (f : Mistake) (a b : List Finding) → IsAmong f a → IsAmong f (a ++ b)
among_left f [] b i = absurd i
among_left f (g ∷ a) b (inl e) = inl e
among_left f (g ∷ a) b (inr i) = inr (among_left f a b i)

pub among_right : (f : Mistake) (a b : List Finding) → IsAmong f b → IsAmong f (a ++ b)
among_right f [] b i = i
among_right f (g ∷ a) b i = inr (among_right f a b i)

pub among_either : (f : Mistake) (a b : List Finding) → IsAmong f (a ++ b) → IsAmong f a ⊎ IsAmong f b
among_either f [] b i = inr i
among_either f (g ∷ a) b (inl e) = inl (inl e)
among_either f (g ∷ a) b (inr i) = elim (among_either f a b i) [ inl l ↦ inl (inr l) | inr r ↦ inr r ]

pub among_bare : (f : Mistake) (gs : List Finding) → IsAmong f gs → bare_lists.IsAmong f (map mistake_of gs)
among_bare f [] i = absurd i
among_bare f (g ∷ gs) (inl e) = inl e
among_bare f (g ∷ gs) (inr i) = inr (among_bare f gs i)

-- ---- the least is that of the codes and places

lesser_bare : (b : Bool) (g h : Finding) → option_map mistake_of (if b then Some g else Some h) ≡ (if b then Some (mistake_of g) else Some (mistake_of h))
lesser_bare true g h = refl
lesser_bare false g h = refl

lessers : (f : Option Finding) (g : Finding) → option_map mistake_of (lesser f g) ≡ bare.lesser (option_map mistake_of f) (mistake_of g)
lessers None g = refl
lessers (Some f) g = lesser_bare (goes_ahead g f) g f

pub least_bare : (f : Option Finding) (gs : List Finding) →
    option_map mistake_of (least_of f gs) ≡ bare.least_of (option_map mistake_of f) (map mistake_of gs)
least_bare f [] = refl
least_bare f (g ∷ gs) = least_bare (lesser f g) gs ∙ ap (λ (o : Option Mistake). bare.least_of o (map mistake_of gs)) (lessers f g)

pub none_before : (f : Finding) (x : Mistake) (gs : List Finding) → IsAmong x gs → least_of None gs ≡ Some f →
    goes_before x (mistake_of f) ≡ false
none_before f x gs i e =
    bare_lists.none_before (mistake_of f) x (map mistake_of gs) (among_bare x gs i) (sym (least_bare None gs) ∙ ap (option_map mistake_of) e)

none_of : (gs : List Finding) → map mistake_of gs ≡ [] → gs ≡ []
none_of [] e = refl
none_of (g ∷ gs) e = cc

pub least_none : (gs : List Finding) → least_of None gs ≡ None → gs ≡ []
least_none gs e = none_of gs (bare_lists.least_none (map mistake_of gs) (sym (least_bare None gs) ∙ ap (option_map mistake_of) e))

-- ---- the least of faults without reasons is noted as one

-- the least of a fault, if one is given, and of another without a reason
abbrev pub noted : Option Finding → Option Mistake → Option Finding
noted f None = f
noted f (Some m) = lesser f (plain m)

pub code_less : (a b c d e g : ℕ) → (nat_lt a b || (a == b) && nat_lt c d) ≡ true → (nat_lt b e || (b == e) && nat_lt d g) ≡ true →
    (nat_lt a e || (a == e) && nat_lt c g) ≡ true
code_less a b c d e g p q = grind (arith, nat_tests)

pub code_more : (a b c d e g : ℕ) → (nat_lt a b || (a == b) && nat_lt c d) ≡ false → (nat_lt b e || (b == e) && nat_lt d g) ≡ false →
    (nat_lt a e || (a == e) && nat_lt c g) ≡ false
code_more a b c d e g p q = grind (arith, nat_tests)

lesser_twice : (f a b : Finding) (x y z : Bool) → goes_ahead a f ≡ x → goes_ahead b a ≡ y → goes_ahead b f ≡ z →
    lesser (if x then Some a else Some f) b ≡ (if y then (if z then Some b else Some f) else (if x then Some a else Some f))
lesser_twice f a b true true true p q r = ap (λ (t : Bool). if t then Some b else Some a) q
lesser_twice f a b true true false p q r =
    let t = code_less b.start a.start (code_number b.code) (code_number a.code) f.start (code_number f.code) q p in
    cc
lesser_twice f a b true false z p q r = ap (λ (t : Bool). if t then Some b else Some a) q
lesser_twice f a b false true true p q r = ap (λ (t : Bool). if t then Some b else Some f) r
lesser_twice f a b false true false p q r = ap (λ (t : Bool). if t then Some b else Some f) r
lesser_twice f a b false false true p q r =
    let t = code_more b.start a.start (code_number b.code) (code_number a.code) f.start (code_number f.code) q p in
    cc
lesser_twice f a b false false false p q r = ap (λ (t : Bool). if t then Some b else Some f) r

chosen : (f a b : Finding) (x y z : Bool) → goes_ahead a f ≡ x → goes_ahead b a ≡ y → goes_ahead b f ≡ z →
    lesser (Some f) (if y then b else a) ≡ (if y then (if z then Some b else Some f) else (if x then Some a else Some f))
chosen f a b x true z p q r = ap (λ (t : Bool). if t then Some b else Some f) r
chosen f a b x false z p q r = ap (λ (t : Bool). if t then Some a else Some f) p

none_twice : (a b : Finding) (y : Bool) → (if y then Some b else Some a) ≡ Some (if y then b else a)
none_twice a b true = refl
none_twice a b false = refl

-- of two faults, the lesser can be noted alone
lesser_alone : (f : Option Finding) (a b : Finding) → lesser (lesser f a) b ≡ lesser f (if goes_ahead b a then b else a)
lesser_alone None a b = none_twice a b (goes_ahead b a)
lesser_alone (Some f) a b =
    lesser_twice f a b (goes_ahead a f) (goes_ahead b a) (goes_ahead b f) refl refl refl
    ∙ sym (chosen f a b (goes_ahead a f) (goes_ahead b a) (goes_ahead b f) refl refl refl)

plain_if : (y : Bool) (m g : Mistake) → (if y then plain g else plain m) ≡ plain (if y then g else m)
plain_if true m g = refl
plain_if false m g = refl

some_if : (y : Bool) (m g : Mistake) → (if y then Some g else Some m) ≡ Some (if y then g else m)
some_if true m g = refl
some_if false m g = refl

least_from : (f : Option Finding) (m : Mistake) (gs : List Mistake) →
    least_of (lesser f (plain m)) (map plain gs) ≡ noted f (bare.least_of (Some m) gs)
least_from f m [] = refl
least_from f m (g ∷ gs) =
    ap (λ (o : Option Finding). least_of o (map plain gs)) (lesser_alone f (plain m) (plain g) ∙ ap (lesser f) (plain_if (goes_before g m) m g))
    ∙ least_from f (if goes_before g m then g else m) gs
    ∙ ap (λ (o : Option Mistake). noted f (bare.least_of o gs)) (sym (some_if (goes_before g m) m g))

pub least_plain : (f : Option Finding) (gs : List Mistake) →
    least_of f (map plain gs) ≡ noted f (bare.least_of None gs)
least_plain f [] = refl
least_plain f (g ∷ gs) = least_from f g gs
