-- The faults of a list.
use Rattle.std.proofs.Common.{◌≡◌, ℕ, List, ◌++◌, Bool, true, false, inl, inr, refl, sym, subst}
use Rattle.source.specs.declared.fault.Code.{Code}
use Rattle.source.specs.declared.mistake.Mistake.{Mistake}
use Rattle.syntax.specs.Trees.{Decl}
use Rattle.resolution.specs.declared.finding.Finding.{Finding}
use Rattle.resolution.specs.declared.why.Why.{Why}
use Rattle.resolution.specs.Working.Findings.{told, found_if}
use Rattle.resolution.specs.Theory.Leasts.{IsAmong, IsOneOf, one_of_either, among_either}
use Rattle.resolution.specs.Working.FaultLists.{reasoned, one, one_if}
use Rattle.resolution.specs.Faults.{IsFault, IsPlain, IsFaultFor, plainly}

abbrev pub IsTrue_of : List Decl → Finding → Type 0
IsTrue_of decls f = IsFaultFor decls f.code f.start f.why

-- a fault of either list is a true one
pub both : {P : Type 0} (f : Finding) (a b : List Finding) → (IsOneOf f a → P) → (IsOneOf f b → P) →
    IsOneOf f (a ++ b) → P
both f a b p q i = elim (one_of_either f a b i) [ inl i ↦ p i | inr i ↦ q i ]

-- one of this code and place
pub among_both : {P : Type 0} (f : Mistake) (a b : List Finding) → (IsAmong f a → P) → (IsAmong f b → P) →
    IsAmong f (a ++ b) → P
among_both f a b p q i = elim (among_either f a b i) [ inl i ↦ p i | inr i ↦ q i ]

pub of_reason : (decls : List Decl) (c : Code) (p : ℕ) {w : Why} (f : Finding) → IsFaultFor decls c p w →
    IsOneOf f (reasoned c p w) → IsTrue_of decls f
of_reason decls c p f h (inl e) = subst (IsTrue_of decls) (sym e) h
of_reason decls c p f h (inr i) = absurd i

pub of_reason_if : (decls : List Decl) (b : Bool) (c : Code) (p : ℕ) {w : Why} (f : Finding) →
    (b ≡ true → IsFaultFor decls c p w) → IsOneOf f (found_if b (told c p w)) → IsTrue_of decls f
of_reason_if decls true c p {w = w} f h i = of_reason decls c p {w = w} f (h refl) i
of_reason_if decls false c p f h i = absurd i

-- of one that its code says all of
pub of_one : (decls : List Decl) (c : Code) → IsPlain c → (p : ℕ) (f : Finding) → IsFault decls c p →
    IsOneOf f (one c p) → IsTrue_of decls f
of_one decls c is_plain p f h i = of_reason decls c p f (plainly is_plain h) i

pub of_if : (decls : List Decl) (b : Bool) (c : Code) → IsPlain c → (p : ℕ) (f : Finding) →
    (b ≡ true → IsFault decls c p) → IsOneOf f (one_if b c p) → IsTrue_of decls f
of_if decls b c is_plain p f h i = of_reason_if decls b c p f (λ e. plainly is_plain (h e)) i

-- the fault of this code and place is in the list of it alone
pub at : (c : Code) (p : ℕ) {w : Why} (fs : List Finding) → fs ≡ reasoned c p w → IsAmong (record { code = c; start = p }) fs
at c p fs e = subst (IsAmong (record { code = c; start = p })) (sym e) (inl refl)

pub at_if : (b : Bool) (c : Code) (p : ℕ) → b ≡ true → IsAmong (record { code = c; start = p }) (one_if b c p)
at_if true c p e = inl refl
at_if false c p e = cc
