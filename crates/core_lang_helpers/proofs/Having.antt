-- The items of lists and rows.
use Rattle.std.proofs.Common.{◌≡◌, ◌≢◌, ℕ, zero, suc, ◌<◌, List, [], ◌∷◌, ◌++◌, ◌⊎◌, length, get_or, set, inl, inr}
use Rattle.std.proofs.Common.{refl, sym, ap, subst, Vec, Global, arith}
use Rattle.std.specs.Prelude.{slice_get, Option, Some, None, MatchOption}
use Rattle.std.proofs.lemmas.Option.{slice_get_read}
use Rattle.core_lang_helpers.specs.declared.graph.CallSite.{CallSite}
use Rattle.core_lang_helpers.specs.declared.graph.CallerBody as code
use Rattle.core_lang_helpers.specs.Graphs.{body_of, bodies_of}
use Rattle.core_lang_helpers.specs.Recursion.{HasCall}
use Rattle.core_lang_helpers.specs.Depths.{CallsOnly}
use Rattle.core_lang_helpers.specs.Working.Tables.{Has, row_of, row_at}

-- ---- a list with one more

pub has_push : (xs : List ℕ) (x y : ℕ) → Has xs y → Has (xs ++ x ∷ []) y
has_push [] x y h = absurd h
has_push (z ∷ zs) x y (inl e) = inl e
has_push (z ∷ zs) x y (inr h) = inr (has_push zs x y h)

pub has_last : (xs : List ℕ) (x : ℕ) → Has (xs ++ x ∷ []) x
has_last [] x = inl refl
has_last (z ∷ zs) x = inr (has_last zs x)

pub has_either : (xs : List ℕ) (x y : ℕ) → Has (xs ++ x ∷ []) y → Has xs y ⊎ (x ≡ y)
has_either [] x y (inl e) = inr e
has_either [] x y (inr h) = absurd h
has_either (z ∷ zs) x y (inl e) = inl (inl e)
has_either (z ∷ zs) x y (inr h) = elim (has_either zs x y h) [ inl l ↦ inl (inr l) | inr r ↦ inr r ]

pub call_push : (cs : List CallSite) (c : CallSite) (g : ℕ) → HasCall cs g → HasCall (cs ++ c ∷ []) g
call_push [] c g h = absurd h
call_push (x ∷ cs) c g (inl e) = inl e
call_push (x ∷ cs) c g (inr h) = inr (call_push cs c g h)

pub call_last : (cs : List CallSite) (c : CallSite) → HasCall (cs ++ c ∷ []) c.helper
call_last [] c = inl refl
call_last (x ∷ cs) c = inr (call_last cs c)

pub call_either : (cs : List CallSite) (c : CallSite) (g : ℕ) → HasCall (cs ++ c ∷ []) g →
    HasCall cs g ⊎ (c.helper ≡ g)
call_either [] c g (inl e) = inr e
call_either [] c g (inr h) = absurd h
call_either (x ∷ cs) c g (inl e) = inl (inl e)
call_either (x ∷ cs) c g (inr h) = elim (call_either cs c g h) [ inl l ↦ inl (inr l) | inr r ↦ inr r ]

-- a call that is there
pub call_at : (cs : List CallSite) (i : ℕ) (d : CallSite) → i < length cs → HasCall cs (get_or cs i d).helper
call_at [] i d lt = absurd (omega (arith, lt))
call_at (c ∷ cs) zero d lt = inl refl
call_at (c ∷ cs) (suc i) d lt = inr (call_at cs i d (omega (arith, lt)))

-- ---- calls that are all of such helpers

pub only_push : (P : ℕ → Type 0) (cs : List CallSite) (c : CallSite) → CallsOnly P cs → P c.helper →
    CallsOnly P (cs ++ c ∷ [])
only_push P [] c only p = (p, tt)
only_push P (x ∷ cs) c only p = (only.0, only_push P cs c only.1 p)

pub only_at : (P : ℕ → Type 0) (cs : List CallSite) (g : ℕ) → CallsOnly P cs → HasCall cs g → P g
only_at P [] g only h = absurd h
only_at P (c ∷ cs) g only (inl e) = subst P e only.0
only_at P (c ∷ cs) g only (inr h) = only_at P cs g only.1 h

-- ---- rows

pub row_read : (rows : List (Vec ℕ Global)) (g : ℕ) (row : Vec ℕ Global) → g < length rows → row ≡ get_or rows g row →
    row_at rows g ≡ row.items
row_read rows g row lt is = ap row_of (slice_get_read rows (length rows) g row refl lt is)

pub row_same : (rows : List (Vec ℕ Global)) (g : ℕ) (row : Vec ℕ Global) → g < length rows →
    row_at (set rows g row) g ≡ row.items
row_same [] g row lt = absurd (omega (arith, lt))
row_same (x ∷ xs) zero row lt = refl
row_same (x ∷ xs) (suc g) row lt = row_same xs g row (omega (arith, lt))

pub row_other : (rows : List (Vec ℕ Global)) (g h : ℕ) (row : Vec ℕ Global) → h ≢ g →
    row_at (set rows g row) h ≡ row_at rows h
row_other [] g h row ne = refl
row_other (x ∷ xs) zero zero row ne = absurd (ne refl)
row_other (x ∷ xs) zero (suc h) row ne = refl
row_other (x ∷ xs) (suc g) zero row ne = refl
row_other (x ∷ xs) (suc g) (suc h) row ne = row_other xs g h row (λ e. ne (ap suc e))

-- the case of an option without a value
pub none_match : {X : Type 0} (o : Option X) (P : Type 0) (Q : X → Type 0) → ((x : X) → o ≡ Some x → ⊥) → MatchOption o P Q → P
none_match None P Q none m = m
none_match (Some x) P Q none m = absurd (none x refl)

-- ---- helpers of the code

pub body_at : (bs : List code.CallerBody) (i : ℕ) (b : code.CallerBody) → i < length bs → b ≡ get_or bs i b →
    slice_get (bodies_of bs) i ≡ Some (body_of b)
body_at [] i b lt is = absurd (omega (arith, lt))
body_at (x ∷ xs) zero b lt is = ap (λ (y : code.CallerBody). Some (body_of y)) (sym is)
body_at (x ∷ xs) (suc i) b lt is = body_at xs i b (omega (arith, lt)) is

pub has_at : (xs : List ℕ) (i d : ℕ) → i < length xs → Has xs (get_or xs i d)
has_at [] i d lt = absurd (omega (arith, lt))
has_at (x ∷ xs) zero d lt = inl refl
has_at (x ∷ xs) (suc i) d lt = inr (has_at xs i d (omega (arith, lt)))
