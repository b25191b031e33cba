-- Faults that are noted one after another.
use Rattle.std.proofs.Common.{◌≡◌, ℕ, zero, suc, ◌+◌, ◌<◌, ◌≤◌, Bool, true, false, ◌&&◌, List, [], ◌∷◌, ◌++◌, length}
use Rattle.std.proofs.Common.{get_or, take, drop, map, Option, inl, inr, refl, sym, ap, ◌∙◌, append_assoc, append-nil}
use Rattle.std.proofs.Common.{arith}
use Rattle.std.specs.Prelude.{nat_lt, nat_le, not, ◌||◌, if◌then◌else◌, Some, None}
use Rattle.std.specs.List.{flat_map, sum_by}
use Rattle.std.proofs.lemmas.Bool.{cases_lt, lt-ltb, le-ltb}
use Rattle.std.proofs.lemmas.Bool.Decides.{nat_tests}
use Rattle.std.proofs.lemmas.List.{drop_more, length-take-le, length-map, take-map}
use Rattle.std.proofs.lemmas.List.Concat.{flat_map-append}
use Rattle.std.proofs.lemmas.List.Sums.{sum_by_more}
use Rattle.source.specs.declared.fault.Code.{Code}
use Rattle.source.specs.declared.fault.Code.TheVariants.{LimitExceeded, RecursiveHelper}
use Rattle.source.specs.declared.mistake.Mistake.{Mistake}
use Rattle.source.specs.Mistakes.{lesser, least_of}
use Rattle.source.specs.Theory.Leasts.{least_append}
use Rattle.core_lang_helpers.specs.declared.graph.CallSite.{CallSite}
use Rattle.core_lang_helpers.specs.declared.extents.Extent.{Extent}
use Rattle.core_lang_helpers.specs.Graphs.{Body}
use Rattle.core_lang_helpers.specs.Depths.{depth}
use Rattle.core_lang_helpers.specs.Counts.{brought_locals, brought_points}
use Rattle.core_lang_helpers.specs.Faults.{DEPTH_LIMIT, LOCAL_LIMIT, POINT_LIMIT}
use Rattle.core_lang_helpers.specs.Working.Tables.{up_to, is_marked, extent_at, is_deep_by, IsExtentOf, IsExtents}
use Rattle.core_lang_helpers.specs.Working.FaultLists.{told_if, leads_back, recursion_faults, is_too_deep}
use Rattle.core_lang_helpers.specs.Working.FaultLists.{marked_faults, is_new, any_new}
use Rattle.core_lang_helpers.specs.Working.FaultLists.{helper_faults, helpers_faults, first_too_many, call_faults}
use Rattle.core_lang_helpers.proofs.Extending.{taken}

-- the noted fault, if a test is passed
pub noted : (b : Bool) (code : Code) (start : ℕ) (old new : Option Mistake) → b ≡ true →
    new ≡ lesser old (record { code = code; start = start }) →
    new ≡ least_of old (told_if b code start)
noted b code start old new passes is = is ∙ ap (λ (t : Bool). least_of old (told_if t code start)) (sym passes)

pub not_noted : (b : Bool) (code : Code) (start : ℕ) (old : Option Mistake) → b ≡ false →
    old ≡ least_of old (told_if b code start)
not_noted b code start old fails = ap (λ (t : Bool). least_of old (told_if t code start)) (sym fails)

-- ---- one more of a list

pub flat_next : {X : Type 0} (faults : X →
    List Mistake) (xs : List X) (i : ℕ) (x : X) (start old new : Option Mistake) → i < length xs → x ≡ get_or xs i x →
    old ≡ least_of start (flat_map faults (take i xs)) → new ≡ least_of old (faults x) → new ≡ least_of start (flat_map faults (take (i + 1) xs))
flat_next faults xs i x start old new lt is before step =
    step ∙ ap (λ (f : Option Mistake). least_of f (faults x)) before ∙ sym (least_append start (flat_map faults (take i xs)) (faults x))
    ∙ ap (least_of start) (sym (
    ap (flat_map faults) (taken xs i x lt is) ∙ flat_map-append faults (take i xs) (x ∷ [])
    ∙ ap (λ (l : List Mistake). flat_map faults (take i xs) ++ l) (append-nil (faults x))))

helpers_push : (all : List Body) (f : ℕ) (bs : List Body) (b : Body) →
    helpers_faults all f (bs ++ b ∷ []) ≡ helpers_faults all f bs ++ helper_faults all (f + length bs) b
helpers_push all f [] b =
    append-nil (helper_faults all f b) ∙ ap (λ (n : ℕ). helper_faults all n b) (let e : f ≡ f + 0 = omega arith in e)
helpers_push all f (x ∷ bs) b =
    ap (λ (l : List Mistake). helper_faults all f x ++ l) (helpers_push all (f + 1) bs b)
    ∙ sym (append_assoc (helper_faults all f x) (helpers_faults all (f + 1) bs) (helper_faults all (f + 1 + length bs) b))
    ∙ ap (λ (n : ℕ). helper_faults all f x ++ helpers_faults all (f + 1) bs ++ helper_faults all n b) (let e : f + 1 + length bs ≡ f + suc (length bs) = omega arith in e)

pub helper_next : (all bs : List Body) (i : ℕ) (b : Body) (start old new : Option Mistake) → i < length bs →
    b ≡ get_or bs i b →
    old ≡ least_of start (helpers_faults all 0 (take i bs)) → new ≡ least_of old (helper_faults all i b) → new ≡ least_of start (helpers_faults all 0 (take (i + 1) bs))
helper_next all bs i b start old new lt is before step =
    let here : length (take i bs) ≡ i = length-take-le i bs (omega (arith, lt)) in
    let number : 0 + length (take i bs) ≡ i = omega (arith, here) in
    step ∙ ap (λ (f : Option Mistake). least_of f (helper_faults all i b)) before
    ∙ sym (least_append start (helpers_faults all 0 (take i bs)) (helper_faults all i b))
    ∙ ap (least_of start) (sym (
    ap (helpers_faults all 0) (taken bs i b lt is) ∙ helpers_push all 0 (take i bs) b
    ∙ ap (λ (n : ℕ). helpers_faults all 0 (take i bs) ++ helper_faults all n b) number))

-- ---- counts no further than one past a limit tell the same

pub lt_up : (n limit d : ℕ) → n ≤ limit → nat_lt n (up_to limit d) ≡ nat_lt n d
lt_up n limit d le = elim (cases_lt n d) [
  | inl lt ↦ lt-ltb n (up_to limit d) (omega (arith, lt, le)) ∙ sym (lt-ltb n d lt)
  | inr ge ↦ le-ltb n (up_to limit d) (omega (arith, ge)) ∙ sym (le-ltb n d ge)
]

-- the test as the code makes it
pub first_is : (limit before more : ℕ) →
    (nat_le before limit && nat_lt limit (up_to limit (before + more))) ≡ first_too_many limit before more
first_is limit before more = ap (λ (t : Bool). nat_le before limit && t) (lt_up limit limit (before + more) (omega arith))

same_le : (limit a b : ℕ) → up_to limit a ≡ up_to limit b → nat_le a limit ≡ nat_le b limit
same_le limit a b same = grind (arith, nat_tests)

same_lt : (limit a b x y : ℕ) → up_to limit a ≡ up_to limit b → up_to limit x ≡ up_to limit y →
    nat_lt limit (a + x) ≡ nat_lt limit (b + y)
same_lt limit a b x y p q = elim (cases_lt limit (a + x)) [
  | inl lt ↦ lt-ltb limit (a + x) lt ∙ sym (lt-ltb limit (b + y) (omega (arith, lt, p, q)))
  | inr ge ↦ le-ltb limit (a + x) ge ∙ sym (le-ltb limit (b + y) (omega (arith, ge, p, q)))
]

pub first_same : (limit a b x y : ℕ) → up_to limit a ≡ up_to limit b → up_to limit x ≡ up_to limit y →
    first_too_many limit a x ≡ first_too_many limit b y
first_same limit a b x y p q =
    ap (λ (t : Bool). t && nat_lt limit (a + x)) (same_le limit a b p) ∙ ap (λ (t : Bool). nat_le b limit && t) (same_lt limit a b x y p q)

-- ---- the calls of a section

-- the least fault of the first calls and of the remaining ones is that of all
abbrev pub NotedSo : List Body → Body → Option Mistake → Option Mistake → ℕ → Type 0
NotedSo helpers b start old i =
    least_of old (call_faults helpers (b.locals + sum_by (brought_locals helpers) (take i b.calls)) (sum_by (brought_points helpers) (take i b.calls)) (drop i b.calls))
    ≡ least_of start (call_faults helpers b.locals 0 b.calls)

pub call_next : (helpers : List Body) (b : Body) (start old middle new : Option Mistake) (i : ℕ) (c : CallSite) (locals points more_locals more_points : ℕ) →
    i < length b.calls → c ≡ get_or b.calls i c → NotedSo helpers b start old i →
    locals ≡ up_to LOCAL_LIMIT (b.locals + sum_by (brought_locals helpers) (take i b.calls)) → more_locals ≡ up_to LOCAL_LIMIT (brought_locals helpers c) →
    points ≡ up_to POINT_LIMIT (sum_by (brought_points helpers) (take i b.calls)) → more_points ≡ up_to POINT_LIMIT (brought_points helpers c) →
    middle ≡ least_of old (told_if (first_too_many LOCAL_LIMIT locals more_locals) LimitExceeded c.start) →
    new ≡ least_of middle (told_if (first_too_many POINT_LIMIT points more_points) LimitExceeded c.start) →
    NotedSo helpers b start new (i + 1)
call_next helpers b start old middle new i c locals points more_locals more_points lt is before l_is ml_is p_is mp_is first second =
    let l : ℕ = b.locals + sum_by (brought_locals helpers) (take i b.calls) in
    let p : ℕ = sum_by (brought_points helpers) (take i b.calls) in
    let one : List Mistake = told_if (first_too_many LOCAL_LIMIT l (brought_locals helpers c)) LimitExceeded c.start in
    let two : List Mistake = told_if (first_too_many POINT_LIMIT p (brought_points helpers c)) LimitExceeded c.start in
    let rest : List Mistake = call_faults helpers (l + brought_locals helpers c) (p + brought_points helpers c) (drop (i + 1) b.calls) in
    let l_next : b.locals + sum_by (brought_locals helpers) (take (i + 1) b.calls) ≡ l + brought_locals helpers c =
    let more = sum_by_more (brought_locals helpers) b.calls i c lt in
    let same : brought_locals helpers (get_or b.calls i c) ≡ brought_locals helpers c = ap (brought_locals helpers) (sym is) in
    omega (arith, more, same) in
    let p_next : sum_by (brought_points helpers) (take (i + 1) b.calls) ≡ p + brought_points helpers c =
    let more = sum_by_more (brought_points helpers) b.calls i c lt in
    let same : brought_points helpers (get_or b.calls i c) ≡ brought_points helpers c = ap (brought_points helpers) (sym is) in
    omega (arith, more, same) in
    let up_l : up_to LOCAL_LIMIT locals ≡ up_to LOCAL_LIMIT l = omega (arith, l_is) in
    let up_p : up_to POINT_LIMIT points ≡ up_to POINT_LIMIT p = omega (arith, p_is) in
    let up_ml : up_to LOCAL_LIMIT more_locals ≡ up_to LOCAL_LIMIT (brought_locals helpers c) = omega (arith, ml_is) in
    let up_mp : up_to POINT_LIMIT more_points ≡ up_to POINT_LIMIT (brought_points helpers c) = omega (arith, mp_is) in
    let test_l = first_same LOCAL_LIMIT locals l more_locals (brought_locals helpers c) up_l up_ml in
    let test_p = first_same POINT_LIMIT points p more_points (brought_points helpers c) up_p up_mp in
    let to_middle : middle ≡ least_of old one = first ∙ ap (λ (t : Bool). least_of old (told_if t LimitExceeded c.start)) test_l in
    let to_new : new ≡ least_of (least_of old one) two =
    second ∙ ap (λ (t : Bool). least_of middle (told_if t LimitExceeded c.start)) test_p ∙ ap (λ (f : Option Mistake). least_of f two) to_middle in
    ap (λ (n : ℕ). least_of new (call_faults helpers n (sum_by (brought_points helpers) (take (i + 1) b.calls)) (drop (i + 1) b.calls))) l_next
    ∙ ap (λ (n : ℕ). least_of new (call_faults helpers (l + brought_locals helpers c) n (drop (i + 1) b.calls))) p_next
    ∙ ap (λ (f : Option Mistake). least_of f rest) to_new
    ∙ sym (least_append (least_of old one) two rest) ∙ sym (least_append old one (two ++ rest))
    ∙ ap (least_of old) (sym (append_assoc one two rest))
    ∙ ap (λ (cs : List CallSite). least_of old (call_faults helpers l p cs))
    (sym (drop_more b.calls i c lt ∙ ap (λ (x : CallSite). x ∷ drop (i + 1) b.calls) (sym is)))
    ∙ before

-- ---- as the code goes over calls, helpers and sections

pub mark_noted : (marks : List Bool) (cs : List CallSite) (i : ℕ) (c : CallSite) (start old new : Option Mistake) → i < length cs →
    c ≡ get_or cs i c → old ≡ least_of start (flat_map (marked_faults marks) (take i cs)) → is_marked marks c.helper ≡ true →
    new ≡ lesser old (record { code = RecursiveHelper; start = c.start }) → new ≡ least_of start (flat_map (marked_faults marks) (take (i + 1) cs))
mark_noted marks cs i c start old new lt at before marked is =
    flat_next (marked_faults marks) cs i c start old new lt at before (noted (is_marked marks c.helper) RecursiveHelper c.start old new marked is)

pub mark_passed : (marks : List Bool) (cs : List CallSite) (i : ℕ) (c : CallSite) (start old new : Option Mistake) → i < length cs →
    c ≡ get_or cs i c → old ≡ least_of start (flat_map (marked_faults marks) (take i cs)) → is_marked marks c.helper ≡ false →
    new ≡ old → new ≡ least_of start (flat_map (marked_faults marks) (take (i + 1) cs))
mark_passed marks cs i c start old new lt at before fails is =
    flat_next (marked_faults marks) cs i c start old new lt at before (is ∙ not_noted (is_marked marks c.helper) RecursiveHelper c.start old fails)

pub both_false : (a b : Bool) → a ≡ false → b ≡ false → (a || b) ≡ false
both_false a b p q = ap (λ (t : Bool). t || b) p ∙ q

-- if no fault would be kept, nothing changes
none_kept : (least : Option Mistake) (c : CallSite) (b : Bool) → is_new least c ≡ false →
    least ≡ least_of least (told_if b RecursiveHelper c.start)
none_kept None c b old = absurd cc
none_kept (Some kept) c true old =
    ap (λ (t : Bool). if t then Some (record { code = RecursiveHelper; start = c.start }) else Some kept) (sym old)
none_kept (Some kept) c false old = refl

pub none_new : (helpers : List Body) (f : ℕ) (least : Option Mistake) (cs : List CallSite) → any_new least cs ≡ false →
    least ≡ least_of least (flat_map (recursion_faults helpers f) cs)
none_new helpers f least [] old = refl
none_new helpers f least (c ∷ cs) old =
    let parts : (is_new least c ≡ false) × (any_new least cs ≡ false) = or_parts (is_new least c) (any_new least cs) old in
    none_new helpers f least cs parts.1
    ∙ ap (λ (o : Option Mistake). least_of o (flat_map (recursion_faults helpers f) cs)) (none_kept least c (leads_back helpers f c) parts.0)
    ∙ sym (least_append least (recursion_faults helpers f c) (flat_map (recursion_faults helpers f) cs))
  where
    or_parts : (a b : Bool) → (a || b) ≡ false → (a ≡ false) × (b ≡ false)
    or_parts false b e = (refl, e)
    or_parts true b e = absurd cc

mapped_item : {X Y : Type 0} (f : X → Y) (xs : List X) (i : ℕ) (x : X) → i < length xs → x ≡ get_or xs i x →
    f x ≡ get_or (map f xs) i (f x)
mapped_item f [] i x lt is = absurd (omega (arith, lt))
mapped_item f (y ∷ xs) zero x lt is = ap f is
mapped_item f (y ∷ xs) (suc i) x lt is = mapped_item f xs i x (omega (arith, lt)) is

-- the same of a list that is viewed
pub flat_mapped : {X Y : Type 0} (view : X → Y) (faults : Y →
    List Mistake) (xs : List X) (i : ℕ) (x : X) (start old new : Option Mistake) → i < length xs → x ≡ get_or xs i x →
    old ≡ least_of start (flat_map faults (map view (take i xs))) → new ≡ least_of old (faults (view x)) → new ≡ least_of start (flat_map faults (map view (take (i + 1) xs)))
flat_mapped view faults xs i x start old new lt is before step =
    flat_next faults (map view xs) i (view x) start old new (omega (arith, lt, length-map xs view)) (mapped_item view xs i x lt is)
    (before ∙ ap (λ ys. least_of start (flat_map faults ys)) (sym (take-map view i xs))) step
    ∙ ap (λ ys. least_of start (flat_map faults ys)) (take-map view (i + 1) xs)

pub helper_mapped : {X : Type 0} (view : X →
    Body) (all : List Body) (xs : List X) (i : ℕ) (x : X) (start old middle new : Option Mistake) → i < length xs → x ≡ get_or xs i x →
    old ≡ least_of start (helpers_faults all 0 (map view (take i xs))) →
    middle ≡ least_of old (told_if (is_too_deep all i) LimitExceeded (view x).start) →
    new ≡ least_of middle (flat_map (recursion_faults all i) (view x).calls) → new ≡ least_of start (helpers_faults all 0 (map view (take (i + 1) xs)))
helper_mapped view all xs i x start old middle new lt is before first second =
    helper_next all (map view xs) i (view x) start old new (omega (arith, lt, length-map xs view)) (mapped_item view xs i x lt is)
    (before ∙ ap (λ ys. least_of start (helpers_faults all 0 ys)) (sym (take-map view i xs)))
    (second ∙ ap (λ (f : Option Mistake). least_of f (flat_map (recursion_faults all i) (view x).calls)) first
    ∙ sym (least_append old (told_if (is_too_deep all i) LimitExceeded (view x).start) (flat_map (recursion_faults all i) (view x).calls)))
    ∙ ap (λ ys. least_of start (helpers_faults all 0 ys)) (take-map view (i + 1) xs)

-- ---- depth, by the table

deep_by : (helpers : List Body) (table : List (Option Extent)) (f : ℕ) (o : Option Extent) → IsExtents helpers table → extent_at table f ≡ o →
    is_deep_by o ≡ is_too_deep helpers f
deep_by helpers table f (Some e) is at =
    let right : IsExtentOf helpers f e = is.ends f e at in
    ap (λ (x : Extent). nat_lt DEPTH_LIMIT x.depth) right.1 ∙ lt_up DEPTH_LIMIT DEPTH_LIMIT (depth helpers f) (omega arith) ∙ sym (and_true (nat_lt DEPTH_LIMIT (depth helpers f)))
    ∙ ap (λ (t : Bool). nat_lt DEPTH_LIMIT (depth helpers f) && not t) (sym right.0)
  where
    and_true : (b : Bool) → (b && true) ≡ b
    and_true true = refl
    and_true false = refl
deep_by helpers table f None is at =
    sym (ap (λ (t : Bool). nat_lt DEPTH_LIMIT (depth helpers f) && not t) (is.endless f at) ∙ and_false (nat_lt DEPTH_LIMIT (depth helpers f)))
  where
    and_false : (b : Bool) → (b && false) ≡ false
    and_false true = refl
    and_false false = refl

pub deep_is : (helpers : List Body) (table : List (Option Extent)) (f : ℕ) → IsExtents helpers table →
    is_deep_by (extent_at table f) ≡ is_too_deep helpers f
deep_is helpers table f is = deep_by helpers table f (extent_at table f) is refl
