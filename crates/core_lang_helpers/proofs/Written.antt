-- The extents of a program's sections and helpers in an expansion, by the numbers of its graph.
use Rattle.std.proofs.Common.{◌≡◌, ℕ, zero, suc, ◌+◌, ◌<◌, ◌≤◌, Bool, true, false, List, [], ◌∷◌, ◌++◌, length, map}
use Rattle.std.proofs.Common.{take, inl, inr, refl, sym, ap, ◌∙◌, subst, length-append, arith}
use Rattle.std.specs.Prelude.{slice_get, Option, Some, None, is_some, if◌then◌else◌}
use Rattle.std.specs.List.{sum_by}
use Rattle.std.proofs.lemmas.Bool.{cases_lt}
use Rattle.std.proofs.lemmas.List.{length-map}
use Rattle.std.proofs.lemmas.List.Sums.{sum_by-cons}
use Rattle.std.proofs.lemmas.Option.{slice_get_within, slice_get_past, same_Some}
use Rattle.core_lang.specs.declared.value.ValueType.{ValueType}
use Rattle.core_lang.specs.declared.tree.Local.{Local}
use Rattle.core_lang.specs.declared.tree.Return.{Return}
use Rattle.core_lang.specs.declared.tree.Stmt.{Stmt}
use Rattle.core_lang.specs.declared.tree.Action.{Action, Bind, SetLocal, SetGlobal, SetElement, SetField, Call, Print}
use Rattle.core_lang.specs.declared.tree.Action.{If', IfElse', While', Row_of-Stmt, end_of-Stmt, more_of-Stmt}
use Rattle.core_lang.specs.declared.tree.Section.{Section}
use Rattle.core_lang.specs.declared.typed.Typed.{Typed}
use Rattle.core_lang.specs.Typing.{local_types, IsResult, IsWellTyped, AreWellTyped, AllWellTyped, IsWellTypedSection}
use Rattle.core_lang.specs.Scopes.{bound_by, bound_in, bound_in_all, numbers_from, IsWellScoped}
use Rattle.core_lang.specs.Helpers as core
use Rattle.core_lang.specs.Helpers.{CallsOnly, AllCallOnly, EachCallsOnly}
use Rattle.core_lang.specs.WrittenLocals.{LocalData, Brought, local_data, parameter_data, own_local, hidden_local}
use Rattle.core_lang.specs.WrittenLocals.{locals_by, locals_in, locals_in_all, brought_by, brought, written_locals}
use Rattle.core_lang.specs.WrittenPoints.{points_by, points_among, points_among_all, result_points, points_if}
use Rattle.core_lang.specs.WrittenPoints.{brought_points, helper_points}
use Rattle.core_lang.specs.WellFormed.{IsWithinLimits}
use Rattle.core_lang_helpers.specs.declared.graph.CallSite.{CallSite}
use Rattle.core_lang_helpers.specs.Graphs.{Body, Graph}
use Rattle.core_lang_helpers.specs.Depths as graphs
use Rattle.core_lang_helpers.specs.Depths.{of_body, depth, far, is_endless}
use Rattle.core_lang_helpers.specs.Counts as counts
use Rattle.core_lang_helpers.specs.Counts.{one_for, hidden, locals_within, points_within, brought_locals}
use Rattle.core_lang_helpers.specs.Working.Programs.{site_of, sites_by, sites_in, sites_in_all, brings_none, IsBodyOf}
use Rattle.core_lang_helpers.specs.Working.Programs.{IsGraphOf, CallsKeepLimits}
use Rattle.core_lang_helpers.specs.Working.Laws.{CallsAreOfHelpers, HasNoGraphFault}
use Rattle.core_lang_helpers.proofs.Deep.{only_like, deep_at}
use Rattle.core_lang_helpers.proofs.Endless.{free_depth, free_ends}
use Rattle.core_lang_helpers.proofs.Faultless.{free, shallow, at_most_deep, bring_few}
use Rattle.core_lang.specs.Theory.Items.{numbers_many}

-- ---- the calls of statements, one by one

abbrev Each : (ℕ → Type 0) → List (ℕ × Bool) → Type 0
Each P [] = Unit {0}
Each P (s ∷ ss) = P s.0 × Each P ss

each_left : (P : ℕ → Type 0) (a b : List (ℕ × Bool)) → Each P (a ++ b) → Each P a
each_left P [] b h = tt
each_left P (s ∷ a) b h = (h.0, each_left P a b h.1)

each_right : (P : ℕ → Type 0) (a b : List (ℕ × Bool)) → Each P (a ++ b) → Each P b
each_right P [] b h = h
each_right P (s ∷ a) b h = each_right P a b h.1

each_both : (P : ℕ → Type 0) (a b : List (ℕ × Bool)) → Each P a → Each P b → Each P (a ++ b)
each_both P [] b x y = y
each_both P (s ∷ a) b x y = (x.0, each_both P a b x.1 y)

sites_each : (P : ℕ → Type 0) (cs : List CallSite) → graphs.CallsOnly P cs → Each P (map site_of cs)
sites_each P [] only = tt
sites_each P (c ∷ cs) only = (only.0, sites_each P cs only.1)

each_sites : (P : ℕ → Type 0) (cs : List CallSite) → Each P (map site_of cs) → graphs.CallsOnly P cs
each_sites P [] each = tt
each_sites P (c ∷ cs) each = (each.0, each_sites P cs each.1)

module _ (P : ℕ → Type 0) where
  mutual
    only : (x : Action) → Each P (sites_by x) → CallsOnly P x
    only (Bind local e) each = tt
    only (SetLocal local e) each = tt
    only (SetGlobal cell e) each = tt
    only (SetElement a i e) each = tt
    only (SetField p k f e) each = tt
    only (Call k es r) each = each.0
    only (Print e) each = tt
    only (If' c m a) each = row_only a each
    only (IfElse' c m a k b) each = (row_only a (each_left P (sites_in a) (sites_in b) each), row_only b (each_right P (sites_in a) (sites_in b) each))
    only (While' c m a) each = row_only a each

    row_only : {m : _} (row : Row_of-Stmt m) → Each P (sites_in row) → AllCallOnly P row
    row_only end_of-Stmt each = tt
    row_only (more_of-Stmt start x rest) each = (only x (each_left P (sites_by x) (sites_in rest) each), row_only rest (each_right P (sites_by x) (sites_in rest) each))

  all_only : (xs : List Stmt) → Each P (sites_in_all xs) → EachCallsOnly P xs
  all_only [] each = tt
  all_only (x ∷ xs) each = (only x.action (each_left P (sites_by x.action) (sites_in_all xs) each), all_only xs (each_right P (sites_by x.action) (sites_in_all xs) each))

-- a well-typed call calls a helper that exists
module _ (program : Typed) (types : List ValueType) where
  abbrev IsThere : ℕ → Type 0
  IsThere h = h < length program.shape.helpers.items

  mutual
    typed_there : (x : Action) → IsWellTyped program types x → Each IsThere (sites_by x)
    typed_there (Bind local e) is = tt
    typed_there (SetLocal local e) is = tt
    typed_there (SetGlobal cell e) is = tt
    typed_there (SetElement a i e) is = tt
    typed_there (SetField p k f e) is = tt
    typed_there (Call k es r) is = (slice_get_within program.shape.helpers.items k is.0 is.1, tt)
    typed_there (Print e) is = tt
    typed_there (If' c m a) is = row_there a is.1
    typed_there (IfElse' c m a k b) is = each_both IsThere (sites_in a) (sites_in b) (row_there a is.1) (row_there b is.2)
    typed_there (While' c m a) is = row_there a is.1

    row_there : {m : _} (row : Row_of-Stmt m) → AreWellTyped program types row → Each IsThere (sites_in row)
    row_there end_of-Stmt is = tt
    row_there (more_of-Stmt start x rest) is = each_both IsThere (sites_by x) (sites_in rest) (typed_there x is.0) (row_there rest is.1)

  all_there : (xs : List Stmt) → AllWellTyped program types xs → Each IsThere (sites_in_all xs)
  all_there [] is = tt
  all_there (x ∷ xs) is = each_both IsThere (sites_by x.action) (sites_in_all xs) (typed_there x.action is.0) (all_there xs is.1)

-- ---- sums over calls

abbrev total : (ℕ × Bool → ℕ) → List (ℕ × Bool) → ℕ
total f [] = 0
total f (s ∷ ss) = f s + total f ss

total_both : (f : ℕ × Bool → ℕ) (a b : List (ℕ × Bool)) → total f (a ++ b) ≡ total f a + total f b
total_both f [] b = omega arith
total_both f (s ∷ a) b = let rest : total f (a ++ b) ≡ total f a + total f b = total_both f a b in omega (arith, rest)

total_le : (f : ℕ × Bool → ℕ) (g : CallSite → ℕ) → ((c : CallSite) → f (site_of c) ≤ g c) → (cs : List CallSite) →
    total f (map site_of cs) ≤ sum_by g cs
total_le f g le [] = omega arith
total_le f g le (c ∷ cs) =
    let one : f (site_of c) ≤ g c = le c in
    let rest : total f (map site_of cs) ≤ sum_by g cs = total_le f g le cs in
    let sum : sum_by g (c ∷ cs) ≡ g c + sum_by g cs = sum_by-cons g c cs in
    omega (arith, one, rest, sum)

-- the points of statements: their own, and those of their calls
module _ (own : ℕ) (brings : ℕ → ℕ) where
  abbrev by_helper : ℕ × Bool → ℕ
  by_helper s = brings s.0

  mutual
    points_are : (x : Action) → points_by own brings x ≡ points_by own brings_none x + total by_helper (sites_by x)
    points_are (Bind local e) = omega arith
    points_are (SetLocal local e) = omega arith
    points_are (SetGlobal cell e) = omega arith
    points_are (SetElement a i e) = omega arith
    points_are (SetField p k f e) = omega arith
    points_are (Call k es r) = omega arith
    points_are (Print e) = omega arith
    points_are (If' c m a) =
        let x : points_among own brings a ≡ points_among own brings_none a + total by_helper (sites_in a) = row_points_are a in omega (arith, x)
    points_are (IfElse' c m a k b) =
        let x : points_among own brings a ≡ points_among own brings_none a + total by_helper (sites_in a) = row_points_are a in
        let y : points_among own brings b ≡ points_among own brings_none b + total by_helper (sites_in b) = row_points_are b in
        let z : total by_helper (sites_in a ++ sites_in b) ≡ total by_helper (sites_in a) + total by_helper (sites_in b) = total_both by_helper (sites_in a) (sites_in b) in
        omega (arith, x, y, z)
    points_are (While' c m a) =
        let x : points_among own brings a ≡ points_among own brings_none a + total by_helper (sites_in a) = row_points_are a in omega (arith, x)

    row_points_are : {m : _} (row : Row_of-Stmt m) →
        points_among own brings row ≡ points_among own brings_none row + total by_helper (sites_in row)
    row_points_are end_of-Stmt = omega arith
    row_points_are (more_of-Stmt start a rest) =
        let x : points_by own brings a ≡ points_by own brings_none a + total by_helper (sites_by a) = points_are a in
        let y : points_among own brings rest ≡ points_among own brings_none rest + total by_helper (sites_in rest) = row_points_are rest in
        let z : total by_helper (sites_by a ++ sites_in rest) ≡ total by_helper (sites_by a) + total by_helper (sites_in rest) = total_both by_helper (sites_by a) (sites_in rest) in
        omega (arith, x, y, z)

  all_points_are : (xs : List Stmt) →
      points_among_all own brings xs ≡ points_among_all own brings_none xs + total by_helper (sites_in_all xs)
  all_points_are [] = omega arith
  all_points_are (a ∷ xs) =
      let x : points_by own brings a.action ≡ points_by own brings_none a.action + total by_helper (sites_by a.action) = points_are a.action in
      let y : points_among_all own brings xs ≡ points_among_all own brings_none xs + total by_helper (sites_in_all xs) = all_points_are xs in
      let z : total by_helper (sites_by a.action ++ sites_in_all xs) ≡ total by_helper (sites_by a.action) + total by_helper (sites_in_all xs) = total_both by_helper (sites_by a.action) (sites_in_all xs) in
      omega (arith, x, y, z)

mutual
  none_own : (x : Action) → points_by 0 brings_none x ≡ 0
  none_own (Bind local e) = refl
  none_own (SetLocal local e) = refl
  none_own (SetGlobal cell e) = refl
  none_own (SetElement a i e) = refl
  none_own (SetField p k f e) = refl
  none_own (Call k es r) = refl
  none_own (Print e) = refl
  none_own (If' c m a) = let x : points_among 0 brings_none a ≡ 0 = row_none_own a in omega (arith, x)
  none_own (IfElse' c m a k b) =
      let x : points_among 0 brings_none a ≡ 0 = row_none_own a in let y : points_among 0 brings_none b ≡ 0 = row_none_own b in omega (arith, x, y)
  none_own (While' c m a) = let x : points_among 0 brings_none a ≡ 0 = row_none_own a in omega (arith, x)

  row_none_own : {m : _} (row : Row_of-Stmt m) → points_among 0 brings_none row ≡ 0
  row_none_own end_of-Stmt = refl
  row_none_own (more_of-Stmt start a rest) =
      let x : points_by 0 brings_none a ≡ 0 = none_own a in let y : points_among 0 brings_none rest ≡ 0 = row_none_own rest in omega (arith, x, y)

all_none_own : (xs : List Stmt) → points_among_all 0 brings_none xs ≡ 0
all_none_own [] = refl
all_none_own (a ∷ xs) =
    let x : points_by 0 brings_none a.action ≡ 0 = none_own a.action in let y : points_among_all 0 brings_none xs ≡ 0 = all_none_own xs in omega (arith, x, y)

-- ---- the locals of statements: at most those that they bind and those of their calls

abbrev hidden_by : (ℕ → Brought) → ℕ × Bool → ℕ
hidden_by brings (h, true) = 0
hidden_by brings (h, false) = length (hidden_local (brings h).result_type)

abbrev locals_for : (ℕ → Brought) → ℕ × Bool → ℕ
locals_for brings s = length (brings s.0).locals + hidden_by brings s

own_few : (o : Option Local) → length (own_local o) ≤ 1
own_few (Some local) = omega arith
own_few None = omega arith

module _ (brings : ℕ → Brought) (own : List Local) where
  both_few : (a b : List LocalData) (c d : List ℕ) (e f : List (ℕ × Bool)) →
      length a ≤ length c + total (locals_for brings) e → length b ≤ length d + total (locals_for brings) f →
      length (a ++ b) ≤ length (c ++ d) + total (locals_for brings) (e ++ f)
  both_few a b c d e f x y =
      let z : total (locals_for brings) (e ++ f) ≡ total (locals_for brings) e + total (locals_for brings) f = total_both (locals_for brings) e f in
      omega (arith, x, y, z, length-append a b, length-append c d)

  mutual
    locals_few : (x : Action) →
        length (locals_by brings own x) ≤ length (bound_by x) + total (locals_for brings) (sites_by x)
    locals_few (Bind local e) = let x = own_few (slice_get own local) in omega (arith, x)
    locals_few (SetLocal local e) = omega arith
    locals_few (SetGlobal cell e) = omega arith
    locals_few (SetElement a i e) = omega arith
    locals_few (SetField p k f e) = omega arith
    locals_few (Call h es (Some k)) = let x = own_few (slice_get own k) in omega (arith, x, length-append (brings h).locals (own_local (slice_get own k)))
    locals_few (Call h es None) = omega (arith, length-append (brings h).locals (hidden_local (brings h).result_type))
    locals_few (Print e) = omega arith
    locals_few (If' c m a) = row_locals_few a
    locals_few (IfElse' c m a k b) = both_few _ _ _ _ (sites_in a) (sites_in b) (row_locals_few a) (row_locals_few b)
    locals_few (While' c m a) = row_locals_few a

    row_locals_few : {m : _} (row : Row_of-Stmt m) →
        length (locals_in brings own row) ≤ length (bound_in row) + total (locals_for brings) (sites_in row)
    row_locals_few end_of-Stmt = omega arith
    row_locals_few (more_of-Stmt start x rest) = both_few _ _ _ _ (sites_by x) (sites_in rest) (locals_few x) (row_locals_few rest)

  all_locals_few : (xs : List Stmt) →
      length (locals_in_all brings own xs) ≤ length (bound_in_all xs) + total (locals_for brings) (sites_in_all xs)
  all_locals_few [] = omega arith
  all_locals_few (x ∷ xs) = both_few _ _ _ _ (sites_by x.action) (sites_in_all xs) (locals_few x.action) (all_locals_few xs)

taken_few : (count : ℕ) (locals : List Local) → length (take count locals) ≤ count
taken_few zero locals = omega arith
taken_few (suc count) [] = omega arith
taken_few (suc count) (x ∷ xs) = let h = taken_few count xs in omega arith

-- ---- helpers whose calls end come to the same however far they are followed

sum_same : (P : ℕ → Type 0) (f g : CallSite → ℕ) → ((c : CallSite) → P c.helper → f c ≡ g c) → (cs : List CallSite) →
    graphs.CallsOnly P cs → sum_by f cs ≡ sum_by g cs
sum_same P f g same [] only = refl
sum_same P f g same (c ∷ cs) only =
    let one : f c ≡ g c = same c only.0 in
    let rest : sum_by f cs ≡ sum_by g cs = sum_same P f g same cs only.1 in
    let a : sum_by f (c ∷ cs) ≡ f c + sum_by f cs = sum_by-cons f c cs in
    let b : sum_by g (c ∷ cs) ≡ g c + sum_by g cs = sum_by-cons g c cs in
    omega (arith, one, rest, a, b)

any_calls : (cs : List CallSite) → graphs.CallsOnly (λ h. Unit {0}) cs
any_calls [] = tt
any_calls (c ∷ cs) = (tt, any_calls cs)

module _ (helpers : List Body) where
  locals_at : (n h : ℕ) (b : Body) → slice_get helpers h ≡ Some b →
      locals_within (suc n) helpers h ≡ b.locals + sum_by (λ (c : CallSite). locals_within n helpers c.helper + hidden helpers c) b.calls
  locals_at n h b is = ap (λ (o : Option Body). of_body o (λ (b : Body). b.locals + sum_by (λ (c : CallSite). locals_within n helpers c.helper + hidden helpers c) b.calls)) is

  points_at : (n h : ℕ) (b : Body) → slice_get helpers h ≡ Some b →
      points_within (suc n) helpers h ≡ b.parameters + b.points + sum_by (λ (c : CallSite). points_within n helpers c.helper) b.calls + one_for b.has_result
  points_at n h b is =
      ap (λ (o : Option Body). of_body o (λ (b : Body). b.parameters + b.points + sum_by (λ (c : CallSite). points_within n helpers c.helper) b.calls + one_for b.has_result)) is

  locals_stay : (d k h : ℕ) → graphs.IsAtMostDeep helpers d h → d ≤ k →
      locals_within k helpers h ≡ locals_within d helpers h
  locals_stay zero k h deep le = absurd deep
  locals_stay (suc d) zero h deep le = absurd (omega (arith, le))
  locals_stay (suc d) (suc k) h deep le =
      let b : Body = deep.0 in
      let f : CallSite → ℕ = λ c. locals_within k helpers c.helper + hidden helpers c in
      let g : CallSite → ℕ = λ c. locals_within d helpers c.helper + hidden helpers c in
      locals_at k h b deep.1
      ∙ ap (λ (n : ℕ). b.locals + n) (sum_same (graphs.IsAtMostDeep helpers d) f g (λ c is. ap (λ (n : ℕ). n + hidden helpers c) (locals_stay d k c.helper is (omega (arith, le)))) b.calls deep.2)
      ∙ sym (locals_at d h b deep.1)

  points_stay : (d k h : ℕ) → graphs.IsAtMostDeep helpers d h → d ≤ k →
      points_within k helpers h ≡ points_within d helpers h
  points_stay zero k h deep le = absurd deep
  points_stay (suc d) zero h deep le = absurd (omega (arith, le))
  points_stay (suc d) (suc k) h deep le =
      let b : Body = deep.0 in
      let f : CallSite → ℕ = λ c. points_within k helpers c.helper in
      let g : CallSite → ℕ = λ c. points_within d helpers c.helper in
      points_at k h b deep.1
      ∙ ap (λ (n : ℕ). b.parameters + b.points + n + one_for b.has_result) (sum_same (graphs.IsAtMostDeep helpers d) f g (λ c is. points_stay d k c.helper is (omega (arith, le))) b.calls deep.2)
      ∙ sym (points_at d h b deep.1)

  past_locals : (n h : ℕ) → length helpers ≤ h → locals_within n helpers h ≡ 0
  past_locals zero h le = refl
  past_locals (suc n) h le =
      ap (λ (o : Option Body). of_body o (λ (b : Body). b.locals + sum_by (λ (c : CallSite). locals_within n helpers c.helper + hidden helpers c) b.calls)) (slice_get_past helpers h le)

  past_points : (n h : ℕ) → length helpers ≤ h → points_within n helpers h ≡ 0
  past_points zero h le = refl
  past_points (suc n) h le =
      ap (λ (o : Option Body). of_body o (λ (b : Body). b.parameters + b.points + sum_by (λ (c : CallSite). points_within n helpers c.helper) b.calls + one_for b.has_result)) (slice_get_past helpers h le)

-- ---- a program and its graph

hidden_one : (t : Option ValueType) → length (hidden_local t) ≡ one_for (is_some t)
hidden_one (Some t) = refl
hidden_one None = refl

returned_one : (program : Typed) (types : List ValueType) (t : Option ValueType) (r : Option Return) →
    IsResult program types t r → result_points r ≡ one_for (is_some t)
returned_one program types None None is = refl
returned_one program types None (Some r) is = absurd is
returned_one program types (Some t) None is = absurd is
returned_one program types (Some t) (Some r) is = refl

section_there : (xs : List Section) (k : ℕ) → k < length xs → (s : Section) × (slice_get xs k ≡ Some s)
section_there [] k lt = absurd (omega (arith, lt))
section_there (x ∷ xs) zero lt = (x, refl)
section_there (x ∷ xs) (suc k) lt = section_there xs k (omega (arith, lt))

module _ (program : Typed) (graph : Graph) (fits : IsGraphOf program graph)
    (typed : (k : ℕ) (helper : Section) → slice_get program.shape.helpers.items k ≡ Some helper → IsWellTypedSection program helper) where
  -- a body of the graph is that of a helper
  helper_of : (h : ℕ) (b : Body) → slice_get graph.helpers h ≡ Some b →
      (s : Section) × (slice_get program.shape.helpers.items h ≡ Some s) × IsBodyOf s b
  helper_of h b is =
      let lt : h < length graph.helpers = slice_get_within graph.helpers h b is in
      let s = section_there program.shape.helpers.items h (omega (arith, lt, fits.few)) in
      let r = fits.helpers h s.0 s.1 in
      (s.0, s.1, subst (λ (x : Body). IsBodyOf s.0 x) (same_Some r.0 b (sym r.1 ∙ is)) r.2)

  calls_there : CallsAreOfHelpers graph.helpers
  calls_there = λ f b is.
      let s = helper_of f b is in
      let all = all_there program (local_types s.0.locals.items) s.0.body.items (typed f s.0 s.1).body in
      each_sites (λ (g : ℕ). g < length graph.helpers) b.calls
      (subst (λ (n : ℕ). Each (λ (g : ℕ). g < n) (map site_of b.calls)) (sym fits.few)
      (subst (Each (λ (g : ℕ). g < length program.shape.helpers.items)) (sym s.2.calls) all))

  deep_too : (d h : ℕ) → graphs.IsAtMostDeep graph.helpers d h → core.IsAtMostDeep program.shape d h
  deep_too zero h deep = absurd deep
  deep_too (suc d) h deep =
      let s = helper_of h deep.0 deep.1 in (
        s.0,
        s.1,
        all_only (core.IsAtMostDeep program.shape d) s.0.body.items
            (subst (Each (core.IsAtMostDeep program.shape d)) s.2.calls
            (sites_each (core.IsAtMostDeep program.shape d) deep.0.calls (only_like (graphs.IsAtMostDeep graph.helpers d) (core.IsAtMostDeep program.shape d) (deep_too d) deep.0.calls deep.2))),
      )

  -- ---- the locals and the result type that a helper brings

  hidden_of : (d h : ℕ) (o : Option Section) → slice_get program.shape.helpers.items h ≡ o →
      length (hidden_local (brought (suc d) program.shape h).result_type) ≤ of_body (slice_get graph.helpers h) (λ (b : Body). one_for b.has_result)
  hidden_of d h (Some s) is =
      let r = fits.helpers h s is in
      let left : length (hidden_local (brought (suc d) program.shape h).result_type) ≡ one_for (is_some s.result_type) =
      ap (λ (x : Option Section). length (hidden_local (brought_by x (λ (h : Section). record {
        locals = map parameter_data (take h.parameters h.locals.items) ++ locals_in_all (brought d program.shape) h.locals.items h.body.items;
        result_type = h.result_type;
      })).result_type)) is ∙ hidden_one s.result_type in
      let right : of_body (slice_get graph.helpers h) (λ (b : Body). one_for b.has_result) ≡ one_for (is_some s.result_type) =
      ap (λ (x : Option Body). of_body x (λ (b : Body). one_for b.has_result)) r.1 ∙ ap one_for r.2.has_result in
      omega (arith, left, right)
  hidden_of d h None is =
      let left : length (hidden_local (brought (suc d) program.shape h).result_type) ≡ 0 =
      ap (λ (x : Option Section). length (hidden_local (brought_by x (λ (h : Section). record {
        locals = map parameter_data (take h.parameters h.locals.items) ++ locals_in_all (brought d program.shape) h.locals.items h.body.items;
        result_type = h.result_type;
      })).result_type)) is in
      omega (arith, left)

  hidden_le : (d h : ℕ) →
      length (hidden_local (brought d program.shape h).result_type) ≤ of_body (slice_get graph.helpers h) (λ (b : Body). one_for b.has_result)
  hidden_le zero h = omega arith
  hidden_le (suc d) h = hidden_of d h (slice_get program.shape.helpers.items h) refl

  hidden_by_le : (b : Bool) (d h : ℕ) →
      hidden_by (brought d program.shape) (h, b) ≤ hidden graph.helpers (record { helper = h; start = 0; is_bound = b })
  hidden_by_le true d h = omega arith
  hidden_by_le false d h = hidden_le d h

  site_le : (d : ℕ) → ((h : ℕ) → length (brought d program.shape h).locals ≤ locals_within d graph.helpers h) →
      (c : CallSite) → locals_for (brought d program.shape) (site_of c) ≤ locals_within d graph.helpers c.helper + hidden graph.helpers c
  site_le d le c =
      let x : length (brought d program.shape c.helper).locals ≤ locals_within d graph.helpers c.helper = le c.helper in
      let y : hidden_by (brought d program.shape) (c.helper, c.is_bound) ≤ hidden graph.helpers c = hidden_by_le c.is_bound d c.helper in
      omega (arith, x, y)

  body_le : (d : ℕ) → ((h : ℕ) → length (brought d program.shape h).locals ≤ locals_within d graph.helpers h) →
      (s : Section) (b : Body) → IsBodyOf s b →
      length (take s.parameters s.locals.items) + length (locals_in_all (brought d program.shape) s.locals.items s.body.items)
      ≤ b.locals + sum_by (λ (c : CallSite). locals_within d graph.helpers c.helper + hidden graph.helpers c) b.calls
  body_le d le s b is =
      let few = taken_few s.parameters s.locals.items in
      let all : length (locals_in_all (brought d program.shape) s.locals.items s.body.items) ≤ length (bound_in_all s.body.items) + total (locals_for (brought d program.shape)) (sites_in_all s.body.items) =
      all_locals_few (brought d program.shape) s.locals.items s.body.items in
      let sites : total (locals_for (brought d program.shape)) (map site_of b.calls) ≡ total (locals_for (brought d program.shape)) (sites_in_all s.body.items) =
      ap (total (locals_for (brought d program.shape))) is.calls in
      let sum : total (locals_for (brought d program.shape)) (map site_of b.calls) ≤ sum_by (λ (c : CallSite). locals_within d graph.helpers c.helper + hidden graph.helpers c) b.calls =
      total_le (locals_for (brought d program.shape)) (λ (c : CallSite). locals_within d graph.helpers c.helper + hidden graph.helpers c) (site_le d le) b.calls in
      omega (arith, few, all, sites, sum, is.locals)

  locals_of : (d h : ℕ) → ((h : ℕ) → length (brought d program.shape h).locals ≤ locals_within d graph.helpers h) →
      (o : Option Section) → slice_get program.shape.helpers.items h ≡ o →
      length (brought (suc d) program.shape h).locals ≤ locals_within (suc d) graph.helpers h
  locals_of d h le (Some s) is =
      let r = fits.helpers h s is in
      let front : List LocalData = map parameter_data (take s.parameters s.locals.items) in
      let behind : List LocalData = locals_in_all (brought d program.shape) s.locals.items s.body.items in
      let left : length (brought (suc d) program.shape h).locals ≡ length (front ++ behind) =
      ap (λ (x : Option Section). length (brought_by x (λ (h : Section). record {
        locals = map parameter_data (take h.parameters h.locals.items) ++ locals_in_all (brought d program.shape) h.locals.items h.body.items;
        result_type = h.result_type;
      })).locals) is in
      let parts : length (front ++ behind) ≡ length front + length behind = length-append front behind in
      let many : length front ≡ length (take s.parameters s.locals.items) = length-map (take s.parameters s.locals.items) parameter_data in
      let right = locals_at graph.helpers d h r.0 r.1 in
      let body = body_le d le s r.0 r.2 in
      omega (arith, left, parts, many, right, body)
  locals_of d h le None is =
      let left : length (brought (suc d) program.shape h).locals ≡ 0 =
      ap (λ (x : Option Section). length (brought_by x (λ (h : Section). record {
        locals = map parameter_data (take h.parameters h.locals.items) ++ locals_in_all (brought d program.shape) h.locals.items h.body.items;
        result_type = h.result_type;
      })).locals) is in
      omega (arith, left)

  locals_le : (d h : ℕ) → length (brought d program.shape h).locals ≤ locals_within d graph.helpers h
  locals_le zero h = omega arith
  locals_le (suc d) h = locals_of d h (locals_le d) (slice_get program.shape.helpers.items h) refl

  points_body : (d : ℕ) → ((h : ℕ) → brought_points d program.shape h ≤ points_within d graph.helpers h) →
      (own : ℕ) (s : Section) (b : Body) → IsBodyOf s b →
      points_among_all own (brought_points d program.shape) s.body.items ≤ points_among_all own brings_none s.body.items + sum_by (λ (c : CallSite). points_within d graph.helpers c.helper) b.calls
  points_body d le own s b is =
      let all = all_points_are own (brought_points d program.shape) s.body.items in
      let f : ℕ × Bool → ℕ = λ s. brought_points d program.shape s.0 in
      let sites : total f (map site_of b.calls) ≡ total f (sites_in_all s.body.items) = ap (total f) is.calls in
      let sum : total f (map site_of b.calls) ≤ sum_by (λ (c : CallSite). points_within d graph.helpers c.helper) b.calls =
      total_le f (λ (c : CallSite). points_within d graph.helpers c.helper) (λ c. le c.helper) b.calls in
      omega (arith, all, sites, sum)

  points_of : (d h : ℕ) → ((h : ℕ) → brought_points d program.shape h ≤ points_within d graph.helpers h) →
      (o : Option Section) → slice_get program.shape.helpers.items h ≡ o →
      brought_points (suc d) program.shape h ≤ points_within (suc d) graph.helpers h
  points_of d h le (Some s) is =
      let r = fits.helpers h s is in
      let left : brought_points (suc d) program.shape h ≡ s.parameters + (points_among_all 1 (brought_points d program.shape) s.body.items + result_points s.result) =
      ap (λ (x : Option Section). points_if x (λ (h : Section). h.parameters + (points_among_all 1 (brought_points d program.shape) h.body.items + result_points h.result))) is in
      let right = points_at graph.helpers d h r.0 r.1 in
      let body = points_body d le 1 s r.0 r.2 in
      let one : result_points s.result ≡ one_for (is_some s.result_type) = returned_one program (local_types s.locals.items) s.result_type s.result (typed h s is).result in
      let result : one_for r.0.has_result ≡ one_for (is_some s.result_type) = ap one_for r.2.has_result in
      omega (arith, left, right, body, one, result, r.2.parameters, r.2.points)
  points_of d h le None is =
      let left : brought_points (suc d) program.shape h ≡ 0 =
      ap (λ (x : Option Section). points_if x (λ (h : Section). h.parameters + (points_among_all 1 (brought_points d program.shape) h.body.items + result_points h.result))) is in
      omega (arith, left)

  points_le : (d h : ℕ) → brought_points d program.shape h ≤ points_within d graph.helpers h
  points_le zero h = omega arith
  points_le (suc d) h = points_of d h (points_le d) (slice_get program.shape.helpers.items h) refl

  -- ---- sections

  module _ (none : HasNoGraphFault graph) where
    ends : (h : ℕ) → is_endless graph.helpers h ≡ false
    ends h = free_ends graph.helpers h (free graph none h)

    -- with calls followed 8 levels deep, a helper brings as many locals as with all calls followed
    same_locals : (h : ℕ) → locals_within 8 graph.helpers h ≡ locals_within (far graph.helpers) graph.helpers h
    same_locals h = elim (cases_lt h (length graph.helpers)) [
      | inl lt ↦
          let d : ℕ = depth graph.helpers h in
          let few : d ≤ length graph.helpers = free_depth graph.helpers (far graph.helpers) h (free graph none h) in
          let le : d ≤ 8 = shallow graph none h lt in
          let deep = deep_at graph.helpers calls_there d (far graph.helpers) h lt (omega arith) (omega (arith, few)) in
          locals_stay graph.helpers d 8 h deep le ∙ sym (locals_stay graph.helpers d (far graph.helpers) h deep (omega (arith, few)))
      | inr ge ↦ past_locals graph.helpers 8 h ge ∙ sym (past_locals graph.helpers (far graph.helpers) h ge)
    ]

    same_points : (h : ℕ) → points_within 8 graph.helpers h ≡ points_within (far graph.helpers) graph.helpers h
    same_points h = elim (cases_lt h (length graph.helpers)) [
      | inl lt ↦
          let d : ℕ = depth graph.helpers h in
          let few : d ≤ length graph.helpers = free_depth graph.helpers (far graph.helpers) h (free graph none h) in
          let le : d ≤ 8 = shallow graph none h lt in
          let deep = deep_at graph.helpers calls_there d (far graph.helpers) h lt (omega arith) (omega (arith, few)) in
          points_stay graph.helpers d 8 h deep le ∙ sym (points_stay graph.helpers d (far graph.helpers) h deep (omega (arith, few)))
      | inr ge ↦ past_points graph.helpers 8 h ge ∙ sym (past_points graph.helpers (far graph.helpers) h ge)
    ]

    locals_brought : (cs : List CallSite) →
        sum_by (λ (c : CallSite). locals_within 8 graph.helpers c.helper + hidden graph.helpers c) cs ≡ sum_by (brought_locals graph.helpers) cs
    locals_brought cs = sum_same (λ h. Unit {0}) (λ (c : CallSite). locals_within 8 graph.helpers c.helper + hidden graph.helpers c) (brought_locals graph.helpers)
        (λ c is. ap (λ (n : ℕ). n + hidden graph.helpers c) (same_locals c.helper)
        ∙ ap (λ (t : Bool). if t then 0 else locals_within (far graph.helpers) graph.helpers c.helper + hidden graph.helpers c) (sym (ends c.helper))) cs (any_calls cs)

    points_brought : (cs : List CallSite) →
        sum_by (λ (c : CallSite). points_within 8 graph.helpers c.helper) cs ≡ sum_by (counts.brought_points graph.helpers) cs
    points_brought cs = sum_same (λ h. Unit {0}) (λ (c : CallSite). points_within 8 graph.helpers c.helper) (counts.brought_points graph.helpers)
        (λ c is. same_points c.helper ∙ ap (λ (t : Bool). if t then 0 else points_within (far graph.helpers) graph.helpers c.helper) (sym (ends c.helper))) cs (any_calls cs)

    few_written : IsWithinLimits program → (k : ℕ) (s : Section) → slice_get program.sections.items k ≡ Some s →
        IsWellScoped s → length (written_locals program.shape s) ≤ 64
    few_written within k s is scoped =
        let r = fits.sections k s is in
        let front : List LocalData = map local_data (take s.parameters s.locals.items) in
        let behind : List LocalData = locals_in_all (brought 8 program.shape) s.locals.items s.body.items in
        let parts : length (front ++ behind) ≡ length front + length behind = length-append front behind in
        let many : length front ≡ length (take s.parameters s.locals.items) = length-map (take s.parameters s.locals.items) local_data in
        let body = body_le 8 (locals_le 8) s r.0 r.2 in
        let sum = locals_brought r.0.calls in
        let before = numbers_many 0 s.parameters in
        let whole = numbers_many 0 (length s.locals.items) in
        let bound = ap (λ (l : List ℕ). length l) scoped.bound in
        let own : length s.locals.items ≤ 64 = within.locals k s is in
        let fits_own : r.0.locals ≤ 64 = omega (arith, length-append (numbers_from 0 s.parameters) (bound_in_all s.body.items), before, whole, bound, own, r.2.locals) in
        let few = (bring_few graph none k r.0 r.1).0 fits_own in
        omega (arith, parts, many, body, sum, few)

    few_points : (k : ℕ) (s : Section) → slice_get program.sections.items k ≡ Some s →
        helper_points program.shape s ≤ 65536
    few_points k s is =
        let r = fits.sections k s is in
        let body = points_body 8 (points_le 8) 0 s r.0 r.2 in
        let sum = points_brought r.0.calls in
        let own = all_none_own s.body.items in
        let few = (bring_few graph none k r.0 r.1).1 in
        omega (arith, body, sum, own, few)

    pub keeps_limits : IsWithinLimits program →
        ((k : ℕ) (section : Section) → slice_get program.sections.items k ≡ Some section → IsWellScoped section) →
        CallsKeepLimits program
    keeps_limits within scoped = record {
      helper_depths = λ k h is.
          let lt : k < length program.shape.helpers.items = slice_get_within program.shape.helpers.items k h is in
          deep_too 8 k (at_most_deep graph none calls_there k (omega (arith, lt, fits.few)));
      written_locals = λ k section is. few_written within k section is (scoped k section is);
      helper_points = λ k section is. few_points k section is;
    }
