-- The graph of a tree is that of the program that it stands for.
use Rattle.std.proofs.Common.{◌≡◌, ℕ, zero, suc, ◌<◌, ◌≤◌, List, [], ◌∷◌, map, take, length, Option, Some, refl, sym}
use Rattle.std.proofs.Common.{ap, ◌∙◌, subst, length-append, arith}
use Rattle.std.specs.Prelude.{slice_get, is_some}
use Rattle.std.proofs.lemmas.List.{length-map}
use Rattle.std.proofs.lemmas.Option.{slice_get_within}
use Rattle.syntax.specs.Trees.{ValueType, Section, Decl, lock, struct, global, array, pool, init, atomic, helper}
use Rattle.syntax.specs.Trees.{thread}
use Rattle.core_lang.specs.declared.value.ValueType as core_type
use Rattle.core_lang.specs.declared.tree.Section as the_section
use Rattle.core_lang.specs.declared.typed.Typed.{Typed}
use Rattle.core_lang.specs.Scopes.{numbers_from, bound_in_all, IsWellScoped}
use Rattle.core_lang.specs.Theory.Items.{map_at, get_some, numbers_many}
use Rattle.core_lang_helpers.specs.Graphs.{Body}
use Rattle.core_lang_helpers.specs.Working.Programs.{IsBodyOf, IsGraphOf}
use Rattle.resolution.specs.declared.body_limits.BodyLimits.{BodyLimits}
use Rattle.resolution.specs.Core as core
use Rattle.resolution.specs.CoreViews.{core_local, core_section, core_of}
use Rattle.resolution.specs.Limits.{section_limits, helper_limits}
use Rattle.resolution.specs.Scopes.{count, alike, number_at}
use Rattle.resolution.specs.Statements.{after_all, ahead_of, entry}
use Rattle.resolution.specs.Working.TypedSections.{typed_section}
use Rattle.resolution.specs.CallGraphs.{body_in, helper_bodies, section_bodies, tree_graph}
use Rattle.resolution.specs.Resolved.{Resolves}
use Rattle.resolution.proofs.FaultlessExpressions.{Clean}
use Rattle.resolution.proofs.LaidProgram.{sections_are, helpers_are}
use Rattle.resolution.proofs.LaidScripts.{helper_at}
use Rattle.resolution.proofs.WellSections.{locals_length, section_well_scoped}
use Rattle.resolution.proofs.CallSites.{all_seen, points_all_seen, body_has}
use Rattle.resolution.specs.Typing.{TypesLocals, TypesBody, TypesResult, no_result, one_result, TypesSection}
use Rattle.resolution.specs.Typing.{types_section}
use Rattle.resolution.proofs.StatementRules.{types_the_section}

-- ---- one section or helper

-- what it is resolved to, by its parts
record Parts (decls : List Decl) (limits : BodyLimits) (s : Section) (x : core.Section) : Type 0 where
  locals : TypesLocals (after_all (entry decls limits s) s.body.stmts).locals x.locals
  body : TypesBody (entry decls limits s) s.body.stmts x.body x.result
  same_parameters : x.parameters ≡ length s.params
  same_result : is_some s.result ≡ is_some x.result_type

result_same : {decls : List Decl} {w : Option ValueType} {r : Option core.Return} {t : Option core_type.ValueType} →
    TypesResult decls w r t → is_some w ≡ is_some t
result_same no_result = refl
result_same (one_result is) = refl

parts_of : {decls : List Decl} {limits : BodyLimits} {s : Section} {x : core.Section} → TypesSection decls limits s x →
    Parts decls limits s x
parts_of (types_section b r l ls) =
    record { locals = ls; body = b; same_parameters = refl; same_result = result_same r }

pub body_of_section : (decls : List Decl) (limits : BodyLimits) (s : Section) (x : the_section.Section) →
    typed_section decls limits s ≡ Some (core_section x) →
    IsBodyOf x (body_in (ahead_of decls limits s) s)
body_of_section decls limits s x e =
    let sc = entry decls limits s in
    let p = parts_of (types_the_section decls limits s (core_section x) e) in
    let has = body_has p.body in
    let scoped : IsWellScoped x = section_well_scoped decls limits s x e in
    let many : length (map core_local x.locals.items) ≡ length (after_all sc s.body.stmts).locals =
    locals_length p.locals in
    let mapped : length (map core_local x.locals.items) ≡ length x.locals.items =
    length-map x.locals.items core_local in
    let bound = ap (λ (l : List ℕ). length l) scoped.bound in
    let before = numbers_many 0 x.parameters in
    let whole = numbers_many 0 (length x.locals.items) in
    record {
      parameters = sym p.same_parameters;
      locals = omega (
        arith,
        many,
        mapped,
        bound,
        before,
        whole,
        length-append (numbers_from 0 x.parameters)
            (bound_in_all x.body.items),
      );
      points = sym has.1 ∙ sym (points_all_seen x.body.items);
      has_result = p.same_result;
      calls = sym has.0 ∙ sym (all_seen x.body.items);
    }

-- ---- by number

helper_there : (all ds : List Decl) (i : ℕ) (s : Section) → slice_get ds i ≡ Some (helper s) →
    slice_get (helper_bodies all ds) (count (alike (helper s)) (take i ds)) ≡ Some
    (body_in (ahead_of all helper_limits s) s)
helper_there all [] i s e = absurd cc
helper_there all (helper x ∷ ds) zero s e = let same : x ≡ s =
    cc in ap (λ (y : Section). Some (body_in (ahead_of all helper_limits y) y)) same
helper_there all (lock x ∷ ds) zero s e = absurd cc
helper_there all (struct x ∷ ds) zero s e = absurd cc
helper_there all (global x ∷ ds) zero s e = absurd cc
helper_there all (array x ∷ ds) zero s e = absurd cc
helper_there all (pool x ∷ ds) zero s e = absurd cc
helper_there all (init x ∷ ds) zero s e = absurd cc
helper_there all (atomic x ∷ ds) zero s e = absurd cc
helper_there all (thread x ∷ ds) zero s e = absurd cc
helper_there all (helper x ∷ ds) (suc i) s e = helper_there all ds i s e
helper_there all (lock x ∷ ds) (suc i) s e = helper_there all ds i s e
helper_there all (struct x ∷ ds) (suc i) s e = helper_there all ds i s e
helper_there all (global x ∷ ds) (suc i) s e = helper_there all ds i s e
helper_there all (array x ∷ ds) (suc i) s e = helper_there all ds i s e
helper_there all (pool x ∷ ds) (suc i) s e = helper_there all ds i s e
helper_there all (init x ∷ ds) (suc i) s e = helper_there all ds i s e
helper_there all (atomic x ∷ ds) (suc i) s e = helper_there all ds i s e
helper_there all (thread x ∷ ds) (suc i) s e = helper_there all ds i s e

section_there : (all ds : List Decl) (i : ℕ) (s : Section) → slice_get ds i ≡ Some (atomic s) →
    slice_get (section_bodies all ds) (count (alike (atomic s)) (take i ds)) ≡ Some
    (body_in (ahead_of all section_limits s) s)
section_there all [] i s e = absurd cc
section_there all (atomic x ∷ ds) zero s e = let same : x ≡ s =
    cc in ap (λ (y : Section). Some (body_in (ahead_of all section_limits y) y)) same
section_there all (lock x ∷ ds) zero s e = absurd cc
section_there all (struct x ∷ ds) zero s e = absurd cc
section_there all (global x ∷ ds) zero s e = absurd cc
section_there all (array x ∷ ds) zero s e = absurd cc
section_there all (pool x ∷ ds) zero s e = absurd cc
section_there all (init x ∷ ds) zero s e = absurd cc
section_there all (helper x ∷ ds) zero s e = absurd cc
section_there all (thread x ∷ ds) zero s e = absurd cc
section_there all (atomic x ∷ ds) (suc i) s e = section_there all ds i s e
section_there all (lock x ∷ ds) (suc i) s e = section_there all ds i s e
section_there all (struct x ∷ ds) (suc i) s e = section_there all ds i s e
section_there all (global x ∷ ds) (suc i) s e = section_there all ds i s e
section_there all (array x ∷ ds) (suc i) s e = section_there all ds i s e
section_there all (pool x ∷ ds) (suc i) s e = section_there all ds i s e
section_there all (init x ∷ ds) (suc i) s e = section_there all ds i s e
section_there all (helper x ∷ ds) (suc i) s e = section_there all ds i s e
section_there all (thread x ∷ ds) (suc i) s e = section_there all ds i s e

abbrev HelperFrom : List Decl → ℕ → Type 0
HelperFrom ds k = (i : ℕ) ×
    ((s : Section) × (slice_get ds i ≡ Some (helper s)) × (count (alike (helper s)) (take i ds) ≡ k))

helper_back : (all ds : List Decl) (k : ℕ) (b : Body) → slice_get (helper_bodies all ds) k ≡ Some b → HelperFrom ds k
helper_back all [] k b e = absurd cc
helper_back all (helper x ∷ ds) zero b e = (0, (x, refl, refl))
helper_back all (helper x ∷ ds) (suc k) b e = let r =
    helper_back all ds k b e in (suc r.0, (r.1.0, r.1.1, ap suc r.1.2))
helper_back all (lock x ∷ ds) k b e = let r = helper_back all ds k b e in (suc r.0, (r.1.0, r.1.1, r.1.2))
helper_back all (struct x ∷ ds) k b e = let r = helper_back all ds k b e in (suc r.0, (r.1.0, r.1.1, r.1.2))
helper_back all (global x ∷ ds) k b e = let r = helper_back all ds k b e in (suc r.0, (r.1.0, r.1.1, r.1.2))
helper_back all (array x ∷ ds) k b e = let r = helper_back all ds k b e in (suc r.0, (r.1.0, r.1.1, r.1.2))
helper_back all (pool x ∷ ds) k b e = let r = helper_back all ds k b e in (suc r.0, (r.1.0, r.1.1, r.1.2))
helper_back all (init x ∷ ds) k b e = let r = helper_back all ds k b e in (suc r.0, (r.1.0, r.1.1, r.1.2))
helper_back all (atomic x ∷ ds) k b e = let r = helper_back all ds k b e in (suc r.0, (r.1.0, r.1.1, r.1.2))
helper_back all (thread x ∷ ds) k b e = let r = helper_back all ds k b e in (suc r.0, (r.1.0, r.1.1, r.1.2))

-- a list that has an item at each place that another one has is as long
as_long : {A B : Type 0} (xs : List A) (ys : List B) → ((k : ℕ) (x : A) → slice_get xs k ≡ Some x → k < length ys) →
    length xs ≤ length ys
as_long xs ys h = by_length (length xs) refl
  where
    by_length : (n : ℕ) → length xs ≡ n → n ≤ length ys
    by_length zero e = omega arith
    by_length (suc n) e = let x = get_some xs n (omega (arith, e)) in let lt : n < length ys =
        h n x.0 x.1 in omega (arith, lt)

-- ---- the whole

module _ (decls : List Decl) (clean : Clean decls) (program : Typed) (is : Resolves decls program) where
  helper_is : (k : ℕ) (h : the_section.Section) → slice_get program.shape.helpers.items k ≡ Some h →
      (b : Body) × (slice_get (tree_graph decls).helpers k ≡ Some b) × IsBodyOf h b
  helper_is k h at =
      let r = helpers_are decls clean program is k (core_section h)
      (map_at core_section program.shape.helpers.items k h at) in
      let b : Body = body_in (ahead_of decls helper_limits r.1) r.1 in
      let there : slice_get (helper_bodies decls decls) k ≡ Some b =
      subst (λ (n : ℕ). slice_get (helper_bodies decls decls) n ≡ Some b) r.3
      (helper_there decls decls r.0 r.1 r.2) in
      (b, there, body_of_section decls helper_limits r.1 h r.4)

  section_is : (k : ℕ) (x : the_section.Section) → slice_get program.sections.items k ≡ Some x →
      (b : Body) × (slice_get (tree_graph decls).sections k ≡ Some b) × IsBodyOf x b
  section_is k x at =
      let r = sections_are decls clean program is k (core_section x)
      (map_at core_section program.sections.items k x at) in
      let b : Body = body_in (ahead_of decls section_limits r.1) r.1 in
      let there : slice_get (section_bodies decls decls) k ≡ Some b =
      subst (λ (n : ℕ). slice_get (section_bodies decls decls) n ≡ Some b) r.3
      (section_there decls decls r.0 r.1 r.2) in
      (b, there, body_of_section decls section_limits r.1 x r.4)

  helper_known : (k : ℕ) (b : Body) → slice_get (tree_graph decls).helpers k ≡ Some b →
      k < length program.shape.helpers.items
  helper_known k b at =
      let from = helper_back decls decls k b at in
      let x = helper_at decls clean (core_of program) is from.0 from.1.0 from.1.1 in
      let lt : number_at decls from.0 (helper from.1.0) < length (map core_section program.shape.helpers.items) =
      slice_get_within (map core_section program.shape.helpers.items)
      (number_at decls from.0 (helper from.1.0)) x.0 x.1 in
      omega (arith, lt, from.1.2, length-map program.shape.helpers.items core_section)

  pub graph_is : IsGraphOf program (tree_graph decls)
  graph_is = record {
    few =
        let up = as_long program.shape.helpers.items (tree_graph decls).helpers
        (λ k h at. (let r = helper_is k h at in slice_get_within (tree_graph decls).helpers k r.0 r.1)) in
        let down = as_long (tree_graph decls).helpers program.shape.helpers.items helper_known in
        omega (arith, up, down);
    helpers = helper_is;
    sections = section_is;
  }
