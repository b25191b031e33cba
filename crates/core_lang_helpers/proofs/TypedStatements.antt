-- An expansion is well typed, and assigns only to `var`s.
use Rattle.std.proofs.Common.{◌≡◌, ℕ, ◌+◌, ◌≤◌, List, [], ◌∷◌, ◌++◌, length, map, take, Option, Some, None, inl, inr}
use Rattle.std.proofs.Common.{refl, sym, ap, ◌∙◌, subst, arith, append_assoc, length-append, Vec, Global}
use Rattle.std.specs.Prelude.{slice_get, option_map, ◌≢◌}
use Rattle.std.specs.List.{Contains}
use Rattle.std.proofs.lemmas.List.{append-nil}
use Rattle.std.proofs.lemmas.List.Elements.{Contains-append_left, Contains-append_right}
use mathlib.Core.Former.{Count}
use Rattle.core_lang.specs.declared.value.ValueType.{ValueType}
use Rattle.core_lang.specs.declared.value.ValueType.TheVariants.{Integer, Reference}
use Rattle.core_lang.specs.declared.tree.Expr.{Expr}
use Rattle.core_lang.specs.declared.tree.Condition.{Condition}
use Rattle.core_lang.specs.declared.tree.LocalKind.TheVariants.{Let, Parameter, Var}
use Rattle.core_lang.specs.declared.tree.Local.{Local}
use Rattle.core_lang.specs.declared.tree.Stmt.{Stmt}
use Rattle.core_lang.specs.declared.tree.Action.{Action, Bind, SetLocal, SetGlobal, SetElement, SetField, Call, Print}
use Rattle.core_lang.specs.declared.tree.Action.{If', IfElse', While', If, IfElse, While, Row_of-Stmt, end_of-Stmt}
use Rattle.core_lang.specs.declared.tree.Action.{more_of-Stmt, items-the_row-Stmt, items_hidden-the_row-Stmt-0}
use Rattle.core_lang.specs.declared.tree.Return.{Return}
use Rattle.core_lang.specs.declared.tree.Section.{Section}
use Rattle.core_lang.specs.declared.typed.Typed.{Typed}
use Rattle.core_lang.specs.Theory.Lists.{block_of, else_of}
use Rattle.core_lang.specs.Scopes.{assigned_by, assigned_in, assigned_in_all}
use Rattle.core_lang.specs.Typing.{local_types, IsOf, AreOf, IsTest, Takes, IsWellTyped, AreWellTyped, AllWellTyped}
use Rattle.core_lang.specs.Typing.{IsResult}
use Rattle.core_lang.specs.Expansion.{Pair, pair, At, behind_bound, behind_block, one, Arguments, Bound, Bodies, Writes}
use Rattle.core_lang.specs.Expansion.{WritesRow, WritesAll, IsExpansion}
use Rattle.core_lang.specs.WrittenLocals.{LocalData, local_data, parameter_data, own_local, hidden_local, Brought}
use Rattle.core_lang.specs.WrittenLocals.{locals_by, locals_in, locals_in_all}
use Rattle.core_lang_helpers.specs.Data.{IsSameBesides}
use Rattle.core_lang_helpers.proofs.Places.{field_same, global_same, array_same}
use Rattle.core_lang_helpers.proofs.Located.{in_either, get_behind, types_of, StandsFor, IsVar, NoParameters}
use Rattle.core_lang_helpers.proofs.Located.{none_of_both, type_there, stands_more}
use Rattle.core_lang_helpers.proofs.TypedExprs.{path_typed, typed, test_typed}
use Rattle.core_lang.specs.Theory.Items.{not_in_none, in_first, in_cases, get_mapped, same_value, map_back}

-- ---- lists

assigned_append : (xs ys : List Stmt) → assigned_in_all (xs ++ ys) ≡ assigned_in_all xs ++ assigned_in_all ys
assigned_append [] ys = refl
assigned_append (x ∷ xs) ys =
    ap (λ zs. assigned_by x.action ++ zs) (assigned_append xs ys) ∙ sym (append_assoc (assigned_by x.action) (assigned_in_all xs) (assigned_in_all ys))

assigned_items : (n : Count) (row : Row_of-Stmt n) → assigned_in row ≡ assigned_in_all (items-the_row-Stmt n row)
assigned_items n end_of-Stmt = refl
assigned_items n (more_of-Stmt start x rest) = ap (λ zs. assigned_by x ++ zs) (assigned_items _ rest)

assigned_if : (c : Condition) (block : Vec Stmt Global) → assigned_by (If c block) ≡ assigned_in_all block.items
assigned_if c block = let row = block_of (If c block) in assigned_items row.0 row.1 ∙ ap assigned_in_all (items_hidden-the_row-Stmt-0 block)

assigned_while : (c : Condition) (block : Vec Stmt Global) → assigned_by (While c block) ≡ assigned_in_all block.items
assigned_while c block = let row = block_of (While c block) in assigned_items row.0 row.1 ∙ ap assigned_in_all (items_hidden-the_row-Stmt-0 block)

assigned_if_else : (c : Condition) (block otherwise : Vec Stmt Global) →
    assigned_by (IfElse c block otherwise) ≡ assigned_in_all block.items ++ assigned_in_all otherwise.items
assigned_if_else c block otherwise =
    let row = block_of (IfElse c block otherwise) in
    let row' = else_of (IfElse c block otherwise) in
    ap (λ zs. zs ++ assigned_in row'.1) (assigned_items row.0 row.1 ∙ ap assigned_in_all (items_hidden-the_row-Stmt-0 block))
    ∙ ap (λ zs. assigned_in_all block.items ++ zs) (assigned_items row'.0 row'.1 ∙ ap assigned_in_all (items_hidden-the_row-Stmt-0 otherwise))

module _ (program : Typed) (types : List ValueType) where
  both_typed : (xs ys : List Stmt) → AllWellTyped program types xs → AllWellTyped program types ys →
      AllWellTyped program types (xs ++ ys)
  both_typed [] ys h k = k
  both_typed (x ∷ xs) ys h k = (h.0, both_typed xs ys h.1 k)

  items_typed : (n : Count) (row : Row_of-Stmt n) → AllWellTyped program types (items-the_row-Stmt n row) →
      AreWellTyped program types row
  items_typed n end_of-Stmt h = tt
  items_typed n (more_of-Stmt start x rest) h = (h.0, items_typed _ rest h.1)

  if_typed : (c : Condition) (block : Vec Stmt Global) → IsTest program types c →
      AllWellTyped program types block.items → IsWellTyped program types (If c block)
  if_typed c block t h =
      let row = block_of (If c block) in
      (t, items_typed row.0 row.1 (subst (AllWellTyped program types) (sym (items_hidden-the_row-Stmt-0 block)) h))

  while_typed : (c : Condition) (block : Vec Stmt Global) → IsTest program types c →
      AllWellTyped program types block.items → IsWellTyped program types (While c block)
  while_typed c block t h =
      let row = block_of (While c block) in
      (t, items_typed row.0 row.1 (subst (AllWellTyped program types) (sym (items_hidden-the_row-Stmt-0 block)) h))

  if_else_typed : (c : Condition) (block otherwise : Vec Stmt Global) → IsTest program types c →
      AllWellTyped program types block.items →
      AllWellTyped program types otherwise.items → IsWellTyped program types (IfElse c block otherwise)
  if_else_typed c block otherwise t h k =
      let row = block_of (IfElse c block otherwise) in
      let row' = else_of (IfElse c block otherwise) in (
        t,
        items_typed row.0 row.1 (subst (AllWellTyped program types) (sym (items_hidden-the_row-Stmt-0 block)) h),
        items_typed row'.0 row'.1 (subst (AllWellTyped program types) (sym (items_hidden-the_row-Stmt-0 otherwise)) k),
      )

-- the last binding depends on the scope and on the next own number alone
bound_from : (result : Option ℕ) (r : Option Return) (a b : At) (fresh : ℕ) (last : List Stmt) →
    Bound result r a fresh last b →
    Bound result r (record a { fresh = fresh }) fresh last b
bound_from None None a b fresh last w = w
bound_from None (Some r) a b fresh last w = w
bound_from (Some k) None a b fresh last w = absurd w
bound_from (Some k) (Some r) a b fresh last w = w

-- each of these locals is a variable
abbrev pub OnlyVars : List Local → List ℕ → Type 0
OnlyVars own ks = (k : ℕ) (l : Local) → Contains ks k → slice_get own k ≡ Some l → l.kind ≡ Var

first_vars : (own : List Local) (xs ys : List ℕ) → OnlyVars own (xs ++ ys) → OnlyVars own xs
first_vars own xs ys only k l c is = only k l (Contains-append_left xs ys k c) is

other_vars : (own : List Local) (xs ys : List ℕ) → OnlyVars own (xs ++ ys) → OnlyVars own ys
other_vars own xs ys only k l c is = only k l (Contains-append_right xs ys k c) is

-- ---- properties of expanded statements

-- over all locals of the section as data: what `here` brings follows `front`
module _ (program program' : Typed) (all : List LocalData) where
  -- well typed, and assigns to variables alone
  pub record Fits (ys : List Stmt) : Type 0 where
    pub typed : AllWellTyped program' (types_of all) ys
    pub assigned : (k : ℕ) → Contains (assigned_in_all ys) k → IsVar all k

  -- and from one place to another
  pub record Keeps (own : List Local) (ys : List Stmt) (a b : At) (here : List LocalData) : Type 0 where
    pub fits : Fits ys
    pub stands : StandsFor own all b.scope
    pub fresh : b.fresh ≡ a.fresh + length here
    pub own_grows : a.own ≤ b.own
    pub further : NoParameters here

  nothing_fits : Fits []
  nothing_fits = record { typed = tt; assigned = λ k c. absurd (not_in_none k c) }

  both_fit : (xs ys : List Stmt) → Fits xs → Fits ys → Fits (xs ++ ys)
  both_fit xs ys f g = record {
    typed = both_typed program' (types_of all) xs ys f.typed g.typed;
    assigned = λ k c.
        elim (in_either (assigned_in_all xs) (assigned_in_all ys) k (subst (λ zs. Contains zs k) (assigned_append xs ys) c)) [
          | inl d ↦ f.assigned k d
          | inr d ↦ g.assigned k d
        ];
  }

  one_fits : (start : ℕ) (x : Action) → IsWellTyped program' (types_of all) x →
      ((k : ℕ) → Contains (assigned_by x) k → IsVar all k) → Fits (one start x)
  one_fits start x h assigned = record { typed = (h, tt); assigned = λ k c. assigned k (subst (λ zs. Contains zs k) (append-nil (assigned_by x)) c) }

  quiet_fits : (start : ℕ) (x : Action) → assigned_by x ≡ [] → IsWellTyped program' (types_of all) x →
      Fits (one start x)
  quiet_fits start x e h = one_fits start x h (λ k c. absurd (not_in_none k (subst (λ zs. Contains zs k) e c)))

  -- a `let` of what has the type of the one that stands there
  let_fits : (start fresh : ℕ) (e : Expr) (d : LocalData) → slice_get all fresh ≡ Some d →
      IsOf program' (types_of all) e d.value_type → Fits (one start (Bind fresh e))
  let_fits start fresh e d is h =
      quiet_fits start (Bind fresh e) refl
      (d.value_type, get_mapped (λ (z : LocalData). z.value_type) all fresh ∙ ap (option_map (λ (z : LocalData). z.value_type)) is, h)

  -- where helpers' bodies are written out, with what they bring
  pub record BodyKeeps (brings : ℕ → Brought) (helper count first : ℕ) (body : List Stmt) (r : Option Return) (fresh : ℕ) : Type 0 where
    pub section : Section
    pub found : slice_get program.shape.helpers.items helper ≡ Some section
    pub count_is : count ≡ section.parameters
    pub inner : List LocalData
    pub brought_is : (brings helper).locals ≡ map parameter_data (take section.parameters section.locals.items) ++ inner
    pub result_is : (brings helper).result_type ≡ section.result_type
    pub enough : length (take section.parameters section.locals.items) ≡ section.parameters
    pub fits : Fits body
    pub result : IsResult program' (types_of all) section.result_type r
    pub fresh_is : fresh ≡ first + length (brings helper).locals
    pub further : NoParameters (brings helper).locals

  abbrev pub BodiesKeep : Bodies → (ℕ → Brought) → Type 0
  BodiesKeep Body brings =
      (helper count first : ℕ) (body : List Stmt) (r : Option Return) (fresh : ℕ) (front rest : List LocalData) → Body helper count first body r fresh →
      length front ≡ first → all ≡ front ++ ((brings helper).locals ++ rest) → BodyKeeps brings helper count first body r fresh

  -- ---- arguments

  module _ (expands : IsExpansion program program') (same : IsSameBesides program program') where
    arguments_fit : (own : List Local) (scope : List Pair) → StandsFor own all scope →
        (start : ℕ) (es : List Expr) (ls : List Local) (fresh : ℕ) (lets : List Stmt)
        (front rest : List LocalData) → Arguments start scope es fresh lets → AreOf program (local_types own) es (local_types ls) → length front ≡ fresh →
        all ≡ front ++ (map parameter_data ls ++ rest) → Fits lets
    arguments_fit own scope stands start [] [] fresh lets front rest w h e is = subst Fits (sym w) nothing_fits
    arguments_fit own scope stands start [] (l ∷ ls) fresh lets front rest w h e is = absurd h
    arguments_fit own scope stands start (x ∷ es) [] fresh lets front rest w h e is = absurd h
    arguments_fit own scope stands start (x ∷ es) (l ∷ ls) fresh lets front rest (x', more, r, w, ws) h e is =
        let d : LocalData = parameter_data l in
        let here : slice_get all fresh ≡ Some d = ap (λ (xs : List LocalData). slice_get xs fresh) is ∙ get_behind front (map parameter_data ls ++ rest) d fresh e in
        let this = let_fits start fresh x' d here (typed program program' expands same own all scope stands x x' l.value_type r h.0) in
        let count : length (front ++ d ∷ []) ≡ fresh + 1 = omega (arith, e, length-append front (d ∷ [])) in
        let behind : all ≡ (front ++ d ∷ []) ++ (map parameter_data ls ++ rest) = is ∙ sym (append_assoc front (d ∷ []) (map parameter_data ls ++ rest)) in
        let further = arguments_fit own scope stands start es ls (fresh + 1) more (front ++ d ∷ []) rest ws h.1 count behind in
        subst Fits (sym w) (both_fit (one start (Bind fresh x')) more this further)

    -- ---- statements

    module _ (Body : Bodies) (brings : ℕ → Brought) (bodies : BodiesKeep Body brings) (own : List Local) (p : ℕ)
        (kinds : (k : ℕ) (l : Local) → slice_get own k ≡ Some l → p ≤ k → l.kind ≢ Parameter) where
      -- what is known before a statement: the locals in scope stand for those of the tree, and all so far lie in front
      pub record Ready (a : At) (front : List LocalData) : Type 0 where
        pub stands : StandsFor own all a.scope
        pub behind : p ≤ a.own
        pub count : length front ≡ a.fresh

      -- and after it
      ready_on : (a m : At) (xs : List Stmt) (front here : List LocalData) → Ready a front → Keeps own xs a m here →
          Ready m (front ++ here)
      ready_on a m xs front here ready keeps = record {
        stands = keeps.stands;
        behind = let le = ready.behind in let grows = keeps.own_grows in omega (arith, le, grows);
        count = let e = ready.count in let f = keeps.fresh in omega (arith, e, f, length-append front here);
      }

      both_keep : (a m b : At) (xs ys : List Stmt) (here there : List LocalData) → Keeps own xs a m here →
          Keeps own ys m b there → Keeps own (xs ++ ys) a b (here ++ there)
      both_keep a m b xs ys here there k l = record {
        fits = both_fit xs ys k.fits l.fits;
        stands = l.stands;
        fresh = let e = k.fresh in let f = l.fresh in omega (arith, e, f, length-append here there);
        own_grows = let g = k.own_grows in let h = l.own_grows in omega (arith, g, h);
        further = none_of_both here there k.further l.further;
      }

      -- nothing is bound
      stay : (a b : At) (ys : List Stmt) → b ≡ a → StandsFor own all a.scope → Fits ys → Keeps own ys a b []
      stay a b ys e stands fits =
          subst (λ z. Keeps own ys a z []) (sym e) (record { fits = fits; stands = stands; fresh = omega arith; own_grows = omega arith; further = tt })

      -- a statement that binds nothing
      lone : (start : ℕ) (x : Action) (a b : At) (ys : List Stmt) → ys ≡ one start x → b ≡ a →
          StandsFor own all a.scope → Fits (one start x) → Keeps own ys a b []
      lone start x a b ys w e stands fits = stay a b ys e stands (subst Fits (sym w) fits)

      -- the tree's next local is bound
      binds : (start k : ℕ) (e' : Expr) (t : ValueType) (a b : At) (ys : List Stmt) (front rest : List LocalData) →
          Ready a front →
          slice_get (local_types own) k ≡ Some t → IsOf program' (types_of all) e' t → k ≡ a.own → ys ≡ one start (Bind a.fresh e') → b ≡ behind_bound a →
          all ≡ front ++ (own_local (slice_get own k) ++ rest) → Keeps own ys a b (own_local (slice_get own k))
      binds start k e' t a b ys front rest ready has h same w f is =
          let found = map_back (λ (z : Local). z.value_type) own k t has in
          let l = found.0 in
          let d : LocalData = local_data l in
          let mine : own_local (slice_get own k) ≡ d ∷ [] = ap own_local found.1 in
          let whole : all ≡ front ++ d ∷ rest = is ∙ ap (λ (z : List LocalData). front ++ (z ++ rest)) mine in
          let here : slice_get all a.fresh ≡ Some d = ap (λ (xs : List LocalData). slice_get xs a.fresh) whole ∙ get_behind front rest d a.fresh ready.count in
          let fits = let_fits start a.fresh e' d here (subst (IsOf program' (types_of all) e') (sym found.2) h) in
          let low = ready.behind in
          let more = stands_more own all a.scope a.own a.fresh l d ready.stands (ap (slice_get own) (sym same) ∙ found.1) here refl (λ v. v) in
          let made : Keeps own ys a (behind_bound a) (d ∷ []) = record {
            fits = subst Fits (sym w) fits;
            stands = more;
            fresh = omega arith;
            own_grows = omega arith;
            further = (kinds k l found.1 (omega (arith, low, same)), tt);
          } in
          subst (Keeps own ys a b) (sym mine) (subst (λ z. Keeps own ys a z (d ∷ [])) (sym f) made)

      -- after a block, its locals are out of scope
      left : (a after : At) (ys : List Stmt) (here : List LocalData) (front : List LocalData) → Ready a front →
          Keeps own ys a after here → Keeps own ys a (behind_block a after) here
      left a after ys here front ready inner = record {
        fits = inner.fits;
        stands = ready.stands;
        fresh = inner.fresh;
        own_grows = inner.own_grows;
        further = inner.further;
      }

      -- a statement with blocks, of which these are the statements
      block_keep : (start : ℕ) (x : Action) (a after b : At) (ys inside : List Stmt) (here front : List LocalData) →
          Ready a front → Keeps own inside a after here →
          ys ≡ one start x → b ≡ behind_block a after → Fits (one start x) → Keeps own ys a b here
      block_keep start x a after b ys inside here front ready inner w f fits =
          subst (λ z. Keeps own ys a z here) (sym f) (record {
            fits = subst Fits (sym w) fits;
            stands = ready.stands;
            fresh = inner.fresh;
            own_grows = inner.own_grows;
            further = inner.further;
          })

      assigns : (start k k' : ℕ) (e' : Expr) (t : ValueType) (scope : List Pair) → StandsFor own all scope →
          Contains scope (pair k k') →
          slice_get (local_types own) k ≡ Some t → IsOf program' (types_of all) e' t → OnlyVars own (k ∷ []) → Fits (one start (SetLocal k' e'))
      assigns start k k' e' t scope stands c has h only =
          let found = stands k k' c in
          let l = found.0 in
          let d = found.1 in
          one_fits start (SetLocal k' e') (t, type_there own all k k' t l d found.2 found.3 found.4 has, h) (λ j at.
          elim (in_cases k' j [] at) [
            | inl e ↦ subst (IsVar all) e (d, found.3, found.5 (only k l (in_first k []) found.2))
            | inr none ↦ absurd (not_in_none j none)
          ])

      -- the local to which a call's result is bound
      abbrev last_here : Option ℕ → Option ValueType → List LocalData
      last_here (Some k) t = own_local (slice_get own k)
      last_here None t = hidden_local t

      last_keep : (result : Option ℕ) (r : Option Return) (t : Option ValueType) (a b : At) (last : List Stmt) (front rest : List LocalData) → Ready a front →
          Bound result r a a.fresh last b → IsResult program' (types_of all) t r → Takes program (local_types own) result t → all ≡ front ++ (last_here result t ++ rest) →
          Keeps own last a b (last_here result t)
      last_keep None None None a b last front rest ready w h takes is = stay a b last w.1 ready.stands (subst Fits (sym w.0) nothing_fits)
      last_keep None None (Some t) a b last front rest ready w h takes is = absurd h
      last_keep None (Some r) None a b last front rest ready w h takes is = absurd h
      last_keep None (Some r) (Some t) a b last front rest ready w h takes is =
          let d : LocalData = record { name = []; kind = Let; value_type = t } in
          let here : slice_get all a.fresh ≡ Some d = ap (λ (xs : List LocalData). slice_get xs a.fresh) is ∙ get_behind front rest d a.fresh ready.count in
          let made : Keeps own last a (record a { fresh = a.fresh + 1 }) (d ∷ []) = record {
            fits = subst Fits (sym w.0) (let_fits r.start a.fresh r.value d here h);
            stands = ready.stands;
            fresh = omega arith;
            own_grows = omega arith;
            further = ((λ e. absurd cc), tt);
          } in
          subst (λ z. Keeps own last a z (d ∷ [])) (sym w.1) made
      last_keep (Some k) None t a b last front rest ready w h takes is = absurd w
      last_keep (Some k) (Some r) None a b last front rest ready w h takes is = absurd h
      last_keep (Some k) (Some r) (Some t) a b last front rest ready w h takes is =
          binds r.start k r.value t a b last front rest ready takes h w.0 w.1 w.2 is

      call_keep : (k start : ℕ) (es : List Expr) (result : Option ℕ) (a b : At) (ys : List Stmt) (front rest : List LocalData) (lets body last : List Stmt) (r : Option Return)
          (fresh : ℕ) (h : Section) → Ready a front → Arguments start a.scope es a.fresh lets → Body k (length es) a.fresh body r fresh → Bound result r a fresh last b →
          ys ≡ lets ++ (body ++ last) → slice_get program.shape.helpers.items k ≡ Some h →
          AreOf program (local_types own) es (local_types (take h.parameters h.locals.items)) → Takes program (local_types own) result h.result_type →
          all ≡ front ++ (((brings k).locals ++ last_here result (brings k).result_type) ++ rest) →
          Keeps own ys a b ((brings k).locals ++ last_here result (brings k).result_type)
      call_keep k start es result a b ys front rest lets body last r fresh h ready args inside w e found are takes is =
          let mine = (brings k).locals in
          let after = last_here result (brings k).result_type in
          let whole : all ≡ front ++ (mine ++ (after ++ rest)) = is ∙ ap (λ (z : List LocalData). front ++ z) (append_assoc mine after rest) in
          let kept = bodies k (length es) a.fresh body r fresh front (after ++ rest) inside ready.count whole in
          let s = kept.section in
          let same_one : s ≡ h = same_value (slice_get program.shape.helpers.items k) s h kept.found found in
          let lets_are = subst (λ (z : Section). AreOf program (local_types own) es (local_types (take z.parameters z.locals.items))) (sym same_one) are in
          let taken : List LocalData = map parameter_data (take s.parameters s.locals.items) in
          let at_lets : all ≡ front ++ (taken ++ (kept.inner ++ (after ++ rest))) =
          whole ∙ ap (λ (z : List LocalData). front ++ (z ++ (after ++ rest))) kept.brought_is ∙ ap (λ (z : List LocalData). front ++ z) (append_assoc taken kept.inner (after ++ rest))
          in
          let first = arguments_fit own a.scope ready.stands start es (take s.parameters s.locals.items) a.fresh lets front (kept.inner ++ (after ++ rest)) args lets_are ready.count at_lets in
          let middle : At = record a { fresh = fresh } in
          let count = ready.count in
          let to = kept.fresh_is in
          let ready_last : Ready middle (front ++ mine) = record { stands = ready.stands; behind = ready.behind; count = omega (arith, count, to, length-append front mine) } in
          let result_is : (brings k).result_type ≡ h.result_type = kept.result_is ∙ ap (λ (z : Section). z.result_type) same_one in
          let returned = subst (λ (z : Option ValueType). IsResult program' (types_of all) z r) (sym kept.result_is) kept.result in
          let received = subst (λ (z : Option ValueType). Takes program (local_types own) result z) (sym result_is) takes in
          let behind : all ≡ (front ++ mine) ++ (after ++ rest) = whole ∙ sym (append_assoc front mine (after ++ rest)) in
          let bound : Bound result r middle middle.fresh last b = bound_from result r a b fresh last w in
          let end = last_keep result r (brings k).result_type middle b last (front ++ mine) rest ready_last bound returned received behind in
          record {
            fits = subst Fits (sym e) (both_fit lets (body ++ last) first (both_fit body last kept.fits end.fits));
            stands = end.stands;
            fresh = let f = end.fresh in omega (arith, f, to, length-append mine after);
            own_grows = end.own_grows;
            further = none_of_both mine after kept.further end.further;
          }

      mutual
        pub writes_keep : (x : Action) (start : ℕ) (a b : At) (ys : List Stmt) (front rest : List LocalData) →
            Ready a front → Writes Body x start a ys b →
            IsWellTyped program (local_types own) x → OnlyVars own (assigned_by x) → all ≡ front ++ (locals_by brings own x ++ rest) → Keeps own ys a b (locals_by brings own x)
        writes_keep (Bind k e) start a b ys front rest ready (e', r, same_k, w, f) h only is =
            binds start k e' h.0 a b ys front rest ready h.1 (typed program program' expands same own all a.scope ready.stands e e' h.0 r h.2) same_k w f is
        writes_keep (SetLocal k e) start a b ys front rest ready (k', e', c, r, w, f) h only is =
            lone start (SetLocal k' e') a b ys w f ready.stands
            (assigns start k k' e' h.0 a.scope ready.stands c h.1 (typed program program' expands same own all a.scope ready.stands e e' h.0 r h.2) only)
        writes_keep (SetGlobal cell e) start a b ys front rest ready (e', r, w, f) h only is =
            lone start (SetGlobal cell e') a b ys w f ready.stands
            (quiet_fits start (SetGlobal cell e') refl
            (h.0, global_same program program' expands same cell ∙ h.1, typed program program' expands same own all a.scope ready.stands e e' h.0 r h.2))
        writes_keep (SetElement array i e) start a b ys front rest ready (i', e', ri, r, w, f) h only is =
            let go = typed program program' expands same own all a.scope ready.stands in
            lone start (SetElement array i' e') a b ys w f ready.stands
            (quiet_fits start (SetElement array i' e') refl (h.0, array_same program program' expands same array ∙ h.1, go i i' Integer ri h.2, go e e' h.0 r h.3))
        writes_keep (SetField q s g e) start a b ys front rest ready (q', e', rq, r, w, f) h only is =
            lone start (SetField q' s g e') a b ys w f ready.stands
            (quiet_fits start (SetField q' s g e') refl (
              path_typed program program' expands same own all a.scope ready.stands q q' (Reference s) rq h.0,
              (h.1.0, field_same program program' expands same s g ∙ h.1.1, typed program program' expands same own all a.scope ready.stands e e' h.1.0 r h.1.2),
            ))
        writes_keep (Call k es None) start a b ys front rest ready (lets, body, last, r, fresh, args, inside, w, e) h only is =
            call_keep k start es.items None a b ys front rest lets body last r fresh h.0 ready args inside w e h.1 h.2 h.3 is
        writes_keep (Call k es (Some j)) start a b ys front rest ready (lets, body, last, r, fresh, args, inside, w, e) h only is =
            call_keep k start es.items (Some j) a b ys front rest lets body last r fresh h.0 ready args inside w e h.1 h.2 h.3 is
        writes_keep (Print e) start a b ys front rest ready (e', r, w, f) h only is =
            lone start (Print e') a b ys w f ready.stands
            (quiet_fits start (Print e') refl (typed program program' expands same own all a.scope ready.stands e e' Integer r h))
        writes_keep (If' c m block) start a b ys front rest ready (c', block', after, t, w, e, f) h only is =
            let inner = row_keep block a after block'.items front rest ready w h.1 only is in
            let test = test_typed program program' expands same own all a.scope ready.stands c c' t h.0 in
            block_keep start (If c' block') a after b ys block'.items (locals_in brings own block) front ready inner e f
            (one_fits start (If c' block') (if_typed program' (types_of all) c' block' test inner.fits.typed) (λ k d.
            inner.fits.assigned k (subst (λ zs. Contains zs k) (assigned_if c' block') d)))
        writes_keep (IfElse' c m block n otherwise) start a b ys front rest ready (c', block', otherwise', middle, after, t, w, w', e, f) h only is =
            let here = locals_in brings own block in
            let there = locals_in brings own otherwise in
            let whole : all ≡ front ++ (here ++ (there ++ rest)) = is ∙ ap (λ (z : List LocalData). front ++ z) (append_assoc here there rest) in
            let first = row_keep block a middle block'.items front (there ++ rest) ready w h.1 (first_vars own (assigned_in block) (assigned_in otherwise) only) whole in
            let between = left a middle block'.items here front ready first in
            let second = row_keep otherwise (behind_block a middle) after otherwise'.items (front ++ here) rest
            (ready_on a (behind_block a middle) block'.items front here ready between) w' h.2 (other_vars own (assigned_in block) (assigned_in otherwise) only)
            (whole ∙ sym (append_assoc front here (there ++ rest)))
            in
            let together = both_keep a (behind_block a middle) after block'.items otherwise'.items here there between second in
            let test = test_typed program program' expands same own all a.scope ready.stands c c' t h.0 in
            block_keep start (IfElse c' block' otherwise') a after b ys (block'.items ++ otherwise'.items) (here ++ there) front ready together e f
            (one_fits start (IfElse c' block' otherwise')
            (if_else_typed program' (types_of all) c' block' otherwise' test first.fits.typed second.fits.typed) (λ k d.
            together.fits.assigned k
            (subst (λ zs. Contains zs k) (assigned_if_else c' block' otherwise' ∙ sym (assigned_append block'.items otherwise'.items)) d)))
        writes_keep (While' c m body) start a b ys front rest ready (c', body', after, t, w, e, f) h only is =
            let inner = row_keep body a after body'.items front rest ready w h.1 only is in
            let test = test_typed program program' expands same own all a.scope ready.stands c c' t h.0 in
            block_keep start (While c' body') a after b ys body'.items (locals_in brings own body) front ready inner e f
            (one_fits start (While c' body') (while_typed program' (types_of all) c' body' test inner.fits.typed) (λ k d.
            inner.fits.assigned k (subst (λ zs. Contains zs k) (assigned_while c' body') d)))

        pub row_keep : {m : _} (row : Row_of-Stmt m) (a b : At) (ys : List Stmt) (front rest : List LocalData) →
            Ready a front → WritesRow Body row a ys b →
            AreWellTyped program (local_types own) row → OnlyVars own (assigned_in row) → all ≡ front ++ (locals_in brings own row ++ rest) →
            Keeps own ys a b (locals_in brings own row)
        row_keep end_of-Stmt a b ys front rest ready (e, f) h only is = stay a b ys f ready.stands (subst Fits (sym e) nothing_fits)
        row_keep (more_of-Stmt start x more) a b ys front rest ready (head, tail, middle, w, ws, e) h only is =
            let here = locals_by brings own x in
            let there = locals_in brings own more in
            let whole : all ≡ front ++ (here ++ (there ++ rest)) = is ∙ ap (λ (z : List LocalData). front ++ z) (append_assoc here there rest) in
            let first = writes_keep x start a middle head front (there ++ rest) ready w h.0 (first_vars own (assigned_by x) (assigned_in more) only) whole in
            let second = row_keep more middle b tail (front ++ here) rest (ready_on a middle head front here ready first) ws h.1
            (other_vars own (assigned_by x) (assigned_in more) only) (whole ∙ sym (append_assoc front here (there ++ rest)))
            in
            subst (λ zs. Keeps own zs a b (here ++ there)) (sym e) (both_keep a middle b head tail here there first second)

      pub all_keep : (xs : List Stmt) (a b : At) (ys : List Stmt) (front rest : List LocalData) → Ready a front →
          WritesAll Body xs a ys b →
          AllWellTyped program (local_types own) xs → OnlyVars own (assigned_in_all xs) → all ≡ front ++ (locals_in_all brings own xs ++ rest) →
          Keeps own ys a b (locals_in_all brings own xs)
      all_keep [] a b ys front rest ready (e, f) h only is = stay a b ys f ready.stands (subst Fits (sym e) nothing_fits)
      all_keep (x ∷ xs) a b ys front rest ready (head, tail, middle, w, ws, e) h only is =
          let here = locals_by brings own x.action in
          let there = locals_in_all brings own xs in
          let whole : all ≡ front ++ (here ++ (there ++ rest)) = is ∙ ap (λ (z : List LocalData). front ++ z) (append_assoc here there rest) in
          let first = writes_keep x.action x.start a middle head front (there ++ rest) ready w h.0 (first_vars own (assigned_by x.action) (assigned_in_all xs) only) whole in
          let second = all_keep xs middle b tail (front ++ here) rest (ready_on a middle head front here ready first) ws h.1
          (other_vars own (assigned_by x.action) (assigned_in_all xs) only) (whole ∙ sym (append_assoc front here (there ++ rest)))
          in
          subst (λ zs. Keeps own zs a b (here ++ there)) (sym e) (both_keep a middle b head tail here there first second)
