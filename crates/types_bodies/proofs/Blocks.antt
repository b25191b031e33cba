-- Blocks; statements and parameters one after another.
use Rattle.std.proofs.Common.{◌≡◌, Global, ℕ, ◌+◌, ◌<◌, List, [], ◌∷◌, ◌++◌, Option, Some, None, length, drop, get_or}
use Rattle.std.proofs.Common.{refl, sym, ap, ◌∙◌}
use Rattle.std.specs.Prelude.{Box, option_map, map, nat_le}
use Rattle.source.specs.declared.fault.Code.TheVariants.{LimitExceeded}
use Rattle.resolution.specs.declared.finding.Finding.{Finding}
use Rattle.syntax.specs.declared.tree.Stmt as tree_stmt
use Rattle.syntax.specs.declared.tree.Stmt.{Let, Var, While, If}
use Rattle.syntax.specs.declared.tree.If as tree_if
use Rattle.syntax.specs.declared.tree.If.{out-If}
use Rattle.syntax.specs.declared.tree.While as tree_while
use Rattle.syntax.specs.declared.tree.Block as tree_block
use Rattle.syntax.specs.declared.tree.Local as tree_local
use Rattle.syntax.specs.declared.tree.Param as tree_param
use Rattle.syntax.specs.Views.{expr_of, stmt_of, if_of, local_of, stmts_of, else_of, param_of}
use Rattle.syntax.specs.Trees.{Decl, Stmt, let_local, var_local, Stmts, no_stmts, stmt, Param, Section}
use Rattle.core_lang.specs.declared.value.ValueType as core_type
use Rattle.syntax.specs.Theory.Rows.{while_of, if_of-out}
use Rattle.core_lang.specs.declared.tree.LocalKind.TheVariants.{Parameter}
use Rattle.core_lang.specs.declared.tree.Stmt as r
use Rattle.core_lang.specs.declared.tree.Return as r_return
use Rattle.std.proofs.lemmas.List.{map-append}
use Rattle.resolution.specs.Core as core
use Rattle.resolution.specs.CoreViews.{core_stmt, core_stmts, core_return}
use Rattle.resolution.specs.declared.wanted.Want.TheVariants.{Condition}
use Rattle.types_bodies.specs.declared.stmt.BlockChecker as the_body
use Rattle.types_bodies.specs.Working.Targets.{Row, row_of, body_of, pushed_to, body_pushed}
use Rattle.resolution.specs.declared.body_limits.BodyLimits.{BodyLimits}
use Rattle.resolution.specs.Scopes.{Scope, bound, entered, outside, type_of, result_of, left}
use Rattle.resolution.specs.Working.TypedExpressions.{typed, test_resolved}
use Rattle.resolution.specs.Working.TypedStatements.{Part, does, gives, Body, given_back, preceded, typed_body}
use Rattle.resolution.specs.Working.TypedStatements.{typed_stmt, typed_if, block_of, repeats, chooses_between}
use Rattle.resolution.specs.Statements.{after, after_else, after_all, ahead_of}
use Rattle.resolution.specs.Working.TypedSections.{core_locals, section_of, section_in}
use Rattle.resolution.specs.Working.Findings.{Firsts, found_in}
use Rattle.resolution.specs.Working.FaultLists.{one_if, local_faults, type_faults, param_faults, stmt_faults}
use Rattle.resolution.specs.Working.FaultLists.{stmts_faults, wanted_faults, else_faults}
use Rattle.types_symbols.specs.Theory.Steps.{step, noted_one, noted_two, noted_three}
use Rattle.resolution.specs.Theory.Blocks.{all_decls, entered_decls}

-- ---- bodies

-- statements, and then those after them
abbrev pub stmts_before : List core.Stmt → core.Stmts → core.Stmts
stmts_before [] rest = rest
stmts_before (x ∷ xs) rest = core.stmt x.start x.action (stmts_before xs rest)

-- a body and then the rest; after a `return` there is none
abbrev pub body_and : List core.Stmt → Option core.Return → core.Stmts → Option core.Return → Option Body
body_and xs None ys q = Some (record { stmts = stmts_before xs ys; result = q })
body_and xs (Some r) core.no_stmts None = Some (record { stmts = stmts_before xs core.no_stmts; result = Some r })
body_and xs (Some r) core.no_stmts (Some q) = None
body_and xs (Some r) (core.stmt s a ys) q = None

abbrev pub body_joined : Option Row → Option Body → Option Body
body_joined (Some b) (Some rest) = body_and b.stmts b.result rest.stmts rest.result
body_joined (Some b) None = None
body_joined None rest = None

before_push : (xs : List core.Stmt) (x : core.Stmt) (rest : core.Stmts) →
    stmts_before (xs ++ x ∷ []) rest ≡ stmts_before xs (core.stmt x.start x.action rest)
before_push [] x rest = refl
before_push (y ∷ xs) x rest = ap (core.stmt y.start y.action) (before_push xs x rest)

body_step : (xs : List core.Stmt) (q : Option core.Return) (p : Part) (b : Body) →
    body_joined (pushed_to xs q p) (Some b) ≡ body_joined (Some (record { stmts = xs; result = q })) (preceded (Some p) (Some b))
body_step xs None (does x) b = ap (λ (ys : core.Stmts). Some (record { stmts = ys; result = b.result })) (before_push xs x b.stmts)
body_step xs None (gives r) b = behind b.stmts b.result
  where
    behind : (ys : core.Stmts) (s : Option core.Return) →
        body_and xs (Some r) ys s ≡ body_joined (Some (record { stmts = xs; result = None })) (given_back r ys s)
    behind core.no_stmts None = refl
    behind core.no_stmts (Some s) = refl
    behind (core.stmt y a ys) s = refl
body_step xs (Some q) (does x) b = refl
body_step xs (Some q) (gives r) b = behind b.stmts b.result
  where
    behind : (ys : core.Stmts) (s : Option core.Return) →
        None ≡ body_joined (Some (record { stmts = xs; result = Some q })) (given_back r ys s)
    behind core.no_stmts None = refl
    behind core.no_stmts (Some s) = refl
    behind (core.stmt y a ys) s = refl

none_step : (xs : List core.Stmt) (q : Option core.Return) (p : Part) → body_joined (pushed_to xs q p) None ≡ None
none_step xs None (does x) = refl
none_step xs None (gives r) = refl
none_step xs (Some q) p = refl

preceded_none : (p : Part) → preceded (Some p) None ≡ None
preceded_none (does x) = refl
preceded_none (gives r) = refl

pub body_more : (so_far : Option Row) (p : Option Part) (rest : Option Body) →
    body_joined (body_pushed so_far p) rest ≡ body_joined so_far (preceded p rest)
body_more None p rest = refl
body_more (Some b) None rest = refl
body_more (Some b) (Some p) None = none_step b.stmts b.result p ∙ sym (ap (body_joined (Some b)) (preceded_none p))
body_more (Some b) (Some p) (Some rest) = body_step b.stmts b.result p rest

stmts_all : (xs : List r.Stmt) → stmts_before (map core_stmt xs) core.no_stmts ≡ core_stmts xs
stmts_all [] = refl
stmts_all (x ∷ xs) = ap (core.stmt x.start (core_stmt x).action) (stmts_all xs)

pub body_end : (o : Option the_body.BlockChecker) →
    body_joined (option_map row_of o) (Some (record { stmts = core.no_stmts; result = None })) ≡ option_map body_of o
body_end None = refl
body_end (Some b) = last b.stmts.items (option_map core_return b.result)
  where
    last : (xs : List r.Stmt) (q : Option core.Return) →
        body_and (map core_stmt xs) q core.no_stmts None ≡ Some (record { stmts = core_stmts xs; result = q })
    last xs None = ap (λ (ys : core.Stmts). Some (record { stmts = ys; result = None })) (stmts_all xs)
    last xs (Some q) = ap (λ (ys : core.Stmts). Some (record { stmts = ys; result = Some q })) (stmts_all xs)

-- one statement more, and no `return`
pub one_more : (b : the_body.BlockChecker) (xs : List r.Stmt) (x : r.Stmt) → b.stmts.items ≡ xs ++ x ∷ [] → b.result ≡ None →
    Some (row_of b) ≡ pushed_to (map core_stmt xs) None (does (core_stmt x))
one_more b xs x is none =
    ap (λ (q : Option r_return.Return). Some (record { stmts = map core_stmt b.stmts.items; result = option_map core_return q })) none
    ∙ ap (λ (ys : List core.Stmt). Some (record { stmts = ys; result = None })) (ap (map core_stmt) is ∙ map-append core_stmt xs (x ∷ []))

-- ---- statements one after another

pub stmt_step : (sc sc' : Scope) (items : List tree_stmt.Stmt) (i : ℕ) (item : tree_stmt.Stmt) (so_far new : Option Row) (p : Option Part) (whole : Option Body) →
    i < length items → item ≡ get_or items i item → new ≡ body_pushed so_far p → p ≡ typed_stmt sc (stmt_of item) → sc' ≡ after sc (stmt_of item) →
    body_joined so_far (typed_body sc (stmts_of (drop i items))) ≡ whole → body_joined new (typed_body sc' (stmts_of (drop (i + 1) items))) ≡ whole
stmt_step sc sc' items i item so_far new p whole lt is made one behind before =
    let rest = drop (i + 1) items in
    step (λ ss. body_joined so_far (typed_body sc (stmts_of ss))) (λ ss. body_joined new (typed_body sc' (stmts_of ss))) items i item whole lt is
    (ap (λ (n : Option Row). body_joined n (typed_body sc' (stmts_of rest))) made
    ∙ body_more so_far p (typed_body sc' (stmts_of rest))
    ∙ ap (λ (y : Option Part). body_joined so_far (preceded y (typed_body sc' (stmts_of rest)))) one
    ∙ ap (λ (z : Scope). body_joined so_far (preceded (typed_stmt sc (stmt_of item)) (typed_body z (stmts_of rest)))) behind)
    before

pub stmt_fault_step : (sc sc' : Scope) (items : List tree_stmt.Stmt) (i : ℕ) (item : tree_stmt.Stmt) (f g whole : Firsts) →
    i < length items → item ≡ get_or items i item → g ≡ found_in f (stmt_faults sc (stmt_of item)) → sc' ≡ after sc (stmt_of item) →
    found_in f (stmts_faults sc (stmts_of (drop i items))) ≡ whole → found_in g (stmts_faults sc' (stmts_of (drop (i + 1) items))) ≡ whole
stmt_fault_step sc sc' items i item f g whole lt is one behind before =
    let rest = drop (i + 1) items in
    step (λ ss. found_in f (stmts_faults sc (stmts_of ss))) (λ ss. found_in g (stmts_faults sc' (stmts_of ss))) items i item whole lt is
    (ap (λ (z : Scope). found_in g (stmts_faults z (stmts_of rest))) behind ∙ noted_one f g (stmt_faults sc (stmt_of item)) (stmts_faults (after sc (stmt_of item)) (stmts_of rest)) one)
    before

-- ---- parameters

pub param_fault_step : (sc sc' : Scope) (items : List tree_param.Param) (i : ℕ) (item : tree_param.Param) (f g h k whole : Firsts) →
    i < length items → item ≡ get_or items i item →
    g ≡ found_in f (local_faults sc (param_of item).name) → h ≡ found_in g (one_if (nat_le sc.limits.parameters i) LimitExceeded (param_of item).name.span.start) →
    k ≡ found_in h (type_faults (outside sc.decls) (param_of item).value_type) → sc' ≡ bound sc Parameter (param_of item).name (type_of (outside sc.decls) (param_of item).value_type) →
    found_in f (param_faults sc i (map param_of (drop i items))) ≡ whole → found_in k (param_faults sc' (i + 1) (map param_of (drop (i + 1) items))) ≡ whole
param_fault_step sc sc' items i item f g h k whole lt is one two three behind before =
    let p = param_of item in
    let rest = map param_of (drop (i + 1) items) in
    step (λ ps. found_in f (param_faults sc i (map param_of ps))) (λ ps. found_in k (param_faults sc' (i + 1) (map param_of ps))) items i item whole lt is
    (ap (λ (z : Scope). found_in k (param_faults z (i + 1) rest)) behind
    ∙ noted_three f g h k (local_faults sc p.name) (one_if (nat_le sc.limits.parameters i) LimitExceeded p.name.span.start) (type_faults (outside sc.decls) p.value_type) (param_faults (bound sc Parameter p.name (type_of (outside sc.decls) p.value_type)) (i + 1) rest) one two three)
    before

-- ---- a whole section

module _ (sc : Scope) (s : Section) (inner end : Scope) (locals : Option (List core.Local)) (body : Option Body) where
  pub section_is : inner ≡ entered sc s.params → body ≡ typed_body inner s.body.stmts →
      end ≡ after_all inner s.body.stmts → locals ≡ core_locals end.locals →
      section_of end.decls s locals body ≡ section_in sc s
  section_is hi hb he hl =
      let begun = entered sc s.params in
      let last : end ≡ after_all begun s.body.stmts = he ∙ ap (λ (z : Scope). after_all z s.body.stmts) hi in
      let same : end.decls ≡ sc.decls = ap (λ (z : Scope). z.decls) last ∙ all_decls begun s.body.stmts ∙ entered_decls sc s.params in
      ap (λ (x : List Decl). section_of x s locals body) same
      ∙ ap (λ (x : Option (List core.Local)). section_of sc.decls s x body) (hl ∙ ap (λ (z : Scope). core_locals z.locals) last)
      ∙ ap (λ (x : Option Body). section_of sc.decls s (core_locals (after_all begun s.body.stmts).locals) x) (hb ∙ ap (λ (z : Scope). typed_body z s.body.stmts) hi)

-- the scope that a checker begins with
pub begun_is : (ds : List Decl) (limits : BodyLimits) (s : Section) (result : Option core_type.ValueType) (start : Scope) → result ≡ result_of ds s → start ≡ record (outside ds) { result = result; limits = limits } → start ≡ ahead_of ds limits s
begun_is ds limits s result start hr hs = hs ∙ ap (λ (r : Option core_type.ValueType). record (outside ds) { result = r; limits = limits }) hr

-- ---- loops and choices

-- a local, read through the box
pub let_seen : (s : tree_stmt.Stmt) (b : Box tree_local.Local Global) (x : tree_local.Local) → s ≡ Let b →
    x ≡ b.value → let_local (local_of x) ≡ stmt_of s
let_seen s b x is hx = ap (λ (l : tree_local.Local). let_local (local_of l)) hx ∙ sym (ap stmt_of is)

pub var_seen : (s : tree_stmt.Stmt) (b : Box tree_local.Local Global) (x : tree_local.Local) → s ≡ Var b →
    x ≡ b.value → var_local (local_of x) ≡ stmt_of s
var_seen s b x is hx = ap (λ (l : tree_local.Local). var_local (local_of l)) hx ∙ sym (ap stmt_of is)

-- a choice, read through the box
pub if_seen : (s : tree_stmt.Stmt) (b : Box tree_if.If Global) (x : tree_if.If) → s ≡ If b → x ≡ b.value →
    if_of x ≡ stmt_of s
if_seen s b x is hx = ap if_of hx ∙ sym (ap stmt_of is)

-- a loop by its parts
module _ (sc : Scope) (loop : tree_while.While) where
  pub while_value : (p : Option Part) (cond : Option core.Condition) (block : Option core.Stmts) →
      p ≡ repeats loop.start.start cond block →
      cond ≡ test_resolved (typed sc (expr_of loop.condition)) → block ≡ block_of (typed_body sc (stmts_of loop.block.stmts.items)) → p ≡ typed_stmt sc (while_of loop)
  while_value p cond block hp hc hb =
      hp ∙ ap (λ c. repeats loop.start.start c block) hc ∙ ap (repeats loop.start.start (test_resolved (typed sc (expr_of loop.condition)))) hb

  pub while_faults : (f g h : Firsts) → g ≡ found_in f (wanted_faults sc Condition (expr_of loop.condition)) →
      h ≡ found_in g (stmts_faults sc (stmts_of loop.block.stmts.items)) →
      h ≡ found_in f (stmt_faults sc (while_of loop))
  while_faults f g h hg hh = hh ∙ noted_one f g (wanted_faults sc Condition (expr_of loop.condition)) (stmts_faults sc (stmts_of loop.block.stmts.items)) hg

-- a choice by its parts, where the scope after its block is sc2
module _ (sc sc2 : Scope) (choice : tree_if.If) (behind : sc2 ≡ left sc (after_all sc (stmts_of (out-If choice).block.stmts.items))) where
  pub if_value : (cond : Option core.Condition) (block : Option core.Stmts) (p : Option Part) →
      cond ≡ test_resolved (typed sc (expr_of (out-If choice).condition)) →
      block ≡ block_of (typed_body sc (stmts_of (out-If choice).block.stmts.items)) → p ≡ typed_if sc2 (out-If choice).start.start cond block (else_of (out-If choice).otherwise) →
      p ≡ typed_stmt sc (if_of choice)
  if_value cond block p hc hb hp =
      let at = (out-If choice).start.start in
      let other = else_of (out-If choice).otherwise in
      let body = stmts_of (out-If choice).block.stmts.items in
      hp ∙ ap (λ z. typed_if z at cond block other) behind
      ∙ ap (λ c. typed_if (left sc (after_all sc body)) at c block other) hc
      ∙ ap (λ b. typed_if (left sc (after_all sc body)) at (test_resolved (typed sc (expr_of (out-If choice).condition))) b other) hb
      ∙ ap (typed_stmt sc) (sym (if_of-out choice))

  pub if_faults : (f g h k : Firsts) →
      g ≡ found_in f (wanted_faults sc Condition (expr_of (out-If choice).condition)) →
      h ≡ found_in g (stmts_faults sc (stmts_of (out-If choice).block.stmts.items)) → k ≡ found_in h (else_faults sc2 (else_of (out-If choice).otherwise)) →
      k ≡ found_in f (stmt_faults sc (if_of choice))
  if_faults f g h k hg hh hk =
      let other = else_of (out-If choice).otherwise in
      let body = stmts_of (out-If choice).block.stmts.items in
      hk ∙ ap (λ z. found_in h (else_faults z other)) behind
      ∙ noted_two f g h (wanted_faults sc Condition (expr_of (out-If choice).condition)) (stmts_faults sc body) (else_faults (left sc (after_all sc body)) other) hg hh
      ∙ ap (λ s. found_in f (stmt_faults sc s)) (sym (if_of-out choice))

  pub if_scope : (sc3 : Scope) → sc3 ≡ after_else sc2 (else_of (out-If choice).otherwise) →
      sc3 ≡ after sc (if_of choice)
  if_scope sc3 made = made ∙ ap (λ z. after_else z (else_of (out-If choice).otherwise)) behind ∙ ap (after sc) (sym (if_of-out choice))

-- what follows `else`
pub otherwise_value : (sc : Scope) (start : ℕ) (cond : Option core.Condition) (block inner : Option core.Stmts) (other : Option tree_block.Block) (b : tree_block.Block) (p : Option Part) → other ≡ Some b →
    inner ≡ block_of (typed_body sc (stmts_of b.stmts.items)) → p ≡ chooses_between start cond block inner → p ≡ typed_if sc start cond block (else_of other)
otherwise_value sc start cond block inner other b p is hi hp =
    hp ∙ ap (chooses_between start cond block) hi ∙ ap (λ (o : Option tree_block.Block). typed_if sc start cond block (else_of o)) (sym is)
