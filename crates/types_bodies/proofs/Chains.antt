-- Chains and their links, one after another.
use Rattle.std.proofs.Common.{◌≡◌, ℕ, ◌+◌, ◌<◌, List, [], ◌∷◌, ◌++◌, Option, Some, None, Vec, Global, length, drop, get_or, refl, sym, ap, ◌∙◌, append_assoc, inl, inr}
use Rattle.std.specs.Prelude.{option_map, ◌⊎◌}
use Rattle.syntax.specs.declared.tree.Operator as syntax_operator
use Rattle.resolution.specs.declared.finding.Finding.{Finding}
use Rattle.syntax.specs.declared.tree.Level.{Level}
use Rattle.syntax.specs.declared.tree.Level.TheVariants.{Term, Sum, Conjunction, Disjunction}
use Rattle.syntax.specs.declared.tree.Expr as tree
use Rattle.syntax.specs.declared.tree.Joined as joined
use Rattle.syntax.specs.declared.tree.Joined.{Pair, Chain}
use Rattle.syntax.specs.declared.tree.Link as tree_link
use Rattle.syntax.specs.declared.tree.Comparison as written
use Rattle.syntax.specs.Trees.{Expr, Links, no_links, link, chain, compare}
use Rattle.core_lang.specs.declared.tree.Operator.{Operator}
use Rattle.core_lang.specs.declared.tree.Operation as o
use Rattle.core_lang.specs.declared.tree.Expr as r
use Rattle.core_lang.specs.declared.tree.Condition as rc
use Rattle.syntax.specs.Views.{expr_of, joined_of, links_of}
use Rattle.syntax.specs.Grammar.{level_of}
use Rattle.syntax.specs.Theory.Rows.{joined_of-Chain}
use Rattle.resolution.specs.Core as core
use Rattle.resolution.specs.CoreViews.{core_expr, core_condition, core_operations, core_conditions}
use Rattle.resolution.specs.Scopes.{Scope}
use Rattle.resolution.specs.Expressions.{ResolvedExpr, operator_of}
use Rattle.resolution.specs.Working.TypedExpressions.{Tests, tested, compared, typed, typed_links, typed_tests, chained}
use Rattle.resolution.specs.Working.TypedExpressions.{linked, number_resolved, test_resolved, all_hold, one_holds}
use Rattle.resolution.specs.Faults.{start_of}
use Rattle.resolution.specs.Where.{side_want}
use Rattle.resolution.specs.declared.wanted.Want.{Want}
use Rattle.resolution.specs.Working.Findings.{Firsts, found_in}
use Rattle.resolution.specs.Working.FaultLists.{expr_faults, link_faults, operator_faults, misfit, side_faults, wanted_faults}
use Rattle.types_bodies.specs.Working.Parts.{pushed, operation_with, SoFar, so_far, tests_with, first_test}
use Rattle.types_bodies.specs.Working.ResolvedExprs.{tests_of, holds}
use Rattle.types_bodies.specs.declared.resolved_expr.Tests as the_tests
use Rattle.core_lang.specs.declared.value.ValueType.TheVariants.{Integer}
use Rattle.resolution.specs.declared.wanted.Want.TheVariants.{Condition, Value}
use Rattle.resolution.specs.Theory.Leasts.{found_append}
use Rattle.types_symbols.specs.Theory.Steps.{step, noted_one, noted_two, noted_three}

-- ---- operations

abbrev pub operations_before : List o.Operation → core.Operations → core.Operations
operations_before [] rest = rest
operations_before (x ∷ xs) rest = core.operation x.operator (core_expr x.operand) (operations_before xs rest)

abbrev pub operations_joined : Option (List o.Operation) → Option core.Operations → Option core.Operations
operations_joined (Some xs) (Some rest) = Some (operations_before xs rest)
operations_joined (Some xs) None = None
operations_joined None rest = None

operations_push : (xs : List o.Operation) (op : Operator) (x : r.Expr) (rest : core.Operations) → operations_before (xs ++ record { operator = op; operand = x } ∷ []) rest ≡ operations_before xs (core.operation op (core_expr x) rest)
operations_push [] op x rest = refl
operations_push (y ∷ xs) op x rest = ap (core.operation y.operator (core_expr y.operand)) (operations_push xs op x rest)

pub operations_with : (before : Option (List o.Operation)) (op : Option Operator) (x : Option r.Expr) (rest : Option core.Operations) → operations_joined (pushed before (operation_with op x)) rest ≡ operations_joined before (linked op (option_map core_expr x) rest)
operations_with None op x rest = refl
operations_with (Some xs) None x rest = refl
operations_with (Some xs) (Some op) None rest = refl
operations_with (Some xs) (Some op) (Some x) None = refl
operations_with (Some xs) (Some op) (Some x) (Some rest) = ap Some (operations_push xs op x rest)

operations_all : (xs : List o.Operation) → operations_before xs core.no_operations ≡ core_operations xs
operations_all [] = refl
operations_all (x ∷ xs) = ap (core.operation x.operator (core_expr x.operand)) (operations_all xs)

pub operations_end : (v : Option (Vec o.Operation Global)) → operations_joined (option_map (λ os. os.items) v) (Some core.no_operations) ≡ option_map (λ os. core_operations os.items) v
operations_end None = refl
operations_end (Some v) = ap Some (operations_all v.items)

-- ---- tests

abbrev pub conditions_before : List rc.Condition → core.Conditions → core.Conditions
conditions_before [] rest = rest
conditions_before (x ∷ xs) rest = core.condition (core_condition x) (conditions_before xs rest)

abbrev pub put_before : List rc.Condition → Option Tests → Option Tests
put_before xs (Some ts) = Some (record { before = conditions_before xs ts.before; last = ts.last })
put_before xs None = None

-- what there is, and then the operands of the links
abbrev pub tests_joined : Scope → Option SoFar → Links → Option Tests
tests_joined sc (Some t) links = put_before t.before (typed_tests sc (Some (core_condition t.last)) links)
tests_joined sc None links = None

tests_none : (sc : Scope) (links : Links) → typed_tests sc None links ≡ None
tests_none sc no_links = refl
tests_none sc (link p e rest) = refl

before_push : (xs : List rc.Condition) (x : rc.Condition) (rest : core.Conditions) → conditions_before (xs ++ x ∷ []) rest ≡ conditions_before xs (core.condition (core_condition x) rest)
before_push [] x rest = refl
before_push (y ∷ xs) x rest = ap (core.condition (core_condition y)) (before_push xs x rest)

put_push : (xs : List rc.Condition) (x : rc.Condition) (ts : Option Tests) → put_before (xs ++ x ∷ []) ts ≡ put_before xs (tested (Some (core_condition x)) ts)
put_push xs x None = refl
put_push xs x (Some ts) = ap (λ (cs : core.Conditions). Some (record { before = cs; last = ts.last })) (before_push xs x ts.before)

pub tests_more : (sc : Scope) (before : Option SoFar) (p : syntax_operator.Operator) (e : Expr) (x : Option rc.Condition) (rest : Links) → option_map core_condition x ≡ test_resolved (typed sc e) → tests_joined sc (tests_with before x) rest ≡ tests_joined sc before (link p e rest)
tests_more sc None p e x rest is = refl
tests_more sc (Some t) p e None rest is =
    sym (ap (λ (c : Option core.Condition). put_before t.before (tested (Some (core_condition t.last)) (typed_tests sc c rest))) (sym is) ∙ ap (λ (ts : Option Tests). put_before t.before (tested (Some (core_condition t.last)) ts)) (tests_none sc rest))
tests_more sc (Some t) p e (Some x) rest is =
    put_push t.before t.last (typed_tests sc (Some (core_condition x)) rest)
    ∙ ap (λ (c : Option core.Condition). put_before t.before (tested (Some (core_condition t.last)) (typed_tests sc c rest))) is

pub tests_first : (sc : Scope) (x : Option rc.Condition) (links : Links) → tests_joined sc (first_test x) links ≡ typed_tests sc (option_map core_condition x) links
tests_first sc None links = sym (tests_none sc links)
tests_first sc (Some x) links = whole (typed_tests sc (Some (core_condition x)) links)
  where
    whole : (ts : Option Tests) → put_before [] ts ≡ ts
    whole None = refl
    whole (Some ts) = refl

conditions_all : (xs : List rc.Condition) → conditions_before xs core.no_conditions ≡ core_conditions xs
conditions_all [] = refl
conditions_all (x ∷ xs) = ap (core.condition (core_condition x)) (conditions_all xs)

pub tests_end : (sc : Scope) (t : Option the_tests.Tests) → tests_joined sc (option_map so_far t) no_links ≡ option_map tests_of t
tests_end sc None = refl
tests_end sc (Some t) = ap (λ (cs : core.Conditions). Some (record { before = cs; last = core_condition t.last })) (conditions_all t.before.items)

-- ---- the chain

pub chain_seen : (e : joined.Joined) (k : Level) (first : tree.Expr) (links : Vec tree_link.Link Global) (items : List tree_link.Link)
    → e ≡ Chain k first links → items ≡ links.items → chain k (expr_of first) (links_of items) ≡ joined_of e
chain_seen e k first links items is links_is =
    ap (λ x. chain k (expr_of first) (links_of x)) links_is ∙ sym (ap joined_of is ∙ joined_of-Chain k first links)

-- the faults of further operands are the same on both levels
term_faults : (sc : Scope) (ls : Links) → link_faults sc Term ls ≡ link_faults sc Sum ls
term_faults sc no_links = refl
term_faults sc (link o e rest) = ap (λ (fs : List Finding). operator_faults Sum (start_of e) o ++ expr_faults sc e ++ misfit (Value Integer) (start_of e) (typed sc e) ++ fs) (term_faults sc rest)

either_faults : (sc : Scope) (ls : Links) → link_faults sc Disjunction ls ≡ link_faults sc Conjunction ls
either_faults sc no_links = refl
either_faults sc (link o e rest) = ap (λ (fs : List Finding). expr_faults sc e ++ misfit Condition (start_of e) (typed sc e) ++ fs) (either_faults sc rest)

module _ (sc : Scope) (e : Expr) (ls : Links) where
  numbers_chain : (k : Level) → (k ≡ Term) ⊎ (k ≡ Sum) → chained (number_resolved (typed sc e)) (typed_links sc ls) ≡ typed sc (chain k e ls)
  numbers_chain Term h = refl
  numbers_chain Sum h = refl
  numbers_chain Conjunction (inl h) = absurd (cc)
  numbers_chain Conjunction (inr h) = absurd (cc)
  numbers_chain Disjunction (inl h) = absurd (cc)
  numbers_chain Disjunction (inr h) = absurd (cc)

  tests_chain : (k : Level) (ts : Option Tests) → (k ≡ Conjunction) ⊎ (k ≡ Disjunction) → ts ≡ typed_tests sc (test_resolved (typed sc e)) ls → holds k ts ≡ typed sc (chain k e ls)
  tests_chain Term ts (inl h) is = absurd (cc)
  tests_chain Term ts (inr h) is = absurd (cc)
  tests_chain Sum ts (inl h) is = absurd (cc)
  tests_chain Sum ts (inr h) is = absurd (cc)
  tests_chain Conjunction None h is = ap all_hold is
  tests_chain Conjunction (Some ts) h is = ap all_hold is
  tests_chain Disjunction None h is = ap one_holds is
  tests_chain Disjunction (Some ts) h is = ap one_holds is

  numbers_blamed : (k : Level) (f g : Firsts) → (k ≡ Term) ⊎ (k ≡ Sum) → g ≡ found_in f (wanted_faults sc (Value Integer) e) → found_in g (link_faults sc Sum ls) ≡ found_in f (expr_faults sc (chain k e ls))
  numbers_blamed Term f g h is = ap (found_in g) (sym (term_faults sc ls)) ∙ noted_one f g (wanted_faults sc (Value Integer) e) (link_faults sc Term ls) is
  numbers_blamed Sum f g h is = noted_one f g (wanted_faults sc (Value Integer) e) (link_faults sc Sum ls) is
  numbers_blamed Conjunction f g (inl h) is = absurd (cc)
  numbers_blamed Conjunction f g (inr h) is = absurd (cc)
  numbers_blamed Disjunction f g (inl h) is = absurd (cc)
  numbers_blamed Disjunction f g (inr h) is = absurd (cc)

  tests_blamed : (k : Level) (f g : Firsts) → (k ≡ Conjunction) ⊎ (k ≡ Disjunction) → g ≡ found_in f (wanted_faults sc Condition e) → found_in g (link_faults sc Conjunction ls) ≡ found_in f (expr_faults sc (chain k e ls))
  tests_blamed Conjunction f g h is = noted_one f g (wanted_faults sc Condition e) (link_faults sc Conjunction ls) is
  tests_blamed Disjunction f g h is = ap (found_in g) (sym (either_faults sc ls)) ∙ noted_one f g (wanted_faults sc Condition e) (link_faults sc Disjunction ls) is
  tests_blamed Term f g (inl h) is = absurd (cc)
  tests_blamed Term f g (inr h) is = absurd (cc)
  tests_blamed Sum f g (inl h) is = absurd (cc)
  tests_blamed Sum f g (inr h) is = absurd (cc)

-- a chain that an expression is, by what its first operand and its links are
module _ (sc : Scope) (k : Level) (first : Expr) (ls : Links) (e : Expr) (whole : chain k first ls ≡ e) where
  pub numbers_value : (a : Option core.Expr) (b : Option core.Operations) → (k ≡ Term) ⊎ (k ≡ Sum) → a ≡ number_resolved (typed sc first) → b ≡ typed_links sc ls → chained a b ≡ typed sc e
  numbers_value a b kind ha hb = ap (λ x. chained x b) ha ∙ ap (chained (number_resolved (typed sc first))) hb ∙ numbers_chain sc first ls k kind ∙ ap (typed sc) whole

  pub tests_value : (a : Option core.Condition) (b : Option Tests) → (k ≡ Conjunction) ⊎ (k ≡ Disjunction) → a ≡ test_resolved (typed sc first) → b ≡ typed_tests sc a ls → holds k b ≡ typed sc e
  tests_value a b kind ha hb = tests_chain sc first ls k b kind (hb ∙ ap (λ x. typed_tests sc x ls) ha) ∙ ap (typed sc) whole

  pub numbers_faults : (f g m : Firsts) → (k ≡ Term) ⊎ (k ≡ Sum) → g ≡ found_in f (wanted_faults sc (Value Integer) first) → m ≡ found_in g (link_faults sc Sum ls) → m ≡ found_in f (expr_faults sc e)
  numbers_faults f g m kind hg hm = hm ∙ numbers_blamed sc first ls k f g kind hg ∙ ap (λ x. found_in f (expr_faults sc x)) whole

  pub tests_faults : (f g m : Firsts) → (k ≡ Conjunction) ⊎ (k ≡ Disjunction) → g ≡ found_in f (wanted_faults sc Condition first) → m ≡ found_in g (link_faults sc Conjunction ls) → m ≡ found_in f (expr_faults sc e)
  tests_faults f g m kind hg hm = hm ∙ tests_blamed sc first ls k f g kind hg ∙ ap (λ x. found_in f (expr_faults sc x)) whole

-- ---- a comparison

pub side_blamed : (sc : Scope) (w : Want) (e : Expr) (start : ℕ) (v : Option ResolvedExpr) (f g h : Firsts) → start ≡ start_of e → v ≡ typed sc e
    → g ≡ found_in f (expr_faults sc e) → h ≡ found_in g (misfit w start v) → h ≡ found_in f (wanted_faults sc w e)
side_blamed sc w e start v f g h at is hg hh =
    hh ∙ ap (λ (p : ℕ). found_in g (misfit w p v)) at ∙ ap (λ (x : Option ResolvedExpr). found_in g (misfit w (start_of e) x)) is
    ∙ noted_one f g (expr_faults sc e) (misfit w (start_of e) (typed sc e)) hg

module _ (sc : Scope) (c : written.Comparison) (a b e : Expr) (whole : compare a c b ≡ e) where
  pub sides_value : (left : Option ResolvedExpr) → left ≡ typed sc a → compared c left (typed sc b) ≡ typed sc e
  sides_value left is = ap (λ (x : Option ResolvedExpr). compared c x (typed sc b)) is ∙ ap (typed sc) whole

  pub sides_faults : (start : ℕ) (left : Option ResolvedExpr) (f g h : Firsts) → start ≡ start_of a → left ≡ typed sc a → g ≡ found_in f (wanted_faults sc (side_want c) a)
      → h ≡ found_in g (wanted_faults sc (side_want c) b ++ side_faults c start (start_of b) left (typed sc b)) → h ≡ found_in f (expr_faults sc e)
  sides_faults start left f g h at is hg hh =
      let first = wanted_faults sc (side_want c) a in
      let right = wanted_faults sc (side_want c) b in
      let last = side_faults c (start_of a) (start_of b) (typed sc a) (typed sc b) in
      hh ∙ ap (λ (p : ℕ). found_in g (right ++ side_faults c p (start_of b) left (typed sc b))) at
      ∙ ap (λ (x : Option ResolvedExpr). found_in g (right ++ side_faults c (start_of a) (start_of b) x (typed sc b))) is
      ∙ noted_one f g first (right ++ last) hg
      ∙ ap (found_in f) (sym (append_assoc first right last) ∙ ap (λ (l : List Finding). l ++ last) (sym (append_assoc first (expr_faults sc b) (misfit (side_want c) (start_of b) (typed sc b)))))
      ∙ ap (λ (x : Expr). found_in f (expr_faults sc x)) whole

module _ (sc : Scope) (c : written.Comparison) (b : Expr) where
  -- by the right side
  pub second_side : (start p : ℕ) (left v : Option ResolvedExpr) (w : Want) (f g h : Firsts) → w ≡ side_want c → p ≡ start_of b → v ≡ typed sc b → g ≡ found_in f (wanted_faults sc w b)
      → h ≡ found_in g (side_faults c start p left v) → h ≡ found_in f (wanted_faults sc (side_want c) b ++ side_faults c start (start_of b) left (typed sc b))
  second_side start p left v w f g h want at is hg hh =
      hh ∙ ap (λ (q : ℕ). found_in g (side_faults c start q left v)) at
      ∙ ap (λ (x : Option ResolvedExpr). found_in g (side_faults c start (start_of b) left x)) is
      ∙ noted_one f g (wanted_faults sc (side_want c) b) (side_faults c start (start_of b) left (typed sc b)) (hg ∙ ap (λ (x : Want). found_in f (wanted_faults sc x b)) want)

-- ---- a chain of two operands

pub pair_seen : (e : joined.Joined) (op : syntax_operator.Operator) (left right : tree.Expr) (k : Level) → e ≡ Pair op left right → k ≡ level_of op
    → chain k (expr_of left) (link op (expr_of right) no_links) ≡ joined_of e
pair_seen e op left right k is level = ap (λ x. chain x (expr_of left) (link op (expr_of right) no_links)) level ∙ sym (ap joined_of is)

behind_nothing : (o : Option core.Operations) → operations_joined (Some []) o ≡ o
behind_nothing None = refl
behind_nothing (Some o) = refl

-- its one operation
pub one_operation : (sc : Scope) (op : syntax_operator.Operator) (right : Expr) (none : List o.Operation) (p : Option Operator) (x : Option r.Expr) (made : Option (Vec o.Operation Global))
    → none ≡ [] → p ≡ operator_of op → option_map core_expr x ≡ number_resolved (typed sc right)
    → option_map (λ os. os.items) made ≡ pushed (Some none) (operation_with p x)
    → option_map (λ os. core_operations os.items) made ≡ typed_links sc (link op right no_links)
one_operation sc op right none p x made empty hp hx is =
    sym (operations_end made)
    ∙ ap (λ (n : Option (List o.Operation)). operations_joined n (Some core.no_operations)) (is ∙ ap (λ (n : List o.Operation). pushed (Some n) (operation_with p x)) empty)
    ∙ operations_with (Some []) p x (Some core.no_operations)
    ∙ behind_nothing (linked p (option_map core_expr x) (Some core.no_operations))
    ∙ ap (λ (y : Option core.Expr). linked p y (Some core.no_operations)) hx
    ∙ ap (λ (q : Option Operator). linked q (number_resolved (typed sc right)) (Some core.no_operations)) hp

-- its two tests
pub two_tests : (sc : Scope) (op : syntax_operator.Operator) (right : Expr) (first x : Option rc.Condition) (one made : Option the_tests.Tests)
    → option_map so_far one ≡ first_test first → option_map core_condition x ≡ test_resolved (typed sc right)
    → option_map so_far made ≡ tests_with (option_map so_far one) x
    → option_map tests_of made ≡ typed_tests sc (option_map core_condition first) (link op right no_links)
two_tests sc op right first x one made alone hx is =
    sym (tests_end sc made)
    ∙ ap (λ (n : Option SoFar). tests_joined sc n no_links) (is ∙ ap (λ (n : Option SoFar). tests_with n x) alone)
    ∙ tests_more sc (first_test first) op right x no_links hx
    ∙ tests_first sc first (link op right no_links)

pub one_link_faults : (sc : Scope) (op : syntax_operator.Operator) (e : Expr) (start : ℕ) (f g h : Firsts) → start ≡ start_of e → g ≡ found_in f (operator_faults Sum start op)
    → h ≡ found_in g (wanted_faults sc (Value Integer) e) → h ≡ found_in f (link_faults sc Sum (link op e no_links))
one_link_faults sc op e start f g h hstart hg hh =
    noted_three f g (found_in g (expr_faults sc e)) h (operator_faults Sum (start_of e) op) (expr_faults sc e) (misfit (Value Integer) (start_of e) (typed sc e)) []
    (hg ∙ ap (λ (n : ℕ). found_in f (operator_faults Sum n op)) hstart) refl (hh ∙ found_append g (expr_faults sc e) (misfit (Value Integer) (start_of e) (typed sc e)))

pub second_test_faults : (sc : Scope) (op : syntax_operator.Operator) (e : Expr) (f g : Firsts) → g ≡ found_in f (wanted_faults sc Condition e)
    → g ≡ found_in f (link_faults sc Conjunction (link op e no_links))
second_test_faults sc op e f g hg =
    noted_two f (found_in f (expr_faults sc e)) g (expr_faults sc e) (misfit Condition (start_of e) (typed sc e)) []
    refl (hg ∙ found_append f (expr_faults sc e) (misfit Condition (start_of e) (typed sc e)))

-- ---- one link more

module _ (sc : Scope) (items : List tree_link.Link) (i : ℕ) (item : tree_link.Link) (lt : i < length items) (is : item ≡ get_or items i item) where
  pub link_step : (before new : Option (List o.Operation)) (op : Option Operator) (x : Option r.Expr) (whole : Option core.Operations) →
      new ≡ pushed before (operation_with op x) → op ≡ operator_of item.op → option_map core_expr x ≡ number_resolved (typed sc (expr_of item.operand)) →
      operations_joined before (typed_links sc (links_of (drop i items))) ≡ whole → operations_joined new (typed_links sc (links_of (drop (i + 1) items))) ≡ whole
  link_step before new op x whole made hop hx inv =
      let rest = typed_links sc (links_of (drop (i + 1) items)) in
      step (λ ls. operations_joined before (typed_links sc (links_of ls))) (λ ls. operations_joined new (typed_links sc (links_of ls))) items i item whole lt is
      (ap (λ (n : Option (List o.Operation)). operations_joined n rest) made
      ∙ operations_with before op x rest
      ∙ ap (λ (y : Option core.Expr). operations_joined before (linked op y rest)) hx
      ∙ ap (λ (p : Option Operator). operations_joined before (linked p (number_resolved (typed sc (expr_of item.operand))) rest)) hop)
      inv

  pub test_step : (before new : Option SoFar) (x : Option rc.Condition) (whole : Option Tests) →
      new ≡ tests_with before x → option_map core_condition x ≡ test_resolved (typed sc (expr_of item.operand)) →
      tests_joined sc before (links_of (drop i items)) ≡ whole → tests_joined sc new (links_of (drop (i + 1) items)) ≡ whole
  test_step before new x whole made hx inv =
      let rest = links_of (drop (i + 1) items) in
      step (λ ls. tests_joined sc before (links_of ls)) (λ ls. tests_joined sc new (links_of ls)) items i item whole lt is
      (ap (λ (n : Option SoFar). tests_joined sc n rest) made ∙ tests_more sc before item.op (expr_of item.operand) x rest hx)
      inv

  pub link_fault_step : (start : ℕ) (f g h : Firsts) {whole : Firsts} → start ≡ start_of (expr_of item.operand) →
      g ≡ found_in f (operator_faults Sum start item.op) → h ≡ found_in g (wanted_faults sc (Value Integer) (expr_of item.operand)) →
      found_in f (link_faults sc Sum (links_of (drop i items))) ≡ whole → found_in h (link_faults sc Sum (links_of (drop (i + 1) items))) ≡ whole
  link_fault_step start f g h {whole} hstart hg hh inv =
      let x = expr_of item.operand in
      step (λ ls. found_in f (link_faults sc Sum (links_of ls))) (λ ls. found_in h (link_faults sc Sum (links_of ls))) items i item whole lt is
      (noted_three f g (found_in g (expr_faults sc x)) h (operator_faults Sum (start_of x) item.op) (expr_faults sc x) (misfit (Value Integer) (start_of x) (typed sc x)) (link_faults sc Sum (links_of (drop (i + 1) items)))
      (hg ∙ ap (λ (n : ℕ). found_in f (operator_faults Sum n item.op)) hstart) refl (hh ∙ found_append g (expr_faults sc x) (misfit (Value Integer) (start_of x) (typed sc x))))
      inv

  pub test_fault_step : (f g : Firsts) {whole : Firsts} → g ≡ found_in f (wanted_faults sc Condition (expr_of item.operand)) →
      found_in f (link_faults sc Conjunction (links_of (drop i items))) ≡ whole → found_in g (link_faults sc Conjunction (links_of (drop (i + 1) items))) ≡ whole
  test_fault_step f g {whole} hg inv =
      let x = expr_of item.operand in
      step (λ ls. found_in f (link_faults sc Conjunction (links_of ls))) (λ ls. found_in g (link_faults sc Conjunction (links_of ls))) items i item whole lt is
      (noted_two f (found_in f (expr_faults sc x)) g (expr_faults sc x) (misfit Condition (start_of x) (typed sc x)) (link_faults sc Conjunction (links_of (drop (i + 1) items)))
      refl (hg ∙ found_append f (expr_faults sc x) (misfit Condition (start_of x) (typed sc x))))
      inv
