-- The sizes of statements and of helpers: the measure of recursion through the table of helpers.
use Rattle.std.proofs.Common.{◌≡◌, ℕ, zero, suc, ◌+◌, ◌*◌, ◌<◌, ◌≤◌, List, [], ◌∷◌, length, refl, ap, ◌∙◌, add-one}
use Rattle.std.proofs.Common.{arith, Vec, Global}
use Rattle.std.specs.Prelude.{slice_get, slice_index_or, Some}
use mathlib.Core.Former.{Count}
use Rattle.core_lang.specs.declared.tree.Condition.{Condition}
use Rattle.core_lang.specs.declared.tree.Stmt.{Stmt}
use Rattle.core_lang.specs.declared.tree.Action.{Action, If, IfElse, While, If', IfElse', While', Row_of-Stmt}
use Rattle.core_lang.specs.declared.tree.Action.{end_of-Stmt, more_of-Stmt, items-the_row-Stmt}
use Rattle.core_lang.specs.declared.tree.Action.{items_hidden-the_row-Stmt-0}
use Rattle.core_lang.specs.declared.tree.Section.{Section}
use Rattle.core_lang.specs.Theory.Lists.{block_of, else_of}
use Rattle.core_lang_helpers.specs.declared.body.BodyWriter.{BodyWriter}
use Rattle.core_lang_helpers.specs.Working.Bodies.{IsCallee}

abbrev mutual
  pub size : Action → ℕ
  size (If' c m block) = 1 + size_row block
  size (IfElse' c m block k otherwise) = 1 + (size_row block + size_row otherwise)
  size (While' c m body) = 1 + size_row body
  size _ = 1

  pub size_row : {m : _} → Row_of-Stmt m → ℕ
  size_row end_of-Stmt = 0
  size_row (more_of-Stmt start x rest) = size x + size_row rest

abbrev pub sizes : List Stmt → ℕ
sizes [] = 0
sizes (s ∷ ss) = size s.action + sizes ss

abbrev pub all_sizes : List Section → ℕ
all_sizes [] = 0
all_sizes (h ∷ hs) = sizes h.body.items + all_sizes hs

-- the least decrease by a call of a helper
abbrev pub step : List Section → ℕ
step helpers = 4 * all_sizes helpers + 4

size_items : (n : Count) (row : Row_of-Stmt n) → size_row row ≡ sizes (items-the_row-Stmt n row)
size_items n end_of-Stmt = refl
size_items n (more_of-Stmt start x rest) = ap (λ k. size x + k) (size_items _ rest)

size_vec : (block : Vec Stmt Global) (n : Count) (row : Row_of-Stmt n) → items-the_row-Stmt n row ≡ block.items →
    size_row row ≡ sizes block.items
size_vec block n row e = size_items n row ∙ ap sizes e

pub size_if : (c : Condition) (block : Vec Stmt Global) → size (If c block) ≡ 1 + sizes block.items
size_if c block = let row = block_of (If c block) in ap (λ k. 1 + k) (size_vec block row.0 row.1 (items_hidden-the_row-Stmt-0 block))

pub size_while : (c : Condition) (block : Vec Stmt Global) → size (While c block) ≡ 1 + sizes block.items
size_while c block = let row = block_of (While c block) in ap (λ k. 1 + k) (size_vec block row.0 row.1 (items_hidden-the_row-Stmt-0 block))

pub size_if_else : (c : Condition) (block other : Vec Stmt Global) →
    size (IfElse c block other) ≡ 1 + (sizes block.items + sizes other.items)
size_if_else c block other =
    let row = block_of (IfElse c block other) in
    let row' = else_of (IfElse c block other) in
    ap (λ k. 1 + (k + size_row row'.1)) (size_vec block row.0 row.1 (items_hidden-the_row-Stmt-0 block))
    ∙ ap (λ k. 1 + (sizes block.items + k)) (size_vec other row'.0 row'.1 (items_hidden-the_row-Stmt-0 other))

pub within : (ss : List Stmt) (k : ℕ) (s : Stmt) → k < length ss → s ≡ slice_index_or ss k s → size s.action ≤ sizes ss
within [] k s lt e = absurd (omega (arith, lt))
within (x ∷ xs) zero s lt e = let z = ap (λ (y : Stmt). size y.action) e in omega (arith, z)
within (x ∷ xs) (suc k) s lt e = let r = within xs k s (omega (arith, lt)) e in omega (arith, r)

pub helper_within : (hs : List Section) (k : ℕ) (h : Section) → slice_get hs k ≡ Some h →
    sizes h.body.items ≤ all_sizes hs
helper_within [] k h e = absurd cc
helper_within (x ∷ xs) zero h e = let same : x ≡ h = cc in let z = ap (λ (v : Section). sizes v.body.items) same in omega (arith, z)
helper_within (x ∷ xs) (suc k) h e = let r = helper_within xs k h e in omega (arith, r)

falls : (x y z w all own many : ℕ) → x ≡ y → z ≡ y + w → w ≡ 4 * all + 4 → own ≤ all → x + (4 * own + 3) < z + 4 * many
falls x y z w all own many e f g le = omega (arith, e, f, g, le)

suc_times : (e w : ℕ) → suc e * w ≡ e * w + w
suc_times e w = grind arith

one_deeper : (d e w : ℕ) → d ≡ e + 1 → d * w ≡ e * w + w
one_deeper d e w is = ap (λ k. k * w) (is ∙ add-one e) ∙ suc_times e w

-- from a call to the body of its helper
pub call_falls : (body helper : BodyWriter) (number count : ℕ) (action : Action) → IsCallee body number count helper →
    helper.depth * step helper.shape.now.helpers.items + (4 * sizes helper.section.now.body.items + 3) < body.depth * step body.shape.now.helpers.items + 4 * size action
call_falls body helper number count action callee =
    let same = ap (λ x. helper.depth * step x.now.helpers.items) callee.shape in
    let deeper = one_deeper body.depth helper.depth (step body.shape.now.helpers.items) callee.depth in
    let small = helper_within body.shape.now.helpers.items number helper.section.now callee.found in
    falls _ _ _ (step body.shape.now.helpers.items) _ _ (size action) same deeper refl small
