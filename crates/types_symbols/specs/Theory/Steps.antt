-- One turn of a loop over a list, of one that keeps the least fault so far, and of one over scopes; and what a look-up
-- finds. Nobody has to believe these equations: they are proved here, for proofs of this crate and of the crates above.
use Rattle.std.specs.Prelude.{OnOk}
use Rattle.std.proofs.Common.{◌≡◌, ℕ, ◌+◌, ◌<◌, List, ◌∷◌, ◌++◌, Option, Some, None, Result, Ok, Err, length, map, drop}
use Rattle.std.proofs.Common.{get_or, sym, ap, ◌∙◌}
use Rattle.resolution.specs.declared.finding.Finding.{Finding}
use Rattle.resolution.specs.Working.Findings.{Firsts, found_in}
use Rattle.resolution.specs.Theory.Leasts.{found_append}
use Rattle.syntax.specs.declared.tree.Param as tree_param
use Rattle.syntax.specs.declared.tree.Stmt as tree_stmt
use Rattle.syntax.specs.Views.{stmt_of, stmts_of, param_of}
use Rattle.core_lang.specs.declared.tree.LocalKind.TheVariants.{Parameter}
use Rattle.core_lang.specs.Theory.Items.{next_of}
use Rattle.resolution.specs.Scopes.{Scope, bound, entered, outside, type_of}
use Rattle.resolution.specs.Statements.{after, after_all}

pub step : {A R : Type 0} (go next : List A → R) (items : List A) (i : ℕ) (item : A) (whole : R) → i < length items →
    item ≡ get_or items i item →
    next (drop (i + 1) items) ≡ go (item ∷ drop (i + 1) items) → go (drop i items) ≡ whole → next (drop (i + 1) items) ≡ whole
step go next items i item whole lt is turn before = turn ∙ ap go (sym (next_of items i item lt is)) ∙ before

pub noted_one : (f g : Firsts) (a rest : List Finding) → g ≡ found_in f a →
    found_in g rest ≡ found_in f (a ++ rest)
noted_one f g a rest hg = ap (λ x. found_in x rest) hg ∙ sym (found_append f a rest)

pub noted_two : (f g h : Firsts) (a b rest : List Finding) → g ≡ found_in f a → h ≡ found_in g b →
    found_in h rest ≡ found_in f (a ++ b ++ rest)
noted_two f g h a b rest hg hh = noted_one f h (a ++ b) rest (hh ∙ noted_one f g a b hg)

pub noted_three : (f g h k : Firsts) (a b c rest : List Finding) → g ≡ found_in f a → h ≡ found_in g b →
    k ≡ found_in h c → found_in k rest ≡ found_in f (a ++ b ++ c ++ rest)
noted_three f g h k a b c rest hg hh hk = noted_one f k (a ++ b ++ c) rest (hk ∙ noted_two f g h a b c hg hh)

-- ---- scopes, statement by statement and parameter by parameter

pub scope_step : (sc sc' whole : Scope) (items : List tree_stmt.Stmt) (i : ℕ) (item : tree_stmt.Stmt) →
    i < length items → item ≡ get_or items i item → sc' ≡ after sc (stmt_of item) →
    after_all sc (stmts_of (drop i items)) ≡ whole → after_all sc' (stmts_of (drop (i + 1) items)) ≡ whole
scope_step sc sc' whole items i item lt is behind before =
    step (λ ss. after_all sc (stmts_of ss)) (λ ss. after_all sc' (stmts_of ss)) items i item whole lt is
    (ap (λ (z : Scope). after_all z (stmts_of (drop (i + 1) items))) behind)
    before

pub param_step : (sc sc' whole : Scope) (items : List tree_param.Param) (i : ℕ) (item : tree_param.Param) →
    i < length items → item ≡ get_or items i item →
    sc' ≡ bound sc Parameter (param_of item).name (type_of (outside sc.decls) (param_of item).value_type) →
    entered sc (map param_of (drop i items)) ≡ whole → entered sc' (map param_of (drop (i + 1) items)) ≡ whole
param_step sc sc' whole items i item lt is behind before =
    step (λ ps. entered sc (map param_of ps)) (λ ps. entered sc' (map param_of ps)) items i item whole lt is
    (ap (λ (z : Scope). entered z (map param_of (drop (i + 1) items))) behind)
    before

-- ---- results

pub on_ok_by : {A E : Type 0} {P Q : Type 0} (r : Result A E) → (P → Q) → OnOk r P → OnOk r Q
on_ok_by (Ok x) f p = f p
on_ok_by (Err e) f p = tt

pub on_ok : {A E : Type 0} {P : Type 0} (r : Result A E) → P → OnOk r P
on_ok (Ok x) p = p
on_ok (Err e) p = tt

-- the result of a look-up, by the name as it is in the tree
module _ {A B : Type 0} (view : A → B) (meant : List ℕ → Option (ℕ × B)) (q text : List ℕ) (same : q ≡ text) where
  pub found_as : (place : ℕ) (a b : A) → Some (place, view a) ≡ meant q → a ≡ b → meant text ≡ Some (place, view b)
  found_as place a b here is = sym (here ∙ ap meant same) ∙ ap (λ (x : A). Some (place, view x)) is

  pub missed_as : None ≡ meant q → meant text ≡ None
  missed_as none = sym (none ∙ ap meant same)
