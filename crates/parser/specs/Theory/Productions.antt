-- The law of expressions, and of conditions.
use Rattle.std.proofs.Common.{◌≡◌, ℕ, zero, suc, ◌+◌, ◌<◌, ◌≤◌, Bool, true, false, cond, List, [], ◌∷◌, Option, Some}
use Rattle.std.proofs.Common.{None, Ok, refl, sym, ap, ◌∙◌, subst, arith, le_trans, le_refl}
use Rattle.std.specs.Prelude.{IfSome}
use Rattle.source.specs.declared.span.Span.{Span}
use Rattle.source.specs.declared.token.Sign.{Sign}
use Rattle.source.specs.declared.token.Keyword.TheVariants as keyword
use Rattle.source.specs.declared.token.Sign.TheVariants as sign
use Rattle.source.specs.declared.token.Sign.TheVariants.{OpenParen, CloseParen, OpenBracket, CloseBracket, Semicolon}
use Rattle.source.specs.declared.token.Sign.TheVariants.{Dot, DoubleEquals, NotEquals, LessEquals, GreaterEquals}
use Rattle.source.specs.declared.token.Sign.TheVariants.{Plus, Minus, Star, Slash, Percent}
use Rattle.source.specs.Tokens.{Lexeme, name, word, mark, end, Tok}
use Rattle.source.specs.Tokens as lexeme
use Rattle.syntax.specs.declared.tree.Operator.{Operator}
use Rattle.syntax.specs.declared.tree.Operator.TheVariants.{Add, Sub, Mul, Div, Rem, And, Or}
use Rattle.syntax.specs.declared.tree.Level.{Level}
use Rattle.syntax.specs.declared.tree.Level.TheVariants.{Term, Sum, Conjunction, Disjunction}
use Rattle.syntax.specs.declared.tree.Prefix.{Prefix}
use Rattle.syntax.specs.declared.tree.Prefix.TheVariants.{Negate, Not}
use Rattle.syntax.specs.declared.tree.Comparison.{Comparison}
use Rattle.syntax.specs.declared.tree.Comparison.TheVariants.{Equal, NotEqual, Less, LessOrEqual, Greater}
use Rattle.syntax.specs.declared.tree.Comparison.TheVariants.{GreaterOrEqual}
use Rattle.syntax.specs.Trees.{Ident, Place, lone, element, path, Expr, int, null, place, paren, prefix, compare}
use Rattle.syntax.specs.Trees.{Links, no_links, link}
use Rattle.syntax.specs.Grammar.{tok, name_tok, sign_of, level_of, prefix_sign, comparison_sign, rank, below, PRIM}
use Rattle.syntax.specs.Grammar.{UNARY, SUM, COMPARED, ANY, AreMany, no_more, IsAfter, IsName, is_name, IsPlace}
use Rattle.syntax.specs.Grammar.{is_lone, is_element, is_path, IsExpr, is_int, is_null, is_place, is_paren, is_prefix}
use Rattle.syntax.specs.Grammar.{is_chain, is_compare, IsLinks, are_no_links, is_link, open_after, IsOpening}
use Rattle.parser.specs.Working.Reading.{◌>>=◌, Reader, same_sign, refused, choose}
use Rattle.parser.specs.Working.Expressions.{op_of, before_rest, op_at, link_from, next_link, add_link, links_at}
use Rattle.parser.specs.Working.Expressions.{chained, chain_at, element_at, fields_at, path_at, alone_at, place_at}
use Rattle.parser.specs.Working.Expressions.{in_parens, parens_at, prim_from, prim_with, prefix_of, prefix_from}
use Rattle.parser.specs.Working.Expressions.{prefix_at, unary_from, unary_with, comparison_of, comparison_at}
use Rattle.parser.specs.Working.Expressions.{compared_from, compared_with, sum_with, operand_with, level_with}
use Rattle.parser.specs.Working.Expressions.{inside_at, prim_at, operand_at, expr_at, ended_at, condition_at}
use Rattle.parser.specs.Theory.Law.{same_sign-true, LawAt, Then, Says, Law, then_law, last_law, give_law, at_rest}
use Rattle.parser.specs.Theory.Law.{said, implies, Head, refuses, deepens, takes, first_law, prefixed, IsTok, is_tok}
use Rattle.parser.specs.Theory.Laws.{NextAt, NextLaw, SaysNext, many_law, weaken_at}
use Rattle.parser.specs.Theory.Joined.{Done, done, Both, both, nowhere, Part, ends_with, then_part, then_open}
use Rattle.parser.specs.Theory.Joined.{production, sign_part, name_part, after_each_part, choose_law, weaken_law}
use Rattle.parser.specs.Theory.PartLaws.{zero_tok}

abbrev pub zero_expr : Expr
zero_expr = int (record { value = 0; span = nowhere })

abbrev no_ident : Ident
no_ident = record { text = []; span = nowhere }

-- what the parts of places and parentheses make

parens_is : {y : Expr} {at : Span} {ts rest : List Tok} →
    Both (IsExpr ANY) (λ e. Both (IsTok (mark CloseParen)) (λ c. Done (paren at e))) y ts rest →
    IsExpr PRIM y (tok (mark OpenParen) at ∷ ts) rest
parens_is (both e (both is_tok done)) = is_paren e

place_is : {x : Ident} {y : Expr} {ts rest : List Tok} →
    Both (at_rest IsPlace (name_tok x)) (λ p. Done (place p)) y ts rest → IsExpr PRIM y (name_tok x ∷ ts) rest
place_is (both p done) = is_place p

element_is : {x : Ident} {y : Place} {ts rest : List Tok} →
    Both (IsTok (mark OpenBracket)) (λ b. Both (IsExpr ANY) (λ e. Both (IsTok (mark CloseBracket))
    (λ c. Done (element x e)))) y ts rest → IsPlace y (name_tok x ∷ ts) rest
element_is (both is_tok (both e (both is_tok done))) = is_element e

-- one field or more, each after a dot
pub data IsFields : List Ident → List Tok → List Tok → Type 0 where
  is_fields : {first : Ident} {more : List Ident} {dot : Span} {ts rest : List Tok} →
      AreMany (IsAfter Dot IsName) more ts rest →
      IsFields (first ∷ more) (tok (mark Dot) dot ∷ name_tok first ∷ ts) rest

fields_is : {y : List Ident} {ts rest : List Tok} →
    Both (IsTok (mark Dot)) (λ d. Both IsName (λ first. Both (AreMany (IsAfter Dot IsName))
    (λ more. Done (first ∷ more)))) y ts rest → IsFields y ts rest
fields_is (both is_tok (both is_name (both more done))) = is_fields more

path_is : {x : Ident} {y : Place} {ts rest : List Tok} → Both IsFields (λ fs. Done (path x fs)) y ts rest →
    IsPlace y (name_tok x ∷ ts) rest
path_is (both (is_fields more) done) = is_path more

-- an expression of lower rank is also one of higher rank
pub raise : {n m : ℕ} {e : Expr} {ts rest : List Tok} → n ≤ m → IsExpr n e ts rest → IsExpr m e ts rest
raise le is_int = is_int
raise le is_null = is_null
raise le (is_place h) = is_place h
raise le (is_paren h) = is_paren h
raise le (is_prefix low h) = is_prefix (le_trans low le) h
raise le (is_chain low first more) = is_chain (le_trans low le) first more
raise le (is_compare low a b) = is_compare (le_trans low le) a b

below_rank : (k : Level) → below k ≤ rank k
below_rank Term = omega arith
below_rank Sum = omega arith
below_rank Conjunction = omega arith
below_rank Disjunction = omega arith

pub chained_is : (k : Level) (x : Expr) (l : Links) (ts mid rest : List Tok) → IsExpr (below k) x ts mid →
    IsLinks k l mid rest → IsExpr (rank k) (chained k x l) ts rest
chained_is k x no_links ts mid rest first are_no_links = raise (below_rank k) first
chained_is k x (link op y more) ts mid rest first ls = is_chain (le_refl (rank k)) first ls

-- the token of an operator
pub op_meant : (k : Level) (kind : Lexeme) →
    IfSome (op_of k kind) (λ op. (kind ≡ mark (sign_of op)) × (level_of op ≡ k))
op_meant Sum (mark Plus) = (refl, refl)
op_meant Sum (mark Minus) = (refl, refl)
op_meant Term (mark Star) = (refl, refl)
op_meant Term (mark Slash) = (refl, refl)
op_meant Term (mark Percent) = (refl, refl)
op_meant Conjunction (mark sign.And) = (refl, refl)
op_meant Disjunction (mark sign.Or) = (refl, refl)
op_meant _ _ = tt

op_level : (op : Operator) (d : ℕ) → open_after d (mark (sign_of op)) ≡ d
op_level Add d = refl
op_level Sub d = refl
op_level Mul d = refl
op_level Div d = refl
op_level Rem d = refl
op_level And d = refl
op_level Or d = refl

op_no_opening : (op : Operator) → IsOpening (mark (sign_of op)) → ⊥
op_no_opening Add h = h
op_no_opening Sub h = h
op_no_opening Mul h = h
op_no_opening Div h = h
op_no_opening Rem h = h
op_no_opening And h = h
op_no_opening Or h = h

-- an operator and its operand
pub record IsLink (k : Level) (o : Operator × Expr) (ts rest : List Tok) : Type 0 where
  pub at : Span
  pub operand : List Tok
  pub level : level_of o.0 ≡ k
  pub first : ts ≡ tok (mark (sign_of o.0)) at ∷ operand
  pub is : IsExpr (below k) o.1 operand rest

link_is : (k : Level) (o : Operator × Expr) (l : Links) (ts mid rest : List Tok) → IsLink k o ts mid →
    IsLinks k l mid rest → IsLinks k (link o.0 o.1 l) ts rest
link_is k o l ts mid rest a b =
    subst (λ (us : List Tok). IsLinks k (link o.0 o.1 l) us rest) (sym a.first)
    (subst (λ (j : Level). IsLinks j (link o.0 o.1 l) (tok (mark (sign_of o.0)) a.at ∷ a.operand) rest) a.level
    (is_link (subst (λ (j : Level). IsExpr (below j) o.1 a.operand mid) (sym a.level) a.is)
    (subst (λ (j : Level). IsLinks j l mid rest) (sym a.level) b)))

module _ (limit : ℕ) where
  module _ (operand : Reader Expr) (k : Level) (d : ℕ) (law : Law limit (IsExpr (below k)) operand 1 d d) where
    abbrev linked : Operator → Reader (Operator × Expr)
    linked op ts = operand ts >>= λ x. Ok ((op, x.0), x.1)

    found_link : (t : Tok) (ts : List Tok) (o : Option Operator) → op_of k t.kind ≡ o →
        IfSome o (λ op. (t.kind ≡ mark (sign_of op)) × (level_of op ≡ k)) →
        NextAt limit (IsLink k) (next_link operand k) d (t ∷ ts) (link_from operand (before_rest o ts))
    unfolding op_at
    found_link t ts None e h = λ other same. ap (λ (us : List Tok). next_link operand k us) same.1 ∙ ap
        (λ o. link_from operand (before_rest o same.0)) e
    found_link t ts (Some op) e h =
        let stays : open_after d t.kind ≡ d = ap (open_after d) h.0 ∙ op_level op d in
        let inner : Law limit (at_rest (IsLink k) t) (linked op) 1 d d =
        last_law limit (IsExpr (below k)) (at_rest (IsLink k) t) operand (λ x. (op, x)) 1 d d law
        (λ x rest ts1 is1. record {
          at = t.span;
          operand = ts1;
          level = h.1;
          first = ap
              (λ (j : Lexeme). tok j t.span ∷ ts1) h.0;
          is = is1;
        }) in
        prefixed limit (IsLink k) (Says (linked op)) (SaysNext (next_link operand k)) 1 d d t
        (λ us q s. ap (λ o. link_from operand (before_rest o us)) e ∙ ap Some s) ts
        (λ bad. op_is_no_end op (sym h.0 ∙ bad)) (λ o. absurd (op_no_opening op (subst IsOpening h.0 o)))
        (linked op ts) (subst (λ n. LawAt limit (at_rest (IsLink k) t) (Says (linked op)) 1 n d ts (linked op ts))
        (sym stays) (inner ts))
      where
        op_is_no_end : (op : Operator) → mark (sign_of op) ≡ end → ⊥
        op_is_no_end op e = cc

    next_link_law : NextLaw limit (IsLink k) (next_link operand k) d
    unfolding op_at
    next_link_law [] = λ other same. ap (λ (us : List Tok). next_link operand k us) same
    next_link_law (t ∷ ts) = found_link t ts (op_of k t.kind) refl (op_meant k t.kind)

    pub links_law : Law limit (IsLinks k) (links_at operand k) 0 d d
    links_law = many_law limit (IsLink k) (IsLinks k) no_links add_link (next_link operand k) d next_link_law
        (λ ts. are_no_links) (λ x l ts mid rest a b. link_is k x l ts mid rest a b)

    pub chain_law : Law limit (IsExpr (rank k)) (chain_at operand k) 1 d d
    unfolding chain_at
    chain_law =
        then_law limit (IsExpr (below k)) (IsExpr (rank k)) operand (λ x ts. links_at operand k ts >>= λ l. Ok
        (chained k x l.0, l.1)) 1 0 d d d law (λ rest. (
          rest,
          λ x. (
            chained k x no_links,
            λ ts first. chained_is k x
                no_links ts rest rest first are_no_links,
          ),
        )) (λ x. last_law limit (IsLinks k)
        (Then (IsExpr (below k)) (IsExpr (rank k)) x) (links_at operand k) (chained k x) 0 d d links_law
        (λ l rest ts1 ls ts2 first. chained_is k x l ts2 ts1 rest first ls))

  -- ---- operators before an operand

  prefix_meant : (kind : Lexeme) → IfSome (prefix_of kind) (λ op. kind ≡ mark (prefix_sign op))
  prefix_meant (mark Minus) = refl
  prefix_meant (mark sign.Not) = refl
  prefix_meant _ = tt

  prefix_level : (op : Prefix) (d : ℕ) → open_after d (mark (prefix_sign op)) ≡ d
  prefix_level Negate d = refl
  prefix_level Not d = refl

  prefix_no_opening : (op : Prefix) → IsOpening (mark (prefix_sign op)) → ⊥
  prefix_no_opening Negate h = h
  prefix_no_opening Not h = h

  prefix_is_no_end : (op : Prefix) → mark (prefix_sign op) ≡ end → ⊥
  prefix_is_no_end op e = cc

  module _ (prim : Reader Expr) (d : ℕ) (law : Law limit (IsExpr PRIM) prim 1 d d) where
    abbrev prefixed_by : Prefix → Span → Reader Expr
    prefixed_by op at ts = prim ts >>= λ e. Ok (prefix op at e.0, e.1)

    found_prefix : (t : Tok) (ts : List Tok) (o : Option Prefix) → prefix_of t.kind ≡ o →
        IfSome o (λ op. t.kind ≡ mark (prefix_sign op)) →
        LawAt limit (IsExpr UNARY) (Says (unary_with prim)) 1 d d (t ∷ ts)
        (unary_from prim (prefix_from o t.span ts) (t ∷ ts))
    unfolding unary_with prefix_at
    found_prefix t ts None e h = said limit (IsExpr UNARY) (Says prim) (Says (unary_with prim)) 1 d d (t ∷ ts)
        (λ us q same s. ap (λ (vs : List Tok). unary_with prim vs) same.1 ∙ ap
        (λ o. unary_from prim (prefix_from o t.span same.0) (t ∷ same.0)) e ∙ ap prim (sym same.1) ∙ s) (prim (t ∷ ts))
        (implies limit (IsExpr PRIM) (IsExpr UNARY) (Says prim) 1 d d (t ∷ ts) (λ x us rest is. raise (omega arith) is)
        (prim (t ∷ ts)) (law (t ∷ ts)))
    found_prefix t ts (Some op) e h =
        let stays : open_after d t.kind ≡ d = ap (open_after d) h ∙ prefix_level op d in
        let same : t ≡ tok (mark (prefix_sign op)) t.span = ap (λ (k : Lexeme). tok k t.span) h in
        let inner : Law limit (at_rest (IsExpr UNARY) t) (prefixed_by op t.span) 1 d d =
        last_law limit (IsExpr PRIM) (at_rest (IsExpr UNARY) t) prim (prefix op t.span) 1 d d law
        (λ x rest ts1 is. subst (λ (u : Tok). IsExpr UNARY (prefix op t.span x) (u ∷ ts1) rest) (sym same)
        (is_prefix (omega arith) is)) in
        prefixed limit (IsExpr UNARY) (Says (prefixed_by op t.span)) (Says (unary_with prim)) 1 d d t
        (λ us q s. ap (λ o. unary_from prim (prefix_from o t.span us) (t ∷ us)) e ∙ s) ts
        (λ bad. prefix_is_no_end op (sym h ∙ bad)) (λ o. absurd (prefix_no_opening op (subst IsOpening h o)))
        (prefixed_by op t.span ts) (subst (λ n. LawAt limit (at_rest (IsExpr UNARY) t)
        (Says (prefixed_by op t.span)) 1 n d ts (prefixed_by op t.span ts)) (sym stays) (inner ts))

    unary_nothing : LawAt limit (IsExpr UNARY) (Says (unary_with prim)) 1 d d [] (prim [])
    unfolding unary_with prefix_at
    unary_nothing = said limit (IsExpr UNARY) (Says prim) (Says (unary_with prim)) 1 d d []
        (λ us q same s. ap (λ (vs : List Tok). unary_with prim vs) same ∙ ap prim (sym same) ∙ s) (prim [])
        (implies limit (IsExpr PRIM) (IsExpr UNARY) (Says prim) 1 d d [] (λ x us rest is. raise (omega arith) is)
        (prim []) (law []))

    pub unary_law : Law limit (IsExpr UNARY) (unary_with prim) 1 d d
    unfolding unary_with prefix_at
    unary_law [] = unary_nothing
    unary_law (t ∷ ts) = found_prefix t ts (prefix_of t.kind) refl (prefix_meant t.kind)

  -- ---- comparisons

  comparison_meant : (kind : Lexeme) → IfSome (comparison_of kind) (λ c. kind ≡ mark (comparison_sign c))
  comparison_meant (mark DoubleEquals) = refl
  comparison_meant (mark NotEquals) = refl
  comparison_meant (mark sign.Less) = refl
  comparison_meant (mark LessEquals) = refl
  comparison_meant (mark sign.Greater) = refl
  comparison_meant (mark GreaterEquals) = refl
  comparison_meant _ = tt

  comparison_level : (c : Comparison) (d : ℕ) → open_after d (mark (comparison_sign c)) ≡ d
  comparison_level Equal d = refl
  comparison_level NotEqual d = refl
  comparison_level Less d = refl
  comparison_level LessOrEqual d = refl
  comparison_level Greater d = refl
  comparison_level GreaterOrEqual d = refl

  comparison_no_opening : (c : Comparison) → IsOpening (mark (comparison_sign c)) → ⊥
  comparison_no_opening Equal h = h
  comparison_no_opening NotEqual h = h
  comparison_no_opening Less h = h
  comparison_no_opening LessOrEqual h = h
  comparison_no_opening Greater h = h
  comparison_no_opening GreaterOrEqual h = h

  comparison_is_no_end : (c : Comparison) → mark (comparison_sign c) ≡ end → ⊥
  comparison_is_no_end c e = cc

  module _ (sum : Reader Expr) (d : ℕ) (law : Law limit (IsExpr SUM) sum 1 d d) (x : Expr) where
    abbrev IsRight : Expr → List Tok → List Tok → Type 0
    IsRight = Then (IsExpr SUM) (IsExpr COMPARED) x

    abbrev right_at : Reader Expr
    right_at ts = compared_from sum x (comparison_at ts) ts

    abbrev compared_by : Comparison → Reader Expr
    compared_by c ts = sum ts >>= λ r. Ok (compare x c r.0, r.1)

    found_comparison : (t : Tok) (ts : List Tok) (o : Option Comparison) → comparison_of t.kind ≡ o →
        IfSome o (λ c. t.kind ≡ mark (comparison_sign c)) →
        LawAt limit IsRight (Says right_at) 0 d d (t ∷ ts) (compared_from sum x (before_rest o ts) (t ∷ ts))
    unfolding comparison_at
    found_comparison t ts None e h = record {
      taken = [];
      parts = refl;
      some = omega arith;
      no_end = tt;
      level = refl;
      shallow = tt;
      is = λ other us left. raise (omega arith) left;
      again = λ other same. ap right_at same.1 ∙ ap
          (λ o. compared_from sum x (before_rest o same.0) (t ∷ same.0)) e ∙ ap (λ (us : List Tok). Ok (x, us))
          (sym same.1);
    }
    found_comparison t ts (Some c) e h =
        let stays : open_after d t.kind ≡ d = ap (open_after d) h ∙ comparison_level c d in
        let same : t ≡ tok (mark (comparison_sign c)) t.span = ap (λ (k : Lexeme). tok k t.span) h in
        let inner : Law limit (at_rest IsRight t) (compared_by c) 1 d d =
        last_law limit (IsExpr SUM) (at_rest IsRight t) sum (compare x c) 1 d d law
        (λ y rest ts1 is us left. is_compare (omega arith) (subst (λ (u : Tok). IsExpr SUM x us (u ∷ ts1)) same
        left) is) in
        weaken_at limit IsRight (Says right_at) d d (t ∷ ts) (compared_by c ts)
        (prefixed limit IsRight (Says (compared_by c)) (Says right_at) 1 d d t
        (λ us q s. ap (λ o. compared_from sum x (before_rest o us) (t ∷ us)) e ∙ s) ts
        (λ bad. comparison_is_no_end c (sym h ∙ bad)) (λ o. absurd (comparison_no_opening c (subst IsOpening h o)))
        (compared_by c ts) (subst (λ n. LawAt limit (at_rest IsRight t) (Says (compared_by c)) 1 n d ts
        (compared_by c ts)) (sym stays) (inner ts)))

    right_law : Law limit IsRight right_at 0 d d
    unfolding comparison_at
    right_law [] = record {
      taken = [];
      parts = refl;
      some = omega arith;
      no_end = tt;
      level = refl;
      shallow = tt;
      is =
          λ other us left. raise (omega arith) left;
      again = λ other same. ap right_at same ∙ ap
          (λ (us : List Tok). Ok (x, us)) (sym same);
    }
    right_law (t ∷ ts) = found_comparison t ts (comparison_of t.kind) refl (comparison_meant t.kind)

  pub compared_law : (sum : Reader Expr) (d : ℕ) → Law limit (IsExpr SUM) sum 1 d d →
      Law limit (IsExpr COMPARED) (compared_with sum) 1 d d
  unfolding compared_with
  compared_law sum d law =
      then_law limit (IsExpr SUM) (IsExpr COMPARED) sum (λ x ts. compared_from sum x (comparison_at ts) ts) 1 0 d d d
      law (λ rest. (rest, λ x. (x, λ ts left. raise (omega arith) left))) (λ x. right_law sum d law x)

  -- ---- places

  pub any_part : {P : Type 0} (f : Reader Expr) (d : ℕ) → (P → Law limit (IsExpr ANY) f 1 d d) →
      Part limit P (IsExpr ANY) f 1 d d
  any_part f d law = record { law = law; can = λ rest. (zero_expr, tok (lexeme.int 0) nowhere ∷ rest, is_int) }

  fields_law : (d : ℕ) → Law limit IsFields fields_at 1 d d
  unfolding fields_at
  fields_law d =
      production limit IsFields
      (then_part limit (sign_part limit Dot d (λ o. o)) (then_part limit (name_part limit d)
      (then_part limit (after_each_part limit Dot d refl (λ o. o) (name_part limit d))
      (ends_with limit (λ x. x.0.1 ∷ x.1)))))
      (λ y ts rest r. fields_is r)

  fields_part : {P : Type 0} (d : ℕ) → Part limit P IsFields fields_at 1 d d
  fields_part d = record {
    law = λ p. fields_law d;
    can = λ rest. (
      no_ident ∷ [],
      tok (mark Dot) nowhere ∷ name_tok
          no_ident ∷ rest,
      is_fields no_more,
    );
  }

  module _ (room d : ℕ) (sum : d + room ≡ limit) (inner : Reader Expr) (law : 0 < room → Law limit (IsExpr ANY) inner 1
      (suc d) (suc d)) where
    module _ (x : Ident) where
      element_law : Law limit (at_rest IsPlace (name_tok x)) (element_at room inner x) 1 d d
      unfolding element_at
      element_law =
          production limit (at_rest IsPlace (name_tok x))
          (then_open limit OpenBracket room sum tt (then_part limit (any_part inner (suc d) law)
          (then_part limit (sign_part limit CloseBracket (suc d) (λ o. o))
          (ends_with limit (λ y. element x y.0.1)))))
          (λ y ts rest r. element_is r)

      path_law : Law limit (at_rest IsPlace (name_tok x)) (path_at x) 1 d d
      path_law = production limit (at_rest IsPlace (name_tok x)) (then_part limit (fields_part d)
          (ends_with limit (λ y. path x y.1))) (λ y ts rest r. path_is r)

      alone_law : Law limit (at_rest IsPlace (name_tok x)) (alone_at x) 0 d d
      alone_law = give_law limit (at_rest IsPlace (name_tok x)) (lone x) d (λ ts. is_lone)

      pub place_law : Law limit (at_rest IsPlace (name_tok x)) (place_at room inner x) 0 d d
      place_law =
          choose_law limit (at_rest IsPlace (name_tok x)) (mark OpenBracket) (element_at room inner x)
          (choose (mark Dot) (path_at x) (alone_at x)) 0 d d (weaken_law limit (at_rest IsPlace (name_tok x))
          (element_at room inner x) d d element_law)
          (choose_law limit (at_rest IsPlace (name_tok x)) (mark Dot) (path_at x) (alone_at x) 0 d d
          (weaken_law limit (at_rest IsPlace (name_tok x)) (path_at x) d d path_law) alone_law)

      pub place_part : {P : Type 0} → Part limit P (at_rest IsPlace (name_tok x)) (place_at room inner x) 0 d d
      place_part = record { law = λ p. place_law; can = λ rest. (lone x, rest, is_lone) }

    -- ---- numbers, places and parentheses

    parens_law : (Law limit (IsExpr ANY) inner 1 (suc d) (suc d)) → (at : Span) →
        Law limit (at_rest (IsExpr PRIM) (tok (mark OpenParen) at)) (in_parens inner at) 1 (suc d) d
    parens_law law at =
        production limit (at_rest (IsExpr PRIM) (tok (mark OpenParen) at))
        (then_part limit (any_part inner (suc d) (λ p. law)) (then_part limit
        (sign_part limit CloseParen (suc d) (λ o. o)) (ends_with limit (λ x. paren at x.0.1))))
        (λ y ts rest r. parens_is r)

  parens_head : (room d : ℕ) → d + room ≡ limit → (inner : Reader Expr) →
      (0 < room → Law limit (IsExpr ANY) inner 1 (suc d) (suc d)) → (at : Span) →
      Head limit (IsExpr PRIM) d d (mark OpenParen) at (parens_at room inner at)
  parens_head zero d sum inner law at = deepens tt (omega arith) (λ rest.
      (paren at zero_expr, tok (lexeme.int 0) nowhere ∷ tok (mark CloseParen) at ∷ rest, is_paren is_int)) (λ ts. refl)
  parens_head (suc room) d sum inner law at = takes 1 (λ e. cc) (λ o. omega arith)
      (parens_law (suc room) d sum inner law (law (omega arith)) at)

  module _ (room d : ℕ) (sum : d + room ≡ limit) (inner : Reader Expr) (law : 0 < room → Law limit (IsExpr ANY) inner 1
      (suc d) (suc d)) where
    paren_head : (m : Sign) (at : Span) (b : Bool) → same_sign m OpenParen ≡ b →
        Head limit (IsExpr PRIM) d d (mark m) at (λ ts. cond b (parens_at room inner at ts) (refused ts))
    paren_head m at true e = subst (λ (s : Sign). Head limit (IsExpr PRIM) d d (mark s) at (parens_at room inner at))
        (sym (same_sign-true m OpenParen e)) (parens_head room d sum inner law at)
    paren_head m at false e = refuses (λ ts. refl)

    prim_head : (k : Lexeme) (at : Span) → Head limit (IsExpr PRIM) d d k at (prim_from room inner k at)
    prim_head (lexeme.int n) at = takes 0 (λ e. cc) (λ o. absurd o) (give_law limit
        (at_rest (IsExpr PRIM) (tok (lexeme.int n) at)) (int (record { value = n; span = at })) d (λ ts. is_int))
    prim_head (word keyword.Null) at = takes 0 (λ e. cc) (λ o. absurd o)
        (give_law limit (at_rest (IsExpr PRIM) (tok (word keyword.Null) at)) (null at) d (λ ts. is_null))
    prim_head (name x) at = takes 0 (λ e. cc) (λ o. absurd o) (production limit
        (at_rest (IsExpr PRIM) (tok (name x) at)) (then_part limit (place_part room d sum inner law
        (record { text = x; span = at })) (ends_with limit (λ y. place y.1))) (λ y ts rest r. place_is r))
    prim_head (mark m) at = paren_head m at (same_sign m OpenParen) refl
    prim_head _ at = refuses (λ ts. refl)

    pub prim_with_law : Law limit (IsExpr PRIM) (prim_with room inner) 1 d d
    unfolding prim_with
    prim_with_law = first_law limit (IsExpr PRIM) (prim_from room inner) d d
        (λ rest. (zero_expr, tok (lexeme.int 0) nowhere ∷ rest, is_int)) prim_head

  -- ---- by level

  module _ (prim : Reader Expr) (d : ℕ) (law : Law limit (IsExpr PRIM) prim 1 d d) where
    term_law : Law limit (IsExpr (below Sum)) (chain_at (unary_with prim) Term) 1 d d
    term_law = chain_law (unary_with prim) Term d (unary_law prim d law)

    sum_law : Law limit (IsExpr SUM) (sum_with prim) 1 d d
    sum_law = chain_law (chain_at (unary_with prim) Term) Sum d term_law

    pub operand_with_law : (k : Level) → Law limit (IsExpr (below k)) (operand_with k prim) 1 d d
    operand_with_law Term = unary_law prim d law
    operand_with_law Sum = term_law
    operand_with_law Conjunction = compared_law (sum_with prim) d sum_law
    operand_with_law Disjunction = chain_law (compared_with (sum_with prim)) Conjunction d
        (compared_law (sum_with prim) d sum_law)

    pub level_with_law : (k : Level) → Law limit (IsExpr (rank k)) (level_with k prim) 1 d d
    level_with_law k = chain_law (operand_with k prim) k d (operand_with_law k)

  pub inside_law : (room d : ℕ) → d + room ≡ limit → 0 < room →
      Law limit (IsExpr ANY) (inside_at room) 1 (suc d) (suc d)
  unfolding inside_at
  inside_law zero d sum some = absurd (omega arith)
  inside_law (suc room) d sum some = level_with_law (prim_with room (inside_at room)) (suc d)
      (prim_with_law room (suc d) (omega arith) (inside_at room) (inside_law room (suc d) (omega arith))) Disjunction

  pub prim_law : (room d : ℕ) → d + room ≡ limit → Law limit (IsExpr PRIM) (prim_at room) 1 d d
  prim_law room d sum = prim_with_law room d sum (inside_at room) (inside_law room d sum)

  pub operand_law : (k : Level) (room d : ℕ) → d + room ≡ limit → Law limit (IsExpr (below k)) (operand_at k room) 1 d d
  operand_law k room d sum = operand_with_law (prim_at room) d (prim_law room d sum) k

  pub expr_law : (room d : ℕ) → d + room ≡ limit → Law limit (IsExpr ANY) (expr_at room) 1 d d
  expr_law room d sum = level_with_law (prim_at room) d (prim_law room d sum) Disjunction

-- an expression and its semicolon
pub data IsEnded (e : Expr) (ts rest : List Tok) : Type 0 where
  ended : {semicolon : Span} → IsExpr ANY e ts (tok (mark Semicolon) semicolon ∷ rest) → IsEnded e ts rest

ended_is : {e : Expr} {ts rest : List Tok} →
    Both (IsExpr ANY) (λ e. Both (IsTok (mark Semicolon)) (λ s. Done e)) e ts rest → IsEnded e ts rest
ended_is (both e (both is_tok done)) = ended e

module _ (limit room d : ℕ) (sum : d + room ≡ limit) where
  pub ended_law : Law limit IsEnded (ended_at room) 1 d d
  unfolding ended_at
  ended_law =
      production limit IsEnded
      (then_part limit (any_part limit (expr_at room) d (λ p. expr_law limit room d sum))
      (then_part limit (sign_part limit Semicolon d (λ o. o)) (ends_with limit (λ x. x.0.1))))
      (λ y ts rest r. ended_is r)

  pub ended_part : {P : Type 0} → Part limit P IsEnded (ended_at room) 1 d d
  ended_part = record {
    law = λ p. ended_law;
    can = λ rest. (
      zero_expr,
      tok (lexeme.int 0) nowhere ∷ tok
          (mark Semicolon) nowhere ∷ rest,
      ended is_int,
    );
  }

-- an expression in parentheses
pub data IsCondition (e : Expr) : List Tok → List Tok → Type 0 where
  is_condition : {before after : Span} {ts rest : List Tok} → IsExpr ANY e ts (tok (mark CloseParen) after ∷ rest) →
      IsCondition e (tok (mark OpenParen) before ∷ ts) rest

condition_is : {y : Expr} {ts rest : List Tok} →
    Both (IsTok (mark OpenParen)) (λ b. Both (IsExpr ANY) (λ e. Both (IsTok (mark CloseParen)) (λ c. Done e))) y ts rest
    → IsCondition y ts rest
condition_is (both is_tok (both e (both is_tok done))) = is_condition e

module _ (limit room d : ℕ) (sum : d + room ≡ limit) where
  condition_law : Law limit IsCondition (condition_at room) 1 d d
  unfolding condition_at
  condition_law =
      production limit IsCondition
      (then_open limit OpenParen room sum tt (then_part limit (any_part limit (inside_at room) (suc d)
      (inside_law limit room d sum)) (then_part limit (sign_part limit CloseParen (suc d) (λ o. o))
      (ends_with limit (λ x. x.0.1)))))
      (λ y ts rest r. condition_is r)

  pub condition_part : {P : Type 0} → Part limit P IsCondition (condition_at room) 1 d d
  condition_part = record {
    law = λ p. condition_law;
    can = λ rest. (
      zero_expr,
      tok (mark OpenParen) nowhere ∷ zero_tok
          ∷ tok (mark CloseParen) nowhere ∷ rest,
      is_condition is_int,
    );
  }
