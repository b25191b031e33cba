-- Printed names, types, constants and expressions are parsed as the same trees.
use Rattle.std.proofs.Common.{◌≡◌, ℕ, ◌≤◌, List, [], ◌∷◌, ◌++◌, map, refl, sym, ap, append_assoc}
use Rattle.std.specs.Fmt.{decimal}
use Rattle.source.specs.declared.token.Keyword.TheVariants as keyword
use Rattle.source.specs.declared.token.Sign.TheVariants.{CloseParen, CloseBracket, Dot}
use Rattle.source.specs.Tokens.{Tok}
use Rattle.source.specs.Texts.{sign_text}
use Rattle.syntax.specs.declared.tree.Operator.{Operator}
use Rattle.syntax.specs.declared.tree.Level.{Level}
use Rattle.syntax.specs.declared.tree.Prefix.{Prefix}
use Rattle.syntax.specs.declared.tree.Prefix.TheVariants.{Negate, Not}
use Rattle.syntax.specs.Trees.{Ident, int_type, ref_type, int_const, negative, null_const, member_const, Place, lone}
use Rattle.syntax.specs.Trees.{element, path, Expr, int, null, place, paren, prefix, chain, compare, Links, no_links}
use Rattle.syntax.specs.Trees.{link}
use Rattle.syntax.specs.Grammar.{sign_of, comparison_sign, rank, below, AreMany, IsAfter, after, IsName, is_name}
use Rattle.syntax.specs.Grammar.{IsType, is_int_type, is_ref_type, IsConst, is_int_const, is_negative, is_null_const}
use Rattle.syntax.specs.Grammar.{is_member_const, IsIndex, is_index, IsExpr, is_int, is_null, is_place, is_paren}
use Rattle.syntax.specs.Grammar.{is_prefix, is_chain, is_compare, IsPlace, is_lone, is_element, is_path, IsLinks}
use Rattle.syntax.specs.Grammar.{are_no_links, is_link}
use Rattle.syntax.specs.Working.Printing.{many_text, index_text, type_text, const_text, field_text, prefix_text}
use Rattle.syntax.specs.Working.Printing.{comparison_text, expr_text, place_text, links_text}
use Rattle.syntax.specs.Working.Bare.{nowhere, bare_name, bare_number, bare_type, bare_const, bare_expr, bare_place}
use Rattle.syntax.specs.Working.Bare.{bare_links}
use Rattle.syntax.proofs.Marks.{Apart, Begins, name_begins, number_begins, decimal_unit}
use Rattle.syntax.proofs.Good.{Good, expr_good, dotted_good}
use Rattle.syntax.proofs.Backward.{kinds, Reads, start_of, named, numbered, along, word_on, sign_on, name_on}
use Rattle.syntax.proofs.Backward.{number_on, paren_on, bracket_on, dot_on, minus_on, not_on, gap_on, Again, Rereads}
use Rattle.syntax.proofs.Backward.{many_apart, many_again}

pub name_again : Rereads IsName bare_name (λ x. x.text)
name_again x ts rest is_name g total tail r a =
    let n = name_on x.text g.0 r a in
    record { reads = n; tree = named x n; is = is_name; same = refl }

pub type_again : Rereads IsType bare_type type_text
type_again t ts rest is_int_type g total tail r a = record { reads = word_on keyword.Int r a; tree = int_type; is = is_int_type; same = refl }
type_again t ts rest (is_ref_type {target}) g total tail r a =
    let n = name_on target.text g.1.0 r a in
    record { reads = word_on keyword.Ref (gap_on n) refl; tree = ref_type (named target n); is = is_ref_type; same = refl }

pub index_again : Rereads IsIndex bare_number index_text
index_again n ts rest is_index g total tail r a =
    let m = number_on n.value g.1.0 (sign_on CloseBracket r a) refl in
    record { reads = bracket_on (along (sym (append_assoc (decimal n.value) (93 ∷ []) tail)) m); tree = numbered n m; is = is_index; same = refl }

pub const_again : Rereads IsConst bare_const const_text
const_again c ts rest (is_int_const {n}) g total tail r a =
    let m = number_on n.value g.0 r a in
    record { reads = m; tree = int_const (numbered n m); is = is_int_const; same = refl }
const_again c ts rest (is_negative {n}) g total tail r a =
    let m = number_on n.value g.1.0 r a in
    let s = minus_on m in
    record { reads = s; tree = negative (start_of s) (numbered n m); is = is_negative; same = refl }
const_again c ts rest is_null_const g total tail r a =
    let w = word_on keyword.Null r a in
    record { reads = w; tree = null_const (start_of w); is = is_null_const; same = refl }
const_again c ts rest (is_member_const {x} {n}) g total tail r a =
    let m = number_on n.value g.1.1.0 (sign_on CloseBracket r a) refl in
    let p = name_on x.text g.0 (bracket_on (along (sym (append_assoc (decimal n.value) (93 ∷ []) tail)) m)) refl in
    record { reads = along (sym (append_assoc x.text (index_text n) tail)) p; tree = member_const (named x p) (numbered n m); is = is_member_const; same = refl }

dotted_again : Rereads (IsAfter Dot IsName) bare_name field_text
dotted_again x ts rest (after is_name) g total tail r a =
    let n = name_on x.text g.1.0 r a in
    record { reads = dot_on n; tree = named x n; is = after is_name; same = refl }

pub fields_again : Rereads (λ xs ts rest. AreMany (IsAfter Dot IsName) xs ts rest) (map bare_name) (many_text field_text)
fields_again xs ts rest h = many_again (IsAfter Dot IsName) bare_name field_text dotted_good dotted_again (λ x tail. refl) xs ts rest h

pub fields_apart : (xs : List Ident) (tail : List ℕ) → Apart tail → Apart (many_text field_text xs ++ tail)
fields_apart xs tail a = many_apart field_text (λ x t. refl) xs tail a

-- ---- an expression does not begin with `=`

begins_on : (x y : List ℕ) → Begins x → Begins (x ++ y)
begins_on [] y h = absurd h
begins_on (b ∷ bs) y h = h

prefix_begins : (op : Prefix) → Begins (prefix_text op)
prefix_begins Negate = refl
prefix_begins Not = refl

place_begins : {p : Place} {ts rest : List Tok} → IsPlace p ts rest → Good ts → Begins (place_text p)
place_begins is_lone g = name_begins g.0.0
place_begins (is_element {x} {e} f) g = begins_on ((x.text ++ 91 ∷ []) ++ expr_text e) (93 ∷ []) (begins_on (x.text ++ 91 ∷ []) (expr_text e) (begins_on x.text (91 ∷ []) (name_begins g.0.0)))
place_begins (is_path {x} {first} {fields} f) g = begins_on x.text (many_text field_text (first ∷ fields)) (name_begins g.0.0)

expr_begins : {n : ℕ} {e : Expr} {ts rest : List Tok} → IsExpr n e ts rest → Good ts → Begins (expr_text e)
expr_begins (is_int {v}) g = number_begins (decimal_unit v.value g.0)
expr_begins is_null g = refl
expr_begins (is_place p) g = place_begins p g
expr_begins (is_paren f) g = refl
expr_begins (is_prefix {op} {e} u f) g = begins_on (prefix_text op) (expr_text e) (prefix_begins op)
expr_begins (is_chain {first} {x} {op} {more} r f l) g = begins_on (expr_text first) (links_text (link op x more)) (expr_begins f g)
expr_begins (is_compare {c} {left} {right} r f h) g = begins_on (expr_text left ++ comparison_text c) (expr_text right) (begins_on (expr_text left) (comparison_text c) (expr_begins f g))

-- ---- expressions

element_line : (x e tail : List ℕ) → (((x ++ 91 ∷ []) ++ e) ++ 93 ∷ []) ++ tail ≡ x ++ 91 ∷ (e ++ 93 ∷ tail)
element_line x e tail = simp append_assoc

path_line : (x y fs tail : List ℕ) → (x ++ 46 ∷ (y ++ fs)) ++ tail ≡ x ++ 46 ∷ (y ++ (fs ++ tail))
path_line x y fs tail = simp append_assoc

link_line : (s x l tail : List ℕ) → (((32 ∷ s ++ 32 ∷ []) ++ x) ++ l) ++ tail ≡ 32 ∷ (s ++ 32 ∷ (x ++ (l ++ tail)))
link_line s x l tail = simp append_assoc

compare_line : (x s y tail : List ℕ) → ((x ++ (32 ∷ s ++ 32 ∷ [])) ++ y) ++ tail ≡ x ++ 32 ∷ (s ++ 32 ∷ (y ++ tail))
compare_line x s y tail = simp append_assoc

links_apart : (l : Links) (tail : List ℕ) → Apart tail → Apart (links_text l ++ tail)
links_apart no_links tail a = a
links_apart (link op e more) tail a = refl

-- a chain read again has at least one operator
chained : {n : ℕ} {k : Level} {ts mid us : List Tok} (first e : Expr) (op : Operator) (x : Expr) (more l : Links) →
    rank k ≤ n → IsExpr (below k) e ts mid → IsLinks k l mid us → bare_expr e ≡ bare_expr first →
    bare_links l ≡ bare_links (link op x more) →
    (c : Expr) × IsExpr n c ts us × (bare_expr c ≡ bare_expr (chain k first (link op x more)))
chained {k = k} first e op x more no_links r f l p q = absurd cc
chained {k = k} first e op x more (link o y others) r f l p q = (chain k e (link o y others), is_chain r f l, rw (p, q) refl)

mutual
  pub expr_again : {n : ℕ} {e : Expr} {ts rest : List Tok} → IsExpr n e ts rest → Good ts →
      {total : ℕ} {tail : List ℕ} (r : Reads total tail (kinds rest)) → Apart tail →
      Again (IsExpr n) bare_expr e total (expr_text e ++ tail) ts r.tokens
  expr_again (is_int {v}) g r a =
      let m = number_on v.value g.0 r a in
      record { reads = m; tree = int (numbered v m); is = is_int; same = refl }
  expr_again is_null g r a =
      let w = word_on keyword.Null r a in
      record { reads = w; tree = null (start_of w); is = is_null; same = refl }
  expr_again (is_place p) g r a =
      let i = place_again p g r a in
      record { reads = i.reads; tree = place i.tree; is = is_place i.is; same = ap place i.same }
  expr_again (is_paren {e} f) g {tail = tail} r a =
      let i = expr_again f g.1 (sign_on CloseParen r a) refl in
      let o = paren_on (along (sym (append_assoc (expr_text e) (41 ∷ []) tail)) i.reads) in
      record { reads = o; tree = paren (start_of o) i.tree; is = is_paren i.is; same = ap (paren nowhere) i.same }
  expr_again (is_prefix {op = Negate} u f) g r a =
      let i = expr_again f g.1 r a in
      let o = minus_on i.reads in
      record { reads = o; tree = prefix Negate (start_of o) i.tree; is = is_prefix u i.is; same = ap (prefix Negate nowhere) i.same }
  expr_again (is_prefix {op = Not} {e} u f) g {tail = tail} r a =
      let i = expr_again f g.1 r a in
      let o = not_on i.reads (begins_on (expr_text e) tail (expr_begins f g.1)) in
      record { reads = o; tree = prefix Not (start_of o) i.tree; is = is_prefix u i.is; same = ap (prefix Not nowhere) i.same }
  expr_again (is_chain {k} {first} {x} {op} {more} q f l) g {tail = tail} r a =
      let ls = links_again l (expr_good f g) r a in
      let i = expr_again f g ls.reads (links_apart (link op x more) tail a) in
      let c = chained first i.tree op x more ls.tree q i.is ls.is i.same ls.same in
      record { reads = along (sym (append_assoc (expr_text first) (links_text (link op x more)) tail)) i.reads; tree = c.0; is = c.1; same = c.2 }
  expr_again (is_compare {c} {left} {right} q f h) g {tail = tail} r a =
      let i = expr_again h (expr_good f g).1 r a in
      let sign = comparison_sign c in
      let j = expr_again f g (gap_on (sign_on sign (gap_on i.reads) refl)) refl in
      record {
        reads = along (sym (compare_line (expr_text left) (sign_text sign) (expr_text right) tail)) j.reads;
        tree = compare j.tree c i.tree;
        is = is_compare q j.is i.is;
        same = rw (j.same, i.same) refl;
      }

  pub place_again : {p : Place} {ts rest : List Tok} → IsPlace p ts rest → Good ts →
      {total : ℕ} {tail : List ℕ} (r : Reads total tail (kinds rest)) → Apart tail →
      Again IsPlace bare_place p total (place_text p ++ tail) ts r.tokens
  place_again (is_lone {x}) g r a =
      let n = name_on x.text g.0 r a in
      record { reads = n; tree = lone (named x n); is = is_lone; same = refl }
  place_again (is_element {x} {e} f) g {tail = tail} r a =
      let i = expr_again f g.1.1 (sign_on CloseBracket r a) refl in
      let n = name_on x.text g.0 (bracket_on i.reads) refl in
      record { reads = along (sym (element_line x.text (expr_text e) tail)) n; tree = element (named x n) i.tree; is = is_element i.is; same = ap (element (bare_name x)) i.same }
  place_again (is_path {x} {first} {fields} f) g {total} {tail} r a =
      let fs = fields_again fields _ _ f g.1.1.1 total tail r a in
      let m = name_on first.text g.1.1.0 fs.reads (fields_apart fields tail a) in
      let n = name_on x.text g.0 (dot_on m) refl in
      record {
        reads = along (sym (path_line x.text first.text (many_text field_text fields) tail)) n;
        tree = path (named x n) (named first m ∷ fs.tree);
        is = is_path fs.is;
        same = rw fs.same refl;
      }

  pub links_again : {k : Level} {l : Links} {ts rest : List Tok} → IsLinks k l ts rest → Good ts →
      {total : ℕ} {tail : List ℕ} (r : Reads total tail (kinds rest)) → Apart tail →
      Again (IsLinks k) bare_links l total (links_text l ++ tail) ts r.tokens
  links_again are_no_links g r a = record { reads = r; tree = no_links; is = are_no_links; same = refl }
  links_again (is_link {op} {x} {more} f l) g {tail = tail} r a =
      let ls = links_again l (expr_good f g.1) r a in
      let i = expr_again f g.1 ls.reads (links_apart more tail a) in
      let s = gap_on (sign_on (sign_of op) (gap_on i.reads) refl) in
      record {
        reads = along (sym (link_line (sign_text (sign_of op)) (expr_text x) (links_text more) tail)) s;
        tree = link op i.tree ls.tree;
        is = is_link i.is ls.is;
        same = rw (i.same, ls.same) refl;
      }
