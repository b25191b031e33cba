-- Printed threads and declarations are parsed as the same trees.
use Rattle.std.proofs.Common.{◌≡◌, ℕ, List, [], ◌∷◌, ◌++◌, map, Option, None, Some, refl, sym, ap, ◌∙◌, append_assoc}
use Rattle.std.specs.Fmt.{decimal}
use Rattle.source.specs.declared.span.Span.{Span}
use Rattle.source.specs.declared.token.Keyword.TheVariants as keyword
use Rattle.source.specs.declared.token.Sign.TheVariants.{OpenBrace, CloseBrace, CloseParen, Semicolon, Comma, Colon}
use Rattle.source.specs.declared.token.Sign.TheVariants.{Equals}
use Rattle.source.specs.Tokens.{Tok}
use Rattle.syntax.specs.Trees.{Protection, Variable, Array, Member, lock_member, final_member, field_member, ClassName}
use Rattle.syntax.specs.Trees.{Section, Call, Item, repeat, Items, no_items, item, Init, Decl, lock, struct, global, array}
use Rattle.syntax.specs.Trees.{pool, init, atomic, helper, thread}
use Rattle.syntax.specs.Views.{option_of}
use Rattle.syntax.specs.Grammar.{IsOptional, AreMany, no_more, one_more, IsAfter, IsType, IsConst, IsProtection}
use Rattle.syntax.specs.Grammar.{is_protection, is_field, is_final, IsMember, is_lock_member, is_final_member}
use Rattle.syntax.specs.Grammar.{is_field_member, is_struct, IsVariable, is_variable, IsArray, is_array, is_pool}
use Rattle.syntax.specs.Grammar.{IsInit, is_init, IsParam, is_param, IsClassName, is_class_name, AreTakenWhole}
use Rattle.syntax.specs.Grammar.{none_taken, taken, IsSection, is_section, is_block, IsCall, is_call}
use Rattle.syntax.specs.Grammar.{IsItem, is_call_item, is_repeat, IsItems, are_no_items, are_items, is_thread, IsDecl}
use Rattle.syntax.specs.Grammar.{is_lock, is_struct_decl, is_global, is_array_decl, is_pool_decl, is_init_decl}
use Rattle.syntax.specs.Grammar.{is_atomic, is_helper, is_thread_decl}
use Rattle.syntax.specs.Working.Printing.{many_text, after_comma, listed_text, optional_text, index_text, type_text}
use Rattle.syntax.specs.Working.Printing.{const_text, class_name_text, whole_text}
use Rattle.syntax.specs.Working.Printing.{field_text, indent, deeper, stmts_text, protection_text, value_text}
use Rattle.syntax.specs.Working.Printing.{result_text, member_text, param_text, call_text, item_text, items_text}
use Rattle.syntax.specs.Working.Printing.{decl_text}
use Rattle.syntax.specs.Working.Bare.{nowhere, bare_type, bare_const, bare_number, bare_variable, bare_array}
use Rattle.syntax.specs.Working.Bare.{bare_init, bare_protection, bare_member, bare_param, bare_class, bare_section}
use Rattle.syntax.specs.Working.Bare.{bare_call}
use Rattle.syntax.specs.Working.Bare.{bare_item, bare_items, bare_decl, bare}
use Rattle.syntax.proofs.Marks.{Apart}
use Rattle.syntax.proofs.Good.{Good, type_good, const_good, index_good, optional_good, listed_good, protection_good}
use Rattle.syntax.proofs.Good.{result_good, after_good, member_good, param_good, class_good, whole_good, item_good}
use Rattle.syntax.proofs.Good.{decl_good}
use Rattle.syntax.proofs.Backward.{kinds, Reads, start_of, named, numbered, along, word_on, sign_on, name_on}
use Rattle.syntax.proofs.Backward.{number_on, paren_on, dot_on, gap_on, line_on, indent_on, Again, Rereads}
use Rattle.syntax.proofs.Backward.{many_apart, many_again, after_again, listed_again, optional_again}
use Rattle.syntax.proofs.AgainExprs.{type_again, index_again, const_again, fields_again, fields_apart}
use Rattle.syntax.proofs.AgainStmts.{braced_again}

-- ---- the texts of lines, grouped to the right

protection_line : (x fs tail : List ℕ) → ((x ++ fs) ++ 41 ∷ []) ++ tail ≡ x ++ (fs ++ 41 ∷ tail)
protection_line x fs tail = simp append_assoc

two_names_line : (x y tail : List ℕ) → (((x ++ 32 ∷ []) ++ y) ++ 59 ∷ []) ++ tail ≡ x ++ 32 ∷ (y ++ 59 ∷ tail)
two_names_line x y tail = simp append_assoc

field_line : (t x p tail : List ℕ) →
    ((((t ++ 32 ∷ []) ++ x) ++ p) ++ 59 ∷ []) ++ tail ≡ t ++ 32 ∷ (x ++ (p ++ 59 ∷ tail))
field_line t x p tail = simp append_assoc

variable_line : (t x p v tail : List ℕ) →
    (((((t ++ 32 ∷ []) ++ x) ++ p) ++ v) ++ 59 ∷ 10 ∷ []) ++ tail ≡ t ++ 32 ∷ (x ++ (p ++ (v ++ 59 ∷ 10 ∷ tail)))
variable_line t x p v tail = simp append_assoc

pool_line : (x y n tail : List ℕ) →
    ((((x ++ 32 ∷ []) ++ y) ++ n) ++ 59 ∷ 10 ∷ []) ++ tail ≡ x ++ 32 ∷ (y ++ (n ++ 59 ∷ 10 ∷ tail))
pool_line x y n tail = simp append_assoc

init_line : (p n x c tail : List ℕ) →
    ((((((p ++ n) ++ 46 ∷ []) ++ x) ++ 32 ∷ 61 ∷ 32 ∷ []) ++ c) ++ 59 ∷ 10 ∷ []) ++ tail ≡ p ++ (n ++ 46 ∷ (x ++ 32 ∷ 61 ∷ 32 ∷ (c ++ 59 ∷ 10 ∷ tail)))
init_line p n x c tail = simp append_assoc

call_line : (x cs tail : List ℕ) → (((x ++ 40 ∷ []) ++ cs) ++ 41 ∷ 59 ∷ []) ++ tail ≡ x ++ 40 ∷ (cs ++ 41 ∷ 59 ∷ tail)
call_line x cs tail = simp append_assoc

repeat_line : (n is i tail : List ℕ) →
    (n ++ 32 ∷ 123 ∷ (((is ++ 10 ∷ []) ++ i) ++ 125 ∷ [])) ++ tail ≡ n ++ 32 ∷ 123 ∷ (is ++ 10 ∷ (i ++ 125 ∷ tail))
repeat_line n is i tail = simp append_assoc

item_line : (i x is tail : List ℕ) → ((i ++ x) ++ is) ++ tail ≡ i ++ (x ++ (is ++ tail))
item_line i x is tail = simp append_assoc

-- a name, and lines in braces
block_line : (x ls tail : List ℕ) →
    (((x ++ 32 ∷ 123 ∷ []) ++ ls) ++ 10 ∷ 125 ∷ 10 ∷ []) ++ tail ≡ x ++ 32 ∷ 123 ∷ (ls ++ 10 ∷ 125 ∷ 10 ∷ tail)
block_line x ls tail = simp append_assoc

section_line : (x ps t cs ss tail : List ℕ) →
    ((((((((x ++ 40 ∷ []) ++ ps) ++ 41 ∷ []) ++ t) ++ cs) ++ 32 ∷ 123 ∷ []) ++ ss) ++ 10 ∷ 125 ∷ 10 ∷ []) ++ tail ≡ x ++ 40 ∷ (ps ++ 41 ∷ (t ++ (cs ++ 32 ∷ 123 ∷ (ss ++ 10 ∷ 125 ∷ 10 ∷ tail))))
section_line x ps t cs ss tail = simp append_assoc

class_line : (x y tail : List ℕ) → ((x ++ 46 ∷ []) ++ y) ++ tail ≡ x ++ 46 ∷ (y ++ tail)
class_line x y tail = simp append_assoc

-- ---- parts that may be left out

value_again : Rereads (IsAfter Equals IsConst) bare_const value_text
value_again c ts rest f g total tail r a =
    let i = after_again Equals IsConst bare_const const_text const_again c ts rest f g total tail r a in
    record { reads = gap_on i.reads; tree = i.tree; is = i.is; same = i.same }

result_again : Rereads (IsAfter Colon IsType) bare_type result_text
result_again t ts rest f g total tail r a = after_again Colon IsType bare_type type_text type_again t ts rest f g total tail r a

protection_again : Rereads IsProtection bare_protection protection_text
protection_again p ts rest (is_protection f) g total tail r a =
    let fs = fields_again p.rest _ _ f g.1.1.1 total _ (sign_on CloseParen r a) refl in
    let n = name_on p.first.text g.1.1.0 fs.reads (fields_apart p.rest (41 ∷ tail) refl) in
    let w = word_on keyword.ProtectedBy (paren_on (along (sym (protection_line p.first.text (many_text field_text p.rest) tail)) n)) refl in
    record {
      reads = gap_on w;
      tree = record { first = named p.first n; rest = fs.tree };
      is = is_protection fs.is;
      same = rw fs.same refl;
    }

maybe_protected : Rereads (λ p ts rest. IsOptional IsProtection p ts rest) (option_of bare_protection) (optional_text protection_text)
maybe_protected p ts rest f = optional_again IsProtection bare_protection protection_text protection_again p ts rest f

optional_apart : {A : Type 0} (text : A → List ℕ) → ((x : A) (tail : List ℕ) → Apart (text x ++ tail)) →
    (x : Option A) (tail : List ℕ) → Apart tail → Apart (optional_text text x ++ tail)
optional_apart text apart None tail a = a
optional_apart text apart (Some x) tail a = apart x tail

protected_apart : (p : Option Protection) (tail : List ℕ) → Apart tail → Apart (optional_text protection_text p ++ tail)
protected_apart p tail a = optional_apart protection_text (λ x t. refl) p tail a

-- ---- members

member_again : Rereads IsMember bare_member member_text
member_again m ts rest (is_lock_member {x}) g total tail r a =
    let n = name_on x.text g.1.0 (sign_on Semicolon r a) refl in
    let w = word_on keyword.Lock (gap_on (along (sym (append_assoc x.text (59 ∷ []) tail)) n)) refl in
    record { reads = line_on (gap_on (gap_on (gap_on (gap_on w)))); tree = lock_member (named x n); is = is_lock_member; same = refl }
member_again m ts rest (is_final_member (is_final {f})) g total tail r a =
    let n = name_on f.name.text g.1.1.1.0 (sign_on Semicolon r a) refl in
    let t = name_on f.target.text g.1.1.0 (gap_on n) refl in
    let w = word_on keyword.Final (gap_on (word_on keyword.Ref (gap_on (along (sym (two_names_line f.target.text f.name.text tail)) t)) refl)) refl in
    record {
      reads = line_on (gap_on (gap_on (gap_on (gap_on w))));
      tree = final_member (record { name = named f.name n; target = named f.target t });
      is = is_final_member is_final;
      same = refl;
    }
member_again m ts rest (is_field_member (is_field {f} t p)) g total tail r a =
    let g2 = type_good _ _ _ t g in
    let q = maybe_protected f.protection _ _ p g2.1 total _ (sign_on Semicolon r a) refl in
    let n = name_on f.name.text g2.0 q.reads (protected_apart f.protection (59 ∷ tail) refl) in
    let y = type_again f.value_type _ _ t g total _ (gap_on n) refl in
    record {
      reads = line_on (gap_on (gap_on (gap_on (gap_on (along (sym (field_line (type_text f.value_type) f.name.text (optional_text protection_text f.protection) tail)) y.reads)))));
      tree = field_member (record { name = named f.name n; value_type = y.tree; protection = q.tree });
      is = is_field_member (is_field y.is q.is);
      same = rw (y.same, q.same) refl;
    }

member_apart : (m : Member) (tail : List ℕ) → Apart (member_text m ++ tail)
member_apart (lock_member x) tail = refl
member_apart (final_member f) tail = refl
member_apart (field_member f) tail = refl

members_apart : (ms : List Member) (tail : List ℕ) → Apart tail → Apart (many_text member_text ms ++ tail)
members_apart ms tail a = many_apart member_text member_apart ms tail a

-- ---- sections and threads

param_again : Rereads IsParam bare_param param_text
param_again p ts rest (is_param t) g total tail r a =
    let n = name_on p.name.text (type_good _ _ _ t g).0 r a in
    let y = type_again p.value_type _ _ t g total _ (gap_on n) refl in
    record {
      reads = along (sym (three_line (type_text p.value_type) p.name.text tail)) y.reads;
      tree = record { name = named p.name n; value_type = y.tree };
      is = is_param y.is;
      same = rw y.same refl;
    }
  where
    three_line : (t x tail : List ℕ) → ((t ++ 32 ∷ []) ++ x) ++ tail ≡ t ++ 32 ∷ (x ++ tail)
    three_line t x tail = simp append_assoc

call_again : {c : Call} {ts rest : List Tok} → IsCall c ts rest → Good ts →
    {total : ℕ} {tail : List ℕ} (r : Reads total tail (kinds rest)) → Apart tail →
    Again IsCall bare_call c total (call_text c ++ tail) ts r.tokens
call_again (is_call {c} f) g {total} {tail} r a =
    let cs = listed_again IsConst bare_const const_text const_good const_again c.arguments _ _ f g.1.1 total _ (sign_on CloseParen (sign_on Semicolon r a) refl) refl in
    let n = name_on c.section.text g.0 (paren_on cs.reads) refl in
    record {
      reads = along (sym (call_line c.section.text (listed_text const_text c.arguments) tail)) n;
      tree = record { section = named c.section n; arguments = cs.tree };
      is = is_call cs.is;
      same = rw cs.same refl;
    }

items_apart : (d : ℕ) (is : Items) (tail : List ℕ) → Apart tail → Apart (items_text d is ++ tail)
items_apart d no_items tail a = a
items_apart d (item i more) tail a = refl

mutual
  item_again : {i : Item} {ts rest : List Tok} → IsItem i ts rest → Good ts →
      (d : ℕ) {total : ℕ} {tail : List ℕ} (r : Reads total tail (kinds rest)) → Apart tail →
      Again IsItem bare_item i total (item_text d i ++ tail) ts r.tokens
  item_again (is_call_item f) g d r a =
      let i = call_again f g r a in
      record { reads = i.reads; tree = Item.call i.tree; is = is_call_item i.is; same = ap Item.call i.same }
  item_again (is_repeat {n} {is} f) g d {tail = tail} r a =
      let i = items_again f g.1.1.1 (deeper d) (line_on (indent_on d (sign_on CloseBrace r a))) refl in
      let o = sign_on OpenBrace i.reads (items_apart (deeper d) is (10 ∷ (indent d ++ 125 ∷ tail)) refl) in
      let m = number_on n.value g.1.0 (gap_on o) refl in
      record {
        reads = word_on keyword.Repeat (gap_on (along (sym (repeat_line (decimal n.value) (items_text (deeper d) is) (indent d) tail)) m)) refl;
        tree = repeat (numbered n m) i.tree;
        is = is_repeat i.is;
        same = ap (repeat (bare_number n)) i.same;
      }

  items_again : {is : Items} {ts rest : List Tok} → IsItems is ts rest → Good ts →
      (d : ℕ) {total : ℕ} {tail : List ℕ} (r : Reads total tail (kinds rest)) → Apart tail →
      Again IsItems bare_items is total (items_text d is ++ tail) ts r.tokens
  items_again are_no_items g d r a = record { reads = r; tree = no_items; is = are_no_items; same = refl }
  items_again (are_items {i} {more} f l) g d {tail = tail} r a =
      let ls = items_again l (item_good f g) d r a in
      let x = item_again f g d ls.reads (items_apart d more tail a) in
      record {
        reads = line_on (along (sym (item_line (indent d) (item_text d i) (items_text d more) tail)) (indent_on d x.reads));
        tree = item x.tree ls.tree;
        is = are_items x.is ls.is;
        same = rw (x.same, ls.same) refl;
      }

class_again : Rereads IsClassName bare_class class_name_text
class_again c ts rest is_class_name g total tail r a =
    let n = name_on c.lock.text g.1.1.0 r a in
    let m = name_on c.structure.text g.0 (dot_on n) refl in
    record {
      reads = along (sym (class_line c.structure.text c.lock.text tail)) m;
      tree = record { structure = named c.structure m; lock = named c.lock n };
      is = is_class_name;
      same = refl;
    }

whole_again : Rereads AreTakenWhole (map bare_class) whole_text
whole_again cs ts rest none_taken g total tail r a = record { reads = r; tree = []; is = none_taken; same = refl }
whole_again cs ts rest (taken {c} {cs = more} n ms) g total tail r a =
    let text = after_comma class_name_text in
    let ks = many_again (IsAfter Comma IsClassName) bare_class text (λ y us rest2 q. after_good class_good q) (after_again Comma IsClassName bare_class class_name_text class_again) (λ y t. refl) more _ _ ms (class_good _ _ _ n g.1.1) total _ (sign_on CloseParen r a) refl in
    let k = class_again c _ _ n g.1.1 total _ ks.reads (many_apart text (λ y t. refl) more (41 ∷ tail) refl) in
    let w = word_on keyword.Lock (paren_on (along (sym (protection_line (class_name_text c) (many_text text more) tail)) k.reads)) refl in
    record { reads = gap_on w; tree = k.tree ∷ ks.tree; is = taken k.is ks.is; same = rw (k.same, ks.same) refl }

whole_apart : (cs : List ClassName) (tail : List ℕ) → Apart tail → Apart (whole_text cs ++ tail)
whole_apart [] tail a = a
whole_apart (c ∷ cs) tail a = refl

section_again : {s : Section} {ts rest : List Tok} → IsSection s ts rest → Good ts →
    {total : ℕ} {tail : List ℕ} (r : Reads total tail (kinds rest)) → Apart tail →
    Again IsSection bare_section s total (s.name.text ++ 40 ∷ (listed_text param_text s.params ++ 41 ∷ (optional_text result_text s.result ++ (whole_text s.listed ++ 32 ∷ 123 ∷ (stmts_text 1 s.body.stmts ++ 10 ∷ 125 ∷ tail))))) ts r.tokens
section_again (is_section {s} ps t cs (is_block b)) g {total} {tail} r a =
    let g2 = (listed_good param_good ps g.1.1).1 in
    let g3 = optional_good result_good t g2 in
    let k = braced_again b (whole_good _ _ _ cs g3) 0 r a in
    let inside : List ℕ = 32 ∷ 123 ∷ (stmts_text 1 s.body.stmts ++ 10 ∷ 125 ∷ tail) in
    let l = whole_again s.listed _ _ cs g3 total inside (gap_on k.reads) refl in
    let apart = whole_apart s.listed inside refl in
    let y = optional_again (IsAfter Colon IsType) bare_type result_text result_again s.result _ _ t g2 total _ l.reads apart in
    let q = listed_again IsParam bare_param param_text param_good param_again s.params _ _ ps g.1.1 total _ (sign_on CloseParen y.reads (optional_apart result_text (λ x u. refl) s.result (whole_text s.listed ++ inside) apart)) refl in
    let n = name_on s.name.text g.0 (paren_on q.reads) refl in
    record {
      reads = n;
      tree = record { name = named s.name n; params = q.tree; result = y.tree; listed = l.tree; body = k.tree };
      is = is_section q.is y.is l.is (is_block k.is);
      same = rw (q.same, y.same, l.same, k.same) refl;
    }

-- a section as which one without classes is read has none
none_again : (x y : Section) (cs : List ClassName) → x.listed ≡ cs → y.listed ≡ [] → bare_section x ≡ bare_section y →
    x.listed ≡ []
none_again x y [] e none same = e
none_again x y (c ∷ cs) e none same =
    let listed : map bare_class x.listed ≡ map bare_class y.listed = ap (λ (s : Section). s.listed) same in
    absurd (some (sym (ap (map bare_class) e) ∙ listed ∙ ap (map bare_class) none))
  where
    some : bare_class c ∷ map bare_class cs ≡ [] → ⊥
    some h = cc

-- ---- declarations

-- the same initial value, whose first word is at this place
abbrev init_from : Span → Init → Init
init_from at i = record { start = at; pool = i.pool; index = i.index; field = i.field; value = i.value }

global_again : {v : Variable} {ts rest : List Tok} → IsVariable v ts rest → Good ts →
    {total : ℕ} {tail : List ℕ} (r : Reads total tail (kinds rest)) →
    Again IsVariable bare_variable v total ((((((type_text v.value_type ++ 32 ∷ []) ++ v.name.text) ++ optional_text protection_text v.protection) ++ optional_text value_text v.value) ++ 59 ∷ 10 ∷ []) ++ tail) ts r.tokens
global_again (is_variable {v} t p c) g {total} {tail} r =
    let g2 = type_good _ _ _ t g in
    let k = optional_again (IsAfter Equals IsConst) bare_const value_text value_again v.value _ _ c (optional_good protection_good p g2.1) total _ (sign_on Semicolon (line_on r) refl) refl in
    let q = maybe_protected v.protection _ _ p g2.1 total _ k.reads (optional_apart value_text (λ x u. refl) v.value (59 ∷ 10 ∷ tail) refl) in
    let n = name_on v.name.text g2.0 q.reads (protected_apart v.protection _ (optional_apart value_text (λ x u. refl) v.value (59 ∷ 10 ∷ tail) refl)) in
    let y = type_again v.value_type _ _ t g total _ (gap_on n) refl in
    record {
      reads = along (sym (variable_line (type_text v.value_type) v.name.text (optional_text protection_text v.protection) (optional_text value_text v.value) tail)) y.reads;
      tree = record { name = named v.name n; value_type = y.tree; protection = q.tree; value = k.tree };
      is = is_variable y.is q.is k.is;
      same = rw (y.same, q.same, k.same) refl;
    }

array_line : (t x n p tail : List ℕ) →
    (((((t ++ 32 ∷ []) ++ x) ++ n) ++ p) ++ 59 ∷ 10 ∷ []) ++ tail ≡ t ++ 32 ∷ (x ++ (n ++ (p ++ 59 ∷ 10 ∷ tail)))
array_line t x n p tail = simp append_assoc

array_again : {v : Array} {ts rest : List Tok} → IsArray v ts rest → Good ts →
    {total : ℕ} {tail : List ℕ} (r : Reads total tail (kinds rest)) →
    Again IsArray bare_array v total ((((((type_text v.value_type ++ 32 ∷ []) ++ v.name.text) ++ index_text v.length) ++ optional_text protection_text v.protection) ++ 59 ∷ 10 ∷ []) ++ tail) ts r.tokens
array_again (is_array {a = v} t l p) g {total} {tail} r =
    let g2 = type_good _ _ _ t g in
    let q = maybe_protected v.protection _ _ p (index_good _ _ _ l g2.1) total _ (sign_on Semicolon (line_on r) refl) refl in
    let m = index_again v.length _ _ l g2.1 total _ q.reads (protected_apart v.protection (59 ∷ 10 ∷ tail) refl) in
    let n = name_on v.name.text g2.0 m.reads refl in
    let y = type_again v.value_type _ _ t g total _ (gap_on n) refl in
    record {
      reads = along (sym (array_line (type_text v.value_type) v.name.text (index_text v.length) (optional_text protection_text v.protection) tail)) y.reads;
      tree = record { name = named v.name n; value_type = y.tree; length = m.tree; protection = q.tree };
      is = is_array y.is m.is q.is;
      same = rw (y.same, m.same, q.same) refl;
    }

init_again : {i : Init} {ts rest : List Tok} → IsInit i ts rest → Good ts →
    {total : ℕ} {tail : List ℕ} (r : Reads total tail (kinds rest)) →
    Again IsInit bare_init i total (((((((i.pool.text ++ index_text i.index) ++ 46 ∷ []) ++ i.field.text) ++ 32 ∷ 61 ∷ 32 ∷ []) ++ const_text i.value) ++ 59 ∷ 10 ∷ []) ++ tail) ts r.tokens
init_again (is_init {i} l c) g {total} {tail} r =
    let g2 = (index_good _ _ _ l g.1).1 in
    let k = const_again i.value _ _ c g2.1.1 total _ (sign_on Semicolon (line_on r) refl) refl in
    let f = name_on i.field.text g2.0 (gap_on (sign_on Equals (gap_on k.reads) refl)) refl in
    let m = index_again i.index _ _ l g.1 total _ (dot_on f) refl in
    let n = name_on i.pool.text g.0 m.reads refl in
    record {
      reads = along (sym (init_line i.pool.text (index_text i.index) i.field.text (const_text i.value) tail)) n;
      tree = record { start = nowhere; pool = named i.pool n; index = m.tree; field = named i.field f; value = k.tree };
      is = is_init m.is k.is;
      same = rw (m.same, k.same) refl;
    }

init_restarted : (at : Span) {i : Init} {ts rest : List Tok} → IsInit i ts rest → IsInit (init_from at i) ts rest
init_restarted at (is_init l c) = is_init l c

pub decl_again : {d : Decl} {ts rest : List Tok} → IsDecl d ts rest → Good ts →
    {total : ℕ} {tail : List ℕ} (r : Reads total tail (kinds rest)) →
    Again IsDecl bare_decl d total (decl_text d ++ tail) ts r.tokens
decl_again (is_lock {x}) g {tail = tail} r =
    let n = name_on x.text g.1.0 (sign_on Semicolon (line_on r) refl) refl in
    let w = word_on keyword.Lock (gap_on (along (sym (append_assoc x.text (59 ∷ 10 ∷ []) tail)) n)) refl in
    record { reads = w; tree = lock (named x n); is = is_lock; same = refl }
decl_again (is_struct_decl (is_struct {s} f)) g {total} {tail} r =
    let c = sign_on CloseBrace (line_on r) refl in
    let ms = many_again IsMember bare_member member_text member_good member_again member_apart s.members _ _ f g.1.1.1 total _ (line_on c) refl in
    let n = name_on s.name.text g.1.0 (gap_on (sign_on OpenBrace ms.reads (members_apart s.members (10 ∷ 125 ∷ 10 ∷ tail) refl))) refl in
    let w = word_on keyword.Struct (gap_on (along (sym (block_line s.name.text (many_text member_text s.members) tail)) n)) refl in
    record { reads = w; tree = struct (record { name = named s.name n; members = ms.tree }); is = is_struct_decl (is_struct ms.is); same = rw ms.same refl }
decl_again (is_global f) g r =
    let i = global_again f g.1 r in
    record { reads = word_on keyword.Global (gap_on i.reads) refl; tree = global i.tree; is = is_global i.is; same = ap global i.same }
decl_again (is_array_decl f) g r =
    let i = array_again f g.1 r in
    record { reads = word_on keyword.Global (gap_on i.reads) refl; tree = array i.tree; is = is_array_decl i.is; same = ap array i.same }
decl_again (is_pool_decl (is_pool {p} f)) g {total} {tail} r =
    let m = index_again p.length _ _ f g.1.1.1 total _ (sign_on Semicolon (line_on r) refl) refl in
    let n = name_on p.name.text g.1.1.0 m.reads refl in
    let t = name_on p.target.text g.1.0 (gap_on n) refl in
    let w = word_on keyword.Pool (gap_on (along (sym (pool_line p.target.text p.name.text (index_text p.length) tail)) t)) refl in
    record { reads = w; tree = pool (record { name = named p.name n; target = named p.target t; length = m.tree }); is = is_pool_decl (is_pool m.is); same = rw m.same refl }
decl_again (is_init_decl f) g r =
    let i = init_again f g.1 r in
    let w = word_on keyword.Init (gap_on i.reads) refl in
    record { reads = w; tree = init (init_from (start_of w) i.tree); is = is_init_decl (init_restarted (start_of w) i.is); same = ap init i.same }
decl_again (is_atomic {s} f) g {total} {tail} r =
    let i = section_again f g.1 (line_on r) refl in
    let w = word_on keyword.Atomic (gap_on (along (sym (section_line s.name.text (listed_text param_text s.params) (optional_text result_text s.result) (whole_text s.listed) (stmts_text 1 s.body.stmts) tail)) i.reads)) refl in
    record { reads = w; tree = atomic i.tree; is = is_atomic i.is; same = ap atomic i.same }
decl_again (is_helper {s} none f) g {total} {tail} r =
    let i = section_again f g.1 (line_on r) refl in
    let w = word_on keyword.Call (gap_on (along (sym (section_line s.name.text (listed_text param_text s.params) (optional_text result_text s.result) (whole_text s.listed) (stmts_text 1 s.body.stmts) tail)) i.reads)) refl in
    let empty = none_again i.tree s i.tree.listed refl none i.same in
    record { reads = w; tree = helper i.tree; is = is_helper empty i.is; same = ap helper i.same }
decl_again (is_thread_decl (is_thread {t} f)) g {total} {tail} r =
    let c = sign_on CloseBrace (line_on r) refl in
    let is = items_again f g.1.1.1 1 (line_on c) refl in
    let n = name_on t.name.text g.1.0 (gap_on (sign_on OpenBrace is.reads (items_apart 1 t.items (10 ∷ 125 ∷ 10 ∷ tail) refl))) refl in
    let w = word_on keyword.Thread (gap_on (along (sym (block_line t.name.text (items_text 1 t.items) tail)) n)) refl in
    record { reads = w; tree = thread (record { name = named t.name n; items = is.tree }); is = is_thread_decl (is_thread is.is); same = rw is.same refl }

-- declarations, which anything may follow
pub decls_again : {ds : List Decl} {ts rest : List Tok} → AreMany IsDecl ds ts rest → Good ts →
    {total : ℕ} {tail : List ℕ} (r : Reads total tail (kinds rest)) →
    Again (AreMany IsDecl) bare ds total (many_text decl_text ds ++ tail) ts r.tokens
decls_again no_more g r = record { reads = r; tree = []; is = no_more; same = refl }
decls_again (one_more {x = d} {xs = ds} f l) g {tail = tail} r =
    let ls = decls_again l (decl_good f g) r in
    let i = decl_again f g ls.reads in
    record {
      reads = along (sym (append_assoc (decl_text d) (many_text decl_text ds) tail)) i.reads;
      tree = i.tree ∷ ls.tree;
      is = one_more i.is ls.is;
      same = rw (i.same, ls.same) refl;
    }
