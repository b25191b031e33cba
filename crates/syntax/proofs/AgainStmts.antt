-- Printed statements are parsed as the same trees.
use Rattle.std.proofs.Common.{◌≡◌, ℕ, List, [], ◌∷◌, ◌++◌, refl, sym, ap, append_assoc}
use Rattle.source.specs.declared.span.Span.{Span}
use Rattle.source.specs.declared.token.Keyword.TheVariants as keyword
use Rattle.source.specs.declared.token.Sign.TheVariants.{OpenBrace, CloseBrace, CloseParen, Semicolon, Colon, Equals}
use Rattle.source.specs.declared.token.Sign.TheVariants.{DoubleEquals}
use Rattle.source.specs.Tokens.{Tok}
use Rattle.syntax.specs.Trees.{Local, HelperCall, Stmt, let_local, let_owned, let_call, var_local, assign, if_then}
use Rattle.syntax.specs.Trees.{while, print, return_value, Stmts, no_stmts, stmt, Otherwise, no_else, else_do, Block}
use Rattle.syntax.specs.Grammar.{ANY, IsExpr, IsLocal, is_local, IsOwner, is_owner, IsHelperCall, is_helper_call}
use Rattle.syntax.specs.Grammar.{IsStmt, is_let, is_let_owned, is_let_call, is_var, is_assign, is_if, is_while}
use Rattle.syntax.specs.Grammar.{is_print, is_return, is_call_stmt, IsStmts, are_no_stmts, are_stmts, IsBraced}
use Rattle.syntax.specs.Grammar.{is_braced, IsElse, is_no_else, is_else}
use Rattle.syntax.specs.Working.Printing.{listed_text, type_text, expr_text, place_text, indent, deeper, local_text}
use Rattle.syntax.specs.Working.Printing.{owner_text, helper_call_text, stmt_text, stmts_text, else_text}
use Rattle.syntax.specs.Working.Bare.{nowhere, bare_expr, bare_local, bare_owner, bare_helper_call, bare_stmt}
use Rattle.syntax.specs.Working.Bare.{bare_stmts, bare_else, bare_block}
use Rattle.syntax.proofs.Marks.{Apart}
use Rattle.syntax.proofs.Good.{Good, type_good, expr_good, place_good, local_good, any_good, stmt_good, braced_good}
use Rattle.syntax.proofs.Backward.{kinds, Reads, start_of, named, along, word_on, sign_on, name_on, paren_on, gap_on}
use Rattle.syntax.proofs.Backward.{line_on, indent_on, Again, Rereads, listed_again}
use Rattle.syntax.proofs.AgainExprs.{type_again, expr_again, place_again}

-- ---- the texts of lines, grouped to the right

local_line : (x t e tail : List ℕ) →
    ((((x ++ 58 ∷ 32 ∷ []) ++ t) ++ 32 ∷ 61 ∷ 32 ∷ []) ++ e) ++ tail ≡ x ++ 58 ∷ 32 ∷ (t ++ 32 ∷ 61 ∷ 32 ∷ (e ++ tail))
local_line x t e tail = simp append_assoc

owner_line : (f l tail : List ℕ) → ((f ++ 32 ∷ 61 ∷ 61 ∷ 32 ∷ []) ++ l) ++ tail ≡ f ++ 32 ∷ 61 ∷ 61 ∷ 32 ∷ (l ++ tail)
owner_line f l tail = simp append_assoc

owned_line : (l o tail : List ℕ) → ((l ++ o) ++ 59 ∷ []) ++ tail ≡ l ++ (o ++ 59 ∷ tail)
owned_line l o tail = simp append_assoc

helper_call_line : (x es tail : List ℕ) → (((x ++ 40 ∷ []) ++ es) ++ 41 ∷ []) ++ tail ≡ x ++ 40 ∷ (es ++ 41 ∷ tail)
helper_call_line x es tail = simp append_assoc

called_line : (x t c tail : List ℕ) →
    (((((x ++ 58 ∷ 32 ∷ []) ++ t) ++ 32 ∷ 61 ∷ 32 ∷ 99 ∷ 97 ∷ 108 ∷ 108 ∷ 32 ∷ []) ++ c) ++ 59 ∷ []) ++ tail ≡ x ++ 58 ∷ 32 ∷ (t ++ 32 ∷ 61 ∷ 32 ∷ 99 ∷ 97 ∷ 108 ∷ 108 ∷ 32 ∷ (c ++ 59 ∷ tail))
called_line x t c tail = simp append_assoc

assign_line : (p e tail : List ℕ) →
    (((p ++ 32 ∷ 61 ∷ 32 ∷ []) ++ e) ++ 59 ∷ []) ++ tail ≡ p ++ 32 ∷ 61 ∷ 32 ∷ (e ++ 59 ∷ tail)
assign_line p e tail = simp append_assoc

while_line : (e ss i tail : List ℕ) →
    ((e ++ 41 ∷ []) ++ 32 ∷ 123 ∷ (((ss ++ 10 ∷ []) ++ i) ++ 125 ∷ [])) ++ tail ≡ e ++ 41 ∷ 32 ∷ 123 ∷ (ss ++ 10 ∷ (i ++ 125 ∷ tail))
while_line e ss i tail = simp append_assoc

if_line : (e ss i o tail : List ℕ) →
    (((e ++ 41 ∷ []) ++ 32 ∷ 123 ∷ (((ss ++ 10 ∷ []) ++ i) ++ 125 ∷ [])) ++ o) ++ tail ≡ e ++ 41 ∷ 32 ∷ 123 ∷ (ss ++ 10 ∷ (i ++ 125 ∷ (o ++ tail)))
if_line e ss i o tail = simp append_assoc

else_line : (ss i tail : List ℕ) → (((ss ++ 10 ∷ []) ++ i) ++ 125 ∷ []) ++ tail ≡ ss ++ 10 ∷ (i ++ 125 ∷ tail)
else_line ss i tail = simp append_assoc

stmt_line : (i s ss tail : List ℕ) → ((i ++ s) ++ ss) ++ tail ≡ i ++ (s ++ (ss ++ tail))
stmt_line i s ss tail = simp append_assoc

stmts_apart : (d : ℕ) (ss : Stmts) (tail : List ℕ) → Apart tail → Apart (stmts_text d ss ++ tail)
stmts_apart d no_stmts tail a = a
stmts_apart d (stmt s more) tail a = refl

else_apart : (d : ℕ) (o : Otherwise) (tail : List ℕ) → Apart tail → Apart (else_text d o ++ tail)
else_apart d no_else tail a = a
else_apart d (else_do ss close) tail a = refl

-- ---- statements

local_again : {l : Local} {ts rest : List Tok} → IsLocal l ts rest → Good ts →
    {total : ℕ} {tail : List ℕ} (r : Reads total tail (kinds rest)) → Apart tail →
    Again IsLocal bare_local l total (local_text l ++ tail) ts r.tokens
local_again (is_local {l} t e) g {total} {tail} r a =
    let i = expr_again e (type_good _ _ _ t g.1.1).1 r a in
    let y = type_again l.value_type _ _ t g.1.1 total _ (gap_on (sign_on Equals (gap_on i.reads) refl)) refl in
    let n = name_on l.name.text g.0 (sign_on Colon (gap_on y.reads) refl) refl in
    record {
      reads = along (sym (local_line l.name.text (type_text l.value_type) (expr_text l.value) tail)) n;
      tree = record { start = nowhere; name = named l.name n; value_type = y.tree; value = i.tree };
      is = is_local y.is i.is;
      same = rw (y.same, i.same) refl;
    }

owner_again : Rereads IsOwner bare_owner owner_text
owner_again o ts rest is_owner g total tail r a =
    let l = name_on o.local.text g.1.1.1.0 r a in
    let f = name_on o.field.text g.1.0 (gap_on (sign_on DoubleEquals (gap_on l) refl)) refl in
    record {
      reads = gap_on (word_on keyword.Where (gap_on (along (sym (owner_line o.field.text o.local.text tail)) f)) refl);
      tree = record { field = named o.field f; local = named o.local l };
      is = is_owner;
      same = refl;
    }

argument_again : Rereads (IsExpr ANY) bare_expr expr_text
argument_again e ts rest f g total tail r a = expr_again f g r a

helper_call_again : {c : HelperCall} {ts rest : List Tok} → IsHelperCall c ts rest → Good ts →
    {total : ℕ} {tail : List ℕ} (r : Reads total tail (kinds rest)) → Apart tail →
    Again IsHelperCall bare_helper_call c total (helper_call_text c ++ tail) ts r.tokens
helper_call_again (is_helper_call {c} f) g {total} {tail} r a =
    let es = listed_again (IsExpr ANY) bare_expr expr_text any_good argument_again c.arguments _ _ f g.1.1 total _ (sign_on CloseParen r a) refl in
    let n = name_on c.helper.text g.0 (paren_on es.reads) refl in
    record {
      reads = along (sym (helper_call_line c.helper.text (listed_text expr_text c.arguments) tail)) n;
      tree = record { helper = named c.helper n; arguments = es.tree };
      is = is_helper_call es.is;
      same = rw es.same refl;
    }

-- the same local's statement, whose first word is at this place
abbrev from_start : Span → Local → Local
from_start at l = record { start = at; name = l.name; value_type = l.value_type; value = l.value }

restarted : (at : Span) {l : Local} {ts rest : List Tok} → IsLocal l ts rest → IsLocal (from_start at l) ts rest
restarted at (is_local t e) = is_local t e

abbrev pub IsBracedBlock : Block → List Tok → List Tok → Type 0
IsBracedBlock b ts rest = IsBraced b.stmts b.close ts rest

mutual
  pub stmt_again : {s : Stmt} {ts rest : List Tok} → IsStmt s ts rest → Good ts →
      (d : ℕ) {total : ℕ} {tail : List ℕ} (r : Reads total tail (kinds rest)) → Apart tail →
      Again IsStmt bare_stmt s total (stmt_text d s ++ tail) ts r.tokens
  stmt_again (is_let {l} f) g d {tail = tail} r a =
      let i = local_again f g.1 (sign_on Semicolon r a) refl in
      let w = word_on keyword.Let (gap_on (along (sym (append_assoc (local_text l) (59 ∷ []) tail)) i.reads)) refl in
      record { reads = w; tree = let_local (from_start (start_of w) i.tree); is = is_let (restarted (start_of w) i.is); same = ap let_local i.same }
  stmt_again (is_let_owned {l} {o} f h) g d {total} {tail} r a =
      let x = owner_again o _ _ h (local_good f g.1) total _ (sign_on Semicolon r a) refl in
      let i = local_again f g.1 x.reads refl in
      let w = word_on keyword.Let (gap_on (along (sym (owned_line (local_text l) (owner_text o) tail)) i.reads)) refl in
      record {
        reads = w;
        tree = let_owned (from_start (start_of w) i.tree) x.tree;
        is = is_let_owned (restarted (start_of w) i.is) x.is;
        same = rw (i.same, x.same) refl;
      }
  stmt_again (is_let_call {l} t f) g d {total} {tail} r a =
      let i = helper_call_again f (type_good _ _ _ t g.1.1.1).1.1 (sign_on Semicolon r a) refl in
      let c = gap_on (sign_on Equals (gap_on (word_on keyword.Call (gap_on i.reads) refl)) refl) in
      let y = type_again l.value_type _ _ t g.1.1.1 total _ c refl in
      let n = name_on l.name.text g.1.0 (sign_on Colon (gap_on y.reads) refl) refl in
      let w = word_on keyword.Let (gap_on (along (sym (called_line l.name.text (type_text l.value_type) (helper_call_text l.call) tail)) n)) refl in
      record {
        reads = w;
        tree = let_call (record { start = start_of w; name = named l.name n; value_type = y.tree; call = i.tree });
        is = is_let_call y.is i.is;
        same = rw (y.same, i.same) refl;
      }
  stmt_again (is_var {l} f) g d {tail = tail} r a =
      let i = local_again f g.1 (sign_on Semicolon r a) refl in
      let w = word_on keyword.Var (gap_on (along (sym (append_assoc (local_text l) (59 ∷ []) tail)) i.reads)) refl in
      record { reads = w; tree = var_local (from_start (start_of w) i.tree); is = is_var (restarted (start_of w) i.is); same = ap var_local i.same }
  stmt_again (is_assign {p} {e} f h) g d {tail = tail} r a =
      let i = expr_again h (place_good f g).1 (sign_on Semicolon r a) refl in
      let j = place_again f g (gap_on (sign_on Equals (gap_on i.reads) refl)) refl in
      record {
        reads = along (sym (assign_line (place_text p) (expr_text e) tail)) j.reads;
        tree = assign j.tree i.tree;
        is = is_assign j.is i.is;
        same = rw (j.same, i.same) refl;
      }
  stmt_again (is_if {e} {body} {other} f b o) g d {tail = tail} r a =
      let gb = (expr_good f g.1.1).1 in
      let x = else_again o (braced_good b gb) d r a in
      let k = braced_again b gb d x.reads (else_apart d other tail a) in
      let i = expr_again f g.1.1 (sign_on CloseParen (gap_on k.reads) refl) refl in
      let w = word_on keyword.If (gap_on (paren_on i.reads)) refl in
      record {
        reads = along (ap (λ (t : List ℕ). 105 ∷ 102 ∷ 32 ∷ 40 ∷ t) (sym (if_line (expr_text e) (stmts_text (deeper d) body) (indent d) (else_text d other) tail))) w;
        tree = if_then (start_of w) i.tree k.tree.stmts k.tree.close x.tree;
        is = is_if i.is k.is x.is;
        same = let q : bare_stmts k.tree.stmts ≡ bare_stmts body = ap (λ (y : Block). y.stmts) k.same in rw (i.same, q, x.same) refl;
      }
  stmt_again (is_while {e} {body} f b) g d {tail = tail} r a =
      let k = braced_again b (expr_good f g.1.1).1 d r a in
      let i = expr_again f g.1.1 (sign_on CloseParen (gap_on k.reads) refl) refl in
      let w = word_on keyword.While (gap_on (paren_on (along (sym (while_line (expr_text e) (stmts_text (deeper d) body) (indent d) tail)) i.reads))) refl in
      record {
        reads = w;
        tree = while (start_of w) i.tree k.tree.stmts k.tree.close;
        is = is_while i.is k.is;
        same = let q : bare_stmts k.tree.stmts ≡ bare_stmts body = ap (λ (y : Block). y.stmts) k.same in rw (i.same, q) refl;
      }
  stmt_again (is_print {e} f) g d {tail = tail} r a =
      let i = expr_again f g.1 (sign_on Semicolon r a) refl in
      let w = word_on keyword.Print (gap_on (along (sym (append_assoc (expr_text e) (59 ∷ []) tail)) i.reads)) refl in
      record { reads = w; tree = print (start_of w) i.tree; is = is_print i.is; same = ap (print nowhere) i.same }
  stmt_again (is_return {e} f) g d {tail = tail} r a =
      let i = expr_again f g.1 (sign_on Semicolon r a) refl in
      let w = word_on keyword.Return (gap_on (along (sym (append_assoc (expr_text e) (59 ∷ []) tail)) i.reads)) refl in
      record { reads = w; tree = return_value (start_of w) i.tree; is = is_return i.is; same = ap (return_value nowhere) i.same }
  stmt_again (is_call_stmt {c} f) g d {tail = tail} r a =
      let i = helper_call_again f g.1 (sign_on Semicolon r a) refl in
      let w = word_on keyword.Call (gap_on (along (sym (append_assoc (helper_call_text c) (59 ∷ []) tail)) i.reads)) refl in
      record { reads = w; tree = Stmt.call (start_of w) i.tree; is = is_call_stmt i.is; same = ap (Stmt.call nowhere) i.same }

  pub stmts_again : {ss : Stmts} {ts rest : List Tok} → IsStmts ss ts rest → Good ts →
      (d : ℕ) {total : ℕ} {tail : List ℕ} (r : Reads total tail (kinds rest)) → Apart tail →
      Again IsStmts bare_stmts ss total (stmts_text d ss ++ tail) ts r.tokens
  stmts_again are_no_stmts g d r a = record { reads = r; tree = no_stmts; is = are_no_stmts; same = refl }
  stmts_again (are_stmts {s} {more} f l) g d {tail = tail} r a =
      let ls = stmts_again l (stmt_good f g) d r a in
      let i = stmt_again f g d ls.reads (stmts_apart d more tail a) in
      record {
        reads = line_on (along (sym (stmt_line (indent d) (stmt_text d s) (stmts_text d more) tail)) (indent_on d i.reads));
        tree = stmt i.tree ls.tree;
        is = are_stmts i.is ls.is;
        same = rw (i.same, ls.same) refl;
      }

  pub braced_again : {ss : Stmts} {close : Span} {ts rest : List Tok} → IsBraced ss close ts rest → Good ts →
      (d : ℕ) {total : ℕ} {tail : List ℕ} (r : Reads total tail (kinds rest)) → Apart tail →
      Again IsBracedBlock bare_block (record { stmts = ss; close = close }) total (123 ∷ (stmts_text (deeper d) ss ++ 10 ∷ (indent d ++ 125 ∷ tail))) ts r.tokens
  braced_again (is_braced {ss} f) g d {tail = tail} r a =
      let c = sign_on CloseBrace r a in
      let i = stmts_again f g.1 (deeper d) (line_on (indent_on d c)) refl in
      record {
        reads = sign_on OpenBrace i.reads (stmts_apart (deeper d) ss (10 ∷ (indent d ++ 125 ∷ tail)) refl);
        tree = record { stmts = i.tree; close = start_of c };
        is = is_braced i.is;
        same = rw i.same refl;
      }

  pub else_again : {o : Otherwise} {ts rest : List Tok} → IsElse o ts rest → Good ts →
      (d : ℕ) {total : ℕ} {tail : List ℕ} (r : Reads total tail (kinds rest)) → Apart tail →
      Again IsElse bare_else o total (else_text d o ++ tail) ts r.tokens
  else_again is_no_else g d r a = record { reads = r; tree = no_else; is = is_no_else; same = refl }
  else_again (is_else {ss} f) g d {tail = tail} r a =
      let k = braced_again f g.1 d r a in
      record {
        reads = gap_on (word_on keyword.Else (gap_on (along (ap (λ (t : List ℕ). 123 ∷ t) (sym (else_line (stmts_text (deeper d) ss) (indent d) tail))) k.reads)) refl);
        tree = else_do k.tree.stmts k.tree.close;
        is = is_else k.is;
        same = let q : bare_stmts k.tree.stmts ≡ bare_stmts ss = ap (λ (y : Block). y.stmts) k.same in rw q refl;
      }
