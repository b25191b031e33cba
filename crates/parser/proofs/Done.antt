-- Parts of declarations that were read one after another, joined.
use Rattle.std.proofs.Common.{◌≡◌, ℕ, zero, suc, ◌-◌, ◌<◌, List, [], refl, arith, sub-one, Option, Ok}
use Rattle.source.specs.declared.span.Span.{Span}
use Rattle.source.specs.Tokens.{Tok, mark}
use Rattle.parser.specs.Working.Reading.{listed_at, sign_at, open_at, word_at, name_at, maybe_at, after_at, int_at}
use Rattle.parser.specs.Working.Parts.{const_at, type_at, index_at, maybe_protection, params_at, classes_at}
use Rattle.parser.specs.Working.Declarations.{consts_in, items_with, item_at, items_in, members_with, member_at}
use Rattle.parser.specs.Working.Declarations.{members_in, pool_at, init_at, section_at, helper_at, array_at, variable_at}
use Rattle.parser.specs.Working.Declarations.{field_at, final_at, call_at, repeat_with}
use Rattle.source.specs.declared.token.Keyword.TheVariants as keyword
use Rattle.source.specs.declared.token.Number.{Number}
use Rattle.source.specs.declared.token.Sign.TheVariants.{Colon, Dot, Equals, Semicolon, OpenParen, CloseParen}
use Rattle.source.specs.declared.token.Sign.TheVariants.{OpenBrace, CloseBrace}
use Rattle.syntax.specs.Trees.{Ident, ValueType, Const, Protection, Param, Stmts, pool, init, array, global}
use Rattle.syntax.specs.Trees.{field_member, final_member, ClassName, Items}
use Rattle.parser.specs.Working.Statements.{braced_at}
use Rattle.parser.specs.Working.Rests.{pool_decl, init_decl}
use Rattle.syntax.specs.Trees as tree

-- ---- after an opening sign, if one may be opened

pub consts_in_some : (room : ℕ) → 0 < room → consts_in room ≡ listed_at (const_at (room - 1))
unfolding consts_in
consts_in_some zero h = absurd (omega arith)
consts_in_some (suc room) h = rw sub-one refl

pub items_in_some : (room : ℕ) → 0 < room → items_in room ≡ items_with (item_at (room - 1))
unfolding items_in
items_in_some zero h = absurd (omega arith)
items_in_some (suc room) h = rw sub-one refl

pub members_in_some : (room : ℕ) → 0 < room → members_in room ≡ members_with (member_at (room - 1))
unfolding members_in
members_in_some zero h = absurd (omega arith)
members_in_some (suc room) h = rw sub-one refl

-- ---- part by part

module _ (ts : List Tok) where
  module _ {t1 : List Tok} {x : Ident} (first : name_at ts ≡ Ok (x, t1)) where
    pub pool_done : {t2 t3 t4 : List Tok} {y : Ident} {n : Number} {s : Span} (room : ℕ) → name_at t1 ≡ Ok (y, t2) →
        index_at room t2 ≡ Ok (n, t3) → sign_at Semicolon t3 ≡ Ok (s, t4) →
        pool_decl room ts ≡ Ok (pool (record { name = y; target = x; length = n }), t4)
    unfolding pool_at
    pool_done room h2 h3 h4 = rw (first, h2, h3, h4) refl

    pub init_done : {t2 t3 t4 t5 t6 t7 : List Tok} {y : Ident} {n : Number} {v : Const} {s2 s4 s6 : Span} (room : ℕ) (start : Span) → index_at room t1 ≡ Ok (n, t2) → sign_at Dot t2 ≡ Ok (s2, t3) → name_at t3 ≡ Ok (y, t4) → sign_at Equals t4 ≡ Ok (s4, t5) → const_at room t5 ≡ Ok (v, t6) →
        sign_at Semicolon t6 ≡ Ok (s6, t7) → init_decl room start ts ≡ Ok (init (record { start = start; pool = x; index = n; field = y; value = v }), t7)
    unfolding init_at
    init_done room start h2 h3 h4 h5 h6 h7 = rw (first, h2, h3, h4, h5, h6, h7) refl

    pub section_done : {t2 t3 t4 t5 : List Tok} {ps : List Param} {r : Option ValueType} {cs : List ClassName} {b : Stmts × Span} (room : ℕ) →
        params_at room t1 ≡ Ok (ps, t2) → maybe_at (mark Colon) (after_at Colon type_at) t2 ≡ Ok (r, t3) →
        classes_at room t3 ≡ Ok (cs, t4) → braced_at room t4 ≡ Ok (b, t5) →
        section_at room ts ≡ Ok (record { name = x; params = ps; result = r; listed = cs; body = record { stmts = b.0; close = b.1 } }, t5)
    unfolding section_at
    section_done room h2 h3 h4 h5 = rw (first, h2, h3, h4, h5) refl

    pub helper_done : {t2 t3 t4 : List Tok} {ps : List Param} {r : Option ValueType} {b : Stmts × Span} (room : ℕ) →
        params_at room t1 ≡ Ok (ps, t2) → maybe_at (mark Colon) (after_at Colon type_at) t2 ≡ Ok (r, t3) →
        braced_at room t3 ≡ Ok (b, t4) →
        helper_at room ts ≡ Ok (record { name = x; params = ps; result = r; listed = []; body = record { stmts = b.0; close = b.1 } }, t4)
    unfolding helper_at
    helper_done room h2 h3 h4 = rw (first, h2, h3, h4) refl

    pub call_done : {t2 t3 t4 t5 : List Tok} {cs : List Const} {s1 s3 s4 : Span} (room : ℕ) →
        open_at OpenParen room t1 ≡ Ok (s1, t2) → 0 < room → listed_at (const_at (room - 1)) t2 ≡ Ok (cs, t3) →
        sign_at CloseParen t3 ≡ Ok (s3, t4) → sign_at Semicolon t4 ≡ Ok (s4, t5) →
        call_at room ts ≡ Ok (record { section = x; arguments = cs }, t5)
    unfolding call_at
    call_done room h2 some h3 h4 h5 = rw (first, h2, consts_in_some room some, h3, h4, h5) refl

  module _ {t1 : List Tok} {t : ValueType} (first : type_at ts ≡ Ok (t, t1)) where
    pub field_done : {t2 t3 t4 : List Tok} {x : Ident} {p : Option Protection} {s : Span} (room : ℕ) →
        name_at t1 ≡ Ok (x, t2) → maybe_protection room t2 ≡ Ok (p, t3) → sign_at Semicolon t3 ≡ Ok (s, t4) →
        field_at room ts ≡ Ok (field_member (record { name = x; value_type = t; protection = p }), t4)
    unfolding field_at
    field_done room h2 h3 h4 = rw (first, h2, h3, h4) refl

  pub array_done : {t1 t2 t3 : List Tok} {n : Number} {p : Option Protection} {s : Span} (room : ℕ) (t : ValueType) (x : Ident) → index_at room ts ≡ Ok (n, t1) → maybe_protection room t1 ≡ Ok (p, t2) → sign_at Semicolon t2 ≡ Ok (s, t3) →
      array_at room t x ts ≡ Ok (array (record { name = x; value_type = t; length = n; protection = p }), t3)
  unfolding array_at
  array_done room t x h1 h2 h3 = rw (h1, h2, h3) refl

  pub variable_done : {t1 t2 t3 : List Tok} {v : Option Const} {p : Option Protection} {s : Span} (room : ℕ) (t : ValueType) (x : Ident) → maybe_protection room ts ≡ Ok (p, t1) → maybe_at (mark Equals) (after_at Equals (const_at room)) t1 ≡ Ok (v, t2) → sign_at Semicolon t2 ≡ Ok (s, t3) →
      variable_at room t x ts ≡ Ok (global (record { name = x; value_type = t; protection = p; value = v }), t3)
  unfolding variable_at
  variable_done room t x h1 h2 h3 = rw (h1, h2, h3) refl

  pub final_done : {t1 t2 t3 t4 t5 : List Tok} {x y : Ident} {s1 s2 s5 : Span} →
      word_at keyword.Final ts ≡ Ok (s1, t1) → word_at keyword.Ref t1 ≡ Ok (s2, t2) → name_at t2 ≡ Ok (x, t3) →
      name_at t3 ≡ Ok (y, t4) → sign_at Semicolon t4 ≡ Ok (s5, t5) →
      final_at ts ≡ Ok (final_member (record { name = y; target = x }), t5)
  unfolding final_at
  final_done h1 h2 h3 h4 h5 = rw (h1, h2, h3, h4, h5) refl

pub repeat_done : (room : ℕ) (ts t1 t2 t3 t4 t5 : List Tok) (w o c : Span) (n : Number) (is : Items) →
    word_at keyword.Repeat ts ≡ Ok (w, t1) → int_at t1 ≡ Ok (n, t2) → open_at OpenBrace room t2 ≡ Ok (o, t3) →
    0 < room → items_with (item_at (room - 1)) t3 ≡ Ok (is, t4) → sign_at CloseBrace t4 ≡ Ok (c, t5) →
    repeat_with room (items_in room) ts ≡ Ok (tree.repeat n is, t5)
unfolding repeat_with
repeat_done room ts t1 t2 t3 t4 t5 w o c n is h1 h2 h3 some h4 h5 = rw (h1, h2, h3, items_in_some room some, h4, h5) refl
