-- The law of declarations and programs.
use Rattle.std.proofs.Common.{◌≡◌, ℕ, zero, suc, ◌+◌, ◌<◌, List, [], ◌∷◌, None, refl, subst, arith}
use Rattle.source.specs.declared.span.Span.{Span}
use Rattle.source.specs.declared.token.Keyword.TheVariants as keyword
use Rattle.source.specs.declared.token.Sign.TheVariants.{OpenBrace, CloseBrace, OpenParen, CloseParen, OpenBracket}
use Rattle.source.specs.declared.token.Sign.TheVariants.{CloseBracket, Semicolon, Colon, Dot, Equals}
use Rattle.source.specs.Tokens.{Lexeme, word, mark, end, Tok}
use Rattle.syntax.specs.Trees as tree
use Rattle.syntax.specs.Trees.{Ident, ValueType, int_type, no_stmts, Member, lock_member, final_member, field_member}
use Rattle.syntax.specs.Trees.{Section, Items, no_items, Decl, lock, struct, global, array, pool, init, atomic}
use Rattle.syntax.specs.Trees.{helper, thread}
use Rattle.syntax.specs.Grammar.{tok, name_tok, IsOptional, left_out, AreMany, no_more, one_more, IsAfter, AreListed}
use Rattle.syntax.specs.Grammar.{none_listed, IsName, is_name, IsType, is_int_type, IsConst, is_int_const}
use Rattle.syntax.specs.Grammar.{are_no_stmts, is_braced, is_block, IsIndex, is_index, IsProtection, is_variable}
use Rattle.syntax.specs.Grammar.{is_array, is_final, is_field, IsMember, is_lock_member, is_final_member}
use Rattle.syntax.specs.Grammar.{is_field_member, IsStruct, is_struct, IsPool, is_pool, IsInit, is_init, AreTakenWhole}
use Rattle.syntax.specs.Grammar.{none_taken, IsSection, is_section, IsCall, is_call, IsItem, is_call_item, is_repeat, IsItems, are_no_items}
use Rattle.syntax.specs.Grammar.{are_items, IsThread, is_thread, IsDecl, is_lock, is_struct_decl, is_global}
use Rattle.syntax.specs.Grammar.{is_array_decl, is_pool_decl, is_init_decl, is_atomic, is_helper, is_thread_decl}
use Rattle.parser.specs.Working.Reading.{Reader, next_until, choose}
use Rattle.parser.specs.Working.Declarations.{array_at, variable_at, global_at, section_at, helper_at, consts_in}
use Rattle.parser.specs.Working.Declarations.{call_at}
use Rattle.parser.specs.Working.Declarations.{call_item, repeat_with, item_with, item_at, items_with, items_in}
use Rattle.parser.specs.Working.Declarations.{thread_at, lock_at, field_at, final_at, lock_member_at, member_at}
use Rattle.parser.specs.Working.Declarations.{members_with, members_in, struct_at, pool_at, init_at, decl_from}
use Rattle.parser.specs.Working.Declarations.{decl_at, decls_at}
use Rattle.parser.specs.Theory.Law.{implies, Says, Law, at_rest, Head, refuses, takes, first_law, IsTok, is_tok}
use Rattle.parser.specs.Theory.Law.{IsInt, is_int_tok}
use Rattle.parser.specs.Theory.Laws.{many_law}
use Rattle.parser.specs.Theory.Joined.{Done, done, Both, both, nowhere, Part, Rest, ends_with, then_part, then_open}
use Rattle.parser.specs.Theory.Joined.{production, sign_part, word_part, name_part, int_part, until_law, maybe_part}
use Rattle.parser.specs.Theory.Joined.{listed_part, choose_law, weaken_law, either}
use Rattle.parser.specs.Theory.StatementLaws.{IsBracedPair, block_part}
use Rattle.parser.specs.Theory.PartLaws.{IsParams, is_params, one_is, no_name, zero_const, zero_tok, no_count}
use Rattle.parser.specs.Theory.PartLaws.{type_part, after_part, index_part, const_part, maybe_protection_part}
use Rattle.parser.specs.Theory.PartLaws.{params_part, classes_part}

-- ---- each production, by its parts

-- what follows the type and the name of a global
pub data IsGlobalRest (t : ValueType) (x : Ident) : Decl → List Tok → List Tok → Type 0 where
  is_global_rest : {d : Decl} {ts2 rest : List Tok} →
      ((start : Span) (ts : List Tok) → IsType t ts (name_tok x ∷ ts2) →
      IsDecl d (tok (word keyword.Global) start ∷ ts) rest) → IsGlobalRest t x d ts2 rest

array_is : {t : ValueType} {x : Ident} {y : Decl} {ts rest : List Tok} →
    Both IsIndex (λ n. Both (IsOptional IsProtection) (λ p. Both (IsTok (mark Semicolon)) (λ s. Done (array (record { name = x; value_type = t; length = n; protection = p }))))) y ts rest → IsGlobalRest t x y ts rest
array_is (both n (both p (both is_tok done))) = is_global_rest (λ start ts t. is_array_decl (is_array t n p))

variable_is : {t : ValueType} {x : Ident} {y : Decl} {ts rest : List Tok} →
    Both (IsOptional IsProtection) (λ p. Both (IsOptional (IsAfter Equals IsConst)) (λ v. Both (IsTok (mark Semicolon)) (λ s. Done (global (record { name = x; value_type = t; protection = p; value = v }))))) y ts rest → IsGlobalRest t x y ts rest
variable_is (both p (both v (both is_tok done))) = is_global_rest (λ start ts t. is_global (is_variable t p v))

-- a global after its first word
pub data IsGlobal (d : Decl) (ts rest : List Tok) : Type 0 where
  is_any_global : ((start : Span) → IsDecl d (tok (word keyword.Global) start ∷ ts) rest) → IsGlobal d ts rest

global_is : {y : Decl} {ts rest : List Tok} → Both IsType (λ t. Both IsName (λ x. IsGlobalRest t x)) y ts rest →
    IsGlobal y ts rest
global_is {ts = ts} (both t (both is_name (is_global_rest d))) = is_any_global (λ start. d start ts t)

any_global_is : {y : Decl} {ts rest : List Tok} (start : Span) → IsGlobal y ts rest →
    IsDecl y (tok (word keyword.Global) start ∷ ts) rest
any_global_is start (is_any_global d) = d start

field_is : {y : Member} {ts rest : List Tok} →
    Both IsType (λ t. Both IsName (λ x. Both (IsOptional IsProtection) (λ p. Both (IsTok (mark Semicolon)) (λ s. Done (field_member (record { name = x; value_type = t; protection = p })))))) y ts rest → IsMember y ts rest
field_is (both t (both is_name (both p (both is_tok done)))) = is_field_member (is_field t p)

final_is : {y : Member} {ts rest : List Tok} →
    Both (IsTok (word keyword.Final)) (λ w. Both (IsTok (word keyword.Ref)) (λ r. Both IsName (λ target. Both IsName (λ x. Both (IsTok (mark Semicolon)) (λ s. Done (final_member (record { name = x; target = target }))))))) y ts rest → IsMember y ts rest
final_is (both is_tok (both is_tok (both is_name (both is_name (both is_tok done))))) = is_final_member is_final

struct_is : {y : tree.Struct} {ts rest : List Tok} →
    Both IsName (λ x. Both (IsTok (mark OpenBrace)) (λ b. Both (AreMany IsMember) (λ ms. Both (IsTok (mark CloseBrace)) (λ c. Done (record { name = x; members = ms }))))) y ts rest → IsStruct y ts rest
struct_is (both is_name (both is_tok (both ms (both is_tok done)))) = is_struct ms

pool_is : {y : tree.Pool} {ts rest : List Tok} →
    Both IsName (λ target. Both IsName (λ x. Both IsIndex (λ n. Both (IsTok (mark Semicolon)) (λ s. Done (record { name = x; target = target; length = n }))))) y ts rest → IsPool y ts rest
pool_is (both is_name (both is_name (both n (both is_tok done)))) = is_pool n

init_is : {start : Span} {y : tree.Init} {ts rest : List Tok} →
    Both IsName (λ p. Both IsIndex (λ n. Both (IsTok (mark Dot)) (λ d. Both IsName (λ x. Both (IsTok (mark Equals)) (λ q. Both IsConst (λ c. Both (IsTok (mark Semicolon)) (λ s. Done (record { start = start; pool = p; index = n; field = x; value = c })))))))) y ts rest → (y.start ≡ start) × IsInit y ts rest
init_is (both is_name (both n (both is_tok (both is_name (both is_tok (both c (both is_tok done))))))) = (refl, is_init n c)

-- one whose first word stands there
pub data IsInitFrom (start : Span) : tree.Init → List Tok → List Tok → Type 0 where
  init_there : {i : tree.Init} {ts rest : List Tok} → i.start ≡ start → IsInit i ts rest → IsInitFrom start i ts rest

init_from_is : {start : Span} {y : tree.Init} {ts rest : List Tok} → (y.start ≡ start) × IsInit y ts rest →
    IsInitFrom start y ts rest
init_from_is h = init_there h.0 h.1

init_decl_is : {start : Span} {i : tree.Init} {ts rest : List Tok} → IsInitFrom start i ts rest →
    IsDecl (init i) (tok (word keyword.Init) start ∷ ts) rest
init_decl_is {i = i} {ts = ts} {rest = rest} (init_there e h) = subst (λ (s : Span). IsDecl (init i) (tok (word keyword.Init) s ∷ ts) rest) e (is_init_decl h)

section_is : {y : Section} {ts rest : List Tok} →
    Both IsName (λ x. Both IsParams (λ ps. Both (IsOptional (IsAfter Colon IsType)) (λ r. Both AreTakenWhole (λ cs. Both IsBracedPair (λ b. Done (record { name = x; params = ps; result = r; listed = cs; body = record { stmts = b.0; close = b.1 } })))))) y ts rest → IsSection y ts rest
section_is (both is_name (both (is_params ps) (both r (both cs (both b done))))) = is_section ps r cs (is_block b)

-- a helper, after its first word
pub data IsHelper (s : Section) (ts rest : List Tok) : Type 0 where
  without_classes : s.listed ≡ [] → IsSection s ts rest → IsHelper s ts rest

helper_is : {y : Section} {ts rest : List Tok} →
    Both IsName (λ x. Both IsParams (λ ps. Both (IsOptional (IsAfter Colon IsType)) (λ r. Both IsBracedPair (λ b. Done (record { name = x; params = ps; result = r; listed = []; body = record { stmts = b.0; close = b.1 } }))))) y ts rest → IsHelper y ts rest
helper_is (both is_name (both (is_params ps) (both r (both b done)))) = without_classes refl (is_section ps r none_taken (is_block b))

helper_decl_is : {s : Section} {start : Span} {ts rest : List Tok} → IsHelper s ts rest →
    IsDecl (helper s) (tok (word keyword.Call) start ∷ ts) rest
helper_decl_is (without_classes none h) = is_helper none h

call_is : {y : tree.Call} {ts rest : List Tok} →
    Both IsName (λ x. Both (IsTok (mark OpenParen)) (λ b. Both (AreListed IsConst) (λ cs. Both (IsTok (mark CloseParen)) (λ c. Both (IsTok (mark Semicolon)) (λ s. Done (record { section = x; arguments = cs })))))) y ts rest → IsCall y ts rest
call_is (both is_name (both is_tok (both cs (both is_tok (both is_tok done))))) = is_call cs

item_is : {y : tree.Item} {ts rest : List Tok} → Both IsCall (λ c. Done (tree.Item.call c)) y ts rest → IsItem y ts rest
item_is (both c done) = is_call_item c

repeat_is : {y : tree.Item} {ts rest : List Tok} →
    Both (IsTok (word keyword.Repeat)) (λ w. Both IsInt (λ n. Both (IsTok (mark OpenBrace)) (λ b. Both IsItems (λ is. Both (IsTok (mark CloseBrace)) (λ c. Done (tree.repeat n is)))))) y ts rest → IsItem y ts rest
repeat_is (both is_tok (both is_int_tok (both is_tok (both is (both is_tok done))))) = is_repeat is

thread_is : {y : tree.Thread} {ts rest : List Tok} →
    Both IsName (λ x. Both (IsTok (mark OpenBrace)) (λ b. Both IsItems (λ is. Both (IsTok (mark CloseBrace)) (λ c. Done (record { name = x; items = is }))))) y ts rest → IsThread y ts rest
thread_is (both is_name (both is_tok (both is (both is_tok done)))) = is_thread is

-- a lock after its first word
pub data IsLock (x : Ident) : List Tok → List Tok → Type 0 where
  is_lock_name : {semicolon : Span} {rest : List Tok} →
      IsLock x (name_tok x ∷ tok (mark Semicolon) semicolon ∷ rest) rest

lock_is : {y : Ident} {ts rest : List Tok} →
    Both IsName (λ x. Both (IsTok (mark Semicolon)) (λ s. Done x)) y ts rest → IsLock y ts rest
lock_is (both is_name (both is_tok done)) = is_lock_name

lock_member_is : {y : Member} {ts rest : List Tok} →
    Both (IsTok (word keyword.Lock)) (λ w. Both IsLock (λ x. Done (lock_member x))) y ts rest → IsMember y ts rest
lock_member_is (both is_tok (both is_lock_name done)) = is_lock_member

lock_decl_is : {x : Ident} {start : Span} {ts rest : List Tok} → IsLock x ts rest →
    IsDecl (lock x) (tok (word keyword.Lock) start ∷ ts) rest
lock_decl_is is_lock_name = is_lock

module _ (limit : ℕ) where
  lock_law : (d : ℕ) → Law limit IsLock lock_at 1 d d
  unfolding lock_at
  lock_law d = production limit IsLock (then_part limit (name_part limit d) (then_part limit (sign_part limit Semicolon d (λ o. o)) (ends_with limit (λ x. x.0.1)))) (λ y ts rest r. lock_is r)

  lock_part : {P : Type 0} (d : ℕ) → Part limit P IsLock lock_at 1 d d
  lock_part d = record { law = λ p. lock_law d; can = λ rest. (no_name, name_tok no_name ∷ tok (mark Semicolon) nowhere ∷ rest, is_lock_name) }

  module _ (room d : ℕ) (sum : d + room ≡ limit) where
    array_law : (t : ValueType) (x : Ident) → Law limit (IsGlobalRest t x) (array_at room t x) 1 d d
    unfolding array_at
    array_law t x =
        production limit (IsGlobalRest t x)
        (then_part limit (index_part limit room d sum) (then_part limit (maybe_protection_part limit room d sum) (then_part limit (sign_part limit Semicolon d (λ o. o)) (ends_with limit (λ y. array (record { name = x; value_type = t; length = y.0.0.1; protection = y.0.1 }))))))
        (λ y ts rest r. array_is r)

    variable_law : (t : ValueType) (x : Ident) → Law limit (IsGlobalRest t x) (variable_at room t x) 0 d d
    unfolding variable_at
    variable_law t x =
        production limit (IsGlobalRest t x)
        (then_part limit (maybe_protection_part limit room d sum) (then_part limit (maybe_part limit (mark Equals) d (after_part limit Equals d (λ o. o) (const_part limit room d sum))) (then_part limit (sign_part limit Semicolon d (λ o. o)) (ends_with limit (λ y. global (record { name = x; value_type = t; protection = y.0.0.1; value = y.0.1 }))))))
        (λ y ts rest r. variable_is r)

    global_can : (rest : List Tok) →
        (ts : List Tok) × ((x : (Unit {0} × ValueType) × Ident) → (y : Decl) × IsGlobalRest x.0.1 x.1 y ts rest)
    global_can rest = (tok (mark Semicolon) nowhere ∷ rest, λ x. (global (record { name = x.1; value_type = x.0.1; protection = None; value = None }), variable_is (both left_out (both left_out (both is_tok done)))))

    array_rest : {P : Type 0} →
        Rest limit P (λ (x : (Unit {0} × ValueType) × Ident). IsGlobalRest x.0.1 x.1) (λ x. array_at room x.0.1 x.1) 0 d d
    array_rest = record { law = λ p x. weaken_law limit (IsGlobalRest x.0.1 x.1) (array_at room x.0.1 x.1) d d (array_law x.0.1 x.1); can = global_can }

    variable_rest : {P : Type 0} →
        Rest limit P (λ (x : (Unit {0} × ValueType) × Ident). IsGlobalRest x.0.1 x.1) (λ x. variable_at room x.0.1 x.1) 0 d d
    variable_rest = record { law = λ p x. variable_law x.0.1 x.1; can = global_can }

    global_law : Law limit IsGlobal (global_at room) 1 d d
    unfolding global_at
    global_law = production limit IsGlobal (then_part limit (type_part limit d) (then_part limit (name_part limit d) (either limit (mark OpenBracket) array_rest variable_rest))) (λ y ts rest r. global_is r)

    global_part : {P : Type 0} → Part limit P IsGlobal (global_at room) 1 d d
    global_part = record {
      law = λ p. global_law;
      can = λ rest. (global (record { name = no_name; value_type = int_type; protection = None; value = None }), tok (word keyword.Int) nowhere ∷ name_tok no_name ∷ tok (mark Semicolon) nowhere ∷ rest, is_any_global (λ start. is_global (is_variable is_int_type left_out left_out)));
    }

    field_law : Law limit IsMember (field_at room) 1 d d
    unfolding field_at
    field_law =
        production limit IsMember
        (then_part limit (type_part limit d) (then_part limit (name_part limit d) (then_part limit (maybe_protection_part limit room d sum) (then_part limit (sign_part limit Semicolon d (λ o. o)) (ends_with limit (λ x. field_member (record { name = x.0.0.1; value_type = x.0.0.0.1; protection = x.0.1 })))))))
        (λ y ts rest r. field_is r)

    final_law : Law limit IsMember final_at 1 d d
    unfolding final_at
    final_law =
        production limit IsMember
        (then_part limit (word_part limit keyword.Final d) (then_part limit (word_part limit keyword.Ref d) (then_part limit (name_part limit d) (then_part limit (name_part limit d) (then_part limit (sign_part limit Semicolon d (λ o. o)) (ends_with limit (λ x. final_member (record { name = x.0.1; target = x.0.0.1 }))))))))
        (λ y ts rest r. final_is r)

    lock_member_law : Law limit IsMember lock_member_at 1 d d
    unfolding lock_member_at
    lock_member_law = production limit IsMember (then_part limit (word_part limit keyword.Lock d) (then_part limit (lock_part d) (ends_with limit (λ x. lock_member x.1)))) (λ y ts rest r. lock_member_is r)

    pub member_law : Law limit IsMember (member_at room) 1 d d
    member_law = choose_law limit IsMember (word keyword.Lock) lock_member_at (choose (word keyword.Final) final_at (field_at room)) 1 d d lock_member_law (choose_law limit IsMember (word keyword.Final) final_at (field_at room) 1 d d final_law field_law)

  pub members_law : (f : Reader Member) (d : ℕ) → Law limit IsMember f 1 d d →
      Law limit (AreMany IsMember) (members_with f) 0 d d
  unfolding members_with
  members_law f d law = many_law limit IsMember (AreMany IsMember) [] ◌∷◌ (next_until (mark CloseBrace) f) d (until_law limit IsMember (mark CloseBrace) f d law) (λ ts. no_more) (λ x l ts mid rest a b. one_more a b)

  members_in_law : (room d : ℕ) → d + room ≡ limit → 0 < room →
      Law limit (AreMany IsMember) (members_in room) 0 (suc d) (suc d)
  unfolding members_in
  members_in_law zero d sum some = absurd (omega arith)
  members_in_law (suc room) d sum some = members_law (member_at room) (suc d) (member_law room (suc d) (omega arith))

  members_in_part : (room d : ℕ) → d + room ≡ limit →
      Part limit (0 < room) (AreMany IsMember) (members_in room) 0 (suc d) (suc d)
  members_in_part room d sum = record { law = members_in_law room d sum; can = λ rest. ([], rest, no_more) }

  consts_in_law : (room d : ℕ) → d + room ≡ limit → 0 < room →
      Law limit (AreListed IsConst) (consts_in room) 0 (suc d) (suc d)
  unfolding consts_in
  consts_in_law zero d sum some = absurd (omega arith)
  consts_in_law (suc room) d sum some = (listed_part limit (suc d) (const_part limit room (suc d) (omega arith))).law (tt {0})

  consts_in_part : (room d : ℕ) → d + room ≡ limit →
      Part limit (0 < room) (AreListed IsConst) (consts_in room) 0 (suc d) (suc d)
  consts_in_part room d sum = record { law = consts_in_law room d sum; can = λ rest. ([], rest, none_listed) }

  module _ (room d : ℕ) (sum : d + room ≡ limit) where
    struct_law : Law limit IsStruct (struct_at room) 1 d d
    unfolding struct_at
    struct_law =
        production limit IsStruct
        (then_part limit (name_part limit d) (then_open limit OpenBrace room sum tt (then_part limit (members_in_part room d sum) (then_part limit (sign_part limit CloseBrace (suc d) (λ o. o)) (ends_with limit (λ x. record { name = x.0.0.0.1; members = x.0.1 }))))))
        (λ y ts rest r. struct_is r)

    struct_part : {P : Type 0} → Part limit P IsStruct (struct_at room) 1 d d
    struct_part = record { law = λ p. struct_law; can = λ rest. (record { name = no_name; members = [] }, name_tok no_name ∷ tok (mark OpenBrace) nowhere ∷ tok (mark CloseBrace) nowhere ∷ rest, is_struct no_more) }

    pool_law : Law limit IsPool (pool_at room) 1 d d
    unfolding pool_at
    pool_law =
        production limit IsPool
        (then_part limit (name_part limit d) (then_part limit (name_part limit d) (then_part limit (index_part limit room d sum) (then_part limit (sign_part limit Semicolon d (λ o. o)) (ends_with limit (λ x. record { name = x.0.0.1; target = x.0.0.0.1; length = x.0.1 }))))))
        (λ y ts rest r. pool_is r)

    pool_part : {P : Type 0} → Part limit P IsPool (pool_at room) 1 d d
    pool_part = record { law = λ p. pool_law; can = λ rest. (record { name = no_name; target = no_name; length = no_count }, name_tok no_name ∷ name_tok no_name ∷ tok (mark OpenBracket) nowhere ∷ zero_tok ∷ tok (mark CloseBracket) nowhere ∷ tok (mark Semicolon) nowhere ∷ rest, is_pool is_index) }

    init_law : (start : Span) → Law limit (IsInitFrom start) (init_at room start) 1 d d
    unfolding init_at
    init_law start =
        production limit (IsInitFrom start)
        (then_part limit (name_part limit d) (then_part limit (index_part limit room d sum) (then_part limit (sign_part limit Dot d (λ o. o)) (then_part limit (name_part limit d) (then_part limit (sign_part limit Equals d (λ o. o)) (then_part limit (const_part limit room d sum) (then_part limit (sign_part limit Semicolon d (λ o. o))
        (ends_with limit (λ x. record { start = start; pool = x.0.0.0.0.0.0.1; index = x.0.0.0.0.0.1; field = x.0.0.0.1; value = x.0.1 })))))))))
        (λ y ts rest r. init_from_is (init_is r))

    init_part : {P : Type 0} (start : Span) → Part limit P (IsInitFrom start) (init_at room start) 1 d d
    init_part start = record {
      law = λ p. init_law start;
      can = λ rest. (record { start = start; pool = no_name; index = no_count; field = no_name; value = zero_const }, name_tok no_name ∷ tok (mark OpenBracket) nowhere ∷ zero_tok ∷ tok (mark CloseBracket) nowhere ∷ tok (mark Dot) nowhere ∷ name_tok no_name ∷ tok (mark Equals) nowhere ∷ zero_tok ∷ tok (mark Semicolon) nowhere ∷ rest, init_there refl (is_init is_index is_int_const));
    }

    section_law : Law limit IsSection (section_at room) 1 d d
    unfolding section_at
    section_law =
        production limit IsSection
        (then_part limit (name_part limit d) (then_part limit (params_part limit room d sum) (then_part limit (maybe_part limit (mark Colon) d (after_part limit Colon d (λ o. o) (type_part limit d))) (then_part limit (classes_part limit room d sum) (then_part limit (block_part limit room d sum)
        (ends_with limit (λ x. record { name = x.0.0.0.0.1; params = x.0.0.0.1; result = x.0.0.1; listed = x.0.1; body = record { stmts = x.1.0; close = x.1.1 } })))))))
        (λ y ts rest r. section_is r)

    section_part : {P : Type 0} → Part limit P IsSection (section_at room) 1 d d
    section_part = record {
      law = λ p. section_law;
      can = λ rest. (record { name = no_name; params = []; result = None; listed = []; body = record { stmts = no_stmts; close = nowhere } }, name_tok no_name ∷ tok (mark OpenParen) nowhere ∷ tok (mark CloseParen) nowhere ∷ tok (mark OpenBrace) nowhere ∷ tok (mark CloseBrace) nowhere ∷ rest, is_section none_listed left_out none_taken (is_block (is_braced are_no_stmts)));
    }

    helper_law : Law limit IsHelper (helper_at room) 1 d d
    unfolding helper_at
    helper_law =
        production limit IsHelper
        (then_part limit (name_part limit d) (then_part limit (params_part limit room d sum) (then_part limit (maybe_part limit (mark Colon) d (after_part limit Colon d (λ o. o) (type_part limit d))) (then_part limit (block_part limit room d sum)
        (ends_with limit (λ x. record { name = x.0.0.0.1; params = x.0.0.1; result = x.0.1; listed = []; body = record { stmts = x.1.0; close = x.1.1 } }))))))
        (λ y ts rest r. helper_is r)

    helper_part : {P : Type 0} → Part limit P IsHelper (helper_at room) 1 d d
    helper_part = record {
      law = λ p. helper_law;
      can = λ rest. (record { name = no_name; params = []; result = None; listed = []; body = record { stmts = no_stmts; close = nowhere } }, name_tok no_name ∷ tok (mark OpenParen) nowhere ∷ tok (mark CloseParen) nowhere ∷ tok (mark OpenBrace) nowhere ∷ tok (mark CloseBrace) nowhere ∷ rest, without_classes refl (is_section none_listed left_out none_taken (is_block (is_braced are_no_stmts))));
    }

    call_law : Law limit IsCall (call_at room) 1 d d
    unfolding call_at
    call_law =
        production limit IsCall
        (then_part limit (name_part limit d) (then_open limit OpenParen room sum tt (then_part limit (consts_in_part room d sum) (then_part limit (sign_part limit CloseParen (suc d) (λ o. o)) (then_part limit (sign_part limit Semicolon d (λ o. o))
        (ends_with limit (λ x. record { section = x.0.0.0.0.1; arguments = x.0.0.1 })))))))
        (λ y ts rest r. call_is r)

    call_part : {P : Type 0} → Part limit P IsCall (call_at room) 1 d d
    call_part = record {
      law = λ p. call_law;
      can = λ rest. (record { section = no_name; arguments = [] }, name_tok no_name ∷ tok (mark OpenParen) nowhere ∷ tok (mark CloseParen) nowhere ∷ tok (mark Semicolon) nowhere ∷ rest, is_call none_listed);
    }

    call_item_law : Law limit IsItem (call_item room) 1 d d
    call_item_law = production limit IsItem (then_part limit call_part (ends_with limit (λ x. tree.Item.call x.1))) (λ y ts rest r. item_is r)

    module _ (body : Reader Items) (law : 0 < room → Law limit IsItems body 0 (suc d) (suc d)) where
      items_part : Part limit (0 < room) IsItems body 0 (suc d) (suc d)
      items_part = record { law = law; can = λ rest. (no_items, rest, are_no_items) }

      repeat_law : Law limit IsItem (repeat_with room body) 1 d d
      unfolding repeat_with
      repeat_law =
          production limit IsItem
          (then_part limit (word_part limit keyword.Repeat d) (then_part limit (int_part limit d) (then_open limit OpenBrace room sum tt (then_part limit items_part (then_part limit (sign_part limit CloseBrace (suc d) (λ o. o)) (ends_with limit (λ x. tree.repeat x.0.0.0.1 x.0.1)))))))
          (λ y ts rest r. repeat_is r)

      item_with_law : Law limit IsItem (item_with room body) 1 d d
      unfolding item_with
      item_with_law = choose_law limit IsItem (word keyword.Repeat) (repeat_with room body) (call_item room) 1 d d repeat_law call_item_law

  items_law : (f : Reader tree.Item) (d : ℕ) → Law limit IsItem f 1 d d → Law limit IsItems (items_with f) 0 d d
  unfolding items_with
  items_law f d law = many_law limit IsItem IsItems no_items tree.item (next_until (mark CloseBrace) f) d (until_law limit IsItem (mark CloseBrace) f d law) (λ ts. are_no_items) (λ x l ts mid rest a b. are_items a b)

  items_in_law : (room d : ℕ) → d + room ≡ limit → 0 < room → Law limit IsItems (items_in room) 0 (suc d) (suc d)
  unfolding items_in
  items_in_law zero d sum some = absurd (omega arith)
  items_in_law (suc room) d sum some = items_law (item_with room (items_in room)) (suc d) (item_with_law room (suc d) (omega arith) (items_in room) (items_in_law room (suc d) (omega arith)))

  pub item_law : (room d : ℕ) → d + room ≡ limit → Law limit IsItem (item_at room) 1 d d
  item_law room d sum = item_with_law room d sum (items_in room) (items_in_law room d sum)

  module _ (room d : ℕ) (sum : d + room ≡ limit) where
    thread_law : Law limit IsThread (thread_at room) 1 d d
    unfolding thread_at
    thread_law =
        production limit IsThread
        (then_part limit (name_part limit d) (then_open limit OpenBrace room sum tt (then_part limit (items_part room d sum (items_in room) (items_in_law room d sum)) (then_part limit (sign_part limit CloseBrace (suc d) (λ o. o))
        (ends_with limit (λ x. record { name = x.0.0.0.1; items = x.0.1 }))))))
        (λ y ts rest r. thread_is r)

    thread_part : {P : Type 0} → Part limit P IsThread (thread_at room) 1 d d
    thread_part = record {
      law = λ p. thread_law;
      can = λ rest. (record { name = no_name; items = no_items }, name_tok no_name ∷ tok (mark OpenBrace) nowhere ∷ tok (mark CloseBrace) nowhere ∷ rest, is_thread are_no_items);
    }

    global_decl_law : (at : Span) → Law limit (at_rest IsDecl (tok (word keyword.Global) at)) (global_at room) 1 d d
    global_decl_law at ts = implies limit IsGlobal (at_rest IsDecl (tok (word keyword.Global) at)) (Says (global_at room)) 1 d d ts (λ y us rest r. any_global_is at r) (global_at room ts) (global_law room d sum ts)

    decl_head : (k : Lexeme) (at : Span) → Head limit IsDecl d d k at (decl_from room k at)
    decl_head (word keyword.Lock) at = takes 1 (λ e. cc) (λ o. absurd o) (production limit (at_rest IsDecl (tok (word keyword.Lock) at)) (then_part limit (lock_part d) (ends_with limit (λ x. lock x.1))) (one_is _ (λ x ts rest h. lock_decl_is h)))
    decl_head (word keyword.Struct) at = takes 1 (λ e. cc) (λ o. absurd o) (production limit (at_rest IsDecl (tok (word keyword.Struct) at)) (then_part limit (struct_part room d sum) (ends_with limit (λ x. struct x.1))) (one_is _ (λ x ts rest h. is_struct_decl h)))
    decl_head (word keyword.Global) at = takes 1 (λ e. cc) (λ o. absurd o) (global_decl_law at)
    decl_head (word keyword.Pool) at = takes 1 (λ e. cc) (λ o. absurd o) (production limit (at_rest IsDecl (tok (word keyword.Pool) at)) (then_part limit (pool_part room d sum) (ends_with limit (λ x. pool x.1))) (one_is _ (λ x ts rest h. is_pool_decl h)))
    decl_head (word keyword.Init) at = takes 1 (λ e. cc) (λ o. absurd o) (production limit (at_rest IsDecl (tok (word keyword.Init) at)) (then_part limit (init_part room d sum at) (ends_with limit (λ x. init x.1))) (one_is _ (λ x ts rest h. init_decl_is h)))
    decl_head (word keyword.Atomic) at = takes 1 (λ e. cc) (λ o. absurd o) (production limit (at_rest IsDecl (tok (word keyword.Atomic) at)) (then_part limit (section_part room d sum) (ends_with limit (λ x. atomic x.1))) (one_is _ (λ x ts rest h. is_atomic h)))
    decl_head (word keyword.Call) at = takes 1 (λ e. cc) (λ o. absurd o) (production limit (at_rest IsDecl (tok (word keyword.Call) at)) (then_part limit (helper_part room d sum) (ends_with limit (λ x. helper x.1))) (one_is _ (λ x ts rest h. helper_decl_is h)))
    decl_head (word keyword.Thread) at = takes 1 (λ e. cc) (λ o. absurd o) (production limit (at_rest IsDecl (tok (word keyword.Thread) at)) (then_part limit thread_part (ends_with limit (λ x. thread x.1))) (one_is _ (λ x ts rest h. is_thread_decl h)))
    decl_head _ at = refuses (λ ts. refl)

    pub decl_law : Law limit IsDecl (decl_at room) 1 d d
    unfolding decl_at
    decl_law = first_law limit IsDecl (decl_from room) d d (λ rest. (lock no_name, tok (word keyword.Lock) nowhere ∷ name_tok no_name ∷ tok (mark Semicolon) nowhere ∷ rest, is_lock)) decl_head

    pub decls_law : Law limit (AreMany IsDecl) (decls_at room) 0 d d
    unfolding decls_at
    decls_law = many_law limit IsDecl (AreMany IsDecl) [] ◌∷◌ (next_until end (decl_at room)) d (until_law limit IsDecl end (decl_at room) d decl_law) (λ ts. no_more) (λ x l ts mid rest a b. one_more a b)
