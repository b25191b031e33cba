-- Tokens that have a tree are read, unless a sign is too deep: declarations and programs.
use Rattle.std.proofs.Common.{◌≡◌, ℕ, zero, suc, List, [], ◌∷◌, length, Option, Ok, refl, sym, subst}
use Rattle.source.specs.declared.span.Span.{Span}
use Rattle.source.specs.declared.token.Keyword.TheVariants as keyword
use Rattle.source.specs.declared.token.Sign.TheVariants.{OpenBrace, CloseBrace, OpenParen, CloseParen, OpenBracket}
use Rattle.source.specs.declared.token.Sign.TheVariants.{Semicolon, Colon, Dot, Equals}
use Rattle.source.specs.Tokens.{word, mark, end, Tok}
use Rattle.source.specs.declared.token.Number.{Number}
use Rattle.syntax.specs.Trees as tree
use Rattle.syntax.specs.Trees.{Ident, ValueType, Const, Stmts, Member, lock_member, final_member, field_member}
use Rattle.syntax.specs.Trees.{ClassName, Section, Items, no_items, Decl, lock, struct, global, array, pool, init, atomic}
use Rattle.syntax.specs.Trees.{helper, thread}
use Rattle.syntax.specs.Grammar.{tok, name_tok, int_tok, IsOptional, left_out, given, AreMany, no_more, one_more}
use Rattle.syntax.specs.Grammar.{IsAfter, after, AreListed, IsName, is_name, IsType, is_int_type, is_ref_type}
use Rattle.syntax.specs.Grammar.{IsConst, is_braced, is_block, IsIndex, is_index, IsProtection, is_protection}
use Rattle.syntax.specs.Grammar.{is_variable, is_array, is_final, is_field, IsMember, is_lock_member, is_final_member}
use Rattle.syntax.specs.Grammar.{is_field_member, IsStruct, is_struct, IsPool, is_pool, IsInit, is_init, AreTakenWhole}
use Rattle.syntax.specs.Grammar.{none_taken, taken, IsSection, is_section, IsCall, is_call, IsItem, is_call_item, is_repeat, IsItems, are_no_items}
use Rattle.syntax.specs.Grammar.{are_items, IsThread, is_thread, IsDecl, is_lock, is_struct_decl, is_global}
use Rattle.syntax.specs.Grammar.{is_array_decl, is_pool_decl, is_init_decl, is_atomic, is_helper, is_thread_decl}
use Rattle.syntax.specs.Grammar.{Spells, spells}
use Rattle.parser.specs.Working.Reading.{◌>>=◌, sign_at, open_at, word_at, name_at, int_at, choose}
use Rattle.parser.specs.Working.Parts.{type_at, const_at}
use Rattle.parser.specs.Working.Declarations.{array_at, variable_at, global_at, section_at, helper_at, consts_in}
use Rattle.parser.specs.Working.Declarations.{call_at}
use Rattle.parser.specs.Working.Declarations.{call_item, repeat_with, item_with, item_at, items_with, items_in}
use Rattle.parser.specs.Working.Declarations.{thread_at, lock_at, field_at, final_at, lock_member_at, member_at}
use Rattle.parser.specs.Working.Declarations.{members_with, members_in, struct_at, pool_at, init_at, decl_at}
use Rattle.parser.specs.Working.Declarations.{decls_at, end_from, program_at}
use Rattle.parser.specs.Theory.Law.{IsTok, is_tok}
use Rattle.parser.specs.Theory.Joined.{Done, done, Both, both}
use Rattle.parser.specs.Theory.PartLaws.{IsParams, is_params}
use Rattle.parser.proofs.DeclarationLaws.{IsHelper, without_classes, IsLock, is_lock_name}
use Rattle.parser.specs.Theory.StatementLaws.{IsBracedPair}
use Rattle.parser.specs.Theory.Shorter.{next_const_shortens}
use Rattle.parser.proofs.Turns.{next_item_shortens, next_decl_shortens, next_member_shortens}
use Rattle.parser.specs.Theory.Finding.{Finds, found, deep, finds_then, FindsPart, Anything, ends_found, then_found}
use Rattle.parser.specs.Theory.Finding.{and_found, production_found, sign_found, open_then, name_found, NotNext}
use Rattle.parser.specs.Theory.Finding.{IsNext, maybe_found, Closes, listed_found, until_none, until_found}
use Rattle.parser.specs.Theory.Finding.{choose_left, choose_right}
use Rattle.parser.specs.Theory.PartsFound.{type_found, index_found, const_found, close_closes, after_found}
use Rattle.parser.specs.Theory.PartsFound.{maybe_protection_found, const_begins, params_found, classes_found}
use Rattle.parser.specs.Theory.StatementsFound.{block_found}

-- a closing brace comes next
brace_next : {A : Type 0} {R : Span → A → List Tok → List Tok → Type 0} {y : A} {ts rest : List Tok} →
    Both (IsTok (mark CloseBrace)) R y ts rest → IsNext (mark CloseBrace) ts
brace_next (both is_tok r) = refl

value_begins : (y : Const) (ts rest : List Tok) → IsAfter Equals IsConst y ts rest → IsNext (mark Equals) ts
value_begins y ts rest (after h) = refl

result_begins : (y : ValueType) (ts rest : List Tok) → IsAfter Colon IsType y ts rest → IsNext (mark Colon) ts
result_begins y ts rest (after h) = refl

semicolon_no_value : {A : Type 0} {R : Span → A → List Tok → List Tok → Type 0} {y : A} {ts rest : List Tok} →
    Both (IsTok (mark Semicolon)) R y ts rest → NotNext (mark Equals) ts
semicolon_no_value (both is_tok r) = refl

value_no_protection : {A : Type 0} {R : Option Const → Span → A → List Tok → List Tok →
    Type 0} {y : A} {ts rest : List Tok} → Both (IsOptional (IsAfter Equals IsConst)) (λ v. Both (IsTok (mark Semicolon)) (R v)) y ts rest → NotNext (word keyword.ProtectedBy) ts
value_no_protection (both left_out (both is_tok r)) = refl
value_no_protection (both (given (after c)) r) = refl

semicolon_no_protection : {A : Type 0} {R : Span → A → List Tok → List Tok → Type 0} {y : A} {ts rest : List Tok} →
    Both (IsTok (mark Semicolon)) R y ts rest → NotNext (word keyword.ProtectedBy) ts
semicolon_no_protection (both is_tok r) = refl

abbrev IsVariableRest : ValueType → Ident → Decl → List Tok → List Tok → Type 0
IsVariableRest t x = Both (IsOptional IsProtection) (λ p. Both (IsOptional (IsAfter Equals IsConst)) (λ v. Both (IsTok (mark Semicolon)) (λ s. Done (global (record { name = x; value_type = t; protection = p; value = v })))))

variable_found : (room : ℕ) (t : ValueType) (x : Ident) → FindsPart Anything (IsVariableRest t x) (variable_at room t x)
unfolding variable_at
variable_found room t x =
    production_found (IsVariableRest t x)
    (then_found {F = NotNext (word keyword.ProtectedBy)} (maybe_protection_found room) (λ x a y ts rest r f. value_no_protection r) (then_found {F = NotNext (mark Equals)} (maybe_found (mark Equals) (after_found Equals (const_found room)) value_begins) (λ x a y ts rest r f. semicolon_no_value r) (and_found (sign_found Semicolon)
    (ends_found (λ y. global (record { name = x; value_type = t; protection = y.0.0.1; value = y.0.1 }))))))
    (λ y ts rest h. h)

abbrev IsArrayRest : ValueType → Ident → Decl → List Tok → List Tok → Type 0
IsArrayRest t x = Both IsIndex (λ n. Both (IsOptional IsProtection) (λ p. Both (IsTok (mark Semicolon)) (λ s. Done (array (record { name = x; value_type = t; length = n; protection = p })))))

array_found : (room : ℕ) (t : ValueType) (x : Ident) → FindsPart Anything (IsArrayRest t x) (array_at room t x)
unfolding array_at
array_found room t x =
    production_found (IsArrayRest t x)
    (and_found (index_found room) (then_found {F = NotNext (word keyword.ProtectedBy)} (maybe_protection_found room) (λ x a y ts rest r f. semicolon_no_protection r) (and_found (sign_found Semicolon)
    (ends_found (λ y. array (record { name = x; value_type = t; length = y.0.0.1; protection = y.0.1 }))))))
    (λ y ts rest h. h)

global_found : (room : ℕ) (t : ValueType) (x : Ident) (d : Decl) (ts mid rest : List Tok) →
    IsType t ts (name_tok x ∷ mid) →
    Finds (choose (mark OpenBracket) (array_at room t x) (variable_at room t x) mid) (d, rest) →
    Finds (global_at room ts) (d, rest)
unfolding global_at name_at
global_found room t x d ts mid rest h g = finds_then (type_at ts) (λ t. name_at t.1 >>= λ x. choose (mark OpenBracket) (array_at room t.0 x.0) (variable_at room t.0 x.0) x.1) (t, name_tok x ∷ mid) (d, rest) (type_found t ts (name_tok x ∷ mid) h tt) g

variable_no_bracket : {t : ValueType} {x : Ident} {y : Decl} {ts rest : List Tok} → IsVariableRest t x y ts rest →
    NotNext (mark OpenBracket) ts
variable_no_bracket (both left_out (both left_out (both is_tok r))) = refl
variable_no_bracket (both left_out (both (given (after c)) r)) = refl
variable_no_bracket (both (given (is_protection i)) r) = refl

index_bracket : {t : ValueType} {x : Ident} {y : Decl} {ts rest : List Tok} → IsArrayRest t x y ts rest →
    IsNext (mark OpenBracket) ts
index_bracket (both is_index r) = refl

-- ---- structs, pools and opening values

type_begins : {t : ValueType} {ts rest : List Tok} → IsType t ts rest →
    NotNext (word keyword.Lock) ts × NotNext (word keyword.Final) ts × NotNext (mark CloseBrace) ts
type_begins is_int_type = (refl, refl, refl)
type_begins is_ref_type = (refl, refl, refl)

abbrev IsFieldParts : Member → List Tok → List Tok → Type 0
IsFieldParts = Both IsType (λ t. Both IsName (λ x. Both (IsOptional IsProtection) (λ p. Both (IsTok (mark Semicolon)) (λ s. Done (field_member (record { name = x; value_type = t; protection = p }))))))

field_found : (room : ℕ) → FindsPart Anything IsFieldParts (field_at room)
unfolding field_at
field_found room =
    production_found IsFieldParts
    (and_found type_found (and_found name_found (then_found {F = NotNext (word keyword.ProtectedBy)} (maybe_protection_found room) (λ x a y ts rest r f. semicolon_no_protection r) (and_found (sign_found Semicolon)
    (ends_found (λ x. field_member (record { name = x.0.0.1; value_type = x.0.0.0.1; protection = x.0.1 })))))))
    (λ y ts rest h. h)

lock_member_found : (room : ℕ) (x : Ident) (start semicolon : Span) (rest : List Tok) →
    Finds (member_at room (tok (word keyword.Lock) start ∷ name_tok x ∷ tok (mark Semicolon) semicolon ∷ rest)) (lock_member x, rest)
unfolding choose lock_member_at lock_at word_at name_at sign_at
lock_member_found room x start semicolon rest = found refl

final_found : (room : ℕ) (f : tree.Final) (start ref semicolon : Span) (rest : List Tok) →
    Finds (member_at room (tok (word keyword.Final) start ∷ tok (word keyword.Ref) ref ∷ name_tok f.target ∷ name_tok f.name ∷ tok (mark Semicolon) semicolon ∷ rest)) (final_member f, rest)
unfolding choose final_at word_at name_at sign_at
final_found room f start ref semicolon rest = found refl

member_found : (room : ℕ) → FindsPart Anything IsMember (member_at room)
member_found room _ ts rest (is_lock_member {x = x} {start = start} {semicolon = semicolon}) follow = lock_member_found room x start semicolon rest
member_found room _ ts rest (is_final_member {f = f} {start = start} (is_final {ref = ref} {semicolon = semicolon})) follow = final_found room f start ref semicolon rest
member_found room _ ts rest (is_field_member {f = f} (is_field t p)) follow =
    let b = type_begins t in
    choose_right (word keyword.Lock) lock_member_at (choose (word keyword.Final) final_at (field_at room)) ts (field_member f, rest) b.0 (choose_right (word keyword.Final) final_at (field_at room) ts (field_member f, rest) b.1 (field_found room (field_member f) ts rest (both t (both is_name (both p (both is_tok done)))) tt))

member_begins : {m : Member} {ts rest : List Tok} → IsMember m ts rest → NotNext (mark CloseBrace) ts
member_begins is_lock_member = refl
member_begins (is_final_member is_final) = refl
member_begins (is_field_member (is_field t p)) = (type_begins t).2

members_found : (room : ℕ) → FindsPart (IsNext (mark CloseBrace)) (AreMany IsMember) (members_with (member_at room))
unfolding members_with
members_found room _ ts rest no_more follow = until_none [] ◌∷◌ (mark CloseBrace) (member_at room) (next_member_shortens room) ts follow
members_found room _ ts rest (one_more {x = m} {xs = ms} {mid = mid} h g) follow = until_found [] ◌∷◌ (mark CloseBrace) (member_at room) (next_member_shortens room) m ms ts mid rest (member_begins h) (member_found room m ts mid h tt) (members_found room ms mid rest g follow)

members_in_found : (room r : ℕ) → room ≡ suc r →
    FindsPart (IsNext (mark CloseBrace)) (AreMany IsMember) (members_in room)
unfolding members_in
members_in_found room r e = subst (λ (n : ℕ). FindsPart (IsNext (mark CloseBrace)) (AreMany IsMember) (members_in n)) (sym e) (members_found r)

struct_back : {y : tree.Struct} {ts rest : List Tok} → IsStruct y ts rest →
    Both IsName (λ x. Both (IsTok (mark OpenBrace)) (λ b. Both (AreMany IsMember) (λ ms. Both (IsTok (mark CloseBrace)) (λ c. Done (record { name = x; members = ms }))))) y ts rest
struct_back (is_struct ms) = both is_name (both is_tok (both ms (both is_tok done)))

struct_found : (room : ℕ) → FindsPart Anything IsStruct (struct_at room)
unfolding struct_at
struct_found room =
    production_found IsStruct
    (and_found name_found (open_then OpenBrace room (λ r e. then_found {F = IsNext (mark CloseBrace)} (members_in_found room r e) (λ x a y ts rest r f. brace_next r) (and_found (sign_found CloseBrace)
    (ends_found (λ x. record { name = x.0.0.0.1; members = x.0.1 }))))))
    (λ y ts rest h. struct_back h)

pool_back : {y : tree.Pool} {ts rest : List Tok} → IsPool y ts rest →
    Both IsName (λ target. Both IsName (λ x. Both IsIndex (λ n. Both (IsTok (mark Semicolon)) (λ s. Done (record { name = x; target = target; length = n }))))) y ts rest
pool_back (is_pool n) = both is_name (both is_name (both n (both is_tok done)))

pool_found : (room : ℕ) → FindsPart Anything IsPool (pool_at room)
unfolding pool_at
pool_found room =
    production_found IsPool
    (and_found name_found (and_found name_found (and_found (index_found room) (and_found (sign_found Semicolon) (ends_found (λ x. record { name = x.0.0.1; target = x.0.0.0.1; length = x.0.1 }))))))
    (λ y ts rest h. pool_back h)

abbrev IsInitParts : Span → tree.Init → List Tok → List Tok → Type 0
IsInitParts start = Both IsName (λ p. Both IsIndex (λ n. Both (IsTok (mark Dot)) (λ d. Both IsName (λ x. Both (IsTok (mark Equals)) (λ q. Both IsConst (λ c. Both (IsTok (mark Semicolon)) (λ s. Done (record { start = start; pool = p; index = n; field = x; value = c }))))))))

init_found : (room : ℕ) (start : Span) → FindsPart Anything (IsInitParts start) (init_at room start)
unfolding init_at
init_found room start =
    production_found (IsInitParts start)
    (and_found name_found (and_found (index_found room) (and_found (sign_found Dot) (and_found name_found (and_found (sign_found Equals) (and_found (const_found room) (and_found (sign_found Semicolon)
    (ends_found (λ x. record { start = start; pool = x.0.0.0.0.0.0.1; index = x.0.0.0.0.0.1; field = x.0.0.0.1; value = x.0.1 })))))))))
    (λ y ts rest h. h)

init_back : {i : tree.Init} {ts rest : List Tok} → IsInit i ts rest → IsInitParts i.start i ts rest
init_back (is_init n c) = both is_name (both n (both is_tok (both is_name (both is_tok (both c (both is_tok done))))))

section_back : {y : Section} {ts rest : List Tok} → IsSection y ts rest →
    Both IsName (λ x. Both IsParams (λ ps. Both (IsOptional (IsAfter Colon IsType)) (λ r. Both AreTakenWhole (λ cs. Both IsBracedPair (λ b. Done (record { name = x; params = ps; result = r; listed = cs; body = record { stmts = b.0; close = b.1 } })))))) y ts rest
section_back (is_section ps r cs (is_block b)) = both is_name (both (is_params ps) (both r (both cs (both b done))))

abbrev IsHelperParts : Section → List Tok → List Tok → Type 0
IsHelperParts = Both IsName (λ x. Both IsParams (λ ps. Both (IsOptional (IsAfter Colon IsType)) (λ r. Both IsBracedPair (λ b. Done (record { name = x; params = ps; result = r; listed = []; body = record { stmts = b.0; close = b.1 } })))))

-- the classes of a helper are none
no_classes : {cs : List ClassName} {ts rest : List Tok} → AreTakenWhole cs ts rest → cs ≡ [] → ts ≡ rest
no_classes none_taken e = refl
no_classes (taken c cs) e = absurd cc

helper_with : (x : Ident) (ps : List tree.Param) (r : Option ValueType) (cs : List ClassName) (b : tree.Block) (ts rest : List Tok) → cs ≡ [] → IsHelperParts (record { name = x; params = ps; result = r; listed = []; body = b }) ts rest →
    IsHelperParts (record { name = x; params = ps; result = r; listed = cs; body = b }) ts rest
helper_with x ps r cs b ts rest e h = subst (λ (l : List ClassName). IsHelperParts (record { name = x; params = ps; result = r; listed = l; body = b }) ts rest) (sym e) h

helper_back : {y : Section} {ts rest : List Tok} → IsHelper y ts rest → IsHelperParts y ts rest
helper_back (without_classes none (is_section {s = s} {ts2 = ts2} {ts3 = ts3} {rest = rest} ps r cs (is_block b))) =
    let here : IsOptional (IsAfter Colon IsType) s.result ts2 _ = subst (λ (ts : List Tok). IsOptional (IsAfter Colon IsType) s.result ts2 ts) (no_classes cs none) r in
    helper_with s.name s.params s.result s.listed s.body _ rest none (both is_name (both (is_params ps) (both here (both b done))))

classes_no_result : {A : Type 0} {R : List ClassName → Stmts × Span → A → List Tok → List Tok → Type 0} {y : A} {ts rest : List Tok} →
    Both AreTakenWhole (λ cs. Both IsBracedPair (R cs)) y ts rest → NotNext (mark Colon) ts
classes_no_result (both none_taken (both (is_braced h) r)) = refl
classes_no_result (both (taken n more) r) = refl

block_no_lock : {A : Type 0} {R : Stmts × Span → A → List Tok → List Tok → Type 0} {y : A} {ts rest : List Tok} →
    Both IsBracedPair R y ts rest → NotNext (word keyword.Lock) ts
block_no_lock (both (is_braced h) r) = refl

block_no_result : {A : Type 0} {R : Stmts × Span → A → List Tok → List Tok → Type 0} {y : A} {ts rest : List Tok} →
    Both IsBracedPair R y ts rest → NotNext (mark Colon) ts
block_no_result (both (is_braced h) r) = refl

section_found : (room : ℕ) → FindsPart Anything IsSection (section_at room)
unfolding section_at
section_found room =
    production_found IsSection
    (and_found name_found (and_found (params_found room) (then_found {F = NotNext (mark Colon)} (maybe_found (mark Colon) (after_found Colon type_found) result_begins) (λ x a y ts rest r f. classes_no_result r) (then_found {F = NotNext (word keyword.Lock)} (classes_found room) (λ x a y ts rest r f. block_no_lock r) (and_found (block_found room)
    (ends_found (λ x. record { name = x.0.0.0.0.1; params = x.0.0.0.1; result = x.0.0.1; listed = x.0.1; body = record { stmts = x.1.0; close = x.1.1 } })))))))
    (λ y ts rest h. section_back h)

helper_found : (room : ℕ) → FindsPart Anything IsHelper (helper_at room)
unfolding helper_at
helper_found room =
    production_found IsHelper
    (and_found name_found (and_found (params_found room) (then_found {F = NotNext (mark Colon)} (maybe_found (mark Colon) (after_found Colon type_found) result_begins) (λ x a y ts rest r f. block_no_result r) (and_found (block_found room)
    (ends_found (λ x. record { name = x.0.0.0.1; params = x.0.0.1; result = x.0.1; listed = []; body = record { stmts = x.1.0; close = x.1.1 } }))))))
    (λ y ts rest h. helper_back h)

call_back : {y : tree.Call} {ts rest : List Tok} → IsCall y ts rest →
    Both IsName (λ x. Both (IsTok (mark OpenParen)) (λ b. Both (AreListed IsConst) (λ cs. Both (IsTok (mark CloseParen)) (λ c. Both (IsTok (mark Semicolon)) (λ s. Done (record { section = x; arguments = cs })))))) y ts rest
call_back (is_call h) = both is_name (both is_tok (both h (both is_tok (both is_tok done))))

consts_in_found : (room r : ℕ) → room ≡ suc r → FindsPart Closes (AreListed IsConst) (consts_in room)
unfolding consts_in
consts_in_found room r e = subst (λ (n : ℕ). FindsPart Closes (AreListed IsConst) (consts_in n)) (sym e) (listed_found IsConst (const_at r) (const_found r) (next_const_shortens r) const_begins)

call_found : (room : ℕ) → FindsPart Anything IsCall (call_at room)
unfolding call_at
call_found room =
    production_found IsCall
    (and_found name_found (open_then OpenParen room (λ r e. then_found {F = Closes} (consts_in_found room r e) (λ x a y ts rest r f. close_closes r) (and_found (sign_found CloseParen) (and_found (sign_found Semicolon)
    (ends_found (λ x. record { section = x.0.0.0.0.1; arguments = x.0.0.1 })))))))
    (λ y ts rest h. call_back h)

call_item_found : (room : ℕ) (c : tree.Call) (ts rest : List Tok) → IsCall c ts rest →
    Finds (call_item room ts) (tree.Item.call c, rest)
call_item_found room c ts rest h = finds_then (call_at room ts) (λ c. Ok (tree.Item.call c.0, c.1)) (c, rest) (tree.Item.call c, rest) (call_found room c ts rest h tt) (found refl)

call_no_repeat : {c : tree.Call} {ts rest : List Tok} → IsCall c ts rest → NotNext (word keyword.Repeat) ts
call_no_repeat (is_call h) = refl

item_of_call : (room : ℕ) (c : tree.Call) (ts rest : List Tok) → IsCall c ts rest →
    Finds (item_at room ts) (tree.Item.call c, rest)
unfolding item_with
item_of_call room c ts rest h = choose_right (word keyword.Repeat) (repeat_with room (items_in room)) (call_item room) ts (tree.Item.call c, rest) (call_no_repeat h) (call_item_found room c ts rest h)

repeat_found : (room : ℕ) (n : Number) (is : Items) (start begin close : Span) (ts rest : List Tok) →
    ((r : ℕ) → Finds (items_with (item_at r) ts) (is, tok (mark CloseBrace) close ∷ rest)) →
    Finds (item_at room (tok (word keyword.Repeat) start ∷ int_tok n ∷ tok (mark OpenBrace) begin ∷ ts)) (tree.repeat n is, rest)
unfolding item_with choose repeat_with word_at int_at open_at items_in sign_at
repeat_found zero n is start begin close ts rest h = deep (suc (length ts)) refl
repeat_found (suc room) n is start begin close ts rest h = finds_then (items_with (item_at room) ts) (λ is. sign_at CloseBrace is.1 >>= λ c. Ok (tree.repeat n is.0, c.1)) (is, tok (mark CloseBrace) close ∷ rest) (tree.repeat n is, rest) (h room) (found refl)

item_begins : {i : tree.Item} {ts rest : List Tok} → IsItem i ts rest → NotNext (mark CloseBrace) ts
item_begins (is_call_item (is_call h)) = refl
item_begins (is_repeat h) = refl

no_items_found : (room : ℕ) (ts : List Tok) → IsNext (mark CloseBrace) ts →
    Finds (items_with (item_at room) ts) (no_items, ts)
unfolding items_with
no_items_found room ts e = until_none no_items tree.item (mark CloseBrace) (item_at room) (next_item_shortens room) ts e

more_items_found : (room : ℕ) (i : tree.Item) (more : Items) (ts mid rest : List Tok) → NotNext (mark CloseBrace) ts →
    Finds (item_at room ts) (i, mid) → Finds (items_with (item_at room) mid) (more, rest) →
    Finds (items_with (item_at room) ts) (tree.item i more, rest)
unfolding items_with
more_items_found room i more ts mid rest e h g = until_found no_items tree.item (mark CloseBrace) (item_at room) (next_item_shortens room) i more ts mid rest e h g

mutual
  item_found : {i : tree.Item} {ts rest : List Tok} → IsItem i ts rest → (room : ℕ) → Finds (item_at room ts) (i, rest)
  item_found (is_call_item {c = c} {ts = ts} {rest = rest} h) room = item_of_call room c ts rest h
  item_found (is_repeat {n = n} {is = is} {start = start} {begin = begin} {close = close} {ts = ts} {rest = rest} h) room = repeat_found room n is start begin close ts rest (λ r. items_found h r refl)

  items_found : {is : Items} {ts rest : List Tok} → IsItems is ts rest → (room : ℕ) → IsNext (mark CloseBrace) rest →
      Finds (items_with (item_at room) ts) (is, rest)
  items_found (are_no_items {ts = ts}) room follow = no_items_found room ts follow
  items_found (are_items {i = i} {more = more} {ts = ts} {mid = mid} {rest = rest} h g) room follow = more_items_found room i more ts mid rest (item_begins h) (item_found h room) (items_found g room follow)

items_in_found : (room r : ℕ) → room ≡ suc r → FindsPart (IsNext (mark CloseBrace)) IsItems (items_in room)
unfolding items_in
items_in_found room r e = subst (λ (n : ℕ). FindsPart (IsNext (mark CloseBrace)) IsItems (items_in n)) (sym e) (λ is ts rest h follow. items_found h r follow)

thread_back : {y : tree.Thread} {ts rest : List Tok} → IsThread y ts rest →
    Both IsName (λ x. Both (IsTok (mark OpenBrace)) (λ b. Both IsItems (λ is. Both (IsTok (mark CloseBrace)) (λ c. Done (record { name = x; items = is }))))) y ts rest
thread_back (is_thread h) = both is_name (both is_tok (both h (both is_tok done)))

thread_found : (room : ℕ) → FindsPart Anything IsThread (thread_at room)
unfolding thread_at
thread_found room =
    production_found IsThread
    (and_found name_found (open_then OpenBrace room (λ r e. then_found {F = IsNext (mark CloseBrace)} (items_in_found room r e) (λ x a y ts rest r f. brace_next r) (and_found (sign_found CloseBrace)
    (ends_found (λ x. record { name = x.0.0.0.1; items = x.0.1 }))))))
    (λ y ts rest h. thread_back h)

lock_back : {y : Ident} {ts rest : List Tok} → IsLock y ts rest →
    Both IsName (λ x. Both (IsTok (mark Semicolon)) (λ s. Done x)) y ts rest
lock_back is_lock_name = both is_name (both is_tok done)

lock_found : FindsPart Anything IsLock lock_at
unfolding lock_at
lock_found = production_found IsLock (and_found name_found (and_found (sign_found Semicolon) (ends_found (λ x. x.0.1)))) (λ y ts rest h. lock_back h)

decl_found : (room : ℕ) → FindsPart Anything IsDecl (decl_at room)
unfolding decl_at
decl_found room _ ts rest (is_lock {x = x} {semicolon = semicolon}) follow = finds_then (lock_at (name_tok x ∷ tok (mark Semicolon) semicolon ∷ rest)) (λ x. Ok (lock x.0, x.1)) (x, rest) (lock x, rest) (lock_found x _ rest is_lock_name tt) (found refl)
decl_found room _ ts rest (is_struct_decl {s = s} {ts = us} h) follow = finds_then (struct_at room us) (λ s. Ok (struct s.0, s.1)) (s, rest) (struct s, rest) (struct_found room s us rest h tt) (found refl)
decl_found room _ ts rest (is_global {v = v} {ts = us} (is_variable {ts2 = mid} t p c)) follow =
    let parts : IsVariableRest v.value_type v.name (global v) mid rest = both p (both c (both is_tok done)) in
    global_found room v.value_type v.name (global v) us mid rest t (choose_right (mark OpenBracket) (array_at room v.value_type v.name) (variable_at room v.value_type v.name) mid (global v, rest) (variable_no_bracket parts) (variable_found room v.value_type v.name (global v) mid rest parts tt))
decl_found room _ ts rest (is_array_decl {a = a} {ts = us} (is_array {ts2 = mid} t n p)) follow =
    let parts : IsArrayRest a.value_type a.name (array a) mid rest = both n (both p (both is_tok done)) in
    global_found room a.value_type a.name (array a) us mid rest t (choose_left (mark OpenBracket) (array_at room a.value_type a.name) (variable_at room a.value_type a.name) mid (array a, rest) (index_bracket parts) (array_found room a.value_type a.name (array a) mid rest parts tt))
decl_found room _ ts rest (is_pool_decl {p = p} {ts = us} h) follow = finds_then (pool_at room us) (λ p. Ok (pool p.0, p.1)) (p, rest) (pool p, rest) (pool_found room p us rest h tt) (found refl)
decl_found room _ ts rest (is_init_decl {i = i} {ts = us} h) follow = finds_then (init_at room i.start us) (λ i. Ok (init i.0, i.1)) (i, rest) (init i, rest) (init_found room i.start i us rest (init_back h) tt) (found refl)
decl_found room _ ts rest (is_atomic {s = s} {ts = us} h) follow = finds_then (section_at room us) (λ s. Ok (atomic s.0, s.1)) (s, rest) (atomic s, rest) (section_found room s us rest h tt) (found refl)
decl_found room _ ts rest (is_helper {s = s} {ts = us} none h) follow = finds_then (helper_at room us) (λ s. Ok (helper s.0, s.1)) (s, rest) (helper s, rest) (helper_found room s us rest (without_classes none h) tt) (found refl)
decl_found room _ ts rest (is_thread_decl {t = t} {ts = us} h) follow = finds_then (thread_at room us) (λ t. Ok (thread t.0, t.1)) (t, rest) (thread t, rest) (thread_found room t us rest h tt) (found refl)

decl_begins : {d : Decl} {ts rest : List Tok} → IsDecl d ts rest → NotNext end ts
decl_begins is_lock = refl
decl_begins (is_struct_decl h) = refl
decl_begins (is_global h) = refl
decl_begins (is_array_decl h) = refl
decl_begins (is_pool_decl h) = refl
decl_begins (is_init_decl h) = refl
decl_begins (is_atomic h) = refl
decl_begins (is_helper none h) = refl
decl_begins (is_thread_decl h) = refl

decls_found : (room : ℕ) → FindsPart (IsNext end) (AreMany IsDecl) (decls_at room)
unfolding decls_at
decls_found room _ ts rest no_more follow = until_none [] ◌∷◌ end (decl_at room) (next_decl_shortens room) ts follow
decls_found room _ ts rest (one_more {x = d} {xs = ds} {mid = mid} h g) follow = until_found [] ◌∷◌ end (decl_at room) (next_decl_shortens room) d ds ts mid rest (decl_begins h) (decl_found room d ts mid h tt) (decls_found room ds mid rest g follow)

pub program_found : {ds : List Decl} {ts : List Tok} → Spells ds ts → (room : ℕ) → Finds (program_at room ts) ds
unfolding program_at
program_found (spells {ds = ds} {at = at} {ts = ts} h) room = finds_then (decls_at room ts) (λ ds. end_from ds.0 ds.1) (ds, tok end at ∷ []) ds (decls_found room ds ts (tok end at ∷ []) h refl) (found refl)
