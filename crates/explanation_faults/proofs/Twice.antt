-- Of two declarations of one name, the first is found.
use Rattle.std.proofs.Common.{◌≡◌, ◌∙◌, ℕ, Bool, true, List, [], ◌∷◌, ◌++◌, length, map, Option, Some, None, refl, sym}
use Rattle.std.proofs.Common.{ap}
use Rattle.std.specs.Prelude.{◌||◌}
use Rattle.std.proofs.lemmas.List.{map-append}
use Rattle.syntax.specs.Trees.{Ident, Decl, struct, atomic, helper, Member, ClassName, Section}
use Rattle.core_lang.specs.Theory.Items.{still_at}
use Rattle.resolution.specs.declared.body_limits.BodyLimits.{BodyLimits}
use Rattle.resolution.specs.Where.{HasBody, of_section, of_helper}
use Rattle.resolution.specs.Faults.{IsDeclaredTwice, two_decls, two_members, two_classes, two_locals, top_level}
use Rattle.resolution.specs.Scopes as scopes
use Rattle.resolution.specs.Scopes.{bears, declared, is_called, local_bears, member_bears, member_name, named}
use Rattle.resolution.specs.Scopes.{place_of, same_class}
use Rattle.explanation_names.specs.NameSpaces.{with_name, top_names, inner_names, ident_bears, Repeats, Bears, inside}
use Rattle.explanation_names.specs.NameSpaces.{ListsAgain, twice_listed, outside, IsDeclaredAs, at_the_top, in_one}
use Rattle.explanation_faults.proofs.Places.{some_pass, found_passes, passing, passing_at, named_passes, at_front}
use Rattle.explanation_faults.proofs.Places.{take_front}
use Rattle.explanation_faults.proofs.Scopes as locals
use Rattle.explanation_faults.proofs.Scopes.{texts, bound_local}

abbrev same_as : List ℕ → Ident → Bool
same_as q x = ident_bears x q

-- ---- a name that an earlier one repeats

pub repeats : (names before behind : List Ident) (x : Ident) → names ≡ before ++ x ∷ behind →
    some_pass (same_as x.text) before ≡ true →
    (y : Ident) × Repeats names x.span.start y
repeats names before behind x parts some =
    let p = passing (same_as x.text) 0 before some in (
      p.element,
      record {
        place = length before;
        name = x;
        listed = rw parts (at_front before behind x);
        starts = refl;
        first = p.offset;
        found = rw (parts, take_front before (x ∷ behind)) (passing_at (same_as x.text) before p);
        is_first = rw parts (still_at before (x ∷ behind) p.offset p.element p.is);
      },
    )

pub bears_one : (others names before behind : List Ident) (x : Ident) → names ≡ before ++ x ∷ behind →
    some_pass (same_as x.text) others ≡ true →
    (y : Ident) × Bears others names x.span.start y
bears_one others names before behind x parts some =
    let p = passing (same_as x.text) 0 others some in (
      p.element,
      record {
        place = length before;
        name = x;
        listed = rw parts (at_front before behind x);
        starts = refl;
        first = p.offset;
        found = passing_at (same_as x.text) others p;
        is_first = p.is;
      },
    )

-- ---- the names of declarations, members and locals

top_append : (ds es : List Decl) → top_names (ds ++ es) ≡ top_names ds ++ top_names es
top_append [] es = refl
top_append (d ∷ ds) es = one (declared d) (top_names ds) (top_names es) (top_names (ds ++ es)) (top_append ds es)
  where
    one : (o : Option Ident) (xs ys zs : List Ident) → zs ≡ xs ++ ys → with_name o zs ≡ with_name o xs ++ ys
    one (Some x) xs ys zs e = ap (λ l. x ∷ l) e
    one None xs ys zs e = e

top_borne : (q : List ℕ) (ds : List Decl) → some_pass (λ d. bears d q) ds ≡ some_pass (same_as q) (top_names ds)
top_borne q [] = refl
top_borne q (d ∷ ds) = one (declared d) (some_pass (λ d. bears d q) ds) (top_names ds) (top_borne q ds)
  where
    one : (o : Option Ident) (b : Bool) (xs : List Ident) → b ≡ some_pass (same_as q) xs →
        is_called o q || b ≡ some_pass (same_as q) (with_name o xs)
    one (Some x) b xs e = ap (λ r. same_as q x || r) e
    one None b xs e = e

members_borne : (q : List ℕ) (ms : List Member) →
    some_pass (λ m. member_bears m q) ms ≡ some_pass (same_as q) (map member_name ms)
members_borne q [] = refl
members_borne q (m ∷ ms) = ap (λ r. member_bears m q || r) (members_borne q ms)

locals_borne : (q : List ℕ) (ls : List scopes.Local) (xs : List Ident) → locals.named ls ≡ texts xs →
    some_pass (λ l. local_bears l q) ls ≡ some_pass (same_as q) xs
locals_borne q [] [] e = refl
locals_borne q [] (x ∷ xs) e = absurd cc
locals_borne q (l ∷ ls) [] e = absurd cc
locals_borne q (l ∷ ls) (x ∷ xs) e =
    let text : l.name ≡ x.text = cc in
    let rest : locals.named ls ≡ texts xs = cc in
    rw (text, locals_borne q ls xs rest) refl

-- ---- a lock class that a section lists twice

listed_again : (classes before behind : List ClassName) (c : ClassName) (i : ℕ) → classes ≡ before ++ c ∷ behind →
    place_of same_class before c ≡ Some i →
    (d : ClassName) × ListsAgain classes c.structure.span.start d
listed_again classes before behind c i parts found =
    let p = passing (λ d. same_class d c) 0 before (found_passes (λ d. same_class d c) 0 before i found) in (
      p.element,
      record {
        place = length before;
        class = c;
        listed = rw parts (at_front before behind c);
        starts = refl;
        before = p.offset;
        found = rw (parts, take_front before (c ∷ behind)) (passing_at (λ d. same_class d c) before p);
        is_first = rw parts (still_at before (c ∷ behind) p.offset p.element p.is);
      },
    )

in_body : (decls : List Decl) (limits : BodyLimits) (s : Section) (at : ℕ) (c : ClassName) → HasBody decls limits s →
    ListsAgain s.listed at c → IsDeclaredAs decls at c.structure
in_body decls limits s at c (of_section has) again = in_one {d = atomic s} has (twice_listed again refl)
in_body decls limits s at c (of_helper has) again = in_one {d = helper s} has (twice_listed again refl)

-- ---- the five ways

pub first_of_twice : (decls : List Decl) (at : ℕ) → IsDeclaredTwice decls at → (x : Ident) × IsDeclaredAs decls at x
first_of_twice decls at (two_decls before behind d {x = x} {i = i} parts is found) =
    let names : top_names decls ≡ top_names before ++ x ∷ top_names behind = ap top_names parts ∙ top_append before (d ∷ behind) ∙ ap (λ o. top_names before ++ with_name o (top_names behind)) is in
    let r = repeats (top_names decls) (top_names before) (top_names behind) x names (sym (top_borne x.text before) ∙ found_passes (λ d. bears d x.text) 0 before i found) in
    (r.0, at_the_top r.1)
first_of_twice decls at (two_members {s = s} before behind m {i = i} has parts found) =
    let x = member_name m in
    let names : map member_name s.members ≡ map member_name before ++ x ∷ map member_name behind = ap (map member_name) parts ∙ map-append member_name before (m ∷ behind) in
    let r = repeats (map member_name s.members) (map member_name before) (map member_name behind) x names
    (sym (members_borne x.text before) ∙ found_passes (λ m. member_bears m x.text) 0 before i found) in
    (r.0, in_one {d = struct s} has (inside r.1))
first_of_twice decls at (two_classes {limits = limits} {s = s} before behind c {i = i} body parts found) =
    let r = listed_again s.listed before behind c i parts found in
    (r.0.structure, in_body decls limits s at r.0 body r.1)
first_of_twice decls at (two_locals {sc = sc} {x = x} {f = f} binds found) =
    let l = bound_local decls sc x binds in
    let some = sym (locals_borne x.text sc.locals l.ahead.before l.ahead.named) ∙ named_passes local_bears sc.locals x.text f found in
    let r = repeats (inner_names l.decl) l.ahead.before l.ahead.behind x l.ahead.parts some in
    (r.0, in_one l.has (inside r.1))
first_of_twice decls at (top_level {sc = sc} {x = x} {f = f} binds found) =
    let l = bound_local decls sc x binds in
    let some = sym (top_borne x.text decls) ∙ named_passes bears decls x.text f found in
    let r = bears_one (top_names decls) (inner_names l.decl) l.ahead.before l.ahead.behind x l.ahead.parts some in
    (r.0, in_one l.has (outside l.body r.1))
