-- The limit that is found is passed, and one is found where one is passed.
use Rattle.std.proofs.Common.{◌≡◌, ◌∙◌, ℕ, ◌≤◌, zero, suc, Bool, true, false, List, [], ◌∷◌, ◌++◌, length, map, Option}
use Rattle.std.proofs.Common.{Some, None, refl, sym, ap, subst, arith, eq-eqb}
use Rattle.std.proofs.lemmas.Bool.{eqb-true, or_left, or_right}
use Rattle.std.specs.List.{filter_map, flat_map}
use Rattle.std.specs.Option.{option_or}
use Rattle.std.specs.Prelude.{◌==◌, ◌||◌, codes}
use Rattle.std.proofs.lemmas.Option.{same_Some}
use Rattle.resolution.specs.Limits.{STRUCT_LIMIT, MEMBER_LIMIT, CLASS_LIMIT, SECTION_LIMIT, THREAD_LIMIT}
use Rattle.resolution.specs.Limits.{PARAMETER_LIMIT, LOCAL_LIMIT}
use Rattle.resolution.specs.Scopes.{member_name}
use Rattle.resolution.specs.Where.{Has}
use Rattle.syntax.specs.Trees.{Ident, Decl, lock, struct, global, array, pool, init, atomic, helper, thread}
use Rattle.explanation_names.specs.FirstBy.{first_by}
use Rattle.explanation_faults.specs.Working.LimitsFound.{some_starts, is_past, said_if, limit_of_all, limit_in}
use Rattle.explanation_faults.specs.Working.LimitsFound.{limit_passed}
use Rattle.explanation_faults.specs.LimitsPassed.{IsPast, IsCountPassed, structs, bodies, threads, classes, members}
use Rattle.explanation_faults.specs.LimitsPassed.{parameters, locals, struct_name, body_name, thread_name, lock_names}
use Rattle.explanation_faults.specs.LimitsPassed.{parameter_names}
use Rattle.explanation_names.specs.NameSpaces.{local_names}
use Rattle.explanation_faults.proofs.FirstBy.{some_first, first_from}

-- ---- names after a limit

past_more : (x : Ident) {at limit : ℕ} {names : List Ident} → IsPast at limit names → IsPast at (suc limit) (x ∷ names)
past_more x p = record {
  before = x ∷ p.before;
  name = p.name;
  after = p.after;
  parts = ap (λ (l : List Ident). x ∷ l) p.parts;
  many = let many = p.many in omega arith;
  starts = p.starts;
}

past_later : (x : Ident) {at : ℕ} {names : List Ident} → IsPast at 0 names → IsPast at 0 (x ∷ names)
past_later x p = record {
  before = x ∷ p.before;
  name = p.name;
  after = p.after;
  parts = ap (λ (l : List Ident). x ∷ l) p.parts;
  many = omega arith;
  starts = p.starts;
}

past_here : (at : ℕ) (x : Ident) (xs : List Ident) (b : Bool) → (x.span.start == at) ≡ b →
    b || some_starts at xs ≡ true →
    (some_starts at xs ≡ true → IsPast at 0 xs) → IsPast at 0 (x ∷ xs)
past_here at x xs true is some rest =
    record { before = []; name = x; after = xs; parts = refl; many = omega arith; starts = eqb-true x.span.start at is }
past_here at x xs false is some rest = past_later x (rest some)

some_past : (at : ℕ) (names : List Ident) → some_starts at names ≡ true → IsPast at 0 names
some_past at [] some = absurd cc
some_past at (x ∷ xs) some = past_here at x xs (x.span.start == at) refl some (some_past at xs)

pub past_if : (at limit : ℕ) (names : List Ident) → is_past at limit names ≡ true → IsPast at limit names
past_if at zero names some = some_past at names some
past_if at (suc limit) [] some = absurd cc
past_if at (suc limit) (x ∷ xs) some = past_more x (past_if at limit xs some)

some_there : (at : ℕ) (before : List Ident) (x : Ident) (after : List Ident) → x.span.start ≡ at →
    some_starts at (before ++ x ∷ after) ≡ true
some_there at [] x after starts = or_left (x.span.start == at) (some_starts at after) (eq-eqb x.span.start at starts)
some_there at (y ∷ before) x after starts = or_right (y.span.start == at) (some_starts at (before ++ x ∷ after)) (some_there at before x after starts)

past_there : (at limit : ℕ) (before : List Ident) (x : Ident) (after : List Ident) → limit ≤ length before →
    x.span.start ≡ at →
    is_past at limit (before ++ x ∷ after) ≡ true
past_there at zero before x after many starts = some_there at before x after starts
past_there at (suc limit) [] x after many starts = absurd (omega arith)
past_there at (suc limit) (y ∷ before) x after many starts = past_there at limit before x after (omega arith) starts

pub past_so : (at limit : ℕ) (names : List Ident) → IsPast at limit names → is_past at limit names ≡ true
past_so at limit names p = ap (is_past at limit) p.parts ∙ past_there at limit p.before p.name p.after p.many p.starts

-- ---- the first limit that is reported

-- a report is that of the first test, or of the others
said_of : (b : Bool) (own words : List ℕ) (o : Option (List ℕ)) (P : List ℕ → Type 0) →
    option_or (said_if b own) o ≡ Some words →
    (b ≡ true → P own) → (o ≡ Some words → P words) → P words
said_of true own words o P is mine others = subst P (same_Some own words is) (mine refl)
said_of false own words o P is mine others = others is

said_last : (b : Bool) (own words : List ℕ) (P : List ℕ → Type 0) → said_if b own ≡ Some words → (b ≡ true → P own) →
    P words
said_last true own words P is mine = subst P (same_Some own words is) (mine refl)
said_last false own words P is mine = absurd cc

abbrev IsSaid : Option (List ℕ) → Type 0
IsSaid o = (words : List ℕ) × (o ≡ Some words)

first_said : (b : Bool) (own : List ℕ) (o : Option (List ℕ)) → b ≡ true → IsSaid (option_or (said_if b own) o)
first_said true own o is = (own, refl)
first_said false own o is = absurd cc

later_said : (b : Bool) (own : List ℕ) (o : Option (List ℕ)) → IsSaid o → IsSaid (option_or (said_if b own) o)
later_said true own o is = (own, refl)
later_said false own o is = is

only_said : (b : Bool) (own : List ℕ) → b ≡ true → IsSaid (said_if b own)
only_said true own is = (own, refl)
only_said false own is = absurd cc

or_said : (o p : Option (List ℕ)) → IsSaid o → IsSaid (option_or o p)
or_said (Some w) p is = (w, refl)
or_said None p is = absurd (let e = is.1 in cc)

also_said : (o p : Option (List ℕ)) → IsSaid p → IsSaid (option_or o p)
also_said (Some w) p is = (w, refl)
also_said None p is = is

either : (o p : Option (List ℕ)) (words : List ℕ) (P : Type 0) → option_or o p ≡ Some words → (o ≡ Some words → P) →
    (p ≡ Some words → P) → P
either (Some w) p words P is mine others = mine is
either None p words P is mine others = others is

module _ (decls : List Decl) (at : ℕ) where
  all_passed : (words : List ℕ) → limit_of_all at decls ≡ Some words → IsCountPassed decls at words
  all_passed words is =
      said_of (is_past at STRUCT_LIMIT (filter_map struct_name decls)) _ words _ (IsCountPassed decls at) is (λ so. structs (past_if at STRUCT_LIMIT _ so)) (λ is.
      said_of (is_past at SECTION_LIMIT (filter_map body_name decls)) _ words _ (IsCountPassed decls at) is (λ so. bodies (past_if at SECTION_LIMIT _ so)) (λ is.
      said_of (is_past at THREAD_LIMIT (filter_map thread_name decls)) _ words _ (IsCountPassed decls at) is (λ so. threads (past_if at THREAD_LIMIT _ so)) (λ is.
      said_last (is_past at CLASS_LIMIT (flat_map lock_names decls)) _ words (IsCountPassed decls at) is (λ so. classes (past_if at CLASS_LIMIT _ so)))))

  in_passed : (d : Decl) (words : List ℕ) → Has decls d → limit_in at d ≡ Some words → IsCountPassed decls at words
  in_passed (struct s) words has is =
      said_last (is_past at MEMBER_LIMIT (map member_name s.members)) _ words (IsCountPassed decls at) is (λ so. members has (past_if at MEMBER_LIMIT _ so))
  in_passed (atomic s) words has is =
      said_of (is_past at PARAMETER_LIMIT (parameter_names s.params)) _ words _ (IsCountPassed decls at) is (λ so. parameters has (past_if at PARAMETER_LIMIT _ so)) (λ is.
      said_last (is_past at LOCAL_LIMIT (local_names s)) _ words (IsCountPassed decls at) is (λ so. locals has (past_if at LOCAL_LIMIT _ so)))
  in_passed (lock x) words has is = absurd cc
  in_passed (global x) words has is = absurd cc
  in_passed (array x) words has is = absurd cc
  in_passed (pool x) words has is = absurd cc
  in_passed (init x) words has is = absurd cc
  in_passed (helper x) words has is = absurd cc
  in_passed (thread x) words has is = absurd cc

  pub passed_if : (words : List ℕ) → limit_passed decls at ≡ Some words → IsCountPassed decls at words
  passed_if words is =
      either (limit_of_all at decls) (first_by (limit_in at) decls) words (IsCountPassed decls at words) is (all_passed words) (λ found.
      let from = first_from (limit_in at) decls words found in
      in_passed from.0 words from.1 from.2)

  of_all : IsSaid (limit_of_all at decls) → IsSaid (limit_passed decls at)
  of_all said = or_said (limit_of_all at decls) (first_by (limit_in at) decls) said

  of_one : (d : Decl) → Has decls d → IsSaid (limit_in at d) → IsSaid (limit_passed decls at)
  of_one d has said = also_said (limit_of_all at decls) (first_by (limit_in at) decls) (some_first (limit_in at) decls d said.0 has said.1)

  -- the tests of the program, and the report of each
  abbrev BS : Bool
  BS = is_past at STRUCT_LIMIT (filter_map struct_name decls)

  abbrev BB : Bool
  BB = is_past at SECTION_LIMIT (filter_map body_name decls)

  abbrev BT : Bool
  BT = is_past at THREAD_LIMIT (filter_map thread_name decls)

  abbrev BC : Bool
  BC = is_past at CLASS_LIMIT (flat_map lock_names decls)

  abbrev WS : List ℕ
  WS = codes "a program has at most 64 structs"

  abbrev WB : List ℕ
  WB = codes "a program has at most 256 sections and helpers"

  abbrev WT : List ℕ
  WT = codes "a program has at most 64 threads"

  abbrev WC : List ℕ
  WC = codes "a program has at most 128 lock classes"

  abbrev from_classes : Option (List ℕ)
  from_classes = said_if BC WC

  abbrev from_threads : Option (List ℕ)
  from_threads = option_or (said_if BT WT) from_classes

  abbrev from_bodies : Option (List ℕ)
  from_bodies = option_or (said_if BB WB) from_threads

  pub passed_so : (words : List ℕ) → IsCountPassed decls at words → IsSaid (limit_passed decls at)
  passed_so words (structs p) = of_all (first_said BS WS from_bodies (past_so at STRUCT_LIMIT (filter_map struct_name decls) p))
  passed_so words (bodies p) =
      of_all (later_said BS WS from_bodies (first_said BB WB from_threads (past_so at SECTION_LIMIT (filter_map body_name decls) p)))
  passed_so words (threads p) =
      of_all (later_said BS WS from_bodies (later_said BB WB from_threads (first_said BT WT from_classes
      (past_so at THREAD_LIMIT (filter_map thread_name decls) p))))
  passed_so words (classes p) =
      of_all (later_said BS WS from_bodies (later_said BB WB from_threads (later_said BT WT from_classes
      (only_said BC WC (past_so at CLASS_LIMIT (flat_map lock_names decls) p)))))
  passed_so words (members {s} has p) =
      of_one (struct s) has (only_said (is_past at MEMBER_LIMIT (map member_name s.members)) (codes "a struct has at most 32 members")
      (past_so at MEMBER_LIMIT (map member_name s.members) p))
  passed_so words (parameters {s} has p) =
      of_one (atomic s) has (first_said (is_past at PARAMETER_LIMIT (parameter_names s.params)) (codes "a section has at most 8 parameters")
      (said_if (is_past at LOCAL_LIMIT (local_names s)) (codes "a section has at most 64 locals, parameters included"))
      (past_so at PARAMETER_LIMIT (parameter_names s.params) p))
  passed_so words (locals {s} has p) =
      of_one (atomic s) has (later_said (is_past at PARAMETER_LIMIT (parameter_names s.params)) (codes "a section has at most 8 parameters")
      (said_if (is_past at LOCAL_LIMIT (local_names s)) (codes "a section has at most 64 locals, parameters included"))
      (only_said (is_past at LOCAL_LIMIT (local_names s)) (codes "a section has at most 64 locals, parameters included") (past_so at LOCAL_LIMIT (local_names s) p)))

  pub none_passed : limit_passed decls at ≡ None → (words : List ℕ) → IsCountPassed decls at words → ⊥
  none_passed none words is = let said = passed_so words is in let e : None ≡ Some said.0 = sym none ∙ said.1 in absurd cc
