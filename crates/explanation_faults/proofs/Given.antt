-- Of two `init`s that give the same, the first is found.
use Rattle.std.proofs.Common.{◌≡◌, ◌∙◌, ℕ, Bool, true, false, List, [], ◌∷◌, length, take, Option, Some, None, refl}
use Rattle.std.proofs.Common.{sym, ap, subst, eq-eqb}
use Rattle.std.specs.Prelude.{slice_get, ◌&&◌, ◌||◌, nat_lt, if◌then◌else◌}
use Rattle.std.specs.Str.{bytes_eq}
use Rattle.std.proofs.lemmas.Option.{same_Some}
use Rattle.std.proofs.lemmas.Slice.Eq.{bytes_eq-Decides}
use Rattle.std.proofs.lemmas.Bool.{and_from, or_right}
use Rattle.syntax.specs.Trees.{Init, Decl, lock, struct, global, array, pool, init, atomic, helper, thread, Member}
use Rattle.syntax.specs.Trees.{lock_member, final_member, field_member, Pool}
use Rattle.resolution.specs.declared.init_target.InitTarget.{InitTarget}
use Rattle.resolution.specs.Constants.{init_target_at, init_target_in, init_target_to, init_target_of, is_init_target}
use Rattle.resolution.specs.Constants.{gives, members_of}
use Rattle.resolution.specs.Scopes.{◌>>=◌, bears, member_bears, member_name, named, place_of, the_decl, the_member}
use Rattle.resolution.specs.Theory.Facts.{same_is}
use Rattle.explanation_faults.specs.FaultNotes.{IsGivenAgain, given_again}
use Rattle.explanation_faults.specs.Inits.{same_target, gives_same, IsFirstGiver, IsGivenFirst}
use Rattle.explanation_faults.proofs.Places.{some_pass, found_passes, passing, passing_at, named_passes, at_front}
use Rattle.explanation_faults.proofs.Places.{take_front}

-- ---- what is named

pub record Named {A Q : Type 0} (is : A → Q → Bool) (xs : List A) (q : Q) (k : ℕ) (x : A) : Type 0 where
  pub here : slice_get xs k ≡ Some x
  pub bears : is x q ≡ true

module _ {A Q : Type 0} (is : A → Q → Bool) (xs : List A) (q : Q) (k : ℕ) (x : A) where
  abbrev test : A → Bool
  test = λ y. is y q

  abbrev numbered : ℕ → A → Option (ℕ × A)
  numbered i y = Some (i, y)

  at_place : (i : ℕ) → place_of is xs q ≡ Some i → (y : A) → slice_get xs i ≡ Some y → is y q ≡ true
  at_place i at y here =
      let r = passing test 0 xs (found_passes test 0 xs i at) in
      let same : i ≡ r.offset = same_Some i r.offset (sym at ∙ passing_at test xs r) in
      let e : y ≡ r.element = same_Some y r.element (sym here ∙ ap (slice_get xs) same ∙ r.is) in
      rw e r.passes

  by_element : (i : ℕ) (o : Option A) → place_of is xs q ≡ Some i → slice_get xs i ≡ o →
      (o >>= numbered i) ≡ Some (k, x) → Named is xs q k x
  by_element i None at here e = absurd cc
  by_element i (Some y) at here e =
      let mine : ℕ × A = (i, y) in
      let other : ℕ × A = (k, x) in
      let pair : mine ≡ other = same_Some mine other e in
      let place : i ≡ k = ap (λ (p : ℕ × A). p.0) pair in
      let element : y ≡ x = ap (λ (p : ℕ × A). p.1) pair in
      record {
        here = rw (← place, ← element) here;
        bears = rw (← element) (at_place i at y here);
      }

  by_place : (o : Option ℕ) → place_of is xs q ≡ o → (o >>= λ i. slice_get xs i >>= numbered i) ≡ Some (k, x) →
      Named is xs q k x
  by_place None at e = absurd cc
  by_place (Some i) at e = by_element i (slice_get xs i) at refl e

  pub named_at : named is xs q ≡ Some (k, x) → Named is xs q k x
  named_at e = by_place (place_of is xs q) refl e

-- ---- what an `init` gives

pub record Target (decls : List Decl) (i : Init) (g : InitTarget) : Type 0 where
  pub p : Pool
  pub pool_named : the_decl decls i.pool.text ≡ Some (g.pool, pool p)
  pub index : i.index.value ≡ g.index
  pub members : List Member
  pub of_struct : members_of decls p.target ≡ Some members
  pub member : Member
  pub field_named : the_member members i.field.text ≡ Some (g.member, member)

module _ (decls : List Decl) (i : Init) (g : InitTarget) where
  module _ (k : ℕ) (p : Pool) (named_pool : the_decl decls i.pool.text ≡ Some (k, pool p)) where
    module _ (ms : List Member) (of_struct : members_of decls p.target ≡ Some ms) where
      known : (m : ℕ) (x : Member) → the_member ms i.field.text ≡ Some (m, x) →
          Some (record { pool = k; index = i.index.value; member = m }) ≡ Some g → Target decls i g
      known m x field e =
          let same : record { pool = k; index = i.index.value; member = m } ≡ g = same_Some _ g e in
          let in_pool : k ≡ g.pool = ap (λ (t : InitTarget). t.pool) same in
          let in_struct : m ≡ g.member = ap (λ (t : InitTarget). t.member) same in
          record {
            p = p;
            pool_named = named_pool ∙ ap (λ n. Some (n, pool p)) in_pool;
            index = ap (λ (t : InitTarget). t.index) same;
            members = ms;
            of_struct = of_struct;
            member = x;
            field_named = field ∙ ap (λ n. Some (n, x)) in_struct;
          }

      by_member : (o : Option (ℕ × Member)) → the_member ms i.field.text ≡ o →
          init_target_at k i.index.value o ≡ Some g → Target decls i g
      by_member None at e = absurd cc
      by_member (Some (m, lock_member x)) at e = absurd cc
      by_member (Some (m, final_member f)) at e = known m (final_member f) at e
      by_member (Some (m, field_member f)) at e = known m (field_member f) at e

    by_members : (o : Option (List Member)) → members_of decls p.target ≡ o →
        init_target_in k i.index.value o i.field.text ≡ Some g → Target decls i g
    by_members None at e = absurd cc
    by_members (Some ms) at e = by_member ms at (the_member ms i.field.text) refl e

    within : (b : Bool) →
        (if b then init_target_in k i.index.value (members_of decls p.target) i.field.text else None) ≡ Some g →
        Target decls i g
    within true e = by_members (members_of decls p.target) refl e
    within false e = absurd cc

  by_pool : (o : Option (ℕ × Decl)) → the_decl decls i.pool.text ≡ o →
      init_target_to decls o i.index.value i.field.text ≡ Some g → Target decls i g
  by_pool None at e = absurd cc
  by_pool (Some (k, lock x)) at e = absurd cc
  by_pool (Some (k, struct x)) at e = absurd cc
  by_pool (Some (k, global x)) at e = absurd cc
  by_pool (Some (k, array x)) at e = absurd cc
  by_pool (Some (k, pool p)) at e = within k p at (nat_lt i.index.value p.length.value) e
  by_pool (Some (k, init x)) at e = absurd cc
  by_pool (Some (k, atomic x)) at e = absurd cc
  by_pool (Some (k, helper x)) at e = absurd cc
  by_pool (Some (k, thread x)) at e = absurd cc

  pub target_of : init_target_of decls i ≡ Some g → Target decls i g
  target_of e = by_pool (the_decl decls i.pool.text) refl e

-- ---- two that give the same name the same

texts_alike : (q r text : List ℕ) → bytes_eq q text ≡ true → bytes_eq r text ≡ true → bytes_eq q r ≡ true
texts_alike q r text e f =
    (bytes_eq-Decides q r).1 ((bytes_eq-Decides q text).0 e ∙ sym ((bytes_eq-Decides r text).0 f))

abbrev pool_in : Pool → Decl → Pool
pool_in q (pool p) = p
pool_in q _ = q

pub alike : (decls : List Decl) (i j : Init) (g : InitTarget) → Target decls i g → Target decls j g →
    same_target i j ≡ true
alike decls i j g s t =
    let a = named_at bears decls i.pool.text g.pool (pool s.p) s.pool_named in
    let b = named_at bears decls j.pool.text g.pool (pool t.p) t.pool_named in
    let pools : s.p ≡ t.p = ap (pool_in s.p) (same_Some (pool s.p) (pool t.p) (sym a.here ∙ b.here)) in
    let lists : s.members ≡ t.members = same_Some s.members t.members (sym s.of_struct ∙ ap (λ (p : Pool). members_of decls p.target) pools ∙ t.of_struct) in
    let x = named_at member_bears s.members i.field.text g.member s.member s.field_named in
    let y = named_at member_bears t.members j.field.text g.member t.member t.field_named in
    let one : s.member ≡ t.member = same_Some s.member t.member (sym x.here ∙ ap (λ (l : List Member). slice_get l g.member) lists ∙ y.here) in
    and_from _ _
    (and_from _ _ (texts_alike i.pool.text j.pool.text s.p.name.text a.bears (rw pools b.bears)) (eq-eqb i.index.value j.index.value (s.index ∙ sym t.index)))
    (texts_alike i.field.text j.field.text (member_name s.member).text x.bears (rw one y.bears))

-- ---- what gives the same

and_left : (a b : Bool) → a && b ≡ true → a ≡ true
and_left true b e = refl
and_left false b e = absurd cc

and_right : (a b : Bool) → a && b ≡ true → b ≡ true
and_right true b e = e
and_right false b e = absurd cc

module _ (decls : List Decl) (j : Init) (g : InitTarget) (gives_g : init_target_of decls j ≡ Some g) where
  of_target : (i : Init) (o : Option InitTarget) → init_target_of decls i ≡ o → is_init_target o g ≡ true →
      same_target j i ≡ true
  of_target i None at e = absurd cc
  of_target i (Some h) at e =
      let same = same_is h g e in
      alike decls j i g (target_of decls j g gives_g) (target_of decls i g (at ∙ ap (λ (t : InitTarget). Some t) same))

  gives_alike : (d : Decl) → gives decls d g ≡ true → gives_same j d ≡ true
  gives_alike (init i) e = of_target i (init_target_of decls i) refl e
  gives_alike (lock x) e = absurd cc
  gives_alike (struct x) e = absurd cc
  gives_alike (global x) e = absurd cc
  gives_alike (array x) e = absurd cc
  gives_alike (pool x) e = absurd cc
  gives_alike (atomic x) e = absurd cc
  gives_alike (helper x) e = absurd cc
  gives_alike (thread x) e = absurd cc

  one_gives : (d : Decl) (ds : List Decl) (b : Bool) → gives decls d g ≡ b →
      b || some_pass (λ d. gives decls d g) ds ≡ true →
      (some_pass (λ d. gives decls d g) ds ≡ true → some_pass (gives_same j) ds ≡ true) → gives_same j d || some_pass (gives_same j) ds ≡ true
  one_gives d ds true is some rest = rw (gives_alike d is) refl
  one_gives d ds false is some rest = or_right (gives_same j d) (some_pass (gives_same j) ds) (rest some)

  some_gives : (ds : List Decl) → some_pass (λ d. gives decls d g) ds ≡ true → some_pass (gives_same j) ds ≡ true
  some_gives [] e = absurd cc
  some_gives (d ∷ ds) e = one_gives d ds (gives decls d g) refl e (some_gives ds)

-- only an `init` gives anything
giver_is : (j : Init) (d : Decl) → gives_same j d ≡ true → (i : Init) × (d ≡ init i)
giver_is j (init i) e = (i, refl)
giver_is j (lock x) e = absurd cc
giver_is j (struct x) e = absurd cc
giver_is j (global x) e = absurd cc
giver_is j (array x) e = absurd cc
giver_is j (pool x) e = absurd cc
giver_is j (atomic x) e = absurd cc
giver_is j (helper x) e = absurd cc
giver_is j (thread x) e = absurd cc

pub first_of_given : (decls : List Decl) (at : ℕ) → IsGivenAgain decls at → (i : Init) × IsGivenFirst decls at i
first_of_given decls at (given_again before behind j {g = g} {e = e} parts target found) =
    let before_gives = named_passes (gives decls) before g e found in
    let p = passing (gives_same j) 0 before (some_gives decls j g target before before_gives) in
    let i = giver_is j p.element p.passes in
    let ahead : take (length before) decls ≡ before = ap (take (length before)) parts ∙ take_front before (init j ∷ behind) in
    let first : IsFirstGiver before j i.0 = record {
      number = p.offset;
      found = passing_at (gives_same j) before p;
      is_first = p.is ∙ ap (λ (d : Decl). Some d) i.1;
    } in (
      i.0,
      record {
        place = length before;
        later = j;
        listed = rw parts (at_front before behind (init j));
        starts = refl;
        giver = subst (λ (l : List Decl). IsFirstGiver l j i.0) (sym ahead) first;
      },
    )
