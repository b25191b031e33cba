-- The code builds exactly the calls of threads that the rules build.
use Rattle.std.proofs.Common.{◌≡◌, ℕ, ◌≤◌, List, [], ◌∷◌, ◌++◌, Option, Some, None, Bool, refl, ap, ◌∙◌, subst}
use Rattle.std.specs.Prelude.{if◌then◌else◌}
use Rattle.syntax.specs.Trees.{Call, Item, call, repeat, Items, no_items, item, Decl, lock, struct, global, array, pool}
use Rattle.syntax.specs.Trees.{init, atomic, helper, thread}
use Rattle.core_lang.specs.declared.value.Value.{Value}
use Rattle.core_lang.specs.Theory.Items.{if_some}
use Rattle.resolution.specs.Core as core
use Rattle.resolution.specs.Limits.{CALL_LIMIT}
use Rattle.resolution.specs.Scopes.{◌>>=◌, the_decl, number_at}
use Rattle.resolution.specs.Numbers.{total, calls_of}
use Rattle.resolution.specs.Working.TypedConstants.{typed_arguments}
use Rattle.resolution.specs.Tables.{copies, AreCalls, no_call, one_call, repeated}
use Rattle.resolution.specs.Working.Building.{call_of, joined, one_call as only_call, typed_item, typed_items}
use Rattle.resolution.specs.Working.Building.{few_calls, typed_calls}
use Rattle.resolution.proofs.ConstantRules.{arguments_ruled, arguments_is}
use Rattle.resolution.proofs.Tests.{le_of, le_true}
use Rattle.resolution.proofs.LaidLists.{bind_got}

-- ---- each built part follows the rules

only_ruled : (decls : List Decl) (c : Call) (o : Option (ℕ × Decl)) (cs : List core.Call) (is : Items)
    (ds : List core.Call) → the_decl decls c.section.text ≡ o → only_call (call_of decls o c.arguments) ≡ Some cs →
    AreCalls decls is ds → AreCalls decls (item (call c) is) (cs ++ ds)
only_ruled decls c (Some (i, atomic s)) cs is ds e h more =
    by_arguments (typed_arguments decls s.params c.arguments) refl h
  where
    by_arguments : (o : Option (List Value)) → typed_arguments decls s.params c.arguments ≡ o →
        only_call (o >>= λ vs. Some (record { section = number_at decls i (atomic s); arguments = vs })) ≡ Some cs →
        AreCalls decls (item (call c) is) (cs ++ ds)
    by_arguments (Some vs) g k =
        let y : core.Call = record { section = number_at decls i (atomic s); arguments = vs } in
        let same : y ∷ [] ≡ cs = cc in
        subst (λ (xs : List core.Call). AreCalls decls (item (call c) is) (xs ++ ds)) same
        (one_call e (arguments_ruled decls s.params c.arguments vs g) more)
    by_arguments None g k = cc
only_ruled decls c (Some (i, lock x)) cs is ds e h more = cc
only_ruled decls c (Some (i, struct x)) cs is ds e h more = cc
only_ruled decls c (Some (i, global x)) cs is ds e h more = cc
only_ruled decls c (Some (i, array x)) cs is ds e h more = cc
only_ruled decls c (Some (i, pool x)) cs is ds e h more = cc
only_ruled decls c (Some (i, init x)) cs is ds e h more = cc
only_ruled decls c (Some (i, helper x)) cs is ds e h more = cc
only_ruled decls c (Some (i, thread x)) cs is ds e h more = cc
only_ruled decls c None cs is ds e h more = cc

-- two lists together are there where both are
pub joined_got : {A : Type 0} (o r : Option (List A)) (ys : List A) → joined o r ≡ Some ys →
    (xs : List A) × (zs : List A) × (o ≡ Some xs) × (r ≡ Some zs) × (xs ++ zs ≡ ys)
joined_got (Some xs) (Some zs) ys e = (xs, zs, refl, refl, cc)
joined_got (Some xs) None ys e = cc
joined_got None r ys e = cc

mutual
  item_ruled : (decls : List Decl) (i : Item) (cs : List core.Call) (is : Items) (ds : List core.Call) →
      typed_item decls i ≡ Some cs → AreCalls decls is ds → AreCalls decls (item i is) (cs ++ ds)
  item_ruled decls (call c) cs is ds e more = only_ruled decls c (the_decl decls c.section.text) cs is ds refl e more
  item_ruled decls (repeat n js) cs is ds e more =
      let b = bind_got (typed_items decls js) (λ xs. Some (copies n.value xs)) cs e in
      let same : copies n.value b.0 ≡ cs = (let u = b.2 in cc) in
      subst (λ (xs : List core.Call). AreCalls decls (item (repeat n js) is) (xs ++ ds)) same
      (repeated (items_ruled decls js b.0 b.1) more)

  pub items_ruled : (decls : List Decl) (is : Items) (cs : List core.Call) → typed_items decls is ≡ Some cs →
      AreCalls decls is cs
  items_ruled decls no_items cs e = let same : [] ≡ cs = cc in subst (AreCalls decls no_items) same no_call
  items_ruled decls (item i is) cs e =
      let r = joined_got (typed_item decls i) (typed_items decls is) cs e in
      subst (AreCalls decls (item i is)) r.4 (item_ruled decls i r.0 is r.1 r.2 (items_ruled decls is r.1 r.3))

pub calls_ruled : (decls : List Decl) (is : Items) (cs : List core.Call) → typed_calls decls is ≡ Some cs →
    (total calls_of decls ≤ CALL_LIMIT) × AreCalls decls is cs
calls_ruled decls is cs e =
    let b = if_some (few_calls decls) (typed_items decls is) cs e in
    (le_of (total calls_of decls) CALL_LIMIT b.0, items_ruled decls is cs b.1)

-- ---- each part by the rules is built

items_built : (decls : List Decl) (is : Items) (cs : List core.Call) → AreCalls decls is cs →
    typed_items decls is ≡ Some cs
items_built decls is cs no_call = refl
items_built decls is cs (one_call {is = rest} {cs = ds} e g more) = let h = items_built decls rest ds more in
    let a = arguments_is g in
    rw (e, a, h) refl
items_built decls is cs (repeated {js = js} {is = rest} {bs = bs} {cs = ds} first more) =
    let g = items_built decls js bs first in
    let h = items_built decls rest ds more in
    rw (g, h) refl

pub calls_built : (decls : List Decl) (is : Items) (cs : List core.Call) → total calls_of decls ≤ CALL_LIMIT →
    AreCalls decls is cs → typed_calls decls is ≡ Some cs
calls_built decls is cs few are =
    ap (λ (b : Bool). if b then typed_items decls is else None) (le_true (total calls_of decls) CALL_LIMIT few)
    ∙ items_built decls is cs are
