-- The items of threads, one after another.
use Rattle.std.proofs.Common.{◌≡◌, ◌<◌, ◌≤◌, ◌+◌, ℕ, zero, suc, List, [], ◌∷◌, ◌++◌, length, take, drop, get_or}
use Rattle.std.proofs.Common.{Option, Some, None, Bool, true, false, Vec, Global, refl, sym, ap, subst, ◌∙◌}
use Rattle.std.proofs.Common.{append_assoc, arith, add-one}
use Rattle.std.specs.Prelude.{is_some}
use Rattle.resolution.specs.declared.finding.Finding.{Finding}
use Rattle.source.specs.declared.token.Number.{Number}
use Rattle.syntax.specs.declared.tree.Item as tree
use Rattle.syntax.specs.declared.tree.Item.{Repeat}
use Rattle.syntax.specs.Trees.{Decl}
use Rattle.syntax.specs.Views.{item_of, items_of}
use Rattle.syntax.specs.Theory.Rows.{item_of_Repeat}
use Rattle.core_lang.specs.declared.typed.Call as the_call
use Rattle.types.specs.Working.ConstantValues.{cores, Adds}
use Rattle.resolution.specs.Core as core
use Rattle.resolution.specs.Scopes.{◌>>=◌}
use Rattle.resolution.specs.Tables.{copies}
use Rattle.resolution.specs.Working.Building.{typed_item, typed_items}
use Rattle.resolution.specs.Working.Findings.{Firsts, found_in}
use Rattle.resolution.specs.Working.FaultLists.{item_faults, items_faults}
use Rattle.resolution.specs.CoreViews.{core_call}
use Rattle.std.proofs.lemmas.List.{append-nil, length-map, length-append, length-drop, get_or-map, get_or-drop}
use Rattle.std.proofs.lemmas.List.{get_or_append_left, drop-append-le}
use Rattle.std.proofs.Math.ListN.{drop_of_length-le}
use Rattle.std.proofs.Math.Seq.{take-suc, drop-append_seam, take-append_seam}

pub repeat_faults : (decls : List Decl) (x : tree.Item) (n : Number) (vec : Vec tree.Item Global) (items : List tree.Item) (f g : Firsts) → x ≡ Repeat n vec → items ≡ vec.items → g ≡ found_in f (items_faults decls (items_of items)) → g ≡ found_in f (item_faults decls (item_of x))
repeat_faults decls x n vec items f g is all hg = hg ∙ ap (λ ys. found_in f (items_faults decls (items_of ys))) all ∙ ap (λ y. found_in f (item_faults decls y)) (sym (ap item_of is ∙ item_of_Repeat n vec))

-- calls repeated the given number of times, if all of them are right
abbrev times : ℕ → Option (List core.Call) → Option (List core.Call)
times n None = None
times n (Some calls) = Some (copies n calls)

times_is : (n : ℕ) (o : Option (List core.Call)) → times n o ≡ (o >>= λ calls. Some (copies n calls))
times_is n None = refl
times_is n (Some xs) = refl

repeat_is : (decls : List Decl) (x : tree.Item) (n : Number) (vec : Vec tree.Item Global) (items : List tree.Item) →
    x ≡ Repeat n vec → items ≡ vec.items →
    typed_item decls (item_of x) ≡ times n.value (typed_items decls (items_of items))
repeat_is decls x n vec items is all =
    ap (typed_item decls) (ap item_of is ∙ item_of_Repeat n vec)
    ∙ sym (times_is n.value (typed_items decls (items_of vec.items)))
    ∙ ap (λ ys. times n.value (typed_items decls (items_of ys))) (sym all)

times_some : (n : ℕ) (o : Option (List core.Call)) → is_some (times n o) ≡ is_some o
times_some n None = refl
times_some n (Some xs) = refl

pub repeat_some : (decls : List Decl) (x : tree.Item) (n : Number) (vec : Vec tree.Item Global) (items : List tree.Item) → x ≡ Repeat n vec → items ≡ vec.items → is_some (typed_items decls (items_of items)) ≡ is_some (typed_item decls (item_of x))
repeat_some decls x n vec items is all = sym (times_some n.value (typed_items decls (items_of items))) ∙ ap is_some (sym (repeat_is decls x n vec items is all))

-- an item that is repeated no times adds nothing
never : (right : Bool) (calls : List the_call.Call) (o : Option (List core.Call)) → right ≡ is_some o →
    Adds right calls calls (times 0 o)
never true calls None h = absurd (cc)
never true calls (Some xs) h = ap Some (sym (append-nil (cores calls)))
never false calls None h = refl
never false calls (Some xs) h = absurd (cc)

pub repeat_never : (decls : List Decl) (x : tree.Item) (n : Number) (vec : Vec tree.Item Global) (items : List tree.Item) (right : Bool) (calls : List the_call.Call) → x ≡ Repeat n vec → items ≡ vec.items → n.value ≡ 0 → right ≡ is_some (typed_items decls (items_of items)) → Adds right calls calls (typed_item decls (item_of x))
repeat_never decls x n vec items right calls is all none h =
    subst (Adds right calls calls) (sym (repeat_is decls x n vec items is all ∙ ap (λ (k : ℕ). times k (typed_items decls (items_of items))) none))
    (never right calls (typed_items decls (items_of items)) h)

-- if the items have a fault, their repetition has one
wrong : (n : ℕ) (before after : List the_call.Call) (o : Option (List core.Call)) → Adds false before after o →
    Adds false before after (times n o)
wrong n before after None h = refl
wrong n before after (Some xs) h = absurd (cc)

pub repeat_wrong : (decls : List Decl) (x : tree.Item) (n : Number) (vec : Vec tree.Item Global) (items : List tree.Item) (before after : List the_call.Call) → x ≡ Repeat n vec → items ≡ vec.items → Adds false before after (typed_items decls (items_of items)) → Adds false before after (typed_item decls (item_of x))
repeat_wrong decls x n vec items before after is all h =
    subst (Adds false before after) (sym (repeat_is decls x n vec items is all)) (wrong n.value before after (typed_items decls (items_of items)) h)

-- calls that were added once, and then repeated the given number of times
more_times : (k : ℕ) (before once after : List the_call.Call) (o : Option (List core.Call)) → Adds true before once o
    → cores after ≡ cores once ++ copies k (drop (length before) (cores once)) → Adds true before after (times (suc k) o)
more_times k before once after None h e = absurd (cc)
more_times k before once after (Some xs) h e =
    let is : cores once ≡ cores before ++ xs = some_is h in
    let rest : drop (length before) (cores once) ≡ xs = ap (λ (n : ℕ). drop n (cores once)) (sym (length-map before core_call)) ∙ ap (drop (length (cores before))) is ∙ drop-append_seam (cores before) xs in
    ap Some (e ∙ ap (λ (ys : List core.Call). cores once ++ copies k ys) rest ∙ ap (λ (ys : List core.Call). ys ++ copies k xs) is ∙ append_assoc (cores before) xs (copies k xs))
  where
    some_is : {ys zs : List core.Call} → Some ys ≡ Some zs → ys ≡ zs
    some_is h = cc

pub repeat_more : (decls : List Decl) (x : tree.Item) (n : Number) (vec : Vec tree.Item Global) (items : List tree.Item) (before once after : List the_call.Call) (k : ℕ) → x ≡ Repeat n vec → items ≡ vec.items → n.value ≡ suc k
    → Adds true before once (typed_items decls (items_of items)) → cores after ≡ cores once ++ copies k (drop (length before) (cores once)) → Adds true before after (typed_item decls (item_of x))
repeat_more decls x n vec items before once after k is all often h e =
    subst (Adds true before after) (sym (repeat_is decls x n vec items is all ∙ ap (λ (j : ℕ). times j (typed_items decls (items_of items))) often))
    (more_times k before once after (typed_items decls (items_of items)) h e)

pub copies_snoc : {A : Type 0} (n : ℕ) (xs : List A) → copies n xs ++ xs ≡ xs ++ copies n xs
copies_snoc zero xs = sym (append-nil xs)
copies_snoc (suc n) xs = append_assoc xs (copies n xs) xs ∙ ap (λ ys. xs ++ ys) (copies_snoc n xs)

-- one more of the elements from one on
pub again_more : {A : Type 0} (xs zs : List A) (from k : ℕ) (x : A) → from + k < length xs →
    zs ≡ xs ++ take k (drop from xs) → x ≡ get_or zs (from + k) x → zs ++ x ∷ [] ≡ xs ++ take (k + 1) (drop from xs)
again_more xs zs from k x inside is at =
    let rest : k < length (drop from xs) = let e = length-drop from xs in omega (arith, e, inside) in
    let here : get_or (drop from xs) k x ≡ x = get_or-drop from xs k x ∙ sym (at ∙ ap (λ ys. get_or ys (from + k) x) is ∙ get_or_append_left xs (take k (drop from xs)) x (from + k) inside) in
    let more : take (k + 1) (drop from xs) ≡ take k (drop from xs) ++ x ∷ [] = ap (λ (n : ℕ). take n (drop from xs)) (add-one k) ∙ take-suc (drop from xs) k x rest ∙ ap (λ y. take k (drop from xs) ++ y ∷ []) here in
    ap (λ ys. ys ++ x ∷ []) is ∙ append_assoc xs (take k (drop from xs)) (x ∷ []) ∙ ap (λ ys. xs ++ ys) (sym more)

-- one copy more of all from one on
pub copy_more : {A : Type 0} (xs ys zs : List A) (from count n : ℕ) → from + count ≡ length xs →
    ys ≡ xs ++ copies n (drop from xs) → zs ≡ ys ++ take count (drop from ys) →
    zs ≡ xs ++ copies (n + 1) (drop from xs)
copy_more xs ys zs from count n all is more =
    let d = drop from xs in
    let long : length d ≡ count = let e = length-drop from xs in omega (arith, e, all) in
    let first : take count (drop from ys) ≡ d = ap (λ l. take count (drop from l)) is ∙ ap (take count) (drop-append-le from xs (copies n d) (omega (arith, all))) ∙ ap (λ (m : ℕ). take m (d ++ copies n d)) (sym long) ∙ take-append_seam d (copies n d) in
    more ∙ ap (λ l. ys ++ l) first ∙ ap (λ l. l ++ d) is ∙ append_assoc xs (copies n d) d ∙ ap (λ l. xs ++ l) (copies_snoc n d) ∙ ap (λ (m : ℕ). xs ++ copies m d) (sym (add-one n))

pub no_copies : {A : Type 0} (xs : List A) (from n : ℕ) → length xs ≤ from → xs ≡ xs ++ copies n (drop from xs)
no_copies xs from n past = sym (ap (λ l. xs ++ copies n l) (drop_of_length-le xs past) ∙ ap (λ l. xs ++ l) (of_none n) ∙ append-nil xs)
  where
    of_none : {A : Type 0} (n : ℕ) → copies {A = A} n [] ≡ []
    of_none zero = refl
    of_none (suc n) = of_none n

-- a copy stands where what it is a copy of does, as data
pub copied : (xs : List the_call.Call) (i : ℕ) (x y : the_call.Call) → i < length xs → y ≡ get_or xs i y →
    core_call x ≡ core_call y → core_call x ≡ get_or (cores xs) i (core_call x)
copied xs i x y inside at h = h ∙ ap core_call at ∙ sym (get_or-map core_call xs i y (core_call x) inside)

-- the former calls are kept
pub no_fewer : (xs ys : List the_call.Call) (more : List core.Call) → cores ys ≡ cores xs ++ more →
    length xs ≤ length ys
no_fewer xs ys more h =
    let a = sym (length-map ys core_call) ∙ ap length h ∙ length-append (cores xs) more in
    let b = length-map xs core_call in
    omega (arith, a, b)
