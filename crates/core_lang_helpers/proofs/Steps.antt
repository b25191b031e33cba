-- The expansion of one more statement and of one more `let`, and of whole calls, blocks and bodies.
use Rattle.std.proofs.Common.{◌≡◌, ℕ, suc, ◌+◌, ◌<◌, List, [], ◌∷◌, ◌++◌, length, map, reverse, take, Option, Some}
use Rattle.std.proofs.Common.{None, refl, sym, ap, ◌∙◌, subst, add-one, arith, append_assoc, Vec, Global}
use Rattle.std.specs.Prelude.{slice_index_or}
use Rattle.std.proofs.lemmas.List.{append-nil, length-take-le}
use Rattle.core_lang.specs.declared.tree.Expr.{Expr}
use Rattle.core_lang.specs.declared.tree.Stmt.{Stmt}
use Rattle.core_lang.specs.declared.tree.Action.{Bind, Call}
use Rattle.core_lang.specs.declared.tree.Return.{Return}
use Rattle.core_lang.specs.declared.tree.Section.{Section}
use Rattle.core_lang.specs.declared.shape.Shape.{Shape}
use Rattle.core_lang.specs.Expansion.{Pair, At, entered, one, Renames, RenamesResult, Arguments, Bound, Bodies}
use Rattle.core_lang.specs.Expansion.{Writes, WritesAll, WritesBody, HelpersWritten}
use Rattle.core_lang_helpers.specs.declared.scope.WrittenScope.{WrittenScope}
use Rattle.core_lang_helpers.specs.declared.body.BodyWriter.{BodyWriter}
use Rattle.core_lang_helpers.specs.Working.Scopes.{pair_of, at_of, HasLets}
use Rattle.core_lang_helpers.specs.Working.Bodies.{bodies, Wrote, WroteAll, WroteBlock, WroteBody, HasReceived}
use Rattle.core_lang_helpers.specs.Working.Bodies.{IsCallee}
use Rattle.core_lang_helpers.proofs.Pairs.{take_one, cut_back}
use Rattle.core_lang_helpers.proofs.Growth.{all_grow}

-- ---- statements

one_more : (BodyWriter : Bodies) (xs : List Stmt) (x : Stmt) (a m b : At) (ys zs : List Stmt) → WritesAll BodyWriter xs a ys m →
    Writes BodyWriter x.action x.start m zs b →
    WritesAll BodyWriter (xs ++ x ∷ []) a (ys ++ zs) b
one_more BodyWriter [] x a m b ys zs (e, f) w =
    (zs, [], b, subst (λ s. Writes BodyWriter x.action x.start s zs b) f w, (refl, refl), ap (λ vs. vs ++ zs) e ∙ sym (append-nil zs))
one_more BodyWriter (v ∷ xs) x a m b ys zs (front, back, middle, w, ws, e) w' =
    (front, back ++ zs, middle, w, one_more BodyWriter xs x middle m b back zs ws w', ap (λ vs. vs ++ zs) e ∙ append_assoc front back zs)

pub wrote_one_more : (BodyWriter : Bodies) (xs : List Stmt) (k : ℕ) (x : Stmt) (a m b : At) (old mid new : List Stmt) →
    k < length xs → x ≡ slice_index_or xs k x →
    WroteAll BodyWriter (take k xs) a old mid m → Wrote BodyWriter x m mid new b → WroteAll BodyWriter (take (k + 1) xs) a old new b
wrote_one_more BodyWriter xs k x a m b old mid new lt is (ys, e, w) (zs, f, w') = (
  ys ++ zs,
  f ∙ ap (λ vs. vs ++ zs) e ∙ append_assoc old ys zs,
  subst (λ vs. WritesAll BodyWriter vs a (ys ++ zs) b) (sym (take_one xs k x lt is)) (one_more BodyWriter (take k xs) x a m b ys zs w w'),
)

-- ---- arguments

abbrev let_of : ℕ → ℕ → Expr → Stmt
let_of start local e = record { start = start; action = Bind local e }

one_more_let : (start : ℕ) (scope : List Pair) (es : List Expr) (e e' : Expr) (first local : ℕ) (lets : List Stmt) →
    local ≡ first + length es →
    Arguments start scope es first lets → Renames scope e e' → Arguments start scope (es ++ e ∷ []) first (lets ++ let_of start local e' ∷ [])
one_more_let start scope [] e e' first local lets number h r =
    let n : local ≡ first = omega (arith, number) in
    (e', [], r, ap (λ vs. vs ++ let_of start local e' ∷ []) h ∙ ap (λ k. let_of start k e' ∷ []) n, refl)
one_more_let start scope (v ∷ es) e e' first local lets number (v', rest, rv, is, h) r =
    let n : local ≡ (first + 1) + length es = omega (arith, number) in
    (v', rest ++ let_of start local e' ∷ [], rv, ap (λ vs. vs ++ let_of start local e' ∷ []) is, one_more_let start scope es e e' (first + 1) local rest n h r)

pub wrote_let : (start : ℕ) (scope : List Pair) (es : List Expr) (k : ℕ) (e e' : Expr) (first local : ℕ) (old mid new : List Stmt) → k < length es → e ≡ slice_index_or es k e →
    local ≡ first + k → HasLets start scope (take k es) first old mid → Renames scope e e' → new ≡ mid ++ let_of start local e' ∷ [] →
    HasLets start scope (take (k + 1) es) first old new
wrote_let start scope es k e e' first local old mid new lt is number (lets, same, h) r f =
    let many : length (take k es) ≡ k = length-take-le k es (omega (arith, lt)) in
    let count : local ≡ first + length (take k es) = omega (arith, many, number) in (
      lets ++ let_of start local e' ∷ [],
      f ∙ ap (λ vs. vs ++ let_of start local e' ∷ []) same ∙ append_assoc old lets (let_of start local e' ∷ []),
      subst (λ vs. Arguments start scope vs first (lets ++ let_of start local e' ∷ [])) (sym (take_one es k e lt is))
          (one_more_let start scope (take k es) e e' first local lets count h r),
    )

-- ---- blocks and bodies

-- what a block binds is cut off after it
pub block_written : (BodyWriter : Bodies) (xs : List Stmt) (before inside behind : WrittenScope) (n fresh fresh' : ℕ) (old ys : List Stmt) → n ≡ length before.pairs.items → old ≡ [] →
    WroteAll BodyWriter xs (at_of before fresh) old ys (at_of inside fresh') → behind.pairs.items ≡ take n inside.pairs.items → behind.own ≡ inside.own →
    WroteBlock BodyWriter xs (at_of before fresh) ys (at_of behind fresh')
block_written BodyWriter xs before inside behind n fresh fresh' old ys many none (zs, e, w) cut own =
    let after = at_of inside fresh' in
    let g = all_grow BodyWriter xs (at_of before fresh) after zs w in
    let scope = ap (λ ps. reverse (map pair_of ps)) cut ∙ cut_back before.pairs.items inside.pairs.items g.0 n many g.1 in (
      after,
      subst (λ vs. WritesAll BodyWriter xs (at_of before fresh) vs after) (sym (e ∙ ap (λ vs. vs ++ zs) none)) w,
      ap (λ s. record { scope = s; own = behind.own; fresh = fresh' }) scope ∙ ap (λ k. record { scope = (at_of before fresh).scope; own = k; fresh = fresh' }) own,
    )

pub body_written : (BodyWriter : Bodies) (section : Section) (first : ℕ) (start inside : WrittenScope) (fresh fresh' : ℕ) (ss old new : List Stmt) (r : Option Return) →
    fresh ≡ first + section.parameters → at_of start (first + section.parameters) ≡ entered section.parameters first → ss ≡ section.body.items →
    WroteAll BodyWriter ss (at_of start fresh) old new (at_of inside fresh') → inside.own ≡ length section.locals.items →
    RenamesResult (at_of inside fresh').scope section.result r → WroteBody BodyWriter section first old new r fresh'
body_written BodyWriter section first start inside fresh fresh' ss old new r many begin same (ys, e, w) own result =
    let b = at_of inside fresh' in
    let a : at_of start fresh ≡ entered section.parameters first = ap (at_of start) many ∙ begin in
    (ys, e, (b, subst (λ z. WritesAll BodyWriter section.body.items z ys b) a (subst (λ vs. WritesAll BodyWriter vs (at_of start fresh) ys b) same w), result, own, refl))

-- ---- calls

helper_written : (body helper : BodyWriter) (number count first : ℕ) (ys : List Stmt) (r : Option Return) (fresh : ℕ) →
    IsCallee body number count helper →
    WritesBody (bodies helper) helper.section.now first ys r fresh → bodies body number count first ys r fresh
helper_written body helper number count first ys r fresh is w =
    let deep : body.depth ≡ suc helper.depth = is.depth ∙ add-one helper.depth in
    let inner = subst (λ (s : Shape). WritesBody (HelpersWritten s helper.depth) helper.section.now first ys r fresh) (ap (λ x. x.now) is.shape) w in
    subst (λ d. HelpersWritten body.shape.now d number count first ys r fresh) (sym deep) (helper.section.now, is.found, is.count, inner)

-- a helper without a result
pub call_written : (body helper : BodyWriter) (x : Stmt) (number : ℕ) (arguments : Vec Expr Global) (result : Option ℕ) (es : List Expr) (count : ℕ) (scope : WrittenScope) (local first fresh : ℕ)
    (o : Option Return) (old mid new : List Stmt) → local ≡ first → x.action ≡ Call number arguments result → result ≡ None → es ≡ arguments.items → count ≡ length arguments.items →
    IsCallee body number count helper → HasLets x.start (at_of scope first).scope es local old mid → WroteBody (bodies helper) helper.section.now local mid new o fresh → o ≡ None →
    Wrote (bodies body) x (at_of scope first) old new (at_of scope fresh)
call_written body helper x number arguments result es count scope local first fresh o old mid new start is none same many callee all inner nothing =
    let a = at_of scope first in
    let (lets, e, h) = subst (λ n. HasLets x.start a.scope es n old mid) start all in
    let (ys, f, w) = subst (λ n. WroteBody (bodies helper) helper.section.now n mid new None fresh) start
    (subst (λ r. WroteBody (bodies helper) helper.section.now local mid new r fresh) nothing inner) in
    let inside = helper_written body helper number count first ys None fresh callee w in
    let step : Writes (bodies body) (Call number arguments None) x.start a (lets ++ (ys ++ [])) (at_of scope fresh) =
    (lets, ys, [], None, fresh, subst (λ vs. Arguments x.start a.scope vs first lets) same h, subst (λ n. bodies body number n first ys None fresh) many inside, (refl, refl), refl) in (
      lets ++ (ys ++ []),
      f ∙ ap (λ vs. vs ++ ys) e ∙ append_assoc old lets ys ∙ ap (λ vs. old ++ (lets ++ vs)) (sym (append-nil ys)),
      subst (λ y. Writes (bodies body) y x.start a (lets ++ (ys ++ [])) (at_of scope fresh)) (sym (is ∙ ap (Call number arguments) none)) step,
    )

last_written : (result : Option ℕ) (r : Return) (a b : At) (fresh : ℕ) →
    HasReceived result (record a { fresh = fresh }) b →
    Bound result (Some r) a fresh (one r.start (Bind fresh r.value)) b
last_written None r a b fresh h = (refl, h)
last_written (Some k) r a b fresh h = (h.0, refl, h.1)

-- a helper with a result
pub result_written : (body helper : BodyWriter) (x : Stmt) (number : ℕ) (arguments : Vec Expr Global) (result : Option ℕ) (es : List Expr) (count : ℕ) (scope scope' : WrittenScope)
    (local first fresh fresh' : ℕ) (r : Return) (o : Option Return) (old mid inner new : List Stmt) → local ≡ first → x.action ≡ Call number arguments result → es ≡ arguments.items →
    count ≡ length arguments.items → IsCallee body number count helper → HasLets x.start (at_of scope first).scope es local old mid →
    WroteBody (bodies helper) helper.section.now local mid inner o fresh → o ≡ Some r → HasReceived result (at_of scope fresh) (at_of scope' fresh') →
    new ≡ inner ++ one r.start (Bind fresh r.value) → Wrote (bodies body) x (at_of scope first) old new (at_of scope' fresh')
result_written body helper x number arguments result es count scope scope' local first fresh fresh' r o old mid inner new start is same many callee all within some received g =
    let a = at_of scope first in
    let (lets, e, h) = subst (λ n. HasLets x.start a.scope es n old mid) start all in
    let (ys, f, w) = subst (λ n. WroteBody (bodies helper) helper.section.now n mid inner (Some r) fresh) start
    (subst (λ q. WroteBody (bodies helper) helper.section.now local mid inner q fresh) some within) in
    let last = one r.start (Bind fresh r.value) in
    let inside = helper_written body helper number count first ys (Some r) fresh callee w in
    let step : Writes (bodies body) (Call number arguments result) x.start a (lets ++ (ys ++ last)) (at_of scope' fresh') = (
      lets,
      ys,
      last,
      Some r,
      fresh,
      subst (λ vs. Arguments x.start a.scope vs first lets) same h,
      subst (λ n. bodies body number n first ys (Some r) fresh) many inside,
      last_written result r a (at_of scope' fresh') fresh received,
      refl,
    ) in (
      lets ++ (ys ++ last),
      g ∙ ap (λ vs. vs ++ last) (f ∙ ap (λ vs. vs ++ ys) e ∙ append_assoc old lets ys) ∙ append_assoc old (lets ++ ys) last
          ∙ ap (λ vs. old ++ vs) (append_assoc lets ys last),
      subst (λ y. Writes (bodies body) y x.start a (lets ++ (ys ++ last)) (at_of scope' fresh')) (sym is) step,
    )
