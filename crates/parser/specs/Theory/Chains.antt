-- Chains, a turn at a time.
use Rattle.std.proofs.Common.{◌≡◌, ◌<◌, List, [], ◌∷◌, ◌++◌, length, Option, Some, None, Result, Ok, Err, refl, sym}
use Rattle.std.proofs.Common.{ap, ◌∙◌, subst, arith, false}
use Rattle.std.specs.Option.{is_some}
use Rattle.std.specs.Prelude.{IfSome, option_map}
use Rattle.std.proofs.lemmas.Option.{IfSome_then}
use Rattle.source.specs.Tokens.{Tok}
use Rattle.syntax.specs.declared.tree.Operator.{Operator}
use Rattle.syntax.specs.declared.tree.Level.{Level}
use Rattle.syntax.specs.declared.tree.Link as l
use Rattle.syntax.specs.Grammar.{level_of}
use Rattle.syntax.specs.Trees.{Expr, chain, Links, no_links, link}
use Rattle.syntax.specs.Views.{expr_of, links_of}
use Rattle.parser.specs.declared.stop.Stop.{Stop}
use Rattle.parser.specs.Working.Reading.{◌>>=◌, Fails, Reader, turn}
use Rattle.parser.specs.Working.Expressions.{op_of, before_rest, op_at, link_from, next_link, add_link, links_at}
use Rattle.parser.specs.Working.Expressions.{chained, chain_at, links_behind}
use Rattle.parser.specs.Theory.Readers.{OnValue, on_then, fails_on, Shortens}
use Rattle.parser.specs.Theory.Many.{NextShortens, many_at-turn, with_front, goes_on, ends, stops}
use Rattle.parser.specs.Theory.Productions.{op_meant}

op_found : (o : Option Operator) (t : Tok) (ts : List Tok) →
    IfSome (before_rest o ts) (λ f. length f.1 < length (t ∷ ts))
op_found None t ts = tt
op_found (Some op) t ts = omega arith

pub op_shortens : (k : Level) (ts : List Tok) → IfSome (op_at k ts) (λ f. length f.1 < length ts)
unfolding op_at
op_shortens k [] = tt
op_shortens k (t ∷ ts) = op_found (op_of k t.kind) t ts

link_shortens : (operand : Reader Expr) → Shortens operand → (o : Option (Operator × List Tok)) (ts : List Tok) →
    IfSome o (λ f. length f.1 < length ts) →
    IfSome (link_from operand o) (λ r. OnValue r (λ x. length x.1 < length ts))
link_shortens operand shorter None ts h = tt
link_shortens operand shorter (Some o) ts h = on_then (operand o.1) _ (λ x. length x.1 < length o.1) _ (shorter o.1)
    (λ x less. omega arith)

pub next_link_shortens : (operand : Reader Expr) → Shortens operand → (k : Level) → NextShortens (next_link operand k)
next_link_shortens operand shorter k ts = link_shortens operand shorter (op_at k ts) ts (op_shortens k ts)

-- ---- in the program's own values

-- the links of a list, before others
abbrev pub links_before : List l.Link → Links → Links
links_before [] more = more
links_before (x ∷ ls) more = link x.op (expr_of x.operand) (links_before ls more)

pub links_before-nothing : (ls : List l.Link) → links_before ls no_links ≡ links_of ls
links_before-nothing [] = refl
links_before-nothing (x ∷ ls) = ap (link x.op (expr_of x.operand)) (links_before-nothing ls)

pub links_before-push : (ls : List l.Link) (x : l.Link) (more : Links) →
    links_before (ls ++ x ∷ []) more ≡ links_before ls (link x.op (expr_of x.operand) more)
links_before-push [] x more = refl
links_before-push (y ∷ ls) x more = ap (link y.op (expr_of y.operand)) (links_before-push ls x more)

module _ (operand : Reader Expr) (shorter : Shortens operand) (k : Level) where
  pub link_goes_on : (ls : List l.Link) (x : l.Link) (ts after rest : List Tok) (total : Result (Links × List Tok) Stop)
      → op_at k ts ≡ Some (x.op, after) → operand after ≡ Ok (expr_of x.operand, rest)
      → with_front (links_before ls) (links_at operand k ts) ≡ total → with_front (links_before (ls ++ x ∷ []))
      (links_at operand k rest) ≡ total
  link_goes_on ls x ts after rest total found read =
      goes_on no_links add_link (next_link operand k) (next_link_shortens operand shorter k) (links_before ls)
      (links_before (ls ++ x ∷ [])) ts rest (x.op, expr_of x.operand) total (rw (found, read) refl)
      (links_before-push ls x)

  pub link_ends : (ls : List l.Link) (ts : List Tok) (total : Result (Links × List Tok) Stop) → op_at k ts ≡ None →
      with_front (links_before ls) (links_at operand k ts) ≡ total → total ≡ Ok (links_of ls, ts)
  link_ends ls ts total found so_far =
      ends no_links add_link (next_link operand k) (next_link_shortens operand shorter k) (links_before ls) ts total
      (rw found refl) so_far ∙ ap (λ (x : Links). Ok (x, ts)) (links_before-nothing ls)

  pub link_stops : (e : Stop) (front : Links →
      Links) (ts after : List Tok) (op : Operator) (total : Result (Links × List Tok) Stop) → op_at k ts ≡ Some
      (op, after) → Fails e (operand after) → with_front front (links_at operand k ts) ≡ total → Fails e total
  link_stops e front ts after op total found fails =
      stops no_links add_link (next_link operand k) (next_link_shortens operand shorter k) e front ts
      (operand after >>= λ x. Ok ((op, x.0), x.1)) total (rw found refl)
      (fails_on e (operand after) (λ x. Ok ((op, x.0), x.1)) fails)

-- ---- the first operand, and the first link

level_named : (k : Level) (ts after : List Tok) (op : Operator) (o : Option Operator) → IfSome o (λ p. level_of p ≡ k)
    → before_rest o ts ≡ Some (op, after) → level_of op ≡ k
level_named k ts after op None h e = absurd cc
level_named k ts after op (Some p) h e =
    let q : (p, ts) ≡ (op, after) = cc e in
    sym (ap (λ (x : Operator × List Tok). level_of x.0) q) ∙ h

-- an operator that is found on a level is of that level
pub level_found : (k : Level) (ts after : List Tok) (op : Operator) → op_at k ts ≡ Some (op, after) → level_of op ≡ k
unfolding op_at
level_found k [] after op e = absurd cc
level_found k (t ∷ ts) after op e =
    level_named k ts after op (op_of k t.kind) (IfSome_then (op_of k t.kind) (op_meant k t.kind) (λ p h. h.1)) e

-- an operand, and the links after it, some or none
abbrev chained_from : Level → Expr → Result (Links × List Tok) Stop → Result (Expr × List Tok) Stop
chained_from k x links = links >>= λ l. Ok (chained k x l.0, l.1)

abbrev chain_from : Level → Expr → Result (Links × List Tok) Stop → Result (Expr × List Tok) Stop
chain_from k x links = links >>= λ l. Ok (chain k x l.0, l.1)

some_links : (k : Level) (x y : Expr) (op : Operator) (r : Result (Links × List Tok) Stop)
    → chained_from k x (with_front (link op y) r) ≡ chain_from k x (with_front (link op y) r)
some_links k x y op (Ok l) = refl
some_links k x y op (Err e) = refl

module _ (operand : Reader Expr) (shorter : Shortens operand) (k : Level) (ts mid : List Tok) (x : Expr)
    (first : operand ts ≡ Ok (x, mid)) where
  by_turn : (rest : List Tok) →
      links_at operand k rest ≡ turn no_links add_link (links_at operand k) (next_link operand k rest) rest
  by_turn = many_at-turn no_links add_link (next_link operand k) (next_link_shortens operand shorter k)

  by_links : chain_at operand k ts ≡ chained_from k x (links_at operand k mid)
  unfolding chain_at
  by_links = rw first refl

  no_link : (rest : List Tok) → op_at k rest ≡ None → links_at operand k rest ≡ Ok (no_links, rest)
  no_link rest none = by_turn rest ∙ rw none refl

  pub operand_alone : op_at k mid ≡ None → chain_at operand k ts ≡ Ok (x, mid)
  operand_alone none = by_links ∙ rw (no_link mid none) refl

  module _ (op : Operator) (after : List Tok) (found : op_at k mid ≡ Some (op, after)) where
    pub operand_stops : (e : Stop) → Fails e (operand after) → Fails e (chain_at operand k ts)
    operand_stops e fails =
        let one : Result ((Operator × Expr) × List Tok) Stop = operand after >>= λ y. Ok ((op, y.0), y.1) in
        let more : (Operator × Expr) × List Tok → Result (Links × List Tok) Stop = λ y. links_at operand k y.1 >>= λ l.
        Ok (add_link y.0 l.0, l.1) in
        let all : links_at operand k mid ≡ (one >>= more) = by_turn mid ∙ rw found refl in
        subst (Fails e) (sym (by_links ∙ ap (chained_from k x) all))
        (fails_on e (one >>= more) (λ l. Ok (chained k x l.0, l.1)) (fails_on e one more
        (fails_on e (operand after) (λ y. Ok ((op, y.0), y.1)) fails)))

    module _ (y : Expr) (rest : List Tok) (read : operand after ≡ Ok (y, rest)) where
      with_links : chain_at operand k ts ≡ chain_from k x (links_behind operand k (op, y) rest)
      with_links = by_links ∙ ap (chained_from k x) (by_turn mid ∙ rw (found, read) refl) ∙ some_links k x y op
          (links_at operand k rest)

      pub pair_done : op_at k rest ≡ None →
          chain_at operand k ts ≡ Ok (chain (level_of op) x (link op y no_links), rest)
      pair_done none = with_links ∙ rw (no_link rest none) (ap (λ l. Ok (chain l x (link op y no_links), rest))
          (sym (level_found k mid after op found)))

      pub chain_done : (ls : Links) (end : List Tok) → links_behind operand k (op, y) rest ≡ Ok (ls, end) →
          chain_at operand k ts ≡ Ok (chain k x ls, end)
      chain_done ls end more = with_links ∙ ap (chain_from k x) more

      pub links_stop : (e : Stop) → Fails e (links_behind operand k (op, y) rest) → Fails e (chain_at operand k ts)
      links_stop e fails = subst (Fails e) (sym with_links) (fails_on e (links_behind operand k (op, y) rest) _ fails)

-- a missing value is missing in any view
pub none_found : {A B : Type 0} (f : A → B) (o : Option A) → is_some o ≡ false → option_map f o ≡ None
none_found f None h = refl
none_found f (Some x) h = absurd cc
