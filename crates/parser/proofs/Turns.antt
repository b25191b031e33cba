-- Members, items and declarations, a turn at a time.
use Rattle.std.proofs.Common.{◌≡◌, ℕ, Ok, Result, ◌∷◌, List, [], true, false, refl, arith, ◌++◌, map, ap, ◌∙◌}
use Rattle.source.specs.declared.token.Sign.TheVariants.{CloseBrace}
use Rattle.source.specs.Tokens.{Tok, mark, end}
use Rattle.syntax.specs.Grammar.{IsMember, IsItem, IsDecl}
use Rattle.parser.specs.declared.stop.Stop.{Stop}
use Rattle.parser.specs.Working.Reading.{next_until, Fails, is_next}
use Rattle.parser.specs.Working.Declarations.{member_at, item_at, decl_at, items_with, decls_at, members_with}
use Rattle.parser.specs.Theory.Readers.{Shortens}
use Rattle.parser.specs.Theory.Many.{NextShortens, with_front}
use Rattle.parser.specs.Theory.Laws.{law_shortens, next_shortens}
use Rattle.parser.specs.Theory.Joined.{until_law}
use Rattle.parser.proofs.DeclarationLaws.{member_law, item_law, decl_law}
use Rattle.syntax.specs.declared.tree.Item as the_item
use Rattle.syntax.specs.Trees.{item, no_items, Items, Decl, Member}
use Rattle.syntax.specs.Views.{item_of, items_of, decl_of, member_of}
use Rattle.parser.specs.Theory.Loops.{before, before-map, until_goes_on, until_ends, until_stops}
use Rattle.syntax.specs.declared.tree.Decl as the_decl
use Rattle.syntax.specs.declared.tree.Member as the_member

pub member_shortens : (room : ℕ) → Shortens (member_at room)
member_shortens room = law_shortens room IsMember (member_at room) 0 0 (member_law room room 0 (omega arith))

pub item_shortens : (room : ℕ) → Shortens (item_at room)
item_shortens room = law_shortens room IsItem (item_at room) 0 0 (item_law room room 0 (omega arith))

pub decl_shortens : (room : ℕ) → Shortens (decl_at room)
decl_shortens room = law_shortens room IsDecl (decl_at room) 0 0 (decl_law room room 0 (omega arith))

pub next_member_shortens : (room : ℕ) → NextShortens (next_until (mark CloseBrace) (member_at room))
next_member_shortens room = next_shortens room IsMember (next_until (mark CloseBrace) (member_at room)) 0 (until_law room IsMember (mark CloseBrace) (member_at room) 0 (member_law room room 0 (omega arith)))

pub next_item_shortens : (room : ℕ) → NextShortens (next_until (mark CloseBrace) (item_at room))
next_item_shortens room = next_shortens room IsItem (next_until (mark CloseBrace) (item_at room)) 0 (until_law room IsItem (mark CloseBrace) (item_at room) 0 (item_law room room 0 (omega arith)))

pub next_decl_shortens : (room : ℕ) → NextShortens (next_until end (decl_at room))
next_decl_shortens room = next_shortens room IsDecl (next_until end (decl_at room)) 0 (until_law room IsDecl end (decl_at room) 0 (decl_law room room 0 (omega arith)))

pub before-items : (xs : List the_item.Item) → before item item_of xs no_items ≡ items_of xs
before-items [] = refl
before-items (x ∷ xs) = ap (item (item_of x)) (before-items xs)

module _ (room : ℕ) (xs : List the_item.Item) (ts : List Tok) (total : Result (Items × List Tok) Stop) where
  pub items_go_on : (x : the_item.Item) (rest : List Tok) → is_next (mark CloseBrace) ts ≡ false →
      item_at room ts ≡ Ok (item_of x, rest) →
      with_front (before item item_of xs) (items_with (item_at room) ts) ≡ total →
      with_front (before item item_of (xs ++ x ∷ [])) (items_with (item_at room) rest) ≡ total
  unfolding items_with
  items_go_on x rest more read so_far = until_goes_on no_items item item_of (mark CloseBrace) (item_at room) (next_item_shortens room) xs ts total x rest more read so_far

  pub items_end : is_next (mark CloseBrace) ts ≡ true →
      with_front (before item item_of xs) (items_with (item_at room) ts) ≡ total → total ≡ Ok (items_of xs, ts)
  unfolding items_with
  items_end over so_far = until_ends no_items item item_of (mark CloseBrace) (item_at room) (next_item_shortens room) xs ts total over so_far ∙ ap (λ (l : Items). Ok (l, ts)) (before-items xs)

  pub items_stop : (e : Stop) → is_next (mark CloseBrace) ts ≡ false → Fails e (item_at room ts) →
      with_front (before item item_of xs) (items_with (item_at room) ts) ≡ total → Fails e total
  unfolding items_with
  items_stop e more fails so_far = until_stops no_items item item_of (mark CloseBrace) (item_at room) (next_item_shortens room) xs ts total e more fails so_far

module _ (room : ℕ) (xs : List the_decl.Decl) (ts : List Tok) (total : Result (List Decl × List Tok) Stop) where
  pub decls_go_on : (x : the_decl.Decl) (rest : List Tok) → is_next end ts ≡ false →
      decl_at room ts ≡ Ok (decl_of x, rest) → with_front (before ◌∷◌ decl_of xs) (decls_at room ts) ≡ total →
      with_front (before ◌∷◌ decl_of (xs ++ x ∷ [])) (decls_at room rest) ≡ total
  unfolding decls_at
  decls_go_on x rest more read so_far = until_goes_on [] ◌∷◌ decl_of end (decl_at room) (next_decl_shortens room) xs ts total x rest more read so_far

  pub decls_end : is_next end ts ≡ true → with_front (before ◌∷◌ decl_of xs) (decls_at room ts) ≡ total →
      total ≡ Ok (map decl_of xs, ts)
  unfolding decls_at
  decls_end over so_far = until_ends [] ◌∷◌ decl_of end (decl_at room) (next_decl_shortens room) xs ts total over so_far ∙ ap (λ (l : List Decl). Ok (l, ts)) (before-map decl_of xs)

  pub decls_stop : (e : Stop) → is_next end ts ≡ false → Fails e (decl_at room ts) →
      with_front (before ◌∷◌ decl_of xs) (decls_at room ts) ≡ total → Fails e total
  unfolding decls_at
  decls_stop e more fails so_far = until_stops [] ◌∷◌ decl_of end (decl_at room) (next_decl_shortens room) xs ts total e more fails so_far

module _ (room : ℕ) (xs : List the_member.Member) (ts : List Tok) (total : Result (List Member × List Tok) Stop) where
  pub members_go_on : (x : the_member.Member) (rest : List Tok) → is_next (mark CloseBrace) ts ≡ false →
      member_at room ts ≡ Ok (member_of x, rest) →
      with_front (before ◌∷◌ member_of xs) (members_with (member_at room) ts) ≡ total →
      with_front (before ◌∷◌ member_of (xs ++ x ∷ [])) (members_with (member_at room) rest) ≡ total
  unfolding members_with
  members_go_on x rest more read so_far = until_goes_on [] ◌∷◌ member_of (mark CloseBrace) (member_at room) (next_member_shortens room) xs ts total x rest more read so_far

  pub members_end : is_next (mark CloseBrace) ts ≡ true →
      with_front (before ◌∷◌ member_of xs) (members_with (member_at room) ts) ≡ total →
      total ≡ Ok (map member_of xs, ts)
  unfolding members_with
  members_end over so_far = until_ends [] ◌∷◌ member_of (mark CloseBrace) (member_at room) (next_member_shortens room) xs ts total over so_far ∙ ap (λ (l : List Member). Ok (l, ts)) (before-map member_of xs)

  pub members_stop : (e : Stop) → is_next (mark CloseBrace) ts ≡ false → Fails e (member_at room ts) →
      with_front (before ◌∷◌ member_of xs) (members_with (member_at room) ts) ≡ total → Fails e total
  unfolding members_with
  members_stop e more fails so_far = until_stops [] ◌∷◌ member_of (mark CloseBrace) (member_at room) (next_member_shortens room) xs ts total e more fails so_far
