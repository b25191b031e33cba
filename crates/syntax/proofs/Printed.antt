-- A printed tree is parsed as that tree, except for positions.
use Rattle.std.proofs.Common.{◌≡◌, ℕ, ◌<◌, List, [], ◌∷◌, ◌++◌, length, refl, sym, ap, ◌∙◌, subst}
use Rattle.std.proofs.lemmas.List.{append-nil}
use Rattle.source.specs.Tokens.{end, Tok}
use Rattle.source.specs.Texts.{no_gap, end_at, AreTokens, at_end, HasTokens}
use Rattle.syntax.specs.Trees.{Decl}
use Rattle.syntax.specs.Grammar.{Spells, spells, open_after, nesting, IsOpening, NESTING_LIMIT, IsShallow, HasTree}
use Rattle.syntax.specs.Working.Printing.{tree_text}
use Rattle.syntax.specs.Working.Bare.{HasTextOf}
use Rattle.syntax.proofs.Good.{Good, tokens_good}
use Rattle.syntax.proofs.Backward.{kinds, Reads}
use Rattle.syntax.proofs.AgainDecls.{decls_again}

-- ---- nesting goes by the kinds alone

-- tokens ts have, where others have t after before, a token of its kind, as deep
record Split (n : ℕ) (ts before : List Tok) (t : Tok) : Type 0 where
  front : List Tok
  one : Tok
  back : List Tok
  parts : ts ≡ front ++ one ∷ back
  kind : one.kind ≡ t.kind
  level : nesting n front ≡ nesting n before

split : (n : ℕ) (ts before after : List Tok) (t : Tok) → kinds ts ≡ kinds (before ++ t ∷ after) → Split n ts before t
split n [] [] after t e = absurd cc
split n [] (b ∷ before) after t e = absurd cc
split n (u ∷ us) [] after t e = record { front = []; one = u; back = us; parts = refl; kind = cc; level = refl }
split n (u ∷ us) (b ∷ before) after t e =
    let same : u.kind ≡ b.kind = cc in
    let more : kinds us ≡ kinds (before ++ t ∷ after) = cc in
    let s = split (open_after n u.kind) us before after t more in
    record { front = u ∷ s.front; one = s.one; back = s.back; parts = ap (λ (l : List Tok). u ∷ l) s.parts; kind = s.kind; level = s.level ∙ ap (λ k. nesting (open_after n k) before) same }

shallow_again : (ts us : List Tok) → kinds us ≡ kinds ts → IsShallow ts → IsShallow us
shallow_again ts us e h = λ before after t parts opens.
    let s = split 0 ts before after t (sym e ∙ ap kinds parts) in
    subst (λ n. n < NESTING_LIMIT) s.level (h s.front s.back s.one s.parts (subst IsOpening (sym s.kind) opens))

-- ---- the whole

spelled_again : {ds : List Decl} {ts : List Tok} → Spells ds ts → Good ts → IsShallow ts → HasTextOf (tree_text ds) ds
spelled_again {ds = ds} {ts = ts} (spells f) g shallow =
    let total = length (tree_text ds) in
    let r : Reads total [] (end ∷ []) = record { tokens = end_at total ∷ []; read = at_end no_gap; alike = refl } in
    let i = decls_again f g r in
    record {
      tokens = i.reads.tokens;
      tree = i.tree;
      has_tokens = subst (λ (t : List ℕ). AreTokens total t i.reads.tokens) (append-nil (tree_text ds)) i.reads.read;
      has_tree = (spells i.is, shallow_again ts i.reads.tokens i.reads.alike shallow);
      same = i.same;
    }

pub text_again : (ts : List Tok) (ds : List Decl) (text : List ℕ) → HasTokens text ts → HasTree ts ds →
    HasTextOf (tree_text ds) ds
text_again ts ds text h tree = spelled_again tree.0 (tokens_good h) tree.1
