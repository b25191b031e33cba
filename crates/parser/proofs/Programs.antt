-- The result of reading, as a fact about the whole program.
use Rattle.std.proofs.Common.{◌≡◌, ℕ, zero, suc, ◌-◌, ◌<◌, ◌≤◌, Bool, true, false, List, [], ◌∷◌, ◌++◌, length, drop}
use Rattle.std.proofs.Common.{Option, Some, None, Result, Ok, Err, refl, sym, ap, ◌∙◌, subst, append_assoc}
use Rattle.std.proofs.Common.{length-append, arith}
use Rattle.std.specs.Prelude.{IfSome}
use Rattle.std.proofs.lemmas.List.{drop_at, drop-map, length-map}
use Rattle.source.specs.declared.span.Span.{Span}
use Rattle.source.specs.declared.token.Token.{Token}
use Rattle.source.specs.Tokens.{Lexeme, name, int, word, mark, end, Tok, seen_token, seen}
use Rattle.syntax.specs.Trees.{Decl}
use Rattle.syntax.specs.Grammar.{tok, AreMany, IsDecl, Spells, spells, open_after, nesting, IsOpening, NESTING_LIMIT}
use Rattle.syntax.specs.Grammar.{IsShallow, HasTree}
use Rattle.syntax.specs.Returns.{IsFirstReturnFault}
use Rattle.syntax.specs.Faults.{IsUnexpected, IsTooDeep, IsMisplaced, NoEnd}
use Rattle.parser.specs.declared.stop.Stop.{Stop}
use Rattle.parser.specs.declared.stop.Stop.TheVariants.{Unexpected, TooDeep, NoMemory}
use Rattle.parser.specs.Working.Reading.{◌>>=◌, Reader, Next, turn, many_at, same_kind, is_next, next_unless}
use Rattle.parser.specs.Working.Reading.{next_until}
use Rattle.parser.specs.Working.Declarations.{decl_at, decls_at, end_from, program_at, first_start}
use Rattle.parser.specs.Theory.Readers.{OnValue, on_then, on_weaker}
use Rattle.parser.specs.Theory.Many.{NextShortens, many_at-turn}
use Rattle.parser.proofs.Turns.{next_decl_shortens}
use Rattle.parser.specs.Theory.Law.{ShallowFrom, ShallowFrom-append, Took, Deep, LawAt, Says}
use Rattle.parser.proofs.DeclarationLaws.{decls_law}
use Rattle.parser.specs.Theory.Finding.{Finds, found, deep}
use Rattle.parser.proofs.Spelled.{program_found}

-- ---- nesting

pub shallow_from : (d : ℕ) (ts before after : List Tok) (t : Tok) → ShallowFrom NESTING_LIMIT d ts →
    ts ≡ before ++ t ∷ after → IsOpening t.kind → nesting d before < NESTING_LIMIT
shallow_from d ts [] after t h e opens = (subst (ShallowFrom NESTING_LIMIT d) e h).0 opens
shallow_from d ts (u ∷ before) after t h e opens = shallow_from (open_after d u.kind) (before ++ t ∷ after) before after t (subst (ShallowFrom NESTING_LIMIT d) e h).1 refl opens

pub is_shallow : (ts : List Tok) → ShallowFrom NESTING_LIMIT 0 ts → IsShallow ts
is_shallow ts h = λ before after t e opens. shallow_from 0 ts before after t h e opens

-- ---- where items end

module _ {A L : Type 0} (nil : L) (cons : A → L → L) (next : Next A) (shorter : NextShortens next) where
  turn_ends : (f : Reader L) (ts : List Tok) (o : Option (Result (A × List Tok) Stop)) → next ts ≡ o →
      IfSome o (λ r. OnValue r (λ x. length x.1 < length ts)) →
      ((rest : List Tok) → length rest < length ts → OnValue (f rest) (λ l. next l.1 ≡ None)) →
      OnValue (turn nil cons f o ts) (λ l. next l.1 ≡ None)
  turn_ends f ts None e less h = e
  turn_ends f ts (Some r) e less h = on_then r _ (λ x. length x.1 < length ts) _ less (λ x lt. on_then (f x.1) _ (λ l. next l.1 ≡ None) _ (h x.1 lt) (λ l n. n))

  ends_in : (n : ℕ) (ts : List Tok) → length ts < n → OnValue (many_at nil cons next ts) (λ l. next l.1 ≡ None)
  ends_in zero ts lt = absurd (omega arith)
  ends_in (suc n) ts lt = rw (many_at-turn nil cons next shorter ts) (turn_ends (many_at nil cons next) ts (next ts) refl (shorter ts) (λ rest less. ends_in n rest (omega arith)))

  many_ends : (ts : List Tok) → OnValue (many_at nil cons next ts) (λ l. next l.1 ≡ None)
  many_ends ts = ends_in (suc (length ts)) ts (omega arith)

same_kind-end : (k : Lexeme) → same_kind k end ≡ true → k ≡ end
same_kind-end (name x) e = absurd cc
same_kind-end (int x) e = absurd cc
same_kind-end (word x) e = absurd cc
same_kind-end (mark x) e = absurd cc
same_kind-end end e = refl

unless_none : {A : Type 0} (b : Bool) (r : Result (A × List Tok) Stop) → next_unless b r ≡ None → b ≡ true
unless_none true r e = refl
unless_none false r e = absurd cc

decls_end : (room : ℕ) (ts : List Tok) → OnValue (decls_at room ts) (λ l. is_next end l.1 ≡ true)
unfolding decls_at
decls_end room ts = on_weaker (decls_at room ts) (λ l. next_until end (decl_at room) l.1 ≡ None) _ (many_ends [] ◌∷◌ (next_until end (decl_at room)) (next_decl_shortens room) ts) (λ l e. unless_none (is_next end l.1) (decl_at room l.1) e)

-- ---- the whole

abbrev nowhere : Span
nowhere = record { start = 0; end = 0 }

record Ended (ts : List Tok) (ds : List Decl) : Type 0 where
  spelled : Spells ds ts
  shallow : ShallowFrom NESTING_LIMIT 0 ts

record MetAt (ts : List Tok) (left : ℕ) : Type 0 where
  before : List Tok
  token : Tok
  after : List Tok
  parts : ts ≡ before ++ token ∷ after
  place : suc (length after) ≡ left
  again : (other : List Tok) → program_at NESTING_LIMIT (before ++ token ∷ other) ≡ Err (Unexpected (suc (length other)))
  shallow : ShallowFrom NESTING_LIMIT 0 before
  begun : (ds : List Decl) × (other : List Tok) × Spells ds (before ++ other)

abbrev WholeAt : List Tok → Result (List Decl) Stop → Type 0
WholeAt ts (Ok ds) = Ended ts ds
WholeAt ts (Err (Unexpected zero)) = NoEnd ts
WholeAt ts (Err (Unexpected (suc n))) = MetAt ts (suc n)
WholeAt ts (Err (TooDeep n)) = Deep NESTING_LIMIT (AreMany IsDecl) (Says (decls_at NESTING_LIMIT)) 0 0 0 ts n
WholeAt ts (Err NoMemory) = ⊥

abbrev finish : List Decl × List Tok → Result (List Decl) Stop
finish ds = end_from ds.0 ds.1

-- after the declarations
finished : (ts : List Tok) (ds : List Decl) (rest : List Tok) →
    Took NESTING_LIMIT (AreMany IsDecl) (Says (decls_at NESTING_LIMIT)) 0 0 0 ts ds rest → is_next end rest ≡ true →
    WholeAt ts (finish (ds, rest))
unfolding program_at
finished ts ds [] took e = absurd cc
finished ts ds (t ∷ []) took e =
    let is_end : t.kind ≡ end = same_kind-end t.kind e in
    let last : (t ∷ []) ≡ tok end t.span ∷ [] = ap (λ (k : Lexeme). tok k t.span ∷ []) is_end in
    record {
      spelled = spells (subst (AreMany IsDecl ds ts) last (subst (λ (l : List Tok). AreMany IsDecl ds l (t ∷ [])) (sym took.parts) (took.is (t ∷ []))));
      shallow = subst (ShallowFrom NESTING_LIMIT 0) (sym took.parts) (ShallowFrom-append NESTING_LIMIT 0 took.taken (t ∷ []) took.shallow (λ opens. absurd (subst IsOpening is_end opens), tt));
    }
finished ts ds (t ∷ u ∷ us) took e =
    let is_end : t.kind ≡ end = same_kind-end t.kind e in
    let last : (t ∷ []) ≡ tok end t.span ∷ [] = ap (λ (k : Lexeme). tok k t.span ∷ []) is_end in
    record {
      before = took.taken ++ t ∷ [];
      token = u;
      after = us;
      parts = took.parts ∙ sym (append_assoc took.taken (t ∷ []) (u ∷ us));
      place = refl;
      again = λ other. ap (λ (l : List Tok). program_at NESTING_LIMIT l) (append_assoc took.taken (t ∷ []) (u ∷ other)) ∙ ap (λ r. r >>= finish) (took.again (t ∷ u ∷ other) (u ∷ other, refl));
      shallow = ShallowFrom-append NESTING_LIMIT 0 took.taken (t ∷ []) took.shallow (λ opens. absurd (subst IsOpening is_end opens), tt);
      begun = (ds, [], subst (λ (l : List Tok). Spells ds l) (sym (append_assoc took.taken (t ∷ []) [])) (spells (subst (λ (l : List Tok). AreMany IsDecl ds (took.taken ++ t ∷ []) l) last (took.is (t ∷ [])))));
    }

whole : (ts : List Tok) (r : Result (List Decl × List Tok) Stop) →
    LawAt NESTING_LIMIT (AreMany IsDecl) (Says (decls_at NESTING_LIMIT)) 0 0 0 ts r → OnValue r (λ l. is_next end l.1 ≡ true) →
    WholeAt ts (r >>= finish)
unfolding program_at
whole ts (Ok x) law e = finished ts x.0 x.1 law e
whole ts (Err (Unexpected zero)) law e = law
whole ts (Err (Unexpected (suc n))) law e = record { before = law.before; token = law.token; after = law.after; parts = law.parts; place = ap suc law.place; again = λ other. ap (λ r. r >>= finish) (law.again other); shallow = law.shallow; begun = let p = law.begun (tok end nowhere ∷ []) in (p.0, p.1, spells p.2) }
whole ts (Err (TooDeep n)) law e = law
whole ts (Err NoMemory) law e = law

whole_law : (ts : List Tok) → WholeAt ts (program_at NESTING_LIMIT ts)
unfolding program_at
whole_law ts = whole ts (decls_at NESTING_LIMIT ts) (decls_law NESTING_LIMIT NESTING_LIMIT 0 refl ts) (decls_end NESTING_LIMIT ts)

pub program_is : (ts : List Tok) (ds : List Decl) → program_at NESTING_LIMIT ts ≡ Ok ds → HasTree ts ds
program_is ts ds e = let w = subst (WholeAt ts) e (whole_law ts) in (w.spelled, is_shallow ts w.shallow)

not_deep : (ts : List Tok) (n : ℕ) → IsShallow ts → program_at NESTING_LIMIT ts ≡ Err (TooDeep n) → ⊥
not_deep ts n shallow e =
    let w = subst (WholeAt ts) e (whole_law ts) in
    let low = shallow w.before w.after w.token w.parts w.opens in
    omega (arith, w.deep)

settled : (ts : List Tok) (ds : List Decl) → IsShallow ts → Finds (program_at NESTING_LIMIT ts) ds → program_at NESTING_LIMIT ts ≡ Ok ds
settled ts ds shallow (found e) = e
settled ts ds shallow (deep n e) = absurd (not_deep ts n shallow e)

pub program_again : (ts : List Tok) (ds : List Decl) → HasTree ts ds → program_at NESTING_LIMIT ts ≡ Ok ds
program_again ts ds h = settled ts ds h.1 (program_found h.0 NESTING_LIMIT)

met_none : (ts : List Tok) (n : ℕ) (ds : List Decl) → program_at NESTING_LIMIT ts ≡ Err (Unexpected n) →
    Finds (program_at NESTING_LIMIT ts) ds → ⊥
met_none ts n ds e (found f) = cc
met_none ts n ds e (deep m f) = cc

-- the start of the token from which on the given number of tokens is left
start_is : (ts before after : List Tok) (t : Tok) (left : ℕ) → ts ≡ before ++ t ∷ after → suc (length after) ≡ left →
    t.span.start ≡ first_start (drop (length ts - left) ts)
start_is ts before after t left e place =
    let n : length ts - left ≡ length before = omega (arith, ap length e, length-append before (t ∷ after)) in
    let at : drop (length ts - left) ts ≡ t ∷ after = ap (λ (l : List Tok). drop (length ts - left) l) e ∙ ap (λ k. drop k (before ++ t ∷ after)) n ∙ drop_at before (t ∷ after) (length before) refl in
    ap first_start (sym at)

pub no_end_at : (ts : List Tok) → program_at NESTING_LIMIT ts ≡ Err (Unexpected 0) → NoEnd ts
no_end_at ts e = subst (WholeAt ts) e (whole_law ts)

pub unexpected_at : (ts : List Tok) (n : ℕ) → program_at NESTING_LIMIT ts ≡ Err (Unexpected (suc n)) →
    IsUnexpected ts (first_start (drop (length ts - suc n) ts))
unexpected_at ts n e =
    let w = subst (WholeAt ts) e (whole_law ts) in record {
      before = w.before;
      token = w.token;
      after = w.after;
      parts = w.parts;
      place = start_is ts w.before w.after w.token (suc n) w.parts w.place;
      begun = w.begun;
      shallow = is_shallow w.before w.shallow;
      no_program = λ ds other h. met_none (w.before ++ w.token ∷ other) (suc (length other)) ds (w.again other) (program_found h NESTING_LIMIT);
    }

pub too_deep_at : (ts : List Tok) (left : ℕ) → program_at NESTING_LIMIT ts ≡ Err (TooDeep left) →
    IsTooDeep ts (first_start (drop (length ts - left) ts))
too_deep_at ts left e =
    let w = subst (WholeAt ts) e (whole_law ts) in record {
      before = w.before;
      token = w.token;
      after = w.after;
      parts = w.parts;
      place = start_is ts w.before w.after w.token left w.parts w.place;
      opens = w.opens;
      deep = w.deep;
      first = is_shallow w.before w.shallow;
      expected = let p = w.expected (tok end nowhere ∷ []) in (p.0, p.1, spells p.2);
    }

pub only_tree : (ts : List Tok) (a b : List Decl) → HasTree ts a → HasTree ts b → a ≡ b
only_tree ts a b h g = let e = sym (program_again ts a h) ∙ program_again ts b g in cc

pub no_answer : (ts : List Tok) (ds : List Decl) (e : Stop) → HasTree ts ds → program_at NESTING_LIMIT ts ≡ Err e → ⊥
no_answer ts ds e h f = let g = program_again ts ds h in cc

-- in the program's own tokens
pub start_seen : (ts : List Token) (n : ℕ) →
    first_start (seen (drop (length ts - n) ts)) ≡ first_start (drop (length (seen ts) - n) (seen ts))
start_seen ts n = ap first_start (sym (drop-map seen_token (length ts - n) ts) ∙ ap (λ k. drop (k - n) (seen ts)) (sym (length-map ts seen_token)))

-- of two places neither of which is after the other, both hold the same token
one_place : (b c : List Tok) (t u : Tok) (x y : List Tok) → b ++ t ∷ x ≡ c ++ u ∷ y →
    ((mid : List Tok) → c ≡ b ++ t ∷ mid → ⊥) → ((mid : List Tok) → b ≡ c ++ u ∷ mid → ⊥) → t ≡ u
one_place [] [] t u x y e h g = cc
one_place [] (v ∷ c) t u x y e h g = let same : v ≡ t = cc in absurd (h c (ap (λ (s : Tok). s ∷ c) same))
one_place (w ∷ b) [] t u x y e h g = let same : w ≡ u = cc in absurd (g b (ap (λ (s : Tok). s ∷ b) same))
one_place (w ∷ b) (v ∷ c) t u x y e h g =
    let same : w ≡ v = cc in
    let rest : b ++ t ∷ x ≡ c ++ u ∷ y = cc in
    one_place b c t u x y rest (λ mid p. h mid (ap (λ (s : Tok). s ∷ c) (sym same) ∙ ap (λ (l : List Tok). w ∷ l) p)) (λ mid p. g mid (ap (λ (s : Tok). s ∷ b) same ∙ ap (λ (l : List Tok). v ∷ l) p))

-- tokens have one place with the token of which no program begins, and with those ahead of it one does
begun_too : (ts : List Tok) (a b : ℕ) (m : IsUnexpected ts a) (n : IsUnexpected ts b) (mid : List Tok) →
    n.before ≡ m.before ++ m.token ∷ mid → ⊥
begun_too ts a b m n mid e =
    let p = n.begun in
    m.no_program p.0 (mid ++ p.1) (subst (λ (l : List Tok). Spells p.0 l) (ap (λ (l : List Tok). l ++ p.1) e ∙ append_assoc m.before (m.token ∷ mid) p.1) p.2)

pub only_unexpected : (ts : List Tok) (a b : ℕ) → IsUnexpected ts a → IsUnexpected ts b → a ≡ b
only_unexpected ts a b m n =
    let same : m.token ≡ n.token = one_place m.before n.before m.token n.token m.after n.after (sym m.parts ∙ n.parts) (begun_too ts a b m n) (begun_too ts b a n m) in
    sym m.place ∙ ap (λ (t : Tok). t.span.start) same ∙ n.place

one_end : (b c : List Tok) (t u : Tok) (x y : List Tok) → b ++ t ∷ x ≡ c ++ u ∷ y →
    ((mid : List Tok) → c ≡ b ++ t ∷ mid → ⊥) → ((mid : List Tok) → b ≡ c ++ u ∷ mid → ⊥) → b ++ t ∷ [] ≡ c ++ u ∷ []
one_end [] [] t u x y e h g = let same : t ≡ u = cc in ap (λ (s : Tok). s ∷ []) same
one_end [] (v ∷ c) t u x y e h g = let same : v ≡ t = cc in absurd (h c (ap (λ (s : Tok). s ∷ c) same))
one_end (w ∷ b) [] t u x y e h g = let same : w ≡ u = cc in absurd (g b (ap (λ (s : Tok). s ∷ b) same))
one_end (w ∷ b) (v ∷ c) t u x y e h g =
    let same : w ≡ v = cc in
    let rest : b ++ t ∷ x ≡ c ++ u ∷ y = cc in
    let ends = one_end b c t u x y rest (λ mid p. h mid (ap (λ (s : Tok). s ∷ c) (sym same) ∙ ap (λ (l : List Tok). w ∷ l) p)) (λ mid p. g mid (ap (λ (s : Tok). s ∷ b) same ∙ ap (λ (l : List Tok). v ∷ l) p)) in
    ap (λ (s : Tok). s ∷ b ++ t ∷ []) same ∙ ap (λ (l : List Tok). v ∷ l) ends

-- an opening sign at the limit has none ahead of it
too_deep_ahead : (ts : List Tok) (a b : ℕ) (m : IsTooDeep ts a) (n : IsTooDeep ts b) (mid : List Tok) →
    n.before ≡ m.before ++ m.token ∷ mid → ⊥
too_deep_ahead ts a b m n mid e = let low : nesting 0 m.before < NESTING_LIMIT = n.first m.before mid m.token e m.opens in omega (arith, m.deep, low)

pub only_too_deep : (ts : List Tok) (a b : ℕ) → IsTooDeep ts a → IsTooDeep ts b → a ≡ b
only_too_deep ts a b m n =
    let same : m.token ≡ n.token = one_place m.before n.before m.token n.token m.after n.after (sym m.parts ∙ n.parts) (too_deep_ahead ts a b m n) (too_deep_ahead ts b a n m) in
    sym m.place ∙ ap (λ (t : Tok). t.span.start) same ∙ n.place

pub only_misplaced : (ts : List Tok) (a b : ℕ) → IsMisplaced ts a → IsMisplaced ts b → a ≡ b
only_misplaced ts a b m n =
    let first = subst (λ (ds : List Decl). IsFirstReturnFault ds a) (only_tree ts m.tree n.tree m.has_tree n.has_tree) m.first in
    let low : a ≤ b = first.1 b n.first.0 in
    let high : b ≤ a = n.first.1 a first.0 in
    omega arith

-- no tokens have both faults
pub never_both : (ts : List Tok) (a b : ℕ) → IsUnexpected ts a → IsTooDeep ts b → ⊥
never_both ts a b m n =
    let p = n.expected in
    let ends = one_end m.before n.before m.token n.token m.after n.after (sym m.parts ∙ n.parts)
    (λ mid e. m.no_program p.0 (mid ++ n.token ∷ p.1) (subst (λ (l : List Tok). Spells p.0 l) (ap (λ (l : List Tok). l ++ n.token ∷ p.1) e ∙ append_assoc m.before (m.token ∷ mid) (n.token ∷ p.1)) p.2))
    (λ mid e. let low : nesting 0 n.before < NESTING_LIMIT = m.shallow n.before mid n.token e n.opens in omega (arith, n.deep, low)) in
    m.no_program p.0 p.1 (subst (λ (l : List Tok). Spells p.0 l) (sym (append_assoc n.before (n.token ∷ []) p.1) ∙ ap (λ (l : List Tok). l ++ p.1) (sym ends) ∙ append_assoc m.before (m.token ∷ []) p.1) p.2)
