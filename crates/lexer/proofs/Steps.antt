-- One token after another.
use Rattle.std.proofs.Common.{take, drop, ◌≡◌, ℕ, ◌+◌, ◌-◌, ◌^◌, ◌<◌, ◌≤◌, Bool, true, false, cond, List, [], ◌∷◌, ◌++◌}
use Rattle.std.proofs.Common.{length, Ok, Err, refl, sym, ap, ◌∙◌, subst, arith, append_assoc, length-append}
use Rattle.std.specs.Prelude.{◌==◌, ◌&&◌, not, slice_range, IsTrue}
use Rattle.std.specs.List.{list_all}
use Rattle.std.proofs.lemmas.Bool.{eqb-true, and_parts}
use Rattle.std.proofs.lemmas.List.{take_at, drop_at}
use Rattle.source.specs.declared.fault.Code.{Code}
use Rattle.source.specs.declared.fault.Code.TheVariants.{BadCharacter, NumberTooLarge, LimitExceeded}
use Rattle.source.specs.Tokens.{Lexeme, name, int, word, mark, end, Tok}
use Rattle.source.specs.Texts.{is_white, is_in_line, IsLineEnd, IsGap, no_gap, white, comment, BeginsComment, IsUnit}
use Rattle.source.specs.Texts.{IsLongest, IsWithin, is_name, is_number, is_word, is_mark, IsNext, place, tok_at, end_at}
use Rattle.source.specs.Texts.{AreTokens, at_end, token, HasTokens, DoRise, AreSlices, Leads, here, past}
use Rattle.source.specs.Texts.{IsBadCharacter, IsOver, IsFaultFrom, bad_character, too_large, too_long}
use Rattle.lexer.specs.Working.Reading.{after_line, is_slash, skip, CanStand, unit_at}
use Rattle.lexer.proofs.Gaps.{skip_comment, slash_is, Stands, skip_is}
use Rattle.lexer.proofs.Units.{unit_begins, same_kind, same_unit, Over, Reads, over_code, Stuck, no_unit, over_unit}
use Rattle.lexer.proofs.Units.{UnitAt, unit_law}

-- ---- a gap ends where `skip` ends

line_end : (line text : List ℕ) → list_all is_in_line line ≡ true → IsLineEnd text → after_line (line ++ text) ≡ text
line_end [] [] h e = refl
line_end [] (b ∷ text) h e = ap (λ c. cond (c == 10) (b ∷ text) (after_line text)) e
line_end (b ∷ line) text h e =
    let p = and_parts (is_in_line b) (list_all is_in_line line) h in
    let f : (b == 10) ≡ false = not_in (b == 10) p.0 in
    ap (λ t. cond t (b ∷ line ++ text) (after_line (line ++ text))) f ∙ line_end line text p.1 e
  where
    not_in : (t : Bool) → not t ≡ true → t ≡ false
    not_in true e = absurd cc
    not_in false e = refl

skip_through : {text rest : List ℕ} → IsGap text rest → skip text ≡ skip rest
skip_through no_gap = refl
skip_through (white {b} {text} {rest} w g) = rw w (skip_through g)
skip_through (comment line {text} {rest} all e g) = skip_comment (line ++ text) ∙ ap skip (line_end line text all e) ∙ skip_through g

skip_stands : (text : List ℕ) → Stands text → skip text ≡ text
skip_stands [] s = refl
skip_stands (b ∷ bs) s = rw (s.0, s.1) refl

no_slashes : (b : ℕ) (bs : List ℕ) (t : Bool) → ((b == 47) && is_slash bs) ≡ t → (BeginsComment (b ∷ bs) → ⊥) →
    t ≡ false
no_slashes b bs true e h =
    let p = and_parts (b == 47) (is_slash bs) e in
    let s = slash_is bs p.1 in
    absurd (h (s.0, ap (λ (c : ℕ). c ∷ bs) (eqb-true b 47 p.0) ∙ ap (λ (l : List ℕ). 47 ∷ l) s.1))
no_slashes b bs false e h = refl

-- the text begins with neither white space nor a comment
pub gap_end : (text : List ℕ) (b : ℕ) (bs : List ℕ) → IsGap text (b ∷ bs) → is_white b ≡ false →
    (BeginsComment (b ∷ bs) → ⊥) → skip text ≡ b ∷ bs
gap_end text b bs g w c = skip_through g ∙ skip_stands (b ∷ bs) (w, no_slashes b bs ((b == 47) && is_slash bs) refl c)

next_skip : {text bytes rest : List ℕ} {k : Lexeme} → IsNext text bytes rest k → skip text ≡ bytes ++ rest
next_skip {text = text} {bytes = bytes} {rest = rest} n =
    let b = unit_begins n.unit in
    let is : bytes ++ rest ≡ b.first ∷ (b.more ++ rest) = ap (λ (l : List ℕ). l ++ rest) b.is in
    gap_end text b.first (b.more ++ rest) (subst (IsGap text) is n.gap) b.no_white (subst (λ (l : List ℕ). BeginsComment l → ⊥) is n.no_comment) ∙ sym is

-- ---- the next token is one alone

pub record Same (a b r s : List ℕ) (k l : Lexeme) : Type 0 where
  pub bytes : a ≡ b
  pub rest : r ≡ s
  pub kind : k ≡ l

drop_front : (a r s : List ℕ) → a ++ r ≡ a ++ s → r ≡ s
drop_front [] r s e = e
drop_front (c ∷ a) r s e = drop_front a r s (let q : a ++ r ≡ a ++ s = cc in q)

pub same_next : {text a b r s : List ℕ} {k l : Lexeme} → IsNext text a r k → IsNext text b s l → Same a b r s k l
same_next {a = a} {b = b} {r = r} {s = s} {k = k} {l = l} n m =
    let e : a ++ r ≡ b ++ s = sym (next_skip n) ∙ next_skip m in
    let bytes : a ≡ b = same_unit a b r s k l e n.unit m.unit n.longest m.longest in
    record { bytes = bytes; rest = drop_front b r s (ap (λ (t : List ℕ). t ++ r) (sym bytes) ∙ e); kind = same_kind a b k l n.unit m.unit bytes }

no_next : {text bytes rest : List ℕ} {k : Lexeme} → skip text ≡ [] → IsNext text bytes rest k → ⊥
no_next {bytes = bytes} {rest = rest} e n =
    let b = unit_begins n.unit in
    let is : bytes ++ rest ≡ b.first ∷ (b.more ++ rest) = ap (λ (l : List ℕ). l ++ rest) b.is in
    let f : [] ≡ bytes ++ rest = sym e ∙ next_skip n in
    absurd cc

end_skip : {text : List ℕ} → IsGap text [] → skip text ≡ []
end_skip g = skip_through g

-- ---- a text has one list of tokens at most

tokens_same : (total : ℕ) {text text2 : List ℕ} {a b : List Tok} → AreTokens total text a → text ≡ text2 →
    AreTokens total text2 b → a ≡ b
tokens_same total (at_end g) e (at_end h) = refl
tokens_same total (at_end {text = text} g) e (token {text = text2} n w ts) = absurd (no_next (ap skip (sym e) ∙ end_skip g) n)
tokens_same total (token n w ts) e (at_end h) = absurd (no_next (ap skip e ∙ end_skip h) n)
tokens_same total (token {text = text} {bytes = a} {rest = r} {k = k} {ts = us} n w ts) e (token {text = text2} {bytes = b} {rest = s} {k = l} {ts = vs} m v rs) =
    let same = same_next (subst (λ (t : List ℕ). IsNext t a r k) e n) m in
    let more : us ≡ vs = tokens_same total ts same.rest rs in
    let first : tok_at total a r k ≡ tok_at total b s l = rw (same.bytes, same.rest, same.kind) refl in
    cc

pub only_list : (text : List ℕ) (a b : List Tok) → HasTokens text a → HasTokens text b → a ≡ b
only_list text a b h g = tokens_same (length text) h refl g

-- ---- spans rise

gap_le : {text rest : List ℕ} → IsGap text rest → length rest ≤ length text
gap_le no_gap = omega arith
gap_le (white {b} {text} {rest} w g) = let h = gap_le g in omega arith
gap_le (comment line {text} {rest} all e g) = let h = gap_le g in omega (arith, length-append line text)

rise_from : (total from : ℕ) {text : List ℕ} {ts : List Tok} → AreTokens total text ts → length text ≤ total →
    from ≤ place total text → DoRise from ts
rise_from total from (at_end {text = text} g) l h = (omega arith, omega arith, tt)
rise_from total from (token {text = text} {bytes = a} {rest = r} n w ts) l h =
    let g = gap_le n.gap in
    let len = length-append a r in
    (omega arith, omega arith, rise_from total (place total r) ts (omega arith) (omega arith))

pub tokens_rise : (text : List ℕ) (ts : List Tok) → HasTokens text ts → DoRise 0 ts
tokens_rise text ts h = rise_from (length text) 0 h (omega arith) (omega arith)

-- ---- tokens are slices of the text

gap_parts : {text rest : List ℕ} → IsGap text rest → (w : List ℕ) × (text ≡ w ++ rest)
gap_parts no_gap = ([], refl)
gap_parts (white {b} w g) = let p = gap_parts g in (b ∷ p.0, ap (λ (l : List ℕ). b ∷ l) p.1)
gap_parts (comment line {text} {rest} all e g) = let p = gap_parts g in (47 ∷ 47 ∷ line ++ p.0, ap (λ (l : List ℕ). 47 ∷ 47 ∷ line ++ l) p.1 ∙ ap (λ (l : List ℕ). 47 ∷ 47 ∷ l) (sym (append_assoc line p.0 rest)))

sliced : (text a bytes rest : List ℕ) → text ≡ a ++ (bytes ++ rest) →
    slice_range text (length text - length (bytes ++ rest)) (length text - length rest) ≡ bytes
sliced text a bytes rest e =
    let i : length text - length (bytes ++ rest) ≡ length a = omega (arith, ap length e, length-append a (bytes ++ rest)) in
    let n : (length text - length rest) - (length text - length (bytes ++ rest)) ≡ length bytes = omega (arith, ap length e, length-append a (bytes ++ rest), length-append bytes rest) in
    let at : drop (length text - length (bytes ++ rest)) text ≡ bytes ++ rest = ap (λ k. drop k text) i ∙ ap (λ (l : List ℕ). drop (length a) l) e ∙ drop_at a (bytes ++ rest) (length a) refl in
    ap (λ k. take k (drop (length text - length (bytes ++ rest)) text)) n ∙ ap (λ (l : List ℕ). take (length bytes) l) at ∙ take_at bytes rest (length bytes) refl

slices_from : (text front : List ℕ) {left : List ℕ} {ts : List Tok} → text ≡ front ++ left →
    AreTokens (length text) left ts → AreSlices text ts
slices_from text front e (at_end g) = (λ h. absurd (h refl), tt)
slices_from text front e (token {text = left} {bytes = bytes} {rest = rest} {k = k} n w ts) =
    let p = gap_parts n.gap in
    let a : List ℕ = front ++ p.0 in
    let is : text ≡ a ++ (bytes ++ rest) = e ∙ ap (λ (l : List ℕ). front ++ l) p.1 ∙ sym (append_assoc front p.0 (bytes ++ rest)) in
    (λ h. subst (λ (l : List ℕ). IsUnit l k) (sym (sliced text a bytes rest is)) n.unit, slices_from text (a ++ bytes) (is ∙ sym (append_assoc a bytes rest)) ts)

pub tokens_sliced : (text : List ℕ) (ts : List Tok) → HasTokens text ts → AreSlices text ts
tokens_sliced text ts h = slices_from text [] refl h

-- ---- how far the tokens have come

pub record State (total : ℕ) (text rest : List ℕ) (before : List Tok) : Type 0 where
  pub leads : Leads text rest
  pub sound : (us : List Tok) → AreTokens total rest us → AreTokens total text (before ++ us)
  pub only : (ts : List Tok) → AreTokens total text ts → (us : List Tok) × (ts ≡ before ++ us) × AreTokens total rest us
  pub faults : (c : Code) (start : ℕ) → IsFaultFrom total text c start → IsFaultFrom total rest c start

pub begun : (total : ℕ) (text : List ℕ) → State total text text []
begun total text = record { leads = here; sound = λ us h. h; only = λ ts h. (ts, refl, h); faults = λ c start h. h }

lead_on : {text from : List ℕ} → Leads text from → {bytes rest : List ℕ} {k : Lexeme} → IsNext from bytes rest k →
    IsWithin k → Leads text rest
lead_on here n w = past n w here
lead_on (past m v l) n w = past m v (lead_on l n w)

-- a text that begins with a token does not begin with a comment
stands_apart : (text : List ℕ) → Stands text → BeginsComment text → ⊥
stands_apart text s c = let h : Stands (47 ∷ 47 ∷ c.0) = subst Stands c.1 s in let e : true ≡ false = h.1 in absurd cc

next_of : (text : List ℕ) (k : Lexeme) (rest : List ℕ) (u : Reads (skip text) k rest) → IsNext text u.bytes rest k
next_of text k rest u =
    let s = skip_is text in
    record { gap = subst (IsGap text) u.parts s.gap; no_comment = λ c. stands_apart (skip text) s.stands (subst BeginsComment (sym u.parts) c); unit = u.unit; longest = u.longest }

false_of : (t : Bool) → (IsTrue t → ⊥) → t ≡ false
false_of true h = absurd (h refl)
false_of false h = refl

-- ---- one token on

lead_past : {text to bytes rest : List ℕ} {k : Lexeme} → Leads text to → IsNext text bytes rest k → (text ≡ to → ⊥) →
    Leads rest to
lead_past here n apart = absurd (apart refl)
lead_past (past {here = at} m v l) n apart = subst (λ (t : List ℕ). Leads t at) (same_next m n).rest l

tokens_past : (total : ℕ) {text bytes rest : List ℕ} {k : Lexeme} {ts : List Tok} → AreTokens total text ts →
    IsNext text bytes rest k → (us : List Tok) × (ts ≡ tok_at total bytes rest k ∷ us) × AreTokens total rest us
tokens_past total (at_end g) n = absurd (no_next (end_skip g) n)
tokens_past total (token {bytes = b} {rest = s} {k = l} {ts = us} m v rs) n =
    let same = same_next m n in
    (us, rw (same.bytes, same.rest, same.kind) refl, subst (λ (t : List ℕ). AreTokens total t us) same.rest rs)

module _ (total : ℕ) (from bytes rest : List ℕ) (k : Lexeme) (n : IsNext from bytes rest k) (w : IsWithin k) where
  bad_on : (start : ℕ) → IsBadCharacter total from start → IsBadCharacter total rest start
  bad_on start h = record {
    from = h.from;
    byte = h.byte;
    rest = h.rest;
    before = lead_past h.before n (λ e.
        let at : skip from ≡ h.byte ∷ h.rest = ap skip e ∙ gap_end h.from h.byte h.rest h.gap (false_of (is_white h.byte) h.no_white) h.no_comment in
        h.no_token bytes rest k (sym at ∙ next_skip n) n.unit);
    gap = h.gap;
    is_at = h.is_at;
    no_white = h.no_white;
    no_comment = h.no_comment;
    no_token = h.no_token;
  }

  over_on : (start : ℕ) (l : Lexeme) → IsOver total from start l → IsOver total rest start l
  over_on start l h = record {
    from = h.from;
    bytes = h.bytes;
    rest = h.rest;
    before = lead_past h.before n (λ e. h.over (subst IsWithin (same_next n (subst (λ (t : List ℕ). IsNext t h.bytes h.rest l) (sym e) h.next)).kind w));
    next = h.next;
    is_at = h.is_at;
    over = h.over;
  }

  faults_on : (c : Code) (start : ℕ) → IsFaultFrom total from c start → IsFaultFrom total rest c start
  faults_on c start (bad_character h) = bad_character (bad_on start h)
  faults_on c start (too_large value h) = too_large value (over_on start (int value) h)
  faults_on c start (too_long x h) = too_long x (over_on start (name x) h)

-- the span of a token, as it is computed
spanned : (total : ℕ) (at bytes rest : List ℕ) (k : Lexeme) → at ≡ bytes ++ rest →
    tok_at total bytes rest k ≡ record { kind = k; span = record { start = total - length at; end = total - length rest } }
spanned total at bytes rest k e = rw e refl

-- ---- places at which no token can be read

over_same : (t : List ℕ) (k l : Lexeme) → Over t k → (bytes rest : List ℕ) → t ≡ bytes ++ rest → IsUnit bytes l →
    IsLongest bytes rest → k ≡ l
over_same t k l o bytes rest e u m = same_kind o.bytes bytes k l o.unit u (same_unit o.bytes bytes o.rest rest k l (sym o.parts ∙ e) o.unit u o.longest m)

stuck_next : {t : List ℕ} {c : Code} → Stuck t c → {left bytes behind : List ℕ} {k : Lexeme} → skip left ≡ t →
    IsNext left bytes behind k → IsWithin k → ⊥
stuck_next (no_unit h) {bytes = bytes} {behind = behind} {k = k} e n w = h bytes behind k (sym e ∙ next_skip n) n.unit
stuck_next {t = t} (over_unit l o i) {bytes = bytes} {behind = behind} {k = k} e n w = o.over (subst IsWithin (sym (over_same t l k o bytes behind (sym e ∙ next_skip n) n.unit n.longest)) w)

stuck_same : {t : List ℕ} {c d : Code} → Stuck t c → Stuck t d → c ≡ d
stuck_same (no_unit h) (no_unit g) = refl
stuck_same (no_unit h) (over_unit k o i) = absurd (h o.bytes o.rest k o.parts o.unit)
stuck_same (over_unit k o i) (no_unit h) = absurd (h o.bytes o.rest k o.parts o.unit)
stuck_same {t = t} (over_unit k o i) (over_unit l q j) = sym i ∙ ap over_code (over_same t k l o q.bytes q.rest q.parts q.unit q.longest) ∙ j

-- a fault of the remaining text, from which no token can be read
record StuckAt (total : ℕ) (left : List ℕ) (c : Code) (start : ℕ) : Type 0 where
  stuck : Stuck (skip left) c
  is_at : total - length (skip left) ≡ start
  some : skip left ≡ [] → ⊥

lead_stays : {left to : List ℕ} → Leads left to →
    ((bytes behind : List ℕ) (k : Lexeme) → IsNext left bytes behind k → IsWithin k → ⊥) → to ≡ left
lead_stays here h = refl
lead_stays (past {bytes = bytes} {rest = behind} {k = k} n w l) h = absurd (h bytes behind k n w)

bad_stuck : (total : ℕ) (left : List ℕ) (start : ℕ) → IsBadCharacter total left start →
    ((bytes behind : List ℕ) (k : Lexeme) → IsNext left bytes behind k → IsWithin k → ⊥) →
    StuckAt total left BadCharacter start
bad_stuck total left start h none =
    let at : skip left ≡ h.byte ∷ h.rest = gap_end left h.byte h.rest (subst (λ (t : List ℕ). IsGap t (h.byte ∷ h.rest)) (lead_stays h.before none) h.gap) (false_of (is_white h.byte) h.no_white) h.no_comment in
    record { stuck = subst (λ (t : List ℕ). Stuck t BadCharacter) (sym at) (no_unit h.no_token); is_at = ap (λ (t : List ℕ). total - length t) at ∙ h.is_at; some = λ e. absurd cc }

over_stuck : (total : ℕ) (left : List ℕ) (c : Code) (start : ℕ) (k : Lexeme) → over_code k ≡ c →
    IsOver total left start k → ((bytes behind : List ℕ) (k : Lexeme) → IsNext left bytes behind k → IsWithin k → ⊥) →
    StuckAt total left c start
over_stuck total left c start k i h none =
    let n : IsNext left h.bytes h.rest k = subst (λ (t : List ℕ). IsNext t h.bytes h.rest k) (lead_stays h.before none) h.next in
    let at : skip left ≡ h.bytes ++ h.rest = next_skip n in
    record { stuck = over_unit k (record { bytes = h.bytes; rest = h.rest; parts = at; unit = n.unit; longest = n.longest; over = h.over }) i; is_at = ap (λ (t : List ℕ). total - length t) at ∙ h.is_at; some = λ e. no_next e n }

fault_stuck : (total : ℕ) (left : List ℕ) (c : Code) (start : ℕ) → IsFaultFrom total left c start →
    ((bytes behind : List ℕ) (k : Lexeme) → IsNext left bytes behind k → IsWithin k → ⊥) → StuckAt total left c start
fault_stuck total left c start (bad_character h) none = bad_stuck total left start h none
fault_stuck total left c start (too_large value h) none = over_stuck total left NumberTooLarge start (int value) refl h none
fault_stuck total left c start (too_long x h) none = over_stuck total left LimitExceeded start (name x) refl h none

bad_of : (total : ℕ) (text left at : List ℕ) → Leads text left → IsGap left at → Stands at →
    ((bytes other : List ℕ) (k : Lexeme) → at ≡ bytes ++ other → IsUnit bytes k → ⊥) → (at ≡ [] → ⊥) →
    IsBadCharacter total text (total - length at)
bad_of total text left [] l g s none some = absurd (some refl)
bad_of total text left (b ∷ bs) l g s none some = record { from = left; byte = b; rest = bs; before = l; gap = g; is_at = refl; no_white = λ w. let f : is_white b ≡ false = s.0 in absurd cc; no_comment = λ c. stands_apart (b ∷ bs) s c; no_token = none }

over_of : (total : ℕ) (text left : List ℕ) (k : Lexeme) → Leads text left → Over (skip left) k →
    IsOver total text (total - length (skip left)) k
over_of total text left k l o =
    let s = skip_is left in
    record {
      from = left;
      bytes = o.bytes;
      rest = o.rest;
      before = l;
      next = record { gap = subst (IsGap left) o.parts s.gap; no_comment = λ c. stands_apart (skip left) s.stands (subst BeginsComment (sym o.parts) c); unit = o.unit; longest = o.longest };
      is_at = ap (λ (t : List ℕ). total - length t) (sym o.parts);
      over = o.over;
    }

fault_of : (total : ℕ) (text left : List ℕ) (c : Code) → Leads text left → UnitAt (skip left) (Err c) →
    (skip left ≡ [] → ⊥) → IsFaultFrom total text c (total - length (skip left))
fault_of total text left c l (no_unit h) some = let s = skip_is left in bad_character (bad_of total text left (skip left) l s.gap s.stands h some)
fault_of total text left c l (over_unit (int n) o e) some = subst (λ (d : Code). IsFaultFrom total text d (total - length (skip left))) e (too_large n (over_of total text left (int n) l o))
fault_of total text left c l (over_unit (name x) o e) some = subst (λ (d : Code). IsFaultFrom total text d (total - length (skip left))) e (too_long x (over_of total text left (name x) l o))
fault_of total text left c l (over_unit (word w) o e) some = absurd (o.over tt)
fault_of total text left c l (over_unit (mark s) o e) some = absurd (o.over tt)
fault_of total text left c l (over_unit end o e) some = absurd (o.over tt)

-- ---- lengths

pub skip_le : (bs : List ℕ) → length (skip bs) ≤ length bs
skip_le bs = let s = skip_is bs in gap_le s.gap

-- a token's places fit, and a name is as long as its text
unit_long : (bytes : List ℕ) (k : Lexeme) (from to : ℕ) → IsUnit bytes k → from < 2 ^ 32 → to < 2 ^ 32 →
    to ≡ from + length bytes → CanStand k from to
unit_long bytes (name x) from to (is_name h g w) s e l = (s, l)
unit_long bytes (int x) from to (is_number h) s e l = (s, e)
unit_long bytes (word x) from to (is_word w) s e l = (s, e)
unit_long bytes (mark x) from to (is_mark m) s e l = (s, e)
unit_long bytes end from to u s e l = elim u [ ]

-- the token that was read can stand where it was read
pub unit_stands : (total : ℕ) (t : List ℕ) (k : Lexeme) (rest : List ℕ) → unit_at t ≡ Ok (k, rest) →
    length t ≤ total → total < 2 ^ 32 → CanStand k (total - length t) (total - length rest)
unit_stands total t k rest e short small =
    let u : Reads t k rest = subst (UnitAt t) e (unit_law t) in
    let len : length t ≡ length u.bytes + length rest = ap length u.parts ∙ length-append u.bytes rest in
    unit_long u.bytes k (total - length t) (total - length rest) u.unit (omega arith) (omega arith) (omega arith)

pub unit_shortens : (t : List ℕ) (k : Lexeme) (rest : List ℕ) → unit_at t ≡ Ok (k, rest) → length rest < length t
unit_shortens t k rest e =
    let u : Reads t k rest = subst (UnitAt t) e (unit_law t) in
    let b = unit_begins u.unit in
    omega (arith, ap length u.parts, length-append u.bytes rest, ap length b.is)

-- ---- the turns of the loop

module _ (total : ℕ) (text rest : List ℕ) (before : List Tok) (state : State total text rest before) where
  pub token_on : (k : Lexeme) (behind : List ℕ) (t : Tok) → unit_at (skip rest) ≡ Ok (k, behind) →
      t ≡ record { kind = k; span = record { start = total - length (skip rest); end = total - length behind } } →
      State total text behind (before ++ t ∷ [])
  token_on k behind t e is =
      let u : Reads (skip rest) k behind = subst (UnitAt (skip rest)) e (unit_law (skip rest)) in
      let n = next_of rest k behind u in
      let same : tok_at total u.bytes behind k ≡ t = spanned total (skip rest) u.bytes behind k u.parts ∙ sym is in
      record {
        leads = lead_on state.leads n u.small;
        sound = λ us h. subst (AreTokens total text) (ap (λ (x : Tok). before ++ x ∷ us) same ∙ sym (append_assoc before (t ∷ []) us)) (state.sound (tok_at total u.bytes behind k ∷ us) (token n u.small h));
        only = λ ts h.
            let p = state.only ts h in
            let q = tokens_past total p.2 n in
            (q.0, p.1 ∙ ap (λ (l : List Tok). before ++ l) (q.1 ∙ ap (λ (x : Tok). x ∷ q.0) same) ∙ sym (append_assoc before (t ∷ []) q.0), q.2);
        faults = λ c start h. faults_on total rest u.bytes behind k n u.small c start (state.faults c start h);
      }

  -- ---- at the end

  module _ (done : skip rest ≡ []) where
    gap_done : IsGap rest []
    gap_done = let s = skip_is rest in subst (IsGap rest) done s.gap

    pub end_found : AreTokens total text (before ++ end_at total ∷ [])
    end_found = state.sound (end_at total ∷ []) (at_end gap_done)

    end_alone : {ts : List Tok} {left : List ℕ} → AreTokens total left ts → skip left ≡ [] → ts ≡ end_at total ∷ []
    end_alone (at_end g) e = refl
    end_alone (token n w ts) e = absurd (no_next e n)

    pub end_only : (ts : List Tok) → AreTokens total text ts → before ++ end_at total ∷ [] ≡ ts
    end_only ts h = let p = state.only ts h in sym (p.1 ∙ ap (λ (l : List Tok). before ++ l) (end_alone p.2 done))

    -- such a text has no fault
    pub no_fault : (c : Code) (start : ℕ) → IsFaultFrom total text c start → ⊥
    no_fault c start h = (fault_stuck total rest c start (state.faults c start h) (λ bytes behind k n w. no_next done n)).some done

  -- ---- at a fault

  module _ (code : Code) (e : unit_at (skip rest) ≡ Err code) (some : skip rest ≡ [] → ⊥) where
    stuck : Stuck (skip rest) code
    stuck = (subst (UnitAt (skip rest)) e (unit_law (skip rest)))

    no_more : (bytes behind : List ℕ) (k : Lexeme) → IsNext rest bytes behind k → IsWithin k → ⊥
    no_more bytes behind k n w = stuck_next stuck refl n w

    pub no_tokens : (ts : List Tok) → AreTokens total text ts → ⊥
    no_tokens ts h = let p = state.only ts h in none p.2 some no_more
      where
        none : {us : List Tok} {left : List ℕ} → AreTokens total left us → (skip left ≡ [] → ⊥) →
            ((bytes behind : List ℕ) (k : Lexeme) → IsNext left bytes behind k → IsWithin k → ⊥) → ⊥
        none (at_end g) more h = more (end_skip g)
        none (token {bytes = bytes} {rest = behind} {k = k} n w ts) more h = h bytes behind k n w

    pub one_fault : (c : Code) (start : ℕ) → IsFaultFrom total text c start →
        (code ≡ c) × (total - length (skip rest) ≡ start)
    one_fault c start h = let f = fault_stuck total rest c start (state.faults c start h) no_more in (stuck_same stuck f.stuck, f.is_at)

    pub is_fault : IsFaultFrom total text code (total - length (skip rest))
    is_fault = fault_of total text rest code state.leads (subst (UnitAt (skip rest)) e (unit_law (skip rest))) some
