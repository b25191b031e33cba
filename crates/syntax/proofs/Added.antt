-- The text that a printer appends, piece by piece.
use Rattle.std.proofs.Common.{◌≡◌, ℕ, ◌<◌, ◌≤◌, ◌+◌, List, [], ◌∷◌, ◌++◌, Bool, Result, Ok, Err, true, false, length}
use Rattle.std.proofs.Common.{get_or, drop, string_bytes, refl, sym, ap, ◌∙◌, append_assoc, subst}
use Rattle.std.specs.Prelude.{not, if◌then◌else◌}
use Rattle.std.specs.Result.{OnOk, is_ok}
use Rattle.std.proofs.lemmas.List.{append-nil, at_drop_more, at_drop_all}
use Rattle.syntax.specs.declared.printer.Printer.{Printer}
use Rattle.syntax.specs.Working.Adding.{Adds}

pub nothing_added : (p : Printer) → Adds p p []
nothing_added p = record { unrefused = λ ok. ok; bytes = λ ok. sym (append-nil (string_bytes p.text)) }

-- a piece, and one after it
pub followed_by : {p q r : Printer} {x y : List ℕ} → Adds p q x → Adds q r y → Adds p r (x ++ y)
followed_by {p = p} {x = x} {y = y} a b = record {
  unrefused = λ ok. a.unrefused (b.unrefused ok);
  bytes = λ ok. b.bytes ok ∙ ap (λ (l : List ℕ). l ++ y) (a.bytes (b.unrefused ok)) ∙ append_assoc (string_bytes p.text) x y;
}

-- the same, where the second is two in one
pub followed_by_both : {p q r : Printer} {x : List ℕ} (y z : List ℕ) → Adds p q x → Adds q r (y ++ z) →
    Adds p r (x ++ y ++ z)
followed_by_both {p = p} {r = r} {x = x} y z a b = subst (Adds p r) (sym (append_assoc x y z)) (followed_by a b)

pub spelled : {p q : Printer} {x y : List ℕ} → x ≡ y → Adds p q x → Adds p q y
spelled {p = p} {q = q} e a = subst (Adds p q) e a

-- In a loop: what was printed since it began, and the rest after it, are the whole.
pub record Leads (first here : Printer) (rest whole : List ℕ) : Type 0 where
  pub unrefused : here.is_refused ≡ false → first.is_refused ≡ false
  pub bytes : here.is_refused ≡ false → string_bytes here.text ++ rest ≡ string_bytes first.text ++ whole

pub at_first : (p : Printer) (whole : List ℕ) → Leads p p whole whole
at_first p whole = record { unrefused = λ ok. ok; bytes = λ ok. refl }

pub one_further : {p q r : Printer} {x rest whole : List ℕ} → Leads p q (x ++ rest) whole → Adds q r x →
    Leads p r rest whole
one_further {q = q} {x = x} {rest = rest} l a = record {
  unrefused = λ ok. l.unrefused (a.unrefused ok);
  bytes = λ ok. ap (λ (s : List ℕ). s ++ rest) (a.bytes ok) ∙ append_assoc (string_bytes q.text) x rest ∙ l.bytes (a.unrefused ok);
}

pub at_last : {p q : Printer} {whole : List ℕ} → Leads p q [] whole → Adds p q whole
at_last {q = q} l = record {
  unrefused = l.unrefused;
  bytes = λ ok. sym (append-nil (string_bytes q.text)) ∙ l.bytes ok;
}

-- `rest` gives what is printed of a list's rest: one item further
pub item_added : {B : Type 0} {p q r : Printer} {piece whole : List ℕ} (rest : List B →
    List ℕ) (xs : List B) (i : ℕ) (x : B)
    → i < length xs → x ≡ get_or xs i x → rest (x ∷ drop (i + 1) xs) ≡ piece ++ rest (drop (i + 1) xs)
    → Leads p q (rest (drop i xs)) whole → Adds q r piece → Leads p r (rest (drop (i + 1) xs)) whole
item_added {p = p} {q = q} {whole = whole} rest xs i x below is begins l a =
    let here = at_drop_more rest xs i x below ∙ ap (λ y. rest (y ∷ drop (i + 1) xs)) (sym is) ∙ begins in
    one_further (subst (λ (s : List ℕ). Leads p q s whole) here l) a

-- and at its end
pub all_added : {B : Type 0} {p q : Printer} {whole : List ℕ} (rest : List B → List ℕ) (xs : List B) (i : ℕ)
    → length xs ≤ i → rest [] ≡ [] → Leads p q (rest (drop i xs)) whole → Adds p q whole
all_added {p = p} {q = q} {whole = whole} rest xs i above none l =
    at_last (subst (λ (s : List ℕ). Leads p q s whole) (at_drop_all rest xs i above ∙ none) l)

-- ---- one call

-- after a failed allocation nothing is tried
pub refused_before : (p : Printer) (text : List ℕ) → p.is_refused ≡ true → Adds p p text
refused_before p text refused = record { unrefused = λ ok. ok; bytes = λ ok. absurd cc }

pub tried : {p q : Printer} {text : List ℕ} {went_well : Bool} → p.is_refused ≡ false → went_well ≡ not q.is_refused
    → string_bytes q.text ≡ (if went_well then string_bytes p.text ++ text else string_bytes p.text) → Adds p q text
tried fresh well e = record { unrefused = λ ok. fresh; bytes = λ ok. rw (well, ok) at e }

where_ok : {T E P : Type 0} (r : Result T E) → is_ok r ≡ true → OnOk r P → P
where_ok (Ok x) e h = h
where_ok (Err x) e h = absurd cc

pub tried_as : {T E : Type 0} {p q : Printer} {text : List ℕ} (r : Result T E) → p.is_refused ≡ false →
    is_ok r ≡ not q.is_refused
    → OnOk r (string_bytes q.text ≡ string_bytes p.text ++ text) → Adds p q text
tried_as r fresh well e = record { unrefused = λ ok. fresh; bytes = λ ok. where_ok r (rw (well, ok) refl) e }

-- the whole of what was added to an empty text
pub all_there : {p q : Printer} {text : List ℕ} → string_bytes p.text ≡ [] → Adds p q text → q.is_refused ≡ false →
    string_bytes q.text ≡ text
all_there {text = text} none a ok = a.bytes ok ∙ ap (λ (s : List ℕ). s ++ text) none
