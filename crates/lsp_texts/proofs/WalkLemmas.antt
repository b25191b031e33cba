-- One byte on.
use Rattle.std.proofs.Common.{◌≡◌, ◌∙◌, ℕ, zero, suc, ◌+◌, ◌-◌, ◌<◌, Bool, true, false, List, [], ◌∷◌, length, drop, get_or, Option, Some, None, refl, sym, ap, arith, add-one}
use Rattle.std.specs.Prelude.{if◌then◌else◌}
use Rattle.std.specs.List.{slice_get}
use Rattle.lsp_texts.specs.Positions.{behind, place_from, position_of, bytes_to, ends_line, stops, units_of}
use Rattle.lsp_texts.specs.Working.Steps.{step}
use Rattle.lsp_texts.specs.declared.walking.Position.{Position}

pub get_at : (text : List ℕ) (n d : ℕ) → n < length text → slice_get text n ≡ Some (get_or text n d)
get_at [] n d below = absurd (omega arith)
get_at (x ∷ text) zero d below = refl
get_at (x ∷ text) (suc n) d below = get_at text n d (omega arith)

-- ---- to a position

place_step : (here : Position) (text : List ℕ) (n b : ℕ) → slice_get text n ≡ Some b →
    place_from here text (suc n) ≡ behind (place_from here text n) b (slice_get text (suc n))
unfolding place_from
place_step here [] n b is = absurd cc
place_step here (x ∷ text) zero b is = let same : x ≡ b = cc in ap (λ c. behind here c (slice_get text 0)) same
place_step here (x ∷ text) (suc n) b is = place_step (behind here x (slice_get text 0)) text n b is

pub walked : (text : List ℕ) (n d : ℕ) → n < length text → position_of text (n + 1) ≡ behind (position_of text n) (get_or text n d) (slice_get text (n + 1))
walked text n d below = rw add-one (place_step _ text n (get_or text n d) (get_at text n d below))

pub walked_to : (text : List ℕ) (n d : ℕ) (here : Position) (next : Option ℕ) → n < length text → here ≡ position_of text n →
    next ≡ slice_get text (n + 1) → behind here (get_or text n d) next ≡ position_of text (n + 1)
walked_to text n d here next below is next_is =
    ap (λ p. behind p (get_or text n d) next) is ∙ ap (behind (position_of text n) (get_or text n d)) next_is ∙ sym (walked text n d below)

pub begins : (text : List ℕ) → position_of text 0 ≡ record { line = 0; unit = 0 }
unfolding place_from
begins text = refl

-- ---- and back

abbrev pub stepped : Option (ℕ × ℕ) → List ℕ → ℕ
stepped None bytes = 0
stepped (Some p) bytes = suc (bytes_to p.0 p.1 bytes)

chosen_stop : (b : Bool) (units : ℕ) (bytes : List ℕ) → (if b then 0 else suc (bytes_to zero units bytes)) ≡ stepped (if b then None else Some (0, units)) bytes
chosen_stop true units bytes = refl
chosen_stop false units bytes = refl

chosen_line : (b : Bool) (lines units : ℕ) (bytes : List ℕ) →
    suc (if b then bytes_to lines units bytes else bytes_to (suc lines) units bytes) ≡ stepped (if b then Some (lines, units) else Some (suc lines, units)) bytes
chosen_line true lines units bytes = refl
chosen_line false lines units bytes = refl

bytes_step : (lines units b : ℕ) (bytes : List ℕ) → bytes_to lines units (b ∷ bytes) ≡ stepped (step lines units b (slice_get bytes 0)) bytes
unfolding bytes_to
bytes_step zero units b bytes = chosen_stop (stops units b) (units - units_of b) bytes
bytes_step (suc lines) units b bytes = chosen_line (ends_line b (slice_get bytes 0)) lines units bytes

drop_get : (text : List ℕ) (n d : ℕ) → n < length text → drop n text ≡ get_or text n d ∷ drop (suc n) text
drop_get [] n d below = absurd (omega arith)
drop_get (x ∷ text) zero d below = refl
drop_get (x ∷ text) (suc n) d below = drop_get text n d (omega arith)

get_behind : (text : List ℕ) (n : ℕ) → slice_get (drop (suc n) text) 0 ≡ slice_get text (suc n)
get_behind [] n = refl
get_behind (x ∷ text) zero = refl
get_behind (x ∷ text) (suc n) = get_behind text n

pub bytes_at : (text : List ℕ) (lines units n d : ℕ) (found : Option (ℕ × ℕ)) → n < length text →
    found ≡ step lines units (get_or text n d) (slice_get text (n + 1)) → bytes_to lines units (drop n text) ≡ stepped found (drop (n + 1) text)
bytes_at text lines units n d found below is =
    let rest = drop (suc n) text in
    let more : n + 1 ≡ suc n = add-one n in
    ap (bytes_to lines units) (drop_get text n d below) ∙ bytes_step lines units (get_or text n d) rest
    ∙ ap (λ next. stepped (step lines units (get_or text n d) next) rest) (get_behind text n ∙ ap (slice_get text) (sym more))
    ∙ ap (λ f. stepped f rest) (sym is) ∙ ap (λ k. stepped found (drop k text)) (sym more)

pub bytes_end : (lines units : ℕ) (text : List ℕ) → bytes_to lines units (drop (length text) text) ≡ 0
unfolding bytes_to
bytes_end lines units [] = refl
bytes_end lines units (x ∷ text) = bytes_end lines units text
