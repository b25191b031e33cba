-- Names are ASCII.
use Rattle.std.proofs.Common.{◌≡◌, ◌∙◌, ℕ, ◌<◌, true, false, Bool, List, [], ◌∷◌, ap, sym, arith, inl, inr}
use Rattle.std.specs.Prelude.{IsUtf8, IsAscii, Some, None, cond}
use Rattle.std.specs.List.{list_all, find}
use Rattle.std.specs.Str.{bytes_eq}
use Rattle.std.proofs.lemmas.Bool.Decides.{nat_tests}
use Rattle.std.proofs.lemmas.Slice.Eq.{bytes_eq-Decides}
use Rattle.std.proofs.lemmas.Str.{IsUtf8-from_ascii}
use Rattle.std.proofs.lemmas.Str.Ascii.{IsAscii-nil, IsAscii-cons}
use Rattle.std.proofs.lemmas.Bool.{and_parts, cases_Bool}
use Rattle.std.proofs.lemmas.Option.{none-some, same_Some}
use Rattle.source.specs.Texts.{is_name_byte}

name_byte_low : (b : ℕ) → is_name_byte b ≡ true → b < 128
name_byte_low b h = grind (arith, nat_tests)

name_ascii : (bs : List ℕ) → list_all is_name_byte bs ≡ true → IsAscii bs
name_ascii [] h = IsAscii-nil
name_ascii (b ∷ bs) h = let p = and_parts (is_name_byte b) (list_all is_name_byte bs) h in IsAscii-cons b bs (name_byte_low b p.0) (name_ascii bs p.1)

pub name_utf8 : (bs : List ℕ) → list_all is_name_byte bs ≡ true → IsUtf8 bs
name_utf8 bs h = IsUtf8-from_ascii bs (name_ascii bs h)

-- a name that is found is the one that was looked for
pub same_bytes : {K : Type 0} (bytes : K → List ℕ) (name : List ℕ) (ks : List K) (k : K) →
    find (λ x. bytes_eq name (bytes x)) ks ≡ Some k → bytes k ≡ name
same_bytes bytes name [] k h = absurd (none-some k h)
same_bytes bytes name (x ∷ xs) k h = elim (cases_Bool (bytes_eq name (bytes x))) [
  | inl here ↦ ap bytes (sym (same_Some x k (sym (ap (λ b. cond b (Some x) (find (λ y. bytes_eq name (bytes y)) xs)) here) ∙ h)))
      ∙ sym ((bytes_eq-Decides name (bytes x)).0 here)
  | inr there ↦ same_bytes bytes name xs k
      (sym (ap (λ b. cond b (Some x) (find (λ y. bytes_eq name (bytes y)) xs)) there) ∙ h)
]
