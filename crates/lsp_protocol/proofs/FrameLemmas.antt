-- A frame: its header, and then its body.
use Rattle.std.proofs.Common.{◌≡◌, ◌∙◌, ◌<◌, ◌≤◌, ℕ, true, false, List, ◌++◌, length, take, drop, Option, Some, None, refl, sym, ap, arith, length-append, if◌then◌else◌}
use Rattle.std.specs.Prelude.{option_and_then, nat_le, IfOk, MatchOption, Result, Ok, Err}
use Rattle.std.proofs.lemmas.Bool.Decides.{nat_tests}
use lib.Seq.{take-append_seam, drop-append_seam}
use Rattle.lsp_protocol.specs.declared.frame_reading.TheConstants.{HEADER_LIMIT}
use Rattle.lsp_protocol.specs.Frames.{header_of, body_of, frame_of, NoFrameIn, TakesFrame}
use Rattle.lsp_protocol.specs.Working.Reading.{TakesHeader, IsBody, IsShort}

frame_after : (bytes : List ℕ) (header : Option (ℕ × List ℕ)) → header_of HEADER_LIMIT None bytes ≡ header →
    frame_of bytes ≡ option_and_then (λ found. body_of found.0 found.1) header
unfolding frame_of
frame_after bytes header is = ap (option_and_then (λ (found : ℕ × List ℕ). body_of found.0 found.1)) is

whole_test : (n : ℕ) (rest : List ℕ) → n ≤ length rest → nat_le n (length rest) ≡ true
whole_test n rest fits = grind (arith, nat_tests)

short_test : (n : ℕ) (rest : List ℕ) → length rest < n → nat_le n (length rest) ≡ false
short_test n rest few = grind (arith, nat_tests)

body_short : (n : ℕ) (rest : List ℕ) → length rest < n → body_of n rest ≡ None
body_short n rest few = ap (λ fits. if fits then Some (take n rest, drop n rest) else None) (short_test n rest few)

body_there : (n : ℕ) (rest body behind : List ℕ) → rest ≡ body ++ behind → length body ≡ n → body_of n rest ≡ Some (body, behind)
body_there n rest body behind split same =
    let fits : n ≤ length rest = omega (arith, ap length split, length-append body behind) in
    let front : take n rest ≡ body = ap (take n) split ∙ ap (λ k. take k (body ++ behind)) (sym same) ∙ take-append_seam body behind in
    let back : drop n rest ≡ behind = ap (drop n) split ∙ ap (λ k. drop k (body ++ behind)) (sym same) ∙ drop-append_seam body behind in
    ap (λ yes. if yes then Some (take n rest, drop n rest) else None) (whole_test n rest fits) ∙ ap (λ p. Some (p, drop n rest)) front
    ∙ ap (λ p. Some (body, p)) back

pub no_header : (first mid : Option (List ℕ)) → TakesHeader first mid None → NoFrameIn first
no_header None mid takes = tt
no_header (Some bytes) mid takes = frame_after bytes None takes

pub no_body : (first mid : Option (List ℕ)) (n : ℕ) → TakesHeader first mid (Some n) → IsShort mid n → NoFrameIn first
no_body None mid n takes short = tt
no_body (Some bytes) None n (rest, is, header) short = absurd cc
no_body (Some bytes) (Some now) n (rest, is, header) short =
    let here : now ≡ rest = cc in
    frame_after bytes (Some (n, rest)) header ∙ ap (body_of n) (sym here) ∙ body_short n now short

pub whole : (first mid new : Option (List ℕ)) (n : ℕ) (body : List ℕ) → TakesHeader first mid (Some n) → IsBody mid new n body →
    TakesFrame first new body
whole None mid new n body takes is_body = tt
whole (Some bytes) None new n body (rest, is, header) is_body = absurd cc
whole (Some bytes) (Some now) None n body (rest, is, header) is_body = absurd is_body.0
whole (Some bytes) (Some now) (Some behind) n body (rest, is, header) is_body =
    let here : now ≡ rest = cc in
    (behind, refl, frame_after bytes (Some (n, rest)) header ∙ ap (body_of n) (sym here) ∙ body_there n now body behind is_body.0 is_body.1)

-- the result of reading the body after a header
pub either : {V E : Type 0} (items : V → List ℕ) (first mid new : Option (List ℕ)) (n : ℕ) (r : Result (Option V) E) → TakesHeader first mid (Some n) →
    IfOk r (λ found. MatchOption found (IsShort mid n) (λ body. IsBody mid new n (items body))) →
    IfOk r (λ found. MatchOption found (NoFrameIn first) (λ body. TakesFrame first new (items body)))
either items first mid new n (Err e) takes is = tt
either items first mid new n (Ok None) takes is = no_body first mid n takes is
either items first mid new n (Ok (Some body)) takes is = whole first mid new n (items body) takes is
