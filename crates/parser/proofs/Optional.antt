-- A part after a sign, or nothing.
use Rattle.std.proofs.Common.{◌≡◌, Bool, true, false, cond, List, [], ◌∷◌, Option, Some, None, Result, Ok, Err, refl}
use Rattle.std.proofs.Common.{sym, ap, ◌∙◌, subst}
use Rattle.source.specs.declared.token.Sign.{Sign}
use Rattle.source.specs.Tokens.{mark, Tok}
use Rattle.parser.specs.declared.stop.Stop.{Stop}
use Rattle.parser.specs.Working.Reading.{◌>>=◌, Fails, Reader, is_sign, sign_at, skip_at, maybe_from, maybe_at}
use Rattle.parser.specs.Working.Reading.{after_at}
use Rattle.parser.specs.Theory.Readers.{fails_on}
use Rattle.parser.specs.Theory.Signs.{kind_is}

module _ {A : Type 0} (s : Sign) (part : Reader A) where
  no_part : (b : Bool) (t : Tok) (us : List Tok) → is_sign s t.kind ≡ b → cond b (Some us) None ≡ None →
      maybe_at (mark s) (after_at s part) (t ∷ us) ≡ Ok (None, t ∷ us)
  unfolding maybe_at
  no_part true t us e h = absurd cc
  no_part false t us e h = ap (λ b. maybe_from (after_at s part) b (t ∷ us)) (kind_is s t.kind ∙ e)

  pub without_part : (ts : List Tok) → skip_at s ts ≡ None → maybe_at (mark s) (after_at s part) ts ≡ Ok (None, ts)
  unfolding maybe_at skip_at
  without_part [] h = refl
  without_part (t ∷ us) h = no_part (is_sign s t.kind) t us refl h

  abbrev bare : A × List Tok → Result (A × List Tok) Stop
  bare x = Ok (x.0, x.1)

  abbrev present : A × List Tok → Result (Option A × List Tok) Stop
  present x = Ok (Some x.0, x.1)

  same_part : (r : Result (A × List Tok) Stop) → ((r >>= bare) >>= present) ≡ (r >>= present)
  same_part (Ok x) = refl
  same_part (Err e) = refl

  some_part : (b : Bool) (t : Tok) (us rest : List Tok) → is_sign s t.kind ≡ b → cond b (Some us) None ≡ Some rest →
      maybe_at (mark s) (after_at s part) (t ∷ us) ≡ (part rest >>= λ x. Ok (Some x.0, x.1))
  unfolding maybe_at after_at sign_at
  some_part false t us rest e h = absurd cc
  some_part true t us rest e h =
      let same : us ≡ rest = cc h in
      ap (λ b. maybe_from (after_at s part) b (t ∷ us)) (kind_is s t.kind ∙ e) ∙ rw e (same_part (part us)) ∙ ap (λ (ts : List Tok). part ts >>= λ x. Ok (Some x.0, x.1)) same

  with_part : (ts rest : List Tok) → skip_at s ts ≡ Some rest →
      maybe_at (mark s) (after_at s part) ts ≡ (part rest >>= λ x. Ok (Some x.0, x.1))
  unfolding skip_at
  with_part [] rest h = absurd cc
  with_part (t ∷ us) rest h = some_part (is_sign s t.kind) t us rest refl h

  pub part_read : (ts rest last : List Tok) (x : A) → skip_at s ts ≡ Some rest → part rest ≡ Ok (x, last) →
      maybe_at (mark s) (after_at s part) ts ≡ Ok (Some x, last)
  part_read ts rest last x found read = with_part ts rest found ∙ ap (λ (r : Result (A × List Tok) Stop). r >>= λ x. Ok (Some x.0, x.1)) read

  pub part_stops : (ts rest : List Tok) (e : Stop) → skip_at s ts ≡ Some rest → Fails e (part rest) →
      Fails e (maybe_at (mark s) (after_at s part) ts)
  part_stops ts rest e found fails = subst (Fails e) (sym (with_part ts rest found)) (fails_on e (part rest) (λ x. Ok (Some x.0, x.1)) fails)
