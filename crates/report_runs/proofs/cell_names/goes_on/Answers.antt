use Rattle.std.proofs.Common.{◌≡◌, ◌∙◌, ◌<◌, ◌+◌, ℕ, Bool, false, List, [], ◌∷◌, length, drop, get_or, add-one, drop-cons, ap, sym, arith}
use Rattle.report_runs.specs.Names.{goes_on}
use Rattle.report_runs.proofs.cell_names.goes_on.Goals as goal

none_left : (n : ℕ) (ns rest : List ℕ) (b : Bool) → length rest < 1 → goes_on (n ∷ ns) rest ≡ b → false ≡ b
none_left n ns [] b few is = is
none_left n ns (r ∷ rest) b few is = absurd (omega arith)

pub returns-in_default : goal.returns-in_default
returns-in_default c =
    let name = c.args.name.now in
    let at = c.loop-byte.byte-index in
    let within : at < length name = omega (arith, c.loop-byte-test.true) in
    let next : drop at name ≡ get_or name at 0 ∷ drop (at + 1) name = rw add-one (drop-cons name at 0 within) in
    none_left (get_or name at 0) (drop (at + 1) name) c.loop-byte.rest.now _ (omega (arith, c.in_default.len_below))
    (ap (λ (ns : List ℕ). goes_on ns c.loop-byte.rest.now) (sym next) ∙ c.loop-byte.invariant)
