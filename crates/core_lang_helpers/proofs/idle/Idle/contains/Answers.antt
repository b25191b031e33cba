use Rattle.std.proofs.Common.{◌≡◌, List, ℕ, refl, subst, length}
use Rattle.std.specs.Prelude.{slice_get, Some}
use Rattle.std.proofs.lemmas.Bool.{leb-true}
use Rattle.std.proofs.lemmas.Option.{slice_get_read}
use Rattle.core_lang_helpers.proofs.IdleCalls.{known_idle}
use Rattle.core_lang_helpers.proofs.idle.Idle.contains.Goals as goal

pub returns-then-known-gt0 : goal.returns-then-known-gt0
returns-then-known-gt0 c e =
    let list = c.deref.result.now in
    let known = c.in-Some.known.now in
    let lookup = c.in-Some.ensures.lookup in
    let there = slice_get_read list (length list) c.args.helper known refl lookup.3.0 lookup.1 in
    known_idle c.args.self.now.helpers.now c.args.self.now.depths.items c.args.helper known c.args.depth c.args.self.now.known
    (subst (λ (xs : List ℕ). slice_get xs c.args.helper ≡ Some known) c.deref.ensures.value there) c.if-known-gt0.true (leb-true known c.args.depth e)
