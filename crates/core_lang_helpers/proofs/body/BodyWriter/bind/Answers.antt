use Rattle.std.proofs.Common.{◌≡◌, List, length, Some, refl, subst}
use Rattle.std.specs.Prelude.{slice_get}
use Rattle.std.proofs.lemmas.Option.{slice_get_read}
use Rattle.core_lang.specs.declared.tree.Local.{Local}
use Rattle.core_lang_helpers.proofs.Named.{local_named}
use Rattle.core_lang_helpers.proofs.body.BodyWriter.bind.Goals as goal

pub returns-clause-locals : goal.returns-clause-locals
returns-clause-locals c =
    let own = c.in-Some.own.now in
    let there = c.in-Some.ensures.lookup in
    let found = subst (λ (xs : List Local). slice_get xs c.args.local ≡ Some own) c.deref.ensures.value
    (slice_get_read c.deref.result.now (length c.deref.result.now) c.args.local own refl there.3.0 there.1) in
    local_named c.args.self.now.section.now.locals.items c.args.local own _ c.args.locals.now.items c.push.new.self.items found c.in_ok-push.ensures.items c.in_ok-copy.ensures
