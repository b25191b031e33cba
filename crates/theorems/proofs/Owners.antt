-- A `where` is a test.
use Rattle.std.proofs.Common.{◌∙◌, sym, Option, Some, Result, Bool, ap}
use Rattle.std.specs.Prelude.{slice_get}
use Rattle.core_lang.specs.declared.value.Value.{Value}
use Rattle.core_lang.specs.declared.value.Value.TheVariants.{Ref}
use Rattle.core_lang.specs.declared.value.Failure.{Failure}
use Rattle.core_lang.specs.Cells.{with, found, owned, if_named}
use Rattle.core_lang.specs.Arithmetic.{compared}
use Rattle.core_lang.specs.declared.tree.Comparison.TheVariants.{Equal}
use Rattle.core_lang.specs.Meaning.{given, stored}
use Rattle.theorems.specs.Meanings.{AWhereThatHoldsChangesNothing, AWhereThatFailsEndsTheSection}

pub where_holds : AWhereThatHoldsChangesNothing
where_holds call shape n k structure final start owner value s v named is there holds =
    let go = λ (r : Result Value Failure). given r s (λ v. stored k v s) in
    ap (λ (r : Result Value Failure). go (with r (λ v. with (found (slice_get s.locals owner)) (λ o. owned shape v final o)))) is
    ∙ ap (λ (o : Option Value). go (with (found o) (λ o. owned shape v final o))) there
    ∙ ap go holds ∙ sym (ap go is)

pub where_fails : AWhereThatFailsEndsTheSection
where_fails call shape n k structure final start owner o value s other named is there names differs =
    let go = λ (r : Result Value Failure). given r s (λ v. stored k v s) in
    let v = Ref (Some o) in
    ap (λ (r : Result Value Failure). go (with r (λ v. with (found (slice_get s.locals owner)) (λ o. owned shape v final o)))) is
    ∙ ap (λ (o : Option Value). go (with (found o) (λ o. owned shape v final o))) there
    ∙ ap (λ (r : Result Value Failure). go (with r (λ m. with (compared Equal m named) (λ same. if_named same v)))) names
    ∙ ap (λ (r : Result Bool Failure). go (with r (λ same. if_named same v))) differs
