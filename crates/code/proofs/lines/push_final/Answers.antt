use Rattle.std.proofs.Common.{string_bytes, refl}
use Rattle.std.proofs.lemmas.Result.{on_ok_weaker}
use Rattle.core_lang.specs.declared.typed.Struct.{Struct}
use Rattle.code.specs.Listing.{final_of}
use Rattle.code.specs.Theory.Written.{found_added, none_added}
use Rattle.code.proofs.lines.push_final.Goals as goal

pub returns-in-Some : goal.returns-in-Some
returns-in-Some c =
    on_ok_weaker c.push_final_of.result
    (λ e. found_added (λ (x : Struct). final_of x c.args.number) _ _ _ _ c.deref.ensures.value c.in-Some.structure _ _
    c.in-Some.ensures.lookup refl e)
    c.push_final_of.ensures

pub returns-in-None : goal.returns-in-None
returns-in-None c =
    none_added (λ (x : Struct). final_of x c.args.number) _ _ _ (string_bytes c.args.out.now) c.deref.ensures.value
    c.in-None.ensures.lookup
