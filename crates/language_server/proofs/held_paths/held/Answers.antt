use Rattle.std.proofs.Common.{◌≡◌, ◌∙◌, ℕ, List, [], ◌∷◌, ◌++◌, length, ap, sym, arith}
use Rattle.std.specs.Prelude.{slice_get}
use Rattle.std.proofs.lemmas.List.{length-append, map-append}
use Rattle.code.specs.Working.NumberLists.{number_lists}
use Rattle.language_server.specs.Working.Lines.{held_in}
use Rattle.language_server.proofs.Holding.{one_more}
use Rattle.language_server.proofs.held_paths.held.Goals as goal

pub loop-number-preserved : goal.loop-number-preserved
loop-number-preserved c =
    let all = held_in c.loop-number.all.items in
    let new = number_lists c.in_ok-held_in_section.field-0.items in
    let before = c.loop-number.invariant in
    let is : held_in c.push.new.self.items ≡ all ++ new ∷ [] = ap held_in c.in_ok-push.ensures.items ∙ map-append _ c.loop-number.all.items _ in
    record {
      long = omega (arith, ap length is, length-append all (new ∷ []), before.long);
      each = λ k section ls there e.
          one_more c.args.program.now all c.loop-number.number new before.long c.in_ok-held_in_section.ensures before.each k section ls there
          (ap (λ (l : List (List (List ℕ))). slice_get l k) (sym is) ∙ e);
    }
