use Rattle.std.proofs.Common.{◌≡◌, ℕ, ◌+◌, ◌<◌, List, ◌++◌, length, drop, get_or, append_assoc, refl, sym, ap, ◌∙◌}
use Rattle.std.proofs.Common.{string_bytes, String, Global}
use Rattle.std.specs.Prelude.{codes}
use Rattle.std.proofs.lemmas.List.{at_drop_more}
use Rattle.core_lang.specs.declared.typed.Typed.{Typed}
use Rattle.locks.specs.Texts.{class_name}
use Rattle.lockorder.specs.declared.ranks.Edge.{Edge}
use Rattle.lockorder.specs.Faults.{arrows, classes_of}
use Rattle.lockorder.proofs.Added.{all_arrows, with_first, with_none}
use Rattle.lockorder.proofs.text.cycle_text.Goals as goal
use Rattle.lockorder.proofs.text.cycle_text.Goals.{in-Some+in_ok-push_class-2, in_default}

-- one more class, and its arrow
arrow_more : (program : Typed) (edges : List Edge) (k : ℕ) (d : Edge) (was mid now arrow : List ℕ) →
    k < length edges → arrow ≡ codes " -> " →
    mid ≡ was ++ class_name program (get_or edges k d).class → now ≡ mid ++ arrow →
    now ++ arrows program (classes_of (drop (k + 1) edges)) ≡ was ++ arrows program (classes_of (drop k edges))
arrow_more program edges k d was mid now arrow lt an_arrow named written =
    let name = class_name program (get_or edges k d).class in
    let rest = arrows program (classes_of (drop (k + 1) edges)) in
    ap (λ x. x ++ rest) (written ∙ ap (λ x. x ++ arrow) named ∙ ap (λ x. (was ++ name) ++ x) an_arrow ∙ append_assoc was name (codes " -> "))
    ∙ append_assoc was (name ++ codes " -> ") rest
    ∙ ap (λ x. was ++ x) (sym (at_drop_more (λ es. arrows program (classes_of es)) edges k d lt))

pub loop-edge-preserved : goal.loop-edge-preserved
loop-edge-preserved c =
    arrow_more c.args.program.now c.args.edges.now c.loop-edge.edge-index _ (string_bytes c.loop-edge.text) (string_bytes c.push_class.new.out)
    (string_bytes c.push_str.new.self) _ c.loop-edge-test.true refl c.in_ok-push_class.ensures c.in_ok-push_str.ensures.bytes ∙ c.loop-edge.invariant

pub returns : goal.returns
returns c =
    let program = c.args.program.now in
    let edges = c.args.edges.now in
    let was = string_bytes c.loop-edge.text in
    let all = all_arrows program was edges c.loop-edge.edge-index c.loop-edge-test.false c.loop-edge.invariant in
    elim c.match-first.branch [
      | in-Some+in_ok-push_class-2 w ↦
          ap (λ (t : String Global). string_bytes t) w.text-is
          ∙ with_first program was edges w.in-Some.first.now (string_bytes w.push_class-in-Some.new.out) w.in-Some.ensures.value all w.in_ok-push_class-2.ensures
      | in_default w ↦ ap (λ (t : String Global). string_bytes t) w.text-is ∙ with_none program was edges w.in_default.ensures.value all
    ]
