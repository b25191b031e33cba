use Rattle.std.proofs.Common.{◌≡◌, ◌∷◌, ◌∙◌, ◌+◌, drop, get_or, sym, ap, map, add-one}
use Rattle.std.proofs.lemmas.List.{drop_all}
use Rattle.std.proofs.Math.Seq.{drop-cons}
use Rattle.explanation.specs.Notes.{note_of}
use Rattle.lockorder.specs.declared.ranks.ClassPair.{ClassPair}
use Rattle.explanations.proofs.Orders.{one_more, all_added}
use Rattle.explanations.proofs.cycle_edges.Edges.push_pairs.Goals as goal

abbrev no_pair : ClassPair
no_pair = record { edge = record { class = 0; section = 0; used = 0; bound = 0 }; next = 0 }

pub loop-pair-preserved : goal.loop-pair-preserved
loop-pair-preserved c =
    let pairs = c.args.pairs.now in
    let i = c.loop-pair.pair-index in
    let here : drop i pairs ≡ get_or pairs i no_pair ∷ drop (i + 1) pairs =
    drop-cons pairs i no_pair c.loop-pair-test.true ∙ ap (λ k. get_or pairs i no_pair ∷ drop k pairs) (sym (add-one i)) in
    one_more c.args.self.now.program.now pairs (drop i pairs) (drop (i + 1) pairs) (get_or pairs i no_pair) (map note_of c.args.notes.now.items)
    c.loop-pair.notes.items c.push_pair.new.notes.items here c.loop-pair.invariant c.in_ok-push_pair.ensures

pub returns : goal.returns
returns c =
    all_added c.args.self.now.program.now c.args.pairs.now (drop c.loop-pair.pair-index c.args.pairs.now) c.args.notes.now.items
    c.loop-pair.notes.items (drop_all c.loop-pair.pair-index c.args.pairs.now c.loop-pair-test.false) c.loop-pair.invariant
