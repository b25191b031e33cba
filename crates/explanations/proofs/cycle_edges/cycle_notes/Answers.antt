use Rattle.std.proofs.Common.{◌∙◌, ◌+◌, ◌++◌, ◌-◌, ◌≡◌, ◌∷◌, [], List, ℕ, take, drop, length, map, get_or, sym, ap}
use Rattle.std.proofs.Common.{subst, add-one, arith, append_assoc}
use Rattle.std.proofs.lemmas.List.{append-nil, drop_all, take_all, length-drop}
use Rattle.std.proofs.lemmas.Option.{slice_get-get_or}
use Rattle.std.proofs.Math.Seq.{drop-cons}
use Rattle.explanation.specs.Notes.{note_of}
use Rattle.lockorder.specs.declared.ranks.Edge.{Edge}
use Rattle.explanations.specs.CycleNotes.{class_of_next, TellEdges}
use Rattle.explanations.specs.Working.Tellers.{IsMade}
use Rattle.explanations.proofs.Cycles.{made_at, told_ahead, cycle_made, cycle_told}
use Rattle.explanations.proofs.cycle_edges.cycle_notes.Goals as goal

abbrev no_edge : Edge
no_edge = record { class = 0; section = 0; used = 0; bound = 0 }

rest_whole : (edges : List Edge) (i : ℕ) → take (length edges - (i + 1)) (drop (i + 1) edges) ≡ drop (i + 1) edges
rest_whole edges i = take_all (length edges - (i + 1)) (drop (i + 1) edges) (omega (arith, length-drop (i + 1) edges))

pub push_whole-requires-clause-made : goal.push_whole-requires-clause-made
push_whole-requires-clause-made c =
    let edges = c.args.edges.now in
    let i = c.loop-i.i in
    let first = (get_or edges 0 no_edge).class in
    let made = made_at c.args.program.now first edges i (get_or edges i no_edge)
    (cycle_made c.args.program.now edges no_edge c.requires.cycle) (slice_get-get_or edges i no_edge c.loop-i-test.true) in
    subst (IsMade c.args.program.now (get_or edges i no_edge))
    (ap (λ k. class_of_next first (drop k edges)) (sym (add-one i))
    ∙ sym (c.class_of_next-next.ensures ∙ ap (class_of_next first) (rest_whole edges i))) made

pub loop-i-preserved : goal.loop-i-preserved
loop-i-preserved c more others =
    let edges = c.args.edges.now in
    let i = c.loop-i.i in
    let first = (get_or edges 0 no_edge).class in
    let a = c.in_ok-push_whole.ensures in
    let next : c.class_of_next-next.result ≡ class_of_next first (drop (i + 1) edges) =
    c.class_of_next-next.ensures ∙ ap (class_of_next first) (rest_whole edges i) in
    let tells = rw next at a.tells in
    let here : drop i edges ≡ get_or edges i no_edge ∷ drop (i + 1) edges =
    drop-cons edges i no_edge c.loop-i-test.true ∙ ap (λ k. get_or edges i no_edge ∷ drop k edges) (sym (add-one i)) in
    let ahead = told_ahead c.args.program.now first (drop i edges) (get_or edges i no_edge) (drop (i + 1) edges) a.usage a.binding a.way more here tells a.tells_way others in
    let whole = c.loop-i.invariant (a.usage ∷ a.binding ∷ a.way ∷ more) ahead in
    subst (TellEdges c.args.program.now first edges)
    (sym (append_assoc (map note_of c.loop-i.notes.items) (a.usage ∷ a.binding ∷ a.way ∷ []) more) ∙ ap (λ l. l ++ more) (sym a.added)) whole

pub returns : goal.returns
returns c =
    let edges = c.args.edges.now in
    let first = (get_or edges 0 no_edge).class in
    let none : drop c.loop-i.i edges ≡ [] = drop_all c.loop-i.i edges c.loop-i-test.false in
    let told = c.loop-i.invariant [] (rw none tt) in
    cycle_told c.args.program.now edges no_edge (map note_of c.loop-i.notes.items) c.requires.cycle
    (subst (TellEdges c.args.program.now first edges) (append-nil (map note_of c.loop-i.notes.items)) told)
