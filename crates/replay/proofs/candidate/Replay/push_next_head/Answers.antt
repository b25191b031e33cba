use Rattle.std.proofs.Common.{◌≡◌, ◌∙◌, ◌∷◌, ◌++◌, List, [], ℕ, None, Some, map, string_bytes, sym, ap, append-nil}
use Rattle.std.specs.Option.{option_copied}
use Rattle.std.proofs.lemmas.List.{map-append}
use Rattle.core_lang.specs.Serial.{Scheduled}
use Rattle.report.specs.History.{call_head}
use Rattle.replay.specs.declared.progress.ThreadProgress.{ThreadProgress}
use Rattle.replay.specs.Working.Reading.{call_in, called_at}
use Rattle.replay.proofs.NextHeads.{no_next, some_next}
use Rattle.replay.proofs.Scripts.{scheduled_at}
use Rattle.replay.proofs.candidate.Replay.push_next_head.Goals as goal

pub returns-in_default : goal.returns-in_default
returns-in_default c reader is =
    let program = c.args.self.now.program.now in
    let gone : call_in program c.args.thread (called_at c.args.at.now.seats c.args.thread) ≡ None =
    ap (call_in program c.args.thread) (sym (ap (λ (s : ThreadProgress). s.called) c.seat-step.ensures)) ∙ sym c.call_in.ensures ∙ ap option_copied c.in_default.is in
    sym (append-nil (map (λ head. string_bytes head) c.args.heads.now.items))
    ∙ ap (λ (more : List (List ℕ)). map (λ head. string_bytes head) c.args.heads.now.items ++ more)
    (sym (no_next c.args.self.now.format program c.args.at.now reader is c.args.thread gone))

pub returns : goal.returns
returns c reader is =
    let format = c.args.self.now.format in
    let program = c.args.self.now.program.now in
    let at = c.args.at.now in
    let t = c.args.thread in
    let call = c.in-Some.call.now in
    let olds = map (λ head. string_bytes head) c.args.heads.now.items in
    let found : call_in program t (called_at at.seats t) ≡ Some call =
    ap (call_in program t) (sym (ap (λ (s : ThreadProgress). s.called) c.seat-step.ensures)) ∙ sym c.call_in.ensures ∙ ap option_copied c.in-Some.is in
    let said : Scheduled = record { thread = t; step = c.seat-step.result.called; call = record { section = call.section; arguments = c.deref.result.now } } in
    let same : said ≡ scheduled_at t (called_at at.seats t) call =
    ap (λ n. record { thread = t; step = n; call = record { section = call.section; arguments = c.deref.result.now } }) (ap (λ (s : ThreadProgress). s.called) c.seat-step.ensures)
    ∙ ap (λ xs. record { thread = t; step = called_at at.seats t; call = record { section = call.section; arguments = xs } }) c.deref.ensures.value in
    let head = call_head format program (scheduled_at t (called_at at.seats t) call) at.position in
    let written : string_bytes c.push_call_head.new.out ≡ head =
    c.in_ok-push_call_head.ensures ∙ ap (λ (b : List ℕ). b ++ call_head format program said at.position) c.new-head.ensures.bytes
    ∙ ap (λ s. call_head format program s at.position) same in
    ap (λ heads. map (λ head. string_bytes head) heads) c.in_ok-push.ensures.items
    ∙ map-append (λ head. string_bytes head) c.args.heads.now.items (c.push_call_head.new.out ∷ [])
    ∙ ap (λ (text : List ℕ). olds ++ text ∷ []) written
    ∙ ap (λ (more : List (List ℕ)). olds ++ more) (sym (some_next format program at reader is t call found))
