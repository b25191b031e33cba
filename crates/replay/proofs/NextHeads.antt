-- The next calls of threads, as their seats count them.
use Rattle.std.proofs.Common.{◌≡◌, ◌∙◌, ℕ, [], ◌∷◌, length, Option, Some, None, sym, ap}
use Rattle.std.specs.Prelude.{option_map}
use Rattle.std.specs.Option.{option_map_or}
use Rattle.core_lang.specs.declared.typed.Call.{Call}
use Rattle.core_lang.specs.declared.typed.Typed.{Typed}
use Rattle.core_lang.specs.Serial.{Scheduled}
use Rattle.input_files.specs.declared.format.Format.{Format}
use Rattle.report.specs.History.{call_head}
use Rattle.replay.specs.declared.progress.Progress.{Progress}
use Rattle.replay.specs.Readers.{Reader, next_call}
use Rattle.replay.specs.Working.Reading.{IsAt, called_at, call_in}
use Rattle.replay.specs.Wanted.{next_head}
use Rattle.replay.proofs.Scripts.{scheduled_at, next_call_in}

module _ (format : Format) (program : Typed) (at : Progress) (reader : Reader) (is : IsAt program at reader) (t : ℕ) where
  counted : (found : Option Call) → call_in program t (called_at at.seats t) ≡ found →
      next_call program reader.order t ≡ option_map (scheduled_at t (called_at at.seats t)) found
  counted found here =
      next_call_in program reader.order t
      ∙ ap (λ n. option_map (scheduled_at t n) (call_in program t n)) (sym (is.seats.called t))
      ∙ ap (option_map (scheduled_at t (called_at at.seats t))) here

  pub no_next : call_in program t (called_at at.seats t) ≡ None → next_head format program reader.order t ≡ []
  no_next here =
      ap (λ found. option_map_or (λ (call : Scheduled). call_head format program call (length reader.order) ∷ []) found []) (counted None here)

  pub some_next : (call : Call) → call_in program t (called_at at.seats t) ≡ Some call →
      next_head format program reader.order t ≡ call_head format program (scheduled_at t (called_at at.seats t) call) at.position ∷ []
  some_next call here =
      ap (λ found. option_map_or (λ (s : Scheduled). call_head format program s (length reader.order) ∷ []) found []) (counted (Some call) here)
      ∙ ap (λ n. call_head format program (scheduled_at t (called_at at.seats t) call) n ∷ []) (sym is.position)
