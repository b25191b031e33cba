-- An answer that is a page. It mirrors the code: nobody has to believe it.
use Rattle.std.specs.Prelude.{◌≡◌, ℕ, List, [], string_bytes}
use Rattle.rope.specs.Working.Ropes.{rope_text}
use Rattle.driver.specs.declared.answer.Answer.{Answer}
use Rattle.driver.specs.declared.status.Status.TheVariants.{Done}

abbrev pub IsPage : List ℕ → Answer → Type 0
IsPage page answer = (answer.status ≡ Done) × (rope_text answer.out ≡ page) × (string_bytes answer.err ≡ [])
