-- The report on the cases of a file, and on why a file could not be judged.
use Rattle.std.specs.Prelude.{◌≡◌, ℕ, List, ◌++◌, codes, string_bytes}
use Rattle.std.specs.Fmt.{decimal}
use Rattle.test_support.specs.declared.ending.CutShort.{CutShort}
use Rattle.test_support.specs.declared.ending.CutShort.TheVariants.{Failed, OutOfMemory}
use Rattle.test_support.specs.declared.tally.Tally.{Tally}

-- The report on a case that is not as expected: its file's name, its text, the answer and the expected one.
unfoldable pub case_text : List ℕ → List ℕ → List ℕ → List ℕ → List ℕ
case_text file text said want = file ++ codes ":\n" ++ text ++ codes "\nsaid: " ++ said ++ codes "\nwanted: " ++ want ++ codes "\n\n"

-- The report on a whole file: the number of its cases, and the number of those that are not as expected.
unfoldable pub totals_text : List ℕ → ℕ → ℕ → List ℕ
totals_text file cases wrong = file ++ codes ": " ++ decimal cases ++ codes " cases, " ++ decimal wrong ++ codes " not as wanted\n"

-- The report has this text added at its end.
abbrev pub IsTold : Tally → Tally → List ℕ → Type 0
IsTold before after text = string_bytes after.report ≡ string_bytes before.report ++ text

unfoldable pub stop_text : CutShort → List ℕ
stop_text Failed = codes "cannot read it, or write what came of it"
stop_text OutOfMemory = codes "no memory"
