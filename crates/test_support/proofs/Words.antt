-- The request that each word stands for, and the paragraph that begins with such words.
use Rattle.std.proofs.Common.{◌≡◌, ◌++◌, ℕ, List, Option, Some, None, true, false, [], ◌∷◌, rules}
use Rattle.std.specs.Prelude.{◌↔◌, ◌⊎◌, codes}
use Rattle.std.specs.Borrow.{Bor}
use lib.Pointwise.{pointwise}
use lib.Dec.{eqb}
use Rattle.test_support.specs.Asking.{IsSerial, IsSimulate, looking}
use Rattle.test_support.specs.Paragraphs.{IsCase, HasNoWant}
use Rattle.test_support.specs.declared.asked.Asked.{Asked}
use Rattle.test_support.specs.declared.asked.Asked.TheVariants.{Engine, Tokens, Tree, Print, Again, Paths, Points, Order}
use Rattle.test_support.specs.declared.paragraph.Paragraph.{Paragraph}
use Rattle.test_support.specs.declared.paragraph.Paragraph.TheVariants.{Note, Ask, Head, Case, Unreadable}
use Rattle.test_support.specs.declared.asked.Engine.TheVariants.{Check, Report, Graph, Simulate}
use Rattle.driver_words.specs.declared.line.Report.TheVariants as report

-- what `Asked::named` promises of a word and its answer
abbrev pub Named : List ℕ → Option Asked → Type 0
Named word result = record {
  check : (result ≡ Some (Engine Check)) ↔ (word ≡ codes "check");
  lists : (result ≡ Some (Engine (Report (report.Check false)))) ↔ (word ≡ codes "lists");
  graph : (result ≡ Some (Engine Graph)) ↔ (word ≡ codes "graph");
  listing : (result ≡ Some (Engine (Report (report.Listing false)))) ↔ (word ≡ codes "listing");
  places : (result ≡ Some (Engine (Report (report.Listing true)))) ↔ (word ≡ codes "places");
  serial : (turns : ℕ) → (result ≡ Some (Engine (Report (report.Serial turns false)))) ↔ IsSerial word turns;
  outcomes : (result ≡ Some (Engine (Report (report.Outcomes looking)))) ↔ (word ≡ codes "outcomes");
  simulate : (steps : Bor (List ℕ)) → result ≡ Some (Engine (Simulate steps)) → IsSimulate word steps.now;
  steps : (s : List ℕ) → IsSimulate word s → (steps : Bor (List ℕ)) × (result ≡ Some (Engine (Simulate steps)));
  tokens : (result ≡ Some Tokens) ↔ (word ≡ codes "tokens");
  tree : (result ≡ Some Tree) ↔ (word ≡ codes "tree");
  print : (result ≡ Some Print) ↔ (word ≡ codes "print");
  again : (result ≡ Some Again) ↔ (word ≡ codes "again");
  paths : (result ≡ Some Paths) ↔ (word ≡ codes "paths");
  points : (result ≡ Some Points) ↔ (word ≡ codes "points");
  order : (result ≡ Some Order) ↔ (word ≡ codes "order");
}

pub named_check : Named (codes "check") (Some (Engine Check))
named_check = search rules

pub named_lists : Named (codes "lists") (Some (Engine (Report (report.Check false))))
named_lists = search rules

pub named_graph : Named (codes "graph") (Some (Engine Graph))
named_graph = search rules

pub named_outcomes : Named (codes "outcomes") (Some (Engine (Report (report.Outcomes looking))))
named_outcomes = search rules

pub named_listing : Named (codes "listing") (Some (Engine (Report (report.Listing false))))
named_listing = search rules

pub named_places : Named (codes "places") (Some (Engine (Report (report.Listing true))))
named_places = search rules

pub named_tokens : Named (codes "tokens") (Some Tokens)
named_tokens = search rules

pub named_tree : Named (codes "tree") (Some Tree)
named_tree = search rules

pub named_print : Named (codes "print") (Some Print)
named_print = search rules

pub named_again : Named (codes "again") (Some Again)
named_again = search rules

pub named_paths : Named (codes "paths") (Some Paths)
named_paths = search rules

pub named_points : Named (codes "points") (Some Points)
named_points = search rules

pub named_order : Named (codes "order") (Some Order)
named_order = search rules

pub named_simulate : (steps : Bor (List ℕ)) → Named (codes "simulate " ++ steps.now) (Some (Engine (Simulate steps)))
named_simulate steps = search rules

-- what `read_paragraph` promises of a paragraph and its answer
abbrev pub IsRead : List ℕ → Paragraph → Type 0
IsRead paragraph result = record {
  note : (result ≡ Note) ↔ ((rest : List ℕ) × (paragraph ≡ 35 ∷ rest));
  check : (result ≡ Ask (Engine Check)) ↔ (paragraph ≡ codes "@ask check");
  tree : (result ≡ Ask Tree) ↔ (paragraph ≡ codes "@ask tree");
  print : (result ≡ Ask Print) ↔ (paragraph ≡ codes "@ask print");
  again : (result ≡ Ask Again) ↔ (paragraph ≡ codes "@ask again");
  head : (text : Bor (List ℕ)) → result ≡ Head (Some text) → paragraph ≡ codes "@head\n" ++ text.now;
  headed : (s : List ℕ) → paragraph ≡ codes "@head\n" ++ s → (text : Bor (List ℕ)) × (result ≡ Head (Some text));
  case : (text want : Bor (List ℕ)) → result ≡ Case text want → IsCase paragraph text.now want.now;
  headless : (result ≡ Head None) ↔ (paragraph ≡ codes "@head");
  unreadable : result ≡ Unreadable → HasNoWant paragraph ⊎ ((word : List ℕ) × (paragraph ≡ codes "@ask " ++ word));
}

pub asked_read : (word : List ℕ) (asked : Asked) → Named word (Some asked) → IsRead (codes "@ask " ++ word) (Ask asked)
asked_read word asked named = search rules

pub nothing_asked : (word : List ℕ) → Named word None → IsRead (codes "@ask " ++ word) Unreadable
nothing_asked word named = search rules

pub head_read : (text : Bor (List ℕ)) → IsRead (codes "@head\n" ++ text.now) (Head (Some text))
head_read text = search rules

pub want_read : (text want : Bor (List ℕ)) → text.now ≡ [] → IsRead (codes "=> " ++ want.now) (Case text want)
want_read text want none = search rules

pub headless_read : (paragraph : List ℕ) → true ≡ pointwise eqb paragraph (codes "@head") → IsRead paragraph (Head None)
headless_read paragraph same = search rules
