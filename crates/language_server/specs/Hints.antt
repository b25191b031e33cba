-- The hints of a text, as the protocol's JSON.
use Rattle.std.specs.Prelude.{◌≡◌, ℕ, Bool, true, ◌&&◌, nat_le, List, codes, map}
use Rattle.std.specs.List.{filter}
use Rattle.serde_json.specs.Data.{Data, array, boolean, no_items, number, object, string, unsigned, member, no_members}
use Rattle.serde_json.specs.View.{items_of}
use Rattle.source.specs.declared.fault.Fault.{Fault}
use Rattle.compiler.specs.Programs.{Accepts, IsOfFirstPass}
use Rattle.lowering.specs.Plans.{Plan, IsCompiled}
use Rattle.lsp_texts.specs.Positions.{position_of}
use Rattle.lsp_texts.specs.declared.walking.Position.{Position}
use Rattle.lsp_texts.specs.Ranges.{place_data}
use Rattle.language_server.specs.Takes.{Take, takes_of, in_order}

-- {"kind":2,"label":LABEL,"paddingRight":true,"position":PLACE}: 2 is the protocol's kind of what stands before
-- an argument
abbrev pub hint_at : Position → List ℕ → Data
hint_at place label =
    object (member (codes "kind") (number (unsigned 2)) (member (codes "label") (string label)
    (member (codes "paddingRight") (boolean true) (member (codes "position") (place_data place) no_members))))

-- the hint of a take: its label at the position of its start
abbrev pub hint_data : List ℕ → Take → Data
hint_data text take = hint_at (position_of text take.start) take.label

-- a place in these lines, both ends included
abbrev pub is_within : ℕ → ℕ → Position → Bool
is_within first last place = nat_le first place.line && nat_le place.line last

-- the take starts in these lines, both ends included
abbrev pub is_asked : List ℕ → ℕ → ℕ → Take → Bool
is_asked text first last take = is_within first last (position_of text take.start)

-- the hints of the takes that start in these lines
abbrev pub hints_data : List ℕ → ℕ → ℕ → List Take → Data
hints_data text first last takes = array (items_of (map (hint_data text) (filter (is_asked text first last) takes)))

-- the text is accepted, and these are the hints of its program in these lines; or it has a fault, and the list is empty
pub data AreHintsOf (text : List ℕ) (first last : ℕ) (told : Data) : Type 0 where
  accepted : (plan : Plan) → Accepts text plan.accepted → IsCompiled plan →
      told ≡ hints_data text first last (in_order (takes_of plan)) → AreHintsOf text first last told
  refused : (fault : Fault) → IsOfFirstPass text fault → told ≡ array no_items → AreHintsOf text first last told
