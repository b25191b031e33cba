use Rattle.explanation_names.proofs.search.NameSearch.in_place.Goals as goal

pub returns-in-Name : goal.returns-in-Name
returns-in-Name c = rw c.in-Name.is (c.of_kind.ensures)

pub returns-in-Element : goal.returns-in-Element
returns-in-Element c = rw c.in-Element.is ((rw c.deref.ensures at c.in_element.ensures))

pub returns-in-Path : goal.returns-in-Path
returns-in-Path c = rw c.in-Path.is ((rw c.deref-in-Path.ensures at c.in_path.ensures))
